-- What translations promise, as laws on calls that do nothing: an encoded problem is well formed,
-- only marked symbols occur in it, and its names can be written where the normal problem's can.
use Rattle.std.specs.Prelude.{ℕ, ◌<◌, ◌≤◌, ◌≡◌, length, take, IsTrue}
use Rattle.std.specs.List.{AllByRecursion}
use Rattle.enc_base.specs.Names.{IsWritable}
use Rattle.tf_core.specs.declared.ty.Ty.{Ty}
use Rattle.tf_core.specs.declared.signature.Constructor.{Constructor}
use Rattle.tf_core.specs.declared.signature.Symbol.{Symbol}
use Rattle.tf_core.specs.declared.normal.NormalFormula.{NormalFormula}
use Rattle.tf_core.specs.declared.normal.Normal.{Normal}
use Rattle.tf_core.specs.Sound.{is_monomorphic, IsSoundNormal}
use Rattle.tf_core.specs.Typing.{IsType, IsNormal}
use Rattle.fof_models.specs.declared.problem.FofSymbol.{FofSymbol}
use Rattle.fof_models.specs.declared.problem.FofFormula.{FofFormula}
use Rattle.fof_models.specs.declared.problem.FofProblem.{FofProblem}
use Rattle.fof_models.specs.Sound.{IsSound}
use Rattle.tf_naked.specs.declared.position.Position.{Position}
use Rattle.tf_naked.specs.declared.position.Kind.{Kind}
use Rattle.enc_marks.specs.declared.choices.Marking.TheVariants.{ByType, BySort}
use Rattle.enc_marks.specs.declared.choices.Binding.TheVariants.{ByTag}
use Rattle.enc_marks.specs.declared.scheme.Scheme.{Scheme}
use Rattle.enc_marks.specs.Choices.{Choices}
use Rattle.enc_marks.specs.Schemes.{guards, tags, guards_cover, tags_cover, args, choices_of}
use Rattle.enc_marks.specs.Applies.{Applies}
use Rattle.enc_marks.specs.Translation.{type_term}
use Rattle.enc_marks.specs.Occurrence.{count_below, occurs_in_term, renumber_term}
use Rattle.enc_marks.specs.Marks.{constructor_number}
use Rattle.enc_marks.specs.Names.{first_fresh}
use Rattle.enc_marks.specs.Encoded.{all_numbers, all_marks, translation, is_present, encoded}

-- The choices fit a normal problem. Of each symbol they say of no more type arguments than it has
-- whether these are written; only where types are bound by tags has a term its tag; and only where
-- neither symbols nor formulas have type variables has each sort a guard or tag of its own.
pub record Fit (c : Choices) (normal : Normal) : Type 0 where
  pub keeps : (symbol : Symbol) → length (c.keeps symbol) ≤ symbol.parameters
  pub tags : (position : Position) (kind : Kind) (ty : Ty) → IsTrue (c.tagged position kind ty) →
      c.binding ≡ ByTag
  pub monomorphic : c.marking ≡ BySort → IsTrue (is_monomorphic normal)

-- Choices with one guard or tag for all types fit each problem.
pub record IsByType (c : Choices) : Type 0 where
  pub marking : c.marking ≡ ByType
  pub keeps : (symbol : Symbol) → length (c.keeps symbol) ≤ symbol.parameters
  pub tags : (position : Position) (kind : Kind) (ty : Ty) → IsTrue (c.tagged position kind ty) →
      c.binding ≡ ByTag

-- the schemes whose choices are such
pub record TypeSchemesAreByType : Type 0 where
  pub guards_are : IsByType guards
  pub tags_are : IsByType tags
  pub guards_cover_are : IsByType guards_cover
  pub tags_cover_are : IsByType tags_cover
  pub args_are : IsByType args

-- A scheme's choices fit each problem that it applies to, and choices by type each problem.
pub record SchemesFit : Type 0 where
  pub schemes : (scheme : Scheme) (normal : Normal) → Applies scheme normal →
      Fit (choices_of scheme normal) normal
  pub by_type : (c : Choices) (normal : Normal) → IsByType c → Fit c normal

-- An encoded problem is well formed and within the bounds of counting where the normal problem is.
abbrev pub TranslationsAreWellFormed : Type 0
TranslationsAreWellFormed = (c : Choices) (normal : Normal) → Fit c normal →
    IsSoundNormal normal → IsSound (encoded c normal).problem

-- each symbol that occurs in a translation is a marked one
abbrev pub OnlyMarkedSymbolsOccur : Type 0
OnlyMarkedSymbolsOccur = (c : Choices) (normal : Normal) → Fit c normal → IsNormal normal →
    (m : ℕ) → IsTrue (is_present (translation c normal) m) → m < length (all_marks c normal)

-- ---- numbers

-- A constructor that occurs has the number that its mark tells: so many marked symbols that occur
-- stand before it.
abbrev pub ConstructorsHaveNumbers : Type 0
ConstructorsHaveNumbers = (c : Choices) (normal : Normal) (i : ℕ) →
    i < length normal.signature.constructors →
    let number = (all_numbers normal).constructor i in
    let present = is_present (translation c normal) in
    IsTrue (present number) →
    constructor_number (encoded c normal).marks i ≡ count_below number present

-- A type of which all constructors occur is, as a term by the marks, what its term in the
-- translation is under the numbers of the symbols that occur.
abbrev pub TypesHaveTheirTerms : Type 0
TypesHaveTheirTerms = (c : Choices) (normal : Normal) (variables depth : ℕ) (ty : Ty) →
    IsType normal.signature variables ty →
    let translated = type_term (all_numbers normal).constructor depth ty in
    let present = is_present (translation c normal) in
    ((m : ℕ) → IsTrue (occurs_in_term m translated) → IsTrue (present m)) →
    renumber_term (λ m. count_below m present) translated
    ≡ type_term (constructor_number (encoded c normal).marks) depth ty

-- ---- names

-- The names of a normal problem can be written; those of fresh constructors are not used.
pub record HasWritableNames (normal : Normal) : Type 0 where
  pub constructors : AllByRecursion (λ (constructor : Constructor). IsWritable constructor.name)
      (take (first_fresh normal) normal.signature.constructors)
  pub symbols :
      AllByRecursion (λ (symbol : Symbol). IsWritable symbol.name) normal.signature.symbols
  pub formulas :
      AllByRecursion (λ (formula : NormalFormula). IsWritable formula.name) normal.formulas

-- the names that an untyped problem's symbols want, and those of its formulas, can be written
pub record CanBeNamed (problem : FofProblem) : Type 0 where
  pub symbols : AllByRecursion (λ (symbol : FofSymbol). IsWritable symbol.wanted) problem.signature
  pub formulas :
      AllByRecursion (λ (formula : FofFormula). IsWritable formula.name) problem.formulas

-- the names of an encoded problem can be written
abbrev pub TranslationsCanBeNamed : Type 0
TranslationsCanBeNamed = (c : Choices) (normal : Normal) → IsSoundNormal normal →
    HasWritableNames normal → CanBeNamed (encoded c normal).problem
