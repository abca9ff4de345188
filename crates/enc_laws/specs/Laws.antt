-- What the schemes promise.
use Rattle.std.specs.Prelude.{ℕ, ◌≡◌, ◌↔◌, Bool, List, map, length, IsTrue}
use Rattle.std.specs.List.{AllByRecursion}
use Rattle.tf_core.specs.declared.ty.Ty.{Ty}
use Rattle.tf_core.specs.declared.nnf.Nnf.{Nnf}
use Rattle.tf_core.specs.declared.signature.Signature.{Signature}
use Rattle.tf_core.specs.declared.normal.Normal.{Normal}
use Rattle.tf_core.specs.Sorts.{sorts}
use Rattle.tf_core.specs.Typing.{IsSignature, IsNnf, IsNormal}
use Rattle.tf_core.specs.Structures.{Typed, IsStructure}
use Rattle.tf_core.specs.Truth.{normal_truth}
use Rattle.tf_core.specs.Models.{IsNormalSatisfied, IsNormalModel}
use Rattle.fof_models.specs.declared.problem.FofFormula.{FofFormula}
use Rattle.fof_models.specs.declared.structure.Structure.{Structure}
use Rattle.fof_models.specs.Structures.{Untyped, reading}
use Rattle.fof_models.specs.Truth.{truth}
use Rattle.fof_models.specs.Models.{AreSatisfied, IsModel, AreModel}
use Rattle.tf_naked.specs.declared.position.Position.{Position}
use Rattle.tf_naked.specs.declared.position.Kind.{Kind}
use Rattle.tf_naked.specs.Standing.{stands}
use Rattle.enc_marks.specs.declared.choices.Marking.TheVariants.{ByType}
use Rattle.enc_marks.specs.declared.choices.Domain.TheVariants.{Merged}
use Rattle.enc_marks.specs.declared.scheme.Scheme.{Scheme}
use Rattle.enc_marks.specs.Choices.{Choices}
use Rattle.enc_marks.specs.Translation.{Numbers, formula}
use Rattle.enc_marks.specs.Encoded.{all_numbers, translation, is_present, renumbered, all_marks}
use Rattle.enc_marks.specs.Encoded.{encoded}
use Rattle.enc_marks.specs.Occurrence.{count_below}
use Rattle.enc_marks.specs.Schemes.{choices_of}
use Rattle.enc_laws.specs.Relations.{Relations}
use Rattle.enc_laws.specs.Corresponds.{Corresponds, Reads}
use Rattle.enc_laws.specs.Directions.{Forward, Backward, NumbersAreRead}
use Rattle.enc_laws.specs.ForwardAxioms.{ForwardAxioms}
use Rattle.enc_laws.specs.MergedStructure.{merged}
use Rattle.enc_laws.specs.Collapses.{Collapses, CollapsesAll}
use Rattle.enc_laws.specs.Lifted.{lifted, lift_by_type, lift_by}
use Rattle.enc_laws.specs.Present.{over_present, over_all, is_tag, all_present}
use Rattle.enc_laws.specs.Total.{IsTotal}

-- Relations that are given as tests, and what they say.
pub record Tests : Type 0 where
  pub strict : Position → Bool
  pub good : Ty → Bool
  pub member : ℕ → ℕ → Bool
  pub reads : ℕ → ℕ → ℕ → Bool
  pub exact : ℕ → ℕ → ℕ → Bool
  pub applied : ℕ → ℕ → ℕ → Bool
  pub placed : ℕ → ℕ → ℕ → Bool

abbrev pub says : Tests → Relations
says tests = record {
  strict = tests.strict;
  good = λ ty. IsTrue (tests.good ty);
  member = λ v m. IsTrue (tests.member v m);
  reads = λ v m e. IsTrue (tests.reads v m e);
  exact = λ v m e. IsTrue (tests.exact v m e);
  applied = λ v m e. IsTrue (tests.applied v m e);
  placed = λ v m e. IsTrue (tests.placed v m e);
}

-- what a formula says of the typed structure its translation says of the untyped one
abbrev pub TruthGoesForward : Type 0
TruthGoesForward = (c : Choices) (k : Numbers) (g : Signature) (s : Typed) (j : Untyped)
    (tests : Tests) (ok : Nnf → Bool) → IsSignature g → Corresponds c k g s j (says tests) →
    Forward c k g s j (says tests) (λ p. IsTrue (ok p)) →
    (variables depth : ℕ) (context : List Ty) (kinds : List Kind)
    (members elements assignment : List ℕ) (p : Nnf) → IsNnf g variables context p →
    IsTrue (ok p) →
    Reads c k g s j (says tests) variables depth context kinds members elements assignment
    (λ test i. stands g test p i) →
    IsTrue (normal_truth s members p elements) →
    IsTrue (truth j (formula c k g p depth kinds) assignment)

-- what a formula's translation says of the untyped structure the formula says of the typed one
abbrev pub TruthGoesBack : Type 0
TruthGoesBack = (c : Choices) (k : Numbers) (g : Signature) (s : Typed) (j : Untyped)
    (tests : Tests) (ok : Nnf → Bool) → IsSignature g → Corresponds c k g s j (says tests) →
    Backward c k g s j (says tests) (λ p. IsTrue (ok p)) →
    (variables depth : ℕ) (context : List Ty) (kinds : List Kind)
    (members elements assignment : List ℕ) (p : Nnf) → IsNnf g variables context p →
    IsTrue (ok p) →
    Reads c k g s j (says tests) variables depth context kinds members elements assignment
    (λ test i. stands g test p i) →
    IsTrue (truth j (formula c k g p depth kinds) assignment) →
    IsTrue (normal_truth s members p elements)

-- a model of a normal problem is, read in an untyped structure, a model of its translation
abbrev pub ProblemsGoForward : Type 0
ProblemsGoForward = (c : Choices) (normal : Normal) (s : Typed) (j : Untyped) (tests : Tests)
    (ok : Nnf → Bool) → IsNormal normal →
    Corresponds c (all_numbers normal) normal.signature s j (says tests) →
    ForwardAxioms c (all_numbers normal) normal.signature s j (says tests) →
    Forward c (all_numbers normal) normal.signature s j (says tests) (λ p. IsTrue (ok p)) →
    AllByRecursion (λ formula. IsTrue (ok formula.body)) normal.formulas →
    AllByRecursion (λ ty. IsTrue (tests.good ty)) (sorts normal) →
    AllByRecursion (IsNormalSatisfied s) normal.formulas → AreSatisfied j (translation c normal)

-- an untyped model of a translation is, where it is read as a typed structure, a model of the
-- normal problem
abbrev pub ProblemsGoBack : Type 0
ProblemsGoBack = (c : Choices) (normal : Normal) (s : Typed) (j : Untyped) (tests : Tests)
    (ok : Nnf → Bool) → IsNormal normal →
    Corresponds c (all_numbers normal) normal.signature s j (says tests) →
    Backward c (all_numbers normal) normal.signature s j (says tests) (λ p. IsTrue (ok p)) →
    NumbersAreRead c (all_numbers normal) normal.signature s j (says tests) →
    AllByRecursion (λ formula. IsTrue (ok formula.body)) normal.formulas →
    AreSatisfied j (translation c normal) → AllByRecursion (IsNormalSatisfied s) normal.formulas

-- Formulas are as true under the numbers of the symbols that occur as under those of all marked
-- symbols, where the structures agree on the symbols that occur.
abbrev pub OnlyPresentSymbolsCount : Type 0
OnlyPresentSymbolsCount = (i j : Untyped) (formulas : List FofFormula) → i.size ≡ j.size →
    ((m : ℕ) → IsTrue (is_present formulas m) → (values : List ℕ) →
    i.symbol_at (count_below m (is_present formulas)) values ≡ j.symbol_at m values) →
    (AreSatisfied i (map (renumbered (is_present formulas)) formulas) ↔ AreSatisfied j formulas)

-- A model of a normal problem gives the merged structure, in which its translation is true: under
-- each scheme whose domain is the merged one.
abbrev pub MergedIsModel : Type 0
MergedIsModel = (which : Scheme) (normal : Normal) (s : Typed) →
    (choices_of which normal).domain ≡ Merged → IsNormal normal → IsNormalModel normal s →
    AreSatisfied (merged (choices_of which normal) normal.signature s)
    (translation (choices_of which normal) normal)

-- A model of a normal problem gives, where an untyped structure stands for it over the collapsed
-- domain, a model of its translation.
abbrev pub CollapsedIsModel : Type 0
CollapsedIsModel = (c : Choices) (normal : Normal) (s : Typed) (j : Untyped)
    (member : ℕ → ℕ → Bool) (good : Ty → Bool) (ok : Nnf → Bool) → IsNormal normal →
    IsNormalModel normal s →
    Collapses c (all_numbers normal) normal.signature s j (λ v m. IsTrue (member v m))
    (λ ty. IsTrue (good ty)) (λ p. IsTrue (ok p)) →
    CollapsesAll c (all_numbers normal) normal.signature s j (λ v m. IsTrue (member v m))
    (λ ty. IsTrue (good ty)) →
    AllByRecursion (λ formula. IsTrue (ok formula.body)) normal.formulas →
    AllByRecursion (λ ty. IsTrue (good ty)) (sorts normal) → AreSatisfied j (translation c normal)

-- Each model of a normal problem gives a model of the encoded problem, which is well formed: the
-- merged structure, over the marked symbols that occur.
abbrev pub ModelsAreEncoded : Type 0
ModelsAreEncoded = (which : Scheme) (normal : Normal) (s : Typed) →
    (choices_of which normal).domain ≡ Merged → IsNormal normal → IsNormalModel normal s →
    IsModel (encoded (choices_of which normal) normal).problem
    (over_present (is_present (translation (choices_of which normal) normal))
    (length (all_marks (choices_of which normal) normal))
    (merged (choices_of which normal) normal.signature s))

-- An untyped structure over all marked symbols, in which a translation is true, gives the lifted
-- structure, which is a model of the normal problem: under each scheme whose marks have the type as
-- an argument.
abbrev pub LiftedIsModel : Type 0
LiftedIsModel = (which : Scheme) (normal : Normal) (j : Untyped) →
    (choices_of which normal).marking ≡ ByType → IsNormal normal →
    IsTotal (choices_of which normal) normal j →
    AreSatisfied j (translation (choices_of which normal) normal) →
    IsNormalModel normal
    (lifted (choices_of which normal) (all_numbers normal) normal.signature all_present j
    (lift_by_type (choices_of which normal) (all_numbers normal) j))

-- The typed structure that an untyped one over the marked symbols that occur is lifted to.
abbrev pub lifted_of : Choices → Normal → Untyped → Typed
lifted_of c normal i =
    lifted c (all_numbers normal) normal.signature (is_present (translation c normal))
    (over_all (is_present (translation c normal)) (is_tag c normal) i)
    (lift_by c.marking c normal (all_numbers normal)
    (over_all (is_present (translation c normal)) (is_tag c normal) i))

-- Each finite model of the problem that such a scheme makes gives a model of the normal problem.
abbrev pub TablesAreLifted : Type 0
TablesAreLifted = (which : Scheme) (normal : Normal) (s : Structure) →
    (choices_of which normal).marking ≡ ByType → IsNormal normal →
    AreModel (encoded (choices_of which normal) normal).problem s →
    IsNormalModel normal (lifted_of (choices_of which normal) normal (reading s))
