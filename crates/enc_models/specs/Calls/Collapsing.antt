-- Words of private contracts: what the values of a collapsed structure rest on, and what they are.
use Rattle.std.specs.Prelude.{ℕ, ◌<◌, ◌+◌, ◌≡◌, List, map, length, min, replicate, slice_get, Some, IsTrue}
use Rattle.enc_base.specs.Tables.{EachBelow}
use Rattle.tf_core.specs.declared.signature.Constructor.{Constructor}
use Rattle.tf_core.specs.declared.signature.Symbol.{Symbol}
use Rattle.tf_core.specs.declared.signature.Signature.{Signature}
use Rattle.tf_core.specs.declared.normal.Normal.{Normal}
use Rattle.tf_core.specs.Sorts.{sorts}
use Rattle.tf_core.specs.Structures.{Typed}
use Rattle.tf_core.specs.TypedTables.{TypedTables, reading}
use Rattle.tf_models.specs.declared.structure.TypedStructure.{TypedStructure}
use Rattle.tf_models.specs.Reading.{tables}
use Rattle.tf_models.specs.Evaluation.{IsReady}
use Rattle.fof_models.specs.Structures.{Untyped}
use Rattle.tf_collapse.specs.Domain.{CollapsedDomain}
use Rattle.enc_marks.specs.declared.mark.Mark.TheVariants as mark
use Rattle.enc_marks.specs.declared.encoded.Encoded.{Encoded}
use Rattle.enc_marks.specs.declared.choices.Marking.TheVariants.{ByType, BySort}
use Rattle.enc_marks.specs.Choices.{Choices}
use Rattle.enc_marks.specs.Encoded.{all_marks, encoded, is_present, translation}
use Rattle.enc_laws.specs.CollapsedStructure.{collapsed, collapsed_size, sort_size}
use Rattle.enc_laws.specs.MergedStructure.{kept_count}
use Rattle.enc_laws.specs.Present.{over_present}
use Rattle.enc_models.specs.declared.blocks.Block.{Block}
use Rattle.enc_models.specs.declared.collapsing.Collapsing.{Collapsing}
use Rattle.enc_models.specs.Calls.Blocks.{AreBlocksOf}

-- what a collapsed structure is made of
pub record Parts : Type 0 where
  pub choices : Choices
  pub normal : Normal
  pub encoded : Encoded
  pub model : TypedStructure
  pub domain : CollapsedDomain
  pub sort_sizes : List ℕ
  pub blocks : List (List Block)

abbrev pub parts_of : {A : Type 0} → (A → Choices) → Collapsing A → Parts
parts_of choices m = record {
  choices = choices m.choices.now;
  normal = m.normal.now;
  encoded = m.encoded.now;
  model = m.model.now;
  domain = m.domain.now;
  sort_sizes = m.sort_sizes.now;
  blocks = m.blocks.now;
}

abbrev pub signature_in : Parts → Signature
signature_in m = m.normal.signature

abbrev pub tables_in : Parts → TypedTables
tables_in m = tables m.model

abbrev pub typed_in : Parts → Typed
typed_in m = reading (signature_in m) (tables_in m)

-- how many numbers the domain has
abbrev pub size_in : Parts → ℕ
size_in m = collapsed_size m.choices.marking m.normal (typed_in m)

-- over all marked symbols, and over those that occur

abbrev pub collapsed_in : Parts → Untyped
collapsed_in m = collapsed m.choices m.normal (typed_in m)

abbrev pub structure_in : Parts → Untyped
structure_in m =
    over_present (is_present (translation m.choices m.normal))
    (length (all_marks m.choices m.normal)) (collapsed_in m)

-- no guard and no tag occurs in a translation
abbrev pub IsUnmarked : Choices → Normal → Type 0
IsUnmarked c normal =
    (number : ℕ) → IsTrue (is_present (translation c normal) number) →
    number < length normal.signature.symbols + length normal.signature.constructors

-- the collapsed domain of typed tables: so many numbers, with which no member has more elements
abbrev pub domain_of : ℕ → List ℕ → CollapsedDomain
domain_of size sizes = record { big = size; sizes = map (λ own. min own size) sizes }

-- The tables are well formed, the problem is that of the choices, and the domain, the sizes of the
-- sorts and the blocks are those of the tables. Each type argument of a symbol is written, and where
-- all types share a mark, it doesn't occur.
pub record IsCollapsing (m : Parts) : Type 0 where
  pub ready : IsReady (signature_in m) m.model
  pub some : 0 < size_in m
  pub unmarked : m.choices.marking ≡ ByType → IsUnmarked m.choices m.normal
  pub kept : (f : ℕ) (symbol : Symbol) → slice_get (signature_in m).symbols f ≡ Some symbol →
      kept_count m.choices symbol ≡ symbol.parameters
  pub encoded_is : m.encoded ≡ encoded m.choices m.normal
  pub domain_is : m.domain ≡ domain_of (size_in m) m.model.sizes
  pub sizes_are : m.choices.marking ≡ BySort →
      m.sort_sizes ≡ map (sort_size (typed_in m)) (sorts m.normal)
  pub blocks : AreBlocksOf (signature_in m) m.model m.encoded.marks m.blocks

-- so many numbers of the domain
abbrev pub AreNumbers : Parts → ℕ → List ℕ → Type 0
AreNumbers m count values = EachBelow (replicate count (size_in m)) values

-- a mark stands for a symbol of the signature
pub record StandsForSymbol (m : Parts) (at f : ℕ) (symbol : Symbol) : Type 0 where
  pub mark_at : slice_get m.encoded.marks at ≡ Some (mark.Symbol f)
  pub symbol_at : slice_get (signature_in m).symbols f ≡ Some symbol

-- and there is a number for each of its type arguments and arguments
pub record IsSymbolFor (m : Parts) (at f : ℕ) (values : List ℕ) : Type 0 where
  pub symbol : Symbol
  pub marked : StandsForSymbol m at f symbol
  pub below : AreNumbers m (symbol.parameters + length symbol.arguments) values

-- a constructor of the signature, and a number for each of its arguments
pub record IsConstructorFor (m : Parts) (c : ℕ) (values : List ℕ) : Type 0 where
  pub constructor : Constructor
  pub at : slice_get (signature_in m).constructors c ≡ Some constructor
  pub below : AreNumbers m constructor.arity values
