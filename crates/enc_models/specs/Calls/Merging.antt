-- Words of private contracts: what the values of a merged structure rest on, and what they are.
use Rattle.std.specs.Prelude.{ℕ, ◌+◌, ◌≡◌, List, map, length, replicate, slice_get, Some}
use Rattle.enc_base.specs.Tables.{EachBelow}
use Rattle.tf_core.specs.declared.signature.Constructor.{Constructor}
use Rattle.tf_core.specs.declared.signature.Symbol.{Symbol}
use Rattle.tf_core.specs.declared.signature.Signature.{Signature}
use Rattle.tf_core.specs.declared.normal.Normal.{Normal}
use Rattle.tf_core.specs.Structures.{Typed}
use Rattle.tf_core.specs.TypedTables.{TypedTables, reading}
use Rattle.tf_models.specs.declared.structure.TypedStructure.{TypedStructure}
use Rattle.tf_models.specs.Reading.{tables}
use Rattle.tf_models.specs.Evaluation.{IsReady}
use Rattle.fof_models.specs.Structures.{Untyped}
use Rattle.tf_stamp.specs.Merged.{merged_size, member_in}
use Rattle.enc_marks.specs.declared.mark.Mark.TheVariants as mark
use Rattle.enc_marks.specs.declared.encoded.Encoded.{Encoded}
use Rattle.enc_marks.specs.declared.choices.Marking.TheVariants.{ByType}
use Rattle.enc_marks.specs.Choices.{Choices}
use Rattle.enc_marks.specs.Encoded.{all_marks, encoded, is_present, translation}
use Rattle.enc_laws.specs.MergedStructure.{merged, kept_count}
use Rattle.enc_laws.specs.Present.{over_present}
use Rattle.enc_models.specs.declared.blocks.Block.{Block}
use Rattle.enc_models.specs.declared.merging.Merging.{Merging}
use Rattle.enc_models.specs.Calls.Sources.{AreKeptTypes, sources}
use Rattle.enc_models.specs.Calls.Blocks.{AreBlocksOf}

-- what a merged structure is made of
pub record Parts : Type 0 where
  pub choices : Choices
  pub normal : Normal
  pub encoded : Encoded
  pub model : TypedStructure
  pub stamped : List ℕ
  pub sources : List (List ℕ)
  pub blocks : List (List Block)

abbrev pub parts_of : {A : Type 0} → (A → Choices) → Merging A → Parts
parts_of choices m = record {
  choices = choices m.choices.now;
  normal = m.normal.now;
  encoded = m.encoded.now;
  model = m.model.now;
  stamped = m.stamped.now;
  sources = m.sources.now;
  blocks = m.blocks.now;
}

abbrev pub signature_in : Parts → Signature
signature_in m = m.normal.signature

abbrev pub tables_in : Parts → TypedTables
tables_in m = tables m.model

abbrev pub typed_in : Parts → Typed
typed_in m = reading (signature_in m) (tables_in m)

-- over all marked symbols, and over those that occur

abbrev pub merged_in : Parts → Untyped
merged_in m = merged m.choices (signature_in m) (typed_in m)

abbrev pub structure_in : Parts → Untyped
structure_in m =
    over_present (is_present (translation m.choices m.normal))
    (length (all_marks m.choices m.normal)) (merged_in m)

-- The tables are well formed, the problem is that of the choices, the sources are those of the
-- symbols, and the merged domain and the blocks are those of the tables.
pub record IsMerging (m : Parts) : Type 0 where
  pub ready : IsReady (signature_in m) m.model
  pub by_type : m.choices.marking ≡ ByType
  pub kept : AreKeptTypes m.choices
  pub each_kept : (symbol : Symbol) → length (m.choices.keeps symbol) ≡ symbol.parameters
  pub encoded_is : m.encoded ≡ encoded m.choices m.normal
  pub stamped_is : m.stamped ≡ m.model.sizes
  pub sources_are : m.sources
      ≡ map (λ symbol. sources (m.choices.keeps symbol) symbol) (signature_in m).symbols
  pub blocks : AreBlocksOf (signature_in m) m.model m.encoded.marks m.blocks

-- so many numbers of the merged domain
abbrev pub AreNumbers : Parts → ℕ → List ℕ → Type 0
AreNumbers m count values = EachBelow (replicate count (merged_size m.model.sizes)) values

-- the members that numbers are, or whose elements they stand for
abbrev pub members_in : Parts → List ℕ → List ℕ
members_in m values = map (member_in m.model.sizes) values

-- a mark stands for a symbol of the signature
pub record StandsForSymbol (m : Parts) (at f : ℕ) (symbol : Symbol) : Type 0 where
  pub mark_at : slice_get m.encoded.marks at ≡ Some (mark.Symbol f)
  pub symbol_at : slice_get (signature_in m).symbols f ≡ Some symbol

-- and there is a number for each of its arguments and of its type arguments that are kept
pub record IsSymbolFor (m : Parts) (at f : ℕ) (values : List ℕ) : Type 0 where
  pub symbol : Symbol
  pub marked : StandsForSymbol m at f symbol
  pub below : AreNumbers m (kept_count m.choices symbol + length symbol.arguments) values

-- a constructor of the signature, and a number for each of its arguments
pub record IsConstructorFor (m : Parts) (c : ℕ) (values : List ℕ) : Type 0 where
  pub constructor : Constructor
  pub at : slice_get (signature_in m).constructors c ≡ Some constructor
  pub below : AreNumbers m constructor.arity values
