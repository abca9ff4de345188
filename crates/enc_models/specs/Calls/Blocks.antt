-- Words of private contracts: what is kept of each block of symbols' tables.
use Rattle.std.specs.Prelude.{ℕ, ◌<◌, ◌≡◌, List, [], map, length, get_or, slice_get, option_map}
use Rattle.std.specs.Prelude.{Some}
use Rattle.enc_base.specs.Tables.{sum_below}
use Rattle.tf_core.specs.declared.signature.Symbol.{Symbol}
use Rattle.tf_core.specs.declared.signature.Signature.{Signature}
use Rattle.tf_models.specs.declared.structure.TypedStructure.{TypedStructure}
use Rattle.tf_models.specs.Reading.{tables}
use Rattle.tf_models.specs.Fit.{block_count, length_at, parameters_at}
use Rattle.tf_models.specs.Evaluation.{member_in}
use Rattle.enc_marks.specs.declared.mark.Mark.{Mark}
use Rattle.enc_marks.specs.declared.mark.Mark.TheVariants as mark
use Rattle.enc_models.specs.declared.blocks.Block.{Block}

-- where a block begins, and the members that the symbol's types are under its members
pub record IsKept (model : TypedStructure) (symbol : Symbol) (number : ℕ) (block : Block) :
    Type 0 where
  pub start_is : block.start ≡ sum_below number (length_at (tables model) symbol)
  pub arguments_are : block.arguments
      ≡ map (member_in model (parameters_at (tables model) symbol number)) symbol.arguments
  pub value_is : block.value
      ≡ option_map (member_in model (parameters_at (tables model) symbol number)) symbol.result

-- the blocks of a symbol's table, in the order of the tuples of members
pub record AreBlocks (model : TypedStructure) (symbol : Symbol) (blocks : List Block) : Type 0 where
  pub count : length blocks ≡ block_count (tables model) symbol
  pub each : (number : ℕ) (block : Block) → slice_get blocks number ≡ Some block →
      IsKept model symbol number block

-- those of the symbol that a mark stands for, if it stands for one
abbrev pub AreBlocksAt : Signature → TypedStructure → Mark → List Block → Type 0
AreBlocksAt g model marked blocks =
    (f : ℕ) (symbol : Symbol) → marked ≡ mark.Symbol f → slice_get g.symbols f ≡ Some symbol →
    AreBlocks model symbol blocks

-- those of the symbols that marks stand for
pub record AreBlocksOf (g : Signature) (model : TypedStructure) (marks : List Mark)
    (blocks : List (List Block)) : Type 0 where
  pub count : length blocks ≡ length marks
  pub each : (at : ℕ) (marked : Mark) → slice_get marks at ≡ Some marked →
      AreBlocksAt g model marked (get_or blocks at [])

-- a mark stands for a symbol of a signature, if it stands for one
abbrev pub IsMarkIn : Signature → Mark → Type 0
IsMarkIn g marked = (f : ℕ) → marked ≡ mark.Symbol f → f < length g.symbols

-- and each mark does
abbrev pub AreMarksIn : Signature → List Mark → Type 0
AreMarksIn g marks = (at : ℕ) (marked : Mark) → slice_get marks at ≡ Some marked → IsMarkIn g marked
