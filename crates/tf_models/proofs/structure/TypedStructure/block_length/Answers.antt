use Rattle.std.proofs.Common.{◌∙◌}
use Rattle.tf_models.specs.Reading.{tables}
use Rattle.tf_models.specs.Fit.{parameters_at}
use Rattle.tf_models.proofs.SymbolBlocks.{block_members, argument_formed, length-more, length-all}
use Rattle.tf_models.proofs.structure.TypedStructure.block_length.Goals as goal

pub size_of-requires-clause-members : goal.size_of-requires-clause-members
size_of-requires-clause-members c =
    rw c.as_slice.ensures
    (block_members c.args.signature.now c.args.self.now c.args.symbol.now c.args.number
    c.requires.block)

pub size_of-requires-clause-typed : goal.size_of-requires-clause-typed
size_of-requires-clause-typed c =
    rw c.as_slice.ensures
    (argument_formed c.args.signature.now c.args.self.now c.args.symbol.now c.args.number
    c.requires.block c.loop-ty.ty-index c.ty-item.result
    (rw c.as_slice-ty-items.ensures at c.loop-ty-test.true)
    (rw c.as_slice-ty-items.ensures at c.ty-item.is))

pub loop-ty-preserved : goal.loop-ty-preserved
loop-ty-preserved c =
    c.saturating_mul-length.ensures
    ∙ length-more c.args.signature.now c.args.self.now c.args.symbol.now c.args.number
    c.requires.block c.loop-ty.ty-index c.loop-ty.length c.size_of.result c.ty-item.result
    (rw c.as_slice-ty-items.ensures at c.loop-ty-test.true)
    (rw c.as_slice-ty-items.ensures at c.ty-item.is)
    (rw c.as_slice.ensures at c.size_of.ensures)
    c.loop-ty.invariant

pub returns : goal.returns
returns c = record {
  exact = length-all c.args.self.now c.args.symbol.now
      (parameters_at (tables c.args.self.now) c.args.symbol.now c.args.number)
      c.loop-ty.ty-index c.loop-ty.length
      (rw c.as_slice-ty-items.ensures at c.loop-ty-test.false) c.loop-ty.invariant;
}
