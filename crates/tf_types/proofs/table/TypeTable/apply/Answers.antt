use Rattle.tf_types.proofs.Numbers.{IsNumber-extended}
use Rattle.tf_types.proofs.Applied.{IsNumber-applied, IsApplication-applied, IsNumber-among}
use Rattle.tf_types.proofs.Steps.{IsApplied-next_number}
use Rattle.tf_types.proofs.table.TypeTable.apply.Goals as goal

pub with_argument-requires-clause-function : goal.with_argument-requires-clause-function
with_argument-requires-clause-function c = IsNumber-applied _ _ _ _ _ c.loop-argument.invariant

pub with_argument-requires-clause-argument : goal.with_argument-requires-clause-argument
with_argument-requires-clause-argument c =
    IsNumber-extended c.args.self.now c.loop-argument.self c.loop-argument.invariant.kept _
    (IsNumber-among c.args.self.now c.args.arguments.now c.loop-argument.argument-index _
    c.requires c.loop-argument-test.true)

pub with_argument-requires-clause-application : goal.with_argument-requires-clause-application
with_argument-requires-clause-application c =
    IsApplication-applied _ _ _ _ _ c.loop-argument.invariant

pub loop-argument-preserved : goal.loop-argument-preserved
loop-argument-preserved c =
    IsApplied-next_number c.args.self.now c.loop-argument.self c.with_argument.new.self
    c.args.arguments.now c.loop-argument.argument-index c.loop-argument.id _ _
    c.args.constructor c.loop-argument.invariant c.requires c.loop-argument-test.true
    c.in_ok-id-2.ensures.denoted c.in_ok-id-2.ensures.kept c.in_ok-id-2.ensures.one_to_one
