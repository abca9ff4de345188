use Rattle.tf_types.proofs.Numbers.{IsNumber-Denotes, Extends-twice}
use Rattle.tf_types.proofs.Applied.{IsNumber-applied, IsApplication-applied, IsApplied-later}
use Rattle.tf_types.proofs.Steps.{IsApplied-next_type}
use Rattle.tf_types.proofs.table.TypeTable.+number_of.Goals as goal

pub number_of_applied-with_argument-requires-clause-function :
    goal.number_of_applied-with_argument-requires-clause-function
number_of_applied-with_argument-requires-clause-function t c =
    IsNumber-applied _ _ _ _ _
    (IsApplied-later _ _ _ _ _ c.loop-ty.invariant c.number_of.new.self
    c.in_ok-argument.ensures.kept c.in_ok-argument.ensures.one_to_one)

pub number_of_applied-with_argument-requires-clause-argument :
    goal.number_of_applied-with_argument-requires-clause-argument
number_of_applied-with_argument-requires-clause-argument t c =
    IsNumber-Denotes _ _ _ c.in_ok-argument.ensures.denoted

pub number_of_applied-with_argument-requires-clause-application :
    goal.number_of_applied-with_argument-requires-clause-application
number_of_applied-with_argument-requires-clause-application t c =
    IsApplication-applied _ _ _ _ _
    (IsApplied-later _ _ _ _ _ c.loop-ty.invariant c.number_of.new.self
    c.in_ok-argument.ensures.kept c.in_ok-argument.ensures.one_to_one)

pub number_of_applied-loop-ty-preserved : goal.number_of_applied-loop-ty-preserved
number_of_applied-loop-ty-preserved t c =
    IsApplied-next_type c.args.self.now c.loop-ty.self c.number_of.new.self
    c.with_argument.new.self c.loop-ty.ty-index c.loop-ty.id _ c.in_ok-argument.argument
    c.args.constructor c.in_ok-argument.ensures.kept c.in_ok-argument.ensures.one_to_one
    c.in_ok-id-2.ensures.denoted c.in_ok-id-2.ensures.kept
    c.in_ok-id-2.ensures.one_to_one c.args.types.now c.ty-item.result
    c.loop-ty.invariant c.loop-ty-test.true c.ty-item.is c.in_ok-argument.ensures.denoted

pub number_of_applied-returns-in_err-argument-clause-kept :
    goal.number_of_applied-returns-in_err-argument-clause-kept
number_of_applied-returns-in_err-argument-clause-kept t c =
    Extends-twice _ _ _ c.loop-ty.invariant.kept c.in_err-argument.ensures.kept
