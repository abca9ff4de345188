use Rattle.std.specs.Prelude.{◌<◌, map, get_or}
use Rattle.std.specs.List.{AllByRecursion}
use Rattle.std.proofs.Common.{sym, ap, ◌∙◌, arith}
use Rattle.tf_types.specs.declared.node.TypeId.{TypeId}
use Rattle.tf_types.specs.Numbers.{type_at}
use Rattle.tf_types.specs.Nodes.{denoted}
use Rattle.tf_types.proofs.Numbers.{IsNumber-Denotes, IsNumber-extended, Denotes-extended, type_at-extended, AreNumbers-extended}
use Rattle.tf_types.proofs.Applied.{IsNumber-applied, IsApplication-applied, IsApplied-later}
use Rattle.tf_types.proofs.Made.{AreNumbers-below, below-among, Denotes-kept, IsInstance-made, Denotes-replacement, Denotes-listed, Denotes-through, names_of_apply}
use Rattle.tf_types.proofs.Steps.{IsApplied-next_instance}
use Rattle.tf_types.proofs.table.TypeTable.+instance_in.Goals as goal

pub instance_in-returns-in-Some-clause-denoted : goal.instance_in-returns-in-Some-clause-denoted
instance_in-returns-in-Some-clause-denoted t c =
    Denotes-kept c.args.self.now c.args.id c.args.listed c.in-Some.made
    (map (type_at c.args.self.now) c.args.types.now) c.requires.listed c.in-Some.ensures

pub instance_in-keep_instance-requires : goal.instance_in-keep_instance-requires
instance_in-keep_instance-requires t c =
    IsInstance-made c.new_instance.new.self c.args.id c.args.listed c.in_ok-made.made
    (map (type_at c.args.self.now) c.args.types.now)
    (Denotes-extended c.args.self.now c.new_instance.new.self c.in_ok-made.ensures.kept
    c.args.listed _ c.requires.listed)
    (IsNumber-extended c.args.self.now c.new_instance.new.self c.in_ok-made.ensures.kept
    c.args.id c.requires.number)
    (type_at c.args.self.now c.args.id)
    (type_at-extended c.args.self.now c.new_instance.new.self c.in_ok-made.ensures.kept
    c.args.id c.requires.number)
    c.in_ok-made.ensures.denoted

pub new_instance-instance_in-requires : goal.new_instance-instance_in-requires
new_instance-instance_in-requires t c =
    let below : AllByRecursion (λ (number : TypeId). number.index < c.args.id.index)
    c.as_slice-argument-items.result.now =
    names_of_apply c.args.id.index c.in_ok-i.field-0 c.in-Apply.c c.in-Apply.arguments
    c.as_slice-argument-items.result.now c.in-Apply.is c.as_slice-argument-items.ensures
    c.in_ok-i.ensures.below in
    let falls : (get_or c.as_slice-argument-items.result.now c.loop-argument.argument-index
    (record { index = 0 })).index < c.args.id.index =
    below-among c.args.id.index c.as_slice-argument-items.result.now
    c.loop-argument.argument-index (record { index = 0 }) below c.loop-argument-test.true in (
      omega (arith, falls),
      (
        IsNumber-extended c.args.self.now c.loop-argument.self c.loop-argument.invariant.kept _
            (omega (arith, falls, c.requires.number)),
        (
          AreNumbers-extended c.args.self.now c.loop-argument.self c.loop-argument.invariant.kept
              c.args.types.now c.requires.numbers,
          (
            Denotes-listed c.args.self.now c.loop-argument.self c.loop-argument.invariant.kept
                c.args.types.now c.requires.numbers c.args.listed c.requires.listed,
            c.loop-argument.invariant.one_to_one,
          ),
        ),
      ),
    )

pub new_instance-with_argument-requires-clause-function :
    goal.new_instance-with_argument-requires-clause-function
new_instance-with_argument-requires-clause-function t c =
    IsNumber-applied _ _ _ _ _
    (IsApplied-later _ _ _ _ _ c.loop-argument.invariant c.instance_in.new.self
    c.in_ok-ty-in-Apply.ensures.kept c.in_ok-ty-in-Apply.ensures.one_to_one)

pub new_instance-with_argument-requires-clause-argument :
    goal.new_instance-with_argument-requires-clause-argument
new_instance-with_argument-requires-clause-argument t c =
    IsNumber-Denotes _ _ _ c.in_ok-ty-in-Apply.ensures.denoted

pub new_instance-with_argument-requires-clause-application :
    goal.new_instance-with_argument-requires-clause-application
new_instance-with_argument-requires-clause-application t c =
    IsApplication-applied _ _ _ _ _
    (IsApplied-later _ _ _ _ _ c.loop-argument.invariant c.instance_in.new.self
    c.in_ok-ty-in-Apply.ensures.kept c.in_ok-ty-in-Apply.ensures.one_to_one)

pub new_instance-loop-argument-preserved : goal.new_instance-loop-argument-preserved
new_instance-loop-argument-preserved t c =
    IsApplied-next_instance c.args.self.now c.loop-argument.self c.instance_in.new.self
    c.with_argument.new.self c.loop-argument.argument-index c.loop-argument.made
    c.in_ok-made-in-Apply-2.made c.in_ok-ty-in-Apply.ty c.in-Apply.c
    c.in_ok-ty-in-Apply.ensures.kept c.in_ok-ty-in-Apply.ensures.one_to_one
    c.in_ok-made-in-Apply-2.ensures.denoted c.in_ok-made-in-Apply-2.ensures.kept
    c.in_ok-made-in-Apply-2.ensures.one_to_one c.args.types.now
    c.as_slice-argument-items.result.now (record { index = 0 }) c.loop-argument.invariant
    c.requires.numbers
    (AreNumbers-below c.args.self.now c.args.id.index (omega (arith, c.requires.number))
    c.as_slice-argument-items.result.now
    (names_of_apply c.args.id.index c.in_ok-i.field-0 c.in-Apply.c c.in-Apply.arguments
    c.as_slice-argument-items.result.now c.in-Apply.is c.as_slice-argument-items.ensures
    c.in_ok-i.ensures.below))
    c.loop-argument-test.true c.in_ok-ty-in-Apply.ensures.denoted

pub new_instance-returns-in-Var-clause-denoted : goal.new_instance-returns-in-Var-clause-denoted
new_instance-returns-in-Var-clause-denoted t c =
    Denotes-replacement c.args.self.now c.args.types.now c.in-Var.i c.args.id c.replacement.result
    c.requires.numbers c.requires.number
    (ap (denoted c.args.self.now) (sym c.in-Var.is) ∙ c.in_ok-i.ensures.denoted)
    c.replacement.ensures

pub new_instance-returns-after-loop-argument-clause-denoted :
    goal.new_instance-returns-after-loop-argument-clause-denoted
new_instance-returns-after-loop-argument-clause-denoted t c =
    Denotes-through c.args.self.now c.loop-argument.self c.args.id c.loop-argument.made
    (map (type_at c.args.self.now) c.args.types.now) c.in-Apply.c c.in-Apply.arguments
    c.as_slice-argument-items.result.now c.in_ok-i.field-0 c.loop-argument.argument-index
    c.loop-argument.invariant.denotes c.loop-argument-test.false c.as_slice-argument-items.ensures
    c.in-Apply.is c.in_ok-i.ensures.denoted
