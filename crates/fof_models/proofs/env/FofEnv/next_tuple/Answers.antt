use Rattle.std.proofs.Common.{◌≤◌, sym, ap, subst, arith}
use Rattle.fof_models.specs.Room.{Room}
use Rattle.fof_models.specs.Evaluation.{IsTuple}
use Rattle.fof_models.proofs.Tuples.{tuple_removed, tuple_next, tuple_last}
use Rattle.fof_models.proofs.env.FofEnv.next_tuple.Goals as goal

pub returns-then-next_tuple_below-clause-next : goal.returns-then-next_tuple_below-clause-next
returns-then-next_tuple_below-clause-next c held front number is =
    let placed = subst (λ items. IsTuple c.args.bound c.args.count front items number)
    (ap (λ (room : Room). room.items) (sym c.self.view_is)) is in
    tuple_next c.args.bound c.args.count number c.self.inside.used c.self.inside.slots.len front
    c.self.inside.slots.items c.deref_mut.result.now c.next_tuple_below.new.values
    placed (omega (arith, c.self.invariant, c.self.inside.slots.ok.0))
    c.self.inside.slots.ok.0 c.deref_mut.ensures.value c.next_tuple_below.auto.values
    (c.next_tuple_below.ensures.next c.if-next_tuple_below.true)

pub returns-clause-last : goal.returns-clause-last
returns-clause-last c held front number is =
    let placed = subst (λ items. IsTuple c.args.bound c.args.count front items number)
    (ap (λ (room : Room). room.items) (sym c.self.view_is)) is in
    let room : c.self.inside.used ≤ c.self.inside.slots.len =
    omega (arith, c.self.invariant, c.self.inside.slots.ok.0) in (
      tuple_removed c.args.bound c.args.count number c.self.inside.used c.self.inside.slots.len
          front c.self.inside.slots.items c.deref_mut.result.now c.next_tuple_below.new.values
          placed room c.self.inside.slots.ok.0 c.deref_mut.ensures.value
          c.next_tuple_below.auto.values,
      tuple_last c.args.bound c.args.count number c.self.inside.used c.self.inside.slots.len
          front c.self.inside.slots.items c.deref_mut.result.now c.next_tuple_below.new.values
          placed room c.self.inside.slots.ok.0 c.deref_mut.ensures.value
          (c.next_tuple_below.ensures.last c.if-next_tuple_below.false),
    )
