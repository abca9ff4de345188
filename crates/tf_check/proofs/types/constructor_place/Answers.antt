use Rattle.tf_check.proofs.PlaceLemmas.{place_unknown, place_given, place_arity}
use Rattle.tf_check.proofs.SameLemmas.{differs_test}
use Rattle.tf_check.proofs.types.constructor_place.Goals as goal

pub returns-in_ok-copy-in-None : goal.returns-in_ok-copy-in-None
returns-in_ok-copy-in-None c =
    rw c.in_ok-copy-in-None.ensures
    (place_unknown c.args.context.now.entry c.args.name.now c.args.arguments
    c.args.context.now.table.now
    (rw c.as_slice.ensures at c.in-None.ensures.exact))

pub returns-then-arity-arguments : goal.returns-then-arity-arguments
returns-then-arity-arguments c =
    place_given c.args.context.now.entry c.args.name.now c.args.arguments
    c.args.context.now.table.now
    c.in-Some.place c.in-Some.arity (rw c.as_slice.ensures at c.in-Some.ensures.exact)
    c.if-arity-arguments.true

pub returns-in_ok-copy-in-Some : goal.returns-in_ok-copy-in-Some
returns-in_ok-copy-in-Some c =
    rw c.in_ok-copy-in-Some.ensures
    (place_arity c.args.context.now.entry c.args.name.now c.args.arguments
    c.args.context.now.table.now
    c.in-Some.place c.in-Some.arity (rw c.as_slice.ensures at c.in-Some.ensures.exact)
    (differs_test c.in-Some.arity c.args.arguments c.if-arity-arguments.false))
