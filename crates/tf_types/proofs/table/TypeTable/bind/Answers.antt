use Rattle.std.specs.Prelude.{Some, None}
use Rattle.std.proofs.Common.{ap, ◌∙◌, arith}
use Rattle.std.proofs.lemmas.Option.{slice_get-get_or}
use Rattle.tf_types.proofs.Matches.{Narrows-bound, Narrows-beyond, Narrows-free, AreBound-more}
use Rattle.tf_types.proofs.table.TypeTable.bind.Goals as goal

pub returns-then-place-bound-clause-exact : goal.returns-then-place-bound-clause-exact
returns-then-place-bound-clause-exact c =
    Narrows-beyond c.args.self.now c.args.i c.args.id c.args.bound.now
    (omega (arith, c.if-place-bound.true)) c.is_node.result c.is_node.ensures

pub same-requires-clause-left : goal.same-requires-clause-left
same-requires-clause-left c =
    c.requires.bound c.args.i c.in-Some.other
    (slice_get-get_or c.args.bound.now c.args.i None c.if-place-bound.false ∙ ap Some c.in-Some.is)

pub returns-in-Some-clause-exact : goal.returns-in-Some-clause-exact
returns-in-Some-clause-exact c =
    Narrows-bound c.args.self.now c.args.i c.args.id c.args.bound.now c.in-Some.other
    (slice_get-get_or c.args.bound.now c.args.i None c.if-place-bound.false ∙ ap Some c.in-Some.is)
    c.same.result c.same.ensures

pub returns-in-None-clause-exact : goal.returns-in-None-clause-exact
returns-in-None-clause-exact c =
    Narrows-free c.args.self.now c.args.i c.args.id c.args.bound.now
    (slice_get-get_or c.args.bound.now c.args.i None c.if-place-bound.false ∙ ap Some c.in-None.is)

pub returns-in-None-clause-numbers : goal.returns-in-None-clause-numbers
returns-in-None-clause-numbers c =
    AreBound-more c.args.self.now c.args.i c.args.id c.args.bound.now c.requires.number
    c.requires.bound
