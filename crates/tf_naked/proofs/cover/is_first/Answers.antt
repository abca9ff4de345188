use Rattle.std.proofs.Common.{◌<◌, length, not, true, false, sym, ap, subst, ◌∙◌, arith}
use Rattle.std.proofs.lemmas.List.{get_or_read}
use Rattle.tf_naked.specs.Covers.{IsOwn, parameter_of}
use Rattle.tf_naked.specs.Calls.Flags.{is_unseen, flagged}
use Rattle.tf_naked.proofs.Covers.{parameter_of-variable, parameter_of-apply}
use Rattle.tf_naked.proofs.cover.is_first.Goals as goal

pub index-requires : goal.index-requires
index-requires c =
    let within : c.in-Var.i < length c.args.seen.now.items =
    subst (IsOwn (length c.args.seen.now.items))
    (ap parameter_of c.in-Var.is ∙ parameter_of-variable c.in-Var.i) c.requires.own in
    omega (arith, within, c.args.seen.now.ok.0)

pub index_mut-requires : goal.index_mut-requires
index_mut-requires c =
    let within : c.in-Var.i < length c.args.seen.now.items =
    subst (IsOwn (length c.args.seen.now.items))
    (ap parameter_of c.in-Var.is ∙ parameter_of-variable c.in-Var.i) c.requires.own in
    omega (arith, within, c.args.seen.now.ok.0)

pub returns-in-Var-clause-exact : goal.returns-in-Var-clause-exact
returns-in-Var-clause-exact c =
    let within : c.in-Var.i < length c.args.seen.now.items =
    subst (IsOwn (length c.args.seen.now.items))
    (ap parameter_of c.in-Var.is ∙ parameter_of-variable c.in-Var.i) c.requires.own in
    ap not (get_or_read c.args.seen.now.items c.in-Var.i c.index.result.now within
    c.index.ensures false)
    ∙ sym (ap (is_unseen c.args.seen.now.items)
    (ap parameter_of c.in-Var.is ∙ parameter_of-variable c.in-Var.i))

pub returns-in-Var-clause-seen : goal.returns-in-Var-clause-seen
returns-in-Var-clause-seen c =
    sym (ap (flagged true c.args.seen.now.items)
    (ap parameter_of c.in-Var.is ∙ parameter_of-variable c.in-Var.i))

pub returns-in-Apply-clause-exact : goal.returns-in-Apply-clause-exact
returns-in-Apply-clause-exact c =
    sym (ap (is_unseen c.args.seen.now.items)
    (ap parameter_of c.in-Apply.is ∙ parameter_of-apply c.in-Apply.field-0 c.in-Apply.field-1))

pub returns-in-Apply-clause-seen : goal.returns-in-Apply-clause-seen
returns-in-Apply-clause-seen c =
    sym (ap (flagged true c.args.seen.now.items)
    (ap parameter_of c.in-Apply.is ∙ parameter_of-apply c.in-Apply.field-0 c.in-Apply.field-1))
