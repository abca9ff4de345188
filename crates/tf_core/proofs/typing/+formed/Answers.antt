use Rattle.std.proofs.Common.{◌∙◌, sym, ap, length}
use Rattle.std.specs.Prelude.{slice_get}
use Rattle.tf_core.specs.TypingTests.{takes, is_type, are_types}
use Rattle.tf_core.proofs.TypingTests.{is_type-variable}
use Rattle.tf_core.proofs.Checked.{formed_then, formed_else}
use Rattle.tf_core.proofs.typing.+formed.Goals as goal

pub is_formed-returns-in-Var : goal.is_formed-returns-in-Var
is_formed-returns-in-Var t c =
    sym (ap (is_type c.args.signature.now c.args.variables) c.in-Var.is
    ∙ is_type-variable c.args.signature.now c.args.variables c.in-Var.i)

pub is_formed-returns-then-takes : goal.is_formed-returns-then-takes
is_formed-returns-then-takes t c =
    formed_then c.args.signature.now c.args.variables c.args.ty.now c.in-Apply.c c.in-Apply.types
    c.takes.result c.are_formed.result c.in-Apply.is
    (c.takes.ensures
    ∙ ap (λ ts. takes (slice_get c.args.signature.now.constructors c.in-Apply.c) (length ts))
    c.as_slice.ensures)
    c.if-takes.true
    (c.are_formed.ensures
    ∙ ap (are_types c.args.signature.now c.args.variables) c.as_slice-then-takes.ensures)

pub is_formed-returns-else-takes : goal.is_formed-returns-else-takes
is_formed-returns-else-takes t c =
    formed_else c.args.signature.now c.args.variables c.args.ty.now c.in-Apply.c c.in-Apply.types
    c.takes.result c.in-Apply.is
    (c.takes.ensures
    ∙ ap (λ ts. takes (slice_get c.args.signature.now.constructors c.in-Apply.c) (length ts))
    c.as_slice.ensures)
    c.if-takes.false
