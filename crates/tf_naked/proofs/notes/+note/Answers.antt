use Rattle.std.proofs.Common.{◌+◌, drop, sym, ap, ◌∙◌, arith}
use Rattle.tf_naked.specs.Calls.Noted.{noted, uses_in_arguments, uses_in_application}
use Rattle.tf_naked.proofs.Noted.{noted-variable, noted-apply, noted-covers_end, noted-terms_end, noted-argument_at}
use Rattle.tf_naked.proofs.notes.+note.Goals as goal

pub note_term-returns-in-Var : goal.note_term-returns-in-Var
note_term-returns-in-Var t c =
    c.note.ensures
    ∙ noted-variable c.args.scope.now.signature.now c.args.position c.in-Var.i c.args.term.now
    c.args.around.now c.in-Var.is

pub note_term-returns-in-Apply : goal.note_term-returns-in-Apply
note_term-returns-in-Apply t c =
    c.note_application.ensures
    ∙ ap (λ terms. noted
    (uses_in_application c.args.scope.now.signature.now c.in-Apply.f terms) c.args.around.now)
    c.as_slice.ensures
    ∙ noted-apply c.args.scope.now.signature.now c.args.position c.in-Apply.f c.in-Apply.field-1
    c.in-Apply.terms c.args.term.now c.args.around.now c.in-Apply.is

pub note_arguments-returns-then-i-covers : goal.note_arguments-returns-then-i-covers
note_arguments-returns-then-i-covers t c =
    sym (noted-covers_end c.args.scope.now.signature.now c.args.covers.now c.args.terms.now
    c.loop-i.i c.loop-i.around (omega (arith, c.if-i-covers.true)))
    ∙ c.loop-i.invariant

pub note_arguments-loop-i-preserved : goal.note_arguments-loop-i-preserved
note_arguments-loop-i-preserved t c =
    ap (noted (uses_in_arguments c.args.scope.now.signature.now
    (drop (c.loop-i.i + 1) c.args.covers.now) (drop (c.loop-i.i + 1) c.args.terms.now)))
    c.note_term.ensures
    ∙ noted-argument_at c.args.scope.now.signature.now c.args.covers.now c.args.terms.now c.loop-i.i
    c.index-terms-i.result c.loop-i.around (omega (arith, c.if-i-covers.false)) c.loop-i-test.true
    c.index-terms-i.is
    ∙ c.loop-i.invariant

pub note_arguments-returns : goal.note_arguments-returns
note_arguments-returns t c =
    sym (noted-terms_end c.args.scope.now.signature.now c.args.covers.now c.args.terms.now
    c.loop-i.i c.loop-i.around c.loop-i-test.false)
    ∙ c.loop-i.invariant
