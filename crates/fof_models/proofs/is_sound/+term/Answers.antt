use Rattle.std.proofs.Common.{ap, ◌∙◌, length}
use Rattle.std.specs.Prelude.{false, slice_get}
use Rattle.fof_models.specs.Sound.{is_symbol, is_term, are_terms}
use Rattle.fof_models.proofs.Sound.{is_term-variable, is_term-apply}
use Rattle.fof_models.proofs.Tested.{and_then, and_else}
use Rattle.fof_models.proofs.is_sound.+term.Goals as goal

pub is_term-returns-in-Var : goal.is_term-returns-in-Var
is_term-returns-in-Var t c n counts =
    let bound = c.is_bound.ensures n counts in
    cc (is_term-variable c.args.signature.now c.in-Var.i n)

pub is_term-returns-then-is_symbol : goal.is_term-returns-then-is_symbol
is_term-returns-then-is_symbol t c n counts =
    let signature = c.args.signature.now in
    and_then (is_term signature c.args.term.now n)
    (is_symbol (slice_get signature c.in-Apply.f) false (length c.in-Apply.terms))
    (are_terms signature c.in-Apply.terms n) _
    (cc (is_term-apply signature c.in-Apply.f c.in-Apply.terms n))
    (cc) _
    (c.are_terms.ensures n counts ∙ ap (λ ts. are_terms signature ts n) c.as_slice-terms.ensures)
    c.if-is_symbol.true

pub is_term-returns-else-is_symbol : goal.is_term-returns-else-is_symbol
is_term-returns-else-is_symbol t c n counts =
    let signature = c.args.signature.now in
    and_else (is_term signature c.args.term.now n)
    (is_symbol (slice_get signature c.in-Apply.f) false (length c.in-Apply.terms))
    (are_terms signature c.in-Apply.terms n) _
    (cc (is_term-apply signature c.in-Apply.f c.in-Apply.terms n))
    (cc) c.if-is_symbol.false
