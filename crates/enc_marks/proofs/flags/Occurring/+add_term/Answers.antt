use Rattle.std.proofs.Common.{◌||◌, ap, sym, ◌∙◌, eqb}
use Rattle.std.specs.List.{list_any}
use Rattle.enc_marks.specs.Calls.Flags.{is_set}
use Rattle.enc_marks.specs.Occurrence.{occurs_in_term}
use Rattle.enc_marks.proofs.Occurrence.{occurs_in_term-variable, occurs_in_term-apply}
use Rattle.enc_marks.proofs.Results.{on_ok}
use Rattle.enc_marks.proofs.Added.{added-none, added-both}
use Rattle.enc_marks.proofs.flags.Occurring.+add_term.Goals as goal

pub add_term-returns-in-Var : goal.add_term-returns-in-Var
add_term-returns-in-Var t c =
    added-none (is_set c.args.self.now) (λ m. occurs_in_term m c.args.term.now)
    (λ m. ap (occurs_in_term m) c.in-Var.is ∙ occurs_in_term-variable m c.in-Var.field-0)

pub add_term-returns-in_ok-add-in-Apply : goal.add_term-returns-in_ok-add-in-Apply
add_term-returns-in_ok-add-in-Apply t c =
    on_ok c.add_terms.result
    (λ second. added-both (is_set c.args.self.now) (is_set c.add.new.self) (is_set c.add_terms.new.self)
    (λ m. eqb m c.in-Apply.f) (λ m. list_any (occurs_in_term m) c.as_slice.result.now)
    (λ m. occurs_in_term m c.args.term.now)
    c.in_ok-add-in-Apply.ensures second
    (λ m. ap (occurs_in_term m) c.in-Apply.is
    ∙ occurs_in_term-apply m c.in-Apply.f c.in-Apply.terms
    ∙ ap (λ terms. eqb m c.in-Apply.f || list_any (occurs_in_term m) terms) (sym c.as_slice.ensures)))
    c.add_terms.ensures
