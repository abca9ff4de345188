use Rattle.std.proofs.Common.{sym, ap, ◌∙◌, ◌∷◌, ◌≡◌, ◌-◌, ◌+◌, arith, map, codes}
use Rattle.fof_text.specs.Names.{name_at}
use Rattle.fof_text.specs.Pieces.{part}
use Rattle.fof_text.specs.Written.{term_words, variable_word, applied}
use Rattle.fof_text.proofs.Parts.{part-var, part-apply, row_next, term_part, applied_end}
use Rattle.enc_base.proofs.Puts.{then_put, put_as}
use Rattle.fof_text.proofs.term.+terms.Goals as goal

pub put_term-returns-in-Apply : goal.put_term-returns-in-Apply
put_term-returns-in-Apply g t c =
    put_as (sym (ap (λ x. part (term_words c.args.names.now x c.args.depth)) c.in-Apply.is
    ∙ part-apply c.args.names.now c.args.depth c.in-Apply.symbol c.in-Apply.terms
    ∙ ap (λ ts. part (applied (name_at c.args.names.now c.in-Apply.symbol)
    (map (λ x. term_words c.args.names.now x c.args.depth) ts)))
    (sym c.as_slice.ensures))) c.put_applied.ensures

pub put_term-returns-in-Var : goal.put_term-returns-in-Var
put_term-returns-in-Var g t c =
    let number : c.args.depth - (c.in-Var.index + 1) ≡ c.saturating_sub-number.result =
    omega (arith, c.saturating_sub.ensures, c.saturating_sub-number.ensures) in
    put_as (sym (ap (λ x. part (term_words c.args.names.now x c.args.depth)) c.in-Var.is
    ∙ part-var c.args.names.now c.args.depth c.in-Var.index
    ∙ ap (λ k. part (λ rest. variable_word k ∷ rest)) number)) c.put_variable.ensures

pub put_applied-loop-i-preserved : goal.put_applied-loop-i-preserved
put_applied-loop-i-preserved g t c =
    put_as (sym (row_next (term_part c.args.names.now c.args.depth)
    (codes ",") c.args.terms.now c.loop-i.i c.index-terms-i.result c.loop-i-test.true
    c.index-terms-i.is))
    (then_put (then_put c.loop-i.invariant c.put_between.ensures) c.put_term.ensures)

pub put_applied-returns : goal.put_applied-returns
put_applied-returns g t c =
    put_as (sym (applied_end c.args.names.now c.args.depth c.args.symbol c.args.terms.now
    c.loop-i.i (sym c.is_empty.ensures ∙ c.if-is_empty.false) c.loop-i-test.false))
    (then_put (then_put
    (then_put c.put_symbol.ensures c.put.ensures.puts) c.loop-i.invariant) c.put-2.ensures.puts)
