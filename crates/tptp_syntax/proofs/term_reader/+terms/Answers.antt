use Rattle.std.proofs.Common.{rules, arith, ◌≢◌, ◌≡◌, Err, sym, ◌∙◌, ap}
use Rattle.std.specs.Prelude.{codes}
use Rattle.std.proofs.lemmas.Grind.{common_steps}
use Rattle.tptp_words.specs.Words.{mark}
use Rattle.tptp_phrases.specs.Readers.{many_at, behind}
use Rattle.tptp_phrases.proofs.Turns.{carried, turning, shorter, one_more, one_fails, no_more}
use Rattle.tptp_syntax.specs.declared.fault.Fault.TheVariants.{Memory}
use Rattle.tptp_syntax.specs.Ahead.{cause}
use Rattle.tptp_syntax.specs.Descent as descent
use Rattle.tptp_syntax.proofs.TermRules.{terms_after_commas, no_term_inside, some_term_inside}
use Rattle.tptp_syntax.proofs.term_reader.+terms.Goals as goal

pub more-items-init : goal.more-items-init
more-items-init t c = turning _ _ c.args.found c.args.reader.now

pub more-returns-in_err-item : goal.more-returns-in_err-item
more-returns-in_err-item t c =
    let k : c.in_err-item.field-0.0 ≢ Memory → many_at (descent.sees (codes ","))
    (behind (mark (codes ",")) (descent.term_inside c.args.left 1)) c.args.found c.args.reader.now
    ≡ Err (cause c.in_err-item.field-0.0, c.next.new.reader) =
    λ m. one_fails (terms_after_commas c.args.left) _ c.items.found c.items.reader c.items.invariant _
    (sym c.sees.ensures ∙ c.items-test.true) (c.in_err-item.ensures m) in
    first_of (search rules, grind (arith, common_steps))

pub more-items-smaller : goal.more-items-smaller
more-items-smaller t c =
    shorter (terms_after_commas c.args.left) c.items.reader c.next.new.reader c.in_ok-item.item c.in_ok-item.ensures

pub more-items-preserved : goal.more-items-preserved
more-items-preserved t c =
    carried _ (one_more (terms_after_commas c.args.left) _ c.items.found c.items.reader c.items.invariant
    c.next.new.reader c.in_ok-item.item (sym c.sees.ensures ∙ c.items-test.true)
    c.in_ok-item.ensures) c.in_ok-push.ensures.ok

pub more-returns : goal.more-returns
more-returns t c =
    no_more (terms_after_commas c.args.left) _ c.items.found c.items.reader c.items.invariant
    (sym c.sees.ensures ∙ c.items-test.false)

pub term_inside-returns-then-left-levels : goal.term_inside-returns-then-left-levels
term_inside-returns-then-left-levels t c m =
    no_term_inside c.args.left c.args.levels c.requires c.if-left-levels.true c.args.reader.now
    ∙ ap (λ e. Err (e, c.args.reader.now)) (sym c.term_limit.ensures)

pub term_inside-returns-else-left-levels : goal.term_inside-returns-else-left-levels
term_inside-returns-else-left-levels t c =
    rw (some_term_inside c.args.left c.args.levels c.requires c.if-left-levels.false) c.term.ensures
