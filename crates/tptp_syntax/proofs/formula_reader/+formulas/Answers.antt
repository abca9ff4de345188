use Rattle.std.proofs.Common.{rules, arith, ◌≢◌, ◌≡◌, [], ◌∷◌, ◌++◌, Err, sym, ◌∙◌, ap}
use Rattle.std.proofs.lemmas.Grind.{common_steps}
use Rattle.tptp_phrases.specs.Readers.{takes, many_at, behind}
use Rattle.tptp_phrases.proofs.Turns.{carried, turning, shorter, one_more, one_fails, no_more}
use Rattle.tptp_syntax.specs.declared.fault.Fault.TheVariants.{Memory}
use Rattle.tptp_syntax.specs.Ahead as spec
use Rattle.tptp_syntax.specs.Ahead.{cause}
use Rattle.tptp_syntax.specs.Descent as descent
use Rattle.tptp_syntax.proofs.FormulaRules.{units_after, no_unit_inside, some_unit_inside}
use Rattle.tptp_syntax.proofs.ListsRead.{parts_given}
use Rattle.tptp_syntax.proofs.formula_reader.+formulas.Goals as goal

pub more-items-init : goal.more-items-init
more-items-init t c = turning _ _ c.args.found c.args.reader.now

pub more-returns-in_err-item : goal.more-returns-in_err-item
more-returns-in_err-item t c =
    let k : c.in_err-item.field-0.0 ≢ Memory → many_at (takes (spec.fixed c.args.word))
    (behind (spec.fixed c.args.word) (descent.unit_inside c.args.language c.args.left 1))
    c.args.found c.args.reader.now
    ≡ Err (cause c.in_err-item.field-0.0, c.next.new.reader) =
    λ m. one_fails (units_after c.args.language c.args.left c.args.word c.requires) _ c.items.found c.items.reader c.items.invariant _
    (sym c.sees.ensures ∙ c.items-test.true) (c.in_err-item.ensures m) in
    first_of (search rules, grind (arith, common_steps))

pub more-items-smaller : goal.more-items-smaller
more-items-smaller t c =
    shorter (units_after c.args.language c.args.left c.args.word c.requires) c.items.reader c.next.new.reader c.in_ok-item.item c.in_ok-item.ensures

pub more-items-preserved : goal.more-items-preserved
more-items-preserved t c =
    carried _ (one_more (units_after c.args.language c.args.left c.args.word c.requires) _ c.items.found c.items.reader c.items.invariant
    c.next.new.reader c.in_ok-item.item (sym c.sees.ensures ∙ c.items-test.true)
    c.in_ok-item.ensures) c.in_ok-push.ensures.ok

pub more-returns : goal.more-returns
more-returns t c =
    no_more (units_after c.args.language c.args.left c.args.word c.requires) _ c.items.found c.items.reader c.items.invariant
    (sym c.sees.ensures ∙ c.items-test.false)

pub parts-returns : goal.parts-returns
parts-returns t c =
    let one : c.push.new.self ≡ c.args.first ∷ [] =
    c.in_ok-push.ensures.ok ∙ ap (λ f. f ++ (c.args.first ∷ [])) c.new-found.ensures in
    parts_given (spec.fixed c.args.word) (descent.unit_inside c.args.language c.args.left 1)
    c.args.first c.in_ok-second.second c.args.reader.now c.expect.new.self c.unit_inside.new.reader
    c.push-2.new.self c.more.result c.more.new.reader c.in_ok-expect.ensures c.in_ok-second.ensures
    (c.in_ok-push-2.ensures.ok ∙ ap (λ f. f ++ (c.in_ok-second.second ∷ [])) one) c.more.ensures

pub unit_inside-returns-then-left-levels : goal.unit_inside-returns-then-left-levels
unit_inside-returns-then-left-levels t c m =
    no_unit_inside c.args.language c.args.left c.args.levels c.requires c.if-left-levels.true
    c.args.reader.now
    ∙ ap (λ e. Err (e, c.args.reader.now)) (sym c.unit_limit.ensures)

pub unit_inside-returns-else-left-levels : goal.unit_inside-returns-else-left-levels
unit_inside-returns-else-left-levels t c =
    rw (some_unit_inside c.args.language c.args.left c.args.levels c.requires
    c.if-left-levels.false) c.unit.ensures
