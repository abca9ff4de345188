use Rattle.std.proofs.Common.{rules, arith, ◌≢◌, ◌≡◌, [], ◌∷◌, ◌++◌, Err, sym, ◌∙◌, ap}
use Rattle.std.specs.Prelude.{codes}
use Rattle.std.proofs.lemmas.Grind.{common_steps}
use Rattle.tptp_words.specs.Words.{mark}
use Rattle.tptp_phrases.specs.Readers.{many_at, behind}
use Rattle.tptp_phrases.proofs.Turns.{carried, turning, shorter, one_more, one_fails, no_more}
use Rattle.tptp_syntax.specs.declared.fault.Fault.TheVariants.{Memory}
use Rattle.tptp_syntax.specs.Ahead.{cause}
use Rattle.tptp_syntax.specs.Descent as descent
use Rattle.tptp_syntax.proofs.DeclarationRules.{types_after_commas, parts_after_stars, no_type_inside}
use Rattle.tptp_syntax.proofs.DeclarationRules.{some_type_inside}
use Rattle.tptp_syntax.proofs.ListsRead.{parts_given}
use Rattle.tptp_syntax.proofs.type_reader.+types.Goals as goal

-- ---- arguments

pub more-items-init : goal.more-items-init
more-items-init t c = turning _ _ c.args.found c.args.reader.now

pub more-returns-in_err-item : goal.more-returns-in_err-item
more-returns-in_err-item t c =
    let k : c.in_err-item.field-0.0 ≢ Memory
    → many_at (descent.sees (codes ","))
    (behind (mark (codes ",")) (descent.type_inside c.args.left 1)) c.args.found c.args.reader.now
    ≡ Err (cause c.in_err-item.field-0.0, c.next.new.reader) =
    λ m. one_fails (types_after_commas c.args.left) _ c.items.found c.items.reader c.items.invariant _
    (sym c.sees.ensures ∙ c.items-test.true) (c.in_err-item.ensures m) in
    first_of (search rules, grind (arith, common_steps))

pub more-items-smaller : goal.more-items-smaller
more-items-smaller t c =
    shorter (types_after_commas c.args.left) c.items.reader c.next.new.reader c.in_ok-item.item
    c.in_ok-item.ensures

pub more-items-preserved : goal.more-items-preserved
more-items-preserved t c =
    carried _ (one_more (types_after_commas c.args.left) _ c.items.found c.items.reader
    c.items.invariant c.next.new.reader c.in_ok-item.item (sym c.sees.ensures ∙ c.items-test.true)
    c.in_ok-item.ensures) c.in_ok-push.ensures.ok

pub more-returns : goal.more-returns
more-returns t c =
    no_more (types_after_commas c.args.left) _ c.items.found c.items.reader c.items.invariant
    (sym c.sees.ensures ∙ c.items-test.false)

-- ---- parts of products

pub more_parts-items-init : goal.more_parts-items-init
more_parts-items-init t c = turning _ _ c.args.found c.args.reader.now

pub more_parts-returns-in_err-item : goal.more_parts-returns-in_err-item
more_parts-returns-in_err-item t c =
    let k : c.in_err-item.field-0.0 ≢ Memory
    → many_at (descent.sees (codes "*"))
    (behind (mark (codes "*")) (descent.unit_type_at (descent.type_inside c.args.left 1)))
    c.args.found c.args.reader.now
    ≡ Err (cause c.in_err-item.field-0.0, c.next_part.new.reader) =
    λ m. one_fails (parts_after_stars c.args.left) _ c.items.found c.items.reader c.items.invariant _
    (sym c.sees.ensures ∙ c.items-test.true) (c.in_err-item.ensures m) in
    first_of (search rules, grind (arith, common_steps))

pub more_parts-items-smaller : goal.more_parts-items-smaller
more_parts-items-smaller t c =
    shorter (parts_after_stars c.args.left) c.items.reader c.next_part.new.reader c.in_ok-item.item
    c.in_ok-item.ensures

pub more_parts-items-preserved : goal.more_parts-items-preserved
more_parts-items-preserved t c =
    carried _ (one_more (parts_after_stars c.args.left) _ c.items.found c.items.reader
    c.items.invariant c.next_part.new.reader c.in_ok-item.item
    (sym c.sees.ensures ∙ c.items-test.true) c.in_ok-item.ensures) c.in_ok-push.ensures.ok

pub more_parts-returns : goal.more_parts-returns
more_parts-returns t c =
    no_more (parts_after_stars c.args.left) _ c.items.found c.items.reader c.items.invariant
    (sym c.sees.ensures ∙ c.items-test.false)

-- ---- deeper levels

pub type_inside-returns-then-left-levels : goal.type_inside-returns-then-left-levels
type_inside-returns-then-left-levels t c m =
    no_type_inside c.args.left c.args.levels c.requires c.if-left-levels.true c.args.reader.now
    ∙ ap (λ e. Err (e, c.args.reader.now)) (sym c.type_limit.ensures)

pub type_inside-returns-else-left-levels : goal.type_inside-returns-else-left-levels
type_inside-returns-else-left-levels t c =
    rw (some_type_inside c.args.left c.args.levels c.requires c.if-left-levels.false)
    c.type_expr.ensures

-- ---- chains

pub parts-returns : goal.parts-returns
parts-returns t c =
    let one : c.push.new.self ≡ c.args.first ∷ [] =
    c.in_ok-push.ensures.ok ∙ ap (λ f. f ++ (c.args.first ∷ [])) c.new-found.ensures in
    parts_given (mark (codes "*")) (descent.unit_type_at (descent.type_inside c.args.left 1))
    c.args.first c.in_ok-second.second c.args.reader.now c.expect.new.self c.unit_type.new.reader
    c.push-2.new.self c.more_parts.result c.more_parts.new.reader c.in_ok-expect.ensures
    c.in_ok-second.ensures
    (c.in_ok-push-2.ensures.ok ∙ ap (λ f. f ++ (c.in_ok-second.second ∷ [])) one)
    c.more_parts.ensures
