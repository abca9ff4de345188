use Rattle.std.proofs.Common.{rules, arith, ◌≢◌, ◌≡◌, [], Err, sym, ◌∙◌}
use Rattle.std.proofs.lemmas.Grind.{common_steps}
use Rattle.tptp_phrases.specs.Readers.{many_at}
use Rattle.tptp_phrases.proofs.Turns.{carried, turning, shorter, one_more, one_fails, no_more}
use Rattle.tptp_syntax.specs.declared.fault.Fault.TheVariants.{Memory}
use Rattle.tptp_syntax.specs.Ahead.{cause}
use Rattle.tptp_syntax.specs.Descent as descent
use Rattle.tptp_syntax.proofs.EntryRules.{entries}
use Rattle.tptp_syntax.proofs.entry_reader.entries.Goals as goal

pub items-init : goal.items-init
items-init c =
    carried _ (turning descent.any_word (descent.entry_at 400) [] c.args.reader.now)
    c.new-found.ensures

pub returns-in_err-item : goal.returns-in_err-item
returns-in_err-item c =
    let k : c.in_err-item.field-0.0 ≢ Memory
    → many_at descent.any_word (descent.entry_at 400) [] c.args.reader.now
    ≡ Err (cause c.in_err-item.field-0.0, c.entry.new.reader) =
    λ m. one_fails (entries 400) _ c.items.found c.items.reader c.items.invariant _
    (sym c.sees_word.ensures ∙ c.items-test.true) (c.in_err-item.ensures m) in
    first_of (search rules, grind (arith, common_steps))

pub items-smaller : goal.items-smaller
items-smaller c =
    shorter (entries 400) c.items.reader c.entry.new.reader c.in_ok-item.item c.in_ok-item.ensures

pub items-preserved : goal.items-preserved
items-preserved c =
    carried _ (one_more (entries 400) _ c.items.found c.items.reader c.items.invariant
    c.entry.new.reader c.in_ok-item.item (sym c.sees_word.ensures ∙ c.items-test.true)
    c.in_ok-item.ensures) c.in_ok-push.ensures.ok

pub returns : goal.returns
returns c =
    no_more (entries 400) _ c.items.found c.items.reader c.items.invariant
    (sym c.sees_word.ensures ∙ c.items-test.false)
