use Rattle.std.proofs.Common.{ap, ◌∙◌, ◌≡◌, ◌<◌, arith, length, get_or}
use Rattle.std.proofs.Math.ListN.{set}
use Rattle.std.proofs.lemmas.List.{get_or_default}
use Rattle.std.proofs.lemmas.List.Edits.{map_over_more}
use Rattle.structure_tables.proofs.Grouping.{replaced, replaced-from, replaced-other}
use Rattle.structure_tables.proofs.groups.replace.Goals as goal
use Rattle.structure_tables.proofs.groups.replace.Goals.{then-item-from, else-item-from}

pub loop-item-preserved : goal.loop-item-preserved
loop-item-preserved c =
    let i = c.loop-item.item-index in
    let item = get_or c.loop-item.items i 0 in
    let written : c.if-item-from.item ≡ replaced c.args.from c.args.to item =
    elim c.if-item-from.branch [
      | then-item-from w ↦ w.item-is ∙ replaced-from c.args.from c.args.to item w.if-item-from.true
      | else-item-from w ↦ w.item-is ∙ replaced-other c.args.from c.args.to item w.if-item-from.false
    ] in
    let within : i < length c.loop-item.items =
    omega (arith, c.loop-item.auto.items, c.loop-item-test.true) in
    ap (set c.loop-item.items i) written
    ∙ map_over_more (replaced c.args.from c.args.to) c.args.items.now c.loop-item.items i item
    c.loop-item-test.true c.loop-item.invariant
    (get_or_default c.loop-item.items i 0 item within)
