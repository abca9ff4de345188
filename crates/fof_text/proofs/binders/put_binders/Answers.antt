use Rattle.std.proofs.Common.{arith}
use Rattle.fof_text.proofs.Prefixes.{binders_none, binders_more}
use Rattle.fof_text.proofs.binders.put_binders.Goals as goal

pub binders-init : goal.binders-init
binders-init g c = record {
  puts = binders_none c.args.pending.now _ _ c.args.formula.now c.args.depth;
  few = c.requires;
  smaller = omega arith;
}

pub binders-preserved : goal.binders-preserved
binders-preserved g c =
    let so_far = c.binders.invariant in
    let found = c.in-Some.ensures in
    let binders = found.binders in
    let below = found.smaller in
    record {
      puts = binders_more so_far.puts found c.put_binder.ensures;
      few = omega (arith, so_far.few, binders);
      smaller = omega (arith, so_far.smaller, below);
    }
