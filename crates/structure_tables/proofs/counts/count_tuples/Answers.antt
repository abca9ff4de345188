use Rattle.std.proofs.Common.{◌∙◌, ◌<◌, sym, arith}
use Rattle.structure_tables.proofs.Counting.{tuples_none, tuples_one, tuples_enough, tuples_more}
use Rattle.structure_tables.proofs.counts.count_tuples.Goals as goal
use Rattle.structure_tables.proofs.counts.count_tuples.Goals.{then-bound-eq1-via-then-bound-eq1, then-bound-eq1-via-else-bound-eq1+then-count-eq0}

pub returns-then-bound-eq1 : goal.returns-then-bound-eq1
returns-then-bound-eq1 c =
    elim c.then-bound-eq1.branch [
      | then-bound-eq1-via-then-bound-eq1 w ↦
          record { exact = tuples_one c.args.bound c.args.count w.if-bound-eq1.true }
      | then-bound-eq1-via-else-bound-eq1+then-count-eq0 w ↦
          record { exact = tuples_none c.args.bound c.args.count w.if-count-eq0.true }
    ]

pub returns-then-tuples : goal.returns-then-tuples
returns-then-tuples c =
    let some : 0 < c.args.bound = omega (arith, c.if-bound-eq0.false) in
    let full = c.if-tuples.true in
    let more = c.saturating_mul-tuples.ensures
    ∙ tuples_more c.args.bound c.loop.counter c.loop.tuples some c.loop.invariant in
    record {
      exact =
          full
          ∙ sym (tuples_enough c.args.bound c.loop.counter c.args.count some c.loop-test.true
          (sym more ∙ full));
    }
