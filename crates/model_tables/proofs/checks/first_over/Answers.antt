use Rattle.std.proofs.Common.{◌≡◌, ℕ, suc, ◌+◌, add-one, add-suc, sym, ◌∙◌, arith, drop}
use Rattle.model_tables.specs.Faults.{first_over}
use Rattle.model_tables.proofs.FirstOver.{first_over-here, first_over-next, first_over-end}
use Rattle.model_tables.proofs.checks.first_over.Goals as goal

pub returns-then-entry-bound : goal.returns-then-entry-bound
returns-then-entry-bound c i =
    sym (c.loop-entry.invariant i
    ∙ first_over-here c.args.bound c.args.entries.now c.loop-entry.entry-index
    (i + c.loop-entry.entry-index) (omega arith) (omega arith))

pub loop-entry-preserved : goal.loop-entry-preserved
loop-entry-preserved c i =
    rw (add-one, add-suc) (c.loop-entry.invariant i
    ∙ first_over-next c.args.bound c.args.entries.now c.loop-entry.entry-index
    (i + c.loop-entry.entry-index) (omega arith) (omega arith))

pub returns : goal.returns
returns c i =
    sym (c.loop-entry.invariant i
    ∙ first_over-end c.args.bound c.args.entries.now c.loop-entry.entry-index
    (i + c.loop-entry.entry-index) (omega arith))
