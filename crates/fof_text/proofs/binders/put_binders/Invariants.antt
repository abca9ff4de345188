use Rattle.std.proofs.Common.{◌+◌, ◌<◌, ◌≤◌, ◌^◌}
use Rattle.fof_models.specs.declared.formula.Fof.{size-Fof}
use Rattle.fof_models.specs.Sound.{binder_count}
use Rattle.fof_text.specs.Pieces.{PutsBinders}
use Rattle.fof_text.proofs.binders.put_binders.Given as goal

abbrev pub invariant-binders : goal.invariant-binders
invariant-binders g l = record {
  puts : PutsBinders g.O.Sink.bytes g.O.Sink.faults l.initial.pending l.pending l.initial.out l.out
      l.formula l.depth l.inner l.under;
  few : l.under + binder_count l.inner < 2 ^ 32;
  smaller : size-Fof l.inner ≤ size-Fof l.formula;
}

abbrev pub decreases-binders : goal.decreases-binders
decreases-binders g l = size-Fof l.inner
