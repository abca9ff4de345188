use Rattle.std.proofs.Common.{sym}
use Rattle.enc_run.proofs.running.ended.Goals as goal

pub returns-clause-ended : goal.returns-clause-ended
returns-clause-ended g c = record {
  end = c.work-end.result;
  status_is = sym c.close.ensures.status;
  ends = c.work-end.ensures.ends;
  noted = c.close.ensures.noted;
  reads = c.work-end.ensures.reads;
  counts = c.work-end.ensures.counts;
}
