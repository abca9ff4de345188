use Rattle.enc_mono.proofs.Extending.{GoesOn-next}
use Rattle.enc_mono.proofs.search.Search.extend_by.Goals as goal

pub loop-id-preserved : goal.loop-id-preserved
loop-id-preserved c = record {
  goes_on = GoesOn-next c.args.table.now c.args.bound.now c.args.pattern.now c.args.ids.now
      c.loop-id.id-index _ c.args.self.now c.loop-id.self c.extend_to.new.self
      c.loop-id-test.true c.loop-id.invariant.goes_on c.in_ok-extend_to.ensures.goes_on;
  within = c.in_ok-extend_to.ensures.within;
}
