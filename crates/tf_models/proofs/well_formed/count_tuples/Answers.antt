use Rattle.std.proofs.Common.{sym, arith}
use Rattle.enc_base.proofs.Tables.{tuple_count-one}
use Rattle.tf_models.proofs.Counting.{tuples_more, too_many}
use Rattle.tf_models.proofs.well_formed.count_tuples.Goals as goal

pub returns-then-most-eq0 : goal.returns-then-most-eq0
returns-then-most-eq0 c =
    rw c.if-bound-eq1.true (omega (arith, c.if-most-eq0.true, tuple_count-one c.args.count))

pub returns-else-most-eq0 : goal.returns-else-most-eq0
returns-else-most-eq0 c = rw c.if-bound-eq1.true (sym (tuple_count-one c.args.count))

pub returns-then-tuples-most : goal.returns-then-tuples-most
returns-then-tuples-most c =
    too_many c.args.bound c.args.count c.loop.counter c.loop.tuples c.args.most c.requires
    c.loop-test.true c.loop.invariant.so_far c.if-tuples-most.true

pub loop-preserved : goal.loop-preserved
loop-preserved c =
    record {
      so_far = tuples_more c.args.bound c.loop.counter c.loop.tuples c.loop.invariant.so_far;
      within = omega (arith, c.if-tuples-most.false);
    }
