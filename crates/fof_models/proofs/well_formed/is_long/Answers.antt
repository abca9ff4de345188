use Rattle.std.proofs.Common.{length, sym, ◌∙◌, arith}
use Rattle.std.proofs.lemmas.Bool.{eqb-true, eq-eqb}
use Rattle.std.proofs.lemmas.Bool.{false≢true}
use Rattle.fof_models.proofs.WellFormed.{too_long, count_more}
use Rattle.enc_base.proofs.Tables.{tuple_count-one}
use Rattle.fof_models.proofs.well_formed.is_long.Goals as goal

pub returns-then-size-eq1 : goal.returns-then-size-eq1
returns-then-size-eq1 c =
    rw c.if-size-eq1.true (
      λ one. eqb-true _ _ one ∙ sym (tuple_count-one c.args.arity),
      λ same. eq-eqb _ _ (same ∙ tuple_count-one c.args.arity),
    )

pub returns-then-count-table : goal.returns-then-count-table
returns-then-count-table c = (
  λ holds. absurd (false≢true holds),
  λ same.
      absurd
      (too_long c.args.size c.args.arity c.loop.counter c.loop.count (length c.args.table.now)
      c.requires c.loop.invariant.so_far c.loop-test.true (omega (arith, c.if-count-table.true)) same),
)

pub loop-preserved : goal.loop-preserved
loop-preserved c =
    record {
      so_far = count_more c.args.size c.loop.counter c.loop.count c.loop.invariant.so_far;
      within = omega (arith, c.if-count-table.false);
    }
