use Rattle.std.proofs.Common.{arith, get_or}
use Rattle.std.proofs.lemmas.List.{get_or_default}
use Rattle.std.proofs.lemmas.Option.{slice_get_within}
use Rattle.enc_marks.specs.declared.mark.Mark.TheVariants as mark
use Rattle.enc_models.proofs.KeptBlocks.{length-pushed, marks_more}
use Rattle.enc_models.proofs.blocks.blocks_of_marks.Goals as goal

pub loop-mark-preserved : goal.loop-mark-preserved
loop-mark-preserved c =
    rw c.in_ok-push.ensures.ok
    (record {
      count = omega (
        arith,
        length-pushed c.loop-mark.blocks c.in_ok-blocks_of_mark.field-0,
        c.loop-mark.invariant.count,
      );
      each = marks_more c.args.signature.now c.args.model.now c.args.marks.now
          c.loop-mark.blocks c.loop-mark.mark-index
          (get_or c.args.marks.now c.loop-mark.mark-index (mark.Symbol 0))
          c.in_ok-blocks_of_mark.field-0 c.loop-mark.invariant.count c.loop-mark.invariant.each
          (get_or_default c.args.marks.now c.loop-mark.mark-index (mark.Symbol 0)
          (get_or c.args.marks.now c.loop-mark.mark-index (mark.Symbol 0)) c.loop-mark-test.true)
          c.in_ok-blocks_of_mark.ensures;
    })

pub returns : goal.returns
returns c =
    record {
      count = omega (
        arith,
        c.loop-mark.invariant.count,
        c.loop-mark.auto.mark-index-end,
        c.loop-mark-test.false,
      );
      each = λ at marked found.
          c.loop-mark.invariant.each at marked
          (omega (
            arith,
            c.loop-mark-test.false,
            slice_get_within c.args.marks.now at marked found,
          ))
          found;
    }
