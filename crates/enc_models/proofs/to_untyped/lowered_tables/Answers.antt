use Rattle.std.proofs.Common.{arith, sym, subst, ap, ◌∙◌, length}
use Rattle.tf_models.specs.Reading.{tables}
use Rattle.enc_marks.specs.declared.encoded.Encoded.{Encoded}
use Rattle.enc_models.specs.Calls.Blocks.{AreMarksIn}
use Rattle.enc_models.proofs.Lowering.{merged_size-counted}
use Rattle.enc_models.proofs.Marks.{marks_within, few_symbols}
use Rattle.enc_models.proofs.to_untyped.lowered_tables.Goals as goal

pub stamped_within-requires-clause-within : goal.stamped_within-requires-clause-within
stamped_within-requires-clause-within g c =
    omega (
      arith,
      c.requires.within,
      merged_size-counted (g.C.Choices.choices c.args.choices.now) c.args.normal.now
          (tables c.args.model.now) c.requires.merged,
    )

pub blocks_of_marks-requires-clause-marks : goal.blocks_of_marks-requires-clause-marks
blocks_of_marks-requires-clause-marks g c =
    subst (AreMarksIn c.args.normal.now.signature)
    (sym (c.as_slice-marks.ensures ∙ ap (λ (e : Encoded). e.marks) c.requires.encoded))
    (marks_within (g.C.Choices.choices c.args.choices.now) c.args.normal.now c.requires.by_type)

pub tabulate-requires-clause-few : goal.tabulate-requires-clause-few
tabulate-requires-clause-few g c =
    omega (
      arith,
      ap length (c.as_slice-3.ensures ∙ ap (λ (e : Encoded). e.problem.signature) c.requires.encoded),
      few_symbols (g.C.Choices.choices c.args.choices.now) c.args.normal.now c.requires.by_type,
      c.requires.few,
    )
