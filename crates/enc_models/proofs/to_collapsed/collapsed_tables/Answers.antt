use Rattle.std.proofs.Common.{arith, sym, subst, ap, ◌∙◌, length}
use Rattle.enc_marks.specs.declared.encoded.Encoded.{Encoded}
use Rattle.enc_laws.proofs.SoundNormal.{normal_typed}
use Rattle.enc_models.specs.Calls.Blocks.{AreMarksIn}
use Rattle.enc_models.proofs.BareMarks.{bare_unmarked}
use Rattle.enc_models.proofs.SortSizes.{size_positive}
use Rattle.enc_models.proofs.CollapsedStanding.{marks_there, few_there, all_written}
use Rattle.enc_models.proofs.to_collapsed.collapsed_tables.Goals as goal

pub blocks_of_marks-requires-clause-marks : goal.blocks_of_marks-requires-clause-marks
blocks_of_marks-requires-clause-marks g c =
    subst (AreMarksIn c.args.normal.now.signature)
    (sym (c.as_slice-marks.ensures ∙ ap (λ (e : Encoded). e.marks) c.requires.encoded))
    (marks_there (g.C.Choices.choices c.args.choices.now) c.args.normal.now)

pub tabulate-requires-clause-few : goal.tabulate-requires-clause-few
tabulate-requires-clause-few g c =
    omega (
      arith,
      ap length (c.as_slice-4.ensures ∙ ap (λ (e : Encoded). e.problem.signature) c.requires.encoded),
      few_there (g.C.Choices.choices c.args.choices.now) c.args.normal.now c.requires.sound
          c.requires.by_sort,
    )

pub collapsed_domain-requires-clause-some : goal.collapsed_domain-requires-clause-some
collapsed_domain-requires-clause-some g c =
    rw c.requires.size
    (size_positive (g.C.Choices.choices c.args.choices.now).marking c.args.normal.now
    c.args.model.now c.requires.by_sort c.requires.sound c.requires.ready)

pub tabulate-requires-clause-inhabited : goal.tabulate-requires-clause-inhabited
tabulate-requires-clause-inhabited g c =
    size_positive (g.C.Choices.choices c.args.choices.now).marking c.args.normal.now
    c.args.model.now c.requires.by_sort c.requires.sound c.requires.ready

pub tabulate-requires-clause-ready : goal.tabulate-requires-clause-ready
tabulate-requires-clause-ready g c = record {
  ready = c.requires.ready;
  some = size_positive (g.C.Choices.choices c.args.choices.now).marking c.args.normal.now
      c.args.model.now c.requires.by_sort c.requires.sound c.requires.ready;
  unmarked = λ by_type.
      bare_unmarked (g.C.Choices.choices c.args.choices.now) c.args.normal.now
      (c.requires.by_type by_type).bare (normal_typed c.args.normal.now c.requires.sound);
  kept = all_written (g.C.Choices.choices c.args.choices.now) c.args.normal.now c.requires.by_type
      c.requires.by_sort c.keeps_types.ensures;
  encoded_is = c.requires.encoded;
  domain_is = rw (c.as_slice.ensures, c.requires.size) at c.in_ok-domain.ensures;
  sizes_are = λ by_sort. c.as_slice-2.ensures ∙ c.in_ok-sort_sizes.ensures by_sort;
  blocks = rw c.as_slice-3.ensures (rw c.as_slice-marks.ensures at c.in_ok-blocks.ensures);
}
