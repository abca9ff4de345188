use Rattle.std.proofs.Common.{ap, ◌∙◌, arith, slice_get}
use Rattle.model_tables.proofs.MarkedNames.{missing_among-mark}
use Rattle.model_tables.proofs.marks.Marks.mark.Goals as goal

pub overflow_sub-self : goal.overflow_sub-self
overflow_sub-self c =
    let unmarked = ap (λ m. slice_get m c.args.at) c.self.view_is ∙ c.requires in
    omega (
      arith,
      c.self.invariant.missing,
      missing_among-mark c.self.inside.marks.items c.args.at unmarked,
    )

pub invariant_of-self : goal.invariant_of-self
invariant_of-self c =
    let unmarked = ap (λ m. slice_get m c.args.at) c.self.view_is ∙ c.requires in
    record {
      missing =
          omega (
            arith,
            c.self.invariant.missing,
            missing_among-mark c.self.inside.marks.items c.args.at unmarked,
          );
    }
