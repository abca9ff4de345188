use Rattle.std.specs.Prelude.{◌^◌}
use Rattle.std.proofs.Common.{map}
use Rattle.std.proofs.lemmas.List.Folds.{list_all-map}
use Rattle.tf_core.specs.Substitution.{raised, shift, variables_below}
use Rattle.tf_core.proofs.Substitution.{shift-apply, shift-variable, variables_below-apply, variables_below-variable}
use Rattle.tfenc_cases.proofs.bounds.+is_below.Goals as goal

pub is_below-returns-in-Var : goal.is_below-returns-in-Var
is_below-returns-in-Var t c =
    cc (
      shift-variable c.args.by c.args.from c.in-Var.i,
      variables_below-variable (2 ^ 32) (raised c.args.by c.args.from c.in-Var.i),
    )

pub is_below-returns-in-Apply : goal.is_below-returns-in-Apply
is_below-returns-in-Apply t c =
    cc (
      shift-apply c.args.by c.args.from c.in-Apply.field-0 c.in-Apply.field-1 c.in-Apply.terms,
      variables_below-apply (2 ^ 32) c.in-Apply.field-0 c.in-Apply.field-1
          (map (shift c.args.by c.args.from) c.in-Apply.terms),
      list_all-map (variables_below (2 ^ 32)) (shift c.args.by c.args.from) c.in-Apply.terms,
    )
