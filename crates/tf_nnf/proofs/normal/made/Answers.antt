use Rattle.std.proofs.Common.{arith, ap, length}
use Rattle.tf_nnf.proofs.NormalProblem.{fresh_bounded}
use Rattle.tf_nnf.proofs.normal.made.Goals as goal

pub invariant_of-normal_formulas : goal.invariant_of-normal_formulas
invariant_of-normal_formulas c =
    let problem = c.args.problem.now in
    let few = fresh_bounded problem.signature problem.formulas c.requires.sound.formulas in
    let constructors = c.requires.sound.signature.constructor_count in
    let lent = rw c.as_slice-stated.ensures at c.fresh_count-fresh.ensures in
    record { within = omega (arith, few, constructors, lent, ap length c.as_slice.ensures) }
