use Rattle.std.proofs.Common.{arith, ap, ◌≤◌, sym, subst}
use Rattle.std.proofs.lemmas.Result.{err_from_is_err_and}
use Rattle.tf_core.specs.Sound.{IsSoundNormal}
use Rattle.tf_nnf.specs.Nodes.{normal_nodes}
use Rattle.tf_nnf.specs.NormalForm.{normal_of}
use Rattle.tf_nnf.specs.Refusal.{most_nodes}
use Rattle.tf_nnf.proofs.NormalProblem.{normal_nodes-normal_of}
use Rattle.tf_nnf.proofs.SoundNormal.{normal_sound}
use Rattle.tf_nnf.proofs.normal.normalise.Goals as goal

pub returns-then-nodes-gt-MOST_NODES-clause-refused :
    goal.returns-then-nodes-gt-MOST_NODES-clause-refused
returns-then-nodes-gt-MOST_NODES-clause-refused c =
    let whole = normal_nodes-normal_of c.args.problem.now in
    let counted = rw c.as_slice-stated.ensures at c.problem_nodes-nodes.ensures in
    (omega (arith, whole, counted), omega (arith, whole, counted))

pub returns-clause-within : goal.returns-clause-within
returns-clause-within c =
    let whole = normal_nodes-normal_of c.args.problem.now in
    let counted = rw c.as_slice-stated.ensures at c.problem_nodes-nodes.ensures in
    omega (arith, whole, counted, ap normal_nodes c.in_ok-normal.ensures)

pub returns-clause-sound : goal.returns-clause-sound
returns-clause-sound c =
    let whole = normal_nodes-normal_of c.args.problem.now in
    let counted = rw c.as_slice-stated.ensures at c.problem_nodes-nodes.ensures in
    let few : normal_nodes (normal_of c.args.problem.now) ≤ most_nodes = omega (arith, whole, counted) in
    subst IsSoundNormal (sym c.in_ok-normal.ensures)
    (normal_sound c.args.problem.now c.requires.sound few)

pub returns-in_err-normal-clause-refused : goal.returns-in_err-normal-clause-refused
returns-in_err-normal-clause-refused c =
    let whole = normal_nodes-normal_of c.args.problem.now in
    let counted = rw c.as_slice-stated.ensures at c.problem_nodes-nodes.ensures in
    let few : normal_nodes (normal_of c.args.problem.now) ≤ most_nodes = omega (arith, whole, counted) in
    let failed = err_from_is_err_and c.from_residual.result c.from_residual.ensures.1 in
    rw (failed.1, failed.2) few
