use Rattle.std.proofs.Common.{◌≡◌, map, take}
use Rattle.tf_nnf.specs.NormalForm.{made}
use Rattle.tf_nnf.proofs.form.+form.Given as goal

abbrev pub invariant-list-loop-part : goal.invariant-list-loop-part
invariant-list-loop-part l =
    l.forms ≡ map (made l.fresh.first l.fresh.count l.positive) (take l.part-index l.parts)
