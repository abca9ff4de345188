use Rattle.std.proofs.Common.{◌≡◌, map, take}
use Rattle.tf_core.specs.Substitution.{substitute_term}
use Rattle.tf_nnf.specs.NormalForm.{fresh_types}
use Rattle.tf_nnf.proofs.instance.+term_instance.Given as goal

abbrev pub invariant-term_instances-loop-term : goal.invariant-term_instances-loop-term
invariant-term_instances-loop-term l =
    l.made ≡ map (substitute_term (fresh_types l.fresh.first l.fresh.count)) (take l.term-index l.terms)
