use Rattle.std.proofs.Common.{◌≡◌, map, take}
use Rattle.tf_core.specs.Substitution.{substitute_term}
use Rattle.tf_core.proofs.term.+substitute.Given as goal

abbrev pub invariant-substituted_terms-loop-term : goal.invariant-substituted_terms-loop-term
invariant-substituted_terms-loop-term l = l.made ≡ map (substitute_term l.types) (take l.term-index l.terms)
