use Rattle.std.proofs.Common.{sym, ◌∙◌, arith}
use Rattle.std.proofs.lemmas.Bool.{false≢true}
use Rattle.tf_core.specs.declared.problem.Stated.{Stated}
use Rattle.tf_core.specs.Counts.{depth}
use Rattle.tf_core.specs.TypedTables.{reading}
use Rattle.tf_models.specs.Reading.{tables}
use Rattle.tf_models.proofs.FormulaParts.{at_most_greatest}
use Rattle.tf_models.proofs.StatedParts.{first_false, no_model}
use Rattle.tf_models.proofs.structure.TypedStructure.first_false.Goals as goal

pub is_as_stated-requires-clause-types : goal.is_as_stated-requires-clause-types
is_as_stated-requires-clause-types c =
    rw c.loop-index.invariant.kept
    (omega (
      arith,
      c.requires.types,
      rw c.as_slice-stated-items.ensures at
          (at_most_greatest (λ (x : Stated). x.type_variables) c.as_slice-stated-items.result.now
          c.loop-index.index c.stated-item.result c.loop-index-test.true c.stated-item.is),
    ))

pub is_as_stated-requires-clause-terms : goal.is_as_stated-requires-clause-terms
is_as_stated-requires-clause-terms c =
    rw c.loop-index.invariant.kept
    (omega (
      arith,
      c.requires.terms,
      rw c.as_slice-stated-items.ensures at
          (at_most_greatest (λ (x : Stated). depth x.body) c.as_slice-stated-items.result.now
          c.loop-index.index c.stated-item.result c.loop-index-test.true c.stated-item.is),
    ))

pub returns-then-not-is_as_stated-clause-exact : goal.returns-then-not-is_as_stated-clause-exact
returns-then-not-is_as_stated-clause-exact c = (
  λ none. absurd cc,
  λ model.
      absurd
      (no_model (reading c.args.problem.now.signature (tables c.args.self.now))
      c.args.problem.now.formulas c.loop-index.index c.stated-item.result
      (rw c.as_slice-stated-items.ensures at c.loop-index-test.true)
      (rw c.as_slice-stated-items.ensures at c.stated-item.is)
      (λ holds. false≢true (sym c.if-not-is_as_stated.true ∙ c.is_as_stated.ensures.exact.1 holds))
      model.model.formulas),
)

pub returns-then-not-is_as_stated-clause-least : goal.returns-then-not-is_as_stated-clause-least
returns-then-not-is_as_stated-clause-least c =
    first_false (reading c.args.problem.now.signature (tables c.args.self.now))
    c.args.problem.now.formulas c.loop-index.index c.stated-item.result
    (rw c.as_slice-stated-items.ensures at c.loop-index-test.true)
    (rw c.as_slice-stated-items.ensures at c.stated-item.is)
    (λ holds. false≢true (sym c.if-not-is_as_stated.true ∙ c.is_as_stated.ensures.exact.1 holds))
    c.loop-index.invariant.so_far
