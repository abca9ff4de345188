use Rattle.std.proofs.Common.{◌≡◌, ℕ, [], ◌∷◌, length}
use Rattle.tf_core.specs.declared.signature.Signature.{Signature}
use Rattle.tf_models.specs.Fit.{IsInhabited}
use Rattle.model_tables.specs.Places.{AtSize}
use Rattle.model_tables.specs.Steps.{Stands}
use Rattle.model_tables.specs.Leads.{lead, arrive}
use Rattle.model_tables.specs.Typed.{typed}
use Rattle.model_tables.proofs.sizes.more_sizes.Given as goal

-- the answer is that from the sizes so far on, none of which is 0
abbrev pub invariant-sizes : goal.invariant-sizes
invariant-sizes l = record {
  goes : (g : Signature) (total : ℕ)
      → arrive (typed g) total (Stands (AtSize (l.fn.first ∷ []))) l.fn.reader
      ≡ lead (typed g) total (Stands (AtSize l.sizes)) l.reader;
  inhabited : IsInhabited l.sizes;
}

abbrev pub decreases-sizes : goal.decreases-sizes
decreases-sizes l = length l.reader.words
