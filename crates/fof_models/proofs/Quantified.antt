-- What the truth of a quantified formula says.
use Rattle.std.specs.Prelude.{ℕ, ◌<◌, ◌↔◌, List, ◌∷◌, IsTrue}
use Rattle.enc_base.proofs.Quantifiers.{all_below-says, some_below-says}
use Rattle.fof_models.specs.declared.formula.Fof.{Fof}
use Rattle.fof_models.specs.declared.formula.Fof.TheVariants.{ForAll, Exists}
use Rattle.fof_models.specs.Structures.{Untyped}
use Rattle.fof_models.specs.Truth.{truth}
use Rattle.fof_models.proofs.Truth.{truth-for_all, truth-exists}

pub truth-for_all-says : (s : Untyped) (body : Fof) (elements : List ℕ) →
    IsTrue (truth s (ForAll body) elements)
    ↔ ((element : ℕ) → element < s.size → IsTrue (truth s body (element ∷ elements)))
truth-for_all-says s body elements =
    rw (truth-for_all s body elements)
    (all_below-says s.size (λ element. truth s body (element ∷ elements)))

pub truth-exists-says : (s : Untyped) (body : Fof) (elements : List ℕ) →
    IsTrue (truth s (Exists body) elements)
    ↔ ((element : ℕ) × (element < s.size) × IsTrue (truth s body (element ∷ elements)))
truth-exists-says s body elements =
    rw (truth-exists s body elements)
    (some_below-says s.size (λ element. truth s body (element ∷ elements)))
