-- The numbers of substitutions that known symbol instances admit.
use Rattle.std.specs.Prelude.{ℕ, ◌≡◌, ◌≤◌, List, length}
use Rattle.std.specs.List.{Contains, AllByRecursion}
use Rattle.tf_core.specs.declared.ty.Ty.{Ty}
use Rattle.tf_core.specs.declared.signature.Signature.{Signature}
use Rattle.tf_core.specs.declared.normal.NormalFormula.{NormalFormula}
use Rattle.tf_types.specs.declared.node.TypeId.{TypeId}
use Rattle.tf_types.specs.Numbers.{AreNumbers}
use Rattle.enc_mono.specs.declared.instances.Origin.{Origin}
use Rattle.enc_mono.specs.Rounds.{IsAdmittedBy}
use Rattle.enc_mono.specs.Calls.Matched.{AreDistinct, denoted}

-- Substitutions of a formula that a set of symbol instances admits, as numbers, each once; where
-- they are no more than a limit, all.
pub record AreAdmittedUpTo (types : List Ty) (known : Origin → Type 0) (g : Signature)
    (formula : NormalFormula) (most : ℕ) (found : List (List TypeId)) : Type 0 where
  pub numbers : AllByRecursion (AreNumbers types) found
  pub each : AllByRecursion (λ ids. IsAdmittedBy known g formula (denoted types ids)) found
  pub once : AreDistinct found
  pub whole : length found ≤ most → (substitution : List Ty) →
      IsAdmittedBy known g formula substitution →
      (ids : List TypeId) × Contains found ids × (substitution ≡ denoted types ids)
