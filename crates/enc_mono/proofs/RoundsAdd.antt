-- One round more knows and admits what was known and admitted.
use Rattle.std.specs.Prelude.{ℕ, zero, suc, List}
use Rattle.std.proofs.Common.{inl}
use Rattle.tf_core.specs.declared.ty.Ty.{Ty}
use Rattle.tf_core.specs.declared.signature.Signature.{Signature}
use Rattle.tf_core.specs.declared.normal.NormalFormula.{NormalFormula}
use Rattle.tf_core.specs.declared.normal.Normal.{Normal}
use Rattle.enc_mono.specs.declared.instances.Origin.{Origin}
use Rattle.enc_mono.specs.Rounds.{IsKnown, IsAdmitted, IsAdmittedBy}

-- a larger set admits more
pub admitted_by-more : (known more : Origin → Type 0) → ((origin : Origin) → known origin →
    more origin) →
    (g : Signature) (formula : NormalFormula) (types : List Ty) →
    IsAdmittedBy known g formula types → IsAdmittedBy more g formula types
admitted_by-more known more grows g formula types is = record {
  polymorphic = is.polymorphic;
  ground = is.ground;
  found = λ i within. let at = is.found i within in record {
    origin = at.origin;
    stands = at.stands;
    has = at.has;
    is_known = grows _ at.is_known;
  };
}

pub admitted-more : (normal : Normal) (rounds : ℕ) (formula : NormalFormula) (types : List Ty) →
    IsAdmitted normal rounds formula types → IsAdmitted normal (suc rounds) formula types
admitted-more normal zero formula types is = absurd is
admitted-more normal (suc rounds) formula types is =
    admitted_by-more (IsKnown normal rounds) (IsKnown normal (suc rounds))
    (λ origin known. inl known)
    normal.signature formula types is
