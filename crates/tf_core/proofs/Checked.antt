-- What a test of the parts of a type, term or formula makes.
use Rattle.std.specs.Prelude.{ℕ, ◌≡◌, Bool, true, false, ◌&&◌, List, length, slice_get}
use Rattle.std.proofs.Common.{sym, ap, ◌∙◌}
use Rattle.tf_core.specs.declared.ty.Ty.{Ty}
use Rattle.tf_core.specs.declared.ty.Ty.TheVariants as type
use Rattle.tf_core.specs.declared.signature.Signature.{Signature}
use Rattle.tf_core.specs.TypingTests.{takes, is_type, are_types}
use Rattle.tf_core.proofs.TypingTests.{is_type-apply}

module _ (g : Signature) (variables : ℕ) (ty : Ty) (c : ℕ) (types : List Ty) (taken : Bool) where
  pub formed_then : (rest : Bool) → ty ≡ type.Apply c types →
      taken ≡ takes (slice_get g.constructors c) (length types) → taken ≡ true →
      rest ≡ are_types g variables types → rest ≡ is_type g variables ty
  formed_then rest is takes_is holds rest_is =
      rest_is
      ∙ ap (λ b. b && are_types g variables types) (sym holds ∙ takes_is)
      ∙ sym (ap (is_type g variables) is ∙ is_type-apply g variables c types)

  pub formed_else : ty ≡ type.Apply c types →
      taken ≡ takes (slice_get g.constructors c) (length types) → taken ≡ false →
      taken ≡ is_type g variables ty
  formed_else is takes_is fails =
      fails
      ∙ ap (λ b. b && are_types g variables types) (sym fails ∙ takes_is)
      ∙ sym (ap (is_type g variables) is ∙ is_type-apply g variables c types)
