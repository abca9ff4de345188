-- Choices that have no guard and no tag.
use Rattle.std.specs.Prelude.{◌≡◌, Bool, false}
use Rattle.tf_core.specs.declared.ty.Ty.{Ty}
use Rattle.tf_core.specs.declared.signature.Symbol.{Symbol}
use Rattle.tf_naked.specs.declared.position.Position.{Position}
use Rattle.tf_naked.specs.declared.position.Kind.{Kind}
use Rattle.enc_marks.specs.Choices.{Choices}
use Rattle.enc_laws.specs.MergedStructure.{kept_count}

-- no term has a tag, nothing is bound to its type, and there are no axioms
pub record IsBare (c : Choices) : Type 0 where
  pub tagged : (position : Position) (kind : Kind) (ty : Ty) → c.tagged position kind ty ≡ false
  pub universal : (undercover naked : Bool) (ty : Ty) → c.universal undercover naked ty ≡ false
  pub existential : (ty : Ty) → c.existential ty ≡ false
  pub typing : (ty : Ty) → c.typing ty ≡ false
  pub last : (ty : Ty) → c.last ty ≡ false

-- each type argument is written, and nothing else of types
pub record WritesTypeArguments (c : Choices) : Type 0 where
  pub bare : IsBare c
  pub all_kept : (symbol : Symbol) → kept_count c symbol ≡ symbol.parameters
