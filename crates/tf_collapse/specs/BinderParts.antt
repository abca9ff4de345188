-- The binders that stand in a formula.
use Rattle.std.specs.Prelude.{ℕ, ◌≡◌, List, slice_get, Some}
use Rattle.tf_core.specs.declared.ty.Ty.{Ty}
use Rattle.tf_core.specs.declared.nnf.Nnf.{Nnf}
use Rattle.tf_core.specs.declared.nnf.Nnf.TheVariants as nnf
use Rattle.tf_naked.specs.declared.position.Kind.{Kind}
use Rattle.tf_naked.specs.declared.position.Kind.TheVariants.{Universal, Existential}

-- a binder of this kind and type stands in a formula, round this body
pub data HasBinder (ty : Ty) (body : Nnf) : Kind → Nnf → Type 0 where
  universal : HasBinder ty body Universal (nnf.ForAll ty body)
  existential : HasBinder ty body Existential (nnf.Exists ty body)
  in_universal : (kind : Kind) (other : Ty) (inner : Nnf) → HasBinder ty body kind inner →
      HasBinder ty body kind (nnf.ForAll other inner)
  in_existential : (kind : Kind) (other : Ty) (inner : Nnf) → HasBinder ty body kind inner →
      HasBinder ty body kind (nnf.Exists other inner)
  in_and : (kind : Kind) (parts : List Nnf) (i : ℕ) (part : Nnf) → slice_get parts i ≡ Some part →
      HasBinder ty body kind part → HasBinder ty body kind (nnf.And parts)
  in_or : (kind : Kind) (parts : List Nnf) (i : ℕ) (part : Nnf) → slice_get parts i ≡ Some part →
      HasBinder ty body kind part → HasBinder ty body kind (nnf.Or parts)
