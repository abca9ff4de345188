-- Types without variables.
use Rattle.std.specs.Prelude.{ℕ, ◌≡◌, ◌⊎◌, Bool, true, IsTrue, List, [], ◌∷◌, ◌++◌, map, length, slice_get, Some}
use Rattle.std.proofs.Common.{sym, ap, subst, ◌∙◌, inl, inr}
use Rattle.std.proofs.lemmas.List.{map-append}
use Rattle.std.proofs.lemmas.Option.{none-some}
use Rattle.tf_core.specs.declared.ty.Ty.{Ty}
use Rattle.tf_core.specs.declared.ty.Ty.TheVariants as type
use Rattle.tf_core.specs.Types.{instantiate}
use Rattle.tf_core.proofs.Types.{instantiate-apply}
use Rattle.tf_types.specs.declared.node.TypeId.{TypeId}
use Rattle.tf_types.specs.Numbers.{Denotes, IsNumber, type_at, Extends}
use Rattle.tf_types.specs.declared.node.Node.{Node}
use Rattle.tf_types.specs.declared.node.Node.TheVariants.{Applied}
use Rattle.tf_types.specs.Nodes.{with_argument, given, IsFormed}
use Rattle.tf_types.specs.Instances.{IsGround, AreGround}
use Rattle.tf_types.proofs.Numbers.{in_front_or_last, slice_get-append, type_at-Denotes, Denotes-type_at}
use Rattle.tf_types.proofs.Nodes.{apply_parts, with_argument-is}

pub IsGround-constructor : (c : ℕ) → IsGround (type.Apply c [])
IsGround-constructor c instances = instantiate-apply instances c []

pub IsGround-with_argument : (function argument : Ty) (c : ℕ) (arguments : List Ty) →
    function ≡ type.Apply c arguments → IsGround function → IsGround argument →
    IsGround (with_argument function argument)
IsGround-with_argument function argument c arguments is first last instances =
    let inst : Ty → Ty = instantiate instances in
    let front : map inst arguments ≡ arguments =
    (apply_parts c c (map inst arguments) arguments
    (sym (instantiate-apply instances c arguments) ∙ ap inst (sym is) ∙ first instances ∙ is)).1 in
    let whole : with_argument function argument ≡ type.Apply c (arguments ++ argument ∷ []) =
    with_argument-is function argument c arguments is in
    ap inst whole
    ∙ instantiate-apply instances c (arguments ++ argument ∷ [])
    ∙ ap (type.Apply c)
    (map-append inst arguments (argument ∷ [])
    ∙ ap (λ types. types ++ inst argument ∷ []) front
    ∙ ap (λ ty. arguments ++ ty ∷ []) (last instances))
    ∙ sym whole

pub IsGround-given : (types : List Ty) (node : Node) (function argument : TypeId) →
    node ≡ Applied function argument → IsFormed types node → IsGround (type_at types function) →
    IsGround (type_at types argument) → IsGround (given types node)
IsGround-given types node function argument is formed first last =
    let parts : IsFormed types (Applied function argument) = subst (IsFormed types) is formed in
    subst (λ n. IsGround (given types n)) (sym is)
    (IsGround-with_argument (type_at types function) (type_at types argument) parts.2.0 parts.2.1
    parts.2.2 first last)

pub AreGround-nothing : (types : List Ty) → AreGround types []
AreGround-nothing types k at = absurd (none-some true at)

module _ (types : List Ty) (noted : List Bool) (ground : AreGround types noted) where
  pub IsGround-noted : (id : TypeId) → slice_get noted id.index ≡ Some true →
      IsGround (type_at types id)
  IsGround-noted id at =
      let found = ground id.index at in
      subst IsGround (sym (type_at-Denotes types id found.0 found.1)) found.2

  pub AreGround-extended : (new : List Ty) → Extends types new → AreGround new noted
  AreGround-extended new grows k at =
      let found = ground k at in (
        found.0,
        ap (λ them. slice_get them k) grows.1 ∙ slice_get-append types grows.0 k found.0 found.1,
        found.2,
      )

  pub AreGround-more : (flag : Bool) (ty : Ty) → slice_get types (length noted) ≡ Some ty →
      (IsTrue flag → IsGround ty) → AreGround types (noted ++ flag ∷ [])
  AreGround-more flag ty there is_ground k at = by (in_front_or_last noted flag k true at)
    where
      by : (slice_get noted k ≡ Some true) ⊎ ((k ≡ length noted) × (flag ≡ true)) →
          (ty : Ty) × (slice_get types k ≡ Some ty) × IsGround ty
      by (inl front) = ground k front
      by (inr last) = (ty, ap (slice_get types) last.0 ∙ there, is_ground last.1)

-- an instance of a type without variables
pub Denotes-ground : (types instances : List Ty) (id : TypeId) → IsNumber types id →
    IsGround (type_at types id) → Denotes types id (instantiate instances (type_at types id))
Denotes-ground types instances id number ground =
    Denotes-type_at types id number ∙ ap Some (sym (ground instances))
