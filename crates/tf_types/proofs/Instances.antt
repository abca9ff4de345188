-- Instances that are kept.
use Rattle.std.specs.Prelude.{ℕ, ◌≡◌, Bool, true, false, if◌then◌else◌, cond, List, [], ◌∷◌, Some}
use Rattle.std.specs.Map.{lookup}
use Rattle.std.proofs.Common.{refl, sym, ap, subst, ◌∙◌}
use Rattle.std.proofs.lemmas.Option.{none-some, same_Some}
use Rattle.indexmap.specs.IndexMap.{insert_entry}
use Rattle.tf_core.specs.declared.ty.Ty.{Ty}
use Rattle.tf_core.specs.declared.ty.Ty.TheVariants as type
use Rattle.tf_core.specs.declared.ty.Ty.TheViews.{outs-Apply}
use Rattle.tf_core.specs.Types.{instantiate}
use Rattle.tf_types.specs.declared.node.TypeId.{TypeId}
use Rattle.tf_types.specs.declared.node.Asked.{Asked}
use Rattle.tf_types.specs.Numbers.{Denotes, type_at, Extends}
use Rattle.tf_types.specs.Instances.{arguments_of, arguments_step, IsInstance, AreInstances}
use Rattle.tf_types.proofs.Numbers.{Denotes-extended, IsNumber-extended, type_at-extended}

pub arguments_of-apply : (c : ℕ) (arguments : List Ty) →
    arguments_of (type.Apply c arguments) ≡ arguments
unfolding arguments_of
arguments_of-apply c arguments = ap arguments_step (outs-Apply c arguments)

-- a table that grows keeps its instances

module _ (old new : List Ty) (grows : Extends old new) where
  pub IsInstance-extended : (asked : Asked) (made : TypeId) → IsInstance old asked made →
      IsInstance new asked made
  IsInstance-extended asked made instance = (
    IsNumber-extended old new grows asked.ty instance.0,
    IsNumber-extended old new grows asked.types instance.1,
    subst (Denotes new made)
        (ap (λ ty. instantiate (arguments_of (type_at old asked.types)) ty)
        (sym (type_at-extended old new grows asked.ty instance.0))
        ∙ ap (λ types. instantiate (arguments_of types) (type_at new asked.ty))
        (sym (type_at-extended old new grows asked.types instance.1)))
        (Denotes-extended old new grows made
        (instantiate (arguments_of (type_at old asked.types)) (type_at old asked.ty)) instance.2),
  )

  pub AreInstances-extended : (entries : List (Asked × TypeId)) → AreInstances old entries →
      AreInstances new entries
  AreInstances-extended [] instances = tt
  AreInstances-extended (entry ∷ entries) instances = (
    IsInstance-extended entry.0 entry.1 instances.0,
    AreInstances-extended entries instances.1,
  )

-- what is found among entries, and what is put there

module _ (eq : Asked → Asked → Bool) (same : (x y : Asked) → eq x y ≡ true → x ≡ y)
    (types : List Ty) (asked : Asked) (made : TypeId)
  where
    pub IsInstance-found : (entries : List (Asked × TypeId)) → AreInstances types entries →
        lookup (eq asked) entries ≡ Some made → IsInstance types asked made
    IsInstance-found [] instances found = absurd (none-some made found)
    IsInstance-found (entry ∷ entries) instances found =
        by (IsInstance-found entries instances.1) (eq asked entry.0) refl
      where
        by : (lookup (eq asked) entries ≡ Some made → IsInstance types asked made) →
            (here : Bool) → eq asked entry.0 ≡ here → IsInstance types asked made
        by behind true is =
            subst (λ key. IsInstance types key made) (sym (same asked entry.0 is))
            (subst (IsInstance types entry.0)
            (same_Some entry.1 made
            (sym (ap (λ b. cond b (Some entry.1) (lookup (eq asked) entries)) is) ∙ found))
            instances.0)
        by behind false is =
            behind
            (sym (ap (λ b. cond b (Some entry.1) (lookup (eq asked) entries)) is) ∙ found)

    pub AreInstances-insert_entry : (entries : List (Asked × TypeId)) → AreInstances types entries →
        IsInstance types asked made → AreInstances types (insert_entry eq entries asked made)
    AreInstances-insert_entry [] instances instance = (instance, tt)
    AreInstances-insert_entry (entry ∷ entries) instances instance =
        by (AreInstances-insert_entry entries instances.1 instance) (eq asked entry.0) refl
      where
        by : AreInstances types (insert_entry eq entries asked made) → (here : Bool) →
            eq asked entry.0 ≡ here → AreInstances types
            (if here then (entry.0, made) ∷ entries else entry ∷ insert_entry eq entries asked made)
        by behind true is =
            (subst (λ key. IsInstance types key made) (same asked entry.0 is) instance, instances.1)
        by behind false is = (instances.0, behind)
