-- The equations of the list of a formula's universal binders, one a variant, in their order.
use Rattle.std.specs.Prelude.{ℕ, ◌+◌, ◌<◌, ◌≤◌, ◌≡◌, Bool, List, [], ◌∷◌, ◌++◌, length, drop, map, get_or, set}
use Rattle.std.proofs.Common.{refl, sym, ap, ◌∙◌}
use Rattle.std.proofs.lemmas.List.{append-nil, append_assoc, drop_more, drop_all, set_at}
use Rattle.tf_core.specs.declared.ty.Ty.{Ty}
use Rattle.tf_core.specs.declared.term.Term.{Term}
use Rattle.tf_core.specs.declared.nnf.Nnf.{Nnf, roll-Nnf}
use Rattle.tf_core.specs.declared.nnf.Nnf.TheVariants as nnf
use Rattle.tf_core.specs.declared.nnf.Nnf.TheOpen.{Nnf-F}
use Rattle.tf_core.specs.declared.nnf.Nnf.TheOpen as layer
use Rattle.tf_core.specs.declared.nnf.Nnf.TheFolds.{map-Nnf, para-roll-Nnf}
use Rattle.tf_core.specs.declared.signature.Signature.{Signature}
use Rattle.tf_core.specs.Sorts.{joined}
use Rattle.tf_naked.specs.declared.binder.Binder.{Binder}
use Rattle.tf_naked.specs.Binders.{binder_of, universal_binders, universal_binders_step}

module _ (g : Signature) where
  universal_binders-roll : (x : Nnf-F Nnf) →
      universal_binders g (roll-Nnf x)
      ≡ universal_binders_step g
      (map-Nnf Nnf (Nnf × List Binder) (λ part. (part, universal_binders g part)) x)
  unfolding universal_binders
  universal_binders-roll x = para-roll-Nnf (List Binder) (universal_binders_step g) x

  -- the binders that stand beside the parts
  each_second : (parts : List Nnf) →
      map (λ (pair : Nnf × List Binder). pair.1)
      (map (λ part. (part, universal_binders g part)) parts)
      ≡ map (universal_binders g) parts
  each_second [] = refl
  each_second (part ∷ parts) = ap (λ lists. universal_binders g part ∷ lists) (each_second parts)

  pub universal_binders-true : universal_binders g nnf.True ≡ []
  universal_binders-true =
      ap (universal_binders g) (sym nnf.rolls-True) ∙ universal_binders-roll layer.True

  pub universal_binders-false : universal_binders g nnf.False ≡ []
  universal_binders-false =
      ap (universal_binders g) (sym nnf.rolls-False) ∙ universal_binders-roll layer.False

  pub universal_binders-atom : (positive : Bool) (f : ℕ) (types : List Ty) (terms : List Term) →
      universal_binders g (nnf.Atom positive f types terms) ≡ []
  universal_binders-atom positive f types terms =
      ap (universal_binders g) (sym (nnf.rolls-Atom positive f types terms))
      ∙ universal_binders-roll (layer.Atom positive f types terms)

  pub universal_binders-equation : (positive : Bool) (ty : Ty) (left right : Term) →
      universal_binders g (nnf.Equation positive ty left right) ≡ []
  universal_binders-equation positive ty left right =
      ap (universal_binders g) (sym (nnf.rolls-Equation positive ty left right))
      ∙ universal_binders-roll (layer.Equation positive ty left right)

  pub universal_binders-and : (parts : List Nnf) →
      universal_binders g (nnf.And parts) ≡ joined (map (universal_binders g) parts)
  universal_binders-and parts =
      ap (universal_binders g) (sym (nnf.rolls-And parts))
      ∙ universal_binders-roll (layer.And parts)
      ∙ ap joined (each_second parts)

  pub universal_binders-or : (parts : List Nnf) →
      universal_binders g (nnf.Or parts) ≡ joined (map (universal_binders g) parts)
  universal_binders-or parts =
      ap (universal_binders g) (sym (nnf.rolls-Or parts))
      ∙ universal_binders-roll (layer.Or parts)
      ∙ ap joined (each_second parts)

  pub universal_binders-for_all : (ty : Ty) (body : Nnf) →
      universal_binders g (nnf.ForAll ty body) ≡ binder_of g body ∷ universal_binders g body
  universal_binders-for_all ty body =
      ap (universal_binders g) (sym (nnf.rolls-ForAll ty body))
      ∙ universal_binders-roll (layer.ForAll ty body)

  pub universal_binders-exists : (ty : Ty) (body : Nnf) →
      universal_binders g (nnf.Exists ty body) ≡ universal_binders g body
  universal_binders-exists ty body =
      ap (universal_binders g) (sym (nnf.rolls-Exists ty body))
      ∙ universal_binders-roll (layer.Exists ty body)

-- steps of a walk that appends binders

pub append-none : (found binders : List Binder) → binders ≡ [] → found ≡ found ++ binders
append-none found binders none = sym (ap (λ xs. found ++ xs) none ∙ append-nil found)

module _ (binders_in : Nnf → List Binder) (found : List Binder) (parts : List Nnf) (i : ℕ) where
  pub joined-step : (part : Nnf) → i < length parts → part ≡ get_or parts i part →
      (found ++ binders_in part) ++ joined (map binders_in (drop (i + 1) parts))
      ≡ found ++ joined (map binders_in (drop i parts))
  joined-step part within is =
      append_assoc found (binders_in part) _
      ∙ ap (λ xs. found ++ joined (map binders_in xs))
      (ap (λ x. x ∷ drop (i + 1) parts) is ∙ sym (drop_more parts i part within))

  pub joined-end : length parts ≤ i → found ++ joined (map binders_in (drop i parts)) ≡ found
  joined-end ends =
      ap (λ xs. found ++ joined (map binders_in xs)) (drop_all i parts ends) ∙ append-nil found

-- a binder's own place, filled in behind the binders of its body
pub set-placed : (found pushed all binders : List Binder) (place : ℕ) (first binder : Binder) →
    place ≡ length found → pushed ≡ found ++ first ∷ [] → all ≡ pushed ++ binders →
    set all place binder ≡ found ++ binder ∷ binders
set-placed found pushed all binders place first binder places pushes appends =
    ap (λ xs. set xs place binder)
    (appends ∙ ap (λ xs. xs ++ binders) pushes ∙ append_assoc found (first ∷ []) binders)
    ∙ set_at found first binders binder place (sym places)
