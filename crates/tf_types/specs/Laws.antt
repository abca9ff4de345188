-- What numbers promise to whoever holds them.
use Rattle.std.specs.Prelude.{◌≡◌, ◌<◌, ◌↔◌, ◌⊎◌, ℕ, IsTrue, List, length, slice_get, Option, Some}
use Rattle.tf_core.specs.declared.ty.Ty.{Ty}
use Rattle.tf_core.specs.Occurrences.{occurs_in_types}
use Rattle.tf_types.specs.declared.node.TypeId.{TypeId}
use Rattle.tf_types.specs.Numbers.{Denotes, Extends, IsOneToOne, type_at}
use Rattle.tf_types.specs.Matching.{Matches, IsMatch, IsBound}

-- two numbers of a table are equal exactly where they denote equal types
abbrev pub NumbersTellTypesApart : Type 0
NumbersTellTypesApart = (types : List Ty) (a b : TypeId) (left right : Ty) → IsOneToOne types →
    Denotes types a left → Denotes types b right → (a ≡ b) ↔ (left ≡ right)

-- a number denotes what it did, whatever is added to its table
abbrev pub NumbersKeepTheirTypes : Type 0
NumbersKeepTheirTypes = (old new : List Ty) (id : TypeId) (ty : Ty) → Extends old new →
    Denotes old id ty → Denotes new id ty

-- Something is found only where some types match. It leaves each bound variable its type, and binds
-- those and the variables that occur in a pattern, and no others.
pub record MatchesBindWhatOccurs : Type 0 where
  pub found : (types : List Ty) (bound : List (Option TypeId)) (patterns : List Ty)
      (ids : List TypeId) (extended : List (Option TypeId)) →
      IsMatch types bound patterns ids (Some extended) →
      (instances : List Ty) × Matches types bound patterns ids instances
  pub kept : (types : List Ty) (bound : List (Option TypeId)) (patterns : List Ty)
      (ids : List TypeId) (extended : List (Option TypeId)) →
      IsMatch types bound patterns ids (Some extended) → (i : ℕ) (id : TypeId) →
      slice_get bound i ≡ Some (Some id) →
      (other : TypeId) × (slice_get extended i ≡ Some (Some other))
      × (type_at types other ≡ type_at types id)
  pub binds : (types : List Ty) (bound : List (Option TypeId)) (patterns : List Ty)
      (ids : List TypeId) (extended : List (Option TypeId)) →
      IsMatch types bound patterns ids (Some extended) → (i : ℕ) → i < length bound →
      IsBound extended i ↔ (IsBound bound i ⊎ IsTrue (occurs_in_types i patterns))
