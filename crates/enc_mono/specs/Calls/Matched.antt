-- Substitutions under which patterns are instances that an index has.
use Rattle.std.specs.Prelude.{ℕ, ◌≡◌, ◌≢◌, ◌<◌, ◌≤◌, List, [], ◌∷◌, map, length, IsTrue}
use Rattle.std.specs.List.{Contains, AllByRecursion}
use Rattle.tf_core.specs.declared.ty.Ty.{Ty}
use Rattle.tf_core.specs.declared.ty.Ty.TheVariants.{Apply}
use Rattle.tf_core.specs.Types.{instantiate}
use Rattle.tf_core.specs.Occurrences.{occurs_in_type}
use Rattle.tf_types.specs.declared.node.TypeId.{TypeId}
use Rattle.tf_types.specs.Numbers.{AreNumbers, type_at}
use Rattle.enc_mono.specs.Calls.Numbered.{numbers_of}

-- under the substitution the pattern is an instance that stands in the index under its symbol
pub record IsInstanceOf (types : List Ty) (index : List (List TypeId)) (substitution : List Ty)
    (pattern : Ty) : Type 0 where
  pub symbol : ℕ
  pub arguments : List Ty
  pub applied : pattern ≡ Apply symbol arguments
  pub id : TypeId
  pub stands : Contains (numbers_of index symbol) id
  pub is_instance : instantiate substitution pattern ≡ type_at types id

-- the type variable occurs in such a pattern
pub record IsMatched (types : List Ty) (index : List (List TypeId)) (patterns : List Ty)
    (substitution : List Ty) (i : ℕ) : Type 0 where
  pub pattern : Ty
  pub of_formula : Contains patterns pattern
  pub has : IsTrue (occurs_in_type i pattern)
  pub known : IsInstanceOf types index substitution pattern

-- each of so many type variables does
pub record AreMatched (types : List Ty) (index : List (List TypeId)) (patterns : List Ty)
    (variables : ℕ) (substitution : List Ty) : Type 0 where
  pub count : length substitution ≡ variables
  pub each : (i : ℕ) → i < variables → IsMatched types index patterns substitution i

-- what numbers denote
abbrev pub denoted : List Ty → List TypeId → List Ty
denoted types ids = map (type_at types) ids

-- each item differs from all later ones
abbrev pub AreDistinct : {A : Type 0} → List A → Type 0
AreDistinct [] = Unit {0}
AreDistinct (item ∷ items) = AllByRecursion (λ other. item ≢ other) items × AreDistinct items

-- Such substitutions as numbers, each once; where they are no more than a limit, all.
pub record AreMatchedUpTo (types : List Ty) (index : List (List TypeId)) (patterns : List Ty)
    (variables most : ℕ) (found : List (List TypeId)) : Type 0 where
  pub numbers : AllByRecursion (AreNumbers types) found
  pub each : AllByRecursion (λ ids.
      AreMatched types index patterns variables (denoted types ids)) found
  pub once : AreDistinct found
  pub whole : length found ≤ most → (substitution : List Ty) →
      AreMatched types index patterns variables substitution →
      (ids : List TypeId) × Contains found ids × (substitution ≡ denoted types ids)
