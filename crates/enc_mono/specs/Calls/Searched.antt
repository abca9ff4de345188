-- A search for substitutions, from partial ones that bind ever more type variables.
use Rattle.std.specs.Prelude.{ℕ, ◌≡◌, ◌<◌, ◌+◌, ◌*◌, ◌-◌, ◌^◌, ◌⊎◌, Bool, true, false, List, [], ◌∷◌, ◌++◌, map, length, replicate, Option, Some, None, IsTrue}
use Rattle.std.specs.List.{Contains, AllByRecursion}
use Rattle.tf_core.specs.declared.ty.Ty.{Ty}
use Rattle.tf_core.specs.declared.ty.Ty.TheVariants.{Apply}
use Rattle.tf_core.specs.Types.{instantiate}
use Rattle.tf_core.specs.Occurrences.{occurs_in_type}
use Rattle.tf_types.specs.declared.node.TypeId.{TypeId}
use Rattle.tf_types.specs.Numbers.{type_at}
use Rattle.tf_types.specs.Matching.{KeepsTo, AreBound, IsMatch, IsBound}
use Rattle.enc_mono.specs.declared.search.Search.{Search}
use Rattle.enc_mono.specs.Calls.Numbered.{numbers_of}
use Rattle.enc_mono.specs.Calls.Matched.{IsMatched, AreMatched}

-- a partial substitution: the number to which each type variable is bound, where it is
abbrev pub Partial : Type 0
Partial = List (Option TypeId)

-- where none of so many type variables is bound
abbrev pub nothing_bound : ℕ → Partial
nothing_bound variables = replicate variables None

-- each type variable is bound
abbrev pub IsTotal : Partial → Type 0
IsTotal bound = (i : ℕ) → i < length bound → IsBound bound i

-- all type variables are bound, to these numbers
abbrev pub bound_to : List TypeId → Partial
bound_to ids = map Some ids

-- what the first binds, the second does
abbrev pub BindsMore : Partial → Partial → Type 0
BindsMore bound more = (i : ℕ) → IsBound bound i → IsBound more i

-- what is put into a set goes last, unless it stands there
abbrev pub IsPut : {A : Type 0} → List A → List A → A → Bool → Type 0
IsPut old new item true = new ≡ old ++ item ∷ []
IsPut old new item false = (new ≡ old) × Contains old item

-- the partial substitutions that were met, those from which the search goes on, and those that
-- are total

abbrev pub met_in : Search → List Partial
met_in search = map (λ key. key.items) search.met.keys

abbrev pub pending_in : Search → List Partial
pending_in search = search.pending.items

abbrev pub found_in : Search → List Partial
found_in search = map (λ key. key.items) search.found.keys

-- what was met fits in memory
abbrev pub IsWithin : Search → Type 0
IsWithin search = length search.met.keys < 2 ^ 63

-- how often a search can go on at most
abbrev pub steps_left : Search → ℕ
steps_left search = 2 * (2 ^ 63 - length search.met.keys) + length search.pending.items

-- what is searched: patterns with so many type variables, in an index of numbers of types
pub record Query : Type 0 where
  pub types : List Ty
  pub index : List (List TypeId)
  pub patterns : List Ty
  pub variables : ℕ

abbrev pub query : List Ty → List (List TypeId) → List Ty → ℕ → Query
query types index patterns variables =
    record { types = types; index = index; patterns = patterns; variables = variables }

-- each type variable that is bound is matched under all substitutions that keep to what is bound
pub record IsSupported (q : Query) (bound : Partial) : Type 0 where
  pub count : length bound ≡ q.variables
  pub numbers : AreBound q.types bound
  pub matched : (substitution : List Ty) → KeepsTo q.types bound substitution → (i : ℕ) →
      IsBound bound i → IsMatched q.types q.index q.patterns substitution i

-- a substitution keeps to a pending one that binds no less, or to a total one
abbrev pub IsCovered : Query → List Partial → List Partial → Partial → List Ty → Type 0
IsCovered q pending found bound substitution =
    ((more : Partial) × Contains pending more × KeepsTo q.types more substitution
    × BindsMore bound more)
    ⊎ ((total : Partial) × Contains found total × KeepsTo q.types total substitution)

-- Nothing is missed: each matched substitution that keeps to what was met is covered.
pub record IsSearch (q : Query) (met pending found : List Partial) : Type 0 where
  pub root : Contains met (nothing_bound q.variables)
  pub pending_are : (bound : Partial) → Contains pending bound → IsSupported q bound
  pub found_are : (bound : Partial) → Contains found bound → IsSupported q bound × IsTotal bound
  pub covered : (bound : Partial) → Contains met bound → (substitution : List Ty) →
      AreMatched q.types q.index q.patterns q.variables substitution →
      KeepsTo q.types bound substitution → IsCovered q pending found bound substitution

-- The search has ended: nothing is pending, or more are total than a limit. These are distinct.
pub record IsFinished (q : Query) (most : ℕ) (search : Search) : Type 0 where
  pub search_is : IsSearch q (met_in search) (pending_in search) (found_in search)
  pub ended : (pending_in search ≡ []) ⊎ (most < length (found_in search))

-- what is bound, extended by a match of the pattern with one of the numbers
abbrev pub IsExtension : List Ty → Partial → Ty → List TypeId → Partial → Type 0
IsExtension types bound pattern ids more = (id : TypeId) × Contains ids id × AreBound types more
    × IsMatch types bound (pattern ∷ []) (id ∷ []) (Some more)

-- Each substitution that keeps to what is bound and makes the pattern the type of the number keeps
-- to a partial one that was met. It binds no less, and the type variables of the pattern.
abbrev pub IsExtended : List Ty → List Partial → Partial → Ty → TypeId → Type 0
IsExtended types met bound pattern id = (substitution : List Ty) →
    KeepsTo types bound substitution → instantiate substitution pattern ≡ type_at types id →
    (more : Partial) × Contains met more × KeepsTo types more substitution
    × BindsMore bound more
    × ((i : ℕ) → i < length bound → IsTrue (occurs_in_type i pattern) → IsBound more i)

-- The search went on: extensions by the numbers were added to what was met, if they weren't met,
-- and are pending. All extensions were met.
pub record GoesOn (types : List Ty) (bound : Partial) (pattern : Ty) (ids : List TypeId)
    (old new : Search) : Type 0 where
  pub added : List Partial
  pub met : met_in new ≡ met_in old ++ added
  pub pending : pending_in new ≡ pending_in old ++ added
  pub found : found_in new ≡ found_in old
  pub each : AllByRecursion (IsExtension types bound pattern ids) added
  pub extended : (id : TypeId) → Contains ids id →
      IsExtended types (met_in new) bound pattern id

-- the same by a single partial substitution, which is then met
pub record Meets (bound : Partial) (old new : Search) : Type 0 where
  pub added : List Partial
  pub met : met_in new ≡ met_in old ++ added
  pub pending : pending_in new ≡ pending_in old ++ added
  pub found : found_in new ≡ found_in old
  pub no_other : (added ≡ []) ⊎ (added ≡ bound ∷ [])
  pub there : Contains (met_in new) bound

-- the numbers are those under the pattern's symbol
pub record AreUnder (index : List (List TypeId)) (pattern : Ty) (ids : List TypeId) : Type 0 where
  pub each : (id : TypeId) → Contains ids id →
      (f : ℕ) × (arguments : List Ty) × (pattern ≡ Apply f arguments)
      × Contains (numbers_of index f) id
  pub whole : (f : ℕ) (arguments : List Ty) → pattern ≡ Apply f arguments →
      ids ≡ numbers_of index f
