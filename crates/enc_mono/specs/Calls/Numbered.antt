-- Symbol instances as types that have numbers in a table.
use Rattle.std.specs.Prelude.{ℕ, ◌≡◌, ◌↔◌, List, [], ◌++◌, map, get_or}
use Rattle.std.specs.List.{Contains, AllByRecursion}
use Rattle.indexmap.specs.IndexSet.{IndexSet}
use Rattle.tf_core.specs.declared.ty.Ty.{Ty}
use Rattle.tf_core.specs.declared.ty.Ty.TheVariants.{Apply}
use Rattle.tf_core.specs.declared.nnf.Nnf.{Nnf}
use Rattle.tf_types.specs.declared.node.TypeId.{TypeId}
use Rattle.tf_types.specs.Numbers.{Denotes, AreNumbers}
use Rattle.enc_mono.specs.declared.instances.Origin.{Origin}
use Rattle.enc_mono.specs.Instances.{symbol_instances}

-- a symbol instance as a type, its symbol in the place of a constructor
abbrev pub as_type : Origin → Ty
as_type origin = Apply origin.symbol origin.types

-- the types are symbol instances
abbrev pub AreInstances : List Ty → Type 0
AreInstances types = (origins : List Origin) × (types ≡ map as_type origins)

-- symbol instances were listed as types
abbrev pub Lists : List Origin → List Ty → List Ty → Type 0
Lists origins old new = new ≡ old ++ map as_type origins

-- the patterns are the symbol instances of a formula as types
pub record ArePatterns (body : Nnf) (patterns : List Ty) : Type 0 where
  pub each : (pattern : Ty) → Contains patterns pattern →
      (origin : Origin) × Contains (symbol_instances body) origin × (pattern ≡ as_type origin)
  pub whole : (origin : Origin) → Contains (symbol_instances body) origin →
      Contains patterns (as_type origin)

-- the numbers that stand under a symbol
abbrev pub numbers_of : List (List TypeId) → ℕ → List TypeId
numbers_of index f = get_or index f []

-- the numbers in sets, one set for each symbol
abbrev pub keys_in : {S : Type 0} → List (IndexSet TypeId S) → List (List TypeId)
keys_in {S} index = map (λ (set : IndexSet TypeId S). set.keys) index

-- all of an index are numbers of the table
abbrev pub AreIndexed : List Ty → List (List TypeId) → Type 0
AreIndexed types index = AllByRecursion (AreNumbers types) index

-- a symbol instance stands in an index under its symbol
abbrev pub HasInstance : List Ty → List (List TypeId) → Origin → Type 0
HasInstance types index origin = (id : TypeId) × Contains (numbers_of index origin.symbol) id
    × Denotes types id (as_type origin)

-- what stands under a symbol is an instance of it
abbrev pub IsFiled : List Ty → List (List TypeId) → Type 0
IsFiled types index = (f : ℕ) (id : TypeId) → Contains (numbers_of index f) id →
    (arguments : List Ty) × Denotes types id (Apply f arguments)

-- an index of a set of symbol instances: under each symbol the numbers of those that are of it
pub record IsIndex (types : List Ty) (known : Origin → Type 0) (index : List (List TypeId)) :
    Type 0 where
  pub filed : IsFiled types index
  pub exact : (origin : Origin) → known origin ↔ HasInstance types index origin
