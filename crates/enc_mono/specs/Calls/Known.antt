-- How symbol instances come to be known.
use Rattle.std.specs.Prelude.{ℕ, ◌≡◌, ◌↔◌, ◌<◌, ◌⊎◌, List, length}
use Rattle.std.specs.List.{Contains, AllByRecursion}
use Rattle.tf_core.specs.declared.ty.Ty.{Ty}
use Rattle.tf_core.specs.declared.ty.Ty.TheVariants.{Apply}
use Rattle.tf_types.specs.declared.node.TypeId.{TypeId}
use Rattle.tf_types.specs.Numbers.{Extends, IsOneToOne}
use Rattle.enc_mono.specs.declared.instances.Origin.{Origin}
use Rattle.enc_mono.specs.declared.known.Known.{Known}
use Rattle.enc_mono.specs.Calls.Numbered.{numbers_of, keys_in, HasInstance, IsFiled}

-- a number was put under a symbol, unless it stood there
pub record FilesId (old new : List (List TypeId)) (symbol : ℕ) (id : TypeId) : Type 0 where
  pub count : length new ≡ length old
  pub there : Contains (numbers_of new symbol) id
  pub kept : (f : ℕ) (other : TypeId) → Contains (numbers_of old f) other →
      Contains (numbers_of new f) other
  pub no_other : (f : ℕ) (other : TypeId) → Contains (numbers_of new f) other →
      Contains (numbers_of old f) other ⊎ ((f ≡ symbol) × (other ≡ id))

-- the numbers that stand under symbols
abbrev pub index_in : Known → List (List TypeId)
index_in known = keys_in known.index.items

-- known symbol instances as they are kept
pub record IsKept (known : Known) : Type 0 where
  pub one_to_one : IsOneToOne known.table
  pub filed : IsFiled known.table (index_in known)

-- a symbol instance as a type is of one of so many symbols
abbrev pub IsNamed : ℕ → Ty → Type 0
IsNamed symbols ty = (f : ℕ) (arguments : List Ty) → ty ≡ Apply f arguments → f < symbols

-- symbol instances are of so many symbols
abbrev pub AreOfSymbols : ℕ → List Origin → Type 0
AreOfSymbols symbols = AllByRecursion (λ origin. origin.symbol < symbols)

-- symbol instances came to be known, and no others
pub record Files (origins : List Origin) (old new : Known) : Type 0 where
  pub grown : Extends old.table new.table
  pub count : length (index_in new) ≡ length (index_in old)
  pub kept : IsKept new
  pub exact : (origin : Origin) → HasInstance new.table (index_in new) origin
      ↔ (HasInstance old.table (index_in old) origin ⊎ Contains origins origin)
