-- A list of sorts as it grows: types are added to it, each after its arguments, and each once.
use Rattle.std.specs.Prelude.{ℕ, ◌≡◌, List, ◌++◌, map}
use Rattle.std.specs.List.{AllByRecursion}
use Rattle.tf_core.specs.declared.ty.Ty.{Ty}
use Rattle.tf_core.specs.declared.ty.Ty.TheVariants as type
use Rattle.tf_core.specs.Sorts.{joined, parts_of, once}
use Rattle.tf_naked.specs.declared.listing.Listing.{Listing}
use Rattle.tf_naked.specs.Calls.Sets.{IsAmong, IsSetOf}

-- the arguments of each type of a list are of it too
abbrev pub IsClosed : List Ty → Type 0
IsClosed list = (c : ℕ) (arguments : List Ty) → IsAmong list (type.Apply c arguments) →
    AllByRecursion (IsAmong list) arguments

-- a list with these types and their parts, those that it didn't hold
abbrev pub with_types : List Ty → List Ty → List Ty
with_types list types = list ++ once list (joined (map parts_of types))

-- the set is that of the types that are listed, and they have their arguments with them
pub record IsListing (listing : Listing) : Type 0 where
  pub set : IsSetOf listing.set listing.sorts
  pub closed : IsClosed listing.sorts

-- types were listed
pub record Lists (old new : Listing) (types : List Ty) : Type 0 where
  pub listing : IsListing new
  pub listed : new.sorts ≡ with_types old.sorts types
