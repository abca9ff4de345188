-- The untyped structure over the collapsed domain of a typed one: an element of a member is its own
-- number, and a number that is no element is read as 0. It is a function of the numbers of all
-- marked symbols.
use Rattle.std.specs.Prelude.{ℕ, ◌-◌, List, [], ◌∷◌, map, length, cond, drop, get_or, ltb, max, min}
use Rattle.std.specs.Prelude.{slice_get, take, Option, Some, None}
use Rattle.tf_core.specs.declared.ty.Ty.{Ty}
use Rattle.tf_core.specs.declared.ty.Ty.TheVariants as type
use Rattle.tf_core.specs.declared.signature.Symbol.{Symbol}
use Rattle.tf_core.specs.declared.normal.Normal.{Normal}
use Rattle.tf_core.specs.Sorts.{sorts}
use Rattle.tf_core.specs.Structures.{Typed, member_count, size_of, member_of}
use Rattle.fof_models.specs.Structures.{Untyped}
use Rattle.enc_marks.specs.declared.choices.Marking.{Marking}
use Rattle.enc_marks.specs.declared.choices.Marking.TheVariants.{ByType, BySort}
use Rattle.enc_marks.specs.declared.choices.Binding.{Binding}
use Rattle.enc_marks.specs.declared.choices.Binding.TheVariants.{ByGuard, ByTag}
use Rattle.enc_marks.specs.Choices.{Choices}
use Rattle.enc_laws.specs.MergedStructure.{kept_count}

-- a number below a bound as itself, and any other as 0
abbrev pub collapse : ℕ → ℕ → ℕ
collapse bound v = cond (ltb v bound) v 0

abbrev pub greatest : List ℕ → ℕ
greatest [] = 0
greatest (size ∷ sizes) = max size (greatest sizes)

-- the size of the member that a sort is
abbrev pub sort_size : Typed → Ty → ℕ
sort_size s sort = size_of s (member_of s [] sort)

-- How many numbers the domain has: where types are written, at least as many as there are members,
-- and as the greatest has elements; else as many as the greatest one has that is a sort.
abbrev pub collapsed_size : Marking → Normal → Typed → ℕ
collapsed_size ByType normal s = max (member_count s) (greatest s.sizes)
collapsed_size BySort normal s = greatest (map (sort_size s) (sorts normal))

-- the elements of members that numbers are read as, where the domain has so many
abbrev pub elements_collapsed : Typed → ℕ → List ℕ → List ℕ → List ℕ
elements_collapsed s count [] values = []
elements_collapsed s count (m ∷ members) [] = []
elements_collapsed s count (m ∷ members) (v ∷ values) =
    collapse (min (size_of s m) count) v ∷ elements_collapsed s count members values

-- the members that numbers are read as
abbrev pub members_collapsed : Typed → List ℕ → List ℕ
members_collapsed s values = map (collapse (member_count s)) values

-- what the typed structure gives for what the arguments are read as
abbrev pub collapsed_symbol : Typed → ℕ → ℕ → Symbol → List ℕ → List ℕ → ℕ
collapsed_symbol s count f symbol kept values =
    let members = members_collapsed s kept in
    s.symbol_at f members
    (elements_collapsed s count (map (member_of s members) symbol.arguments) values)

-- What a constructor gives: the member for what the arguments are read as. Where marks are of sorts
-- no type is written, and so no constructor occurs.
abbrev pub collapsed_constructor : Marking → Typed → ℕ → List ℕ → ℕ
collapsed_constructor ByType s i values = s.constructor_at i (members_collapsed s values)
collapsed_constructor BySort s i values = 0

-- A sort's guard holds of the numbers below its size, and its tag gives what a number is read as.
abbrev pub collapsed_mark : Binding → ℕ → List ℕ → ℕ
collapsed_mark binding size [] = 0
collapsed_mark ByGuard size (v ∷ values) = cond (ltb v size) 1 0
collapsed_mark ByTag size (v ∷ values) = collapse size v

module _ (c : Choices) (normal : Normal) (s : Typed) where
  abbrev pub domain_size : ℕ
  domain_size = collapsed_size c.marking normal s

  -- the mark of a sort, by its number
  abbrev pub collapsed_sort_mark : ℕ → List ℕ → ℕ
  collapsed_sort_mark number values =
      collapsed_mark c.binding
      (min (sort_size s (get_or (sorts normal) number (type.Var 0))) domain_size) values

  -- what a number behind those of the symbols stands for: a constructor, or the mark of a sort
  abbrev pub collapsed_other : ℕ → List ℕ → ℕ
  collapsed_other other values =
      cond (ltb other (length normal.signature.constructors))
      (collapsed_constructor c.marking s other values)
      (collapsed_sort_mark (other - length normal.signature.constructors) values)

  abbrev pub collapsed_at : ℕ → Option Symbol → List ℕ → ℕ
  collapsed_at m (Some symbol) values =
      collapsed_symbol s domain_size m symbol (take (kept_count c symbol) values)
      (drop (kept_count c symbol) values)
  collapsed_at m None values = collapsed_other (m - length normal.signature.symbols) values

  abbrev pub collapsed : Untyped
  collapsed = record {
    size = domain_size;
    symbol_at = λ m. collapsed_at m (slice_get normal.signature.symbols m);
  }
