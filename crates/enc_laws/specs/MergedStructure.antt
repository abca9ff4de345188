-- The untyped structure over the merged domain of a typed one, for the translations whose guard or
-- tag has the type as an argument. It is a function of the numbers of all marked symbols.
use Rattle.std.specs.Prelude.{ℕ, ◌+◌, ◌-◌, ◌&&◌, Bool, true, false, List, [], ◌∷◌, map, length}
use Rattle.std.specs.Prelude.{cond, count_by, drop, eqb, ltb, slice_get, take, Option, Some, None}
use Rattle.tf_core.specs.declared.ty.Ty.{Ty}
use Rattle.tf_core.specs.declared.signature.Symbol.{Symbol}
use Rattle.tf_core.specs.declared.signature.Signature.{Signature}
use Rattle.tf_core.specs.Structures.{Typed, member_of}
use Rattle.fof_models.specs.Structures.{Untyped}
use Rattle.tf_naked.specs.Covers.{is_parameter, argument_parameters}
use Rattle.enc_marks.specs.declared.choices.Binding.{Binding}
use Rattle.enc_marks.specs.declared.choices.Binding.TheVariants.{ByGuard, ByTag}
use Rattle.enc_marks.specs.Choices.{Choices}
use Rattle.tf_stamp.specs.Merged.{merged_size, stamp, is_stamp, member_in, element_in}

-- the argument at the cover of a parameter
abbrev pub value_at_cover : ℕ → List (Option ℕ) → List ℕ → ℕ
value_at_cover parameter [] values = 0
value_at_cover parameter (place ∷ places) [] = 0
value_at_cover parameter (place ∷ places) (v ∷ values) =
    cond (is_parameter parameter place) v (value_at_cover parameter places values)

-- The members for parameters, from this one on: of a parameter that is kept, the member that its
-- type argument is read as, and of another the member of the argument at its cover.
abbrev pub members_read : List ℕ → List Bool → ℕ → List (Option ℕ) → List ℕ → List ℕ → List ℕ
members_read sizes [] parameter places kept values = []
members_read sizes (true ∷ keeps) parameter places [] values =
    0 ∷ members_read sizes keeps (parameter + 1) places [] values
members_read sizes (true ∷ keeps) parameter places (u ∷ kept) values =
    member_in sizes u ∷ members_read sizes keeps (parameter + 1) places kept values
members_read sizes (false ∷ keeps) parameter places kept values =
    member_in sizes (value_at_cover parameter places values)
    ∷ members_read sizes keeps (parameter + 1) places kept values

-- the elements of members that numbers are read as
abbrev pub elements_read : List ℕ → List ℕ → List ℕ → List ℕ
elements_read sizes [] values = []
elements_read sizes (m ∷ members) [] = []
elements_read sizes (m ∷ members) (v ∷ values) =
    element_in sizes v m ∷ elements_read sizes members values

abbrev pub kept_count : Choices → Symbol → ℕ
kept_count c symbol = count_by (λ keeps. keeps) (c.keeps symbol)

-- the members for a symbol's parameters
abbrev pub members_at : Choices → Typed → Symbol → List ℕ → List ℕ → List ℕ
members_at c s symbol kept values =
    members_read s.sizes (c.keeps symbol) 0 (argument_parameters symbol) kept values

-- what the typed structure gives for what the arguments are read as
abbrev pub value_at : Typed → ℕ → Symbol → List ℕ → List ℕ → ℕ
value_at s f symbol members values =
    s.symbol_at f members
    (elements_read s.sizes (map (member_of s members) symbol.arguments) values)

-- a function gives the stamp of its value, and a predicate the value itself
abbrev pub merged_value : Typed → List ℕ → Option Ty → ℕ → ℕ
merged_value s members None e = e
merged_value s members (Some ty) e = stamp s.sizes (member_of s members ty) e

abbrev pub merged_symbol : Choices → Typed → ℕ → Symbol → List ℕ → List ℕ → ℕ
merged_symbol c s f symbol kept values =
    let members = members_at c s symbol kept values in
    merged_value s members symbol.result (value_at s f symbol members values)

-- The guard holds of a member and the stamps of its elements. The tag gives the stamp of what a
-- number is read as in a member.
abbrev pub merged_mark : Typed → Binding → List ℕ → ℕ
merged_mark s binding [] = 0
merged_mark s binding (u ∷ []) = 0
merged_mark s ByGuard (u ∷ v ∷ others) =
    cond (is_stamp s.sizes v && eqb (member_in s.sizes v) (member_in s.sizes u)) 1 0
merged_mark s ByTag (u ∷ v ∷ others) =
    stamp s.sizes (member_in s.sizes u) (element_in s.sizes v (member_in s.sizes u))

-- what a number behind those of the symbols stands for: a constructor, or the guard or tag
abbrev pub merged_other : Choices → Signature → Typed → ℕ → List ℕ → ℕ
merged_other c g s other values =
    cond (ltb other (length g.constructors))
    (s.constructor_at other (map (member_in s.sizes) values))
    (merged_mark s c.binding values)

abbrev pub merged_at : Choices → Signature → Typed → ℕ → Option Symbol → List ℕ → ℕ
merged_at c g s m (Some symbol) values =
    merged_symbol c s m symbol (take (kept_count c symbol) values)
    (drop (kept_count c symbol) values)
merged_at c g s m None values = merged_other c g s (m - length g.symbols) values

abbrev pub merged : Choices → Signature → Typed → Untyped
merged c g s = record {
  size = merged_size s.sizes;
  symbol_at = λ m. merged_at c g s m (slice_get g.symbols m);
}
