-- Worked rows: what is lifted by sort, bare and by guards of sorts that aren't free.
use Rattle.std.specs.Prelude.{ℕ, ◌+◌, ◌≡◌, Bool, true, false, List, [], ◌∷◌, length, cond, get_or, position, unwrap_or}
use Rattle.std.specs.List.{position_or_len}
use Rattle.std.proofs.Common.{refl, ap, ◌∙◌}
use Rattle.tf_core.specs.declared.ty.Ty.{Ty}
use Rattle.tf_core.specs.declared.ty.Ty.TheVariants as type
use Rattle.tf_core.specs.Types.{same_type}
use Rattle.tf_core.proofs.Typed.{same_type-self}
use Rattle.tf_naked.specs.Naked.{is_free}
use Rattle.tf_naked.specs.Rows.{sort_a, sort_b, universal, existential}
use Rattle.tf_naked.proofs.Rows.{same_type-a_b, universal_sorts, existential_sorts, universal_a, universal_b, existential_a, existential_b}
use Rattle.enc_marks.specs.declared.choices.Elements.TheVariants.{Guarded, All}
use Rattle.enc_marks.specs.Encoded.{all_numbers}
use Rattle.enc_marks.specs.Occurrence.{count_below}
use Rattle.enc_marks.specs.Schemes.{erase, guards_light}
use Rattle.enc_laws.specs.Lifted.{is_element, read_as, mark_of_sort}
use Rattle.enc_laws.specs.Ranks.{listed}
use Rattle.enc_laws.specs.LiftedRows.{lifted_sorts, two_apart, third_guarded}

-- ---- bare

-- the sizes of members by the list of sorts
abbrev bare_by : List Ty → List ℕ
bare_by types =
    listed (length types) 0 (λ m. count_below 2 (λ v.
    is_element (cond (is_free existential (get_or types m (type.Var 0))) All All) 2
    (mark_of_sort (all_numbers existential) two_apart (get_or types m (type.Var 0))) v))

-- each sort has both numbers
pub bare_sizes : (lifted_sorts erase existential two_apart).sizes ≡ 2 ∷ 2 ∷ []
bare_sizes = ap bare_by existential_sorts ∙ rw (existential_b) (rw (existential_a) refl)

-- the place of the sort that a constructor forms, by the list of sorts
abbrev formed_by : ℕ → List Ty → ℕ
formed_by i types = unwrap_or (position (same_type (type.Apply i [])) types) 0

-- a is the member 1
pub bare_a : (lifted_sorts erase existential two_apart).constructor_at 1 [] ≡ 1
bare_a = ap (formed_by 1) existential_sorts ∙ rw (same_type-a_b) (rw (same_type-self sort_a) refl)

-- and b is the member 0
pub bare_b : (lifted_sorts erase existential two_apart).constructor_at 2 [] ≡ 0
bare_b = ap (formed_by 2) existential_sorts ∙ rw (same_type-self sort_b) refl

-- the rank of 1 among all numbers
rank_of_one : (free : Bool) (mark : ℕ → ℕ) →
    count_below (read_as (cond free All All) mark 1)
    (λ v. is_element (cond free All All) 2 mark v) ≡ 1
rank_of_one true mark = refl
rank_of_one false mark = refl

-- d is the element 1 of b
pub bare_d : (lifted_sorts erase existential two_apart).symbol_at 1 [] [] ≡ 1
bare_d = rank_of_one _ _

-- ---- by guards of sorts that aren't free

sort_a_number : (all_numbers universal).sort sort_a ≡ 6
sort_a_number =
    ap (λ types. 2 + 3 + position_or_len (same_type sort_a) types) universal_sorts
    ∙ rw (same_type-a_b) (rw (same_type-self sort_a) refl)

abbrev guarded_by : List Ty → List ℕ
guarded_by types =
    listed (length types) 0 (λ m. count_below 3 (λ v.
    is_element (cond (is_free universal (get_or types m (type.Var 0))) All Guarded) 3
    (mark_of_sort (all_numbers universal) third_guarded (get_or types m (type.Var 0))) v))

-- the sizes of b and of a, whose guard has a number
abbrev sizes_at : ℕ → List ℕ
sizes_at number =
    3 ∷ count_below 3 (λ v. is_element Guarded 3 (λ x. third_guarded.symbol_at number (x ∷ [])) v)
    ∷ []

-- b is free and has all numbers, and a has the one of which its guard holds
pub guarded_sizes : (lifted_sorts (guards_light (is_free universal)) universal third_guarded).sizes
    ≡ 3 ∷ 1 ∷ []
guarded_sizes =
    ap guarded_by universal_sorts
    ∙ rw (universal_b) (rw (universal_a) (ap sizes_at sort_a_number))
