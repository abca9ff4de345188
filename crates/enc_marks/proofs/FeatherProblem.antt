-- The problem of the rows of feather schemes: its sorts, naked variables and free sorts.
use Rattle.std.specs.Prelude.{ℕ, ◌≡◌, ◌+◌, true, false, not, [], ◌∷◌, cond, codes}
use Rattle.std.specs.List.{position_or_len}
use Rattle.std.proofs.Common.{refl, ap, ◌∙◌}
use Rattle.tf_core.specs.declared.ty.Ty.TheViews.{outs-Apply}
use Rattle.tf_core.specs.declared.nnf.Nnf.TheVariants as nnf
use Rattle.tf_core.specs.Types.{same_type, is_application}
use Rattle.tf_core.specs.Sorts.{binder_types, parts_of, sorts}
use Rattle.tf_core.proofs.Types.{same_type-apply}
use Rattle.tf_core.proofs.Typed.{same_type-self}
use Rattle.tf_naked.specs.declared.position.Kind.TheVariants.{Universal}
use Rattle.tf_naked.specs.Covers.{covers}
use Rattle.tf_naked.specs.Standing.{is_naked}
use Rattle.tf_naked.specs.Naked.{NakedPlace, side_of, equations_of, naked_places, is_free}
use Rattle.tf_naked.specs.Rows.{sort_a, sort_b, equal_variables, all_equal}
use Rattle.tf_naked.proofs.Rows.{same_type-a_b}
use Rattle.tf_naked.proofs.Covers.{parameter_of-apply}
use Rattle.tf_naked.proofs.Standing.{kind_of-variable, standing-variable, stands-atom, stands-equation, stands-for_all}
use Rattle.tf_naked.proofs.Naked.{equations_of-atom, equations_of-equation, equations_of-for_all, equations_of-exists}
use Rattle.tf_naked.proofs.BinderTypes.{binder_types-atom, binder_types-equation, binder_types-for_all, binder_types-exists}
use Rattle.tf_naked.proofs.HeldTypes.{parts_of-apply}
use Rattle.enc_marks.specs.Names.{flat_name}
use Rattle.enc_marks.specs.Encoded.{all_numbers}
use Rattle.enc_marks.specs.FeatherRows.{function_f, predicate_p, of_p, feathered}
use Rattle.enc_marks.proofs.Names.{flat_name-apply}

-- ---- sorts

same_type-b_a : same_type sort_b sort_a ≡ false
same_type-b_a = same_type-apply 2 [] sort_a ∙ ap (is_application 2 []) (outs-Apply 1 [])

equal-binders : binder_types all_equal ≡ sort_a ∷ sort_a ∷ []
equal-binders = simp (binder_types-for_all, binder_types-equation)

all-binders : binder_types (nnf.ForAll sort_a of_p) ≡ sort_a ∷ []
all-binders = simp (binder_types-for_all, binder_types-atom)

some-binders : binder_types (nnf.Exists sort_a of_p) ≡ sort_a ∷ []
some-binders = simp (binder_types-exists, binder_types-atom)

pub feathered_sorts : sorts feathered ≡ sort_a ∷ sort_b ∷ []
feathered_sorts =
    rw (equal-binders, all-binders, some-binders)
    (rw (parts_of-apply 1 [], parts_of-apply 2 [])
    (simp (same_type-self, same_type-a_b, same_type-b_a)))

-- ---- naked places and naked variables

-- no argument is a cover
pub covers_f : covers function_f ≡ false ∷ false ∷ []
covers_f = simp (parameter_of-apply)

pub covers_p : covers predicate_p ≡ false ∷ []
covers_p = simp (parameter_of-apply)

equal-equations : equations_of all_equal []
    ≡ record { positive = true; ty = sort_a; left = Universal; right = Universal } ∷ []
equal-equations = simp (equations_of-for_all, equations_of-equation, kind_of-variable)

all-equations : equations_of (nnf.ForAll sort_a of_p) [] ≡ []
all-equations = simp (equations_of-for_all, equations_of-atom)

some-equations : equations_of (nnf.Exists sort_a of_p) [] ≡ []
some-equations = simp (equations_of-exists, equations_of-atom)

abbrev naked_at : ℕ → NakedPlace
naked_at side = record { place = side_of 0 0 side; ty = sort_a }

feathered_places : naked_places feathered ≡ naked_at 0 ∷ naked_at 1 ∷ []
unfolding naked_places
feathered_places = rw (equal-equations, all-equations, some-equations) refl

pub outer_naked : is_naked feathered.signature (nnf.ForAll sort_a equal_variables) ≡ true
outer_naked = simp (stands-for_all, stands-equation, standing-variable)

pub inner_naked : is_naked feathered.signature equal_variables ≡ true
inner_naked = simp (stands-equation, standing-variable)

pub other_not_naked : is_naked feathered.signature of_p ≡ false
other_not_naked = simp (stands-atom, standing-variable, covers_p)

-- ---- free sorts

pub feathered_a : is_free feathered sort_a ≡ false
unfolding is_free
feathered_a = rw (feathered_places, feathered_sorts) (rw (same_type-self sort_a) refl)

pub feathered_b : is_free feathered sort_b ≡ true
unfolding is_free
feathered_b = rw (feathered_places, feathered_sorts) (rw (same_type-b_a) refl)

-- ---- the mark of a

pub number_of_a : (all_numbers feathered).sort sort_a ≡ 5
number_of_a =
    ap (λ types. 5 + position_or_len (same_type sort_a) types) feathered_sorts
    ∙ ap (λ b. 5 + cond (not b) (1 + position_or_len (same_type sort_a) (sort_b ∷ [])) 0)
    (same_type-self sort_a)

pub name_of_a : flat_name feathered sort_a ≡ codes "a"
name_of_a = flat_name-apply feathered 1 []
