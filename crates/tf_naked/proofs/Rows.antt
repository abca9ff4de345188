-- Worked rows: the sorts, naked places and free sorts of problems with two sorts.
use Rattle.std.specs.Prelude.{ℕ, ◌≡◌, Bool, true, false, List, [], ◌∷◌, ◌++◌}
use Rattle.std.proofs.Common.{refl, ap, ◌∙◌}
use Rattle.tf_core.specs.declared.ty.Ty.{Ty}
use Rattle.tf_core.specs.declared.ty.Ty.TheViews.{outs-Apply}
use Rattle.tf_core.specs.declared.term.Term.TheVariants as term
use Rattle.tf_core.specs.declared.nnf.Nnf.TheVariants as nnf
use Rattle.tf_core.specs.Types.{same_type, is_application}
use Rattle.tf_core.specs.Sorts.{joined, binder_types, parts_of, once, or_individuals, sorts}
use Rattle.tf_core.proofs.Types.{same_type-apply}
use Rattle.tf_core.proofs.Typed.{same_type-self}
use Rattle.tf_naked.specs.declared.position.Kind.{Kind}
use Rattle.tf_naked.specs.declared.position.Kind.TheVariants.{Universal, Existential, Applied}
use Rattle.tf_naked.specs.Standing.{kind_of}
use Rattle.tf_naked.specs.Naked.{Equation, equations_of, NakedPlace, side_of, naked_in_equations, naked_places, is_free}
use Rattle.tf_naked.specs.Rows.{sort_a, sort_b, equal_variables, all_equal, some_equal, constants_differ, universal, existential, refuted}
use Rattle.tf_naked.proofs.Standing.{kind_of-variable, kind_of-apply}
use Rattle.tf_naked.proofs.Naked.{equations_of-equation, equations_of-for_all, equations_of-exists}
use Rattle.tf_naked.proofs.BinderTypes.{binder_types-equation, binder_types-for_all, binder_types-exists}
use Rattle.tf_naked.proofs.HeldTypes.{parts_of-apply}

-- ---- equations

abbrev equation_of : Bool → Ty → Kind → Kind → Equation
equation_of positive ty left right =
    record { positive = positive; ty = ty; left = left; right = right }

all_equal-equations : equations_of all_equal [] ≡ equation_of true sort_a Universal Universal ∷ []
all_equal-equations =
    equations_of-for_all sort_a (nnf.ForAll sort_a equal_variables) []
    ∙ equations_of-for_all sort_a equal_variables (Universal ∷ [])
    ∙ equations_of-equation true sort_a (term.Var 1) (term.Var 0) (Universal ∷ Universal ∷ [])
    ∙ ap (λ kind. equation_of true sort_a kind
    (kind_of (Universal ∷ Universal ∷ []) (term.Var 0)) ∷ [])
    (kind_of-variable (Universal ∷ Universal ∷ []) 1)
    ∙ ap (λ kind. equation_of true sort_a Universal kind ∷ [])
    (kind_of-variable (Universal ∷ Universal ∷ []) 0)

some_equal-equations :
    equations_of some_equal [] ≡ equation_of true sort_a Existential Existential ∷ []
some_equal-equations =
    equations_of-exists sort_a (nnf.Exists sort_a equal_variables) []
    ∙ equations_of-exists sort_a equal_variables (Existential ∷ [])
    ∙ equations_of-equation true sort_a (term.Var 1) (term.Var 0) (Existential ∷ Existential ∷ [])
    ∙ ap (λ kind. equation_of true sort_a kind
    (kind_of (Existential ∷ Existential ∷ []) (term.Var 0)) ∷ [])
    (kind_of-variable (Existential ∷ Existential ∷ []) 1)
    ∙ ap (λ kind. equation_of true sort_a Existential kind ∷ [])
    (kind_of-variable (Existential ∷ Existential ∷ []) 0)

constants_differ-equations :
    equations_of constants_differ [] ≡ equation_of false sort_b Applied Applied ∷ []
constants_differ-equations =
    equations_of-equation false sort_b (term.Apply 0 [] []) (term.Apply 1 [] []) []
    ∙ ap (λ kind. equation_of false sort_b kind (kind_of [] (term.Apply 1 [] [])) ∷ [])
    (kind_of-apply [] 0 [] [])
    ∙ ap (λ kind. equation_of false sort_b Applied kind ∷ [])
    (kind_of-apply [] 1 [] [])

-- ---- naked places

abbrev naked_at : ℕ → ℕ → NakedPlace
naked_at formula side = record { place = side_of formula 0 side; ty = sort_a }

-- both sides of `X = Y` are naked under universal quantifiers
pub universal_places : naked_places universal ≡ naked_at 0 0 ∷ naked_at 0 1 ∷ []
unfolding naked_places
universal_places =
    ap (λ (list : List Equation). naked_in_equations 0 0 list
    ++ (naked_in_equations 1 0 (equations_of constants_differ []) ++ [])) all_equal-equations
    ∙ ap (λ (list : List Equation).
    naked_at 0 0 ∷ naked_at 0 1 ∷ (naked_in_equations 1 0 list ++ []))
    constants_differ-equations

-- and none is under existential ones
pub existential_places : naked_places existential ≡ []
unfolding naked_places
existential_places =
    ap (λ (list : List Equation). naked_in_equations 0 0 list
    ++ (naked_in_equations 1 0 (equations_of constants_differ []) ++ [])) some_equal-equations
    ∙ ap (λ (list : List Equation). naked_in_equations 1 0 list ++ []) constants_differ-equations

-- those of a conjecture are the ones of its negation
pub refuted_places : naked_places refuted ≡ naked_at 1 0 ∷ naked_at 1 1 ∷ []
unfolding naked_places
refuted_places =
    ap (λ (list : List Equation). naked_in_equations 0 0 list
    ++ (naked_in_equations 1 0 (equations_of all_equal []) ++ [])) constants_differ-equations
    ∙ ap (λ (list : List Equation). naked_in_equations 1 0 list ++ []) all_equal-equations

-- ---- sorts

pub same_type-a_b : same_type sort_a sort_b ≡ false
same_type-a_b = same_type-apply 1 [] sort_b ∙ ap (is_application 1 []) (outs-Apply 2 [])

same_type-b_a : same_type sort_b sort_a ≡ false
same_type-b_a = same_type-apply 2 [] sort_a ∙ ap (is_application 2 []) (outs-Apply 1 [])

all_equal-binders : binder_types all_equal ≡ sort_a ∷ sort_a ∷ []
all_equal-binders =
    binder_types-for_all sort_a (nnf.ForAll sort_a equal_variables)
    ∙ ap (λ types. sort_a ∷ types) (binder_types-for_all sort_a equal_variables
    ∙ ap (λ types. sort_a ∷ types)
    (binder_types-equation true sort_a (term.Var 1) (term.Var 0)))

some_equal-binders : binder_types some_equal ≡ sort_a ∷ sort_a ∷ []
some_equal-binders =
    binder_types-exists sort_a (nnf.Exists sort_a equal_variables)
    ∙ ap (λ types. sort_a ∷ types) (binder_types-exists sort_a equal_variables
    ∙ ap (λ types. sort_a ∷ types)
    (binder_types-equation true sort_a (term.Var 1) (term.Var 0)))

constants_differ-binders : binder_types constants_differ ≡ []
constants_differ-binders =
    binder_types-equation false sort_b (term.Apply 0 [] []) (term.Apply 1 [] [])

-- the types of the two constants, then those of two binders
each_once :
    once [] (joined (parts_of sort_b ∷ parts_of sort_b ∷ parts_of sort_a ∷ parts_of sort_a ∷ []))
    ≡ sort_b ∷ sort_a ∷ []
each_once =
    rw (parts_of-apply 1 [], parts_of-apply 2 [])
    (rw (same_type-self sort_b, same_type-self sort_a, same_type-a_b) refl)

pub universal_sorts : sorts universal ≡ sort_b ∷ sort_a ∷ []
universal_sorts =
    rw (all_equal-binders, constants_differ-binders) (ap or_individuals each_once)

pub refuted_sorts : sorts refuted ≡ sort_b ∷ sort_a ∷ []
refuted_sorts =
    rw (all_equal-binders, constants_differ-binders) (ap or_individuals each_once)

pub existential_sorts : sorts existential ≡ sort_b ∷ sort_a ∷ []
existential_sorts =
    rw (some_equal-binders, constants_differ-binders) (ap or_individuals each_once)

-- ---- free sorts

-- only b is free, of whose variables no equation speaks
pub universal_a : is_free universal sort_a ≡ false
unfolding is_free
universal_a = rw (universal_places, universal_sorts) (rw (same_type-self sort_a) refl)

pub universal_b : is_free universal sort_b ≡ true
unfolding is_free
universal_b = rw (universal_places, universal_sorts) (rw (same_type-b_a) refl)

pub refuted_a : is_free refuted sort_a ≡ false
unfolding is_free
refuted_a = rw (refuted_places, refuted_sorts) (rw (same_type-self sort_a) refl)

pub existential_a : is_free existential sort_a ≡ true
unfolding is_free
existential_a = rw (existential_places) refl

pub existential_b : is_free existential sort_b ≡ true
unfolding is_free
existential_b = rw (existential_places) refl
