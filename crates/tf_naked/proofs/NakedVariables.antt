-- The naked places of a formula and its naked variables have the same types.
use Rattle.std.specs.Prelude.{ℕ, ◌+◌, ◌≡◌, Bool, true, false, ◌&&◌, ◌||◌, List, [], ◌∷◌, ◌++◌, map, cond, length}
use Rattle.std.specs.List.{list_any}
use Rattle.std.proofs.Common.{refl, sym, ap, ◌∙◌, arith}
use Rattle.std.proofs.Math.Bool.{or-false}
use Rattle.std.proofs.lemmas.List.Folds.{list_any-append}
use Rattle.tf_core.specs.declared.ty.Ty.{Ty}
use Rattle.tf_core.specs.declared.term.Term.{Term}
use Rattle.tf_core.specs.declared.nnf.Nnf.{Nnf}
use Rattle.tf_core.specs.declared.nnf.Nnf.TheVariants as nnf
use Rattle.tf_core.specs.declared.signature.Signature.{Signature}
use Rattle.tf_core.specs.Types.{same_type}
use Rattle.tf_core.specs.Typing.{IsEquation, IsNnf, nnf_true, nnf_false, nnf_atom, nnf_equation, nnf_and, nnf_or, nnf_for_all, nnf_exists, AreNnf, no_parts, more_parts}
use Rattle.tf_core.specs.Sorts.{joined}
use Rattle.tf_naked.specs.declared.place.Place.{Place}
use Rattle.tf_naked.specs.declared.position.Kind.{Kind}
use Rattle.tf_naked.specs.declared.position.Kind.TheVariants.{Universal, Existential}
use Rattle.tf_naked.specs.Covers.{covers_of}
use Rattle.std.specs.Prelude.{slice_get}
use Rattle.tf_naked.specs.Standing.{is_positive_side, is_universal, kind_of, standing, stands, stands_in_side}
use Rattle.tf_naked.specs.Naked.{Equation, equations_of, NakedPlace, side_of, naked_sides, naked_in_equations}
use Rattle.tf_naked.specs.Universals.{universals_of, is_naked_of}
use Rattle.tf_naked.specs.NakedLaws.{NakedPlacesAreOfNakedVariables}
use Rattle.tf_naked.proofs.Standing.{stands-true, stands-false, stands-atom, stands-equation, stands-and, stands-or, stands-for_all, stands-exists}
use Rattle.tf_naked.proofs.Naked.{equations_of-true, equations_of-false, equations_of-atom, equations_of-equation, equations_of-and, equations_of-or, equations_of-for_all, equations_of-exists}
use Rattle.tf_naked.proofs.Universals.{universals_of-true, universals_of-false, universals_of-atom, universals_of-equation, universals_of-and, universals_of-or, universals_of-for_all, universals_of-exists}
use Rattle.tf_naked.proofs.OpenVariables.{some_open, some_open-same, some_open-none, some_open-or, some_open-side, off_sides_in, all_off_sides}

-- ---- Booleans

distribute : (a b s : Bool) → (((a || b) && s) || false) ≡ (((a && s) || (b && s)) || false)
distribute true b true = refl
distribute true true false = refl
distribute true false false = refl
distribute false b s = refl

shuffle : (a b c d : Bool) → ((a || b) || (c || d)) ≡ ((a || c) || (b || d))
shuffle true b c d = refl
shuffle false true true d = refl
shuffle false true false d = refl
shuffle false false c d = refl

bring : (s n o r : Bool) → (((s && n) || o) || r) ≡ (o || ((n && s) || r))
bring true true true r = refl
bring true true false r = refl
bring true false o r = refl
bring false true o r = refl
bring false false o r = refl

or_itself : (s : Bool) → (s || (s || false)) ≡ s
or_itself true = refl
or_itself false = refl

module _ (g : Signature) (ty : Ty) where
  -- whether an equation is of this type and has a naked side
  abbrev pub has_naked : Equation → Bool
  has_naked equation =
      ((equation.positive && is_universal equation.left)
      || (equation.positive && is_universal equation.right))
      && same_type ty equation.ty

  -- whether an open variable of the type is naked in the formula, or one that is bound in it
  abbrev some_naked : List Ty → List Kind → Nnf → Bool
  some_naked context kinds p =
      some_open ty context kinds (stands g is_positive_side p)
      || list_any (is_naked_of g ty) (universals_of p)

  no_naked : (context : List Ty) (kinds : List Kind) (p : Nnf) →
      ((i : ℕ) → stands g is_positive_side p i ≡ false) → universals_of p ≡ [] →
      some_naked context kinds p ≡ false
  no_naked context kinds p none no_binders =
      ap (λ b. b || list_any (is_naked_of g ty) (universals_of p))
      (some_open-same ty context kinds (stands g is_positive_side p) (λ i. false) none
      ∙ some_open-none ty context kinds)
      ∙ ap (list_any (is_naked_of g ty)) no_binders

  same_in_equation : (variables : ℕ) (context : List Ty) (kinds : List Kind) (positive : Bool)
      (t : Ty) (left right : Term) → length kinds ≡ length context →
      IsEquation g variables context t left right →
      list_any has_naked (equations_of (nnf.Equation positive t left right) kinds)
      ≡ some_naked context kinds (nnf.Equation positive t left right)
  same_in_equation variables context kinds positive t left right long is =
      ap (list_any has_naked) (equations_of-equation positive t left right kinds)
      ∙ distribute (positive && is_universal (kind_of kinds left))
      (positive && is_universal (kind_of kinds right)) (same_type ty t)
      ∙ sym (ap (λ b. b
      || list_any (is_naked_of g ty) (universals_of (nnf.Equation positive t left right)))
      (some_open-same ty context kinds
      (stands g is_positive_side (nnf.Equation positive t left right))
      (λ i. stands_in_side is_positive_side positive (standing g is_positive_side left) i
      || stands_in_side is_positive_side positive (standing g is_positive_side right) i)
      (stands-equation g is_positive_side positive t left right)
      ∙ some_open-or ty context kinds
      (stands_in_side is_positive_side positive (standing g is_positive_side left))
      (stands_in_side is_positive_side positive (standing g is_positive_side right))
      ∙ ap (λ b. b || some_open ty context kinds
      (stands_in_side is_positive_side positive (standing g is_positive_side right)))
      (some_open-side g ty context kinds long variables positive left t is.left_side)
      ∙ ap (λ b. ((positive && is_universal (kind_of kinds left)) && same_type ty t) || b)
      (some_open-side g ty context kinds long variables positive right t is.right_side))
      ∙ ap (λ list. (((positive && is_universal (kind_of kinds left)) && same_type ty t)
      || ((positive && is_universal (kind_of kinds right)) && same_type ty t))
      || list_any (is_naked_of g ty) list) (universals_of-equation positive t left right))

  mutual
    same_naked : (variables : ℕ) (context : List Ty) (p : Nnf)
        (formed : IsNnf g variables context p) (kinds : List Kind) →
        length kinds ≡ length context →
        list_any has_naked (equations_of p kinds) ≡ some_naked context kinds p
    same_naked variables context p (nnf_true same) kinds long =
        ap (list_any has_naked) (equations_of-true kinds)
        ∙ sym (no_naked context kinds nnf.True (stands-true g is_positive_side)
        universals_of-true)
    same_naked variables context p (nnf_false same) kinds long =
        ap (list_any has_naked) (equations_of-false kinds)
        ∙ sym (no_naked context kinds nnf.False (stands-false g is_positive_side)
        universals_of-false)
    same_naked variables context p (nnf_atom same positive f symbol types terms is) kinds long =
        ap (list_any has_naked) (equations_of-atom positive f types terms kinds)
        ∙ sym (no_naked context kinds (nnf.Atom positive f types terms)
        (λ i. stands-atom g is_positive_side positive f types terms i
        ∙ off_sides_in g (covers_of (slice_get g.symbols f)) terms (all_off_sides g terms) i)
        (universals_of-atom positive f types terms))
    same_naked variables context p (nnf_equation same positive t left right is) kinds long =
        same_in_equation variables context kinds positive t left right long is
    same_naked variables context p (nnf_and same parts are) kinds long =
        ap (list_any has_naked) (equations_of-and parts kinds)
        ∙ same_in_parts variables context parts are kinds long
        ∙ sym (ap (λ b. b || list_any (is_naked_of g ty) (universals_of (nnf.And parts)))
        (some_open-same ty context kinds (stands g is_positive_side (nnf.And parts))
        (λ i. list_any (λ part. stands g is_positive_side part i) parts)
        (stands-and g is_positive_side parts))
        ∙ ap (λ list. some_open ty context kinds
        (λ i. list_any (λ part. stands g is_positive_side part i) parts)
        || list_any (is_naked_of g ty) list) (universals_of-and parts))
    same_naked variables context p (nnf_or same parts are) kinds long =
        ap (list_any has_naked) (equations_of-or parts kinds)
        ∙ same_in_parts variables context parts are kinds long
        ∙ sym (ap (λ b. b || list_any (is_naked_of g ty) (universals_of (nnf.Or parts)))
        (some_open-same ty context kinds (stands g is_positive_side (nnf.Or parts))
        (λ i. list_any (λ part. stands g is_positive_side part i) parts)
        (stands-or g is_positive_side parts))
        ∙ ap (λ list. some_open ty context kinds
        (λ i. list_any (λ part. stands g is_positive_side part i) parts)
        || list_any (is_naked_of g ty) list) (universals_of-or parts))
    same_naked variables context p (nnf_for_all same t body is rest) kinds long =
        ap (list_any has_naked) (equations_of-for_all t body kinds)
        ∙ same_naked variables (t ∷ context) body rest (Universal ∷ kinds)
        (omega (arith, long))
        ∙ bring (same_type ty t) (stands g is_positive_side body 0)
        (some_open ty context kinds (λ i. stands g is_positive_side body (i + 1)))
        (list_any (is_naked_of g ty) (universals_of body))
        ∙ sym (ap (λ b. b || list_any (is_naked_of g ty) (universals_of (nnf.ForAll t body)))
        (some_open-same ty context kinds (stands g is_positive_side (nnf.ForAll t body))
        (λ i. stands g is_positive_side body (i + 1)) (stands-for_all g is_positive_side t body))
        ∙ ap (λ list. some_open ty context kinds (λ i. stands g is_positive_side body (i + 1))
        || list_any (is_naked_of g ty) list) (universals_of-for_all t body))
    same_naked variables context p (nnf_exists same t body is rest) kinds long =
        ap (list_any has_naked) (equations_of-exists t body kinds)
        ∙ same_naked variables (t ∷ context) body rest (Existential ∷ kinds)
        (omega (arith, long))
        ∙ sym (ap (λ b. b || list_any (is_naked_of g ty) (universals_of (nnf.Exists t body)))
        (some_open-same ty context kinds (stands g is_positive_side (nnf.Exists t body))
        (λ i. stands g is_positive_side body (i + 1)) (stands-exists g is_positive_side t body))
        ∙ ap (λ list. some_open ty context kinds (λ i. stands g is_positive_side body (i + 1))
        || list_any (is_naked_of g ty) list) (universals_of-exists t body))

    same_in_parts : (variables : ℕ) (context : List Ty) (parts : List Nnf)
        (are : AreNnf g variables context parts) (kinds : List Kind) →
        length kinds ≡ length context →
        list_any has_naked (joined (map (λ part. equations_of part kinds) parts))
        ≡ (some_open ty context kinds
        (λ i. list_any (λ part. stands g is_positive_side part i) parts)
        || list_any (is_naked_of g ty) (joined (map universals_of parts)))
    same_in_parts variables context parts (no_parts same) kinds long =
        sym (ap (λ b. b || false) (some_open-none ty context kinds))
    same_in_parts variables context parts (more_parts same part others formed rest) kinds long =
        list_any-append has_naked (equations_of part kinds)
        (joined (map (λ q. equations_of q kinds) others))
        ∙ ap (λ b. b || list_any has_naked (joined (map (λ q. equations_of q kinds) others)))
        (same_naked variables context part formed kinds long)
        ∙ ap (λ b. some_naked context kinds part || b)
        (same_in_parts variables context others rest kinds long)
        ∙ shuffle (some_open ty context kinds (stands g is_positive_side part))
        (list_any (is_naked_of g ty) (universals_of part))
        (some_open ty context kinds
        (λ i. list_any (λ q. stands g is_positive_side q i) others))
        (list_any (is_naked_of g ty) (joined (map universals_of others)))
        ∙ ap (λ b. b || (list_any (is_naked_of g ty) (universals_of part)
        || list_any (is_naked_of g ty) (joined (map universals_of others))))
        (sym (some_open-or ty context kinds (stands g is_positive_side part)
        (λ i. list_any (λ q. stands g is_positive_side q i) others)))
        ∙ ap (λ b. some_open ty context kinds (λ i. stands g is_positive_side part i
        || list_any (λ q. stands g is_positive_side q i) others) || b)
        (sym (list_any-append (is_naked_of g ty) (universals_of part)
        (joined (map universals_of others))))

  -- ---- from equations to places

  abbrev pub has_type : NakedPlace → Bool
  has_type naked = same_type ty naked.ty

  sides_naked : (a b : Bool) (left right : Place) (t : Ty) →
      list_any has_type
      (cond a (record { place = left; ty = t } ∷ []) []
      ++ cond b (record { place = right; ty = t } ∷ []) [])
      ≡ ((a || b) && same_type ty t)
  sides_naked true true left right t = or_itself (same_type ty t)
  sides_naked true false left right t = or-false (same_type ty t)
  sides_naked false true left right t = or-false (same_type ty t)
  sides_naked false false left right t = refl

  pub equations_naked : (formula number : ℕ) (equations : List Equation) →
      list_any has_type (naked_in_equations formula number equations)
      ≡ list_any has_naked equations
  equations_naked formula number [] = refl
  equations_naked formula number (equation ∷ equations) =
      list_any-append has_type (naked_sides formula number equation)
      (naked_in_equations formula (number + 1) equations)
      ∙ ap (λ b. b || list_any has_type (naked_in_equations formula (number + 1) equations))
      (sides_naked (equation.positive && is_universal equation.left)
      (equation.positive && is_universal equation.right)
      (side_of formula number 0) (side_of formula number 1) equation.ty)
      ∙ ap (λ b. has_naked equation || b) (equations_naked formula (number + 1) equations)

  places_naked : (variables number : ℕ) (p : Nnf) → IsNnf g variables [] p →
      list_any has_type (naked_in_equations number 0 (equations_of p []))
      ≡ list_any (is_naked_of g ty) (universals_of p)
  places_naked variables number p formed =
      equations_naked number 0 (equations_of p [])
      ∙ same_naked variables [] p formed [] refl

pub of_naked_variables : NakedPlacesAreOfNakedVariables
of_naked_variables g variables number p ty formed = places_naked g ty variables number p formed
