-- Where a variable stands: in each form of term, at argument places one after another, and which of
-- these are covers.
use Rattle.std.specs.Prelude.{ℕ, ◌+◌, ◌<◌, ◌≤◌, ◌≡◌, Bool, true, false, ◌&&◌, ◌||◌, List, [], ◌∷◌, length, drop, map, eqb, get_or, Option, Some, None, unwrap_or, IsTrue}
use Rattle.std.proofs.Common.{refl, sym, ap, subst, ◌∙◌, arith, eq-eqb}
use Rattle.std.proofs.Math.Bool.{and-true, and-false, or-false, or_assoc}
use Rattle.std.proofs.lemmas.Bool.{false≢true}
use Rattle.std.proofs.lemmas.List.{drop_more, drop_all}
use Rattle.std.proofs.lemmas.List.Quantifiers.{position-Some}
use Rattle.tf_core.specs.declared.ty.Ty.{Ty}
use Rattle.tf_core.specs.declared.term.Term.{Term}
use Rattle.tf_core.specs.declared.term.Term.TheVariants as term
use Rattle.tf_core.specs.declared.signature.Symbol.{Symbol}
use Rattle.tf_core.specs.declared.signature.Signature.{Signature}
use Rattle.tf_naked.specs.Covers.{is_parameter, parameter_of, argument_parameters, cover_of, covers}
use Rattle.tf_naked.specs.Standing.{is_covering, Standing, standing, stands_in_arguments, stands_in_application}
use Rattle.tf_naked.proofs.Positions.{covers-marked, parameter_at}
use Rattle.tf_naked.proofs.Standing.{standing-variable, standing-apply}
use Rattle.enc_cover.specs.Calls.Sought.{stands_at}

pub not_same : (n i : ℕ) → (n ≡ i → ⊥) → eqb n i ≡ false
not_same n i differs = grind (arith, differs)

module _ (g : Signature) where
  pub stands_at-variable : (covering : Bool) (n i : ℕ) →
      stands_at g covering (term.Var n) i ≡ (covering && eqb n i)
  stands_at-variable covering n i =
      ap (λ (t : Standing). (covering && t.here i) || t.inside i)
      (standing-variable g is_covering n)
      ∙ or-false (covering && eqb n i)

  -- of the variable itself, or another
  pub stands_at-this : (covering : Bool) (n i : ℕ) → n ≡ i →
      stands_at g covering (term.Var n) i ≡ covering
  stands_at-this covering n i same =
      stands_at-variable covering n i
      ∙ ap (λ b. covering && b) (eq-eqb n i same)
      ∙ and-true covering

  pub stands_at-other : (covering : Bool) (n i : ℕ) → eqb n i ≡ false →
      stands_at g covering (term.Var n) i ≡ false
  stands_at-other covering n i differs =
      stands_at-variable covering n i
      ∙ ap (λ b. covering && b) differs
      ∙ and-false covering

  pub stands_at-apply : (covering : Bool) (f : ℕ) (types : List Ty) (terms : List Term) (i : ℕ) →
      stands_at g covering (term.Apply f types terms) i
      ≡ stands_in_application g is_covering f (map (standing g is_covering) terms) i
  stands_at-apply covering f types terms i =
      ap (λ (t : Standing). (covering && t.here i) || t.inside i)
      (standing-apply g is_covering f types terms)
      ∙ ap (λ b. b || stands_in_application g is_covering f (map (standing g is_covering) terms) i)
      (and-false covering)

  module _ (covers : List Bool) (terms : List Term) (place i : ℕ) where
    -- in the terms from this place on
    abbrev from_place : ℕ → Bool
    from_place start =
        stands_in_arguments is_covering (drop start covers)
        (map (standing g is_covering) (drop start terms)) i

    pub stands-covers_end : length covers ≤ place → from_place place ≡ false
    stands-covers_end ends =
        ap (λ xs. stands_in_arguments is_covering xs
        (map (standing g is_covering) (drop place terms)) i)
        (drop_all place covers ends)

    no_terms : (marks : List Bool) → stands_in_arguments is_covering marks [] i ≡ false
    no_terms [] = refl
    no_terms (mark ∷ marks) = refl

    pub stands-terms_end : length terms ≤ place → from_place place ≡ false
    stands-terms_end ends =
        ap (λ xs. stands_in_arguments is_covering (drop place covers)
        (map (standing g is_covering) xs) i)
        (drop_all place terms ends)
        ∙ no_terms (drop place covers)

    pub stands-argument : (t : Term) → place < length covers → place < length terms →
        t ≡ get_or terms place t →
        from_place place
        ≡ (stands_at g (get_or covers place false) t i || from_place (place + 1))
    stands-argument t marked within is =
        ap (λ xs. stands_in_arguments is_covering xs
        (map (standing g is_covering) (drop place terms)) i)
        (drop_more covers place false marked)
        ∙ ap (λ xs. stands_in_arguments is_covering
        (get_or covers place false ∷ drop (place + 1) covers) (map (standing g is_covering) xs) i)
        (drop_more terms place t within ∙ ap (λ x. x ∷ drop (place + 1) terms) (sym is))
        ∙ sym (or_assoc (get_or covers place false && (standing g is_covering t).here i)
        ((standing g is_covering t).inside i) (from_place (place + 1)))

-- two answers to one question
same_answer : (a b : Bool) → (IsTrue a → IsTrue b) → (IsTrue b → IsTrue a) → a ≡ b
same_answer true true to from = refl
same_answer false false to from = refl
same_answer true false to from = absurd (false≢true (to refl))
same_answer false true to from = absurd (false≢true (from refl))

not_marked : (b : Bool) → (IsTrue b → ⊥) → false ≡ b
not_marked true never = absurd (never refl)
not_marked false never = refl

module _ (symbol : Symbol) (place : ℕ) where
  abbrev mark : Bool
  mark = get_or (covers symbol) place false

  abbrev here : Option ℕ
  here = get_or (argument_parameters symbol) place None

  -- the parameter whose cover a marked place is stands there
  marked_parameter : IsTrue mark →
      (q : ℕ) × (is_parameter q here ≡ true) × (cover_of symbol q ≡ Some place)
  marked_parameter marked =
      let found = (covers-marked symbol place).0 marked in (
        found.0,
        (position-Some (is_parameter found.0) (argument_parameters symbol) place None found.1).1,
        found.1,
      )

  marked_cover : (p : ℕ) → here ≡ Some p → IsTrue mark → cover_of symbol p ≡ Some place
  marked_cover p at marked =
      let found = marked_parameter marked in
      let passes : eqb found.0 p ≡ true = ap (is_parameter found.0) (sym at) ∙ found.1 in
      let same : found.0 ≡ p = grind (arith, passes) in
      subst (λ q. cover_of symbol q ≡ Some place) same found.2

  pub mark-cover : (p cover : ℕ) → here ≡ Some p → cover_of symbol p ≡ Some cover →
      eqb cover place ≡ mark
  mark-cover p cover at is =
      same_answer (eqb cover place) mark
      (λ same. (covers-marked symbol place).1 (p, is ∙ ap Some (equal same)))
      (λ marked. eq-eqb cover place (some_is (sym is ∙ marked_cover p at marked)))
    where
      equal : eqb cover place ≡ true → cover ≡ place
      equal same = grind (arith, same)

      some_is : Some cover ≡ Some place → cover ≡ place
      some_is same = ap (λ x. unwrap_or x cover) same

  pub mark-no_cover : (p : ℕ) → here ≡ Some p → cover_of symbol p ≡ None → false ≡ mark
  mark-no_cover p at is =
      not_marked mark (λ marked. none_some (sym is ∙ marked_cover p at marked))
    where
      none_some : None ≡ Some place → ⊥
      none_some same = grind (arith, same)

  pub mark-no_parameter : here ≡ None → false ≡ mark
  mark-no_parameter at =
      not_marked mark (λ marked.
      let found = marked_parameter marked in
      false≢true (ap (is_parameter found.0) (sym at) ∙ found.1))

-- the parameter that an argument's type is
pub parameter_here : (symbol : Symbol) (place : ℕ) (ty : Ty) (types : List Ty) →
    types ≡ symbol.arguments → place < length symbol.arguments → ty ≡ get_or types place ty →
    get_or (argument_parameters symbol) place None ≡ parameter_of ty
parameter_here symbol place ty types lent within is =
    parameter_at symbol.arguments place ty within (is ∙ ap (λ xs. get_or xs place ty) lent)
