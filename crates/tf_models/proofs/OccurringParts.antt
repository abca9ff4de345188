-- What tells that a type variable occurs in a type, term or formula, or that none does.
use Rattle.std.specs.Prelude.{ℕ, zero, suc, ◌≡◌, ◌<◌, ◌≤◌, ◌+◌, ◌-◌, ◌↔◌, Bool, true, false, ◌||◌, List, [], ◌∷◌, length, take, eqb, get_or, IsTrue}
use Rattle.std.specs.List.{list_any}
use Rattle.std.proofs.Common.{refl, sym, ap, ◌∙◌, arith}
use Rattle.std.proofs.lemmas.Bool.{false≢true, eq-eqb}
use Rattle.std.proofs.lemmas.List.{take_all}
use Rattle.std.proofs.lemmas.List.Folds.{list_any_more}
use Rattle.tf_core.specs.declared.ty.Ty.{Ty}
use Rattle.tf_core.specs.declared.ty.Ty.TheVariants as type
use Rattle.tf_core.specs.declared.term.Term.{Term}
use Rattle.tf_core.specs.declared.term.Term.TheVariants as term
use Rattle.tf_core.specs.declared.formula.Formula.{Formula}
use Rattle.tf_core.specs.declared.formula.Formula.TheVariants as formula
use Rattle.tf_core.specs.Occurrences.{occurs_in_type, occurs_in_types, occurs_in_term, occurs_in_terms, occurs_in}
use Rattle.tf_core.proofs.Occurrences.{occurs_in_type-variable, occurs_in_type-apply, occurs_in_term-variable, occurs_in_term-apply, occurs_in-true, occurs_in-false, occurs_in-atom, occurs_in-equal, occurs_in-not, occurs_in-and, occurs_in-or, occurs_in-implies, occurs_in-if, occurs_in-iff, occurs_in-xor, occurs_in-nand, occurs_in-nor, occurs_in-for_all, occurs_in-exists}
use Rattle.tf_models.specs.Search.{IsUsed}

-- one of two

pub first_occurs : (a b found : Bool) → found ≡ a → found ≡ true → found ≡ (a || b)
first_occurs true b found is given = given
first_occurs false b found is given = absurd (false≢true (sym is ∙ given))

pub second_decides : (a b found held : Bool) → found ≡ a → found ≡ false → held ≡ b →
    held ≡ (a || b)
second_decides true b found held is denied held_is = absurd (false≢true (sym denied ∙ is))
second_decides false b found held is denied held_is = held_is

-- a type, a term or a formula, by its parts

module _ (i : ℕ) (held : Bool) where
  pub type_variable : (ty : Ty) (j : ℕ) → ty ≡ type.Var j → held ≡ eqb i j →
      held ≡ occurs_in_type i ty
  type_variable ty j is at =
      at ∙ sym (ap (occurs_in_type i) is ∙ occurs_in_type-variable i j)

  pub type_apply : (ty : Ty) (c : ℕ) (types : List Ty) → ty ≡ type.Apply c types →
      held ≡ occurs_in_types i types → held ≡ occurs_in_type i ty
  type_apply ty c types is at =
      at ∙ sym (ap (occurs_in_type i) is ∙ occurs_in_type-apply i c types)

  pub term_variable : (t : Term) (j : ℕ) → t ≡ term.Var j → held ≡ false →
      held ≡ occurs_in_term i t
  term_variable t j is at =
      at ∙ sym (ap (occurs_in_term i) is ∙ occurs_in_term-variable i j)

  pub term_apply : (t : Term) (f : ℕ) (types : List Ty) (terms : List Term) →
      t ≡ term.Apply f types terms →
      held ≡ (occurs_in_types i types || occurs_in_terms i terms) → held ≡ occurs_in_term i t
  term_apply t f types terms is at =
      at ∙ sym (ap (occurs_in_term i) is ∙ occurs_in_term-apply i f types terms)

  module _ (p : Formula) where
    pub in_true : p ≡ formula.True → held ≡ false → held ≡ occurs_in i p
    in_true is at = at ∙ sym (ap (occurs_in i) is ∙ occurs_in-true i)

    pub in_false : p ≡ formula.False → held ≡ false → held ≡ occurs_in i p
    in_false is at = at ∙ sym (ap (occurs_in i) is ∙ occurs_in-false i)

    pub in_atom : (f : ℕ) (types : List Ty) (terms : List Term) →
        p ≡ formula.Atom f types terms →
        held ≡ (occurs_in_types i types || occurs_in_terms i terms) → held ≡ occurs_in i p
    in_atom f types terms is at =
        at ∙ sym (ap (occurs_in i) is ∙ occurs_in-atom i f types terms)

    pub in_equal : (ty : Ty) (left right : Term) → p ≡ formula.Equal ty left right →
        held ≡ (occurs_in_type i ty || occurs_in_term i left || occurs_in_term i right) →
        held ≡ occurs_in i p
    in_equal ty left right is at =
        at ∙ sym (ap (occurs_in i) is ∙ occurs_in-equal i ty left right)

    pub in_not : (a : Formula) → p ≡ formula.Not a → held ≡ occurs_in i a → held ≡ occurs_in i p
    in_not a is at = at ∙ sym (ap (occurs_in i) is ∙ occurs_in-not i a)

    pub in_and : (parts : List Formula) → p ≡ formula.And parts →
        held ≡ list_any (occurs_in i) parts → held ≡ occurs_in i p
    in_and parts is at = at ∙ sym (ap (occurs_in i) is ∙ occurs_in-and i parts)

    pub in_or : (parts : List Formula) → p ≡ formula.Or parts →
        held ≡ list_any (occurs_in i) parts → held ≡ occurs_in i p
    in_or parts is at = at ∙ sym (ap (occurs_in i) is ∙ occurs_in-or i parts)

    module _ (a b : Formula) (at : held ≡ (occurs_in i a || occurs_in i b)) where
      pub in_implies : p ≡ formula.Implies a b → held ≡ occurs_in i p
      in_implies is = at ∙ sym (ap (occurs_in i) is ∙ occurs_in-implies i a b)

      pub in_if : p ≡ formula.If a b → held ≡ occurs_in i p
      in_if is = at ∙ sym (ap (occurs_in i) is ∙ occurs_in-if i a b)

      pub in_iff : p ≡ formula.Iff a b → held ≡ occurs_in i p
      in_iff is = at ∙ sym (ap (occurs_in i) is ∙ occurs_in-iff i a b)

      pub in_xor : p ≡ formula.Xor a b → held ≡ occurs_in i p
      in_xor is = at ∙ sym (ap (occurs_in i) is ∙ occurs_in-xor i a b)

      pub in_nand : p ≡ formula.Nand a b → held ≡ occurs_in i p
      in_nand is = at ∙ sym (ap (occurs_in i) is ∙ occurs_in-nand i a b)

      pub in_nor : p ≡ formula.Nor a b → held ≡ occurs_in i p
      in_nor is = at ∙ sym (ap (occurs_in i) is ∙ occurs_in-nor i a b)

    module _ (ty : Ty) (body : Formula) (at : held ≡ (occurs_in_type i ty || occurs_in i body)) where
      pub in_for_all : p ≡ formula.ForAll ty body → held ≡ occurs_in i p
      in_for_all is = at ∙ sym (ap (occurs_in i) is ∙ occurs_in-for_all i ty body)

      pub in_exists : p ≡ formula.Exists ty body → held ≡ occurs_in i p
      in_exists is = at ∙ sym (ap (occurs_in i) is ∙ occurs_in-exists i ty body)

-- neither of two

or_first_false : (a b : Bool) → (a || b) ≡ false → a ≡ false
or_first_false true b is = absurd (false≢true (sym is))
or_first_false false b is = refl

or_second_false : (a b : Bool) → (a || b) ≡ false → b ≡ false
or_second_false true b is = absurd (false≢true (sym is))
or_second_false false b is = is

-- a list, so far and whole

module _ {A : Type 0} (test : A → Bool) where
  pub any_more : (items : List A) (k : ℕ) (item : A) → k < length items →
      item ≡ get_or items k item → list_any test (take k items) ≡ false → test item ≡ false →
      list_any test (take (k + 1) items) ≡ false
  any_more items k item within is so_far denied =
      list_any_more test items k item within
      ∙ ap (λ b. b || test (get_or items k item)) so_far
      ∙ ap test (sym is) ∙ denied

  pub any_whole : (items : List A) (k : ℕ) → length items ≤ k →
      list_any test (take k items) ≡ false → list_any test items ≡ false
  any_whole items k whole so_far = ap (list_any test) (sym (take_all k items whole)) ∙ so_far

  pub none_at : (items : List A) (k : ℕ) (item : A) → k < length items →
      item ≡ get_or items k item → list_any test items ≡ false → test item ≡ false
  none_at [] k item within is none = absurd (omega arith)
  none_at (first ∷ items) zero item within is none =
      ap test is ∙ or_first_false (test first) (list_any test items) none
  none_at (first ∷ items) (suc k) item within is none =
      none_at items k item (omega arith) is
      (or_second_false (test first) (list_any test items) none)

-- closed types

pub variable_open : (ty : Ty) (j : ℕ) → ty ≡ type.Var j →
    IsTrue false ↔ ((i : ℕ) → occurs_in_type i ty ≡ false)
variable_open ty j is = (
  λ never. absurd (false≢true never),
  λ none.
      sym (none j) ∙ ap (occurs_in_type j) is ∙ occurs_in_type-variable j j ∙ eq-eqb j j refl,
)

pub application_closed : (ty : Ty) (c : ℕ) (types : List Ty) (held : Bool) →
    ty ≡ type.Apply c types → (IsTrue held ↔ ((i : ℕ) → occurs_in_types i types ≡ false)) →
    IsTrue held ↔ ((i : ℕ) → occurs_in_type i ty ≡ false)
application_closed ty c types held is parts = (
  λ holds i. ap (occurs_in_type i) is ∙ occurs_in_type-apply i c types ∙ parts.0 holds i,
  λ none. parts.1 (λ i. sym (ap (occurs_in_type i) is ∙ occurs_in_type-apply i c types) ∙ none i),
)

pub item_open : (types : List Ty) (k : ℕ) (ty : Ty) (held : Bool) → k < length types →
    ty ≡ get_or types k ty → held ≡ false →
    (IsTrue held ↔ ((i : ℕ) → occurs_in_type i ty ≡ false)) →
    IsTrue false ↔ ((i : ℕ) → occurs_in_types i types ≡ false)
item_open types k ty held within is denied part = (
  λ never. absurd (false≢true never),
  λ none. sym denied ∙ part.1 (λ i. none_at (occurs_in_type i) types k ty within is (none i)),
)

-- the greatest that occurs, found from above
pub from_lower : (test : ℕ → Bool) (count i : ℕ) (held : Bool) → 0 < i → i ≤ count →
    ((j : ℕ) → i ≤ j → j < count → test j ≡ false) → held ≡ test (i - 1) → held ≡ true →
    IsUsed test count (i - 1 + 1)
from_lower test count i held some within above is given =
    let here : i - 1 + 1 ≡ i = omega arith in
    record {
      within = omega (arith, here);
      last = λ _.
          let same : i - 1 + 1 - 1 ≡ i - 1 = omega (arith, here) in
          ap test same ∙ sym is ∙ given;
      none = λ j from inside. above j (omega (arith, from, here)) inside;
    }
