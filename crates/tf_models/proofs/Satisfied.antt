-- Satisfaction, by tuples of members in their order, in which only variables that occur vary.
use Rattle.std.specs.Prelude.{ℕ, ◌≡◌, ◌<◌, ◌+◌, ◌-◌, Bool, false, List, [], length, replicate, reverse, IsTrue}
use Rattle.std.proofs.Common.{sym, ap, subst, ◌∙◌, arith, ⊎_elim}
use Rattle.std.proofs.lemmas.Bool.{false≢true, cases_eq}
use Rattle.enc_base.specs.Tables.{EachBelow, tuple_count, place}
use Rattle.enc_base.specs.Tuples.{IsNext, IsLast}
use Rattle.enc_base.proofs.Tables.{place_within, EachBelow-length}
use Rattle.enc_base.proofs.TupleOrder.{place-same}
use Rattle.tf_core.specs.declared.problem.Stated.{Stated}
use Rattle.tf_core.specs.declared.signature.Signature.{Signature}
use Rattle.tf_core.specs.Typing.{IsFormula}
use Rattle.tf_core.specs.Truth.{truth}
use Rattle.tf_core.specs.Models.{IsSatisfied}
use Rattle.tf_core.specs.Occurrences.{occurs_in}
use Rattle.tf_core.specs.TypedTables.{reading}
use Rattle.tf_core.proofs.Occurrences.{truth-agrees}
use Rattle.tf_models.specs.declared.structure.TypedStructure.{TypedStructure}
use Rattle.tf_models.specs.Assignment.{Assignment}
use Rattle.tf_models.specs.Reading.{tables}
use Rattle.tf_models.specs.Search.{tried, IsUsed}
use Rattle.tf_models.specs.Evaluation.{true_in, IsTrueOrFalse}
use Rattle.tf_models.proofs.Varying.{varying_first, place-first, varying_below, kept_where, kept_below, kept_agrees}

module _ (g : Signature) (s : TypedStructure) (stated : Stated) where
  -- the bounds of the tuples that are tried
  abbrev pub bounds : List ℕ
  bounds = tried (length s.sizes) stated.body stated.type_variables

  -- the body is true for all tuples that are tried before one
  abbrev pub AreTrueBefore : List ℕ → Type 0
  AreTrueBefore members =
      (others : List ℕ) → EachBelow bounds others → place bounds others < place bounds members →
      IsTrue (truth (reading g (tables s)) others stated.body [])

  -- how far a search has come
  pub record IsSearched (members : List ℕ) : Type 0 where
    pub below : EachBelow bounds members
    pub before : AreTrueBefore members

  module _ (some : 0 < length s.sizes) where
    all_below : (members : List ℕ) → EachBelow bounds members →
        EachBelow (replicate stated.type_variables (length s.sizes)) members
    all_below members below =
        varying_below (length s.sizes) stated.type_variables (λ i. occurs_in i stated.body) members
        some below

    -- the body can be evaluated
    pub searched_typed : (env : Assignment) → env.elements ≡ [] →
        IsFormula g stated.type_variables [] stated.body → IsSearched env.members →
        IsTrueOrFalse g s env stated.body
    searched_typed env none typed searched =
        let below = all_below env.members searched.below in
        let long = EachBelow-length stated.type_variables (length s.sizes) env.members below in
        record {
          context = [];
          typed = subst (λ n. IsFormula g n [] stated.body) long typed;
          assigned = record {
            members = subst (λ n. EachBelow (replicate n (length s.sizes)) env.members) long below;
            elements = subst (λ es. EachBelow [] (reverse es)) (sym none) tt;
          };
        }

  pub truth_is : (env : Assignment) (held : Bool) → env.elements ≡ [] →
      held ≡ true_in g s env stated.body →
      truth (reading g (tables s)) env.members stated.body [] ≡ held
  truth_is env held none is =
      ap (λ es. truth (reading g (tables s)) env.members stated.body (reverse es)) (sym none)
      ∙ sym is

  module _ (some : 0 < length s.sizes) (members : List ℕ) (searched : IsSearched members) where
    -- before and at it
    through : IsTrue (truth (reading g (tables s)) members stated.body []) → (others : List ℕ) →
        EachBelow bounds others → place bounds others < place bounds members + 1 →
        IsTrue (truth (reading g (tables s)) others stated.body [])
    through holds others below within =
        ⊎_elim
        (λ same.
        subst (λ ms. IsTrue (truth (reading g (tables s)) ms stated.body []))
        (place-same bounds members others searched.below below (sym same)) holds)
        (λ differs.
        let other : place bounds others ≡ place bounds members → ⊥ = differs in
        searched.before others below (omega (arith, within, other)))
        (cases_eq (place bounds others) (place bounds members))

    pub searched_more : (after : List ℕ) →
        IsTrue (truth (reading g (tables s)) members stated.body []) →
        IsNext bounds members after → IsSearched after
    searched_more after holds next = record {
      below = next.below;
      before = λ others below within. through holds others below
          (omega (arith, within, next.place_is));
    }

    -- a tuple makes the body as true as the one in which the variables that don't occur have 0
    pub searched_all : IsTrue (truth (reading g (tables s)) members stated.body []) →
        IsLast bounds members → IsSatisfied (reading g (tables s)) stated
    searched_all holds last others below =
        let kept : List ℕ = kept_where (λ i. occurs_in i stated.body) others in
        let inside : EachBelow bounds kept =
        kept_below (length s.sizes) stated.type_variables (λ i. occurs_in i stated.body) others
        below in
        truth-agrees (reading g (tables s)) others kept stated.body []
        (kept_agrees (λ i. occurs_in i stated.body) others)
        ∙ through holds kept inside (omega (arith, last, place_within bounds kept inside))

    pub not_satisfied : truth (reading g (tables s)) members stated.body [] ≡ false →
        IsSatisfied (reading g (tables s)) stated → ⊥
    not_satisfied fails satisfied =
        false≢true (sym fails ∙ satisfied members (all_below some members searched.below))

    -- as many members as type variables
    long : stated.type_variables ≡ length members
    long =
        EachBelow-length stated.type_variables (length s.sizes) members
        (all_below some members searched.below)

    pub searched_used : (used : ℕ) →
        IsUsed (λ i. occurs_in i stated.body) stated.type_variables used →
        IsUsed (λ i. occurs_in i stated.body) (length members) used
    searched_used used is = subst (λ n. IsUsed (λ i. occurs_in i stated.body) n used) long is

    pub searched_below : EachBelow (tried (length s.sizes) stated.body (length members)) members
    searched_below =
        subst (λ n. EachBelow (tried (length s.sizes) stated.body n) members) long searched.below

    pub searched_next : (after : List ℕ) →
        IsNext (tried (length s.sizes) stated.body (length members)) members after →
        IsNext bounds members after
    searched_next after next =
        subst (λ n. IsNext (tried (length s.sizes) stated.body n) members after) (sym long) next

    pub searched_last : IsLast (tried (length s.sizes) stated.body (length members)) members →
        IsLast bounds members
    searched_last last =
        subst (λ n. IsLast (tried (length s.sizes) stated.body n) members) (sym long) last

    pub searched_smaller : (after : List ℕ) → IsNext bounds members after →
        tuple_count bounds - place bounds after < tuple_count bounds - place bounds members
    searched_smaller after next =
        omega (arith, next.place_is, place_within bounds after next.below)

  pub searched_none : 0 < length s.sizes → IsSearched (replicate stated.type_variables 0)
  searched_none some = record {
    below =
        varying_first (length s.sizes) stated.type_variables (λ i. occurs_in i stated.body) some;
    before = λ others below within.
        absurd (omega (arith, within, place-first bounds stated.type_variables));
  }
