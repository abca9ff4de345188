-- The lifted structure of an untyped model of a translation whose marks are of sorts is a model of
-- the problem.
use Rattle.std.specs.Prelude.{ℕ, ◌+◌, ◌<◌, ◌≡◌, Bool, true, false, List, [], ◌∷◌, map, cond, slice_get, Some, IsTrue}
use Rattle.std.specs.List.{AllByRecursion, list_any}
use Rattle.std.proofs.Common.{refl, sym, ap, ◌∙◌, subst, arith, ⊎_elim}
use Rattle.std.proofs.lemmas.Bool.{false≢true, or_cases}
use Rattle.enc_base.proofs.Quantifiers.{all_below-at, some_below-at}
use Rattle.tf_core.specs.declared.ty.Ty.{Ty}
use Rattle.tf_core.specs.declared.signature.Symbol.{Symbol}
use Rattle.tf_core.specs.declared.normal.NormalFormula.{NormalFormula}
use Rattle.tf_core.specs.declared.normal.Normal.{Normal}
use Rattle.tf_core.specs.declared.signature.Signature.{Signature}
use Rattle.tf_core.specs.Types.{same_type}
use Rattle.tf_core.specs.Typing.{IsNnf, IsNormal}
use Rattle.tf_core.specs.Sorts.{sorts}
use Rattle.tf_core.specs.Sound.{is_monomorphic, IsSoundFormula, IsSoundNormal}
use Rattle.tf_core.specs.Models.{IsNormalModel}
use Rattle.tf_core.proofs.Typed.{same_type-says}
use Rattle.fof_models.specs.declared.formula.FofTerm.{FofTerm}
use Rattle.fof_models.specs.declared.formula.FofTerm.TheVariants as term
use Rattle.fof_models.specs.declared.formula.Fof.{Fof}
use Rattle.fof_models.specs.declared.problem.FofFormula.{FofFormula}
use Rattle.fof_models.specs.Structures.{Untyped}
use Rattle.fof_models.specs.Truth.{value, truth}
use Rattle.fof_models.specs.Models.{IsSatisfied, AreSatisfied}
use Rattle.fof_models.proofs.Truth.{value-variable, value-apply, truth-for_all, truth-exists}
use Rattle.tf_naked.specs.SortLaws.{IsSort}
use Rattle.enc_marks.specs.declared.choices.Binding.{Binding}
use Rattle.enc_marks.specs.declared.choices.Binding.TheVariants.{ByGuard, ByTag}
use Rattle.enc_marks.specs.declared.choices.Marking.TheVariants.{BySort}
use Rattle.enc_marks.specs.Choices.{Choices}
use Rattle.enc_marks.specs.Translation.{Numbers, tag_by, tag, bind}
use Rattle.enc_marks.specs.Axioms.{typing_axiom, last_axiom}
use Rattle.enc_marks.specs.Encoded.{all_numbers, stated, axiom_named, typing_axioms, sort_axioms, last_axioms, translation}
use Rattle.enc_marks.specs.Names.{sort_last_name}
use Rattle.enc_marks.specs.Occurrence.{count_below}
use Rattle.enc_laws.specs.Lifted.{Lift, lifted, mark_of_sort, sort_at, lift_by_sort}
use Rattle.enc_laws.specs.LiftedBySort.{IsTotalBySort}
use Rattle.enc_laws.proofs.Ranked.{count_below-less}
use Rattle.enc_laws.proofs.Closed.{all-behind}
use Rattle.enc_laws.proofs.TypingRead.{typing_axiom-there}
use Rattle.enc_laws.proofs.ProblemBack.{typing_axioms_of}
use Rattle.enc_laws.proofs.Lifting.{Lifts}
use Rattle.enc_laws.proofs.Marked.{lifts}
use Rattle.enc_laws.proofs.Formed.{is_structure}
use Rattle.enc_laws.proofs.LiftByType.{is_bound_by}
use Rattle.enc_laws.proofs.SortsFormed.{some_sort, sort_at-sort}
use Rattle.enc_laws.proofs.LiftBySort.{IsAnySort, LiftsBySort, truth-bind, picks_by_marks, sort_lifts_satisfied}

-- a sound normal problem is well typed
formulas_typed : (g : Signature) (formulas : List NormalFormula) →
    AllByRecursion (IsSoundFormula g) formulas →
    AllByRecursion (λ formula. IsNnf g formula.type_variables [] formula.body) formulas
formulas_typed g [] are = tt
formulas_typed g (formula ∷ formulas) are = (are.0.typed, formulas_typed g formulas are.1)

pub normal_typed : (normal : Normal) → IsSoundNormal normal → IsNormal normal
normal_typed normal sound = record {
  signature = sound.signature.typed;
  formulas = formulas_typed normal.signature normal.formulas sound.formulas;
}

-- the last axiom of a sort

last_there : (c : Choices) (normal : Normal) (j : Untyped) (types : List Ty) (ty : Ty) →
    c.last ty ≡ true → AreSatisfied j (sort_axioms c normal types) →
    IsTrue (list_any (same_type ty) types) →
    IsTrue (truth j (last_axiom c (all_numbers normal) normal.signature c.binding 0 ty) [])
last_there c normal j [] ty last satisfied is = absurd (false≢true is)
last_there c normal j (first ∷ types) ty last satisfied is =
    ⊎_elim
    (λ here. subst (λ one. IsTrue (truth j (last_one one) []))
    (sym (same_type-says ty first here))
    (listed (c.last first) (ap c.last (sym (same_type-says ty first here)) ∙ last) satisfied))
    (λ there. last_there c normal j types ty last (others (c.last first) satisfied) there)
    (or_cases (same_type ty first) (list_any (same_type ty) types) is)
  where
    last_one : Ty → Fof
    last_one one = last_axiom c (all_numbers normal) normal.signature c.binding 0 one

    named : FofFormula
    named = axiom_named (sort_last_name normal c.binding first) (last_one first)

    listed : (b : Bool) → b ≡ true →
        AreSatisfied j (cond b (named ∷ sort_axioms c normal types) (sort_axioms c normal types)) →
        IsTrue (truth j (last_one first) [])
    listed true is all = all.0
    listed false is all = absurd (false≢true is)

    others : (b : Bool) →
        AreSatisfied j (cond b (named ∷ sort_axioms c normal types) (sort_axioms c normal types)) →
        AreSatisfied j (sort_axioms c normal types)
    others true all = all.1
    others false all = all

last_axioms_of : (c : Choices) (normal : Normal) (j : Untyped) →
    AreSatisfied j (translation c normal) →
    AreSatisfied j (last_axioms c normal c.marking)
unfolding translation
last_axioms_of c normal j satisfied =
    all-behind (IsSatisfied j) (typing_axioms c normal 0 normal.signature.symbols) _
    (all-behind (IsSatisfied j) (map (stated c normal) normal.formulas) _ satisfied)

pub last_of_sort : (c : Choices) (normal : Normal) (j : Untyped) (sort : Ty) →
    c.marking ≡ BySort → IsSort normal sort → c.last sort ≡ true →
    AreSatisfied j (translation c normal) →
    IsTrue (truth j (last_axiom c (all_numbers normal) normal.signature c.binding 0 sort) [])
last_of_sort c normal j sort marking is last satisfied =
    last_there c normal j (sorts normal) sort last
    (subst (λ m. AreSatisfied j (last_axioms c normal m)) marking
    (last_axioms_of c normal j satisfied)) is

module _ (c : Choices) (normal : Normal) (present : ℕ → Bool) (j : Untyped)
    (monomorphic : IsTrue (is_monomorphic normal)) (sound : IsSoundNormal normal)
    (total : IsTotalBySort c normal j) (by : LiftsBySort c normal)
    (absent : (f : ℕ) (symbol : Symbol) (values : List ℕ) →
    slice_get normal.signature.symbols f ≡ Some symbol → present f ≡ false →
    j.symbol_at f values ≡ 0) (satisfied : AreSatisfied j (translation c normal)) where
  abbrev k : Numbers
  k = all_numbers normal

  abbrev own : Lift
  own = lift_by_sort c normal (all_numbers normal) j

  axioms : (f : ℕ) (symbol : Symbol) (ty : Ty) →
      slice_get normal.signature.symbols f ≡ Some symbol → symbol.result ≡ Some ty →
      c.typing ty ≡ true →
      IsTrue (truth j (typing_axiom c (all_numbers normal) normal.signature f symbol ty) [])
  axioms f symbol ty at gives typing =
      let e : 0 + f ≡ f = omega arith in
      subst (λ x. IsTrue (truth j (typing_axiom c k normal.signature x symbol ty) [])) e
      (typing_axiom-there c normal j 0 normal.signature.symbols f symbol ty
      (typing_axioms_of c normal j satisfied) at gives typing)

  -- what is bound to a sort has its mark
  bound_marked : (depth : ℕ) (sort : Ty) (t : FofTerm) (assignment : List ℕ) →
      IsTrue (truth j (bind c (all_numbers normal) normal.signature depth sort t) assignment) →
      is_bound_by c.binding (mark_of_sort (all_numbers normal) j sort) (value j assignment t) ≡ true
  bound_marked depth sort t assignment h =
      sym (truth-bind c normal present j monomorphic sound total.closed by absent axioms depth sort
      t assignment c.binding refl) ∙ h

  marked_element : (sort : Ty) → IsSort normal sort → (b : Binding) → c.binding ≡ b →
      IsTrue (truth j (last_axiom c (all_numbers normal) normal.signature b 0 sort) []) →
      (v : ℕ) × (v < j.size)
      × (is_bound_by c.binding (mark_of_sort (all_numbers normal) j sort) v ≡ true)
  marked_element sort is ByGuard binding h =
      let body = bind c k normal.signature 1 sort (term.Var 0) in
      let found = some_below-at j.size (λ v. truth j body (v ∷ []))
      (sym (truth-exists j body []) ∙ h) in (
        found.0,
        found.1,
        ap (is_bound_by c.binding (mark_of_sort k j sort))
            (sym (value-variable j (found.0 ∷ []) 0))
            ∙ bound_marked 1 sort (term.Var 0) (found.0 ∷ []) found.2,
      )
  marked_element sort is ByTag binding h =
      let tagged : FofTerm = tag c k normal.signature 1 sort (term.Var 0) in
      let body = bind c k normal.signature 1 sort tagged in
      let each = all_below-at j.size (λ v. truth j body (v ∷ []))
      (sym (truth-for_all j body []) ∙ h) 0 total.closed.inhabited in
      let first : value j (0 ∷ []) (term.Var 0) ≡ 0 = value-variable j (0 ∷ []) 0 in
      let computes = ap (λ z. value j (0 ∷ []) (tag_by z k 1 sort (term.Var 0))) by.marking
      ∙ value-apply j (0 ∷ []) (k.sort sort) (term.Var 0 ∷ []) in (
        value j (0 ∷ []) tagged,
        subst (λ z. z < j.size) (sym computes)
            (total.tags binding sort _ is
            (subst (λ z. z < j.size) (sym first) total.closed.inhabited)),
        bound_marked 1 sort tagged (0 ∷ []) each,
      )

  some_element : (m v : ℕ) → v < j.size → own.picks m v ≡ true →
      0 < count_below j.size (own.picks m)
  some_element m v below picked =
      let less = count_below-less j.size v (own.picks m) below picked in
      omega (arith, less)

  inhabited_by : (m : ℕ) → m < own.members → (typing : Bool) →
      c.typing (sort_at normal m) ≡ typing → 0 < count_below j.size (own.picks m)
  inhabited_by m within true typing =
      let sort : Ty = sort_at normal m in
      let is : IsSort normal sort = sort_at-sort normal m within in
      let found = marked_element sort is c.binding refl
      (last_of_sort c normal j sort by.marking is (by.last sort typing) satisfied) in
      some_element m found.0 found.1
      (by.bound sort j.size (mark_of_sort k j sort) found.0 typing ∙ found.2)
  inhabited_by m within false typing =
      some_element m 0 total.closed.inhabited
      (by.all (sort_at normal m) j.size (mark_of_sort k j (sort_at normal m)) 0 typing)

  pub sort_lifted_model : IsNormalModel normal
      (lifted c (all_numbers normal) normal.signature present j
      (lift_by_sort c normal (all_numbers normal) j))
  sort_lifted_model =
      let typed = normal_typed normal sound in
      let l : Lift = lift_by_sort c normal k j in
      let has_lifts : Lifts c k normal.signature present j l (IsAnySort normal j) (IsSort normal) =
      lifts c k normal.signature present j l (IsAnySort normal j) (IsSort normal) typed.signature
      (picks_by_marks c normal present j monomorphic sound total.closed by absent axioms) in
      record {
        structure = is_structure c k normal.signature present j l (IsAnySort normal j)
            (IsSort normal) typed.signature has_lifts
            (record {
              some = some_sort normal;
              number_of = λ m within.
                  (0, record { below = total.closed.inhabited; within = within });
              inhabited = λ m within. inhabited_by m within (c.typing (sort_at normal m)) refl;
              predicates = total.predicates;
            });
        formulas = sort_lifts_satisfied c normal present j typed total.closed.inhabited has_lifts
            satisfied;
      }
