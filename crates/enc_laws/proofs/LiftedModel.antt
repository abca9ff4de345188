-- The lifted structure of an untyped model of a translation whose marks have the type as an
-- argument is a model of the problem.
use Rattle.std.specs.Prelude.{ℕ, ◌+◌, ◌-◌, ◌<◌, ◌≡◌, Bool, true, false, List, [], ◌∷◌, map, cond, slice_index, slice_get, Some, IsTrue}
use Rattle.std.proofs.Common.{refl, sym, ap, ◌∙◌, subst, arith}
use Rattle.enc_base.proofs.Quantifiers.{all_below-at, some_below-at}
use Rattle.tf_core.specs.declared.ty.Ty.{Ty}
use Rattle.tf_core.specs.declared.ty.Ty.TheVariants as type
use Rattle.tf_core.specs.declared.signature.Symbol.{Symbol}
use Rattle.tf_core.specs.declared.normal.Normal.{Normal}
use Rattle.tf_core.specs.Typing.{IsNormal}
use Rattle.tf_core.specs.Models.{IsNormalModel}
use Rattle.fof_models.specs.declared.formula.FofTerm.{FofTerm}
use Rattle.fof_models.specs.declared.formula.FofTerm.TheVariants as term
use Rattle.fof_models.specs.declared.formula.Fof.TheVariants as fof
use Rattle.fof_models.specs.Structures.{Untyped}
use Rattle.fof_models.specs.Truth.{value, truth}
use Rattle.fof_models.specs.Models.{IsSatisfied, AreSatisfied}
use Rattle.fof_models.proofs.Truth.{value-variable, value-apply, truth-for_all, truth-exists}
use Rattle.enc_marks.specs.declared.choices.Binding.{Binding}
use Rattle.enc_marks.specs.declared.choices.Marking.TheVariants.{ByType}
use Rattle.enc_marks.specs.declared.choices.Binding.TheVariants.{ByGuard, ByTag}
use Rattle.enc_marks.specs.Choices.{Choices}
use Rattle.enc_marks.specs.Translation.{Numbers, type_term, tag_by, tag, bind}
use Rattle.enc_marks.specs.Axioms.{typing_axiom, last_axiom}
use Rattle.enc_marks.specs.Encoded.{all_numbers, stated, axiom_named, typing_axioms, type_axioms, last_axioms, translation}
use Rattle.enc_marks.specs.Occurrence.{count_below}
use Rattle.enc_marks.specs.Names.{last_name}
use Rattle.enc_marks.proofs.Translation.{type_term-variable}
use Rattle.enc_laws.specs.Lifted.{Lift, lifted, type_mark, lift_by_type}
use Rattle.enc_laws.specs.Total.{IsTotal}
use Rattle.enc_laws.proofs.Ranked.{count_below-less}
use Rattle.enc_laws.proofs.Closed.{all-behind}
use Rattle.enc_laws.proofs.TypingRead.{typing_axiom-there}
use Rattle.enc_laws.proofs.ProblemBack.{typing_axioms_of}
use Rattle.enc_laws.proofs.Lifting.{Lifts}
use Rattle.enc_laws.proofs.Marked.{lifts}
use Rattle.enc_laws.proofs.Formed.{is_structure}
use Rattle.enc_laws.proofs.LiftByType.{IsItself, any, is_bound_by, LiftsByType, truth-bind, picks_by_marks, lifts_satisfied}

-- the last axioms of a translation
last_axioms_of : (c : Choices) (normal : Normal) (j : Untyped) →
    AreSatisfied j (translation c normal) →
    AreSatisfied j (last_axioms c normal c.marking)
unfolding translation
last_axioms_of c normal j satisfied =
    all-behind (IsSatisfied j) (typing_axioms c normal 0 normal.signature.symbols) _
    (all-behind (IsSatisfied j) (map (stated c normal) normal.formulas) _ satisfied)

last_axiom_of : (c : Choices) (normal : Normal) (j : Untyped) → c.marking ≡ ByType →
    c.last (type.Var 0) ≡ true → AreSatisfied j (translation c normal) →
    IsTrue (truth j
    (fof.ForAll (last_axiom c (all_numbers normal) normal.signature c.binding 1 (type.Var 0))) [])
last_axiom_of c normal j marking last satisfied =
    let types : AreSatisfied j (type_axioms c normal) =
    subst (λ m. AreSatisfied j (last_axioms c normal m)) marking
    (last_axioms_of c normal j satisfied) in
    let last_one = fof.ForAll (last_axiom c (all_numbers normal) normal.signature c.binding 1
    (type.Var 0)) in
    let one : AreSatisfied j (axiom_named (last_name c.binding) last_one ∷ []) =
    subst (λ b. AreSatisfied j (cond b (axiom_named (last_name c.binding) last_one ∷ []) []))
    last types in
    one.0

module _ (c : Choices) (normal : Normal) (present : ℕ → Bool) (j : Untyped)
    (total : IsTotal c normal j) (by : LiftsByType c)
    (absent : (f : ℕ) (symbol : Symbol) (values : List ℕ) →
    slice_get normal.signature.symbols f ≡ Some symbol → present f ≡ false →
    j.symbol_at f values ≡ 0) (satisfied : AreSatisfied j (translation c normal)) where
  abbrev own : Lift
  own = lift_by_type c (all_numbers normal) j

  axioms : (f : ℕ) (symbol : Symbol) (ty : Ty) → slice_get normal.signature.symbols f
      ≡ Some symbol →
      symbol.result ≡ Some ty → c.typing ty ≡ true →
      IsTrue (truth j (typing_axiom c (all_numbers normal) normal.signature f symbol ty) [])
  axioms f symbol ty at gives typing =
      let e : 0 + f ≡ f = omega arith in
      subst (λ x. IsTrue (truth j (typing_axiom c (all_numbers normal) normal.signature x symbol
      ty) [])) e (typing_axiom-there c normal j 0 normal.signature.symbols f symbol ty
      (typing_axioms_of c normal j satisfied) at gives typing)

  -- what is bound to the type variable of the outermost binder has its number's mark
  bound_marked : (u v : ℕ) (t : FofTerm) →
      IsTrue (truth j (bind c (all_numbers normal) normal.signature 2 (type.Var 0) t)
      (v ∷ u ∷ [])) →
      is_bound_by c.binding (type_mark (all_numbers normal) j u) (value j (v ∷ u ∷ []) t) ≡ true
  bound_marked u v t h =
      let number : ℕ → ℕ = (all_numbers normal).constructor in
      let is : value j (v ∷ u ∷ []) (type_term number 2 (type.Var 0)) ≡ u =
      ap (value j (v ∷ u ∷ [])) (type_term-variable number 2 0)
      ∙ value-variable j (v ∷ u ∷ []) (2 - (0 + 1))
      ∙ (let e : 2 - (0 + 1) ≡ 1 = omega arith in ap (slice_index (v ∷ u ∷ [])) e) in
      ap (λ z. is_bound_by c.binding (type_mark (all_numbers normal) j z) (value j (v ∷ u ∷ []) t))
      (sym is)
      ∙ (sym (truth-bind c (all_numbers normal) normal.signature present j total.closed by absent
      axioms 2
      (type.Var 0) t (v ∷ u ∷ []) c.binding refl) ∙ h)

  marked_element : (m : ℕ) → m < j.size → (b : Binding) → c.binding ≡ b →
      IsTrue (truth j (last_axiom c (all_numbers normal) normal.signature b 1 (type.Var 0))
      (m ∷ [])) →
      (v : ℕ) × (v < j.size) × (is_bound_by c.binding (type_mark (all_numbers normal) j m) v ≡ true)
  marked_element m within ByGuard binding h =
      let body = bind c (all_numbers normal) normal.signature 2 (type.Var 0) (term.Var 0) in
      let found = some_below-at j.size (λ v. truth j body (v ∷ m ∷ []))
      (sym (truth-exists j body (m ∷ [])) ∙ h) in (
        found.0,
        found.1,
        ap (is_bound_by c.binding (type_mark (all_numbers normal) j m))
            (sym (value-variable j (found.0 ∷ m ∷ []) 0))
            ∙ bound_marked m found.0 (term.Var 0) found.2,
      )
  marked_element m within ByTag binding h =
      let tagged : FofTerm = tag c (all_numbers normal) normal.signature 2 (type.Var 0)
      (term.Var 0) in
      let body = bind c (all_numbers normal) normal.signature 2 (type.Var 0) tagged in
      let each = all_below-at j.size (λ v. truth j body (v ∷ m ∷ []))
      (sym (truth-for_all j body (m ∷ [])) ∙ h) 0 total.closed.inhabited in
      let first : value j (0 ∷ m ∷ []) (term.Var 0) ≡ 0 = value-variable j (0 ∷ m ∷ []) 0 in
      let computes = ap (λ z.
      value j (0 ∷ m ∷ []) (tag_by z (all_numbers normal) 2 (type.Var 0) (term.Var 0)))
      by.marking
      ∙ value-apply j (0 ∷ m ∷ []) (all_numbers normal).shared
      (type_term (all_numbers normal).constructor 2 (type.Var 0) ∷ term.Var 0 ∷ []) in (
        value j (0 ∷ m ∷ []) tagged,
        subst (λ z. z < j.size) (sym computes)
            (total.tags binding _ _ (subst (λ z. z < j.size) (sym first) total.closed.inhabited)),
        bound_marked m 0 tagged each,
      )

  inhabited_by : (m : ℕ) → m < j.size → (typing : Bool) → c.typing (type.Var 0) ≡ typing →
      0 < count_below j.size (own.picks m)
  inhabited_by m within true typing =
      let last_one = last_axiom c (all_numbers normal) normal.signature c.binding 1 (type.Var 0) in
      let found = marked_element m within c.binding refl
      (all_below-at j.size (λ u. truth j last_one (u ∷ []))
      (sym (truth-for_all j last_one [])
      ∙ last_axiom_of c normal j by.marking (by.last typing) satisfied) m within) in
      let picked : own.picks m found.0 ≡ true =
      by.bound (type.Var 0) j.size (type_mark (all_numbers normal) j m) found.0 typing ∙ found.2 in
      let less = count_below-less j.size found.0 (own.picks m) found.1 picked in
      omega (arith, less)
  inhabited_by m within false typing =
      let picked : own.picks m 0 ≡ true =
      by.all (type.Var 0) j.size (type_mark (all_numbers normal) j m) 0 typing in
      let less = count_below-less j.size 0 (own.picks m) total.closed.inhabited picked in
      omega (arith, less)

  pub lifted_model : IsNormal normal →
      IsNormalModel normal (lifted c (all_numbers normal) normal.signature present j
      (lift_by_type c (all_numbers normal) j))
  lifted_model sound =
      let k : Numbers = all_numbers normal in
      let l : Lift = lift_by_type c k j in
      let has_lifts : Lifts c k normal.signature present j l (IsItself j) any =
      lifts c k normal.signature present j l (IsItself j) any sound.signature
      (picks_by_marks c k normal.signature present j total.closed by absent axioms) in
      record {
        structure = is_structure c k normal.signature present j l (IsItself j) any sound.signature
            has_lifts
            (record {
              some = total.closed.inhabited;
              number_of = λ m within. (m, record { is = refl; below = within });
              inhabited = λ m within. inhabited_by m within (c.typing (type.Var 0)) refl;
              predicates = total.predicates;
            });
        formulas = lifts_satisfied c normal present j sound has_lifts satisfied;
      }
