-- What answers say of the visits of formulas.
use Rattle.std.proofs.Common.{◌≡◌, ℕ, suc, ◌+◌, ◌-◌, ◌<◌, ◌≤◌, Bool, true, false, List, [], ◌∷◌, ◌++◌, length, map, take, drop, get_or, append_assoc, Result, Ok, Err, IsErr, IsErrAnd, OnOk, refl, sym, ap, ◌∙◌, subst, arith, if◌then◌else◌}
use Rattle.std.proofs.Math.ListN.{drop_of_length-le}
use Rattle.std.proofs.Math.Seq.{drop-cons}
use Rattle.std.proofs.lemmas.List.{append-nil, length-append}
use Rattle.tptp_syntax.specs.declared.types.Bound.{Bound}
use Rattle.tptp_syntax.specs.declared.term.RawTerm.{RawTerm}
use Rattle.tptp_syntax.specs.declared.formula.RawFormula.{RawFormula}
use Rattle.tf_core.specs.declared.ty.Ty.{Ty}
use Rattle.tf_core.specs.declared.formula.Formula.{Formula}
use Rattle.tf_core.specs.declared.formula.Formula.TheVariants as f
use Rattle.tf_core.specs.declared.signature.Signature.{Signature}
use Rattle.tf_core.specs.Types.{same_type}
use Rattle.tf_check.specs.declared.error.TypeError.{TypeError}
use Rattle.tf_check.specs.declared.error.TypeError.TheVariants.{Mismatch, TypeQuantifier}
use Rattle.tf_check.specs.Answers.{Answers, IsFirst, map_ok}
use Rattle.tf_check.specs.Core.{binders_of}
use Rattle.tf_check.specs.Scope.{Scope, Binding, TypeVariable, TermVariable}
use Rattle.tf_check.specs.Terms.{Typed, term_reading}
use Rattle.tf_check.specs.Formulas.{Binders, binds_type, binder, binders, variable_type, type_binder, term_binder, quantified, equation, two, quantifier, FormulaReading, formula_reading, inside_each, types_bound}
use Rattle.tf_check.specs.Visited.{Visited, good, expect, ◌>>=◌, ◌>>◌}
use Rattle.tf_check.proofs.VisitLemmas.{value-bind, value-then, value-good}
use Rattle.tf_check.proofs.AnswerLemmas.{answers-good, answers-bind, answers-stop, answers-then, answers-then_stop, answers-pass, answers-fail, answers-failed, taken_next}
use Rattle.tf_check.proofs.SameLemmas.{same_type-self, same_type-equal}

-- ---- quantifiers one after another

pub quantified-push : (make : Ty → Formula → Formula) (types : List Ty) (ty : Ty)
    (body : Formula) →
    quantified make (types ++ ty ∷ []) body ≡ quantified make types (make ty body)
quantified-push make [] ty body = refl
quantified-push make (first ∷ types) ty body = ap (make first) (quantified-push make types ty body)

-- the last type, taken off and quantified over
pub quantified-popped : (make : Ty → Formula → Formula) (before after : List Ty) (ty : Ty)
    (body made : Formula) → before ≡ after ++ ty ∷ [] → made ≡ make ty body →
    quantified make after made ≡ quantified make before body
quantified-popped make before after ty body made is quantifies =
    ap (quantified make after) quantifies
    ∙ sym (quantified-push make after ty body)
    ∙ ap (λ types. quantified make types body) (sym is)

-- ---- how many type variables are bound

types_bound-push : (bounds : List Bound) (bound : Bound) →
    types_bound (bounds ++ bound ∷ []) ≡ types_bound bounds + (if binds_type bound then 1 else 0)
types_bound-push [] bound = omega arith
types_bound-push (first ∷ bounds) bound = omega (arith, types_bound-push bounds bound)

-- ---- equations

is_false : (b : Bool) → (b ≡ true → ⊥) → b ≡ false
is_false true differs = absurd (differs refl)
is_false false differs = refl

module _ (entry : ℕ) (g : Signature) (make : Formula → Formula) (left right : RawTerm)
    (scope : Scope) where
  abbrev sides : Typed → Typed → Visited Formula
  sides a b = expect (same_type a.1 b.1) (Mismatch entry a.1 b.1) >> good
      (make (f.Equal a.1 a.0 b.0))

  abbrev behind_left : Typed → Visited Formula
  behind_left a = (term_reading entry g right).as_term scope >>= λ b. sides a b

  pub equation_left : (fault : TypeError) → Answers ((term_reading entry g left).as_term scope)
      (Err fault) →
      Answers (equation entry g make left right scope) (Err fault)
  equation_left fault one = answers-stop ((term_reading entry g left).as_term scope) behind_left
      fault one

  behind : (a : Typed) (answer : Result Formula TypeError) →
      Answers ((term_reading entry g left).as_term scope) (Ok a) → Answers (behind_left a) answer →
      Answers (equation entry g make left right scope) answer
  behind a answer one two = answers-bind ((term_reading entry g left).as_term scope) behind_left a
      answer one two

  pub equation_right : (a : Typed) (fault : TypeError) →
      Answers ((term_reading entry g left).as_term scope) (Ok a) →
      Answers ((term_reading entry g right).as_term scope) (Err fault) →
      Answers (equation entry g make left right scope) (Err fault)
  equation_right a fault one two =
      behind a (Err fault) one
      (answers-stop ((term_reading entry g right).as_term scope) (λ b. sides a b) fault two)

  pub equation_done : (a b : Typed) →
      Answers ((term_reading entry g left).as_term scope) (Ok a) →
      Answers ((term_reading entry g right).as_term scope) (Ok b) → a.1 ≡ b.1 →
      Answers (equation entry g make left right scope) (Ok (make (f.Equal a.1 a.0 b.0)))
  equation_done a b one two same =
      behind a (Ok (make (f.Equal a.1 a.0 b.0))) one
      (answers-bind ((term_reading entry g right).as_term scope) (λ y. sides a y) b
      (Ok (make (f.Equal a.1 a.0 b.0))) two
      (answers-then (expect (same_type a.1 b.1) (Mismatch entry a.1 b.1))
      (good (make (f.Equal a.1 a.0 b.0))) (Ok (make (f.Equal a.1 a.0 b.0)))
      (answers-pass (same_type a.1 b.1) (Mismatch entry a.1 b.1)
      (subst (λ ty. same_type a.1 ty ≡ true) same (same_type-self a.1)))
      (answers-good (make (f.Equal a.1 a.0 b.0)))))

  pub equation_refused : (a b : Typed) →
      Answers ((term_reading entry g left).as_term scope) (Ok a) →
      Answers ((term_reading entry g right).as_term scope) (Ok b) → (a.1 ≡ b.1 → ⊥) →
      (error : TypeError) → IsFirst (Mismatch entry a.1 b.1 ∷ []) error →
      Answers (equation entry g make left right scope) (Err error)
  equation_refused a b one two differs error first =
      behind a (Err error) one
      (answers-bind ((term_reading entry g right).as_term scope) (λ y. sides a y) b
      (Err error) two
      (answers-then_stop (expect (same_type a.1 b.1) (Mismatch entry a.1 b.1))
      (good (make (f.Equal a.1 a.0 b.0))) error
      (answers-failed (same_type a.1 b.1) (Mismatch entry a.1 b.1) error
      (is_false (same_type a.1 b.1) (λ same. differs (same_type-equal a.1 b.1 same))) first)))

-- the negation of what is answered
pub equation_not : (entry : ℕ) (g : Signature) (left right : RawTerm) (scope : Scope)
    (a : Formula) →
    Answers (equation entry g (λ body. body) left right scope) (Ok a) →
    Answers (equation entry g f.Not left right scope) (Ok (f.Not a))
unfolding ◌>>=◌ ◌>>◌ good
equation_not entry g left right scope a one =
    record { exact = (one.exact.0, ap f.Not one.exact.1); refused = tt }

pub equation_not_stop : (entry : ℕ) (g : Signature) (left right : RawTerm) (scope : Scope)
    (fault : TypeError) →
    Answers (equation entry g (λ body. body) left right scope) (Err fault) →
    Answers (equation entry g f.Not left right scope) (Err fault)
unfolding ◌>>=◌ ◌>>◌ good
equation_not_stop entry g left right scope fault one = record { exact = tt; refused = one.refused }

-- ---- lists

-- the items up to the next index
take_push : {A : Type 0} (xs : List A) (i : ℕ) (x : A) → i < length xs → x ≡ get_or xs i x →
    take (i + 1) xs ≡ take i xs ++ x ∷ []
take_push xs i x within is =
    sym (map-id (take (i + 1) xs)) ∙ taken_next (λ y. y) xs i x within is
    ∙ ap (λ ys. ys ++ x ∷ []) (map-id (take i xs))
  where
    map-id : {A : Type 0} (xs : List A) → map (λ x. x) xs ≡ xs
    map-id [] = refl
    map-id (x ∷ xs) = ap (λ ys. x ∷ ys) (map-id xs)

module _ (bounds : List Bound) (i : ℕ) (bound : Bound) (within : i < length bounds)
    (is : bound ≡ get_or bounds i bound)
  where
    types_bound-next : types_bound (take (i + 1) bounds)
        ≡ types_bound (take i bounds) + (if binds_type bound then 1 else 0)
    types_bound-next =
        ap types_bound (take_push bounds i bound within is) ∙ types_bound-push
        (take i bounds) bound

    pub types_bound-more : binds_type bound ≡ true →
        types_bound (take (i + 1) bounds) ≡ types_bound (take i bounds) + 1
    types_bound-more binds =
        types_bound-next ∙ ap (λ b. types_bound (take i bounds) + (if b then 1 else 0)) binds

    pub types_bound-same : binds_type bound ≡ false →
        types_bound (take (i + 1) bounds) ≡ types_bound (take i bounds)
    types_bound-same binds =
        let next : types_bound (take (i + 1) bounds) ≡ types_bound (take i bounds) + 0 =
        types_bound-next ∙ ap (λ b. types_bound (take i bounds) + (if b then 1 else 0)) binds in
        omega arith

-- the item at an index and those behind it
pub at_drop : {A : Type 0} (xs : List A) (i : ℕ) (x : A) → i < length xs → x ≡ get_or xs i x →
    drop i xs ≡ x ∷ drop (i + 1) xs
at_drop xs i x within is =
    let next : suc i ≡ i + 1 = omega arith in
    drop-cons xs i x within ∙ ap (λ y. y ∷ drop (suc i) xs) (sym is) ∙ ap (λ k. x ∷ drop k xs) next

drop-front : {A : Type 0} (front back : List A) → drop (length front) (front ++ back) ≡ back
drop-front [] back = refl
drop-front (x ∷ front) back = drop-front front back

-- what is left of a list when its front is cut off
cut_back : {A : Type 0} (front back : List A) →
    drop (length (front ++ back) - length back) (front ++ back) ≡ back
cut_back front back =
    let size : length (front ++ back) - length back ≡ length front =
    omega (arith, length-append front back) in
    ap (λ k. drop k (front ++ back)) size ∙ drop-front front back

-- what is left when the names in front are unbound
pub scope_back : {A : Type 0} (front back whole cut : List A) (outer : ℕ) → whole ≡ front ++ back →
    outer ≡ length back → cut ≡ drop (length whole - outer) whole → cut ≡ back
scope_back front back whole cut outer is count cuts =
    cuts
    ∙ ap (λ k. drop (length whole - k) whole) count
    ∙ ap (λ xs. drop (length xs - length back) xs) is
    ∙ cut_back front back

pub on_ok : {A E : Type 0} (result : Result A E) (P : Type 0) → P → OnOk result P
on_ok (Ok a) P holds = holds
on_ok (Err fault) P holds = tt

-- an error that is handed on, of another type
pub answers-on_mapped : {A B : Type 0} (visit : Visited B) (f : A → B)
    (result : Result A TypeError)
    (fault : TypeError) → IsErr result × IsErrAnd result (λ error. error ≡ fault) →
    Answers visit (Err fault) → Answers visit (map_ok f result)
answers-on_mapped visit f (Ok a) fault on answers = absurd on.1
answers-on_mapped visit f (Err error) fault on answers =
    subst (λ e. Answers visit (Err e)) (sym on.1) answers

-- ---- binders

module _ (entry : ℕ) (g : Signature) (leading : Bool) where
  -- with these types in front
  abbrev pub with_types : List Ty → Binders → Binders
  with_types types b = record { scope = b.scope; types = types ++ b.types }

  abbrev pub all_with_types : List Ty → Result Binders TypeError → Result Binders TypeError
  all_with_types types result = map_ok (with_types types) result

  abbrev inner_binders : List Bound → Binders → Visited Binders
  inner_binders bounds b =
      binders entry g leading bounds b.scope >>= λ i. good (with_types b.types i)

  -- a binder and what follows
  pub binders_step : (bound : Bound) (bounds : List Bound) (scope : Scope) (b : Binders)
      (answer : Result Binders TypeError) → Answers (binder entry g leading bound scope) (Ok b) →
      Answers (binders entry g leading bounds b.scope) answer →
      Answers (binders entry g leading (bound ∷ bounds) scope) (all_with_types b.types answer)
  binders_step bound bounds scope b (Ok i) one others =
      answers-bind (binder entry g leading bound scope) (inner_binders bounds) b
      (Ok (with_types b.types i))
      one
      (answers-bind (binders entry g leading bounds b.scope) (λ i. good (with_types b.types i)) i
      (Ok (with_types b.types i)) others (answers-good (with_types b.types i)))
  binders_step bound bounds scope b (Err fault) one others =
      answers-bind (binder entry g leading bound scope) (inner_binders bounds) b (Err fault) one
      (answers-stop (binders entry g leading bounds b.scope) (λ i. good (with_types b.types i))
      fault others)

  pub binders_stop : (bound : Bound) (bounds : List Bound) (scope : Scope) (fault : TypeError) →
      Answers (binder entry g leading bound scope) (Err fault) →
      Answers (binders entry g leading (bound ∷ bounds) scope) (Err fault)
  binders_stop bound bounds scope fault one =
      answers-stop (binder entry g leading bound scope) (inner_binders bounds) fault one

  -- one binder, by its kind

  pub binder_type : (bound : Bound) (scope : Scope) → binds_type bound ≡ true → leading ≡ true →
      Answers (binder entry g leading bound scope)
      (Ok (record { scope = TypeVariable bound.name ∷ scope; types = [] }))
  binder_type bound scope is allowed =
      rw is
      (answers-then (expect leading (TypeQuantifier entry))
      (good (record { scope = TypeVariable bound.name ∷ scope; types = [] }))
      (Ok (record { scope = TypeVariable bound.name ∷ scope; types = [] }))
      (answers-pass leading (TypeQuantifier entry) allowed)
      (answers-good (record { scope = TypeVariable bound.name ∷ scope; types = [] })))

  pub binder_no_type : (bound : Bound) (scope : Scope) → binds_type bound ≡ true →
      leading ≡ false →
      Answers (binder entry g leading bound scope) (Err (TypeQuantifier entry))
  binder_no_type bound scope is refused =
      rw is
      (answers-then_stop (expect leading (TypeQuantifier entry))
      (good (record { scope = TypeVariable bound.name ∷ scope; types = [] }))
      (TypeQuantifier entry)
      (answers-fail leading (TypeQuantifier entry) refused))

  abbrev bound_as : List ℕ → Scope → Ty → Visited Binders
  bound_as name scope ty = good (record { scope = TermVariable name ty ∷ scope; types = ty ∷ [] })

  pub binder_term : (bound : Bound) (scope : Scope) (ty : Ty) → binds_type bound ≡ false →
      Answers (variable_type entry g bound.kind scope) (Ok ty) →
      Answers (binder entry g leading bound scope)
      (Ok (record { scope = TermVariable bound.name ty ∷ scope; types = ty ∷ [] }))
  binder_term bound scope ty is one =
      rw is
      (answers-bind (variable_type entry g bound.kind scope) (bound_as bound.name scope) ty
      (Ok (record { scope = TermVariable bound.name ty ∷ scope; types = ty ∷ [] })) one
      (answers-good (record { scope = TermVariable bound.name ty ∷ scope; types = ty ∷ [] })))

  pub binder_no_term : (bound : Bound) (scope : Scope) (fault : TypeError) →
      binds_type bound ≡ false →
      Answers (variable_type entry g bound.kind scope) (Err fault) →
      Answers (binder entry g leading bound scope) (Err fault)
  binder_no_term bound scope fault is one =
      rw is
      (answers-stop (variable_type entry g bound.kind scope) (bound_as bound.name scope) fault one)

  -- ---- the loop over the binders

  -- What the binders that are left answer under the names so far, all answer with the types so
  -- far.
  abbrev pub IsLeft : List Bound → Scope → List Bound → Scope → List Ty → Type 0
  IsLeft bounds scope left inner types =
      (answer : Result Binders TypeError) → Answers (binders entry g leading left inner) answer →
      Answers (binders entry g leading bounds scope) (all_with_types types answer)

  pub left-start : (bounds : List Bound) (scope : Scope) → IsLeft bounds scope bounds scope []
  left-start bounds scope (Ok b) one = one
  left-start bounds scope (Err fault) one = one

  types_joined : (types more : List Ty) (answer : Result Binders TypeError) →
      all_with_types types (all_with_types more answer) ≡ all_with_types (types ++ more) answer
  types_joined types more (Ok b) =
      ap (λ all. Ok (record { scope = b.scope; types = all }))
      (sym (append_assoc types more b.types))
  types_joined types more (Err fault) = refl

  module _ (bounds : List Bound) (scope : Scope) where
    pub left-next : (i : ℕ) (bound : Bound) (inner : Scope) (types : List Ty) (b : Binders) →
        i < length bounds → bound ≡ get_or bounds i bound →
        IsLeft bounds scope (drop i bounds) inner types →
        Answers (binder entry g leading bound inner) (Ok b) →
        IsLeft bounds scope (drop (i + 1) bounds) b.scope (types ++ b.types)
    left-next i bound inner types b within is before one answer others =
        subst (Answers (binders entry g leading bounds scope)) (types_joined types b.types answer)
        (before (all_with_types b.types answer)
        (subst (λ left. Answers (binders entry g leading left inner)
        (all_with_types b.types answer))
        (sym (at_drop bounds i bound within is))
        (binders_step bound (drop (i + 1) bounds) inner b answer one others)))

    pub left-type : (i : ℕ) (bound : Bound) (inner next : Scope) (types more : List Ty) →
        i < length bounds → bound ≡ get_or bounds i bound →
        IsLeft bounds scope (drop i bounds) inner types → binds_type bound ≡ true →
        leading ≡ true →
        next ≡ TypeVariable bound.name ∷ inner → more ≡ types →
        IsLeft bounds scope (drop (i + 1) bounds) next more
    left-type i bound inner next types more within is before binds allowed bound_is same =
        rw (bound_is, same)
        (subst (IsLeft bounds scope (drop (i + 1) bounds) (TypeVariable bound.name ∷ inner))
        (append-nil types)
        (left-next i bound inner types
        (record { scope = TypeVariable bound.name ∷ inner; types = [] })
        within is before (binder_type bound inner binds allowed)))

    pub left-term : (i : ℕ) (bound : Bound) (inner next : Scope) (types more : List Ty) (ty : Ty) →
        i < length bounds → bound ≡ get_or bounds i bound →
        IsLeft bounds scope (drop i bounds) inner types → binds_type bound ≡ false →
        Answers (variable_type entry g bound.kind inner) (Ok ty) →
        next ≡ TermVariable bound.name ty ∷ inner → more ≡ types ++ ty ∷ [] →
        IsLeft bounds scope (drop (i + 1) bounds) next more
    left-term i bound inner next types more ty within is before binds one bound_is pushed =
        rw (bound_is, pushed)
        (left-next i bound inner types
        (record { scope = TermVariable bound.name ty ∷ inner; types = ty ∷ [] }) within is before
        (binder_term bound inner ty binds one))

    pub left-stop : (i : ℕ) (bound : Bound) (inner : Scope) (types : List Ty) (fault : TypeError) →
        i < length bounds → bound ≡ get_or bounds i bound →
        IsLeft bounds scope (drop i bounds) inner types →
        Answers (binder entry g leading bound inner) (Err fault) →
        Answers (binders entry g leading bounds scope) (Err fault)
    left-stop i bound inner types fault within is before one =
        before (Err fault)
        (subst (λ left. Answers (binders entry g leading left inner) (Err fault))
        (sym (at_drop bounds i bound within is))
        (binders_stop bound (drop (i + 1) bounds) inner fault one))

    pub left-end : (i : ℕ) (inner : Scope) (types : List Ty) → length bounds ≤ i →
        IsLeft bounds scope (drop i bounds) inner types →
        Answers (binders entry g leading bounds scope) (Ok (binders_of inner types))
    left-end i inner types past before =
        subst (λ all. Answers (binders entry g leading bounds scope) (Ok (binders_of inner all)))
        (append-nil types)
        (before (Ok (binders_of inner []))
        (subst (λ left. Answers (binders entry g leading left inner) (Ok (binders_of inner [])))
        (sym (drop_of_length-le bounds past)) (answers-good (binders_of inner []))))

  -- ---- the names that are bound behind a list

  binder_scope : (bound : Bound) (scope : Scope) →
      (binding : Binding) × ((binder entry g leading bound scope).value.scope ≡ binding ∷ scope)
  binder_scope bound scope = by (binds_type bound)
    where
      by : (test : Bool) → (binding : Binding)
          × ((if test then type_binder entry g leading bound.name scope
          else term_binder entry g bound.name bound.kind scope).value.scope ≡ binding ∷ scope)
      by true =
          let made : Binders = record { scope = TypeVariable bound.name ∷ scope; types = [] } in (
            TypeVariable bound.name,
            ap (λ (b : Binders). b.scope)
                (value-then (expect leading (TypeQuantifier entry)) (good made) ∙ value-good made),
          )
      by false =
          let ty : Ty = (variable_type entry g bound.kind scope).value in (
            TermVariable bound.name ty,
            ap (λ (b : Binders). b.scope)
                (value-bind (variable_type entry g bound.kind scope) (bound_as bound.name scope)
                ∙ value-good (record {
                  scope = TermVariable bound.name ty ∷ scope;
                  types = ty
                      ∷ [];
                })),
          )

  -- as many names as binders, in front of those that were bound
  pub binders_scope : (bounds : List Bound) (scope : Scope) →
      (front : Scope) × ((binders entry g leading bounds scope).value.scope ≡ front ++ scope)
      × (length front ≡ length bounds)
  binders_scope [] scope =
      ([], ap (λ (b : Binders). b.scope) (value-good (record { scope = scope; types = [] })), refl)
  binders_scope (bound ∷ bounds) scope =
      let first : Visited Binders = binder entry g leading bound scope in
      let inner : Visited Binders = binders entry g leading bounds first.value.scope in
      let one = binder_scope bound scope in
      let rest = binders_scope bounds first.value.scope in (
        rest.0 ++ one.0 ∷ [],
        ap (λ (b : Binders). b.scope)
            (value-bind first (inner_binders bounds)
            ∙ value-bind inner (λ i. good (with_types first.value.types i))
            ∙ value-good (with_types first.value.types inner.value))
            ∙ rest.1
            ∙ ap (λ outer. rest.0 ++ outer) one.1
            ∙ sym (append_assoc rest.0 (one.0 ∷ []) scope),
        length-append rest.0 (one.0 ∷ []) ∙ pushed (length rest.0) (length bounds) rest.2,
      )
    where
      pushed : (m n : ℕ) → m ≡ n → m + 1 ≡ suc n
      pushed m n same = omega arith

  pub bound_scope : (bounds : List Bound) (scope inner : Scope) (types : List Ty) →
      Answers (binders entry g leading bounds scope) (Ok (binders_of inner types)) →
      (front : Scope) × (inner ≡ front ++ scope) × (length front ≡ length bounds)
  bound_scope bounds scope inner types answers =
      let is = binders_scope bounds scope in
      (is.0, sym (ap (λ (b : Binders). b.scope) answers.exact.1) ∙ is.1, is.2)

-- ---- parts

-- what is made of the value of a visit
pub answers-made : {A B : Type 0} (visit : Visited A) (make : A → B) (a : A) →
    Answers visit (Ok a) →
    Answers (visit >>= λ x. good (make x)) (Ok (make a))
answers-made visit make a one =
    answers-bind visit (λ x. good (make x)) a (Ok (make a)) one (answers-good (make a))

pub answers-unmade : {A B : Type 0} (visit : Visited A) (make : A → B) (fault : TypeError) →
    Answers visit (Err fault) → Answers (visit >>= λ x. good (make x)) (Err fault)
answers-unmade visit make fault one = answers-stop visit (λ x. good (make x)) fault one

module _ (entry : ℕ) (g : Signature) (scope : Scope) where
  abbrev pub part_visit : RawFormula → Visited Formula
  part_visit x = formula_reading entry g x false scope

  pub part_visits : (xs : List RawFormula) →
      inside_each (map (formula_reading entry g) xs) scope ≡ map part_visit xs
  part_visits [] = refl
  part_visits (x ∷ xs) = ap (λ visits. part_visit x ∷ visits) (part_visits xs)

  module _ (make : Formula → Formula → Formula) (left right : FormulaReading) where
    pub two_left : (fault : TypeError) → Answers (left false scope) (Err fault) →
        Answers (two entry g make left right scope) (Err fault)
    two_left fault one =
        answers-stop (left false scope) (λ a. right false scope >>= λ b. good (make a b)) fault one

    pub two_right : (a : Formula) (fault : TypeError) → Answers (left false scope) (Ok a) →
        Answers (right false scope) (Err fault) → Answers (two entry g make left right scope)
        (Err fault)
    two_right a fault one other =
        answers-bind (left false scope) (λ a. right false scope >>= λ b. good (make a b)) a
        (Err fault) one
        (answers-unmade (right false scope) (make a) fault other)

    pub two_done : (a b : Formula) → Answers (left false scope) (Ok a) →
        Answers (right false scope) (Ok b) → Answers (two entry g make left right scope)
        (Ok (make a b))
    two_done a b one other =
        answers-bind (left false scope) (λ a. right false scope >>= λ b. good (make a b)) a
        (Ok (make a b)) one (answers-made (right false scope) (make a) b other)

  module _ (make : Ty → Formula → Formula) (leading : Bool) (bounds : List Bound)
      (body : FormulaReading) where
    abbrev in_scope : Binders → Visited Formula
    in_scope inner = body leading inner.scope >>= λ a. good (quantified make inner.types a)

    pub quantifier_no_binders : (fault : TypeError) →
        Answers (binders entry g leading bounds scope) (Err fault) →
        Answers (quantifier entry g make leading bounds body scope) (Err fault)
    quantifier_no_binders fault one =
        answers-stop (binders entry g leading bounds scope) in_scope fault one

    pub quantifier_no_body : (inner : Binders) (fault : TypeError) →
        Answers (binders entry g leading bounds scope) (Ok inner) →
        Answers (body leading inner.scope) (Err fault) →
        Answers (quantifier entry g make leading bounds body scope) (Err fault)
    quantifier_no_body inner fault one other =
        answers-bind (binders entry g leading bounds scope) in_scope inner (Err fault) one
        (answers-unmade (body leading inner.scope) (quantified make inner.types) fault other)

    pub quantifier_done : (inner : Binders) (a : Formula) (answer : Result Formula TypeError) →
        Answers (binders entry g leading bounds scope) (Ok inner) →
        Answers (body leading inner.scope) (Ok a) →
        Answers (good (quantified make inner.types a)) answer →
        Answers (quantifier entry g make leading bounds body scope) answer
    quantifier_done inner a answer one other last =
        answers-bind (binders entry g leading bounds scope) in_scope inner answer one
        (answers-bind (body leading inner.scope) (λ x. good (quantified make inner.types x)) a
        answer other
        last)
