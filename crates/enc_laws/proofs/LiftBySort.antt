-- The lift of the translations whose marks are of sorts: each sort is a member.
use Rattle.std.specs.Prelude.{ℕ, ◌<◌, ◌≡◌, Bool, true, false, List, [], ◌∷◌, map, length, eqb, slice_get, Some, IsTrue}
use Rattle.std.specs.List.{AllByRecursion}
use Rattle.std.proofs.Common.{refl, sym, ap, ◌∙◌, subst, arith}
use Rattle.std.proofs.lemmas.Bool.{eqb-true}
use Rattle.tf_core.specs.declared.ty.Ty.{Ty}
use Rattle.tf_core.specs.declared.signature.Symbol.{Symbol}
use Rattle.tf_core.specs.declared.signature.Signature.{Signature}
use Rattle.tf_core.specs.declared.normal.Normal.{Normal}
use Rattle.tf_core.specs.Types.{type_value, instantiate}
use Rattle.tf_core.specs.Typing.{AreTypes, no_types, IsNormal}
use Rattle.tf_core.specs.Sorts.{binder_types, sorts}
use Rattle.tf_core.specs.Sound.{is_monomorphic, IsSoundNormal}
use Rattle.tf_core.specs.Models.{IsNormalSatisfied}
use Rattle.tf_core.proofs.Compared.{instantiate-none}
use Rattle.fof_models.specs.declared.formula.FofTerm.{FofTerm}
use Rattle.fof_models.specs.Structures.{Untyped}
use Rattle.fof_models.specs.Truth.{value, truth}
use Rattle.fof_models.specs.Models.{AreSatisfied}
use Rattle.fof_models.proofs.Truth.{value-apply, truth-atom, truth-equal}
use Rattle.tf_naked.specs.declared.position.Position.{Position}
use Rattle.tf_naked.specs.declared.position.Kind.{Kind}
use Rattle.tf_naked.specs.SortLaws.{IsSort, AreSorts}
use Rattle.tf_naked.proofs.BinderTypes.{binder_types-and, binder_types-or, binder_types-for_all, binder_types-exists}
use Rattle.tf_naked.proofs.HeldTypes as naked_sorts
use Rattle.enc_marks.specs.declared.choices.Marking.TheVariants.{BySort}
use Rattle.enc_marks.specs.declared.choices.Binding.{Binding}
use Rattle.enc_marks.specs.declared.choices.Binding.TheVariants.{ByGuard, ByTag}
use Rattle.enc_marks.specs.Choices.{Choices}
use Rattle.enc_marks.specs.Translation.{Numbers, selected, tag_by, tag, guard_by, bind_by, bind}
use Rattle.enc_marks.specs.Axioms.{typing_axiom}
use Rattle.enc_marks.specs.Encoded.{all_numbers, translation}
use Rattle.enc_marks.specs.Occurrence.{count_below}
use Rattle.enc_laws.specs.Relations.{AreRelated, none_related}
use Rattle.enc_laws.specs.Directions.{Passes, NumbersAreRead}
use Rattle.enc_laws.specs.Lifted.{Lift, lifted, is_element, read_as, mark_of_sort, elements_in, sort_at, formed_sort, lift_by_sort, IsClosed}
use Rattle.enc_laws.proofs.Ranked.{length-listed}
use Rattle.enc_laws.proofs.ProblemBack.{translation_back}
use Rattle.enc_laws.proofs.Lifting.{ranking, Lifts, corresponds, backward}
use Rattle.enc_laws.proofs.Marked.{PicksByMarks}
use Rattle.enc_laws.proofs.LiftByType.{is_bound_by}
use Rattle.enc_laws.proofs.SortsFormed.{formed_within, sort_at-value, parameters_none, parts_sorted}

-- a number of the domain is read as any sort: no type is written
pub record IsAnySort (normal : Normal) (j : Untyped) (v m : ℕ) : Type 0 where
  pub below : v < j.size
  pub within : m < length (sorts normal)

-- what such a translation has to choose
pub record LiftsBySort (c : Choices) (normal : Normal) : Type 0 where
  pub marking : c.marking ≡ BySort
  pub keeps : (symbol : Symbol) → c.keeps symbol ≡ []
  -- numbers are read as themselves
  pub itself : (sort : Ty) (mark : ℕ → ℕ) (v : ℕ) → read_as (elements_in c normal sort) mark v ≡ v
  -- the elements are the numbers that are bound to a type, or all where there are no typing axioms
  pub bound : (ty : Ty) (size : ℕ) (mark : ℕ → ℕ) (v : ℕ) → c.typing ty ≡ true →
      is_element (elements_in c normal ty) size mark v ≡ is_bound_by c.binding mark v
  pub all : (ty : Ty) (size : ℕ) (mark : ℕ → ℕ) (v : ℕ) → c.typing ty ≡ false →
      is_element (elements_in c normal ty) size mark v ≡ true
  pub universal : (undercover naked : Bool) (ty : Ty) → c.universal undercover naked ty ≡ true →
      c.typing ty ≡ true
  pub existential : (ty : Ty) → c.typing ty ≡ true → c.existential ty ≡ true
  pub premise : (cover : Bool) (ty : Ty) → c.premise cover ty ≡ true → c.typing ty ≡ true
  pub tags : (position : Position) (kind : Kind) (ty : Ty) → c.tagged position kind ty ≡ true →
      c.binding ≡ ByTag
  pub tags_typed : (position : Position) (kind : Kind) (ty : Ty) →
      c.tagged position kind ty ≡ true → c.typing ty ≡ true
  pub last : (ty : Ty) → c.typing ty ≡ true → c.last ty ≡ true

no_numbers : (R : ℕ → ℕ → Type 0) (us : List ℕ) → AreRelated R us [] → us ≡ []
no_numbers R us none_related = refl

-- type arguments that aren't written are no numbers
pub none_kept : (R : ℕ → ℕ → Type 0) (tests : List Bool) (us members : List ℕ) → tests ≡ [] →
    AreRelated R us (selected tests members) → us ≡ selected tests members
none_kept R tests us members none related =
    no_numbers R us (subst (λ l. AreRelated R us (selected l members)) none related)
    ∙ ap (λ l. selected l members) (sym none)

no_items : {A : Type 0} (items : List A) → length items ≡ 0 → items ≡ []
no_items [] none = refl
no_items (item ∷ items) none = absurd (omega (arith, none))

module _ (normal : Normal) (monomorphic : IsTrue (is_monomorphic normal)) where
  -- a symbol's types at its parameters are sorts

  pub places_sorted : (f : ℕ) (symbol : Symbol) (types : List Ty) →
      slice_get normal.signature.symbols f ≡ Some symbol → length types ≡ symbol.parameters →
      AreSorts normal (map (instantiate types) symbol.arguments)
  places_sorted f symbol types at count =
      naked_sorts.place_sorts normal monomorphic 0 f symbol symbol.result types
      (record {
        at = at;
        gives = refl;
        count = count;
        formed = subst (AreTypes normal.signature 0) (sym (no_items types (count ∙
            parameters_none normal monomorphic f symbol at))) no_types;
      })

  pub result_sorted : (f : ℕ) (symbol : Symbol) (ty : Ty) (types : List Ty) →
      slice_get normal.signature.symbols f ≡ Some symbol → symbol.result ≡ Some ty →
      length types ≡ symbol.parameters → IsSort normal (instantiate types ty)
  result_sorted f symbol ty types at gives count =
      subst (λ list. IsSort normal (instantiate list ty))
      (sym (no_items types (count ∙ parameters_none normal monomorphic f symbol at)))
      (subst (IsSort normal) (sym (instantiate-none ty))
      (naked_sorts.result_sort normal f symbol ty at gives))

module _ (c : Choices) (normal : Normal) (present : ℕ → Bool) (j : Untyped)
    (some : 0 < j.size) where
  abbrev own : Lift
  own = lift_by_sort c normal (all_numbers normal) j

  -- each sort is read from some number
  pub number_of : NumbersAreRead c (all_numbers normal) normal.signature
      (lifted c (all_numbers normal) normal.signature present j
      (lift_by_sort c normal (all_numbers normal) j)) j
      (ranking j (lift_by_sort c normal (all_numbers normal) j) (IsAnySort normal j)
      (IsSort normal))
  number_of m within = (
    0,
    some,
    record {
      below = some;
      within = subst (λ z. m < z)
          (length-listed own.members 0 (λ i. count_below j.size (own.picks i))) within;
    },
  )

  pub passes : Passes c (all_numbers normal) normal.signature
      (lifted c (all_numbers normal) normal.signature present j
      (lift_by_sort c normal (all_numbers normal) j)) j
      (ranking j (lift_by_sort c normal (all_numbers normal) j) (IsAnySort normal j)
      (IsSort normal)) (λ p. AreSorts normal (binder_types p))
  passes = record {
    and = λ parts are. parts_sorted normal parts
        (subst (AreSorts normal) (binder_types-and parts) are);
    or = λ parts are. parts_sorted normal parts
        (subst (AreSorts normal) (binder_types-or parts) are);
    for_all = λ ty body are.
        let both : AreSorts normal (ty ∷ binder_types body) =
        subst (AreSorts normal) (binder_types-for_all ty body) are in
        (both.0, both.1);
    exists = λ ty body are.
        let both : AreSorts normal (ty ∷ binder_types body) =
        subst (AreSorts normal) (binder_types-exists ty body) are in
        (both.0, both.1);
  }

module _ (c : Choices) (normal : Normal) (present : ℕ → Bool) (j : Untyped)
    (monomorphic : IsTrue (is_monomorphic normal)) (sound : IsSoundNormal normal)
    (closed : IsClosed (all_numbers normal) normal.signature j) (by : LiftsBySort c normal)
    (absent : (f : ℕ) (symbol : Symbol) (values : List ℕ) →
    slice_get normal.signature.symbols f ≡ Some symbol → present f ≡ false →
    j.symbol_at f values ≡ 0)
    (axioms : (f : ℕ) (symbol : Symbol) (ty : Ty) →
    slice_get normal.signature.symbols f ≡ Some symbol → symbol.result ≡ Some ty →
    c.typing ty ≡ true →
    IsTrue (truth j (typing_axiom c (all_numbers normal) normal.signature f symbol ty) [])) where
  abbrev k : Numbers
  k = all_numbers normal

  abbrev own' : Lift
  own' = lift_by_sort c normal (all_numbers normal) j

  -- what binds a term to a sort is true by the sort's mark
  pub truth-bind : (depth : ℕ) (ty : Ty) (t : FofTerm) (assignment : List ℕ) (b : Binding) →
      c.binding ≡ b →
      truth j (bind c (all_numbers normal) normal.signature depth ty t) assignment
      ≡ is_bound_by c.binding (mark_of_sort (all_numbers normal) j ty) (value j assignment t)
  truth-bind depth ty t assignment ByGuard binding =
      ap (λ z. truth j (bind_by z c.marking k depth ty t) assignment) binding
      ∙ ap (λ z. truth j (guard_by z k depth ty t) assignment) by.marking
      ∙ truth-atom j (k.sort ty) (t ∷ []) assignment
      ∙ ap (λ z. is_bound_by z (mark_of_sort k j ty) (value j assignment t)) (sym binding)
  truth-bind depth ty t assignment ByTag binding =
      ap (λ z. truth j (bind_by z c.marking k depth ty t) assignment) binding
      ∙ truth-equal j (tag c k normal.signature depth ty t) t assignment
      ∙ ap (λ z. eqb (value j assignment (tag_by z k depth ty t)) (value j assignment t)) by.marking
      ∙ ap (λ z. eqb z (value j assignment t)) (value-apply j assignment (k.sort ty) (t ∷ []))
      ∙ ap (λ z. is_bound_by z (mark_of_sort k j ty) (value j assignment t)) (sym binding)

  -- the elements of a sort's member
  pub picks_sort : (ty : Ty) (members : List ℕ) (v : ℕ) → IsSort normal ty →
      (lift_by_sort c normal (all_numbers normal) j).picks
      (type_value (formed_sort normal) members ty) v
      ≡ is_element (elements_in c normal ty) j.size (mark_of_sort (all_numbers normal) j ty) v
  picks_sort ty members v is =
      ap (λ sort. is_element (elements_in c normal sort) j.size (mark_of_sort k j sort) v)
      (sort_at-value normal monomorphic sound ty members is)

  pub picks_by_marks : PicksByMarks c (all_numbers normal) normal.signature present j
      (lift_by_sort c normal (all_numbers normal) j) (IsAnySort normal j) (IsSort normal)
  picks_by_marks = record {
    itself = λ m v. by.itself (sort_at normal m) (mark_of_sort k j (sort_at normal m)) v;
    within = λ v m h. h.within;
    below = λ v m h. h.below;
    constructors = λ i constructor values members at all h. record {
      below = closed.constructors i constructor values at;
      within = formed_within normal i members;
    };
    constructors_below = λ i constructor members at below. formed_within normal i members;
    kept = λ symbol us members h.
        none_kept (IsAnySort normal j) (c.keeps symbol) us members (by.keeps symbol) h;
    good_arguments = places_sorted normal monomorphic;
    good_result = result_sorted normal monomorphic;
    declared = naked_sorts.argument_sorts normal;
    declared_result = naked_sorts.result_sort normal;
    functions_below = closed.functions;
    absent = absent;
    bind_is = λ depth ty t members assignment is_sort typing type_is.
        truth-bind depth ty t assignment c.binding refl
        ∙ (sym (by.bound ty j.size (mark_of_sort k j ty) (value j assignment t) typing)
        ∙ sym (picks_sort ty members (value j assignment t) is_sort));
    all_in = λ ty members v is_sort typing.
        picks_sort ty members v is_sort ∙ by.all ty j.size (mark_of_sort k j ty) v typing;
    universal = by.universal;
    existential = by.existential;
    premise = by.premise;
    tag_same = λ position kind depth ty t members assignment is_sort tagged type_is picked.
        let v : ℕ = value j assignment t in
        let same : is_bound_by ByTag (mark_of_sort k j ty) v ≡ true =
        ap (λ z. is_bound_by z (mark_of_sort k j ty) v) (sym (by.tags position kind ty tagged))
        ∙ (sym (by.bound ty j.size (mark_of_sort k j ty) v (by.tags_typed position kind ty tagged))
        ∙ (sym (picks_sort ty members v is_sort) ∙ picked)) in
        ap (λ z. value j assignment (tag_by z k depth ty t)) by.marking
        ∙ value-apply j assignment (k.sort ty) (t ∷ []) ∙ eqb-true _ _ same;
    axioms = axioms;
  }

-- where the lift corresponds, the lifted structure of a model of the translation satisfies the
-- formulas
pub sort_lifts_satisfied : (c : Choices) (normal : Normal) (present : ℕ → Bool) (j : Untyped) →
    IsNormal normal → 0 < j.size →
    Lifts c (all_numbers normal) normal.signature present j
    (lift_by_sort c normal (all_numbers normal) j) (IsAnySort normal j) (IsSort normal) →
    AreSatisfied j (translation c normal) →
    AllByRecursion
    (IsNormalSatisfied (lifted c (all_numbers normal) normal.signature present j
    (lift_by_sort c normal (all_numbers normal) j))) normal.formulas
sort_lifts_satisfied c normal present j typed some has_lifts satisfied =
    let k : Numbers = all_numbers normal in
    let g : Signature = normal.signature in
    let l : Lift = lift_by_sort c normal k j in
    translation_back c normal (lifted c k g present j l) j
    (ranking j l (IsAnySort normal j) (IsSort normal)) typed.signature
    (corresponds c k g present j l (IsAnySort normal j) (IsSort normal) typed.signature has_lifts)
    (λ p. AreSorts normal (binder_types p))
    (backward c k g present j l (IsAnySort normal j) (IsSort normal) typed.signature has_lifts
    (λ p. AreSorts normal (binder_types p)) (passes c normal present j some))
    (number_of c normal present j some) typed.formulas
    (naked_sorts.binder_sorts normal) satisfied
