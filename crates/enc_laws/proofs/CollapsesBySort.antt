-- The collapsed structure under choices whose marks are of sorts, over a problem without type
-- variables.
use Rattle.std.specs.Prelude.{ℕ, zero, suc, ◌+◌, ◌++◌, ◌<◌, ◌≤◌, ◌≡◌, ◌⊎◌, Bool, true, false, not, ◌&&◌, ◌||◌, List, [], ◌∷◌, map, length, replicate, cond, count_by, eqb, ltb, get_or, min, slice_get, Some, IsTrue}
use Rattle.std.specs.List.{AllByRecursion, list_any, list_all, position_or_len}
use Rattle.std.proofs.Common.{refl, sym, ap, ◌∙◌, subst, arith, inl, inr, ⊎_elim}
use Rattle.std.proofs.lemmas.Bool.{false≢true, or_cases, and_parts, eqb-true, cond-true, cond-false, cases_lt, cases_Bool, lt-ltb, le-ltb, eq-eqb, ne_eqb}
use Rattle.std.proofs.lemmas.List.Sums.{passes_at_first}
use Rattle.enc_base.specs.Tables.{EachBelow}
use Rattle.enc_base.proofs.Quantifiers.{all_below-from, some_below-from}
use Rattle.tf_core.specs.declared.ty.Ty.{Ty}
use Rattle.tf_core.specs.declared.ty.Ty.TheVariants as type
use Rattle.tf_core.specs.declared.nnf.Nnf.{Nnf}
use Rattle.tf_core.specs.declared.nnf.Nnf.TheVariants as nnf
use Rattle.tf_core.specs.declared.signature.Symbol.{Symbol}
use Rattle.tf_core.specs.declared.normal.NormalFormula.{NormalFormula}
use Rattle.tf_core.specs.declared.normal.Normal.{Normal}
use Rattle.tf_core.specs.Sorts.{joined, binder_types, or_individuals, sorts}
use Rattle.tf_core.specs.Types.{instantiate, same_type}
use Rattle.tf_core.specs.Typing.{IsType, IsNormal}
use Rattle.tf_core.specs.Sound.{is_monomorphic, IsSoundNormal}
use Rattle.tf_core.specs.Structures.{Typed, member_count, size_of, member_of}
use Rattle.tf_core.specs.Models.{IsNormalModel}
use Rattle.tf_core.proofs.Typed.{same_type-says}
use Rattle.tf_core.proofs.Compared.{instantiate-none}
use Rattle.fof_models.specs.declared.formula.FofTerm.{FofTerm}
use Rattle.fof_models.specs.declared.formula.FofTerm.TheVariants as term
use Rattle.fof_models.specs.Structures.{Untyped}
use Rattle.fof_models.specs.Truth.{value, truth}
use Rattle.fof_models.specs.Models.{AreSatisfied}
use Rattle.fof_models.proofs.Truth.{value-variable, value-apply, truth-atom, truth-equal, truth-for_all, truth-exists}
use Rattle.tf_naked.specs.declared.position.Position.{Position}
use Rattle.tf_naked.specs.declared.position.Kind.TheVariants.{Universal}
use Rattle.tf_naked.specs.Standing.{is_positive_side, stands, is_undercover, is_naked}
use Rattle.tf_naked.specs.Naked.{is_naked_type, is_only, is_free}
use Rattle.tf_naked.specs.SortLaws.{IsSort, AreSorts}
use Rattle.tf_naked.proofs.HeldTypes.{sorts_listed, binder_sorts, sorts_front, sorts_back, argument_sorts, result_sort}
use Rattle.tf_naked.proofs.SortTypes.{sorts_formed}
use Rattle.tf_naked.proofs.BinderTypes.{binder_types-and, binder_types-or, binder_types-for_all, binder_types-exists}
use Rattle.enc_marks.specs.declared.choices.Marking.TheVariants.{ByType, BySort}
use Rattle.enc_marks.specs.declared.choices.Binding.{Binding}
use Rattle.enc_marks.specs.declared.choices.Binding.TheVariants.{ByGuard, ByTag}
use Rattle.enc_marks.specs.Choices.{Choices}
use Rattle.enc_marks.specs.Translation.{selected, tag_by, tag, guard_by, bind_by, bind}
use Rattle.enc_marks.specs.Axioms.{last_axiom}
use Rattle.enc_marks.specs.Encoded.{all_numbers, translation}
use Rattle.enc_laws.specs.Relations.{AreRelated, none_related, more_related}
use Rattle.enc_laws.specs.MergedStructure.{kept_count}
use Rattle.enc_laws.specs.CollapsedStructure.{collapse, greatest, sort_size, collapsed_size, elements_collapsed, collapsed_mark, domain_size, collapsed}
use Rattle.enc_laws.specs.Directions.{Passes}
use Rattle.enc_laws.specs.Collapses.{collapsing, Collapses, CollapsesAll}
use Rattle.enc_laws.specs.CollapsedLaws.{BearsCollapse, BareAreFree}
use Rattle.enc_laws.proofs.ByType.{same_stands}
use Rattle.enc_laws.proofs.Collapsed.{collapse-below}
use Rattle.enc_laws.proofs.MergedFormed.{type_within}
use Rattle.enc_laws.proofs.ClosedTypes.{type_value-closed, type_there}
use Rattle.enc_laws.proofs.CollapsedStructure.{greatest-sort, greatest-only, collapsed-symbol, collapsed-mark, collapsing_satisfies}
use Rattle.enc_laws.proofs.CollapsedFormed.{IsLarge}
use Rattle.enc_laws.proofs.BinderTests.{Pass, pass_in_and, pass_in_or, pass_in_for_all, pass_in_exists}
use Rattle.enc_laws.proofs.NakedTypes.{is_known, any_type, naked_types}

-- a number is what it is read as exactly where it is an element
collapse-itself : (bound v : ℕ) → 0 < bound → eqb (collapse bound v) v ≡ ltb v bound
collapse-itself bound v some =
    ⊎_elim
    (λ less.
    let is = lt-ltb v bound less in
    eq-eqb (collapse bound v) v (cond-true (ltb v bound) v 0 is) ∙ sym is)
    (λ past.
    let is = le-ltb v bound past in
    let zero_of = cond-false (ltb v bound) v 0 is in
    ne_eqb (collapse bound v) v (λ same. absurd (omega (arith, past, some, zero_of, same)))
    ∙ sym is)
    (cases_lt v bound)

no_items : {A : Type 0} (items : List A) → length items ≡ 0 → items ≡ []
no_items [] count = refl
no_items (item ∷ items) count = absurd (omega (arith, count))

and_true : (a : Bool) → (a && true) ≡ a
and_true true = refl
and_true false = refl

known_there : (naked known : Bool) → IsTrue (not naked || known) → IsTrue naked → IsTrue known
known_there true known is naked = is
known_there false known is naked = absurd (false≢true naked)

module _ (c : Choices) (is_bare : Ty → Bool) (normal : Normal) (s : Typed)
    (by : BearsCollapse c normal.signature is_bare) (bare_free : BareAreFree normal is_bare)
    (monomorphic : IsTrue (is_monomorphic normal)) (sound : IsSoundNormal normal)
    (typed : IsNormal normal) (model : IsNormalModel normal s) where
  abbrev own : Untyped
  own = collapsed c normal s

  -- types aren't written, so that a number may be read as any member
  abbrev IsMember : ℕ → ℕ → Type 0
  IsMember v m = m < member_count s

  -- ---- sorts

  pub size_is : domain_size c normal s ≡ greatest (map (sort_size s) (sorts normal))
  size_is = ap (λ m. collapsed_size m normal s) by.marking

  sort_formed : (ty : Ty) → IsSort normal ty → IsType normal.signature 0 ty
  sort_formed ty is =
      type_there (IsType normal.signature 0) (sorts normal) ty
      (sorts_formed normal monomorphic sound) is

  sort_member : (ty : Ty) (members : List ℕ) → IsSort normal ty →
      member_of s members ty ≡ member_of s [] ty
  sort_member ty members is =
      type_value-closed normal.signature s.constructor_at ty (sort_formed ty is) members []

  sort_size-is : (ty : Ty) (members : List ℕ) → IsSort normal ty →
      size_of s (member_of s members ty) ≡ sort_size s ty
  sort_size-is ty members is = ap (size_of s) (sort_member ty members is)

  pub sort_some : (ty : Ty) → IsSort normal ty → 0 < sort_size s ty
  sort_some ty is =
      model.structure.inhabited (member_of s [] ty)
      (type_within normal.signature s typed.signature model.structure 0 ty (sort_formed ty is) []
      tt)

  pub sort_fits : (ty : Ty) → IsSort normal ty → sort_size s ty ≤ domain_size c normal s
  sort_fits ty is =
      let fit = greatest-sort s (sorts normal) ty is in
      let size = size_is in
      omega (arith, fit, size)

  -- ---- marks

  mark_is : (ty : Ty) (v : ℕ) → IsSort normal ty →
      own.symbol_at ((all_numbers normal).sort ty) (v ∷ [])
      ≡ collapsed_mark c.binding (sort_size s ty) (v ∷ [])
  mark_is ty v is =
      let number : ℕ = position_or_len (same_type ty) (sorts normal) in
      let there : get_or (sorts normal) number (type.Var 0) ≡ ty =
      sym (same_type-says ty _ (passes_at_first (same_type ty) (sorts normal) (type.Var 0)
      (number_within (same_type ty) (sorts normal) is))) in
      let fit = sort_fits ty is in
      collapsed-mark c normal s number (v ∷ [])
      ∙ ap (λ sort. collapsed_mark c.binding (min (sort_size s sort) (domain_size c normal s))
      (v ∷ [])) there
      ∙ ap (λ size. collapsed_mark c.binding size (v ∷ [])) (omega (arith, fit))
    where
      number_within : (test : Ty → Bool) (types : List Ty) → IsTrue (list_any test types) →
          position_or_len test types < length types
      number_within test [] some = absurd (false≢true some)
      number_within test (first ∷ types) some =
          within (test first) some (λ there. number_within test types there)
        where
          within : (b : Bool) → IsTrue (b || list_any test types) →
              (IsTrue (list_any test types) → position_or_len test types < length types) →
              cond (not b) (1 + position_or_len test types) 0 < suc (length types)
          within true is rest = omega arith
          within false is rest = let less = rest is in omega (arith, less)

  tag_is : (depth : ℕ) (ty : Ty) (t : FofTerm) (members assignment : List ℕ) →
      IsSort normal ty → c.binding ≡ ByTag →
      value own assignment (tag c (all_numbers normal) normal.signature depth ty t)
      ≡ collapse (size_of s (member_of s members ty)) (value own assignment t)
  tag_is depth ty t members assignment is tags =
      let v : ℕ = value own assignment t in
      ap (λ m. value own assignment (tag_by m (all_numbers normal) depth ty t)) by.marking
      ∙ value-apply own assignment ((all_numbers normal).sort ty) (t ∷ [])
      ∙ mark_is ty v is
      ∙ ap (λ b. collapsed_mark b (sort_size s ty) (v ∷ [])) tags
      ∙ ap (λ size. collapse size v) (sym (sort_size-is ty members is))

  bind_is : (depth : ℕ) (ty : Ty) (t : FofTerm) (members assignment : List ℕ) →
      IsSort normal ty →
      truth own (bind c (all_numbers normal) normal.signature depth ty t) assignment
      ≡ ltb (value own assignment t) (size_of s (member_of s members ty))
  bind_is depth ty t members assignment is = go c.binding refl
    where
      go : (b : Binding) → c.binding ≡ b →
          truth own (bind c (all_numbers normal) normal.signature depth ty t) assignment
          ≡ ltb (value own assignment t) (size_of s (member_of s members ty))
      go ByGuard guards =
          let v : ℕ = value own assignment t in
          ap (λ b. truth own (bind_by b c.marking (all_numbers normal) depth ty t) assignment)
          guards
          ∙ ap (λ m. truth own (guard_by m (all_numbers normal) depth ty t) assignment) by.marking
          ∙ truth-atom own ((all_numbers normal).sort ty) (t ∷ []) assignment
          ∙ ap (λ x. eqb x 1) (mark_is ty v is
          ∙ ap (λ b. collapsed_mark b (sort_size s ty) (v ∷ [])) guards)
          ∙ one_is (ltb v (sort_size s ty))
          ∙ ap (ltb v) (sym (sort_size-is ty members is))
        where
          one_is : (b : Bool) → eqb (cond b 1 0) 1 ≡ b
          one_is true = refl
          one_is false = refl
      go ByTag tags =
          let v : ℕ = value own assignment t in
          ap (λ b. truth own (bind_by b c.marking (all_numbers normal) depth ty t) assignment) tags
          ∙ truth-equal own (tag c (all_numbers normal) normal.signature depth ty t) t assignment
          ∙ ap (λ x. eqb x v) (tag_is depth ty t members assignment is tags)
          ∙ collapse-itself (size_of s (member_of s members ty)) v
          (subst (λ x. 0 < x) (sym (sort_size-is ty members is)) (sort_some ty is))

  last_is : (ty : Ty) → IsSort normal ty → (b : Binding) → c.binding ≡ b →
      IsTrue (truth own (last_axiom c (all_numbers normal) normal.signature b 0 ty) [])
  last_is ty is ByGuard guards =
      let body = bind c (all_numbers normal) normal.signature 1 ty (term.Var 0) in
      let some = sort_some ty is in
      let fit = sort_fits ty is in
      let below : 0 < own.size = omega (arith, some, fit) in
      truth-exists own body []
      ∙ some_below-from own.size (λ v. truth own body (v ∷ [])) 0 below
      (bind_is 1 ty (term.Var 0) [] (0 ∷ []) is
      ∙ ap (λ v. ltb v (sort_size s ty)) (value-variable own (0 ∷ []) 0)
      ∙ lt-ltb 0 (sort_size s ty) some)
  last_is ty is ByTag tags =
      let tagged : FofTerm = tag c (all_numbers normal) normal.signature 1 ty (term.Var 0) in
      let body = bind c (all_numbers normal) normal.signature 1 ty tagged in
      let some = sort_some ty is in
      truth-for_all own body []
      ∙ all_below-from own.size (λ v. truth own body (v ∷ [])) (λ v below.
      let small = collapse-below (sort_size s ty) (value own (v ∷ []) (term.Var 0)) some in
      bind_is 1 ty tagged [] (v ∷ []) is
      ∙ ap (λ x. ltb x (sort_size s ty)) (tag_is 1 ty (term.Var 0) [] (v ∷ []) is tags)
      ∙ lt-ltb (collapse (sort_size s ty) (value own (v ∷ []) (term.Var 0))) (sort_size s ty)
      small)

  -- ---- symbols

  -- a symbol of the problem has no parameters
  no_parameters : (f : ℕ) (symbol : Symbol) → slice_get normal.signature.symbols f ≡ Some symbol →
      symbol.parameters ≡ 0
  no_parameters f symbol at = none normal.signature.symbols f (and_parts _ _ monomorphic).0 at
    where
      none : (symbols : List Symbol) (i : ℕ) →
          IsTrue (list_all (λ (one : Symbol). eqb one.parameters 0) symbols) →
          slice_get symbols i ≡ Some symbol → symbol.parameters ≡ 0
      none [] i each there = cc
      none (first ∷ symbols) zero each there =
          let same : first ≡ symbol = cc in
          ap (λ (one : Symbol). one.parameters) (sym same)
          ∙ eqb-true first.parameters 0 (and_parts _ _ each).0
      none (first ∷ symbols) (suc i) each there =
          none symbols i (and_parts (eqb first.parameters 0) _ each).1 there

  -- so that it is applied at no types
  no_types_at : (f : ℕ) (symbol : Symbol) (types : List Ty) →
      slice_get normal.signature.symbols f ≡ Some symbol → length types ≡ symbol.parameters →
      types ≡ []
  no_types_at f symbol types at all = no_items types (all ∙ no_parameters f symbol at)

  instances_same : (types : List Ty) → types ≡ map (instantiate []) types
  instances_same [] = refl
  instances_same (ty ∷ types) =
      ap (λ x. x ∷ types) (sym (instantiate-none ty))
      ∙ ap (λ others. instantiate [] ty ∷ others) (instances_same types)

  arguments_good : (f : ℕ) (symbol : Symbol) (types : List Ty) →
      slice_get normal.signature.symbols f ≡ Some symbol → length types ≡ symbol.parameters →
      AllByRecursion (IsSort normal) (map (instantiate types) symbol.arguments)
  arguments_good f symbol types at all =
      subst (λ l. AreSorts normal (map (instantiate l) symbol.arguments))
      (sym (no_types_at f symbol types at all))
      (subst (AreSorts normal) (instances_same symbol.arguments)
      (argument_sorts normal f symbol at))

  result_good : (f : ℕ) (symbol : Symbol) (ty : Ty) (types : List Ty) →
      slice_get normal.signature.symbols f ≡ Some symbol → symbol.result ≡ Some ty →
      length types ≡ symbol.parameters → IsSort normal (instantiate types ty)
  result_good f symbol ty types at gives all =
      subst (λ l. IsSort normal (instantiate l ty)) (sym (no_types_at f symbol types at all))
      (subst (IsSort normal) (sym (instantiate-none ty)) (result_sort normal f symbol ty at gives))

  members_within : (values members : List ℕ) → AreRelated IsMember values members →
      EachBelow (replicate (length members) (member_count s)) members
  members_within values members none_related = tt
  members_within values members (more_related v m others rest is are) =
      (is, members_within others rest are)

  nothing_kept : (tests : List Bool) (kept members : List ℕ) → tests ≡ [] →
      AreRelated IsMember kept (selected tests members) → kept ≡ []
  nothing_kept [] kept members none none_related = refl
  nothing_kept (test ∷ tests) kept members none are =
      absurd (omega (arith, ap (λ (l : List Bool). length l) none))

  symbol_is : (f : ℕ) (symbol : Symbol) (kept values members : List ℕ) →
      slice_get normal.signature.symbols f ≡ Some symbol → length members ≡ symbol.parameters →
      AreRelated IsMember kept (selected (c.keeps symbol) members) →
      own.symbol_at f (kept ++ values)
      ≡ s.symbol_at f members
      (elements_collapsed s own.size (map (member_of s members) symbol.arguments) values)
  symbol_is f symbol kept values members at all are =
      let none = no_items members (all ∙ no_parameters f symbol at) in
      let none_kept : List ℕ = [] in
      let count : length none_kept ≡ kept_count c symbol =
      sym (ap (count_by (λ (keeps : Bool). keeps)) (by.keeps symbol)) in
      ap (λ l. own.symbol_at f (l ++ values))
      (nothing_kept (c.keeps symbol) kept members (by.keeps symbol) are)
      ∙ collapsed-symbol c normal s f symbol [] values at count
      ∙ ap (λ l. s.symbol_at f l
      (elements_collapsed s own.size (map (member_of s l) symbol.arguments) values)) (sym none)

  -- ---- formulas

  abbrev HasKnown : Nnf → Type 0
  HasKnown p =
      Pass (is_known normal.signature 0 (is_naked_type normal))
      (any_type normal.signature 0 (is_naked_type normal)) p

  -- each binder has a sort, and a naked one the type of a naked place
  record IsFine (p : Nnf) : Type 0 where
    sorted : AreSorts normal (binder_types p)
    known : HasKnown p

  parts_fine : (parts : List Nnf) → AreSorts normal (joined (map binder_types parts)) →
      AllByRecursion HasKnown parts → AllByRecursion IsFine parts
  parts_fine [] sorted known = tt
  parts_fine (part ∷ parts) sorted known = (
    record {
      sorted = sorts_front normal (binder_types part) (joined (map binder_types parts)) sorted;
      known = known.0;
    },
    parts_fine parts
        (sorts_back normal (binder_types part) (joined (map binder_types parts)) sorted) known.1,
  )

  formulas_fine : (formulas : List NormalFormula) →
      AllByRecursion (λ (formula : NormalFormula). AreSorts normal (binder_types formula.body))
      formulas → AllByRecursion (λ (formula : NormalFormula). HasKnown formula.body) formulas →
      AllByRecursion (λ (formula : NormalFormula). IsFine formula.body) formulas
  formulas_fine [] sorted known = tt
  formulas_fine (formula ∷ formulas) sorted known = (
    record { sorted = sorted.0; known = known.0 },
    formulas_fine formulas sorted.1 known.1,
  )

  fine_passes : Passes c (all_numbers normal) normal.signature s own
      (collapsing s own IsMember (IsSort normal)) IsFine
  fine_passes = record {
    and = λ parts fine.
        parts_fine parts (subst (AreSorts normal) (binder_types-and parts) fine.sorted)
        (pass_in_and _ _ parts fine.known);
    or = λ parts fine.
        parts_fine parts (subst (AreSorts normal) (binder_types-or parts) fine.sorted)
        (pass_in_or _ _ parts fine.known);
    for_all = λ ty body fine.
        let sorted = subst (AreSorts normal) (binder_types-for_all ty body) fine.sorted in (
          sorted.0,
          record { sorted = sorted.1; known = (pass_in_for_all _ _ ty body fine.known).1 },
        );
    exists = λ ty body fine.
        let sorted = subst (AreSorts normal) (binder_types-exists ty body) fine.sorted in (
          sorted.0,
          record { sorted = sorted.1; known = (pass_in_exists _ _ ty body fine.known).1 },
        );
  }

  -- ---- a variable that has to be exact

  untagged : (position : Position) (ty : Ty) → IsTrue (is_bare ty) →
      c.tagged position Universal ty ≡ false
  untagged position ty bare =
      ⊎_elim
      (λ tagged. absurd (false≢true (sym (by.tagged position Universal ty tagged).0 ∙ bare)))
      (λ none. none)
      (cases_Bool (c.tagged position Universal ty))

  bare_naked : (ty : Ty) (body : Nnf) → IsTrue (is_bare ty) →
      IsTrue (stands normal.signature
      (λ p. is_positive_side p && not (c.tagged p Universal ty)) body 0) →
      IsTrue (is_naked normal.signature body)
  bare_naked ty body bare need =
      same_stands normal.signature (λ p. is_positive_side p && not (c.tagged p Universal ty))
      is_positive_side
      (λ p. ap (λ b. is_positive_side p && not b) (untagged p ty bare)
      ∙ and_true (is_positive_side p)) body 0 need

  -- a free sort that is the type of a naked place is the only sort
  free_only : (ty : Ty) → IsTrue (is_free normal ty) → IsTrue (is_naked_type normal ty) →
      IsTrue (is_only ty (sorts normal))
  unfolding is_free
  free_only ty free naked =
      ⊎_elim (λ none. absurd (false≢true (sym (ap not naked) ∙ none))) (λ only. only)
      (or_cases (not (is_naked_type normal ty)) (is_only ty (sorts normal)) free)

  binder_bound : (ty : Ty) (body : Nnf) (members : List ℕ) → IsFine (nnf.ForAll ty body) →
      IsSort normal ty →
      IsTrue (stands normal.signature
      (λ p. is_positive_side p && not (c.tagged p Universal ty)) body 0) →
      (c.universal (is_undercover normal.signature body) (is_naked normal.signature body) ty ≡ true)
      ⊎ (own.size ≤ size_of s (member_of s members ty))
  binder_bound ty body members fine is need =
      ⊎_elim
      (λ bare.
      let naked = bare_naked ty body bare need in
      let known = known_there (is_naked normal.signature body) (is_naked_type normal ty)
      (pass_in_for_all _ _ ty body fine.known).0 naked in
      let only = greatest-only s (sorts normal) ty
      (free_only ty (bare_free ty is bare) known) in
      let size = size_is in
      let same = sort_size-is ty members is in
      inr (omega (arith, only, size, same)))
      (λ marked. inl (by.binds ty body marked need))
      (cases_Bool (is_bare ty))

  -- ---- the translation is true

  sorts_collapse :
      Collapses c (all_numbers normal) normal.signature s own IsMember (IsSort normal) IsFine
  sorts_collapse = record {
    passes = fine_passes;
    within = λ v m is. is;
    constructors = λ i constructor values members at all are.
        model.structure.constructors i constructor members at
        (subst (λ a. EachBelow (replicate a (member_count s)) members) all
        (members_within values members are));
    symbols = λ f symbol kept values members at all are below.
        symbol_is f symbol kept values members at all are;
    good_arguments = arguments_good;
    good_result = result_good;
    declared = λ f symbol at. argument_sorts normal f symbol at;
    declared_result = λ f symbol ty at gives. result_sort normal f symbol ty at gives;
    fits = λ ty members is within.
        let fit = sort_fits ty is in
        let same = sort_size-is ty members is in
        omega (arith, fit, same);
    tag_is = λ depth ty t members assignment position kind is tagged below.
        tag_is depth ty t members assignment is (by.tagged position kind ty tagged).1;
    bind_is = λ depth ty t members assignment is typing below.
        bind_is depth ty t members assignment is;
    universal = by.universal;
    existential = by.existential;
    binds = λ ty body members fine is need. binder_bound ty body members fine is need;
  }

  sorts_collapse_all :
      CollapsesAll c (all_numbers normal) normal.signature s own IsMember (IsSort normal)
  sorts_collapse_all = record {
    some_member = λ v below. (0, model.structure.some, model.structure.some);
    last = λ marking has.
        let same : ByType ≡ BySort = sym marking ∙ by.marking in cc;
    last_of_sort = λ ty is marking has. last_is ty is c.binding refl;
  }

  pub sorts_satisfy : AreSatisfied (collapsed c normal s) (translation c normal)
  sorts_satisfy =
      collapsing_satisfies c normal s own IsMember (IsSort normal) IsFine typed model sorts_collapse
      sorts_collapse_all
      (formulas_fine normal.formulas (binder_sorts normal) (naked_types normal typed.formulas))
      (sorts_listed normal)

  -- ---- the domain is large enough

  some_listed : (P : Ty → Type 0) (types : List Ty) → AllByRecursion P (or_individuals types) →
      (ty : Ty) × P ty
  some_listed P [] all = (type.Apply 0 [], all.0)
  some_listed P (ty ∷ types) all = (ty, all.0)

  pub sorts_large : IsLarge c normal s
  sorts_large = record {
    some =
        let one = some_listed (IsSort normal) _ (sorts_listed normal) in
        let some = sort_some one.0 one.1 in
        let fit = sort_fits one.0 one.1 in
        omega (arith, some, fit);
    keeps = λ f symbol at.
        ap (count_by (λ (keeps : Bool). keeps)) (by.keeps symbol) ∙ sym (no_parameters f symbol at);
    results = λ f symbol ty members at gives.
        let is = result_sort normal f symbol ty at gives in
        let fit = sort_fits ty is in
        let same = sort_size-is ty members is in
        omega (arith, fit, same);
    members = λ marking. let same : ByType ≡ BySort = sym marking ∙ by.marking in cc;
  }
