-- Models of a problem and of its normal problem.
use Rattle.std.proofs.Common.{ℕ, ◌+◌, ◌-◌, ◌<◌, ◌≤◌, ◌≡◌, Bool, true, false, List, [], ◌∷◌, ◌++◌, map, length, replicate, get_or, refl, sym, ap, subst, ◌∙◌, arith, ⊎_elim, length-append}
use Rattle.std.specs.Prelude.{not, slice_index, slice_get, Option, Some, None, IsTrue}
use Rattle.std.specs.List.{range_with_len, AllByRecursion}
use Rattle.std.proofs.lemmas.List.{get_or_append_left, get_or-append-add, get_or-take, get_or-map, length-take-le, length-map}
use Rattle.std.proofs.lemmas.Option.{slice_get_within}
use Rattle.enc_base.specs.Tables.{EachBelow, tuple_count}
use Rattle.tf_core.specs.declared.signature.Constructor.{Constructor}
use Rattle.tf_core.specs.declared.signature.Signature.{Signature}
use Rattle.tf_core.specs.declared.problem.Role.{Role}
use Rattle.tf_core.specs.declared.problem.Role.TheVariants.{Hypothesis, Conjecture}
use Rattle.tf_core.specs.declared.problem.Stated.{Stated}
use Rattle.tf_core.specs.declared.problem.Problem.{Problem}
use Rattle.tf_core.specs.Types.{type_value}
use Rattle.tf_core.specs.Structures.{Typed, member_count, IsStructure}
use Rattle.tf_core.specs.Truth.{truth, normal_truth}
use Rattle.tf_core.specs.Typing.{IsFormula}
use Rattle.tf_core.specs.Models.{IsSatisfied, ByRole, IsNormalSatisfied}
use Rattle.tf_core.specs.TypedTables.{TypedTables, reading, AreTables, AreModel, AreNormalModel}
use Rattle.tf_core.specs.Sound.{IsSound, IsSoundStated}
use Rattle.tf_core.specs.Substitution.{substitute_types}
use Rattle.tf_nnf.specs.Forms.{negative_form}
use Rattle.tf_nnf.specs.NormalForm.{conjecture_of, variables_of, fresh_count, fresh_constructor, types_for_conjecture, with_fresh, normal_by_role, normal_formula, normal_of}
use Rattle.tf_nnf.specs.Extension.{is_false_at, AreFirstFalse, with_members, without_fresh}
use Rattle.tf_nnf.specs.Laws.{ModelHasOneExtension, ExtensionIsModel, ReductIsModel}
use Rattle.tf_nnf.proofs.FormsTruth.{forms_keep}
use Rattle.tf_nnf.proofs.Tuples.{first_or_none, first_is_one}
use Rattle.tf_nnf.proofs.Agreement.{Agree, truth-agree}
use Rattle.tf_nnf.proofs.Replaced.{normal_truth-substitute_types}
use Rattle.tf_nnf.proofs.SharedTables.{Share, share-back, agree, symbol_lengths, functions-agree, predicates-agree}
use Rattle.tf_nnf.proofs.Fresh.{slice_get-left, slice_get-parts, length-with_fresh, fresh-is, fresh-at, fresh_values, fresh_below, each_at, each_length, role_cases, conjecture_of-hypothesis, conjecture_of-conjecture, only_conjecture}

pub nothing_below : (values : List ℕ) → EachBelow [] values → values ≡ []
nothing_below [] below = refl
nothing_below (value ∷ values) below = absurd below

pub true-not-false : (b : Bool) → not b ≡ false → IsTrue b
true-not-false true is = refl
true-not-false false is = cc

not-both : (b : Bool) → IsTrue b → IsTrue (not b) → ⊥
not-both true holds fails = cc
not-both false holds fails = cc

agree-back : (g : Signature) (s r : Typed) → Agree g s r → Agree g r s
agree-back g s r both = record {
  sizes = sym both.sizes;
  constructors = λ c members within. sym (both.constructors c members within);
  symbols = λ f members elements. sym (both.symbols f members elements);
}

-- the conjecture of a model isn't satisfied
pub conjecture_fails : (s : Typed) (formulas : List Stated) (stated : Stated) →
    AllByRecursion (λ x. ByRole x.role (IsSatisfied s x)) formulas →
    conjecture_of formulas ≡ Some stated → IsSatisfied s stated → ⊥
conjecture_fails s [] stated each found = cc
conjecture_fails s (first ∷ formulas) stated each found =
    ⊎_elim
    (λ is. conjecture_fails s formulas stated each.1
    (sym (conjecture_of-hypothesis first formulas is) ∙ found))
    (λ is.
    let one : Some first ≡ Some stated = sym (conjecture_of-conjecture first formulas is) ∙ found in
    let same : first ≡ stated = cc in
    let fails : IsSatisfied s first → ⊥ = subst (λ role. ByRole role (IsSatisfied s first)) is each.0 in
    subst (λ x. IsSatisfied s x → ⊥) same fails)
    (role_cases first.role)

-- the members of an extension

pub members_within : (s : Typed) (o : Option Stated) (members : List ℕ) → AreFirstFalse s o members →
    EachBelow (replicate (variables_of o) (member_count s)) members
members_within s None members are_first =
    subst (λ ms. EachBelow [] ms) (sym are_first) tt
members_within s (Some stated) members are_first = are_first.below

some_members : (s : Typed) (formulas : List Stated) (o : Option Stated) →
    AllByRecursion (λ x. ByRole x.role (IsSatisfied s x)) formulas → conjecture_of formulas ≡ o →
    (members : List ℕ) × AreFirstFalse s o members
some_members s formulas None each found = ([], refl)
some_members s formulas (Some stated) each found =
    ⊎_elim
    (λ first. first)
    (λ none.
    absurd (conjecture_fails s formulas stated each found (λ members below.
    true-not-false (truth s members stated.body []) (none members below))))
    (first_or_none (replicate stated.type_variables (member_count s)) (is_false_at s stated))

one_members : (s : Typed) (o : Option Stated) (members others : List ℕ) →
    AreFirstFalse s o members → AreFirstFalse s o others → members ≡ others
one_members s None members others is also = is ∙ sym also
one_members s (Some stated) members others is also =
    first_is_one (replicate stated.type_variables (member_count s)) (is_false_at s stated)
    members others is also

pub model_has_one_extension : ModelHasOneExtension
model_has_one_extension = record {
  some = λ problem t model.
      let found =
      some_members (reading problem.signature t) problem.formulas (conjecture_of problem.formulas)
      model.model.formulas refl in
      (with_members found.0 t, record { members = found.0; are_first = found.1; exact = refl });
  one = λ problem t one other is also.
      is.exact
      ∙ ap (λ members. with_members members t)
      (one_members (reading problem.signature t) (conjecture_of problem.formulas)
      is.members also.members is.are_first also.are_first)
      ∙ sym also.exact;
}

module _ (problem : Problem) (t : TypedTables) (sound : IsSound problem) where
  abbrev g : Signature
  g = problem.signature

  abbrev first : ℕ
  first = length problem.signature.constructors

  abbrev count : ℕ
  count = fresh_count problem

  abbrev h : Signature
  h = with_fresh problem.signature (fresh_count problem)

  -- from a model of the problem

  module _ (model : AreModel problem t) (witness : List ℕ)
      (are_first : AreFirstFalse (reading problem.signature t) (conjecture_of problem.formulas) witness)
    where
      abbrev s : Typed
      s = reading problem.signature t

      abbrev u : TypedTables
      u = with_members witness t

      abbrev r : Typed
      r = reading (with_fresh problem.signature (fresh_count problem)) (with_members witness t)

      abbrev fresh_tables : List (List ℕ)
      fresh_tables = map (λ (member : ℕ). member ∷ []) witness

      below : EachBelow (replicate (fresh_count problem) (length t.sizes)) witness
      below = members_within s (conjecture_of problem.formulas) witness are_first

      counted : fresh_count problem ≡ length witness
      counted = each_length count (length t.sizes) witness below

      share : Share problem.signature t (with_members witness t)
      share = record {
        sizes = refl;
        symbols = refl;
        constructors = λ c within.
            sym (get_or_append_left t.constructors fresh_tables [] c
            (omega (arith, within, model.tables.constructor_count)));
      }

      both : Agree problem.signature s r
      both = agree g t u share sound.signature.typed h refl

      fresh_table : (j : ℕ) → j < fresh_count problem →
          get_or (with_members witness t).constructors (length problem.signature.constructors + j) []
          ≡ get_or witness j 0 ∷ []
      fresh_table j within =
          ap (λ n. get_or (t.constructors ++ fresh_tables) (n + j) []) (sym model.tables.constructor_count)
          ∙ get_or-append-add t.constructors fresh_tables j []
          ∙ get_or-map (λ (member : ℕ). member ∷ []) witness j 0 [] (omega (arith, within, counted))

      fresh_entry : (j : ℕ) → j < fresh_count problem →
          r.constructor_at (length problem.signature.constructors + j) [] ≡ get_or witness j 0
      fresh_entry j within = ap (λ (table : List ℕ). slice_index table 0) (fresh_table j within)

      fresh_within : (j : ℕ) → j < fresh_count problem →
          r.constructor_at (length problem.signature.constructors + j) [] < length t.sizes
      fresh_within j within =
          omega (arith, fresh_entry j within, each_at count (length t.sizes) j witness below within)

      members_are : map (type_value r.constructor_at []) (types_for_conjecture problem) ≡ witness
      members_are = fresh_values r.constructor_at first count witness counted fresh_entry

      fresh_length : (j : ℕ) (constructor : Constructor) (c : ℕ) →
          c ≡ length problem.signature.constructors + j →
          (j < fresh_count problem) × (constructor ≡ fresh_constructor j) →
          length (get_or (with_members witness t).constructors c [])
          ≡ tuple_count (replicate constructor.arity (length t.sizes))
      fresh_length j constructor c at is =
          ap (λ n. length (get_or (with_members witness t).constructors n [])) at
          ∙ ap length (fresh_table j is.0)
          ∙ ap (λ (x : Constructor). tuple_count (replicate x.arity (length t.sizes))) (sym is.1)

      extended_tables : AreTables h u
      extended_tables = record {
        constructor_count =
            omega (
              arith,
              length-append t.constructors fresh_tables,
              length-map witness (λ (member : ℕ). member ∷ []),
              counted,
              model.tables.constructor_count,
              length-with_fresh g count,
            );
        symbol_count = model.tables.symbol_count;
        constructors = λ c constructor at.
            ⊎_elim
            (λ here. ap length (sym (share.constructors c (slice_get_within g.constructors c constructor here)))
            ∙ model.tables.constructors c constructor here)
            (λ there. fresh_length there.0 constructor c there.1 (fresh-is count there.0 constructor there.2))
            (slice_get-parts g.constructors (map fresh_constructor (range_with_len 0 count)) c constructor at);
        symbols = symbol_lengths g t u share sound.signature.typed model.tables.symbols;
      }

      fresh_in_range : (j : ℕ) (constructor : Constructor) (c : ℕ) (members : List ℕ) →
          c ≡ length problem.signature.constructors + j →
          (j < fresh_count problem) × (constructor ≡ fresh_constructor j) →
          EachBelow (replicate constructor.arity (length t.sizes)) members →
          r.constructor_at c members < length t.sizes
      fresh_in_range j constructor c members at is each =
          let none : members ≡ [] =
          nothing_below members
          (subst (λ (x : Constructor). EachBelow (replicate x.arity (length t.sizes)) members) is.1 each) in
          subst (λ (ms : List ℕ). r.constructor_at c ms < length t.sizes) (sym none)
          (subst (λ n. r.constructor_at n [] < length t.sizes) (sym at) (fresh_within j is.0))

      extended_structure : IsStructure h r
      extended_structure = record {
        some = model.model.structure.some;
        inhabited = model.model.structure.inhabited;
        constructors = λ c constructor members at each.
            ⊎_elim
            (λ here.
            let old = model.model.structure.constructors c constructor members here each in
            let same = both.constructors c members (slice_get_within g.constructors c constructor here) in
            subst (λ n. n < length t.sizes) same old)
            (λ there. fresh_in_range there.0 constructor c members there.1
            (fresh-is count there.0 constructor there.2) each)
            (slice_get-parts g.constructors (map fresh_constructor (range_with_len 0 count)) c constructor at);
        functions = functions-agree g s r both sound.signature.typed model.model.structure.functions;
        predicates = predicates-agree g s r both sound.signature.typed model.model.structure.predicates;
      }

      formula_holds : (stated : Stated) (role : Role) →
          IsFormula problem.signature stated.type_variables [] stated.body →
          ByRole role (IsSatisfied s stated) →
          (role ≡ Conjecture → conjecture_of problem.formulas ≡ Some stated) →
          IsNormalSatisfied r (normal_by_role (types_for_conjecture problem) stated role)
      formula_holds stated Hypothesis typed satisfied only = λ members each.
          (forms_keep r members stated.body).positive []
          ∙ sym (truth-agree g s r both stated.type_variables members [] stated.body typed [])
          ∙ satisfied members each
      formula_holds stated Conjecture typed fails only = λ members each.
          let found : conjecture_of problem.formulas ≡ Some stated = only refl in
          let is = subst (λ o. AreFirstFalse s o witness) found are_first in
          let holds : normal_truth r [] (substitute_types (types_for_conjecture problem) (negative_form stated.body)) []
          ≡ true =
          normal_truth-substitute_types r (types_for_conjecture problem) (negative_form stated.body) []
          ∙ ap (λ (ms : List ℕ). normal_truth r ms (negative_form stated.body) []) members_are
          ∙ (forms_keep r witness stated.body).negative []
          ∙ ap not (sym (truth-agree g s r both stated.type_variables witness [] stated.body typed []))
          ∙ is.passes in
          subst (λ (ms : List ℕ).
          normal_truth r ms (substitute_types (types_for_conjecture problem) (negative_form stated.body)) [] ≡ true)
          (sym (nothing_below members each)) holds

      formulas_hold : (formulas : List Stated) →
          AllByRecursion (IsSoundStated problem.signature) formulas →
          AllByRecursion (λ x. ByRole x.role (IsSatisfied s x)) formulas →
          AllByRecursion (λ x. x.role ≡ Conjecture → conjecture_of problem.formulas ≡ Some x) formulas →
          AllByRecursion (IsNormalSatisfied r) (map (normal_formula (types_for_conjecture problem)) formulas)
      formulas_hold [] typed each only = tt
      formulas_hold (stated ∷ formulas) typed each only = (
        formula_holds stated stated.role typed.0.typed each.0 only.0,
        formulas_hold formulas typed.1 each.1 only.1,
      )

      pub extended_model : AreNormalModel (normal_of problem) (with_members witness t)
      extended_model = record {
        tables = extended_tables;
        model = record {
          structure = extended_structure;
          formulas = formulas_hold problem.formulas sound.formulas model.model.formulas
              (only_conjecture problem.formulas sound.conjectures);
        };
      }

  -- from a model of the normal problem

  module _ (model : AreNormalModel (normal_of problem) t) where
    abbrev q : Typed
    q = reading (with_fresh problem.signature (fresh_count problem)) t

    abbrev v : TypedTables
    v = without_fresh (normal_of problem) t

    abbrev p : Typed
    p = reading problem.signature (without_fresh (normal_of problem) t)

    kept_count : length t.constructors - fresh_count problem ≡ length problem.signature.constructors
    kept_count = omega (arith, model.tables.constructor_count, length-with_fresh g count)

    all_count : length problem.signature.constructors ≤ length t.constructors
    all_count = omega (arith, model.tables.constructor_count, length-with_fresh g count)

    reduct_share : Share problem.signature (without_fresh (normal_of problem) t) t
    reduct_share = record {
      sizes = refl;
      symbols = refl;
      constructors = λ c within.
          get_or-take (length t.constructors - count) t.constructors c [] (omega (arith, kept_count, within));
    }

    agreed : Agree problem.signature p q
    agreed = agree g v t reduct_share sound.signature.typed h refl

    old : (c : ℕ) (constructor : Constructor) →
        slice_get problem.signature.constructors c ≡ Some constructor →
        slice_get (with_fresh problem.signature (fresh_count problem)).constructors c ≡ Some constructor
    old c constructor at =
        slice_get-left g.constructors (map fresh_constructor (range_with_len 0 count)) c constructor at

    reduct_tables : AreTables g v
    reduct_tables = record {
      constructor_count =
          omega (
            arith,
            length-take-le (length t.constructors - count) t.constructors (omega arith),
            kept_count,
          );
      symbol_count = model.tables.symbol_count;
      constructors = λ c constructor at.
          ap length (reduct_share.constructors c (slice_get_within g.constructors c constructor at))
          ∙ model.tables.constructors c constructor (old c constructor at);
      symbols = symbol_lengths g t v (share-back g v t reduct_share) sound.signature.typed model.tables.symbols;
    }

    reduct_structure : IsStructure g p
    reduct_structure = record {
      some = model.model.structure.some;
      inhabited = model.model.structure.inhabited;
      constructors = λ c constructor members at each.
          let there = model.model.structure.constructors c constructor members (old c constructor at) each in
          let same = agreed.constructors c members (slice_get_within g.constructors c constructor at) in
          subst (λ n. n < length t.sizes) (sym same) there;
      functions = functions-agree g q p (agree-back g p q agreed) sound.signature.typed
          model.model.structure.functions;
      predicates = predicates-agree g q p (agree-back g p q agreed) sound.signature.typed
          model.model.structure.predicates;
    }

    fresh_members : List ℕ
    fresh_members = map (type_value q.constructor_at []) (types_for_conjecture problem)

    fresh_members_below : EachBelow (replicate (fresh_count problem) (length t.sizes))
        (map (type_value q.constructor_at []) (types_for_conjecture problem))
    fresh_members_below =
        fresh_below q.constructor_at first count (length t.sizes)
        (λ j within. model.model.structure.constructors (first + j) (fresh_constructor j) []
        (fresh-at g count j within) tt)

    formula_back : (stated : Stated) (role : Role) →
        IsFormula problem.signature stated.type_variables [] stated.body →
        IsNormalSatisfied q (normal_by_role (types_for_conjecture problem) stated role) →
        (role ≡ Conjecture → conjecture_of problem.formulas ≡ Some stated) →
        ByRole role (IsSatisfied p stated)
    formula_back stated Hypothesis typed satisfied only = λ members each.
        truth-agree g p q agreed stated.type_variables members [] stated.body typed []
        ∙ sym ((forms_keep q members stated.body).positive [])
        ∙ satisfied members each
    formula_back stated Conjecture typed satisfied only = λ all.
        let found : conjecture_of problem.formulas ≡ Some stated = only refl in
        let members : List ℕ = map (type_value q.constructor_at []) (types_for_conjecture problem) in
        let each : EachBelow (replicate stated.type_variables (length t.sizes)) members =
        subst (λ (o : Option Stated). EachBelow (replicate (variables_of o) (length t.sizes)) members)
        found fresh_members_below in
        let holds : IsTrue (truth q members stated.body []) =
        sym (truth-agree g p q agreed stated.type_variables members [] stated.body typed [])
        ∙ all members each in
        let fails : IsTrue (not (truth q members stated.body [])) =
        sym ((forms_keep q members stated.body).negative [])
        ∙ sym (normal_truth-substitute_types q (types_for_conjecture problem) (negative_form stated.body) [])
        ∙ satisfied [] tt in
        not-both (truth q members stated.body []) holds fails

    formulas_back : (formulas : List Stated) →
        AllByRecursion (IsSoundStated problem.signature) formulas →
        AllByRecursion (IsNormalSatisfied q) (map (normal_formula (types_for_conjecture problem)) formulas) →
        AllByRecursion (λ x. x.role ≡ Conjecture → conjecture_of problem.formulas ≡ Some x) formulas →
        AllByRecursion (λ x. ByRole x.role (IsSatisfied p x)) formulas
    formulas_back [] typed each only = tt
    formulas_back (stated ∷ formulas) typed each only = (
      formula_back stated stated.role typed.0.typed each.0 only.0,
      formulas_back formulas typed.1 each.1 only.1,
    )

    pub reduct_model : AreModel problem (without_fresh (normal_of problem) t)
    reduct_model = record {
      tables = reduct_tables;
      model = record {
        structure = reduct_structure;
        formulas = formulas_back problem.formulas sound.formulas model.model.formulas
            (only_conjecture problem.formulas sound.conjectures);
      };
    }

pub extension_is_model : ExtensionIsModel
extension_is_model problem t extension sound model is =
    subst (AreNormalModel (normal_of problem)) (sym is.exact)
    (extended_model problem t sound model is.members is.are_first)

pub reduct_is_model : ReductIsModel
reduct_is_model problem t sound model = reduct_model problem t sound model
