-- A model of the normal formulas is, read in an untyped structure, a model of the translation.
use Rattle.std.specs.Prelude.{ℕ, zero, suc, ◌+◌, ◌-◌, ◌<◌, ◌≡◌, Bool, true, false, List, [], ◌∷◌, ◌++◌, map, length, replicate, slice_index, slice_get, Option, Some, None, IsTrue, cond}
use Rattle.std.specs.List.{AllByRecursion, list_all}
use Rattle.std.proofs.Common.{refl, sym, ap, ◌∙◌, subst, arith}
use Rattle.std.proofs.lemmas.Bool.{and_parts, false≢true}
use Rattle.std.proofs.lemmas.List.{map-append}
use Rattle.enc_base.specs.Tables.{EachBelow}
use Rattle.enc_base.proofs.Tables.{EachBelow-length}
use Rattle.tf_core.specs.declared.ty.Ty.{Ty}
use Rattle.tf_core.specs.declared.ty.Ty.TheVariants as type
use Rattle.tf_core.specs.declared.nnf.Nnf.{Nnf}
use Rattle.tf_core.specs.declared.signature.Symbol.{Symbol}
use Rattle.tf_core.specs.declared.signature.Signature.{Signature}
use Rattle.tf_core.specs.declared.normal.NormalFormula.{NormalFormula}
use Rattle.tf_core.specs.declared.normal.Normal.{Normal}
use Rattle.tf_core.specs.Sorts.{sorts}
use Rattle.tf_core.specs.Typing.{AreTypes, no_types, more_types, IsNnf, IsSignature}
use Rattle.tf_core.specs.Structures.{Typed, member_count, member_of}
use Rattle.tf_core.specs.Models.{IsNormalSatisfied}
use Rattle.fof_models.specs.declared.formula.FofTerm.TheVariants as term
use Rattle.fof_models.specs.declared.formula.Fof.{Fof}
use Rattle.fof_models.specs.Structures.{Untyped}
use Rattle.fof_models.specs.Truth.{value, truth}
use Rattle.fof_models.specs.Models.{IsSatisfied, AreSatisfied}
use Rattle.fof_models.proofs.Truth.{value-variable, value-apply}
use Rattle.tf_naked.specs.Covers.{covers}
use Rattle.tf_naked.specs.declared.position.Position.TheVariants.{Argument}
use Rattle.tf_naked.specs.declared.position.Kind.TheVariants.{Universal}
use Rattle.enc_marks.specs.declared.choices.Marking.{Marking}
use Rattle.enc_marks.specs.declared.choices.Marking.TheVariants.{ByType, BySort}
use Rattle.enc_marks.specs.Choices.{Choices}
use Rattle.enc_marks.specs.Translation.{Numbers, type_term, selected, tag, bind, placed_all, formula}
use Rattle.enc_marks.specs.Axioms.{closed, under, own_types, own_variables, closed_formula, premises, own_application, typing_axiom}
use Rattle.enc_marks.specs.Encoded.{all_numbers, stated, axiom_named, typing_of, typing_axioms, type_axioms, sort_axioms, last_axioms, translation}
use Rattle.enc_marks.specs.Names.{typing_name}
use Rattle.enc_marks.proofs.CoverCount.{length-covers}
use Rattle.enc_laws.specs.Relations.{Relations, AreRelated, none_related, more_related, ArgumentsAre, no_arguments, more_arguments, TypesAre}
use Rattle.enc_laws.specs.Corresponds.{IsApplied, Corresponds}
use Rattle.enc_laws.specs.Directions.{Forward}
use Rattle.enc_laws.specs.ForwardAxioms.{IsArgument, ForwardAxioms}
use Rattle.enc_laws.proofs.Selected.{map-selected, AreTypes-selected, arguments_formed, result_formed}
use Rattle.enc_laws.proofs.Terms.{type_reads, types_read}
use Rattle.enc_laws.proofs.TrueForward.{true_forward}
use Rattle.enc_laws.proofs.Closed.{bound, closed_from, under_from, EachBelow-at, bound-at, TypesAre-bound, TypesAre-outermost, all-append, AreTypes-from_variable, type_values-own}

module _ (c : Choices) (k : Numbers) (g : Signature) (s : Typed) (j : Untyped) (r : Relations)
    (sound : IsSignature g) (both : Corresponds c k g s j r) (axioms : ForwardAxioms c k g s j r)
  where
    -- members as which numbers are read
    pub record MembersFor (count : ℕ) (us members : List ℕ) : Type 0 where
      pub within : EachBelow (replicate count (member_count s)) members
      pub related : AreRelated r.member us members
      pub all : length members ≡ count

    members_for : (count : ℕ) (us : List ℕ) → EachBelow (replicate count j.size) us →
        (members : List ℕ) × MembersFor count us members
    members_for zero [] below = ([], record { within = tt; related = none_related; all = refl })
    members_for zero (u ∷ us) below = absurd below
    members_for (suc count) [] below = absurd below
    members_for (suc count) (u ∷ us) below =
        let x = axioms.some_member u below.0 in
        let y = members_for count us below.1 in
        let more = y.1 in (
          x.0 ∷ y.0,
          record {
            within = (x.1, more.within);
            related = more_related u x.0 us y.0 x.2 more.related;
            all = ap suc more.all;
          },
        )

    -- the arguments of a typing axiom
    argument_placed : (variables depth : ℕ) (members assignment : List ℕ) (cover : Bool) (ty : Ty)
        (count e : ℕ) (formed : AreTypes g variables (ty ∷ [])) → r.good ty →
        TypesAre r variables depth members assignment →
        IsArgument c k g s j r cover ty members (value j assignment (term.Var count)) e →
        (tagged : Bool) → c.tagged (Argument cover) Universal ty ≡ tagged →
        r.placed (value j assignment
        (cond tagged (tag c k g depth ty (term.Var count)) (term.Var count)))
        (member_of s members ty) e
        × (r.strict (Argument cover) ≡ true →
        r.exact (value j assignment
        (cond tagged (tag c k g depth ty (term.Var count)) (term.Var count)))
        (member_of s members ty) e)
    argument_placed variables depth members assignment cover ty count e (more_types _ _ formed _)
        good are argument true is =
        let exact = both.tag_exact variables depth ty members assignment (Argument cover) Universal
        (term.Var count) e formed good are is
        (type_reads c k g s j r sound both variables ty formed depth members assignment are)
        argument.reads in
        (both.exact_placed _ _ _ exact, λ _. exact)
    argument_placed variables depth members assignment cover ty count e formed good are argument
        false is = (
          both.reads_placed (Argument cover) Universal ty members _ _ good is argument.reads,
          λ strict. argument.exact strict is,
        )

    premises_parts : (depth : ℕ) (cover : Bool) (ty : Ty) (rest : List Fof) (count : ℕ)
        (assignment : List ℕ) (premised : Bool) → c.premise cover ty ≡ premised →
        IsTrue (list_all (λ p. truth j p assignment)
        (cond premised (bind c k g depth ty (term.Var count) ∷ rest) rest)) →
        (c.premise cover ty ≡ true →
        IsTrue (truth j (bind c k g depth ty (term.Var count)) assignment))
        × IsTrue (list_all (λ p. truth j p assignment) rest)
    premises_parts depth cover ty rest count assignment true is all =
        let two = and_parts (truth j (bind c k g depth ty (term.Var count)) assignment) _ all in
        (λ _. two.0, two.1)
    premises_parts depth cover ty rest count assignment false is all =
        (λ is_true. absurd (false≢true (sym is ∙ is_true)), all)

    arguments_forward : (variables depth : ℕ) (members assignment : List ℕ)
        (are : TypesAre r variables depth members assignment) (types : List Ty)
        (formed : AreTypes g variables types) (tests : List Bool) → length tests ≡ length types →
        AllByRecursion r.good types →
        ((i : ℕ) → i < length types → slice_index assignment i < j.size) →
        IsTrue (list_all (λ p. truth j p assignment)
        (premises c k g depth tests types (length types))) →
        (elements : List ℕ) × ArgumentsAre r tests
        (map (value j assignment)
        (placed_all c k g depth tests types (own_variables (length types))))
        (map (member_of s members) types) elements
    arguments_forward variables depth members assignment are types no_types [] all good below h =
        ([], no_arguments)
    arguments_forward variables depth members assignment are types no_types (cover ∷ tests) all
        good below
        h = absurd (omega (arith, all))
    arguments_forward variables depth members assignment are types
        (more_types ty others formed rest) []
        all good below h = absurd (omega (arith, all))
    arguments_forward variables depth members assignment are types
        (more_types ty others formed rest)
        (cover ∷ tests) all good below h =
        let count : ℕ = length others in
        let e : suc count - 1 ≡ count = omega arith in
        let is_type = type_reads c k g s j r sound both variables ty formed depth members
        assignment are in
        let at : value j assignment (term.Var count) ≡ slice_index assignment count =
        value-variable j assignment count in
        let within : value j assignment (term.Var count) < j.size =
        subst (λ x. x < j.size) (sym at) (below count (omega arith)) in
        let two = premises_parts depth cover ty (premises c k g depth tests others count) count
        assignment
        (c.premise cover ty) refl
        (subst (λ z. IsTrue (list_all (λ p. truth j p assignment)
        (cond (c.premise cover ty)
        (bind c k g depth ty (term.Var z) ∷ premises c k g depth tests others z)
        (premises c k g depth tests others z)))) e h) in
        let x = axioms.argument depth cover ty (term.Var count) members assignment good.0 is_type
        within
        two.0 in
        let more = arguments_forward variables depth members assignment are others rest tests
        (omega (arith, all)) good.1 (λ i inside. below i (omega (arith, inside))) two.1 in
        let stands = argument_placed variables depth members assignment cover ty count x.0
        (more_types ty [] formed no_types) good.0 are x.1 (c.tagged (Argument cover) Universal ty)
        refl in
        (x.0 ∷ more.0, more_arguments cover _ _ _ tests _ _ _ stands.0 stands.1 more.1)

    -- a function at numbers and its own parameters
    own_applied : (f : ℕ) (symbol : Symbol) (ty : Ty) (depth : ℕ)
        (members assignment elements : List ℕ) → slice_get g.symbols f ≡ Some symbol →
        symbol.result ≡ Some ty → length members ≡ symbol.parameters →
        TypesAre r symbol.parameters depth members assignment →
        ArgumentsAre r (covers symbol)
        (map (value j assignment) (placed_all c k g depth (covers symbol) symbol.arguments
        (own_variables (length symbol.arguments))))
        (map (member_of s members) symbol.arguments) elements →
        r.applied (value j assignment (own_application c k g depth f symbol))
        (member_of s members ty)
        (s.symbol_at f members elements)
    own_applied f symbol ty depth members assignment elements at gives all are arguments =
        let own : List Ty = own_types symbol in
        let formed : AreTypes g symbol.parameters own =
        AreTypes-from_variable g symbol.parameters 0 symbol.parameters (omega arith) in
        let same : map (member_of s members) own ≡ members =
        type_values-own s.constructor_at symbol.parameters members all in
        let numbers : List ℕ = map (value j assignment) (map (type_term k.constructor depth) own) in
        let kept : List ℕ = map (value j assignment)
        (map (type_term k.constructor depth) (selected (c.keeps symbol) own)) in
        let applied : IsApplied c k g s j r symbol kept _ members elements = record {
          count = all;
          numbers = numbers;
          types = subst (AreRelated r.member numbers) same
              (types_read c k g s j r sound both symbol.parameters own formed depth members
              assignment are);
          kept_types = subst (AreRelated r.member kept)
              (map-selected (member_of s members) (c.keeps symbol) own
              ∙ ap (selected (c.keeps symbol)) same)
              (types_read c k g s j r sound both symbol.parameters (selected (c.keeps symbol) own)
              (AreTypes-selected g symbol.parameters (c.keeps symbol) own formed) depth members
              assignment are);
          arguments = arguments;
        } in
        let computes : value j assignment (own_application c k g depth f symbol)
        ≡ j.symbol_at (k.symbol f) (kept ++ map (value j assignment)
        (placed_all c k g depth (covers symbol) symbol.arguments
        (own_variables (length symbol.arguments)))) =
        value-apply j assignment (k.symbol f) _
        ∙ ap (j.symbol_at (k.symbol f)) (map-append (value j assignment)
        (map (type_term k.constructor depth) (selected (c.keeps symbol) own)) _) in
        subst (λ z. r.applied z (member_of s members ty) (s.symbol_at f members elements))
        (sym computes)
        (both.functions f symbol ty kept _ members elements at gives applied)

    typing_forward : (f : ℕ) (symbol : Symbol) (ty : Ty) → slice_get g.symbols f ≡ Some symbol →
        symbol.result ≡ Some ty → c.typing ty ≡ true →
        IsTrue (truth j (typing_axiom c k g f symbol ty) [])
    typing_forward f symbol ty at gives typing =
        let count : ℕ = length symbol.arguments in
        let depth : ℕ = symbol.parameters + count in
        let conclusion : Fof = bind c k g depth ty (own_application c k g depth f symbol) in
        let given : List Fof = premises c k g depth (covers symbol) symbol.arguments count in
        closed_from j symbol.parameters (closed count (under given conclusion)) [] (λ us below_us.
        closed_from j count (under given conclusion) (bound us []) (λ values below_values.
        let assignment : List ℕ = bound values (bound us []) in
        let found = members_for symbol.parameters us below_us in
        let members : List ℕ = found.0 in
        let facts = found.1 in
        let all_values : count ≡ length values = EachBelow-length count j.size values
        below_values in
        let are : TypesAre r symbol.parameters depth members assignment =
        TypesAre-bound r symbol.parameters count us values members
        (EachBelow-length symbol.parameters j.size us below_us) all_values facts.related in
        under_from j given conclusion assignment (λ holds.
        let below : (i : ℕ) → i < count → slice_index assignment i < j.size = λ i inside.
        let e : i ≡ length values - (count - (i + 1) + 1) = omega (arith, all_values, inside) in
        subst (λ z. z < j.size)
        (sym (ap (slice_index assignment) e
        ∙ bound-at values (bound us []) (count - (i + 1)) (omega (arith, all_values, inside))))
        (EachBelow-at j.size count values below_values (count - (i + 1)) (omega (arith, inside))) in
        let arguments = arguments_forward symbol.parameters depth members assignment are
        symbol.arguments
        (arguments_formed g f symbol sound at) (covers symbol) (length-covers symbol)
        (axioms.declared f symbol at) below holds in
        axioms.result depth ty (own_application c k g depth f symbol) members assignment
        (s.symbol_at f members arguments.0) (axioms.declared_result f symbol ty at gives) typing
        (type_reads c k g s j r sound both symbol.parameters ty
        (result_formed g f symbol ty sound at gives)
        depth members assignment are)
        (own_applied f symbol ty depth members assignment arguments.0 at gives facts.all are
        arguments.1))))

    module _ (ok : Nnf → Type 0) (by : Forward c k g s j r ok) where
      closed_forward : (normal : NormalFormula) → IsNnf g normal.type_variables [] normal.body →
          ok normal.body → IsNormalSatisfied s normal →
          IsTrue (truth j (closed_formula c k g normal) [])
      closed_forward normal formed holds satisfied =
          closed_from j normal.type_variables (formula c k g normal.body normal.type_variables [])
          []
          (λ us below.
          let found = members_for normal.type_variables us below in
          let facts = found.1 in
          true_forward c k g s j r sound both ok by normal.type_variables [] normal.body formed
          normal.type_variables [] found.0 [] (bound us []) holds
          (record {
            types = TypesAre-outermost r normal.type_variables us found.0
                (EachBelow-length normal.type_variables j.size us below) facts.related;
            terms = λ i ty e. cc;
            goods = λ i ty e. cc;
            exacts = λ i ty e. cc;
          })
          (satisfied found.0 facts.within))

-- the problem's own numbers
module _ (c : Choices) (normal : Normal) (s : Typed) (j : Untyped) (r : Relations)
    (sound : IsSignature normal.signature)
    (both : Corresponds c (all_numbers normal) normal.signature s j r)
    (axioms : ForwardAxioms c (all_numbers normal) normal.signature s j r) (ok : Nnf → Type 0)
    (by : Forward c (all_numbers normal) normal.signature s j r ok) where
  stated_forward : (formulas : List NormalFormula) →
      AllByRecursion (λ p. IsNnf normal.signature p.type_variables [] p.body) formulas →
      AllByRecursion (λ p. ok p.body) formulas → AllByRecursion (IsNormalSatisfied s) formulas →
      AreSatisfied j (map (stated c normal) formulas)
  stated_forward [] formed holds satisfied = tt
  stated_forward (p ∷ formulas) formed holds satisfied = (
    closed_forward c (all_numbers normal) normal.signature s j r sound both axioms ok by p formed.0
        holds.0 satisfied.0,
    stated_forward formulas formed.1 holds.1 satisfied.1,
  )

  typing_of_forward : (f : ℕ) (symbol : Symbol) (result : Option Ty) → symbol.result ≡ result →
      slice_get normal.signature.symbols f ≡ Some symbol →
      AreSatisfied j (typing_of c normal f symbol result)
  typing_of_forward f symbol None gives at = tt
  typing_of_forward f symbol (Some ty) gives at = go (c.typing ty) refl
    where
      go : (typing : Bool) → c.typing ty ≡ typing →
          AreSatisfied j (cond typing
          (axiom_named (typing_name symbol.name)
          (typing_axiom c (all_numbers normal) normal.signature f symbol ty) ∷ []) [])
      go true is = (
        typing_forward c (all_numbers normal) normal.signature s j r sound both axioms f symbol ty
            at gives is,
        tt,
      )
      go false is = tt

  typing_axioms_forward : (f : ℕ) (symbols : List Symbol) →
      ((i : ℕ) (symbol : Symbol) → slice_get symbols i ≡ Some symbol →
      slice_get normal.signature.symbols (f + i) ≡ Some symbol) →
      AreSatisfied j (typing_axioms c normal f symbols)
  typing_axioms_forward f [] at = tt
  typing_axioms_forward f (symbol ∷ symbols) at =
      all-append (IsSatisfied j) (typing_of c normal f symbol symbol.result)
      (typing_axioms c normal (f + 1) symbols)
      (typing_of_forward f symbol symbol.result refl
      (let e : f + 0 ≡ f = omega arith in
      subst (λ x. slice_get normal.signature.symbols x ≡ Some symbol) e (at 0 symbol refl)))
      (typing_axioms_forward (f + 1) symbols (λ i other is.
      let e : f + suc i ≡ f + 1 + i = omega arith in
      subst (λ x. slice_get normal.signature.symbols x ≡ Some other) e (at (suc i) other is)))

  type_axioms_forward : c.marking ≡ ByType → (last : Bool) → c.last (type.Var 0) ≡ last →
      AreSatisfied j (type_axioms c normal)
  type_axioms_forward marking true is = rw is (axioms.last marking is, tt)
  type_axioms_forward marking false is = rw is tt

  sort_axioms_more : (ty : Ty) (types : List Ty) → c.marking ≡ BySort → r.good ty →
      AreSatisfied j (sort_axioms c normal types) → (last : Bool) → c.last ty ≡ last →
      AreSatisfied j (sort_axioms c normal (ty ∷ types))
  sort_axioms_more ty types marking good rest true is =
      rw is (axioms.last_of_sort ty good marking is, rest)
  sort_axioms_more ty types marking good rest false is = rw is rest

  sort_axioms_forward : c.marking ≡ BySort → (types : List Ty) → AllByRecursion r.good types →
      AreSatisfied j (sort_axioms c normal types)
  sort_axioms_forward marking [] good = tt
  sort_axioms_forward marking (ty ∷ types) good =
      sort_axioms_more ty types marking good.0 (sort_axioms_forward marking types good.1)
      (c.last ty)
      refl

  last_forward : AllByRecursion r.good (sorts normal) → (marking : Marking) → c.marking ≡ marking →
      AreSatisfied j (last_axioms c normal marking)
  last_forward good ByType is = type_axioms_forward is (c.last (type.Var 0)) refl
  last_forward good BySort is = sort_axioms_forward is (sorts normal) good

  pub translation_forward :
      AllByRecursion (λ p. IsNnf normal.signature p.type_variables [] p.body) normal.formulas →
      AllByRecursion (λ p. ok p.body) normal.formulas → AllByRecursion r.good (sorts normal) →
      AllByRecursion (IsNormalSatisfied s) normal.formulas →
      AreSatisfied j (translation c normal)
  unfolding translation
  translation_forward formed holds good satisfied =
      all-append (IsSatisfied j) (map (stated c normal) normal.formulas) _
      (stated_forward normal.formulas formed holds satisfied)
      (all-append (IsSatisfied j) (typing_axioms c normal 0 normal.signature.symbols) _
      (typing_axioms_forward 0 normal.signature.symbols (λ i symbol is.
      let e : i ≡ 0 + i = omega arith in
      subst (λ x. slice_get normal.signature.symbols x ≡ Some symbol) e is))
      (last_forward good c.marking refl))
