-- The lifted structure fits the signature.
use Rattle.std.specs.Prelude.{ℕ, zero, suc, ◌<◌, ◌≡◌, Bool, true, false, List, [], ◌∷◌, ◌++◌, map, length, replicate, slice_get, Some, None}
use Rattle.std.proofs.Common.{sym, ◌∙◌, subst, arith}
use Rattle.enc_base.specs.Tables.{EachBelow}
use Rattle.enc_base.proofs.Tables.{EachBelow-length}
use Rattle.tf_core.specs.declared.ty.Ty.{Ty}
use Rattle.tf_core.specs.declared.signature.Symbol.{Symbol}
use Rattle.tf_core.specs.declared.signature.Signature.{Signature}
use Rattle.tf_core.specs.Types.{type_value}
use Rattle.tf_core.specs.Typing.{IsSignature}
use Rattle.tf_core.specs.Structures.{member_count, size_of, AreArguments, IsStructure}
use Rattle.fof_models.specs.Structures.{Untyped}
use Rattle.tf_naked.specs.Covers.{covers}
use Rattle.enc_marks.specs.Choices.{Choices}
use Rattle.enc_marks.specs.Translation.{Numbers, selected}
use Rattle.enc_marks.specs.Occurrence.{count_below}
use Rattle.enc_marks.proofs.CoverCount.{length-covers}
use Rattle.enc_laws.specs.Relations.{AreRelated, none_related, more_related, ArgumentsAre, no_arguments, more_arguments}
use Rattle.enc_laws.specs.Corresponds.{IsApplied}
use Rattle.enc_laws.specs.Lifted.{Lift, lifted_at, lifted}
use Rattle.enc_laws.proofs.Ranked.{count_below-less, ranked, length-listed}
use Rattle.enc_laws.proofs.Selected.{length-map, map-map, arguments_formed}
use Rattle.enc_laws.proofs.Lifting.{IsNth, ranking, Lifts, size_of-lifted, types_within, functions_ranked, predicates_ranked}

AreRelated-selected : (R : ℕ → ℕ → Type 0) (tests : List Bool) (us members : List ℕ) →
    AreRelated R us members → AreRelated R (selected tests us) (selected tests members)
AreRelated-selected R [] us members h = none_related
AreRelated-selected R (true ∷ tests) us members none_related = none_related
AreRelated-selected R (false ∷ tests) us members none_related = none_related
AreRelated-selected R (true ∷ tests) us members (more_related u m us' members' h hs) =
    more_related u m (selected tests us') (selected tests members') h
    (AreRelated-selected R tests us' members' hs)
AreRelated-selected R (false ∷ tests) us members (more_related u m us' members' h hs) =
    AreRelated-selected R tests us' members' hs

module _ (c : Choices) (k : Numbers) (g : Signature) (present : ℕ → Bool)
    (j : Untyped) (l : Lift)
    (member : ℕ → ℕ → Type 0) (good : Ty → Type 0) (sound : IsSignature g)
    (lifts : Lifts c k g present j l member good) where
  -- what a lifted structure needs besides to fit the signature
  pub record Forms : Type 0 where
    pub some : 0 < l.members
    pub number_of : (m : ℕ) → m < l.members → (v : ℕ) × member v m
    pub inhabited : (m : ℕ) → m < l.members → 0 < count_below j.size (l.picks m)
    pub predicates : (f : ℕ) (symbol : Symbol) (values : List ℕ) →
        slice_get g.symbols f ≡ Some symbol → symbol.result ≡ None →
        j.symbol_at (k.symbol f) values < 2

  module _ (forms : Forms) where
    members_are : member_count (lifted c k g present j l) ≡ l.members
    members_are = length-listed l.members 0 (λ m. count_below j.size (l.picks m))

    numbers_for : (count : ℕ) (members : List ℕ) → EachBelow (replicate count l.members) members →
        (us : List ℕ) × AreRelated member us members
    numbers_for zero [] within = ([], none_related)
    numbers_for zero (m ∷ members) within = absurd within
    numbers_for (suc count) [] within = absurd within
    numbers_for (suc count) (m ∷ members) within =
        let x = forms.number_of m within.0 in
        let y = numbers_for count members within.1 in
        (x.0 ∷ y.0, more_related x.0 m y.0 members x.1 y.1)

    values_for : (tests : List Bool) (count : ℕ) (members elements : List ℕ) →
        length tests ≡ length members → EachBelow (replicate count l.members) members →
        EachBelow (map (size_of (lifted c k g present j l)) members) elements →
        (values : List ℕ) × ArgumentsAre (ranking j l member good) tests values members elements
    values_for [] count [] [] all within small = ([], no_arguments)
    values_for [] count [] (e ∷ elements) all within small = absurd small
    values_for (test ∷ tests) count [] elements all within small = absurd (omega (arith, all))
    values_for [] count (m ∷ members) elements all within small = absurd (omega (arith, all))
    values_for (test ∷ tests) count (m ∷ members) [] all within small = absurd small
    values_for (test ∷ tests) zero (m ∷ members) (e ∷ elements) all within small = absurd within
    values_for (test ∷ tests) (suc count) (m ∷ members) (e ∷ elements) all within small =
        let found = ranked j.size e (l.picks m)
        (subst (λ z. e < z) (size_of-lifted c k g present j l member good sound lifts m within.0)
        small.0) in
        let facts = found.1 in
        let exact : IsNth j l found.0 m e = record {
          below = facts.below;
          within = within.0;
          passes = facts.passes;
          rank = facts.rank_is;
        } in
        let rest = values_for tests count members elements (omega (arith, all)) within.1
        small.1 in (
          found.0 ∷ rest.0,
          more_arguments test found.0 m e tests rest.0 members elements exact (λ strict. exact)
              rest.1,
        )

    -- members and elements at which a symbol has a value are read from numbers
    applied_from : (f : ℕ) (symbol : Symbol) (members elements : List ℕ) →
        slice_get g.symbols f ≡ Some symbol → AreArguments (lifted c k g present j l) symbol members
        elements →
        (kept values : List ℕ) ×
        IsApplied c k g (lifted c k g present j l) j (ranking j l member good) symbol kept values members
        elements
    applied_from f symbol members elements at are =
        let within : EachBelow (replicate symbol.parameters l.members) members =
        subst (λ z. EachBelow (replicate symbol.parameters z) members) members_are
        are.for_parameters in
        let us = numbers_for symbol.parameters members within in
        let types = types_within c k g present j l member good sound lifts symbol.parameters
        symbol.arguments (arguments_formed g f symbol sound at) members within in
        let small : EachBelow (map (size_of (lifted c k g present j l))
        (map (type_value l.constructor_at members) symbol.arguments)) elements =
        subst (λ z. EachBelow z elements)
        (sym (map-map (size_of (lifted c k g present j l)) (type_value l.constructor_at members)
        symbol.arguments)) are.for_arguments in
        let values = values_for (covers symbol) (length symbol.arguments)
        (map (type_value l.constructor_at members) symbol.arguments) elements
        (length-covers symbol
        ∙ sym (length-map (type_value l.constructor_at members) symbol.arguments)) types
        small in (
          selected (c.keeps symbol) us.0,
          values.0,
          record {
            count = sym (EachBelow-length symbol.parameters l.members members within);
            numbers = us.0;
            types = us.1;
            kept_types = AreRelated-selected member (c.keeps symbol) us.0 members us.1;
            arguments = values.1;
          },
        )

    pub is_structure : IsStructure g (lifted c k g present j l)
    is_structure = record {
      some = subst (λ z. 0 < z) (sym members_are) forms.some;
      inhabited = λ m within.
          let below : m < l.members = subst (λ z. m < z) members_are within in
          subst (λ z. 0 < z) (sym (size_of-lifted c k g present j l member good sound lifts m below))
          (forms.inhabited m below);
      constructors = λ i constructor members at within.
          subst (λ z. l.constructor_at i members < z) (sym members_are)
          (lifts.constructors_below i constructor members at
          (subst (λ z. EachBelow (replicate constructor.arity z) members) members_are within));
      functions = λ f symbol ty members elements at gives are.
          let h = applied_from f symbol members elements at are in
          let value_is = functions_ranked c k g present j l member good sound lifts f symbol ty h.0 h.1
          members elements at gives h.2 in
          let m : ℕ = type_value l.constructor_at members ty in
          let below = count_below-less j.size (l.into m (j.symbol_at (k.symbol f) (h.0 ++ h.1)))
          (l.picks m) value_is.inside value_is.passes in
          subst (λ z. lifted_at c k present j l f (slice_get g.symbols f) members elements < z)
          (sym (size_of-lifted c k g present j l member good sound lifts m value_is.within))
          (subst (λ z. z < count_below j.size (l.picks m)) value_is.rank below);
      predicates = λ f symbol members elements at gives are.
          let h = applied_from f symbol members elements at are in
          subst (λ z. z < 2)
          (predicates_ranked c k g present j l member good sound lifts f symbol h.0 h.1 members elements at
          gives h.2) (forms.predicates f symbol (h.0 ++ h.1) at gives);
    }
