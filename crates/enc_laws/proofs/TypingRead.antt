-- What a typing axiom says of a function at numbers that are read as members and elements.
use Rattle.std.specs.Prelude.{ℕ, zero, suc, ◌+◌, ◌-◌, ◌<◌, ◌≡◌, Bool, true, false, List, [], ◌∷◌, ◌++◌, map, length, replicate, slice_index, slice_get, Some, IsTrue, cond}
use Rattle.std.specs.List.{AllByRecursion, list_all}
use Rattle.std.proofs.Common.{refl, sym, ap, ◌∙◌, subst, arith}
use Rattle.std.proofs.lemmas.Bool.{and_from}
use Rattle.std.proofs.lemmas.List.{map-append}
use Rattle.enc_base.specs.Tables.{EachBelow}
use Rattle.enc_base.proofs.Tables.{EachBelow-length}
use Rattle.tf_core.specs.declared.ty.Ty.{Ty}
use Rattle.tf_core.specs.declared.signature.Constructor.{Constructor}
use Rattle.tf_core.specs.declared.signature.Symbol.{Symbol}
use Rattle.tf_core.specs.declared.signature.Signature.{Signature}
use Rattle.tf_core.specs.declared.normal.Normal.{Normal}
use Rattle.tf_core.specs.Types.{type_value}
use Rattle.tf_core.specs.Typing.{AreTypes, no_types, more_types, IsSignature}
use Rattle.fof_models.specs.declared.formula.FofTerm.{FofTerm}
use Rattle.fof_models.specs.declared.formula.FofTerm.TheVariants as term
use Rattle.fof_models.specs.declared.formula.Fof.{Fof}
use Rattle.fof_models.specs.Structures.{Untyped}
use Rattle.fof_models.specs.Truth.{value, truth}
use Rattle.fof_models.specs.Models.{IsSatisfied, AreSatisfied}
use Rattle.fof_models.proofs.Truth.{value-variable, value-apply}
use Rattle.tf_naked.specs.Covers.{covers}
use Rattle.tf_naked.specs.declared.position.Position.TheVariants.{Argument}
use Rattle.tf_naked.specs.declared.position.Kind.TheVariants.{Universal}
use Rattle.enc_marks.specs.Choices.{Choices}
use Rattle.enc_marks.specs.Translation.{Numbers, Bare, type_term, selected, tag, bind, placed_all}
use Rattle.enc_marks.specs.Axioms.{closed, under, own_types, own_variables, premises, own_application, typing_axiom}
use Rattle.enc_marks.specs.Encoded.{all_numbers, axiom_named, typing_of, typing_axioms}
use Rattle.enc_marks.specs.Names.{typing_name}
use Rattle.enc_laws.specs.Relations.{Relations, AreRelated, ArgumentsAre, no_arguments, more_arguments, TypesAre}
use Rattle.enc_laws.proofs.Selected.{map-selected, AreTypes-selected, length-map, arguments_formed, result_formed}
use Rattle.enc_laws.proofs.Terms.{type_is, types_are}
use Rattle.enc_laws.proofs.Closed.{bound, closed_at, under_at, bound-past, TypesAre-bound, all-before, all-behind, AreTypes-from_variable, type_values-own}

-- the typing axiom of a function that has one
pub typing_axiom-there : (c : Choices) (normal : Normal) (j : Untyped) (f : ℕ)
    (symbols : List Symbol) (i : ℕ) (symbol : Symbol) (ty : Ty) →
    AreSatisfied j (typing_axioms c normal f symbols) → slice_get symbols i ≡ Some symbol →
    symbol.result ≡ Some ty → c.typing ty ≡ true →
    IsTrue (truth j (typing_axiom c (all_numbers normal) normal.signature (f + i) symbol ty) [])
typing_axiom-there c normal j f [] i symbol ty satisfied at gives typing = cc
typing_axiom-there c normal j f (first ∷ symbols) zero symbol ty satisfied at gives typing =
    let same : first ≡ symbol = cc in
    let e : f + 0 ≡ f = omega arith in
    let first_ones = all-before (IsSatisfied j) (typing_of c normal f first first.result)
    (typing_axioms c normal (f + 1) symbols) satisfied in
    let of_symbol : AreSatisfied j (typing_of c normal f symbol (Some ty)) =
    subst (λ o. AreSatisfied j (typing_of c normal f symbol o)) gives
    (subst (λ x. AreSatisfied j (typing_of c normal f x x.result)) same first_ones) in
    let alone : AreSatisfied j (axiom_named (typing_name symbol.name)
    (typing_axiom c (all_numbers normal) normal.signature f symbol ty) ∷ []) =
    subst (λ typing. AreSatisfied j (cond typing (axiom_named (typing_name symbol.name)
    (typing_axiom c (all_numbers normal) normal.signature f symbol ty) ∷ []) []))
    typing of_symbol in
    subst (λ x. IsTrue (truth j (typing_axiom c (all_numbers normal) normal.signature x symbol ty)
    []))
    (sym e) alone.0
typing_axiom-there c normal j f (first ∷ symbols) (suc i) symbol ty satisfied at gives typing =
    let e : f + 1 + i ≡ f + suc i = omega arith in
    subst (λ x. IsTrue (truth j (typing_axiom c (all_numbers normal) normal.signature x symbol ty)
    [])) e
    (typing_axiom-there c normal j (f + 1) symbols i symbol ty
    (all-behind (IsSatisfied j) (typing_of c normal f first first.result)
    (typing_axioms c normal (f + 1) symbols) satisfied) at gives typing)

module _ (c : Choices) (k : Numbers) (g : Signature) (j : Untyped)
    (constructor_at : ℕ → List ℕ → ℕ) (r : Relations) where
  -- a type's term has a number that is read as the type's member
  abbrev pub IsTypeRead : ℕ → Ty → List ℕ → List ℕ → Type 0
  IsTypeRead depth ty members assignment =
      r.member (value j assignment (type_term k.constructor depth ty))
      (type_value constructor_at members ty)

  -- what is used of a structure to read its typing axioms
  pub record ReadsAxioms : Type 0 where
    pub constructors : (i : ℕ) (constructor : Constructor) (values members : List ℕ) →
        slice_get g.constructors i ≡ Some constructor → length members ≡ constructor.arity →
        AreRelated r.member values members →
        r.member (j.symbol_at (k.constructor i) values) (constructor_at i members)
    pub premise_true : (depth : ℕ) (cover : Bool) (ty : Ty) (t : FofTerm)
        (members assignment : List ℕ) (e : ℕ) → r.good ty → c.premise cover ty ≡ true →
        IsTypeRead depth ty members assignment →
        r.placed (value j assignment t) (type_value constructor_at members ty) e →
        IsTrue (truth j (bind c k g depth ty t) assignment)
    pub tag_same : (depth : ℕ) (cover : Bool) (ty : Ty) (t : FofTerm)
        (members assignment : List ℕ) (e : ℕ) → r.good ty →
        c.tagged (Argument cover) Universal ty ≡ true → IsTypeRead depth ty members assignment →
        r.placed (value j assignment t) (type_value constructor_at members ty) e →
        value j assignment (tag c k g depth ty t) ≡ value j assignment t
    pub placed_below : (v m e : ℕ) → r.placed v m e → v < j.size

  module _ (sound : IsSignature g) (reads : ReadsAxioms) where
    premises_from : (depth : ℕ) (cover : Bool) (ty : Ty) (rest : List Fof) (count : ℕ)
        (assignment : List ℕ) (premised : Bool) → c.premise cover ty ≡ premised →
        (c.premise cover ty ≡ true →
        IsTrue (truth j (bind c k g depth ty (term.Var count)) assignment)) →
        IsTrue (list_all (λ p. truth j p assignment) rest) →
        IsTrue (list_all (λ p. truth j p assignment)
        (cond premised (bind c k g depth ty (term.Var count) ∷ rest) rest))
    premises_from depth cover ty rest count assignment true is f h = and_from _ _ (f is) h
    premises_from depth cover ty rest count assignment false is f h = h

    value-tagged : (depth : ℕ) (ty : Ty) (count : ℕ) (assignment : List ℕ) (cover tagged : Bool) →
        c.tagged (Argument cover) Universal ty ≡ tagged →
        (c.tagged (Argument cover) Universal ty ≡ true →
        value j assignment (tag c k g depth ty (term.Var count)) ≡ value j assignment
        (term.Var count)) →
        value j assignment (cond tagged (tag c k g depth ty (term.Var count)) (term.Var count))
        ≡ value j assignment (term.Var count)
    value-tagged depth ty count assignment cover true is f = f is
    value-tagged depth ty count assignment cover false is f = refl

    -- the premises hold, and the arguments are the numbers
    premises_hold : (variables depth : ℕ) (members assignment : List ℕ)
        (are : TypesAre r variables depth members assignment) (types : List Ty)
        (formed : AreTypes g variables types) (tests : List Bool) (values ms elements : List ℕ) →
        AllByRecursion r.good types → ms ≡ map (type_value constructor_at members) types →
        ArgumentsAre r tests values ms elements →
        map (λ (x : Bare). value j assignment x.term) (own_variables (length types)) ≡ values →
        IsTrue (list_all (λ p. truth j p assignment)
        (premises c k g depth tests types (length types)))
        × (map (value j assignment)
        (placed_all c k g depth tests types (own_variables (length types))) ≡ values)
    premises_hold variables depth members assignment are types no_types tests values ms elements
        good
        same no_arguments at = (refl, refl)
    premises_hold variables depth members assignment are types no_types tests values ms elements
        good same (more_arguments cover v m e tests' values' ms' elements' placed exact rest) at =
        absurd (omega (arith, ap length same))
    premises_hold variables depth members assignment are types (more_types ty others formed rest)
        tests
        values ms elements good same no_arguments at = absurd (omega (arith, ap length same))
    premises_hold variables depth members assignment are types (more_types ty others formed rest)
        tests values ms elements good same
        (more_arguments cover v m e tests' values' ms' elements' placed exact arguments) at =
        let count : ℕ = length others in
        let z : suc count - 1 ≡ count = omega arith in
        let first : value j assignment (term.Var count) ≡ v = cc in
        let others_are : map (λ (x : Bare). value j assignment x.term)
        (own_variables (length others))
        ≡ values' = cc in
        let m_is : m ≡ type_value constructor_at members ty = cc in
        let ms_are : ms' ≡ map (type_value constructor_at members) others = cc in
        let more = premises_hold variables depth members assignment are others rest tests' values'
        ms' elements' good.1 ms_are arguments others_are in
        let is_type = type_is k g j constructor_at r reads.constructors variables ty formed depth
        members assignment are in
        let is_placed : r.placed (value j assignment (term.Var count))
        (type_value constructor_at members ty) e =
        subst (λ x. r.placed x (type_value constructor_at members ty) e) (sym first)
        (subst (λ x. r.placed v x e) m_is placed) in (
          subst (λ y. IsTrue (list_all (λ p. truth j p assignment)
              (cond (c.premise cover ty)
              (bind c k g depth ty (term.Var y) ∷ premises c k g depth tests' others y)
              (premises c k g depth tests' others y)))) (sym z)
              (premises_from depth cover ty (premises c k g depth tests' others count) count
              assignment
              (c.premise cover ty) refl
              (λ q. reads.premise_true depth cover ty (term.Var count) members assignment e good.0
              q is_type is_placed) more.0),
          ap (λ x. x ∷ map (value j assignment)
              (placed_all c k g depth tests' others (own_variables count)))
              (value-tagged depth ty count assignment cover
              (c.tagged (Argument cover) Universal ty) refl
              (λ q. reads.tag_same depth cover ty (term.Var count) members assignment e good.0 q
              is_type is_placed) ∙ first)
              ∙ ap (λ xs. v ∷ xs) more.1,
        )

    own_variables-values : (values assignment : List ℕ) →
        map (λ (x : Bare). value j (bound values assignment) x.term) (own_variables (length values))
        ≡ values
    own_variables-values [] assignment = refl
    own_variables-values (v ∷ values) assignment =
        let e : length values ≡ length values + 0 = omega arith in
        ap (λ x. x ∷ map (λ (x : Bare). value j (bound values (v ∷ assignment)) x.term)
        (own_variables (length values)))
        (value-variable j (bound values (v ∷ assignment)) (length values)
        ∙ ap (slice_index (bound values (v ∷ assignment))) e ∙ bound-past values (v ∷ assignment) 0)
        ∙ ap (λ xs. v ∷ xs) (own_variables-values values (v ∷ assignment))

    arguments_below : (tests : List Bool) (values members elements : List ℕ) →
        ArgumentsAre r tests values members elements →
        EachBelow (replicate (length members) j.size) values
    arguments_below tests values members elements no_arguments = tt
    arguments_below tests values members elements
        (more_arguments cover v m e tests' values' members' elements' placed exact rest) =
        (reads.placed_below v m e placed, arguments_below tests' values' members' elements' rest)

    -- the value of a function's application is bound to its result type
    pub record IsTyped (f : ℕ) (symbol : Symbol) (ty : Ty) (values members : List ℕ) : Type 0 where
      pub depth : ℕ
      pub assignment : List ℕ
      pub t : FofTerm
      pub kept : List ℕ
      pub bound_to : IsTrue (truth j (bind c k g depth ty t) assignment)
      pub type : IsTypeRead depth ty members assignment
      pub value_is : value j assignment t ≡ j.symbol_at (k.symbol f) (kept ++ values)
      pub types : AreRelated r.member kept (selected (c.keeps symbol) members)

    pub result_typed : (f : ℕ) (symbol : Symbol) (ty : Ty) (us values members elements : List ℕ) →
        slice_get g.symbols f ≡ Some symbol → symbol.result ≡ Some ty →
        IsTrue (truth j (typing_axiom c k g f symbol ty) []) →
        AllByRecursion r.good symbol.arguments →
        length members ≡ symbol.parameters → EachBelow (replicate symbol.parameters j.size) us →
        AreRelated r.member us members →
        ArgumentsAre r (covers symbol) values
        (map (type_value constructor_at members) symbol.arguments) elements →
        IsTyped f symbol ty values members
    result_typed f symbol ty us values members elements at gives holds good all below related
        arguments =
        let count : ℕ = length symbol.arguments in
        let depth : ℕ = symbol.parameters + count in
        let assignment : List ℕ = bound values (bound us []) in
        let conclusion : Fof = bind c k g depth ty (own_application c k g depth f symbol) in
        let given : List Fof = premises c k g depth (covers symbol) symbol.arguments count in
        let below_values : EachBelow (replicate count j.size) values =
        subst (λ a. EachBelow (replicate a j.size) values)
        (length-map (type_value constructor_at members) symbol.arguments)
        (arguments_below (covers symbol) values
        (map (type_value constructor_at members) symbol.arguments) elements arguments) in
        let all_values : count ≡ length values = EachBelow-length count j.size values
        below_values in
        let are : TypesAre r symbol.parameters depth members assignment =
        TypesAre-bound r symbol.parameters count us values members
        (EachBelow-length symbol.parameters j.size us below) all_values related in
        let body = closed_at j count (under given conclusion) (bound us []) values
        (closed_at j symbol.parameters (closed count (under given conclusion)) [] us holds below)
        below_values in
        let variables_are : map (λ (x : Bare). value j assignment x.term)
        (own_variables count) ≡ values =
        subst (λ y. map (λ (x : Bare). value j assignment x.term) (own_variables y) ≡ values)
        (sym all_values) (own_variables-values values (bound us [])) in
        let hold = premises_hold symbol.parameters depth members assignment are symbol.arguments
        (arguments_formed g f symbol sound at) (covers symbol) values
        (map (type_value constructor_at members) symbol.arguments) elements good refl arguments
        variables_are in
        let own : List Ty = own_types symbol in
        let kept : List ℕ = map (value j assignment)
        (map (type_term k.constructor depth) (selected (c.keeps symbol) own)) in
        record {
          depth = depth;
          assignment = assignment;
          t = own_application c k g depth f symbol;
          kept = kept;
          bound_to = under_at j given conclusion assignment body hold.0;
          type = type_is k g j constructor_at r reads.constructors symbol.parameters ty
              (result_formed g f symbol ty sound at gives) depth members assignment are;
          value_is = value-apply j assignment (k.symbol f) _
              ∙ ap (j.symbol_at (k.symbol f))
              (map-append (value j assignment)
              (map (type_term k.constructor depth) (selected (c.keeps symbol) own)) _
              ∙ ap (λ l. kept ++ l) hold.1);
          types = subst (AreRelated r.member kept)
              (map-selected (type_value constructor_at members) (c.keeps symbol) own
              ∙ ap (selected (c.keeps symbol))
              (type_values-own constructor_at symbol.parameters members all))
              (types_are k g j constructor_at r reads.constructors symbol.parameters
              (selected (c.keeps symbol) own)
              (AreTypes-selected g symbol.parameters (c.keeps symbol) own
              (AreTypes-from_variable g symbol.parameters 0 symbol.parameters (omega arith)))
              depth members assignment are);
        }
