-- Structures that agree wherever a signature looks: types, values and truth are the same in both.
use Rattle.std.specs.Prelude.{ℕ, ◌<◌, ◌≡◌, ◌&&◌, ◌||◌, List, ◌∷◌, map, length, eqb, replicate, slice_index, slice_get, Some, None}
use Rattle.std.specs.List.{list_all, list_any}
use Rattle.std.proofs.Common.{refl, sym, ap, ◌∙◌, subst, arith}
use Rattle.enc_base.specs.Tables.{EachBelow}
use Rattle.enc_base.specs.Quantifiers.{all_below, some_below}
use Rattle.enc_base.proofs.Quantifiers.{all_below-same, some_below-same}
use Rattle.tf_core.specs.declared.ty.Ty.{Ty}
use Rattle.tf_core.specs.declared.term.Term.{Term}
use Rattle.tf_core.specs.declared.nnf.Nnf.{Nnf}
use Rattle.tf_core.specs.declared.signature.Constructor.{Constructor}
use Rattle.tf_core.specs.declared.signature.Symbol.{Symbol}
use Rattle.tf_core.specs.declared.signature.Signature.{Signature}
use Rattle.tf_core.specs.Types.{instantiate, type_value}
use Rattle.tf_core.specs.Structures.{Typed, member_count, size_of, member_of, AreArguments, IsStructure}
use Rattle.tf_core.specs.Truth.{value, holds_at, signed, normal_truth}
use Rattle.tf_core.specs.Typing.{IsType, type_variable, type_apply, AreTypes, no_types, more_types, HasType, of_variable, of_apply, HaveTypes, no_terms, more_terms, IsAtom, IsNnf, nnf_true, nnf_false, nnf_atom, nnf_equation, nnf_and, nnf_or, nnf_for_all, nnf_exists, AreNnf, no_parts, more_parts, IsSymbol, IsResult, IsSignature}
use Rattle.tf_core.proofs.Types.{type_value-variable, type_value-apply}
use Rattle.tf_core.proofs.Truth.{value-variable, value-apply, normal_truth-true, normal_truth-false, normal_truth-atom, normal_truth-equation, normal_truth-and, normal_truth-or, normal_truth-for_all, normal_truth-exists}
use Rattle.tf_models.proofs.TypeMembers.{type_values_below}
use Rattle.tf_models.proofs.Values.{symbol_typed, context_sizes, types_below, sizes-instantiate, values_below}

-- types under two readings of the constructors that agree where the members are in range
module _ (g : Signature) (one other : ℕ → List ℕ → ℕ) (count : ℕ)
    (give : (c : ℕ) (constructor : Constructor) (members : List ℕ) →
    slice_get g.constructors c ≡ Some constructor →
    EachBelow (replicate constructor.arity count) members → one c members < count)
    (same : (c : ℕ) (constructor : Constructor) (members : List ℕ) →
    slice_get g.constructors c ≡ Some constructor →
    EachBelow (replicate constructor.arity count) members → other c members ≡ one c members)
    (variables : ℕ) (members : List ℕ) (below : EachBelow (replicate variables count) members)
  where
    mutual
      pub type_value-agrees : (ty : Ty) → IsType g variables ty →
          type_value other members ty ≡ type_value one members ty
      type_value-agrees ty (type_variable i within) =
          type_value-variable other members i ∙ sym (type_value-variable one members i)
      type_value-agrees ty (type_apply c constructor types at long formed) =
          type_value-apply other members c types
          ∙ ap (other c) (type_values-agree types formed)
          ∙ same c constructor (map (type_value one members) types) at
          (subst (λ n. EachBelow (replicate n count) (map (type_value one members) types)) long
          (type_values_below g one count give variables members types formed below))
          ∙ sym (type_value-apply one members c types)

      pub type_values-agree : (types : List Ty) → AreTypes g variables types →
          map (type_value other members) types ≡ map (type_value one members) types
      type_values-agree types no_types = refl
      type_values-agree types (more_types ty rest formed others) =
          ap (λ v. v ∷ map (type_value other members) rest) (type_value-agrees ty formed)
          ∙ ap (λ vs. type_value one members ty ∷ vs) (type_values-agree rest others)

    -- the sizes of the members that types are
    pub type_sizes-agree : (sizes : List ℕ) (types : List Ty) → AreTypes g variables types →
        map (λ ty. slice_index sizes (type_value other members ty)) types
        ≡ map (λ ty. slice_index sizes (type_value one members ty)) types
    type_sizes-agree sizes types no_types = refl
    type_sizes-agree sizes types (more_types ty rest formed others) =
        ap (λ v. v ∷ map (λ t. slice_index sizes (type_value other members t)) rest)
        (ap (slice_index sizes) (type_value-agrees ty formed))
        ∙ ap (λ vs. slice_index sizes (type_value one members ty) ∷ vs)
        (type_sizes-agree sizes rest others)

-- the other structure agrees with the first at members and elements in range
pub record Agrees (g : Signature) (s other : Typed) : Type 0 where
  pub sizes : other.sizes ≡ s.sizes
  pub constructors : (c : ℕ) (constructor : Constructor) (members : List ℕ) →
      slice_get g.constructors c ≡ Some constructor →
      EachBelow (replicate constructor.arity (member_count s)) members →
      other.constructor_at c members ≡ s.constructor_at c members
  pub symbols : (f : ℕ) (symbol : Symbol) (members elements : List ℕ) →
      slice_get g.symbols f ≡ Some symbol → AreArguments s symbol members elements →
      other.symbol_at f members elements ≡ s.symbol_at f members elements

module _ (g : Signature) (s other : Typed) (typed : IsSignature g) (structure : IsStructure g s)
    (agrees : Agrees g s other)
  where
    pub count-agrees : member_count other ≡ member_count s
    count-agrees = ap (λ (sizes : List ℕ). length sizes) agrees.sizes

    pub size_of-agrees : (member : ℕ) → size_of other member ≡ size_of s member
    size_of-agrees member = ap (λ (sizes : List ℕ). slice_index sizes member) agrees.sizes

    module _ (variables : ℕ) (members : List ℕ)
        (below : EachBelow (replicate variables (member_count s)) members)
      where
        pub member_of-agrees : (ty : Ty) → IsType g variables ty →
            member_of other members ty ≡ member_of s members ty
        member_of-agrees =
            type_value-agrees g s.constructor_at other.constructor_at (member_count s)
            structure.constructors agrees.constructors variables members below

        pub members_of-agree : (types : List Ty) → AreTypes g variables types →
            map (member_of other members) types ≡ map (member_of s members) types
        members_of-agree =
            type_values-agree g s.constructor_at other.constructor_at (member_count s)
            structure.constructors agrees.constructors variables members below

        pub sizes-agree : (types : List Ty) → AreTypes g variables types →
            context_sizes other members types ≡ context_sizes s members types
        sizes-agree types formed =
            ap (λ (sizes : List ℕ).
            map (λ ty. slice_index sizes (member_of other members ty)) types)
            agrees.sizes
            ∙ type_sizes-agree g s.constructor_at other.constructor_at (member_count s)
            structure.constructors agrees.constructors variables members below s.sizes types formed

        pub size-agrees : (ty : Ty) → IsType g variables ty →
            size_of other (member_of other members ty) ≡ size_of s (member_of s members ty)
        size-agrees ty formed =
            ap (size_of other) (member_of-agrees ty formed)
            ∙ size_of-agrees (member_of s members ty)

    -- the other structure fits the signature too

    pub arguments-agree : (symbol : Symbol) → IsSymbol g symbol → (members elements : List ℕ) →
        AreArguments other symbol members elements → AreArguments s symbol members elements
    arguments-agree symbol is members elements are =
        let below : EachBelow (replicate symbol.parameters (member_count s)) members =
        subst (λ n. EachBelow (replicate symbol.parameters n) members) count-agrees
        are.for_parameters in
        record {
          for_parameters = below;
          for_arguments = subst (λ (bounds : List ℕ). EachBelow bounds elements)
              (sizes-agree symbol.parameters members below symbol.arguments is.arguments)
              are.for_arguments;
        }

    functions-agree : (f : ℕ) (symbol : Symbol) (result : Ty) (members elements : List ℕ) →
        slice_get g.symbols f ≡ Some symbol → symbol.result ≡ Some result →
        AreArguments other symbol members elements →
        other.symbol_at f members elements < size_of other (member_of other members result)
    functions-agree f symbol result members elements at gives are =
        let is : IsSymbol g symbol = symbol_typed g g.symbols f symbol at typed in
        let formed : IsType g symbol.parameters result =
        subst (IsResult g symbol.parameters) gives is.result in
        let inner = arguments-agree symbol is members elements are in
        omega (
          arith,
          structure.functions f symbol result members elements at gives inner,
          agrees.symbols f symbol members elements at inner,
          size-agrees symbol.parameters members inner.for_parameters result formed,
        )

    predicates-agree : (f : ℕ) (symbol : Symbol) (members elements : List ℕ) →
        slice_get g.symbols f ≡ Some symbol → symbol.result ≡ None →
        AreArguments other symbol members elements → other.symbol_at f members elements < 2
    predicates-agree f symbol members elements at gives are =
        let is : IsSymbol g symbol = symbol_typed g g.symbols f symbol at typed in
        let inner = arguments-agree symbol is members elements are in
        omega (
          arith,
          structure.predicates f symbol members elements at gives inner,
          agrees.symbols f symbol members elements at inner,
        )

    pub IsStructure-agrees : IsStructure g other
    IsStructure-agrees = record {
      some = subst (λ n. 0 < n) (sym count-agrees) structure.some;
      inhabited = λ member within.
          subst (λ n. 0 < n) (sym (size_of-agrees member))
          (structure.inhabited member (omega (arith, within, count-agrees)));
      constructors = λ c constructor members at below.
          let here = subst (λ n. EachBelow (replicate constructor.arity n) members)
          count-agrees below in
          omega (
            arith,
            structure.constructors c constructor members at here,
            agrees.constructors c constructor members at here,
            count-agrees,
          );
      functions = functions-agree;
      predicates = predicates-agree;
    }

    module _ (variables : ℕ) (members : List ℕ)
        (below : EachBelow (replicate variables (member_count s)) members)
      where
        -- what a symbol is given at types and terms is in range
        arguments_below : (context : List Ty) (elements : List ℕ) (f : ℕ) (symbol : Symbol)
            (types : List Ty) (terms : List Term) →
            EachBelow (context_sizes s members context) elements →
            slice_get g.symbols f ≡ Some symbol → length types ≡ symbol.parameters →
            AreTypes g variables types →
            HaveTypes g variables context terms (map (instantiate types) symbol.arguments) →
            AreArguments s symbol (map (member_of s members) types)
            (map (value s members elements) terms)
        arguments_below context elements f symbol types terms assigned at count formed have =
            let is : IsSymbol g symbol = symbol_typed g g.symbols f symbol at typed in
            record {
              for_parameters =
                  subst (λ n. EachBelow (replicate n (member_count s))
                  (map (member_of s members) types))
                  count (types_below g s typed structure variables members below types formed);
              for_arguments =
                  subst (λ (bounds : List ℕ). EachBelow bounds
                  (map (value s members elements) terms))
                  (sizes-instantiate g s typed structure variables members below
                  symbol types count is
                  symbol.arguments is.arguments)
                  (values_below g s typed structure variables members below
                  context elements assigned
                  terms (map (instantiate types) symbol.arguments) have);
            }

        -- what a symbol gives at types and terms whose values are the same
        symbol-agrees : (context : List Ty) (elements : List ℕ) (f : ℕ) (symbol : Symbol)
            (types : List Ty) (terms : List Term) →
            EachBelow (context_sizes s members context) elements →
            slice_get g.symbols f ≡ Some symbol → length types ≡ symbol.parameters →
            AreTypes g variables types →
            HaveTypes g variables context terms (map (instantiate types) symbol.arguments) →
            map (value other members elements) terms ≡ map (value s members elements) terms →
            other.symbol_at f (map (member_of other members) types)
            (map (value other members elements) terms)
            ≡ s.symbol_at f (map (member_of s members) types) (map (value s members elements) terms)
        symbol-agrees context elements f symbol types terms assigned at count formed have same =
            ap (λ ms. other.symbol_at f ms (map (value other members elements) terms))
            (members_of-agree variables members below types formed)
            ∙ ap (other.symbol_at f (map (member_of s members) types)) same
            ∙ agrees.symbols f symbol (map (member_of s members) types)
            (map (value s members elements) terms) at
            (arguments_below context elements f symbol types terms assigned at count formed have)

        mutual
          pub value-agrees : (context : List Ty) (elements : List ℕ) (t : Term) (ty : Ty) →
              EachBelow (context_sizes s members context) elements →
              HasType g variables context t ty →
              value other members elements t ≡ value s members elements t
          value-agrees context elements t ty assigned (of_variable i declared at) =
              value-variable other members elements i ∙ sym (value-variable s members elements i)
          value-agrees context elements t ty assigned
              (of_apply f symbol result types terms instance have) =
              value-apply other members elements f types terms
              ∙ symbol-agrees context elements f symbol types terms assigned instance.at
              instance.count instance.formed have
              (values-agree context elements terms (map (instantiate types) symbol.arguments)
              assigned have)
              ∙ sym (value-apply s members elements f types terms)

          pub values-agree : (context : List Ty) (elements : List ℕ) (terms : List Term)
              (types : List Ty) → EachBelow (context_sizes s members context) elements →
              HaveTypes g variables context terms types →
              map (value other members elements) terms ≡ map (value s members elements) terms
          values-agree context elements terms types assigned no_terms = refl
          values-agree context elements terms types assigned
              (more_terms t ty rest others has have) =
              ap (λ v. v ∷ map (value other members elements) rest)
              (value-agrees context elements t ty assigned has)
              ∙ ap (λ vs. value s members elements t ∷ vs)
              (values-agree context elements rest others assigned have)

        holds_at-agrees : (context : List Ty) (elements : List ℕ) (f : ℕ) (symbol : Symbol)
            (types : List Ty) (terms : List Term) →
            EachBelow (context_sizes s members context) elements →
            IsAtom g variables context f symbol types terms →
            holds_at other members elements f types terms
            ≡ holds_at s members elements f types terms
        holds_at-agrees context elements f symbol types terms assigned is =
            ap (λ v. eqb v 1)
            (symbol-agrees context elements f symbol types terms assigned is.predicate.at
            is.predicate.count is.predicate.formed is.arguments
            (values-agree context elements terms (map (instantiate types) symbol.arguments)
            assigned is.arguments))

        mutual
          -- a formula is as true in the one as in the other
          pub normal_truth-agrees : (context : List Ty) (p : Nnf) → IsNnf g variables context p →
              (elements : List ℕ) → EachBelow (context_sizes s members context) elements →
              normal_truth other members p elements ≡ normal_truth s members p elements
          normal_truth-agrees context p (nnf_true c) elements assigned =
              normal_truth-true other members elements ∙ sym (normal_truth-true s members elements)
          normal_truth-agrees context p (nnf_false c) elements assigned =
              normal_truth-false other members elements
              ∙ sym (normal_truth-false s members elements)
          normal_truth-agrees context p (nnf_atom c positive f symbol types terms is)
              elements assigned =
              normal_truth-atom other members positive f types terms elements
              ∙ ap (signed positive)
              (holds_at-agrees context elements f symbol types terms assigned is)
              ∙ sym (normal_truth-atom s members positive f types terms elements)
          normal_truth-agrees context p (nnf_equation c positive ty left right is)
              elements assigned =
              normal_truth-equation other members positive ty left right elements
              ∙ ap (λ v. signed positive (eqb v (value other members elements right)))
              (value-agrees context elements left ty assigned is.left_side)
              ∙ ap (λ v. signed positive (eqb (value s members elements left) v))
              (value-agrees context elements right ty assigned is.right_side)
              ∙ sym (normal_truth-equation s members positive ty left right elements)
          normal_truth-agrees context p (nnf_and c parts are) elements assigned =
              normal_truth-and other members parts elements
              ∙ all-agree context parts are elements assigned
              ∙ sym (normal_truth-and s members parts elements)
          normal_truth-agrees context p (nnf_or c parts are) elements assigned =
              normal_truth-or other members parts elements
              ∙ some-agree context parts are elements assigned
              ∙ sym (normal_truth-or s members parts elements)
          normal_truth-agrees context p (nnf_for_all c ty body formed is) elements assigned =
              normal_truth-for_all other members ty body elements
              ∙ ap (λ n. all_below n
              (λ element. normal_truth other members body (element ∷ elements)))
              (size-agrees variables members below ty formed)
              ∙ all_below-same (size_of s (member_of s members ty)) _ _
              (λ element within.
              normal_truth-agrees (ty ∷ context) body is (element ∷ elements) (within, assigned))
              ∙ sym (normal_truth-for_all s members ty body elements)
          normal_truth-agrees context p (nnf_exists c ty body formed is) elements assigned =
              normal_truth-exists other members ty body elements
              ∙ ap (λ n. some_below n
              (λ element. normal_truth other members body (element ∷ elements)))
              (size-agrees variables members below ty formed)
              ∙ some_below-same (size_of s (member_of s members ty)) _ _
              (λ element within.
              normal_truth-agrees (ty ∷ context) body is (element ∷ elements) (within, assigned))
              ∙ sym (normal_truth-exists s members ty body elements)

          all-agree : (context : List Ty) (parts : List Nnf) → AreNnf g variables context parts →
              (elements : List ℕ) → EachBelow (context_sizes s members context) elements →
              list_all (λ part. normal_truth other members part elements) parts
              ≡ list_all (λ part. normal_truth s members part elements) parts
          all-agree context parts (no_parts c) elements assigned = refl
          all-agree context parts (more_parts c part rest is are) elements assigned =
              ap (λ b. b && list_all (λ x. normal_truth other members x elements) rest)
              (normal_truth-agrees context part is elements assigned)
              ∙ ap (λ b. normal_truth s members part elements && b)
              (all-agree context rest are elements assigned)

          some-agree : (context : List Ty) (parts : List Nnf) → AreNnf g variables context parts →
              (elements : List ℕ) → EachBelow (context_sizes s members context) elements →
              list_any (λ part. normal_truth other members part elements) parts
              ≡ list_any (λ part. normal_truth s members part elements) parts
          some-agree context parts (no_parts c) elements assigned = refl
          some-agree context parts (more_parts c part rest is are) elements assigned =
              ap (λ b. b || list_any (λ x. normal_truth other members x elements) rest)
              (normal_truth-agrees context part is elements assigned)
              ∙ ap (λ b. normal_truth s members part elements || b)
              (some-agree context rest are elements assigned)
