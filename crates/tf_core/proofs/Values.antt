-- The values of types are members, and those of well-typed terms elements of their types' members.
use Rattle.std.specs.Prelude.{ℕ, zero, suc, ◌≡◌, ◌<◌, List, [], ◌∷◌, map, length, replicate, get_or, slice_get, Option, Some}
use Rattle.std.specs.List.{AllByRecursion}
use Rattle.std.proofs.Common.{refl, sym, ap, subst, ◌∙◌, arith}
use Rattle.std.proofs.lemmas.List.{get_or-replicate, length-replicate, length-map}
use Rattle.std.proofs.lemmas.Option.{slice_get_within}
use Rattle.enc_base.specs.Tables.{EachBelow}
use Rattle.tf_core.specs.declared.ty.Ty.{Ty}
use Rattle.tf_core.specs.declared.term.Term.{Term}
use Rattle.tf_core.specs.declared.signature.Constructor.{Constructor}
use Rattle.tf_core.specs.declared.signature.Symbol.{Symbol}
use Rattle.tf_core.specs.declared.signature.Signature.{Signature}
use Rattle.tf_core.specs.Types.{type_value, instantiate}
use Rattle.tf_core.specs.Typing.{IsType, type_variable, type_apply, AreTypes, no_types, more_types, HasType, of_variable, of_apply, HaveTypes, no_terms, more_terms, IsSymbol, IsResult, IsSignature}
use Rattle.tf_core.specs.Structures.{Typed, member_count, size_of, member_of, IsStructure}
use Rattle.tf_core.specs.Truth.{value}
use Rattle.tf_core.specs.Laws.{context_sizes}
use Rattle.tf_core.proofs.Types.{type_value-variable, type_value-apply}
use Rattle.tf_core.proofs.Truth.{value-variable, value-apply}
use Rattle.tf_core.proofs.Instances.{type_value-instantiate, type_values-instantiate}
use Rattle.tf_core.proofs.TypingKept.{at_all}

-- an item of a tuple is below its bound
pub EachBelow-at : (bounds values : List ℕ) (i : ℕ) → EachBelow bounds values → i < length bounds →
    get_or values i 0 < get_or bounds i 0
EachBelow-at [] [] i below within = absurd (omega arith)
EachBelow-at [] (value ∷ values) i below within = absurd below
EachBelow-at (bound ∷ bounds) [] i below within = absurd below
EachBelow-at (bound ∷ bounds) (value ∷ values) zero below within = below.0
EachBelow-at (bound ∷ bounds) (value ∷ values) (suc i) below within =
    EachBelow-at bounds values i below.1 (omega arith)

-- a symbol of a well-typed signature is well typed
pub symbol_typed : (g : Signature) (symbols : List Symbol) (f : ℕ) (symbol : Symbol) →
    slice_get symbols f ≡ Some symbol → AllByRecursion (IsSymbol g) symbols → IsSymbol g symbol
symbol_typed g symbols f symbol at typed = at_all (IsSymbol g) symbols f symbol typed at

result_typed : (g : Signature) (parameters : ℕ) (given : Option Ty) (result : Ty) →
    given ≡ Some result → IsResult g parameters given → IsType g parameters result
result_typed g parameters given result is formed = subst (IsResult g parameters) is formed

-- an item of the images
get_or-image : {A : Type 0} (f : A → ℕ) (items : List A) (i : ℕ) (item : A) →
    slice_get items i ≡ Some item → get_or (map f items) i 0 ≡ f item
get_or-image f [] i item at = absurd (omega (arith, slice_get_within [] i item at))
get_or-image f (first ∷ items) zero item at = let same : first ≡ item = cc in ap f same
get_or-image f (first ∷ items) (suc i) item at = get_or-image f items i item at

map-images : {A B : Type 0} (f : B → ℕ) (g : A → B) (items : List A) →
    map f (map g items) ≡ map (λ item. f (g item)) items
map-images f g [] = refl
map-images f g (item ∷ items) = ap (λ rest. f (g item) ∷ rest) (map-images f g items)

-- the value of a type is a member, where constructors give members
module _ (g : Signature) (constructor_at : ℕ → List ℕ → ℕ) (count : ℕ)
    (give : (c : ℕ) (constructor : Constructor) (members : List ℕ) →
    slice_get g.constructors c ≡ Some constructor →
    EachBelow (replicate constructor.arity count) members → constructor_at c members < count)
  where
    mutual
      pub type_value_below : (variables : ℕ) (members : List ℕ) (ty : Ty) → IsType g variables ty →
          EachBelow (replicate variables count) members →
          type_value constructor_at members ty < count
      type_value_below variables members ty (type_variable i within) below =
          rw (type_value-variable constructor_at members i)
          (subst (λ n. get_or members i 0 < n) (get_or-replicate variables i count 0 within)
          (EachBelow-at (replicate variables count) members i below
          (omega (arith, length-replicate variables count))))
      type_value_below variables members ty (type_apply c constructor types at long formed) below =
          rw (type_value-apply constructor_at members c types)
          (give c constructor (map (type_value constructor_at members) types) at
          (subst (λ n. EachBelow (replicate n count)
          (map (type_value constructor_at members) types)) long
          (type_values_below variables members types formed below)))

      pub type_values_below : (variables : ℕ) (members : List ℕ) (types : List Ty) →
          AreTypes g variables types → EachBelow (replicate variables count) members →
          EachBelow (replicate (length types) count) (map (type_value constructor_at members) types)
      type_values_below variables members types no_types below = tt
      type_values_below variables members types (more_types ty others formed rest) below = (
        type_value_below variables members ty formed below,
        type_values_below variables members others rest below,
      )

-- the value of a type in a structure
module _ (g : Signature) (s : Typed) (structure : IsStructure g s) (variables : ℕ)
    (members : List ℕ) (below : EachBelow (replicate variables (member_count s)) members)
  where
    pub member_below : (ty : Ty) → IsType g variables ty → member_of s members ty < member_count s
    member_below ty formed =
        type_value_below g s.constructor_at (member_count s) structure.constructors variables
        members ty formed below

module _ (g : Signature) (s : Typed) (typed : IsSignature g) (structure : IsStructure g s)
    (variables : ℕ) (members : List ℕ)
    (below : EachBelow (replicate variables (member_count s)) members)
  where
    -- the members of types for a symbol's parameters
    pub types_below : (types : List Ty) → AreTypes g variables types →
        EachBelow (replicate (length types) (member_count s)) (map (member_of s members) types)
    types_below types formed =
        type_values_below g s.constructor_at (member_count s) structure.constructors variables
        members types formed below

    -- the sizes of the members of a symbol's argument types, seen at these types
    module _ (symbol : Symbol) (types : List Ty) (count : length types ≡ symbol.parameters)
        (fits : IsSymbol g symbol)
      where
        pub sizes-instantiate : (arguments : List Ty) → AreTypes g symbol.parameters arguments →
            context_sizes s members (map (instantiate types) arguments)
            ≡ context_sizes s (map (member_of s members) types) arguments
        sizes-instantiate arguments formed =
            sym (map-images (size_of s) (member_of s members) (map (instantiate types) arguments))
            ∙ ap (map (size_of s))
            (type_values-instantiate s.constructor_at members types g symbol.parameters arguments
            formed (sym count))
            ∙ map-images (size_of s) (member_of s (map (member_of s members) types)) arguments

    module _ (context : List Ty) (elements : List ℕ)
        (assigned : EachBelow (context_sizes s members context) elements)
      where
        mutual
          pub value_below : (t : Term) (ty : Ty) → HasType g variables context t ty →
              value s members elements t < size_of s (member_of s members ty)
          value_below t ty (of_variable i declared at) =
              rw (value-variable s members elements i)
              (subst (λ n. get_or elements i 0 < n)
              (get_or-image (λ x. size_of s (member_of s members x)) context i ty at)
              (EachBelow-at (context_sizes s members context) elements i assigned
              (rw (length-map _ _) (slice_get_within context i ty at))))
          value_below t ty (of_apply f symbol result types terms instance arguments) =
              let fits : IsSymbol g symbol = symbol_typed g g.symbols f symbol instance.at typed in
              rw (value-apply s members elements f types terms)
              (subst (λ n. s.symbol_at f (map (member_of s members) types)
              (map (value s members elements) terms) < n)
              (ap (size_of s) (sym (type_value-instantiate s.constructor_at members types g
              symbol.parameters result (result_typed g symbol.parameters symbol.result result
              instance.gives fits.result) (sym instance.count))))
              (structure.functions f symbol result (map (member_of s members) types)
              (map (value s members elements) terms) instance.at instance.gives
              (record {
                for_parameters =
                    subst (λ n. EachBelow (replicate n (member_count s))
                    (map (member_of s members) types)) instance.count
                    (types_below types instance.formed);
                for_arguments =
                    subst (λ sizes. EachBelow sizes (map (value s members elements) terms))
                    (sizes-instantiate symbol types instance.count fits symbol.arguments
                    fits.arguments) (values_below terms (map (instantiate types) symbol.arguments)
                    arguments);
              })))

          pub values_below : (terms : List Term) (types : List Ty) →
              HaveTypes g variables context terms types →
              EachBelow (context_sizes s members types) (map (value s members elements) terms)
          values_below terms types no_terms = tt
          values_below terms types (more_terms t ty others rest first more) =
              (value_below t ty first, values_below others rest more)
