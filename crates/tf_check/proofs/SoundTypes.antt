-- The types that well typed type expressions mean are formed, and have no more nodes than these.
use Rattle.std.proofs.Common.{◌≡◌, ℕ, suc, ◌+◌, ◌<◌, ◌≤◌, Bool, true, false, List, [], ◌∷◌, ◌++◌, length, map, sum, refl, sym, ap, ◌∙◌, arith, Option, Some, None, slice_get, if◌then◌else◌, bytes_eq}
use Rattle.tptp_syntax.specs.declared.types.TypeExpr.{TypeExpr}
use Rattle.tptp_syntax.specs.declared.types.TypeExpr.TheVariants as e
use Rattle.tptp_syntax.specs.declared.types.TypeExpr.TheFolds.{fold-TypeExpr, fold-roll-Bound}
use Rattle.tptp_syntax.specs.FileSizes.{type_nodes, type_nodes_at, bound_nodes_at}
use Rattle.tf_core.specs.declared.ty.Ty.{Ty}
use Rattle.tf_core.specs.declared.signature.Constructor.{Constructor}
use Rattle.tf_core.specs.declared.signature.Symbol.{Symbol}
use Rattle.tf_core.specs.declared.signature.Signature.{Signature}
use Rattle.tf_core.specs.Types as core
use Rattle.tf_core.specs.Counts.{result_nodes}
use Rattle.tf_core.specs.Typing.{IsType, type_variable, type_apply, AreTypes, IsResult, IsSymbol}
use Rattle.tf_core.specs.Typing as typing
use Rattle.tf_core.proofs.Types.{type_nodes-variable, type_nodes-apply}
use Rattle.tf_core.proofs.Induction.{type_induction}
use Rattle.tf_check.specs.Scope.{Scope, TypeVariable, TermVariable, Meaning, Unbound, OfType, OfTerm, meaning, under_binder, type_variables}
use Rattle.tf_check.specs.Types.{individuals, found}
use Rattle.tf_check.specs.Typing.{TypeMeans, bound_type, applied_type, individuals_type, TypesMean, no_types, more_types}
use Rattle.tf_check.specs.Typing.{ArgumentsMean, one_argument, several_arguments, AllArgumentsMean, no_arguments, more_arguments}
use Rattle.tf_check.specs.Typing.{ResultMeans, predicate_result, function_result, type_bound, with_parameters}
use Rattle.tf_check.specs.Typing.{SymbolMeans, constant_symbol, mapped_symbol, quantified_symbol}
use Rattle.tf_check.specs.Typing.{JoinsTypes, one_type, joined_types, AllJoinTypes, nothing_joined, more_joined, IsKind, constant_kind, mapped_kind}
use Rattle.tf_check.proofs.KindLemmas.{nodes_of_bound, type_nodes-types, type_nodes-product, type_nodes-map, type_nodes-quantified}
use Rattle.tf_check.proofs.KindLemmas as k
use Rattle.tf_check.proofs.FoundLemmas.{tested}
use Rattle.tf_check.proofs.SumLemmas.{total, total-cons, total-append}

-- ---- what a search finds

-- the item that is found stands at its place
pub found_at : {A : Type 0} (name_of : A → List ℕ) (name : List ℕ) (items : List A) (place : ℕ)
    (x : A) →
    found name_of name items ≡ Some (place, x) → slice_get items place ≡ Some x
found_at name_of name [] place x is = cc
found_at {A = A} name_of name (item ∷ items) place x is =
    by (bytes_eq name (name_of item)) (found name_of name items)
    (λ p y there. found_at name_of name items p y there) is
  where
    by : (same : Bool) (rest : Option (ℕ × A)) →
        ((p : ℕ) (y : A) → rest ≡ Some (p, y) → slice_get items p ≡ Some y) →
        tested name_of same item rest ≡ Some (place, x) →
        slice_get (item ∷ items) place ≡ Some x
    by true rest below here =
        let first : ℕ × A = (0, item) in
        let equal : first ≡ (place, x) = cc in
        ap (λ (at : ℕ × A). slice_get (item ∷ items) at.0) (sym equal)
        ∙ ap (λ (at : ℕ × A). Some at.1) equal
    by false None below here = cc
    by false (Some (p, y)) below here =
        let next : ℕ × A = (p + 1, y) in
        let equal : next ≡ (place, x) = cc in
        let number : p + 1 ≡ suc p = omega arith in
        ap (λ (at : ℕ × A). slice_get (item ∷ items) at.0) (sym equal)
        ∙ ap (slice_get (item ∷ items)) number
        ∙ below p y refl
        ∙ ap (λ (at : ℕ × A). Some at.1) equal

-- ---- what names mean

meaning_step : (bound name : List ℕ) (same : Bool) (here : Meaning) (outer : Meaning) (i : ℕ)
    (bounded : ℕ) →
    (here ≡ OfType i → i < bounded) → (outer ≡ OfType i → i < bounded) →
    (if same then here else outer) ≡ OfType i → i < bounded
meaning_step bound name true here outer i bounded first rest is = first is
meaning_step bound name false here outer i bounded first rest is = rest is

type_under : (m : Meaning) (i : ℕ) → under_binder m ≡ OfType i → m ≡ OfType i
type_under Unbound i is = cc
type_under (OfType j) i is = is
type_under (OfTerm j ty) i is = cc

-- a type variable is one of those that are bound
pub type_bounded : (scope : Scope) (name : List ℕ) (i : ℕ) → meaning scope name ≡ OfType i →
    i < type_variables scope
type_bounded [] name i is = cc
type_bounded (TypeVariable bound ∷ outer) name i is =
    meaning_step bound name (bytes_eq name bound) (OfType (type_variables outer))
    (meaning outer name) i
    (type_variables outer + 1)
    (λ same. let number : type_variables outer ≡ i = cc in omega arith)
    (λ same. let within : i < type_variables outer = type_bounded outer name i same in omega arith)
    is
type_bounded (TermVariable bound ty ∷ outer) name i is =
    meaning_step bound name (bytes_eq name bound) (OfTerm 0 ty) (under_binder (meaning outer name))
    i
    (type_variables outer)
    (λ same. cc) (λ same. type_bounded outer name i (type_under (meaning outer name) i same)) is

-- ---- types

pub some_nodes : (ty : Ty) → 1 ≤ core.type_nodes ty
some_nodes =
    type_induction (λ ty. 1 ≤ core.type_nodes ty) (λ i. omega (arith, type_nodes-variable i))
    (λ c types each. omega (arith, type_nodes-apply c types))

pub individuals_nodes : core.type_nodes individuals ≡ 1
individuals_nodes = type_nodes-apply 0 []

module _ (constructors : List Constructor) (scope : Scope) where
  mutual
    pub type_size : (x : TypeExpr) (ty : Ty) → TypeMeans constructors scope x ty →
        core.type_nodes ty ≤ type_nodes x
    type_size _ _ (bound_type name i is) =
        omega (arith, type_nodes-variable i, k.type_nodes-variable name)
    type_size _ _ (applied_type name place constructor parts types named arity means) =
        omega (
          arith,
          types_size parts types means,
          type_nodes-apply place types,
          k.type_nodes-apply name parts,
        )
    type_size _ _ individuals_type = omega (arith, individuals_nodes, k.type_nodes-individuals)

    pub types_size : (xs : List TypeExpr) (types : List Ty) →
        TypesMean constructors scope xs types →
        total core.type_nodes types ≤ total type_nodes xs
    types_size _ _ no_types = omega arith
    types_size _ _ (more_types part ty parts types means others) =
        omega (
          arith,
          type_size part ty means,
          types_size parts types others,
          total-cons core.type_nodes ty types,
          total-cons type_nodes part parts,
        )

  pub types_length : (xs : List TypeExpr) (types : List Ty) →
      TypesMean constructors scope xs types →
      length types ≡ length xs
  types_length _ _ no_types = refl
  types_length _ _ (more_types part ty parts types means others) =
      omega (arith, types_length parts types others)

-- under a signature, with so many type variables
module _ (g : Signature) (variables : ℕ) where
  pub formed-append : (front back : List Ty) → AreTypes g variables front →
      AreTypes g variables back →
      AreTypes g variables (front ++ back)
  formed-append _ back typing.no_types others = others
  formed-append _ back (typing.more_types ty types one rest) others =
      typing.more_types ty (types ++ back) one (formed-append types back rest others)

  pub individuals_formed : (constructor : Constructor) → slice_get g.constructors 0
      ≡ Some constructor →
      constructor.arity ≡ 0 → IsType g variables individuals
  individuals_formed constructor first arity =
      type_apply 0 constructor [] first (sym arity) typing.no_types

  module _ (first : slice_get g.constructors 0 ≡ Some (record { name = 36 ∷ 105 ∷ []; arity = 0 }))
      (scope : Scope) (within : type_variables scope ≤ variables)
    where
      mutual
        pub type_formed : (x : TypeExpr) (ty : Ty) → TypeMeans g.constructors scope x ty →
            IsType g variables ty
        type_formed _ _ (bound_type name i is) =
            let bounded : i < type_variables scope = type_bounded scope name i is in
            type_variable i (omega arith)
        type_formed _ _ (applied_type name place constructor parts types named arity means) =
            type_apply place constructor types
            (found_at (λ (c : Constructor). c.name) name g.constructors place constructor named)
            (types_length g.constructors scope parts types means ∙ sym arity)
            (types_formed parts types means)
        type_formed _ _ individuals_type =
            individuals_formed (record { name = 36 ∷ 105 ∷ []; arity = 0 }) first refl

        pub types_formed : (xs : List TypeExpr) (types : List Ty) →
            TypesMean g.constructors scope xs types → AreTypes g variables types
        types_formed _ _ no_types = typing.no_types
        types_formed _ _ (more_types part ty parts types means others) =
            typing.more_types ty types (type_formed part ty means)
            (types_formed parts types others)

      mutual
        pub arguments_formed : (x : TypeExpr) (types : List Ty) →
            ArgumentsMean g.constructors scope x types → AreTypes g variables types
        arguments_formed _ _ (one_argument part ty means) =
            typing.more_types ty [] (type_formed part ty means) typing.no_types
        arguments_formed _ _ (several_arguments parts types means) =
            all_arguments_formed parts types means

        pub all_arguments_formed : (xs : List TypeExpr) (types : List Ty) →
            AllArgumentsMean g.constructors scope xs types → AreTypes g variables types
        all_arguments_formed _ _ no_arguments = typing.no_types
        all_arguments_formed _ _ (more_arguments part front parts back means others) =
            formed-append front back (arguments_formed part front means)
            (all_arguments_formed parts back others)

      pub result_formed : (x : TypeExpr) (result : Option Ty) →
          ResultMeans g.constructors scope x result → IsResult g variables result
      result_formed _ _ predicate_result = tt
      result_formed _ _ (function_result part ty means) = type_formed part ty means

-- ---- arguments and results

module _ (constructors : List Constructor) (scope : Scope) where
  mutual
    pub arguments_size : (x : TypeExpr) (types : List Ty) →
        ArgumentsMean constructors scope x types →
        total core.type_nodes types ≤ type_nodes x
    arguments_size _ _ (one_argument part ty means) =
        omega (arith, type_size constructors scope part ty means, total-cons core.type_nodes ty [])
    arguments_size _ _ (several_arguments parts types means) =
        omega (arith, all_arguments_size parts types means, type_nodes-product parts)

    pub all_arguments_size : (xs : List TypeExpr) (types : List Ty) →
        AllArgumentsMean constructors scope xs types → total core.type_nodes types
        ≤ total type_nodes xs
    all_arguments_size _ _ no_arguments = omega arith
    all_arguments_size _ _ (more_arguments part front parts back means others) =
        omega (
          arith,
          arguments_size part front means,
          all_arguments_size parts back others,
          total-append core.type_nodes front back,
          total-cons type_nodes part parts,
        )

  pub result_size : (x : TypeExpr) (result : Option Ty) → ResultMeans constructors scope x result →
      result_nodes result ≤ type_nodes x
  result_size _ _ predicate_result = omega arith
  result_size _ _ (function_result part ty means) = type_size constructors scope part ty means

-- ---- symbols

pub with_parameters_count : (names : List (List ℕ)) (scope : Scope) →
    type_variables (with_parameters names scope) ≡ type_variables scope + length names
with_parameters_count [] scope = omega arith
with_parameters_count (name ∷ names) scope =
    omega (arith, with_parameters_count names (TypeVariable name ∷ scope))

-- a bound variable counts for one at least
bound_some : (name : List ℕ) (kind : Option TypeExpr) →
    1 ≤ nodes_of_bound (record { name = name; kind = kind })
bound_some name None =
    let is : nodes_of_bound (record { name = name; kind = None }) ≡ 1 =
    fold-roll-Bound ℕ ℕ type_nodes_at bound_nodes_at (record { name = name; kind = None }) in
    omega arith
bound_some name (Some x) =
    let is : nodes_of_bound (record { name = name; kind = Some x })
    ≡ 1 + fold-TypeExpr ℕ ℕ type_nodes_at bound_nodes_at x =
    fold-roll-Bound ℕ ℕ type_nodes_at bound_nodes_at (record { name = name; kind = Some x }) in
    omega arith

parameters_counted : (names : List (List ℕ)) → length names ≤ total nodes_of_bound
    (map type_bound names)
parameters_counted [] = omega arith
parameters_counted (name ∷ names) =
    omega (
      arith,
      parameters_counted names,
      bound_some name (Some e.Types),
      total-cons nodes_of_bound (type_bound name) (map type_bound names),
    )

-- the nodes of the types of a symbol
abbrev pub symbol_nodes : Symbol → ℕ
symbol_nodes symbol = sum (map core.type_nodes symbol.arguments) + result_nodes symbol.result

-- a symbol is formed, and its types and its parameters count for no more than its declaration
pub record IsCounted (g : Signature) (scope : Scope) (nodes : ℕ) (symbol : Symbol) : Type 0 where
  pub formed : IsSymbol g symbol
  pub types : symbol_nodes symbol ≤ nodes
  pub parameters : symbol.parameters ≤ type_variables scope + nodes

module _ (g : Signature)
    (first : slice_get g.constructors 0 ≡ Some (record { name = 36 ∷ 105 ∷ []; arity = 0 }))
    (name : List ℕ)
  where
    pub symbol_counted : (scope : Scope) (x : TypeExpr) (symbol : Symbol) →
        SymbolMeans g.constructors name scope x symbol → IsCounted g scope (type_nodes x) symbol
    symbol_counted _ _ _ (constant_symbol scope body result means) =
        record {
          formed = record {
            arguments = typing.no_types;
            result = result_formed g (type_variables scope) first scope (omega arith) body result
                means;
          };
          types = omega (arith, result_size g.constructors scope body result means);
          parameters = omega arith;
        }
    symbol_counted _ _ _ (mapped_symbol scope left right arguments result given gives) =
        record {
          formed = record {
            arguments =
                arguments_formed g (type_variables scope) first scope (omega arith) left arguments
                given;
            result = result_formed g (type_variables scope) first scope (omega arith) right result
                gives;
          };
          types = omega (
            arith,
            arguments_size g.constructors scope left arguments given,
            result_size g.constructors scope right result gives,
            type_nodes-map left right,
          );
          parameters = omega arith;
        }
    symbol_counted _ _ _ (quantified_symbol scope names body symbol means) =
        let inner = symbol_counted (with_parameters names scope) body symbol means in
        let nodes = type_nodes-quantified (map type_bound names) body in
        record {
          formed = inner.formed;
          types = omega (arith, inner.types, nodes);
          parameters = omega (
            arith,
            inner.parameters,
            nodes,
            parameters_counted names,
            with_parameters_count names scope,
          );
        }

-- ---- constructors

mutual
  joined_size : (x : TypeExpr) (count : ℕ) → JoinsTypes x count → count ≤ type_nodes x
  joined_size _ _ one_type = omega (arith, type_nodes-types)
  joined_size _ _ (joined_types parts count means) =
      omega (arith, all_joined_size parts count means, type_nodes-product parts)

  all_joined_size : (xs : List TypeExpr) (count : ℕ) → AllJoinTypes xs count →
      count ≤ total type_nodes xs
  all_joined_size _ _ nothing_joined = omega arith
  all_joined_size _ _ (more_joined part count parts counts means others) =
      omega (
        arith,
        joined_size part count means,
        all_joined_size parts counts others,
        total-cons type_nodes part parts,
      )

-- a constructor has no more arguments than its declaration has nodes
pub kind_size : (x : TypeExpr) (arity : ℕ) → IsKind x arity → arity ≤ type_nodes x
kind_size _ _ constant_kind = omega arith
kind_size _ _ (mapped_kind left count means) =
    omega (arith, joined_size left count means, type_nodes-map left e.Types)
