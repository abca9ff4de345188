-- When a file is well typed, and with which problem: a relation between what is written and what it
-- means, by cases, under the signature of the file and the names that are bound.
use Rattle.std.specs.Prelude.{◌≡◌, ℕ, ◌+◌, ◌≤◌, Bool, true, false, List, [], ◌∷◌, ◌++◌, length, map}
use Rattle.std.specs.Prelude.{Option, Some, None, count_by}
use Rattle.std.specs.List.{AllByRecursion}
use Rattle.tptp_syntax.specs.declared.types.TypeExpr.{TypeExpr}
use Rattle.tptp_syntax.specs.declared.types.TypeExpr.TheVariants as e
use Rattle.tptp_syntax.specs.declared.types.Bound.{Bound}
use Rattle.tptp_syntax.specs.declared.term.RawTerm.{RawTerm}
use Rattle.tptp_syntax.specs.declared.term.RawTerm.TheVariants as t
use Rattle.tptp_syntax.specs.declared.formula.RawFormula.{RawFormula}
use Rattle.tptp_syntax.specs.declared.formula.RawFormula.TheVariants as r
use Rattle.tptp_syntax.specs.declared.entry.File.{File}
use Rattle.tf_core.specs.declared.ty.Ty.{Ty}
use Rattle.tf_core.specs.declared.ty.Ty.TheVariants as type
use Rattle.tf_core.specs.declared.term.Term.{Term}
use Rattle.tf_core.specs.declared.term.Term.TheVariants as term
use Rattle.tf_core.specs.declared.formula.Formula.{Formula}
use Rattle.tf_core.specs.declared.formula.Formula.TheVariants as f
use Rattle.tf_core.specs.declared.signature.Constructor.{Constructor}
use Rattle.tf_core.specs.declared.signature.Symbol.{Symbol}
use Rattle.tf_core.specs.declared.signature.Signature.{Signature}
use Rattle.tf_core.specs.declared.problem.Stated.{Stated}
use Rattle.tf_core.specs.declared.problem.Problem.{Problem}
use Rattle.tf_core.specs.Types.{instantiate}
use Rattle.tf_check.specs.Scope.{Scope, TypeVariable, TermVariable, OfType, OfTerm, meaning}
use Rattle.tf_check.specs.Scope.{type_variables}
use Rattle.tf_check.specs.Types.{individuals, constructor_named}
use Rattle.tf_check.specs.Entries.{Declared, RawStatement, constructor_declarations}
use Rattle.tf_check.specs.Entries.{symbol_declarations, statements}
use Rattle.tf_check.specs.Signature.{signature_of, symbol_named}
use Rattle.tf_check.specs.Terms.{most_symbols}
use Rattle.tf_check.specs.Formulas.{quantified, prefix_types}
use Rattle.tf_check.specs.Faults.{is_conjecture, role_of}

-- ---- declarations of constructors

mutual
  -- so many `$tType`, joined by `*`
  pub data JoinsTypes : TypeExpr → ℕ → Type 0 where
    one_type : JoinsTypes e.Types 1
    joined_types : (parts : List TypeExpr) (count : ℕ) → AllJoinTypes parts count →
        JoinsTypes (e.Product parts) count

  pub data AllJoinTypes : List TypeExpr → ℕ → Type 0 where
    nothing_joined : AllJoinTypes [] 0
    more_joined : (part : TypeExpr) (count : ℕ) (parts : List TypeExpr) (counts : ℕ) →
        JoinsTypes part count → AllJoinTypes parts counts →
        AllJoinTypes (part ∷ parts) (count + counts)

-- a body that declares a constructor with so many arguments
pub data IsKind : TypeExpr → ℕ → Type 0 where
  constant_kind : IsKind e.Types 0
  mapped_kind : (left : TypeExpr) (count : ℕ) → JoinsTypes left count →
      IsKind (e.Map left e.Types) count

-- ---- types

mutual
  -- a type of terms
  pub data TypeMeans (constructors : List Constructor) (scope : Scope) :
      TypeExpr → Ty → Type 0 where
    bound_type : (name : List ℕ) (i : ℕ) → meaning scope name ≡ OfType i →
        TypeMeans constructors scope (e.Variable name) (type.Var i)
    applied_type : (name : List ℕ) (place : ℕ) (constructor : Constructor)
        (parts : List TypeExpr) (types : List Ty) →
        constructor_named name constructors ≡ Some (place, constructor) →
        constructor.arity ≡ length parts → TypesMean constructors scope parts types →
        TypeMeans constructors scope (e.Apply name parts) (type.Apply place types)
    individuals_type : TypeMeans constructors scope e.Individuals individuals

  pub data TypesMean (constructors : List Constructor) (scope : Scope) :
      List TypeExpr → List Ty → Type 0 where
    no_types : TypesMean constructors scope [] []
    more_types : (part : TypeExpr) (ty : Ty) (parts : List TypeExpr) (types : List Ty) →
        TypeMeans constructors scope part ty → TypesMean constructors scope parts types →
        TypesMean constructors scope (part ∷ parts) (ty ∷ types)

-- ---- declarations of symbols

mutual
  -- the types of the arguments, products flattened
  pub data ArgumentsMean (constructors : List Constructor) (scope : Scope) :
      TypeExpr → List Ty → Type 0 where
    one_argument : (part : TypeExpr) (ty : Ty) → TypeMeans constructors scope part ty →
        ArgumentsMean constructors scope part (ty ∷ [])
    several_arguments : (parts : List TypeExpr) (types : List Ty) →
        AllArgumentsMean constructors scope parts types →
        ArgumentsMean constructors scope (e.Product parts) types

  pub data AllArgumentsMean (constructors : List Constructor) (scope : Scope) :
      List TypeExpr → List Ty → Type 0 where
    no_arguments : AllArgumentsMean constructors scope [] []
    more_arguments : (part : TypeExpr) (front : List Ty) (parts : List TypeExpr)
        (back : List Ty) → ArgumentsMean constructors scope part front →
        AllArgumentsMean constructors scope parts back →
        AllArgumentsMean constructors scope (part ∷ parts) (front ++ back)

-- a result: `$o`, of predicates, or a type of terms
pub data ResultMeans (constructors : List Constructor) (scope : Scope) :
    TypeExpr → Option Ty → Type 0 where
  predicate_result : ResultMeans constructors scope e.Truth None
  function_result : (part : TypeExpr) (ty : Ty) → TypeMeans constructors scope part ty →
      ResultMeans constructors scope part (Some ty)

-- a variable that is bound with `$tType`
abbrev pub type_bound : List ℕ → Bound
type_bound name = record { name = name; kind = Some e.Types }

-- the parameters behind others, the innermost first
abbrev pub with_parameters : List (List ℕ) → Scope → Scope
with_parameters [] scope = scope
with_parameters (name ∷ names) scope = with_parameters names (TypeVariable name ∷ scope)

-- the body of the declaration of the symbol with the name
pub data SymbolMeans (constructors : List Constructor) (name : List ℕ) :
    Scope → TypeExpr → Symbol → Type 0 where
  constant_symbol : (scope : Scope) (body : TypeExpr) (result : Option Ty) →
      ResultMeans constructors scope body result →
      SymbolMeans constructors name scope body
      (record {
        name = name;
        parameters = type_variables scope;
        arguments = [];
        result = result;
      })
  mapped_symbol : (scope : Scope) (left right : TypeExpr) (arguments : List Ty)
      (result : Option Ty) → ArgumentsMean constructors scope left arguments →
      ResultMeans constructors scope right result →
      SymbolMeans constructors name scope (e.Map left right)
      (record {
        name = name;
        parameters = type_variables scope;
        arguments = arguments;
        result = result;
      })
  quantified_symbol : (scope : Scope) (names : List (List ℕ)) (body : TypeExpr)
      (symbol : Symbol) →
      SymbolMeans constructors name (with_parameters names scope) body symbol →
      SymbolMeans constructors name scope (e.Quantified (map type_bound names) body) symbol

-- ---- terms

mutual
  -- a type that is written as a term
  pub data TypeArgumentMeans (g : Signature) (scope : Scope) : RawTerm → Ty → Type 0 where
    bound_argument : (name : List ℕ) (i : ℕ) → meaning scope name ≡ OfType i →
        TypeArgumentMeans g scope (t.Variable name) (type.Var i)
    applied_argument : (name : List ℕ) (place : ℕ) (constructor : Constructor)
        (parts : List RawTerm) (types : List Ty) →
        constructor_named name g.constructors ≡ Some (place, constructor) →
        constructor.arity ≡ length parts → TypeArgumentsMean g scope parts types →
        TypeArgumentMeans g scope (t.Apply name parts) (type.Apply place types)
    individuals_argument : TypeArgumentMeans g scope t.Individuals individuals

  pub data TypeArgumentsMean (g : Signature) (scope : Scope) :
      List RawTerm → List Ty → Type 0 where
    no_type_arguments : TypeArgumentsMean g scope [] []
    more_type_arguments : (part : RawTerm) (ty : Ty) (parts : List RawTerm) (types : List Ty) →
        TypeArgumentMeans g scope part ty → TypeArgumentsMean g scope parts types →
        TypeArgumentsMean g scope (part ∷ parts) (ty ∷ types)

-- the name is that of the symbol at the place, with this result, and it has a type for each parameter
pub record IsApplied (g : Signature) (scope : Scope) (name : List ℕ) (place : ℕ) (symbol : Symbol)
    (result : Option Ty) (parts : List RawTerm) (types : List Ty) : Type 0 where
  pub named : symbol_named name g ≡ Some (place, symbol)
  pub gives : symbol.result ≡ result
  pub count : length parts ≡ symbol.parameters
  pub means : TypeArgumentsMean g scope parts types

mutual
  -- a term and its type
  pub data TermMeans (g : Signature) (scope : Scope) : RawTerm → Term → Ty → Type 0 where
    bound_term : (name : List ℕ) (i : ℕ) (ty : Ty) → meaning scope name ≡ OfTerm i ty →
        TermMeans g scope (t.Variable name) (term.Var i) ty
    applied_term : (name : List ℕ) (place : ℕ) (symbol : Symbol) (result : Ty)
        (front : List RawTerm) (types : List Ty) (back : List RawTerm) (terms : List Term) →
        IsApplied g scope name place symbol (Some result) front types →
        TermsMean g scope back terms (map (instantiate types) symbol.arguments) →
        TermMeans g scope (t.Apply name (front ++ back)) (term.Apply place types terms)
        (instantiate types result)

  -- terms in places of these types
  pub data TermsMean (g : Signature) (scope : Scope) :
      List RawTerm → List Term → List Ty → Type 0 where
    no_terms : TermsMean g scope [] [] []
    more_terms : (part : RawTerm) (a : Term) (ty : Ty) (parts : List RawTerm) (terms : List Term)
        (types : List Ty) → TermMeans g scope part a ty → TermsMean g scope parts terms types →
        TermsMean g scope (part ∷ parts) (a ∷ terms) (ty ∷ types)

-- ---- binders

-- A list of bound variables, in the leading prefix or elsewhere: the names that are bound behind it,
-- and the types of its term variables. Each variable is bound for those that follow. Type variables
-- stand in the prefix alone; a variable without a type is of `$i`.
pub data BindersMean (g : Signature) : Bool → Scope → List Bound → Scope → List Ty → Type 0 where
  no_binders : (leading : Bool) (scope : Scope) → BindersMean g leading scope [] scope []
  type_binder : (name : List ℕ) (scope : Scope) (bounds : List Bound) (inner : Scope)
      (types : List Ty) → BindersMean g true (TypeVariable name ∷ scope) bounds inner types →
      BindersMean g true scope (type_bound name ∷ bounds) inner types
  plain_binder : (leading : Bool) (name : List ℕ) (scope : Scope) (bounds : List Bound)
      (inner : Scope) (types : List Ty) →
      BindersMean g leading (TermVariable name individuals ∷ scope) bounds inner types →
      BindersMean g leading scope (record { name = name; kind = None } ∷ bounds) inner
      (individuals ∷ types)
  typed_binder : (leading : Bool) (name : List ℕ) (kind : TypeExpr) (ty : Ty) (scope : Scope)
      (bounds : List Bound) (inner : Scope) (types : List Ty) →
      TypeMeans g.constructors scope kind ty →
      BindersMean g leading (TermVariable name ty ∷ scope) bounds inner types →
      BindersMean g leading scope (record { name = name; kind = Some kind } ∷ bounds) inner
      (ty ∷ types)

-- ---- formulas

mutual
  -- a formula, in the leading prefix or elsewhere
  pub data FormulaMeans (g : Signature) : Bool → Scope → RawFormula → Formula → Type 0 where
    means_true : (leading : Bool) (scope : Scope) → FormulaMeans g leading scope r.True f.True
    means_false : (leading : Bool) (scope : Scope) → FormulaMeans g leading scope r.False f.False
    means_atom : (leading : Bool) (scope : Scope) (name : List ℕ) (place : ℕ) (symbol : Symbol)
        (front : List RawTerm) (types : List Ty) (back : List RawTerm) (terms : List Term) →
        IsApplied g scope name place symbol None front types →
        TermsMean g scope back terms (map (instantiate types) symbol.arguments) →
        FormulaMeans g leading scope (r.Atom name (front ++ back)) (f.Atom place types terms)
    means_equal : (leading : Bool) (scope : Scope) (left right : RawTerm) (ty : Ty) (a b : Term) →
        TermMeans g scope left a ty → TermMeans g scope right b ty →
        FormulaMeans g leading scope (r.Equal left right) (f.Equal ty a b)
    means_unequal : (leading : Bool) (scope : Scope) (left right : RawTerm) (ty : Ty)
        (a b : Term) → TermMeans g scope left a ty → TermMeans g scope right b ty →
        FormulaMeans g leading scope (r.Unequal left right) (f.Not (f.Equal ty a b))
    means_not : (leading : Bool) (scope : Scope) (part : RawFormula) (a : Formula) →
        FormulaMeans g false scope part a →
        FormulaMeans g leading scope (r.Not part) (f.Not a)
    means_and : (leading : Bool) (scope : Scope) (parts : List RawFormula) (bodies : List Formula) →
        FormulasMean g scope parts bodies →
        FormulaMeans g leading scope (r.And parts) (f.And bodies)
    means_or : (leading : Bool) (scope : Scope) (parts : List RawFormula) (bodies : List Formula) →
        FormulasMean g scope parts bodies →
        FormulaMeans g leading scope (r.Or parts) (f.Or bodies)
    means_implies : (leading : Bool) (scope : Scope) (left right : RawFormula) (a b : Formula) →
        FormulaMeans g false scope left a → FormulaMeans g false scope right b →
        FormulaMeans g leading scope (r.Implies left right) (f.Implies a b)
    means_if : (leading : Bool) (scope : Scope) (left right : RawFormula) (a b : Formula) →
        FormulaMeans g false scope left a → FormulaMeans g false scope right b →
        FormulaMeans g leading scope (r.If left right) (f.If a b)
    means_iff : (leading : Bool) (scope : Scope) (left right : RawFormula) (a b : Formula) →
        FormulaMeans g false scope left a → FormulaMeans g false scope right b →
        FormulaMeans g leading scope (r.Iff left right) (f.Iff a b)
    means_xor : (leading : Bool) (scope : Scope) (left right : RawFormula) (a b : Formula) →
        FormulaMeans g false scope left a → FormulaMeans g false scope right b →
        FormulaMeans g leading scope (r.Xor left right) (f.Xor a b)
    means_nand : (leading : Bool) (scope : Scope) (left right : RawFormula) (a b : Formula) →
        FormulaMeans g false scope left a → FormulaMeans g false scope right b →
        FormulaMeans g leading scope (r.Nand left right) (f.Nand a b)
    means_nor : (leading : Bool) (scope : Scope) (left right : RawFormula) (a b : Formula) →
        FormulaMeans g false scope left a → FormulaMeans g false scope right b →
        FormulaMeans g leading scope (r.Nor left right) (f.Nor a b)
    means_for_all : (leading : Bool) (scope inner : Scope) (bounds : List Bound)
        (types : List Ty) (body : RawFormula) (a : Formula) →
        BindersMean g leading scope bounds inner types → FormulaMeans g leading inner body a →
        FormulaMeans g leading scope (r.ForAll bounds body) (quantified f.ForAll types a)
    means_exists : (leading : Bool) (scope inner : Scope) (bounds : List Bound)
        (types : List Ty) (body : RawFormula) (a : Formula) →
        BindersMean g false scope bounds inner types → FormulaMeans g false inner body a →
        FormulaMeans g leading scope (r.Exists bounds body) (quantified f.Exists types a)

  pub data FormulasMean (g : Signature) : Scope → List RawFormula → List Formula → Type 0 where
    no_formulas : (scope : Scope) → FormulasMean g scope [] []
    more_formulas : (scope : Scope) (part : RawFormula) (a : Formula) (parts : List RawFormula)
        (bodies : List Formula) → FormulaMeans g false scope part a →
        FormulasMean g scope parts bodies → FormulasMean g scope (part ∷ parts) (a ∷ bodies)

-- ---- files

-- a constructor that is declared with the same number of arguments as at first
pub record IsDeclaredConstructor (g : Signature) (d : Declared) : Type 0 where
  pub arity : ℕ
  pub place : ℕ
  pub means : IsKind d.body arity
  pub first : constructor_named d.name g.constructors
      ≡ Some (place, record { name = d.name; arity = arity })

-- a symbol that is declared with the same type as at first, and is no constructor
pub record IsDeclaredSymbol (g : Signature) (d : Declared) : Type 0 where
  pub symbol : Symbol
  pub place : ℕ
  pub means : SymbolMeans g.constructors d.name [] d.body symbol
  pub first : symbol_named d.name g ≡ Some (place, symbol)

-- a statement and the formula that it states
pub record StatementMeans (g : Signature) (statement : RawStatement) (stated : Stated) :
    Type 0 where
  pub name : stated.name ≡ statement.label
  pub role : stated.role ≡ role_of statement.role
  pub type_variables : stated.type_variables ≡ prefix_types statement.formula
  pub body : FormulaMeans g true [] statement.formula stated.body

pub data StatementsMean (g : Signature) : List RawStatement → List Stated → Type 0 where
  no_statements : StatementsMean g [] []
  more_statements : (statement : RawStatement) (stated : Stated) (rest : List RawStatement)
      (formulas : List Stated) → StatementMeans g statement stated →
      StatementsMean g rest formulas →
      StatementsMean g (statement ∷ rest) (stated ∷ formulas)

-- The file is well typed with the problem.
pub record IsTyped (file : File) (p : Problem) : Type 0 where
  pub signature : p.signature ≡ signature_of file
  pub constructors :
      AllByRecursion (IsDeclaredConstructor p.signature) (constructor_declarations file)
  pub symbols : AllByRecursion (IsDeclaredSymbol p.signature) (symbol_declarations file)
  pub formulas : StatementsMean p.signature (statements file) p.formulas
  pub conjectures :
      count_by (λ (statement : RawStatement). is_conjecture statement.role) (statements file) ≤ 1
  pub size :
      length p.signature.constructors + length p.signature.symbols ≤ most_symbols + 1
