-- The typing relations as tests.
use Rattle.std.specs.Prelude.{ℕ, Bool, true, false, ◌&&◌, List, [], ◌∷◌, map, length, eqb, ltb, slice_get, Option, Some, None}
use Rattle.std.specs.List.{list_all}
use Rattle.tf_core.specs.declared.ty.Ty.{Ty}
use Rattle.tf_core.specs.declared.ty.Ty.TheOpen.{Ty-F}
use Rattle.tf_core.specs.declared.ty.Ty.TheOpen as type_layer
use Rattle.tf_core.specs.declared.ty.Ty.TheFolds.{fold-Ty}
use Rattle.tf_core.specs.declared.term.Term.{Term}
use Rattle.tf_core.specs.declared.term.Term.TheOpen.{Term-F}
use Rattle.tf_core.specs.declared.term.Term.TheOpen as term_layer
use Rattle.tf_core.specs.declared.term.Term.TheFolds.{fold-Term}
use Rattle.tf_core.specs.declared.formula.Formula.{Formula}
use Rattle.tf_core.specs.declared.formula.Formula.TheOpen.{Formula-F}
use Rattle.tf_core.specs.declared.formula.Formula.TheOpen as formula
use Rattle.tf_core.specs.declared.formula.Formula.TheFolds.{fold-Formula}
use Rattle.tf_core.specs.declared.nnf.Nnf.{Nnf}
use Rattle.tf_core.specs.declared.nnf.Nnf.TheOpen.{Nnf-F}
use Rattle.tf_core.specs.declared.nnf.Nnf.TheOpen as nnf
use Rattle.tf_core.specs.declared.nnf.Nnf.TheFolds.{fold-Nnf}
use Rattle.tf_core.specs.declared.signature.Constructor.{Constructor}
use Rattle.tf_core.specs.declared.signature.Symbol.{Symbol}
use Rattle.tf_core.specs.declared.signature.Signature.{Signature}
use Rattle.tf_core.specs.declared.problem.Problem.{Problem}
use Rattle.tf_core.specs.declared.normal.Normal.{Normal}
use Rattle.tf_core.specs.Types.{instantiate, same_type, pass_in_order}

-- the constructor is there, with so many arguments
abbrev pub takes : Option Constructor → ℕ → Bool
takes None count = false
takes (Some constructor) count = eqb count constructor.arity

abbrev pub is_type_step : Signature → ℕ → Ty-F Bool → Bool
is_type_step g variables (type_layer.Var i) = ltb i variables
is_type_step g variables (type_layer.Apply c arguments) =
    takes (slice_get g.constructors c) (length arguments)
    && list_all (λ argument. argument) arguments

-- whether a type is formed from so many variables
unfoldable pub is_type : Signature → ℕ → Ty → Bool
is_type g variables = fold-Ty Bool (is_type_step g variables)

abbrev pub are_types : Signature → ℕ → List Ty → Bool
are_types g variables types = list_all (is_type g variables) types

-- the variable has this type
abbrev pub is_of_type : Option Ty → Ty → Bool
is_of_type None ty = false
is_of_type (Some declared) ty = same_type declared ty

-- the symbol has as many parameters as there are types, and the types are formed
abbrev pub takes_types : Signature → ℕ → Symbol → List Ty → Bool
takes_types g variables symbol types =
    eqb (length types) symbol.parameters && are_types g variables types

-- the arguments of a symbol pass at its declared types, seen at the types for its parameters
abbrev pub fit : Signature → ℕ → Symbol → List Ty → List (Ty → Bool) → Bool
fit g variables symbol types tests =
    takes_types g variables symbol types
    && pass_in_order tests (map (instantiate types) symbol.arguments)

abbrev pub gives : Option Ty → List Ty → Ty → Bool
gives None types ty = false
gives (Some result) types ty = same_type (instantiate types result) ty

abbrev pub is_function : Signature → ℕ → Option Symbol → List Ty → List (Ty → Bool) → Ty → Bool
is_function g variables None types tests ty = false
is_function g variables (Some symbol) types tests ty =
    fit g variables symbol types tests && gives symbol.result types ty

abbrev pub has_type_step : Signature → ℕ → List Ty → Term-F (Ty → Bool) → Ty → Bool
has_type_step g variables context (term_layer.Var i) ty = is_of_type (slice_get context i) ty
has_type_step g variables context (term_layer.Apply f types tests) ty =
    is_function g variables (slice_get g.symbols f) types tests ty

-- whether a term has a type in a context
unfoldable pub has_type : Signature → ℕ → List Ty → Term → Ty → Bool
has_type g variables context = fold-Term (Ty → Bool) (has_type_step g variables context)

abbrev pub gives_nothing : Option Ty → Bool
gives_nothing None = true
gives_nothing (Some result) = false

abbrev pub is_predicate : Signature → ℕ → Option Symbol → List Ty → List (Ty → Bool) → Bool
is_predicate g variables None types tests = false
is_predicate g variables (Some symbol) types tests =
    fit g variables symbol types tests && gives_nothing symbol.result

abbrev pub is_atom_test : Signature → ℕ → List Ty → ℕ → List Ty → List Term → Bool
is_atom_test g variables context f types terms =
    is_predicate g variables (slice_get g.symbols f) types (map (has_type g variables context) terms)

abbrev pub is_equation_test : Signature → ℕ → List Ty → Ty → Term → Term → Bool
is_equation_test g variables context ty left right =
    is_type g variables ty
    && (has_type g variables context left ty && has_type g variables context right ty)

abbrev pub is_formula_step : Signature → ℕ → Formula-F (List Ty → Bool) → List Ty → Bool
is_formula_step g variables formula.True context = true
is_formula_step g variables formula.False context = true
is_formula_step g variables (formula.Atom f types terms) context =
    is_atom_test g variables context f types terms
is_formula_step g variables (formula.Equal ty left right) context =
    is_equation_test g variables context ty left right
is_formula_step g variables (formula.Not a) context = a context
is_formula_step g variables (formula.And parts) context = list_all (λ part. part context) parts
is_formula_step g variables (formula.Or parts) context = list_all (λ part. part context) parts
is_formula_step g variables (formula.Implies a b) context = a context && b context
is_formula_step g variables (formula.If a b) context = a context && b context
is_formula_step g variables (formula.Iff a b) context = a context && b context
is_formula_step g variables (formula.Xor a b) context = a context && b context
is_formula_step g variables (formula.Nand a b) context = a context && b context
is_formula_step g variables (formula.Nor a b) context = a context && b context
is_formula_step g variables (formula.ForAll ty body) context =
    is_type g variables ty && body (ty ∷ context)
is_formula_step g variables (formula.Exists ty body) context =
    is_type g variables ty && body (ty ∷ context)

-- whether a formula is well typed in a context
unfoldable pub is_formula : Signature → ℕ → Formula → List Ty → Bool
is_formula g variables = fold-Formula (List Ty → Bool) (is_formula_step g variables)

abbrev pub is_nnf_step : Signature → ℕ → Nnf-F (List Ty → Bool) → List Ty → Bool
is_nnf_step g variables nnf.True context = true
is_nnf_step g variables nnf.False context = true
is_nnf_step g variables (nnf.Atom positive f types terms) context =
    is_atom_test g variables context f types terms
is_nnf_step g variables (nnf.Equation positive ty left right) context =
    is_equation_test g variables context ty left right
is_nnf_step g variables (nnf.And parts) context = list_all (λ part. part context) parts
is_nnf_step g variables (nnf.Or parts) context = list_all (λ part. part context) parts
is_nnf_step g variables (nnf.ForAll ty body) context =
    is_type g variables ty && body (ty ∷ context)
is_nnf_step g variables (nnf.Exists ty body) context =
    is_type g variables ty && body (ty ∷ context)

-- whether a formula in negation normal form is well typed in a context
unfoldable pub is_nnf : Signature → ℕ → Nnf → List Ty → Bool
is_nnf g variables = fold-Nnf (List Ty → Bool) (is_nnf_step g variables)

abbrev pub is_result : Signature → ℕ → Option Ty → Bool
is_result g parameters None = true
is_result g parameters (Some ty) = is_type g parameters ty

abbrev pub is_symbol : Signature → Symbol → Bool
is_symbol g symbol =
    are_types g symbol.parameters symbol.arguments && is_result g symbol.parameters symbol.result

-- whether a signature is well typed
abbrev pub is_signature : Signature → Bool
is_signature g = list_all (is_symbol g) g.symbols

-- whether a problem is well typed
abbrev pub is_problem : Problem → Bool
is_problem problem =
    is_signature problem.signature
    && list_all (λ stated. is_formula problem.signature stated.type_variables stated.body [])
    problem.formulas

-- whether a normal problem is well typed
abbrev pub is_normal : Normal → Bool
is_normal normal =
    is_signature normal.signature
    && list_all (λ formula. is_nnf normal.signature formula.type_variables formula.body [])
    normal.formulas
