-- When signatures, problems and normal problems are sound: well typed, with `$i` as their first
-- constructor, and with counts below bounds that keep all that is made of them within its types.
use Rattle.std.specs.Prelude.{ℕ, ◌+◌, ◌^◌, ◌<◌, ◌≤◌, ◌≡◌, Bool, true, false, ◌&&◌, List, [], ◌∷◌, length, drop, ◌-◌, eqb, count_by, slice_get, Some, IsTrue}
use Rattle.std.specs.List.{AllByRecursion, list_all}
use Rattle.tf_core.specs.declared.signature.Constructor.{Constructor}
use Rattle.tf_core.specs.declared.signature.Symbol.{Symbol}
use Rattle.tf_core.specs.declared.signature.Signature.{Signature}
use Rattle.tf_core.specs.declared.problem.Role.{Role}
use Rattle.tf_core.specs.declared.problem.Role.TheVariants.{Hypothesis, Conjecture}
use Rattle.tf_core.specs.declared.problem.Stated.{Stated}
use Rattle.tf_core.specs.declared.problem.Problem.{Problem}
use Rattle.tf_core.specs.declared.normal.NormalFormula.{NormalFormula}
use Rattle.tf_core.specs.declared.normal.Normal.{Normal}
use Rattle.tf_core.specs.Typing.{IsSignature, IsFormula, IsNnf}
use Rattle.tf_core.specs.Sorts.{sorts}
use Rattle.tf_core.specs.Counts.{binder_count, normal_binder_count, equation_count, signature_nodes, binder_nodes, has_pairs, normal_has_pairs}

-- the constructor `$i`, whose name is the bytes of a dollar sign and an i
abbrev pub individuals : Constructor
individuals = record { name = 36 ∷ 105 ∷ []; arity = 0 }

-- a symbol has fewer than so many parameters, and arguments
pub record IsBounded (bound : ℕ) (symbol : Symbol) : Type 0 where
  pub parameters : symbol.parameters < bound
  pub arguments : length symbol.arguments < bound

-- a signature is sound, with counts below a bound
pub record IsSoundBelow (bound : ℕ) (g : Signature) : Type 0 where
  pub typed : IsSignature g
  pub first : slice_get g.constructors 0 ≡ Some individuals
  pub constructor_count : length g.constructors < bound
  pub symbol_count : length g.symbols < bound
  pub arities : AllByRecursion (λ constructor. constructor.arity < bound) g.constructors
  pub symbols : AllByRecursion (IsBounded bound) g.symbols

-- a signature by itself is sound
abbrev pub IsSoundSignature : Signature → Type 0
IsSoundSignature = IsSoundBelow (2 ^ 28)

-- a stated formula is sound
pub record IsSoundStated (g : Signature) (stated : Stated) : Type 0 where
  pub typed : IsFormula g stated.type_variables [] stated.body
  pub pairs : IsTrue (has_pairs stated.body)
  pub type_variables : stated.type_variables < 2 ^ 27
  pub binders : binder_count stated.body < 2 ^ 27

abbrev pub is_conjecture : Role → Bool
is_conjecture Hypothesis = false
is_conjecture Conjecture = true

-- a problem is sound
pub record IsSound (problem : Problem) : Type 0 where
  pub signature : IsSoundBelow (2 ^ 27) problem.signature
  pub formulas : AllByRecursion (IsSoundStated problem.signature) problem.formulas
  pub conjectures : count_by (λ stated. is_conjecture stated.role) problem.formulas ≤ 1
  pub nodes : signature_nodes problem.signature + binder_nodes problem < 2 ^ 27

-- a formula of a normal problem is sound
pub record IsSoundFormula (g : Signature) (formula : NormalFormula) : Type 0 where
  pub typed : IsNnf g formula.type_variables [] formula.body
  pub pairs : IsTrue (normal_has_pairs formula.body)
  pub type_variables : formula.type_variables < 2 ^ 28
  pub binders : normal_binder_count formula.body < 2 ^ 28
  pub equations : equation_count formula.body < 2 ^ 28

-- the last constructors, those made for the conjecture's type variables
abbrev pub fresh_constructors : Normal → List Constructor
fresh_constructors normal =
    drop (length normal.signature.constructors - normal.fresh) normal.signature.constructors

-- whether no symbol has a parameter and no formula a type variable
abbrev pub is_monomorphic : Normal → Bool
is_monomorphic normal =
    list_all (λ symbol. eqb symbol.parameters 0) normal.signature.symbols
    && list_all (λ formula. eqb formula.type_variables 0) normal.formulas

-- a normal problem is sound
pub record IsSoundNormal (normal : Normal) : Type 0 where
  pub signature : IsSoundBelow (2 ^ 28) normal.signature
  pub formulas : AllByRecursion (IsSoundFormula normal.signature) normal.formulas
  pub fresh : normal.fresh < length normal.signature.constructors
  pub fresh_arities :
      AllByRecursion (λ constructor. constructor.arity ≡ 0) (fresh_constructors normal)
  pub sort_count : IsTrue (is_monomorphic normal) → length (sorts normal) < 2 ^ 28
