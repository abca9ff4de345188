-- Small problems over two propositions, and a structure, for the tests alone.
use Rattle.std.specs.Prelude.{ℕ, ◌<◌, [], ◌∷◌, None, IsTrue}
use Rattle.tf_core.specs.declared.ty.Ty.TheVariants as type
use Rattle.tf_core.specs.declared.term.Term.TheVariants as term
use Rattle.tf_core.specs.declared.formula.Formula.{Formula}
use Rattle.tf_core.specs.declared.formula.Formula.TheVariants as formula
use Rattle.tf_core.specs.declared.signature.Symbol.{Symbol}
use Rattle.tf_core.specs.declared.signature.Signature.{Signature}
use Rattle.tf_core.specs.declared.problem.Role.{Role}
use Rattle.tf_core.specs.declared.problem.Problem.{Problem}
use Rattle.tf_core.specs.Types.{type_nodes}
use Rattle.tf_core.specs.Typing.{IsFormula}
use Rattle.tf_core.specs.TypedTables.{TypedTables}
use Rattle.tf_core.specs.Counts.{binder_sum, binder_count, has_pairs}
use Rattle.tf_core.specs.Sound.{individuals}

-- a predicate without arguments, whose name is one byte
abbrev pub proposition : ℕ → Symbol
proposition letter = record { name = letter ∷ []; parameters = 0; arguments = []; result = None }

-- the constructor `$i`, and the propositions `p` and `q`
abbrev pub propositions : Signature
propositions = record {
  constructors = individuals ∷ [];
  symbols = proposition 112 ∷ proposition 113 ∷ [];
}

-- the problem of one formula, named `x`
abbrev pub stating : Role → ℕ → Formula → Problem
stating role type_variables body = record {
  signature = propositions;
  formulas =
      record { name = 120 ∷ []; role = role; type_variables = type_variables; body = body } ∷ [];
}

-- a formula over the propositions and so many type variables, with few binders
pub record IsFit (variables : ℕ) (body : Formula) : Type 0 where
  pub typed : IsFormula propositions variables [] body
  pub pairs : IsTrue (has_pairs body)
  pub binders : binder_count body < 16
  pub nodes : binder_sum type_nodes body < 16

-- all elements of the i-th type variable are equal
abbrev pub all_equal : ℕ → Formula
all_equal i =
    formula.ForAll (type.Var i)
    (formula.ForAll (type.Var i) (formula.Equal (type.Var i) (term.Var 1) (term.Var 0)))

-- and those of the second type variable as well
abbrev pub both_all_equal : Formula
both_all_equal = formula.And (all_equal 0 ∷ all_equal 1 ∷ [])

-- members of one and of two elements; both propositions are false
abbrev pub one_and_two : TypedTables
one_and_two = record {
  sizes = 1 ∷ 2 ∷ [];
  constructors = (0 ∷ []) ∷ [];
  symbols = (0 ∷ []) ∷ (0 ∷ []) ∷ [];
}
