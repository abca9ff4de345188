-- The normal problem of a typed problem: each formula in negation normal form, and the conjecture
-- negated in its place. A negated conjecture speaks of some members for its type variables, so
-- these become fresh constructors without arguments.
use Rattle.std.specs.Prelude.{Bool, ℕ, true, false, List, [], ◌∷◌, ◌++◌, map, length, cond, codes, Option, Some, None}
use Rattle.std.specs.Fmt.{decimal}
use Rattle.std.specs.List.{range_with_len}
use Rattle.tf_core.specs.declared.ty.Ty.{Ty}
use Rattle.tf_core.specs.declared.ty.Ty.TheVariants as type
use Rattle.tf_core.specs.declared.nnf.Nnf.{Nnf}
use Rattle.tf_core.specs.declared.formula.Formula.{Formula}
use Rattle.tf_core.specs.declared.signature.Constructor.{Constructor}
use Rattle.tf_core.specs.declared.signature.Signature.{Signature}
use Rattle.tf_core.specs.declared.problem.Role.{Role}
use Rattle.tf_core.specs.declared.problem.Role.TheVariants.{Hypothesis, Conjecture}
use Rattle.tf_core.specs.declared.problem.Stated.{Stated}
use Rattle.tf_core.specs.declared.problem.Problem.{Problem}
use Rattle.tf_core.specs.declared.normal.NormalFormula.{NormalFormula}
use Rattle.tf_core.specs.declared.normal.Normal.{Normal}
use Rattle.tf_core.specs.Sound.{is_conjecture}
use Rattle.tf_core.specs.Substitution.{substitute_types}
use Rattle.tf_nnf.specs.Forms.{positive_form, negative_form, signed_form}

-- the first conjecture; a sound problem has no other
abbrev pub conjecture_of : List Stated → Option Stated
conjecture_of [] = None
conjecture_of (stated ∷ formulas) =
    cond (is_conjecture stated.role) (Some stated) (conjecture_of formulas)

abbrev pub variables_of : Option Stated → ℕ
variables_of None = 0
variables_of (Some stated) = stated.type_variables

-- how many fresh constructors there are: one for each type variable of the conjecture
abbrev pub fresh_count : Problem → ℕ
fresh_count problem = variables_of (conjecture_of problem.formulas)

-- the fresh constructor for the i-th type variable, named `fresh_` and i in decimal
abbrev pub fresh_constructor : ℕ → Constructor
fresh_constructor i = record { name = codes "fresh_" ++ decimal i; arity = 0 }

-- the fresh constructors as types, where so many constructors stand before the first
abbrev pub fresh_types : ℕ → ℕ → List Ty
fresh_types first count = map (λ i. type.Apply i []) (range_with_len first count)

-- the form of a formula by a sign, with fresh constructors in place of type variables
unfoldable pub made : ℕ → ℕ → Bool → Formula → Nnf
made first count sign f = substitute_types (fresh_types first count) (signed_form sign f)

-- the types that replace the conjecture's type variables
abbrev pub types_for_conjecture : Problem → List Ty
types_for_conjecture problem =
    fresh_types (length problem.signature.constructors) (fresh_count problem)

-- a signature with so many fresh constructors at the end
abbrev pub with_fresh : Signature → ℕ → Signature
with_fresh g count = record {
  constructors = g.constructors ++ map fresh_constructor (range_with_len 0 count);
  symbols = g.symbols;
}

-- a formula of the normal problem, by its role, with these types for the conjecture's type variables
abbrev pub normal_by_role : List Ty → Stated → Role → NormalFormula
normal_by_role types stated Hypothesis = record {
  name = stated.name;
  negated = false;
  type_variables = stated.type_variables;
  body = positive_form stated.body;
}
normal_by_role types stated Conjecture = record {
  name = stated.name;
  negated = true;
  type_variables = 0;
  body = substitute_types types (negative_form stated.body);
}

abbrev pub normal_formula : List Ty → Stated → NormalFormula
normal_formula types stated = normal_by_role types stated stated.role

-- the normal problem
abbrev pub normal_of : Problem → Normal
normal_of problem = record {
  signature = with_fresh problem.signature (fresh_count problem);
  formulas = map (normal_formula (types_for_conjecture problem)) problem.formulas;
  fresh = fresh_count problem;
}
