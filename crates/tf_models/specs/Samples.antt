-- A small problem and a structure for it, with members of two sizes.
use Rattle.std.specs.Prelude.{[], ◌∷◌, Some, None}
use Rattle.tf_core.specs.declared.ty.Ty.{Ty}
use Rattle.tf_core.specs.declared.ty.Ty.TheVariants as type
use Rattle.tf_core.specs.declared.term.Term.{Term}
use Rattle.tf_core.specs.declared.term.Term.TheVariants as term
use Rattle.tf_core.specs.declared.formula.Formula.{Formula}
use Rattle.tf_core.specs.declared.formula.Formula.TheVariants as formula
use Rattle.tf_core.specs.declared.signature.Symbol.{Symbol}
use Rattle.tf_core.specs.declared.signature.Signature.{Signature}
use Rattle.tf_core.specs.declared.problem.Role.{Role}
use Rattle.tf_core.specs.declared.problem.Stated.{Stated}
use Rattle.tf_core.specs.declared.problem.Problem.{Problem}
use Rattle.tf_models.specs.declared.structure.TypedStructure.{TypedStructure}

-- the type `$i`, and `box($i)`

abbrev pub individuals : Ty
individuals = type.Apply 0 []

abbrev pub boxed : Ty
boxed = type.Apply 1 (individuals ∷ [])

-- a constant `c`, and for each type `A` a predicate `p` of `A` and a function `f` of `A` to `box(A)`

abbrev pub constant : Symbol
constant = record { name = 99 ∷ []; parameters = 0; arguments = []; result = Some individuals }

abbrev pub predicate : Symbol
predicate = record { name = 112 ∷ []; parameters = 1; arguments = type.Var 0 ∷ []; result = None }

abbrev pub function : Symbol
function = record {
  name = 102 ∷ [];
  parameters = 1;
  arguments = type.Var 0 ∷ [];
  result = Some (type.Apply 1 (type.Var 0 ∷ []));
}

abbrev pub signature : Signature
signature = record {
  constructors =
      record { name = 36 ∷ 105 ∷ []; arity = 0 }
      ∷ record { name = 98 ∷ []; arity = 1 }
      ∷ [];
  symbols = constant ∷ predicate ∷ function ∷ [];
}

-- `f(c)`, and `f` of it
abbrev pub once : Term
once = term.Apply 2 (individuals ∷ []) (term.Apply 0 [] [] ∷ [])

abbrev pub twice : Term
twice = term.Apply 2 (boxed ∷ []) (once ∷ [])

-- `p` of the nearest variable, which is of a type
abbrev pub atom : Ty → Formula
atom ty = formula.Atom 1 (ty ∷ []) (term.Var 0 ∷ [])

-- for each type there is an element with `p`; and `p` of each element of `box($i)`

abbrev pub some_of_each : Formula
some_of_each = formula.Exists (type.Var 0) (atom (type.Var 0))

abbrev pub each_boxed : Formula
each_boxed = formula.ForAll boxed (atom boxed)

-- the two, each in a role
abbrev pub first_stated : Role → Stated
first_stated role =
    record { name = 97 ∷ []; role = role; type_variables = 1; body = some_of_each }

abbrev pub second_stated : Role → Stated
second_stated role =
    record { name = 98 ∷ []; role = role; type_variables = 0; body = each_boxed }

abbrev pub problem : Role → Role → Problem
problem first second = record {
  signature = signature;
  formulas = first_stated first ∷ second_stated second ∷ [];
}

-- A member of two elements, which is `$i`, and one of three, which is `box($i)`. `p` and `f` have a
-- block of two entries and one of three.
abbrev pub structure : TypedStructure
structure = record {
  sizes = 2 ∷ 3 ∷ [];
  constructors = (0 ∷ []) ∷ (1 ∷ 0 ∷ []) ∷ [];
  symbols = (1 ∷ []) ∷ (0 ∷ 1 ∷ 1 ∷ 0 ∷ 1 ∷ []) ∷ (0 ∷ 2 ∷ 0 ∷ 0 ∷ 1 ∷ []) ∷ [];
}
