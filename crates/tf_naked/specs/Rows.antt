-- Worked rows: a problem with two sorts, a and b, and constants c and d of b.
use Rattle.std.specs.Prelude.{ℕ, true, false, List, [], ◌∷◌, codes, Some}
use Rattle.tf_core.specs.declared.ty.Ty.{Ty}
use Rattle.tf_core.specs.declared.ty.Ty.TheVariants as type
use Rattle.tf_core.specs.declared.term.Term.TheVariants as term
use Rattle.tf_core.specs.declared.nnf.Nnf.{Nnf}
use Rattle.tf_core.specs.declared.nnf.Nnf.TheVariants as nnf
use Rattle.tf_core.specs.declared.signature.Symbol.{Symbol}
use Rattle.tf_core.specs.declared.normal.NormalFormula.{NormalFormula}
use Rattle.tf_core.specs.declared.normal.Normal.{Normal}
use Rattle.tf_core.specs.Sound.{individuals}

abbrev pub sort_a : Ty
sort_a = type.Apply 1 []

abbrev pub sort_b : Ty
sort_b = type.Apply 2 []

abbrev pub constant_of_b : List ℕ → Symbol
constant_of_b name =
    record { name = name; parameters = 0; arguments = []; result = Some sort_b }

abbrev pub with_formulas : List NormalFormula → Normal
with_formulas formulas = record {
  signature = record {
    constructors = individuals ∷ record { name = codes "a"; arity = 0 }
        ∷ record { name = codes "b"; arity = 0 } ∷ [];
    symbols = constant_of_b (codes "c") ∷ constant_of_b (codes "d") ∷ [];
  };
  formulas = formulas;
  fresh = 0;
}

abbrev pub axiom_of : List ℕ → Nnf → NormalFormula
axiom_of name body = record { name = name; negated = false; type_variables = 0; body = body }

-- `X = Y`
abbrev pub equal_variables : Nnf
equal_variables = nnf.Equation true sort_a (term.Var 1) (term.Var 0)

-- `![X: a, Y: a]: X = Y`
abbrev pub all_equal : Nnf
all_equal = nnf.ForAll sort_a (nnf.ForAll sort_a equal_variables)

-- `?[X: a, Y: a]: X = Y`
abbrev pub some_equal : Nnf
some_equal = nnf.Exists sort_a (nnf.Exists sort_a equal_variables)

-- `c != d`
abbrev pub constants_differ : Nnf
constants_differ = nnf.Equation false sort_b (term.Apply 0 [] []) (term.Apply 1 [] [])

-- all elements of a are one
abbrev pub universal : Normal
universal =
    with_formulas (axiom_of (codes "one") all_equal ∷ axiom_of (codes "two") constants_differ ∷ [])

-- two elements of a are one
abbrev pub existential : Normal
existential =
    with_formulas (axiom_of (codes "one") some_equal ∷ axiom_of (codes "two") constants_differ ∷ [])

-- of the conjecture that two elements of a differ, whose negation is in normal form
abbrev pub refuted : Normal
refuted =
    with_formulas
    (axiom_of (codes "two") constants_differ
    ∷ record { name = codes "go"; negated = true; type_variables = 0; body = all_equal } ∷ [])
