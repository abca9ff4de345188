-- Counts over formulas: binders, their depth, equations, nodes of types, and lists of parts.
use Rattle.std.specs.Prelude.{ℕ, ◌+◌, Bool, true, ◌&&◌, List, [], ◌∷◌, map, length, leb, max, sum, Option, Some, None}
use Rattle.std.specs.List.{list_all}
use Rattle.tf_core.specs.declared.ty.Ty.{Ty}
use Rattle.tf_core.specs.declared.formula.Formula.{Formula}
use Rattle.tf_core.specs.declared.formula.Formula.TheOpen.{Formula-F}
use Rattle.tf_core.specs.declared.formula.Formula.TheOpen as formula
use Rattle.tf_core.specs.declared.formula.Formula.TheFolds.{fold-Formula}
use Rattle.tf_core.specs.declared.nnf.Nnf.{Nnf}
use Rattle.tf_core.specs.declared.nnf.Nnf.TheOpen.{Nnf-F}
use Rattle.tf_core.specs.declared.nnf.Nnf.TheOpen as nnf
use Rattle.tf_core.specs.declared.nnf.Nnf.TheFolds.{fold-Nnf}
use Rattle.tf_core.specs.declared.signature.Signature.{Signature}
use Rattle.tf_core.specs.declared.problem.Problem.{Problem}
use Rattle.tf_core.specs.declared.normal.Normal.{Normal}
use Rattle.tf_core.specs.Types.{type_nodes}

-- the greatest of some numbers, or 0
abbrev pub greatest : List ℕ → ℕ
greatest [] = 0
greatest (n ∷ ns) = max n (greatest ns)

abbrev pub depth_step : Formula-F ℕ → ℕ
depth_step formula.True = 0
depth_step formula.False = 0
depth_step (formula.Atom f types terms) = 0
depth_step (formula.Equal ty left right) = 0
depth_step (formula.Not a) = a
depth_step (formula.And parts) = greatest parts
depth_step (formula.Or parts) = greatest parts
depth_step (formula.Implies a b) = max a b
depth_step (formula.If a b) = max a b
depth_step (formula.Iff a b) = max a b
depth_step (formula.Xor a b) = max a b
depth_step (formula.Nand a b) = max a b
depth_step (formula.Nor a b) = max a b
depth_step (formula.ForAll ty body) = body + 1
depth_step (formula.Exists ty body) = body + 1

-- the greatest number of nested binders in a formula
unfoldable pub depth : Formula → ℕ
depth = fold-Formula ℕ depth_step

abbrev pub normal_depth_step : Nnf-F ℕ → ℕ
normal_depth_step nnf.True = 0
normal_depth_step nnf.False = 0
normal_depth_step (nnf.Atom positive f types terms) = 0
normal_depth_step (nnf.Equation positive ty left right) = 0
normal_depth_step (nnf.And parts) = greatest parts
normal_depth_step (nnf.Or parts) = greatest parts
normal_depth_step (nnf.ForAll ty body) = body + 1
normal_depth_step (nnf.Exists ty body) = body + 1

-- the greatest number of nested binders in a formula in negation normal form
unfoldable pub normal_depth : Nnf → ℕ
normal_depth = fold-Nnf ℕ normal_depth_step

-- the greatest number of type variables of a problem's formulas
abbrev pub most_types : Problem → ℕ
most_types problem = greatest (map (λ stated. stated.type_variables) problem.formulas)

-- the greatest number of nested binders in a problem's formulas
abbrev pub most_terms : Problem → ℕ
most_terms problem = greatest (map (λ stated. depth stated.body) problem.formulas)

-- the same two of a normal problem

abbrev pub most_normal_types : Normal → ℕ
most_normal_types normal = greatest (map (λ formula. formula.type_variables) normal.formulas)

abbrev pub most_normal_terms : Normal → ℕ
most_normal_terms normal = greatest (map (λ formula. normal_depth formula.body) normal.formulas)

-- A sum over a formula of what its binders, by their types, and its equations count for.
abbrev pub sum_step : (Ty → ℕ) → Formula-F ℕ → ℕ
sum_step binder formula.True = 0
sum_step binder formula.False = 0
sum_step binder (formula.Atom f types terms) = 0
sum_step binder (formula.Equal ty left right) = 0
sum_step binder (formula.Not a) = a
sum_step binder (formula.And parts) = sum parts
sum_step binder (formula.Or parts) = sum parts
sum_step binder (formula.Implies a b) = a + b
sum_step binder (formula.If a b) = a + b
sum_step binder (formula.Iff a b) = a + b
sum_step binder (formula.Xor a b) = a + b
sum_step binder (formula.Nand a b) = a + b
sum_step binder (formula.Nor a b) = a + b
sum_step binder (formula.ForAll ty body) = binder ty + body
sum_step binder (formula.Exists ty body) = binder ty + body

-- a sum over the binders of a formula, of what each counts for by its type
unfoldable pub binder_sum : (Ty → ℕ) → Formula → ℕ
binder_sum binder = fold-Formula ℕ (sum_step binder)

-- how many binders stand in a formula
abbrev pub binder_count : Formula → ℕ
binder_count = binder_sum (λ ty. 1)

abbrev pub normal_sum_step : ℕ → ℕ → Nnf-F ℕ → ℕ
normal_sum_step binder equation nnf.True = 0
normal_sum_step binder equation nnf.False = 0
normal_sum_step binder equation (nnf.Atom positive f types terms) = 0
normal_sum_step binder equation (nnf.Equation positive ty left right) = equation
normal_sum_step binder equation (nnf.And parts) = sum parts
normal_sum_step binder equation (nnf.Or parts) = sum parts
normal_sum_step binder equation (nnf.ForAll ty body) = binder + body
normal_sum_step binder equation (nnf.Exists ty body) = binder + body

-- a sum over a formula in negation normal form, of what each binder and each equation counts for
unfoldable pub normal_sum : ℕ → ℕ → Nnf → ℕ
normal_sum binder equation = fold-Nnf ℕ (normal_sum_step binder equation)

-- how many binders stand in a formula in negation normal form
abbrev pub normal_binder_count : Nnf → ℕ
normal_binder_count = normal_sum 1 0

-- how many equations, positive and negative, stand in a formula in negation normal form
abbrev pub equation_count : Nnf → ℕ
equation_count = normal_sum 0 1

-- the nodes of a result's type
abbrev pub result_nodes : Option Ty → ℕ
result_nodes None = 0
result_nodes (Some ty) = type_nodes ty

-- the nodes of the types of a signature's symbols
abbrev pub signature_nodes : Signature → ℕ
signature_nodes g =
    sum (map (λ symbol. sum (map type_nodes symbol.arguments) + result_nodes symbol.result) g.symbols)

-- the nodes of the types at the binders of a problem's formulas
abbrev pub binder_nodes : Problem → ℕ
binder_nodes problem = sum (map (λ stated. binder_sum type_nodes stated.body) problem.formulas)

abbrev pub has_pairs_step : Formula-F Bool → Bool
has_pairs_step formula.True = true
has_pairs_step formula.False = true
has_pairs_step (formula.Atom f types terms) = true
has_pairs_step (formula.Equal ty left right) = true
has_pairs_step (formula.Not a) = a
has_pairs_step (formula.And parts) = leb 2 (length parts) && list_all (λ part. part) parts
has_pairs_step (formula.Or parts) = leb 2 (length parts) && list_all (λ part. part) parts
has_pairs_step (formula.Implies a b) = a && b
has_pairs_step (formula.If a b) = a && b
has_pairs_step (formula.Iff a b) = a && b
has_pairs_step (formula.Xor a b) = a && b
has_pairs_step (formula.Nand a b) = a && b
has_pairs_step (formula.Nor a b) = a && b
has_pairs_step (formula.ForAll ty body) = body
has_pairs_step (formula.Exists ty body) = body

-- each list of conjuncts or disjuncts of a formula has at least two items
unfoldable pub has_pairs : Formula → Bool
has_pairs = fold-Formula Bool has_pairs_step

abbrev pub normal_has_pairs_step : Nnf-F Bool → Bool
normal_has_pairs_step nnf.True = true
normal_has_pairs_step nnf.False = true
normal_has_pairs_step (nnf.Atom positive f types terms) = true
normal_has_pairs_step (nnf.Equation positive ty left right) = true
normal_has_pairs_step (nnf.And parts) = leb 2 (length parts) && list_all (λ part. part) parts
normal_has_pairs_step (nnf.Or parts) = leb 2 (length parts) && list_all (λ part. part) parts
normal_has_pairs_step (nnf.ForAll ty body) = body
normal_has_pairs_step (nnf.Exists ty body) = body

-- the same of a formula in negation normal form
unfoldable pub normal_has_pairs : Nnf → Bool
normal_has_pairs = fold-Nnf Bool normal_has_pairs_step
