-- How many nodes a formula in negation normal form has: those of formulas and those of terms.
-- A literal is one node besides its terms, and types aren't counted.
use Rattle.std.specs.Prelude.{◌≡◌, ℕ, ◌+◌, List, sum}
use Rattle.std.specs.List.{sum_by}
use Rattle.enc_base.specs.Counts.{in_64_bits}
use Rattle.tf_core.specs.declared.term.Term.{Term}
use Rattle.tf_core.specs.declared.term.Term.TheOpen.{Term-F}
use Rattle.tf_core.specs.declared.term.Term.TheOpen as term
use Rattle.tf_core.specs.declared.term.Term.TheFolds.{fold-Term}
use Rattle.tf_core.specs.declared.nnf.Nnf.{Nnf}
use Rattle.tf_core.specs.declared.nnf.Nnf.TheOpen.{Nnf-F}
use Rattle.tf_core.specs.declared.nnf.Nnf.TheOpen as nnf
use Rattle.tf_core.specs.declared.nnf.Nnf.TheFolds.{fold-Nnf}
use Rattle.tf_core.specs.declared.formula.Formula.{Formula}
use Rattle.tf_core.specs.declared.problem.Role.{Role}
use Rattle.tf_core.specs.declared.problem.Role.TheVariants.{Hypothesis, Conjecture}
use Rattle.tf_core.specs.declared.problem.Stated.{Stated}
use Rattle.tf_core.specs.declared.normal.Normal.{Normal}
use Rattle.tf_nnf.specs.Forms.{positive_form, negative_form}

abbrev pub term_nodes_step : Term-F ℕ → ℕ
term_nodes_step (term.Var i) = 1
term_nodes_step (term.Apply f types terms) = 1 + sum terms

-- how many variables and functions stand in a term
unfoldable pub term_nodes : Term → ℕ
term_nodes = fold-Term ℕ term_nodes_step

abbrev pub nnf_nodes_step : Nnf-F ℕ → ℕ
nnf_nodes_step nnf.True = 1
nnf_nodes_step nnf.False = 1
nnf_nodes_step (nnf.Atom positive f types terms) = 1 + sum_by term_nodes terms
nnf_nodes_step (nnf.Equation positive ty left right) = 1 + (term_nodes left + term_nodes right)
nnf_nodes_step (nnf.And parts) = 1 + sum parts
nnf_nodes_step (nnf.Or parts) = 1 + sum parts
nnf_nodes_step (nnf.ForAll ty body) = 1 + body
nnf_nodes_step (nnf.Exists ty body) = 1 + body

-- how many nodes a formula has
unfoldable pub nnf_nodes : Nnf → ℕ
nnf_nodes = fold-Nnf ℕ nnf_nodes_step

-- how many nodes the formulas of a normal problem have together
abbrev pub normal_nodes : Normal → ℕ
normal_nodes normal = sum_by (λ formula. nnf_nodes formula.body) normal.formulas

-- the nodes of a formula's normal form
abbrev pub positive_nodes : Formula → ℕ
positive_nodes f = nnf_nodes (positive_form f)

-- the nodes of the normal form of its negation
abbrev pub negative_nodes : Formula → ℕ
negative_nodes f = nnf_nodes (negative_form f)

-- both counts of a formula, in 64 bits
pub record IsCounted (f : Formula) (positive negative : ℕ) : Type 0 where
  pub of_form : positive ≡ in_64_bits (positive_nodes f)
  pub of_negation : negative ≡ in_64_bits (negative_nodes f)

-- both counts of a list of formulas, summed, in 64 bits
pub record AreCounted (parts : List Formula) (positive negative : ℕ) : Type 0 where
  pub of_forms : positive ≡ in_64_bits (sum_by positive_nodes parts)
  pub of_negations : negative ≡ in_64_bits (sum_by negative_nodes parts)

-- the nodes of what a stated formula becomes, by its role
abbrev pub nodes_by_role : Formula → Role → ℕ
nodes_by_role f Hypothesis = positive_nodes f
nodes_by_role f Conjecture = negative_nodes f

abbrev pub stated_nodes : Stated → ℕ
stated_nodes stated = nodes_by_role stated.body stated.role
