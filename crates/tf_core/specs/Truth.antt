-- Values of terms and truth of formulas in a typed structure: the textbook's, over finite domains.
-- An assignment is a list of members, the i-th for type variable i, and a list of elements, the
-- nearest binder's first.
use Rattle.std.specs.Prelude.{ℕ, Bool, true, false, not, ◌&&◌, ◌||◌, List, ◌∷◌, map, eqb, slice_index}
use Rattle.std.specs.List.{list_all, list_any}
use Rattle.enc_base.specs.Quantifiers.{all_below, some_below}
use Rattle.tf_core.specs.declared.ty.Ty.{Ty}
use Rattle.tf_core.specs.declared.term.Term.{Term}
use Rattle.tf_core.specs.declared.term.Term.TheOpen.{Term-F}
use Rattle.tf_core.specs.declared.term.Term.TheOpen as term
use Rattle.tf_core.specs.declared.term.Term.TheFolds.{fold-Term}
use Rattle.tf_core.specs.declared.formula.Formula.{Formula}
use Rattle.tf_core.specs.declared.formula.Formula.TheOpen.{Formula-F}
use Rattle.tf_core.specs.declared.formula.Formula.TheOpen as formula
use Rattle.tf_core.specs.declared.formula.Formula.TheFolds.{fold-Formula}
use Rattle.tf_core.specs.declared.nnf.Nnf.{Nnf}
use Rattle.tf_core.specs.declared.nnf.Nnf.TheOpen.{Nnf-F}
use Rattle.tf_core.specs.declared.nnf.Nnf.TheOpen as nnf
use Rattle.tf_core.specs.declared.nnf.Nnf.TheFolds.{fold-Nnf}
use Rattle.tf_core.specs.Structures.{Typed, size_of, member_of}

-- one layer of a term's value
abbrev pub value_step : Typed → List ℕ → List ℕ → Term-F ℕ → ℕ
value_step s members elements (term.Var i) = slice_index elements i
value_step s members elements (term.Apply f types values) =
    s.symbol_at f (map (member_of s members) types) values

-- the value of a term: an element
unfoldable pub value : Typed → List ℕ → List ℕ → Term → ℕ
value s members elements = fold-Term ℕ (value_step s members elements)

-- whether a predicate holds
abbrev pub holds_at : Typed → List ℕ → List ℕ → ℕ → List Ty → List Term → Bool
holds_at s members elements f types terms =
    eqb (s.symbol_at f (map (member_of s members) types) (map (value s members elements) terms)) 1

abbrev pub implies : Bool → Bool → Bool
implies a b = not a || b

abbrev pub iff : Bool → Bool → Bool
iff a b = implies a b && implies b a

-- one layer of truth, whose parts are tests of elements
abbrev pub truth_step : Typed → List ℕ → Formula-F (List ℕ → Bool) → List ℕ → Bool
truth_step s members formula.True elements = true
truth_step s members formula.False elements = false
truth_step s members (formula.Atom f types terms) elements =
    holds_at s members elements f types terms
truth_step s members (formula.Equal ty left right) elements =
    eqb (value s members elements left) (value s members elements right)
truth_step s members (formula.Not a) elements = not (a elements)
truth_step s members (formula.And parts) elements = list_all (λ part. part elements) parts
truth_step s members (formula.Or parts) elements = list_any (λ part. part elements) parts
truth_step s members (formula.Implies a b) elements = implies (a elements) (b elements)
truth_step s members (formula.If a b) elements = implies (b elements) (a elements)
truth_step s members (formula.Iff a b) elements = iff (a elements) (b elements)
truth_step s members (formula.Xor a b) elements = not (iff (a elements) (b elements))
truth_step s members (formula.Nand a b) elements = not (a elements && b elements)
truth_step s members (formula.Nor a b) elements = not (a elements || b elements)
truth_step s members (formula.ForAll ty body) elements =
    all_below (size_of s (member_of s members ty)) (λ element. body (element ∷ elements))
truth_step s members (formula.Exists ty body) elements =
    some_below (size_of s (member_of s members ty)) (λ element. body (element ∷ elements))

-- whether a formula is true under an assignment
unfoldable pub truth : Typed → List ℕ → Formula → List ℕ → Bool
truth s members = fold-Formula (List ℕ → Bool) (truth_step s members)

-- a literal's truth, by its sign and that of its atom
abbrev pub signed : Bool → Bool → Bool
signed true b = b
signed false b = not b

-- one layer of truth of a formula in negation normal form
abbrev pub normal_truth_step : Typed → List ℕ → Nnf-F (List ℕ → Bool) → List ℕ → Bool
normal_truth_step s members nnf.True elements = true
normal_truth_step s members nnf.False elements = false
normal_truth_step s members (nnf.Atom positive f types terms) elements =
    signed positive (holds_at s members elements f types terms)
normal_truth_step s members (nnf.Equation positive ty left right) elements =
    signed positive (eqb (value s members elements left) (value s members elements right))
normal_truth_step s members (nnf.And parts) elements = list_all (λ part. part elements) parts
normal_truth_step s members (nnf.Or parts) elements = list_any (λ part. part elements) parts
normal_truth_step s members (nnf.ForAll ty body) elements =
    all_below (size_of s (member_of s members ty)) (λ element. body (element ∷ elements))
normal_truth_step s members (nnf.Exists ty body) elements =
    some_below (size_of s (member_of s members ty)) (λ element. body (element ∷ elements))

-- whether a formula in negation normal form is true under an assignment
unfoldable pub normal_truth : Typed → List ℕ → Nnf → List ℕ → Bool
normal_truth s members = fold-Nnf (List ℕ → Bool) (normal_truth_step s members)
