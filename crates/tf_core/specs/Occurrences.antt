-- Which type variables occur in types, terms and formulas.
use Rattle.std.specs.Prelude.{ℕ, ◌≡◌, Bool, false, ◌||◌, List, eqb, slice_index, IsTrue}
use Rattle.std.specs.List.{list_any}
use Rattle.tf_core.specs.declared.ty.Ty.{Ty}
use Rattle.tf_core.specs.declared.ty.Ty.TheOpen.{Ty-F}
use Rattle.tf_core.specs.declared.ty.Ty.TheOpen as type
use Rattle.tf_core.specs.declared.ty.Ty.TheFolds.{fold-Ty}
use Rattle.tf_core.specs.declared.term.Term.{Term}
use Rattle.tf_core.specs.declared.term.Term.TheOpen.{Term-F}
use Rattle.tf_core.specs.declared.term.Term.TheOpen as term
use Rattle.tf_core.specs.declared.term.Term.TheFolds.{fold-Term}
use Rattle.tf_core.specs.declared.formula.Formula.{Formula}
use Rattle.tf_core.specs.declared.formula.Formula.TheOpen.{Formula-F}
use Rattle.tf_core.specs.declared.formula.Formula.TheOpen as formula
use Rattle.tf_core.specs.declared.formula.Formula.TheFolds.{fold-Formula}

abbrev pub occurs_in_type_step : ℕ → Ty-F Bool → Bool
occurs_in_type_step i (type.Var j) = eqb i j
occurs_in_type_step i (type.Apply c arguments) = list_any (λ argument. argument) arguments

-- whether a type variable occurs in a type
unfoldable pub occurs_in_type : ℕ → Ty → Bool
occurs_in_type i = fold-Ty Bool (occurs_in_type_step i)

-- whether it occurs in some of the types
abbrev pub occurs_in_types : ℕ → List Ty → Bool
occurs_in_types i types = list_any (occurs_in_type i) types

abbrev pub occurs_in_term_step : ℕ → Term-F Bool → Bool
occurs_in_term_step i (term.Var j) = false
occurs_in_term_step i (term.Apply f types terms) =
    occurs_in_types i types || list_any (λ t. t) terms

-- whether a type variable occurs in a term
unfoldable pub occurs_in_term : ℕ → Term → Bool
occurs_in_term i = fold-Term Bool (occurs_in_term_step i)

-- whether it occurs in some of the terms
abbrev pub occurs_in_terms : ℕ → List Term → Bool
occurs_in_terms i terms = list_any (occurs_in_term i) terms

abbrev pub occurs_in_step : ℕ → Formula-F Bool → Bool
occurs_in_step i formula.True = false
occurs_in_step i formula.False = false
occurs_in_step i (formula.Atom f types terms) = occurs_in_types i types || occurs_in_terms i terms
occurs_in_step i (formula.Equal ty left right) =
    occurs_in_type i ty || occurs_in_term i left || occurs_in_term i right
occurs_in_step i (formula.Not a) = a
occurs_in_step i (formula.And parts) = list_any (λ part. part) parts
occurs_in_step i (formula.Or parts) = list_any (λ part. part) parts
occurs_in_step i (formula.Implies a b) = a || b
occurs_in_step i (formula.If a b) = a || b
occurs_in_step i (formula.Iff a b) = a || b
occurs_in_step i (formula.Xor a b) = a || b
occurs_in_step i (formula.Nand a b) = a || b
occurs_in_step i (formula.Nor a b) = a || b
occurs_in_step i (formula.ForAll ty body) = occurs_in_type i ty || body
occurs_in_step i (formula.Exists ty body) = occurs_in_type i ty || body

-- whether a type variable occurs in a formula: at a binder, an equation or a symbol
unfoldable pub occurs_in : ℕ → Formula → Bool
occurs_in i = fold-Formula Bool (occurs_in_step i)

-- two assignments of members give each type variable that occurs the same member
abbrev pub AgreeWhere : (ℕ → Bool) → List ℕ → List ℕ → Type 0
AgreeWhere occurs members others =
    (i : ℕ) → IsTrue (occurs i) → slice_index members i ≡ slice_index others i
