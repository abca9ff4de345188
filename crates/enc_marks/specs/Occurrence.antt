-- Which symbols occur in untyped formulas, and formulas with their symbols renumbered.
use Rattle.std.specs.Prelude.{ℕ, zero, suc, ◌+◌, Bool, false, ◌||◌, List, [], ◌∷◌, map, cond, eqb}
use Rattle.std.specs.List.{list_any}
use Rattle.fof_models.specs.declared.formula.FofTerm.{FofTerm}
use Rattle.fof_models.specs.declared.formula.FofTerm.TheVariants as term
use Rattle.fof_models.specs.declared.formula.FofTerm.TheOpen.{FofTerm-F}
use Rattle.fof_models.specs.declared.formula.FofTerm.TheOpen as term_layer
use Rattle.fof_models.specs.declared.formula.FofTerm.TheFolds.{fold-FofTerm}
use Rattle.fof_models.specs.declared.formula.Fof.{Fof}
use Rattle.fof_models.specs.declared.formula.Fof.TheVariants as fof
use Rattle.fof_models.specs.declared.formula.Fof.TheOpen.{Fof-F}
use Rattle.fof_models.specs.declared.formula.Fof.TheOpen as layer
use Rattle.fof_models.specs.declared.formula.Fof.TheFolds.{fold-Fof}

abbrev pub occurs_in_term_step : ℕ → FofTerm-F Bool → Bool
occurs_in_term_step m (term_layer.Var i) = false
occurs_in_term_step m (term_layer.Apply f terms) = eqb m f || list_any (λ t. t) terms

-- whether the symbol of a number occurs in a term
unfoldable pub occurs_in_term : ℕ → FofTerm → Bool
occurs_in_term m = fold-FofTerm Bool (occurs_in_term_step m)

abbrev pub occurs_step : ℕ → Fof-F Bool → Bool
occurs_step m layer.True = false
occurs_step m layer.False = false
occurs_step m (layer.Atom p terms) = eqb m p || list_any (occurs_in_term m) terms
occurs_step m (layer.Equal left right) = occurs_in_term m left || occurs_in_term m right
occurs_step m (layer.Not a) = a
occurs_step m (layer.And parts) = list_any (λ part. part) parts
occurs_step m (layer.Or parts) = list_any (λ part. part) parts
occurs_step m (layer.Implies a b) = a || b
occurs_step m (layer.ForAll body) = body
occurs_step m (layer.Exists body) = body

-- whether the symbol of a number occurs in a formula
unfoldable pub occurs : ℕ → Fof → Bool
occurs m = fold-Fof Bool (occurs_step m)

abbrev pub renumber_term_step : (ℕ → ℕ) → FofTerm-F FofTerm → FofTerm
renumber_term_step number (term_layer.Var i) = term.Var i
renumber_term_step number (term_layer.Apply f terms) = term.Apply (number f) terms

-- a term with each symbol under another number
unfoldable pub renumber_term : (ℕ → ℕ) → FofTerm → FofTerm
renumber_term number = fold-FofTerm FofTerm (renumber_term_step number)

abbrev pub renumber_step : (ℕ → ℕ) → Fof-F Fof → Fof
renumber_step number layer.True = fof.True
renumber_step number layer.False = fof.False
renumber_step number (layer.Atom p terms) = fof.Atom (number p) (map (renumber_term number) terms)
renumber_step number (layer.Equal left right) =
    fof.Equal (renumber_term number left) (renumber_term number right)
renumber_step number (layer.Not a) = fof.Not a
renumber_step number (layer.And parts) = fof.And parts
renumber_step number (layer.Or parts) = fof.Or parts
renumber_step number (layer.Implies a b) = fof.Implies a b
renumber_step number (layer.ForAll body) = fof.ForAll body
renumber_step number (layer.Exists body) = fof.Exists body

-- a formula with each symbol under another number
unfoldable pub renumber : (ℕ → ℕ) → Fof → Fof
renumber number = fold-Fof Fof (renumber_step number)

-- how many numbers below a bound pass
abbrev pub count_below : ℕ → (ℕ → Bool) → ℕ
count_below zero test = 0
count_below (suc bound) test = count_below bound test + cond (test bound) 1 0

-- the items whose numbers pass, the first of them having this number
abbrev pub passing : {A : Type 0} → (ℕ → Bool) → ℕ → List A → List A
passing test number [] = []
passing test number (item ∷ items) =
    cond (test number) (item ∷ passing test (number + 1) items) (passing test (number + 1) items)
