-- Values of untyped terms and truth of untyped formulas: the textbook's, over a finite domain.
-- An assignment is a list of elements, the nearest binder's first.
use Rattle.std.specs.Prelude.{ℕ, Bool, true, false, not, ◌||◌, List, ◌∷◌, map, eqb, slice_index}
use Rattle.std.specs.List.{list_all, list_any}
use Rattle.enc_base.specs.Quantifiers.{all_below, some_below}
use Rattle.fof_models.specs.declared.formula.FofTerm.{FofTerm}
use Rattle.fof_models.specs.declared.formula.FofTerm.TheOpen.{FofTerm-F}
use Rattle.fof_models.specs.declared.formula.FofTerm.TheOpen as term
use Rattle.fof_models.specs.declared.formula.FofTerm.TheFolds.{fold-FofTerm}
use Rattle.fof_models.specs.declared.formula.Fof.{Fof}
use Rattle.fof_models.specs.declared.formula.Fof.TheOpen.{Fof-F}
use Rattle.fof_models.specs.declared.formula.Fof.TheOpen as layer
use Rattle.fof_models.specs.declared.formula.Fof.TheFolds.{fold-Fof}
use Rattle.fof_models.specs.Structures.{Untyped}

-- one layer of a term's value
abbrev pub value_step : Untyped → List ℕ → FofTerm-F ℕ → ℕ
value_step s elements (term.Var i) = slice_index elements i
value_step s elements (term.Apply f values) = s.symbol_at f values

-- the value of a term: an element
unfoldable pub value : Untyped → List ℕ → FofTerm → ℕ
value s elements = fold-FofTerm ℕ (value_step s elements)

-- one layer of truth, whose parts are tests of elements
abbrev pub truth_step : Untyped → Fof-F (List ℕ → Bool) → List ℕ → Bool
truth_step s layer.True elements = true
truth_step s layer.False elements = false
truth_step s (layer.Atom p terms) elements = eqb (s.symbol_at p (map (value s elements) terms)) 1
truth_step s (layer.Equal left right) elements = eqb (value s elements left) (value s elements right)
truth_step s (layer.Not a) elements = not (a elements)
truth_step s (layer.And parts) elements = list_all (λ part. part elements) parts
truth_step s (layer.Or parts) elements = list_any (λ part. part elements) parts
truth_step s (layer.Implies a b) elements = not (a elements) || b elements
truth_step s (layer.ForAll body) elements = all_below s.size (λ element. body (element ∷ elements))
truth_step s (layer.Exists body) elements = some_below s.size (λ element. body (element ∷ elements))

-- whether a formula is true under an assignment
unfoldable pub truth : Untyped → Fof → List ℕ → Bool
truth s = fold-Fof (List ℕ → Bool) (truth_step s)
