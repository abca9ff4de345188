-- The trees that the words of terms and formulas derive.
use Rattle.std.proofs.Common.{ℕ, ◌+◌, ◌-◌, List, [], ◌∷◌, map, None}
use Rattle.fof_models.specs.declared.formula.FofTerm.{FofTerm}
use Rattle.fof_models.specs.declared.formula.FofTerm.TheOpen.{FofTerm-F}
use Rattle.fof_models.specs.declared.formula.FofTerm.TheOpen as O
use Rattle.fof_models.specs.declared.formula.FofTerm.TheFolds.{fold-FofTerm}
use Rattle.fof_models.specs.declared.formula.Fof.{Fof}
use Rattle.fof_models.specs.declared.formula.Fof.TheOpen.{Fof-F}
use Rattle.fof_models.specs.declared.formula.Fof.TheOpen as G
use Rattle.fof_models.specs.declared.formula.Fof.TheFolds.{fold-Fof}
use Rattle.tptp_syntax.specs.declared.types.Bound.{Bound}
use Rattle.tptp_syntax.specs.declared.term.RawTerm.{RawTerm}
use Rattle.tptp_syntax.specs.declared.term.RawTerm.TheVariants as t
use Rattle.tptp_syntax.specs.declared.formula.RawFormula.{RawFormula}
use Rattle.tptp_syntax.specs.declared.formula.RawFormula.TheVariants as f
use Rattle.fof_text.specs.Names.{name_at}
use Rattle.fof_text.specs.Written.{variable_name}

abbrev pub raw_term_step : List (List ℕ) → FofTerm-F (ℕ → RawTerm) → ℕ → RawTerm
raw_term_step names (O.Var i) d = t.Variable (variable_name (d - (i + 1)))
raw_term_step names (O.Apply f ts) d =
    t.Apply (name_at names f) (map (λ (r : ℕ → RawTerm). r d) ts)

-- the tree of a term under d binders
unfoldable pub raw_term : List (List ℕ) → FofTerm → ℕ → RawTerm
raw_term names = fold-FofTerm (ℕ → RawTerm) (raw_term_step names)

-- a bound variable without a type
abbrev pub untyped : List ℕ → Bound
untyped x = record { name = x; kind = None }

-- the tree of a formula, and that of its negation
pub record RawBoth : Type 0 where
  pub is : ℕ → RawFormula
  pub negated : ℕ → RawFormula

abbrev pub raw_plain : (ℕ → RawFormula) → RawBoth
raw_plain r = record { is = r; negated = λ d. f.Not (r d) }

abbrev pub raw_formula_step : List (List ℕ) → Fof-F RawBoth → RawBoth
raw_formula_step names G.True = raw_plain (λ d. f.True)
raw_formula_step names G.False = raw_plain (λ d. f.False)
raw_formula_step names (G.Atom p ts) =
    raw_plain (λ d. f.Atom (name_at names p) (map (λ t. raw_term names t d) ts))
raw_formula_step names (G.Equal s t) = record {
  is = λ d. f.Equal (raw_term names s d) (raw_term names t d);
  negated = λ d. f.Unequal (raw_term names s d) (raw_term names t d);
}
raw_formula_step names (G.Not u) = raw_plain u.negated
raw_formula_step names (G.And us) = raw_plain (λ d. f.And (map (λ (u : RawBoth). u.is d) us))
raw_formula_step names (G.Or us) = raw_plain (λ d. f.Or (map (λ (u : RawBoth). u.is d) us))
raw_formula_step names (G.Implies u v) = raw_plain (λ d. f.Implies (u.is d) (v.is d))
raw_formula_step names (G.ForAll u) =
    raw_plain (λ d. f.ForAll (untyped (variable_name d) ∷ []) (u.is (d + 1)))
raw_formula_step names (G.Exists u) =
    raw_plain (λ d. f.Exists (untyped (variable_name d) ∷ []) (u.is (d + 1)))

-- the trees of a formula and of its negation, under d binders
unfoldable pub raw_formula : List (List ℕ) → Fof → RawBoth
raw_formula names = fold-Fof RawBoth (raw_formula_step names)
