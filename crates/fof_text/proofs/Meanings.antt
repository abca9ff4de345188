-- Equations of what a tree stands for, one for each kind of tree.
use Rattle.std.proofs.Common.{◌≡◌, ℕ, List, [], length, map, sym, ◌∙◌, ap}
use Rattle.fof_models.specs.declared.formula.FofTerm.{FofTerm}
use Rattle.fof_models.specs.declared.formula.FofTerm.TheVariants as T
use Rattle.fof_models.specs.declared.formula.Fof.{Fof}
use Rattle.fof_models.specs.declared.formula.Fof.TheVariants as F
use Rattle.tptp_syntax.specs.declared.types.Bound.{Bound}
use Rattle.tptp_syntax.specs.declared.term.RawTerm.{RawTerm, roll-RawTerm}
use Rattle.tptp_syntax.specs.declared.term.RawTerm.TheVariants as t
use Rattle.tptp_syntax.specs.declared.term.RawTerm.TheOpen.{RawTerm-F}
use Rattle.tptp_syntax.specs.declared.term.RawTerm.TheOpen as O
use Rattle.tptp_syntax.specs.declared.term.RawTerm.TheFolds.{fold-roll-RawTerm, map-RawTerm}
use Rattle.tptp_syntax.specs.declared.formula.RawFormula.{RawFormula, roll-RawFormula}
use Rattle.tptp_syntax.specs.declared.formula.RawFormula.TheVariants as f
use Rattle.tptp_syntax.specs.declared.formula.RawFormula.TheOpen.{RawFormula-F}
use Rattle.tptp_syntax.specs.declared.formula.RawFormula.TheOpen as R
use Rattle.tptp_syntax.specs.declared.formula.RawFormula.TheFolds.{fold-roll-RawFormula}
use Rattle.tptp_syntax.specs.declared.formula.RawFormula.TheFolds.{map-RawFormula}
use Rattle.fof_text.specs.Names.{place_of}
use Rattle.fof_text.specs.Meaning.{term_meant, term_meant_step, formula_meant, formula_meant_step}
use Rattle.fof_text.specs.Meaning.{bind, nothing}

module _ (names bound : List (List ℕ)) where
  term_roll : (x : RawTerm-F RawTerm) → term_meant names (roll-RawTerm x) bound
      ≡ term_meant_step names
      (map-RawTerm RawTerm (List (List ℕ) → FofTerm) (term_meant names) x) bound
  unfolding term_meant
  term_roll x =
      ap (λ (h : List (List ℕ) → FofTerm). h bound)
      (fold-roll-RawTerm (List (List ℕ) → FofTerm) (term_meant_step names) x)

  term_at : (r : RawTerm) (x : RawTerm-F RawTerm) → roll-RawTerm x ≡ r → term_meant names r bound
      ≡ term_meant_step names
      (map-RawTerm RawTerm (List (List ℕ) → FofTerm) (term_meant names) x) bound
  term_at r x e = ap (λ z. term_meant names z bound) (sym e) ∙ term_roll x

  pub term_meant-variable : (x : List ℕ)
      → term_meant names (t.Variable x) bound ≡ T.Var (place_of bound x)
  term_meant-variable x = term_at _ (O.Variable x) (t.rolls-Variable x)

  pub term_meant-apply : (n : List ℕ) (ts : List RawTerm) → term_meant names (t.Apply n ts) bound
      ≡ T.Apply (place_of names n)
      (map (λ (r : List (List ℕ) → FofTerm). r bound) (map (term_meant names) ts))
  term_meant-apply n ts = term_at _ (O.Apply n ts) (t.rolls-Apply n ts)

  pub term_meant-individuals : term_meant names t.Individuals bound ≡ T.Apply (length names) []
  term_meant-individuals = term_at _ O.Individuals t.rolls-Individuals

  formula_roll : (x : RawFormula-F RawFormula) → formula_meant names (roll-RawFormula x) bound
      ≡ formula_meant_step names
      (map-RawFormula RawFormula (List (List ℕ) → Fof) (formula_meant names) x) bound
  unfolding formula_meant
  formula_roll x =
      ap (λ (h : List (List ℕ) → Fof). h bound)
      (fold-roll-RawFormula (List (List ℕ) → Fof) (formula_meant_step names) x)

  formula_at : (r : RawFormula) (x : RawFormula-F RawFormula) → roll-RawFormula x ≡ r
      → formula_meant names r bound
      ≡ formula_meant_step names
      (map-RawFormula RawFormula (List (List ℕ) → Fof) (formula_meant names) x) bound
  formula_at r x e = ap (λ z. formula_meant names z bound) (sym e) ∙ formula_roll x

  pub formula_meant-true : formula_meant names f.True bound ≡ F.True
  formula_meant-true = formula_at _ R.True f.rolls-True

  pub formula_meant-false : formula_meant names f.False bound ≡ F.False
  formula_meant-false = formula_at _ R.False f.rolls-False

  pub formula_meant-atom : (n : List ℕ) (ts : List RawTerm)
      → formula_meant names (f.Atom n ts) bound
      ≡ F.Atom (place_of names n) (map (λ t. term_meant names t bound) ts)
  formula_meant-atom n ts = formula_at _ (R.Atom n ts) (f.rolls-Atom n ts)

  pub formula_meant-equal : (s t : RawTerm) → formula_meant names (f.Equal s t) bound
      ≡ F.Equal (term_meant names s bound) (term_meant names t bound)
  formula_meant-equal s t = formula_at _ (R.Equal s t) (f.rolls-Equal s t)

  pub formula_meant-unequal : (s t : RawTerm) → formula_meant names (f.Unequal s t) bound
      ≡ F.Not (F.Equal (term_meant names s bound) (term_meant names t bound))
  formula_meant-unequal s t = formula_at _ (R.Unequal s t) (f.rolls-Unequal s t)

  pub formula_meant-not : (u : RawFormula)
      → formula_meant names (f.Not u) bound ≡ F.Not (formula_meant names u bound)
  formula_meant-not u = formula_at _ (R.Not u) (f.rolls-Not u)

  pub formula_meant-and : (us : List RawFormula) → formula_meant names (f.And us) bound
      ≡ F.And (map (λ (h : List (List ℕ) → Fof). h bound) (map (formula_meant names) us))
  formula_meant-and us = formula_at _ (R.And us) (f.rolls-And us)

  pub formula_meant-or : (us : List RawFormula) → formula_meant names (f.Or us) bound
      ≡ F.Or (map (λ (h : List (List ℕ) → Fof). h bound) (map (formula_meant names) us))
  formula_meant-or us = formula_at _ (R.Or us) (f.rolls-Or us)

  pub formula_meant-implies : (u v : RawFormula) → formula_meant names (f.Implies u v) bound
      ≡ F.Implies (formula_meant names u bound) (formula_meant names v bound)
  formula_meant-implies u v = formula_at _ (R.Implies u v) (f.rolls-Implies u v)

  pub formula_meant-if : (u v : RawFormula) → formula_meant names (f.If u v) bound ≡ nothing names
  formula_meant-if u v = formula_at _ (R.If u v) (f.rolls-If u v)

  pub formula_meant-iff : (u v : RawFormula) → formula_meant names (f.Iff u v) bound ≡ nothing names
  formula_meant-iff u v = formula_at _ (R.Iff u v) (f.rolls-Iff u v)

  pub formula_meant-xor : (u v : RawFormula) → formula_meant names (f.Xor u v) bound ≡ nothing names
  formula_meant-xor u v = formula_at _ (R.Xor u v) (f.rolls-Xor u v)

  pub formula_meant-nand : (u v : RawFormula)
      → formula_meant names (f.Nand u v) bound ≡ nothing names
  formula_meant-nand u v = formula_at _ (R.Nand u v) (f.rolls-Nand u v)

  pub formula_meant-nor : (u v : RawFormula) → formula_meant names (f.Nor u v) bound ≡ nothing names
  formula_meant-nor u v = formula_at _ (R.Nor u v) (f.rolls-Nor u v)

  pub formula_meant-for_all : (xs : List Bound) (u : RawFormula)
      → formula_meant names (f.ForAll xs u) bound
      ≡ bind names F.ForAll xs (formula_meant names u) bound
  formula_meant-for_all xs u = formula_at _ (R.ForAll xs u) (f.rolls-ForAll xs u)

  pub formula_meant-exists : (xs : List Bound) (u : RawFormula)
      → formula_meant names (f.Exists xs u) bound
      ≡ bind names F.Exists xs (formula_meant names u) bound
  formula_meant-exists xs u = formula_at _ (R.Exists xs u) (f.rolls-Exists xs u)
