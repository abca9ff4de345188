-- Induction over formulas, their parts seen as lists.
use Rattle.std.specs.Prelude.{ℕ, ◌≡◌, Bool, List, map}
use Rattle.std.specs.List.{AllByRecursion}
use Rattle.std.proofs.Common.{sym, subst}
use Rattle.tf_core.specs.declared.ty.Ty.{Ty}
use Rattle.tf_core.specs.declared.term.Term.{Term}
use Rattle.tf_core.specs.declared.formula.Formula.{Formula, roll-Formula}
use Rattle.tf_core.specs.declared.formula.Formula.TheVariants as formula
use Rattle.tf_core.specs.declared.formula.Formula.TheOpen.{Formula-F}
use Rattle.tf_core.specs.declared.formula.Formula.TheOpen as layer_formula
use Rattle.tf_core.specs.declared.formula.Formula.TheFolds.{ind-Formula, map-Formula}
use Rattle.tf_core.specs.declared.nnf.Nnf.{Nnf, roll-Nnf}
use Rattle.tf_core.specs.declared.nnf.Nnf.TheVariants as nnf
use Rattle.tf_core.specs.declared.nnf.Nnf.TheOpen.{Nnf-F}
use Rattle.tf_core.specs.declared.nnf.Nnf.TheOpen as layer_nnf
use Rattle.tf_core.specs.declared.nnf.Nnf.TheFolds.{ind-Nnf, map-Nnf}
use Rattle.tf_core.proofs.Induction.{all_of_pairs}

-- what an induction over formulas has to show, one fact a variant
pub record FormulaCases (P : Formula → Type 0) : Type 0 where
  pub on_true : P formula.True
  pub on_false : P formula.False
  pub on_atom : (f : ℕ) (types : List Ty) (terms : List Term) → P (formula.Atom f types terms)
  pub on_equal : (ty : Ty) (left right : Term) → P (formula.Equal ty left right)
  pub on_not : (a : Formula) → P a → P (formula.Not a)
  pub on_and : (parts : List Formula) → AllByRecursion P parts → P (formula.And parts)
  pub on_or : (parts : List Formula) → AllByRecursion P parts → P (formula.Or parts)
  pub on_implies : (a b : Formula) → P a → P b → P (formula.Implies a b)
  pub on_if : (a b : Formula) → P a → P b → P (formula.If a b)
  pub on_iff : (a b : Formula) → P a → P b → P (formula.Iff a b)
  pub on_xor : (a b : Formula) → P a → P b → P (formula.Xor a b)
  pub on_nand : (a b : Formula) → P a → P b → P (formula.Nand a b)
  pub on_nor : (a b : Formula) → P a → P b → P (formula.Nor a b)
  pub on_for_all : (ty : Ty) (body : Formula) → P body → P (formula.ForAll ty body)
  pub on_exists : (ty : Ty) (body : Formula) → P body → P (formula.Exists ty body)

module _ (P : Formula → Type 0) (cases : FormulaCases P) where
  formula_step : (x : Formula-F Formula) (y : Formula-F ((p : Formula) × P p)) →
      map-Formula ((p : Formula) × P p) Formula (λ pair. pair.0) y ≡ x → P (roll-Formula x)
  formula_step x y is = subst (λ z. P (roll-Formula z)) is (rolled y)
    where
      rolled : (y : Formula-F ((p : Formula) × P p)) →
          P (roll-Formula (map-Formula ((p : Formula) × P p) Formula (λ pair. pair.0) y))
      rolled layer_formula.True = subst P (sym formula.rolls-True) cases.on_true
      rolled layer_formula.False = subst P (sym formula.rolls-False) cases.on_false
      rolled (layer_formula.Atom f types terms) =
          subst P (sym (formula.rolls-Atom f types terms)) (cases.on_atom f types terms)
      rolled (layer_formula.Equal ty left right) =
          subst P (sym (formula.rolls-Equal ty left right)) (cases.on_equal ty left right)
      rolled (layer_formula.Not a) = subst P (sym (formula.rolls-Not a.0)) (cases.on_not a.0 a.1)
      rolled (layer_formula.And pairs) =
          subst P (sym (formula.rolls-And (map (λ pair. pair.0) pairs)))
          (cases.on_and (map (λ pair. pair.0) pairs) (all_of_pairs P pairs))
      rolled (layer_formula.Or pairs) =
          subst P (sym (formula.rolls-Or (map (λ pair. pair.0) pairs)))
          (cases.on_or (map (λ pair. pair.0) pairs) (all_of_pairs P pairs))
      rolled (layer_formula.Implies a b) =
          subst P (sym (formula.rolls-Implies a.0 b.0)) (cases.on_implies a.0 b.0 a.1 b.1)
      rolled (layer_formula.If a b) =
          subst P (sym (formula.rolls-If a.0 b.0)) (cases.on_if a.0 b.0 a.1 b.1)
      rolled (layer_formula.Iff a b) =
          subst P (sym (formula.rolls-Iff a.0 b.0)) (cases.on_iff a.0 b.0 a.1 b.1)
      rolled (layer_formula.Xor a b) =
          subst P (sym (formula.rolls-Xor a.0 b.0)) (cases.on_xor a.0 b.0 a.1 b.1)
      rolled (layer_formula.Nand a b) =
          subst P (sym (formula.rolls-Nand a.0 b.0)) (cases.on_nand a.0 b.0 a.1 b.1)
      rolled (layer_formula.Nor a b) =
          subst P (sym (formula.rolls-Nor a.0 b.0)) (cases.on_nor a.0 b.0 a.1 b.1)
      rolled (layer_formula.ForAll ty body) =
          subst P (sym (formula.rolls-ForAll ty body.0)) (cases.on_for_all ty body.0 body.1)
      rolled (layer_formula.Exists ty body) =
          subst P (sym (formula.rolls-Exists ty body.0)) (cases.on_exists ty body.0 body.1)

  pub formula_induction : (p : Formula) → P p
  formula_induction = ind-Formula P (λ x y is. formula_step x y is)

-- what an induction over formulas in negation normal form has to show, one fact a variant
pub record NnfCases (P : Nnf → Type 0) : Type 0 where
  pub on_true : P nnf.True
  pub on_false : P nnf.False
  pub on_atom : (positive : Bool) (f : ℕ) (types : List Ty) (terms : List Term) → P (nnf.Atom positive f types terms)
  pub on_equation : (positive : Bool) (ty : Ty) (left right : Term) → P (nnf.Equation positive ty left right)
  pub on_and : (parts : List Nnf) → AllByRecursion P parts → P (nnf.And parts)
  pub on_or : (parts : List Nnf) → AllByRecursion P parts → P (nnf.Or parts)
  pub on_for_all : (ty : Ty) (body : Nnf) → P body → P (nnf.ForAll ty body)
  pub on_exists : (ty : Ty) (body : Nnf) → P body → P (nnf.Exists ty body)

module _ (P : Nnf → Type 0) (cases : NnfCases P) where
  nnf_step : (x : Nnf-F Nnf) (y : Nnf-F ((p : Nnf) × P p)) →
      map-Nnf ((p : Nnf) × P p) Nnf (λ pair. pair.0) y ≡ x → P (roll-Nnf x)
  nnf_step x y is = subst (λ z. P (roll-Nnf z)) is (rolled y)
    where
      rolled : (y : Nnf-F ((p : Nnf) × P p)) →
          P (roll-Nnf (map-Nnf ((p : Nnf) × P p) Nnf (λ pair. pair.0) y))
      rolled layer_nnf.True = subst P (sym nnf.rolls-True) cases.on_true
      rolled layer_nnf.False = subst P (sym nnf.rolls-False) cases.on_false
      rolled (layer_nnf.Atom positive f types terms) =
          subst P (sym (nnf.rolls-Atom positive f types terms)) (cases.on_atom positive f types terms)
      rolled (layer_nnf.Equation positive ty left right) =
          subst P (sym (nnf.rolls-Equation positive ty left right)) (cases.on_equation positive ty left right)
      rolled (layer_nnf.And pairs) =
          subst P (sym (nnf.rolls-And (map (λ pair. pair.0) pairs)))
          (cases.on_and (map (λ pair. pair.0) pairs) (all_of_pairs P pairs))
      rolled (layer_nnf.Or pairs) =
          subst P (sym (nnf.rolls-Or (map (λ pair. pair.0) pairs)))
          (cases.on_or (map (λ pair. pair.0) pairs) (all_of_pairs P pairs))
      rolled (layer_nnf.ForAll ty body) =
          subst P (sym (nnf.rolls-ForAll ty body.0)) (cases.on_for_all ty body.0 body.1)
      rolled (layer_nnf.Exists ty body) =
          subst P (sym (nnf.rolls-Exists ty body.0)) (cases.on_exists ty body.0 body.1)

  pub nnf_induction : (p : Nnf) → P p
  nnf_induction = ind-Nnf P (λ x y is. nnf_step x y is)
