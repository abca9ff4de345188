-- Each tree is of one variant, and inductions over trees with their parts seen as lists.
use Rattle.std.proofs.Common.{◌≡◌, ℕ, List, [], ◌∷◌, map, sym, subst}
use Rattle.std.specs.List.{AllByRecursion}
use Rattle.tptp_syntax.specs.declared.types.TypeExpr.{TypeExpr, roll-TypeExpr}
use Rattle.tptp_syntax.specs.declared.types.Bound.{Bound}
use Rattle.tptp_syntax.specs.declared.types.TypeExpr.TheVariants as e
use Rattle.tptp_syntax.specs.declared.types.TypeExpr.TheOpen.{TypeExpr-F}
use Rattle.tptp_syntax.specs.declared.types.TypeExpr.TheOpen as layer
use Rattle.tptp_syntax.specs.declared.types.TypeExpr.TheFolds.{ind-TypeExpr, map-TypeExpr}
use Rattle.tptp_syntax.specs.declared.term.RawTerm.{RawTerm, roll-RawTerm}
use Rattle.tptp_syntax.specs.declared.term.RawTerm.TheVariants as t
use Rattle.tptp_syntax.specs.declared.term.RawTerm.TheOpen.{RawTerm-F}
use Rattle.tptp_syntax.specs.declared.term.RawTerm.TheOpen as term_layer
use Rattle.tptp_syntax.specs.declared.term.RawTerm.TheFolds.{ind-RawTerm, map-RawTerm}
use Rattle.tptp_syntax.specs.declared.formula.RawFormula.{RawFormula, roll-RawFormula}
use Rattle.tptp_syntax.specs.declared.formula.RawFormula.TheVariants as r
use Rattle.tptp_syntax.specs.declared.formula.RawFormula.TheOpen.{RawFormula-F}
use Rattle.tptp_syntax.specs.declared.formula.RawFormula.TheOpen as formula_layer
use Rattle.tptp_syntax.specs.declared.formula.RawFormula.TheFolds.{ind-RawFormula, map-RawFormula}

pub data IsVariant : TypeExpr → Type 0 where
  is_variable : (name : List ℕ) → IsVariant (e.Variable name)
  is_apply : (name : List ℕ) (parts : List TypeExpr) → IsVariant (e.Apply name parts)
  is_individuals : IsVariant e.Individuals
  is_truth : IsVariant e.Truth
  is_types : IsVariant e.Types
  is_product : (parts : List TypeExpr) → IsVariant (e.Product parts)
  is_map : (left right : TypeExpr) → IsVariant (e.Map left right)
  is_quantified : (bounds : List Bound) (body : TypeExpr) → IsVariant (e.Quantified bounds body)

variant_of_layer : (x : TypeExpr-F TypeExpr Bound) → IsVariant (roll-TypeExpr x)
variant_of_layer (layer.Variable name) =
    subst IsVariant (sym (e.rolls-Variable name)) (is_variable name)
variant_of_layer (layer.Apply name parts) =
    subst IsVariant (sym (e.rolls-Apply name parts)) (is_apply name parts)
variant_of_layer layer.Individuals = subst IsVariant (sym e.rolls-Individuals) is_individuals
variant_of_layer layer.Truth = subst IsVariant (sym e.rolls-Truth) is_truth
variant_of_layer layer.Types = subst IsVariant (sym e.rolls-Types) is_types
variant_of_layer (layer.Product parts) = subst IsVariant (sym (e.rolls-Product parts)) (is_product parts)
variant_of_layer (layer.Map left right) =
    subst IsVariant (sym (e.rolls-Map left right)) (is_map left right)
variant_of_layer (layer.Quantified bounds body) =
    subst IsVariant (sym (e.rolls-Quantified bounds body)) (is_quantified bounds body)

-- each type expression is of one variant
pub variant : (expression : TypeExpr) → IsVariant expression
variant =
    ind-TypeExpr IsVariant (λ bound. Unit {0}) (λ x y is. variant_of_layer x) (λ x y is. tt)

-- ---- inductions

pub all_of_pairs : {A : Type 0} (P : A → Type 0) (pairs : List ((a : A) × P a)) →
    AllByRecursion P (map (λ pair. pair.0) pairs)
all_of_pairs P [] = tt
all_of_pairs P (pair ∷ pairs) = (pair.1, all_of_pairs P pairs)

-- what an induction over type expressions has to show, one fact a variant
pub record TypeCases (P : TypeExpr → Type 0) : Type 0 where
  pub on_variable : (name : List ℕ) → P (e.Variable name)
  pub on_apply : (name : List ℕ) (parts : List TypeExpr) → AllByRecursion P parts →
      P (e.Apply name parts)
  pub on_individuals : P e.Individuals
  pub on_truth : P e.Truth
  pub on_types : P e.Types
  pub on_product : (parts : List TypeExpr) → AllByRecursion P parts → P (e.Product parts)
  pub on_map : (left right : TypeExpr) → P left → P right → P (e.Map left right)
  pub on_quantified : (bounds : List Bound) (body : TypeExpr) → P body →
      P (e.Quantified bounds body)

module _ (P : TypeExpr → Type 0) (cases : TypeCases P) where
  abbrev HeldType : Type 0
  HeldType = (x : TypeExpr) × P x

  abbrev HeldBound : Type 0
  HeldBound = (b : Bound) × Unit {0}

  type_step : (x : TypeExpr-F TypeExpr Bound) (y : TypeExpr-F HeldType HeldBound) →
      map-TypeExpr HeldType HeldBound TypeExpr Bound (λ pair. pair.0) (λ pair. pair.0) y ≡ x →
      P (roll-TypeExpr x)
  type_step x y is = subst (λ z. P (roll-TypeExpr z)) is (rolled y)
    where
      rolled : (y : TypeExpr-F HeldType HeldBound) →
          P (roll-TypeExpr
          (map-TypeExpr HeldType HeldBound TypeExpr Bound (λ pair. pair.0) (λ pair. pair.0) y))
      rolled (layer.Variable name) = subst P (sym (e.rolls-Variable name)) (cases.on_variable name)
      rolled (layer.Apply name pairs) =
          subst P (sym (e.rolls-Apply name (map (λ pair. pair.0) pairs)))
          (cases.on_apply name (map (λ pair. pair.0) pairs) (all_of_pairs P pairs))
      rolled layer.Individuals = subst P (sym e.rolls-Individuals) cases.on_individuals
      rolled layer.Truth = subst P (sym e.rolls-Truth) cases.on_truth
      rolled layer.Types = subst P (sym e.rolls-Types) cases.on_types
      rolled (layer.Product pairs) =
          subst P (sym (e.rolls-Product (map (λ pair. pair.0) pairs)))
          (cases.on_product (map (λ pair. pair.0) pairs) (all_of_pairs P pairs))
      rolled (layer.Map left right) =
          subst P (sym (e.rolls-Map left.0 right.0)) (cases.on_map left.0 right.0 left.1 right.1)
      rolled (layer.Quantified bounds body) =
          subst P (sym (e.rolls-Quantified (map (λ pair. pair.0) bounds) body.0))
          (cases.on_quantified (map (λ pair. pair.0) bounds) body.0 body.1)

  pub type_induction : (x : TypeExpr) → P x
  type_induction =
      ind-TypeExpr P (λ bound. Unit {0}) (λ x y is. type_step x y is) (λ x y is. tt)

-- ---- terms

module _ (P : RawTerm → Type 0) (on_variable : (name : List ℕ) → P (t.Variable name))
    (on_apply : (name : List ℕ) (parts : List RawTerm) → AllByRecursion P parts →
    P (t.Apply name parts))
    (on_individuals : P t.Individuals)
  where
    term_step : (x : RawTerm-F RawTerm) (y : RawTerm-F ((x : RawTerm) × P x)) →
        map-RawTerm ((x : RawTerm) × P x) RawTerm (λ pair. pair.0) y ≡ x → P (roll-RawTerm x)
    term_step x (term_layer.Variable name) is =
        subst (λ z. P (roll-RawTerm z)) is (subst P (sym (t.rolls-Variable name)) (on_variable name))
    term_step x (term_layer.Apply name pairs) is =
        subst (λ z. P (roll-RawTerm z)) is
        (subst P (sym (t.rolls-Apply name (map (λ pair. pair.0) pairs)))
        (on_apply name (map (λ pair. pair.0) pairs) (all_of_pairs P pairs)))
    term_step x term_layer.Individuals is =
        subst (λ z. P (roll-RawTerm z)) is (subst P (sym t.rolls-Individuals) on_individuals)

    pub term_induction : (x : RawTerm) → P x
    term_induction = ind-RawTerm P (λ x y is. term_step x y is)

-- ---- formulas

-- what an induction over formulas has to show, one fact a variant
pub record FormulaCases (P : RawFormula → Type 0) : Type 0 where
  pub on_true : P r.True
  pub on_false : P r.False
  pub on_atom : (name : List ℕ) (parts : List RawTerm) → P (r.Atom name parts)
  pub on_equal : (left right : RawTerm) → P (r.Equal left right)
  pub on_unequal : (left right : RawTerm) → P (r.Unequal left right)
  pub on_not : (part : RawFormula) → P part → P (r.Not part)
  pub on_and : (parts : List RawFormula) → AllByRecursion P parts → P (r.And parts)
  pub on_or : (parts : List RawFormula) → AllByRecursion P parts → P (r.Or parts)
  pub on_implies : (left right : RawFormula) → P left → P right → P (r.Implies left right)
  pub on_if : (left right : RawFormula) → P left → P right → P (r.If left right)
  pub on_iff : (left right : RawFormula) → P left → P right → P (r.Iff left right)
  pub on_xor : (left right : RawFormula) → P left → P right → P (r.Xor left right)
  pub on_nand : (left right : RawFormula) → P left → P right → P (r.Nand left right)
  pub on_nor : (left right : RawFormula) → P left → P right → P (r.Nor left right)
  pub on_for_all : (bounds : List Bound) (body : RawFormula) → P body → P (r.ForAll bounds body)
  pub on_exists : (bounds : List Bound) (body : RawFormula) → P body → P (r.Exists bounds body)

module _ (P : RawFormula → Type 0) (cases : FormulaCases P) where
  abbrev HeldFormula : Type 0
  HeldFormula = (x : RawFormula) × P x

  formula_step : (x : RawFormula-F RawFormula) (y : RawFormula-F HeldFormula) →
      map-RawFormula HeldFormula RawFormula (λ pair. pair.0) y ≡ x → P (roll-RawFormula x)
  formula_step x y is = subst (λ z. P (roll-RawFormula z)) is (rolled y)
    where
      rolled : (y : RawFormula-F HeldFormula) →
          P (roll-RawFormula (map-RawFormula HeldFormula RawFormula (λ pair. pair.0) y))
      rolled formula_layer.True = subst P (sym r.rolls-True) cases.on_true
      rolled formula_layer.False = subst P (sym r.rolls-False) cases.on_false
      rolled (formula_layer.Atom name parts) =
          subst P (sym (r.rolls-Atom name parts)) (cases.on_atom name parts)
      rolled (formula_layer.Equal left right) =
          subst P (sym (r.rolls-Equal left right)) (cases.on_equal left right)
      rolled (formula_layer.Unequal left right) =
          subst P (sym (r.rolls-Unequal left right)) (cases.on_unequal left right)
      rolled (formula_layer.Not part) =
          subst P (sym (r.rolls-Not part.0)) (cases.on_not part.0 part.1)
      rolled (formula_layer.And pairs) =
          subst P (sym (r.rolls-And (map (λ pair. pair.0) pairs)))
          (cases.on_and (map (λ pair. pair.0) pairs) (all_of_pairs P pairs))
      rolled (formula_layer.Or pairs) =
          subst P (sym (r.rolls-Or (map (λ pair. pair.0) pairs)))
          (cases.on_or (map (λ pair. pair.0) pairs) (all_of_pairs P pairs))
      rolled (formula_layer.Implies a b) =
          subst P (sym (r.rolls-Implies a.0 b.0)) (cases.on_implies a.0 b.0 a.1 b.1)
      rolled (formula_layer.If a b) =
          subst P (sym (r.rolls-If a.0 b.0)) (cases.on_if a.0 b.0 a.1 b.1)
      rolled (formula_layer.Iff a b) =
          subst P (sym (r.rolls-Iff a.0 b.0)) (cases.on_iff a.0 b.0 a.1 b.1)
      rolled (formula_layer.Xor a b) =
          subst P (sym (r.rolls-Xor a.0 b.0)) (cases.on_xor a.0 b.0 a.1 b.1)
      rolled (formula_layer.Nand a b) =
          subst P (sym (r.rolls-Nand a.0 b.0)) (cases.on_nand a.0 b.0 a.1 b.1)
      rolled (formula_layer.Nor a b) =
          subst P (sym (r.rolls-Nor a.0 b.0)) (cases.on_nor a.0 b.0 a.1 b.1)
      rolled (formula_layer.ForAll bounds body) =
          subst P (sym (r.rolls-ForAll bounds body.0)) (cases.on_for_all bounds body.0 body.1)
      rolled (formula_layer.Exists bounds body) =
          subst P (sym (r.rolls-Exists bounds body.0)) (cases.on_exists bounds body.0 body.1)

  pub formula_induction : (x : RawFormula) → P x
  formula_induction = ind-RawFormula P (λ x y is. formula_step x y is)
