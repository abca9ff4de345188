-- Induction over untyped terms and formulas, their parts seen as lists.
use Rattle.std.specs.Prelude.{ℕ, ◌≡◌, List, [], ◌∷◌, map}
use Rattle.std.specs.List.{AllByRecursion}
use Rattle.std.proofs.Common.{sym, subst}
use Rattle.fof_models.specs.declared.formula.FofTerm.{FofTerm, roll-FofTerm}
use Rattle.fof_models.specs.declared.formula.FofTerm.TheVariants as term
use Rattle.fof_models.specs.declared.formula.FofTerm.TheOpen.{FofTerm-F}
use Rattle.fof_models.specs.declared.formula.FofTerm.TheOpen as term_layer
use Rattle.fof_models.specs.declared.formula.FofTerm.TheFolds.{ind-FofTerm, map-FofTerm}
use Rattle.fof_models.specs.declared.formula.Fof.{Fof, roll-Fof}
use Rattle.fof_models.specs.declared.formula.Fof.TheVariants as formula
use Rattle.fof_models.specs.declared.formula.Fof.TheOpen.{Fof-F}
use Rattle.fof_models.specs.declared.formula.Fof.TheOpen as layer
use Rattle.fof_models.specs.declared.formula.Fof.TheFolds.{ind-Fof, map-Fof}

-- the facts that stand beside the parts of a layer hold of each part
all_of_pairs : {A : Type 0} (P : A → Type 0) (pairs : List ((a : A) × P a)) →
    AllByRecursion P (map (λ pair. pair.0) pairs)
all_of_pairs P [] = tt
all_of_pairs P (pair ∷ pairs) = (pair.1, all_of_pairs P pairs)

module _ (P : FofTerm → Type 0)
    (variable : (i : ℕ) → P (term.Var i))
    (apply : (f : ℕ) (terms : List FofTerm) → AllByRecursion P terms → P (term.Apply f terms))
  where
    term_step : (x : FofTerm-F FofTerm) (y : FofTerm-F ((t : FofTerm) × P t)) →
        map-FofTerm ((t : FofTerm) × P t) FofTerm (λ pair. pair.0) y ≡ x → P (roll-FofTerm x)
    term_step x (term_layer.Var i) is =
        subst (λ z. P (roll-FofTerm z)) is (subst P (sym (term.rolls-Var i)) (variable i))
    term_step x (term_layer.Apply f pairs) is =
        subst (λ z. P (roll-FofTerm z)) is
        (subst P (sym (term.rolls-Apply f (map (λ pair. pair.0) pairs)))
        (apply f (map (λ pair. pair.0) pairs) (all_of_pairs P pairs)))

    pub term_induction : (t : FofTerm) → P t
    term_induction = ind-FofTerm P (λ x y is. term_step x y is)

-- what an induction over formulas has to show, one fact a variant
pub record FormulaCases (P : Fof → Type 0) : Type 0 where
  pub on_true : P formula.True
  pub on_false : P formula.False
  pub on_atom : (p : ℕ) (terms : List FofTerm) → P (formula.Atom p terms)
  pub on_equal : (left right : FofTerm) → P (formula.Equal left right)
  pub on_not : (a : Fof) → P a → P (formula.Not a)
  pub on_and : (parts : List Fof) → AllByRecursion P parts → P (formula.And parts)
  pub on_or : (parts : List Fof) → AllByRecursion P parts → P (formula.Or parts)
  pub on_implies : (a b : Fof) → P a → P b → P (formula.Implies a b)
  pub on_for_all : (body : Fof) → P body → P (formula.ForAll body)
  pub on_exists : (body : Fof) → P body → P (formula.Exists body)

module _ (P : Fof → Type 0) (cases : FormulaCases P) where
  formula_step : (x : Fof-F Fof) (y : Fof-F ((p : Fof) × P p)) →
      map-Fof ((p : Fof) × P p) Fof (λ pair. pair.0) y ≡ x → P (roll-Fof x)
  formula_step x y is = subst (λ z. P (roll-Fof z)) is (rolled y)
    where
      rolled : (y : Fof-F ((p : Fof) × P p)) →
          P (roll-Fof (map-Fof ((p : Fof) × P p) Fof (λ pair. pair.0) y))
      rolled layer.True = subst P (sym formula.rolls-True) cases.on_true
      rolled layer.False = subst P (sym formula.rolls-False) cases.on_false
      rolled (layer.Atom p terms) = subst P (sym (formula.rolls-Atom p terms)) (cases.on_atom p terms)
      rolled (layer.Equal left right) =
          subst P (sym (formula.rolls-Equal left right)) (cases.on_equal left right)
      rolled (layer.Not a) = subst P (sym (formula.rolls-Not a.0)) (cases.on_not a.0 a.1)
      rolled (layer.And pairs) =
          subst P (sym (formula.rolls-And (map (λ pair. pair.0) pairs)))
          (cases.on_and (map (λ pair. pair.0) pairs) (all_of_pairs P pairs))
      rolled (layer.Or pairs) =
          subst P (sym (formula.rolls-Or (map (λ pair. pair.0) pairs)))
          (cases.on_or (map (λ pair. pair.0) pairs) (all_of_pairs P pairs))
      rolled (layer.Implies a b) =
          subst P (sym (formula.rolls-Implies a.0 b.0)) (cases.on_implies a.0 b.0 a.1 b.1)
      rolled (layer.ForAll body) =
          subst P (sym (formula.rolls-ForAll body.0)) (cases.on_for_all body.0 body.1)
      rolled (layer.Exists body) =
          subst P (sym (formula.rolls-Exists body.0)) (cases.on_exists body.0 body.1)

  pub formula_induction : (p : Fof) → P p
  formula_induction = ind-Fof P (λ x y is. formula_step x y is)
