-- Induction over terms and formulas, whose layers hold what is known of their parts.
use Rattle.std.proofs.Common.{subst}
use Rattle.fof_models.specs.declared.formula.FofTerm.{FofTerm, roll-FofTerm}
use Rattle.fof_models.specs.declared.formula.FofTerm.TheOpen.{FofTerm-F}
use Rattle.fof_models.specs.declared.formula.FofTerm.TheFolds.{ind-FofTerm, map-FofTerm}
use Rattle.fof_models.specs.declared.formula.Fof.{Fof, roll-Fof}
use Rattle.fof_models.specs.declared.formula.Fof.TheOpen.{Fof-F}
use Rattle.fof_models.specs.declared.formula.Fof.TheFolds.{ind-Fof, map-Fof}

pub terms_by_layer : (P : FofTerm → Type 0)
    → ((y : FofTerm-F ((t : FofTerm) × P t))
    → P (roll-FofTerm (map-FofTerm ((t : FofTerm) × P t) FofTerm (λ e. e.0) y))) → (t : FofTerm)
    → P t
terms_by_layer P layer = ind-FofTerm P (λ x y is. subst (λ z. P (roll-FofTerm z)) is (layer y))

pub formulas_by_layer : (P : Fof → Type 0)
    → ((y : Fof-F ((f : Fof) × P f)) → P (roll-Fof (map-Fof ((f : Fof) × P f) Fof (λ e. e.0) y)))
    → (f : Fof) → P f
formulas_by_layer P layer = ind-Fof P (λ x y is. subst (λ z. P (roll-Fof z)) is (layer y))
