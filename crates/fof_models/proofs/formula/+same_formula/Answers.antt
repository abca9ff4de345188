use Rattle.std.proofs.Common.{◌∙◌, sym, ap, arith}
use Rattle.std.proofs.lemmas.Bool.{eqb-true}
use Rattle.fof_models.specs.declared.formula.Fof.{Fof}
use Rattle.fof_models.specs.declared.formula.Fof.TheVariants.{ForAll, Exists}
use Rattle.fof_models.proofs.Prefixes.{universals_agree, universals_differ, existentials_agree, existentials_differ}
use Rattle.fof_models.proofs.formula.+same_formula.Goals as goal

pub Fof::same-returns-then-count-other_count : goal.Fof::same-returns-then-count-other_count
Fof::same-returns-then-count-other_count t c =
    universals_agree c.args.self.now c.args.other.now c.get-in-ForAll-ForAll.result.now
    c.get-in-ForAll-ForAll-2.result.now c.below_universals-count.result.1.now
    c.below_universals-other_count.result.1.now c.below_universals-count.result.0
    c.below_universals-other_count.result.0 (omega arith) (omega arith)
    (c.in-ForAll-ForAll.is-0 ∙ ap (λ (p : Fof). ForAll p) (sym c.get-in-ForAll-ForAll.ensures))
    (c.in-ForAll-ForAll.is-1 ∙ ap (λ (p : Fof). ForAll p) (sym c.get-in-ForAll-ForAll-2.ensures))
    c.below_universals-count.ensures.whole c.below_universals-other_count.ensures.whole
    c.below_universals-count.ensures.all c.below_universals-other_count.ensures.all
    c.same-then-count-other_count.result c.if-count-other_count.true
    c.same-then-count-other_count.ensures

pub Fof::same-returns-else-count-other_count : goal.Fof::same-returns-else-count-other_count
Fof::same-returns-else-count-other_count t c = (
  λ holds. absurd (c.if-count-other_count.false (eqb-true _ _ holds)),
  λ same. absurd
      (universals_differ c.args.self.now c.args.other.now c.get-in-ForAll-ForAll.result.now
      c.get-in-ForAll-ForAll-2.result.now c.below_universals-count.result.1.now
      c.below_universals-other_count.result.1.now c.below_universals-count.result.0
      c.below_universals-other_count.result.0 (omega arith) (omega arith)
      (c.in-ForAll-ForAll.is-0 ∙ ap (λ (p : Fof). ForAll p) (sym c.get-in-ForAll-ForAll.ensures))
      (c.in-ForAll-ForAll.is-1 ∙ ap (λ (p : Fof). ForAll p) (sym c.get-in-ForAll-ForAll-2.ensures))
      c.below_universals-count.ensures.whole c.below_universals-other_count.ensures.whole
      c.below_universals-count.ensures.all c.below_universals-other_count.ensures.all
      c.if-count-other_count.false same),
)

pub Fof::same-returns-then-count-other_count-2 : goal.Fof::same-returns-then-count-other_count-2
Fof::same-returns-then-count-other_count-2 t c =
    existentials_agree c.args.self.now c.args.other.now c.get-in-Exists-Exists.result.now
    c.get-in-Exists-Exists-2.result.now c.below_existentials-count.result.1.now
    c.below_existentials-other_count.result.1.now c.below_existentials-count.result.0
    c.below_existentials-other_count.result.0 (omega arith) (omega arith)
    (c.in-Exists-Exists.is-0 ∙ ap (λ (p : Fof). Exists p) (sym c.get-in-Exists-Exists.ensures))
    (c.in-Exists-Exists.is-1 ∙ ap (λ (p : Fof). Exists p) (sym c.get-in-Exists-Exists-2.ensures))
    c.below_existentials-count.ensures.whole c.below_existentials-other_count.ensures.whole
    c.below_existentials-count.ensures.all c.below_existentials-other_count.ensures.all
    c.same-then-count-other_count-2.result c.if-count-other_count-2.true
    c.same-then-count-other_count-2.ensures

pub Fof::same-returns-else-count-other_count-2 : goal.Fof::same-returns-else-count-other_count-2
Fof::same-returns-else-count-other_count-2 t c = (
  λ holds. absurd (c.if-count-other_count-2.false (eqb-true _ _ holds)),
  λ same. absurd
      (existentials_differ c.args.self.now c.args.other.now c.get-in-Exists-Exists.result.now
      c.get-in-Exists-Exists-2.result.now c.below_existentials-count.result.1.now
      c.below_existentials-other_count.result.1.now c.below_existentials-count.result.0
      c.below_existentials-other_count.result.0 (omega arith) (omega arith)
      (c.in-Exists-Exists.is-0 ∙ ap (λ (p : Fof). Exists p) (sym c.get-in-Exists-Exists.ensures))
      (c.in-Exists-Exists.is-1 ∙ ap (λ (p : Fof). Exists p) (sym c.get-in-Exists-Exists-2.ensures))
      c.below_existentials-count.ensures.whole c.below_existentials-other_count.ensures.whole
      c.below_existentials-count.ensures.all c.below_existentials-other_count.ensures.all
      c.if-count-other_count-2.false same),
)
