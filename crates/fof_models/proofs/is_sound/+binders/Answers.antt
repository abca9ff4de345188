use Rattle.std.proofs.Common.{ap, arith}
use Rattle.fof_models.specs.Sound.{binder_count}
use Rattle.fof_models.proofs.Sound.{binder_count-true, binder_count-false, binder_count-atom, binder_count-equal, binder_count-not, binder_count-and, binder_count-or, binder_count-implies}
use Rattle.fof_models.proofs.PrefixCounts.{universals_binders, existentials_binders}
use Rattle.fof_models.proofs.is_sound.+binders.Goals as goal

pub binders-returns-in-True : goal.binders-returns-in-True
binders-returns-in-True t c = omega (arith, ap binder_count c.in-True.is, binder_count-true)

pub binders-returns-in-False : goal.binders-returns-in-False
binders-returns-in-False t c = omega (arith, ap binder_count c.in-False.is, binder_count-false)

pub binders-returns-in-Atom : goal.binders-returns-in-Atom
binders-returns-in-Atom t c =
    omega (
      arith,
      ap binder_count c.in-Atom.is,
      binder_count-atom c.in-Atom.field-0 c.in-Atom.field-1,
    )

pub binders-returns-in-Equal : goal.binders-returns-in-Equal
binders-returns-in-Equal t c =
    omega (
      arith,
      ap binder_count c.in-Equal.is,
      binder_count-equal c.in-Equal.field-0 c.in-Equal.field-1,
    )

pub binders-returns-in-Not : goal.binders-returns-in-Not
binders-returns-in-Not t c = cc (binder_count-not c.in-Not.a)

pub binders-returns-in-And : goal.binders-returns-in-And
binders-returns-in-And t c = cc (binder_count-and c.in-And.parts)

pub binders-returns-in-Or : goal.binders-returns-in-Or
binders-returns-in-Or t c = cc (binder_count-or c.in-Or.parts)

pub binders-returns-in-Implies : goal.binders-returns-in-Implies
binders-returns-in-Implies t c =
    omega (
      arith,
      ap binder_count c.in-Implies.is,
      binder_count-implies c.in-Implies.a c.in-Implies.b,
      ap binder_count c.get-in-Implies.ensures,
      ap binder_count c.get-in-Implies-2.ensures,
      c.binders-in-Implies.ensures,
      c.binders-in-Implies-2.ensures,
      c.saturating_add.ensures,
    )

pub binders-returns-in-ForAll : goal.binders-returns-in-ForAll
binders-returns-in-ForAll t c =
    omega (
      arith,
      c.saturating_add-in-ForAll-2.ensures,
      c.saturating_add-in-ForAll.ensures,
      c.binders-in-ForAll.ensures,
      universals_binders c.args.formula.now c.in-ForAll.inner c.get-in-ForAll.result.now
          c.below_universals-more.result.1.now c.below_universals-more.result.0 c.in-ForAll.is
          c.get-in-ForAll.ensures c.below_universals-more.ensures.whole,
    )

pub binders-returns-in-Exists : goal.binders-returns-in-Exists
binders-returns-in-Exists t c =
    omega (
      arith,
      c.saturating_add-in-Exists-2.ensures,
      c.saturating_add-in-Exists.ensures,
      c.binders-in-Exists.ensures,
      existentials_binders c.args.formula.now c.in-Exists.inner c.get-in-Exists.result.now
          c.below_existentials-more.result.1.now c.below_existentials-more.result.0 c.in-Exists.is
          c.get-in-Exists.ensures c.below_existentials-more.ensures.whole,
    )
