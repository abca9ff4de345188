use Rattle.std.proofs.Common.{ap, arith}
use Rattle.fof_models.specs.Sound.{depth}
use Rattle.fof_models.proofs.Depth.{greatest-more}
use Rattle.fof_models.proofs.Sound.{depth-true, depth-false, depth-atom, depth-equal, depth-not, depth-and, depth-or, depth-implies}
use Rattle.fof_models.proofs.PrefixCounts.{universals_depth, existentials_depth}
use Rattle.fof_models.proofs.formula.+nested.Goals as goal

pub Fof::nested-returns-in-True : goal.Fof::nested-returns-in-True
Fof::nested-returns-in-True t c =
    record { exact = omega (arith, ap depth c.in-True.is, depth-true) }

pub Fof::nested-returns-in-False : goal.Fof::nested-returns-in-False
Fof::nested-returns-in-False t c =
    record { exact = omega (arith, ap depth c.in-False.is, depth-false) }

pub Fof::nested-returns-in-Atom : goal.Fof::nested-returns-in-Atom
Fof::nested-returns-in-Atom t c =
    record {
      exact = omega (
        arith,
        ap depth c.in-Atom.is,
        depth-atom c.in-Atom.field-0 c.in-Atom.field-1,
      );
    }

pub Fof::nested-returns-in-Equal : goal.Fof::nested-returns-in-Equal
Fof::nested-returns-in-Equal t c =
    record {
      exact = omega (
        arith,
        ap depth c.in-Equal.is,
        depth-equal c.in-Equal.field-0 c.in-Equal.field-1,
      );
    }

pub Fof::nested-returns-in-Not : goal.Fof::nested-returns-in-Not
Fof::nested-returns-in-Not t c = record { exact = cc (depth-not c.in-Not.a) }

pub Fof::nested-returns-in-And : goal.Fof::nested-returns-in-And
Fof::nested-returns-in-And t c = record { exact = cc (depth-and c.in-And.parts) }

pub Fof::nested-returns-in-Or : goal.Fof::nested-returns-in-Or
Fof::nested-returns-in-Or t c = record { exact = cc (depth-or c.in-Or.parts) }

pub Fof::nested-returns-in-Implies : goal.Fof::nested-returns-in-Implies
Fof::nested-returns-in-Implies t c =
    record {
      exact = omega (
        arith,
        c.greater.ensures,
        c.nested-in-Implies.ensures.exact,
        ap depth c.get-in-Implies.ensures,
        c.nested-in-Implies-2.ensures.exact,
        ap depth c.get-in-Implies-2.ensures,
        ap depth c.in-Implies.is,
        depth-implies c.in-Implies.a c.in-Implies.b,
      );
    }

pub Fof::nested-returns-in-ForAll : goal.Fof::nested-returns-in-ForAll
Fof::nested-returns-in-ForAll t c =
    record {
      exact = omega (
        arith,
        c.saturating_add-in-ForAll.ensures,
        c.saturating_add.ensures,
        c.nested-in-ForAll.ensures.exact,
        universals_depth c.args.self.now c.in-ForAll.inner c.get-in-ForAll.result.now
            c.below_universals-more.result.1.now c.below_universals-more.result.0 c.in-ForAll.is
            c.get-in-ForAll.ensures c.below_universals-more.ensures.whole,
      );
    }

pub Fof::nested-returns-in-Exists : goal.Fof::nested-returns-in-Exists
Fof::nested-returns-in-Exists t c =
    record {
      exact = omega (
        arith,
        c.saturating_add-in-Exists-2.ensures,
        c.saturating_add-in-Exists.ensures,
        c.nested-in-Exists.ensures.exact,
        existentials_depth c.args.self.now c.in-Exists.inner c.get-in-Exists.result.now
            c.below_existentials-more.result.1.now c.below_existentials-more.result.0 c.in-Exists.is
            c.get-in-Exists.ensures c.below_existentials-more.ensures.whole,
      );
    }

pub most_nested-loop-part-preserved : goal.most_nested-loop-part-preserved
most_nested-loop-part-preserved t c =
    omega (
      arith,
      c.greater-most.ensures,
      c.loop-part.invariant,
      c.nested.ensures.exact,
      greatest-more depth _ _ _ c.loop-part-test.true c.part-item.is,
    )
