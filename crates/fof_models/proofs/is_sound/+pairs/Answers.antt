use Rattle.fof_models.specs.Sound.{has_pairs}
use Rattle.fof_models.proofs.Sound.{has_pairs-true, has_pairs-false, has_pairs-atom, has_pairs-equal, has_pairs-not, has_pairs-and, has_pairs-or, has_pairs-implies}
use Rattle.fof_models.proofs.Tested.{and_then, and_else}
use Rattle.std.proofs.Common.{sym, ◌∙◌}
use Rattle.fof_models.proofs.PrefixCounts.{universals_pairs, existentials_pairs}
use Rattle.fof_models.proofs.is_sound.+pairs.Goals as goal

pub has_pairs-returns-in-True : goal.has_pairs-returns-in-True
has_pairs-returns-in-True t c = cc has_pairs-true

pub has_pairs-returns-in-False : goal.has_pairs-returns-in-False
has_pairs-returns-in-False t c = cc has_pairs-false

pub has_pairs-returns-in-Atom : goal.has_pairs-returns-in-Atom
has_pairs-returns-in-Atom t c = cc (has_pairs-atom c.in-Atom.field-0 c.in-Atom.field-1)

pub has_pairs-returns-in-Equal : goal.has_pairs-returns-in-Equal
has_pairs-returns-in-Equal t c = cc (has_pairs-equal c.in-Equal.field-0 c.in-Equal.field-1)

pub has_pairs-returns-in-Not : goal.has_pairs-returns-in-Not
has_pairs-returns-in-Not t c = cc (has_pairs-not c.in-Not.a)

pub has_pairs-returns-in-And : goal.has_pairs-returns-in-And
has_pairs-returns-in-And t c = cc (has_pairs-and c.in-And.parts)

pub has_pairs-returns-in-Or : goal.has_pairs-returns-in-Or
has_pairs-returns-in-Or t c = cc (has_pairs-or c.in-Or.parts)

pub has_pairs-returns-then-has_pairs : goal.has_pairs-returns-then-has_pairs
has_pairs-returns-then-has_pairs t c =
    and_then (has_pairs c.args.formula.now) (has_pairs c.in-Implies.a) (has_pairs c.in-Implies.b) _
    (cc (has_pairs-implies c.in-Implies.a c.in-Implies.b))
    (cc) _ (cc) c.if-has_pairs.true

pub has_pairs-returns-else-has_pairs : goal.has_pairs-returns-else-has_pairs
has_pairs-returns-else-has_pairs t c =
    and_else (has_pairs c.args.formula.now) (has_pairs c.in-Implies.a) (has_pairs c.in-Implies.b) _
    (cc (has_pairs-implies c.in-Implies.a c.in-Implies.b))
    (cc) c.if-has_pairs.false

pub has_pairs-returns-in-ForAll : goal.has_pairs-returns-in-ForAll
has_pairs-returns-in-ForAll t c =
    c.has_pairs-in-ForAll.ensures
    ∙ sym (universals_pairs c.args.formula.now c.in-ForAll.inner c.get-in-ForAll.result.now
    c.below_universals.result.1.now c.below_universals.result.0 c.in-ForAll.is
    c.get-in-ForAll.ensures c.below_universals.ensures.whole)

pub has_pairs-returns-in-Exists : goal.has_pairs-returns-in-Exists
has_pairs-returns-in-Exists t c =
    c.has_pairs-in-Exists.ensures
    ∙ sym (existentials_pairs c.args.formula.now c.in-Exists.inner c.get-in-Exists.result.now
    c.below_existentials.result.1.now c.below_existentials.result.0 c.in-Exists.is
    c.get-in-Exists.ensures c.below_existentials.ensures.whole)
