use Rattle.std.proofs.Common.{◌≡◌, ◌≤◌, ◌+◌, false, List, map, length, sum, refl, sym, ap, ◌∙◌, subst, arith, Ok}
use Rattle.std.proofs.lemmas.List.{take_all, length-append}
use Rattle.tptp_syntax.specs.declared.formula.RawFormula.{RawFormula}
use Rattle.tptp_syntax.specs.FileSizes.{formula_nodes}
use Rattle.tf_core.specs.declared.formula.Formula.TheVariants as formula
use Rattle.tf_check.specs.Answers.{Answers}
use Rattle.tf_check.specs.Bound.{Scoped, Grows, Keeps}
use Rattle.tf_check.specs.Core.{maker, joiner, binders_of}
use Rattle.tf_check.specs.Formulas.{formula_reading, inside_each, two, quantifier}
use Rattle.tf_check.specs.Visited.{in_turn}
use Rattle.tf_check.proofs.AnswerLemmas.{answers-good, answers-none, answers-next, answers-break, answers-on}
use Rattle.tf_check.proofs.FormulaAnswers as a
use Rattle.tf_check.proofs.FormulaLemmas as l
use Rattle.tf_check.proofs.KindSteps.{sum_within}
use Rattle.tf_check.proofs.NodeLemmas as n
use Rattle.tf_check.proofs.PrefixCounts.{for_all_nodes, exists_nodes}
use Rattle.tf_check.proofs.ScopedLemmas.{Keeps-itself, Keeps-twice, Grows-twice}
use Rattle.tf_check.proofs.formulas.+formula_of.Goals as goal

pub formula_of-returns-in_err-equal-in-Unequal-clause-exact :
    goal.formula_of-returns-in_err-equal-in-Unequal-clause-exact
formula_of-returns-in_err-equal-in-Unequal-clause-exact t c =
    answers-on (formula_reading c.args.context.now.entry c.args.context.now.table.now
    c.args.raw.now c.args.leading c.args.scope.now.names)
    c.from_residual.result c.in_err-equal-in-Unequal.field-0.0 c.from_residual.ensures
    (rw (
      c.in-Unequal.is,
      l.formula_reading-unequal c.args.context.now.entry
          c.args.context.now.table.now c.in-Unequal.left c.in-Unequal.right,
    )
    (a.equation_not_stop c.args.context.now.entry c.args.context.now.table.now c.in-Unequal.left
    c.in-Unequal.right c.args.scope.now.names c.in_err-equal-in-Unequal.field-0.0
    c.in_err-equal-in-Unequal.ensures.exact))

pub formula_of-returns-in_ok-new-in-Unequal-clause-exact :
    goal.formula_of-returns-in_ok-new-in-Unequal-clause-exact
formula_of-returns-in_ok-new-in-Unequal-clause-exact t c =
    rw (
      c.in-Unequal.is,
      l.formula_reading-unequal c.args.context.now.entry
          c.args.context.now.table.now c.in-Unequal.left c.in-Unequal.right,
      c.in_ok-new-in-Unequal.ensures,
    )
    (a.equation_not c.args.context.now.entry c.args.context.now.table.now c.in-Unequal.left
    c.in-Unequal.right c.args.scope.now.names c.in_ok-equal-in-Unequal.equal
    c.in_ok-equal-in-Unequal.ensures.exact)

pub formula_of-part_of-requires : goal.formula_of-part_of-requires
formula_of-part_of-requires t c =
    let size : formula_nodes c.args.raw.now ≡ 1 + formula_nodes c.in-Not.part =
    ap formula_nodes c.in-Not.is ∙ n.formula_nodes-not c.in-Not.part in
    let same = ap formula_nodes c.get.ensures in
    (omega (arith, size, same), (c.requires.ready, omega (arith, size, same, c.requires.size)))

pub formula_of-returns-in_err-part_of-in-Not-clause-exact :
    goal.formula_of-returns-in_err-part_of-in-Not-clause-exact
formula_of-returns-in_err-part_of-in-Not-clause-exact t c =
    answers-on (formula_reading c.args.context.now.entry c.args.context.now.table.now
    c.args.raw.now c.args.leading c.args.scope.now.names)
    c.from_residual-in_err-part_of-in-Not.result c.in_err-part_of-in-Not.field-0.0
    c.from_residual-in_err-part_of-in-Not.ensures
    (rw (
      c.in-Not.is,
      l.formula_reading-not c.args.context.now.entry c.args.context.now.table.now
          c.in-Not.part,
    )
    (a.answers-unmade (formula_reading c.args.context.now.entry c.args.context.now.table.now
    c.in-Not.part false c.args.scope.now.names) formula.Not
    c.in_err-part_of-in-Not.field-0.0
    (rw c.get.ensures at c.in_err-part_of-in-Not.ensures.exact)))

pub formula_of-returns-in_ok-part_of-in-Not-clause-exact :
    goal.formula_of-returns-in_ok-part_of-in-Not-clause-exact
formula_of-returns-in_ok-part_of-in-Not-clause-exact t c =
    rw (
      c.in-Not.is,
      l.formula_reading-not c.args.context.now.entry c.args.context.now.table.now
          c.in-Not.part,
    )
    (a.answers-made (formula_reading c.args.context.now.entry c.args.context.now.table.now
    c.in-Not.part false c.args.scope.now.names) formula.Not
    c.in_ok-part_of-in-Not.field-0 (rw c.get.ensures at c.in_ok-part_of-in-Not.ensures.exact))

pub formula_of-parts_of-requires : goal.formula_of-parts_of-requires
formula_of-parts_of-requires t c =
    let size : formula_nodes c.args.raw.now ≡ 1 + sum (map formula_nodes c.in-And.parts) =
    ap formula_nodes c.in-And.is ∙ n.formula_nodes-and c.in-And.parts in
    let same = ap (λ (xs : List RawFormula). sum (map formula_nodes xs))
    c.as_slice-in-And.ensures in
    (omega (arith, size, same), (c.requires.ready, omega (arith, size, same, c.requires.size)))

pub formula_of-returns-in_err-parts_of-in-And-clause-exact :
    goal.formula_of-returns-in_err-parts_of-in-And-clause-exact
formula_of-returns-in_err-parts_of-in-And-clause-exact t c =
    answers-on (formula_reading c.args.context.now.entry c.args.context.now.table.now
    c.args.raw.now c.args.leading c.args.scope.now.names)
    c.from_residual-in_err-parts_of-in-And.result c.in_err-parts_of-in-And.field-0.0
    c.from_residual-in_err-parts_of-in-And.ensures
    (rw (
      c.in-And.is,
      l.formula_reading-and c.args.context.now.entry c.args.context.now.table.now
          c.in-And.parts,
    )
    (a.answers-unmade
    (in_turn (inside_each
    (map (formula_reading c.args.context.now.entry c.args.context.now.table.now) c.in-And.parts)
    c.args.scope.now.names))
    formula.And c.in_err-parts_of-in-And.field-0.0
    (rw c.as_slice-in-And.ensures at c.in_err-parts_of-in-And.ensures.exact)))

pub formula_of-returns-in_ok-parts_of-in-And-clause-exact :
    goal.formula_of-returns-in_ok-parts_of-in-And-clause-exact
formula_of-returns-in_ok-parts_of-in-And-clause-exact t c =
    rw (
      c.in-And.is,
      l.formula_reading-and c.args.context.now.entry c.args.context.now.table.now
          c.in-And.parts,
    )
    (a.answers-made
    (in_turn (inside_each
    (map (formula_reading c.args.context.now.entry c.args.context.now.table.now) c.in-And.parts)
    c.args.scope.now.names))
    formula.And c.in_ok-parts_of-in-And.field-0
    (rw c.as_slice-in-And.ensures at c.in_ok-parts_of-in-And.ensures.exact))

pub formula_of-parts_of-requires-in-Or : goal.formula_of-parts_of-requires-in-Or
formula_of-parts_of-requires-in-Or t c =
    let size : formula_nodes c.args.raw.now ≡ 1 + sum (map formula_nodes c.in-Or.parts) =
    ap formula_nodes c.in-Or.is ∙ n.formula_nodes-or c.in-Or.parts in
    let same = ap (λ (xs : List RawFormula). sum (map formula_nodes xs))
    c.as_slice-in-Or.ensures in
    (omega (arith, size, same), (c.requires.ready, omega (arith, size, same, c.requires.size)))

pub formula_of-returns-in_err-parts_of-in-Or-clause-exact :
    goal.formula_of-returns-in_err-parts_of-in-Or-clause-exact
formula_of-returns-in_err-parts_of-in-Or-clause-exact t c =
    answers-on (formula_reading c.args.context.now.entry c.args.context.now.table.now
    c.args.raw.now c.args.leading c.args.scope.now.names)
    c.from_residual-in_err-parts_of-in-Or.result c.in_err-parts_of-in-Or.field-0.0
    c.from_residual-in_err-parts_of-in-Or.ensures
    (rw (
      c.in-Or.is,
      l.formula_reading-or c.args.context.now.entry c.args.context.now.table.now
          c.in-Or.parts,
    )
    (a.answers-unmade
    (in_turn (inside_each
    (map (formula_reading c.args.context.now.entry c.args.context.now.table.now) c.in-Or.parts)
    c.args.scope.now.names))
    formula.Or c.in_err-parts_of-in-Or.field-0.0
    (rw c.as_slice-in-Or.ensures at c.in_err-parts_of-in-Or.ensures.exact)))

pub formula_of-returns-in_ok-parts_of-in-Or-clause-exact :
    goal.formula_of-returns-in_ok-parts_of-in-Or-clause-exact
formula_of-returns-in_ok-parts_of-in-Or-clause-exact t c =
    rw (
      c.in-Or.is,
      l.formula_reading-or c.args.context.now.entry c.args.context.now.table.now
          c.in-Or.parts,
    )
    (a.answers-made
    (in_turn (inside_each
    (map (formula_reading c.args.context.now.entry c.args.context.now.table.now) c.in-Or.parts)
    c.args.scope.now.names))
    formula.Or c.in_ok-parts_of-in-Or.field-0
    (rw c.as_slice-in-Or.ensures at c.in_ok-parts_of-in-Or.ensures.exact))

pub formula_of-two-requires : goal.formula_of-two-requires
formula_of-two-requires t c =
    let size : formula_nodes c.args.raw.now ≡ 1
    + (formula_nodes c.in-Implies.a + formula_nodes c.in-Implies.b) =
    ap formula_nodes c.in-Implies.is ∙ n.formula_nodes-implies c.in-Implies.a c.in-Implies.b in
    let left = ap formula_nodes c.get-in-Implies.ensures in
    let right = ap formula_nodes c.get-in-Implies-2.ensures in
    (omega (arith, size, left, right), (c.requires.ready, omega (arith, size, left, right, c.requires.size)))

pub formula_of-returns-in-Implies-clause-exact : goal.formula_of-returns-in-Implies-clause-exact
formula_of-returns-in-Implies-clause-exact t c =
    rw (
      c.in-Implies.is,
      l.formula_reading-implies c.args.context.now.entry
          c.args.context.now.table.now c.in-Implies.a c.in-Implies.b,
    )
    (rw (c.get-in-Implies.ensures, c.get-in-Implies-2.ensures) at c.two.ensures.exact)

pub formula_of-two-requires-in-If : goal.formula_of-two-requires-in-If
formula_of-two-requires-in-If t c =
    let size : formula_nodes c.args.raw.now ≡ 1
    + (formula_nodes c.in-If.a + formula_nodes c.in-If.b) =
    ap formula_nodes c.in-If.is ∙ n.formula_nodes-if c.in-If.a c.in-If.b in
    let left = ap formula_nodes c.get-in-If.ensures in
    let right = ap formula_nodes c.get-in-If-2.ensures in
    (omega (arith, size, left, right), (c.requires.ready, omega (arith, size, left, right, c.requires.size)))

pub formula_of-returns-in-If-clause-exact : goal.formula_of-returns-in-If-clause-exact
formula_of-returns-in-If-clause-exact t c =
    rw (
      c.in-If.is,
      l.formula_reading-if c.args.context.now.entry c.args.context.now.table.now
          c.in-If.a c.in-If.b,
    )
    (rw (c.get-in-If.ensures, c.get-in-If-2.ensures) at c.two-in-If.ensures.exact)

pub formula_of-two-requires-in-Iff : goal.formula_of-two-requires-in-Iff
formula_of-two-requires-in-Iff t c =
    let size : formula_nodes c.args.raw.now ≡ 1
    + (formula_nodes c.in-Iff.a + formula_nodes c.in-Iff.b) =
    ap formula_nodes c.in-Iff.is ∙ n.formula_nodes-iff c.in-Iff.a c.in-Iff.b in
    let left = ap formula_nodes c.get-in-Iff.ensures in
    let right = ap formula_nodes c.get-in-Iff-2.ensures in
    (omega (arith, size, left, right), (c.requires.ready, omega (arith, size, left, right, c.requires.size)))

pub formula_of-returns-in-Iff-clause-exact : goal.formula_of-returns-in-Iff-clause-exact
formula_of-returns-in-Iff-clause-exact t c =
    rw (
      c.in-Iff.is,
      l.formula_reading-iff c.args.context.now.entry c.args.context.now.table.now
          c.in-Iff.a c.in-Iff.b,
    )
    (rw (c.get-in-Iff.ensures, c.get-in-Iff-2.ensures) at c.two-in-Iff.ensures.exact)

pub formula_of-two-requires-in-Xor : goal.formula_of-two-requires-in-Xor
formula_of-two-requires-in-Xor t c =
    let size : formula_nodes c.args.raw.now ≡ 1
    + (formula_nodes c.in-Xor.a + formula_nodes c.in-Xor.b) =
    ap formula_nodes c.in-Xor.is ∙ n.formula_nodes-xor c.in-Xor.a c.in-Xor.b in
    let left = ap formula_nodes c.get-in-Xor.ensures in
    let right = ap formula_nodes c.get-in-Xor-2.ensures in
    (omega (arith, size, left, right), (c.requires.ready, omega (arith, size, left, right, c.requires.size)))

pub formula_of-returns-in-Xor-clause-exact : goal.formula_of-returns-in-Xor-clause-exact
formula_of-returns-in-Xor-clause-exact t c =
    rw (
      c.in-Xor.is,
      l.formula_reading-xor c.args.context.now.entry c.args.context.now.table.now
          c.in-Xor.a c.in-Xor.b,
    )
    (rw (c.get-in-Xor.ensures, c.get-in-Xor-2.ensures) at c.two-in-Xor.ensures.exact)

pub formula_of-two-requires-in-Nand : goal.formula_of-two-requires-in-Nand
formula_of-two-requires-in-Nand t c =
    let size : formula_nodes c.args.raw.now ≡ 1
    + (formula_nodes c.in-Nand.a + formula_nodes c.in-Nand.b) =
    ap formula_nodes c.in-Nand.is ∙ n.formula_nodes-nand c.in-Nand.a c.in-Nand.b in
    let left = ap formula_nodes c.get-in-Nand.ensures in
    let right = ap formula_nodes c.get-in-Nand-2.ensures in
    (omega (arith, size, left, right), (c.requires.ready, omega (arith, size, left, right, c.requires.size)))

pub formula_of-returns-in-Nand-clause-exact : goal.formula_of-returns-in-Nand-clause-exact
formula_of-returns-in-Nand-clause-exact t c =
    rw (
      c.in-Nand.is,
      l.formula_reading-nand c.args.context.now.entry c.args.context.now.table.now
          c.in-Nand.a c.in-Nand.b,
    )
    (rw (c.get-in-Nand.ensures, c.get-in-Nand-2.ensures) at c.two-in-Nand.ensures.exact)

pub formula_of-two-requires-in-Nor : goal.formula_of-two-requires-in-Nor
formula_of-two-requires-in-Nor t c =
    let size : formula_nodes c.args.raw.now ≡ 1
    + (formula_nodes c.in-Nor.a + formula_nodes c.in-Nor.b) =
    ap formula_nodes c.in-Nor.is ∙ n.formula_nodes-nor c.in-Nor.a c.in-Nor.b in
    let left = ap formula_nodes c.get-in-Nor.ensures in
    let right = ap formula_nodes c.get-in-Nor-2.ensures in
    (omega (arith, size, left, right), (c.requires.ready, omega (arith, size, left, right, c.requires.size)))

pub formula_of-returns-in-Nor-clause-exact : goal.formula_of-returns-in-Nor-clause-exact
formula_of-returns-in-Nor-clause-exact t c =
    rw (
      c.in-Nor.is,
      l.formula_reading-nor c.args.context.now.entry c.args.context.now.table.now
          c.in-Nor.a c.in-Nor.b,
    )
    (rw (c.get-in-Nor.ensures, c.get-in-Nor-2.ensures) at c.two-in-Nor.ensures.exact)

pub formula_of-quantifier_of-requires : goal.formula_of-quantifier_of-requires
formula_of-quantifier_of-requires t c =
    let size = for_all_nodes c.args.raw.now c.in-ForAll.bounds c.in-ForAll.body c.in-ForAll.is in
    let first = ap length c.as_slice-in-ForAll.ensures in
    let second = ap formula_nodes c.get-in-ForAll.ensures in
    (omega (arith, size, second), (c.requires.ready, omega (arith, size, first, second, c.requires.size)))

pub formula_of-returns-in-ForAll-clause-exact : goal.formula_of-returns-in-ForAll-clause-exact
formula_of-returns-in-ForAll-clause-exact t c =
    rw (
      c.in-ForAll.is,
      l.formula_reading-for_all c.args.context.now.entry
          c.args.context.now.table.now c.in-ForAll.bounds c.in-ForAll.body,
    )
    (rw (c.as_slice-in-ForAll.ensures, c.get-in-ForAll.ensures) at c.quantifier_of.ensures.exact)

pub formula_of-quantifier_of-requires-in-Exists : goal.formula_of-quantifier_of-requires-in-Exists
formula_of-quantifier_of-requires-in-Exists t c =
    let size = exists_nodes c.args.raw.now c.in-Exists.bounds c.in-Exists.body c.in-Exists.is in
    let first = ap length c.as_slice-in-Exists.ensures in
    let second = ap formula_nodes c.get-in-Exists.ensures in
    (omega (arith, size, second), (c.requires.ready, omega (arith, size, first, second, c.requires.size)))

pub formula_of-returns-in-Exists-clause-exact : goal.formula_of-returns-in-Exists-clause-exact
formula_of-returns-in-Exists-clause-exact t c =
    rw (
      c.in-Exists.is,
      l.formula_reading-exists c.args.context.now.entry
          c.args.context.now.table.now c.in-Exists.bounds c.in-Exists.body,
    )
    (rw (c.as_slice-in-Exists.ensures, c.get-in-Exists.ensures) at
    c.quantifier_of-in-Exists.ensures.exact)

pub formula_of-returns-in-True-clause-exact : goal.formula_of-returns-in-True-clause-exact
formula_of-returns-in-True-clause-exact t c =
    rw (c.in-True.is, l.formula_reading-true c.args.context.now.entry c.args.context.now.table.now)
    (answers-good formula.True)

pub formula_of-returns-in-False-clause-exact : goal.formula_of-returns-in-False-clause-exact
formula_of-returns-in-False-clause-exact t c =
    rw (
      c.in-False.is,
      l.formula_reading-false c.args.context.now.entry
          c.args.context.now.table.now,
    ) (answers-good formula.False)

pub formula_of-returns-in-Atom-clause-exact : goal.formula_of-returns-in-Atom-clause-exact
formula_of-returns-in-Atom-clause-exact t c =
    rw (
      c.in-Atom.is,
      l.formula_reading-atom c.args.context.now.entry c.args.context.now.table.now
          c.in-Atom.name c.in-Atom.parts,
    )
    (rw c.as_slice.ensures at c.atom_of.ensures.exact)

pub formula_of-returns-in-Equal-clause-exact : goal.formula_of-returns-in-Equal-clause-exact
formula_of-returns-in-Equal-clause-exact t c =
    rw (
      c.in-Equal.is,
      l.formula_reading-equal c.args.context.now.entry
          c.args.context.now.table.now c.in-Equal.left c.in-Equal.right,
    ) c.equation.ensures.exact

pub parts_of-loop-raw-init : goal.parts_of-loop-raw-init
parts_of-loop-raw-init t c =
    (rw c.new-parts.ensures answers-none, Keeps-itself c.args.scope.now)

pub parts_of-formula_of-requires : goal.parts_of-formula_of-requires
parts_of-formula_of-requires t c =
    let below = sum_within formula_nodes c.args.raws.now c.loop-raw.raw-index c.raw-item.result
    c.loop-raw-test.true c.raw-item.is in
    let same = ap length c.loop-raw.invariant.1.names in (
      omega (arith, below),
      (
        c.loop-raw.invariant.1.grows.symbols ∙ c.requires.ready,
        omega (arith, below, same, c.requires.size),
      ),
    )

pub parts_of-returns-in_err-formula_of-clause-exact :
    goal.parts_of-returns-in_err-formula_of-clause-exact
parts_of-returns-in_err-formula_of-clause-exact t c =
    subst (λ visits. Answers (in_turn visits) c.from_residual.result)
    (sym (a.part_visits c.args.context.now.entry c.args.context.now.table.now c.args.scope.now.names
    c.args.raws.now))
    (answers-on (in_turn
    (map (a.part_visit c.args.context.now.entry c.args.context.now.table.now c.args.scope.now.names)
    c.args.raws.now)) c.from_residual.result
    c.in_err-formula_of.field-0.0 c.from_residual.ensures
    (answers-break (a.part_visit c.args.context.now.entry c.args.context.now.table.now
    c.args.scope.now.names) c.args.raws.now
    c.loop-raw.raw-index c.raw-item.result c.loop-raw.parts c.in_err-formula_of.field-0.0
    c.loop-raw-test.true c.raw-item.is c.loop-raw.invariant.0
    (rw c.loop-raw.invariant.1.names at c.in_err-formula_of.ensures.exact)))

pub parts_of-loop-raw-preserved : goal.parts_of-loop-raw-preserved
parts_of-loop-raw-preserved t c = (
  rw c.in_ok-push.ensures.ok
      (answers-next (a.part_visit c.args.context.now.entry c.args.context.now.table.now
      c.args.scope.now.names) c.args.raws.now
      c.loop-raw.raw-index c.raw-item.result c.loop-raw.parts c.in_ok-formula_of.field-0
      c.loop-raw-test.true c.raw-item.is c.loop-raw.invariant.0
      (rw c.loop-raw.invariant.1.names at c.in_ok-formula_of.ensures.exact)),
  Keeps-twice c.args.scope.now c.loop-raw.scope c.formula_of.new.scope c.loop-raw.invariant.1
      c.in_ok-formula_of.ensures.kept,
)

pub parts_of-returns-clause-exact : goal.parts_of-returns-clause-exact
parts_of-returns-clause-exact t c =
    let past : length c.args.raws.now ≤ c.loop-raw.raw-index = omega arith in
    subst (λ visits. Answers (in_turn visits) (Ok c.loop-raw.parts))
    (sym (a.part_visits c.args.context.now.entry c.args.context.now.table.now c.args.scope.now.names
    c.args.raws.now))
    (subst
    (λ raws. Answers (in_turn
    (map (a.part_visit c.args.context.now.entry c.args.context.now.table.now c.args.scope.now.names)
    raws)) (Ok c.loop-raw.parts))
    (take_all c.loop-raw.raw-index c.args.raws.now past) c.loop-raw.invariant.0)

pub quantifier_of-returns-in_err-types-clause-exact :
    goal.quantifier_of-returns-in_err-types-clause-exact
quantifier_of-returns-in_err-types-clause-exact t c =
    answers-on
    (quantifier c.args.context.now.entry c.args.context.now.table.now (maker c.args.quantifier)
    c.args.leading
    c.args.bounds.now (formula_reading c.args.context.now.entry c.args.context.now.table.now
    c.args.body.now) c.args.scope.now.names)
    c.from_residual.result c.in_err-types.field-0.0 c.from_residual.ensures
    (a.quantifier_no_binders c.args.context.now.entry c.args.context.now.table.now c.args.scope.now.names
    (maker c.args.quantifier)
    c.args.leading c.args.bounds.now
    (formula_reading c.args.context.now.entry c.args.context.now.table.now c.args.body.now)
    c.in_err-types.field-0.0 c.in_err-types.ensures.exact)

pub quantifier_of-formula_of-requires : goal.quantifier_of-formula_of-requires
quantifier_of-formula_of-requires t c =
    let bound = a.bound_scope c.args.context.now.entry c.args.context.now.table.now c.args.leading
    c.args.bounds.now
    c.args.scope.now.names c.binders.new.scope.names c.in_ok-types.types c.in_ok-types.ensures.exact in
    let size = ap length bound.1 ∙ length-append bound.0 c.args.scope.now.names in (
      omega arith,
      (
        c.in_ok-types.ensures.grows.symbols ∙ c.requires.ready,
        omega (arith, size, bound.2, c.requires.size),
      ),
    )

pub quantifier_of-returns-in_err-formula-clause-exact :
    goal.quantifier_of-returns-in_err-formula-clause-exact
quantifier_of-returns-in_err-formula-clause-exact t c =
    answers-on
    (quantifier c.args.context.now.entry c.args.context.now.table.now (maker c.args.quantifier)
    c.args.leading
    c.args.bounds.now (formula_reading c.args.context.now.entry c.args.context.now.table.now
    c.args.body.now) c.args.scope.now.names)
    c.from_residual-in_err-formula.result c.in_err-formula.field-0.0
    c.from_residual-in_err-formula.ensures
    (a.quantifier_no_body c.args.context.now.entry c.args.context.now.table.now c.args.scope.now.names
    (maker c.args.quantifier)
    c.args.leading c.args.bounds.now
    (formula_reading c.args.context.now.entry c.args.context.now.table.now c.args.body.now)
    (binders_of c.binders.new.scope.names c.in_ok-types.types) c.in_err-formula.field-0.0
    c.in_ok-types.ensures.exact c.in_err-formula.ensures.exact)

pub quantifier_of-returns-clause-exact : goal.quantifier_of-returns-clause-exact
quantifier_of-returns-clause-exact t c =
    a.quantifier_done c.args.context.now.entry c.args.context.now.table.now c.args.scope.now.names
    (maker c.args.quantifier)
    c.args.leading c.args.bounds.now
    (formula_reading c.args.context.now.entry c.args.context.now.table.now c.args.body.now)
    (binders_of c.binders.new.scope.names c.in_ok-types.types) c.in_ok-formula.formula
    c.quantified.result
    c.in_ok-types.ensures.exact c.in_ok-formula.ensures.exact c.quantified.ensures

pub quantifier_of-returns-clause-kept : goal.quantifier_of-returns-clause-kept
quantifier_of-returns-clause-kept t c =
    let bound = a.bound_scope c.args.context.now.entry c.args.context.now.table.now c.args.leading
    c.args.bounds.now
    c.args.scope.now.names c.binders.new.scope.names c.in_ok-types.types c.in_ok-types.ensures.exact in
    let cut = ap (λ (s : Scoped). s.names) c.cut.ensures in
    let names = a.scope_back bound.0 c.args.scope.now.names c.formula_of.new.scope.names
    c.cut.new.self.names c.len-outer.result
    (c.in_ok-formula.ensures.kept.names ∙ bound.1) c.len-outer.ensures cut in
    let grows = Grows-twice c.args.scope.now c.binders.new.scope c.formula_of.new.scope
    c.in_ok-types.ensures.grows c.in_ok-formula.ensures.kept.grows in
    a.on_ok c.quantified.result (Keeps c.args.scope.now c.cut.new.self)
    (record {
      names = names;
      grows = subst
          (λ (s : Scoped). Grows c.args.scope.now s) (sym c.cut.ensures)
          (record { types = grows.types; symbols = grows.symbols });
    })

pub two-returns-in_err-a-clause-exact : goal.two-returns-in_err-a-clause-exact
two-returns-in_err-a-clause-exact t c =
    answers-on
    (two c.args.context.now.entry c.args.context.now.table.now (joiner c.args.connective)
    (formula_reading c.args.context.now.entry c.args.context.now.table.now c.args.left.now)
    (formula_reading c.args.context.now.entry c.args.context.now.table.now c.args.right.now)
    c.args.scope.now.names)
    c.from_residual.result c.in_err-a.field-0.0 c.from_residual.ensures
    (a.two_left c.args.context.now.entry c.args.context.now.table.now c.args.scope.now.names
    (joiner c.args.connective)
    (formula_reading c.args.context.now.entry c.args.context.now.table.now c.args.left.now)
    (formula_reading c.args.context.now.entry c.args.context.now.table.now c.args.right.now)
    c.in_err-a.field-0.0 c.in_err-a.ensures.exact)

pub two-returns-in_err-b-clause-exact : goal.two-returns-in_err-b-clause-exact
two-returns-in_err-b-clause-exact t c =
    answers-on
    (two c.args.context.now.entry c.args.context.now.table.now (joiner c.args.connective)
    (formula_reading c.args.context.now.entry c.args.context.now.table.now c.args.left.now)
    (formula_reading c.args.context.now.entry c.args.context.now.table.now c.args.right.now)
    c.args.scope.now.names)
    c.from_residual-in_err-b.result c.in_err-b.field-0.0 c.from_residual-in_err-b.ensures
    (a.two_right c.args.context.now.entry c.args.context.now.table.now c.args.scope.now.names
    (joiner c.args.connective)
    (formula_reading c.args.context.now.entry c.args.context.now.table.now c.args.left.now)
    (formula_reading c.args.context.now.entry c.args.context.now.table.now c.args.right.now)
    c.in_ok-a.a c.in_err-b.field-0.0 c.in_ok-a.ensures.exact
    (rw c.in_ok-a.ensures.kept.names at c.in_err-b.ensures.exact))

pub two-returns-clause-exact : goal.two-returns-clause-exact
two-returns-clause-exact t c =
    rw c.joined.ensures
    (a.two_done c.args.context.now.entry c.args.context.now.table.now c.args.scope.now.names
    (joiner c.args.connective)
    (formula_reading c.args.context.now.entry c.args.context.now.table.now c.args.left.now)
    (formula_reading c.args.context.now.entry c.args.context.now.table.now c.args.right.now)
    c.in_ok-a.a c.in_ok-b.b c.in_ok-a.ensures.exact
    (rw c.in_ok-a.ensures.kept.names at c.in_ok-b.ensures.exact))

pub two-returns-clause-kept : goal.two-returns-clause-kept
two-returns-clause-kept t c =
    Keeps-twice c.args.scope.now c.part_of.new.scope c.part_of-2.new.scope c.in_ok-a.ensures.kept
    c.in_ok-b.ensures.kept

pub parts_of-returns-clause-kept : goal.parts_of-returns-clause-kept
parts_of-returns-clause-kept t c = c.loop-raw.invariant.1
