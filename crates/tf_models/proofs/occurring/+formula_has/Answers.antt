use Rattle.std.proofs.Common.{refl}
use Rattle.tf_models.proofs.OccurringParts.{in_true, in_false, in_atom, in_equal, in_not, in_and, in_or, in_implies, in_if, in_iff, in_xor, in_nand, in_nor, in_for_all, in_exists, first_occurs, second_decides}
use Rattle.tf_models.proofs.occurring.+formula_has.Goals as goal

pub formula_has-returns-in-True : goal.formula_has-returns-in-True
formula_has-returns-in-True t c = record {
  exact = in_true c.args.i _ c.args.formula.now c.in-True.is refl;
}

pub formula_has-returns-in-False : goal.formula_has-returns-in-False
formula_has-returns-in-False t c = record {
  exact = in_false c.args.i _ c.args.formula.now c.in-False.is refl;
}

pub formula_has-returns-in-Atom : goal.formula_has-returns-in-Atom
formula_has-returns-in-Atom t c = record {
  exact = in_atom c.args.i _ c.args.formula.now c.in-Atom.field-0 c.in-Atom.types c.in-Atom.terms c.in-Atom.is
      (rw (c.as_slice.ensures, c.as_slice-in-Atom.ensures) at c.application_has.ensures.exact);
}

pub formula_has-returns-in-Equal : goal.formula_has-returns-in-Equal
formula_has-returns-in-Equal t c = record {
  exact = in_equal c.args.i _ c.args.formula.now c.in-Equal.ty c.in-Equal.left c.in-Equal.right c.in-Equal.is
      c.equation_has.ensures.exact;
}

pub formula_has-returns-in-Not : goal.formula_has-returns-in-Not
formula_has-returns-in-Not t c = record {
  exact = in_not c.args.i _ c.args.formula.now c.in-Not.a c.in-Not.is (rw c.get.ensures at c.formula_has.ensures.exact);
}

pub formula_has-returns-in-And : goal.formula_has-returns-in-And
formula_has-returns-in-And t c = record {
  exact = in_and c.args.i _ c.args.formula.now c.in-And.parts c.in-And.is
      (rw c.as_slice-in-And.ensures at c.some_formula_has.ensures.exact);
}

pub formula_has-returns-in-Or : goal.formula_has-returns-in-Or
formula_has-returns-in-Or t c = record {
  exact = in_or c.args.i _ c.args.formula.now c.in-Or.parts c.in-Or.is
      (rw c.as_slice-in-Or.ensures at c.some_formula_has-in-Or.ensures.exact);
}

pub formula_has-returns-then-formula_has : goal.formula_has-returns-then-formula_has
formula_has-returns-then-formula_has t c = record {
  exact = in_implies c.args.i _ c.args.formula.now c.in-Implies.a c.in-Implies.b
      (first_occurs _ _ c.formula_has-in-Implies.result (rw c.get-in-Implies.ensures at c.formula_has-in-Implies.ensures.exact)
      c.if-formula_has.true) c.in-Implies.is;
}

pub formula_has-returns-else-formula_has : goal.formula_has-returns-else-formula_has
formula_has-returns-else-formula_has t c = record {
  exact = in_implies c.args.i _ c.args.formula.now c.in-Implies.a c.in-Implies.b
      (second_decides _ _ c.formula_has-in-Implies.result c.formula_has-else-formula_has.result
      (rw c.get-in-Implies.ensures at c.formula_has-in-Implies.ensures.exact) c.if-formula_has.false
      (rw c.get-else-formula_has.ensures at c.formula_has-else-formula_has.ensures.exact)) c.in-Implies.is;
}

pub formula_has-returns-then-formula_has-2 : goal.formula_has-returns-then-formula_has-2
formula_has-returns-then-formula_has-2 t c = record {
  exact = in_if c.args.i _ c.args.formula.now c.in-If.a c.in-If.b
      (first_occurs _ _ c.formula_has-in-If.result (rw c.get-in-If.ensures at c.formula_has-in-If.ensures.exact)
      c.if-formula_has-2.true) c.in-If.is;
}

pub formula_has-returns-else-formula_has-2 : goal.formula_has-returns-else-formula_has-2
formula_has-returns-else-formula_has-2 t c = record {
  exact = in_if c.args.i _ c.args.formula.now c.in-If.a c.in-If.b
      (second_decides _ _ c.formula_has-in-If.result c.formula_has-else-formula_has-2.result
      (rw c.get-in-If.ensures at c.formula_has-in-If.ensures.exact) c.if-formula_has-2.false
      (rw c.get-else-formula_has-2.ensures at c.formula_has-else-formula_has-2.ensures.exact)) c.in-If.is;
}

pub formula_has-returns-then-formula_has-3 : goal.formula_has-returns-then-formula_has-3
formula_has-returns-then-formula_has-3 t c = record {
  exact = in_iff c.args.i _ c.args.formula.now c.in-Iff.a c.in-Iff.b
      (first_occurs _ _ c.formula_has-in-Iff.result (rw c.get-in-Iff.ensures at c.formula_has-in-Iff.ensures.exact)
      c.if-formula_has-3.true) c.in-Iff.is;
}

pub formula_has-returns-else-formula_has-3 : goal.formula_has-returns-else-formula_has-3
formula_has-returns-else-formula_has-3 t c = record {
  exact = in_iff c.args.i _ c.args.formula.now c.in-Iff.a c.in-Iff.b
      (second_decides _ _ c.formula_has-in-Iff.result c.formula_has-else-formula_has-3.result
      (rw c.get-in-Iff.ensures at c.formula_has-in-Iff.ensures.exact) c.if-formula_has-3.false
      (rw c.get-else-formula_has-3.ensures at c.formula_has-else-formula_has-3.ensures.exact)) c.in-Iff.is;
}

pub formula_has-returns-then-formula_has-4 : goal.formula_has-returns-then-formula_has-4
formula_has-returns-then-formula_has-4 t c = record {
  exact = in_xor c.args.i _ c.args.formula.now c.in-Xor.a c.in-Xor.b
      (first_occurs _ _ c.formula_has-in-Xor.result (rw c.get-in-Xor.ensures at c.formula_has-in-Xor.ensures.exact)
      c.if-formula_has-4.true) c.in-Xor.is;
}

pub formula_has-returns-else-formula_has-4 : goal.formula_has-returns-else-formula_has-4
formula_has-returns-else-formula_has-4 t c = record {
  exact = in_xor c.args.i _ c.args.formula.now c.in-Xor.a c.in-Xor.b
      (second_decides _ _ c.formula_has-in-Xor.result c.formula_has-else-formula_has-4.result
      (rw c.get-in-Xor.ensures at c.formula_has-in-Xor.ensures.exact) c.if-formula_has-4.false
      (rw c.get-else-formula_has-4.ensures at c.formula_has-else-formula_has-4.ensures.exact)) c.in-Xor.is;
}

pub formula_has-returns-then-formula_has-5 : goal.formula_has-returns-then-formula_has-5
formula_has-returns-then-formula_has-5 t c = record {
  exact = in_nand c.args.i _ c.args.formula.now c.in-Nand.a c.in-Nand.b
      (first_occurs _ _ c.formula_has-in-Nand.result (rw c.get-in-Nand.ensures at c.formula_has-in-Nand.ensures.exact)
      c.if-formula_has-5.true) c.in-Nand.is;
}

pub formula_has-returns-else-formula_has-5 : goal.formula_has-returns-else-formula_has-5
formula_has-returns-else-formula_has-5 t c = record {
  exact = in_nand c.args.i _ c.args.formula.now c.in-Nand.a c.in-Nand.b
      (second_decides _ _ c.formula_has-in-Nand.result c.formula_has-else-formula_has-5.result
      (rw c.get-in-Nand.ensures at c.formula_has-in-Nand.ensures.exact) c.if-formula_has-5.false
      (rw c.get-else-formula_has-5.ensures at c.formula_has-else-formula_has-5.ensures.exact)) c.in-Nand.is;
}

pub formula_has-returns-then-formula_has-6 : goal.formula_has-returns-then-formula_has-6
formula_has-returns-then-formula_has-6 t c = record {
  exact = in_nor c.args.i _ c.args.formula.now c.in-Nor.a c.in-Nor.b
      (first_occurs _ _ c.formula_has-in-Nor.result (rw c.get-in-Nor.ensures at c.formula_has-in-Nor.ensures.exact)
      c.if-formula_has-6.true) c.in-Nor.is;
}

pub formula_has-returns-else-formula_has-6 : goal.formula_has-returns-else-formula_has-6
formula_has-returns-else-formula_has-6 t c = record {
  exact = in_nor c.args.i _ c.args.formula.now c.in-Nor.a c.in-Nor.b
      (second_decides _ _ c.formula_has-in-Nor.result c.formula_has-else-formula_has-6.result
      (rw c.get-in-Nor.ensures at c.formula_has-in-Nor.ensures.exact) c.if-formula_has-6.false
      (rw c.get-else-formula_has-6.ensures at c.formula_has-else-formula_has-6.ensures.exact)) c.in-Nor.is;
}

pub formula_has-returns-in-ForAll : goal.formula_has-returns-in-ForAll
formula_has-returns-in-ForAll t c = record {
  exact = in_for_all c.args.i _ c.args.formula.now c.in-ForAll.ty c.in-ForAll.body
      (rw c.get-in-ForAll.ensures at c.binder_has.ensures.exact) c.in-ForAll.is;
}

pub formula_has-returns-in-Exists : goal.formula_has-returns-in-Exists
formula_has-returns-in-Exists t c = record {
  exact = in_exists c.args.i _ c.args.formula.now c.in-Exists.ty c.in-Exists.body
      (rw c.get-in-Exists.ensures at c.binder_has-in-Exists.ensures.exact) c.in-Exists.is;
}

pub binder_has-returns-then-type_has : goal.binder_has-returns-then-type_has
binder_has-returns-then-type_has t c = record {
  exact = first_occurs _ _ c.type_has.result c.type_has.ensures.exact c.if-type_has.true;
}

pub binder_has-returns-else-type_has : goal.binder_has-returns-else-type_has
binder_has-returns-else-type_has t c = record {
  exact = second_decides _ _ c.type_has.result c.formula_has.result c.type_has.ensures.exact
      c.if-type_has.false c.formula_has.ensures.exact;
}
