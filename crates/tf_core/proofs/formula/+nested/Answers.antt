use Rattle.std.proofs.Common.{rules, sym, ap, ◌∙◌, arith}
use Rattle.tf_core.specs.declared.formula.Formula.TheViews.{the_lemmas}
use Rattle.tf_core.specs.Counts.{binder_count, depth}
use Rattle.tf_core.proofs.Counts.{depth-true, depth-false, depth-atom, depth-equal, depth-not, depth-and, depth-or, depth-implies, depth-if, depth-iff, depth-xor, depth-nand, depth-nor, depth-for_all, depth-exists, binder_sum-not, binder_sum-and, binder_sum-or, binder_sum-implies, binder_sum-if, binder_sum-iff, binder_sum-xor, binder_sum-nand, binder_sum-nor, binder_sum-for_all, binder_sum-exists}
use Rattle.tf_core.proofs.Depth.{depth_within, greatest-more, at_most_sum}
use Rattle.tf_core.proofs.formula.+nested.Goals as goal

pub Formula::nested-nested-requires : goal.Formula::nested-nested-requires
Formula::nested-nested-requires t c = (
  search (rules, the_lemmas),
  rw c.get.ensures
      (omega (arith, c.requires.bound, ap binder_count c.in-Not.is, binder_sum-not (λ ty. 1) c.in-Not.a)),
)

pub Formula::nested-most_nested-requires : goal.Formula::nested-most_nested-requires
Formula::nested-most_nested-requires t c = (
  search (rules, the_lemmas),
  rw c.as_slice.ensures
      (omega (arith, c.requires.bound, ap binder_count c.in-And.is, binder_sum-and (λ ty. 1) c.in-And.parts)),
)

pub Formula::nested-most_nested-requires-in-Or : goal.Formula::nested-most_nested-requires-in-Or
Formula::nested-most_nested-requires-in-Or t c = (
  search (rules, the_lemmas),
  rw c.as_slice-in-Or.ensures
      (omega (arith, c.requires.bound, ap binder_count c.in-Or.is, binder_sum-or (λ ty. 1) c.in-Or.parts)),
)

pub Formula::nested-nested-requires-in-Implies : goal.Formula::nested-nested-requires-in-Implies
Formula::nested-nested-requires-in-Implies t c = (
  search (rules, the_lemmas),
  rw c.get-in-Implies.ensures
      (omega (
        arith,
        c.requires.bound,
        ap binder_count c.in-Implies.is,
        binder_sum-implies (λ ty. 1) c.in-Implies.a c.in-Implies.b,
      )),
)

pub Formula::nested-nested-requires-in-Implies-2 : goal.Formula::nested-nested-requires-in-Implies-2
Formula::nested-nested-requires-in-Implies-2 t c = (
  search (rules, the_lemmas),
  rw c.get-in-Implies-2.ensures
      (omega (
        arith,
        c.requires.bound,
        ap binder_count c.in-Implies.is,
        binder_sum-implies (λ ty. 1) c.in-Implies.a c.in-Implies.b,
      )),
)

pub Formula::nested-nested-requires-in-If : goal.Formula::nested-nested-requires-in-If
Formula::nested-nested-requires-in-If t c = (
  search (rules, the_lemmas),
  rw c.get-in-If.ensures
      (omega (
        arith,
        c.requires.bound,
        ap binder_count c.in-If.is,
        binder_sum-if (λ ty. 1) c.in-If.a c.in-If.b,
      )),
)

pub Formula::nested-nested-requires-in-If-2 : goal.Formula::nested-nested-requires-in-If-2
Formula::nested-nested-requires-in-If-2 t c = (
  search (rules, the_lemmas),
  rw c.get-in-If-2.ensures
      (omega (
        arith,
        c.requires.bound,
        ap binder_count c.in-If.is,
        binder_sum-if (λ ty. 1) c.in-If.a c.in-If.b,
      )),
)

pub Formula::nested-nested-requires-in-Iff : goal.Formula::nested-nested-requires-in-Iff
Formula::nested-nested-requires-in-Iff t c = (
  search (rules, the_lemmas),
  rw c.get-in-Iff.ensures
      (omega (
        arith,
        c.requires.bound,
        ap binder_count c.in-Iff.is,
        binder_sum-iff (λ ty. 1) c.in-Iff.a c.in-Iff.b,
      )),
)

pub Formula::nested-nested-requires-in-Iff-2 : goal.Formula::nested-nested-requires-in-Iff-2
Formula::nested-nested-requires-in-Iff-2 t c = (
  search (rules, the_lemmas),
  rw c.get-in-Iff-2.ensures
      (omega (
        arith,
        c.requires.bound,
        ap binder_count c.in-Iff.is,
        binder_sum-iff (λ ty. 1) c.in-Iff.a c.in-Iff.b,
      )),
)

pub Formula::nested-nested-requires-in-Xor : goal.Formula::nested-nested-requires-in-Xor
Formula::nested-nested-requires-in-Xor t c = (
  search (rules, the_lemmas),
  rw c.get-in-Xor.ensures
      (omega (
        arith,
        c.requires.bound,
        ap binder_count c.in-Xor.is,
        binder_sum-xor (λ ty. 1) c.in-Xor.a c.in-Xor.b,
      )),
)

pub Formula::nested-nested-requires-in-Xor-2 : goal.Formula::nested-nested-requires-in-Xor-2
Formula::nested-nested-requires-in-Xor-2 t c = (
  search (rules, the_lemmas),
  rw c.get-in-Xor-2.ensures
      (omega (
        arith,
        c.requires.bound,
        ap binder_count c.in-Xor.is,
        binder_sum-xor (λ ty. 1) c.in-Xor.a c.in-Xor.b,
      )),
)

pub Formula::nested-nested-requires-in-Nand : goal.Formula::nested-nested-requires-in-Nand
Formula::nested-nested-requires-in-Nand t c = (
  search (rules, the_lemmas),
  rw c.get-in-Nand.ensures
      (omega (
        arith,
        c.requires.bound,
        ap binder_count c.in-Nand.is,
        binder_sum-nand (λ ty. 1) c.in-Nand.a c.in-Nand.b,
      )),
)

pub Formula::nested-nested-requires-in-Nand-2 : goal.Formula::nested-nested-requires-in-Nand-2
Formula::nested-nested-requires-in-Nand-2 t c = (
  search (rules, the_lemmas),
  rw c.get-in-Nand-2.ensures
      (omega (
        arith,
        c.requires.bound,
        ap binder_count c.in-Nand.is,
        binder_sum-nand (λ ty. 1) c.in-Nand.a c.in-Nand.b,
      )),
)

pub Formula::nested-nested-requires-in-Nor : goal.Formula::nested-nested-requires-in-Nor
Formula::nested-nested-requires-in-Nor t c = (
  search (rules, the_lemmas),
  rw c.get-in-Nor.ensures
      (omega (
        arith,
        c.requires.bound,
        ap binder_count c.in-Nor.is,
        binder_sum-nor (λ ty. 1) c.in-Nor.a c.in-Nor.b,
      )),
)

pub Formula::nested-nested-requires-in-Nor-2 : goal.Formula::nested-nested-requires-in-Nor-2
Formula::nested-nested-requires-in-Nor-2 t c = (
  search (rules, the_lemmas),
  rw c.get-in-Nor-2.ensures
      (omega (
        arith,
        c.requires.bound,
        ap binder_count c.in-Nor.is,
        binder_sum-nor (λ ty. 1) c.in-Nor.a c.in-Nor.b,
      )),
)

pub Formula::nested-nested-requires-in-ForAll : goal.Formula::nested-nested-requires-in-ForAll
Formula::nested-nested-requires-in-ForAll t c = (
  search (rules, the_lemmas),
  rw c.get-in-ForAll.ensures
      (omega (
        arith,
        c.requires.bound,
        ap binder_count c.in-ForAll.is,
        binder_sum-for_all (λ ty. 1) c.in-ForAll.field-0 c.in-ForAll.body,
      )),
)

pub Formula::nested-overflow_add-result : goal.Formula::nested-overflow_add-result
Formula::nested-overflow_add-result t c =
    omega (
      arith,
      c.requires.bound,
      c.nested-in-ForAll.ensures.exact,
      ap depth c.get-in-ForAll.ensures,
      depth_within c.in-ForAll.body,
      ap binder_count c.in-ForAll.is,
      binder_sum-for_all (λ ty. 1) c.in-ForAll.field-0 c.in-ForAll.body,
    )

pub Formula::nested-nested-requires-in-Exists : goal.Formula::nested-nested-requires-in-Exists
Formula::nested-nested-requires-in-Exists t c = (
  search (rules, the_lemmas),
  rw c.get-in-Exists.ensures
      (omega (
        arith,
        c.requires.bound,
        ap binder_count c.in-Exists.is,
        binder_sum-exists (λ ty. 1) c.in-Exists.field-0 c.in-Exists.body,
      )),
)

pub Formula::nested-overflow_add-result-in-Exists : goal.Formula::nested-overflow_add-result-in-Exists
Formula::nested-overflow_add-result-in-Exists t c =
    omega (
      arith,
      c.requires.bound,
      c.nested-in-Exists.ensures.exact,
      ap depth c.get-in-Exists.ensures,
      depth_within c.in-Exists.body,
      ap binder_count c.in-Exists.is,
      binder_sum-exists (λ ty. 1) c.in-Exists.field-0 c.in-Exists.body,
    )

pub Formula::nested-returns-in-True : goal.Formula::nested-returns-in-True
Formula::nested-returns-in-True t c =
    record { exact = sym (ap depth c.in-True.is ∙ depth-true) }

pub Formula::nested-returns-in-False : goal.Formula::nested-returns-in-False
Formula::nested-returns-in-False t c =
    record { exact = sym (ap depth c.in-False.is ∙ depth-false) }

pub Formula::nested-returns-in-Atom : goal.Formula::nested-returns-in-Atom
Formula::nested-returns-in-Atom t c =
    record { exact = sym (ap depth c.in-Atom.is ∙ depth-atom c.in-Atom.field-0 c.in-Atom.field-1 c.in-Atom.field-2) }

pub Formula::nested-returns-in-Equal : goal.Formula::nested-returns-in-Equal
Formula::nested-returns-in-Equal t c =
    record { exact = sym (ap depth c.in-Equal.is ∙ depth-equal c.in-Equal.field-0 c.in-Equal.field-1 c.in-Equal.field-2) }

pub Formula::nested-returns-in-Not : goal.Formula::nested-returns-in-Not
Formula::nested-returns-in-Not t c =
    record {
      exact = c.nested.ensures.exact ∙ ap depth c.get.ensures
          ∙ sym (ap depth c.in-Not.is ∙ depth-not c.in-Not.a);
    }

pub Formula::nested-returns-in-And : goal.Formula::nested-returns-in-And
Formula::nested-returns-in-And t c =
    record {
      exact = rw c.as_slice.ensures at c.most_nested.ensures.exact
          ∙ sym (ap depth c.in-And.is ∙ depth-and c.in-And.parts);
    }

pub Formula::nested-returns-in-Or : goal.Formula::nested-returns-in-Or
Formula::nested-returns-in-Or t c =
    record {
      exact = rw c.as_slice-in-Or.ensures at c.most_nested-in-Or.ensures.exact
          ∙ sym (ap depth c.in-Or.is ∙ depth-or c.in-Or.parts);
    }

pub Formula::nested-returns-in-Implies : goal.Formula::nested-returns-in-Implies
Formula::nested-returns-in-Implies t c =
    record {
      exact = omega (
        arith,
        c.greater.ensures,
        c.nested-in-Implies.ensures.exact,
        ap depth c.get-in-Implies.ensures,
        c.nested-in-Implies-2.ensures.exact,
        ap depth c.get-in-Implies-2.ensures,
        ap depth c.in-Implies.is,
        depth-implies c.in-Implies.a c.in-Implies.b,
      );
    }

pub Formula::nested-returns-in-If : goal.Formula::nested-returns-in-If
Formula::nested-returns-in-If t c =
    record {
      exact = omega (
        arith,
        c.greater-in-If.ensures,
        c.nested-in-If.ensures.exact,
        ap depth c.get-in-If.ensures,
        c.nested-in-If-2.ensures.exact,
        ap depth c.get-in-If-2.ensures,
        ap depth c.in-If.is,
        depth-if c.in-If.a c.in-If.b,
      );
    }

pub Formula::nested-returns-in-Iff : goal.Formula::nested-returns-in-Iff
Formula::nested-returns-in-Iff t c =
    record {
      exact = omega (
        arith,
        c.greater-in-Iff.ensures,
        c.nested-in-Iff.ensures.exact,
        ap depth c.get-in-Iff.ensures,
        c.nested-in-Iff-2.ensures.exact,
        ap depth c.get-in-Iff-2.ensures,
        ap depth c.in-Iff.is,
        depth-iff c.in-Iff.a c.in-Iff.b,
      );
    }

pub Formula::nested-returns-in-Xor : goal.Formula::nested-returns-in-Xor
Formula::nested-returns-in-Xor t c =
    record {
      exact = omega (
        arith,
        c.greater-in-Xor.ensures,
        c.nested-in-Xor.ensures.exact,
        ap depth c.get-in-Xor.ensures,
        c.nested-in-Xor-2.ensures.exact,
        ap depth c.get-in-Xor-2.ensures,
        ap depth c.in-Xor.is,
        depth-xor c.in-Xor.a c.in-Xor.b,
      );
    }

pub Formula::nested-returns-in-Nand : goal.Formula::nested-returns-in-Nand
Formula::nested-returns-in-Nand t c =
    record {
      exact = omega (
        arith,
        c.greater-in-Nand.ensures,
        c.nested-in-Nand.ensures.exact,
        ap depth c.get-in-Nand.ensures,
        c.nested-in-Nand-2.ensures.exact,
        ap depth c.get-in-Nand-2.ensures,
        ap depth c.in-Nand.is,
        depth-nand c.in-Nand.a c.in-Nand.b,
      );
    }

pub Formula::nested-returns-in-Nor : goal.Formula::nested-returns-in-Nor
Formula::nested-returns-in-Nor t c =
    record {
      exact = omega (
        arith,
        c.greater-in-Nor.ensures,
        c.nested-in-Nor.ensures.exact,
        ap depth c.get-in-Nor.ensures,
        c.nested-in-Nor-2.ensures.exact,
        ap depth c.get-in-Nor-2.ensures,
        ap depth c.in-Nor.is,
        depth-nor c.in-Nor.a c.in-Nor.b,
      );
    }

pub Formula::nested-returns-in-ForAll : goal.Formula::nested-returns-in-ForAll
Formula::nested-returns-in-ForAll t c =
    record {
      exact = omega (
        arith,
        c.nested-in-ForAll.ensures.exact,
        ap depth c.get-in-ForAll.ensures,
        ap depth c.in-ForAll.is,
        depth-for_all c.in-ForAll.field-0 c.in-ForAll.body,
      );
    }

pub Formula::nested-returns-in-Exists : goal.Formula::nested-returns-in-Exists
Formula::nested-returns-in-Exists t c =
    record {
      exact = omega (
        arith,
        c.nested-in-Exists.ensures.exact,
        ap depth c.get-in-Exists.ensures,
        ap depth c.in-Exists.is,
        depth-exists c.in-Exists.field-0 c.in-Exists.body,
      );
    }

pub most_nested-nested-requires : goal.most_nested-nested-requires
most_nested-nested-requires t c = (
  search (rules, the_lemmas),
  omega (
    arith,
    c.requires.bound,
    at_most_sum binder_count _ _ _ c.loop-part-test.true c.part-item.is,
  ),
)

pub most_nested-loop-part-preserved : goal.most_nested-loop-part-preserved
most_nested-loop-part-preserved t c =
    omega (
      arith,
      c.greater-most.ensures,
      c.loop-part.invariant,
      c.nested.ensures.exact,
      greatest-more depth _ _ _ c.loop-part-test.true c.part-item.is,
    )
