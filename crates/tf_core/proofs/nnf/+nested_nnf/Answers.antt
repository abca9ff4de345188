use Rattle.std.proofs.Common.{rules, sym, ap, ◌∙◌, arith}
use Rattle.tf_core.specs.declared.nnf.Nnf.TheViews.{the_lemmas}
use Rattle.tf_core.specs.Counts.{normal_binder_count, normal_depth}
use Rattle.tf_core.proofs.Counts.{normal_depth-true, normal_depth-false, normal_depth-atom, normal_depth-equation, normal_depth-and, normal_depth-or, normal_depth-for_all, normal_depth-exists, normal_sum-and, normal_sum-or, normal_sum-for_all, normal_sum-exists}
use Rattle.tf_core.proofs.Depth.{normal_depth_within, greatest-more, at_most_sum}
use Rattle.tf_core.proofs.nnf.+nested_nnf.Goals as goal

pub Nnf::nested-most_nested-requires : goal.Nnf::nested-most_nested-requires
Nnf::nested-most_nested-requires t c = (
  search (rules, the_lemmas),
  rw c.as_slice.ensures
      (omega (
        arith,
        c.requires.bound,
        ap normal_binder_count c.in-And.is,
        normal_sum-and 1 0 c.in-And.parts,
      )),
)

pub Nnf::nested-most_nested-requires-in-Or : goal.Nnf::nested-most_nested-requires-in-Or
Nnf::nested-most_nested-requires-in-Or t c = (
  search (rules, the_lemmas),
  rw c.as_slice-in-Or.ensures
      (omega (
        arith,
        c.requires.bound,
        ap normal_binder_count c.in-Or.is,
        normal_sum-or 1 0 c.in-Or.parts,
      )),
)

pub Nnf::nested-nested-requires : goal.Nnf::nested-nested-requires
Nnf::nested-nested-requires t c = (
  search (rules, the_lemmas),
  rw c.get.ensures
      (omega (
        arith,
        c.requires.bound,
        ap normal_binder_count c.in-ForAll.is,
        normal_sum-for_all 1 0 c.in-ForAll.field-0 c.in-ForAll.body,
      )),
)

pub Nnf::nested-overflow_add-result : goal.Nnf::nested-overflow_add-result
Nnf::nested-overflow_add-result t c =
    omega (
      arith,
      c.requires.bound,
      c.nested.ensures.exact,
      ap normal_depth c.get.ensures,
      normal_depth_within c.in-ForAll.body,
      ap normal_binder_count c.in-ForAll.is,
      normal_sum-for_all 1 0 c.in-ForAll.field-0 c.in-ForAll.body,
    )

pub Nnf::nested-returns-in-ForAll : goal.Nnf::nested-returns-in-ForAll
Nnf::nested-returns-in-ForAll t c =
    record {
      exact = omega (
        arith,
        c.nested.ensures.exact,
        ap normal_depth c.get.ensures,
        ap normal_depth c.in-ForAll.is,
        normal_depth-for_all c.in-ForAll.field-0 c.in-ForAll.body,
      );
    }

pub Nnf::nested-nested-requires-in-Exists : goal.Nnf::nested-nested-requires-in-Exists
Nnf::nested-nested-requires-in-Exists t c = (
  search (rules, the_lemmas),
  rw c.get-in-Exists.ensures
      (omega (
        arith,
        c.requires.bound,
        ap normal_binder_count c.in-Exists.is,
        normal_sum-exists 1 0 c.in-Exists.field-0 c.in-Exists.body,
      )),
)

pub Nnf::nested-overflow_add-result-in-Exists : goal.Nnf::nested-overflow_add-result-in-Exists
Nnf::nested-overflow_add-result-in-Exists t c =
    omega (
      arith,
      c.requires.bound,
      c.nested-in-Exists.ensures.exact,
      ap normal_depth c.get-in-Exists.ensures,
      normal_depth_within c.in-Exists.body,
      ap normal_binder_count c.in-Exists.is,
      normal_sum-exists 1 0 c.in-Exists.field-0 c.in-Exists.body,
    )

pub Nnf::nested-returns-in-Exists : goal.Nnf::nested-returns-in-Exists
Nnf::nested-returns-in-Exists t c =
    record {
      exact = omega (
        arith,
        c.nested-in-Exists.ensures.exact,
        ap normal_depth c.get-in-Exists.ensures,
        ap normal_depth c.in-Exists.is,
        normal_depth-exists c.in-Exists.field-0 c.in-Exists.body,
      );
    }

pub Nnf::nested-returns-in-True : goal.Nnf::nested-returns-in-True
Nnf::nested-returns-in-True t c =
    record {
      exact = sym (ap normal_depth c.in-True.is ∙ normal_depth-true);
    }

pub Nnf::nested-returns-in-False : goal.Nnf::nested-returns-in-False
Nnf::nested-returns-in-False t c =
    record {
      exact = sym (ap normal_depth c.in-False.is ∙ normal_depth-false);
    }

pub Nnf::nested-returns-in-Atom : goal.Nnf::nested-returns-in-Atom
Nnf::nested-returns-in-Atom t c =
    record {
      exact = sym (ap normal_depth c.in-Atom.is ∙ normal_depth-atom c.in-Atom.field-0 c.in-Atom.field-1 c.in-Atom.field-2 c.in-Atom.field-3);
    }

pub Nnf::nested-returns-in-Equation : goal.Nnf::nested-returns-in-Equation
Nnf::nested-returns-in-Equation t c =
    record {
      exact = sym (ap normal_depth c.in-Equation.is ∙ normal_depth-equation c.in-Equation.field-0 c.in-Equation.field-1 c.in-Equation.field-2
          c.in-Equation.field-3);
    }

pub Nnf::nested-returns-in-And : goal.Nnf::nested-returns-in-And
Nnf::nested-returns-in-And t c =
    record {
      exact = rw c.as_slice.ensures at c.most_nested.ensures.exact
          ∙ sym (ap normal_depth c.in-And.is ∙ normal_depth-and c.in-And.parts);
    }

pub Nnf::nested-returns-in-Or : goal.Nnf::nested-returns-in-Or
Nnf::nested-returns-in-Or t c =
    record {
      exact = rw c.as_slice-in-Or.ensures at c.most_nested-in-Or.ensures.exact
          ∙ sym (ap normal_depth c.in-Or.is ∙ normal_depth-or c.in-Or.parts);
    }

pub most_nested-nested-requires : goal.most_nested-nested-requires
most_nested-nested-requires t c = (
  search (rules, the_lemmas),
  omega (
    arith,
    c.requires.bound,
    at_most_sum normal_binder_count _ _ _ c.loop-part-test.true c.part-item.is,
  ),
)

pub most_nested-loop-part-preserved : goal.most_nested-loop-part-preserved
most_nested-loop-part-preserved t c =
    omega (
      arith,
      c.greater-most.ensures,
      c.loop-part.invariant,
      c.nested.ensures.exact,
      greatest-more normal_depth _ _ _ c.loop-part-test.true c.part-item.is,
    )
