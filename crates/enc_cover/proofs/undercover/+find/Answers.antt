use Rattle.std.specs.Prelude.{map}
use Rattle.std.proofs.Common.{rules, sym, ap, ◌∙◌, arith}
use Rattle.tf_core.specs.declared.nnf.Nnf.TheViews.{the_lemmas}
use Rattle.tf_core.specs.Counts.{normal_depth, greatest}
use Rattle.tf_core.specs.Sorts.{joined}
use Rattle.tf_core.proofs.Counts.{normal_depth-and, normal_depth-or, normal_depth-for_all, normal_depth-exists}
use Rattle.enc_cover.specs.Undercover.{undercover_binders}
use Rattle.enc_cover.specs.Calls.Passed.{sought}
use Rattle.enc_cover.proofs.Binders.{undercover_binders-true, undercover_binders-false, undercover_binders-atom, undercover_binders-equation, undercover_binders-and, undercover_binders-or, undercover_binders-for_all, undercover_binders-exists, sought-part_found, sought-part_passed}
use Rattle.enc_cover.proofs.Depth.{within_greatest}
use Rattle.enc_cover.proofs.undercover.+find.Goals as goal

pub find-find_in_parts-requires : goal.find-find_in_parts-requires
find-find_in_parts-requires t c = (
  search (rules, the_lemmas),
  (
    c.requires.few,
    omega (
      arith,
      c.requires.depth,
      ap normal_depth c.in-And.is,
      normal_depth-and c.in-And.parts,
      ap (λ xs. greatest (map normal_depth xs)) c.as_slice.ensures,
    ),
  ),
)

pub find-find_in_parts-requires-in-Or : goal.find-find_in_parts-requires-in-Or
find-find_in_parts-requires-in-Or t c = (
  search (rules, the_lemmas),
  (
    c.requires.few,
    omega (
      arith,
      c.requires.depth,
      ap normal_depth c.in-Or.is,
      normal_depth-or c.in-Or.parts,
      ap (λ xs. greatest (map normal_depth xs)) c.as_slice-in-Or.ensures,
    ),
  ),
)

pub find-find_from-requires : goal.find-find_from-requires
find-find_from-requires t c = (
  search (rules, the_lemmas),
  (
    c.requires.few,
    omega (
      arith,
      c.requires.depth,
      ap normal_depth c.in-ForAll.is,
      normal_depth-for_all c.in-ForAll.field-0 c.in-ForAll.body,
    ),
  ),
)

pub find-find_from-requires-in-Exists : goal.find-find_from-requires-in-Exists
find-find_from-requires-in-Exists t c = (
  search (rules, the_lemmas),
  (
    c.requires.few,
    omega (
      arith,
      c.requires.depth,
      ap normal_depth c.in-Exists.is,
      normal_depth-exists c.in-Exists.field-0 c.in-Exists.body,
    ),
  ),
)

pub find-returns-in-True : goal.find-returns-in-True
find-returns-in-True t c =
    record {
      exact = sym (ap (λ xs. sought xs c.args.before)
          (ap (undercover_binders c.args.signature.now) c.in-True.is
          ∙ undercover_binders-true c.args.signature.now));
    }

pub find-returns-in-False : goal.find-returns-in-False
find-returns-in-False t c =
    record {
      exact = sym (ap (λ xs. sought xs c.args.before)
          (ap (undercover_binders c.args.signature.now) c.in-False.is
          ∙ undercover_binders-false c.args.signature.now));
    }

pub find-returns-in-Atom : goal.find-returns-in-Atom
find-returns-in-Atom t c =
    record {
      exact = sym (ap (λ xs. sought xs c.args.before)
          (ap (undercover_binders c.args.signature.now) c.in-Atom.is
          ∙ undercover_binders-atom c.args.signature.now c.in-Atom.field-0 c.in-Atom.field-1
          c.in-Atom.field-2 c.in-Atom.field-3));
    }

pub find-returns-in-Equation : goal.find-returns-in-Equation
find-returns-in-Equation t c =
    record {
      exact = sym (ap (λ xs. sought xs c.args.before)
          (ap (undercover_binders c.args.signature.now) c.in-Equation.is
          ∙ undercover_binders-equation c.args.signature.now c.in-Equation.field-0
          c.in-Equation.field-1 c.in-Equation.field-2 c.in-Equation.field-3));
    }

pub find-returns-in-And : goal.find-returns-in-And
find-returns-in-And t c =
    record {
      exact = c.find_in_parts.ensures.exact
          ∙ ap (λ xs. sought xs c.args.before)
          (ap (λ parts. joined (map (undercover_binders c.args.signature.now) parts))
          c.as_slice.ensures
          ∙ sym (ap (undercover_binders c.args.signature.now) c.in-And.is
          ∙ undercover_binders-and c.args.signature.now c.in-And.parts));
    }

pub find-returns-in-Or : goal.find-returns-in-Or
find-returns-in-Or t c =
    record {
      exact = c.find_in_parts-in-Or.ensures.exact
          ∙ ap (λ xs. sought xs c.args.before)
          (ap (λ parts. joined (map (undercover_binders c.args.signature.now) parts))
          c.as_slice-in-Or.ensures
          ∙ sym (ap (undercover_binders c.args.signature.now) c.in-Or.is
          ∙ undercover_binders-or c.args.signature.now c.in-Or.parts));
    }

pub find-returns-in-ForAll : goal.find-returns-in-ForAll
find-returns-in-ForAll t c =
    record {
      exact = c.find_from.ensures.exact
          ∙ sym (ap (λ xs. sought xs c.args.before)
          (ap (undercover_binders c.args.signature.now) c.in-ForAll.is
          ∙ undercover_binders-for_all c.args.signature.now c.in-ForAll.field-0
          c.in-ForAll.body));
    }

pub find-returns-in-Exists : goal.find-returns-in-Exists
find-returns-in-Exists t c =
    record {
      exact = c.find_from-in-Exists.ensures.exact
          ∙ sym (ap (λ xs. sought xs c.args.before)
          (ap (undercover_binders c.args.signature.now) c.in-Exists.is
          ∙ undercover_binders-exists c.args.signature.now c.in-Exists.field-0
          c.in-Exists.body));
    }

pub find_in_parts-find-requires : goal.find_in_parts-find-requires
find_in_parts-find-requires t c = (
  search (rules, the_lemmas),
  (
    c.requires.few,
    omega (
      arith,
      c.requires.depth,
      within_greatest c.args.parts.now c.loop-part.part-index c.part-item.result
          c.loop-part-test.true c.part-item.is,
    ),
  ),
)

pub find_in_parts-returns-in-Found : goal.find_in_parts-returns-in-Found
find_in_parts-returns-in-Found t c =
    record {
      exact = sym (c.loop-part.invariant
          ∙ sought-part_found (undercover_binders c.args.signature.now) c.args.parts.now
          c.loop-part.part-index c.loop-part.left c.part-item.result c.loop-part-test.true
          c.part-item.is c.in-Found.undercover (sym c.find.ensures.exact ∙ c.in-Found.is));
    }

pub find_in_parts-loop-part-preserved : goal.find_in_parts-loop-part-preserved
find_in_parts-loop-part-preserved t c =
    c.loop-part.invariant
    ∙ sought-part_passed (undercover_binders c.args.signature.now) c.args.parts.now
    c.loop-part.part-index c.loop-part.left c.part-item.result c.loop-part-test.true
    c.part-item.is c.in-Left.behind (sym c.find.ensures.exact ∙ c.in-Left.is)
