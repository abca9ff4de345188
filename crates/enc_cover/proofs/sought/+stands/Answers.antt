use Rattle.std.specs.Prelude.{◌+◌, ◌||◌, map}
use Rattle.std.specs.List.{list_any}
use Rattle.std.proofs.Common.{rules, sym, ap, ◌∙◌, arith}
use Rattle.tf_core.specs.declared.nnf.Nnf.TheViews.{the_lemmas}
use Rattle.tf_core.specs.Counts.{normal_depth, greatest}
use Rattle.tf_core.proofs.Counts.{normal_depth-and, normal_depth-or, normal_depth-for_all, normal_depth-exists}
use Rattle.tf_naked.specs.Standing.{is_covering, standing, stands, stands_in_application}
use Rattle.tf_naked.proofs.Standing.{stands-true, stands-false, stands-atom, stands-equation, stands-and, stands-or, stands-for_all, stands-exists}
use Rattle.enc_cover.specs.Calls.Sought.{stands_at}
use Rattle.enc_cover.proofs.Depth.{within_greatest}
use Rattle.enc_cover.proofs.sought.+stands.Goals as goal

pub stands-stands_in_parts-requires : goal.stands-stands_in_parts-requires
stands-stands_in_parts-requires t c = (
  search (rules, the_lemmas),
  (
    c.requires.few,
    omega (
      arith,
      c.requires.depth,
      ap normal_depth c.in-And.is,
      normal_depth-and c.in-And.parts,
      ap (λ xs. greatest (map normal_depth xs)) c.as_slice-in-And.ensures,
    ),
  ),
)

pub stands-stands_in_parts-requires-in-Or : goal.stands-stands_in_parts-requires-in-Or
stands-stands_in_parts-requires-in-Or t c = (
  search (rules, the_lemmas),
  (
    c.requires.few,
    omega (
      arith,
      c.requires.depth,
      ap normal_depth c.in-Or.is,
      normal_depth-or c.in-Or.parts,
      ap (λ xs. greatest (map normal_depth xs)) c.as_slice-in-Or.ensures,
    ),
  ),
)

pub stands-overflow_add-i : goal.stands-overflow_add-i
stands-overflow_add-i t c =
    omega (
      arith,
      c.requires.depth,
      ap normal_depth c.in-ForAll.is,
      normal_depth-for_all c.in-ForAll.field-0 c.in-ForAll.body,
    )

pub stands-stands-requires : goal.stands-stands-requires
stands-stands-requires t c = (
  search (rules, the_lemmas),
  (
    c.requires.few,
    omega (
      arith,
      c.requires.depth,
      ap normal_depth c.in-ForAll.is,
      normal_depth-for_all c.in-ForAll.field-0 c.in-ForAll.body,
      ap normal_depth c.get.ensures,
    ),
  ),
)

pub stands-overflow_add-i-in-Exists : goal.stands-overflow_add-i-in-Exists
stands-overflow_add-i-in-Exists t c =
    omega (
      arith,
      c.requires.depth,
      ap normal_depth c.in-Exists.is,
      normal_depth-exists c.in-Exists.field-0 c.in-Exists.body,
    )

pub stands-stands-requires-in-Exists : goal.stands-stands-requires-in-Exists
stands-stands-requires-in-Exists t c = (
  search (rules, the_lemmas),
  (
    c.requires.few,
    omega (
      arith,
      c.requires.depth,
      ap normal_depth c.in-Exists.is,
      normal_depth-exists c.in-Exists.field-0 c.in-Exists.body,
      ap normal_depth c.get-in-Exists.ensures,
    ),
  ),
)

pub stands-returns-in-True : goal.stands-returns-in-True
stands-returns-in-True t c =
    record {
      exact = sym (ap (λ p. stands c.args.signature.now is_covering p c.args.i) c.in-True.is
          ∙ stands-true c.args.signature.now is_covering c.args.i);
    }

pub stands-returns-in-False : goal.stands-returns-in-False
stands-returns-in-False t c =
    record {
      exact = sym (ap (λ p. stands c.args.signature.now is_covering p c.args.i) c.in-False.is
          ∙ stands-false c.args.signature.now is_covering c.args.i);
    }

pub stands-returns-in-Atom : goal.stands-returns-in-Atom
stands-returns-in-Atom t c =
    record {
      exact = c.stands_in_application.ensures.exact
          ∙ ap (λ terms. stands_in_application c.args.signature.now is_covering c.in-Atom.f
          (map (standing c.args.signature.now is_covering) terms) c.args.i) c.as_slice.ensures
          ∙ sym (ap (λ p. stands c.args.signature.now is_covering p c.args.i) c.in-Atom.is
          ∙ stands-atom c.args.signature.now is_covering c.in-Atom.field-0 c.in-Atom.f
          c.in-Atom.field-2 c.in-Atom.terms c.args.i);
    }

pub stands-returns-then-stands_in_side : goal.stands-returns-then-stands_in_side
stands-returns-then-stands_in_side t c =
    record {
      exact = c.if-stands_in_side.true
          ∙ sym (ap (λ p. stands c.args.signature.now is_covering p c.args.i) c.in-Equation.is
          ∙ stands-equation c.args.signature.now is_covering c.in-Equation.positive
          c.in-Equation.field-1 c.in-Equation.left c.in-Equation.right c.args.i
          ∙ ap (λ b. b || stands_at c.args.signature.now c.in-Equation.positive
          c.in-Equation.right c.args.i)
          (sym c.stands_in_side.ensures.exact ∙ c.if-stands_in_side.true));
    }

pub stands-returns-else-stands_in_side : goal.stands-returns-else-stands_in_side
stands-returns-else-stands_in_side t c =
    record {
      exact = c.stands_in_side-else-stands_in_side.ensures.exact
          ∙ sym (ap (λ p. stands c.args.signature.now is_covering p c.args.i) c.in-Equation.is
          ∙ stands-equation c.args.signature.now is_covering c.in-Equation.positive
          c.in-Equation.field-1 c.in-Equation.left c.in-Equation.right c.args.i
          ∙ ap (λ b. b || stands_at c.args.signature.now c.in-Equation.positive
          c.in-Equation.right c.args.i)
          (sym c.stands_in_side.ensures.exact ∙ c.if-stands_in_side.false));
    }

pub stands-returns-in-And : goal.stands-returns-in-And
stands-returns-in-And t c =
    record {
      exact = c.stands_in_parts.ensures.exact
          ∙ ap (list_any (λ part. stands c.args.signature.now is_covering part c.args.i))
          c.as_slice-in-And.ensures
          ∙ sym (ap (λ p. stands c.args.signature.now is_covering p c.args.i) c.in-And.is
          ∙ stands-and c.args.signature.now is_covering c.in-And.parts c.args.i);
    }

pub stands-returns-in-Or : goal.stands-returns-in-Or
stands-returns-in-Or t c =
    record {
      exact = c.stands_in_parts-in-Or.ensures.exact
          ∙ ap (list_any (λ part. stands c.args.signature.now is_covering part c.args.i))
          c.as_slice-in-Or.ensures
          ∙ sym (ap (λ p. stands c.args.signature.now is_covering p c.args.i) c.in-Or.is
          ∙ stands-or c.args.signature.now is_covering c.in-Or.parts c.args.i);
    }

pub stands-returns-in-ForAll : goal.stands-returns-in-ForAll
stands-returns-in-ForAll t c =
    record {
      exact = c.stands.ensures.exact
          ∙ ap (λ p. stands c.args.signature.now is_covering p (c.args.i + 1)) c.get.ensures
          ∙ sym (ap (λ p. stands c.args.signature.now is_covering p c.args.i) c.in-ForAll.is
          ∙ stands-for_all c.args.signature.now is_covering c.in-ForAll.field-0 c.in-ForAll.body
          c.args.i);
    }

pub stands-returns-in-Exists : goal.stands-returns-in-Exists
stands-returns-in-Exists t c =
    record {
      exact = c.stands-in-Exists.ensures.exact
          ∙ ap (λ p. stands c.args.signature.now is_covering p (c.args.i + 1)) c.get-in-Exists.ensures
          ∙ sym (ap (λ p. stands c.args.signature.now is_covering p c.args.i) c.in-Exists.is
          ∙ stands-exists c.args.signature.now is_covering c.in-Exists.field-0 c.in-Exists.body
          c.args.i);
    }

pub stands_in_parts-stands-requires : goal.stands_in_parts-stands-requires
stands_in_parts-stands-requires t c = (
  search (rules, the_lemmas),
  (
    c.requires.few,
    omega (
      arith,
      c.requires.depth,
      within_greatest c.args.parts.now c.loop-part.part-index c.part-item.result
          c.loop-part-test.true c.part-item.is,
    ),
  ),
)
