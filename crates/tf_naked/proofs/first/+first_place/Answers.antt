use Rattle.std.proofs.Common.{rules, map, sym, ap, ◌∙◌}
use Rattle.tf_core.specs.declared.nnf.Nnf.TheViews.{the_lemmas}
use Rattle.tf_core.specs.Sorts.{joined}
use Rattle.tf_naked.specs.declared.position.Kind.TheVariants.{Universal, Existential}
use Rattle.tf_naked.specs.declared.kinds.Frames.TheVariants.{Inside}
use Rattle.tf_naked.specs.Naked.{equations_of}
use Rattle.tf_naked.specs.Standing.{kind_of}
use Rattle.tf_naked.specs.Calls.Frames.{kinds_of}
use Rattle.tf_naked.specs.Calls.Walked.{walked, walked_side, first_side}
use Rattle.tf_naked.proofs.Frames.{kinds_of-inside}
use Rattle.tf_naked.proofs.Naked.{equations_of-true, equations_of-false, equations_of-atom, equations_of-equation, equations_of-and, equations_of-or, equations_of-for_all, equations_of-exists}
use Rattle.tf_naked.proofs.Walked.{walked-none, walked-equation, as_few, walked-part_found, walked-part_passed, counted-part_passed}
use Rattle.tf_naked.proofs.first.+first_place.Goals as goal

pub first_in_parts-returns-in-Found : goal.first_in_parts-returns-in-Found
first_in_parts-returns-in-Found t c =
    walked-part_found (kinds_of c.args.frames.now) c.args.parts.now c.loop-part.part-index
    c.args.formula c.loop-part.next c.part-item.result c.loop-part-test.true c.part-item.is
    c.in-Found.place c.in-Found.ensures
    ∙ c.loop-part.invariant.walked

pub first_in_parts-loop-part-preserved : goal.first_in_parts-loop-part-preserved
first_in_parts-loop-part-preserved t c =
    record {
      walked = walked-part_passed (kinds_of c.args.frames.now) c.args.parts.now
          c.loop-part.part-index c.args.formula c.loop-part.next c.part-item.result
          c.loop-part-test.true c.part-item.is c.in-Passed.number c.in-Passed.ensures
          ∙ c.loop-part.invariant.walked;
      counted = counted-part_passed (kinds_of c.args.frames.now) c.args.parts.now
          c.loop-part.part-index c.args.formula c.loop-part.next c.part-item.result
          c.loop-part-test.true c.part-item.is c.in-Passed.number c.in-Passed.ensures
          ∙ c.loop-part.invariant.counted;
    }

pub first_place-first_in_parts-requires : goal.first_place-first_in_parts-requires
first_place-first_in_parts-requires t c = (
  search (rules, the_lemmas),
  as_few c.args.number _ _
      (ap (λ p. equations_of p (kinds_of c.args.frames.now)) c.in-And.is
      ∙ equations_of-and c.in-And.parts (kinds_of c.args.frames.now)
      ∙ sym (ap (λ parts. joined (map (λ part. equations_of part (kinds_of c.args.frames.now))
      parts)) c.as_slice.ensures))
      c.requires.few,
)

pub first_place-first_in_parts-requires-in-Or : goal.first_place-first_in_parts-requires-in-Or
first_place-first_in_parts-requires-in-Or t c = (
  search (rules, the_lemmas),
  as_few c.args.number _ _
      (ap (λ p. equations_of p (kinds_of c.args.frames.now)) c.in-Or.is
      ∙ equations_of-or c.in-Or.parts (kinds_of c.args.frames.now)
      ∙ sym (ap (λ parts. joined (map (λ part. equations_of part (kinds_of c.args.frames.now))
      parts)) c.as_slice-in-Or.ensures))
      c.requires.few,
)

pub first_place-first_place-requires : goal.first_place-first_place-requires
first_place-first_place-requires t c = (
  search (rules, the_lemmas),
  as_few c.args.number _ _
      (ap (λ p. equations_of p (kinds_of c.args.frames.now)) c.in-ForAll.is
      ∙ equations_of-for_all c.in-ForAll.field-0 c.in-ForAll.body (kinds_of c.args.frames.now)
      ∙ sym (ap (λ p. equations_of p (kinds_of (Inside Universal c.args.frames))) c.get.ensures
      ∙ ap (equations_of c.in-ForAll.body) (kinds_of-inside Universal c.args.frames)))
      c.requires.few,
)

pub first_place-first_place-requires-in-Exists : goal.first_place-first_place-requires-in-Exists
first_place-first_place-requires-in-Exists t c = (
  search (rules, the_lemmas),
  as_few c.args.number _ _
      (ap (λ p. equations_of p (kinds_of c.args.frames.now)) c.in-Exists.is
      ∙ equations_of-exists c.in-Exists.field-0 c.in-Exists.body (kinds_of c.args.frames.now)
      ∙ sym (ap (λ p. equations_of p (kinds_of (Inside Existential c.args.frames)))
      c.get-in-Exists.ensures
      ∙ ap (equations_of c.in-Exists.body) (kinds_of-inside Existential c.args.frames)))
      c.requires.few,
)

pub first_place-returns-in-True : goal.first_place-returns-in-True
first_place-returns-in-True t c =
    walked-none c.args.formula c.args.number _
    (ap (λ p. equations_of p (kinds_of c.args.frames.now)) c.in-True.is
    ∙ equations_of-true (kinds_of c.args.frames.now))

pub first_place-returns-in-False : goal.first_place-returns-in-False
first_place-returns-in-False t c =
    walked-none c.args.formula c.args.number _
    (ap (λ p. equations_of p (kinds_of c.args.frames.now)) c.in-False.is
    ∙ equations_of-false (kinds_of c.args.frames.now))

pub first_place-returns-in-Atom : goal.first_place-returns-in-Atom
first_place-returns-in-Atom t c =
    walked-none c.args.formula c.args.number _
    (ap (λ p. equations_of p (kinds_of c.args.frames.now)) c.in-Atom.is
    ∙ equations_of-atom c.in-Atom.field-0 c.in-Atom.field-1 c.in-Atom.field-2 c.in-Atom.field-3
    (kinds_of c.args.frames.now))

pub first_place-returns-in-Equation : goal.first_place-returns-in-Equation
first_place-returns-in-Equation t c =
    c.place_of_side.ensures
    ∙ ap (walked_side c.args.formula c.args.number) c.first_side.ensures
    ∙ walked-equation c.args.formula c.args.number c.in-Equation.positive c.in-Equation.field-1
    (kind_of (kinds_of c.args.frames.now) c.in-Equation.left)
    (kind_of (kinds_of c.args.frames.now) c.in-Equation.right)
    ∙ sym (ap (walked c.args.formula c.args.number)
    (ap (λ p. equations_of p (kinds_of c.args.frames.now)) c.in-Equation.is
    ∙ equations_of-equation c.in-Equation.positive c.in-Equation.field-1 c.in-Equation.left
    c.in-Equation.right (kinds_of c.args.frames.now)))

pub first_place-returns-in-And : goal.first_place-returns-in-And
first_place-returns-in-And t c =
    c.first_in_parts.ensures
    ∙ ap (λ parts. walked c.args.formula c.args.number
    (joined (map (λ part. equations_of part (kinds_of c.args.frames.now)) parts)))
    c.as_slice.ensures
    ∙ sym (ap (walked c.args.formula c.args.number)
    (ap (λ p. equations_of p (kinds_of c.args.frames.now)) c.in-And.is
    ∙ equations_of-and c.in-And.parts (kinds_of c.args.frames.now)))

pub first_place-returns-in-Or : goal.first_place-returns-in-Or
first_place-returns-in-Or t c =
    c.first_in_parts-in-Or.ensures
    ∙ ap (λ parts. walked c.args.formula c.args.number
    (joined (map (λ part. equations_of part (kinds_of c.args.frames.now)) parts)))
    c.as_slice-in-Or.ensures
    ∙ sym (ap (walked c.args.formula c.args.number)
    (ap (λ p. equations_of p (kinds_of c.args.frames.now)) c.in-Or.is
    ∙ equations_of-or c.in-Or.parts (kinds_of c.args.frames.now)))

pub first_place-returns-in-ForAll : goal.first_place-returns-in-ForAll
first_place-returns-in-ForAll t c =
    c.first_place.ensures
    ∙ ap (λ p. walked c.args.formula c.args.number
    (equations_of p (kinds_of (Inside Universal c.args.frames)))) c.get.ensures
    ∙ ap (λ kinds. walked c.args.formula c.args.number (equations_of c.in-ForAll.body kinds))
    (kinds_of-inside Universal c.args.frames)
    ∙ sym (ap (walked c.args.formula c.args.number)
    (ap (λ p. equations_of p (kinds_of c.args.frames.now)) c.in-ForAll.is
    ∙ equations_of-for_all c.in-ForAll.field-0 c.in-ForAll.body (kinds_of c.args.frames.now)))

pub first_place-returns-in-Exists : goal.first_place-returns-in-Exists
first_place-returns-in-Exists t c =
    c.first_place-in-Exists.ensures
    ∙ ap (λ p. walked c.args.formula c.args.number
    (equations_of p (kinds_of (Inside Existential c.args.frames)))) c.get-in-Exists.ensures
    ∙ ap (λ kinds. walked c.args.formula c.args.number (equations_of c.in-Exists.body kinds))
    (kinds_of-inside Existential c.args.frames)
    ∙ sym (ap (walked c.args.formula c.args.number)
    (ap (λ p. equations_of p (kinds_of c.args.frames.now)) c.in-Exists.is
    ∙ equations_of-exists c.in-Exists.field-0 c.in-Exists.body (kinds_of c.args.frames.now)))
