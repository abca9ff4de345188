use Rattle.std.proofs.Common.{◌+◌, ◌++◌, ◌∷◌, drop, map, sym, ap, ◌∙◌}
use Rattle.std.specs.Prelude.{Result, Ok, Err}
use Rattle.std.specs.Result.{OnOk}
use Rattle.tf_core.specs.Sorts.{joined}
use Rattle.tf_naked.specs.Binders.{universal_binders}
use Rattle.tf_naked.specs.Calls.Noted.{noted, uses_in_parts, uses_in_application, uses_at}
use Rattle.tf_naked.specs.declared.position.Position.TheVariants.{Side}
use Rattle.tf_naked.proofs.Binders.{universal_binders-true, universal_binders-false, universal_binders-atom, universal_binders-equation, universal_binders-and, universal_binders-or, universal_binders-for_all, universal_binders-exists, append-none, joined-step, joined-end, set-placed}
use Rattle.tf_naked.proofs.Noted.{noted-true, noted-false, noted-atom, noted-equation, noted-and, noted-or, noted-for_all, noted-exists, noted-parts_end, noted-part_at}
use Rattle.tf_naked.proofs.finding.+find.Goals as goal

-- what holds where there is an answer, changed
on_ok : {T E : Type 0} (r : Result T E) (P Q : Type 0) → OnOk r P → (P → Q) → OnOk r Q
on_ok (Ok value) P Q holds changed = changed holds
on_ok (Err error) P Q holds changed = tt

pub find-returns-in-True-clause-found : goal.find-returns-in-True-clause-found
find-returns-in-True-clause-found t c =
    append-none c.args.found.now.items _
    (ap (universal_binders c.args.scope.now.signature.now) c.in-True.is
    ∙ universal_binders-true c.args.scope.now.signature.now)

pub find-returns-in-False-clause-found : goal.find-returns-in-False-clause-found
find-returns-in-False-clause-found t c =
    append-none c.args.found.now.items _
    (ap (universal_binders c.args.scope.now.signature.now) c.in-False.is
    ∙ universal_binders-false c.args.scope.now.signature.now)

pub find-returns-in-Atom-clause-found : goal.find-returns-in-Atom-clause-found
find-returns-in-Atom-clause-found t c =
    append-none c.args.found.now.items _
    (ap (universal_binders c.args.scope.now.signature.now) c.in-Atom.is
    ∙ universal_binders-atom c.args.scope.now.signature.now c.in-Atom.field-0 c.in-Atom.f
    c.in-Atom.field-2 c.in-Atom.terms)

pub find-returns-in-Equation-clause-found : goal.find-returns-in-Equation-clause-found
find-returns-in-Equation-clause-found t c =
    append-none c.args.found.now.items _
    (ap (universal_binders c.args.scope.now.signature.now) c.in-Equation.is
    ∙ universal_binders-equation c.args.scope.now.signature.now c.in-Equation.positive
    c.in-Equation.field-1 c.in-Equation.left c.in-Equation.right)

pub find-returns-in-True-clause-noted : goal.find-returns-in-True-clause-noted
find-returns-in-True-clause-noted t c =
    noted-true c.args.scope.now.signature.now c.args.formula.now c.args.around.now c.in-True.is

pub find-returns-in-False-clause-noted : goal.find-returns-in-False-clause-noted
find-returns-in-False-clause-noted t c =
    noted-false c.args.scope.now.signature.now c.args.formula.now c.args.around.now c.in-False.is

pub find-returns-in-Atom-clause-noted : goal.find-returns-in-Atom-clause-noted
find-returns-in-Atom-clause-noted t c =
    c.note_application.ensures
    ∙ ap (λ terms. noted (uses_in_application c.args.scope.now.signature.now c.in-Atom.f terms)
    c.args.around.now)
    c.as_slice.ensures
    ∙ noted-atom c.args.scope.now.signature.now c.args.formula.now c.args.around.now
    c.in-Atom.field-0 c.in-Atom.f c.in-Atom.field-2 c.in-Atom.terms c.in-Atom.is

pub find-returns-in-Equation-clause-noted : goal.find-returns-in-Equation-clause-noted
find-returns-in-Equation-clause-noted t c =
    c.note_term-in-Equation.ensures
    ∙ ap (noted (uses_at c.args.scope.now.signature.now (Side c.in-Equation.positive)
    c.in-Equation.right))
    c.note_term.ensures
    ∙ noted-equation c.args.scope.now.signature.now c.args.formula.now c.args.around.now
    c.in-Equation.positive c.in-Equation.field-1 c.in-Equation.left c.in-Equation.right
    c.in-Equation.is

pub find-returns-in-And-clause-found : goal.find-returns-in-And-clause-found
find-returns-in-And-clause-found t c =
    on_ok c.find_in_parts.result _ _ c.find_in_parts.ensures.found
    (λ found. found
    ∙ ap (λ xs. c.args.found.now.items ++ xs)
    (ap (λ parts. joined (map (universal_binders c.args.scope.now.signature.now) parts)) c.as_slice-in-And.ensures
    ∙ sym (ap (universal_binders c.args.scope.now.signature.now) c.in-And.is
    ∙ universal_binders-and c.args.scope.now.signature.now c.in-And.parts)))

pub find-returns-in-And-clause-noted : goal.find-returns-in-And-clause-noted
find-returns-in-And-clause-noted t c =
    on_ok c.find_in_parts.result _ _ c.find_in_parts.ensures.noted
    (λ notes. notes
    ∙ ap (λ parts. noted (uses_in_parts c.args.scope.now.signature.now parts) c.args.around.now)
    c.as_slice-in-And.ensures
    ∙ noted-and c.args.scope.now.signature.now c.args.formula.now c.args.around.now c.in-And.parts
    c.in-And.is)

pub find-returns-in-Or-clause-found : goal.find-returns-in-Or-clause-found
find-returns-in-Or-clause-found t c =
    on_ok c.find_in_parts-in-Or.result _ _ c.find_in_parts-in-Or.ensures.found
    (λ found. found
    ∙ ap (λ xs. c.args.found.now.items ++ xs)
    (ap (λ parts. joined (map (universal_binders c.args.scope.now.signature.now) parts)) c.as_slice-in-Or.ensures
    ∙ sym (ap (universal_binders c.args.scope.now.signature.now) c.in-Or.is
    ∙ universal_binders-or c.args.scope.now.signature.now c.in-Or.parts)))

pub find-returns-in-Or-clause-noted : goal.find-returns-in-Or-clause-noted
find-returns-in-Or-clause-noted t c =
    on_ok c.find_in_parts-in-Or.result _ _ c.find_in_parts-in-Or.ensures.noted
    (λ notes. notes
    ∙ ap (λ parts. noted (uses_in_parts c.args.scope.now.signature.now parts) c.args.around.now)
    c.as_slice-in-Or.ensures
    ∙ noted-or c.args.scope.now.signature.now c.args.formula.now c.args.around.now c.in-Or.parts
    c.in-Or.is)

pub find-returns-in-ForAll-clause-found : goal.find-returns-in-ForAll-clause-found
find-returns-in-ForAll-clause-found t c =
    on_ok c.find_universal.result _ _ c.find_universal.ensures.found
    (λ found. found
    ∙ ap (λ xs. c.args.found.now.items ++ xs)
    (sym (ap (universal_binders c.args.scope.now.signature.now) c.in-ForAll.is
    ∙ universal_binders-for_all c.args.scope.now.signature.now c.in-ForAll.field-0
    c.in-ForAll.body)))

pub find-returns-in-ForAll-clause-noted : goal.find-returns-in-ForAll-clause-noted
find-returns-in-ForAll-clause-noted t c =
    on_ok c.find_universal.result _ _ c.find_universal.ensures.noted
    (λ notes. notes
    ∙ noted-for_all c.args.scope.now.signature.now c.args.formula.now c.args.around.now
    c.in-ForAll.field-0 c.in-ForAll.body c.in-ForAll.is)

pub find-returns-in-Exists-clause-found : goal.find-returns-in-Exists-clause-found
find-returns-in-Exists-clause-found t c =
    on_ok c.find_existential.result _ _ c.find_existential.ensures.found
    (λ found. found
    ∙ ap (λ xs. c.args.found.now.items ++ xs)
    (sym (ap (universal_binders c.args.scope.now.signature.now) c.in-Exists.is
    ∙ universal_binders-exists c.args.scope.now.signature.now c.in-Exists.field-0
    c.in-Exists.body)))

pub find-returns-in-Exists-clause-noted : goal.find-returns-in-Exists-clause-noted
find-returns-in-Exists-clause-noted t c =
    on_ok c.find_existential.result _ _ c.find_existential.ensures.noted
    (λ notes. notes
    ∙ noted-exists c.args.scope.now.signature.now c.args.formula.now c.args.around.now
    c.in-Exists.field-0 c.in-Exists.body c.in-Exists.is)

pub find_in_parts-loop-part-preserved : goal.find_in_parts-loop-part-preserved
find_in_parts-loop-part-preserved t c =
    record {
      found = ap (λ xs. xs
          ++ joined (map (universal_binders c.args.scope.now.signature.now)
          (drop (c.loop-part.part-index + 1) c.args.parts.now))) c.in_ok-find.ensures.found
          ∙ joined-step (universal_binders c.args.scope.now.signature.now) c.loop-part.found.items
          c.args.parts.now c.loop-part.part-index c.part-item.result c.loop-part-test.true
          c.part-item.is
          ∙ c.loop-part.invariant.found;
      noted = ap (noted (uses_in_parts c.args.scope.now.signature.now
          (drop (c.loop-part.part-index + 1) c.args.parts.now))) c.in_ok-find.ensures.noted
          ∙ noted-part_at c.args.scope.now.signature.now c.args.parts.now c.loop-part.part-index
          c.part-item.result c.loop-part.around c.loop-part-test.true c.part-item.is
          ∙ c.loop-part.invariant.noted;
    }

pub find_in_parts-returns-clause-found : goal.find_in_parts-returns-clause-found
find_in_parts-returns-clause-found t c =
    sym (joined-end (universal_binders c.args.scope.now.signature.now) c.loop-part.found.items
    c.args.parts.now c.loop-part.part-index c.loop-part-test.false)
    ∙ c.loop-part.invariant.found

pub find_in_parts-returns-clause-noted : goal.find_in_parts-returns-clause-noted
find_in_parts-returns-clause-noted t c =
    sym (noted-parts_end c.args.scope.now.signature.now c.args.parts.now c.loop-part.part-index
    c.loop-part.around c.loop-part-test.false)
    ∙ c.loop-part.invariant.noted

pub find_universal-returns-clause-found : goal.find_universal-returns-clause-found
find_universal-returns-clause-found t c =
    set-placed c.args.found.now.items c.push.new.found.items c.find_behind.new.found.items
    (universal_binders c.args.scope.now.signature.now c.args.body.now) c.len-place.result
    c.unused.result c.in_ok-found.field-0 (c.len-place.ensures ∙ c.args.found.now.ok.0) c.in_ok-push.ensures
    c.in_ok-found.ensures.found
    ∙ ap (λ x. c.args.found.now.items
    ++ x ∷ universal_binders c.args.scope.now.signature.now c.args.body.now)
    c.in_ok-found.ensures.exact
