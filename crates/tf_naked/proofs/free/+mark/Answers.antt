use Rattle.std.proofs.Common.{map, sym, ap, subst, ◌∙◌}
use Rattle.tf_core.specs.Sorts.{joined}
use Rattle.tf_naked.specs.declared.position.Kind.TheVariants.{Universal, Existential}
use Rattle.tf_naked.specs.declared.kinds.Frames.TheVariants.{Inside}
use Rattle.tf_naked.specs.Naked.{equations_of}
use Rattle.tf_naked.specs.Calls.Frames.{kinds_of}
use Rattle.tf_naked.specs.Calls.Sets.{Adds}
use Rattle.tf_naked.specs.Calls.NakedTypes.{naked_types, type_at_side}
use Rattle.std.proofs.lemmas.List.{append-nil}
use Rattle.tf_naked.proofs.Frames.{kinds_of-inside}
use Rattle.tf_naked.proofs.Naked.{equations_of-true, equations_of-false, equations_of-atom, equations_of-equation, equations_of-and, equations_of-or, equations_of-for_all, equations_of-exists}
use Rattle.tf_naked.proofs.OnceListed.{on_ok}
use Rattle.tf_naked.proofs.FreeSorts.{Adds-no_types, Adds-more, Adds-end, naked_types-parts}
use Rattle.tf_naked.proofs.free.+mark.Goals as goal

pub mark-returns-in-True : goal.mark-returns-in-True
mark-returns-in-True t c =
    Adds-no_types c.args.set.now _
    (ap naked_types (ap (λ p. equations_of p (kinds_of c.args.frames.now)) c.in-True.is
    ∙ equations_of-true (kinds_of c.args.frames.now)))

pub mark-returns-in-False : goal.mark-returns-in-False
mark-returns-in-False t c =
    Adds-no_types c.args.set.now _
    (ap naked_types (ap (λ p. equations_of p (kinds_of c.args.frames.now)) c.in-False.is
    ∙ equations_of-false (kinds_of c.args.frames.now)))

pub mark-returns-in-Atom : goal.mark-returns-in-Atom
mark-returns-in-Atom t c =
    Adds-no_types c.args.set.now _
    (ap naked_types (ap (λ p. equations_of p (kinds_of c.args.frames.now)) c.in-Atom.is
    ∙ equations_of-atom c.in-Atom.field-0 c.in-Atom.field-1 c.in-Atom.field-2 c.in-Atom.field-3
    (kinds_of c.args.frames.now)))

pub mark-returns-in-Equation : goal.mark-returns-in-Equation
mark-returns-in-Equation t c =
    on_ok c.mark_side.result _ _ c.mark_side.ensures
    (subst (Adds c.args.set.now c.mark_side.new.set)
    (ap (λ side. type_at_side side c.in-Equation.ty) c.first_side.ensures
    ∙ sym (append-nil _)
    ∙ sym (ap naked_types (ap (λ p. equations_of p (kinds_of c.args.frames.now)) c.in-Equation.is
    ∙ equations_of-equation c.in-Equation.positive c.in-Equation.ty c.in-Equation.left
    c.in-Equation.right (kinds_of c.args.frames.now)))))

pub mark-returns-in-And : goal.mark-returns-in-And
mark-returns-in-And t c =
    on_ok c.mark_in_parts.result _ _ c.mark_in_parts.ensures
    (subst (Adds c.args.set.now c.mark_in_parts.new.set)
    (ap (λ parts. joined (map (λ part. naked_types (equations_of part
    (kinds_of c.args.frames.now))) parts)) c.as_slice.ensures
    ∙ sym (ap naked_types (ap (λ p. equations_of p (kinds_of c.args.frames.now)) c.in-And.is
    ∙ equations_of-and c.in-And.parts (kinds_of c.args.frames.now))
    ∙ naked_types-parts (kinds_of c.args.frames.now) c.in-And.parts)))

pub mark-returns-in-Or : goal.mark-returns-in-Or
mark-returns-in-Or t c =
    on_ok c.mark_in_parts-in-Or.result _ _ c.mark_in_parts-in-Or.ensures
    (subst (Adds c.args.set.now c.mark_in_parts-in-Or.new.set)
    (ap (λ parts. joined (map (λ part. naked_types (equations_of part
    (kinds_of c.args.frames.now))) parts)) c.as_slice-in-Or.ensures
    ∙ sym (ap naked_types (ap (λ p. equations_of p (kinds_of c.args.frames.now)) c.in-Or.is
    ∙ equations_of-or c.in-Or.parts (kinds_of c.args.frames.now))
    ∙ naked_types-parts (kinds_of c.args.frames.now) c.in-Or.parts)))

pub mark-returns-in-ForAll : goal.mark-returns-in-ForAll
mark-returns-in-ForAll t c =
    on_ok c.mark.result _ _ c.mark.ensures
    (subst (Adds c.args.set.now c.mark.new.set)
    (ap naked_types
    (ap (λ p. equations_of p (kinds_of (Inside Universal c.args.frames))) c.get.ensures
    ∙ ap (equations_of c.in-ForAll.body) (kinds_of-inside Universal c.args.frames)
    ∙ sym (ap (λ p. equations_of p (kinds_of c.args.frames.now)) c.in-ForAll.is
    ∙ equations_of-for_all c.in-ForAll.field-0 c.in-ForAll.body (kinds_of c.args.frames.now)))))

pub mark-returns-in-Exists : goal.mark-returns-in-Exists
mark-returns-in-Exists t c =
    on_ok c.mark-in-Exists.result _ _ c.mark-in-Exists.ensures
    (subst (Adds c.args.set.now c.mark-in-Exists.new.set)
    (ap naked_types
    (ap (λ p. equations_of p (kinds_of (Inside Existential c.args.frames)))
    c.get-in-Exists.ensures
    ∙ ap (equations_of c.in-Exists.body) (kinds_of-inside Existential c.args.frames)
    ∙ sym (ap (λ p. equations_of p (kinds_of c.args.frames.now)) c.in-Exists.is
    ∙ equations_of-exists c.in-Exists.field-0 c.in-Exists.body (kinds_of c.args.frames.now)))))

pub mark_in_parts-loop-part-preserved : goal.mark_in_parts-loop-part-preserved
mark_in_parts-loop-part-preserved t c =
    Adds-more (λ part. naked_types (equations_of part (kinds_of c.args.frames.now)))
    c.args.parts.now c.loop-part.part-index c.part-item.result c.loop-part-test.true c.part-item.is
    c.args.set.now c.loop-part.set c.mark.new.set c.loop-part.invariant c.in_ok-mark.ensures

pub mark_in_parts-returns : goal.mark_in_parts-returns
mark_in_parts-returns t c =
    Adds-end (λ part. naked_types (equations_of part (kinds_of c.args.frames.now)))
    c.args.parts.now c.loop-part.part-index c.args.set.now c.loop-part.set c.loop-part-test.false
    c.loop-part.invariant
