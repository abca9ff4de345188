use Rattle.std.proofs.Common.{rules, ◌∷◌, map, sym, ap, subst, ◌∙◌}
use Rattle.tf_core.specs.declared.nnf.Nnf.TheViews.{the_lemmas}
use Rattle.tf_core.specs.Sorts.{joined, binder_types}
use Rattle.tf_core.proofs.StatedFormulas.{each_at}
use Rattle.tf_naked.proofs.BinderTypes.{binder_types-true, binder_types-false, binder_types-atom, binder_types-equation, binder_types-and, binder_types-or, binder_types-for_all, binder_types-exists}
use Rattle.enc_models.specs.Calls.SortSizes.{AreClosedTypes, greatest_size}
use Rattle.enc_models.proofs.SortSizes.{closed_each, greatest_size-more, items-more}
use Rattle.enc_models.proofs.sort_sizes.+greatest_at_binders.Goals as goal

pub greatest_at_binders-greatest_in_parts-requires :
    goal.greatest_at_binders-greatest_in_parts-requires
greatest_at_binders-greatest_in_parts-requires t c = (
  search (rules, the_lemmas),
  (
    c.requires.fit,
    subst (AreClosedTypes c.args.signature.now)
        (ap binder_types c.in-And.is ∙ binder_types-and c.in-And.parts
        ∙ ap (λ parts. joined (map binder_types parts)) (sym c.as_slice.ensures))
        c.requires.closed,
  ),
)

pub greatest_at_binders-greatest_in_parts-requires-in-Or :
    goal.greatest_at_binders-greatest_in_parts-requires-in-Or
greatest_at_binders-greatest_in_parts-requires-in-Or t c = (
  search (rules, the_lemmas),
  (
    c.requires.fit,
    subst (AreClosedTypes c.args.signature.now)
        (ap binder_types c.in-Or.is ∙ binder_types-or c.in-Or.parts
        ∙ ap (λ parts. joined (map binder_types parts)) (sym c.as_slice-in-Or.ensures))
        c.requires.closed,
  ),
)

pub greatest_at_binders-measure-own-requires-clause-closed :
    goal.greatest_at_binders-measure-own-requires-clause-closed
greatest_at_binders-measure-own-requires-clause-closed t c =
    (subst (AreClosedTypes c.args.signature.now)
    (ap binder_types c.in-ForAll.is ∙ binder_types-for_all c.in-ForAll.ty c.in-ForAll.body)
    c.requires.closed).0

pub greatest_at_binders-greatest_at_binders-requires :
    goal.greatest_at_binders-greatest_at_binders-requires
greatest_at_binders-greatest_at_binders-requires t c = (
  search (rules, the_lemmas),
  (
    c.requires.fit,
    subst (λ body. AreClosedTypes c.args.signature.now (binder_types body)) (sym c.get.ensures)
        (subst (AreClosedTypes c.args.signature.now)
        (ap binder_types c.in-ForAll.is ∙ binder_types-for_all c.in-ForAll.ty c.in-ForAll.body)
        c.requires.closed).1,
  ),
)

pub greatest_at_binders-measure-own-requires-in-Exists-clause-closed :
    goal.greatest_at_binders-measure-own-requires-in-Exists-clause-closed
greatest_at_binders-measure-own-requires-in-Exists-clause-closed t c =
    (subst (AreClosedTypes c.args.signature.now)
    (ap binder_types c.in-Exists.is ∙ binder_types-exists c.in-Exists.ty c.in-Exists.body)
    c.requires.closed).0

pub greatest_at_binders-greatest_at_binders-requires-in-Exists :
    goal.greatest_at_binders-greatest_at_binders-requires-in-Exists
greatest_at_binders-greatest_at_binders-requires-in-Exists t c = (
  search (rules, the_lemmas),
  (
    c.requires.fit,
    subst (λ body. AreClosedTypes c.args.signature.now (binder_types body))
        (sym c.get-in-Exists.ensures)
        (subst (AreClosedTypes c.args.signature.now)
        (ap binder_types c.in-Exists.is ∙ binder_types-exists c.in-Exists.ty c.in-Exists.body)
        c.requires.closed).1,
  ),
)

pub greatest_at_binders-returns-in-True : goal.greatest_at_binders-returns-in-True
greatest_at_binders-returns-in-True t c =
    ap (greatest_size c.args.model.now)
    (sym (ap binder_types c.in-True.is ∙ binder_types-true))

pub greatest_at_binders-returns-in-False : goal.greatest_at_binders-returns-in-False
greatest_at_binders-returns-in-False t c =
    ap (greatest_size c.args.model.now)
    (sym (ap binder_types c.in-False.is ∙ binder_types-false))

pub greatest_at_binders-returns-in-Atom : goal.greatest_at_binders-returns-in-Atom
greatest_at_binders-returns-in-Atom t c =
    ap (greatest_size c.args.model.now)
    (sym (ap binder_types c.in-Atom.is
    ∙ binder_types-atom c.in-Atom.field-0 c.in-Atom.field-1 c.in-Atom.field-2 c.in-Atom.field-3))

pub greatest_at_binders-returns-in-Equation : goal.greatest_at_binders-returns-in-Equation
greatest_at_binders-returns-in-Equation t c =
    ap (greatest_size c.args.model.now)
    (sym (ap binder_types c.in-Equation.is
    ∙ binder_types-equation c.in-Equation.field-0 c.in-Equation.field-1 c.in-Equation.field-2
    c.in-Equation.field-3))

pub greatest_at_binders-returns-in-And : goal.greatest_at_binders-returns-in-And
greatest_at_binders-returns-in-And t c =
    c.greatest_in_parts.ensures
    ∙ ap (λ parts. greatest_size c.args.model.now (joined (map binder_types parts)))
    c.as_slice.ensures
    ∙ ap (greatest_size c.args.model.now)
    (sym (ap binder_types c.in-And.is ∙ binder_types-and c.in-And.parts))

pub greatest_at_binders-returns-in-Or : goal.greatest_at_binders-returns-in-Or
greatest_at_binders-returns-in-Or t c =
    c.greatest_in_parts-in-Or.ensures
    ∙ ap (λ parts. greatest_size c.args.model.now (joined (map binder_types parts)))
    c.as_slice-in-Or.ensures
    ∙ ap (greatest_size c.args.model.now)
    (sym (ap binder_types c.in-Or.is ∙ binder_types-or c.in-Or.parts))

pub greatest_at_binders-returns-in-ForAll : goal.greatest_at_binders-returns-in-ForAll
greatest_at_binders-returns-in-ForAll t c =
    greatest_size-more c.args.model.now c.in-ForAll.ty (binder_types c.get.result.now)
    c.measure-own.result.greatest c.greatest_at_binders.result c.max.result
    c.measure-own.ensures.greatest_is c.greatest_at_binders.ensures
    c.max.ensures
    ∙ ap (greatest_size c.args.model.now)
    (ap (λ body. c.in-ForAll.ty ∷ binder_types body) c.get.ensures
    ∙ sym (ap binder_types c.in-ForAll.is ∙ binder_types-for_all c.in-ForAll.ty c.in-ForAll.body))

pub greatest_at_binders-returns-in-Exists : goal.greatest_at_binders-returns-in-Exists
greatest_at_binders-returns-in-Exists t c =
    greatest_size-more c.args.model.now c.in-Exists.ty (binder_types c.get-in-Exists.result.now)
    c.measure-own-in-Exists.result.greatest c.greatest_at_binders-in-Exists.result
    c.max-in-Exists.result c.measure-own-in-Exists.ensures.greatest_is
    c.greatest_at_binders-in-Exists.ensures
    c.max-in-Exists.ensures
    ∙ ap (greatest_size c.args.model.now)
    (ap (λ body. c.in-Exists.ty ∷ binder_types body) c.get-in-Exists.ensures
    ∙ sym (ap binder_types c.in-Exists.is ∙ binder_types-exists c.in-Exists.ty c.in-Exists.body))

pub greatest_in_parts-greatest_at_binders-requires :
    goal.greatest_in_parts-greatest_at_binders-requires
greatest_in_parts-greatest_at_binders-requires t c = (
  search (rules, the_lemmas),
  (
    c.requires.fit,
    each_at (λ part. AreClosedTypes c.args.signature.now (binder_types part)) c.args.parts.now
        c.loop-part.part-index c.part-item.result c.loop-part-test.true c.part-item.is
        (closed_each c.args.signature.now binder_types c.args.parts.now c.requires.closed),
  ),
)

pub greatest_in_parts-loop-part-preserved : goal.greatest_in_parts-loop-part-preserved
greatest_in_parts-loop-part-preserved t c =
    items-more c.args.model.now binder_types c.args.parts.now c.loop-part.part-index
    c.part-item.result c.loop-part-test.true c.part-item.is c.loop-part.found
    c.greatest_at_binders.result c.max-found.result c.loop-part.invariant
    c.greatest_at_binders.ensures c.max-found.ensures
