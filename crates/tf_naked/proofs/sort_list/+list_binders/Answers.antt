use Rattle.std.proofs.Common.{[], ◌∷◌, map, sym, ap, subst, ◌∙◌}
use Rattle.tf_core.specs.Sorts.{joined, binder_types}
use Rattle.tf_naked.specs.Calls.Listing.{Lists}
use Rattle.tf_naked.proofs.BinderTypes.{binder_types-true, binder_types-false, binder_types-atom, binder_types-equation, binder_types-and, binder_types-or, binder_types-for_all, binder_types-exists}
use Rattle.tf_naked.proofs.OnceListed.{Lists-none, Lists-twice, Lists-more, on_ok}
use Rattle.tf_naked.proofs.sort_list.+list_binders.Goals as goal

pub list_binders-returns-in-True : goal.list_binders-returns-in-True
list_binders-returns-in-True t c =
    Lists-none c.args.listing.now _ c.requires.listing
    (ap binder_types c.in-True.is ∙ binder_types-true)

pub list_binders-returns-in-False : goal.list_binders-returns-in-False
list_binders-returns-in-False t c =
    Lists-none c.args.listing.now _ c.requires.listing
    (ap binder_types c.in-False.is ∙ binder_types-false)

pub list_binders-returns-in-Atom : goal.list_binders-returns-in-Atom
list_binders-returns-in-Atom t c =
    Lists-none c.args.listing.now _ c.requires.listing
    (ap binder_types c.in-Atom.is
    ∙ binder_types-atom c.in-Atom.field-0 c.in-Atom.field-1 c.in-Atom.field-2 c.in-Atom.field-3)

pub list_binders-returns-in-Equation : goal.list_binders-returns-in-Equation
list_binders-returns-in-Equation t c =
    Lists-none c.args.listing.now _ c.requires.listing
    (ap binder_types c.in-Equation.is
    ∙ binder_types-equation c.in-Equation.field-0 c.in-Equation.field-1 c.in-Equation.field-2
    c.in-Equation.field-3)

pub list_binders-returns-in-And : goal.list_binders-returns-in-And
list_binders-returns-in-And t c =
    on_ok c.list_binders_in_parts.result _ _ c.list_binders_in_parts.ensures
    (subst (Lists c.args.listing.now c.list_binders_in_parts.new.listing)
    (ap (λ parts. joined (map binder_types parts)) c.as_slice.ensures
    ∙ sym (ap binder_types c.in-And.is ∙ binder_types-and c.in-And.parts)))

pub list_binders-returns-in-Or : goal.list_binders-returns-in-Or
list_binders-returns-in-Or t c =
    on_ok c.list_binders_in_parts-in-Or.result _ _ c.list_binders_in_parts-in-Or.ensures
    (subst (Lists c.args.listing.now c.list_binders_in_parts-in-Or.new.listing)
    (ap (λ parts. joined (map binder_types parts)) c.as_slice-in-Or.ensures
    ∙ sym (ap binder_types c.in-Or.is ∙ binder_types-or c.in-Or.parts)))

pub list_binders-returns-in_ok-list_type-in-ForAll :
    goal.list_binders-returns-in_ok-list_type-in-ForAll
list_binders-returns-in_ok-list_type-in-ForAll t c =
    on_ok c.list_binders.result _ _ c.list_binders.ensures
    (λ rest. subst (Lists c.args.listing.now c.list_binders.new.listing)
    (ap (λ body. c.in-ForAll.ty ∷ binder_types body) c.get.ensures
    ∙ sym (ap binder_types c.in-ForAll.is ∙ binder_types-for_all c.in-ForAll.ty c.in-ForAll.body))
    (Lists-twice c.args.listing.now c.list_type.new.listing c.list_binders.new.listing
    (c.in-ForAll.ty ∷ []) (binder_types c.get.result.now) c.in_ok-list_type-in-ForAll.ensures rest))

pub list_binders_in_parts-loop-part-preserved : goal.list_binders_in_parts-loop-part-preserved
list_binders_in_parts-loop-part-preserved t c =
    Lists-more binder_types c.args.parts.now c.loop-part.part-index c.part-item.result
    c.loop-part-test.true c.part-item.is c.args.listing.now c.loop-part.listing
    c.list_binders.new.listing c.loop-part.invariant c.in_ok-list_binders.ensures

pub list_binders-returns-in_ok-list_type-in-Exists :
    goal.list_binders-returns-in_ok-list_type-in-Exists
list_binders-returns-in_ok-list_type-in-Exists t c =
    on_ok c.list_binders-in-Exists.result _ _ c.list_binders-in-Exists.ensures
    (λ rest. subst (Lists c.args.listing.now c.list_binders-in-Exists.new.listing)
    (ap (λ body. c.in-Exists.ty ∷ binder_types body) c.get-in-Exists.ensures
    ∙ sym (ap binder_types c.in-Exists.is ∙ binder_types-exists c.in-Exists.ty c.in-Exists.body))
    (Lists-twice c.args.listing.now c.list_type-in-Exists.new.listing
    c.list_binders-in-Exists.new.listing (c.in-Exists.ty ∷ [])
    (binder_types c.get-in-Exists.result.now) c.in_ok-list_type-in-Exists.ensures rest))
