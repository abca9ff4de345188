use Rattle.std.proofs.Common.{rules, [], ◌∷◌, ◌++◌, refl, sym, ap, ◌∙◌}
use Rattle.tf_core.specs.declared.ty.Ty.TheViews.{the_lemmas}
use Rattle.tf_core.specs.Sorts.{parts_of}
use Rattle.tf_naked.proofs.HeldTypes.{parts_of-variable, parts_of-apply}
use Rattle.tf_naked.proofs.Sets.{Adds-none}
use Rattle.tf_naked.proofs.OnceListed.{parts, with-nothing, Lists-nothing, Lists-listed, Lists-itself, Lists-one_more, Lists-whole, on_both}
use Rattle.tf_naked.proofs.listing.+list_type.Goals as goal

pub list_type-returns-then-branch : goal.list_type-returns-then-branch
list_type-returns-then-branch t c =
    Lists-listed c.args.listing.now _ c.args.ty.now c.requires.listing
    (sym (c.in_ok-contains.ensures.exact c.args.listing.now.sorts c.requires.listing.set)
    ∙ c.if-branch.true)
    (Adds-none c.args.listing.now.set c.contains.new.self c.args.listing.now.sorts
    c.in_ok-contains.ensures.kept c.requires.listing.set)
    refl

pub list_type-list_itself-requires : goal.list_type-list_itself-requires
list_type-list_itself-requires t c = record {
  set = Adds-none c.args.listing.now.set c.contains.new.self c.args.listing.now.sorts
      c.in_ok-contains.ensures.kept c.requires.listing.set;
}

pub list_type-list_types-requires : goal.list_type-list_types-requires
list_type-list_types-requires t c = (
  search (rules, the_lemmas),
  record {
    set = Adds-none c.args.listing.now.set c.contains.new.self c.args.listing.now.sorts
        c.in_ok-contains.ensures.kept c.requires.listing.set;
    closed = c.requires.listing.closed;
  },
)

pub list_type-returns-in-Var : goal.list_type-returns-in-Var
list_type-returns-in-Var t c =
    on_both c.list_itself.result _ _ _ c.list_itself.ensures.set c.list_itself.ensures.listed
    (Lists-itself c.args.listing.now c.list_itself.new.listing c.args.listing.now.sorts []
    c.args.ty.now c.requires.listing
    (ap parts_of c.in-Var.is ∙ parts_of-variable c.in-Var.field-0
    ∙ sym (ap (λ ty. ty ∷ []) c.in-Var.is))
    (sym (with-nothing c.args.listing.now.sorts)))

pub list_type-returns-in_ok-list_types-in-Apply : goal.list_type-returns-in_ok-list_types-in-Apply
list_type-returns-in_ok-list_types-in-Apply t c =
    on_both c.list_itself-in-Apply.result _ _ _ c.list_itself-in-Apply.ensures.set
    c.list_itself-in-Apply.ensures.listed
    (Lists-itself c.args.listing.now c.list_itself-in-Apply.new.listing
    c.list_types.new.listing.sorts c.as_slice.result.now c.args.ty.now c.requires.listing
    (ap parts_of c.in-Apply.is ∙ parts_of-apply c.in-Apply.field-0 c.in-Apply.arguments
    ∙ ap (λ ty. parts c.in-Apply.arguments ++ ty ∷ []) (sym c.in-Apply.is)
    ∙ ap (λ types. parts types ++ c.args.ty.now ∷ []) (sym c.as_slice.ensures))
    c.in_ok-list_types-in-Apply.ensures.listed)

pub list_types-loop-ty-init : goal.list_types-loop-ty-init
list_types-loop-ty-init t c = Lists-nothing c.args.listing.now c.requires.listing

pub list_types-loop-ty-preserved : goal.list_types-loop-ty-preserved
list_types-loop-ty-preserved t c =
    Lists-one_more c.args.types.now c.loop-ty.ty-index c.ty-item.result c.args.listing.now
    c.loop-ty.listing c.list_type.new.listing c.loop-ty-test.true c.ty-item.is c.loop-ty.invariant
    c.in_ok-list_type.ensures

pub list_types-returns : goal.list_types-returns
list_types-returns t c =
    Lists-whole c.args.types.now c.loop-ty.ty-index c.args.listing.now c.loop-ty.listing
    c.loop-ty-test.false c.loop-ty.invariant
