use Rattle.std.proofs.Common.{[], ◌∷◌, ◌++◌, sym, ap, subst, ◌∙◌}
use Rattle.tf_core.specs.Sorts.{result_types}
use Rattle.tf_naked.specs.Calls.Listing.{Lists}
use Rattle.tf_naked.proofs.OnceListed.{Lists-twice, on_ok}
use Rattle.tf_naked.proofs.listing.list_symbol.Goals as goal

pub returns-in-Some : goal.returns-in-Some
returns-in-Some c =
    on_ok c.list_type.result _ _ c.list_type.ensures
    (λ last. subst (Lists c.args.listing.now c.list_type.new.listing)
    (ap (λ types. types ++ c.in-Some.ty ∷ []) c.as_slice.ensures
    ∙ ap (λ result. c.args.symbol.now.arguments ++ result_types result) (sym c.in-Some.is))
    (Lists-twice c.args.listing.now c.list_types.new.listing c.list_type.new.listing
    c.as_slice.result.now (c.in-Some.ty ∷ []) c.in_ok-list_types.ensures last))
