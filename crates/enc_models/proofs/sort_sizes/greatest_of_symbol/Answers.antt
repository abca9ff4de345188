use Rattle.std.proofs.Common.{[], ◌∷◌, ◌++◌, sym, ap, ◌∙◌}
use Rattle.tf_core.specs.Sorts.{result_types}
use Rattle.enc_models.specs.Calls.SortSizes.{greatest_size}
use Rattle.enc_models.proofs.SortSizes.{greatest_size-last}
use Rattle.enc_models.proofs.sort_sizes.greatest_of_symbol.Goals as goal

pub returns-in-Some : goal.returns-in-Some
returns-in-Some c =
    greatest_size-last c.args.model.now c.as_slice.result.now c.in-Some.ty
    c.greatest_of_types-arguments.result c.measure.result.greatest c.max.result
    c.greatest_of_types-arguments.ensures c.measure.ensures.greatest_is
    c.max.ensures
    ∙ ap (greatest_size c.args.model.now)
    (ap (λ types. types ++ c.in-Some.ty ∷ []) c.as_slice.ensures
    ∙ ap (λ result. c.args.symbol.now.arguments ++ result_types result) (sym c.in-Some.is))
