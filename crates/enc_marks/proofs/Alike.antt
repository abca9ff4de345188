-- Choices by which each sort has a mark of its own: no mark is shared, so they tag types alike.
use Rattle.std.specs.Prelude.{◌≡◌}
use Rattle.std.proofs.Common.{sym, ◌∙◌}
use Rattle.enc_marks.specs.declared.choices.Marking.TheVariants.{ByType, BySort}
use Rattle.enc_marks.specs.Choices.{Choices, TagsTypesAlike}

markings_differ : BySort ≡ ByType → ⊥
markings_differ same = cc

pub alike_by_sort : (c : Choices) → c.marking ≡ BySort → TagsTypesAlike c
alike_by_sort c by_sort by_type position kind ty other =
    absurd (markings_differ (sym by_sort ∙ by_type))
