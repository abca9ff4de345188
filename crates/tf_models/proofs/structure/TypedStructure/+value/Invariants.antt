use Rattle.std.proofs.Common.{◌≡◌, map, take}
use Rattle.enc_base.specs.Tables.{place}
use Rattle.tf_models.specs.Reading.{tables}
use Rattle.tf_models.specs.Fit.{bounds_at}
use Rattle.tf_models.specs.Evaluation.{value_in}
use Rattle.tf_models.proofs.structure.TypedStructure.+value.Given as goal

abbrev pub invariant-place_in_block-loop-i : goal.invariant-place_in_block-loop-i
invariant-place_in_block-loop-i l =
    l.at
    ≡ place (take l.i (bounds_at (tables l.self) l.symbol l.number))
    (take l.i (map (value_in l.signature l.self l.env) l.terms))
