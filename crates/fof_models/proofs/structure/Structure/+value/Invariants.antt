use Rattle.std.proofs.Common.{map, replicate, take}
use Rattle.enc_base.specs.Tuples.{IsPlaced}
use Rattle.fof_models.specs.Evaluation.{value_in}
use Rattle.fof_models.proofs.structure.Structure.+value.Given as goal

abbrev pub invariant-place_in-loop-term : goal.invariant-place_in-loop-term
invariant-place_in-loop-term l =
    IsPlaced (replicate l.term-index l.self.size)
    (map (value_in l.self l.env.items) (take l.term-index l.terms)) l.at
