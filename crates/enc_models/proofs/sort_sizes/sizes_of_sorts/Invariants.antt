use Rattle.std.proofs.Common.{◌≡◌, [], map, take}
use Rattle.tf_models.specs.Evaluation.{size_in}
use Rattle.enc_models.proofs.sort_sizes.sizes_of_sorts.Given as goal

abbrev pub invariant-loop-sort : goal.invariant-loop-sort
invariant-loop-sort l = l.sizes ≡ map (size_in l.model []) (take l.sort-index l.sort-items)
