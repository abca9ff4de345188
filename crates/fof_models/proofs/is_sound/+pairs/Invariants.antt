use Rattle.std.proofs.Common.{◌≡◌, take, true}
use Rattle.std.specs.List.{list_all}
use Rattle.fof_models.specs.Sound.{has_pairs}
use Rattle.fof_models.proofs.is_sound.+pairs.Given as goal

abbrev pub invariant-have_pairs-loop-part : goal.invariant-have_pairs-loop-part
invariant-have_pairs-loop-part l = list_all has_pairs (take l.part-index l.parts) ≡ true
