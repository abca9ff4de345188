use Rattle.std.proofs.Common.{◌≡◌, map, take}
use Rattle.enc_mono.specs.Calls.Searched.{bound_to}
use Rattle.enc_mono.proofs.search.all_numbers.Given as goal

abbrev pub invariant-loop-bound : goal.invariant-loop-bound
invariant-loop-bound l =
    map bound_to l.made ≡ map (λ key. key.items) (take l.bound-index l.found)
