use Rattle.std.proofs.Common.{◌≡◌, ◌++◌, map}
use Rattle.std.specs.List.{range_with_len}
use Rattle.tf_nnf.specs.NormalForm.{fresh_constructor}
use Rattle.tf_nnf.proofs.normal.with_fresh.Given as goal

abbrev pub invariant-loop-i : goal.invariant-loop-i
invariant-loop-i l =
    l.constructors ≡ l.initial.constructors ++ map fresh_constructor (range_with_len 0 l.i)
