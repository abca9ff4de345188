use Rattle.std.proofs.Common.{◌≡◌, map, drop}
use Rattle.tf_core.specs.Sorts.{joined}
use Rattle.enc_cover.specs.Undercover.{undercover_binders}
use Rattle.enc_cover.specs.Calls.Passed.{sought}
use Rattle.enc_cover.proofs.undercover.+find.Given as goal

abbrev pub invariant-find_in_parts-loop-part : goal.invariant-find_in_parts-loop-part
invariant-find_in_parts-loop-part l =
    sought (joined (map (undercover_binders l.signature) l.parts)) l.before
    ≡ sought (joined (map (undercover_binders l.signature) (drop l.part-index l.parts))) l.left
