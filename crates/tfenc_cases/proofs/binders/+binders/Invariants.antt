use Rattle.std.proofs.Common.{◌≤◌, ◌+◌, length, map, drop}
use Rattle.tf_core.specs.declared.signature.Signature.{Signature}
use Rattle.tf_core.specs.Sorts.{joined}
use Rattle.enc_cover.specs.Undercover.{undercover_binders}
use Rattle.tfenc_cases.proofs.binders.+binders.Given as goal

abbrev pub invariant-binders_in_parts-loop-part : goal.invariant-binders_in_parts-loop-part
invariant-binders_in_parts-loop-part l =
    (g : Signature) →
    l.count + length (joined (map (undercover_binders g) (drop l.part-index l.parts)))
    ≤ length (joined (map (undercover_binders g) l.parts))
