use Rattle.std.proofs.Common.{◌≡◌, drop}
use Rattle.std.specs.List.{list_any}
use Rattle.tf_naked.specs.Standing.{is_covering, stands}
use Rattle.enc_cover.proofs.sought.+stands.Given as goal

abbrev pub invariant-stands_in_parts-loop-part : goal.invariant-stands_in_parts-loop-part
invariant-stands_in_parts-loop-part l =
    list_any (λ part. stands l.signature is_covering part l.i) l.parts
    ≡ list_any (λ part. stands l.signature is_covering part l.i) (drop l.part-index l.parts)
