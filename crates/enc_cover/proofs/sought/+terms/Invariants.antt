use Rattle.std.proofs.Common.{◌≡◌, map, drop}
use Rattle.tf_naked.specs.Covers.{covers}
use Rattle.tf_naked.specs.Standing.{is_covering, standing, stands_in_arguments}
use Rattle.enc_cover.specs.Calls.Sought.{stands_in_terms}
use Rattle.enc_cover.proofs.sought.+terms.Given as goal

abbrev pub invariant-stands_in_terms-loop-place : goal.invariant-stands_in_terms-loop-place
invariant-stands_in_terms-loop-place l =
    stands_in_terms l.signature l.symbol l.terms l.i
    ≡ stands_in_arguments is_covering (drop l.place (covers l.symbol))
    (map (standing l.signature is_covering) (drop l.place l.terms)) l.i
