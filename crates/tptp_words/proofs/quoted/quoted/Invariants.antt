use Rattle.std.proofs.Common.{◌≡◌, ◌≤◌, ◌+◌, cond, false, length}
use Rattle.tptp_words.specs.Scanning.{quoted_from}
use Rattle.tptp_words.proofs.quoted.quoted.Given as goal

abbrev pub invariant-bytes : goal.invariant-bytes
invariant-bytes l = record {
  same : quoted_from l.quote 1 false l.fn.text ≡ quoted_from l.quote l.count l.escape l.text;
  within : l.count + cond l.escape 1 0 + length l.text ≤ length l.fn.text + 1;
}

abbrev pub decreases-bytes : goal.decreases-bytes
decreases-bytes l = length l.text
