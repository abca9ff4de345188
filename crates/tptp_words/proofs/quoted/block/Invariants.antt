use Rattle.std.proofs.Common.{◌≡◌, ◌≤◌, ◌+◌, length}
use Rattle.tptp_words.specs.Scanning.{block_from}
use Rattle.tptp_words.proofs.quoted.block.Given as goal

abbrev pub invariant-bytes : goal.invariant-bytes
invariant-bytes l = record {
  same : block_from 2 l.initial.text ≡ block_from l.count l.text;
  within : l.count + length l.text ≤ length l.fn.rest + 2;
}

abbrev pub decreases-bytes : goal.decreases-bytes
decreases-bytes l = length l.text
