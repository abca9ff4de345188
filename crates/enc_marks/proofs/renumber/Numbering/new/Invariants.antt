use Rattle.std.proofs.Common.{◌≡◌, map}
use Rattle.std.specs.List.{range_with_len}
use Rattle.enc_marks.specs.Calls.Flags.{is_set}
use Rattle.enc_marks.specs.Occurrence.{count_below}
use Rattle.enc_marks.proofs.renumber.Numbering.new.Given as goal

abbrev pub invariant-loop-occurs : goal.invariant-loop-occurs
invariant-loop-occurs l = record {
  numbers : l.numbers.items
      ≡ map (λ m. count_below m (is_set l.occurring)) (range_with_len 0 l.occurs-index);
  count : l.count ≡ count_below l.occurs-index (is_set l.occurring);
}
