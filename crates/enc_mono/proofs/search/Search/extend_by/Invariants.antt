use Rattle.std.proofs.Common.{take}
use Rattle.enc_mono.specs.Calls.Searched.{GoesOn, IsWithin}
use Rattle.enc_mono.proofs.search.Search.extend_by.Given as goal

abbrev pub invariant-loop-id : goal.invariant-loop-id
invariant-loop-id l = record {
  goes_on : GoesOn l.table l.bound l.pattern (take l.id-index l.ids) l.initial.self l.self;
  within : IsWithin l.self;
}
