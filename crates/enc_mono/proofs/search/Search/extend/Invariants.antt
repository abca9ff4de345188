use Rattle.std.proofs.Common.{length}
use Rattle.enc_mono.specs.Calls.Numbered.{keys_in}
use Rattle.enc_mono.specs.Calls.Searched.{query}
use Rattle.enc_mono.proofs.Pursued.{IsPursued}
use Rattle.enc_mono.proofs.search.Search.extend.Given as goal

abbrev pub invariant-loop-pattern : goal.invariant-loop-pattern
invariant-loop-pattern l =
    IsPursued (query l.table (keys_in l.index) l.patterns (length l.bound)) l.bound l.i l.pattern-index
    l.initial.self l.self
