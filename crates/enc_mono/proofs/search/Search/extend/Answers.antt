use Rattle.std.proofs.Common.{length, ◌+◌, sym, subst, ◌∙◌}
use Rattle.enc_mono.specs.Calls.Numbered.{keys_in}
use Rattle.enc_mono.specs.Calls.Searched.{query, met_in, pending_in, found_in}
use Rattle.enc_mono.proofs.Searching.{next_supported}
use Rattle.enc_mono.proofs.Pursued.{AreNumbers-under, IsPursued, IsPursued-nothing, IsPursued-absent, IsPursued-tried, IsSearch-pursued, steps_left-pursued}
use Rattle.enc_mono.proofs.search.Search.extend.Goals as goal
use Rattle.enc_mono.proofs.search.Search.extend.Goals.{then-occurs+in_ok-extend_by, else-occurs}

pub loop-pattern-init : goal.loop-pattern-init
loop-pattern-init c =
    IsPursued-nothing
    (query c.args.table.now (keys_in c.args.index.now) c.args.patterns.now (length c.args.bound.now))
    c.args.bound.now c.args.i c.args.self.now c.requires.search c.requires.within

pub extend_by-requires-clause-numbers : goal.extend_by-requires-clause-numbers
extend_by-requires-clause-numbers c =
    AreNumbers-under c.args.table.now (keys_in c.args.index.now) c.pattern-item.result
    c.instances_under-ids.result.now c.requires.numbers c.instances_under-ids.ensures

pub extend_by-requires-clause-bound : goal.extend_by-requires-clause-bound
extend_by-requires-clause-bound c =
    let supported = next_supported
    (query c.args.table.now (keys_in c.args.index.now) c.args.patterns.now (length c.args.bound.now))
    (met_in c.loop-pattern.self) (pending_in c.loop-pattern.self) (found_in c.loop-pattern.self)
    c.args.bound.now c.loop-pattern.invariant.search in
    supported.numbers

pub loop-pattern-preserved : goal.loop-pattern-preserved
loop-pattern-preserved c =
    let q = query c.args.table.now (keys_in c.args.index.now) c.args.patterns.now
    (length c.args.bound.now) in
    elim c.if-occurs.branch [
      | then-occurs+in_ok-extend_by w ↦
          subst (IsPursued q c.args.bound.now c.args.i (c.loop-pattern.pattern-index + 1)
          c.args.self.now) (sym w.self-is)
          (IsPursued-tried q c.args.bound.now c.args.i c.args.self.now
          c.loop-pattern.pattern-index c.loop-pattern.self c.loop-pattern.invariant
          c.pattern-item.result c.loop-pattern-test.true c.pattern-item.is
          w.instances_under-ids.result.now w.instances_under-ids.ensures w.extend_by.new.self
          w.in_ok-extend_by.ensures.goes_on w.in_ok-extend_by.ensures.within)
      | else-occurs w ↦
          subst (IsPursued q c.args.bound.now c.args.i (c.loop-pattern.pattern-index + 1)
          c.args.self.now) (sym w.self-is)
          (IsPursued-absent q c.args.bound.now c.args.i c.args.self.now
          c.loop-pattern.pattern-index c.loop-pattern.self c.loop-pattern.invariant
          c.pattern-item.result c.loop-pattern-test.true c.pattern-item.is
          (sym c.occurs.ensures ∙ w.if-occurs.false))
    ]

pub returns-clause-search : goal.returns-clause-search
returns-clause-search c =
    IsSearch-pursued
    (query c.args.table.now (keys_in c.args.index.now) c.args.patterns.now (length c.args.bound.now))
    c.args.bound.now c.args.i c.args.self.now c.loop-pattern.pattern-index c.loop-pattern.self
    c.loop-pattern.invariant c.loop-pattern-test.false c.requires.free

pub returns-clause-less : goal.returns-clause-less
returns-clause-less c =
    steps_left-pursued
    (query c.args.table.now (keys_in c.args.index.now) c.args.patterns.now (length c.args.bound.now))
    c.args.bound.now c.args.i c.args.self.now c.loop-pattern.pattern-index c.loop-pattern.self
    c.loop-pattern.invariant
