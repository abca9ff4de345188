use Rattle.std.proofs.Common.{take, ◌-◌, ap, sym, ◌∙◌, subst, arith}
use Rattle.enc_mono.specs.Calls.Numbered.{keys_in}
use Rattle.enc_mono.specs.Calls.Searched.{IsFinished, query, met_in, pending_in, found_in}
use Rattle.enc_mono.proofs.Searching.{IsSearch-new, IsSearch-popped, IsSearch-back, IsFinished-enough, IsFinished-none}
use Rattle.enc_mono.proofs.search.searched.Goals as goal
use Rattle.enc_mono.proofs.search.searched.Goals.{in-Some+in_ok-go_on+then-len-most, in_default}

pub loop-bound-init : goal.loop-bound-init
loop-bound-init c = record {
  search = IsSearch-new c.args.table.now (keys_in c.args.index.now) c.args.patterns.now c.args.variables
      c.in_ok-search.search c.in_ok-search.ensures.met c.in_ok-search.ensures.pending
      c.in_ok-search.ensures.found;
  within = c.in_ok-search.ensures.within;
}

pub go_on-requires-clause-search : goal.go_on-requires-clause-search
go_on-requires-clause-search c =
    IsSearch-popped c.args.table.now (keys_in c.args.index.now) c.args.patterns.now c.args.variables
    (met_in c.loop-bound.search) (pending_in c.loop-bound.search) (found_in c.loop-bound.search)
    c.pop.new.self.items c.in-Some.bound c.as_slice.result.now c.loop-bound.invariant.search
    c.in-Some.ensures.items c.as_slice.ensures

pub loop-bound-preserved : goal.loop-bound-preserved
loop-bound-preserved c = record {
  search = IsSearch-back c.args.table.now (keys_in c.args.index.now) c.args.patterns.now c.args.variables
      (met_in c.loop-bound.search) (pending_in c.loop-bound.search)
      (found_in c.loop-bound.search) c.pop.new.self.items c.in-Some.bound c.as_slice.result.now
      c.loop-bound.invariant.search c.in-Some.ensures.items c.as_slice.ensures
      (met_in c.go_on.new.self) (pending_in c.go_on.new.self) (found_in c.go_on.new.self)
      c.in_ok-go_on.ensures.search;
  within = c.in_ok-go_on.ensures.within;
}

pub returns : goal.returns
returns c =
    let q = query c.args.table.now (keys_in c.args.index.now) c.args.patterns.now c.args.variables in
    elim c.match-pop.branch [
      | in-Some+in_ok-go_on+then-len-most w ↦
          subst (IsFinished q c.args.most) (sym w.search-is)
          (IsFinished-enough q c.args.most w.go_on.new.self
          (IsSearch-back c.args.table.now (keys_in c.args.index.now) c.args.patterns.now c.args.variables
          (met_in c.loop-bound.search) (pending_in c.loop-bound.search)
          (found_in c.loop-bound.search) c.pop.new.self.items w.in-Some.bound
          w.as_slice.result.now c.loop-bound.invariant.search w.in-Some.ensures.items
          w.as_slice.ensures (met_in w.go_on.new.self) (pending_in w.go_on.new.self)
          (found_in w.go_on.new.self) w.in_ok-go_on.ensures.search)
          (omega (arith, w.len.ensures.len, w.if-len-most.true)))
      | in_default w ↦
          subst (IsFinished q c.args.most) (sym w.search-is)
          (IsFinished-none q c.args.most _ (pending_in c.loop-bound.search)
          c.loop-bound.invariant.search w.in_default.ensures.items
          (w.in_default.ensures.rest
          ∙ ap (λ n. take (n - 1) c.loop-bound.search.pending.items) w.in_default.ensures.cases.0))
    ]
