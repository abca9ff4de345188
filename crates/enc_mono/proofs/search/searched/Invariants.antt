use Rattle.enc_mono.specs.Calls.Numbered.{keys_in}
use Rattle.enc_mono.specs.Calls.Searched.{IsSearch, IsWithin, query, met_in, pending_in, found_in, steps_left}
use Rattle.enc_mono.proofs.search.searched.Given as goal

abbrev pub invariant-loop-bound : goal.invariant-loop-bound
invariant-loop-bound l = record {
  search : IsSearch (query l.table (keys_in l.index) l.patterns l.variables) (met_in l.search)
      (pending_in l.search) (found_in l.search);
  within : IsWithin l.search;
}

abbrev pub decreases-loop-bound : goal.decreases-loop-bound
decreases-loop-bound l = steps_left l.search
