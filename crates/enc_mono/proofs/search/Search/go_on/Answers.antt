use Rattle.std.proofs.Common.{length}
use Rattle.enc_mono.specs.Calls.Numbered.{keys_in}
use Rattle.enc_mono.specs.Calls.Searched.{query, met_in, pending_in, found_in}
use Rattle.enc_mono.proofs.Searching.{IsSearch-total}
use Rattle.enc_mono.proofs.search.Search.go_on.Goals as goal

pub returns-in_ok-put-in-None-clause-search : goal.returns-in_ok-put-in-None-clause-search
returns-in_ok-put-in-None-clause-search c =
    IsSearch-total
    (query c.args.table.now (keys_in c.args.index.now) c.args.patterns.now (length c.args.bound.now))
    (met_in c.args.self.now) (pending_in c.args.self.now) (found_in c.args.self.now)
    c.args.bound.now c.requires.search c.in-None.ensures.total _ c.in_ok-put-in-None.field-0
    c.in_ok-put-in-None.ensures.put
