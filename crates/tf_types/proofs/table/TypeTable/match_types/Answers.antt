use Rattle.std.proofs.Common.{arith}
use Rattle.tf_types.proofs.MatchedLists.{IsMatch-no_more}
use Rattle.tf_types.proofs.table.TypeTable.match_types.Goals as goal

pub returns-then-not-match_type-clause-exact : goal.returns-then-not-match_type-clause-exact
returns-then-not-match_type-clause-exact c =
    IsMatch-no_more c.args.self.now c.args.patterns.now c.args.ids.now c.args.bound.now
    c.loop-i.i c.loop-i.bound c.match_type.new.bound c.loop-i.invariant
    c.index-patterns-i.result (record { index = 0 }) c.index-patterns-i.is c.loop-i-test.true
    (omega (arith, c.loop-i-test.true, c.if-patterns-ids.false)) c.match_type.result
    c.match_type.ensures.exact c.if-not-match_type.true
