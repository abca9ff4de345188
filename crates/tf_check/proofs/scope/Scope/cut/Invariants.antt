use Rattle.std.proofs.Common.{◌≡◌, ◌≤◌, ◌-◌, length, drop, min}
use Rattle.tf_check.proofs.scope.Scope.cut.Given as goal

abbrev pub decreases-loop-self : goal.decreases-loop-self
decreases-loop-self l = length l.self.names

abbrev pub invariant-loop-self : goal.invariant-loop-self
invariant-loop-self l =
    record {
      fewer : length l.self.names ≤ length l.fn.self.names;
      more : min (length l.fn.self.names) l.len ≤ length l.self.names;
      left : l.self
          ≡ record l.fn.self {
            names = drop (length l.fn.self.names - length l.self.names) l.fn.self.names;
          };
    }
