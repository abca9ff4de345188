use Rattle.std.proofs.Common.{◌≡◌, ◌++◌, replicate}
use Rattle.fof_models.proofs.env.FofEnv.bind_zeros.Given as goal

abbrev pub invariant-loop : goal.invariant-loop
invariant-loop l = record {
  items : l.self.items ≡ l.initial.self.items ++ replicate l.counter 0;
  room : l.self.room ≡ l.initial.self.room;
}
