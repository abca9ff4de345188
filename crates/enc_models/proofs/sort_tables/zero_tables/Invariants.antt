use Rattle.std.proofs.Common.{◌≡◌, map, replicate, take}
use Rattle.enc_base.specs.Tables.{tuple_count}
use Rattle.enc_models.proofs.sort_tables.zero_tables.Given as goal

abbrev pub invariant-loop-constructor : goal.invariant-loop-constructor
invariant-loop-constructor l =
    l.tables
    ≡ map (λ constructor. replicate (tuple_count (replicate constructor.arity l.count)) 0)
    (take l.constructor-index l.constructors)
