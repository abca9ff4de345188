use Rattle.std.proofs.Common.{◌≡◌, map, length, replicate, take}
use Rattle.enc_base.specs.Tables.{place}
use Rattle.enc_models.specs.Calls.SortNumbers.{number_in, AreNumbered}
use Rattle.enc_models.proofs.sort_tables.place_of_sorts.Given as goal

abbrev pub invariant-loop-ty : goal.invariant-loop-ty
invariant-loop-ty l = record {
  at_is : l.at
      ≡ place (take l.ty-index (replicate (length l.types) (length l.sorts)))
      (take l.ty-index (map (number_in l.sorts) l.types));
  numbered : AreNumbered l.numbers (length l.sorts) l.sorts;
}
