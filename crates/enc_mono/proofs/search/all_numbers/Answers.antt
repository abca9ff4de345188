use Rattle.std.proofs.Common.{sym, subst}
use Rattle.enc_mono.specs.Calls.Searched.{IsTotal}
use Rattle.enc_mono.proofs.CountedEntries.{item_has}
use Rattle.enc_mono.proofs.search.all_numbers.Goals as goal

pub numbers_in-requires : goal.numbers_in-requires
numbers_in-requires c = record {
  total = subst IsTotal (sym c.as_slice.ensures.value)
      (item_has (λ key. IsTotal key.items) c.args.found.now c.loop-bound.bound-index
      c.bound-item.result c.requires.total c.loop-bound-test.true c.bound-item.is);
}
