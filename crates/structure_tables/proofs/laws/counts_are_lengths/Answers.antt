use Rattle.structure_tables.proofs.EntryLengths.{typed_count-lengths, untyped_count-lengths}
use Rattle.structure_tables.proofs.laws.counts_are_lengths.Goals as goal

pub returns : goal.returns
returns c = record { typed = typed_count-lengths; untyped = untyped_count-lengths }
