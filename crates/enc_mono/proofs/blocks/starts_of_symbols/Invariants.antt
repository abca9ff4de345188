use Rattle.tf_models.specs.Reading.{tables}
use Rattle.enc_mono.proofs.Starts.{AreFirstAllStarts}
use Rattle.enc_mono.proofs.blocks.starts_of_symbols.Given as goal

abbrev pub invariant-loop-f : goal.invariant-loop-f
invariant-loop-f l = AreFirstAllStarts (tables l.model) l.symbol-items l.f l.starts
