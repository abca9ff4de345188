use Rattle.tf_models.specs.Reading.{tables}
use Rattle.enc_mono.proofs.Starts.{AreFirstStarts}
use Rattle.enc_mono.proofs.blocks.starts_of_blocks.Given as goal

abbrev pub invariant-loop-number : goal.invariant-loop-number
invariant-loop-number l = AreFirstStarts (tables l.model) l.symbol l.number l.start l.starts
