use Rattle.enc_marks.specs.declared.scheme.Scheme.TheVariants.{Args, Erase}
use Rattle.enc_args.proofs.translation.encode_applying.Given as goal

abbrev pub ghost-encode_by : goal.ghost-encode_by
ghost-encode_by a = Args

abbrev pub ghost-encode_by-2 : goal.ghost-encode_by-2
ghost-encode_by-2 a = Erase
