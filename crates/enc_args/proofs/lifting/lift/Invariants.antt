use Rattle.enc_marks.specs.declared.scheme.Scheme.TheVariants.{Args, Erase}
use Rattle.enc_args.proofs.lifting.lift.Given as goal

abbrev pub ghost-lift_by : goal.ghost-lift_by
ghost-lift_by a = Args

abbrev pub ghost-lift_by-2 : goal.ghost-lift_by-2
ghost-lift_by-2 a = Erase
