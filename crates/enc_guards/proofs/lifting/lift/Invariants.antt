use Rattle.enc_marks.specs.declared.scheme.Scheme.TheVariants.{Guards}
use Rattle.enc_guards.proofs.lifting.lift.Given as goal

abbrev pub ghost-lift_by : goal.ghost-lift_by
ghost-lift_by a = Guards
