use Rattle.std.proofs.Common.{sym, subst}
use Rattle.tf_core.specs.declared.problem.Problem.{Problem}
use Rattle.model_tables.specs.Writable.{IsNamed}
use Rattle.enc_pipeline.proofs.Ready.{is_named}
use Rattle.enc_pipeline.proofs.lifting.lift_file.Goals as goal

pub write_typed-requires-clause-named : goal.write_typed-requires-clause-named
write_typed-requires-clause-named g c =
    subst (λ (problem : Problem). IsNamed problem.signature) (sym c.problem.ensures.exact)
    (is_named c.args.prepared.now c.problem.ensures.prepared)
