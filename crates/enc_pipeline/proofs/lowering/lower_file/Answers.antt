use Rattle.model_tables.specs.Writable.{AreNames}
use Rattle.fof_models.specs.declared.problem.FofProblem.{FofProblem}
use Rattle.enc_pipeline.proofs.Ready.{are_names, to_made}
use Rattle.enc_pipeline.proofs.lowering.lower_file.Goals as goal

pub write_untyped-requires-clause-named : goal.write_untyped-requires-clause-named
write_untyped-requires-clause-named g c =
    to_made c.args.prepared.now c.encoded.result.now c.names.result.now c.encoded.ensures.exact
    c.names.ensures.exact (λ (problem : FofProblem). AreNames problem.signature)
    (are_names c.args.prepared.now c.names.ensures.prepared)
