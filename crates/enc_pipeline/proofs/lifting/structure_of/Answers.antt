use Rattle.std.proofs.Common.{rules, ◌≢◌}
use Rattle.fof_models.specs.declared.problem.FofProblem.{FofProblem}
use Rattle.model_tables.specs.declared.error.TableError.TheVariants.{Memory}
use Rattle.model_tables.specs.Refusals.{IsRefused}
use Rattle.model_tables.specs.Untyped.{untyped}
use Rattle.model_tables.specs.Writable.{AreNames}
use Rattle.enc_pipeline.proofs.Ready.{are_names, from_made, to_made}
use Rattle.enc_pipeline.proofs.lifting.structure_of.Goals as goal

pub read_untyped-requires-clause-one_each : goal.read_untyped-requires-clause-one_each
read_untyped-requires-clause-one_each c =
    (to_made c.args.prepared.now c.encoded.result.now c.names.result.now c.encoded.ensures.exact
    c.names.ensures.exact (λ (problem : FofProblem). AreNames problem.signature)
    (are_names c.args.prepared.now c.names.ensures.prepared)).one_each

pub read_untyped-requires-clause-differ : goal.read_untyped-requires-clause-differ
read_untyped-requires-clause-differ c =
    (to_made c.args.prepared.now c.encoded.result.now c.names.result.now c.encoded.ensures.exact
    c.names.ensures.exact (λ (problem : FofProblem). AreNames problem.signature)
    (are_names c.args.prepared.now c.names.ensures.prepared)).differ

pub returns-in-Err : goal.returns-in-Err
returns-in-Err c = record {
  exact = tt;
  within = tt;
  refused = λ _.
      let other : c.in-Err.reason ≢ Memory = search rules in (
        other,
        from_made c.args.prepared.now c.encoded.result.now c.names.result.now
            c.encoded.ensures.exact c.names.ensures.exact
            (λ (problem : FofProblem) names.
            IsRefused (untyped problem.signature names) c.args.table.now c.in-Err.reason)
            (c.in-Err.ensures.refused other),
      );
}
