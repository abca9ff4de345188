use Rattle.std.proofs.Common.{rules, ◌≢◌}
use Rattle.std.proofs.lemmas.Option.{slice_get_within}
use Rattle.tf_core.specs.Sound.{individuals}
use Rattle.model_tables.specs.declared.error.TableError.TheVariants.{Memory}
use Rattle.enc_pipeline.proofs.checking.structure_of.Goals as goal

pub read_typed-requires-clause-names : goal.read_typed-requires-clause-names
read_typed-requires-clause-names c = record {
  some =
      slice_get_within c.args.problem.now.signature.constructors 0 individuals
      c.requires.sound.signature.first;
  constructors_differ = c.requires.distinct.constructors;
  symbols_differ = c.requires.distinct.symbols;
}

pub returns-in-Err : goal.returns-in-Err
returns-in-Err c = record {
  exact = tt;
  within = tt;
  few = tt;
  refused = λ _.
      let other : c.in-Err.reason ≢ Memory = search rules in
      (other, c.in-Err.ensures.refused other);
}
