use Rattle.std.proofs.lemmas.Option.{slice_get_within}
use Rattle.tf_core.specs.Sound.{individuals}
use Rattle.tfenc_cases.proofs.given.structure_of.Goals as goal

pub read_typed-requires-clause-names : goal.read_typed-requires-clause-names
read_typed-requires-clause-names c = record {
  some =
      slice_get_within c.args.problem.now.signature.constructors 0 individuals
      c.requires.sound.signature.first;
  constructors_differ = c.requires.distinct.constructors;
  symbols_differ = c.requires.distinct.symbols;
}

pub returns-in-Ok-clause-well_formed : goal.returns-in-Ok-clause-well_formed
returns-in-Ok-clause-well_formed c = c.in-Ok.ensures.exact.well_formed
