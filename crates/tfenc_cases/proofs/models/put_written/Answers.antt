use Rattle.tf_check.proofs.VisitedNames.{all-map}
use Rattle.tf_core.specs.declared.signature.Constructor.{Constructor}
use Rattle.tf_core.specs.declared.signature.Symbol.{Symbol}
use Rattle.enc_base.specs.Names.{IsWritable}
use Rattle.tfenc_cases.proofs.models.put_written.Goals as goal

pub write_typed-requires-clause-named : goal.write_typed-requires-clause-named
write_typed-requires-clause-named c = record {
  first = c.requires.sound.signature.first;
  constructors =
      all-map IsWritable (λ (one : Constructor). one.name)
      c.args.problem.now.signature.constructors c.requires.named.constructors;
  symbols =
      all-map IsWritable (λ (one : Symbol). one.name) c.args.problem.now.signature.symbols
      c.requires.named.symbols;
  constructors_differ = c.requires.distinct.constructors;
  symbols_differ = c.requires.distinct.symbols;
}
