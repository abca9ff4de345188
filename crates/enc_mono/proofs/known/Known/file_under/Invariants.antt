use Rattle.std.specs.Prelude.{◌≡◌, List, map, take, length}
use Rattle.tf_types.specs.Numbers.{Extends}
use Rattle.enc_mono.specs.declared.instances.Origin.{Origin}
use Rattle.enc_mono.specs.Instances.{instance_under}
use Rattle.enc_mono.specs.Calls.Numbered.{as_type}
use Rattle.enc_mono.specs.Calls.Matched.{denoted}
use Rattle.enc_mono.specs.Calls.Known.{IsKept, Files, index_in}
use Rattle.enc_mono.proofs.known.Known.file_under.Given as goal

abbrev pub invariant-loop-pattern : goal.invariant-loop-pattern
invariant-loop-pattern l = record {
  kept : IsKept l.self;
  grown : Extends l.initial.self.table l.self.table;
  count : length (index_in l.self) ≡ length (index_in l.initial.self);
  files : (origins : List Origin) → l.patterns ≡ map as_type origins →
      Files (map (instance_under (denoted l.initial.self.table l.types))
      (take l.pattern-index origins)) l.initial.self l.self;
}
