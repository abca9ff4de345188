use Rattle.std.specs.Prelude.{◌≡◌, List, map, take, length}
use Rattle.enc_mono.specs.declared.instances.Origin.{Origin}
use Rattle.enc_mono.specs.Calls.Numbered.{as_type}
use Rattle.enc_mono.specs.Calls.Known.{IsKept, Files, index_in}
use Rattle.enc_mono.proofs.known.Known.file_all.Given as goal

abbrev pub invariant-loop-ty : goal.invariant-loop-ty
invariant-loop-ty l = record {
  kept : IsKept l.self;
  count : length (index_in l.self) ≡ length (index_in l.initial.self);
  files : (origins : List Origin) → l.instances ≡ map as_type origins →
      Files (take l.ty-index origins) l.initial.self l.self;
}
