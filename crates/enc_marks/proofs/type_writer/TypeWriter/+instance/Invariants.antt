use Rattle.std.proofs.Common.{◌≡◌, map, take}
use Rattle.tf_core.specs.Types.{instantiate}
use Rattle.enc_marks.specs.Translation as specs
use Rattle.enc_marks.specs.Encoded.{all_numbers}
use Rattle.enc_marks.proofs.type_writer.TypeWriter.+instance.Given as goal

abbrev pub invariant-instances-loop-ty : goal.invariant-instances-loop-ty
invariant-instances-loop-ty l =
    l.terms
    ≡ map (specs.type_term (all_numbers l.self.normal.now).constructor l.depth)
    (map (instantiate l.types) (take l.ty-index l.arguments))
