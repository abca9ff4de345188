use Rattle.std.proofs.Common.{◌≡◌, map, take}
use Rattle.enc_marks.specs.Translation as specs
use Rattle.enc_marks.specs.Encoded.{all_numbers}
use Rattle.enc_marks.proofs.type_writer.TypeWriter.+type_term.Given as goal

abbrev pub invariant-type_terms-loop-ty : goal.invariant-type_terms-loop-ty
invariant-type_terms-loop-ty l =
    l.terms
    ≡ map (specs.type_term (all_numbers l.self.normal.now).constructor l.depth) (take l.ty-index
    l.types)
