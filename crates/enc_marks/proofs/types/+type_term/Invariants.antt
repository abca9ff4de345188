use Rattle.std.proofs.Common.{◌≡◌, map, take}
use Rattle.enc_marks.specs.Marks.{number_in}
use Rattle.enc_marks.specs.Translation as specs
use Rattle.enc_marks.proofs.types.+type_term.Given as goal

abbrev pub invariant-all_numbered-loop-ty : goal.invariant-all_numbered-loop-ty
invariant-all_numbered-loop-ty l =
    l.terms
    ≡ map (specs.type_term (number_in l.numbers l.unmarked) l.depth) (take l.ty-index l.types)
