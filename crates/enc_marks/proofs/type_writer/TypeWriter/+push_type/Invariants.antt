use Rattle.std.proofs.Common.{◌≡◌, ◌++◌, codes, flat_map, take}
use Rattle.enc_marks.specs.Names.{flat_name}
use Rattle.enc_marks.proofs.type_writer.TypeWriter.+push_type.Given as goal

abbrev pub invariant-push_types-loop-ty : goal.invariant-push_types-loop-ty
invariant-push_types-loop-ty l =
    l.name.items
    ≡ l.initial.name.items
    ++ flat_map (λ argument. codes "_" ++ flat_name l.self.normal.now argument)
    (take l.ty-index l.types)
