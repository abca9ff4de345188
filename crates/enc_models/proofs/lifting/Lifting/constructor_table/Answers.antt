use Rattle.std.proofs.Common.{◌<◌, ◌∙◌, arith, sym, subst, length, []}
use Rattle.std.proofs.lemmas.List.{get_or_default}
use Rattle.enc_models.specs.Calls.Lifting.{parts_of, IsTableOver}
use Rattle.enc_models.proofs.LiftedValues.{table-by_type}
use Rattle.enc_models.proofs.lifting.Lifting.constructor_table.Goals as goal

pub returns-in-ByType : goal.returns-in-ByType
returns-in-ByType g c constructor found =
    table-by_type (parts_of g.C.Choices.choices c.args.self.now.marked.now)
    c.requires.ready.marked (sym c.marking.ensures ∙ c.in-ByType.is) c.as_slice-symbols.result.now
    c.as_slice-symbols.ensures c.args.c c.table.result.now c.table.ensures constructor found

pub returns-in-BySort : goal.returns-in-BySort
returns-in-BySort g c constructor found =
    let m = parts_of g.C.Choices.choices c.args.self.now.marked.now in
    let formed = c.requires.ready.formed (sym c.marking.ensures ∙ c.in-BySort.is) in
    let within : c.args.c < length c.args.self.now.formed.now =
    omega (arith, c.requires.constructor, formed.count) in
    subst (IsTableOver m c.args.c constructor.arity)
    (sym (c.as_slice.ensures
    ∙ get_or_default c.args.self.now.formed.now c.args.c c.index-self-c.result [] within))
    (formed.each c.args.c constructor found)
