use Rattle.std.proofs.Common.{◌∙◌, ◌<◌, sym, subst}
use Rattle.enc_models.specs.Calls.Lifting.{parts_of}
use Rattle.enc_models.proofs.OwnMarks.{mark-by_type, mark-by_sort, members-by_type, members-by_sort}
use Rattle.enc_models.proofs.marked.Marked.mark.Goals as goal

pub type_mark-requires-clause-member : goal.type_mark-requires-clause-member
type_mark-requires-clause-member g c =
    let m = parts_of g.C.Choices.choices c.args.self.now in
    subst (λ n. c.args.member < n)
    (members-by_type m (sym c.marking.ensures ∙ c.in-ByType.is)) c.requires.member

pub sort_mark-requires-clause-sort : goal.sort_mark-requires-clause-sort
sort_mark-requires-clause-sort g c =
    let m = parts_of g.C.Choices.choices c.args.self.now in
    subst (λ n. c.args.member < n)
    (members-by_sort m (sym c.marking.ensures ∙ c.in-BySort.is)) c.requires.member

pub returns-in-ByType : goal.returns-in-ByType
returns-in-ByType g c =
    let m = parts_of g.C.Choices.choices c.args.self.now in
    c.type_mark.ensures
    ∙ mark-by_type m (sym c.marking.ensures ∙ c.in-ByType.is) c.args.member c.args.number

pub returns-in-BySort : goal.returns-in-BySort
returns-in-BySort g c =
    let m = parts_of g.C.Choices.choices c.args.self.now in
    c.sort_mark.ensures
    ∙ mark-by_sort m (sym c.marking.ensures ∙ c.in-BySort.is) c.args.member c.args.number
