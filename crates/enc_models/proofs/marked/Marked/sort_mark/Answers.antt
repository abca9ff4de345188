use Rattle.std.proofs.Common.{ℕ, ◌∙◌, ◌≡◌, ◌+◌, ◌∷◌, [], arith, ap, sym, slice_index}
use Rattle.enc_models.specs.Calls.Lifting.{parts_of, table_in}
use Rattle.enc_models.proofs.OwnMarks.{unmarked, own_count-by_sort, own-by_sort, own_inside, own_is, own_none, place_one, sort_mark-at}
use Rattle.enc_models.proofs.marked.Marked.sort_mark.Goals as goal

pub bounds-table-number : goal.bounds-table-number
bounds-table-number g c =
    let m = parts_of g.C.Choices.choices c.args.self.now in
    omega (
      arith,
      place_one m.model.size c.args.number,
      own_inside m c.requires.ready.well_formed (unmarked m.normal + c.args.sort)
          (c.args.number ∷ [])
          (own-by_sort m.choices m.normal c.requires.by_sort c.args.sort c.args.number
          c.requires.sort) (c.requires.number, tt) c.table-table.result.now
          (c.table-table.ensures ∙ ap (λ n. table_in m (n + c.args.sort)) c.unmarked.ensures)
          c.if-table-eq0.false,
    )

pub returns-then-table-eq0 : goal.returns-then-table-eq0
returns-then-table-eq0 g c =
    let m = parts_of g.C.Choices.choices c.args.self.now in
    c.absent_mark.ensures
    ∙ own_none m c.requires.ready.well_formed (unmarked m.normal + c.args.sort)
    (c.args.number ∷ [])
    (own-by_sort m.choices m.normal c.requires.by_sort c.args.sort c.args.number
    c.requires.sort) (c.requires.number, tt) c.table-table.result.now
    (c.table-table.ensures ∙ ap (λ n. table_in m (n + c.args.sort)) c.unmarked.ensures)
    c.if-table-eq0.true
    ∙ sort_mark-at m c.args.sort c.args.number c.requires.sort

pub returns : goal.returns
returns g c =
    let m = parts_of g.C.Choices.choices c.args.self.now in
    ap (slice_index c.table-table.result.now) (place_one m.model.size c.args.number)
    ∙ own_is m c.requires.ready.well_formed (unmarked m.normal + c.args.sort)
    (c.args.number ∷ [])
    (own-by_sort m.choices m.normal c.requires.by_sort c.args.sort c.args.number
    c.requires.sort) (c.requires.number, tt) c.table-table.result.now
    (c.table-table.ensures ∙ ap (λ n. table_in m (n + c.args.sort)) c.unmarked.ensures)
    c.if-table-eq0.false
    ∙ sort_mark-at m c.args.sort c.args.number c.requires.sort

pub table-table-requires-clause-number : goal.table-table-requires-clause-number
table-table-requires-clause-number g c =
    let m = parts_of g.C.Choices.choices c.args.self.now in
    omega (
      arith,
      c.unmarked.ensures,
      c.requires.sort,
      own_count-by_sort m.choices m.normal c.requires.by_sort,
    )
