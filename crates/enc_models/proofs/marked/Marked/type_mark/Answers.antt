use Rattle.std.proofs.Common.{ℕ, ◌∙◌, ◌≡◌, ◌∷◌, [], arith, ap, sym, slice_index}
use Rattle.enc_models.specs.Calls.Lifting.{parts_of, table_in}
use Rattle.enc_models.proofs.OwnMarks.{unmarked, own-by_type, own_inside, own_is, own_none, place_two}
use Rattle.enc_models.proofs.marked.Marked.type_mark.Goals as goal

pub bounds-table-at : goal.bounds-table-at
bounds-table-at g c =
    let m = parts_of g.C.Choices.choices c.args.self.now in
    omega (
      arith,
      place_two m.model.size c.args.member c.args.number,
      own_inside m c.requires.ready.well_formed (unmarked m.normal)
          (c.args.member ∷ c.args.number ∷ [])
          (own-by_type m.choices m.normal c.requires.by_type c.args.member c.args.number)
          (c.requires.member, (c.requires.number, tt)) c.table-table.result.now
          (c.table-table.ensures ∙ ap (table_in m) c.unmarked.ensures) c.if-table-eq0.false,
    )

pub offset_bounds-table-at : goal.offset_bounds-table-at
offset_bounds-table-at g c =
    let m = parts_of g.C.Choices.choices c.args.self.now in
    omega (
      arith,
      c.table-table.type_inv,
      place_two m.model.size c.args.member c.args.number,
      own_inside m c.requires.ready.well_formed (unmarked m.normal)
          (c.args.member ∷ c.args.number ∷ [])
          (own-by_type m.choices m.normal c.requires.by_type c.args.member c.args.number)
          (c.requires.member, (c.requires.number, tt)) c.table-table.result.now
          (c.table-table.ensures ∙ ap (table_in m) c.unmarked.ensures) c.if-table-eq0.false,
    )

pub returns-then-table-eq0 : goal.returns-then-table-eq0
returns-then-table-eq0 g c =
    let m = parts_of g.C.Choices.choices c.args.self.now in
    c.absent_mark.ensures
    ∙ own_none m c.requires.ready.well_formed (unmarked m.normal)
    (c.args.member ∷ c.args.number ∷ [])
    (own-by_type m.choices m.normal c.requires.by_type c.args.member c.args.number)
    (c.requires.member, (c.requires.number, tt)) c.table-table.result.now
    (c.table-table.ensures ∙ ap (table_in m) c.unmarked.ensures) c.if-table-eq0.true

pub returns : goal.returns
returns g c =
    let m = parts_of g.C.Choices.choices c.args.self.now in
    ap (slice_index c.table-table.result.now)
    (place_two m.model.size c.args.member c.args.number)
    ∙ own_is m c.requires.ready.well_formed (unmarked m.normal)
    (c.args.member ∷ c.args.number ∷ [])
    (own-by_type m.choices m.normal c.requires.by_type c.args.member c.args.number)
    (c.requires.member, (c.requires.number, tt)) c.table-table.result.now
    (c.table-table.ensures ∙ ap (table_in m) c.unmarked.ensures) c.if-table-eq0.false
