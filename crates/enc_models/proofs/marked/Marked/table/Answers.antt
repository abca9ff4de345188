use Rattle.std.proofs.Common.{◌<◌, length, subst, ◌∙◌}
use Rattle.enc_models.proofs.MarkedTables.{read_some, table_within, table_is}
use Rattle.enc_models.proofs.marked.Marked.table.Goals as goal

pub bounds-as_slice-at : goal.bounds-as_slice-at
bounds-as_slice-at g c =
    let found = read_some (g.C.Choices.choices c.args.self.now.choices.now) c.args.self.now.normal.now c.args.self.now.places.now
    c.requires.ready.places c.args.number c.requires.number _ c.in-Some.at c.in-Some.is in
    rw c.as_slice.ensures
    (subst (λ n. n < length c.args.self.now.model.now.tables) found.1
    (table_within (g.C.Choices.choices c.args.self.now.choices.now) c.args.self.now.normal.now c.args.self.now.model.now
    c.requires.ready.well_formed c.args.number c.requires.number found.0))

pub returns-in-Some : goal.returns-in-Some
returns-in-Some g c =
    let found = read_some (g.C.Choices.choices c.args.self.now.choices.now) c.args.self.now.normal.now c.args.self.now.places.now
    c.requires.ready.places c.args.number c.requires.number _ c.in-Some.at c.in-Some.is in
    c.as_slice-in-Some.ensures
    ∙ table_is (g.C.Choices.choices c.args.self.now.choices.now) c.args.self.now.normal.now c.args.self.now.model.now
    c.requires.ready.well_formed c.args.number c.in-Some.at c.index-as_slice-at.result
    c.as_slice.result.now c.requires.number found.0 found.1 c.as_slice.ensures
    c.index-as_slice-at.is
