use Rattle.std.proofs.Common.{ℕ, ◌∙◌, ◌≡◌, ◌+◌, arith, ap, sym, subst, eqb, length}
use Rattle.std.proofs.lemmas.Bool.{eqb-true}
use Rattle.enc_marks.specs.declared.choices.Marking.TheVariants.{ByType, BySort}
use Rattle.enc_models.specs.Calls.Lifting.{parts_of, table_in}
use Rattle.enc_models.proofs.OwnMarks.{unmarked, own_count-by_sort, members-by_sort, not_by_sort, tag_absent}
use Rattle.enc_models.proofs.marked.Marked.changes_nothing.Goals as goal
use Rattle.enc_models.proofs.marked.Marked.changes_nothing.Goals.{in-ByType, in-BySort}

pub table-table-requires-in-BySort-clause-number :
    goal.table-table-requires-in-BySort-clause-number
table-table-requires-in-BySort-clause-number g c =
    let m = parts_of g.C.Choices.choices c.args.self.now in
    let by_sort = sym c.marking.ensures ∙ c.in-BySort.is in
    omega (
      arith,
      c.unmarked-in-BySort.ensures,
      c.requires.member,
      members-by_sort m by_sort,
      own_count-by_sort m.choices m.normal by_sort,
    )

pub returns-in-ByTag : goal.returns-in-ByTag
returns-in-ByTag g c none number within =
    let m = parts_of g.C.Choices.choices c.args.self.now in
    let types : m.choices.marking ≡ ByType →
    c.match-marking.table.now ≡ table_in m (unmarked m.normal) =
    elim c.match-marking.branch [
      | in-ByType w ↦ λ is.
          rw w.table-is (w.table-table.ensures ∙ ap (table_in m) w.unmarked.ensures)
      | in-BySort w ↦ λ is.
          absurd (not_by_sort m.choices.marking is (sym c.marking.ensures ∙ w.in-BySort.is))
    ] in
    let sorted : m.choices.marking ≡ BySort →
    c.match-marking.table.now ≡ table_in m (unmarked m.normal + c.args.member) =
    elim c.match-marking.branch [
      | in-ByType w ↦ λ is.
          absurd (not_by_sort m.choices.marking (sym c.marking.ensures ∙ w.in-ByType.is) is)
      | in-BySort w ↦ λ is.
          rw w.table-is
          (w.table-table-in-BySort.ensures
          ∙ ap (λ n. table_in m (n + c.args.member)) w.unmarked-in-BySort.ensures)
    ] in
    tag_absent m c.requires.ready.well_formed c.match-marking.table.now
    (eqb-true (length c.match-marking.table.now) 0 none)
    (sym c.binding.ensures ∙ c.in-ByTag.is) c.args.member number c.requires.member within types
    sorted
