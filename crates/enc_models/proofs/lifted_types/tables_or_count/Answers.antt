use Rattle.enc_models.specs.Calls.Lifting.{parts_of}
use Rattle.enc_models.proofs.OwnMarks.{members-by_type, not_by_sort}
use Rattle.std.proofs.Common.{sym}
use Rattle.enc_models.proofs.lifted_types.tables_or_count.Goals as goal

pub rows-requires-clause-members : goal.rows-requires-clause-members
rows-requires-clause-members g c =
    sym (members-by_type (parts_of g.C.Choices.choices c.args.marked.now) c.requires.by_type)

pub typed_entries-requires-clause-sized : goal.typed_entries-requires-clause-sized
typed_entries-requires-clause-sized g c =
    rw c.as_slice-2.ensures
    (record {
      fits = c.requires.fits;
      same = c.in_ok-sizes.ensures.sizes;
      few = c.in_ok-sizes.ensures.few;
    })

pub tabulate_typed-requires-clause-sized : goal.tabulate_typed-requires-clause-sized
tabulate_typed-requires-clause-sized g c =
    record {
      fits = c.requires.fits;
      same = c.in_ok-sizes.ensures.sizes;
      few = c.in_ok-sizes.ensures.few;
    }

pub typed_entries-requires-clause-ready : goal.typed_entries-requires-clause-ready
typed_entries-requires-clause-ready g c =
    record {
      marked = c.requires.ready;
      fits = c.requires.fits;
      domain = c.rows.ensures.domain;
      rows = rw c.as_slice.ensures c.in_ok-sizes.ensures.each;
      formed = λ by_sort. absurd (not_by_sort _ c.requires.by_type by_sort);
    }

pub tabulate_typed-requires-clause-ready : goal.tabulate_typed-requires-clause-ready
tabulate_typed-requires-clause-ready g c =
    record {
      marked = c.requires.ready;
      fits = c.requires.fits;
      domain = c.rows.ensures.domain;
      rows = rw c.as_slice.ensures c.in_ok-sizes.ensures.each;
      formed = λ by_sort. absurd (not_by_sort _ c.requires.by_type by_sort);
    }
