use Rattle.std.proofs.Common.{ℕ, ◌≡◌, ◌∙◌, List, arith, sym, ap, subst, length}
use Rattle.std.specs.List.{AllByRecursion}
use Rattle.enc_base.specs.Counts.{in_64_bits}
use Rattle.tf_core.specs.declared.ty.Ty.{Ty}
use Rattle.tf_core.specs.declared.signature.Symbol.{Symbol}
use Rattle.tf_core.specs.Typing.{IsType}
use Rattle.tf_types.specs.Numbers.{IsOneToOne}
use Rattle.tf_naked.proofs.SortTypes.{sorts_formed}
use Rattle.enc_models.specs.Calls.Lifting.{parts_of, typed_in, members_in, AreRows}
use Rattle.enc_models.specs.Calls.SortNumbers.{AreAmong, AreArgumentsAmong, AreEntered, count_over_sorts}
use Rattle.enc_models.proofs.SortStructure.{sorts_once, sorts_arguments, arguments_among, size_count, tables_entered, counted-by_sort, constructors_within}
use Rattle.enc_models.proofs.lifted_sorts.tables_or_count.Goals as goal

pub new-requires-clause-once : goal.new-requires-clause-once
new-requires-clause-once g c =
    subst IsOneToOne (sym c.requires.listed) (sorts_once c.args.marked.now.normal.now)

pub entries_over_sorts-requires-clause-sizes : goal.entries_over_sorts-requires-clause-sizes
entries_over_sorts-requires-clause-sizes g c =
    let m = parts_of g.C.Choices.choices c.args.marked.now in
    ap (λ (sizes : List ℕ). length sizes) (c.as_slice.ensures ∙ c.in_ok-counted.ensures)
    ∙ size_count m c.requires.by_sort
    ∙ ap (λ (types : List Ty). length types) (sym c.requires.listed)

pub entries_over_sorts-requires-clause-among : goal.entries_over_sorts-requires-clause-among
entries_over_sorts-requires-clause-among g c =
    subst (λ (listed : List Ty). AllByRecursion (λ (symbol : Symbol). AreAmong listed
    symbol.arguments) c.args.marked.now.normal.now.signature.symbols) (sym c.requires.listed)
    (arguments_among c.args.marked.now.normal.now)

pub returns-then-entries-gt-MOST_ENTRIES : goal.returns-then-entries-gt-MOST_ENTRIES
returns-then-entries-gt-MOST_ENTRIES g c =
    let m = parts_of g.C.Choices.choices c.args.marked.now in
    let same = c.in_ok-entries.ensures.exact
    ∙ ap (λ (sizes : List ℕ). in_64_bits (count_over_sorts m.normal.signature sizes
    c.args.listed.now)) (c.as_slice.ensures ∙ c.in_ok-counted.ensures)
    ∙ ap (λ (listed : List Ty). in_64_bits (count_over_sorts m.normal.signature
    (typed_in m).sizes listed)) c.requires.listed
    ∙ ap in_64_bits (counted-by_sort m c.requires.by_sort c.requires.monomorphic
    c.requires.sound) in
    (omega (arith, same, c.if-entries-gt-MOST_ENTRIES.true), same)

pub tables_over_sorts-requires-clause-typed : goal.tables_over_sorts-requires-clause-typed
tables_over_sorts-requires-clause-typed g c =
    subst (AllByRecursion (IsType c.args.marked.now.normal.now.signature 0))
    (sym c.requires.listed)
    (sorts_formed c.args.marked.now.normal.now c.requires.monomorphic c.requires.sound)

pub tables_over_sorts-requires-clause-once : goal.tables_over_sorts-requires-clause-once
tables_over_sorts-requires-clause-once g c =
    subst IsOneToOne (sym c.requires.listed) (sorts_once c.args.marked.now.normal.now)

pub tables_over_sorts-requires-clause-arguments : goal.tables_over_sorts-requires-clause-arguments
tables_over_sorts-requires-clause-arguments g c =
    subst AreArgumentsAmong (sym c.requires.listed)
    (sorts_arguments c.args.marked.now.normal.now)

pub tables_over_sorts-requires-clause-within : goal.tables_over_sorts-requires-clause-within
tables_over_sorts-requires-clause-within g c =
    let m = parts_of g.C.Choices.choices c.args.marked.now in
    constructors_within m.normal.signature c.as_slice.result.now c.args.listed.now
    (ap (λ (sizes : List ℕ). length sizes) (c.as_slice.ensures ∙ c.in_ok-counted.ensures)
    ∙ size_count m c.requires.by_sort
    ∙ ap (λ (types : List Ty). length types) (sym c.requires.listed))
    c.in_ok-entries.entries c.in_ok-entries.ensures.exact
    (omega (arith, c.if-entries-gt-MOST_ENTRIES.false))

pub tabulate_typed-requires-clause-ready : goal.tabulate_typed-requires-clause-ready
tabulate_typed-requires-clause-ready g c =
    let m = parts_of g.C.Choices.choices c.args.marked.now in
    record {
      marked = c.requires.ready;
      fits = c.requires.fits;
      domain = c.rows.ensures.domain;
      rows = rw c.as_slice-2.ensures c.in_ok-sizes.ensures.each;
      formed = λ by_sort.
          rw c.as_slice-3.ensures
          (tables_entered m c.requires.by_sort c.in_ok-formed.formed
          (subst (λ (listed : List Ty). AreEntered m.normal.signature listed (length listed)
          c.in_ok-formed.formed) c.requires.listed c.in_ok-formed.ensures));
    }

pub returns : goal.returns
returns g c =
    let m = parts_of g.C.Choices.choices c.args.marked.now in
    let same = c.in_ok-entries.ensures.exact
    ∙ ap (λ (sizes : List ℕ). in_64_bits (count_over_sorts m.normal.signature sizes
    c.args.listed.now)) (c.as_slice.ensures ∙ c.in_ok-counted.ensures)
    ∙ ap (λ (listed : List Ty). in_64_bits (count_over_sorts m.normal.signature
    (typed_in m).sizes listed)) c.requires.listed
    ∙ ap in_64_bits (counted-by_sort m c.requires.by_sort c.requires.monomorphic
    c.requires.sound) in
    (c.in_ok-made.ensures, omega (arith, same, c.if-entries-gt-MOST_ENTRIES.false))
