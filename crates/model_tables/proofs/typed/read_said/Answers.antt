use Rattle.std.proofs.Common.{◌≡◌, [], Some, length, sym, ◌∙◌, subst}
use Rattle.std.proofs.lemmas.Result.{err_from_is_err_and}
use Rattle.model_tables.specs.Places.{AtSizesEnd}
use Rattle.model_tables.specs.Faults.{limit_faults}
use Rattle.model_tables.specs.Steps.{Start}
use Rattle.model_tables.specs.Leads.{lead}
use Rattle.model_tables.specs.Checks.{first_fault}
use Rattle.model_tables.specs.Typed.{typed, constructor_entries}
use Rattle.model_tables.specs.ReadTyped.{IsReading, IsRead}
use Rattle.model_tables.proofs.Answered.{text_said, text_refused}
use Rattle.model_tables.proofs.PartFacts.{few}
use Rattle.model_tables.proofs.TypedChecks.{goes_refused, reading_first}
use Rattle.model_tables.proofs.typed.read_said.Goals as goal

pub returns-in_err-sizes-clause-refused : goal.returns-in_err-sizes-clause-refused
returns-in_err-sizes-clause-refused c =
    let p = err_from_is_err_and c.from_residual.result c.from_residual.ensures.1 in
    let g = c.args.signature.now in
    rw (p.1, p.2) (λ other.
    text_refused (typed g) c.args.text.now c.new-reader.result c.in_err-sizes.field-0.0
    c.new-reader.ensures (c.in_err-sizes.ensures.goes g other))

pub returns-in_err-check_sizes-clause-refused : goal.returns-in_err-check_sizes-clause-refused
returns-in_err-check_sizes-clause-refused c =
    let p = err_from_is_err_and c.from_residual-in_err-check_sizes.result
    c.from_residual-in_err-check_sizes.ensures.1 in
    let g = c.args.signature.now in
    let fault = c.in_err-check_sizes.field-0.0 in
    rw (p.1, p.2) (λ other.
    text_refused (typed g) c.args.text.now c.new-reader.result fault c.new-reader.ensures
    (goes_refused (typed g) (length c.args.text.now) _ (AtSizesEnd c.in_ok-sizes.sizes)
    c.sizes.new.reader (c.in_ok-sizes.ensures.goes g) fault
    (subst (λ sizes. first_fault (limit_faults (constructor_entries g sizes)) ≡ Some fault)
    c.as_slice.ensures (c.in_err-check_sizes.ensures other))))

pub returns-in_err-read_items-clause-refused : goal.returns-in_err-read_items-clause-refused
returns-in_err-read_items-clause-refused c =
    let p = err_from_is_err_and c.from_residual-in_err-read_items.result
    c.from_residual-in_err-read_items.ensures.1 in
    let g = c.args.signature.now in
    let whole = lead (typed g) (length c.args.text.now) Start c.new-reader.result in
    let none = subst (λ sizes. limit_faults (constructor_entries g sizes) ≡ []) c.as_slice.ensures
    c.in_ok-check_sizes.ensures in
    let first = reading_first g (length c.args.text.now) whole c.in_ok-sizes.sizes c.sizes.new.reader
    c.in_ok-part.part (c.in_ok-sizes.ensures.goes g) none c.in_ok-part.ensures.said in
    let reading = subst (λ z. IsReading z (length c.args.text.now) whole c.sizes.new.reader
    c.in_ok-part.part) (sym c.in_ok-known.ensures.same) first in
    rw (p.1, p.2) (λ other.
    text_refused (typed g) c.args.text.now c.new-reader.result c.in_err-read_items.field-0.0
    c.new-reader.ensures (c.in_err-read_items.ensures.reads whole reading other))

pub returns-in_err-check_end-clause-refused : goal.returns-in_err-check_end-clause-refused
returns-in_err-check_end-clause-refused c =
    let p = err_from_is_err_and c.from_residual-in_err-check_end.result
    c.from_residual-in_err-check_end.ensures.1 in
    let g = c.args.signature.now in
    let whole = lead (typed g) (length c.args.text.now) Start c.new-reader.result in
    let none = subst (λ sizes. limit_faults (constructor_entries g sizes) ≡ []) c.as_slice.ensures
    c.in_ok-check_sizes.ensures in
    let first = reading_first g (length c.args.text.now) whole c.in_ok-sizes.sizes c.sizes.new.reader
    c.in_ok-part.part (c.in_ok-sizes.ensures.goes g) none c.in_ok-part.ensures.said in
    let reading = subst (λ z. IsReading z (length c.args.text.now) whole c.sizes.new.reader
    c.in_ok-part.part) (sym c.in_ok-known.ensures.same) first in
    rw (p.1, p.2) (λ other.
    text_refused (typed g) c.args.text.now c.new-reader.result c.in_err-check_end.field-0.0
    c.new-reader.ensures
    (c.in_err-check_end.ensures whole (c.in_ok-read_items.ensures.reads whole reading) other))

pub returns-clause-said : goal.returns-clause-said
returns-clause-said c =
    let g = c.args.signature.now in
    let whole = lead (typed g) (length c.args.text.now) Start c.new-reader.result in
    let none = subst (λ sizes. limit_faults (constructor_entries g sizes) ≡ []) c.as_slice.ensures
    c.in_ok-check_sizes.ensures in
    let first = reading_first g (length c.args.text.now) whole c.in_ok-sizes.sizes c.sizes.new.reader
    c.in_ok-part.part (c.in_ok-sizes.ensures.goes g) none c.in_ok-part.ensures.said in
    let reading = subst (λ z. IsReading z (length c.args.text.now) whole c.sizes.new.reader
    c.in_ok-part.part) (sym c.in_ok-known.ensures.same) first in
    let read = subst (λ z. IsRead z whole c.read_items.new.part) c.in_ok-known.ensures.same
    (c.in_ok-check_end.ensures whole (c.in_ok-read_items.ensures.reads whole reading)) in (
      read.table,
      text_said (typed g) c.args.text.now c.new-reader.result read.table c.new-reader.ensures
          read.answer,
      read.said.structure,
    )

pub returns-clause-few : goal.returns-clause-few
returns-clause-few c =
    few c.in_ok-known.known.signature.now c.read_items.new.part c.in_ok-read_items.ensures.kept.fits
