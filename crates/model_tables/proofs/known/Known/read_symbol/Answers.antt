use Rattle.std.proofs.Common.{◌∙◌}
use Rattle.std.proofs.lemmas.Result.{err_from_is_err_and}
use Rattle.model_tables.specs.declared.form.Kind.TheVariants as kind
use Rattle.model_tables.specs.Places.{AtName}
use Rattle.model_tables.specs.Typed.{typed}
use Rattle.model_tables.specs.ReadTyped.{symbol_item}
use Rattle.model_tables.proofs.TypedChecks.{goes_clean, goes_refused, item_taken}
use Rattle.model_tables.proofs.known.Known.read_symbol.Goals as goal

pub returns-in_err-at-clause-reads : goal.returns-in_err-at-clause-reads
returns-in_err-at-clause-reads c whole before said goes =
    let p = err_from_is_err_and c.from_residual.result c.from_residual.ensures.1 in
    rw (p.1, p.2) (λ other.
    goes_refused (typed c.args.self.now.signature.now) c.args.total whole
    (AtName before kind.Symbol c.args.name.now) c.args.reader.now goes c.in_err-at.field-0.0
    (c.in_err-at.ensures.checks before said other))

pub returns-in_err-entries-clause-reads : goal.returns-in_err-entries-clause-reads
returns-in_err-entries-clause-reads c whole before said goes =
    let p = err_from_is_err_and c.from_residual-in_err-entries.result
    c.from_residual-in_err-entries.ensures.1 in
    rw (p.1, p.2) (λ other.
    goes_clean (typed c.args.self.now.signature.now) c.args.total whole
    (AtName before kind.Symbol c.args.name.now) c.args.reader.now goes
    (c.in_ok-at.ensures.checks before said)
    ∙ c.in_err-entries.ensures (typed c.args.self.now.signature.now) before kind.Symbol
    c.args.name.now other)

pub returns-clause-reads : goal.returns-clause-reads
returns-clause-reads c whole before said goes =
    let g = c.args.self.now.signature.now in
    item_taken g c.args.total whole before
    (symbol_item c.args.name.now c.in_ok-entries.entries) c.entries.new.reader
    c.take_symbol.new.part c.take_symbol.result
    (goes_clean (typed g) c.args.total whole (AtName before kind.Symbol c.args.name.now)
    c.args.reader.now goes (c.in_ok-at.ensures.checks before said)
    ∙ c.in_ok-entries.ensures (typed g) before kind.Symbol c.args.name.now)
    (c.take_symbol.ensures.takes before c.args.name.now c.in_ok-at.ensures.found said)
