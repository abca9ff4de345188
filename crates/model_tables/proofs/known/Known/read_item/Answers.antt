use Rattle.std.proofs.Common.{refl, sym, ap, ◌∙◌}
use Rattle.std.proofs.lemmas.Result.{err_from_is_err_and}
use Rattle.model_tables.specs.declared.form.Kind.TheVariants as kind
use Rattle.model_tables.specs.Places.{AtName}
use Rattle.model_tables.specs.Steps.{Stands}
use Rattle.model_tables.specs.Leads.{arrive}
use Rattle.model_tables.specs.Typed.{typed}
use Rattle.model_tables.proofs.TypedChecks.{goes_refused, other_unknown}
use Rattle.model_tables.proofs.known.Known.read_item.Goals as goal

pub returns-in_err-kind-clause-reads : goal.returns-in_err-kind-clause-reads
returns-in_err-kind-clause-reads c whole reading =
    let p = err_from_is_err_and c.from_residual.result c.from_residual.ensures.1 in
    rw (p.1, p.2) (λ other.
    reading.goes
    ∙ c.in_err-kind.ensures (typed c.args.self.now.signature.now) reading.state reading.before refl
    reading.at other)

pub returns-in-Constructor-clause-reads : goal.returns-in-Constructor-clause-reads
returns-in-Constructor-clause-reads c whole reading =
    let named = reading.goes
    ∙ c.in_ok-kind.ensures (typed c.args.self.now.signature.now) reading.state reading.before refl
    reading.at in
    let g = c.args.self.now.signature.now in
    c.read_constructor.ensures.reads whole reading.before reading.said
    (named
    ∙ ap (λ k. arrive (typed g) c.args.total (Stands (AtName reading.before k c.in_ok-kind.name))
    c.heading.new.reader) c.in-Constructor.is
    ∙ ap (λ n. arrive (typed g) c.args.total (Stands (AtName reading.before kind.Constructor n))
    c.heading.new.reader) (sym c.as_slice.ensures))

pub returns-in-Symbol-clause-reads : goal.returns-in-Symbol-clause-reads
returns-in-Symbol-clause-reads c whole reading =
    let named = reading.goes
    ∙ c.in_ok-kind.ensures (typed c.args.self.now.signature.now) reading.state reading.before refl
    reading.at in
    let g = c.args.self.now.signature.now in
    c.read_symbol.ensures.reads whole reading.before reading.said
    (named
    ∙ ap (λ k. arrive (typed g) c.args.total (Stands (AtName reading.before k c.in_ok-kind.name))
    c.heading.new.reader) c.in-Symbol.is
    ∙ ap (λ n. arrive (typed g) c.args.total (Stands (AtName reading.before kind.Symbol n))
    c.heading.new.reader) (sym c.as_slice-in-Symbol.ensures))

pub returns-in-Function-clause-reads : goal.returns-in-Function-clause-reads
returns-in-Function-clause-reads c whole reading = λ other.
    let named = reading.goes
    ∙ c.in_ok-kind.ensures (typed c.args.self.now.signature.now) reading.state reading.before refl
    reading.at in
    let g = c.args.self.now.signature.now in
    goes_refused (typed g) c.args.total whole
    (AtName reading.before kind.Function c.in_ok-kind.name) c.heading.new.reader
    (named
    ∙ ap (λ k. arrive (typed g) c.args.total (Stands (AtName reading.before k c.in_ok-kind.name))
    c.heading.new.reader) c.in-Function.is) _
    (other_unknown g reading.before.items kind.Function c.in_ok-kind.name refl refl)

pub returns-in-Predicate-clause-reads : goal.returns-in-Predicate-clause-reads
returns-in-Predicate-clause-reads c whole reading = λ other.
    let named = reading.goes
    ∙ c.in_ok-kind.ensures (typed c.args.self.now.signature.now) reading.state reading.before refl
    reading.at in
    let g = c.args.self.now.signature.now in
    goes_refused (typed g) c.args.total whole
    (AtName reading.before kind.Predicate c.in_ok-kind.name) c.heading.new.reader
    (named
    ∙ ap (λ k. arrive (typed g) c.args.total (Stands (AtName reading.before k c.in_ok-kind.name))
    c.heading.new.reader) c.in-Predicate.is) _
    (other_unknown g reading.before.items kind.Predicate c.in_ok-kind.name refl refl)
