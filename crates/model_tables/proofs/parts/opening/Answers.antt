use Rattle.std.proofs.Common.{◌≡◌, ℕ, [], ◌∷◌, subst}
use Rattle.model_tables.specs.Faults.{Asked}
use Rattle.model_tables.specs.Places.{AtSize}
use Rattle.model_tables.specs.Steps.{Start, Stands}
use Rattle.model_tables.specs.Leads.{lead, Led, opening_at}
use Rattle.model_tables.proofs.Leading.{led_opening, ok_goes, err_goes}
use Rattle.model_tables.proofs.parts.opening.Goals as goal

pub returns-in-Ok : goal.returns-in-Ok
returns-in-Ok c asked same =
    ok_goes asked c.args.total (lead asked c.args.total Start c.args.reader.now)
    (opening_at c.args.form c.args.reader.now) (λ n. Stands (AtSize (n ∷ []))) c.in-Ok.size
    c.opening_words.new.reader
    (subst (λ f. Led asked c.args.total (lead asked c.args.total Start c.args.reader.now)
    (opening_at f c.args.reader.now) (λ n. Stands (AtSize (n ∷ [])))) same
    (led_opening asked c.args.total c.args.reader.now))
    c.in-Ok.ensures

pub returns-in-Err : goal.returns-in-Err
returns-in-Err c asked same =
    err_goes asked c.args.total (lead asked c.args.total Start c.args.reader.now)
    (opening_at c.args.form c.args.reader.now) (λ n. Stands (AtSize (n ∷ []))) c.in-Err.fault
    c.opening_words.new.reader c.refused.result
    (subst (λ f. Led asked c.args.total (lead asked c.args.total Start c.args.reader.now)
    (opening_at f c.args.reader.now) (λ n. Stands (AtSize (n ∷ [])))) same
    (led_opening asked c.args.total c.args.reader.now))
    c.in-Err.ensures c.refused.ensures.memory c.refused.ensures.syntax
