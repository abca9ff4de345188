use Rattle.std.proofs.Common.{◌≡◌, ℕ, [], ◌∷◌, List, subst}
use Rattle.model_tables.specs.declared.form.Kind.{Kind}
use Rattle.model_tables.specs.Faults.{Asked}
use Rattle.model_tables.specs.Places.{AtName}
use Rattle.model_tables.specs.Steps.{State, Stands}
use Rattle.model_tables.specs.Leads.{lead, Led, heading_at}
use Rattle.model_tables.proofs.Leading.{led_heading, ok_goes, err_goes}
use Rattle.model_tables.proofs.parts.heading.Goals as goal

pub returns-in-Ok : goal.returns-in-Ok
returns-in-Ok c asked s before same ends =
    ok_goes asked c.args.total (lead asked c.args.total s c.args.reader.now)
    (heading_at c.args.form c.args.reader.now)
    (λ (head : Kind × List ℕ). Stands (AtName before head.0 head.1)) c.in-Ok.head
    c.heading_words.new.reader
    (subst (λ f. Led asked c.args.total (lead asked c.args.total s c.args.reader.now)
    (heading_at f c.args.reader.now)
    (λ (head : Kind × List ℕ). Stands (AtName before head.0 head.1))) same
    (led_heading asked c.args.total s before ends c.args.reader.now c.requires))
    c.in-Ok.ensures

pub returns-in-Err : goal.returns-in-Err
returns-in-Err c asked s before same ends =
    err_goes asked c.args.total (lead asked c.args.total s c.args.reader.now)
    (heading_at c.args.form c.args.reader.now)
    (λ (head : Kind × List ℕ). Stands (AtName before head.0 head.1)) c.in-Err.fault
    c.heading_words.new.reader c.refused.result
    (subst (λ f. Led asked c.args.total (lead asked c.args.total s c.args.reader.now)
    (heading_at f c.args.reader.now)
    (λ (head : Kind × List ℕ). Stands (AtName before head.0 head.1))) same
    (led_heading asked c.args.total s before ends c.args.reader.now c.requires))
    c.in-Err.ensures c.refused.ensures.memory c.refused.ensures.syntax
