use Rattle.std.proofs.Common.{ℕ, List}
use Rattle.model_tables.specs.Places.{AtName, AtItemEnd}
use Rattle.model_tables.specs.Steps.{Stands}
use Rattle.model_tables.specs.Leads.{lead, entries_at}
use Rattle.model_tables.proofs.Leading.{led_entries, ok_goes, err_goes}
use Rattle.model_tables.proofs.parts.entries.Goals as goal

pub returns-in-Ok : goal.returns-in-Ok
returns-in-Ok c asked before kind name =
    ok_goes asked c.args.total (lead asked c.args.total (Stands (AtName before kind name)) c.args.reader.now)
    (entries_at c.args.reader.now)
    (λ (es : List ℕ). Stands (AtItemEnd before (record { kind = kind; name = name; entries = es })))
    c.in-Ok.entries c.entry_words.new.reader
    (led_entries asked c.args.total before kind name c.args.reader.now)
    c.in-Ok.ensures

pub returns-in-Err : goal.returns-in-Err
returns-in-Err c asked before kind name =
    err_goes asked c.args.total (lead asked c.args.total (Stands (AtName before kind name)) c.args.reader.now)
    (entries_at c.args.reader.now)
    (λ (es : List ℕ). Stands (AtItemEnd before (record { kind = kind; name = name; entries = es })))
    c.in-Err.fault c.entry_words.new.reader c.refused.result
    (led_entries asked c.args.total before kind name c.args.reader.now)
    c.in-Err.ensures c.refused.ensures.memory c.refused.ensures.syntax
