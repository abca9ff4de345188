use Rattle.std.proofs.Common.{[], ◌∷◌, ◌∙◌}
use Rattle.tptp_phrases.specs.Readers.{take_word}
use Rattle.model_tables.specs.Grammar.{stop}
use Rattle.model_tables.specs.Places.{AtSize, AtSizesEnd}
use Rattle.model_tables.specs.Steps.{Start, Stands}
use Rattle.model_tables.specs.Leads.{lead}
use Rattle.model_tables.proofs.Leading.{ok_goes, err_goes}
use Rattle.model_tables.proofs.ReadSteps.{size_right, led_size_end}
use Rattle.model_tables.proofs.untyped.size.Goals as goal

pub returns-in-Ok : goal.returns-in-Ok
returns-in-Ok c asked same =
    let sizes = c.in_ok-size.size ∷ [] in
    let at_size = lead asked c.args.total (Stands (AtSize sizes)) c.opening.new.reader in
    size_right asked c.args.total c.in_ok-size.size (lead asked c.args.total Start c.args.reader.now)
    c.opening.new.reader same (c.in_ok-size.ensures asked same) c.in_ok-check_size.ensures
    ∙ ok_goes asked c.args.total at_size (take_word stop c.opening.new.reader)
    (λ _. Stands (AtSizesEnd sizes)) c.in-Ok.field-0 c.take_mark.new.self
    (led_size_end asked c.args.total sizes c.opening.new.reader same) c.in-Ok.ensures

pub returns-in-Err : goal.returns-in-Err
returns-in-Err c asked same other =
    let sizes = c.in_ok-size.size ∷ [] in
    let at_size = lead asked c.args.total (Stands (AtSize sizes)) c.opening.new.reader in
    size_right asked c.args.total c.in_ok-size.size (lead asked c.args.total Start c.args.reader.now)
    c.opening.new.reader same (c.in_ok-size.ensures asked same) c.in_ok-check_size.ensures
    ∙ err_goes asked c.args.total at_size (take_word stop c.opening.new.reader)
    (λ _. Stands (AtSizesEnd sizes)) c.in-Err.fault c.take_mark.new.self c.refused.result
    (led_size_end asked c.args.total sizes c.opening.new.reader same) c.in-Err.ensures
    c.refused.ensures.memory c.refused.ensures.syntax other
