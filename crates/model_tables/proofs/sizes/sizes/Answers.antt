use Rattle.std.proofs.Common.{◌∙◌, refl}
use Rattle.tptp_phrases.specs.Readers.{take_word}
use Rattle.model_tables.specs.Grammar.{stop}
use Rattle.model_tables.specs.Places.{AtSize, AtSizesEnd}
use Rattle.model_tables.specs.Steps.{Stands}
use Rattle.model_tables.specs.Leads.{lead}
use Rattle.model_tables.specs.Typed.{typed}
use Rattle.model_tables.proofs.Leading.{ok_goes, err_goes}
use Rattle.model_tables.proofs.SizeSteps.{led_stop}
use Rattle.model_tables.proofs.sizes.sizes.Goals as goal

pub returns-in-Ok-clause-goes : goal.returns-in-Ok-clause-goes
returns-in-Ok-clause-goes c g =
    c.in_ok-first.ensures (typed g) refl
    ∙ c.in_ok-sizes.ensures.goes g c.args.total
    ∙ ok_goes (typed g) c.args.total
    (lead (typed g) c.args.total (Stands (AtSize c.in_ok-sizes.sizes)) c.more_sizes.new.reader)
    (take_word stop c.more_sizes.new.reader) (λ _. Stands (AtSizesEnd c.in_ok-sizes.sizes))
    c.in-Ok.field-0 c.take_mark.new.self
    (led_stop g c.args.total c.in_ok-sizes.sizes c.more_sizes.new.reader c.in_ok-sizes.ensures.all)
    c.in-Ok.ensures

pub returns-in-Err-clause-goes : goal.returns-in-Err-clause-goes
returns-in-Err-clause-goes c g some =
    c.in_ok-first.ensures (typed g) refl
    ∙ c.in_ok-sizes.ensures.goes g c.args.total
    ∙ err_goes (typed g) c.args.total
    (lead (typed g) c.args.total (Stands (AtSize c.in_ok-sizes.sizes)) c.more_sizes.new.reader)
    (take_word stop c.more_sizes.new.reader) (λ _. Stands (AtSizesEnd c.in_ok-sizes.sizes))
    c.in-Err.fault c.take_mark.new.self c.refused.result
    (led_stop g c.args.total c.in_ok-sizes.sizes c.more_sizes.new.reader c.in_ok-sizes.ensures.all)
    c.in-Err.ensures c.refused.ensures.memory c.refused.ensures.syntax some
