use Rattle.std.proofs.Common.{[], ◌∷◌, List, ℕ, length, refl, sym, ◌∙◌, subst}
use Rattle.std.proofs.lemmas.Result.{err_from_is_err_and}
use Rattle.model_tables.specs.Places.{AtSizesEnd}
use Rattle.model_tables.specs.Faults.{limit_faults}
use Rattle.model_tables.specs.Untyped.{untyped, all_entries}
use Rattle.model_tables.specs.Steps.{Stands}
use Rattle.model_tables.specs.Leads.{lead}
use Rattle.model_tables.specs.ReadUntyped.{IsAnswer}
use Rattle.model_tables.proofs.Checked.{unless-none, unless-some}
use Rattle.model_tables.proofs.Answered.{text_refused}
use Rattle.model_tables.proofs.ReadSteps.{answer_said, answer_refused}
use Rattle.model_tables.proofs.untyped.read_text.Goals as goal

pub returns-in_err-size-clause-refused : goal.returns-in_err-size-clause-refused
returns-in_err-size-clause-refused c =
    let p = err_from_is_err_and c.from_residual.result
    c.from_residual.ensures.1 in
    let asked = untyped c.args.signature.now c.args.names.now in
    rw (p.1, p.2) (λ other.
    text_refused asked c.args.text.now c.new-reader.result c.in_err-size.field-0.0
    c.new-reader.ensures (c.in_err-size.ensures asked refl other))

pub returns-in_err-check_entries-clause-refused : goal.returns-in_err-check_entries-clause-refused
returns-in_err-check_entries-clause-refused c =
    let p = err_from_is_err_and c.from_residual-in_err-check_entries.result
    c.from_residual-in_err-check_entries.ensures.1 in
    let asked = untyped c.args.signature.now c.args.names.now in
    rw (p.1, p.2) (λ other.
    text_refused asked c.args.text.now c.new-reader.result c.in_err-check_entries.field-0.0
    c.new-reader.ensures (c.in_ok-size.ensures asked refl
    ∙ unless-some (limit_faults (all_entries c.args.signature.now c.in_ok-size.size))
    (lead asked (length c.args.text.now) (Stands (AtSizesEnd (c.in_ok-size.size ∷ [])))
    c.size.new.reader) c.in_err-check_entries.field-0.0 (c.in_err-check_entries.ensures other)))

pub returns-clause-said : goal.returns-clause-said
returns-clause-said c =
    let asked = untyped c.args.signature.now c.args.names.now in
    let at_end = lead asked (length c.args.text.now) (Stands (AtSizesEnd (c.in_ok-size.size ∷ [])))
    c.size.new.reader in
    answer_said c.args.signature.now c.args.names.now c.args.text.now c.new-reader.result at_end
    c.new-reader.ensures
    (c.in_ok-size.ensures asked refl
    ∙ unless-none (limit_faults (all_entries c.args.signature.now c.in_ok-size.size)) at_end
    c.in_ok-check_entries.ensures)
    c.read_items.result
    (subst (λ (ns : List (List ℕ)). IsAnswer c.args.signature.now ns
    (lead (untyped c.args.signature.now ns) (length c.args.text.now)
    (Stands (AtSizesEnd (c.in_ok-size.size ∷ []))) c.size.new.reader) c.read_items.result)
    (c.in_ok-names.ensures ∙ c.in_ok-texts.ensures) c.read_items.ensures)

pub returns-clause-refused : goal.returns-clause-refused
returns-clause-refused c =
    let asked = untyped c.args.signature.now c.args.names.now in
    let at_end = lead asked (length c.args.text.now) (Stands (AtSizesEnd (c.in_ok-size.size ∷ [])))
    c.size.new.reader in
    answer_refused c.args.signature.now c.args.names.now c.args.text.now c.new-reader.result at_end
    c.new-reader.ensures
    (c.in_ok-size.ensures asked refl
    ∙ unless-none (limit_faults (all_entries c.args.signature.now c.in_ok-size.size)) at_end
    c.in_ok-check_entries.ensures)
    c.read_items.result
    (subst (λ (ns : List (List ℕ)). IsAnswer c.args.signature.now ns
    (lead (untyped c.args.signature.now ns) (length c.args.text.now)
    (Stands (AtSizesEnd (c.in_ok-size.size ∷ []))) c.size.new.reader) c.read_items.result)
    (c.in_ok-names.ensures ∙ c.in_ok-texts.ensures) c.read_items.ensures)
