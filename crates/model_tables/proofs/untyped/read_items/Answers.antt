use Rattle.std.proofs.Common.{[], ◌∷◌, List, ℕ, Option, ◌∙◌, sym, subst}
use Rattle.std.proofs.lemmas.List.{with_items_is}
use Rattle.std.proofs.lemmas.Result.{err_from_is_err_and}
use Rattle.model_tables.specs.Places.{AtSizesEnd}
use Rattle.model_tables.specs.Untyped.{untyped}
use Rattle.model_tables.specs.Steps.{Stands}
use Rattle.model_tables.specs.Leads.{lead}
use Rattle.model_tables.specs.ReadUntyped.{IsReadSoFar}
use Rattle.model_tables.proofs.ReadSteps.{read_none}
use Rattle.model_tables.proofs.untyped.read_items.Goals as goal

pub returns-in_err-items : goal.returns-in_err-items
returns-in_err-items c =
    let p = err_from_is_err_and c.from_residual-in_err-items.result
    c.from_residual-in_err-items.ensures.1 in
    let signature = c.args.symbols.now.signature.now in
    let names = c.args.symbols.now.names in
    let size = c.args.symbols.now.size in
    let whole = lead (untyped signature names) c.args.total (Stands (AtSizesEnd (size ∷ [])))
    c.args.reader.now in
    rw (p.1, p.2) (λ other.
    c.in_err-items.ensures.read whole
    (subst (λ (slots : List (Option (List ℕ))). IsReadSoFar (untyped signature names) c.args.total whole
    (size ∷ []) slots c.args.reader.now) (sym (c.deref_mut.ensures.value ∙ c.in_ok-slots.ensures))
    (read_none signature names c.args.total size c.args.reader.now c.requires.ready.one_each)) other)

pub returns : goal.returns
returns c =
    let signature = c.args.symbols.now.signature.now in
    let names = c.args.symbols.now.names in
    let size = c.args.symbols.now.size in
    let whole = lead (untyped signature names) c.args.total (Stands (AtSizesEnd (size ∷ [])))
    c.args.reader.now in
    let back = with_items_is c.in_ok-slots.slots c.items.new.slots
    (c.items.auto.slots ∙ c.deref_mut.ensures.len) in
    c.finish.ensures whole
    (subst (λ (slots : List (Option (List ℕ))). IsReadSoFar (untyped signature names) c.args.total whole
    (size ∷ []) slots c.items.new.reader) (sym back)
    (c.in_ok-items.ensures.read whole
    (subst (λ (slots : List (Option (List ℕ))). IsReadSoFar (untyped signature names) c.args.total whole
    (size ∷ []) slots c.args.reader.now) (sym (c.deref_mut.ensures.value ∙ c.in_ok-slots.ensures))
    (read_none signature names c.args.total size c.args.reader.now c.requires.ready.one_each))))
