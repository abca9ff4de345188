use Rattle.std.proofs.Common.{◌≡◌, ◌<◌, [], Some, None, slice_get, length, refl, ap, ◌∙◌, subst, arith}
use Rattle.std.specs.Prelude.{IfSome}
use Rattle.std.proofs.lemmas.Option.{slice_get_read}
use Rattle.std.proofs.lemmas.Result.{err_from_is_err_and}
use Rattle.model_tables.specs.declared.error.TableError.TheVariants as e
use Rattle.model_tables.specs.Faults.{fault_if}
use Rattle.model_tables.specs.Untyped.{symbol_wants}
use Rattle.model_tables.specs.Checks.{first_fault}
use Rattle.model_tables.specs.ReadUntyped.{IsWantedAt}
use Rattle.model_tables.proofs.SymbolSlots.{name_faults-slot, no_entries}
use Rattle.model_tables.proofs.symbols.Symbols.check_name.Goals as goal

pub returns-in_err-check_new-clause-checks : goal.returns-in_err-check_new-clause-checks
returns-in_err-check_new-clause-checks c items slots_are =
    let p = err_from_is_err_and c.from_residual-in_err-check_new.result
    c.from_residual-in_err-check_new.ensures.1 in
    let signature = c.args.self.now.signature.now in
    let names = c.args.self.now.names in
    let slots = c.args.slots.now in
    let name = c.args.name.now in
    let fault = c.in_err-check_new.field-0.0 in
    let wanted = subst (IsWantedAt (symbol_wants signature names) c.args.kind name)
    c.in_ok-at.ensures.found c.place_of.ensures.wanted in
    let within : c.in_ok-at.at < length signature =
    subst (λ o. IfSome o (λ i. i < length signature)) c.in_ok-at.ensures.found
    c.place_of.ensures.within in
    let here = slice_get_read slots (length slots) c.in_ok-at.at c.index-slots-at.result refl
    (omega (arith, c.requires.slots)) c.index-slots-at.is in
    rw (p.1, p.2) (λ other.
    ap first_fault (name_faults-slot signature names items slots c.args.kind name c.in_ok-at.at
    c.index-slots-at.result slots_are wanted here)
    ∙ subst (λ b. first_fault (fault_if b (e.Repeated name)) ≡ Some fault) c.is_some.ensures
    (c.in_err-check_new.ensures other))

pub returns-clause-checks : goal.returns-clause-checks
returns-clause-checks c items slots_are =
    let signature = c.args.self.now.signature.now in
    let names = c.args.self.now.names in
    let slots = c.args.slots.now in
    let name = c.args.name.now in
    let wanted = subst (IsWantedAt (symbol_wants signature names) c.args.kind name)
    c.in_ok-at.ensures.found c.place_of.ensures.wanted in
    let within : c.in_ok-at.at < length signature =
    subst (λ o. IfSome o (λ i. i < length signature)) c.in_ok-at.ensures.found
    c.place_of.ensures.within in
    let here = slice_get_read slots (length slots) c.in_ok-at.at c.index-slots-at.result refl
    (omega (arith, c.requires.slots)) c.index-slots-at.is in
    name_faults-slot signature names items slots c.args.kind name c.in_ok-at.at
    c.index-slots-at.result slots_are wanted here
    ∙ subst (λ b. fault_if b (e.Repeated name) ≡ []) c.is_some.ensures c.in_ok-check_new.ensures

pub returns-clause-wanted : goal.returns-clause-wanted
returns-clause-wanted c =
    subst (IsWantedAt (symbol_wants c.args.self.now.signature.now c.args.self.now.names) c.args.kind
    c.args.name.now) c.in_ok-at.ensures.found c.place_of.ensures.wanted

pub returns-clause-new : goal.returns-clause-new
returns-clause-new c =
    let slots = c.args.slots.now in
    let within : c.in_ok-at.at < length c.args.self.now.signature.now =
    subst (λ o. IfSome o (λ i. i < length c.args.self.now.signature.now)) c.in_ok-at.ensures.found
    c.place_of.ensures.within in
    slice_get_read slots (length slots) c.in_ok-at.at c.index-slots-at.result refl
    (omega (arith, c.requires.slots)) c.index-slots-at.is
    ∙ ap Some (no_entries c.index-slots-at.result (e.Repeated c.args.name.now)
    (subst (λ b. fault_if b (e.Repeated c.args.name.now) ≡ []) c.is_some.ensures
    c.in_ok-check_new.ensures))
