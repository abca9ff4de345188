use Rattle.std.proofs.Common.{◌≡◌, [], Some, None, refl, sym, ◌∙◌, subst, List, ℕ}
use Rattle.std.proofs.lemmas.Result.{err_from_is_err_and}
use Rattle.model_tables.specs.Grammar.{Item}
use Rattle.model_tables.specs.Faults.{name_faults, entry_faults}
use Rattle.model_tables.specs.Untyped.{untyped, symbol_wants, symbol_shape}
use Rattle.model_tables.specs.Checks.{first_fault}
use Rattle.model_tables.specs.ReadUntyped.{IsWantedAt}
use Rattle.model_tables.proofs.Slots.{empty_slots-fewer}
use Rattle.model_tables.proofs.SymbolSlots.{slot_said}
use Rattle.model_tables.proofs.ReadSteps.{named_right, named_wrong, symbol_said, ended_right, ended_wrong}
use Rattle.model_tables.proofs.ReadSteps.{read_more}
use Rattle.model_tables.proofs.untyped.item.Goals as goal

pub returns-in_err-at-clause-read : goal.returns-in_err-at-clause-read
returns-in_err-at-clause-read c whole so_far =
    let p = err_from_is_err_and c.from_residual-in_err-at.result
    c.from_residual-in_err-at.ensures.1 in
    let signature = c.args.symbols.now.signature.now in
    let names = c.args.symbols.now.names in
    let fault = c.in_err-at.field-0.0 in
    let kind = c.in_ok-kind.kind in
    let arrived = so_far.leads
    ∙ c.in_ok-kind.ensures (untyped signature names) so_far.state so_far.table refl so_far.stands in
    rw (p.1, p.2) (λ other.
    named_wrong signature names c.args.total c.args.symbols.now.size whole so_far.table kind
    c.in_ok-kind.name c.heading.new.reader fault arrived
    (subst (λ n. first_fault (name_faults (symbol_wants signature names) so_far.table.items kind n)
    ≡ Some fault) c.as_slice.ensures
    (c.in_err-at.ensures.checks so_far.table.items so_far.slots_are other)))

pub returns-in_err-entries-clause-read : goal.returns-in_err-entries-clause-read
returns-in_err-entries-clause-read c whole so_far =
    let p = err_from_is_err_and c.from_residual-in_err-entries.result
    c.from_residual-in_err-entries.ensures.1 in
    let signature = c.args.symbols.now.signature.now in
    let names = c.args.symbols.now.names in
    let kind = c.in_ok-kind.kind in
    let arrived = so_far.leads
    ∙ c.in_ok-kind.ensures (untyped signature names) so_far.state so_far.table refl so_far.stands in
    rw (p.1, p.2) (λ other.
    named_right signature names c.args.total c.args.symbols.now.size whole so_far.table kind
    c.in_ok-kind.name c.heading.new.reader arrived
    (subst (λ n. name_faults (symbol_wants signature names) so_far.table.items kind n ≡ [])
    c.as_slice.ensures (c.in_ok-at.ensures.checks so_far.table.items so_far.slots_are))
    ∙ c.in_err-entries.ensures (untyped signature names) so_far.table kind c.in_ok-kind.name other)

pub returns-in_err-check_entries-clause-read : goal.returns-in_err-check_entries-clause-read
returns-in_err-check_entries-clause-read c whole so_far =
    let p = err_from_is_err_and c.from_residual-in_err-check_entries.result
    c.from_residual-in_err-check_entries.ensures.1 in
    let signature = c.args.symbols.now.signature.now in
    let names = c.args.symbols.now.names in
    let kind = c.in_ok-kind.kind in
    let name = c.in_ok-kind.name in
    let fault = c.in_err-check_entries.field-0.0 in
    let arrived = so_far.leads
    ∙ c.in_ok-kind.ensures (untyped signature names) so_far.state so_far.table refl so_far.stands in
    let named = named_right signature names c.args.total c.args.symbols.now.size whole so_far.table
    kind name c.heading.new.reader arrived
    (subst (λ n. name_faults (symbol_wants signature names) so_far.table.items kind n ≡ [])
    c.as_slice.ensures (c.in_ok-at.ensures.checks so_far.table.items so_far.slots_are)) in
    let wanted = subst (λ n. IsWantedAt (symbol_wants signature names) kind n (Some c.in_ok-at.at))
    c.as_slice.ensures c.in_ok-at.ensures.wanted in
    let said = symbol_said signature names c.in_ok-at.at kind name c.requires.ready.differ wanted in
    let it : Item = record { kind = kind; name = name; entries = c.in_ok-entries.entries } in
    rw (p.1, p.2) (λ other.
    ended_wrong signature names c.args.total c.args.symbols.now.size whole so_far.table it said.0
    c.entries.new.reader fault so_far.sizes_are said.2
    (named ∙ c.in_ok-entries.ensures (untyped signature names) so_far.table kind name)
    (subst (λ (es : List ℕ). first_fault (entry_faults
    (symbol_shape c.args.symbols.now.size (Some said.0))
    (record { kind = kind; name = name; entries = es })) ≡ Some fault) c.as_slice-3.ensures
    (subst (λ n. first_fault (entry_faults (symbol_shape c.args.symbols.now.size (Some said.0))
    (record { kind = kind; name = n; entries = c.as_slice-3.result.now })) ≡ Some fault)
    c.as_slice-2.ensures (c.in_err-check_entries.ensures said.0 kind said.1 other))))

pub returns-clause-read : goal.returns-clause-read
returns-clause-read c whole so_far =
    let signature = c.args.symbols.now.signature.now in
    let names = c.args.symbols.now.names in
    let kind = c.in_ok-kind.kind in
    let name = c.in_ok-kind.name in
    let arrived = so_far.leads
    ∙ c.in_ok-kind.ensures (untyped signature names) so_far.state so_far.table refl so_far.stands in
    let named = named_right signature names c.args.total c.args.symbols.now.size whole so_far.table
    kind name c.heading.new.reader arrived
    (subst (λ n. name_faults (symbol_wants signature names) so_far.table.items kind n ≡ [])
    c.as_slice.ensures (c.in_ok-at.ensures.checks so_far.table.items so_far.slots_are)) in
    let wanted = subst (λ n. IsWantedAt (symbol_wants signature names) kind n (Some c.in_ok-at.at))
    c.as_slice.ensures c.in_ok-at.ensures.wanted in
    let said = symbol_said signature names c.in_ok-at.at kind name c.requires.ready.differ wanted in
    let it : Item = record { kind = kind; name = name; entries = c.in_ok-entries.entries } in
    let ended = ended_right signature names c.args.total c.args.symbols.now.size whole so_far.table it
    said.0 c.entries.new.reader so_far.sizes_are said.2
    (named ∙ c.in_ok-entries.ensures (untyped signature names) so_far.table kind name)
    (subst (λ (es : List ℕ). entry_faults (symbol_shape c.args.symbols.now.size (Some said.0))
    (record { kind = kind; name = name; entries = es }) ≡ []) c.as_slice-3.ensures
    (subst (λ n. entry_faults (symbol_shape c.args.symbols.now.size (Some said.0))
    (record { kind = kind; name = n; entries = c.as_slice-3.result.now }) ≡ [])
    c.as_slice-2.ensures (c.in_ok-check_entries.ensures said.0 kind said.1))) in
    let none = slot_said (symbol_wants signature names) so_far.table.items c.args.slots.now kind name
    c.in_ok-at.at None so_far.slots_are wanted c.in_ok-at.ensures.new in
    read_more signature names c.args.total c.args.symbols.now.size whole so_far.table it
    c.in_ok-at.at c.args.slots.now c.entries.new.reader c.requires.ready.differ so_far.sizes_are
    so_far.slots_are wanted (sym none) ended

pub returns-clause-fewer : goal.returns-clause-fewer
returns-clause-fewer c =
    empty_slots-fewer c.args.slots.now c.in_ok-at.at c.in_ok-entries.entries c.in_ok-at.ensures.new
