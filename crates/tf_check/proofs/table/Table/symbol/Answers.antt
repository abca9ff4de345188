use Rattle.std.proofs.Common.{◌≡◌, ℕ, List, map, Option, Some, None, is_some, option_map, Bor, refl, sym, ap, ◌∙◌}
use Rattle.std.proofs.lemmas.Slice.Eq.{bytes_eq-Decides}
use Rattle.tf_core.specs.declared.signature.Symbol.{Symbol}
use Rattle.tf_check.specs.declared.table.Profile.{Profile}
use Rattle.tf_check.specs.Signature.{symbol_among}
use Rattle.tf_check.specs.Table.{constructor_at, named_profile}
use Rattle.tf_check.specs.Types.{constructor_named}
use Rattle.tf_check.proofs.TableLemmas.{found_none, found_entry}
use Rattle.tf_check.proofs.SymbolLemmas.{is_symbol, found_named}
use Rattle.tf_check.proofs.table.Table.symbol.Goals as goal

pub returns-in-None : goal.returns-in-None
returns-in-None c =
    let tested : c.is_some.result
    ≡ is_some (option_map constructor_at
    (constructor_named c.args.name.now c.args.self.now.constructors)) = cc in
    let seen = found_none (λ (entry : Bor (List ℕ) × Profile). named_profile entry.0.now entry.1)
    (λ (s : Symbol). s.name) (λ entry. refl) c.args.name.now c.self.inside.symbols.entries
    c.in-None.ensures.index in
    let none : ◌≡◌ {A = Option (ℕ × Symbol)}
    (symbol_among c.args.name.now c.args.self.now.symbols) None =
    rw (sym c.self.view_is) seen in
    sym (is_symbol c.args.self.now c.args.name.now c.is_some.result tested c.if-is_some.false
    ∙ none)

pub returns-in-Some : goal.returns-in-Some
returns-in-Some c =
    let tested : c.is_some.result
    ≡ is_some (option_map constructor_at
    (constructor_named c.args.name.now c.args.self.now.constructors)) = cc in
    let entry : Bor (List ℕ) × Profile = (c.in-Some.field-0-1.now, c.in-Some.profile.now) in
    let seen = found_entry (λ (e : Bor (List ℕ) × Profile). named_profile e.0.now e.1)
    (λ (s : Symbol). s.name) (λ e. refl) c.args.name.now c.self.inside.symbols.entries
    c.in-Some.place
    entry c.in-Some.ensures.index c.in-Some.ensures.entry in
    let same : c.args.name.now ≡ c.in-Some.field-0-1.now.now =
    (bytes_eq-Decides c.args.name.now c.in-Some.field-0-1.now.now).0
    (found_named (λ (s : Symbol). s.name) c.args.name.now
    (map (λ (e : Bor (List ℕ) × Profile). named_profile e.0.now e.1) c.self.inside.symbols.entries)
    c.in-Some.place (named_profile entry.0.now entry.1) seen) in
    let there : ◌≡◌ {A = Option (ℕ × Symbol)}
    (symbol_among c.args.name.now c.args.self.now.symbols)
    (Some (c.in-Some.place, named_profile c.in-Some.field-0-1.now.now c.in-Some.profile.now)) =
    rw (sym c.self.view_is) seen in
    sym (is_symbol c.args.self.now c.args.name.now c.is_some.result tested c.if-is_some.false
    ∙ there
    ∙ ap (λ (n : List ℕ). Some (c.in-Some.place, named_profile n c.in-Some.profile.now))
    (sym same))
