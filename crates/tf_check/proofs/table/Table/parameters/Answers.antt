use Rattle.std.proofs.Common.{ℕ, List, Bor, refl, sym}
use Rattle.tf_core.specs.declared.signature.Symbol.{Symbol}
use Rattle.tf_check.specs.declared.table.Profile.{Profile}
use Rattle.tf_check.specs.Table.{named_profile}
use Rattle.tf_check.proofs.TableLemmas.{found_none, found_entry}
use Rattle.tf_check.proofs.table.Table.parameters.Goals as goal

pub returns-in-None : goal.returns-in-None
returns-in-None c =
    let seen = found_none (λ (e : Bor (List ℕ) × Profile). named_profile e.0.now e.1)
    (λ (s : Symbol). s.name)
    (λ e. refl) c.args.name.now c.self.inside.symbols.entries c.in-None.ensures.index in
    rw (sym c.self.view_is, seen) refl

pub returns-in-Some : goal.returns-in-Some
returns-in-Some c =
    let seen = found_entry (λ (e : Bor (List ℕ) × Profile). named_profile e.0.now e.1)
    (λ (s : Symbol). s.name)
    (λ e. refl) c.args.name.now c.self.inside.symbols.entries c.in-Some.field-0-0
    (c.in-Some.field-0-1.now, c.in-Some.profile.now) c.in-Some.ensures.index
    c.in-Some.ensures.entry in
    rw (sym c.self.view_is, seen) refl
