use Rattle.std.proofs.Common.{◌≡◌, ℕ, List, None, refl, sym, ap, ◌∙◌, Bor}
use Rattle.tf_core.specs.declared.signature.Symbol.{Symbol}
use Rattle.tf_core.specs.declared.signature.Signature.{Signature}
use Rattle.tf_check.specs.declared.table.Profile.{Profile}
use Rattle.tf_check.specs.Signature.{symbol_among}
use Rattle.tf_check.specs.Table.{listed_constructors, listed_symbols, named_profile}
use Rattle.tf_check.proofs.TableLemmas.{insert_listed}
use Rattle.tf_check.proofs.table.Table.add_symbol.Goals as goal

pub returns-in-Ok : goal.returns-in-Ok
returns-in-Ok c =
    let absent : symbol_among c.args.name.now (listed_symbols c.self.inside.symbols.entries)
    ≡ None =
    ap (λ (g : Signature). symbol_among c.args.name.now g.symbols) c.self.view_is ∙ c.requires in
    rw (sym c.self.view_is)
    (ap (λ (ss : List Symbol). record {
      constructors = listed_constructors c.self.inside.constructors.entries;
      symbols = ss;
    })
    (ap listed_symbols c.in-Ok.ensures.entries
    ∙ insert_listed (λ (e : Bor (List ℕ) × Profile). named_profile e.0.now e.1)
    (λ (s : Symbol). s.name) (λ e. refl)
    c.args.name c.args.profile c.self.inside.symbols.entries absent))
