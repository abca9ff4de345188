use Rattle.std.proofs.Common.{ℕ, List, is_some, Bor, refl, sym, ap, ◌∙◌}
use Rattle.tf_core.specs.declared.signature.Symbol.{Symbol}
use Rattle.tf_check.specs.declared.table.Profile.{Profile}
use Rattle.tf_check.specs.Table.{named_profile}
use Rattle.tf_check.proofs.TableLemmas.{found_known}
use Rattle.tf_check.proofs.table.Table.is_known.Goals as goal

pub returns : goal.returns
returns c =
    rw (sym c.self.view_is)
    (c.is_some.ensures ∙ ap is_some c.get_index_of.ensures.index
    ∙ found_known (λ (e : Bor (List ℕ) × Profile). named_profile e.0.now e.1)
    (λ (s : Symbol). s.name)
    (λ e. refl) c.args.name.now c.self.inside.symbols.entries)
