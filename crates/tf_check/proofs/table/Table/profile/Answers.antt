use Rattle.std.proofs.Common.{◌≡◌, slice_get, Some, subst}
use Rattle.tf_core.specs.declared.signature.Signature.{Signature}
use Rattle.tf_check.specs.Bound.{symbol_types, types_of_symbols}
use Rattle.tf_check.proofs.ScopedLemmas.{profile_placed}
use Rattle.tf_check.proofs.table.Table.profile.Goals as goal

pub returns : goal.returns
returns c =
    subst
    (λ (g : Signature). slice_get (types_of_symbols g) c.args.place
    ≡ Some (symbol_types c.index.result.now.arguments c.index.result.now.result))
    c.self.view_is
    (profile_placed c.self.inside.symbols.entries c.args.place c.index.result.now c.index.ensures)
