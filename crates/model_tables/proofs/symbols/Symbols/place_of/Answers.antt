use Rattle.std.proofs.Common.{◌≡◌, ◌<◌, Some, slice_get, length, refl, sym, ap, ◌∙◌, subst, arith}
use Rattle.std.proofs.lemmas.Option.{slice_get_read, slice_get_within}
use Rattle.model_tables.specs.Faults.{same_kind}
use Rattle.model_tables.specs.Untyped.{symbol_kind, symbol_wants}
use Rattle.model_tables.specs.ReadUntyped.{IsWantedAt}
use Rattle.model_tables.proofs.NoFaults.{same_kind-true}
use Rattle.model_tables.proofs.SymbolSlots.{wanted_symbol, other_kind_unwanted, unplaced_unwanted}
use Rattle.model_tables.proofs.symbols.Symbols.place_of.Goals as goal

pub returns-then-same_kind-clause-wanted : goal.returns-then-same_kind-clause-wanted
returns-then-same_kind-clause-wanted c =
    let signature = c.args.self.now.signature.now in
    let names = c.args.self.now.names in
    let name = c.args.name.now in
    let within = slice_get_within names c.in-Some.at name c.in-Some.ensures in
    let at = slice_get_read signature (length signature) c.in-Some.at c.index-self-at.result refl
    (omega (arith, within, c.requires.one_each)) c.index-self-at.is in
    let kinds = same_kind-true c.args.kind c.kind_of.result (sym c.if-same_kind.ensures) in
    subst (λ k. IsWantedAt (symbol_wants signature names) k name (Some c.in-Some.at))
    (sym (kinds ∙ c.kind_of.ensures ∙ ap symbol_kind (sym c.index-self-at.is)))
    (wanted_symbol signature names c.in-Some.at c.index-self-at.result name at c.in-Some.ensures)

pub returns-else-same_kind-clause-wanted : goal.returns-else-same_kind-clause-wanted
returns-else-same_kind-clause-wanted c =
    let signature = c.args.self.now.signature.now in
    let names = c.args.self.now.names in
    let name = c.args.name.now in
    let within = slice_get_within names c.in-Some.at name c.in-Some.ensures in
    let at = slice_get_read signature (length signature) c.in-Some.at c.index-self-at.result refl
    (omega (arith, within, c.requires.one_each)) c.index-self-at.is in
    other_kind_unwanted c.args.kind name signature names c.in-Some.at c.index-self-at.result
    c.requires.differ at c.in-Some.ensures
    (ap (same_kind c.args.kind) (sym (c.kind_of.ensures ∙ ap symbol_kind (sym c.index-self-at.is)))
    ∙ sym c.if-same_kind.ensures)

pub returns-in-None-clause-wanted : goal.returns-in-None-clause-wanted
returns-in-None-clause-wanted c =
    unplaced_unwanted c.args.kind c.args.name.now c.args.self.now.signature.now
    c.args.self.now.names c.in-None.ensures
