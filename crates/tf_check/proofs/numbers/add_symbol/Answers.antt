use Rattle.std.proofs.Common.{◌≡◌, ◌++◌, [], ◌∷◌, map, sym, ap, ◌∙◌}
use Rattle.tf_core.specs.declared.ty.Ty.TheVariants.{Apply}
use Rattle.tf_types.specs.Numbers.{type_at}
use Rattle.tf_check.specs.declared.scope.SymbolNumbers.{SymbolNumbers}
use Rattle.tf_check.specs.Bound.{Scoped, SymbolTypes, numbered_types, symbol_types}
use Rattle.tf_types.proofs.Numbers.{IsNumber-extended, type_at-extended}
use Rattle.tf_check.proofs.ScopedLemmas.{on_ok_map}
use Rattle.tf_check.proofs.numbers.add_symbol.Goals as goal

pub push_symbol-requires : goal.push_symbol-requires
push_symbol-requires c = (
  IsNumber-extended c.number_of_list.new.self.types c.number_if_any.new.scope.types
      c.in_ok-result.ensures.kept.grows.types c.in_ok-arguments.arguments
      c.in_ok-arguments.ensures.number,
  c.in_ok-result.ensures.number,
)

pub returns-clause-symbols : goal.returns-clause-symbols
returns-clause-symbols c =
    let last = c.number_if_any.new.scope in
    let numbers : SymbolNumbers =
    record { arguments = c.in_ok-arguments.arguments; result = c.in_ok-result.result } in
    let arguments : type_at last.types c.in_ok-arguments.arguments ≡ Apply 0 c.args.profile.now.arguments =
    type_at-extended c.number_of_list.new.self.types last.types
    c.in_ok-result.ensures.kept.grows.types c.in_ok-arguments.arguments
    c.in_ok-arguments.ensures.number
    ∙ c.in_ok-arguments.ensures.exact
    ∙ ap (λ ids. Apply 0 (map (type_at c.numbers_of.new.scope.types) ids)) c.as_slice-2.ensures
    ∙ ap (Apply 0) (c.in_ok-listed.ensures.exact ∙ c.as_slice.ensures) in
    let types : numbered_types last.types numbers
    ≡ symbol_types c.args.profile.now.arguments c.args.profile.now.result =
    λ i. record { arguments = arguments i; result = c.in_ok-result.ensures.exact i } in
    let symbols : last.symbols ≡ c.args.scope.now.symbols =
    c.in_ok-result.ensures.kept.grows.symbols ∙ c.in_ok-arguments.ensures.kept.grows.symbols
    ∙ c.in_ok-listed.ensures.kept.grows.symbols in
    on_ok_map c.push_symbol.result
    (c.push_symbol.new.self
    ≡ record last { symbols = last.symbols ++ numbered_types last.types numbers ∷ [] })
    (c.push_symbol.new.self.symbols
    ≡ c.args.scope.now.symbols
    ++ symbol_types c.args.profile.now.arguments c.args.profile.now.result ∷ [])
    (λ is.
    ap (λ (s : Scoped). s.symbols) is
    ∙ ap (λ ss. ss ++ numbered_types last.types numbers ∷ []) symbols
    ∙ ap (λ (s : SymbolTypes). c.args.scope.now.symbols ++ s ∷ []) types)
    c.push_symbol.ensures
