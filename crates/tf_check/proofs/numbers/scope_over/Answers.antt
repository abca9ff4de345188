use Rattle.std.proofs.Common.{◌≡◌, ◌≤◌, ◌<◌, ◌++◌, [], ◌∷◌, length, take, get_or, ap, ◌∙◌, sym, arith}
use Rattle.std.proofs.lemmas.List.{take_all, length-map, take_more}
use Rattle.std.proofs.lemmas.Option.{get_or_from_slice_get}
use Rattle.tf_check.specs.Bound.{types_of_symbol, types_of_symbols, symbol_types}
use Rattle.tf_check.proofs.numbers.scope_over.Goals as goal

pub loop-place-preserved : goal.loop-place-preserved
loop-place-preserved c =
    let all = types_of_symbols c.args.table.now in
    let one = symbol_types c.profile.result.now.arguments c.profile.result.now.result in
    let within : c.loop-place.place < length all =
    omega (
      arith,
      length-map c.args.table.now.symbols types_of_symbol,
      c.loop-place-test.true,
      c.symbol_count-place-end.ensures,
    ) in
    record {
      names = c.in_ok-add_symbol.ensures.names ∙ c.loop-place.invariant.names;
      symbols = c.in_ok-add_symbol.ensures.symbols
          ∙ ap (λ ss. ss ++ one ∷ []) c.loop-place.invariant.symbols
          ∙ ap (λ s. take c.loop-place.place all ++ s ∷ [])
          (sym (get_or_from_slice_get all c.loop-place.place one one c.profile.ensures))
          ∙ sym (take_more all c.loop-place.place one within);
    }

pub returns-clause-symbols : goal.returns-clause-symbols
returns-clause-symbols c =
    let past : length (types_of_symbols c.args.table.now) ≤ c.loop-place.place =
    omega (
      arith,
      length-map c.args.table.now.symbols types_of_symbol,
      c.loop-place-test.false,
      c.symbol_count-place-end.ensures,
    ) in
    c.loop-place.invariant.symbols
    ∙ take_all c.loop-place.place (types_of_symbols c.args.table.now) past
