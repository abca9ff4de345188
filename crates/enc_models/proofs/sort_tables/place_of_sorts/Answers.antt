use Rattle.std.proofs.Common.{◌∙◌, sym, arith, length, IsTrue}
use Rattle.std.specs.List.{list_any}
use Rattle.tf_core.specs.Types.{same_type}
use Rattle.enc_base.proofs.Placing.{get_or-mapped}
use Rattle.enc_models.specs.Calls.SortNumbers.{number_in}
use Rattle.enc_models.proofs.Folding.{fold-step, fold-fits, fold-placed}
use Rattle.enc_models.proofs.SortNumbers.{all_at, listed-number}
use Rattle.enc_models.proofs.SortTables.{numbers_below}
use Rattle.enc_models.proofs.sort_tables.place_of_sorts.Goals as goal

pub overflow_mul-at : goal.overflow_mul-at
overflow_mul-at c =
    let sorts = c.args.sorts.now in
    let types = c.args.types.now in
    let i = c.loop-ty.ty-index in
    let ty = c.ty-item.result in
    let there = all_at (λ one. IsTrue (list_any (same_type one) sorts)) types i ty c.requires.among c.loop-ty-test.true c.ty-item.is in
    omega (
      arith,
      c.requires.few,
      fold-fits (length types) (length sorts) _ (numbers_below sorts types c.requires.among) i
          c.loop-ty.at c.in_ok-number.number c.loop-ty-test.true
          (c.in_ok-number.ensures.exact sorts (number_in sorts ty) c.loop-ty.invariant.numbered
          (listed-number sorts ty there)
          ∙ sym (get_or-mapped (number_in sorts) types i ty c.loop-ty-test.true c.ty-item.is))
          c.loop-ty.invariant.at_is,
    )

pub overflow_add-at : goal.overflow_add-at
overflow_add-at c =
    let sorts = c.args.sorts.now in
    let types = c.args.types.now in
    let i = c.loop-ty.ty-index in
    let ty = c.ty-item.result in
    let there = all_at (λ one. IsTrue (list_any (same_type one) sorts)) types i ty c.requires.among c.loop-ty-test.true c.ty-item.is in
    omega (
      arith,
      c.requires.few,
      fold-fits (length types) (length sorts) _ (numbers_below sorts types c.requires.among) i
          c.loop-ty.at c.in_ok-number.number c.loop-ty-test.true
          (c.in_ok-number.ensures.exact sorts (number_in sorts ty) c.loop-ty.invariant.numbered
          (listed-number sorts ty there)
          ∙ sym (get_or-mapped (number_in sorts) types i ty c.loop-ty-test.true c.ty-item.is))
          c.loop-ty.invariant.at_is,
    )

pub loop-ty-preserved : goal.loop-ty-preserved
loop-ty-preserved c =
    let sorts = c.args.sorts.now in
    let types = c.args.types.now in
    let i = c.loop-ty.ty-index in
    let ty = c.ty-item.result in
    let there = all_at (λ one. IsTrue (list_any (same_type one) sorts)) types i ty c.requires.among c.loop-ty-test.true c.ty-item.is in
    record {
      at_is =
          fold-step (length types) (length sorts) _ (numbers_below sorts types c.requires.among) i
          c.loop-ty.at c.in_ok-number.number c.loop-ty-test.true
          (c.in_ok-number.ensures.exact sorts (number_in sorts ty) c.loop-ty.invariant.numbered
          (listed-number sorts ty there)
          ∙ sym (get_or-mapped (number_in sorts) types i ty c.loop-ty-test.true c.ty-item.is))
          c.loop-ty.invariant.at_is;
      numbered = c.in_ok-number.ensures.kept sorts c.loop-ty.invariant.numbered;
    }

pub returns : goal.returns
returns c =
    let sorts = c.args.sorts.now in
    let types = c.args.types.now in
    record {
      exact = fold-placed (length types) (length sorts) _
          (numbers_below sorts types c.requires.among) c.loop-ty.ty-index c.loop-ty.at
          (omega (arith, c.loop-ty-test.false)) c.loop-ty.invariant.at_is;
      kept = c.loop-ty.invariant.numbered;
    }
