use Rattle.std.proofs.Common.{ℕ, ◌≡◌, ◌∙◌, sym, ap, arith, length, slice_index, IsTrue}
use Rattle.std.specs.List.{list_any}
use Rattle.std.proofs.lemmas.List.{length-map}
use Rattle.enc_base.proofs.Placing.{get_or-mapped}
use Rattle.tf_core.specs.declared.ty.Ty.{Ty}
use Rattle.tf_core.specs.Types.{same_type}
use Rattle.structure_tables.proofs.Counting.{factor_more}
use Rattle.enc_laws.proofs.SortsFormed.{number_within}
use Rattle.enc_models.specs.Calls.SortNumbers.{number_in, sizes_among}
use Rattle.enc_models.proofs.SortNumbers.{all_at, listed-number}
use Rattle.enc_models.proofs.sort_counts.entries_of_arguments.Goals as goal

pub bounds-sizes-number : goal.bounds-sizes-number
bounds-sizes-number c =
    let sorts = c.args.sorts.now in
    let types = c.args.types.now in
    let ty = c.ty-item.result in
    let there = all_at (λ one. IsTrue (list_any (same_type one) sorts)) types c.loop-ty.ty-index ty
    c.requires.among c.loop-ty-test.true c.ty-item.is in
    omega (
      arith,
      c.in_ok-number.ensures.exact sorts (number_in sorts ty) c.loop-ty.invariant.numbered
          (listed-number sorts ty there),
      number_within (same_type ty) sorts there,
      c.requires.sizes,
    )

pub loop-ty-preserved : goal.loop-ty-preserved
loop-ty-preserved c =
    let sorts = c.args.sorts.now in
    let types = c.args.types.now in
    let sizes = c.args.sizes.now in
    let i = c.loop-ty.ty-index in
    let ty = c.ty-item.result in
    let there = all_at (λ one. IsTrue (list_any (same_type one) sorts)) types i ty
    c.requires.among c.loop-ty-test.true c.ty-item.is in
    let size_of : Ty → ℕ = λ one. slice_index sizes (number_in sorts one) in
    let long : length (sizes_among sorts sizes types) ≡ length types = length-map _ _ in
    record {
      counted =
          c.saturating_mul-entries.ensures
          ∙ factor_more (sizes_among sorts sizes types) i _ c.loop-ty.entries
          (omega (arith, long, c.loop-ty-test.true))
          (ap (slice_index sizes) (c.in_ok-number.ensures.exact sorts (number_in sorts ty)
          c.loop-ty.invariant.numbered (listed-number sorts ty there))
          ∙ sym (get_or-mapped size_of types i ty c.loop-ty-test.true c.ty-item.is))
          c.loop-ty.invariant.counted;
      numbered = c.in_ok-number.ensures.kept sorts c.loop-ty.invariant.numbered;
    }
