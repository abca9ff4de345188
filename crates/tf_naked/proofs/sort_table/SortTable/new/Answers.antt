use Rattle.std.specs.Prelude.{ℕ, ◌≡◌, ◌+◌, ◌-◌, ◌<◌, ◌∷◌, length, get_or}
use Rattle.std.proofs.Common.{sym, ap, subst, ◌∙◌, arith, drop}
use Rattle.std.proofs.lemmas.List.{drop_more}
use Rattle.tf_naked.specs.Calls.Places.{ArePlaces}
use Rattle.tf_naked.proofs.sort_table.SortTable.new.Goals as goal

pub loop-i-preserved : goal.loop-i-preserved
loop-i-preserved c =
    let sorts = c.args.sorts in
    let k : ℕ = c.loop-i.i - 1 in
    let next : c.loop-i.i ≡ k + 1 = omega (arith, c.loop-i-test.true) in
    let within : k < length sorts = omega (arith, c.loop-i-test.true, c.loop-i.invariant.0) in
    let begun : c.index-as_slice-i.result ∷ drop (k + 1) sorts ≡ drop k sorts =
    ap (λ ty. ty ∷ drop (k + 1) sorts)
    (c.index-as_slice-i.is
    ∙ ap (λ types. get_or types k c.index-as_slice-i.result) c.as_slice.ensures)
    ∙ sym (drop_more sorts k c.index-as_slice-i.result within) in (
      omega (arith, within),
      subst (λ list. ArePlaces c.put.new.table c.put.new.places.items (length list) k (drop k sorts))
          c.as_slice-count.ensures
          (subst
          (ArePlaces c.put.new.table c.put.new.places.items (length c.as_slice-count.result.now) k)
          begun
          (c.in_ok-put.ensures (drop (k + 1) sorts)
          (subst
          (λ list. ArePlaces c.loop-i.table c.loop-i.places.items (length list) (k + 1)
          (drop (k + 1) sorts))
          (sym c.as_slice-count.ensures)
          (subst
          (λ n. ArePlaces c.loop-i.table c.loop-i.places.items (length sorts) n (drop n sorts))
          next c.loop-i.invariant.1)))),
    )
