-- The number of tuples, one part more at a time.
use Rattle.std.specs.Prelude.{ℕ, suc, ◌≡◌, ◌<◌, ◌+◌, ◌-◌, ◌*◌, ◌≤◌, replicate}
use Rattle.std.proofs.Common.{sym, ap, subst, ◌∙◌, arith}
use Rattle.enc_base.specs.Tables.{tuple_count}
use Rattle.enc_base.proofs.Tables.{tuple_count-more, tuple_count-grows}

pub tuples_more : (bound counter tuples : ℕ) → tuples ≡ tuple_count (replicate counter bound) →
    tuples * bound ≡ tuple_count (replicate (counter + 1) bound)
tuples_more bound counter tuples so_far =
    let next : suc counter ≡ counter + 1 = omega arith in
    ap (λ n. n * bound) so_far ∙ sym (tuple_count-more counter bound)
    ∙ ap (λ n. tuple_count (replicate n bound)) next

-- tuples of more parts are no fewer
pub too_many : (bound count counter tuples most : ℕ) → 0 < bound → counter < count →
    tuples ≡ tuple_count (replicate counter bound) → most < tuples * bound →
    most < tuple_count (replicate count bound)
too_many bound count counter tuples most some more so_far above =
    let whole : counter + 1 + (count - (counter + 1)) ≡ count = omega arith in
    let grows : tuple_count (replicate (counter + 1) bound) ≤ tuple_count (replicate count bound) =
    subst (λ n. tuple_count (replicate (counter + 1) bound) ≤ tuple_count (replicate n bound)) whole
    (tuple_count-grows bound (counter + 1) (count - (counter + 1)) some) in
    omega (arith, above, grows, tuples_more bound counter tuples so_far)
