-- What was written through a loan of all items.
use Rattle.std.proofs.Common.{ℕ, ◌≡◌, List, ◌++◌, length, take, drop, subst}
use Rattle.std.proofs.Math.Seq.{take-append_seam}

-- as many items as there were stand in place of them all
pub refill-written : {A : Type 0} (count : ℕ) (written items : List A) → length written ≡ count →
    take count (written ++ drop (length written) items) ≡ written
refill-written count written items long =
    subst (λ n. take n (written ++ drop (length written) items) ≡ written) long
    (take-append_seam written (drop (length written) items))
