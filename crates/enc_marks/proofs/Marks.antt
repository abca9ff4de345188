-- The first place of a constructor's mark, as a list of marks grows.
use Rattle.std.proofs.Common.{ℕ, ◌≡◌, ◌+◌, ◌≤◌, Bool, true, false, List, [], ◌∷◌, ◌++◌, cond, length, position, eqb, nat_lt, ap, ◌∙◌, arith}
use Rattle.std.proofs.lemmas.Grind.{common_steps}
use Rattle.std.proofs.lemmas.List.Folds.{position_or_len_push}
use Rattle.std.proofs.lemmas.List.{length-append}
use Rattle.std.proofs.lemmas.List.Sums.{prefix_len-le-length}
use Rattle.std.specs.List.{position_or_len}
use Rattle.std.specs.Option.{unwrap_or}
use Rattle.std.specs.Prelude.{Some, None, not}
use Rattle.enc_marks.specs.Marks.{noted}

first_of : (a n : ℕ) (b : Bool) → a ≤ n →
    cond (nat_lt (cond (eqb a n) (n + cond b 0 1) a) (n + 1))
    (Some (cond (eqb a n) (n + cond b 0 1) a)) None
    ≡ noted (cond (nat_lt a n) (Some a) None) b n
first_of a n true within = grind (arith, common_steps)
first_of a n false within = grind (arith, common_steps)

-- the first place in a list with one more item
pub position-push : {X : Type 0} (p : X → Bool) (xs : List X) (y : X) →
    position p (xs ++ y ∷ []) ≡ noted (position p xs) (p y) (length xs)
position-push p xs y =
    let first = position_or_len p xs in
    let last = length xs in
    ap (λ (n : ℕ). cond (nat_lt n (length (xs ++ y ∷ []))) (Some n) None)
    (position_or_len_push p xs y)
    ∙ ap (λ (n : ℕ). cond (nat_lt (cond (eqb first last) (last + cond (p y) 0 1) first) n)
    (Some (cond (eqb first last) (last + cond (p y) 0 1) first)) None) (length-append xs (y ∷ []))
    ∙ first_of first last (p y) (prefix_len-le-length (λ x. not (p x)) xs)

-- the first place, or else the length
pub unwrap_or-position : {X : Type 0} (p : X → Bool) (xs : List X) →
    unwrap_or (position p xs) (length xs) ≡ position_or_len p xs
unwrap_or-position p xs =
    whole (position_or_len p xs) (length xs) (prefix_len-le-length (λ x. not (p x)) xs)
  where
    whole : (a n : ℕ) → a ≤ n → unwrap_or (cond (nat_lt a n) (Some a) None) n ≡ a
    whole a n within = grind (arith, common_steps)
