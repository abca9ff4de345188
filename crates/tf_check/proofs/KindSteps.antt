-- The steps of a count of types that a kind joins.
use Rattle.std.proofs.Common.{◌≡◌, ℕ, ◌+◌, ◌<◌, ◌≤◌, List, [], ◌∷◌, ◌++◌, length, map, sum, take, drop, get_or, Option, Some, None, IfSome, refl, ap, ◌∙◌, arith}
use Rattle.std.proofs.lemmas.List.Sums.{sum-map, sum_by_more, sum_by_more_le}
use Rattle.tptp_syntax.specs.declared.types.TypeExpr.{TypeExpr}
use Rattle.tf_check.specs.Kinds.{Kind, kind, added, types_of_all}
use Rattle.tf_check.proofs.AnswerLemmas.{split_at, taken_next}

-- ---- sums

-- the items up to the next index have no larger sum than all
pub sum_within : {X : Type 0} (f : X → ℕ) (xs : List X) (i : ℕ) (x : X) → i < length xs → x
    ≡ get_or xs i x →
    sum (map f (take i xs)) + f x ≤ sum (map f xs)
sum_within f xs i x within is =
    let below = sum_by_more_le f xs i x within in
    let own = ap f is in
    omega (arith, below, own, sum-map f (take i xs), sum-map f xs)

pub sum_next : {X : Type 0} (f : X → ℕ) (xs : List X) (i : ℕ) (x : X) → i < length xs → x
    ≡ get_or xs i x →
    sum (map f (take (i + 1) xs)) ≡ sum (map f (take i xs)) + f x
sum_next f xs i x within is =
    let more = sum_by_more f xs i x within in
    let own = ap f is in
    omega (arith, more, own, sum-map f (take i xs), sum-map f (take (i + 1) xs))

pub some_within : (count : Option ℕ) (m n : ℕ) → IfSome count (λ k. k ≤ m) → m ≤ n →
    IfSome count (λ k. k ≤ n)
some_within None m n below within = tt
some_within (Some k) m n below within = omega arith

-- ---- types that are joined

added-some : (a b : Option ℕ) (n : ℕ) → added a b ≡ Some n →
    (i : ℕ) × (j : ℕ) × (a ≡ Some i) × (b ≡ Some j) × (i + j ≡ n)
added-some None b n is = cc
added-some (Some i) None n is = cc
added-some (Some i) (Some j) n is = (i, j, refl, refl, cc)

pub types_more : (front : List Kind) (part : Kind) (n m : ℕ) → types_of_all front ≡ Some n →
    part.types ≡ Some m → types_of_all (front ++ part ∷ []) ≡ Some (n + m)
types_more [] part n m before one =
    let none : 0 ≡ n = cc in
    let size : m + 0 ≡ n + m = omega arith in
    ap (λ t. added t (Some 0)) one ∙ ap Some size
types_more (first ∷ front) part n m before one =
    let parts = added-some first.types (types_of_all front) n before in
    let sum_is : parts.0 + (parts.1 + m) ≡ n + m = omega (arith, parts.4) in
    ap (λ t. added t (types_of_all (front ++ part ∷ []))) parts.2
    ∙ ap (added (Some parts.0)) (types_more front part parts.1 m parts.3 one)
    ∙ ap Some sum_is

added-none : (a : Option ℕ) → added a None ≡ None
added-none None = refl
added-none (Some i) = refl

pub types_break : (front : List Kind) (part : Kind) (back : List Kind) → part.types ≡ None →
    types_of_all (front ++ part ∷ back) ≡ None
types_break [] part back one = ap (λ t. added t (types_of_all back)) one
types_break (first ∷ front) part back one =
    ap (added first.types) (types_break front part back one) ∙ added-none first.types

pub joined_next : (xs : List TypeExpr) (i : ℕ) (x : TypeExpr) (n m : ℕ) → i < length xs →
    x ≡ get_or xs i x → types_of_all (map kind (take i xs)) ≡ Some n → (kind x).types ≡ Some m →
    types_of_all (map kind (take (i + 1) xs)) ≡ Some (n + m)
joined_next xs i x n m within is before one =
    ap types_of_all (taken_next kind xs i x within is)
    ∙ types_more (map kind (take i xs)) (kind x) n m before one

pub joined_break : (xs : List TypeExpr) (i : ℕ) (x : TypeExpr) → i < length xs → x
    ≡ get_or xs i x →
    (kind x).types ≡ None → types_of_all (map kind xs) ≡ None
joined_break xs i x within is one =
    ap types_of_all (split_at kind xs i x within is)
    ∙ types_break (map kind (take i xs)) (kind x) (map kind (drop (i + 1) xs)) one
