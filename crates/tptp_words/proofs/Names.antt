-- Names, and words that begin with a dollar, are found and are the longest.
use Rattle.std.proofs.Common.{◌≡◌, ℕ, ◌+◌, ◌≤◌, Bool, true, false, cond, ◌&&◌, ◌==◌, if◌then◌else◌}
use Rattle.std.proofs.Common.{List, [], ◌∷◌, ◌++◌, length, drop, slice_index, refl, sym, ap, subst}
use Rattle.std.proofs.Common.{arith}
use Rattle.std.proofs.lemmas.Bool.{eqb-true}
use Rattle.std.proofs.lemmas.Bool.Decides.{nat_tests}
use Rattle.std.specs.Char.{is_ascii_lowercase}
use Rattle.std.specs.List.{prefix_len}
use Rattle.tptp_words.specs.declared.word.WordKind.TheVariants.{Dollar, System}
use Rattle.tptp_words.specs.declared.piece.Piece.TheVariants as piece
use Rattle.tptp_words.specs.Text.{is_name, AllPass, IsNameFrom, dollar_sign, Spells}
use Rattle.tptp_words.specs.Scanning.{dollar_at}
use Rattle.tptp_words.proofs.Passes.{Cut, prefix_len-over, cut_passing}
use Rattle.tptp_words.proofs.NumberCuts.{Takes}

lower_name : (b : ℕ) → is_ascii_lowercase b ≡ true → is_name b ≡ true
lower_name b e = grind (arith, nat_tests)

-- ---- what is spelled is found

-- at least this name, behind its first byte
pub name_over : (bs rest : List ℕ) → AllPass is_name bs
    → length bs ≤ prefix_len is_name (bs ++ rest)
name_over bs rest h = let over = prefix_len-over is_name bs rest h in omega (arith, over)

name_passes : (name : List ℕ) → IsNameFrom is_ascii_lowercase name → AllPass is_name name
name_passes [] h = absurd h
name_passes (b ∷ bs) h = (lower_name b h.0, h.1)

pub dollar_over : (name rest : List ℕ) → IsNameFrom is_ascii_lowercase name
    → dollar_at (name ++ rest) ≡ piece.Word Dollar (1 + prefix_len is_name (name ++ rest))
dollar_over [] rest h = absurd h
dollar_over (b ∷ bs) rest h = ap (λ v. if v
    then piece.Word Dollar (1 + prefix_len is_name (b ∷ (bs ++ rest)))
    else if b == dollar_sign && is_ascii_lowercase (slice_index (b ∷ (bs ++ rest)) 1)
    then piece.Word System (2 + prefix_len is_name (drop 1 (b ∷ (bs ++ rest))))
    else piece.Bad 0) h.0

pub system_over : (name rest : List ℕ) → IsNameFrom is_ascii_lowercase name
    → dollar_at (dollar_sign ∷ (name ++ rest))
    ≡ piece.Word System (2 + prefix_len is_name (name ++ rest))
system_over [] rest h = absurd h
system_over (b ∷ bs) rest h = ap (λ v. if v
    then piece.Word System (2 + prefix_len is_name (b ∷ (bs ++ rest)))
    else piece.Bad 0) h.0

pub dollar_length : (name rest : List ℕ) → IsNameFrom is_ascii_lowercase name
    → length name ≤ prefix_len is_name (name ++ rest)
dollar_length name rest h = name_over name rest (name_passes name h)

-- ---- what is found is spelled

pub cut_name : (p : ℕ → Bool) (b : ℕ) (rest : List ℕ) → p b ≡ true
    → Cut (IsNameFrom p) (b ∷ rest) (1 + prefix_len is_name rest)
cut_name p b rest e =
    let c = cut_passing is_name rest in
    record {
      front = b ∷ c.front;
      rest = c.rest;
      is = ap (λ z. b ∷ z) c.is;
      size = omega (arith, c.size);
      holds = (e, c.holds);
    }

lower_count : (b : ℕ) (rest : List ℕ) → is_ascii_lowercase b ≡ true
    → prefix_len is_name (b ∷ rest) ≡ 1 + prefix_len is_name rest
lower_count b rest e = ap (λ v. cond v (1 + prefix_len is_name rest) 0) (lower_name b e)

cut_dollar : (b : ℕ) (rest : List ℕ) → is_ascii_lowercase b ≡ true
    → Cut (Spells Dollar) (dollar_sign ∷ b ∷ rest) (1 + prefix_len is_name (b ∷ rest))
cut_dollar b rest e =
    let c = cut_name is_ascii_lowercase b rest e in
    let count = lower_count b rest e in
    record {
      front = dollar_sign ∷ c.front;
      rest = c.rest;
      is = ap (λ z. dollar_sign ∷ z) c.is;
      size = omega (arith, c.size, count);
      holds = (c.front, c.holds, refl);
    }

cut_system : (b : ℕ) (rest : List ℕ) → is_ascii_lowercase b ≡ true
    → Cut (Spells System) (dollar_sign ∷ dollar_sign ∷ b ∷ rest) (2 + prefix_len is_name (b ∷ rest))
cut_system b rest e =
    let c = cut_name is_ascii_lowercase b rest e in
    let count = lower_count b rest e in
    record {
      front = dollar_sign ∷ dollar_sign ∷ c.front;
      rest = c.rest;
      is = ap (λ z. dollar_sign ∷ dollar_sign ∷ z) c.is;
      size = omega (arith, c.size, count);
      holds = (c.front, c.holds, refl);
    }

second_takes : (b : ℕ) (rest : List ℕ) → Takes (dollar_sign ∷ b ∷ rest)
    (if b == dollar_sign && is_ascii_lowercase (slice_index rest 0)
    then piece.Word System (2 + prefix_len is_name rest) else piece.Bad 0)
second_takes b [] = go (b == dollar_sign)
  where
    go : (v : Bool) → Takes (dollar_sign ∷ b ∷ [])
        (if v && false then piece.Word System (2 + prefix_len is_name []) else piece.Bad 0)
    go true = refl
    go false = refl
second_takes b (c ∷ rest) = go (b == dollar_sign) (is_ascii_lowercase c) refl refl
  where
    go : (v w : Bool) → (b == dollar_sign) ≡ v → is_ascii_lowercase c ≡ w
        → Takes (dollar_sign ∷ b ∷ c ∷ rest)
        (if v && w then piece.Word System (2 + prefix_len is_name (c ∷ rest)) else piece.Bad 0)
    go true true e f =
        subst (λ z. Cut (Spells System) (dollar_sign ∷ z ∷ c ∷ rest)
        (2 + prefix_len is_name (c ∷ rest))) (sym (eqb-true b dollar_sign e)) (cut_system c rest f)
    go true false e f = refl
    go false w e f = refl

pub dollar_takes : (rest : List ℕ) → Takes (dollar_sign ∷ rest) (dollar_at rest)
dollar_takes [] = refl
dollar_takes (b ∷ rest) = go (is_ascii_lowercase b) refl
  where
    go : (v : Bool) → is_ascii_lowercase b ≡ v → Takes (dollar_sign ∷ b ∷ rest)
        (if v then piece.Word Dollar (1 + prefix_len is_name (b ∷ rest))
        else if b == dollar_sign && is_ascii_lowercase (slice_index rest 0)
        then piece.Word System (2 + prefix_len is_name rest)
        else piece.Bad 0)
    go true e = cut_dollar b rest e
    go false e = second_takes b rest
