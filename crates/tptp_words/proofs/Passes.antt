-- The bytes in front that pass a test, and texts that are cut in two.
use Rattle.std.proofs.Common.{◌≡◌, ℕ, zero, suc, ◌+◌, ◌≤◌, Bool, true, false, cond, ◌==◌, List, []}
use Rattle.std.proofs.Common.{◌∷◌, ◌++◌, length, drop, refl, sym, ◌∙◌, ap, arith, append_assoc}
use Rattle.std.proofs.Common.{length-append}
use Rattle.std.specs.List.{prefix_len}
use Rattle.std.proofs.Math.Seq.{drop-append_seam}
use Rattle.tptp_words.specs.Text.{AllPass, some_bytes}

-- the text is a front of n bytes, of which P holds, and the rest
pub record Cut (P : List ℕ → Type 0) (text : List ℕ) (n : ℕ) : Type 0 where
  pub front : List ℕ
  pub rest : List ℕ
  pub is : text ≡ front ++ rest
  pub size : length front ≡ n
  pub holds : P front

pub drop-front : (text front rest : List ℕ) (n : ℕ) → text ≡ front ++ rest → length front ≡ n
    → drop n text ≡ rest
drop-front text front rest n is size =
    ap (λ z. drop n z) is ∙ ap (λ m. drop m (front ++ rest)) (sym size)
    ∙ drop-append_seam front rest

pub drop_past : (text : List ℕ) (n : ℕ) → length text ≤ n → drop n text ≡ []
drop_past [] zero h = refl
drop_past [] (suc n) h = refl
drop_past (b ∷ text) zero h = absurd (omega (arith, h))
drop_past (b ∷ text) (suc n) h = drop_past text n (omega (arith, h))

pub prefix_len-over : (p : ℕ → Bool) (ds rest : List ℕ) → AllPass p ds
    → prefix_len p (ds ++ rest) ≡ length ds + prefix_len p rest
prefix_len-over p [] rest h = omega arith
prefix_len-over p (d ∷ ds) rest h =
    let more = prefix_len-over p ds rest h.1 in
    ap (λ v. cond v (1 + prefix_len p (ds ++ rest)) 0) h.0 ∙ omega (arith, more)

pub cut_passing : (p : ℕ → Bool) (text : List ℕ) → Cut (AllPass p) text (prefix_len p text)
cut_passing p [] = record { front = []; rest = []; is = refl; size = refl; holds = tt }
cut_passing p (b ∷ text) = go (p b) refl (cut_passing p text)
  where
    go : (v : Bool) → p b ≡ v → Cut (AllPass p) text (prefix_len p text)
        → Cut (AllPass p) (b ∷ text) (cond v (1 + prefix_len p text) 0)
    go true e c = record {
      front = b ∷ c.front;
      rest = c.rest;
      is = ap (λ z. b ∷ z) c.is;
      size = omega (arith, c.size);
      holds = (e, c.holds);
    }
    go false e c = record { front = []; rest = b ∷ text; is = refl; size = refl; holds = tt }

-- what is behind another front is what is left behind the sum
pub drop-twice : (text first rest second last : List ℕ) → text ≡ first ++ rest
    → rest ≡ second ++ last → drop (length first + length second) text ≡ last
drop-twice text first rest second last e f =
    drop-front text (first ++ second) last (length first + length second)
    (e ∙ ap (λ z. first ++ z) f ∙ sym (append_assoc first second last))
    (length-append first second)

pub pass_weaker : (p q : ℕ → Bool) → ((b : ℕ) → p b ≡ true → q b ≡ true) → (bs : List ℕ)
    → AllPass p bs → AllPass q bs
pass_weaker p q weaker [] h = tt
pass_weaker p q weaker (b ∷ bs) h = (weaker b h.0, pass_weaker p q weaker bs h.1)

pub pass_append : (p : ℕ → Bool) (us vs : List ℕ) → AllPass p us → AllPass p vs
    → AllPass p (us ++ vs)
pass_append p [] vs h i = i
pass_append p (b ∷ us) vs h i = (h.0, pass_append p us vs h.1 i)

pub some_length : (bs : List ℕ) → some_bytes bs ≡ true → 1 ≤ length bs
some_length [] h = absurd (cc h)
some_length (b ∷ bs) h = omega arith

pub some_by_length : (bs : List ℕ) (n : ℕ) → length bs ≡ n → (n == 0) ≡ false → some_bytes bs ≡ true
some_by_length [] n h e = let k : n ≡ 0 = sym h in absurd (cc (e, ap (λ m. m == 0) k))
some_by_length (b ∷ bs) n h e = refl
