-- Places of names.
use Rattle.std.proofs.Common.{◌≡◌, ℕ, zero, suc, ◌+◌, ◌-◌, ◌<◌, Bool, true, false, ◌==◌}
use Rattle.std.proofs.Common.{if◌then◌else◌, List, [], ◌∷◌, length, refl, sym, ◌∙◌, ap, subst}
use Rattle.std.proofs.Common.{arith}
use Rattle.std.specs.Prelude.{◌^◌}
use Rattle.std.specs.Fmt.{decimal}
use Rattle.std.proofs.lemmas.Fmt.{decimal_injective}
use Rattle.std.proofs.lemmas.Bool.{eqb-true, eq-eqb}
use Rattle.tptp_words.specs.Words.{same}
use Rattle.fof_text.specs.Names.{name_at, place_of, AllDiffer}
use Rattle.fof_text.specs.Written.{variable_name}

pub same_is : (xs ys : List ℕ) → same xs ys ≡ true → xs ≡ ys
same_is [] [] h = refl
same_is [] (y ∷ ys) h = absurd (cc h)
same_is (x ∷ xs) [] h = absurd (cc h)
same_is (x ∷ xs) (y ∷ ys) h = go (x == y) refl h (same_is xs ys)
  where
    go : (v : Bool) → (x == y) ≡ v → (if v then same xs ys else false) ≡ true
        → (same xs ys ≡ true → xs ≡ ys) → x ∷ xs ≡ y ∷ ys
    go true e k rec = let tails = rec k in let heads =
        eqb-true x y e in subst (λ z. x ∷ xs ≡ z ∷ ys) heads (ap (λ z. x ∷ z) tails)
    go false e k rec = absurd (cc k)

pub same_self : (xs : List ℕ) → same xs xs ≡ true
same_self [] = refl
same_self (x ∷ xs) = ap (λ v. if v then same xs xs else false) (eq-eqb x x refl) ∙ same_self xs

-- the place of the name at a place
pub place_there : (ns : List (List ℕ)) (i : ℕ) → AllDiffer ns → i < length ns
    → place_of ns (name_at ns i) ≡ i
place_there [] i h l = absurd (omega arith)
place_there (n ∷ ns) zero h l = ap (λ v. if v then 0 else suc (place_of ns n)) (same_self n)
place_there (n ∷ ns) (suc i) h l =
    go (same (name_at ns i) n) refl (place_there ns i h.1 (omega arith))
  where
    go : (v : Bool) → same (name_at ns i) n ≡ v → place_of ns (name_at ns i) ≡ i
        → (if v then 0 else suc (place_of ns (name_at ns i))) ≡ suc i
    go true e k = let eq : name_at ns i ≡ n = same_is _ _ e in let there : place_of ns n ≡ i =
        ap (place_of ns) (sym eq) ∙ k in let out = h.0 in absurd (omega arith)
    go false e k = ap suc k

-- the name at the place of a name
pub name_there : (ns : List (List ℕ)) (x : List ℕ) → place_of ns x < length ns
    → name_at ns (place_of ns x) ≡ x
name_there [] x l = absurd (omega arith)
name_there (n ∷ ns) x l = go (same x n) refl l (name_there ns x)
  where
    go : (v : Bool) → same x n ≡ v → (if v then 0 else suc (place_of ns x)) < suc (length ns)
        → (place_of ns x < length ns → name_at ns (place_of ns x) ≡ x)
        → name_at (n ∷ ns) (if v then 0 else suc (place_of ns x)) ≡ x
    go true e l rec = sym (same_is x n e)
    go false e l rec = rec (omega arith)

-- the variables of d binders, the nearest first
abbrev pub binders_of : ℕ → List (List ℕ)
binders_of zero = []
binders_of (suc d) = variable_name d ∷ binders_of d

pub variable_there : (d i : ℕ) → d < 2 ^ 64 → i < d
    → place_of (binders_of d) (variable_name (d - (i + 1))) ≡ i
variable_there zero i b l = absurd (omega arith)
variable_there (suc d) zero b l =
    let e : suc d - (0 + 1) ≡ d = omega arith in
    ap (λ k. place_of (binders_of (suc d)) (variable_name k)) e
    ∙ ap (λ v. if v then 0 else suc (place_of (binders_of d) (variable_name d)))
    (same_self (variable_name d))
variable_there (suc d) (suc i) b l =
    let e : suc d - (suc i + 1) ≡ d - (i + 1) = omega arith in
    ap (λ k. place_of (binders_of (suc d)) (variable_name k)) e
    ∙ go (same (variable_name (d - (i + 1))) (variable_name d)) refl
    (variable_there d i (omega arith) (omega arith))
  where
    go : (v : Bool) → same (variable_name (d - (i + 1))) (variable_name d) ≡ v
        → place_of (binders_of d) (variable_name (d - (i + 1))) ≡ i
        → (if v then 0 else suc (place_of (binders_of d) (variable_name (d - (i + 1))))) ≡ suc i
    go true e k =
        let texts : decimal (d - (i + 1)) ≡ decimal d =
        cc (same_is (variable_name (d - (i + 1))) (variable_name d) e) in
        let numbers = decimal_injective (d - (i + 1)) d (omega arith) (omega arith) texts in
        absurd (omega arith)
    go false e k = ap suc k
