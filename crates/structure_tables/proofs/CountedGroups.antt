-- Sums group by group, counted in 64 bits: the group of what has no parameters first.
use Rattle.std.specs.Prelude.{ℕ, zero, suc, ◌≡◌, ◌<◌, ◌≤◌, ◌+◌, ◌-◌, ◌*◌, ◌^◌, Bool, true, false, not, ◌||◌, eqb, ltb}
use Rattle.std.proofs.Common.{refl, sym, ap, subst, ◌∙◌, arith, ⊎_elim}
use Rattle.std.proofs.Math.Path.{fun_ext}
use Rattle.std.proofs.lemmas.Bool.{cases_eq, cases_lt, eq-eqb, ne_eqb, lt-ltb, le-ltb}
use Rattle.enc_base.specs.Counts.{in_64_bits}
use Rattle.structure_tables.proofs.ChosenTuples.{Stands, in_first, in_second, in_neither}
use Rattle.structure_tables.proofs.CountedAlike.{alike_products, alike_itself}

abbrev pub only : ℕ → ℕ → Bool
only i group = eqb group i

-- the constant group and those below a number
abbrev pub done : ℕ → ℕ → ℕ → Bool
done constant i group = eqb group constant || ltb group i

in_front : (a b x y : Bool) → a ≡ true → b ≡ false → Stands (a || x) b (a || y)
in_front a b x y is none =
    subst (λ q. Stands (q || x) b (q || y)) (sym is)
    (subst (λ q. Stands true q true) (sym none) in_first)

behind : (a b x y : Bool) → a ≡ false → Stands x b y → Stands (a || x) b (a || y)
behind a b x y is stands = subst (λ q. Stands (q || x) b (q || y)) (sym is) stands

stands_next : (i group : ℕ) → Stands (ltb group i) (only i group) (ltb group (i + 1))
stands_next i group =
    ⊎_elim
    (λ low.
    let under : group < i = low in
    at true false true (lt-ltb group i under) (ne_eqb group i (λ same. absurd (omega (arith, same, under))))
    (lt-ltb group (i + 1) (omega (arith, under))) in_first)
    (λ high.
    let over : i ≤ group = high in
    ⊎_elim
    (λ same.
    let equal : group ≡ i = same in
    at false true true (le-ltb group i over) (eq-eqb group i equal)
    (lt-ltb group (i + 1) (omega (arith, equal))) in_second)
    (λ differs.
    let other : group ≡ i → ⊥ = differs in
    at false false false (le-ltb group i over) (ne_eqb group i other)
    (le-ltb group (i + 1) (omega (arith, other, over))) in_neither)
    (cases_eq group i))
    (cases_lt group i)
  where
    at : (a b c : Bool) → ltb group i ≡ a → only i group ≡ b → ltb group (i + 1) ≡ c →
        Stands a b c → Stands (ltb group i) (only i group) (ltb group (i + 1))
    at a b c first second both stands = rw (first, second, both) stands

stands_done : (constant i group : ℕ) → i < constant →
    Stands (done constant i group) (only i group) (done constant (i + 1) group)
stands_done constant i group within =
    ⊎_elim
    (λ same.
    let equal : group ≡ constant = same in
    in_front (eqb group constant) (only i group) (ltb group i) (ltb group (i + 1))
    (eq-eqb group constant equal)
    (ne_eqb group i (λ is. absurd (omega (arith, is, equal, within)))))
    (λ differs. behind (eqb group constant) (only i group) (ltb group i) (ltb group (i + 1))
    (ne_eqb group constant differs) (stands_next i group))
    (cases_eq group constant)

either_way : (b : Bool) → Stands b (not b) true
either_way true = in_first
either_way false = in_second

only_first : (b c : Bool) → c ≡ false → b ≡ (b || c)
only_first true c none = refl
only_first false c none = sym none

or_true : (b c : Bool) → c ≡ true → (b || c) ≡ true
or_true true c is = refl
or_true false c is = is

-- sums over sets of groups
module _ (sum_of : (ℕ → Bool) → ℕ)
    (multiply : (first second both : ℕ → Bool) →
    ((group : ℕ) → Stands (first group) (second group) (both group)) →
    sum_of both ≡ sum_of first * sum_of second)
    (constant : ℕ)
    (none : (inside : ℕ → Bool) → ((group : ℕ) → group ≤ constant → inside group ≡ false) →
    sum_of inside ≡ 1)
    (free whole : ℕ) (are : whole ≡ free * sum_of (λ _. true)) (some : 1 ≤ whole)
  where
    abbrev so_far : ℕ → ℕ
    so_far i = free * sum_of (done constant i)

    abbrev left : ℕ → ℕ
    left i = sum_of (λ group. not (done constant i group))

    parts : (i : ℕ) → whole ≡ so_far i * left i
    parts i =
        are
        ∙ ap (λ n. free * n)
        (multiply (done constant i) (λ group. not (done constant i group)) (λ _. true)
        (λ group. either_way (done constant i group)))
        ∙ apart free (sum_of (done constant i)) (left i)
      where
        apart : (a b c : ℕ) → a * (b * c) ≡ a * b * c
        apart a b c = grind arith

    pub groups_first : (factor entries : ℕ) → factor ≡ in_64_bits free →
        entries ≡ in_64_bits (factor * sum_of (only constant)) → entries ≡ in_64_bits (so_far 0)
    groups_first factor entries begun is =
        is
        ∙ alike_products factor free (sum_of (only constant)) (sum_of (done constant 0))
        (ap in_64_bits begun ∙ alike_itself free)
        (ap (λ inside. in_64_bits (sum_of inside))
        (fun_ext (λ group. only_first (eqb group constant) (ltb group 0) (le-ltb group 0 (omega arith)))))

    module _ (i entries : ℕ) (counted : entries ≡ in_64_bits (so_far i)) where
      pub groups_more : (more : ℕ) → i < constant → more ≡ in_64_bits (entries * sum_of (only i)) →
          more ≡ in_64_bits (so_far (i + 1))
      groups_more more within is =
          is
          ∙ alike_products entries (so_far i) (sum_of (only i)) (sum_of (only i))
          (ap in_64_bits counted ∙ alike_itself (so_far i)) refl
          ∙ ap in_64_bits
          (apart free (sum_of (done constant i)) (sum_of (only i))
          ∙ ap (λ n. free * n)
          (sym (multiply (done constant i) (only i) (done constant (i + 1))
          (λ group. stands_done constant i group within))))
        where
          apart : (a b c : ℕ) → a * b * c ≡ a * (b * c)
          apart a b c = grind arith

      -- the product is too large already
      pub groups_enough : entries ≡ 2 ^ 64 - 1 → entries ≡ in_64_bits whole
      groups_enough full = omega (arith, counted, full, grows (so_far i) (left i) (parts i) some)
        where
          grows : (a b : ℕ) → whole ≡ a * b → 1 ≤ whole → a ≤ whole
          grows a zero is positive = absurd (omega (arith, is, positive, nothing a))
            where
              nothing : (n : ℕ) → n * 0 ≡ 0
              nothing n = omega arith
          grows a (suc b) is positive = omega (arith, is, larger a b)
            where
              larger : (n m : ℕ) → n ≤ n * suc m
              larger n m = grind arith

      -- no group is left
      pub groups_all : constant ≤ i → entries ≡ in_64_bits whole
      groups_all last =
          counted
          ∙ ap in_64_bits
          (sym (parts i ∙ ap (λ n. so_far i * n) (none (λ group. not (done constant i group)) outside)
          ∙ times_one (so_far i)))
        where
          times_one : (n : ℕ) → n * 1 ≡ n
          times_one n = omega arith

          outside : (group : ℕ) → group ≤ constant → not (done constant i group) ≡ false
          outside group within =
              ⊎_elim
              (λ same. let equal : group ≡ constant = same in
              ap (λ b. not (b || ltb group i)) (eq-eqb group constant equal))
              (λ differs. let other : group ≡ constant → ⊥ = differs in
              ap not (or_true (eqb group constant) (ltb group i)
              (lt-ltb group i (omega (arith, other, within, last)))))
              (cases_eq group constant)
