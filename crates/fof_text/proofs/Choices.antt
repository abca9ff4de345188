-- The choices of names, one after another, and that no two are the same.
use Rattle.std.proofs.Common.{◌≡◌, ℕ, zero, suc, ◌+◌, ◌-◌, ◌<◌, ◌≤◌, ◌⊎◌, inl, inr, Bool, true}
use Rattle.std.proofs.Common.{false, not, ◌&&◌, ◌||◌, if◌then◌else◌, List, [], ◌∷◌, ◌++◌, length}
use Rattle.std.proofs.Common.{take, refl, sym, ◌∙◌, ap, subst, arith, ⊎_elim, length-append}
use Rattle.std.specs.Prelude.{◌^◌, codes, get_or}
use Rattle.std.specs.Fmt.{decimal}
use Rattle.std.proofs.lemmas.Fmt.{decimal_injective}
use Rattle.std.proofs.lemmas.Bool.{and_parts}
use Rattle.std.proofs.lemmas.List.{length-map, map-append, take_all, take_more}
use Rattle.fof_models.specs.declared.problem.FofSymbol.{FofSymbol}
use Rattle.tptp_words.specs.Words.{same}
use Rattle.fof_text.specs.Names.{place_of, is_among, AllDiffer, least_below, numbered, is_free}
use Rattle.fof_text.specs.Names.{free_number, choice, choices, wanted_names, chosen_names}
use Rattle.fof_text.specs.Uses.{Uses, Knows, IsChosen}
use Rattle.fof_text.proofs.Places.{same_is, same_self}
use Rattle.fof_text.proofs.Taken.{among_more, is_among-append}

-- ---- one after another

-- the names that symbols have, the last first, after those that want these names
abbrev pub passed : List (List ℕ) → List (List ℕ) → List (List ℕ) → List (List ℕ)
passed wanted earlier [] = earlier
passed wanted earlier (n ∷ ns) = passed wanted (choice wanted earlier n ∷ earlier) ns

choices-append : (wanted earlier : List (List ℕ)) (ns : List (List ℕ)) (n : List ℕ)
    → choices wanted earlier (ns ++ n ∷ [])
    ≡ choices wanted earlier ns ++ choice wanted (passed wanted earlier ns) n ∷ []
choices-append wanted earlier [] n = refl
choices-append wanted earlier (m ∷ ns) n =
    ap (λ z. choice wanted earlier m ∷ z)
    (choices-append wanted (choice wanted earlier m ∷ earlier) ns n)

passed-append : (wanted earlier : List (List ℕ)) (ns : List (List ℕ)) (n : List ℕ)
    → passed wanted earlier (ns ++ n ∷ [])
    ≡ choice wanted (passed wanted earlier ns) n ∷ passed wanted earlier ns
passed-append wanted earlier [] n = refl
passed-append wanted earlier (m ∷ ns) n =
    passed-append wanted (choice wanted earlier m ∷ earlier) ns n

length-passed : (wanted earlier : List (List ℕ)) (ns : List (List ℕ))
    → length (passed wanted earlier ns) ≡ length earlier + length ns
length-passed wanted earlier [] = omega arith
length-passed wanted earlier (n ∷ ns) =
    let rest = length-passed wanted (choice wanted earlier n ∷ earlier) ns in omega (arith, rest)

pub wanted-take : (signature : List FofSymbol) (i : ℕ) (symbol : FofSymbol) → i < length signature
    → symbol ≡ get_or signature i symbol
    → wanted_names (take (i + 1) signature) ≡ wanted_names (take i signature) ++ symbol.wanted ∷ []
wanted-take signature i symbol l e =
    ap wanted_names (take_more signature i symbol l)
    ∙ ap (λ z. wanted_names (take i signature ++ z ∷ [])) (sym e)
    ∙ map-append (λ (symbol : FofSymbol). symbol.wanted) (take i signature) (symbol ∷ [])

-- the names of the first symbols are chosen, and what is known then
pub record AreChosen (wanted front : List (List ℕ)) (names : List (List ℕ)) (uses : Uses)
    : Type 0 where
  pub are : names ≡ choices wanted [] front
  pub known : Knows wanted (passed wanted [] front) uses

pub one_more : (wanted front names : List (List ℕ)) (old new : Uses) (name chosen : List ℕ)
    → AreChosen wanted front names old → IsChosen wanted (passed wanted [] front) name new chosen
    → AreChosen wanted (front ++ name ∷ []) (names ++ chosen ∷ []) new
one_more wanted front names old new name chosen h k = record {
  are = ap (λ z. z ++ chosen ∷ []) h.are ∙ ap (λ z. choices wanted [] front ++ z ∷ []) k.is
      ∙ sym (choices-append wanted [] front name);
  known = subst (λ z. Knows wanted z new)
      (ap (λ z. z ∷ passed wanted [] front) k.is
      ∙ sym (passed-append wanted [] front name)) k.known;
}

-- all names are chosen
pub are_whole : (signature : List FofSymbol) (i : ℕ) (names : List (List ℕ)) (uses : Uses)
    → length signature ≤ i
    → AreChosen (wanted_names signature) (wanted_names (take i signature)) names uses
    → names ≡ chosen_names signature
are_whole signature i names uses l h =
    h.are ∙ ap (λ z. choices (wanted_names signature) [] (wanted_names z)) (take_all i signature l)

pub limit_is : (signature front : List FofSymbol) (i : ℕ) → length front ≡ i
    → i + length signature
    ≡ length (passed (wanted_names signature) [] (wanted_names front)) + length
    (wanted_names signature)
limit_is signature front i e =
    let before = length-passed (wanted_names signature) [] (wanted_names front) in
    let fronts = length-map front (λ (symbol : FofSymbol). symbol.wanted) in
    let all = length-map signature (λ (symbol : FofSymbol). symbol.wanted) in
    omega (arith, before, fronts, all, e)

-- ---- as many names as places: different names among others are no more than these

-- the names but the first of these
abbrev without : List (List ℕ) → List ℕ → List (List ℕ)
without [] x = []
without (n ∷ ns) x = if same x n then ns else n ∷ without ns x

length-without : (ns : List (List ℕ)) (x : List ℕ) → is_among ns x ≡ true
    → suc (length (without ns x)) ≡ length ns
length-without [] x h = absurd (cc h)
length-without (n ∷ ns) x h = go (same x n) h (length-without ns x)
  where
    go : (v : Bool) → (v || is_among ns x) ≡ true
        → (is_among ns x ≡ true → suc (length (without ns x)) ≡ length ns)
        → suc (length (if v then ns else n ∷ without ns x)) ≡ suc (length ns)
    go true k rest = refl
    go false k rest = ap suc (rest k)

among_without : (ns : List (List ℕ)) (x y : List ℕ) → (x ≡ y → ⊥) → is_among ns y ≡ true
    → is_among (without ns x) y ≡ true
among_without [] x y d h = absurd (cc h)
among_without (n ∷ ns) x y d h = go (same x n) (same y n) refl refl h (among_without ns x y d)
  where
    go : (v w : Bool) → same x n ≡ v → same y n ≡ w → (w || is_among ns y) ≡ true
        → (is_among ns y ≡ true → is_among (without ns x) y ≡ true)
        → is_among (if v then ns else n ∷ without ns x) y ≡ true
    go true true e f k rest = absurd (d (same_is x n e ∙ sym (same_is y n f)))
    go true false e f k rest = k
    go false true e f k rest = ap (λ z. z || is_among (without ns x) y) f
    go false false e f k rest = ap (λ z. z || is_among (without ns x) y) f ∙ rest k

room : (n : ℕ) (f : ℕ → List ℕ) (ns : List (List ℕ))
    → ((j k : ℕ) → j < k → k < n → f k ≡ f j → ⊥) → ((j : ℕ) → j < n → is_among ns (f j) ≡ true)
    → n ≤ length ns
room zero f ns differ all = omega arith
room (suc n) f ns differ all =
    let last = all n (omega arith) in
    let rest = room n f (without ns (f n)) (λ j k l m. differ j k l (omega arith))
    (λ j l. among_without ns (f n) (f j) (differ j n l (omega arith)) (all j (omega arith))) in
    let long = length-without ns (f n) last in
    omega (arith, rest, long)

-- ---- a free name is found

front_cancels : (xs ys zs : List ℕ) → xs ++ ys ≡ xs ++ zs → ys ≡ zs
front_cancels [] ys zs e = e
front_cancels (x ∷ xs) ys zs e = front_cancels xs ys zs (cc e)

numbered_differ : (name : List ℕ) (j k : ℕ) → j < k → k < 2 ^ 64
    → numbered name k ≡ numbered name j → ⊥
numbered_differ name j k l m e =
    let texts : decimal k ≡ decimal j =
    cc (front_cancels name (codes "_" ++ decimal k) (codes "_" ++ decimal j) e) in
    let numbers = decimal_injective k j m (omega arith) texts in
    omega (arith, numbers, l)

least_below-says : (n : ℕ) (test : ℕ → Bool)
    → (test (least_below n test) ≡ true) ⊎
    (((j : ℕ) → j < n → test j ≡ false) × (least_below n test ≡ n))
least_below-says zero test = inr ((λ j l. absurd (omega arith)), refl)
least_below-says (suc n) test = go (test 0) refl (least_below-says n (λ k. test (suc k)))
  where
    go : (v : Bool) → test 0 ≡ v
        → (test (suc (least_below n (λ k. test (suc k)))) ≡ true)
        ⊎ (((j : ℕ) → j < n → test (suc j) ≡ false) × (least_below n (λ k. test (suc k)) ≡ n))
        → (test (if v then 0 else suc (least_below n (λ k. test (suc k)))) ≡ true)
        ⊎ (((j : ℕ) → j < suc n → test j ≡ false)
        × ((if v then 0 else suc (least_below n (λ k. test (suc k)))) ≡ suc n))
    go true e rest = inl e
    go false e (inl h) = inl h
    go false e (inr (none, last)) = inr (all, ap suc last)
      where
        all : (j : ℕ) → j < suc n → test j ≡ false
        all zero l = e
        all (suc j) l = none j (omega arith)

taken_if : (e w : Bool) → (not e && not w) ≡ false → (e || w) ≡ true
taken_if true w h = refl
taken_if false true h = refl
taken_if false false h = absurd (cc h)

pub free_found : (wanted earlier : List (List ℕ)) (name : List ℕ)
    → length earlier + length wanted < 2 ^ 64 - 1
    → is_free wanted earlier (numbered name (free_number wanted earlier name)) ≡ true
free_found wanted earlier name few =
    ⊎_elim (λ h. h) absent (least_below-says n test)
  where
    n : ℕ
    n = length earlier + length wanted

    test : ℕ → Bool
    test k = is_free wanted earlier (numbered name k)

    absent : (((j : ℕ) → j < n → test j ≡ false) × (least_below n test ≡ n))
        → test (least_below n test) ≡ true
    absent (none, last) = go (test n) refl
      where
        taken : (j : ℕ) → test j ≡ false → is_among (earlier ++ wanted) (numbered name j) ≡ true
        taken j h = is_among-append earlier wanted (numbered name j)
            ∙ taken_if (is_among earlier (numbered name j)) (is_among wanted (numbered name j)) h

        go : (v : Bool) → test n ≡ v → test (least_below n test) ≡ true
        go true e = ap test last ∙ e
        go false e =
            let long = length-append earlier wanted in
            let bound = room (suc n) (numbered name) (earlier ++ wanted)
            (λ j k l m. numbered_differ name j k l (omega (arith, few, m)))
            (λ j l. taken j (⊎_elim (λ b. none j b) (λ b. subst (λ z. test z ≡ false) (sym b) e)
            (split j n l))) in
            absurd (omega (arith, long, bound))
          where
            split : (j n : ℕ) → j < suc n → (j < n) ⊎ (j ≡ n)
            split zero zero l = inr refl
            split zero (suc n) l = inl (omega arith)
            split (suc j) zero l = absurd (omega arith)
            split (suc j) (suc n) l =
                ⊎_elim (λ b. inl (omega arith)) (λ b. inr (ap suc b)) (split j n (omega arith))

-- ---- no two are the same

not_true : (v : Bool) → not v ≡ true → v ≡ false
not_true true h = absurd (cc h)
not_true false h = refl

choice_is_new : (wanted earlier : List (List ℕ)) (name : List ℕ)
    → length earlier + length wanted < 2 ^ 64 - 1
    → is_among earlier (choice wanted earlier name) ≡ false
choice_is_new wanted earlier name few = go (is_among earlier name) refl
  where
    go : (v : Bool) → is_among earlier name ≡ v
        → is_among earlier (if v then numbered name (free_number wanted earlier name) else name)
        ≡ false
    go true e = not_true _ (and_parts _ _ (free_found wanted earlier name few)).0
    go false e = e

earlier_absent : (wanted earlier ns : List (List ℕ)) (x : List ℕ)
    → length earlier + length ns + length wanted < 2 ^ 64 - 1 → is_among earlier x ≡ true
    → is_among (choices wanted earlier ns) x ≡ false
earlier_absent wanted earlier [] x few h = refl
earlier_absent wanted earlier (n ∷ ns) x few h =
    let c : List ℕ = choice wanted earlier n in
    let rest = earlier_absent wanted (c ∷ earlier) ns x (omega arith) (among_more c x earlier h) in
    ap (λ v. v || is_among (choices wanted (c ∷ earlier) ns) x) (go (same x c) refl) ∙ rest
  where
    go : (v : Bool) → same x (choice wanted earlier n) ≡ v
        → same x (choice wanted earlier n) ≡ false
    go false e = e
    go true e =
        absurd (cc (sym (ap (is_among earlier) (same_is x _ e)
        ∙ choice_is_new wanted earlier n (omega arith)) ∙ h))

absent_place : (ns : List (List ℕ)) (x : List ℕ) → is_among ns x ≡ false → length ns ≤ place_of ns x
absent_place [] x h = omega arith
absent_place (n ∷ ns) x h = go (same x n) refl h (absent_place ns x)
  where
    go : (v : Bool) → same x n ≡ v → (v || is_among ns x) ≡ false
        → (is_among ns x ≡ false → length ns ≤ place_of ns x)
        → suc (length ns) ≤ (if v then 0 else suc (place_of ns x))
    go true e k rest = absurd (cc k)
    go false e k rest = let tail = rest k in omega arith

choices_differ : (wanted earlier ns : List (List ℕ))
    → length earlier + length ns + length wanted < 2 ^ 64 - 1
    → AllDiffer (choices wanted earlier ns)
choices_differ wanted earlier [] few = tt
choices_differ wanted earlier (n ∷ ns) few =
    let c : List ℕ = choice wanted earlier n in (
      absent_place (choices wanted (c ∷ earlier) ns) c
          (earlier_absent wanted (c ∷ earlier) ns c (omega arith)
          (ap (λ v. v || is_among earlier c) (same_self c))),
      choices_differ wanted (c ∷ earlier) ns (omega arith),
    )

pub chosen_differ : (signature : List FofSymbol) → length signature < 2 ^ 62
    → AllDiffer (chosen_names signature)
chosen_differ signature few =
    let all = length-map signature (λ (symbol : FofSymbol). symbol.wanted) in
    choices_differ (wanted_names signature) [] (wanted_names signature) (omega (arith, few, all))

length-choices : (wanted earlier ns : List (List ℕ))
    → length (choices wanted earlier ns) ≡ length ns
length-choices wanted earlier [] = refl
length-choices wanted earlier (n ∷ ns) =
    ap suc (length-choices wanted (choice wanted earlier n ∷ earlier) ns)

pub length-chosen : (signature : List FofSymbol)
    → length (chosen_names signature) ≡ length signature
length-chosen signature =
    length-choices (wanted_names signature) [] (wanted_names signature)
    ∙ length-map signature (λ (symbol : FofSymbol). symbol.wanted)
