-- What stands at a place in the list of marked symbols.
use Rattle.std.specs.Prelude.{ℕ, zero, suc, ◌+◌, ◌<◌, ◌≡◌, Bool, true, false, List, [], ◌∷◌, ◌++◌, map, length, cond, slice_get, Some}
use Rattle.std.proofs.Common.{refl, ap, ◌∙◌, arith}
use Rattle.tf_core.specs.declared.signature.Constructor.{Constructor}
use Rattle.tf_core.specs.declared.signature.Symbol.{Symbol}
use Rattle.tf_core.specs.declared.normal.Normal.{Normal}
use Rattle.enc_marks.specs.Choices.{Choices}
use Rattle.enc_marks.specs.Occurrence.{count_below, passing}
use Rattle.enc_marks.specs.Encoded.{MarkedSymbol, marked_symbol, marked_constructor, marked_symbols, marked_constructors}

-- an item that stands among those that pass, and its number
pub record IsFound {A : Type 0} (test : ℕ → Bool) (number : ℕ) (items : List A) (r i : ℕ)
    (item : A) :
    Type 0 where
  pub at : slice_get items i ≡ Some item
  pub passes : test (number + i) ≡ true
  pub rank : count_below (number + i) test ≡ count_below number test + r

pub count_below-next : (n : ℕ) (test : ℕ → Bool) (b : Bool) → test n ≡ b →
    count_below (n + 1) test ≡ count_below n test + cond b 1 0
count_below-next n test b is =
    let e : n + 1 ≡ suc n = omega arith in
    ap (λ x. count_below x test) e ∙ ap (λ x. count_below n test + cond x 1 0) is

found_later : {A : Type 0} (test : ℕ → Bool) (number : ℕ) (first item : A) (others : List A)
    (r left i : ℕ) → count_below (number + 1) test + left ≡ count_below number test + r →
    IsFound test (number + 1) others left i item → IsFound test number (first ∷ others) r (suc i)
    item
found_later test number first item others r left i same found =
    let e : number + suc i ≡ number + 1 + i = omega arith in
    record {
      at = found.at;
      passes = ap test e ∙ found.passes;
      rank = ap (λ x. count_below x test) e ∙ found.rank ∙ same;
    }

passing_at : {A : Type 0} (test : ℕ → Bool) (number : ℕ) (first item : A) (others : List A) (r : ℕ)
    (b : Bool) → test number ≡ b →
    slice_get (cond b (first ∷ passing test (number + 1) others)
    (passing test (number + 1) others)) r
    ≡ Some item →
    ((left : ℕ) → slice_get (passing test (number + 1) others) left ≡ Some item →
    (i : ℕ) × IsFound test (number + 1) others left i item) →
    (i : ℕ) × IsFound test number (first ∷ others) r i item
passing_at test number first item others zero true is at rest =
    let e : number + 0 ≡ number = omega arith in
    let same = ap (λ x. count_below x test) e in
    (0, record { at = at; passes = ap test e ∙ is; rank = omega (arith, same) })
passing_at test number first item others (suc r) true is at rest =
    let found = rest r at in
    let next = count_below-next number test true is in (
      suc found.0,
      found_later test number first item others (suc r) r found.0 (omega (arith, next)) found.1,
    )
passing_at test number first item others r false is at rest =
    let found = rest r at in
    let next = count_below-next number test false is in (
      suc found.0,
      found_later test number first item others r r found.0 (omega (arith, next)) found.1,
    )

pub passing_found : {A : Type 0} (test : ℕ → Bool) (number : ℕ) (items : List A) (r : ℕ)
    (item : A) →
    slice_get (passing test number items) r ≡ Some item →
    (i : ℕ) × IsFound test number items r i item
passing_found test number [] r item at = cc
passing_found test number (first ∷ items) r item at =
    passing_at test number first item items r (test number) refl at
    (λ left there. passing_found test (number + 1) items left item there)

pub slice_get-within : {A : Type 0} (items : List A) (i : ℕ) (item : A) →
    slice_get items i ≡ Some item → i < length items
slice_get-within [] i item at = cc
slice_get-within (first ∷ items) zero item at = omega arith
slice_get-within (first ∷ items) (suc i) item at = omega (arith, slice_get-within items i item at)

-- the item of an image
pub map_found : {A B : Type 0} (f : A → B) (items : List A) (i : ℕ) (image : B) →
    slice_get (map f items) i ≡ Some image →
    (item : A) × (slice_get items i ≡ Some item) × (f item ≡ image)
map_found f [] i image at = cc
map_found f (first ∷ items) zero image at = let same : f first ≡ image = cc in (first, refl, same)
map_found f (first ∷ items) (suc i) image at = map_found f items i image at

-- an item of two lists stands in the first, or behind it in the second
pub data InLists {A : Type 0} (items others : List A) (i : ℕ) (item : A) : Type 0 where
  in_first : slice_get items i ≡ Some item → InLists items others i item
  in_second : (behind : ℕ) → length items + behind ≡ i → slice_get others behind ≡ Some item →
      InLists items others i item

pub lists_found : {A : Type 0} (items others : List A) (i : ℕ) (item : A) →
    slice_get (items ++ others) i ≡ Some item → InLists items others i item
lists_found [] others i item at = in_second i (omega arith) at
lists_found (first ∷ items) others zero item at = in_first at
lists_found (first ∷ items) others (suc i) item at = more (lists_found items others i item at)
  where
    more : InLists items others i item → InLists (first ∷ items) others (suc i) item
    more (in_first there) = in_first there
    more (in_second behind same there) = in_second behind (omega (arith, same)) there

pub symbol_found : (c : Choices) (n : ℕ) (symbols : List Symbol) (f : ℕ) (marked : MarkedSymbol) →
    slice_get (marked_symbols c n symbols) f ≡ Some marked →
    (symbol : Symbol) × (slice_get symbols f ≡ Some symbol) ×
    (marked ≡ marked_symbol c (n + f) symbol)
symbol_found c n [] f marked at = cc
symbol_found c n (first ∷ symbols) zero marked at =
    let same : marked ≡ marked_symbol c n first = cc in
    let e : n ≡ n + 0 = omega arith in
    (first, refl, same ∙ ap (λ x. marked_symbol c x first) e)
symbol_found c n (first ∷ symbols) (suc f) marked at =
    let found = symbol_found c (n + 1) symbols f marked at in
    let e : n + 1 + f ≡ n + suc f = omega arith in
    (found.0, found.1, found.2 ∙ ap (λ x. marked_symbol c x found.0) e)

pub constructor_found : (normal : Normal) (n : ℕ) (constructors : List Constructor) (i : ℕ)
    (marked : MarkedSymbol) → slice_get (marked_constructors normal n constructors) i
    ≡ Some marked →
    (constructor : Constructor) × (slice_get constructors i ≡ Some constructor)
    × (marked ≡ marked_constructor normal (n + i) constructor)
constructor_found normal n [] i marked at = cc
constructor_found normal n (first ∷ constructors) zero marked at =
    let same : marked ≡ marked_constructor normal n first = cc in
    let e : n ≡ n + 0 = omega arith in
    (first, refl, same ∙ ap (λ x. marked_constructor normal x first) e)
constructor_found normal n (first ∷ constructors) (suc i) marked at =
    let found = constructor_found normal (n + 1) constructors i marked at in
    let e : n + 1 + i ≡ n + suc i = omega arith in
    (found.0, found.1, found.2 ∙ ap (λ x. marked_constructor normal x found.0) e)

pub length-symbols : (c : Choices) (n : ℕ) (symbols : List Symbol) →
    length (marked_symbols c n symbols) ≡ length symbols
length-symbols c n [] = refl
length-symbols c n (symbol ∷ symbols) = ap suc (length-symbols c (n + 1) symbols)

pub length-constructors : (normal : Normal) (n : ℕ) (constructors : List Constructor) →
    length (marked_constructors normal n constructors) ≡ length constructors
length-constructors normal n [] = refl
length-constructors normal n (constructor ∷ constructors) =
    ap suc (length-constructors normal (n + 1) constructors)
