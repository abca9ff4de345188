-- Where blocks begin: the starts of the first of them, and of all.
use Rattle.std.specs.Prelude.{ℕ, ◌≡◌, ◌<◌, ◌≤◌, ◌+◌, ◌-◌, ◌^◌, List, [], ◌∷◌, ◌++◌, length, get_or, slice_get, Some}
use Rattle.std.proofs.Common.{refl, sym, ap, ◌∙◌, subst, arith, ⊎_elim}
use Rattle.std.proofs.lemmas.Bool.{cases_eq}
use Rattle.std.proofs.lemmas.List.{length_push, get_or_push, get_or_append_left, get_or_default}
use Rattle.std.proofs.lemmas.Option.{same_Some, slice_get_within, slice_get_read}
use Rattle.enc_base.specs.Tables.{sum_below}
use Rattle.enc_base.specs.Counts.{in_64_bits}
use Rattle.enc_base.proofs.Tables.{sum_below-next}
use Rattle.tf_core.specs.declared.signature.Symbol.{Symbol}
use Rattle.tf_core.specs.TypedTables.{TypedTables}
use Rattle.tf_models.specs.Fit.{block_count, length_at}
use Rattle.enc_mono.specs.Blocks.{AreStarts, AreAllStarts}

-- where the first so many blocks begin, and the next one
pub record AreFirstStarts (t : TypedTables) (symbol : Symbol) (number start : ℕ) (starts : List ℕ) :
    Type 0 where
  pub count : length starts ≡ number
  pub at : (i : ℕ) → i < number → get_or starts i 0 ≡ sum_below i (length_at t symbol)
  pub next : start ≡ sum_below number (length_at t symbol)

module _ (t : TypedTables) (symbol : Symbol) where
  pub no_starts : AreFirstStarts t symbol 0 0 []
  no_starts = record { count = refl; at = λ i within. absurd (omega (arith, within)); next = refl }

  pub more_starts : (number start long : ℕ) (starts : List ℕ) →
      AreFirstStarts t symbol number start starts → long ≡ length_at t symbol number →
      AreFirstStarts t symbol (number + 1) (start + long) (starts ++ start ∷ [])
  more_starts number start long starts so_far is = record {
    count = let long = length_push starts start in omega (arith, so_far.count, long);
    at = λ i within.
        ⊎_elim
        (λ last. get_or_push starts start 0 i (so_far.count ∙ sym last)
        ∙ so_far.next ∙ ap (λ n. sum_below n (length_at t symbol)) (sym last))
        (λ earlier. get_or_append_left starts (start ∷ []) 0 i
        (omega (arith, so_far.count, within, earlier))
        ∙ so_far.at i (omega (arith, within, earlier)))
        (cases_eq i number);
    next = let sum = sum_below-next number (length_at t symbol) in
        omega (arith, so_far.next, is, sum);
  }

  pub all_starts : (number start : ℕ) (starts : List ℕ) →
      AreFirstStarts t symbol number start starts → number ≡ block_count t symbol →
      AreStarts t symbol starts
  all_starts number start starts so_far whole = record {
    count = so_far.count ∙ whole;
    at = λ i within. so_far.at i (omega (arith, within, so_far.count));
  }

-- the same of the first so many symbols
pub record AreFirstAllStarts (t : TypedTables) (symbols : List Symbol) (number : ℕ)
    (starts : List (List ℕ)) : Type 0 where
  pub count : length starts ≡ number
  pub at : (f : ℕ) (symbol : Symbol) → f < number → slice_get symbols f ≡ Some symbol →
      AreStarts t symbol (get_or starts f [])

module _ (t : TypedTables) (symbols : List Symbol) where
  pub no_all_starts : AreFirstAllStarts t symbols 0 []
  no_all_starts = record {
    count = refl;
    at = λ f symbol within at. absurd (omega (arith, within));
  }

  pub more_all_starts : (number : ℕ) (symbol : Symbol) (starts : List (List ℕ)) (more : List ℕ) →
      AreFirstAllStarts t symbols number starts → slice_get symbols number ≡ Some symbol →
      AreStarts t symbol more → AreFirstAllStarts t symbols (number + 1) (starts ++ more ∷ [])
  more_all_starts number symbol starts more so_far here are = record {
    count = let long = length_push starts more in omega (arith, so_far.count, long);
    at = λ f other within at.
        ⊎_elim
        (λ last. subst (AreStarts t other) (sym (get_or_push starts more [] f (so_far.count
        ∙ sym last)))
        (subst (λ s. AreStarts t s more)
        (same_Some symbol other (sym here ∙ ap (slice_get symbols) (sym last) ∙ at)) are))
        (λ earlier. subst (AreStarts t other)
        (sym (get_or_append_left starts (more ∷ []) [] f
        (omega (arith, so_far.count, within, earlier))))
        (so_far.at f other (omega (arith, within, earlier)) at))
        (cases_eq f number);
  }

  pub all_all_starts : (number : ℕ) (starts : List (List ℕ)) →
      AreFirstAllStarts t symbols number starts → number ≡ length symbols →
      AreAllStarts t symbols starts
  all_all_starts number starts so_far whole = record {
    count = so_far.count ∙ whole;
    at = λ f symbol at. so_far.at f symbol
        (let within = slice_get_within symbols f symbol at in omega (arith, within, whole)) at;
  }

-- the count that code makes of blocks is their number, where each has an entry in a table
pub count_is : (blocks count entries : ℕ) → count ≡ in_64_bits blocks → blocks ≤ entries →
    entries < 2 ^ 64 - 1 → count ≡ blocks
count_is blocks count entries is fit few = omega (arith, is, fit, few)

-- a length that is counted in 64 bits
pub length_is : (long counted start entries : ℕ) → counted ≡ in_64_bits long →
    start + long ≤ entries → entries < 2 ^ 64 - 1 → counted ≡ long
length_is long counted start entries is fit few = omega (arith, is, fit, few)

-- an item as a loop reads it
pub item_read : {A : Type 0} (items : List A) (i : ℕ) (item : A) → i < length items →
    item ≡ get_or items i item → slice_get items i ≡ Some item
item_read items i item within is = slice_get_read items (length items) i item refl within is

-- the starts of a symbol as code reads them
pub starts_read : (t : TypedTables) (symbols : List Symbol) (starts : List (List ℕ)) →
    AreAllStarts t symbols starts → (f : ℕ) (symbol : Symbol) →
    slice_get symbols f ≡ Some symbol → (held : List ℕ) → held ≡ get_or starts f held →
    AreStarts t symbol held
starts_read t symbols starts are f symbol at held is =
    let inside = slice_get_within symbols f symbol at in
    let within : f < length starts = omega (arith, inside, are.count) in
    subst (AreStarts t symbol) (get_or_default starts f [] held within ∙ sym is)
    (are.at f symbol at)
