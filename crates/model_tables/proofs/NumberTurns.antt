-- The turns of the loop over numbers.
use Rattle.std.proofs.Common.{◌≡◌, ℕ, ◌<◌, List, [], ◌∷◌, ◌++◌, length, Option, Some, None, Ok, refl, ap, arith}
use Rattle.tptp_words.specs.declared.word.WordError.{WordError}
use Rattle.tptp_words.specs.Text.{Placed, tokens}
use Rattle.tptp_words.specs.Scanning.{Left}
use Rattle.tptp_phrases.specs.Readers.{seen}
use Rattle.model_tables.specs.Grammar.{number}
use Rattle.model_tables.specs.Ahead.{first_as, rest_of, behind_first}
use Rattle.model_tables.specs.Leads.{numbers_from, numbers_at, by_number}

next_from : (found : List ℕ) (words : List Placed) (fault : Option WordError) (n : ℕ)
    → first_as number (tokens words) ≡ Some n
    → numbers_from found words fault
    ≡ numbers_at (found ++ n ∷ []) (behind_first words fault)
unfolding numbers_at
next_from found [] fault n is = cc
next_from found (w ∷ ws) fault n is =
    ap (λ o. by_number o (Ok (found, record { words = w ∷ ws; fault = fault }))
    (λ m. numbers_from (found ++ m ∷ []) ws fault)) is

-- one more number
pub next_number : (found : List ℕ) (s : Left) (n : ℕ) → first_as number (seen s) ≡ Some n
    → numbers_at found s ≡ numbers_at (found ++ n ∷ []) (rest_of s)
unfolding numbers_at
next_number found s n is = next_from found s.words s.fault n is

last_from : (found : List ℕ) (words : List Placed) (fault : Option WordError)
    → first_as number (tokens words) ≡ None
    → numbers_from found words fault ≡ Ok (found, record { words = words; fault = fault })
last_from found [] fault is = refl
last_from found (w ∷ ws) fault is =
    ap (λ o. by_number o (Ok (found, record { words = w ∷ ws; fault = fault }))
    (λ m. numbers_from (found ++ m ∷ []) ws fault)) is

-- no more numbers
pub last_number : (found : List ℕ) (s : Left) → first_as number (seen s) ≡ None
    → numbers_at found s ≡ Ok (found, s)
unfolding numbers_at
last_number found s is = last_from found s.words s.fault is

shorter_from : (words : List Placed) (fault : Option WordError) (n : ℕ)
    → first_as number (tokens words) ≡ Some n
    → length (behind_first words fault).words < length words
shorter_from [] fault n is = cc
shorter_from (w ∷ ws) fault n is = omega arith

pub shorter : (s : Left) (n : ℕ) → first_as number (seen s) ≡ Some n
    → length (rest_of s).words < length s.words
shorter s n is = shorter_from s.words s.fault n is
