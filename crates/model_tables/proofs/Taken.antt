-- What a reader of one word gives, by what the word stands for.
use Rattle.std.proofs.Common.{◌≡◌, List, [], ◌∷◌, true, false, Option, Some, None, Ok, Err}
use Rattle.std.proofs.Common.{is_some, refl, sym, ap, ◌∙◌}
use Rattle.tptp_words.specs.declared.word.WordError.{WordError}
use Rattle.tptp_words.specs.Text.{Token, Placed}
use Rattle.tptp_words.specs.Scanning.{Left}
use Rattle.tptp_phrases.specs.Readers.{Syntax, seen, goes_on, takes, taken, take_from, take_word}
use Rattle.model_tables.specs.Ahead.{first_as, rest_of, behind_first}

module _ {A : Type 0} (f : Token → Option A) where
  from_first : (ws : List Placed) (fault : Option WordError) (a : A)
      → first_as f (Rattle.tptp_words.specs.Text.tokens ws) ≡ Some a
      → take_from {K = Unit {0}} f ws fault ≡ Ok (a, behind_first ws fault)
  from_first [] fault a e = cc e
  from_first (w ∷ ws) fault a e = ap (λ o. taken {K = Unit {0}} w ws fault o) e

  pub taken_first : (s : Left) (a : A) → first_as f (seen s) ≡ Some a
      → take_word {K = Unit {0}} f s ≡ Ok (a, rest_of s)
  unfolding take_word
  taken_first s a e = from_first s.words s.fault a e

  from_none : (ws : List Placed) (fault : Option WordError)
      → first_as f (Rattle.tptp_words.specs.Text.tokens ws) ≡ None
      → take_from {K = Unit {0}} f ws fault ≡ Err (Syntax, record { words = ws; fault = fault })
  from_none [] fault e = refl
  from_none (w ∷ ws) fault e = ap (λ o. taken {K = Unit {0}} w ws fault o) e

  pub taken_none : (s : Left) → first_as f (seen s) ≡ None
      → take_word {K = Unit {0}} f s ≡ Err (Syntax, s)
  unfolding take_word
  taken_none s e = from_none s.words s.fault e

  pub goes_on-first : (ws : List Token) → goes_on (takes f) ws ≡ is_some (first_as f ws)
  goes_on-first [] = refl
  goes_on-first (w ∷ ws) = refl

  none_of : (o : Option A) → is_some o ≡ false → o ≡ None
  none_of None e = refl
  none_of (Some a) e = cc e

  pub not_taken : (s : Left) → goes_on (takes f) (seen s) ≡ false
      → take_word {K = Unit {0}} f s ≡ Err (Syntax, s)
  not_taken s e = taken_none s (none_of (first_as f (seen s)) (sym (goes_on-first (seen s)) ∙ e))

-- a word that stands for itself
pub unit_taken : (f : Token → Option (Unit {0})) (s : Left) → goes_on (takes f) (seen s) ≡ true
    → take_word {K = Unit {0}} f s ≡ Ok (tt, rest_of s)
unit_taken f s e = taken_first f s tt (some_of (first_as f (seen s)) (sym (goes_on-first f (seen s)) ∙ e))
  where
    some_of : (o : Option (Unit {0})) → is_some o ≡ true → o ≡ Some tt
    some_of None e = cc e
    some_of (Some a) e = refl

pub known_goes_on : {A : Type 0} (f : Token → Option A) (o : Option A) (ws : List Token)
    → o ≡ first_as f ws → is_some o ≡ goes_on (takes f) ws
known_goes_on f o ws e = ap is_some e ∙ sym (goes_on-first f ws)
