-- The words of notes, skipped one by one.
use Rattle.std.proofs.Common.{◌≡◌, ℕ, zero, ◌<◌, List, [], ◌∷◌, Bool, true, false, Option, Some}
use Rattle.std.proofs.Common.{None, refl, ap, length, arith}
use Rattle.std.specs.Prelude.{codes}
use Rattle.tptp_words.specs.declared.word.WordError.{WordError}
use Rattle.tptp_words.specs.Text.{Token, Placed, tokens}
use Rattle.tptp_words.specs.Scanning.{Left}
use Rattle.tptp_phrases.specs.Readers.{Outcome, Syntax, seen, goes_on, stray_cause, no_strays, enough}
use Rattle.tptp_phrases.specs.Readers.{skip_from, unless_none}
use Rattle.tptp_syntax.specs.Strays.{Stray}
use Rattle.tptp_syntax.specs.Ahead.{open_first, rest_of, behind_first}
use Rattle.tptp_syntax.specs.Descent.{any_word, sees}

pub no_stray_cause : (ws : List Token) → stray_cause {K = Stray} no_strays ws ≡ Syntax
no_stray_cause [] = refl
no_stray_cause (w ∷ ws) = refl

abbrev pub skip : ℕ → Bool → Left → Outcome Stray (Unit {0})
skip n some s = skip_from (sees (codes "(")) (sees (codes ")")) n some s.words s.fault

end_of : (n : ℕ) (some : Bool) (ws : List Placed) (fault : Option WordError)
    → goes_on any_word (tokens ws) ≡ false
    → skip_from {K = Stray} (sees (codes "(")) (sees (codes ")")) n some ws fault
    ≡ enough n some (record { words = ws; fault = fault })
end_of n some [] fault e = refl
end_of n some (w ∷ ws) fault e = cc e

-- no word is left
pub skip_end : (n : ℕ) (some : Bool) (s : Left) → goes_on any_word (seen s) ≡ false
    → skip n some s ≡ enough n some s
skip_end n some s e = end_of n some s.words s.fault e

stop_of : (n : ℕ) (some : Bool) (ws : List Placed) (fault : Option WordError)
    → goes_on any_word (tokens ws) ≡ true → open_first (tokens ws) n ≡ None
    → skip_from {K = Stray} (sees (codes "(")) (sees (codes ")")) n some ws fault
    ≡ enough zero some (record { words = ws; fault = fault })
stop_of n some [] fault e h = cc e
stop_of n some (w ∷ ws) fault e h =
    ap (λ o. unless_none (enough zero some (record { words = w ∷ ws; fault = fault }))
    (λ m. skip_from {K = Stray} (sees (codes "(")) (sees (codes ")")) m true ws fault) o) h

-- the next word closes a bracket that is not open
pub skip_stop : (n : ℕ) (some : Bool) (s : Left) → goes_on any_word (seen s) ≡ true
    → open_first (seen s) n ≡ None → skip n some s ≡ enough zero some s
skip_stop n some s e h = stop_of n some s.words s.fault e h

go_of : (n m : ℕ) (some : Bool) (ws : List Placed) (fault : Option WordError)
    → goes_on any_word (tokens ws) ≡ true → open_first (tokens ws) n ≡ Some m
    → skip_from {K = Stray} (sees (codes "(")) (sees (codes ")")) n some ws fault
    ≡ skip m true (behind_first ws fault)
go_of n m some [] fault e h = cc e
go_of n m some (w ∷ ws) fault e h =
    ap (λ o. unless_none (enough zero some (record { words = w ∷ ws; fault = fault }))
    (λ m. skip_from {K = Stray} (sees (codes "(")) (sees (codes ")")) m true ws fault) o) h

-- the next word is taken
pub skip_go : (n m : ℕ) (some : Bool) (s : Left) → goes_on any_word (seen s) ≡ true
    → open_first (seen s) n ≡ Some m → skip n some s ≡ skip m true (rest_of s)
skip_go n m some s e h = go_of n m some s.words s.fault e h

shorter_of : (ws : List Placed) (fault : Option WordError) → goes_on any_word (tokens ws) ≡ true
    → length (seen (behind_first ws fault)) < length (tokens ws)
shorter_of [] fault e = cc e
shorter_of (w ∷ ws) fault e = omega arith

pub skip_shorter : (s : Left) → goes_on any_word (seen s) ≡ true
    → length (seen (rest_of s)) < length (seen s)
skip_shorter s e = shorter_of s.words s.fault e
