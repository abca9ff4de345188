-- What a reader with one word in hand has left, and what its calls give.
use Rattle.std.specs.Prelude.{◌≡◌, ◌≢◌, ◌⊎◌, ℕ, List, [], ◌∷◌, Option, Some, None, Result, Ok, Err, codes}
use Rattle.std.specs.Prelude.{is_some, ◌≤◌, length}
use Rattle.tptp_phrases.specs.Phrase.{open_behind}
use Rattle.tptp_words.specs.declared.word.WordError.{WordError}
use Rattle.tptp_words.specs.Text.{Token, Placed}
use Rattle.tptp_words.specs.Words.{mark, keyword, dollar}
use Rattle.tptp_words.specs.Scanning.{Left}
use Rattle.tptp_words.specs.Steps.{AllSpelled}
use Rattle.tptp_phrases.specs.Readers.{Cause, Syntax, TooDeep, Stray, Outcome, seen}
use Rattle.tptp_syntax.specs.declared.fixed.Fixed.{Fixed}
use Rattle.tptp_syntax.specs.declared.fixed.Fixed.TheVariants as x
use Rattle.tptp_syntax.specs.declared.fault.Fault.{Fault}
use Rattle.tptp_syntax.specs.declared.fault.Fault.TheVariants as fault
use Rattle.tptp_syntax.specs.declared.reader.Next.{Next}
use Rattle.tptp_syntax.specs.declared.reader.Next.TheVariants as n
use Rattle.tptp_syntax.specs.Strays as stray

-- what is left where the next word was taken out already
abbrev pub ahead_of : Next → Left → Left
ahead_of (n.Word kind from spelling) l = record {
  words = record { token = record { kind = kind; spelling = spelling.now }; from = from } ∷ l.words;
  fault = l.fault;
}
ahead_of n.End l = record { words = []; fault = None }
ahead_of (n.Fault e) l = record { words = []; fault = Some e }

-- What a reader keeps of its text: the words are spelled there, and there are no more words left
-- than bytes in it.
pub record IsHeld (text : List ℕ) (next : Next) (words : Left) : Type 0 where
  pub spelled : AllSpelled text words.words
  pub few : length (seen (ahead_of next words)) ≤ length text

-- what is left behind the next word, where there is one
abbrev pub behind_first : List Placed → Option WordError → Left
behind_first [] fault = record { words = []; fault = fault }
behind_first (w ∷ ws) fault = record { words = ws; fault = fault }

abbrev pub rest_of : Left → Left
rest_of l = behind_first l.words l.fault

-- what the next word stands for
abbrev pub first_as : {A : Type 0} → (Token → Option A) → List Token → Option A
first_as f [] = None
first_as f (w ∷ ws) = f w

-- a word that has one spelling
abbrev pub fixed : Fixed → Token → Option (Unit {0})
fixed x.Open = mark (codes "(")
fixed x.Close = mark (codes ")")
fixed x.OpenSquare = mark (codes "[")
fixed x.CloseSquare = mark (codes "]")
fixed x.Comma = mark (codes ",")
fixed x.Dot = mark (codes ".")
fixed x.Colon = mark (codes ":")
fixed x.Equal = mark (codes "=")
fixed x.Unequal = mark (codes "!=")
fixed x.Not = mark (codes "~")
fixed x.And = mark (codes "&")
fixed x.Or = mark (codes "|")
fixed x.ForAll = mark (codes "!")
fixed x.Exists = mark (codes "?")
fixed x.TypeForAll = mark (codes "!>")
fixed x.Greater = mark (codes ">")
fixed x.Star = mark (codes "*")
fixed x.Type = keyword (codes "type")
fixed x.Individuals = dollar (codes "$i")
fixed x.Truth = dollar (codes "$o")
fixed x.Types = dollar (codes "$tType")
fixed x.True = dollar (codes "$true")
fixed x.False = dollar (codes "$false")

-- a mark that joins the units of a chain
abbrev pub IsJoining : Fixed → Type 0
IsJoining word = (word ≡ x.And) ⊎ (word ≡ x.Or)

-- the cause of a fault
abbrev pub cause : Fault → Cause stray.Stray
cause fault.Memory = Syntax
cause fault.Syntax = Syntax
cause fault.TooDeep = TooDeep
cause fault.Language = Stray stray.OfLanguage
cause fault.Role = Stray stray.OfRole
cause fault.Number = Stray stray.OfNumber
cause fault.DistinctObject = Stray stray.OfDistinctObject
cause fault.Include = Stray stray.OfInclude

-- what a function that reads gives: the reader's outcome, unless memory fails
abbrev pub Gives : {A : Type 0} → Outcome stray.Stray A → Result A Fault → Left → Type 0
Gives outcome (Ok a) new = outcome ≡ Ok (a, new)
Gives outcome (Err e) new = e ≢ fault.Memory → outcome ≡ Err (cause e, new)

-- how many brackets are open behind the next word, where so many are open before it
abbrev pub open_first : List Token → ℕ → Option ℕ
open_first [] open_before = None
open_first (w ∷ ws) open_before =
    open_behind (is_some (mark (codes "(") w)) (is_some (mark (codes ")") w)) open_before

-- the error that stands next
abbrev pub fault_first : List Placed → Option WordError → Option WordError
fault_first [] fault = fault
fault_first (w ∷ ws) fault = None

-- where the next word begins
abbrev pub place_first : List Placed → Option ℕ
place_first [] = None
place_first (w ∷ ws) = Some w.from
