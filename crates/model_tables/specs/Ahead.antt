-- What a reader with one word in hand has left, and what its calls give.
use Rattle.std.specs.Prelude.{◌≡◌, ◌≢◌, ℕ, List, [], ◌∷◌, Bool, true, Option, Some, None, Result, Ok, Err}
use Rattle.tptp_words.specs.declared.word.WordError.{WordError}
use Rattle.tptp_words.specs.Text.{Token, Placed}
use Rattle.tptp_words.specs.Scanning.{Left}
use Rattle.tptp_phrases.specs.Readers.{Syntax, Outcome, Reader, take_word, seq, give, ◌>>=◌, ◌>>◌}
use Rattle.model_tables.specs.declared.fault.Fault.{Fault}
use Rattle.model_tables.specs.declared.fault.Fault.TheVariants as fault
use Rattle.model_tables.specs.declared.form.Form.{Form}
use Rattle.model_tables.specs.declared.form.Kind.{Kind}
use Rattle.model_tables.specs.declared.reader.Next.{Next}
use Rattle.model_tables.specs.declared.reader.Next.TheVariants as n
use Rattle.model_tables.specs.Refusals.{place_of}

-- what is left where the next word was taken out already
abbrev pub ahead_of : Next → Left → Left
ahead_of (n.Word kind from spelling) l = record {
  words = record { token = record { kind = kind; spelling = spelling.now }; from = from } ∷ l.words;
  fault = l.fault;
}
ahead_of n.End l = record { words = []; fault = None }
ahead_of (n.Fault e) l = record { words = []; fault = Some e }

-- what is left behind the next word, where there is one
abbrev pub behind_first : List Placed → Option WordError → Left
behind_first [] fault = record { words = []; fault = fault }
behind_first (w ∷ ws) fault = record { words = ws; fault = fault }

abbrev pub rest_of : Left → Left
rest_of l = behind_first l.words l.fault

-- what the next word stands for
abbrev pub first_as : {A : Type 0} → (Token → Option A) → List Token → Option A
first_as f [] = None
first_as f (w ∷ ws) = f w

abbrev pub any_word : Token → Bool
any_word w = true

-- the place at which a text of `total` bytes is refused where this is left of its words
abbrev pub place_left : ℕ → List Placed → Option WordError → ℕ
place_left total [] None = total
place_left total [] (Some e) = place_of e
place_left total (w ∷ ws) fault = w.from

-- readers that stop for no other cause than syntax

abbrev pub Read : Type 0 → Type 0
Read A = Outcome (Unit {0}) A

abbrev pub Reads : Type 0 → Type 0
Reads A = Reader (Unit {0}) A

-- what a function that reads gives: the reader's outcome, unless memory fails
abbrev pub Gives : {A : Type 0} → Read A → Result A Fault → Left → Type 0
Gives outcome (Ok a) new = outcome ≡ Ok (a, new)
Gives outcome (Err e) new = e ≢ fault.Memory → outcome ≡ Err (Syntax, new)
