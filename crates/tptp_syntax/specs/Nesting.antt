-- The nesting of a word, counted over the words alone: the round brackets of its entry that are
-- open before it, without the entry's own, and the `~` and quantified variables in whose scope it
-- stands. The scope of a `~` is the unit after it. That of a quantified variable is the unit or
-- type behind the colon that follows the `]` of its list, and nothing inside the list.
use Rattle.std.specs.Prelude.{◌≡◌, ℕ, zero, suc, ◌+◌, ◌≤◌, ◌<◌, ◌↔◌, Bool, false, ◌||◌}
use Rattle.std.specs.Prelude.{◌==◌, if◌then◌else◌, List, [], ◌∷◌, ◌++◌, Option, Some, None, is_some}
use Rattle.std.specs.Prelude.{codes, take, refl}
use Rattle.tptp_words.specs.declared.word.WordKind.TheVariants as kind
use Rattle.tptp_words.specs.Text.{Token, Placed, tokens}
use Rattle.tptp_words.specs.Words.{mark}
use Rattle.tptp_syntax.specs.declared.entry.File.{File}
use Rattle.tptp_syntax.specs.Strays.{connective}
use Rattle.tptp_syntax.specs.declared.error.ReadError.TheVariants as r
use Rattle.tptp_syntax.specs.Files.{DeriveWithin, Derive, BeginWithin, Begin, IsRefused}
use Rattle.tptp_syntax.specs.Files.{most_nesting}

-- ---- what is open before a word

-- the round bracket of an entry, another round one, and one of a list of variables
pub data Bracket : Type 0 where
  OfEntry Round Square : Bracket

-- A bracket that is open, and what stands directly inside it, in no bracket opened later.
pub record Open : Type 0 where
  pub bracket : Bracket
  -- how many commas
  pub commas : ℕ
  -- of a list of variables that is closed, as long as no colon stands behind it: how many they are
  pub listed : Option ℕ
  -- how many `~` and quantified variables whose scope is open
  pub scopes : ℕ

-- a place between words
pub data Place : Type 0 where
  -- between entries, or before the bracket of one
  Outside : Place
  -- where these brackets are open, the innermost first
  Inside : Open → List Open → Place
  -- in notes, where so many brackets of the notes are open
  InNotes : ℕ → Place

-- a round bracket counts, unless it is the entry's own
abbrev pub counted : Bracket → ℕ
counted OfEntry = 0
counted Round = 1
counted Square = 0

-- the open round brackets and the open scopes
abbrev pub count : List Open → ℕ
count [] = 0
count (o ∷ os) = counted o.bracket + o.scopes + count os

-- how deep the place is nested; words of notes have nesting 0
abbrev pub nested_at : Place → ℕ
nested_at Outside = 0
nested_at (Inside o os) = count (o ∷ os)
nested_at (InNotes n) = 0

-- ---- a word

-- whether the word is this mark
abbrev pub is_mark : List ℕ → Token → Bool
is_mark m w = is_some (mark m w)

-- A unit or type ends before the first word directly inside the same bracket that is a connective
-- between units or a comma, or that closes the bracket.
abbrev pub ends_scopes : Token → Bool
ends_scopes w =
    is_some (connective w) || is_mark (codes "&") w || is_mark (codes "|") w
    || is_mark (codes ",") w || is_mark (codes ")") w || is_mark (codes "]") w

-- the place at a word: the scopes that it ends are open no more
abbrev pub at_word : Token → Place → Place
at_word w (Inside o os) = Inside (if ends_scopes w then record o { scopes = 0 } else o) os
at_word w place = place

-- the nesting of a word at a place
abbrev pub nesting_at : Place → Token → ℕ
nesting_at place w = nested_at (at_word w place)

-- ---- the place behind a word

-- a bracket behind which nothing stands yet
abbrev pub opened : Bracket → Open
opened b = record { bracket = b; commas = 0; listed = None; scopes = 0 }

-- behind `(`
abbrev pub open_round : Place → Place
open_round Outside = Inside (opened OfEntry) []
open_round (Inside o os) = Inside (opened Round) (o ∷ os)
open_round (InNotes n) = InNotes (suc n)

-- behind `)`
abbrev pub close_round : Place → Place
close_round Outside = Outside
close_round (Inside o []) = Outside
close_round (Inside o (outer ∷ os)) = Inside outer os
close_round (InNotes zero) = Outside
close_round (InNotes (suc n)) = InNotes n

-- behind `[`
abbrev pub open_list : Place → Place
open_list (Inside o os) = Inside (opened Square) (o ∷ os)
open_list place = place

-- behind `]`: the list has one variable more than commas
abbrev pub close_list : Place → Place
close_list (Inside o (outer ∷ os)) = Inside (record outer { listed = Some (suc o.commas) }) os
close_list place = place

-- the third comma directly inside an entry's bracket opens its notes
abbrev pub opens_notes : Bracket → ℕ → Bool
opens_notes OfEntry commas = commas == 2
opens_notes b commas = false

-- behind `,`
abbrev pub behind_comma : Place → Place
behind_comma (Inside o os) =
    if opens_notes o.bracket o.commas then InNotes 0
    else Inside (record o { commas = suc o.commas }) os
behind_comma place = place

-- where the list before the colon has n variables, the scopes of n more are open
abbrev pub open_scopes : Open → Option ℕ → Open
open_scopes o None = o
open_scopes o (Some n) = record o { listed = None; scopes = o.scopes + n }

-- behind `:`, which opens the scope of the variables where a list of them stands before it
abbrev pub behind_colon : Place → Place
behind_colon (Inside o os) = Inside (open_scopes o o.listed) os
behind_colon place = place

-- behind `~`, which opens its scope
abbrev pub behind_negation : Place → Place
behind_negation (Inside o os) = Inside (record o { scopes = suc o.scopes }) os
behind_negation place = place

-- behind this word, where the place is that at the word
abbrev pub behind_mark : Token → Place → Place
behind_mark w place =
    if is_mark (codes "(") w then open_round place
    else if is_mark (codes ")") w then close_round place
    else if is_mark (codes "[") w then open_list place
    else if is_mark (codes "]") w then close_list place
    else if is_mark (codes ",") w then behind_comma place
    else if is_mark (codes ":") w then behind_colon place
    else if is_mark (codes "~") w then behind_negation place
    else place

-- the place behind a word at a place
abbrev pub behind : Place → Token → Place
behind place w = behind_mark w (at_word w place)

-- the place behind words
abbrev pub behind_all : Place → List Token → Place
behind_all place [] = place
behind_all place (w ∷ ws) = behind_all (behind place w) ws

-- ---- the nesting

-- the nesting of a word behind these words of a text
abbrev pub nesting : List Token → Token → ℕ
nesting front w = nesting_at (behind_all Outside front) w

-- no word of a text nests deeper than n
abbrev pub NoneDeeper : ℕ → List Token → Type 0
NoneDeeper n ws =
    (front : List Token) (w : Token) (after : List Token) → ws ≡ front ++ (w ∷ after)
    → nesting front w ≤ n

-- no word before `rest` nests deeper than n
abbrev pub NoneDeeperBefore : ℕ → List Token → List Token → Type 0
NoneDeeperBefore n ws rest = (front : List Token) → ws ≡ front ++ rest → NoneDeeper n front

-- ---- laws

-- words derive a file within a depth exactly where they derive it and no word nests deeper
abbrev pub DerivingNests : Type 0
DerivingNests =
    (n : ℕ) (ws : List Token) (f : File) → DeriveWithin n ws f ↔ Derive ws f × NoneDeeper n ws

-- words begin a file within a depth exactly where they begin one and none of them nests deeper
abbrev pub BeginningNests : Type 0
BeginningNests =
    (n : ℕ) (ws rest : List Token)
    → BeginWithin n ws rest ↔ Begin ws rest × NoneDeeperBefore n ws rest

-- Where words begin a file within a depth, and begin one with the next word too, they do so within
-- the depth exactly where that word nests no deeper.
abbrev pub NextWordNests : Type 0
NextWordNests =
    (n : ℕ) (front : List Token) (next : Token) (rest : List Token)
    → BeginWithin n (front ++ next ∷ rest) (next ∷ rest) → Begin (front ++ next ∷ rest) rest
    → BeginWithin n (front ++ next ∷ rest) rest ↔ nesting front next ≤ n

-- the word at this place is refused, and it nests deeper than n
pub record IsTooDeep (n : ℕ) (front rest : List Placed) (at : ℕ) : Type 0 where
  pub next : Placed
  pub after : List Placed
  pub is : rest ≡ next ∷ after
  pub from : next.from ≡ at
  pub deeper : n < nesting (tokens front) next.token

-- a text that is refused as too deep is refused at a word that nests deeper than the limit
abbrev pub DeepWordsAreRefused : Type 0
DeepWordsAreRefused =
    (text : List ℕ) (at : ℕ) (refused : IsRefused text (r.TooDeep at))
    → IsTooDeep most_nesting refused.front refused.rest at

-- ---- worked rows

abbrev a_mark : List ℕ → Token
a_mark m = record { kind = kind.Mark; spelling = m }

abbrev a_lower : List ℕ → Token
a_lower s = record { kind = kind.Lower; spelling = s }

abbrev an_upper : List ℕ → Token
an_upper s = record { kind = kind.Upper; spelling = s }

-- fof ( a , axiom , ~ ! [ X , Y ] :
abbrev a_front : List Token
a_front =
    a_lower (codes "fof") ∷ a_mark (codes "(") ∷ a_lower (codes "a") ∷ a_mark (codes ",")
    ∷ a_lower (codes "axiom") ∷ a_mark (codes ",") ∷ a_mark (codes "~") ∷ a_mark (codes "!")
    ∷ a_mark (codes "[") ∷ an_upper (codes "X") ∷ a_mark (codes ",") ∷ an_upper (codes "Y")
    ∷ a_mark (codes "]") ∷ a_mark (codes ":") ∷ []

-- ( p & q
abbrev a_scope : List Token
a_scope =
    a_mark (codes "(") ∷ a_lower (codes "p") ∷ a_mark (codes "&") ∷ a_lower (codes "q") ∷ []

-- the list of variables stands in the scope of `~` alone
pub in_the_list : nesting (take 9 a_front) (an_upper (codes "X")) ≡ 1
in_the_list = refl

-- `~`, two variables and a bracket
pub in_the_scope : nesting (a_front ++ a_mark (codes "(") ∷ []) (a_lower (codes "p")) ≡ 4
in_the_scope = refl

-- the closing bracket stands in the bracket that it closes
pub at_the_end : nesting (a_front ++ a_scope) (a_mark (codes ")")) ≡ 4
at_the_end = refl

-- behind the bracket both scopes end at the connective
pub behind_the_scope :
    nesting (a_front ++ a_scope ++ a_mark (codes ")") ∷ []) (a_mark (codes "=>")) ≡ 0
behind_the_scope = refl

-- ) , ~ where the comma opens the notes
abbrev a_note : List Token
a_note = a_mark (codes ")") ∷ a_mark (codes ",") ∷ a_mark (codes "~") ∷ []

pub in_notes : nesting (a_front ++ a_scope ++ a_note) (a_lower (codes "p")) ≡ 0
in_notes = refl
