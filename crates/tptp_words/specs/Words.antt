-- What a word stands for, where a word of some kind is wanted.
use Rattle.std.specs.Prelude.{ℕ, Bool, true, false, ◌==◌, if◌then◌else◌, List, [], ◌∷◌, Option}
use Rattle.std.specs.Prelude.{Some, None}
use Rattle.std.specs.Char.{is_ascii_digit}
use Rattle.std.specs.List.{list_all}
use Rattle.tptp_words.specs.declared.word.WordKind.{WordKind}
use Rattle.tptp_words.specs.declared.word.WordKind.TheVariants.{Lower, Upper, Quoted}
use Rattle.tptp_words.specs.declared.word.WordKind.TheVariants.{Dollar, Number, Mark}
use Rattle.tptp_words.specs.Text.{Token, backslash}

-- whether two texts are the same bytes
abbrev pub same : List ℕ → List ℕ → Bool
same [] [] = true
same [] (b ∷ bs) = false
same (a ∷ as') [] = false
same (a ∷ as') (b ∷ bs) = if a == b then same as' bs else false

-- something exactly where the test passes
abbrev pub only : Bool → Option (Unit {0})
only true = Some tt
only false = None

-- ---- quoted text

-- the content up to the closing quote; after a backslash the next byte stands for itself
abbrev pub unescaped : ℕ → Bool → List ℕ → List ℕ
unescaped quote after_backslash [] = []
unescaped quote true (b ∷ bs) = b ∷ unescaped quote false bs
unescaped quote false (b ∷ bs) =
    if b == backslash then unescaped quote true bs
    else if b == quote then []
    else b ∷ unescaped quote false bs

-- the content of the spelling of quoted text, which its first byte opens
abbrev pub content : List ℕ → List ℕ
content [] = []
content (quote ∷ bs) = unescaped quote false bs

-- ---- names and variables

-- the name that a word of this kind and spelling stands for
abbrev pub name_of : WordKind → List ℕ → Option (List ℕ)
name_of Lower s = Some s
name_of Quoted s = Some (content s)
name_of _ s = None

-- a name: a Lower word, or the content of a Quoted one
abbrev pub name : Token → Option (List ℕ)
name w = name_of w.kind w.spelling

-- the variable that a word of this kind and spelling stands for
abbrev pub variable_of : WordKind → List ℕ → Option (List ℕ)
variable_of Upper s = Some s
variable_of _ s = None

-- a variable: an Upper word
abbrev pub variable : Token → Option (List ℕ)
variable w = variable_of w.kind w.spelling

-- the digits that a word of this kind and spelling is
abbrev pub digits_of : WordKind → List ℕ → Option (List ℕ)
digits_of Number s = if list_all is_ascii_digit s then Some s else None
digits_of _ s = None

-- digits: a Number of digits alone
abbrev pub digits : Token → Option (List ℕ)
digits w = digits_of w.kind w.spelling

-- ---- fixed words

-- whether a word of this kind and spelling is the mark
abbrev pub mark_of : List ℕ → WordKind → List ℕ → Option (Unit {0})
mark_of m Mark s = only (same s m)
mark_of m _ s = None

-- this mark
abbrev pub mark : List ℕ → Token → Option (Unit {0})
mark m w = mark_of m w.kind w.spelling

-- whether a word of this kind and spelling is the Lower word
abbrev pub keyword_of : List ℕ → WordKind → List ℕ → Option (Unit {0})
keyword_of m Lower s = only (same s m)
keyword_of m _ s = None

-- this Lower word, not quoted
abbrev pub keyword : List ℕ → Token → Option (Unit {0})
keyword m w = keyword_of m w.kind w.spelling

-- whether a word of this kind and spelling is the Dollar word
abbrev pub dollar_of : List ℕ → WordKind → List ℕ → Option (Unit {0})
dollar_of m Dollar s = only (same s m)
dollar_of m _ s = None

-- this Dollar word
abbrev pub dollar : List ℕ → Token → Option (Unit {0})
dollar m w = dollar_of m w.kind w.spelling
