-- Writers of phrases: what the words of a list, of brackets and of an application derive.
use Rattle.std.proofs.Common.{◌≡◌, ℕ, List, [], ◌∷◌, Some, refl, ap}
use Rattle.std.specs.Prelude.{codes}
use Rattle.tptp_words.specs.Text.{Token}
use Rattle.tptp_words.specs.Words.{only, name}
use Rattle.tptp_phrases.specs.Phrase.{Phrase, ◌>>◌, Row}
use Rattle.tptp_syntax.specs.Grammar.{sign, listed, arguments, application, chain, pair}
use Rattle.fof_text.specs.Written.{Writer, mark_word, more, separated, in_brackets, side_by_side}
use Rattle.fof_text.specs.Written.{applied, name_word}
use Rattle.fof_text.proofs.Places.{same_self}
use Rattle.fof_text.proofs.Derives.{Has, seq, give, take, one, other, rows}

-- the words that the writer puts in front of any words derive the value
abbrev pub Writes : {A : Type 0} → Phrase A → Writer → A → Type 0
Writes p w a = (rest : List Token) → Has p (w rest) rest a

-- each writer writes its value
abbrev pub AllWrite : {A : Type 0} → Phrase A → List Writer → List A → Type 0
AllWrite p [] [] = Unit {0}
AllWrite p [] (a ∷ more) = ⊥
AllWrite p (w ∷ ws) [] = ⊥
AllWrite p (w ∷ ws) (a ∷ more) = Writes p w a × AllWrite p ws more

pub sign_taken : (m : List ℕ) (rest : List Token) → Has (sign m) (mark_word m ∷ rest) rest tt
sign_taken m rest = take _ (mark_word m) rest (ap only (same_self m))

-- m x ... m x
pub row : {A : Type 0} (p : Phrase A) (m : List ℕ) (ws : List Writer) (items : List A)
    → AllWrite p ws items → (rest : List Token)
    → Row (sign m >> p) (more (mark_word m) ws rest) rest items
row p m [] [] h rest = refl
row p m [] (a ∷ items) h rest = absurd h
row p m (w ∷ ws) [] h rest = absurd h
row p m (w ∷ ws) (a ∷ items) h rest =
    let tail : List Token = more (mark_word m) ws rest in
    (tail, (seq _ _ (w tail) tt (sign_taken m (w tail)) (h.0 tail)).it, row p m ws items h.1 rest)

-- x , ... , x
pub list_of : {A : Type 0} (p : Phrase A) (w : Writer) (ws : List Writer) (a : A) (items : List A)
    → AllWrite p (w ∷ ws) (a ∷ items)
    → Writes (listed p) (separated (mark_word (codes ",")) (w ∷ ws)) (a ∷ items)
list_of p w ws a items h rest =
    let tail : List Token = more (mark_word (codes ",")) ws rest in
    seq _ _ tail a (h.0 tail)
    (seq _ _ rest items (rows _ _ rest items (row p (codes ",") ws items h.1 rest))
    (give (a ∷ items) rest))

-- ( x , ... , x )
pub arguments_of : {A : Type 0} (p : Phrase A) (w : Writer) (ws : List Writer) (a : A)
    (items : List A) → AllWrite p (w ∷ ws) (a ∷ items)
    → Writes (arguments p) (in_brackets (separated (mark_word (codes ",")) (w ∷ ws))) (a ∷ items)
arguments_of p w ws a items h rest =
    let tail : List Token = mark_word (codes ")") ∷ rest in
    seq _ _ (separated (mark_word (codes ",")) (w ∷ ws) tail) tt (sign_taken (codes "(") _)
    (seq _ _ tail (a ∷ items) (list_of p w ws a items h tail)
    (seq _ _ rest tt (sign_taken (codes ")") rest) (give (a ∷ items) rest)))

-- n or n ( x , ... , x )
pub application_of : {A T : Type 0} (make : List ℕ → List A → T) (inner : Phrase A) (n : List ℕ)
    → name (name_word n) ≡ Some n → (ws : List Writer) (items : List A) → AllWrite inner ws items
    → Writes (application make inner) (applied n ws) (make n items)
application_of make inner n says [] [] k rest =
    one _ _ (seq _ _ rest n (take _ (name_word n) rest says) (give (make n []) rest))
application_of make inner n says [] (a ∷ items) k rest = absurd k
application_of make inner n says (w ∷ ws) [] k rest = absurd k
application_of make inner n says (w ∷ ws) (a ∷ items) k rest =
    other _ _
    (seq _ _ (in_brackets (separated (mark_word (codes ",")) (w ∷ ws)) rest) n
    (take _ (name_word n) _ says)
    (seq _ _ rest (a ∷ items) (arguments_of inner w ws a items k rest)
    (give (make n (a ∷ items)) rest)))

-- x m ... m x
pub chain_of : {A T : Type 0} (p : Phrase A) (m : List ℕ) (make : List A → T) (w v : Writer)
    (ws : List Writer) (a b : A) (items : List A) → AllWrite p (w ∷ v ∷ ws) (a ∷ b ∷ items)
    → Writes (chain m make p) (separated (mark_word m) (w ∷ v ∷ ws)) (make (a ∷ b ∷ items))
chain_of p m make w v ws a b items h rest =
    let tail : List Token = more (mark_word m) ws rest in
    seq _ _ (mark_word m ∷ v tail) a (h.0 _)
    (seq _ _ (v tail) tt (sign_taken m _)
    (seq _ _ tail b (h.1.0 _)
    (seq _ _ rest items (rows _ _ rest items (row p m ws items h.1.1 rest))
    (give (make (a ∷ b ∷ items)) rest))))

-- x m y
pub pair_of : {A B T : Type 0} (m : List ℕ) (make : A → B → T) (p : Phrase A) (q : Phrase B)
    (w v : Writer) (a : A) (b : B) → Writes p w a → Writes q v b
    → Writes (pair m make p q) (side_by_side m w v) (make a b)
pair_of m make p q w v a b h k rest =
    seq _ _ (mark_word m ∷ v rest) a (h (mark_word m ∷ v rest))
    (seq _ _ (v rest) tt (sign_taken m (v rest))
    (seq _ _ rest b (k rest) (give (make a b) rest)))
