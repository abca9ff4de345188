-- Readers of words, which take the first word as they find it and try nothing twice.
use Rattle.std.specs.Prelude.{ℕ, zero, suc, List, [], ◌∷◌, ◌++◌, Bool, true, false, if◌then◌else◌}
use Rattle.std.specs.Prelude.{length, Option, Some, None, is_some, Result, Ok, Err}
use Rattle.tptp_words.specs.declared.word.WordError.{WordError}
use Rattle.tptp_words.specs.Text.{Token, Placed, tokens}
use Rattle.tptp_words.specs.Scanning.{Left}
use Rattle.tptp_phrases.specs.Phrase.{open_behind}

-- the words that are left, without their places
abbrev pub seen : Left → List Token
seen s = tokens s.words

-- why a reader stops: no word may stand here, or not so deep, or a stray word of a kind stands here
pub data Cause (K : Type 0) : Type 0 where
  Syntax TooDeep : Cause K
  Stray : K → Cause K

-- what was read, or why not, and what is left
abbrev pub Outcome : Type 0 → Type 0 → Type 0
Outcome K A = Result (A × Left) (Cause K × Left)

abbrev pub Reader : Type 0 → Type 0 → Type 0
Reader K A = Left → Outcome K A

abbrev pub and_then : {K A B : Type 0} → Outcome K A → (A → Reader K B) → Outcome K B
and_then (Ok p) f = f p.0 p.1
and_then (Err e) f = Err e

unfoldable pub seq : {K A B : Type 0} → Reader K A → (A → Reader K B) → Reader K B
seq p f = λ s. and_then (p s) f

infixl 10 ◌>>=◌
abbrev pub ◌>>=◌ : {K A B : Type 0} → Reader K A → (A → Reader K B) → Reader K B
p >>= f = seq p f

infixl 10 ◌>>◌
abbrev pub ◌>>◌ : {K A B : Type 0} → Reader K A → Reader K B → Reader K B
p >> q = seq p (λ _. q)

unfoldable pub give : {K A : Type 0} → A → Reader K A
give a = λ s. Ok (a, s)

unfoldable pub refuse : {K A : Type 0} → Reader K A
refuse = λ s. Err (Syntax, s)

-- ---- one word

abbrev pub takes : {A : Type 0} → (Token → Option A) → Token → Bool
takes f w = is_some (f w)

abbrev pub taken : {K A : Type 0} → Placed → List Placed → Option WordError → Option A → Outcome K A
taken w ws fault None = Err (Syntax, record { words = w ∷ ws; fault = fault })
taken w ws fault (Some a) = Ok (a, record { words = ws; fault = fault })

abbrev pub take_from : {K A : Type 0}
    → (Token → Option A) → List Placed → Option WordError → Outcome K A
take_from f [] fault = Err (Syntax, record { words = []; fault = fault })
take_from f (w ∷ ws) fault = taken w ws fault (f w.token)

-- a word that f takes
unfoldable pub take_word : {K A : Type 0} → (Token → Option A) → Reader K A
take_word f s = take_from f s.words s.fault

-- the first word is one that t passes
abbrev pub goes_on : (Token → Bool) → List Token → Bool
goes_on t [] = false
goes_on t (w ∷ ws) = t w

-- by the first word, whether t passes it
unfoldable pub choose : {K A : Type 0} → (Token → Bool) → Reader K A → Reader K A → Reader K A
choose t p q = λ s. if goes_on t (seen s) then p s else q s

-- ---- repetition

-- Items, while a word that t passes stands next. The number bounds the turns, and the count of the
-- words is always enough.
unfoldable pub many_from : {K A : Type 0}
    → (Token → Bool) → Reader K A → ℕ → List A → Reader K (List A)
many_from t p zero found = give found
many_from t p (suc n) found = choose t (do
  a ← p
  many_from t p n (found ++ a ∷ [])) (give found)

-- more items behind those that are found
unfoldable pub many_at : {K A : Type 0}
    → (Token → Bool) → Reader K A → List A → Reader K (List A)
many_at t p found = λ s. many_from t p (length s.words) found s

-- a word that f takes, and what r reads behind it
abbrev pub behind : {K A B : Type 0} → (Token → Option B) → Reader K A → Reader K A
behind f r = take_word f >> r

-- ---- stray words and the limit

abbrev pub cause_of : {K : Type 0} → Option K → Cause K
cause_of None = Syntax
cause_of (Some k) = Stray k

-- no word is astray
abbrev pub no_strays : {K : Type 0} → Token → Option K
no_strays w = None

-- why no word may stand here, where those of a kind are stray
abbrev pub stray_cause : {K : Type 0} → (Token → Option K) → List Token → Cause K
stray_cause kind [] = Syntax
stray_cause kind (w ∷ ws) = cause_of (kind w)

-- where no word may stand but strays
unfoldable pub refuse_stray : {K A : Type 0} → (Token → Option K) → Reader K A
refuse_stray kind = λ s. Err (stray_cause kind (seen s), s)

-- why nothing may stand where the levels are used up
abbrev pub limit_cause : {K : Type 0} → (Token → Bool) → (Token → Option K) → List Token → Cause K
limit_cause opens kind ws = if goes_on opens ws then TooDeep else stray_cause kind ws

-- where nothing may stand, since the levels are used up
unfoldable pub at_limit : {K A : Type 0} → (Token → Bool) → (Token → Option K) → Reader K A
at_limit opens kind = λ s. Err (limit_cause opens kind (seen s), s)

-- the reader of a rule, by how many levels are left and the readers so many levels deeper
abbrev pub RuleReader : Type 0 → Type 0 → Type 0
RuleReader K A = ℕ → (ℕ → Reader K A) → Reader K A

-- the reader k levels below a place that has n levels below it
unfoldable pub levels_at : {K A : Type 0}
    → (Token → Bool) → (Token → Option K) → RuleReader K A → ℕ → ℕ → Reader K A
levels_at opens kind rule zero zero = refuse
levels_at opens kind rule zero (suc k) = at_limit opens kind
levels_at opens kind rule (suc n) zero = refuse
levels_at opens kind rule (suc n) (suc zero) = rule n (levels_at opens kind rule n)
levels_at opens kind rule (suc n) (suc (suc k)) = levels_at opens kind rule n (suc k)

-- ---- any words with brackets that match

abbrev pub enough : {K : Type 0} → ℕ → Bool → Left → Outcome K (Unit {0})
enough zero true s = Ok (tt, s)
enough _ _ s = Err (Syntax, s)

abbrev pub unless_none : {A B : Type 0} → B → (A → B) → Option A → B
unless_none other f None = other
unless_none other f (Some a) = f a

-- the words up to the first that closes a bracket that is not open, or to the last
abbrev pub skip_from : {K : Type 0} → (Token → Bool) → (Token → Bool)
    → ℕ → Bool → List Placed → Option WordError → Outcome K (Unit {0})
skip_from opens closes n some [] fault = enough n some (record { words = []; fault = fault })
skip_from opens closes n some (w ∷ ws) fault =
    unless_none (enough zero some (record { words = w ∷ ws; fault = fault }))
    (λ m. skip_from opens closes m true ws fault)
    (open_behind (opens w.token) (closes w.token) n)

unfoldable pub skip_balanced : {K : Type 0} → (Token → Bool) → (Token → Bool) → Reader K (Unit {0})
skip_balanced opens closes = λ s. skip_from opens closes zero false s.words s.fault
