-- Writers of formulas: what the words of each kind of formula derive.
use Rattle.std.proofs.Common.{ℕ, suc, ◌+◌, ◌<◌, List, [], ◌∷◌, refl}
use Rattle.std.specs.Prelude.{◌^◌, codes}
use Rattle.enc_base.specs.Names.{IsWritable}
use Rattle.tptp_words.specs.Text.{Token}
use Rattle.tptp_phrases.specs.Phrase.{Phrase, levels, nested}
use Rattle.tptp_phrases.specs.Phrase as phrase
use Rattle.tptp_syntax.specs.declared.language.Connective.TheVariants.{Implies}
use Rattle.tptp_syntax.specs.declared.language.Language.TheVariants.{Fof}
use Rattle.tptp_syntax.specs.declared.types.Bound.{Bound}
use Rattle.tptp_syntax.specs.declared.term.RawTerm.{RawTerm}
use Rattle.tptp_syntax.specs.declared.formula.RawFormula.{RawFormula}
use Rattle.tptp_syntax.specs.declared.formula.RawFormula.TheVariants as f
use Rattle.tptp_syntax.specs.Grammar.{bound, formula_of, quantified, unit_rule}
use Rattle.tptp_syntax.specs.Files.{strict}
use Rattle.fof_text.specs.Written.{Writer, mark_word, dollar_word, separated, in_brackets}
use Rattle.fof_text.specs.Written.{side_by_side, applied, variable_word, variable_name}
use Rattle.fof_text.specs.Written as written
use Rattle.fof_text.proofs.RawTrees.{untyped}
use Rattle.fof_text.proofs.Spelled.{name_is, variable_is}
use Rattle.fof_text.proofs.Derives.{Has, seq, give, take, one, other}
use Rattle.fof_text.proofs.Writers.{Writes, AllWrite, sign_taken, list_of, application_of, chain_of}
use Rattle.fof_text.proofs.Writers.{pair_of}
use Rattle.fof_text.proofs.Terms.{term_at, argument_at, all_arguments}

-- the phrase of units that have n levels below them
abbrev pub unit_at : ℕ → Phrase RawFormula
unit_at n = nested (unit_rule Fof) (strict n)

-- the phrase of the units one level below
abbrev pub inner_at : ℕ → Phrase RawFormula
inner_at n = phrase.deeper (unit_rule Fof) (strict (suc n)) 1

pub one_down : (n : ℕ) {ws rest : List Token} {a : RawFormula} → Has (unit_at n) ws rest a
    → Has (inner_at n) ws rest a
unfolding levels
one_down n h = h

all_down : (n : ℕ) (ws : List Writer) (rs : List RawFormula) → AllWrite (unit_at n) ws rs
    → AllWrite (inner_at n) ws rs
all_down n [] [] h = tt
all_down n [] (r ∷ rs) h = absurd h
all_down n (w ∷ ws) [] h = absurd h
all_down n (w ∷ ws) (r ∷ rs) h = (λ rest. one_down n (h.0 rest), all_down n ws rs h.1)

-- ---- alternatives of a unit, in the order of the grammar

pub true_unit : (n : ℕ) → Writes (unit_at n) (λ rest. dollar_word (codes "$true") ∷ rest) f.True
true_unit n rest =
    other _ _ (other _ _ (other _ _ (one _ _
    (seq _ _ rest tt (take _ (dollar_word (codes "$true")) rest refl) (give f.True rest)))))

pub false_unit : (n : ℕ)
    → Writes (unit_at n) (λ rest. dollar_word (codes "$false") ∷ rest) f.False
false_unit n rest =
    other _ _ (other _ _ (other _ _ (other _ _ (one _ _
    (seq _ _ rest tt (take _ (dollar_word (codes "$false")) rest refl) (give f.False rest))))))

pub negated_unit : (n : ℕ) (w : Writer) (r : RawFormula) → Writes (unit_at n) w r
    → Writes (unit_at (suc n)) (λ rest. mark_word (codes "~") ∷ w rest) (f.Not r)
negated_unit n w r h rest =
    other _ _ (other _ _ (one _ _
    (seq _ _ (w rest) tt (sign_taken (codes "~") _)
    (seq _ _ rest r (one_down n (h rest)) (give (f.Not r) rest)))))

bracketed_unit : (n : ℕ) (w : Writer) (r : RawFormula) → Writes (formula_of (inner_at n)) w r
    → Writes (unit_at (suc n)) (in_brackets w) r
bracketed_unit n w r h rest =
    other _ _ (other _ _ (other _ _ (other _ _ (other _ _ (one _ _
    (seq _ _ (w (mark_word (codes ")") ∷ rest)) tt (sign_taken (codes "(") _)
    (seq _ _ (mark_word (codes ")") ∷ rest) r (h _)
    (seq _ _ rest tt (sign_taken (codes ")") rest) (give r rest)))))))))

pub atom_unit : (n : ℕ) (name : List ℕ) → IsWritable name → (ws : List Writer)
    (rs : List RawTerm) → AllWrite (term_at n) ws rs
    → Writes (unit_at (suc n)) (applied name ws) (f.Atom name rs)
atom_unit n name h ws rs k rest =
    other _ _ (other _ _ (other _ _ (other _ _ (other _ _ (other _ _ (one _ _
    (application_of f.Atom (argument_at n) name (name_is name h).says ws rs
    (all_arguments n ws rs k) rest)))))))

pub equal_unit : (n : ℕ) (w v : Writer) (s t : RawTerm) → Writes (term_at n) w s
    → Writes (term_at n) v t → Writes (unit_at n) (side_by_side (codes "=") w v) (f.Equal s t)
equal_unit n w v s t h k rest =
    other _ _ (other _ _ (other _ _ (other _ _ (other _ _ (other _ _ (other _ _ (one _ _
    (pair_of (codes "=") f.Equal (term_at n) (term_at n) w v s t h k rest))))))))

pub unequal_unit : (n : ℕ) (w v : Writer) (s t : RawTerm) → Writes (term_at n) w s
    → Writes (term_at n) v t → Writes (unit_at n) (side_by_side (codes "!=") w v) (f.Unequal s t)
unequal_unit n w v s t h k rest =
    other _ _ (other _ _ (other _ _ (other _ _ (other _ _ (other _ _ (other _ _ (other _ _
    (pair_of (codes "!=") f.Unequal (term_at n) (term_at n) w v s t h k rest))))))))

-- ---- formulas in brackets

pub and_unit : (n : ℕ) (w v : Writer) (ws : List Writer) (r s : RawFormula) (rs : List RawFormula)
    → AllWrite (unit_at n) (w ∷ v ∷ ws) (r ∷ s ∷ rs)
    → Writes (unit_at (suc n)) (in_brackets (separated (mark_word (codes "&")) (w ∷ v ∷ ws)))
    (f.And (r ∷ s ∷ rs))
and_unit n w v ws r s rs h =
    bracketed_unit n (separated (mark_word (codes "&")) (w ∷ v ∷ ws)) (f.And (r ∷ s ∷ rs))
    (λ rest. other _ _ (one _ _
    (chain_of _ (codes "&") f.And w v ws r s rs (all_down n (w ∷ v ∷ ws) (r ∷ s ∷ rs) h) rest)))

pub or_unit : (n : ℕ) (w v : Writer) (ws : List Writer) (r s : RawFormula) (rs : List RawFormula)
    → AllWrite (unit_at n) (w ∷ v ∷ ws) (r ∷ s ∷ rs)
    → Writes (unit_at (suc n)) (in_brackets (separated (mark_word (codes "|")) (w ∷ v ∷ ws)))
    (f.Or (r ∷ s ∷ rs))
or_unit n w v ws r s rs h =
    bracketed_unit n (separated (mark_word (codes "|")) (w ∷ v ∷ ws)) (f.Or (r ∷ s ∷ rs))
    (λ rest. other _ _ (other _ _ (one _ _
    (chain_of _ (codes "|") f.Or w v ws r s rs (all_down n (w ∷ v ∷ ws) (r ∷ s ∷ rs) h) rest))))

pub implies_unit : (n : ℕ) (w v : Writer) (r s : RawFormula) → Writes (unit_at n) w r
    → Writes (unit_at n) v s
    → Writes (unit_at (suc n)) (in_brackets (side_by_side (codes "=>") w v)) (f.Implies r s)
implies_unit n w v r s h k =
    bracketed_unit n (side_by_side (codes "=>") w v) (f.Implies r s)
    (λ rest.
    let arrow : Token = mark_word (codes "=>") in
    other _ _ (other _ _ (other _ _
    (seq _ _ (arrow ∷ v rest) r (one_down n (h (arrow ∷ v rest)))
    (seq _ _ (v rest) Implies (take _ arrow (v rest) refl)
    (seq _ _ rest s (one_down n (k rest)) (give (f.Implies r s) rest)))))))

-- ---- quantifiers

quantified_phrase : (n : ℕ) (m : List ℕ) (make : List Bound → RawFormula → RawFormula) (d : ℕ)
    → d < 2 ^ 64 → (body : ℕ → Writer) (r : RawFormula) → Writes (unit_at n) (body (d + 1)) r
    → Writes (quantified m make (bound Fof (strict (suc n)))
    (phrase.deeper (unit_rule Fof) (strict (suc n))))
    (written.quantified m body d) (make (untyped (variable_name d) ∷ []) r)
quantified_phrase n m make d l body r h rest =
    let scope : List Token = body (d + 1) rest in
    let closing : List Token = mark_word (codes "]") ∷ mark_word (codes ":") ∷ scope in
    seq _ _ (mark_word (codes "[") ∷ variable_word d ∷ closing) tt (sign_taken m _)
    (seq _ _ (variable_word d ∷ closing) tt (sign_taken (codes "[") _)
    (seq _ _ closing (untyped (variable_name d) ∷ [])
    (list_of _ (λ rest. variable_word d ∷ rest) [] (untyped (variable_name d)) [] (
      (λ rest. seq _ _ rest (variable_name d)
          (take _ (variable_word d) rest (variable_is d l).says)
          (give (untyped (variable_name d)) rest)),
      tt,
    ) _)
    (seq _ _ (mark_word (codes ":") ∷ scope) tt (sign_taken (codes "]") _)
    (seq _ _ scope tt (sign_taken (codes ":") _)
    (seq _ _ rest r (one_down n (h rest))
    (give (make (untyped (variable_name d) ∷ []) r) rest))))))

pub for_all_unit : (n d : ℕ) → d < 2 ^ 64 → (body : ℕ → Writer) (r : RawFormula)
    → Writes (unit_at n) (body (d + 1)) r
    → Writes (unit_at (suc n)) (written.quantified (codes "!") body d)
    (f.ForAll (untyped (variable_name d) ∷ []) r)
for_all_unit n d l body r h rest =
    one _ _ (quantified_phrase n (codes "!") f.ForAll d l body r h rest)

pub exists_unit : (n d : ℕ) → d < 2 ^ 64 → (body : ℕ → Writer) (r : RawFormula)
    → Writes (unit_at n) (body (d + 1)) r
    → Writes (unit_at (suc n)) (written.quantified (codes "?") body d)
    (f.Exists (untyped (variable_name d) ∷ []) r)
exists_unit n d l body r h rest =
    other _ _ (one _ _ (quantified_phrase n (codes "?") f.Exists d l body r h rest))
