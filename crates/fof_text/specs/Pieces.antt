-- The pieces that the writers put, for their own contracts: none of it need be believed.
use Rattle.std.specs.Prelude.{◌≡◌, ◌<◌, ◌+◌, ℕ, zero, suc, List, [], ◌∷◌, ◌++◌, Option, codes}
use Rattle.enc_base.specs.Pending.{Waiting, Put}
use Rattle.fof_models.specs.declared.formula.Fof.{Fof, size-Fof}
use Rattle.fof_models.specs.declared.formula.Fof.TheVariants as F
use Rattle.fof_models.specs.Sound.{binder_count}
use Rattle.tptp_words.specs.Layout.{written}
use Rattle.fof_text.specs.Written.{Writer, before, after, variable_word, formula_words}

-- the text of the words that a writer puts
abbrev pub part : Writer → List ℕ
part w = written before after (w [])

-- a piece before all but the first of several parts
abbrev pub between : ℕ → List ℕ → List ℕ
between zero piece = []
between (suc n) piece = piece

abbrev pub in_row_from : ℕ → List ℕ → List (List ℕ) → List ℕ
in_row_from n piece [] = []
in_row_from n piece (x ∷ xs) = between n piece ++ (x ++ in_row_from (suc n) piece xs)

-- parts with a piece between each two
abbrev pub in_row : List ℕ → List (List ℕ) → List ℕ
in_row = in_row_from 0

-- a quantifier with the variable of the binder that has d binders around it
abbrev pub binder_text : List ℕ → ℕ → List ℕ
binder_text piece d = (piece ++ part (λ rest. variable_word d ∷ rest)) ++ codes "]: "

-- the formula begins with no quantifier
pub record IsBare (formula : Fof) : Type 0 where
  pub not_all : (body : Fof) → formula ≡ F.ForAll body → ⊥
  pub not_some : (body : Fof) → formula ≡ F.Exists body → ⊥

-- The formula is quantified: its text at any depth begins with this piece and the variable of the
-- binder, and the formula under the quantifier follows.
pub record IsQuantified (formula : Fof) (piece : List ℕ) (body : Fof) : Type 0 where
  pub binders : binder_count formula ≡ binder_count body + 1
  pub smaller : size-Fof body < size-Fof formula
  pub front : (names : List (List ℕ)) (depth : ℕ) → part ((formula_words names formula).is depth)
      ≡ binder_text piece depth ++ part ((formula_words names body).is (depth + 1))

-- The quantifiers that a formula begins with are put: under any names, the text of the formula at
-- this depth is theirs, followed by that of the formula under them.
pub record PutBinders (before after : Waiting) (old new : Option (List ℕ))
    (faults_old faults_new : ℕ) (formula : Fof) (depth : ℕ) (inner : Fof) (under : ℕ) : Type 0 where
  pub piece : List ℕ
  pub put : Put before after old new faults_old faults_new piece
  pub front : (names : List (List ℕ)) → part ((formula_words names formula).is depth)
      ≡ piece ++ part ((formula_words names inner).is under)

-- the same of a sink, by what it tells of its bytes and faults
abbrev pub PutsBinders : {S : Type 0} → (S → Option (List ℕ)) → (S → ℕ) → Waiting → Waiting → S → S
    → Fof → ℕ → Fof → ℕ → Type 0
PutsBinders bytes faults before after old new formula depth inner under =
    PutBinders before after (bytes old) (bytes new) (faults old) (faults new) formula depth inner
    under
