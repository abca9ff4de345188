-- The words of a formula with its name and role derive an entry.
use Rattle.std.proofs.Common.{◌≡◌, ℕ, inl, inr, List, ◌∷◌, Some, refl}
use Rattle.std.specs.Prelude.{codes}
use Rattle.enc_base.specs.Names.{IsWritable}
use Rattle.fof_models.specs.declared.problem.FofRole.{FofRole}
use Rattle.fof_models.specs.declared.problem.FofRole.TheVariants.{Axiom, NegatedConjecture}
use Rattle.fof_models.specs.declared.problem.FofFormula.{FofFormula}
use Rattle.tptp_words.specs.Text.{Token}
use Rattle.tptp_syntax.specs.declared.language.Language.TheVariants.{Fof}
use Rattle.tptp_syntax.specs.declared.formula.RawFormula.{RawFormula}
use Rattle.tptp_syntax.specs.declared.entry.StatedRole.TheVariants.{Hypothesis}
use Rattle.tptp_syntax.specs.declared.entry.Entry.{Entry}
use Rattle.tptp_syntax.specs.declared.entry.Entry.TheVariants.{Statement}
use Rattle.tptp_syntax.specs.Strays.{role}
use Rattle.tptp_syntax.specs.Grammar.{formula, entry, statement, notes}
use Rattle.tptp_syntax.specs.Files.{strict}
use Rattle.fof_text.specs.Written.{Writer, mark_word, lower_word, label_word, role_name}
use Rattle.fof_text.specs.Written.{entry_words, formula_words}
use Rattle.fof_text.proofs.RawTrees.{raw_formula}
use Rattle.fof_text.proofs.Spelled.{Joins, Joined, text, label_is, done_ends}
use Rattle.fof_text.proofs.Joins.{close_stops}
use Rattle.fof_text.proofs.Derives.{Has, seq, give, take, one}
use Rattle.fof_text.proofs.Writers.{Writes, sign_taken}
use Rattle.fof_text.proofs.Units.{unit_at}

role_says : (r : FofRole) → role (lower_word (role_name r)) ≡ Some Hypothesis
role_says Axiom = refl
role_says NegatedConjecture = refl

role_joined : (r : FofRole) (rest : List Token) → Joined (mark_word (codes ",") ∷ rest)
    → Joined (lower_word (role_name r) ∷ mark_word (codes ",") ∷ rest)
role_joined Axiom rest j = ((refl, (refl, (refl, (refl, (refl, tt))))), refl, j)
role_joined NegatedConjecture rest j = (
  (
    refl,
    (
      refl,
      (
        refl,
        (
          refl,
          (
            refl,
            (
              refl,
              (
                refl,
                (
                  refl,
                  (
                    refl,
                    (
                      refl,
                      (
                        refl,
                        (
                          refl,
                          (
                            refl,
                            (refl, (refl, (refl, (refl, (refl, tt))))),
                          ),
                        ),
                      ),
                    ),
                  ),
                ),
              ),
            ),
          ),
        ),
      ),
    ),
  ),
  refl,
  j,
)

a_formula : (n : ℕ) (w : Writer) (r : RawFormula) → Writes (unit_at n) w r
    → Writes (formula Fof (strict n)) w r
unfolding formula
a_formula n w r h rest = one _ _ (seq _ _ rest r (h rest) (give r rest))

no_notes : (rest : List Token) → Has notes rest rest tt
no_notes rest = one _ _ (give tt rest)

module _ (names : List (List ℕ)) where
  -- the entry that the words of a formula derive
  abbrev pub raw_entry : FofFormula → Entry
  raw_entry f = Statement f.name Hypothesis ((raw_formula names f.body).is 0)

  pub entry_written : (f : FofFormula) → IsWritable f.name → (n : ℕ)
      → Writes (unit_at n) ((formula_words names f.body).is 0) ((raw_formula names f.body).is 0)
      → Writes (entry (strict n)) (entry_words names f) (raw_entry f)
  unfolding entry
  entry_written f h n k rest =
      let tail : List Token = mark_word (codes ")") ∷ mark_word (codes ".") ∷ rest in
      let tree : RawFormula = (raw_formula names f.body).is 0 in
      let stated : Has (statement Fof (strict n) f.name) _ tail (raw_entry f) =
      one _ _
      (seq _ _ _ Hypothesis (take _ (lower_word (role_name f.role)) _ (role_says f.role))
      (seq _ _ _ tt (sign_taken (codes ",") _)
      (seq _ _ tail tree (a_formula n _ tree k tail) (give (raw_entry f) tail)))) in
      one _ _
      (seq _ _ _ Fof (take _ (lower_word (codes "fof")) _ refl)
      (seq _ _ _ tt (sign_taken (codes "(") _)
      (seq _ _ _ f.name (take _ (label_word f.name) _ (label_is f.name h).says)
      (seq _ _ _ tt (sign_taken (codes ",") _)
      (seq _ _ tail (raw_entry f) stated
      (seq _ _ tail tt (no_notes tail)
      (seq _ _ (mark_word (codes ".") ∷ rest) tt (sign_taken (codes ")") _)
      (seq _ _ rest tt (sign_taken (codes ".") rest) (give (raw_entry f) rest)))))))))

  pub entry_joined : (f : FofFormula) → IsWritable f.name
      → Joins ((formula_words names f.body).is 0) → (rest : List Token) → Joined rest
      → Joined (entry_words names f rest)
  entry_joined f h k rest j =
      let end : List Token = mark_word (codes ".") ∷ rest in
      let tail : List Token = mark_word (codes ")") ∷ end in
      let body : List Token = (formula_words names f.body).is 0 tail in
      let stated : List Token = lower_word (role_name f.role) ∷ mark_word (codes ",") ∷ body in
      let named : List Token = label_word f.name ∷ mark_word (codes ",") ∷ stated in
      let end_on : Joined end = (inr (inr (inr (inr (inr (inl refl))))), refl, j) in
      let tail_on : Joined tail = (inr (inl refl), done_ends (text end), end_on) in
      let body_on : Joined body = k.joined tail tail_on (close_stops end) in
      let stated_on : Joined stated =
      role_joined f.role body (inr (inr (inr (inr (inl refl)))), done_ends (text body), body_on) in
      let named_on : Joined named =
      (label_is f.name h).joins.joined (mark_word (codes ",") ∷ stated)
      (inr (inr (inr (inr (inl refl)))), done_ends (text stated), stated_on)
      (record { name = refl; digits = refl; done = refl }) in
      ((refl, (refl, (refl, tt))), refl, (inl refl, done_ends (text named), named_on))
