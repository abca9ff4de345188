-- What the code sends for formulas with their names.
use Rattle.std.proofs.Common.{◌≡◌, ◌+◌, ◌<◌, ℕ, List, [], ◌∷◌, ◌++◌, length, take, refl, sym, ap}
use Rattle.std.proofs.Common.{◌∙◌, append_assoc}
use Rattle.std.specs.Prelude.{codes, get_or}
use Rattle.std.proofs.lemmas.List.{take_more}
use Rattle.fof_models.specs.declared.problem.FofFormula.{FofFormula}
use Rattle.fof_models.specs.declared.problem.FofProblem.{FofProblem}
use Rattle.tptp_words.specs.Text.{Token}
use Rattle.fof_text.specs.Written.{Writer, mark_word, lower_word, label_word, role_name}
use Rattle.fof_text.specs.Written.{entry_words, problem_words, formula_words, text_of}
use Rattle.fof_text.specs.Pieces.{part}
use Rattle.fof_text.proofs.Spelled.{text}
use Rattle.fof_text.proofs.Splits.{Splits, word_splits, word_then, then_splits}
use Rattle.fof_text.proofs.WrittenSplits.{formulas_split}

module _ (names : List (List ℕ)) where
  entry_splits : (f : FofFormula) → Splits (entry_words names f)
  entry_splits f =
      let end : Writer = λ rest. mark_word (codes ")") ∷ mark_word (codes ".") ∷ rest in
      word_then (lower_word (codes "fof")) _
      (word_then (mark_word (codes "(")) _
      (word_then (label_word f.name) _
      (word_then (mark_word (codes ",")) _
      (word_then (lower_word (role_name f.role)) _
      (word_then (mark_word (codes ",")) _
      (then_splits ((formula_words names f.body).is 0) end ((formulas_split names f.body).is 0)
      (word_then (mark_word (codes ")")) _ (word_splits (mark_word (codes "."))))))))))

  pub entry_part : (f : FofFormula) → part (entry_words names f)
      ≡ (((((codes "fof(" ++ part
      (λ rest. label_word f.name ∷ rest)) ++ codes ",") ++ role_name f.role)
      ++ codes ",") ++ part ((formula_words names f.body).is 0)) ++ codes ").\n"
  entry_part f =
      let label = part (λ rest. label_word f.name ∷ rest) in
      let body = part ((formula_words names f.body).is 0) in
      let role = role_name f.role in
      let start = codes "fof(" in
      let comma = codes "," in
      let end = codes ").\n" in
      let closing : List Token = mark_word (codes ")") ∷ mark_word (codes ".") ∷ [] in
      ap (λ z. start ++ z)
      ((word_splits (label_word f.name)).at (mark_word (codes ",") ∷ lower_word role
      ∷ mark_word (codes ",") ∷ (formula_words names f.body).is 0 closing)
      ∙ ap (λ z. label ++ (comma ++ (role ++ (comma ++ z))))
      (((formulas_split names f.body).is 0).at closing))
      ∙ sym (append_assoc ((((start ++ label) ++ comma) ++ role) ++ comma) body end
      ∙ append_assoc (((start ++ label) ++ comma) ++ role) comma (body ++ end)
      ∙ append_assoc ((start ++ label) ++ comma) role (comma ++ (body ++ end))
      ∙ append_assoc (start ++ label) comma (role ++ (comma ++ (body ++ end)))
      ∙ append_assoc start label (comma ++ (role ++ (comma ++ (body ++ end)))))

  last_entry : (fs : List FofFormula) (f : FofFormula)
      → text (problem_words names (fs ++ f ∷ []))
      ≡ text (problem_words names fs) ++ part (entry_words names f)
  last_entry [] f = refl
  last_entry (x ∷ fs) f =
      (entry_splits x).at (problem_words names (fs ++ f ∷ []))
      ∙ ap (λ z. part (entry_words names x) ++ z) (last_entry fs f)
      ∙ sym (append_assoc (part (entry_words names x)) (text (problem_words names fs))
      (part (entry_words names f)))
      ∙ ap (λ z. z ++ part (entry_words names f))
      (sym ((entry_splits x).at (problem_words names fs)))

  pub entry_next : (fs : List FofFormula) (i : ℕ) (f : FofFormula) → i < length fs
      → f ≡ get_or fs i f → text (problem_words names (take (i + 1) fs))
      ≡ text (problem_words names (take i fs)) ++ part (entry_words names f)
  entry_next fs i f l e =
      ap (λ z. text (problem_words names z))
      (take_more fs i f l ∙ ap (λ z. take i fs ++ z ∷ []) (sym e))
      ∙ last_entry (take i fs) f

  pub whole_text : (p : FofProblem) → text (problem_words names p.formulas) ≡ text_of names p
  unfolding text_of
  whole_text p = refl
