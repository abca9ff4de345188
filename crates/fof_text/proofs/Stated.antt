-- The text of a problem states the problem.
use Rattle.std.proofs.Common.{◌≡◌, ◌+◌, ℕ, List, [], ◌∷◌, ◌++◌, length, map, None, refl, sym, ap}
use Rattle.std.proofs.Common.{subst, arith, append_assoc}
use Rattle.std.specs.List.{AllByRecursion}
use Rattle.std.proofs.Math.Nat.{le_refl}
use Rattle.enc_base.specs.Names.{IsWritable}
use Rattle.fof_models.specs.declared.problem.FofSymbol.{FofSymbol}
use Rattle.fof_models.specs.declared.problem.FofFormula.{FofFormula}
use Rattle.fof_models.specs.Sound.{IsSoundFormula}
use Rattle.tptp_words.specs.Text.{Token, Placed, tokens, place, IsText, comment, AllPass, not_feed}
use Rattle.tptp_words.specs.Text.{percent, line_feed}
use Rattle.tptp_words.specs.Layout.{placed_from}
use Rattle.tptp_words.proofs.ReadBack as back
use Rattle.tptp_phrases.specs.Phrase.{Row}
use Rattle.tptp_syntax.specs.declared.entry.Entry.{Entry}
use Rattle.tptp_syntax.specs.Grammar.{entry, file}
use Rattle.tptp_syntax.specs.Files.{strict, DeriveWithin, Derive}
use Rattle.fof_text.specs.Names.{AllDiffer}
use Rattle.fof_text.specs.Written.{comment_line, problem_words, formula_words, before, after}
use Rattle.fof_text.specs.Written.{text_of}
use Rattle.fof_text.specs.States.{StandFor}
use Rattle.fof_text.specs.Laws.{TextStatesItsProblem, CommentsChangeNothing}
use Rattle.fof_text.proofs.RawTrees.{raw_formula}
use Rattle.fof_text.proofs.Spelled.{blank_before, blank_after, Joined}
use Rattle.fof_text.proofs.Derives.{Eventually, always, both, weaker, seq, give, rows}
use Rattle.fof_text.proofs.Formulas.{FormulaReads, formulas_read}
use Rattle.fof_text.proofs.Entries.{raw_entry, entry_written, entry_joined}

module _ (names : List (List ℕ)) (g : List FofSymbol) (one_each : length names ≡ length g)
    (differ : AllDiffer names) (writable : AllByRecursion IsWritable names) where
  abbrev AreSound : List FofFormula → Type 0
  AreSound fs = AllByRecursion (IsSoundFormula g) fs

  abbrev AreWritable : List FofFormula → Type 0
  AreWritable fs = AllByRecursion (λ (f : FofFormula). IsWritable f.name) fs

  reads_of : (f : FofFormula) → IsSoundFormula g f
      → FormulaReads names g one_each differ writable 0 f.body
      ((formula_words names f.body).is 0) ((raw_formula names f.body).is 0)
  reads_of f s =
      let few = s.binders in
      (formulas_read names g one_each differ writable f.body 0 (omega arith) s.typed s.pairs).0

  all_joined : (fs : List FofFormula) → AreSound fs → AreWritable fs
      → Joined (problem_words names fs)
  all_joined [] s h = tt
  all_joined (f ∷ fs) s h =
      entry_joined names f h.0 (reads_of f s.0).joins (problem_words names fs)
      (all_joined fs s.1 h.1)

  all_written : (fs : List FofFormula) → AreSound fs → AreWritable fs
      → Eventually (λ n. Row (entry (strict n)) (problem_words names fs) []
      (map (raw_entry names) fs))
  all_written [] s h = always _ (λ n. refl)
  all_written (f ∷ fs) s h =
      weaker
      (λ n k. (
        problem_words names fs,
        (entry_written names f h.0 n k.0 (problem_words names fs)).it,
        k.1,
      ))
      (both (reads_of f s.0).writes (all_written fs s.1 h.1))

  all_stand : (fs : List FofFormula) → AreSound fs → StandFor names (map (raw_entry names) fs) fs
  all_stand [] s = tt
  all_stand (f ∷ fs) s = ((refl, refl, (reads_of f s.0).meant), all_stand fs s.1)

as_file : (n : ℕ) (ws : List Token) (es : List Entry) → Row (entry (strict n)) ws [] es
    → DeriveWithin n ws (record { entries = es })
unfolding file
as_file n ws es h =
    (seq _ _ [] es (rows (entry (strict n)) ws [] es h) (give (record { entries = es }) [])).it

tokens-placed : (at : ℕ) (ws : List Token) → tokens (placed_from before after at ws) ≡ ws
tokens-placed at [] = refl
tokens-placed at (w ∷ ws) =
    ap (λ z. w ∷ z)
    (tokens-placed (at + length (before w) + length w.spelling + length (after w)) ws)

pub states : TextStatesItsProblem
unfolding text_of
states names p s h =
    let g = p.signature in
    let derived = all_written names g h.one_each h.differ h.symbols p.formulas s.formulas h.formulas in
    let words : List Token = problem_words names p.formulas in
    let entries : List Entry = map (raw_entry names) p.formulas in
    let joined : Joined words =
    all_joined names g h.one_each h.differ h.symbols p.formulas s.formulas h.formulas in
    let placed : List Placed = placed_from before after 0 words in
    let same : tokens placed ≡ words = tokens-placed 0 words in
    let read : IsText (length (text_of names p)) (text_of names p) placed None =
    back.reads before after blank_before blank_after (length (text_of names p)) 0 words joined
    (omega arith) in
    let derives : Derive words (record { entries = entries }) = (
      derived.depth,
      as_file derived.depth words entries
          (derived.holds derived.depth (le_refl derived.depth)),
    ) in
    record {
      sound = s;
      file = record { entries = entries };
      spelled = (
        placed,
        read,
        subst (λ ws. Derive ws (record { entries = entries }))
            (sym same) derives,
      );
      names = names;
      one_each = h.one_each;
      differ = h.differ;
      stands = all_stand names g h.one_each h.differ h.symbols p.formulas s.formulas;
    }

-- ---- a comment in front

-- the words of a text have places in a longer one
placed_again : (total other : ℕ) (text : List ℕ) (ws : List Placed) → IsText total text ws None
    → (vs : List Placed) × (tokens vs ≡ tokens ws) × IsText other text vs None
placed_again total other text [] h = ([], refl, h)
placed_again total other text (w ∷ ws) (start, rest, gap, longest, from, more) =
    let again = placed_again total other rest ws more in (
      record { token = w.token; from = place other start } ∷ again.0,
      ap (λ z. w.token ∷ z) again.1,
      (start, rest, gap, longest, refl, again.2),
    )

comment_first : (body : List ℕ) (total : ℕ) (text : List ℕ) (ws : List Placed)
    → AllPass not_feed body → IsText total text ws None
    → IsText total (percent ∷ (body ++ line_feed ∷ text)) ws None
comment_first body total text [] h (start, gap, stop) = (start, comment body h gap, stop)
comment_first body total text (w ∷ ws) h (start, rest, gap, longest, from, others) =
    (start, rest, comment body h gap, longest, from, others)

pub comments_change_nothing : CommentsChangeNothing
comments_change_nothing body text p h s =
    let whole : List ℕ = comment_line body ++ text in
    let again = placed_again (length text) (length whole) text s.spelled.0 s.spelled.1 in
    record {
      sound = s.sound;
      file = s.file;
      spelled = (
        again.0,
        subst (λ t. IsText (length whole) t again.0 None) (line_is body text)
            (comment_first body (length whole) text again.0 h again.2),
        subst (λ ws. Derive ws s.file) (sym again.1) s.spelled.2,
      );
      names = s.names;
      one_each = s.one_each;
      differ = s.differ;
      stands = s.stands;
    }
  where
    line_is : (body text : List ℕ)
        → percent ∷ (body ++ line_feed ∷ text) ≡ comment_line body ++ text
    line_is body text = ap (λ z. percent ∷ z) (sym (append_assoc body (line_feed ∷ []) text))
