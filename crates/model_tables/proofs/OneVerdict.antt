-- A text has at most one verdict: what is said of it is what the reading of its words answers.
use Rattle.std.proofs.Common.{◌≡◌, ℕ, ◌+◌, ◌≤◌, ◌<◌, List, [], ◌∷◌, ◌++◌, length, map, Option, Some, None}
use Rattle.std.proofs.Common.{Ok, Err, Result, refl, sym, ap, ◌∙◌, subst, inl, inr, ◌⊎◌, arith, append-nil}
use Rattle.std.proofs.Common.{length-append}
use Rattle.std.proofs.lemmas.List.{append_cancel_right, map-append, length-map}
use Rattle.tptp_words.specs.declared.word.WordError.{WordError}
use Rattle.tptp_words.specs.Text.{Token, Placed, tokens, IsText}
use Rattle.tptp_words.proofs.OneText.{one_text}
use Rattle.model_tables.specs.declared.error.TableError.{TableError}
use Rattle.model_tables.specs.declared.error.TableError.TheVariants as e
use Rattle.model_tables.specs.Grammar.{Table, table}
use Rattle.model_tables.specs.Places.{Place}
use Rattle.model_tables.specs.Faults.{Asked, faults, first_missing}
use Rattle.model_tables.specs.Refusals.{FaultAt, IsClean, IsCleanBefore, Begin, Derive, StopsAt}
use Rattle.model_tables.specs.Refusals.{IsRefused, Says, Verdict, place_of}
use Rattle.model_tables.specs.Steps.{State, Start, Stands, step, run, bind, table_at, faults_at}
use Rattle.model_tables.specs.Steps.{unless_missing, answer_at_end, unless_fault, answer_behind}
use Rattle.model_tables.specs.Steps.{answer_from}
use Rattle.model_tables.proofs.Runs.{Run}
use Rattle.model_tables.proofs.Complete.{reached_runs, derived_runs, begun_runs}
use Rattle.model_tables.proofs.Said.{Said, more_said, said_begins}
use Rattle.model_tables.proofs.Verdicts.{said_run, table_said, derived_at}

module _ (asked : Asked) (total : ℕ) (error : Option WordError) (ws : List Token) where
  no_fault : (s : State) (mid rest : List Token) → Said asked.form ws mid s
      → IsClean asked ws rest → length rest ≤ length mid → faults_at asked s ≡ []
  no_fault (Stands place) mid rest said clean long = clean mid place said long
  no_fault _ mid rest said clean long = refl

  no_fault_before : (s : State) (mid rest : List Token) → Said asked.form ws mid s
      → IsCleanBefore asked ws rest → length rest < length mid → faults_at asked s ≡ []
  no_fault_before (Stands place) mid rest said clean long = clean mid place said long
  no_fault_before _ mid rest said clean long = refl

  words_behind : (front rest : List Placed) → length (tokens rest) ≤ length (tokens (front ++ rest))
  words_behind front rest =
      let all : length (tokens (front ++ rest)) ≡ length (tokens front) + length (tokens rest) =
      ap length (map-append (λ (p : Placed). p.token) front rest)
      ∙ length-append (tokens front) (tokens rest) in
      omega arith

  -- behind words without a fault the answer is that from their state on
  clean_answer : (front rest : List Placed) (s t : State)
      → Said asked.form ws (tokens (front ++ rest)) s → run asked.form s (tokens front) ≡ Some t
      → IsClean asked ws (tokens rest)
      → answer_from asked total s (front ++ rest) error ≡ answer_from asked total t rest error
  clean_answer [] rest s t said runs clean =
      let same : s ≡ t = cc in ap (λ z. answer_from asked total z rest error) same
  clean_answer (w ∷ front) rest s t said runs clean =
      by (step asked.form s w.token) refl runs (λ u. clean_answer front rest u t)
    where
      by : (o : Option State) → step asked.form s w.token ≡ o
          → bind o (λ u. run asked.form u (tokens front)) ≡ Some t
          → ((u : State) → Said asked.form ws (tokens (front ++ rest)) u
          → run asked.form u (tokens front) ≡ Some t → IsClean asked ws (tokens rest)
          → answer_from asked total u (front ++ rest) error ≡ answer_from asked total t rest error)
          → answer_behind asked w.from o (λ u. answer_from asked total u (front ++ rest) error)
          ≡ answer_from asked total t rest error
      by None steps same next = cc
      by (Some u) steps same next =
          let more = more_said asked.form ws w.token (tokens (front ++ rest)) s u said steps in
          ap (λ fs. unless_fault fs (answer_from asked total u (front ++ rest) error))
          (no_fault u (tokens (front ++ rest)) (tokens rest) more clean (words_behind front rest))
          ∙ next u more same clean

  -- and it is the first fault behind which none stands
  faulty_answer : (w : Placed) (front rest : List Placed) (s : State) (place : Place)
      (fault : TableError) (more : List TableError)
      → Said asked.form ws (tokens (w ∷ front ++ rest)) s
      → run asked.form s (tokens (w ∷ front)) ≡ Some (Stands place)
      → IsCleanBefore asked ws (tokens rest) → faults asked place ≡ fault ∷ more
      → answer_from asked total s (w ∷ front ++ rest) error ≡ Err fault
  faulty_answer w [] rest s place fault more said runs clean is =
      by (step asked.form s w.token) refl runs
    where
      by : (o : Option State) → step asked.form s w.token ≡ o
          → bind o (λ u. run asked.form u []) ≡ Some (Stands place)
          → answer_behind asked w.from o (λ u. answer_from asked total u rest error) ≡ Err fault
      by None steps same = cc
      by (Some u) steps same =
          let at : u ≡ Stands place = cc in
          ap (λ fs. unless_fault fs (answer_from asked total u rest error))
          (ap (faults_at asked) at ∙ is)
  faulty_answer w (v ∷ front) rest s place fault more said runs clean is =
      by (step asked.form s w.token) refl runs (λ u. faulty_answer v front rest u place fault more)
    where
      by : (o : Option State) → step asked.form s w.token ≡ o
          → bind o (λ u. run asked.form u (tokens (v ∷ front))) ≡ Some (Stands place)
          → ((u : State) → Said asked.form ws (tokens (v ∷ front ++ rest)) u
          → run asked.form u (tokens (v ∷ front)) ≡ Some (Stands place)
          → IsCleanBefore asked ws (tokens rest) → faults asked place ≡ fault ∷ more
          → answer_from asked total u (v ∷ front ++ rest) error ≡ Err fault)
          → answer_behind asked w.from o (λ u. answer_from asked total u (v ∷ front ++ rest) error)
          ≡ Err fault
      by None steps same next = cc
      by (Some u) steps same next =
          let more' = more_said asked.form ws w.token (tokens (v ∷ front ++ rest)) s u said steps in
          let long = words_behind front rest in
          let less : length (tokens rest) < length (tokens (v ∷ front ++ rest)) = omega (arith, long) in
          ap (λ fs. unless_fault fs (answer_from asked total u (v ∷ front ++ rest) error))
          (no_fault_before u (tokens (v ∷ front ++ rest)) (tokens rest) more' clean less)
          ∙ next u more' same clean is

module _ (asked : Asked) (text : List ℕ) where
  -- words whose reading answers this
  abbrev Answered : Result Table TableError → Type 0
  Answered r =
      (ws : List Placed) × (error : Option WordError) × IsText (length text) text ws error
      × (answer_from asked (length text) Start ws error ≡ r)

  fronts : (front rest : List Placed) (s : State)
      → (ran : Run asked.form Start (tokens (front ++ rest)) (tokens rest) s)
      → run asked.form Start (tokens front) ≡ Some s
  fronts front rest s ran =
      ap (run asked.form Start) (sym (append_cancel_right ran.front (tokens front) (tokens rest)
      (sym ran.is ∙ map-append (λ (p : Placed). p.token) front rest))) ∙ ran.runs

  said_answer : (t : Table) → Says asked text t → Answered (Ok t)
  said_answer t says =
      let ends = derived_runs asked.form (tokens says.words) [] t says.derives in
      let all : says.words ++ [] ≡ says.words = append-nil says.words in
      let runs = fronts says.words [] ends.0
      (subst (λ z. Run asked.form Start (tokens z) [] ends.0) (sym all) ends.1) in
      let whole = clean_answer asked (length text) None (tokens says.words) says.words [] Start ends.0
      (ap tokens (sym all)) runs says.clean in (
        says.words,
        None,
        says.is_text,
        ap (λ z. answer_from asked (length text) Start z None) (sym all) ∙ whole
            ∙ ap (answer_at_end asked (length text)) ends.2
            ∙ ap (unless_missing t) says.complete,
      )

  stopped : (front rest : List Placed) (s : State) (error : Option WordError) (fault : TableError)
      → Said asked.form (tokens (front ++ rest)) (tokens rest) s
      → run asked.form Start (tokens front) ≡ Some s
      → StopsAt asked (length text) (tokens (front ++ rest)) rest error fault
      → answer_from asked (length text) s rest error ≡ Err fault
  stopped front (next ∷ after) s error fault said runs (is, never) =
      by (step asked.form s next.token) refl
    where
      by : (o : Option State) → step asked.form s next.token ≡ o
          → answer_behind asked next.from o (λ t. answer_from asked (length text) t after error)
          ≡ Err fault
      by None steps = ap Err (sym is)
      by (Some u) steps =
          absurd (never (said_begins asked.form (tokens (front ++ next ∷ after)) (tokens after) u
          (more_said asked.form (tokens (front ++ next ∷ after)) next.token (tokens after) s u said
          steps)))
  stopped front [] s (Some error) fault said runs is = ap Err (sym is)
  stopped front [] s None fault said runs (inl (is, never)) = by (table_at s) refl
    where
      by : (o : Option Table) → table_at s ≡ o → answer_at_end asked (length text) o ≡ Err fault
      by None at = ap Err (sym is)
      by (Some t) at = absurd (never t (table_said asked (tokens (front ++ [])) [] s t said at))
  stopped front [] s None fault said runs (inr (t, name, derived, missing, is)) =
      ap (answer_at_end asked (length text))
      (derived_at asked (tokens (front ++ [])) (tokens front) s t
      (map-append (λ (p : Placed). p.token) front []) runs derived)
      ∙ ap (unless_missing t) missing ∙ ap Err (sym is)

  refused_answer : (fault : TableError) → IsRefused asked text fault → Answered (Err fault)
  refused_answer fault r = by r.refused
    where
      at_fault : (front : List Placed)
          → IsText (length text) text (front ++ r.rest) r.error
          → IsCleanBefore asked (tokens (front ++ r.rest)) (tokens r.rest)
          → FaultAt asked (tokens (front ++ r.rest)) (tokens r.rest) fault
          → answer_from asked (length text) Start (front ++ r.rest) r.error ≡ Err fault
      at_fault [] is_text clean (place, more, reached, is) =
          let runs = fronts [] r.rest (Stands place)
          (reached_runs asked.form (tokens r.rest) (tokens r.rest) place reached) in
          cc
      at_fault (w ∷ front) is_text clean (place, more, reached, is) =
          faulty_answer asked (length text) r.error (tokens (w ∷ front ++ r.rest)) w front r.rest
          Start place fault more refl
          (fronts (w ∷ front) r.rest (Stands place)
          (reached_runs asked.form (tokens (w ∷ front ++ r.rest)) (tokens r.rest) place reached))
          clean is

      by : (IsCleanBefore asked (tokens (r.front ++ r.rest)) (tokens r.rest)
          × FaultAt asked (tokens (r.front ++ r.rest)) (tokens r.rest) fault)
          ⊎ (IsClean asked (tokens (r.front ++ r.rest)) (tokens r.rest)
          × Begin asked (tokens (r.front ++ r.rest)) (tokens r.rest)
          × StopsAt asked (length text) (tokens (r.front ++ r.rest)) r.rest r.error fault)
          → Answered (Err fault)
      by (inl (clean, faulty)) =
          (r.front ++ r.rest, r.error, r.is_text, at_fault r.front r.is_text clean faulty)
      by (inr (clean, begun, stops)) =
          let ran = begun_runs asked.form (tokens (r.front ++ r.rest)) (tokens r.rest) begun in
          let runs = fronts r.front r.rest ran.0 ran.1 in
          let said = said_run asked (tokens (r.front ++ r.rest)) (tokens r.front) (tokens r.rest)
          Start ran.0 (map-append (λ (p : Placed). p.token) r.front r.rest) runs in (
            r.front ++ r.rest,
            r.error,
            r.is_text,
            clean_answer asked (length text) r.error (tokens (r.front ++ r.rest)) r.front r.rest Start
                ran.0 refl runs clean
                ∙ stopped r.front r.rest ran.0 r.error fault said runs stops,
          )

  answer_of : (r : Result Table TableError) → Verdict asked text r → Answered r
  answer_of (Ok t) v = said_answer t v
  answer_of (Err fault) v = refused_answer fault v

-- a text has at most one verdict
pub one_verdict : (asked : Asked) (text : List ℕ) (a b : Result Table TableError)
    → Verdict asked text a → Verdict asked text b → a ≡ b
one_verdict asked text a b first second =
    let one = answer_of asked text a first in
    let two = answer_of asked text b second in
    let same = one_text (length text) text one.0 two.0 one.1 two.1 one.2 two.2 in
    sym one.3
    ∙ ap (λ z. answer_from asked (length text) Start z one.1) same.0
    ∙ ap (λ z. answer_from asked (length text) Start two.0 z) same.1
    ∙ two.3
