-- The reading of words answers what is to be said of their text.
use Rattle.std.proofs.Common.{◌≡◌, ℕ, zero, suc, ◌+◌, ◌≤◌, ◌<◌, List, [], ◌∷◌, ◌++◌, length, map, Option}
use Rattle.std.proofs.Common.{Some, None, Ok, Err, refl, sym, ap, ◌∙◌, subst, inl, inr, ◌⊎◌, arith}
use Rattle.std.proofs.Common.{append_assoc, append-nil, length-append}
use Rattle.std.proofs.Common.{Bool, true, false, ◌==◌, eqb-true}
use Rattle.std.proofs.lemmas.Bool.{eqb-false}
use Rattle.std.proofs.lemmas.List.{append_cancel_right, map-append}
use Rattle.tptp_words.specs.declared.word.WordError.{WordError}
use Rattle.tptp_words.specs.Text.{Token, Placed, tokens, IsText}
use Rattle.model_tables.specs.declared.error.TableError.{TableError}
use Rattle.model_tables.specs.declared.error.TableError.TheVariants as e
use Rattle.model_tables.specs.Grammar.{Table, table}
use Rattle.model_tables.specs.Places.{Place, AtSize, AtSizesEnd, AtName, AtItemEnd, Reaches}
use Rattle.model_tables.specs.Faults.{Asked, faults, first_missing}
use Rattle.model_tables.specs.Refusals.{FaultAt, IsClean, Begin, Derive, StopsAt, IsRefused, Says, Verdict}
use Rattle.model_tables.specs.Refusals.{place_of}
use Rattle.model_tables.specs.Steps.{State, Start, Stands, step, run, bind, table_at, faults_at}
use Rattle.model_tables.specs.Steps.{with_no_items, with_item, unless_missing, answer_at_end}
use Rattle.model_tables.specs.Steps.{answer_at_last, unless_fault, answer_behind, answer_from}
use Rattle.model_tables.proofs.Runs.{Run, run_append}
use Rattle.model_tables.proofs.Complete.{reached_runs, derived_runs, begun_runs}
use Rattle.model_tables.proofs.Said.{Said, more_said, said_begins, no_items, one_item}

-- two fronts of a list, behind which equally many items are left, are the same
pub same_front : {A : Type 0} (a b x y : List A) → a ++ x ≡ b ++ y → length x ≡ length y → a ≡ b
same_front [] [] x y is same = refl
same_front [] (q ∷ b) x y is same =
    let all : length x ≡ length (q ∷ (b ++ y)) = ap length is in
    absurd (omega (arith, length-append b y))
same_front (p ∷ a) [] x y is same =
    let all : length (p ∷ (a ++ x)) ≡ length y = ap length is in
    absurd (omega (arith, length-append a x))
same_front (p ∷ a) (q ∷ b) x y is same =
    let first : p ≡ q = cc in
    let others : a ++ x ≡ b ++ y = cc in
    let fronts = same_front a b x y others same in
    cc

module _ (asked : Asked) (ws : List Token) where
  -- the state of a place that is reached at a front is that of the front
  reached_at : (p q mid : List Token) (s : State) (place : Place) → ws ≡ p ++ q
      → run asked.form Start p ≡ Some s → Reaches asked.form ws mid place → length mid ≡ length q
      → Some (Stands place) ≡ Some s
  reached_at p q mid s place is runs reached long =
      let other = reached_runs asked.form ws mid place reached in
      let same = same_front other.front p mid q (sym other.is ∙ is) long in
      sym other.runs ∙ ap (run asked.form Start) same ∙ runs

  reached_within : (mid : List Token) (place : Place) → Reaches asked.form ws mid place
      → length mid ≤ length ws
  reached_within mid place reached =
      let other = reached_runs asked.form ws mid place reached in
      let all = ap length other.is ∙ length-append other.front mid in
      omega arith

  no_fault_where : (s : State) (place : Place) → Some (Stands place) ≡ Some s
      → faults_at asked s ≡ [] → faults asked place ≡ []
  no_fault_where s place is none =
      let same : Stands place ≡ s = cc in
      ap (faults_at asked) same ∙ none

  pub clean_start : IsClean asked ws ws
  clean_start mid place reached long =
      let within = reached_within mid place reached in
      no_fault_where Start place
      (reached_at [] ws mid Start place refl refl reached (omega arith)) refl

  pub clean_more : (p : List Token) (w : Token) (q : List Token) (t : State)
      → ws ≡ (p ++ w ∷ []) ++ q → run asked.form Start (p ++ w ∷ []) ≡ Some t
      → faults_at asked t ≡ [] → IsClean asked ws (w ∷ q) → IsClean asked ws q
  clean_more p w q t is runs none before mid place reached long =
      by (length q == length mid) refl
    where
      by : (same : Bool) → (length q == length mid) ≡ same → faults asked place ≡ []
      by true same =
          no_fault_where t place
          (reached_at (p ++ w ∷ []) q mid t place is runs reached (sym (eqb-true _ _ same))) none
      by false same =
          let other = eqb-false _ _ same in
          before mid place reached (omega arith)

  -- what a front says
  pub said_run : (p q : List Token) (s t : State) → Said asked.form ws (p ++ q) s
      → run asked.form s p ≡ Some t → Said asked.form ws q t
  said_run [] q s t said runs =
      let same : s ≡ t = cc in subst (λ z. Said asked.form ws q z) same said
  said_run (w ∷ p) q s t said runs = by (step asked.form s w) refl runs (λ u. said_run p q u t)
    where
      by : (o : Option State) → step asked.form s w ≡ o → bind o (λ u. run asked.form u p) ≡ Some t
          → ((u : State) → Said asked.form ws (p ++ q) u → run asked.form u p ≡ Some t
          → Said asked.form ws q t)
          → Said asked.form ws q t
      by None steps same next = cc
      by (Some u) steps same next =
          next u (more_said asked.form ws w (p ++ q) s u said steps) same

  pub begun_no : (p : List Token) (w : Token) (q : List Token) (s : State) → ws ≡ p ++ w ∷ q
      → run asked.form Start p ≡ Some s → step asked.form s w ≡ None → Begin asked ws q → ⊥
  begun_no p w q s is runs none begun =
      let other = begun_runs asked.form ws q begun in
      let same = append_cancel_right other.1.front (p ++ w ∷ []) q
      (sym other.1.is ∙ is ∙ sym (append_assoc p (w ∷ []) q)) in
      let goes : run asked.form Start (p ++ w ∷ []) ≡ None =
      run_append asked.form Start p (w ∷ [])
      ∙ ap (λ (o : Option State). bind o (λ t. run asked.form t (w ∷ []))) runs
      ∙ ap (λ (o : Option State). bind o (λ t. Some t)) none in
      let comes : run asked.form Start (p ++ w ∷ []) ≡ Some other.0 =
      sym (ap (run asked.form Start) same) ∙ other.1.runs in
      cc

  pub table_said : (q : List Token) (s : State) (t : Table) → Said asked.form ws q s
      → table_at s ≡ Some t → (table asked.form).derives ws q t
  table_said q (Stands (AtSizesEnd sizes)) t said ends =
      let same : with_no_items sizes ≡ t = cc in
      subst (λ z. (table asked.form).derives ws q z) same (no_items asked.form ws q sizes said)
  table_said q (Stands (AtItemEnd before it)) t (mid, first, second) ends =
      let same : with_item before it ≡ t = cc in
      subst (λ z. (table asked.form).derives ws q z) same
      (one_item asked.form ws mid q before it first second)
  table_said q _ t said ends = cc

  pub derived_at : (p : List Token) (s : State) (t : Table) → ws ≡ p ++ []
      → run asked.form Start p ≡ Some s → Derive asked ws t → table_at s ≡ Some t
  derived_at p s t is runs derived =
      let other = derived_runs asked.form ws [] t derived in
      let same = append_cancel_right other.1.front p [] (sym other.1.is ∙ is) in
      let states : Some other.0 ≡ Some s =
      sym other.1.runs ∙ ap (run asked.form Start) same ∙ runs in
      let state : other.0 ≡ s = cc in
      sym (ap table_at state) ∙ other.2

module _ (asked : Asked) (text : List ℕ) (error : Option WordError) where
  -- the words that are taken, and what they say
  pub record Taken (front rest : List Placed) (s : State) : Type 0 where
    pub is_text : IsText (length text) text (front ++ rest) error
    pub is : tokens (front ++ rest) ≡ tokens front ++ tokens rest
    pub runs : run asked.form Start (tokens front) ≡ Some s

  pub said_taken : (front rest : List Placed) (s : State) → Taken front rest s
      → Said asked.form (tokens (front ++ rest)) (tokens rest) s
  said_taken front rest s taken =
      said_run asked (tokens (front ++ rest)) (tokens front) (tokens rest) Start s taken.is
      taken.runs

  begun : (front rest : List Placed) (s : State) → Taken front rest s
      → Begin asked (tokens (front ++ rest)) (tokens rest)
  begun front rest s taken =
      said_begins asked.form (tokens (front ++ rest)) (tokens rest) s
      (said_taken front rest s taken)

  taken_more : (front : List Placed) (w : Placed) (rest : List Placed) (s t : State)
      → Taken front (w ∷ rest) s → step asked.form s w.token ≡ Some t
      → Taken (front ++ w ∷ []) rest t
  taken_more front w rest s t taken steps = record {
    is_text = subst (λ z. IsText (length text) text z error)
        (sym (append_assoc front (w ∷ []) rest)) taken.is_text;
    is = map-append (λ (p : Placed). p.token) (front ++ w ∷ []) rest;
    runs = ap (run asked.form Start) (map-append (λ (p : Placed). p.token) front (w ∷ []))
        ∙ run_append asked.form Start (tokens front) (w.token ∷ [])
        ∙ ap (λ (o : Option State). bind o (λ u. run asked.form u (w.token ∷ []))) taken.runs
        ∙ ap (λ (o : Option State). bind o (λ u. Some u)) steps;
  }

  answer_at_words_end : (front : List Placed) (s : State) → Taken front [] s
      → IsClean asked (tokens (front ++ [])) [] → error ≡ None
      → Verdict asked text (answer_at_end asked (length text) (table_at s))
  answer_at_words_end front s taken clean ends = by (table_at s) refl
    where
      missing : (t : Table) → table_at s ≡ Some t → (o : Option (List ℕ))
          → first_missing asked.wants t.items ≡ o → Verdict asked text (unless_missing t o)
      missing t at None none = record {
        words = front ++ [];
        is_text = subst (λ z. IsText (length text) text (front ++ []) z) ends taken.is_text;
        derives = table_said asked (tokens (front ++ [])) [] s t (said_taken front [] s taken) at;
        clean = clean;
        complete = none;
      }
      missing t at (Some name) some = record {
        front = front;
        rest = [];
        error = None;
        is_text = subst (λ z. IsText (length text) text (front ++ []) z) ends taken.is_text;
        refused = inr (
          clean,
          begun front [] s taken,
          inr (
            t,
            name,
            table_said asked (tokens (front ++ [])) [] s t (said_taken front [] s taken) at,
            some,
            refl,
          ),
        );
      }

      by : (o : Option Table) → table_at s ≡ o
          → Verdict asked text (answer_at_end asked (length text) o)
      by None at = record {
        front = front;
        rest = [];
        error = None;
        is_text = subst (λ z. IsText (length text) text (front ++ []) z) ends taken.is_text;
        refused = inr (
          clean,
          begun front [] s taken,
          inl (
            refl,
            λ t derived.
                let here = derived_at asked (tokens (front ++ [])) (tokens front) s t taken.is taken.runs
                derived in
                cc,
          ),
        );
      }
      by (Some t) at = missing t at (first_missing asked.wants t.items) refl

  answer_at_words_last : (front : List Placed) (s : State) → Taken front [] s
      → IsClean asked (tokens (front ++ [])) [] → (o : Option WordError) → error ≡ o
      → Verdict asked text (answer_at_last asked (length text) s o)
  answer_at_words_last front s taken clean None is = answer_at_words_end front s taken clean is
  answer_at_words_last front s taken clean (Some fault) is = record {
    front = front;
    rest = [];
    error = Some fault;
    is_text = subst (λ z. IsText (length text) text (front ++ []) z) is taken.is_text;
    refused = inr (clean, begun front [] s taken, refl);
  }

  fault_here : (front : List Placed) (w : Placed) (rest : List Placed) (t : State)
      → Taken (front ++ w ∷ []) rest t
      → IsClean asked (tokens ((front ++ w ∷ []) ++ rest)) (w.token ∷ tokens rest)
      → (fault : TableError) (more : List TableError) → faults_at asked t ≡ fault ∷ more
      → IsRefused asked text fault
  fault_here front w rest (Stands place) taken clean fault more is = record {
    front = front ++ w ∷ [];
    rest = rest;
    error = error;
    is_text = taken.is_text;
    refused = inl (
      λ mid other reached long. clean mid other reached (omega arith),
      (place, more, said_taken (front ++ w ∷ []) rest (Stands place) taken, is),
    );
  }
  fault_here front w rest _ taken clean fault more is = cc

  pub answered : (rest front : List Placed) (s : State) → Taken front rest s
      → IsClean asked (tokens (front ++ rest)) (tokens rest)
      → Verdict asked text (answer_from asked (length text) s rest error)
  answered [] front s taken clean = answer_at_words_last front s taken clean error refl
  answered (w ∷ rest) front s taken clean =
      by (step asked.form s w.token) refl (λ t. answered rest (front ++ w ∷ []) t)
    where
      here : tokens (front ++ w ∷ rest) ≡ tokens ((front ++ w ∷ []) ++ rest)
      here = ap tokens (sym (append_assoc front (w ∷ []) rest))

      faulty : (t : State) → step asked.form s w.token ≡ Some t
          → (Taken (front ++ w ∷ []) rest t
          → IsClean asked (tokens ((front ++ w ∷ []) ++ rest)) (tokens rest)
          → Verdict asked text (answer_from asked (length text) t rest error))
          → (fs : List TableError) → faults_at asked t ≡ fs
          → Verdict asked text (unless_fault fs (answer_from asked (length text) t rest error))
      faulty t steps next [] none =
          let more = taken_more front w rest s t taken steps in
          next more
          (clean_more asked (tokens ((front ++ w ∷ []) ++ rest)) (tokens front) w.token (tokens rest)
          t (more.is ∙ ap (λ z. z ++ tokens rest) (map-append (λ (p : Placed). p.token) front (w ∷ [])))
          (ap (run asked.form Start) (sym (map-append (λ (p : Placed). p.token) front (w ∷ [])))
          ∙ more.runs) none
          (subst (λ z. IsClean asked z (w.token ∷ tokens rest)) here clean))
      faulty t steps next (fault ∷ more) some =
          fault_here front w rest t (taken_more front w rest s t taken steps)
          (subst (λ z. IsClean asked z (w.token ∷ tokens rest)) here clean) fault more some

      by : (o : Option State) → step asked.form s w.token ≡ o
          → ((t : State) → Taken (front ++ w ∷ []) rest t
          → IsClean asked (tokens ((front ++ w ∷ []) ++ rest)) (tokens rest)
          → Verdict asked text (answer_from asked (length text) t rest error))
          → Verdict asked text (answer_behind asked w.from o
          (λ t. answer_from asked (length text) t rest error))
      by None none next = record {
        front = front;
        rest = w ∷ rest;
        error = error;
        is_text = taken.is_text;
        refused = inr (
          clean,
          begun front (w ∷ rest) s taken,
          (
            refl,
            begun_no asked (tokens (front ++ w ∷ rest)) (tokens front) w.token (tokens rest) s
                taken.is taken.runs none,
          ),
        );
      }
      by (Some t) steps next = faulty t steps (next t) (faults_at asked t) refl

-- the answer for all words of a text
pub verdict_of : (asked : Asked) (text : List ℕ) (ws : List Placed) (error : Option WordError)
    → IsText (length text) text ws error
    → Verdict asked text (answer_from asked (length text) Start ws error)
verdict_of asked text ws error is_text =
    answered asked text error ws [] Start
    (record { is_text = is_text; is = refl; runs = refl }) (clean_start asked (tokens ws))
