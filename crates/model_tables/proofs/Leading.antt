-- Where the readers of parts of a table lead.
use Rattle.std.proofs.Common.{◌≢◌, ◌≡◌, ℕ, List, [], ◌∷◌, ◌++◌, Option, Some, None, Ok, Err, Result, refl, sym}
use Rattle.std.proofs.Common.{ap, ◌∙◌, subst, true}
use Rattle.std.specs.Option.{option_map}
use Rattle.tptp_words.specs.declared.word.WordError.{WordError}
use Rattle.tptp_words.specs.Text.{Token, Placed}
use Rattle.tptp_words.specs.Words.{keyword}
use Rattle.tptp_words.specs.Scanning.{Left}
use Rattle.tptp_phrases.specs.Readers.{take_word, take_from, taken, seq, give, seen, goes_on, and_then}
use Rattle.tptp_phrases.specs.Readers.{Syntax}
use Rattle.model_tables.specs.declared.fault.Fault.{Fault}
use Rattle.model_tables.specs.declared.fault.Fault.TheVariants as fault
use Rattle.model_tables.specs.declared.error.TableError.{TableError}
use Rattle.model_tables.specs.declared.error.TableError.TheVariants as e
use Rattle.model_tables.specs.declared.form.Form.{Form}
use Rattle.model_tables.specs.declared.form.Kind.{Kind}
use Rattle.model_tables.specs.Grammar.{Item, Table, form_word, size_word, format, stop, equals, number}
use Rattle.model_tables.specs.Grammar.{item_kind, item_name}
use Rattle.model_tables.specs.Places.{AtSize, AtSizesEnd, AtName, AtItemEnd}
use Rattle.model_tables.specs.Faults.{Asked}
use Rattle.model_tables.specs.Steps.{State, Start, AtFormat, AtStop, AtSizeWord, AtFirstSize, Stands}
use Rattle.model_tables.specs.Steps.{HasKind, Filling, step, table_at, faults_at, first_some, with_item}
use Rattle.model_tables.specs.Steps.{with_no_items, answer_behind, answer_from, unless_fault}
use Rattle.model_tables.specs.Ahead.{Read, Reads, Gives, place_left, any_word, first_as, rest_of}
use Rattle.model_tables.specs.Leads.{opening_at, heading_at, numbers_from, numbers_at, entries_at, by_number}
use Rattle.model_tables.specs.Leads.{lead, arrive, refused_at, Led}
use Rattle.model_tables.proofs.Complete.{step_kind, fills, number_no_stop}

module _ (asked : Asked) (total : ℕ) where
  -- a word that is taken leads on, and one that isn't stops
  pub led_word_from : {A : Type 0} (f : Token → Option A) (go : A → State) (s : State)
      → ((w : Token) (a : A) → f w ≡ Some a → step asked.form s w ≡ Some (go a))
      → ((w : Token) → f w ≡ None → step asked.form s w ≡ None)
      → (words : List Placed) (fault : Option WordError)
      → (table_at s ≡ None)
      → Led asked total (answer_from asked total s words fault) (take_from f words fault) go
  led_word_from f go s steps stuck [] None ends =
      ap (λ (o : Option Table). Rattle.model_tables.specs.Steps.answer_at_end asked total o) ends
  led_word_from f go s steps stuck [] (Some error) ends = refl
  led_word_from {A} f go s steps stuck (w ∷ ws) fault ends = by (f w.token) refl
    where
      by : (o : Option A) → f w.token ≡ o
          → Led asked total (answer_from asked total s (w ∷ ws) fault) (taken w ws fault o) go
      by None is =
          ap (λ (o : Option State). answer_behind asked w.from o
          (λ t. answer_from asked total t ws fault)) (stuck w.token is)
      by (Some a) is =
          ap (λ (o : Option State). answer_behind asked w.from o
          (λ t. answer_from asked total t ws fault)) (steps w.token a is)

  pub led_word : {A : Type 0} (f : Token → Option A) (go : A → State) (s : State)
      → ((w : Token) (a : A) → f w ≡ Some a → step asked.form s w ≡ Some (go a))
      → ((w : Token) → f w ≡ None → step asked.form s w ≡ None)
      → (left : Left) → table_at s ≡ None
      → Led asked total (lead asked total s left) (take_word f left) go
  unfolding take_word
  led_word f go s steps stuck left ends =
      led_word_from f go s steps stuck left.words left.fault ends

  -- the same where a word stands next
  led_next_from : {A : Type 0} (f : Token → Option A) (go : A → State) (s : State)
      → ((w : Token) (a : A) → f w ≡ Some a → step asked.form s w ≡ Some (go a))
      → ((w : Token) → f w ≡ None → step asked.form s w ≡ None)
      → (words : List Placed) (fault : Option WordError)
      → (goes_on any_word (Rattle.tptp_words.specs.Text.tokens words) ≡ true)
      → Led asked total (answer_from asked total s words fault) (take_from f words fault) go
  led_next_from f go s steps stuck [] fault next = cc
  led_next_from {A} f go s steps stuck (w ∷ ws) fault next = by (f w.token) refl
    where
      by : (o : Option A) → f w.token ≡ o
          → Led asked total (answer_from asked total s (w ∷ ws) fault) (taken w ws fault o) go
      by None is =
          ap (λ (o : Option State). answer_behind asked w.from o
          (λ t. answer_from asked total t ws fault)) (stuck w.token is)
      by (Some a) is =
          ap (λ (o : Option State). answer_behind asked w.from o
          (λ t. answer_from asked total t ws fault)) (steps w.token a is)

  led_next : {A : Type 0} (f : Token → Option A) (go : A → State) (s : State)
      → ((w : Token) (a : A) → f w ≡ Some a → step asked.form s w ≡ Some (go a))
      → ((w : Token) → f w ≡ None → step asked.form s w ≡ None)
      → (left : Left) → goes_on any_word (seen left) ≡ true
      → Led asked total (lead asked total s left) (take_word f left) go
  unfolding take_word
  led_next f go s steps stuck left next =
      led_next_from f go s steps stuck left.words left.fault next

  pub led_seq : {A B : Type 0} (p : Reads A) (q : A → Reads B) (go : A → State) (on : B → State)
      (whole : Result Table TableError) (left : Left)
      → Led asked total whole (p left) go → ((a : A) → faults_at asked (go a) ≡ [])
      → ((a : A) (u : Left) → Led asked total (lead asked total (go a) u) (q a u) on)
      → Led asked total whole (seq p q left) on
  unfolding seq
  led_seq {A} {B} p q go on whole left first clean second = by (p left) first
    where
      by : (o : Read A) → Led asked total whole o go → Led asked total whole (and_then o q) on
      by (Ok x) is =
          let same : whole ≡ lead asked total (go x.0) x.1 =
          is ∙ ap (λ fs. unless_fault fs (lead asked total (go x.0) x.1)) (clean x.0) in
          subst (λ z. Led asked total z (q x.0 x.1) on) (sym same) (second x.0 x.1)
      by (Err x) is = is

  pub led_give : {A : Type 0} (a : A) (go : A → State) (s : State) (left : Left) → go a ≡ s
      → faults_at asked s ≡ [] → Led asked total (lead asked total s left) (give a left) go
  unfolding give
  led_give a go s left same clean =
      sym (ap (λ z. arrive asked total z left) same
      ∙ ap (λ fs. unless_fault fs (lead asked total s left)) clean)

  -- up to the first size
  pub led_opening : (left : Left)
      → Led asked total (lead asked total Start left) (opening_at asked.form left)
      (λ n. Stands (AtSize (n ∷ [])))
  led_opening left =
      led_seq _ _ (λ _. AtFormat) (λ n. Stands (AtSize (n ∷ []))) (lead asked total Start left) left
      (led_word _ (λ _. AtFormat) Start (λ w a takes. ap (option_map (λ _. AtFormat)) takes)
      (λ w misses. ap (option_map (λ _. AtFormat)) misses) left refl) (λ _. refl) (λ _ u.
      led_seq _ _ (λ _. AtStop) (λ n. Stands (AtSize (n ∷ []))) (lead asked total AtFormat u) u
      (led_word _ (λ _. AtStop) AtFormat (λ w a takes. ap (option_map (λ _. AtStop)) takes)
      (λ w misses. ap (option_map (λ _. AtStop)) misses) u refl) (λ _. refl) (λ _ v.
      led_seq _ _ (λ _. AtSizeWord) (λ n. Stands (AtSize (n ∷ []))) (lead asked total AtStop v) v
      (led_word _ (λ _. AtSizeWord) AtStop (λ w a takes. ap (option_map (λ _. AtSizeWord)) takes)
      (λ w misses. ap (option_map (λ _. AtSizeWord)) misses) v refl) (λ _. refl) (λ _ x.
      led_seq _ _ (λ _. AtFirstSize) (λ n. Stands (AtSize (n ∷ [])))
      (lead asked total AtSizeWord x) x
      (led_word _ (λ _. AtFirstSize) AtSizeWord
      (λ w a takes. ap (option_map (λ _. AtFirstSize)) takes)
      (λ w misses. ap (option_map (λ _. AtFirstSize)) misses) x refl) (λ _. refl) (λ _ y.
      led_word number (λ n. Stands (AtSize (n ∷ []))) AtFirstSize
      (λ w a takes. ap (option_map (λ n. Stands (AtSize (n ∷ [])))) takes)
      (λ w misses. ap (option_map (λ n. Stands (AtSize (n ∷ [])))) misses) y refl))))

  no_kind : (s : State) (t : Table) → table_at s ≡ Some t → (w : Token)
      → item_kind asked.form w ≡ None → step asked.form s w ≡ None
  no_kind (Stands (AtSizesEnd sizes)) t is w misses =
      ap (option_map (λ kind. HasKind (with_no_items sizes) kind)) misses
  no_kind (Stands (AtItemEnd before it)) t is w misses =
      ap (option_map (λ kind. HasKind (with_item before it) kind)) misses
  no_kind _ t is w misses = cc

  name_led : (before : Table) (kind : Kind) (u : Left)
      → Led {A = Kind × List ℕ} asked total (lead asked total (HasKind before kind) u)
      (seq (take_word (item_name kind)) (λ name. give (kind, name)) u)
      (λ head. Stands (AtName before head.0 head.1))
  unfolding seq give
  name_led before kind u =
      by (take_word (item_name kind) u)
      (led_word (item_name kind) (λ name. Stands (AtName before kind name)) (HasKind before kind)
      (λ w name takes. ap (option_map (λ n. Stands (AtName before kind n))) takes)
      (λ w misses. ap (option_map (λ n. Stands (AtName before kind n))) misses) u refl)
    where
      by : (o : Read (List ℕ))
          → Led asked total (lead asked total (HasKind before kind) u) o
          (λ name. Stands (AtName before kind name))
          → Led {A = Kind × List ℕ} asked total (lead asked total (HasKind before kind) u)
          (and_then o (λ name s'. Ok ((kind, name), s')))
          (λ head. Stands (AtName before head.0 head.1))
      by (Ok x) is = is
      by (Err x) is = is

  -- the first two words of an item
  pub led_heading : (s : State) (before : Table) → table_at s ≡ Some before → (left : Left)
      → goes_on any_word (seen left) ≡ true
      → Led asked total (lead asked total s left) (heading_at asked.form left)
      (λ head. Stands (AtName before head.0 head.1))
  led_heading s before ends left next =
      led_seq _ _ (λ kind. HasKind before kind) _ (lead asked total s left) left
      (led_next (item_kind asked.form) (λ kind. HasKind before kind) s
      (λ w kind takes. step_kind asked.form s before w kind ends takes)
      (no_kind s before ends) left next) (λ _. refl) (λ kind u.
      name_led before kind u)

  -- the entries of an item, some of which are found, and the full stop
  abbrev rest_at : List ℕ → List Placed → Option WordError → Read (List ℕ)
  rest_at found words fault =
      and_then (numbers_from found words fault) (λ entries s.
      and_then (take_from stop s.words s.fault) (λ _ u. Ok (entries, u)))

  abbrev filled_by : Table → Kind → List ℕ → List ℕ → State
  filled_by before kind name entries =
      Stands (AtItemEnd before (record { kind = kind; name = name; entries = entries }))

  led_rest : (before : Table) (kind : Kind) (name : List ℕ) (words : List Placed)
      (fault : Option WordError) (found : List ℕ)
      → Led asked total (answer_from asked total (Filling before kind name found) words fault)
      (rest_at found words fault) (filled_by before kind name)
  led_rest before kind name [] None found = refl
  led_rest before kind name [] (Some error) found = refl
  led_rest before kind name (w ∷ ws) fault found =
      by (number w.token) refl (led_rest before kind name ws fault)
    where
      stops : (o : Option (Unit {0})) → stop w.token ≡ o → number w.token ≡ None
          → Led asked total
          (answer_from asked total (Filling before kind name found) (w ∷ ws) fault)
          (and_then (taken {K = Unit {0}} w ws fault o) (λ _ u. Ok (found, u)))
          (filled_by before kind name)
      stops None is none =
          ap (λ (o : Option State). answer_behind asked w.from o
          (λ t. answer_from asked total t ws fault))
          (ap (λ o. first_some (option_map (λ _. filled_by before kind name found) o)
          (option_map (λ n. Filling before kind name (found ++ n ∷ [])) (number w.token))) is
          ∙ ap (option_map (λ n. Filling before kind name (found ++ n ∷ []))) none)
      stops (Some u) is none =
          ap (λ (o : Option State). answer_behind asked w.from o
          (λ t. answer_from asked total t ws fault))
          (ap (λ o. first_some (option_map (λ _. filled_by before kind name found) o)
          (option_map (λ n. Filling before kind name (found ++ n ∷ [])) (number w.token))) is)

      by : (o : Option ℕ) → number w.token ≡ o
          → ((more : List ℕ) → Led asked total
          (answer_from asked total (Filling before kind name more) ws fault)
          (rest_at more ws fault) (filled_by before kind name))
          → Led asked total
          (answer_from asked total (Filling before kind name found) (w ∷ ws) fault)
          (and_then (by_number o (Ok (found, record { words = w ∷ ws; fault = fault }))
          (λ n. numbers_from (found ++ n ∷ []) ws fault)) (λ entries s.
          and_then (take_from stop s.words s.fault) (λ _ u. Ok (entries, u))))
          (filled_by before kind name)
      by None is next = stops (stop w.token) refl is
      by (Some n) is next =
          subst (λ z. Led asked total z (rest_at (found ++ n ∷ []) ws fault)
          (filled_by before kind name))
          (sym (ap (λ (o : Option State). answer_behind asked w.from o
          (λ t. answer_from asked total t ws fault))
          (fills asked.form before kind name found w.token n is)))
          (next (found ++ n ∷ []))

  -- the entries of an item
  pub led_entries : (before : Table) (kind : Kind) (name : List ℕ) (left : Left)
      → Led asked total (lead asked total (Stands (AtName before kind name)) left) (entries_at left)
      (filled_by before kind name)
  unfolding seq give numbers_at take_word
  led_entries before kind name left =
      led_seq (take_word equals)
      (λ _. seq (numbers_at []) (λ entries. seq (take_word stop) (λ _. give entries)))
      (λ _. Filling before kind name []) (filled_by before kind name)
      (lead asked total (Stands (AtName before kind name)) left) left
      (led_word equals (λ _. Filling before kind name []) (Stands (AtName before kind name))
      (λ w a takes. ap (option_map (λ _. Filling before kind name [])) takes)
      (λ w misses. ap (option_map (λ _. Filling before kind name [])) misses) left refl)
      (λ _. refl) (λ _ u. led_rest before kind name u.words u.fault [])

-- where a reader leads that gives something
pub ok_goes : {A : Type 0} (asked : Asked) (total : ℕ) (whole : Result Table TableError)
    (outcome : Read A) (go : A → State) (a : A) (new : Left) → Led asked total whole outcome go
    → outcome ≡ Ok (a, new) → whole ≡ arrive asked total (go a) new
ok_goes asked total whole outcome go a new led gives =
    subst (λ o. Led asked total whole o go) gives led

-- the answer where a reader stops, unless memory fails
pub err_goes : {A : Type 0} (asked : Asked) (total : ℕ) (whole : Result Table TableError)
    (outcome : Read A) (go : A → State) (why : Fault) (new : Left) (refusal : TableError)
    → Led asked total whole outcome go
    → (why ≢ fault.Memory → outcome ≡ Err (Syntax, new))
    → (why ≡ fault.Memory → refusal ≡ e.Memory)
    → (why ≢ fault.Memory → refusal ≡ refused_at total new)
    → refusal ≢ e.Memory → whole ≡ Err refusal
err_goes asked total whole outcome go why new refusal led gives memory syntax some =
    let other : why ≢ fault.Memory = λ is. some (memory is) in
    subst (λ o. Led asked total whole o go) (gives other) led
    ∙ ap Err (sym (syntax other))
