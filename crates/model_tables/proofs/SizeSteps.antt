-- The sizes of a typed table, one after another, and the full stop behind them.
use Rattle.std.proofs.Common.{◌≡◌, ℕ, zero, suc, ◌+◌, ◌≤◌, ◌<◌, List, [], ◌∷◌, ◌++◌, length, Option}
use Rattle.std.proofs.Common.{Some, None, Ok, Err, Bool, true, false, refl, sym, ap, ◌∙◌, subst, arith}
use Rattle.std.proofs.Common.{◌||◌, ◌==◌, get_or, eqb-true, replicate}
use Rattle.std.specs.Prelude.{sum, sum_by}
use Rattle.std.proofs.lemmas.List.Sums.{sum-map}
use Rattle.std.proofs.lemmas.Bool.{eqb-false}
use Rattle.std.proofs.lemmas.List.Folds.{list_any-append}
use Rattle.std.specs.List.{list_any}
use Rattle.std.specs.Option.{option_map}
use Rattle.tptp_words.specs.declared.word.WordError.{WordError}
use Rattle.tptp_words.specs.Text.{Token, Placed, tokens}
use Rattle.tptp_words.specs.Scanning.{Left}
use Rattle.tptp_phrases.specs.Readers.{seen, take_word, take_from, taken}
use Rattle.tf_core.specs.declared.signature.Signature.{Signature}
use Rattle.enc_base.specs.Tables.{tuple_count}
use Rattle.enc_base.specs.Counts.{in_64_bits}
use Rattle.tf_core.specs.declared.signature.Constructor.{Constructor}
use Rattle.model_tables.specs.declared.error.TableError.{TableError}
use Rattle.model_tables.specs.declared.error.TableError.TheVariants as e
use Rattle.model_tables.specs.declared.form.Form.TheVariants.{Typed}
use Rattle.model_tables.specs.Grammar.{number, stop, size_word}
use Rattle.model_tables.specs.Places.{AtSize, AtSizesEnd}
use Rattle.model_tables.specs.Faults.{fault_if, size_faults}
use Rattle.model_tables.specs.Steps.{State, Stands, step, first_some, more_size, answer_behind, answer_from}
use Rattle.model_tables.specs.Ahead.{first_as, rest_of, behind_first}
use Rattle.model_tables.specs.Leads.{lead, arrive, Led}
use Rattle.model_tables.specs.Typed.{typed, constructor_entries}
use Rattle.model_tables.specs.Checks.{first_fault}
use Rattle.model_tables.proofs.Complete.{number_no_stop}
use Rattle.model_tables.proofs.Checked.{unless-none, unless-some}

-- ---- no size is 0

abbrev pub AllPositive : List ℕ → Type 0
AllPositive sizes = (i : ℕ) → i < length sizes → 0 < get_or sizes i 0

none_zero : (sizes : List ℕ) → AllPositive sizes → list_any (λ n. n == 0) sizes ≡ false
none_zero [] each = refl
none_zero (n ∷ sizes) each =
    by (n == 0) refl (none_zero sizes (λ i within. each (suc i) (omega arith)))
  where
    by : (b : Bool) → (n == 0) ≡ b → list_any (λ m. m == 0) sizes ≡ false
        → (b || list_any (λ m. m == 0) sizes) ≡ false
    by true is others =
        let none = eqb-true n 0 is in
        absurd (omega (arith, each 0 (omega arith), none))
    by false is others = others

or_false : (b : Bool) → (b || false) ≡ b
or_false true = refl
or_false false = refl

-- the faults of one size more
pub size_faults-more : (sizes : List ℕ) (n : ℕ) → AllPositive sizes
    → size_faults Typed (sizes ++ n ∷ []) ≡ fault_if (n == 0) (e.OutOfRange (size_word Typed) 0)
size_faults-more sizes n each =
    ap (λ b. fault_if b (e.OutOfRange (size_word Typed) 0))
    (list_any-append (λ m. m == 0) sizes (n ∷ [])
    ∙ ap (λ b. b || ((n == 0) || false)) (none_zero sizes each)
    ∙ or_false (n == 0))

-- a size without a fault is positive
pub size_positive : (n : ℕ) (fault : TableError) → fault_if (n == 0) fault ≡ [] → 0 < n
size_positive n fault none = by (n == 0) refl none
  where
    by : (b : Bool) → (n == 0) ≡ b → fault_if b fault ≡ [] → 0 < n
    by true is same = cc
    by false is same = let other = eqb-false n 0 is in omega arith

pub positive_more : (sizes : List ℕ) (n : ℕ) → AllPositive sizes → 0 < n
    → AllPositive (sizes ++ n ∷ [])
positive_more [] n each some zero within = some
positive_more [] n each some (suc i) within = absurd (omega arith)
positive_more (m ∷ sizes) n each some zero within = each 0 (omega arith)
positive_more (m ∷ sizes) n each some (suc i) within =
    positive_more sizes n (λ j inside. each (suc j) (omega arith)) some i (omega arith)

-- ---- words

module _ (g : Signature) (total : ℕ) (sizes : List ℕ) where
  step_size : (w : Token) (n : ℕ) → number w ≡ Some n
      → step Typed (Stands (AtSize sizes)) w ≡ Some (Stands (AtSize (sizes ++ n ∷ [])))
  step_size w n is =
      ap (λ o. first_some (option_map (λ _. Stands (AtSizesEnd sizes)) o) (more_size Typed sizes w))
      (number_no_stop w n is)
      ∙ ap (option_map (λ m. Stands (AtSize (sizes ++ m ∷ [])))) is

  size_from : (words : List Placed) (fault : Option WordError) (n : ℕ)
      → first_as number (tokens words) ≡ Some n
      → answer_from (typed g) total (Stands (AtSize sizes)) words fault
      ≡ arrive (typed g) total (Stands (AtSize (sizes ++ n ∷ []))) (behind_first words fault)
  size_from [] fault n is = cc
  size_from (w ∷ ws) fault n is =
      ap (λ (o : Option State). answer_behind (typed g) w.from o
      (λ t. answer_from (typed g) total t ws fault)) (step_size w.token n is)

  -- one size more
  pub next_size : (left : Left) (n : ℕ) → first_as number (seen left) ≡ Some n
      → lead (typed g) total (Stands (AtSize sizes)) left
      ≡ arrive (typed g) total (Stands (AtSize (sizes ++ n ∷ []))) (rest_of left)
  next_size left n is = size_from left.words left.fault n is

  -- one size more, which is not 0
  pub size_goes : (left next : Left) (n : ℕ) (more : List ℕ) → AllPositive sizes
      → first_as number (seen left) ≡ Some n → next ≡ rest_of left
      → fault_if (n == 0) (e.OutOfRange (size_word Typed) 0) ≡ [] → more ≡ sizes ++ n ∷ []
      → lead (typed g) total (Stands (AtSize sizes)) left
      ≡ lead (typed g) total (Stands (AtSize more)) next
  size_goes left next n more each is rest none all =
      next_size left n is
      ∙ unless-none (size_faults Typed (sizes ++ n ∷ []))
      (lead (typed g) total (Stands (AtSize (sizes ++ n ∷ []))) (rest_of left))
      (size_faults-more sizes n each ∙ none)
      ∙ ap (λ z. lead (typed g) total (Stands (AtSize z)) (rest_of left)) (sym all)
      ∙ ap (lead (typed g) total (Stands (AtSize more))) (sym rest)

  -- one size more, which is at fault
  pub size_refused : (left : Left) (n : ℕ) (fault : TableError) → AllPositive sizes
      → first_as number (seen left) ≡ Some n
      → first_fault (fault_if (n == 0) (e.OutOfRange (size_word Typed) 0)) ≡ Some fault
      → lead (typed g) total (Stands (AtSize sizes)) left ≡ Err fault
  size_refused left n fault each is some =
      next_size left n is
      ∙ unless-some (size_faults Typed (sizes ++ n ∷ []))
      (lead (typed g) total (Stands (AtSize (sizes ++ n ∷ []))) (rest_of left)) fault
      (ap first_fault (size_faults-more sizes n each) ∙ some)

  stop_from : (words : List Placed) (fault : Option WordError) → first_as number (tokens words) ≡ None
      → Led (typed g) total (answer_from (typed g) total (Stands (AtSize sizes)) words fault)
      (take_from stop words fault) (λ _. Stands (AtSizesEnd sizes))
  stop_from [] None none = refl
  stop_from [] (Some error) none = refl
  stop_from (w ∷ ws) fault none = by (stop w.token) refl
    where
      by : (o : Option (Unit {0})) → stop w.token ≡ o
          → Led (typed g) total (answer_from (typed g) total (Stands (AtSize sizes)) (w ∷ ws) fault)
          (taken w ws fault o) (λ _. Stands (AtSizesEnd sizes))
      by None is =
          ap (λ (o : Option State). answer_behind (typed g) w.from o
          (λ t. answer_from (typed g) total t ws fault))
          (ap (λ o. first_some (option_map (λ _. Stands (AtSizesEnd sizes)) o)
          (more_size Typed sizes w.token)) is
          ∙ ap (option_map (λ m. Stands (AtSize (sizes ++ m ∷ [])))) none)
      by (Some u) is =
          ap (λ (o : Option State). answer_behind (typed g) w.from o
          (λ t. answer_from (typed g) total t ws fault))
          (ap (λ o. first_some (option_map (λ _. Stands (AtSizesEnd sizes)) o)
          (more_size Typed sizes w.token)) is)

  -- the full stop, where no size stands next
  pub led_stop : (left : Left) → first_as number (seen left) ≡ None
      → Led (typed g) total (lead (typed g) total (Stands (AtSize sizes)) left)
      (take_word stop left) (λ _. Stands (AtSizesEnd sizes))
  unfolding take_word
  led_stop left none = stop_from left.words left.fault none

-- ---- counts

-- the sizes and the tables of the constructors, each counted as far as 64 bits go
pub counted_sizes : (g : Signature) (sizes : List ℕ) (members entries : ℕ)
    (constructors : List Constructor) → constructors ≡ g.constructors
    → members ≡ in_64_bits (sum sizes)
    → entries ≡ in_64_bits (sum_by (λ (c : Constructor).
    tuple_count (replicate c.arity (length sizes))) constructors)
    → in_64_bits (members + entries) ≡ in_64_bits (constructor_entries g sizes)
counted_sizes g sizes members entries constructors same first second =
    let all = ap (λ cs. sum_by (λ (c : Constructor).
    tuple_count (replicate c.arity (length sizes))) cs) same in
    let mapped = sum-map (λ (c : Constructor). tuple_count (replicate c.arity (length sizes)))
    g.constructors in
    omega (arith, first, second, all, mapped)
