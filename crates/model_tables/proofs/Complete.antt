-- Where words derive or begin a part of a table, the reading of words comes to the state of that part.
use Rattle.std.proofs.Common.{◌≡◌, ℕ, List, [], ◌∷◌, ◌++◌, Option, Some, None, refl, sym, ap, ◌∙◌, subst}
use Rattle.std.specs.Option.{option_map}
use Rattle.tptp_words.specs.declared.word.WordKind.{WordKind}
use Rattle.tptp_words.specs.declared.word.WordKind.TheVariants.{Number}
use Rattle.tptp_words.specs.Text.{Token}
use Rattle.tptp_words.specs.Words.{digits_of, mark_of}
use Rattle.std.specs.Prelude.{codes}
use Rattle.tptp_phrases.specs.Phrase.{Phrase, empty, word, many, ◌>>=◌}
use Rattle.model_tables.specs.declared.form.Form.{Form}
use Rattle.model_tables.specs.declared.form.Form.TheVariants.{Typed, Untyped}
use Rattle.model_tables.specs.declared.form.Kind.{Kind}
use Rattle.model_tables.specs.Grammar.{Item, Table, form_word, size_word, format, stop, equals, number}
use Rattle.model_tables.specs.Grammar.{number_of, item_kind, item_name, more_sizes, opening}
use Rattle.model_tables.specs.Grammar.{closed_opening, heading, item, table}
use Rattle.model_tables.specs.Places.{Place, AtSize, AtSizesEnd, AtName, AtItemEnd, Reaches}
use Rattle.model_tables.specs.Steps.{State, Start, AtFormat, AtStop, AtSizeWord, AtFirstSize, Stands}
use Rattle.model_tables.specs.Steps.{HasKind, Filling, step, first_some, more_size, table_at, with_item}
use Rattle.model_tables.specs.Steps.{with_no_items}
use Rattle.model_tables.proofs.Runs.{Run, run_then}
use Rattle.model_tables.proofs.Follows.{Follows, follows_empty, follows_word, follows_seq}
use Rattle.model_tables.proofs.Follows.{follows_then, follows_weaker, follows_many}

no_stop : (kind : WordKind) (s : List ℕ) (n : ℕ) → number_of (digits_of kind s) ≡ Some n
    → mark_of (codes ".") kind s ≡ None
no_stop Number s n is = refl
no_stop _ s n is = cc

-- a number is no full stop
pub number_no_stop : (w : Token) (n : ℕ) → number w ≡ Some n → stop w ≡ None
number_no_stop w n is = no_stop w.kind w.spelling n is

-- a word of a kind leads on from where a table may end
pub step_kind : (form : Form) (s : State) (t : Table) (w : Token) (kind : Kind)
    → table_at s ≡ Some t → item_kind form w ≡ Some kind → step form s w ≡ Some (HasKind t kind)
step_kind form (Stands (AtSizesEnd sizes)) t w kind is takes =
    ap (λ o. option_map (λ k. HasKind (with_no_items sizes) k) o) takes
    ∙ ap (λ (o : Option Table). option_map (λ z. HasKind z kind) o) is
step_kind form (Stands (AtItemEnd before it)) t w kind is takes =
    ap (λ o. option_map (λ k. HasKind (with_item before it) k) o) takes
    ∙ ap (λ (o : Option Table). option_map (λ z. HasKind z kind) o) is
step_kind form _ t w kind is takes = cc

-- one more number behind those of an item
pub fills : (form : Form) (before : Table) (kind : Kind) (name entries : List ℕ) (w : Token) (n : ℕ)
    → number w ≡ Some n
    → step form (Filling before kind name entries) w
    ≡ Some (Filling before kind name (entries ++ n ∷ []))
fills form before kind name entries w n takes =
    ap (λ o. first_some (option_map (λ _. Stands (AtItemEnd before
    (record { kind = kind; name = name; entries = entries }))) o)
    (option_map (λ m. Filling before kind name (entries ++ m ∷ [])) (number w)))
    (number_no_stop w n takes)
    ∙ ap (λ o. option_map (λ m. Filling before kind name (entries ++ m ∷ [])) o) takes

more_size_step : (sizes : List ℕ) (w : Token) (n : ℕ) → number w ≡ Some n
    → step Typed (Stands (AtSize sizes)) w ≡ Some (Stands (AtSize (sizes ++ n ∷ [])))
more_size_step sizes w n takes =
    ap (λ o. first_some (option_map (λ _. Stands (AtSizesEnd sizes)) o) (more_size Typed sizes w))
    (number_no_stop w n takes)
    ∙ ap (λ o. option_map (λ m. Stands (AtSize (sizes ++ m ∷ []))) o) takes

follows_more : (form : Form) (n : ℕ)
    → Follows form (Stands (AtSize (n ∷ []))) (more_sizes form)
    (λ more t. t ≡ Stands (AtSize (n ∷ more)))
follows_more Untyped n = follows_empty Untyped _ [] _ refl
follows_more Typed n =
    follows_many Typed (word number) (λ found t. t ≡ Stands (AtSize (n ∷ found)))
    (λ found t is. subst (λ z. Follows Typed z (word number)
    (λ a u. u ≡ Stands (AtSize (n ∷ (found ++ a ∷ []))))) (sym is)
    (follows_word Typed _ number (λ m. Stands (AtSize (n ∷ (found ++ m ∷ []))))
    (more_size_step (n ∷ found))))
    _ refl

module _ (form : Form) where
  pub follows_opening : Follows form Start (opening form) (λ sizes t. t ≡ Stands (AtSize sizes))
  follows_opening =
      follows_then form Start _ (λ _. AtFormat) _ _
      (λ w a takes. ap (λ o. option_map (λ _. AtFormat) o) takes) (λ _.
      follows_then form AtFormat _ (λ _. AtStop) _ _
      (λ w a takes. ap (λ o. option_map (λ _. AtStop) o) takes) (λ _.
      follows_then form AtStop _ (λ _. AtSizeWord) _ _
      (λ w a takes. ap (λ o. option_map (λ _. AtSizeWord) o) takes) (λ _.
      follows_then form AtSizeWord _ (λ _. AtFirstSize) _ _
      (λ w a takes. ap (λ o. option_map (λ _. AtFirstSize) o) takes) (λ _.
      follows_then form AtFirstSize _ (λ n. Stands (AtSize (n ∷ []))) _ _
      (λ w a takes. ap (λ o. option_map (λ n. Stands (AtSize (n ∷ []))) o) takes) (λ n.
      follows_seq form _ (more_sizes form) _ _ _ (follows_more form n) (λ more t is.
      follows_empty form t (n ∷ more) _ is))))))

  pub follows_closed : Follows form Start (closed_opening form)
      (λ sizes t. t ≡ Stands (AtSizesEnd sizes))
  follows_closed =
      follows_seq form Start (opening form) _ _ _ follows_opening (λ sizes t is.
      subst (λ z. Follows form z (word stop >>= (λ _. empty sizes))
      (λ s u. u ≡ Stands (AtSizesEnd s))) (sym is)
      (follows_then form (Stands (AtSize sizes)) stop (λ _. Stands (AtSizesEnd sizes)) _ _
      (λ w a takes. ap (λ o. first_some (option_map (λ _. Stands (AtSizesEnd sizes)) o)
      (more_size form sizes w)) takes) (λ _.
      follows_empty form (Stands (AtSizesEnd sizes)) sizes _ refl)))

  pub follows_heading : (s : State) (before : Table) → table_at s ≡ Some before
      → Follows form s (heading form) (λ head t. t ≡ Stands (AtName before head.0 head.1))
  follows_heading s before ends =
      follows_then form s (item_kind form) (λ kind. HasKind before kind) _ _
      (λ w kind takes. step_kind form s before w kind ends takes) (λ kind.
      follows_then form (HasKind before kind) (item_name kind)
      (λ name. Stands (AtName before kind name)) _ _
      (λ w name takes. ap (λ o. option_map (λ n. Stands (AtName before kind n)) o) takes) (λ name.
      follows_empty form _ (kind, name) _ refl))

  follows_entries : (before : Table) (kind : Kind) (name : List ℕ)
      → Follows form (Filling before kind name []) (many (word number))
      (λ entries t. t ≡ Filling before kind name entries)
  follows_entries before kind name =
      follows_many form (word number) (λ found t. t ≡ Filling before kind name found)
      (λ found t is. subst (λ z. Follows form z (word number)
      (λ a u. u ≡ Filling before kind name (found ++ a ∷ []))) (sym is)
      (follows_word form _ number (λ m. Filling before kind name (found ++ m ∷ []))
      (fills form before kind name found)))
      _ refl

  pub follows_item : (s : State) (before : Table) → table_at s ≡ Some before
      → Follows form s (item form) (λ it t. t ≡ Stands (AtItemEnd before it))
  follows_item s before ends =
      follows_seq form s (heading form) _ _ _ (follows_heading s before ends) (λ head t is.
      subst (λ z. Follows form z (word equals >>= (λ _. many (word number) >>= (λ entries.
      word stop >>= (λ _.
      empty (record { kind = head.0; name = head.1; entries = entries })))))
      (λ it u. u ≡ Stands (AtItemEnd before it))) (sym is)
      (follows_then form (Stands (AtName before head.0 head.1)) equals
      (λ _. Filling before head.0 head.1 []) _ _
      (λ w a takes. ap (λ o. option_map (λ _. Filling before head.0 head.1 []) o) takes) (λ _.
      follows_seq form _ (many (word number)) _ _ _ (follows_entries before head.0 head.1)
      (λ entries u at. subst (λ z. Follows form z (word stop >>= (λ _.
      empty (record { kind = head.0; name = head.1; entries = entries })))
      (λ it v. v ≡ Stands (AtItemEnd before it))) (sym at)
      (follows_then form (Filling before head.0 head.1 entries) stop
      (λ _. Stands (AtItemEnd before
      (record { kind = head.0; name = head.1; entries = entries }))) _ _
      (λ w a takes. ap (λ o. first_some (option_map (λ _. Stands (AtItemEnd before
      (record { kind = head.0; name = head.1; entries = entries }))) o)
      (option_map (λ n. Filling before head.0 head.1 (entries ++ n ∷ [])) (number w))) takes)
      (λ _. follows_empty form _ _ _ refl))))))

  pub follows_table : Follows form Start (table form) (λ t s. table_at s ≡ Some t)
  follows_table =
      follows_seq form Start (closed_opening form) _ _ _ follows_closed (λ sizes s is.
      follows_seq form s (many (item form)) _
      (λ items u. table_at u ≡ Some (record { sizes = sizes; items = items })) _
      (follows_many form (item form)
      (λ items u. table_at u ≡ Some (record { sizes = sizes; items = items }))
      (λ found u ends. follows_weaker form u (item form) _ _
      (follows_item u (record { sizes = sizes; items = found }) ends)
      (λ it v at. ap table_at at)) s (ap table_at is))
      (λ items u ends. follows_empty form u (record { sizes = sizes; items = items }) _ ends))

  -- words that come to a place lead to its state
  pub reached_runs : (ws rest : List Token) (place : Place) → Reaches form ws rest place
      → Run form Start ws rest (Stands place)
  reached_runs ws rest (AtSize sizes) d =
      let one = follows_opening.whole ws rest sizes d in
      subst (λ z. Run form Start ws rest z) one.2 one.1
  reached_runs ws rest (AtSizesEnd sizes) d =
      let one = follows_closed.whole ws rest sizes d in
      subst (λ z. Run form Start ws rest z) one.2 one.1
  reached_runs ws rest (AtName before kind name) (mid, first, second) =
      let one = follows_table.whole ws mid before first in
      let two = (follows_heading one.0 before one.2).whole mid rest (kind, name) second in
      run_then form Start one.0 (Stands (AtName before kind name)) ws mid rest one.1
      (subst (λ z. Run form one.0 mid rest z) two.2 two.1)
  reached_runs ws rest (AtItemEnd before it) (mid, first, second) =
      let one = follows_table.whole ws mid before first in
      let two = (follows_item one.0 before one.2).whole mid rest it second in
      run_then form Start one.0 (Stands (AtItemEnd before it)) ws mid rest one.1
      (subst (λ z. Run form one.0 mid rest z) two.2 two.1)

  -- words that derive a table lead to a state in which it may end
  pub derived_runs : (ws rest : List Token) (t : Table) → (table form).derives ws rest t
      → (s : State) × Run form Start ws rest s × (table_at s ≡ Some t)
  derived_runs ws rest t d = follows_table.whole ws rest t d

  -- words that begin a table lead to some state
  pub begun_runs : (ws rest : List Token) → (table form).begins ws rest
      → (s : State) × Run form Start ws rest s
  begun_runs ws rest b = follows_table.begun ws rest b
