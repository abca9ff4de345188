-- The places of a text that derives a table are parts of the table: so no fault stands in the text
-- where none stands at these.
use Rattle.std.proofs.Common.{◌≡◌, ℕ, List, [], ◌∷◌, ◌++◌, Option, Some, None, refl, sym, ap, ◌∙◌}
use Rattle.std.proofs.Common.{subst}
use Rattle.std.proofs.Common.{append_assoc, append-nil}
use Rattle.std.specs.Option.{option_map}
use Rattle.tptp_words.specs.Text.{Token}
use Rattle.model_tables.specs.declared.form.Form.{Form}
use Rattle.model_tables.specs.declared.form.Form.TheVariants.{Typed, Untyped}
use Rattle.model_tables.specs.Grammar.{Item, Table, number, stop, equals, item_kind, item_name}
use Rattle.model_tables.specs.Grammar.{table}
use Rattle.model_tables.specs.Places.{Place, AtSize, AtSizesEnd, AtName, AtItemEnd, Reaches}
use Rattle.model_tables.specs.Faults.{Asked, faults}
use Rattle.model_tables.specs.Refusals.{IsClean, Derive}
use Rattle.model_tables.specs.Steps.{State, Start, Stands}
use Rattle.model_tables.specs.Steps.{HasKind, Filling, step, first_some, more_size, with_item}
use Rattle.model_tables.specs.Steps.{with_no_items, run, bind, table_at}
use Rattle.model_tables.proofs.Runs.{run_append}
use Rattle.model_tables.proofs.Complete.{reached_runs, derived_runs}
use Rattle.model_tables.proofs.Said.{mapped}

-- ---- parts of a table

-- The table has these sizes, and the items go on behind these.
pub record HasFront (t before : Table) (more : List Item) : Type 0 where
  pub sizes : t.sizes ≡ before.sizes
  pub items : t.items ≡ before.items ++ more

-- what is said in the state is a part of the table
abbrev pub IsPart : Table → State → Type 0
IsPart t (Stands (AtSize sizes)) = (more : List ℕ) × (t.sizes ≡ sizes ++ more)
IsPart t (Stands (AtSizesEnd sizes)) = t.sizes ≡ sizes
IsPart t (Stands (AtName before kind name)) =
    (entries : List ℕ) × (more : List Item)
    × HasFront t before (record { kind = kind; name = name; entries = entries } ∷ more)
IsPart t (Stands (AtItemEnd before it)) = (more : List Item) × HasFront t before (it ∷ more)
IsPart t (HasKind before kind) =
    (name entries : List ℕ) × (more : List Item)
    × HasFront t before (record { kind = kind; name = name; entries = entries } ∷ more)
IsPart t (Filling before kind name front) =
    (entries : List ℕ) × (more : List Item)
    × HasFront t before (record { kind = kind; name = name; entries = entries } ∷ more)
IsPart t _ = Unit {0}

-- ---- states before a table's end

module _ (form : Form) (t : Table) where
  ended : (s : State) → table_at s ≡ Some t → IsPart t s
  ended (Stands (AtSizesEnd sizes)) ends =
      let same : with_no_items sizes ≡ t = cc in ap (λ (z : Table). z.sizes) (sym same)
  ended (Stands (AtItemEnd before it)) ends =
      let same : with_item before it ≡ t = cc in (
        [],
        record {
          sizes = ap (λ (z : Table). z.sizes) (sym same);
          items = ap (λ (z : Table). z.items) (sym same);
        },
      )
  ended _ ends = cc

  -- what is a part with a word more is one without it
  earlier : (s u : State) (w : Token) → step form s w ≡ Some u → IsPart t u → IsPart t s
  earlier (Stands (AtSize sizes)) u w is part = by (stop w) is
    where
      more : (f : Form) → more_size f sizes w ≡ Some u → (rest : List ℕ) × (t.sizes ≡ sizes ++ rest)
      more Typed same =
          let o = mapped (λ n. Stands (AtSize (sizes ++ n ∷ []))) (number w) u same in
          let found = subst (λ z. IsPart t z) (sym o.2) part in
          (o.0 ∷ found.0, found.1 ∙ append_assoc sizes (o.0 ∷ []) found.0)
      more Untyped same = cc

      by : (o : Option (Unit {0}))
          → first_some (option_map (λ _. Stands (AtSizesEnd sizes)) o) (more_size form sizes w)
          ≡ Some u → (rest : List ℕ) × (t.sizes ≡ sizes ++ rest)
      by None same = more form same
      by (Some v) same =
          let at : u ≡ Stands (AtSizesEnd sizes) = cc in
          ([], subst (λ z. IsPart t z) at part ∙ sym (append-nil sizes))
  earlier (Stands (AtSizesEnd sizes)) u w is part =
      let o = mapped (λ k. HasKind (with_no_items sizes) k) (item_kind form w) u is in
      let found = subst (λ z. IsPart t z) (sym o.2) part in
      found.3.sizes
  earlier (Stands (AtItemEnd before it)) u w is part =
      let o = mapped (λ k. HasKind (with_item before it) k) (item_kind form w) u is in
      let found = subst (λ z. IsPart t z) (sym o.2) part in
      let next : Item = record { kind = o.0; name = found.0; entries = found.1 } in (
        next ∷ found.2,
        record {
          sizes = found.3.sizes;
          items = found.3.items ∙ append_assoc before.items (it ∷ []) (next ∷ found.2);
        },
      )
  earlier (Stands (AtName before kind name)) u w is part =
      let o = mapped (λ _. Filling before kind name []) (equals w) u is in
      subst (λ z. IsPart t z) (sym o.2) part
  earlier (HasKind before kind) u w is part =
      let o = mapped (λ name. Stands (AtName before kind name)) (item_name kind w) u is in
      let found = subst (λ z. IsPart t z) (sym o.2) part in
      (o.0, found.0, found.1, found.2)
  earlier (Filling before kind name entries) u w is part = by (stop w) is
    where
      by : (o : Option (Unit {0}))
          → first_some (option_map (λ _. Stands (AtItemEnd before
          (record { kind = kind; name = name; entries = entries }))) o)
          (option_map (λ n. Filling before kind name (entries ++ n ∷ [])) (number w))
          ≡ Some u → IsPart t (Filling before kind name entries)
      by None same =
          let o = mapped (λ n. Filling before kind name (entries ++ n ∷ [])) (number w) u same in
          subst (λ z. IsPart t z) (sym o.2) part
      by (Some v) same =
          let at : u ≡ Stands (AtItemEnd before
          (record { kind = kind; name = name; entries = entries })) = cc in
          let found = subst (λ z. IsPart t z) at part in
          (entries, found.0, found.1)
  earlier _ u w is part = tt

  -- what is said before words that lead to the table's end is a part of it
  before_end : (ws : List Token) (s e : State) → run form s ws ≡ Some e → table_at e ≡ Some t
      → IsPart t s
  before_end [] s e runs ends =
      let same : s ≡ e = cc in ended s (ap table_at same ∙ ends)
  before_end (w ∷ ws) s e runs ends = by (step form s w) refl runs (λ u. before_end ws u e)
    where
      by : (o : Option State) → step form s w ≡ o → bind o (λ u. run form u ws) ≡ Some e
          → ((u : State) → run form u ws ≡ Some e → table_at e ≡ Some t → IsPart t u) → IsPart t s
      by None steps same next = cc
      by (Some u) steps same next = earlier s u w steps (next u same ends)

  -- a place of a text that derives the table is a part of it
  pub reached_part : (ws mid : List Token) (place : Place) → (table form).derives ws [] t
      → Reaches form ws mid place → IsPart t (Stands place)
  reached_part ws mid place derives reached =
      let whole = derived_runs form ws [] t derives in
      let front = reached_runs form ws mid place reached in
      let all : whole.1.front ≡ front.front ++ mid =
      sym (append-nil whole.1.front) ∙ sym whole.1.is ∙ front.is in
      let goes : run form Start (front.front ++ mid) ≡ run form (Stands place) mid =
      run_append form Start front.front mid
      ∙ ap (λ (o : Option State). bind o (λ s. run form s mid)) front.runs in
      before_end mid (Stands place) whole.0
      (sym goes ∙ ap (run form Start) (sym all) ∙ whole.1.runs) whole.2

-- ---- tables without faults

-- No fault stands at a part of the table: at its first sizes, at their end, and at the name and the
-- end of each item behind those before it.
pub record HasNoFaults (asked : Asked) (t : Table) : Type 0 where
  pub at_size : (sizes more : List ℕ) → t.sizes ≡ sizes ++ more
      → faults asked (AtSize sizes) ≡ []
  pub at_sizes_end : faults asked (AtSizesEnd t.sizes) ≡ []
  pub at_name : (before more : List Item) (it : Item) → t.items ≡ before ++ it ∷ more
      → faults asked (AtName (record { sizes = t.sizes; items = before }) it.kind it.name) ≡ []
  pub at_item_end : (before more : List Item) (it : Item) → t.items ≡ before ++ it ∷ more
      → faults asked (AtItemEnd (record { sizes = t.sizes; items = before }) it) ≡ []

module _ (asked : Asked) (t : Table) (none : HasNoFaults asked t) where
  no_fault : (place : Place) → IsPart t (Stands place) → faults asked place ≡ []
  no_fault (AtSize sizes) (more, is) = none.at_size sizes more is
  no_fault (AtSizesEnd sizes) is =
      subst (λ z. faults asked (AtSizesEnd z) ≡ []) is none.at_sizes_end
  no_fault (AtName before kind name) (entries, more, front) =
      let it : Item = record { kind = kind; name = name; entries = entries } in
      subst (λ z. faults asked (AtName (record { sizes = z; items = before.items }) kind name) ≡ [])
      front.sizes (none.at_name before.items more it front.items)
  no_fault (AtItemEnd before it) (more, front) =
      subst (λ z. faults asked (AtItemEnd (record { sizes = z; items = before.items }) it) ≡ [])
      front.sizes (none.at_item_end before.items more it front.items)

  -- no fault stands in a text that derives the table
  pub clean_of_parts : (ws : List Token) → Derive asked ws t → IsClean asked ws []
  clean_of_parts ws derives mid place reached long =
      no_fault place (reached_part asked.form t ws mid place derives reached)
