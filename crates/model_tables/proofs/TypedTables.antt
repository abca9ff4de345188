-- A typed table of a structure within the limit on entries says a table without a fault.
use Rattle.std.proofs.Common.{◌≡◌, ℕ, suc, ◌≤◌, ◌<◌, List, [], ◌∷◌, ◌++◌, inl, inr, length}
use Rattle.std.proofs.Common.{Option, Some, None, true, false, ◌||◌, refl, sym, ap, ◌∙◌, subst}
use Rattle.std.proofs.Common.{arith}
use Rattle.std.proofs.Common.{Ok, Err, slice_index, get_or, ◌==◌, append_assoc}
use Rattle.std.specs.List.{list_any}
use Rattle.std.proofs.lemmas.Bool.{ne_eqb}
use Rattle.enc_base.specs.Counts.{most_entries}
use Rattle.tptp_words.specs.Text.{tokens}
use Rattle.tf_core.specs.declared.signature.Constructor.{Constructor}
use Rattle.tf_core.specs.declared.signature.Symbol.{Symbol}
use Rattle.tf_core.specs.declared.signature.Signature.{Signature}
use Rattle.tf_models.specs.declared.structure.TypedStructure.{TypedStructure}
use Rattle.tf_models.specs.Fit.{TablesFit}
use Rattle.tf_models.specs.Reading.{tables}
use Rattle.tf_models.proofs.WellFormed.{well_formed_fits}
use Rattle.model_tables.specs.declared.error.TableError.{TableError}
use Rattle.model_tables.specs.declared.form.Form.TheVariants.{Typed}
use Rattle.model_tables.specs.declared.form.Kind.{Kind}
use Rattle.model_tables.specs.declared.form.Kind.TheVariants as variant
use Rattle.model_tables.specs.Grammar.{Item, Table}
use Rattle.model_tables.specs.Places.{AtItemEnd}
use Rattle.model_tables.specs.Faults.{Asked, faults, is_wanted, entries_of, entry_faults}
use Rattle.model_tables.specs.Faults.{first_missing, wanted_before, limit_faults_of}
use Rattle.model_tables.specs.Items.{Once, HaveTables, tables_by}
use Rattle.model_tables.specs.Typed.{typed, typed_structure, typed_shape, read_so_far, IsTypedTable}
use Rattle.model_tables.specs.Typed.{constructor_want, symbol_want, constructor_wants, symbol_wants}
use Rattle.model_tables.specs.Typed.{constructor_shape, symbol_shape}
use Rattle.model_tables.specs.Typed.{constructor_entries, typed_entries}
use Rattle.model_tables.specs.Typed.{entries_unless, entries_by_kind, structure_entries}
use Rattle.model_tables.specs.TypedLaws.{TypedTablesAreSaid, TypedTablesAreNotRefused}
use Rattle.model_tables.specs.Refusals.{Says, IsRefused}
use Rattle.model_tables.proofs.Fronts.{HasNoFaults, clean_of_parts}
use Rattle.model_tables.proofs.NoFaults.{no_size_faults, no_limit_faults, no_name_faults}
use Rattle.model_tables.proofs.NoFaults.{no_entry_faults, new_at, found_at, nothing_missing}
use Rattle.model_tables.proofs.NoFaults.{tables_given}
use Rattle.model_tables.proofs.OneVerdict.{one_verdict}
use Rattle.model_tables.proofs.ItemsWritten.{tables_first, tables_behind}
use Rattle.model_tables.proofs.OneStructure.{no_symbols}
use Rattle.model_tables.proofs.Faultless.{HasShape, table_at, none_missing_still, none_missing_both}
use Rattle.model_tables.proofs.Faultless.{same_tables_still}
use Rattle.model_tables.proofs.TypedItems.{constructors_wanted, constructor_kind, symbol_kind}
use Rattle.model_tables.proofs.SymbolShapes.{constructor_shaped, symbol_shaped}
use Rattle.model_tables.proofs.TypedTexts.{entries_counted, image_at}
use Rattle.model_tables.proofs.JoinedItems.{IsOfEither, wanted_of, either_at, once_both}
use Rattle.model_tables.proofs.JoinedItems.{behind_types}
use Rattle.model_tables.proofs.JoinedItems.{first_constructor, first_symbol}

-- where each size has an element, the first sizes are no 0
no_zero : (sizes more : List ℕ)
    → ((i : ℕ) → i < length (sizes ++ more) → 0 < slice_index (sizes ++ more) i)
    → list_any (λ n. n == 0) sizes ≡ false
no_zero [] more some = refl
no_zero (n ∷ sizes) more some =
    let first = some 0 (omega arith) in
    ap (λ b. b || list_any (λ m. m == 0) sizes) (ne_eqb n 0 (λ none. omega (arith, first, none)))
    ∙ no_zero sizes more (λ i within. some (suc i) (omega (arith, within)))

module _ (text : List ℕ) (g : Signature) (s : TypedStructure) (is : IsTypedTable text g s)
    (few : structure_entries s ≤ most_entries)
  where
    abbrev asked : Asked
    asked = typed g

    abbrev items : List Item
    items = is.types ++ is.symbols

    abbrev whole : Table
    whole = record { sizes = s.sizes; items = items }

    -- the table up to these items
    abbrev up_to : List Item → Table
    up_to before = record { sizes = s.sizes; items = before }

    fit : TablesFit g (tables s)
    fit = well_formed_fits g s is.well_formed

    within : typed_entries g (tables s) ≤ most_entries
    within = subst (λ z. z ≤ most_entries) (entries_counted g s is.well_formed) few

    -- ---- the items

    have_constructors : HaveTables items (constructor_wants g) s.constructors
    have_constructors =
        tables_first is.types is.symbols (constructor_wants g) s.constructors
        is.constructor_tables.each

    have_symbols : HaveTables items (symbol_wants g) s.symbols
    have_symbols =
        tables_behind is.types is.symbols (symbol_wants g) s.symbols
        (no_symbols g.constructors g.symbols is.types is.constructor_tables.known)
        is.symbol_tables.each

    once : Once items
    once =
        once_both g is.types is.constructor_tables.known is.symbols is.symbol_tables.known
        is.constructor_tables.once is.symbol_tables.once

    either : (before more : List Item) (it : Item) → items ≡ before ++ it ∷ more
        → IsOfEither (constructor_wants g) (symbol_wants g) it
    either before more it split =
        either_at (constructor_wants g) (symbol_wants g) is.types is.symbols before more it
        is.constructor_tables.known is.symbol_tables.known split

    module _ (before more : List Item) (it : Item) (split : items ≡ before ++ it ∷ more) where
      own_entries : entries_of it.kind it.name items ≡ Some it.entries
      own_entries =
          ap (entries_of it.kind it.name) split
          ∙ found_at before more it (subst Once split once)

      -- the constructors' tables, where none of these is missing
      same_constructors : (front behind : List Item) → items ≡ front ++ behind
          → first_missing (constructor_wants g) front ≡ None
          → tables_by (constructor_wants g) front ≡ s.constructors
      same_constructors front behind cut none =
          sym (same_tables_still (constructor_wants g) front behind none)
          ∙ ap (tables_by (constructor_wants g)) (sym cut)
          ∙ tables_given (constructor_wants g) items s.constructors have_constructors

      -- no constructor is missing before a symbol's item
      complete : it.kind ≡ variant.Symbol → first_missing (constructor_wants g) before ≡ None
      complete own =
          let front = behind_types g is.types is.symbols before more it is.constructor_tables.known
          own split in
          ap (first_missing (constructor_wants g)) front.1
          ∙ none_missing_still (constructor_wants g) is.types front.0
          (nothing_missing (constructor_wants g) is.types s.constructors
          is.constructor_tables.each)

      complete_before : IsOfEither (constructor_wants g) (symbol_wants g) it
          → first_missing (wanted_before it.kind (constructor_wants g ++ symbol_wants g)) before
          ≡ None
      complete_before (inl wanted) =
          ap (λ k. first_missing (wanted_before k (constructor_wants g ++ symbol_wants g)) before)
          (constructor_kind g.constructors it.kind it.name wanted)
      complete_before (inr wanted) =
          let own = symbol_kind g.symbols it.kind it.name wanted in
          ap (λ k. first_missing (wanted_before k (constructor_wants g ++ symbol_wants g)) before)
          own ∙ ap (λ z. first_missing z before) (constructors_wanted g) ∙ complete own

      -- ---- the item of a constructor

      constructor_shape_kept : it.kind ≡ variant.Constructor
          → is_wanted it.kind it.name (constructor_wants g) ≡ true
          → HasShape (typed_shape g (up_to before) variant.Constructor it.name) it.entries
      constructor_shape_kept own wanted =
          let first = first_constructor g.constructors it.name
          (subst (λ k. is_wanted k it.name (constructor_wants g) ≡ true) own wanted) in
          let c : Constructor = first.item in
          let there : entries_of variant.Constructor c.name items
          ≡ Some (get_or s.constructors first.place []) =
          table_at items (constructor_wants g) s.constructors first.place (constructor_want c)
          have_constructors (image_at constructor_want g.constructors first.place c first.at) in
          let found : Some (get_or s.constructors first.place []) ≡ Some it.entries =
          sym there ∙ ap (λ z. entries_of variant.Constructor z items) first.own
          ∙ ap (λ k. entries_of k it.name items) (sym own) ∙ own_entries in
          let entries : get_or s.constructors first.place [] ≡ it.entries = cc in
          subst (λ o. HasShape (constructor_shape (length s.sizes) o) it.entries) (sym first.is)
          (subst (λ z. HasShape (constructor_shape (length s.sizes) (Some c)) z) entries
          (constructor_shaped (length s.sizes) c (get_or s.constructors first.place [])
          (fit.constructors.tables first.place c first.at)))

      limit_kept : limit_faults_of (entries_by_kind g (up_to (before ++ it ∷ []))
          variant.Constructor) ≡ []
      limit_kept = by (first_missing (constructor_wants g) (before ++ it ∷ [])) refl
        where
          by : (o : Option (List ℕ))
              → first_missing (constructor_wants g) (before ++ it ∷ []) ≡ o
              → limit_faults_of (entries_unless o
              (typed_entries g (read_so_far g (up_to (before ++ it ∷ []))))) ≡ []
          by (Some name) missing = refl
          by None none =
              let same = same_constructors (before ++ it ∷ []) more
              (split ∙ sym (append_assoc before (it ∷ []) more)) none in
              no_limit_faults (typed_entries g (read_so_far g (up_to (before ++ it ∷ []))))
              (subst (λ z. typed_entries g
              (record { sizes = s.sizes; constructors = z; symbols = s.symbols }) ≤ most_entries)
              (sym same) within)

      -- ---- the item of a symbol

      symbol_shape_kept : it.kind ≡ variant.Symbol
          → is_wanted it.kind it.name (symbol_wants g) ≡ true
          → HasShape (typed_shape g (up_to before) variant.Symbol it.name) it.entries
      symbol_shape_kept own wanted =
          let first = first_symbol g.symbols it.name
          (subst (λ k. is_wanted k it.name (symbol_wants g) ≡ true) own wanted) in
          let f : Symbol = first.item in
          let there : entries_of variant.Symbol f.name items
          ≡ Some (get_or s.symbols first.place []) =
          table_at items (symbol_wants g) s.symbols first.place (symbol_want f)
          have_symbols (image_at symbol_want g.symbols first.place f first.at) in
          let found : Some (get_or s.symbols first.place []) ≡ Some it.entries =
          sym there ∙ ap (λ z. entries_of variant.Symbol z items) first.own
          ∙ ap (λ k. entries_of k it.name items) (sym own) ∙ own_entries in
          let entries : get_or s.symbols first.place [] ≡ it.entries = cc in
          let same = same_constructors before (it ∷ more) split (complete own) in
          subst (λ o. HasShape (symbol_shape (read_so_far g (up_to before)) o) it.entries)
          (sym first.is)
          (subst (λ z. HasShape (symbol_shape
          (record { sizes = s.sizes; constructors = z; symbols = s.symbols }) (Some f)) it.entries)
          (sym same)
          (subst (λ z. HasShape (symbol_shape (tables s) (Some f)) z) entries
          (symbol_shaped (tables s) fit.constructors.inhabited.some f
          (get_or s.symbols first.place []) (fit.symbols first.place f first.at))))

      -- ---- no faults

      no_faults_of : (k : Kind) → it.kind ≡ k
          → HasShape (typed_shape g (up_to before) k it.name) it.entries
          → limit_faults_of (entries_by_kind g (up_to (before ++ it ∷ [])) k) ≡ []
          → faults asked (AtItemEnd (up_to before) it) ≡ []
      no_faults_of k own shape limit =
          ap (λ z. entry_faults (typed_shape g (up_to before) z it.name) it
          ++ limit_faults_of (entries_by_kind g (up_to (before ++ it ∷ [])) z)) own
          ∙ ap (λ z. z ++ limit_faults_of (entries_by_kind g (up_to (before ++ it ∷ [])) k))
          (no_entry_faults (typed_shape g (up_to before) k it.name) it shape.count shape.below)
          ∙ limit

      no_faults_at_end : IsOfEither (constructor_wants g) (symbol_wants g) it
          → faults asked (AtItemEnd (up_to before) it) ≡ []
      no_faults_at_end (inl wanted) =
          let own = constructor_kind g.constructors it.kind it.name wanted in
          no_faults_of variant.Constructor own (constructor_shape_kept own wanted) limit_kept
      no_faults_at_end (inr wanted) =
          let own = symbol_kind g.symbols it.kind it.name wanted in
          no_faults_of variant.Symbol own (symbol_shape_kept own wanted) refl

    no_faults : HasNoFaults asked whole
    no_faults = record {
      at_size = λ sizes more split.
          no_size_faults Typed sizes (no_zero sizes more
          (subst (λ z. (i : ℕ) → i < length z → 0 < slice_index z i) split
          fit.constructors.inhabited.each));
      at_sizes_end = no_limit_faults (constructor_entries g s.sizes) (omega (arith, within));
      at_name = λ before more it split.
          no_name_faults (constructor_wants g ++ symbol_wants g) before it.kind it.name
          (wanted_of it.kind it.name (constructor_wants g) (symbol_wants g)
          (either before more it split))
          (new_at before more it (subst Once split once))
          (complete_before before more it split (either before more it split));
      at_item_end = λ before more it split.
          no_faults_at_end before more it split (either before more it split);
    }

    says : Says asked text whole
    says = record {
      words = is.words;
      is_text = is.is_text;
      derives = is.derives;
      clean = clean_of_parts asked whole no_faults (tokens is.words) is.derives;
      complete = none_missing_both (constructor_wants g) (symbol_wants g) items
          (nothing_missing (constructor_wants g) items s.constructors have_constructors)
          (nothing_missing (symbol_wants g) items s.symbols have_symbols);
    }

    pub said : (t : Table) × Says asked text t × (typed_structure g t ≡ s)
    said = (
      whole,
      says,
      ap (λ z. record {
        sizes = s.sizes;
        constructors = z;
        symbols = tables_by (symbol_wants g) items;
      }) (tables_given (constructor_wants g) items s.constructors have_constructors)
          ∙ ap (λ z. record { sizes = s.sizes; constructors = s.constructors; symbols = z })
          (tables_given (symbol_wants g) items s.symbols have_symbols),
    )

    pub not_refused : (fault : TableError) → IsRefused asked text fault → ⊥
    not_refused fault refused =
        let same = one_verdict asked text (Ok whole) (Err fault) says refused in cc

pub typed_tables_are_said : TypedTablesAreSaid
typed_tables_are_said = said

pub typed_tables_are_not_refused : TypedTablesAreNotRefused
typed_tables_are_not_refused text g s fault is few = not_refused text g s is few fault
