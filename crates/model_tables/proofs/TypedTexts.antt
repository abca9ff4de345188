-- A text in which no fault stands is a typed table of a structure.
use Rattle.std.proofs.Common.{◌≡◌, ℕ, zero, suc, ◌+◌, ◌≤◌, ◌<◌, List, [], ◌∷◌, ◌++◌, length, map}
use Rattle.std.proofs.Common.{Some, None, Bool, true, false, refl, sym, ap, ◌∙◌, subst, arith}
use Rattle.std.proofs.Common.{slice_get, slice_index, get_or, replicate, ◌==◌, append_assoc}
use Rattle.std.specs.Prelude.{if◌then◌else◌, sum}
use Rattle.std.specs.Option.{option_map}
use Rattle.std.specs.List.{list_any}
use Rattle.std.proofs.lemmas.List.{length-map}
use Rattle.std.proofs.lemmas.List.Folds.{list_any_at}
use Rattle.std.proofs.lemmas.Option.{slice_get-map}
use Rattle.tptp_words.specs.Words.{same}
use Rattle.tptp_words.specs.Text.{Token, tokens}
use Rattle.tptp_phrases.specs.Phrase.{empty, word, ◌>>=◌}
use Rattle.enc_base.specs.Tables.{tuple_count}
use Rattle.enc_base.specs.Counts.{most_entries}
use Rattle.tf_core.specs.declared.signature.Constructor.{Constructor}
use Rattle.tf_core.specs.declared.signature.Symbol.{Symbol}
use Rattle.tf_core.specs.declared.signature.Signature.{Signature}
use Rattle.tf_core.specs.TypedTables.{TypedTables, IsWellFormed}
use Rattle.tf_models.specs.declared.structure.TypedStructure.{TypedStructure}
use Rattle.tf_models.specs.Fit.{IsTable, IsInhabited, IsSymbolTable, TablesFit}
use Rattle.tf_models.specs.Reading.{tables}
use Rattle.tf_models.proofs.WellFormed.{fits_well_formed}
use Rattle.fof_text.specs.Names.{AllDiffer, place_of}
use Rattle.fof_text.proofs.Places.{same_is, same_self}
use Rattle.model_tables.specs.declared.form.Form.TheVariants.{Typed}
use Rattle.model_tables.specs.declared.form.Kind.{Kind}
use Rattle.model_tables.specs.declared.form.Kind.TheVariants as variant
use Rattle.model_tables.specs.Grammar.{Item, Table, opening, table}
use Rattle.model_tables.specs.Faults.{Want, is_wanted, entries_of, entry_faults, first_missing}
use Rattle.model_tables.specs.Faults.{limit_faults_of, size_faults}
use Rattle.model_tables.specs.Items.{entries_or_none, tables_by}
use Rattle.model_tables.specs.Typed.{typed, typed_structure, typed_shape, read_so_far, IsTypedTable}
use Rattle.model_tables.specs.Typed.{constructor_want, symbol_want, constructor_wants, symbol_wants}
use Rattle.model_tables.specs.Typed.{constructor_named, symbol_named, constructor_shape}
use Rattle.model_tables.specs.Typed.{symbol_shape}
use Rattle.model_tables.specs.Typed.{symbol_entries, constructor_entries, typed_entries}
use Rattle.model_tables.specs.Typed.{entries_unless, entries_by_kind, structure_entries}
use Rattle.model_tables.specs.TypedLaws.{HasNames, TypedTextsAreTables}
use Rattle.model_tables.specs.Refusals.{Says}
use Rattle.model_tables.proofs.CleanTexts.{clean_size, sizes_opened, fault_none, have_tables}
use Rattle.model_tables.proofs.ItemsWritten.{place_of-at}
use Rattle.model_tables.proofs.NoFaults.{all_at}
use Rattle.model_tables.proofs.Faultless.{within_limit, HasShape, has_shape, two_none}
use Rattle.model_tables.proofs.Faultless.{faultless_at, IsAmong, found_among, table_at}
use Rattle.model_tables.proofs.Faultless.{same_lengths, same_tables_still, none_missing_first}
use Rattle.model_tables.proofs.Faultless.{none_missing_last}
use Rattle.model_tables.proofs.TypedItems.{IsSplit, AreKnown, items_split, complete_before}
use Rattle.model_tables.proofs.TypedItems.{constructor_kind, constructor_items, symbol_items}
use Rattle.model_tables.proofs.SymbolShapes.{constructor_fits, symbol_fits}

-- ---- names that differ

-- a name that is behind another is another
other_name : (names : List (List ℕ)) (first name : List ℕ) (i : ℕ)
    → length names ≤ place_of names first → slice_get names i ≡ Some name → same name first ≡ false
other_name names first name i past at = by (same name first) refl
  where
    by : (t : Bool) → same name first ≡ t → same name first ≡ false
    by false other = other
    by true equal =
        let found = place_of-at names i first (at ∙ ap Some (same_is name first equal)) in
        absurd (omega (arith, past, found))

-- the image of the item at a place
pub image_at : {A B : Type 0} (image : A → B) (items : List A) (i : ℕ) (item : A)
    → slice_get items i ≡ Some item → slice_get (map image items) i ≡ Some (image item)
image_at image items i item at =
    slice_get-map image items i ∙ ap (λ o. option_map image o) at

pub constructor_named-at : (constructors : List Constructor) (i : ℕ) (c : Constructor)
    → AllDiffer (map (λ (d : Constructor). d.name) constructors) → slice_get constructors i ≡ Some c
    → constructor_named c.name constructors ≡ Some c
constructor_named-at [] i c differ at = cc
constructor_named-at (d ∷ constructors) zero c differ at =
    let here : d ≡ c = cc in
    ap (λ b. if b then Some d else constructor_named c.name constructors)
    (ap (λ (z : Constructor). same c.name z.name) here ∙ same_self c.name)
    ∙ ap Some here
constructor_named-at (d ∷ constructors) (suc i) c differ at =
    ap (λ b. if b then Some d else constructor_named c.name constructors)
    (other_name (map (λ (z : Constructor). z.name) constructors) d.name c.name i differ.0
    (image_at (λ (z : Constructor). z.name) constructors i c at))
    ∙ constructor_named-at constructors i c differ.1 at

pub symbol_named-at : (symbols : List Symbol) (i : ℕ) (f : Symbol)
    → AllDiffer (map (λ (h : Symbol). h.name) symbols) → slice_get symbols i ≡ Some f
    → symbol_named f.name symbols ≡ Some f
symbol_named-at [] i f differ at = cc
symbol_named-at (h ∷ symbols) zero f differ at =
    let here : h ≡ f = cc in
    ap (λ b. if b then Some h else symbol_named f.name symbols)
    (ap (λ (z : Symbol). same f.name z.name) here ∙ same_self f.name)
    ∙ ap Some here
symbol_named-at (h ∷ symbols) (suc i) f differ at =
    ap (λ b. if b then Some h else symbol_named f.name symbols)
    (other_name (map (λ (z : Symbol). z.name) symbols) h.name f.name i differ.0
    (image_at (λ (z : Symbol). z.name) symbols i f at))
    ∙ symbol_named-at symbols i f differ.1 at

-- ---- sizes

-- a typed table has a size
some_size : (ws mid : List Token) (sizes : List ℕ) → (opening Typed).derives ws mid sizes
    → 0 < length sizes
unfolding ◌>>=◌ empty word
some_size ws mid sizes
    (_, _, _, (_, _, _, (_, _, _, (_, _, _, (_, _, _, (_, _, _, (_, is))))))) =
    omega (arith, ap length is)

none_zero : (sizes : List ℕ) → list_any (λ n. n == 0) sizes ≡ false → (i : ℕ) → i < length sizes
    → 0 < slice_index sizes i
none_zero sizes none i within = by (slice_index sizes i) refl
  where
    by : (n : ℕ) → slice_index sizes i ≡ n → 0 < slice_index sizes i
    by zero is =
        let found = list_any_at (λ n. n == 0) sizes i 0 within (ap (λ n. n == 0) is) in cc
    by (suc n) is = omega (arith, is)

-- the last of some items
last_of : (items : List Item) → 0 < length items
    → (front : List Item) × (last : Item) × (items ≡ front ++ last ∷ [])
last_of [] some = absurd (omega (arith, some))
last_of (it ∷ []) some = ([], it, refl)
last_of (it ∷ next ∷ items) some =
    let found = last_of (next ∷ items) (omega arith) in
    (it ∷ found.0, found.1, ap (λ z. it ∷ z) found.2)

-- ---- entries counted

-- the entries of a well-formed structure are those that are counted by the tables of constructors
pub entries_counted : (g : Signature) (s : TypedStructure) → IsWellFormed g (tables s)
    → structure_entries s ≡ typed_entries g (tables s)
entries_counted g s formed =
    let first = same_lengths (λ (c : Constructor). tuple_count (replicate c.arity (length s.sizes)))
    g.constructors s.constructors formed.tables.constructor_count formed.tables.constructors in
    let second = same_lengths (symbol_entries (tables s)) g.symbols s.symbols
    formed.tables.symbol_count formed.tables.symbols in
    ap (λ z. sum s.sizes + sum z + sum (map length s.symbols)) first
    ∙ ap (λ z. constructor_entries g s.sizes + sum z) second

-- ---- a text without a fault

module _ (text : List ℕ) (g : Signature) (t : Table) (named : HasNames g)
    (says : Says (typed g) text t)
  where
    abbrev constructors : List (List ℕ)
    constructors = tables_by (constructor_wants g) t.items

    abbrev symbols : List (List ℕ)
    symbols = tables_by (symbol_wants g) t.items

    inhabited : IsInhabited t.sizes
    inhabited =
        let first = sizes_opened (typed g) (tokens says.words) says.clean t says.derives in
        let none : size_faults Typed t.sizes ≡ [] =
        clean_size (typed g) (tokens says.words) says.clean t says.derives in
        record {
          some = some_size (tokens says.words) first.0 t.sizes first.1;
          each = none_zero t.sizes (fault_none _ _ none);
        }

    -- the entries of an item have the shape that is asked where it stands
    shaped : (kind : Kind) (name entries : List ℕ)
        → (there : IsAmong t.items (record { kind = kind; name = name; entries = entries }))
        → HasShape (typed_shape g (record { sizes = t.sizes; items = there.before }) kind name)
        entries
    shaped kind name entries there =
        let it : Item = record { kind = kind; name = name; entries = entries } in
        let before : Table = record { sizes = t.sizes; items = there.before } in
        let here = faultless_at (typed g) text t says there.before there.more it there.split in
        has_shape (typed_shape g before kind name) it
        (two_none (entry_faults (typed_shape g before kind name) it)
        (limit_faults_of (entries_by_kind g
        (record { sizes = t.sizes; items = there.before ++ it ∷ [] }) kind)) here.ended).0

    -- the table at the place of what is wanted is that of an item
    found_at : (wants : List Want) (i : ℕ) (w : Want) → first_missing wants t.items ≡ None
        → slice_get wants i ≡ Some w
        → IsAmong t.items (record {
          kind = w.kind;
          name = w.name;
          entries = get_or (tables_by wants t.items) i [];
        })
    found_at wants i w none at =
        found_among t.items w.kind w.name (get_or (tables_by wants t.items) i [])
        (table_at t.items wants (tables_by wants t.items) i w (have_tables wants t.items none) at)

    constructor_table : (i : ℕ) (c : Constructor) → slice_get g.constructors i ≡ Some c
        → IsTable (length t.sizes) c.arity (get_or constructors i [])
    constructor_table i c at =
        let entries : List ℕ = get_or constructors i [] in
        let there = found_at (constructor_wants g) i (constructor_want c)
        (none_missing_first (constructor_wants g) (symbol_wants g) t.items says.complete)
        (image_at constructor_want g.constructors i c at) in
        constructor_fits (length t.sizes) c entries
        (subst (λ o. HasShape (constructor_shape (length t.sizes) o) entries)
        (constructor_named-at g.constructors i c named.constructors_differ at)
        (shaped variant.Constructor c.name entries there))

    -- the tables with these of constructors
    abbrev with_constructors : List (List ℕ) → TypedTables
    with_constructors lists = record { sizes = t.sizes; constructors = lists; symbols = symbols }

    symbol_table : (i : ℕ) (f : Symbol) → slice_get g.symbols i ≡ Some f
        → IsSymbolTable (read_so_far g t) f (get_or symbols i [])
    symbol_table i f at =
        let entries : List ℕ = get_or symbols i [] in
        let there = found_at (symbol_wants g) i (symbol_want f)
        (none_missing_last (constructor_wants g) (symbol_wants g) t.items says.complete)
        (image_at symbol_want g.symbols i f at) in
        let it : Item = record { kind = variant.Symbol; name = f.name; entries = entries } in
        let none = complete_before text g t says there.before there.more it there.split refl in
        let same : constructors ≡ tables_by (constructor_wants g) there.before =
        ap (tables_by (constructor_wants g)) there.split
        ∙ same_tables_still (constructor_wants g) there.before (it ∷ there.more) none in
        let here : HasShape (symbol_shape (with_constructors
        (tables_by (constructor_wants g) there.before)) (Some f)) entries =
        subst (λ o. HasShape (symbol_shape
        (read_so_far g (record { sizes = t.sizes; items = there.before })) o) entries)
        (symbol_named-at g.symbols i f named.symbols_differ at)
        (shaped variant.Symbol f.name entries there) in
        symbol_fits (read_so_far g t) inhabited.some f entries
        (subst (λ z. HasShape (symbol_shape (with_constructors z) (Some f)) entries) (sym same)
        here)

    fit : TablesFit g (read_so_far g t)
    fit = record {
      constructors = record {
        inhabited = inhabited;
        count = wants_counted (constructor_wants g)
            ∙ length-map g.constructors constructor_want;
        tables = constructor_table;
      };
      count = wants_counted (symbol_wants g) ∙ length-map g.symbols symbol_want;
      symbols = symbol_table;
    }
      where
        wants_counted : (wants : List Want) → length (tables_by wants t.items) ≡ length wants
        wants_counted wants =
            length-map wants (λ (w : Want). entries_or_none (entries_of w.kind w.name t.items))

    formed : IsWellFormed g (read_so_far g t)
    formed = fits_well_formed g (typed_structure g t) fit

    -- ---- the limit

    abbrev parts : IsSplit g [] t.items
    parts = items_split text g t says

    -- where there is a constructor, there is an item of one
    some_types : (constructors : List Constructor) → 0 < length constructors → (types : List Item)
        → first_missing (map constructor_want constructors) types ≡ None → 0 < length types
    some_types [] some types none = absurd (omega (arith, some))
    some_types (c ∷ constructors) some [] none = cc
    some_types (c ∷ constructors) some (it ∷ types) none = omega arith

    -- at the end of the last of these the entries are within the limit
    limited_at : (front : List Item) (last : Item) → parts.types ≡ front ++ last ∷ []
        → typed_entries g (read_so_far g (record { sizes = t.sizes; items = parts.types }))
        ≤ most_entries
    limited_at front last is =
        let so_far : Table = record { sizes = t.sizes; items = front ++ last ∷ [] } in
        let split : t.items ≡ front ++ last ∷ parts.symbols =
        parts.is ∙ ap (λ z. z ++ parts.symbols) is ∙ append_assoc front (last ∷ []) parts.symbols in
        let none = (two_none (entry_faults
        (typed_shape g (record { sizes = t.sizes; items = front }) last.kind last.name) last)
        (limit_faults_of (entries_by_kind g so_far last.kind))
        (faultless_at (typed g) text t says front parts.symbols last split).ended).1 in
        let own : last.kind ≡ variant.Constructor =
        constructor_kind g.constructors last.kind last.name
        (all_at (λ (it : Item). is_wanted it.kind it.name (constructor_wants g) ≡ true) front []
        last (subst (λ z. AreKnown (constructor_wants g) z) is parts.types_known)) in
        let complete : first_missing (constructor_wants g) (front ++ last ∷ []) ≡ None =
        ap (first_missing (constructor_wants g)) (sym is) ∙ parts.complete in
        let known : entries_by_kind g so_far last.kind
        ≡ Some (typed_entries g (read_so_far g so_far)) =
        ap (entries_by_kind g so_far) own
        ∙ ap (λ o. entries_unless o (typed_entries g (read_so_far g so_far))) complete in
        subst (λ z. typed_entries g (read_so_far g (record { sizes = t.sizes; items = z }))
        ≤ most_entries) (sym is)
        (within_limit (typed_entries g (read_so_far g so_far))
        (ap limit_faults_of (sym known) ∙ none))

    limited : structure_entries (typed_structure g t) ≤ most_entries
    limited =
        let some = some_types g.constructors named.some parts.types parts.complete in
        let last = last_of parts.types some in
        let same : constructors ≡ tables_by (constructor_wants g) parts.types =
        ap (tables_by (constructor_wants g)) parts.is
        ∙ same_tables_still (constructor_wants g) parts.types parts.symbols parts.complete in
        let here : typed_entries g (with_constructors (tables_by (constructor_wants g) parts.types))
        ≤ most_entries = limited_at last.0 last.1 last.2 in
        subst (λ n. n ≤ most_entries) (sym (entries_counted g (typed_structure g t) formed))
        (subst (λ z. typed_entries g (with_constructors z) ≤ most_entries) (sym same) here)

    is_table : IsTypedTable text g (typed_structure g t)
    is_table = record {
      words = says.words;
      types = parts.types;
      symbols = parts.symbols;
      is_text = says.is_text;
      derives = subst (λ z. (table Typed).derives (tokens says.words) []
          (record { sizes = t.sizes; items = z })) parts.is says.derives;
      constructor_tables = constructor_items text g t says;
      symbol_tables = symbol_items text g t says;
      well_formed = formed;
    }

pub typed_texts_are_tables : TypedTextsAreTables
typed_texts_are_tables text g t named says =
    (is_table text g t named says, limited text g t named says)
