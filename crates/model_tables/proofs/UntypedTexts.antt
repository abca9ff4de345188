-- A text in which no fault stands is an untyped table of a structure.
use Rattle.std.proofs.Common.{◌≡◌, ℕ, zero, suc, ◌+◌, ◌≤◌, ◌<◌, List, [], ◌∷◌, length}
use Rattle.std.proofs.Common.{Some, Bool, true, false, refl, sym, ap, ◌∙◌, subst, arith}
use Rattle.std.proofs.Common.{slice_get, get_or, ◌==◌}
use Rattle.std.specs.Prelude.{if◌then◌else◌, sum}
use Rattle.std.specs.List.{list_any}
use Rattle.enc_base.specs.Counts.{most_entries}
use Rattle.tptp_words.specs.Text.{Token, tokens}
use Rattle.tptp_phrases.specs.Phrase.{empty, word, ◌>>=◌}
use Rattle.fof_text.specs.Names.{AllDiffer}
use Rattle.fof_models.specs.declared.problem.FofSymbol.{FofSymbol}
use Rattle.fof_models.specs.declared.problem.FofProblem.{FofProblem}
use Rattle.fof_models.specs.declared.structure.Structure.{Structure}
use Rattle.fof_models.specs.Structures.{IsWellFormed, IsTable}
use Rattle.model_tables.specs.declared.error.TableError.{TableError}
use Rattle.model_tables.specs.declared.form.Form.TheVariants.{Untyped}
use Rattle.model_tables.specs.Grammar.{Item, Table, opening, table}
use Rattle.model_tables.specs.Faults.{is_of, entries_of, entry_faults}
use Rattle.model_tables.specs.Faults.{Asked, fault_if}
use Rattle.model_tables.specs.Faults.{size_faults}
use Rattle.model_tables.specs.Items.{HaveTables, tables_by}
use Rattle.model_tables.specs.Untyped.{untyped, symbol_kind, symbol_wants, symbol_of}
use Rattle.model_tables.specs.Untyped.{symbol_entries}
use Rattle.model_tables.specs.Untyped.{symbol_shape, all_entries, domain_size, untyped_structure}
use Rattle.model_tables.specs.Untyped.{IsUntypedTable, structure_entries}
use Rattle.model_tables.specs.Refusals.{Says}
use Rattle.model_tables.proofs.CleanTexts.{clean_size, clean_sizes}
use Rattle.model_tables.proofs.CleanTexts.{sizes_opened, items_are_one_for_each}
use Rattle.model_tables.proofs.ItemsWritten.{is_itself, place_of-at}
use Rattle.model_tables.proofs.NoFaults.{is_of-same}
use Rattle.model_tables.proofs.Faultless.{within_limit, has_shape, two_none, faultless_at}
use Rattle.model_tables.proofs.Faultless.{found_among, same_lengths}

-- ---- the symbol of an item

-- the symbol of a name is the one that has it
pub symbol_of-at : (symbols : List FofSymbol) (names : List (List ℕ)) (f : ℕ) (symbol : FofSymbol)
    (name : List ℕ) → AllDiffer names → slice_get symbols f ≡ Some symbol
    → slice_get names f ≡ Some name
    → symbol_of (symbol_kind symbol) name symbols names ≡ Some symbol
symbol_of-at [] names f symbol name differ at named = cc
symbol_of-at (s ∷ symbols) [] f symbol name differ at named = cc
symbol_of-at (s ∷ symbols) (n ∷ names) zero symbol name differ at named =
    let here : s ≡ symbol = cc in
    let same_name : n ≡ name = cc in
    let yes : is_of (symbol_kind symbol) name (symbol_kind s) n ≡ true =
    ap (λ z. is_of (symbol_kind symbol) name (symbol_kind z) n) here
    ∙ ap (λ z. is_of (symbol_kind symbol) name (symbol_kind symbol) z) same_name
    ∙ is_itself (symbol_kind symbol) name in
    ap (λ b. if b then Some s else symbol_of (symbol_kind symbol) name symbols names) yes
    ∙ ap Some here
symbol_of-at (s ∷ symbols) (n ∷ names) (suc f) symbol name differ at named =
    by (is_of (symbol_kind symbol) name (symbol_kind s) n) refl
    (symbol_of-at symbols names f symbol name differ.1 at named)
  where
    by : (t : Bool) → is_of (symbol_kind symbol) name (symbol_kind s) n ≡ t
        → symbol_of (symbol_kind symbol) name symbols names ≡ Some symbol
        → (if t then Some s else symbol_of (symbol_kind symbol) name symbols names) ≡ Some symbol
    by true is next =
        let equal = (is_of-same (symbol_kind symbol) name (symbol_kind s) n is).1 in
        let within = place_of-at names f n (named ∙ ap Some equal) in
        absurd (omega (arith, differ.0, within))
    by false is next = next

-- ---- a text without a fault

-- the table of a symbol is that of its item
table_at : (items : List Item) (symbols : List FofSymbol) (names : List (List ℕ))
    (tables : List (List ℕ)) (f : ℕ) (symbol : FofSymbol) → length names ≡ length symbols
    → HaveTables items (symbol_wants symbols names) tables → slice_get symbols f ≡ Some symbol
    → (name : List ℕ) × (slice_get names f ≡ Some name)
    × (entries_of (symbol_kind symbol) name items ≡ Some (get_or tables f []))
table_at items [] names tables f symbol counted have at = cc
table_at items (s ∷ symbols) [] tables f symbol counted have at = cc
table_at items (s ∷ symbols) (n ∷ names) [] f symbol counted have at = absurd have
table_at items (s ∷ symbols) (n ∷ names) (entries ∷ tables) zero symbol counted have at =
    let here : s ≡ symbol = cc in
    (n, refl, subst (λ z. entries_of (symbol_kind z) n items ≡ Some entries) here have.0)
table_at items (s ∷ symbols) (n ∷ names) (entries ∷ tables) (suc f) symbol counted have at =
    let fewer : length names ≡ length symbols = omega arith in
    table_at items symbols names tables f symbol fewer have.1 at

table_count : (items : List Item) (symbols : List FofSymbol) (names : List (List ℕ))
    (tables : List (List ℕ)) → length names ≡ length symbols
    → HaveTables items (symbol_wants symbols names) tables → length tables ≡ length symbols
table_count items [] names [] counted have = refl
table_count items [] names (entries ∷ tables) counted have = absurd have
table_count items (s ∷ symbols) [] tables counted have = absurd (omega arith)
table_count items (s ∷ symbols) (n ∷ names) [] counted have = absurd have
table_count items (s ∷ symbols) (n ∷ names) (entries ∷ tables) counted have =
    let fewer : length names ≡ length symbols = omega arith in
    let more = table_count items symbols names tables fewer have.1 in
    omega arith

-- the entries of a structure are those that are known by its size
pub known_entries : (signature : List FofSymbol) (s : Structure) → IsWellFormed signature s
    → structure_entries s ≡ all_entries signature s.size
known_entries signature s well =
    ap (λ z. s.size + sum z) (same_lengths (symbol_entries s.size) signature s.tables well.count
    (λ f symbol at. (well.tables f symbol at).count))

-- an untyped table has one size
one_size : (ws mid : List Token) (sizes : List ℕ) → (opening Untyped).derives ws mid sizes
    → (n : ℕ) × (sizes ≡ n ∷ [])
unfolding ◌>>=◌ empty word
one_size ws mid sizes
    (_, _, _, (_, _, _, (_, _, _, (_, _, _, (_, n, _, (_, more, (_, none), (_, is))))))) =
    (n, is ∙ ap (λ z. n ∷ z) none)

positive : (n : ℕ) (fault : TableError) → fault_if (list_any (λ m. m == 0) (n ∷ [])) fault ≡ []
    → 0 < n
positive zero fault none = cc
positive (suc n) fault none = omega arith

module _ (text : List ℕ) (problem : FofProblem) (names : List (List ℕ)) (t : Table)
    (counted : length names ≡ length problem.signature) (differ : AllDiffer names)
    (says : Says (untyped problem.signature names) text t)
  where
    abbrev asked : Asked
    asked = untyped problem.signature names

    abbrev tables : List (List ℕ)
    tables = tables_by (symbol_wants problem.signature names) t.items

    -- the table of each symbol fits it
    each_fits : (n : ℕ) → t.sizes ≡ n ∷ [] → (f : ℕ) (symbol : FofSymbol)
        → slice_get problem.signature f ≡ Some symbol → IsTable symbol n (get_or tables f [])
    each_fits n is f symbol at =
        let entries : List ℕ = get_or tables f [] in
        let have = items_are_one_for_each asked text t says in
        let own = table_at t.items problem.signature names tables f symbol counted have.each at in
        let there = found_among t.items (symbol_kind symbol) own.0 entries own.2 in
        let it : Item = record { kind = symbol_kind symbol; name = own.0; entries = entries } in
        let none = (two_none
        (entry_faults (symbol_shape (domain_size t.sizes)
        (symbol_of (symbol_kind symbol) own.0 problem.signature names)) it) []
        (faultless_at asked text t says there.before there.more it there.split).ended).0 in
        let here : entry_faults (symbol_shape n (Some symbol)) it ≡ [] =
        subst (λ z. entry_faults (symbol_shape (domain_size z) (Some symbol)) it ≡ []) is
        (subst (λ o. entry_faults (symbol_shape (domain_size t.sizes) o) it ≡ [])
        (symbol_of-at problem.signature names f symbol own.0 differ at own.1) none) in
        let shape = has_shape (symbol_shape n (Some symbol)) it here in
        record { count = shape.count; below = shape.below }

    -- the structure over a domain of this size is well-formed
    well_formed : (n : ℕ) → t.sizes ≡ n ∷ []
        → IsWellFormed problem.signature (record { size = n; tables = tables })
    well_formed n is =
        let some = clean_size asked (tokens says.words) says.clean t says.derives in
        record {
          inhabited = positive n _ (subst (λ z. size_faults Untyped z ≡ []) is some);
          count = table_count t.items problem.signature names tables counted
              (items_are_one_for_each asked text t says).each;
          tables = each_fits n is;
        }

    -- and within the limit
    within : (n : ℕ) → t.sizes ≡ n ∷ [] → all_entries problem.signature n ≤ most_entries
    within n is =
        let few = clean_sizes asked (tokens says.words) says.clean t says.derives in
        subst (λ z. all_entries problem.signature (domain_size z) ≤ most_entries) is
        (within_limit (all_entries problem.signature (domain_size t.sizes)) few)

    sized : (n : ℕ) → t.sizes ≡ n ∷ []
        → (s : Structure) × (s ≡ untyped_structure problem.signature names t)
        × IsUntypedTable text problem names s × (structure_entries s ≤ most_entries)
    sized n is =
        let s : Structure = record { size = n; tables = tables } in
        let well = well_formed n is in (
          s,
          ap (λ z. record { size = domain_size z; tables = tables }) (sym is),
          record {
            words = says.words;
            items = t.items;
            is_text = says.is_text;
            derives = subst (λ z. (table Untyped).derives (tokens says.words) []
                (record { sizes = z; items = t.items })) is says.derives;
            tables = items_are_one_for_each asked text t says;
            well_formed = well;
          },
          subst (λ z. z ≤ most_entries) (sym (known_entries problem.signature s well))
              (within n is),
        )

    pub untyped_table :
        IsUntypedTable text problem names (untyped_structure problem.signature names t)
        × (structure_entries (untyped_structure problem.signature names t) ≤ most_entries)
    untyped_table =
        let ws = tokens says.words in
        let first = sizes_opened asked ws says.clean t says.derives in
        let one = one_size ws first.0 t.sizes first.1 in
        let own = sized one.0 one.1 in (
          subst (λ z. IsUntypedTable text problem names z) own.1 own.2,
          subst (λ z. structure_entries z ≤ most_entries) own.1 own.3,
        )
