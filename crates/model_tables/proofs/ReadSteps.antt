-- The steps of the reader of untyped tables.
use Rattle.std.proofs.Common.{◌≡◌, ◌≢◌, ℕ, List, [], ◌∷◌, ◌++◌, length, map, set, Option, Some, None}
use Rattle.std.proofs.Common.{Result, Ok, Err, Bool, true, false, ◌==◌, ◌||◌, refl, sym, ap, ◌∙◌, subst}
use Rattle.std.proofs.Common.{append-nil, slice_get, replicate, IfOk, IfErr}
use Rattle.std.specs.Option.{option_map}
use Rattle.tptp_words.specs.Text.{Token, IsText}
use Rattle.tptp_words.specs.Scanning.{Left}
use Rattle.tptp_phrases.specs.Readers.{take_word}
use Rattle.fof_text.specs.Names.{AllDiffer}
use Rattle.fof_models.specs.declared.problem.FofSymbol.{FofSymbol}
use Rattle.fof_models.specs.declared.structure.Structure.{Structure}
use Rattle.model_tables.specs.declared.error.TableError.{TableError}
use Rattle.model_tables.specs.declared.error.TableError.TheVariants as e
use Rattle.model_tables.specs.declared.form.Form.TheVariants.{Untyped}
use Rattle.model_tables.specs.declared.form.Kind.{Kind}
use Rattle.model_tables.specs.Grammar.{Item, Table, size_word, stop}
use Rattle.model_tables.specs.Places.{AtSize, AtSizesEnd, AtName, AtItemEnd}
use Rattle.model_tables.specs.Faults.{Asked, fault_if, faults, name_faults, entry_faults, entries_of}
use Rattle.model_tables.specs.Faults.{missing_faults, first_missing}
use Rattle.model_tables.specs.Items.{entries_or_none, tables_by}
use Rattle.model_tables.specs.Untyped.{untyped, symbol_wants, symbol_shape, symbol_of, symbol_kind, domain_size}
use Rattle.model_tables.specs.Untyped.{untyped_structure}
use Rattle.model_tables.specs.Refusals.{Says, IsRefused, Verdict}
use Rattle.model_tables.specs.Steps.{State, Start, Stands, with_item, with_no_items, table_at, faults_at, first_some}
use Rattle.model_tables.specs.Steps.{more_size, answer_at_end, unless_missing}
use Rattle.model_tables.specs.Leads.{lead, arrive, Led}
use Rattle.model_tables.specs.Checks.{first_fault}
use Rattle.model_tables.specs.Held.{slots_of, first_empty}
use Rattle.model_tables.specs.ReadUntyped.{IsWantedAt, IsReadSoFar, IsAnswer, SaysStructure}
use Rattle.model_tables.proofs.Leading.{led_word}
use Rattle.model_tables.proofs.Checked.{unless-none, unless-some}
use Rattle.model_tables.proofs.Answered.{text_said, text_refused}
use Rattle.model_tables.proofs.UntypedTexts.{symbol_of-at}
use Rattle.model_tables.proofs.Slots.{slots_of-more, tables_of_slots}
use Rattle.model_tables.proofs.SymbolSlots.{symbols_apart, symbol_wanted, symbol_wants-length, slots_of-none, first_empty-missing}

-- ---- the size

or_false : (b : Bool) → (b || false) ≡ b
or_false true = refl
or_false false = refl

-- the faults at the size
pub faults_at_size : (asked : Asked) (n : ℕ) → asked.form ≡ Untyped
    → faults_at asked (Stands (AtSize (n ∷ []))) ≡ fault_if (n == 0) (e.OutOfRange (size_word Untyped) 0)
faults_at_size asked n same =
    ap (λ b. fault_if b (e.OutOfRange (size_word asked.form) 0)) (or_false (n == 0))
    ∙ ap (λ form. fault_if (n == 0) (e.OutOfRange (size_word form) 0)) same

-- the full stop behind the size
pub led_size_end : (asked : Asked) (total : ℕ) (sizes : List ℕ) (left : Left) → asked.form ≡ Untyped
    → Led asked total (lead asked total (Stands (AtSize sizes)) left) (take_word stop left)
    (λ _. Stands (AtSizesEnd sizes))
led_size_end asked total sizes left same =
    led_word asked total stop (λ _. Stands (AtSizesEnd sizes)) (Stands (AtSize sizes))
    (λ w a takes.
    ap (λ o. first_some (option_map (λ _. Stands (AtSizesEnd sizes)) o) (more_size asked.form sizes w))
    takes)
    (λ w misses.
    ap (λ o. first_some (option_map (λ _. Stands (AtSizesEnd sizes)) o) (more_size asked.form sizes w))
    misses ∙ ap (λ form. more_size form sizes w) same)
    left refl

-- where the size has no fault
pub size_right : (asked : Asked) (total n : ℕ) (whole : Result Table TableError) (left : Left)
    → asked.form ≡ Untyped → whole ≡ arrive asked total (Stands (AtSize (n ∷ []))) left
    → fault_if (n == 0) (e.OutOfRange (size_word Untyped) 0) ≡ []
    → whole ≡ lead asked total (Stands (AtSize (n ∷ []))) left
size_right asked total n whole left same is none =
    is ∙ unless-none (faults_at asked (Stands (AtSize (n ∷ []))))
    (lead asked total (Stands (AtSize (n ∷ []))) left) (faults_at_size asked n same ∙ none)

-- ---- items

-- the symbol at the place of an item's kind and name
pub symbol_said : (signature : List FofSymbol) (names : List (List ℕ)) (i : ℕ) (kind : Kind)
    (name : List ℕ) → AllDiffer names → IsWantedAt (symbol_wants signature names) kind name (Some i)
    → (symbol : FofSymbol) × (slice_get signature i ≡ Some symbol)
    × (symbol_of kind name signature names ≡ Some symbol)
symbol_said signature names i kind name differ at =
    let w = symbol_wanted signature names i kind name at in (
      w.0,
      w.1,
      subst (λ k. symbol_of k name signature names ≡ Some w.0) w.3
          (symbol_of-at signature names i w.0 name differ w.1 w.2),
    )

module _ (signature : List FofSymbol) (names : List (List ℕ)) (total size : ℕ)
    (whole : Result Table TableError)
  where
    abbrev asked : Asked
    asked = untyped signature names

    abbrev pub ReadSoFar : List (Option (List ℕ)) → Left → Type 0
    ReadSoFar slots left = IsReadSoFar asked total whole (size ∷ []) slots left

    -- where a name stands without a fault
    pub named_right : (before : Table) (kind : Kind) (name : List ℕ) (left : Left)
        → whole ≡ arrive asked total (Stands (AtName before kind name)) left
        → name_faults (symbol_wants signature names) before.items kind name ≡ []
        → whole ≡ lead asked total (Stands (AtName before kind name)) left
    named_right before kind name left is none =
        is ∙ unless-none (name_faults (symbol_wants signature names) before.items kind name)
        (lead asked total (Stands (AtName before kind name)) left) none

    pub named_wrong : (before : Table) (kind : Kind) (name : List ℕ) (left : Left) (fault : TableError)
        → whole ≡ arrive asked total (Stands (AtName before kind name)) left
        → first_fault (name_faults (symbol_wants signature names) before.items kind name) ≡ Some fault
        → whole ≡ Err fault
    named_wrong before kind name left fault is some =
        is ∙ unless-some (name_faults (symbol_wants signature names) before.items kind name)
        (lead asked total (Stands (AtName before kind name)) left) fault some

    -- the faults at the end of an item of a symbol
    faults_at_end : (before : Table) (it : Item) (symbol : FofSymbol) → before.sizes ≡ size ∷ []
        → symbol_of it.kind it.name signature names ≡ Some symbol
        → faults asked (AtItemEnd before it) ≡ entry_faults (symbol_shape size (Some symbol)) it
    faults_at_end before it symbol sizes its =
        append-nil (entry_faults (asked.shape before it.kind it.name) it)
        ∙ ap (λ z. entry_faults (symbol_shape (domain_size z)
        (symbol_of it.kind it.name signature names)) it) sizes
        ∙ ap (λ o. entry_faults (symbol_shape size o) it) its

    -- where an item ends without a fault
    pub ended_right : (before : Table) (it : Item) (symbol : FofSymbol) (left : Left)
        → before.sizes ≡ size ∷ [] → symbol_of it.kind it.name signature names ≡ Some symbol
        → whole ≡ arrive asked total (Stands (AtItemEnd before it)) left
        → entry_faults (symbol_shape size (Some symbol)) it ≡ []
        → whole ≡ lead asked total (Stands (AtItemEnd before it)) left
    ended_right before it symbol left sizes its is none =
        is ∙ unless-none (faults asked (AtItemEnd before it))
        (lead asked total (Stands (AtItemEnd before it)) left)
        (faults_at_end before it symbol sizes its ∙ none)

    pub ended_wrong : (before : Table) (it : Item) (symbol : FofSymbol) (left : Left)
        (fault : TableError) → before.sizes ≡ size ∷ []
        → symbol_of it.kind it.name signature names ≡ Some symbol
        → whole ≡ arrive asked total (Stands (AtItemEnd before it)) left
        → first_fault (entry_faults (symbol_shape size (Some symbol)) it) ≡ Some fault
        → whole ≡ Err fault
    ended_wrong before it symbol left fault sizes its is some =
        is ∙ unless-some (faults asked (AtItemEnd before it))
        (lead asked total (Stands (AtItemEnd before it)) left) fault
        (ap first_fault (faults_at_end before it symbol sizes its) ∙ some)

    -- one item more is read
    pub read_more : (before : Table) (it : Item) (i : ℕ) (slots : List (Option (List ℕ))) (left : Left)
        → AllDiffer names → before.sizes ≡ size ∷ []
        → slots ≡ slots_of (symbol_wants signature names) before.items
        → IsWantedAt (symbol_wants signature names) it.kind it.name (Some i)
        → entries_of it.kind it.name before.items ≡ None
        → whole ≡ lead asked total (Stands (AtItemEnd before it)) left
        → ReadSoFar (set slots i (Some it.entries)) left
    read_more before it i slots left differ sizes slots_are at none is = record {
      state = Stands (AtItemEnd before it);
      table = with_item before it;
      stands = refl;
      sizes_are = sizes;
      slots_are = ap (λ z. set z i (Some it.entries)) slots_are
          ∙ sym (slots_of-more (symbol_wants signature names) before.items it i
          (symbols_apart signature names differ) at none);
      leads = is;
    }

    -- ---- the end of the text

    -- the first empty slot is that of the first symbol that is missing
    pub missing_said : (slots : List (Option (List ℕ))) (left : Left) (so_far : ReadSoFar slots left)
        → length names ≡ length signature
        → first_empty names slots
        ≡ first_missing (symbol_wants signature names) so_far.table.items
    missing_said slots left so_far counted =
        ap (first_empty names) so_far.slots_are
        ∙ first_empty-missing signature names so_far.table.items counted

    -- the structure of what is in the slots
    pub structure_said : (slots : List (Option (List ℕ))) (left : Left)
        (so_far : ReadSoFar slots left) (tables : List (List ℕ)) → tables ≡ map entries_or_none slots
        → ◌≡◌ {A = Structure} (record { size = size; tables = tables })
        (untyped_structure signature names so_far.table)
    structure_said slots left so_far tables is =
        let sizes : size ≡ domain_size so_far.table.sizes = sym (ap domain_size so_far.sizes_are) in
        let all : tables ≡ tables_by (symbol_wants signature names) so_far.table.items =
        is ∙ ap (map entries_or_none) so_far.slots_are
        ∙ tables_of_slots (symbol_wants signature names) so_far.table.items in
        cc

    pub finished : (slots : List (Option (List ℕ))) (left : Left) (so_far : ReadSoFar slots left)
        → lead asked total so_far.state left ≡ answer_at_end asked total (table_at so_far.state)
        → whole ≡ unless_missing so_far.table
        (first_missing (symbol_wants signature names) so_far.table.items)
    finished slots left so_far ends =
        so_far.leads ∙ ends ∙ ap (answer_at_end asked total) so_far.stands

-- before any item
pub read_none : (signature : List FofSymbol) (names : List (List ℕ)) (total size : ℕ) (left : Left)
    → length names ≡ length signature
    → IsReadSoFar (untyped signature names) total
    (lead (untyped signature names) total (Stands (AtSizesEnd (size ∷ []))) left) (size ∷ [])
    (replicate (length signature) None) left
read_none signature names total size left counted = record {
  state = Stands (AtSizesEnd (size ∷ []));
  table = with_no_items (size ∷ []);
  stands = refl;
  sizes_are = refl;
  slots_are = ap (λ n. replicate n None) (sym (symbol_wants-length signature names counted))
      ∙ sym (slots_of-none (symbol_wants signature names));
  leads = refl;
}

-- ---- texts

-- what is given for the answer to a text
module _ (signature : List FofSymbol) (names : List (List ℕ)) (text : List ℕ) (left : Left)
    (whole : Result Table TableError) (is_text : IsText (length text) text left.words left.fault)
    (leads : lead (untyped signature names) (length text) Start left ≡ whole)
  where
    pub answer_said : (result : Result Structure TableError) → IsAnswer signature names whole result
        → IfOk result (SaysStructure signature names text)
    answer_said (Ok s) answer = (
      answer.0,
      text_said (untyped signature names) text left answer.0 is_text (leads ∙ answer.1),
      answer.2,
    )
    answer_said (Err fault) answer = tt

    pub answer_refused : (result : Result Structure TableError)
        → IsAnswer signature names whole result
        → IfErr result (λ fault. fault ≢ e.Memory → IsRefused (untyped signature names) text fault)
    answer_refused (Ok s) answer = tt
    answer_refused (Err fault) answer =
        λ other. text_refused (untyped signature names) text left fault is_text
        (leads ∙ answer other)
