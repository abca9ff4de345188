-- A text is a table of at most one structure.
use Rattle.std.proofs.Common.{◌≡◌, ℕ, Bool, true, false, ◌&&◌, List, [], ◌∷◌, ◌++◌, length, map}
use Rattle.std.proofs.Common.{Option, Some, None, refl, sym, ap, ◌∙◌, subst, append-nil}
use Rattle.std.proofs.Common.{if◌then◌else◌}
use Rattle.std.proofs.lemmas.List.{append_cancel_right}
use Rattle.std.specs.Prelude.{IsTrue}
use Rattle.std.specs.List.{AllByRecursion}
use Rattle.tptp_words.specs.Text.{Token, Placed, tokens, IsText}
use Rattle.tptp_words.specs.Words.{same}
use Rattle.tptp_words.proofs.OneText.{one_text}
use Rattle.tf_core.specs.declared.signature.Constructor.{Constructor}
use Rattle.tf_core.specs.declared.signature.Symbol.{Symbol}
use Rattle.tf_core.specs.declared.signature.Signature.{Signature}
use Rattle.tf_models.specs.declared.structure.TypedStructure.{TypedStructure}
use Rattle.fof_models.specs.declared.structure.Structure.{Structure}
use Rattle.model_tables.specs.declared.form.Form.{Form}
use Rattle.model_tables.specs.declared.form.Form.TheVariants.{Typed, Untyped}
use Rattle.model_tables.specs.declared.form.Kind.{Kind}
use Rattle.model_tables.specs.declared.form.Kind.TheVariants as kind
use Rattle.model_tables.specs.Grammar.{Item, Table, table}
use Rattle.model_tables.specs.Faults.{Want, same_kind, is_of, is_wanted, entries_of}
use Rattle.model_tables.specs.Items.{HaveTables, AreItems}
use Rattle.model_tables.specs.Steps.{State, Start, run, table_at}
use Rattle.model_tables.specs.Typed.{IsTypedTable, constructor_want, symbol_want, constructor_wants}
use Rattle.model_tables.specs.Typed.{symbol_wants}
use Rattle.model_tables.specs.Untyped.{IsUntypedTable}
use Rattle.model_tables.specs.WrittenLaws.{OneTypedStructure, OneUntypedStructure}
use Rattle.model_tables.proofs.Complete.{derived_runs}
use Rattle.model_tables.proofs.ItemsWritten.{one_tables, tables_first, tables_behind, NoneOf}

-- words derive at most one table
pub one_table : (form : Form) (ws : List Token) (t u : Table) → (table form).derives ws [] t
    → (table form).derives ws [] u → t ≡ u
one_table form ws t u h k =
    let one = derived_runs form ws [] t h in
    let two = derived_runs form ws [] u k in
    let fronts = append_cancel_right one.1.front two.1.front [] (sym one.1.is ∙ two.1.is) in
    let states : Some one.0 ≡ Some two.0 =
    sym one.1.runs ∙ ap (run form Start) fronts ∙ two.1.runs in
    let state : one.0 ≡ two.0 = cc states in
    let tables : Some t ≡ Some u = sym one.2 ∙ ap table_at state ∙ two.2 in
    cc tables

-- and so does a text
pub text_table : (form : Form) (text : List ℕ) (ws vs : List Placed) (t u : Table)
    → IsText (length text) text ws None → IsText (length text) text vs None
    → (table form).derives (tokens ws) [] t → (table form).derives (tokens vs) [] u → t ≡ u
text_table form text ws vs t u h k d e =
    let same = (one_text (length text) text ws vs None None h k).0 in
    one_table form (tokens ws) t u d
    (subst (λ z. (table form).derives (tokens z) [] u) (sym same) e)

-- ---- constructors' items are no symbols'

-- an item that a constructor wants is a constructor's
constructor_kind : (constructors : List Constructor) (k : Kind) (n : List ℕ)
    → is_wanted k n (map constructor_want constructors) ≡ true → same_kind kind.Symbol k ≡ false
constructor_kind constructors kind.Constructor n h = refl
constructor_kind constructors kind.Symbol n h = absurd (cc (sym (never constructors) ∙ h))
  where
    never : (cs : List Constructor) → is_wanted kind.Symbol n (map constructor_want cs) ≡ false
    never [] = refl
    never (c ∷ cs) = never cs
constructor_kind constructors kind.Function n h = refl
constructor_kind constructors kind.Predicate n h = refl

pub no_symbol : (constructors : List Constructor) (name : List ℕ) (items : List Item)
    → AllByRecursion (λ (it : Item).
    IsTrue (is_wanted it.kind it.name (map constructor_want constructors))) items
    → entries_of kind.Symbol name items ≡ None
no_symbol constructors name [] h = refl
no_symbol constructors name (it ∷ items) h =
    ap (λ t. if t && same name it.name then Some it.entries
    else entries_of kind.Symbol name items) (constructor_kind constructors it.kind it.name h.0)
    ∙ no_symbol constructors name items h.1

-- constructors' items are of no symbol
pub no_symbols : (constructors : List Constructor) (symbols : List Symbol) (items : List Item)
    → AllByRecursion (λ (it : Item).
    IsTrue (is_wanted it.kind it.name (map constructor_want constructors))) items
    → NoneOf (map symbol_want symbols) items
no_symbols constructors [] items h = tt
no_symbols constructors (f ∷ symbols) items h =
    (no_symbol constructors f.name items h, no_symbols constructors symbols items h)

-- ---- structures

pub one_typed : OneTypedStructure
one_typed text g s t x y =
    let whole = text_table Typed text x.words y.words
    (record { sizes = s.sizes; items = x.types ++ x.symbols })
    (record { sizes = t.sizes; items = y.types ++ y.symbols })
    x.is_text y.is_text x.derives y.derives in
    let sizes : s.sizes ≡ t.sizes = ap (λ (z : Table). z.sizes) whole in
    let items : x.types ++ x.symbols ≡ y.types ++ y.symbols = ap (λ (z : Table). z.items) whole in
    let first = one_tables (x.types ++ x.symbols) (constructor_wants g) s.constructors t.constructors
    (tables_first x.types x.symbols (constructor_wants g) s.constructors x.constructor_tables.each)
    (subst (λ z. HaveTables z (constructor_wants g) t.constructors) (sym items)
    (tables_first y.types y.symbols (constructor_wants g) t.constructors
    y.constructor_tables.each)) in
    let second = one_tables (x.types ++ x.symbols) (symbol_wants g) s.symbols t.symbols
    (tables_behind x.types x.symbols (symbol_wants g) s.symbols
    (no_symbols g.constructors g.symbols x.types x.constructor_tables.known) x.symbol_tables.each)
    (subst (λ z. HaveTables z (symbol_wants g) t.symbols) (sym items)
    (tables_behind y.types y.symbols (symbol_wants g) t.symbols
    (no_symbols g.constructors g.symbols y.types y.constructor_tables.known)
    y.symbol_tables.each)) in
    ap (λ z. record { sizes = z; constructors = s.constructors; symbols = s.symbols }) sizes
    ∙ ap (λ z. record { sizes = t.sizes; constructors = z; symbols = s.symbols }) first
    ∙ ap (λ z. record { sizes = t.sizes; constructors = t.constructors; symbols = z }) second

pub one_untyped : OneUntypedStructure
one_untyped text p names s t x y =
    let whole = text_table Untyped text x.words y.words
    (record { sizes = s.size ∷ []; items = x.items })
    (record { sizes = t.size ∷ []; items = y.items })
    x.is_text y.is_text x.derives y.derives in
    let sizes : s.size ∷ [] ≡ t.size ∷ [] = ap (λ (z : Table). z.sizes) whole in
    let size : s.size ≡ t.size = cc sizes in
    let items : x.items ≡ y.items = ap (λ (z : Table). z.items) whole in
    let tables = one_tables x.items _ s.tables t.tables x.tables.each
    (subst (λ z. HaveTables z _ t.tables) (sym items) y.tables.each) in
    ap (λ z. record { size = z; tables = s.tables }) size
    ∙ ap (λ z. record { size = t.size; tables = z }) tables
