-- The text that is written for a structure is its table, and that of no other structure.
use Rattle.std.proofs.Common.{◌≡◌, ℕ, suc, ◌<◌, ◌^◌, List, [], ◌∷◌, ◌++◌, length, map, Some}
use Rattle.std.proofs.Common.{refl, sym, ap, ◌∙◌, subst, arith, Bool, true, false, if◌then◌else◌}
use Rattle.std.specs.Prelude.{slice_get}
use Rattle.std.specs.List.{AllByRecursion}
use Rattle.std.proofs.lemmas.List.{length-map}
use Rattle.enc_base.specs.Names.{IsWritable}
use Rattle.tptp_words.specs.Words.{name}
use Rattle.tf_core.specs.declared.signature.Constructor.{Constructor}
use Rattle.tf_core.specs.declared.signature.Symbol.{Symbol}
use Rattle.tf_core.specs.declared.signature.Signature.{Signature}
use Rattle.tf_core.specs.Sound.{individuals}
use Rattle.tf_core.specs.TypedTables.{IsWellFormed as IsTyped}
use Rattle.tf_models.specs.declared.structure.TypedStructure.{TypedStructure}
use Rattle.tf_models.specs.Reading.{tables}
use Rattle.fof_models.specs.declared.problem.FofSymbol.{FofSymbol}
use Rattle.fof_models.specs.declared.problem.FofProblem.{FofProblem}
use Rattle.fof_models.specs.declared.structure.Structure.{Structure}
use Rattle.fof_models.specs.Structures.{IsWellFormed}
use Rattle.fof_text.specs.Names.{AllDiffer}
use Rattle.fof_text.specs.Written.{lower_word, name_word, quoted_word, is_lower}
use Rattle.fof_text.proofs.Spelled.{name_is}
use Rattle.model_tables.specs.declared.form.Form.TheVariants.{Typed, Untyped}
use Rattle.model_tables.specs.declared.form.Kind.TheVariants as kind
use Rattle.model_tables.specs.Grammar.{Item, table, item, item_kind, item_name}
use Rattle.model_tables.specs.Grammar.{constructor_name}
use Rattle.model_tables.specs.Typed.{IsTypedTable, constructor_want, symbol_want, constructor_wants}
use Rattle.model_tables.specs.Typed.{symbol_wants}
use Rattle.model_tables.specs.Untyped as untyped
use Rattle.model_tables.specs.Untyped.{IsUntypedTable, symbol_kind}
use Rattle.model_tables.specs.Writable.{IsNamed, AreNames}
use Rattle.model_tables.specs.Written.{Laid, words_of, typed_words, typed_text, untyped_words}
use Rattle.model_tables.specs.Written.{untyped_text, constructor_headings}
use Rattle.model_tables.specs.Written.{symbol_headings, fof_headings, kind_word, item_lines}
use Rattle.model_tables.specs.Written.{form_line, size_line}
use Rattle.model_tables.specs.WrittenLaws.{AreNumbers, HasNumbers}
use Rattle.model_tables.specs.WrittenLaws.{TypedTextIsItsTable, UntypedTextIsItsTable}
use Rattle.model_tables.proofs.ReadBack.{Stand, placed, tokens-placed, read_back}
use Rattle.model_tables.proofs.Derived.{AreHeadings, items_of, typed_opening}
use Rattle.model_tables.proofs.Derived.{untyped_opening, item_row, rows_both, as_table}
use Rattle.model_tables.proofs.WrittenWords.{name_ends, individuals_end, opening_stands, lines_stand}
use Rattle.model_tables.proofs.ItemsWritten.{names_of, are_items}
use Rattle.model_tables.proofs.SmallNumbers.{typed_numbers, untyped_numbers}
use Rattle.model_tables.proofs.OneStructure.{one_typed, one_untyped}

-- ---- headings

-- a name word is no `$i`
name_says_constructor : (n : List ℕ) → IsWritable n → constructor_name (name_word n) ≡ Some n
name_says_constructor n h = go (is_lower n) refl (name_is n h).says
  where
    go : (v : Bool) → is_lower n ≡ v
        → name (if v then lower_word n else quoted_word n) ≡ Some n
        → constructor_name (if v then lower_word n else quoted_word n) ≡ Some n
    go true e k = k
    go false e k = k

abbrev AllWritable : List (List ℕ) → Type 0
AllWritable ns = AllByRecursion IsWritable ns

later_constructors : (i : ℕ) (cs : List Constructor)
    → AllWritable (map (λ (c : Constructor). c.name) cs)
    → AreHeadings Typed (constructor_headings (suc i) cs) (map constructor_want cs)
later_constructors i [] h = tt
later_constructors i (c ∷ cs) h = (
  record {
    kind = refl;
    kind_says = refl;
    name_says = name_says_constructor c.name h.0;
    name_ends = name_ends c.name h.0;
  },
  later_constructors (suc i) cs h.1,
)

all_constructors : (cs : List Constructor) → slice_get cs 0 ≡ Some individuals
    → AllWritable (map (λ (c : Constructor). c.name) cs)
    → AreHeadings Typed (constructor_headings 0 cs) (map constructor_want cs)
all_constructors [] first h = tt
all_constructors (c ∷ cs) first h =
    let same : c ≡ individuals = cc first in (
      record {
        kind = refl;
        kind_says = refl;
        name_says = ap (λ (z : Constructor). Some z.name) (sym same);
        name_ends = individuals_end;
      },
      later_constructors 0 cs h.1,
    )

all_symbols : (symbols : List Symbol) → AllWritable (map (λ (f : Symbol). f.name) symbols)
    → AreHeadings Typed (symbol_headings symbols) (map symbol_want symbols)
all_symbols [] h = tt
all_symbols (f ∷ symbols) h = (
  record {
    kind = refl;
    kind_says = refl;
    name_says = (name_is f.name h.0).says;
    name_ends = name_ends f.name h.0;
  },
  all_symbols symbols h.1,
)

fof_kind_says : (predicate : Bool)
    → item_kind Untyped
    (lower_word (kind_word (if predicate then kind.Predicate else kind.Function)))
    ≡ Some (if predicate then kind.Predicate else kind.Function)
fof_kind_says true = refl
fof_kind_says false = refl

fof_name_says : (predicate : Bool) (n : List ℕ) → name (name_word n) ≡ Some n
    → item_name (if predicate then kind.Predicate else kind.Function) (name_word n) ≡ Some n
fof_name_says true n h = h
fof_name_says false n h = h

all_fof : (symbols : List FofSymbol) (names : List (List ℕ)) → AllWritable names
    → AreHeadings Untyped (fof_headings symbols names) (untyped.symbol_wants symbols names)
all_fof [] names h = tt
all_fof (symbol ∷ symbols) [] h = tt
all_fof (symbol ∷ symbols) (n ∷ names) h = (
  record {
    kind = refl;
    kind_says = fof_kind_says symbol.predicate;
    name_says = fof_name_says symbol.predicate n (name_is n h.0).says;
    name_ends = name_ends n h.0;
  },
  all_fof symbols names h.1,
)

-- ---- names and counts of what is wanted

constructor_names_are : (cs : List Constructor)
    → names_of (map constructor_want cs) ≡ map (λ (c : Constructor). c.name) cs
constructor_names_are [] = refl
constructor_names_are (c ∷ cs) = ap (λ z. c.name ∷ z) (constructor_names_are cs)

symbol_names_are : (fs : List Symbol)
    → names_of (map symbol_want fs) ≡ map (λ (f : Symbol). f.name) fs
symbol_names_are [] = refl
symbol_names_are (f ∷ fs) = ap (λ z. f.name ∷ z) (symbol_names_are fs)

fof_names_are : (symbols : List FofSymbol) (names : List (List ℕ))
    → length names ≡ length symbols → names_of (untyped.symbol_wants symbols names) ≡ names
fof_names_are [] [] h = refl
fof_names_are [] (n ∷ names) h = absurd (omega (arith, h))
fof_names_are (x ∷ symbols) [] h = absurd (omega (arith, h))
fof_names_are (x ∷ symbols) (n ∷ names) h =
    ap (λ z. n ∷ z) (fof_names_are symbols names (omega (arith, h)))

fof_wants_long : (symbols : List FofSymbol) (names : List (List ℕ))
    → length names ≡ length symbols → length (untyped.symbol_wants symbols names) ≡ length symbols
fof_wants_long [] names h = refl
fof_wants_long (x ∷ symbols) [] h = absurd (omega (arith, h))
fof_wants_long (x ∷ symbols) (n ∷ names) h = ap suc (fof_wants_long symbols names (omega (arith, h)))

-- ---- typed structures

typed_is : (g : Signature) (s : TypedStructure) → IsNamed g → IsTyped g (tables s) → HasNumbers s
    → (sizes : List ℕ) → s.sizes ≡ sizes → IsTypedTable (typed_text g s) g s
unfolding typed_text
typed_is g s named formed small [] e =
    let some = formed.structure.some in
    absurd (omega (arith, some, ap length e))
typed_is g s named formed small (n ∷ ns) e =
    let few : AreNumbers (n ∷ ns) = subst AreNumbers e small.sizes in
    let all = typed_numbers g s formed small in
    let first = constructor_headings 0 g.constructors in
    let second = symbol_headings g.symbols in
    let types : List Item = items_of (constructor_wants g) s.constructors in
    let others : List Item = items_of (symbol_wants g) s.symbols in
    let for_types = all_constructors g.constructors named.first named.constructors in
    let for_others = all_symbols g.symbols named.symbols in
    let behind : List Laid = item_lines second s.symbols [] in
    let lines : List Laid = item_lines first s.constructors behind in
    let words : List Laid = typed_words g s in
    let stand : Stand words =
    subst (λ z. Stand (form_line Typed (size_line Typed z lines))) (sym e)
    (opening_stands Typed n ns lines few
    (lines_stand Typed first (constructor_wants g) s.constructors behind for_types
    all.constructors
    (lines_stand Typed second (symbol_wants g) s.symbols [] for_others all.symbols tt))) in
    let derives : (table Typed).derives (words_of words) []
    (record { sizes = s.sizes; items = types ++ others }) =
    subst (λ z. (table Typed).derives (words_of (form_line Typed (size_line Typed z lines))) []
    (record { sizes = z; items = types ++ others })) (sym e)
    (as_table Typed (words_of (form_line Typed (size_line Typed (n ∷ ns) lines))) (words_of lines)
    (n ∷ ns) (types ++ others) (typed_opening n ns lines few)
    (rows_both (item Typed) (words_of lines) (words_of behind) [] types others
    (item_row Typed first (constructor_wants g) s.constructors behind for_types all.constructors)
    (item_row Typed second (symbol_wants g) s.symbols [] for_others all.symbols))) in
    record {
      words = placed words;
      types = types;
      symbols = others;
      is_text = read_back words stand;
      derives = subst (λ z. (table Typed).derives z []
          (record { sizes = s.sizes; items = types ++ others })) (sym (tokens-placed words)) derives;
      constructor_tables = are_items (constructor_wants g) s.constructors
          (subst AllDiffer (sym (constructor_names_are g.constructors)) named.constructors_differ)
          (formed.tables.constructor_count ∙ sym (length-map g.constructors constructor_want));
      symbol_tables = are_items (symbol_wants g) s.symbols
          (subst AllDiffer (sym (symbol_names_are g.symbols)) named.symbols_differ)
          (formed.tables.symbol_count ∙ sym (length-map g.symbols symbol_want));
      well_formed = formed;
    }

pub typed_text_is_its_table : TypedTextIsItsTable
typed_text_is_its_table g s named formed small =
    let is = typed_is g s named formed small s.sizes refl in
    (is, λ other h. one_typed (typed_text g s) g other s h is)

-- ---- untyped structures

untyped_is : (p : FofProblem) (names : List (List ℕ)) (s : Structure)
    → AreNames p.signature names → IsWellFormed p.signature s → s.size < 2 ^ 32
    → IsUntypedTable (untyped_text p.signature names s) p names s
unfolding untyped_text
untyped_is p names s named formed small =
    let all = untyped_numbers p.signature s formed small in
    let heads = fof_headings p.signature names in
    let wants = untyped.symbol_wants p.signature names in
    let items : List Item = items_of wants s.tables in
    let for_items = all_fof p.signature names named.writable in
    let lines : List Laid = item_lines heads s.tables [] in
    let words : List Laid = untyped_words p.signature names s in
    let stand : Stand words = opening_stands Untyped s.size [] lines (small, tt)
    (lines_stand Untyped heads wants s.tables [] for_items all tt) in
    let derives : (table Untyped).derives (words_of words) []
    (record { sizes = s.size ∷ []; items = items }) =
    as_table Untyped (words_of words) (words_of lines) (s.size ∷ []) items
    (untyped_opening s.size lines small)
    (item_row Untyped heads wants s.tables [] for_items all) in
    record {
      words = placed words;
      items = items;
      is_text = read_back words stand;
      derives = subst (λ z. (table Untyped).derives z []
          (record { sizes = s.size ∷ []; items = items })) (sym (tokens-placed words)) derives;
      tables = are_items wants s.tables
          (subst AllDiffer (sym (fof_names_are p.signature names named.one_each)) named.differ)
          (formed.count ∙ sym (fof_wants_long p.signature names named.one_each));
      well_formed = formed;
    }

pub untyped_text_is_its_table : UntypedTextIsItsTable
untyped_text_is_its_table p names s named formed small =
    let is = untyped_is p names s named formed small in
    (is, λ other h. one_untyped (untyped_text p.signature names s) p names other s h is)
