-- The faults at the end of an item of a typed table, by what is kept.
use Rattle.std.proofs.Common.{◌≡◌, ℕ, ◌+◌, ◌≤◌, ◌<◌, List, [], ◌∷◌, ◌++◌, length, map, Option, Some, None}
use Rattle.std.proofs.Common.{Result, Ok, Err, Bool, true, false, not, ◌==◌, eqb-true, refl, sym, ap, ◌∙◌, subst, arith}
use Rattle.std.proofs.Common.{append-nil}
use Rattle.std.proofs.Common.{slice_get, get_or, replicate, OnOk}
use Rattle.std.proofs.lemmas.Option.{slice_get_read, slice_get_within}
use Rattle.enc_base.specs.Tables.{tuple_count}
use Rattle.fof_text.specs.Names.{AllDiffer}
use Rattle.tf_core.specs.declared.signature.Constructor.{Constructor}
use Rattle.tf_core.specs.declared.signature.Symbol.{Symbol}
use Rattle.tf_core.specs.declared.signature.Signature.{Signature}
use Rattle.tf_core.specs.TypedTables.{TypedTables}
use Rattle.tf_models.specs.declared.structure.TypedStructure.{TypedStructure}
use Rattle.tf_models.specs.Reading.{tables}
use Rattle.tf_models.specs.Fit.{IsTable}
use Rattle.model_tables.specs.declared.error.TableError.{TableError}
use Rattle.model_tables.specs.declared.form.Kind.TheVariants as kind
use Rattle.model_tables.specs.declared.partial.Partial.{Partial}
use Rattle.model_tables.specs.Grammar.{Item, Table}
use Rattle.model_tables.specs.Places.{AtItemEnd}
use Rattle.model_tables.specs.Faults.{faults, entry_faults, limit_faults, limit_faults_of, first_missing}
use Rattle.model_tables.specs.Faults.{length_faults, range_faults}
use Rattle.model_tables.specs.Steps.{with_item}
use Rattle.model_tables.specs.Checks.{first_fault, Checks}
use Rattle.model_tables.specs.Typed.{typed, constructor_wants, constructor_shape, symbol_shape}
use Rattle.model_tables.specs.Typed.{constructor_named, symbol_named, typed_entries, entries_unless}
use Rattle.model_tables.specs.Typed.{entries_by_kind, read_so_far}
use Rattle.model_tables.specs.Writable.{constructor_names, symbol_names}
use Rattle.model_tables.specs.Marks.{first_unmarked, missing_among}
use Rattle.model_tables.specs.ReadTyped.{IsPart, IsSaid}
use Rattle.model_tables.proofs.Checked.{first_fault-front}
use Rattle.model_tables.proofs.ChecksJoined.{checks_behind}
use Rattle.model_tables.proofs.CleanTexts.{fault_none}
use Rattle.model_tables.proofs.Faultless.{two_none, has_shape}
use Rattle.model_tables.proofs.SymbolShapes.{constructor_fits}
use Rattle.model_tables.proofs.TypedTexts.{constructor_named-at, symbol_named-at}
use Rattle.model_tables.proofs.MarkedNames.{constructors_named, missing_named, first_unmarked-none}
use Rattle.model_tables.proofs.MarkedNames.{first_unmarked-some}
use Rattle.model_tables.proofs.PartFacts.{named_at}

-- ---- entries

-- another length is the first fault
pub length_first : (name : List ℕ) (expected found : ℕ) (over : Option ℕ) (fault : TableError)
    → first_fault (length_faults name expected found) ≡ Some fault
    → first_fault (length_faults name expected found ++ range_faults name over) ≡ Some fault
length_first name expected found over fault is =
    first_fault-front (length_faults name expected found) (range_faults name over) fault is

length_is : (expected found : ℕ) → not (expected == found) ≡ false → expected ≡ found
length_is expected found no_other = by (expected == found) refl no_other
  where
    by : (b : Bool) → (expected == found) ≡ b → not b ≡ false → expected ≡ found
    by true is same = eqb-true expected found is
    by false is same = cc

pub length_right : (name : List ℕ) (expected found : ℕ) → length_faults name expected found ≡ []
    → expected ≡ found
length_right name expected found none =
    length_is expected found (fault_none (not (expected == found)) _ none)

-- where the length is right, the entries are checked by their ranges
pub ranges_last : {A : Type 0} (name : List ℕ) (expected found : ℕ) (over : Option ℕ)
    (r : Result A TableError) → length_faults name expected found ≡ []
    → Checks (range_faults name over) r
    → Checks (length_faults name expected found ++ range_faults name over) r
ranges_last name expected found over r none checks =
    checks_behind (length_faults name expected found) (range_faults name over) r none checks

-- a constructor's item at whose end no entry is at fault has a table of members
pub constructor_table : (members : ℕ) (c : Constructor) (entries : List ℕ)
    → entry_faults (constructor_shape members (Some c))
    (record { kind = kind.Constructor; name = c.name; entries = entries }) ≡ []
    → IsTable members c.arity entries
constructor_table members c entries none =
    constructor_fits members c entries
    (has_shape (constructor_shape members (Some c))
    (record { kind = kind.Constructor; name = c.name; entries = entries }) none)

-- what holds in any case
pub always : {T E P : Type 0} (r : Result T E) → P → OnOk r P
always (Ok x) p = p
always (Err y) p = tt

-- what is lent of a list at a place that has a mark
pub lent_at : {A : Type 0} (lent own : List A) (marks : List Bool) (at : ℕ) (x : A) (b : Bool)
    → lent ≡ own → length marks ≡ length own → slice_get marks at ≡ Some b → x ≡ get_or lent at x
    → slice_get own at ≡ Some x
lent_at lent own marks at x b same long marked is =
    slice_get_read own (length own) at x refl
    (omega (arith, slice_get_within marks at b marked, long))
    (subst (λ z. x ≡ get_or z at x) same is)

-- ---- the faults at the end of an item

module _ (g : Signature) (before : Table) (part : Partial) (said : IsSaid g before part) (at : ℕ)
    (name entries : List ℕ)
  where
    module _ (c : Constructor) (differ : AllDiffer (constructor_names g))
        (named : slice_get (constructor_names g) at ≡ Some name)
        (here : slice_get g.constructors at ≡ Some c)
      where
        abbrev it : Item
        it = record { kind = kind.Constructor; name = name; entries = entries }

        own_name : c.name ≡ name
        own_name =
            let found = named_at (λ (d : Constructor). d.name) g.constructors at name named in
            let same : c ≡ found.0 =
            let both : Some c ≡ Some found.0 = sym here ∙ found.1 in cc in
            ap (λ (d : Constructor). d.name) same ∙ found.2

        own : constructor_named name g.constructors ≡ Some c
        own =
            ap (λ z. constructor_named z g.constructors) (sym own_name)
            ∙ constructor_named-at g.constructors at c differ here

        -- those of its entries, and then the limit
        pub constructor_end : faults (typed g) (AtItemEnd before it)
            ≡ entry_faults (constructor_shape (length part.structure.sizes) (Some c))
            (record { kind = kind.Constructor; name = c.name; entries = entries })
            ++ limit_faults_of (entries_by_kind g (with_item before it) kind.Constructor)
        constructor_end =
            ap (λ o. entry_faults (constructor_shape (length before.sizes) o) it
            ++ limit_faults_of (entries_by_kind g (with_item before it) kind.Constructor)) own
            ∙ ap (λ (s : TypedStructure). entry_faults (constructor_shape (length s.sizes) (Some c)) it
            ++ limit_faults_of (entries_by_kind g (with_item before it) kind.Constructor))
            (sym said.structure)
            ∙ ap (λ z. entry_faults (constructor_shape (length part.structure.sizes) (Some c))
            (record { kind = kind.Constructor; name = z; entries = entries })
            ++ limit_faults_of (entries_by_kind g (with_item before it) kind.Constructor))
            (sym own_name)

    module _ (f : Symbol) (differ : AllDiffer (symbol_names g))
        (named : slice_get (symbol_names g) at ≡ Some name)
        (here : slice_get g.symbols at ≡ Some f)
      where
        abbrev symbol_it : Item
        symbol_it = record { kind = kind.Symbol; name = name; entries = entries }

        symbol_name : f.name ≡ name
        symbol_name =
            let found = named_at (λ (d : Symbol). d.name) g.symbols at name named in
            let same : f ≡ found.0 =
            let both : Some f ≡ Some found.0 = sym here ∙ found.1 in cc in
            ap (λ (d : Symbol). d.name) same ∙ found.2

        own_symbol : symbol_named name g.symbols ≡ Some f
        own_symbol =
            ap (λ z. symbol_named z g.symbols) (sym symbol_name)
            ∙ symbol_named-at g.symbols at f differ here

        -- those of its entries
        pub symbol_end : faults (typed g) (AtItemEnd before symbol_it)
            ≡ entry_faults (symbol_shape (tables part.structure) (Some f))
            (record { kind = kind.Symbol; name = f.name; entries = entries })
        symbol_end =
            append-nil (entry_faults ((typed g).shape before kind.Symbol name) symbol_it)
            ∙ ap (λ o. entry_faults (symbol_shape
            (read_so_far g before) o) symbol_it) own_symbol
            ∙ ap (λ (s : TypedStructure). entry_faults (symbol_shape (tables s) (Some f)) symbol_it)
            (sym said.structure)
            ∙ ap (λ z. entry_faults (symbol_shape (tables part.structure) (Some f))
            (record { kind = kind.Symbol; name = z; entries = entries })) (sym symbol_name)

-- ---- the limit

module _ (g : Signature) (t : Table) (part : Partial) (said : IsSaid g t part) where
  missing_is : first_missing (constructor_wants g) t.items
      ≡ first_unmarked (constructor_names g) part.constructors
  missing_is =
      ap (λ z. first_missing z t.items) (constructors_named g.constructors)
      ∙ missing_named kind.Constructor (constructor_names g) t.items
      ∙ ap (first_unmarked (constructor_names g)) (sym said.constructors)

  -- once no constructor is missing, the entries are known
  pub entries_known : missing_among part.constructors ≡ 0
      → entries_by_kind g t kind.Constructor ≡ Some (typed_entries g (tables part.structure))
  entries_known none =
      ap (λ o. entries_unless o (typed_entries g (read_so_far g t)))
      (missing_is ∙ first_unmarked-none (constructor_names g) part.constructors none)
      ∙ ap (λ (s : TypedStructure). Some (typed_entries g (tables s))) (sym said.structure)

  -- and not before
  pub entries_unknown : length part.constructors ≡ length (constructor_names g)
      → 0 < missing_among part.constructors → entries_by_kind g t kind.Constructor ≡ None
  entries_unknown long some =
      let first = first_unmarked-some (constructor_names g) part.constructors long some in
      ap (λ o. entries_unless o (typed_entries g (read_so_far g t)))
      (missing_is ∙ first.1)
