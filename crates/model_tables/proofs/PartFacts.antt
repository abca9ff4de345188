-- What is kept of a typed table while it is read, and one table more.
use Rattle.std.proofs.Common.{◌≡◌, ◌≢◌, ℕ, zero, suc, ◌+◌, ◌≤◌, ◌<◌, List, [], ◌∷◌, ◌++◌, length, map}
use Rattle.std.proofs.Common.{Option, Some, None, Bool, true, false, refl, sym, ap, ◌∙◌, subst, arith}
use Rattle.std.proofs.Common.{⊎_elim, slice_get, get_or, set, replicate, is_some}
use Rattle.std.proofs.Common.{get_or-set_same, get_or-set_other}
use Rattle.std.specs.Prelude.{sum, sum_by, if◌then◌else◌}
use Rattle.std.proofs.lemmas.Bool.{cases_eq}
use Rattle.std.proofs.lemmas.List.{length-set, length-map, length-replicate}
use Rattle.std.proofs.lemmas.List.Sums.{sum-map, sum_by-cons, get_or-le-sum_by}
use Rattle.std.proofs.lemmas.Option.{slice_get_within, get_or_from_slice_get}
use Rattle.enc_base.specs.Tables.{tuple_count}
use Rattle.enc_base.specs.Counts.{most_entries}
use Rattle.fof_text.specs.Names.{AllDiffer}
use Rattle.tf_core.specs.declared.signature.Constructor.{Constructor}
use Rattle.tf_core.specs.declared.signature.Symbol.{Symbol}
use Rattle.tf_core.specs.declared.signature.Signature.{Signature}
use Rattle.tf_core.specs.TypedTables.{TypedTables}
use Rattle.tf_models.specs.declared.structure.TypedStructure.{TypedStructure}
use Rattle.tf_models.specs.Reading.{tables}
use Rattle.tf_models.specs.Fit.{IsInhabited, IsTable, ConstructorsFit}
use Rattle.model_tables.specs.declared.form.Kind.TheVariants as kind
use Rattle.model_tables.specs.declared.partial.Partial.{Partial}
use Rattle.model_tables.specs.Grammar.{Item, Table}
use Rattle.model_tables.specs.Faults.{entries_of}
use Rattle.model_tables.specs.Items.{entries_or_none, tables_by}
use Rattle.model_tables.specs.Steps.{with_item, with_no_items}
use Rattle.model_tables.specs.Typed.{constructor_wants, symbol_wants, constructor_entries, typed_entries}
use Rattle.model_tables.specs.Typed.{symbol_entries, typed_structure}
use Rattle.model_tables.specs.Writable.{constructor_names, symbol_names}
use Rattle.model_tables.specs.Marks.{looked_up, marks_of, missing_among}
use Rattle.model_tables.specs.ReadTyped.{with_constructor, with_symbol}
use Rattle.model_tables.specs.ReadTyped.{IsPart, IsLimited, IsSaid}
use Rattle.model_tables.proofs.MarkedNames.{looked_up-other, looked_up-more, looked_up-none}
use Rattle.model_tables.proofs.MarkedNames.{looked_up-at, missing_among-none, all_marked}
use Rattle.model_tables.proofs.MarkedNames.{constructors_named, symbols_named, tables_named}

-- ---- counts

no_fewer : (sizes : List ℕ) → ((i : ℕ) → i < length sizes → 0 < get_or sizes i 0)
    → length sizes ≤ sum sizes
no_fewer [] each = omega arith
no_fewer (n ∷ sizes) each =
    let rest = no_fewer sizes (λ i within. each (suc i) (omega arith)) in
    let first = each 0 (omega arith) in
    omega (arith, rest, first, sum_by-cons (λ (m : ℕ). m) n sizes)

-- there are few members, since each has an element
pub few_members : (g : Signature) (sizes : List ℕ) → IsInhabited sizes
    → constructor_entries g sizes ≤ most_entries → length sizes < 4294967296
few_members g sizes inhabited small = omega (arith, no_fewer sizes inhabited.each, small)

part_of_sum : {A : Type 0} (f : A → ℕ) (xs : List A) (i : ℕ) (x : A) → slice_get xs i ≡ Some x
    → f x ≤ sum (map f xs)
part_of_sum f xs i x at =
    let within = slice_get_within xs i x at in
    let whole = get_or-le-sum_by f xs i x within in
    let here = ap f (get_or_from_slice_get xs i x x at) in
    omega (arith, whole, here, sum-map f xs)

-- a constructor's table is within the limit
pub constructor_small : (g : Signature) (sizes : List ℕ) (i : ℕ) (c : Constructor)
    → slice_get g.constructors i ≡ Some c → constructor_entries g sizes ≤ most_entries
    → tuple_count (replicate c.arity (length sizes)) ≤ most_entries
constructor_small g sizes i c at small =
    omega (
      arith,
      small,
      part_of_sum (λ (d : Constructor).
          tuple_count (replicate d.arity (length sizes))) g.constructors i c at,
    )

-- and so is a symbol's, once all constructors' are read
pub symbol_small : (g : Signature) (t : TypedTables) (i : ℕ) (f : Symbol)
    → slice_get g.symbols i ≡ Some f → typed_entries g t ≤ most_entries
    → symbol_entries t f ≤ most_entries
symbol_small g t i f at small =
    omega (arith, small, part_of_sum (symbol_entries t) g.symbols i f at)

-- ---- what names stand for

pub named_at : {A : Type 0} (name_of : A → List ℕ) (xs : List A) (i : ℕ) (name : List ℕ)
    → slice_get (map name_of xs) i ≡ Some name
    → (x : A) × (slice_get xs i ≡ Some x) × (name_of x ≡ name)
named_at name_of [] i name at = cc
named_at name_of (x ∷ xs) zero name at = let here : name_of x ≡ name = cc in (x, refl, here)
named_at name_of (x ∷ xs) (suc i) name at = named_at name_of xs i name at

-- ---- one table more

mark_other : (marks : List Bool) (i j : ℕ) → j ≢ i → slice_get (set marks i true) j ≡ slice_get marks j
mark_other [] i j other = refl
mark_other (m ∷ marks) zero zero other = absurd (other refl)
mark_other (m ∷ marks) zero (suc j) other = refl
mark_other (m ∷ marks) (suc i) zero other = refl
mark_other (m ∷ marks) (suc i) (suc j) other =
    mark_other marks i j (λ same. other (ap suc same))

module _ (g : Signature) (part : Partial) (is_part : IsPart g part) where
  -- once no constructor is missing, their tables fit
  pub all_fit : missing_among part.constructors ≡ 0 → ConstructorsFit g (tables part.structure)
  all_fit none = record {
    inhabited = is_part.inhabited;
    count = is_part.constructor_count;
    tables = λ c constructor at.
        is_part.fit c constructor at
        (all_marked part.constructors c none
        (omega (
          arith,
          slice_get_within g.constructors c constructor at,
          is_part.constructor_marks,
        )));
  }

  pub few : length part.structure.sizes < 4294967296
  few = few_members g part.structure.sizes is_part.inhabited is_part.small

  pub part_with_constructor : (at : ℕ) (c : Constructor) (entries : List ℕ)
      → slice_get g.constructors at ≡ Some c
      → IsTable (length part.structure.sizes) c.arity entries
      → IsPart g (with_constructor part at entries)
  part_with_constructor at c entries here table = record {
    inhabited = is_part.inhabited;
    small = is_part.small;
    constructor_count =
        length-set part.structure.constructors at entries ∙ is_part.constructor_count;
    symbol_count = is_part.symbol_count;
    constructor_marks = length-set part.constructors at true ∙ is_part.constructor_marks;
    symbol_marks = is_part.symbol_marks;
    fit = λ d constructor there marked.
        ⊎_elim
        (λ same.
        let found : c ≡ constructor =
        let both : Some c ≡ Some constructor =
        sym here ∙ ap (slice_get g.constructors) (sym same) ∙ there in cc in
        let within : at < length part.structure.constructors =
        omega (arith, slice_get_within g.constructors at c here, is_part.constructor_count) in
        subst (λ n. IsTable (length part.structure.sizes) constructor.arity
        (get_or (set part.structure.constructors at entries) n [])) (sym same)
        (subst (IsTable (length part.structure.sizes) constructor.arity)
        (sym (get_or-set_same part.structure.constructors at entries [] within))
        (subst (λ z. IsTable (length part.structure.sizes) z.arity entries) found table)))
        (λ differs.
        let other : d ≢ at = differs in
        subst (IsTable (length part.structure.sizes) constructor.arity)
        (sym (get_or-set_other part.structure.constructors at d entries [] other))
        (is_part.fit d constructor there
        (sym (mark_other part.constructors at d other) ∙ marked)))
        (cases_eq d at);
  }

  pub part_with_symbol : (at : ℕ) (entries : List ℕ) → IsPart g (with_symbol part at entries)
  part_with_symbol at entries = record {
    inhabited = is_part.inhabited;
    small = is_part.small;
    constructor_count = is_part.constructor_count;
    symbol_count = length-set part.structure.symbols at entries ∙ is_part.symbol_count;
    constructor_marks = is_part.constructor_marks;
    symbol_marks = length-set part.symbols at true ∙ is_part.symbol_marks;
    fit = is_part.fit;
  }

-- ---- what is said

-- tables and marks, by names

constructor_tables : (g : Signature) (items : List Item)
    → tables_by (constructor_wants g) items
    ≡ looked_up entries_or_none kind.Constructor (constructor_names g) items
constructor_tables g items =
    ap (λ z. tables_by z items) (constructors_named g.constructors)
    ∙ tables_named kind.Constructor (constructor_names g) items

symbol_tables : (g : Signature) (items : List Item)
    → tables_by (symbol_wants g) items
    ≡ looked_up entries_or_none kind.Symbol (symbol_names g) items
symbol_tables g items =
    ap (λ z. tables_by z items) (symbols_named g.symbols)
    ∙ tables_named kind.Symbol (symbol_names g) items

abbrev changed : List ℕ → List (List ℕ) → List (List ℕ) → TypedStructure
changed sizes cs fs = record { sizes = sizes; constructors = cs; symbols = fs }

three : (sizes : List ℕ) (cs ds fs hs : List (List ℕ)) → cs ≡ ds → fs ≡ hs
    → changed sizes cs fs ≡ changed sizes ds hs
three sizes cs ds fs hs first second =
    ap (λ z. changed sizes z fs) first ∙ ap (changed sizes ds) second

module _ (g : Signature) (before : Table) (part : Partial) (said : IsSaid g before part) where
  -- a mark is set where there is an item
  pub constructor_mark : (at : ℕ) (name : List ℕ) → slice_get (constructor_names g) at ≡ Some name
      → slice_get part.constructors at
      ≡ Some (is_some (entries_of kind.Constructor name before.items))
  constructor_mark at name named =
      ap (λ z. slice_get z at) said.constructors
      ∙ looked_up-at is_some kind.Constructor (constructor_names g) before.items at name named

  pub symbol_mark : (at : ℕ) (name : List ℕ) → slice_get (symbol_names g) at ≡ Some name
      → slice_get part.symbols at ≡ Some (is_some (entries_of kind.Symbol name before.items))
  symbol_mark at name named =
      ap (λ z. slice_get z at) said.symbols
      ∙ looked_up-at is_some kind.Symbol (symbol_names g) before.items at name named

  new_of : (o : Option (List ℕ)) (b : Bool) → b ≡ false → Some b ≡ Some (is_some o) → o ≡ None
  new_of None b none same = refl
  new_of (Some entries) b none same = cc

  -- a constructor's table more
  pub said_with_constructor : (at : ℕ) (name entries : List ℕ) → AllDiffer (constructor_names g)
      → slice_get (constructor_names g) at ≡ Some name → slice_get part.constructors at ≡ Some false
      → IsSaid g (with_item before
      (record { kind = kind.Constructor; name = name; entries = entries }))
      (with_constructor part at entries)
  said_with_constructor at name entries differ named unmarked =
      let it : Item = record { kind = kind.Constructor; name = name; entries = entries } in
      let new : entries_of kind.Constructor name before.items ≡ None =
      new_of (entries_of kind.Constructor name before.items) false refl
      (sym unmarked ∙ constructor_mark at name named) in
      let cs : set part.structure.constructors at entries
      ≡ tables_by (constructor_wants g) (before.items ++ it ∷ []) =
      ap (λ (z : TypedStructure). set z.constructors at entries) said.structure
      ∙ ap (λ z. set z at entries) (constructor_tables g before.items)
      ∙ sym (looked_up-more entries_or_none kind.Constructor (constructor_names g) before.items
      name entries at differ named new)
      ∙ sym (constructor_tables g (before.items ++ it ∷ [])) in
      let fs : part.structure.symbols ≡ tables_by (symbol_wants g) (before.items ++ it ∷ []) =
      ap (λ (z : TypedStructure). z.symbols) said.structure ∙ symbol_tables g before.items
      ∙ sym (looked_up-other entries_or_none kind.Symbol (symbol_names g) before.items it refl)
      ∙ sym (symbol_tables g (before.items ++ it ∷ [])) in
      record {
        structure =
            ap (λ (z : TypedStructure). changed z.sizes (set part.structure.constructors at entries)
            part.structure.symbols) said.structure
            ∙ three before.sizes _ _ _ _ cs fs;
        constructors =
            ap (λ z. set z at true) said.constructors
            ∙ sym (looked_up-more is_some kind.Constructor (constructor_names g) before.items name
            entries at differ named new);
        symbols =
            said.symbols
            ∙ sym (looked_up-other is_some kind.Symbol (symbol_names g) before.items it refl);
      }

  -- a symbol's table more
  pub said_with_symbol : (at : ℕ) (name entries : List ℕ) → AllDiffer (symbol_names g)
      → slice_get (symbol_names g) at ≡ Some name → slice_get part.symbols at ≡ Some false
      → IsSaid g (with_item before
      (record { kind = kind.Symbol; name = name; entries = entries })) (with_symbol part at entries)
  said_with_symbol at name entries differ named unmarked =
      let it : Item = record { kind = kind.Symbol; name = name; entries = entries } in
      let new : entries_of kind.Symbol name before.items ≡ None =
      new_of (entries_of kind.Symbol name before.items) false refl
      (sym unmarked ∙ symbol_mark at name named) in
      let cs : part.structure.constructors
      ≡ tables_by (constructor_wants g) (before.items ++ it ∷ []) =
      ap (λ (z : TypedStructure). z.constructors) said.structure
      ∙ constructor_tables g before.items
      ∙ sym (looked_up-other entries_or_none kind.Constructor (constructor_names g) before.items it
      refl)
      ∙ sym (constructor_tables g (before.items ++ it ∷ [])) in
      let fs : set part.structure.symbols at entries
      ≡ tables_by (symbol_wants g) (before.items ++ it ∷ []) =
      ap (λ (z : TypedStructure). set z.symbols at entries) said.structure
      ∙ ap (λ z. set z at entries) (symbol_tables g before.items)
      ∙ sym (looked_up-more entries_or_none kind.Symbol (symbol_names g) before.items name entries
      at differ named new)
      ∙ sym (symbol_tables g (before.items ++ it ∷ [])) in
      record {
        structure =
            ap (λ (z : TypedStructure). changed z.sizes part.structure.constructors
            (set part.structure.symbols at entries)) said.structure
            ∙ three before.sizes _ _ _ _ cs fs;
        constructors =
            said.constructors
            ∙ sym (looked_up-other is_some kind.Constructor (constructor_names g) before.items it
            refl);
        symbols =
            ap (λ z. set z at true) said.symbols
            ∙ sym (looked_up-more is_some kind.Symbol (symbol_names g) before.items name entries at
            differ named new);
      }

-- ---- nothing but the sizes

pub said_first : (g : Signature) (sizes : List ℕ) (part : Partial)
    → part.structure.sizes ≡ sizes
    → part.structure.constructors ≡ replicate (length g.constructors) []
    → part.structure.symbols ≡ replicate (length g.symbols) []
    → part.constructors ≡ replicate (length g.constructors) false
    → part.symbols ≡ replicate (length g.symbols) false → IsSaid g (with_no_items sizes) part
said_first g sizes part same cs fs marks others =
    let constructors = length-map g.constructors (λ (c : Constructor). c.name) in
    let symbols = length-map g.symbols (λ (f : Symbol). f.name) in
    record {
      structure =
          ap (λ z. changed z part.structure.constructors part.structure.symbols) same
          ∙ three sizes _ _ _ _
          (cs ∙ ap (λ n. replicate n []) (sym constructors)
          ∙ sym (looked_up-none entries_or_none kind.Constructor (constructor_names g))
          ∙ sym (constructor_tables g []))
          (fs ∙ ap (λ n. replicate n []) (sym symbols)
          ∙ sym (looked_up-none entries_or_none kind.Symbol (symbol_names g))
          ∙ sym (symbol_tables g []));
      constructors = marks ∙ ap (λ n. replicate n false) (sym constructors)
          ∙ sym (looked_up-none is_some kind.Constructor (constructor_names g));
      symbols = others ∙ ap (λ n. replicate n false) (sym symbols)
          ∙ sym (looked_up-none is_some kind.Symbol (symbol_names g));
    }

unmarked_nowhere : (count i : ℕ) → slice_get (replicate count false) i ≡ Some true → ⊥
unmarked_nowhere zero i is = cc
unmarked_nowhere (suc count) zero is = cc
unmarked_nowhere (suc count) (suc i) is = unmarked_nowhere count i is

pub part_first : (g : Signature) (part : Partial) → IsInhabited part.structure.sizes
    → constructor_entries g part.structure.sizes ≤ most_entries
    → part.structure.constructors ≡ replicate (length g.constructors) []
    → part.structure.symbols ≡ replicate (length g.symbols) []
    → part.constructors ≡ replicate (length g.constructors) false
    → part.symbols ≡ replicate (length g.symbols) false → IsPart g part
part_first g part inhabited small cs fs marks others = record {
  inhabited = inhabited;
  small = small;
  constructor_count = ap length cs ∙ length-replicate {A = List ℕ} (length g.constructors) [];
  symbol_count = ap length fs ∙ length-replicate {A = List ℕ} (length g.symbols) [];
  constructor_marks = ap length marks ∙ length-replicate (length g.constructors) false;
  symbol_marks = ap length others ∙ length-replicate (length g.symbols) false;
  fit = λ c constructor at marked.
      absurd (unmarked_nowhere (length g.constructors) c
      (sym (ap (λ z. slice_get z c) marks) ∙ marked));
}

pub limited_first : (g : Signature) (part : Partial) → 0 < length g.constructors
    → part.constructors ≡ replicate (length g.constructors) false → IsLimited g part
limited_first g part some marks none =
    absurd (omega (
      arith,
      some,
      none,
      ap missing_among marks,
      missing_among-none (length g.constructors),
    ))
