-- The numbers in the tables of a well-formed structure have 32 bits, where its sizes have.
use Rattle.std.proofs.Common.{◌≡◌, ℕ, zero, suc, ◌<◌, ◌≤◌, ◌^◌, Bool, true, false, cond, List, []}
use Rattle.std.proofs.Common.{◌∷◌, ◌++◌, length, replicate, get_or, slice_get, slice_index, Option}
use Rattle.std.proofs.Common.{Some, None, refl, subst, arith}
use Rattle.std.specs.List.{AllByRecursion}
use Rattle.enc_base.specs.Tables.{rows, blocks}
use Rattle.tf_core.specs.declared.ty.Ty.{Ty}
use Rattle.tf_core.specs.declared.signature.Symbol.{Symbol}
use Rattle.tf_core.specs.declared.signature.Signature.{Signature}
use Rattle.tf_core.specs.Types.{type_value}
use Rattle.tf_core.specs.TypedTables.{IsWellFormed as IsTyped, block_length, constructor_entry}
use Rattle.tf_models.specs.declared.structure.TypedStructure.{TypedStructure}
use Rattle.tf_models.specs.Fit.{TablesFit, bound_at}
use Rattle.tf_models.specs.Reading.{tables}
use Rattle.tf_models.proofs.WellFormed.{well_formed_fits}
use Rattle.fof_models.specs.declared.problem.FofSymbol.{FofSymbol}
use Rattle.fof_models.specs.declared.structure.Structure.{Structure}
use Rattle.fof_models.specs.Structures.{IsWellFormed, values_below}
use Rattle.model_tables.specs.Typed.{symbol_bounds}
use Rattle.model_tables.specs.WrittenLaws.{AreNumbers, HasNumbers}
use Rattle.model_tables.proofs.SymbolShapes.{symbol_shaped}

-- ---- lists

-- the item at an index
item_at : {A : Type 0} (items : List A) (i : ℕ) → i < length items →
    (item : A) × (slice_get items i ≡ Some item)
item_at [] i within = absurd (omega (arith, within))
item_at (item ∷ items) zero within = (item, refl)
item_at (item ∷ items) (suc i) within = item_at items i (omega (arith, within))

-- what holds of the item at each index holds of all
all_from_at : {A : Type 0} (P : A → Type 0) (items : List A) →
    ((i : ℕ) (item : A) → slice_get items i ≡ Some item → P item) → AllByRecursion P items
all_from_at P [] at = tt
all_from_at P (item ∷ items) at =
    (at 0 item refl, all_from_at P items (λ i other is. at (suc i) other is))

get_at : {A : Type 0} (items : List A) (i : ℕ) (d item : A) → slice_get items i ≡ Some item →
    get_or items i d ≡ item
get_at [] i d item at = cc
get_at (first ∷ items) zero d item at = cc
get_at (first ∷ items) (suc i) d item at = get_at items i d item at

at_within : {A : Type 0} (items : List A) (i : ℕ) (item : A) → slice_get items i ≡ Some item →
    i < length items
at_within [] i item at = cc
at_within (first ∷ items) zero item at = omega arith
at_within (first ∷ items) (suc i) item at = omega (arith, at_within items i item at)

all_numbers : (limit : ℕ) (ns : List ℕ) → limit ≤ 2 ^ 32 →
    ((i : ℕ) → i < length ns → slice_index ns i < limit) → AreNumbers ns
all_numbers limit [] few below = tt
all_numbers limit (n ∷ ns) few below =
    let first : n < limit = below 0 (omega arith) in (
      omega (arith, first, few),
      all_numbers limit ns few (λ i within. below (suc i) (omega (arith, within))),
    )

-- where all numbers are within a limit, the number at each index is
at_most : (limit : ℕ) (ns : List ℕ) → AllByRecursion (λ n. n ≤ limit) ns → (i : ℕ) →
    slice_index ns i ≤ limit
at_most limit [] all i = omega arith
at_most limit (n ∷ ns) all zero = all.0
at_most limit (n ∷ ns) all (suc i) = at_most limit ns all.1 i

-- a number of the list, or 0 behind its end
all_at : (ns : List ℕ) → AreNumbers ns → (i : ℕ) → slice_index ns i < 2 ^ 32
all_at [] few i = omega arith
all_at (n ∷ ns) few zero = few.0
all_at (n ∷ ns) few (suc i) = all_at ns few.1 i

module _ (P : ℕ → Type 0) where
  all_both : (items others : List ℕ) → AllByRecursion P items → AllByRecursion P others →
      AllByRecursion P (items ++ others)
  all_both [] others h i = i
  all_both (n ∷ items) others h i = (h.0, all_both items others h.1 i)

  all_replicate : (count n : ℕ) → P n → AllByRecursion P (replicate count n)
  all_replicate zero n holds = tt
  all_replicate (suc count) n holds = (holds, all_replicate count n holds)

  all_rows : (bound : ℕ) (row : ℕ → List ℕ) → ((n : ℕ) → AllByRecursion P (row n)) →
      AllByRecursion P (rows bound row)
  all_rows zero row each = tt
  all_rows (suc bound) row each =
      all_both (rows bound row) (row bound) (all_rows bound row each) (each bound)

  all_blocks : (bounds : List ℕ) (block : List ℕ → List ℕ) →
      ((values : List ℕ) → AllByRecursion P (block values)) → AllByRecursion P (blocks bounds block)
  all_blocks [] block each = each []
  all_blocks (bound ∷ bounds) block each =
      all_rows bound (λ value. blocks bounds (λ values. block (value ∷ values)))
      (λ value.
      all_blocks bounds (λ values. block (value ∷ values)) (λ values. each (value ∷ values)))

-- ---- untyped structures

module _ (signature : List FofSymbol) (s : Structure) (formed : IsWellFormed signature s)
    (size_few : s.size < 2 ^ 32) where
  values_few : (symbol : FofSymbol) → values_below symbol s.size ≤ 2 ^ 32
  values_few symbol = by symbol.predicate
    where
      by : (predicate : Bool) → cond predicate 2 s.size ≤ 2 ^ 32
      by true = omega arith
      by false = omega (arith, size_few)

  table_numbers : (f : ℕ) (entries : List ℕ) → slice_get s.tables f ≡ Some entries →
      AreNumbers entries
  table_numbers f entries at =
      let found = item_at signature f (omega (arith, at_within s.tables f entries at, formed.count))
      in
      let table = formed.tables f found.0 found.1 in
      all_numbers (values_below found.0 s.size) entries (values_few found.0)
      (subst
      (λ ns. (i : ℕ) → i < length ns → slice_index ns i < values_below found.0 s.size)
      (get_at s.tables f [] entries at) table.below)

  pub untyped_numbers : AllByRecursion AreNumbers s.tables
  untyped_numbers = all_from_at AreNumbers s.tables table_numbers

-- ---- typed structures

-- the entries of all tables have 32 bits
pub record AllNumbers (s : TypedStructure) : Type 0 where
  pub constructors : AllByRecursion AreNumbers s.constructors
  pub symbols : AllByRecursion AreNumbers s.symbols

module _ (g : Signature) (s : TypedStructure) (formed : IsTyped g (tables s))
    (small : HasNumbers s) where
  fit : TablesFit g (tables s)
  fit = well_formed_fits g s formed

  member_few : (member : ℕ) → slice_index s.sizes member < 2 ^ 32
  member_few = all_at s.sizes small.sizes

  constructor_numbers : (c : ℕ) (entries : List ℕ) → slice_get s.constructors c ≡ Some entries →
      AreNumbers entries
  constructor_numbers c entries at =
      let found = item_at g.constructors c
      (omega (arith, at_within s.constructors c entries at, fit.constructors.count)) in
      let table = fit.constructors.tables c found.0 found.1 in
      all_numbers (length s.sizes) entries small.members
      (subst (λ ns. (i : ℕ) → i < length ns → slice_index ns i < length s.sizes)
      (get_at s.constructors c [] entries at) table.below)

  bound_few : (result : Option Ty) (members : List ℕ) → bound_at (tables s) result members ≤ 2 ^ 32
  bound_few None members = omega arith
  bound_few (Some ty) members =
      omega (arith, member_few (type_value (constructor_entry (tables s)) members ty))

  bounds_few : (symbol : Symbol) →
      AllByRecursion (λ n. n ≤ 2 ^ 32) (symbol_bounds (tables s) symbol)
  bounds_few symbol =
      all_blocks (λ n. n ≤ 2 ^ 32) (replicate symbol.parameters (length s.sizes))
      (λ members.
      replicate (block_length (tables s) symbol members)
      (bound_at (tables s) symbol.result members))
      (λ members.
      all_replicate (λ n. n ≤ 2 ^ 32) (block_length (tables s) symbol members)
      (bound_at (tables s) symbol.result members) (bound_few symbol.result members))

  entry_few : (entry bound : ℕ) → entry < bound → bound ≤ 2 ^ 32 → entry < 2 ^ 32
  entry_few entry bound below within = omega (arith, below, within)

  symbol_numbers : (f : ℕ) (entries : List ℕ) → slice_get s.symbols f ≡ Some entries →
      AreNumbers entries
  symbol_numbers f entries at =
      let found = item_at g.symbols f
      (omega (arith, at_within s.symbols f entries at, fit.count)) in
      let same = get_at s.symbols f [] entries at in
      let shape = symbol_shaped (tables s) fit.constructors.inhabited.some found.0
      (get_or s.symbols f []) (fit.symbols f found.0 found.1) in
      subst AreNumbers same
      (all_numbers (2 ^ 32) (get_or s.symbols f []) (omega arith)
      (λ i within.
      entry_few (slice_index (get_or s.symbols f []) i)
      (slice_index (symbol_bounds (tables s) found.0) i) (shape.below i within)
      (at_most (2 ^ 32) (symbol_bounds (tables s) found.0) (bounds_few found.0) i)))

  pub typed_numbers : AllNumbers s
  typed_numbers = record {
    constructors = all_from_at AreNumbers s.constructors constructor_numbers;
    symbols = all_from_at AreNumbers s.symbols symbol_numbers;
  }
