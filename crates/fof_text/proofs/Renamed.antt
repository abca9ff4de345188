-- The structure in which each symbol is what its name is in another structure.
use Rattle.std.proofs.Common.{◌≡◌, ℕ, zero, suc, ◌+◌, ◌≤◌, ◌<◌, Bool, true, false, cond}
use Rattle.std.proofs.Common.{if◌then◌else◌, List, [], ◌∷◌, length, Option, Some, None, refl, sym}
use Rattle.std.proofs.Common.{ap, subst, arith}
use Rattle.std.specs.Prelude.{slice_get, slice_index, ltb}
use Rattle.std.specs.List.{AllByRecursion}
use Rattle.std.proofs.lemmas.Bool.{lt-ltb, ltb-true}
use Rattle.fof_models.specs.declared.problem.FofSymbol.{FofSymbol}
use Rattle.fof_models.specs.Structures.{Untyped, IsStructure, values_below}
use Rattle.fof_text.specs.Names.{name_at, place_of}

-- the value, or 0 where it is no value of the symbol
abbrev pub kept_in : ℕ → Option FofSymbol → ℕ → ℕ
kept_in size None v = v
kept_in size (Some symbol) v = if ltb v (values_below symbol size) then v else 0

-- Each symbol is what its name is in the other structure. Symbols whose names are not there, and
-- those of another kind there, are brought into range.
abbrev pub renamed : List (List ℕ) → List (List ℕ) → List FofSymbol → Untyped → Untyped
renamed names others g s = record {
  size = s.size;
  symbol_at = λ i vs.
      kept_in s.size (slice_get g i) (s.symbol_at (place_of names (name_at others i)) vs);
}

some_value : (predicate : Bool) (size : ℕ) → 0 < size → 0 < cond predicate 2 size
some_value true size some = omega arith
some_value false size some = some

kept_within : (size : ℕ) (symbol : FofSymbol) (v : ℕ) → 0 < size
    → kept_in size (Some symbol) v < values_below symbol size
kept_within size symbol v some = go (ltb v (values_below symbol size)) refl
  where
    go : (w : Bool) → ltb v (values_below symbol size) ≡ w
        → (if w then v else 0) < values_below symbol size
    go true h = ltb-true v (values_below symbol size) h
    go false h = some_value symbol.predicate size some

pub kept_value : (size : ℕ) (symbol : FofSymbol) (v : ℕ) → v < values_below symbol size
    → kept_in size (Some symbol) v ≡ v
kept_value size symbol v within =
    ap (λ w. if w then v else 0) (lt-ltb v (values_below symbol size) within)

pub IsStructure-renamed : (names others : List (List ℕ)) (g : List FofSymbol) (s : Untyped)
    → 0 < s.size → IsStructure g (renamed names others g s)
IsStructure-renamed names others g s some = record {
  inhabited = some;
  values = λ i symbol vs at below.
      let v : ℕ = s.symbol_at (place_of names (name_at others i)) vs in
      subst (λ (o : Option FofSymbol). kept_in s.size o v < values_below symbol s.size) (sym at)
      (kept_within s.size symbol v some);
}

-- ---- assignments

-- d binders have elements
pub record AreBound (size d : ℕ) (elements : List ℕ) : Type 0 where
  pub enough : d ≤ length elements
  pub below : AllByRecursion (λ v. v < size) elements

pub bind_one : {size d : ℕ} {elements : List ℕ} (e : ℕ) → e < size → AreBound size d elements
    → AreBound size (d + 1) (e ∷ elements)
bind_one {size} {d} {elements} e l k =
    let enough = k.enough in record { enough = omega arith; below = (l, k.below) }

pub element_below : (elements : List ℕ) (size i : ℕ) → AllByRecursion (λ v. v < size) elements
    → i < length elements → slice_index elements i < size
element_below [] size i h l = absurd (omega arith)
element_below (e ∷ elements) size zero h l = h.0
element_below (e ∷ elements) size (suc i) h l = element_below elements size i h.1 (omega arith)
