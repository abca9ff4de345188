-- How often parameters occur, counted variable by variable.
use Rattle.std.specs.Prelude.{ℕ, zero, suc, ◌≡◌, ◌<◌, ◌≤◌, ◌+◌, List, [], ◌∷◌, ◌++◌, cond, eqb, flat_map, get_or, length, min, replicate, slice_index, take}
use Rattle.std.proofs.Common.{sym, ap, ◌∙◌, arith, ⊎_elim}
use Rattle.std.proofs.Math.ListN.{set}
use Rattle.std.proofs.lemmas.Bool.{cases_eq, eq-eqb, ne_eqb}
use Rattle.std.proofs.lemmas.Grind.{flat_map-append}
use Rattle.std.proofs.lemmas.List.{append-nil, length-replicate, get_or-set_same, get_or-set_other, take_more}
use Rattle.std.proofs.lemmas.List.Sums.{sum_by_more, sum_by-append}
use Rattle.tf_core.specs.declared.ty.Ty.{Ty}
use Rattle.structure_tables.proofs.Tabling.{zeros_at}
use Rattle.structure_tables.specs.ParameterSets.{uses_of}
use Rattle.structure_tables.specs.ParameterGroups.{variables}

-- the uses so far
abbrev pub AreSoFar : List ℕ → List ℕ → List ℕ → Type 0
AreSoFar before vs now =
    (i : ℕ) → i < length before →
    slice_index now i ≡ min (slice_index before i + uses_of vs i) 2

pub uses_none : (before : List ℕ) → ((i : ℕ) → i < length before → slice_index before i ≤ 2) →
    AreSoFar before [] before
uses_none before few i within = omega (arith, few i within)

-- a variable more
pub uses_more : (before now vs : List ℕ) (k place : ℕ) → k < length vs → place ≡ get_or vs k 0 →
    place < length now → AreSoFar before (take k vs) now →
    AreSoFar before (take (k + 1) vs) (set now place (min (slice_index now place + 1) 2))
uses_more before now vs k place within is inside so_far i low =
    let used : uses_of (take (k + 1) vs) i ≡ uses_of (take k vs) i + cond (eqb i (get_or vs k 0)) 1 0 =
    sum_by_more (λ x. cond (eqb i x) 1 0) vs k 0 within in
    ⊎_elim
    (λ same. let equal : i ≡ place = same in
    let here : cond (eqb i (get_or vs k 0)) 1 0 ≡ suc zero =
    ap (λ b. cond b 1 0) (eq-eqb i (get_or vs k 0) (equal ∙ is)) in
    ap (slice_index (set now place (min (slice_index now place + 1) 2))) equal
    ∙ get_or-set_same now place (min (slice_index now place + 1) 2) 0 inside
    ∙ omega (arith, so_far i low, used, here, ap (slice_index now) equal))
    (λ differs. let other : i ≡ place → ⊥ = differs in
    let nothing : cond (eqb i (get_or vs k 0)) 1 0 ≡ zero =
    ap (λ b. cond b 1 0) (ne_eqb i (get_or vs k 0) (λ same. other (same ∙ sym is))) in
    get_or-set_other now place i (min (slice_index now place + 1) 2) 0 other
    ∙ omega (arith, so_far i low, used, nothing))
    (cases_eq i place)

-- the uses in a symbol's first argument types
pub record AreUsesSoFar (parameters : ℕ) (types : List Ty) (uses : List ℕ) : Type 0 where
  pub long : length uses ≡ parameters
  pub are : (i : ℕ) → i < parameters →
      slice_index uses i ≡ min (uses_of (flat_map variables types) i) 2

pub no_types_used : (parameters : ℕ) (uses : List ℕ) → uses ≡ replicate parameters 0 →
    AreUsesSoFar parameters [] uses
no_types_used parameters uses is = record {
  long = ap length is ∙ length-replicate parameters 0;
  are = λ i within. ap (λ us. slice_index us i) is ∙ zeros_at parameters i;
}

pub uses_few : (parameters : ℕ) (types : List Ty) (uses : List ℕ) →
    AreUsesSoFar parameters types uses → (i : ℕ) → i < length uses → slice_index uses i ≤ 2
uses_few parameters types uses so_far i within =
    omega (arith, so_far.are i (omega (arith, within, so_far.long)))

-- an argument type more
pub type_more : (parameters : ℕ) (types : List Ty) (before after : List ℕ) (k : ℕ) (ty : Ty) →
    k < length types → ty ≡ get_or types k ty → AreUsesSoFar parameters (take k types) before →
    length after ≡ length before → AreSoFar before (variables ty) after →
    AreUsesSoFar parameters (take (k + 1) types) after
type_more parameters types before after k ty within is so_far kept more = record {
  long = kept ∙ so_far.long;
  are = λ i low.
      let whole : uses_of (flat_map variables (take (k + 1) types)) i
      ≡ uses_of (flat_map variables (take k types)) i + uses_of (variables ty) i =
      ap (λ ts. uses_of (flat_map variables ts) i) (take_more types k ty within)
      ∙ ap (λ vs. uses_of vs i)
      (flat_map-append variables (take k types) (get_or types k ty ∷ []))
      ∙ sum_by-append (λ x. cond (eqb i x) 1 0) (flat_map variables (take k types))
      (flat_map variables (get_or types k ty ∷ []))
      ∙ ap (λ t. uses_of (flat_map variables (take k types)) i
      + uses_of (variables t ++ []) i) (sym is)
      ∙ ap (λ vs. uses_of (flat_map variables (take k types)) i + uses_of vs i)
      (append-nil (variables ty)) in
      omega (
        arith,
        so_far.are i low,
        more i (omega (arith, low, so_far.long)),
        whole,
      );
}
