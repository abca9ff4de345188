-- The place of a tuple, found from the left, and what stands there.
use Rattle.std.specs.Prelude.{ℕ, zero, suc, ◌≡◌, ◌<◌, ◌≤◌, ◌+◌, ◌*◌, ◌-◌, Bool, false, List, [], ◌∷◌, ◌++◌, map, length, replicate, reverse, take, get_or, cond, IsTrue, slice_index, slice_get, Some}
use Rattle.std.proofs.Common.{refl, sym, ap, ◌∙◌, subst, arith}
use Rattle.std.proofs.lemmas.Bool.{and_parts, ltb-true}
use Rattle.std.proofs.lemmas.List.{take_more, map-append, get_or-reverse}
use Rattle.enc_base.specs.Tables.{tuple_count, place}
use Rattle.enc_base.specs.Tuples.{IsPlaced}
use Rattle.enc_base.proofs.Placing.{placed_within}
use Rattle.enc_base.proofs.Tables.{EachBelow-length, place-more, EachBelow-more, tuple_count-grows}
use Rattle.fof_models.specs.declared.problem.FofSymbol.{FofSymbol}
use Rattle.fof_models.specs.declared.formula.FofTerm.{FofTerm}
use Rattle.fof_models.specs.declared.formula.FofTerm.TheVariants as term
use Rattle.fof_models.specs.declared.structure.Structure.{Structure}
use Rattle.fof_models.specs.Structures.{table_of, reading, IsWellFormed}
use Rattle.fof_models.specs.Truth.{value}
use Rattle.fof_models.specs.Sound.{is_symbol, is_term, are_terms}
use Rattle.fof_models.specs.Evaluation.{value_in}
use Rattle.fof_models.proofs.Truth.{value-variable, value-apply}
use Rattle.fof_models.proofs.Sound.{is_term-variable, is_term-apply}
use Rattle.fof_models.proofs.Agreement.{is_symbol-says}

pub IsPlaced-none : (bound : ℕ) → IsPlaced (replicate 0 bound) [] 0
IsPlaced-none bound = record { place_is = refl; below = tt }

pub IsPlaced-more : (bound value count at : ℕ) (values : List ℕ) →
    IsPlaced (replicate count bound) values at → value < bound →
    IsPlaced (replicate (count + 1) bound) (values ++ value ∷ []) (at * bound + value)
IsPlaced-more bound value count at values placed within =
    let next : suc count ≡ count + 1 = omega arith in
    subst (λ n. IsPlaced (replicate n bound) (values ++ value ∷ []) (at * bound + value)) next
    (record {
      place_is =
          ap (λ a. a * bound + value) placed.place_is
          ∙ sym (place-more bound value count values (EachBelow-length count bound values placed.below));
      below = EachBelow-more bound value count values placed.below within;
    })

-- a step of the place stays within the table of more arguments
pub placed_fits : (bound value count at arity : ℕ) (values : List ℕ) →
    IsPlaced (replicate count bound) values at → value < bound → count < arity →
    at * bound + value < tuple_count (replicate arity bound)
placed_fits bound value count at arity values placed within more =
    let next = IsPlaced-more bound value count at values placed within in
    let whole : count + 1 + (arity - (count + 1)) ≡ arity = omega arith in
    let grows : tuple_count (replicate (count + 1) bound) ≤ tuple_count (replicate arity bound) =
    subst (λ n. tuple_count (replicate (count + 1) bound) ≤ tuple_count (replicate n bound)) whole
    (tuple_count-grows bound (count + 1) (arity - (count + 1)) (omega arith)) in
    omega (
      arith,
      placed_within (replicate (count + 1) bound) (values ++ value ∷ []) (at * bound + value) next,
      grows,
    )

-- one term more
pub placed_step : (bound i at v : ℕ) (f : FofTerm → ℕ) (terms : List FofTerm) (t : FofTerm) →
    i < length terms → t ≡ get_or terms i t →
    IsPlaced (replicate i bound) (map f (take i terms)) at → v ≡ f t → v < bound →
    IsPlaced (replicate (i + 1) bound) (map f (take (i + 1) terms)) (at * bound + v)
placed_step bound i at v f terms t inside is placed same within =
    let more : map f (take (i + 1) terms) ≡ map f (take i terms) ++ v ∷ [] =
    ap (map f) (take_more terms i t inside)
    ∙ map-append f (take i terms) (get_or terms i t ∷ [])
    ∙ ap (λ y. map f (take i terms) ++ y ∷ []) (ap f (sym is) ∙ sym same) in
    subst (λ vs. IsPlaced (replicate (i + 1) bound) vs (at * bound + v)) (sym more)
    (IsPlaced-more bound v i at (map f (take i terms)) placed within)

-- the symbol's table

slice_get_within : {X : Type 0} (xs : List X) (i : ℕ) (x : X) → slice_get xs i ≡ Some x → i < length xs
slice_get_within [] i x at = cc
slice_get_within (y ∷ ys) zero x at = omega arith
slice_get_within (y ∷ ys) (suc i) x at = omega (arith, slice_get_within ys i x at)

module _ (signature : List FofSymbol) (s : Structure) (f : ℕ) (predicate : Bool) (count : ℕ)
    (well_formed : IsWellFormed signature s)
    (symbol : IsTrue (is_symbol (slice_get signature f) predicate count))
  where
    pub symbol_within : f < length s.tables
    symbol_within =
        let found = is_symbol-says (slice_get signature f) predicate count symbol in
        omega (arith, well_formed.count, slice_get_within signature f found.0 found.1)

    pub table_length : length (table_of s f) ≡ tuple_count (replicate count s.size)
    table_length =
        let found = is_symbol-says (slice_get signature f) predicate count symbol in
        (well_formed.tables f found.0 found.1).count ∙ ap (λ n. tuple_count (replicate n s.size)) found.3

    pub table_entry : (i : ℕ) → i < length (table_of s f) →
        slice_index (table_of s f) i < cond predicate 2 s.size
    table_entry i within =
        let found = is_symbol-says (slice_get signature f) predicate count symbol in
        subst (λ b. slice_index (table_of s f) i < cond b 2 s.size) found.2
        ((well_formed.tables f found.0 found.1).below i within)

-- the entry at the place of a tuple
pub entry_is : (s : Structure) (f at count : ℕ) (values table : List ℕ) → table ≡ table_of s f →
    count ≡ length values → IsPlaced (replicate count s.size) values at →
    slice_index table at ≡ (reading s).symbol_at f values
entry_is s f at count values table same long placed =
    ap (λ t. slice_index t at) same
    ∙ ap (slice_index (table_of s f))
    (placed.place_is ∙ ap (λ n. place (replicate n s.size) values) long)

-- the parts of a term

pub apply_sound : (signature : List FofSymbol) (t : FofTerm) (f : ℕ) (terms : List FofTerm) (binders : ℕ) →
    t ≡ term.Apply f terms → IsTrue (is_term signature t binders) →
    IsTrue (is_symbol (slice_get signature f) false (length terms)) × IsTrue (are_terms signature terms binders)
apply_sound signature t f terms binders is sound =
    and_parts (is_symbol (slice_get signature f) false (length terms)) (are_terms signature terms binders)
    (sym (is_term-apply signature f terms binders) ∙ ap (λ x. is_term signature x binders) (sym is) ∙ sound)

pub variable_sound : (signature : List FofSymbol) (t : FofTerm) (i binders : ℕ) → t ≡ term.Var i →
    IsTrue (is_term signature t binders) → i < binders
variable_sound signature t i binders is sound =
    ltb-true i binders
    (sym (is_term-variable signature i binders) ∙ ap (λ x. is_term signature x binders) (sym is) ∙ sound)

pub variable_value : (s : Structure) (t : FofTerm) (i v : ℕ) (items : List ℕ) → t ≡ term.Var i →
    i < length items → v ≡ slice_index items (length items - (i + 1)) → v ≡ value_in s items t
variable_value s t i v items is within at =
    let place : length items - (i + 1) ≡ length items - 1 - i = omega arith in
    at ∙ ap (slice_index items) place ∙ sym (get_or-reverse items i 0 within)
    ∙ sym (value-variable (reading s) (reverse items) i)
    ∙ ap (value (reading s) (reverse items)) (sym is)

pub apply_value : (s : Structure) (t : FofTerm) (f v : ℕ) (terms : List FofTerm) (items : List ℕ) →
    t ≡ term.Apply f terms → v ≡ (reading s).symbol_at f (map (value_in s items) terms) →
    v ≡ value_in s items t
apply_value s t f v terms items is at =
    at ∙ sym (value-apply (reading s) (reverse items) f terms)
    ∙ ap (value (reading s) (reverse items)) (sym is)

-- an item of a list of sound terms
pub term_sound_at : (signature : List FofSymbol) (binders i : ℕ) (terms : List FofTerm) (t : FofTerm) →
    i < length terms → t ≡ get_or terms i t → IsTrue (are_terms signature terms binders) →
    IsTrue (is_term signature t binders)
term_sound_at signature binders i terms t within is sound =
    subst (λ x. IsTrue (is_term signature x binders)) (sym is) (go i terms within sound)
  where
    go : (i : ℕ) (xs : List FofTerm) → i < length xs → IsTrue (are_terms signature xs binders) →
        IsTrue (is_term signature (get_or xs i t) binders)
    go i [] within sound = absurd (omega arith)
    go zero (x ∷ xs) within sound = (and_parts (is_term signature x binders) _ sound).0
    go (suc i) (x ∷ xs) within sound =
        go i xs (omega arith) (and_parts (is_term signature x binders) _ sound).1
