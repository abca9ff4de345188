-- A structure's tables against a signature, taken from the left.
use Rattle.std.specs.Prelude.{ℕ, zero, suc, ◌≡◌, ◌<◌, ◌≤◌, ◌+◌, ◌-◌, ◌*◌, replicate, List, [], ◌∷◌, length, get_or, slice_get, Some}
use Rattle.std.proofs.Common.{refl, sym, ap, ◌∙◌, subst, arith, ⊎_elim}
use Rattle.std.proofs.lemmas.Bool.{cases_eq}
use Rattle.enc_base.specs.Tables.{tuple_count}
use Rattle.enc_base.proofs.Tables.{tuple_count-more, tuple_count-grows}
use Rattle.fof_models.specs.declared.problem.FofSymbol.{FofSymbol}
use Rattle.fof_models.specs.declared.structure.Structure.{Structure}
use Rattle.fof_models.specs.Structures.{table_of, IsTable, IsWellFormed}

get_or_default : {A : Type 0} (xs : List A) (i : ℕ) (a b : A) → i < length xs → get_or xs i a ≡ get_or xs i b
get_or_default [] i a b within = absurd (omega arith)
get_or_default (x ∷ xs) zero a b within = refl
get_or_default (x ∷ xs) (suc i) a b within = get_or_default xs i a b (omega arith)

slice_get-within : {A : Type 0} (xs : List A) (i : ℕ) (d : A) → i < length xs →
    slice_get xs i ≡ Some (get_or xs i d)
slice_get-within [] i d within = absurd (omega arith)
slice_get-within (x ∷ xs) zero d within = refl
slice_get-within (x ∷ xs) (suc i) d within = slice_get-within xs i d (omega arith)

slice_get-length : {A : Type 0} (xs : List A) (i : ℕ) (x : A) → slice_get xs i ≡ Some x → i < length xs
slice_get-length [] i x at = cc
slice_get-length (y ∷ ys) zero x at = omega arith
slice_get-length (y ∷ ys) (suc i) x at = omega (arith, slice_get-length ys i x at)

-- the table at an index, as code reads it
pub table_read : (s : Structure) (tables : List (List ℕ)) (i : ℕ) (entries lent : List ℕ) →
    tables ≡ s.tables → i < length tables → entries ≡ get_or tables i entries → lent ≡ entries →
    lent ≡ table_of s i
table_read s tables i entries lent same within is lend =
    lend ∙ is ∙ get_or_default tables i entries [] within ∙ ap (λ ts. get_or ts i []) same

module _ (signature : List FofSymbol) (s : Structure) (i : ℕ) (symbol : FofSymbol) (entries : List ℕ)
    (within : i < length signature) (is : symbol ≡ get_or signature i symbol)
    (read : entries ≡ table_of s i)
  where
    symbol_at : slice_get signature i ≡ Some symbol
    symbol_at = slice_get-within signature i symbol within ∙ ap (λ x. Some x) (sym is)

    -- one table more is right
    pub tables_more : IsTable symbol s.size entries →
        ((f : ℕ) (x : FofSymbol) → f < i → slice_get signature f ≡ Some x → IsTable x s.size (table_of s f)) →
        (f : ℕ) (x : FofSymbol) → f < i + 1 → slice_get signature f ≡ Some x → IsTable x s.size (table_of s f)
    tables_more right earlier f x below at =
        ⊎_elim
        (λ same.
        let found : symbol ≡ x =
        let both : Some symbol ≡ Some x = sym symbol_at ∙ ap (slice_get signature) (sym same) ∙ at in cc in
        subst (λ n. IsTable x s.size (table_of s n)) (sym same)
        (subst (λ y. IsTable y s.size (table_of s i)) found
        (subst (IsTable symbol s.size) read right)))
        (λ differs. let other : f ≡ i → ⊥ = differs in earlier f x (omega arith) at)
        (cases_eq f i)

    -- a wrong table is one of no well-formed structure
    pub table_needed : IsWellFormed signature s → IsTable symbol s.size entries
    table_needed well_formed =
        subst (IsTable symbol s.size) (sym read) (well_formed.tables i symbol symbol_at)

-- the right tables make a well-formed structure
pub well_formed_from : (signature : List FofSymbol) (s : Structure) (count : ℕ) → 0 < s.size →
    length s.tables ≡ length signature → length signature ≤ count →
    ((f : ℕ) (x : FofSymbol) → f < count → slice_get signature f ≡ Some x → IsTable x s.size (table_of s f)) →
    IsWellFormed signature s
well_formed_from signature s count some same whole right = record {
  inhabited = some;
  count = same;
  tables = λ f x at. right f x (omega (arith, slice_get-length signature f x at)) at;
}

-- a table that is shorter than the tuples of some of the arguments isn't one of all of them
pub too_long : (size arity counter count entries : ℕ) → 0 < size →
    count ≡ tuple_count (replicate counter size) → counter < arity → entries < count * size →
    entries ≡ tuple_count (replicate arity size) → ⊥
too_long size arity counter count entries some so_far more short same =
    let whole : suc counter + (arity - suc counter) ≡ arity = omega arith in
    let grows : tuple_count (replicate (suc counter) size) ≤ tuple_count (replicate arity size) =
    subst (λ n. tuple_count (replicate (suc counter) size) ≤ tuple_count (replicate n size)) whole
    (tuple_count-grows size (suc counter) (arity - suc counter) some) in
    omega (arith, short, same, grows, tuple_count-more counter size, ap (λ n. n * size) so_far)

-- the tuples of one argument more
pub count_more : (size counter count : ℕ) → count ≡ tuple_count (replicate counter size) →
    count * size ≡ tuple_count (replicate (counter + 1) size)
count_more size counter count so_far =
    let next : suc counter ≡ counter + 1 = omega arith in
    ap (λ n. n * size) so_far ∙ sym (tuple_count-more counter size)
    ∙ ap (λ n. tuple_count (replicate n size)) next
