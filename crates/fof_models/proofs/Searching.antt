-- A formula tried for each tuple of elements in turn.
use Rattle.std.specs.Prelude.{ℕ, zero, suc, ◌≡◌, ◌≢◌, ◌<◌, ◌≤◌, ◌+◌, ◌*◌, ◌-◌, Bool, true, false, List, [], ◌∷◌, ◌++◌, length, replicate, drop, slice_index}
use Rattle.std.proofs.Common.{refl, sym, ap, ◌∙◌, subst, arith, ⊎_elim}
use Rattle.std.proofs.Math.Bool.{beq}
use Rattle.std.proofs.lemmas.Bool.{cases_eq, cases_lt, false≢true}
use Rattle.std.proofs.lemmas.List.{length-append, get_or_append_left, get_or-append_right}
use Rattle.enc_base.specs.Tables.{EachBelow, tuple_count, place}
use Rattle.enc_base.proofs.Tables.{place_within}
use Rattle.enc_base.proofs.TupleOrder.{place-same}
use Rattle.fof_models.specs.declared.formula.Fof.{Fof}
use Rattle.fof_models.specs.declared.problem.FofSymbol.{FofSymbol}
use Rattle.fof_models.specs.declared.structure.Structure.{Structure}
use Rattle.fof_models.specs.Structures.{AreElements}
use Rattle.fof_models.specs.Evaluation.{true_in, IsReady, IsEach, IsTuple}
use Rattle.fof_models.proofs.Tuples.{IsTuple-none, IsTuple-zeros, number_within, number_behind}

-- a tuple's parts are elements, and so are the items that end in it

AreElements-tuple : (size count : ℕ) (tuple : List ℕ) → EachBelow (replicate count size) tuple →
    AreElements size tuple
AreElements-tuple size count tuple below = record { below = go count tuple below }
  where
    go : (count : ℕ) (tuple : List ℕ) → EachBelow (replicate count size) tuple → (i : ℕ) →
        i < length tuple → slice_index tuple i < size
    go count [] below i within = absurd (omega arith)
    go zero (element ∷ tuple) below i within = absurd below
    go (suc count) (element ∷ tuple) below zero within = below.0
    go (suc count) (element ∷ tuple) below (suc i) within = go count tuple below.1 i (omega arith)

AreElements-append : (size : ℕ) (front back : List ℕ) → AreElements size front →
    AreElements size back → AreElements size (front ++ back)
AreElements-append size front back first second = record {
  below = λ i within.
      ⊎_elim
      (λ early. subst (λ n. n < size) (sym (get_or_append_left front back 0 i early))
      (first.below i early))
      (λ late.
      let there : length front ≤ i = late in
      subst (λ n. n < size) (sym (get_or-append_right front back (length front) i 0 refl there))
      (second.below (i - length front) (omega (arith, length-append front back))))
      (cases_lt i (length front));
}

pub ready_at : (signature : List FofSymbol) (s : Structure) (count number : ℕ)
    (front items : List ℕ) → IsReady signature s front → IsTuple s.size count front items number →
    IsReady signature s items
ready_at signature s count number front items ready is = record {
  well_formed = ready.well_formed;
  elements = subst (AreElements s.size) (sym is.items_are)
      (AreElements-append s.size front is.tuple ready.elements
      (AreElements-tuple s.size count is.tuple is.below));
}

-- truth values that a test finds equal
pub beq-same : (a b : Bool) → beq a b ≡ true → a ≡ b
beq-same true true holds = refl
beq-same true false holds = absurd (false≢true holds)
beq-same false true holds = absurd (false≢true holds)
beq-same false false holds = refl

-- how many tuples are left, that of the items counted
abbrev pub left : ℕ → ℕ → List ℕ → List ℕ → ℕ
left bound count front items =
    tuple_count (replicate count bound) - place (replicate count bound) (drop (length front) items)

-- the items end in a tuple, and for all tuples before it the formula has the value
pub record IsSearching (s : Structure) (body : Fof) (value : Bool) (count : ℕ)
    (front items : List ℕ) : Type 0 where
  pub number : ℕ
  pub tuple : IsTuple s.size count front items number
  pub earlier : (tuple : List ℕ) → EachBelow (replicate count s.size) tuple →
      place (replicate count s.size) tuple < number → true_in s (front ++ tuple) body ≡ value

module _ (s : Structure) (body : Fof) (value : Bool) (count : ℕ) (front : List ℕ) where
  pub searching_first : (items : List ℕ) → 0 < s.size → items ≡ front ++ replicate count 0 →
      IsSearching s body value count front items
  searching_first items some is = record {
    number = 0 * tuple_count (replicate count s.size);
    tuple =
        let all : 0 + count ≡ count = omega arith in
        subst (λ n. IsTuple s.size n front items (0 * tuple_count (replicate count s.size))) all
        (subst (λ xs. IsTuple s.size (0 + count) front xs (0 * tuple_count (replicate count s.size)))
        (sym is) (IsTuple-zeros s.size 0 count 0 front front some (IsTuple-none s.size front)));
    earlier = λ tuple below before. absurd (omega arith);
  }

  -- the formula has the value at the items, too
  module _ (items : List ℕ) (held : Bool) (searching : IsSearching s body value count front items)
      (found : held ≡ true_in s items body)
    where
      up_to : held ≡ value → (tuple : List ℕ) → EachBelow (replicate count s.size) tuple →
          place (replicate count s.size) tuple < searching.number + 1 →
          true_in s (front ++ tuple) body ≡ value
      up_to holds tuple below before =
          ⊎_elim
          (λ same.
          let here : tuple ≡ searching.tuple.tuple =
          place-same (replicate count s.size) tuple searching.tuple.tuple below searching.tuple.below
          (same ∙ sym searching.tuple.number_is) in
          ap (λ xs. true_in s (front ++ xs) body) here
          ∙ ap (λ xs. true_in s xs body) (sym searching.tuple.items_are)
          ∙ sym found ∙ holds)
          (λ differs.
          let other : place (replicate count s.size) tuple ≡ searching.number → ⊥ = differs in
          searching.earlier tuple below (omega arith))
          (cases_eq (place (replicate count s.size) tuple) searching.number)

      pub searching_next : held ≡ value → (next : List ℕ) →
          ((number : ℕ) → IsTuple s.size count front items number →
          IsTuple s.size count front next (number + 1)) →
          IsSearching s body value count front next
      searching_next holds next steps = record {
        number = searching.number + 1;
        tuple = steps searching.number searching.tuple;
        earlier = up_to holds;
      }

      pub searching_all : held ≡ value →
          searching.number + 1 ≡ tuple_count (replicate count s.size) →
          IsEach s front body count value
      searching_all holds whole tuple below =
          up_to holds tuple below
          (omega (arith, whole, place_within (replicate count s.size) tuple below))

      pub searching_fails : held ≢ value → IsEach s front body count value → ⊥
      searching_fails differs each =
          differs
          (found ∙ ap (λ xs. true_in s xs body) searching.tuple.items_are
          ∙ each searching.tuple.tuple searching.tuple.below)

  pub left_falls : (items next : List ℕ) (number : ℕ) → IsTuple s.size count front items number →
      IsTuple s.size count front next (number + 1) →
      left s.size count front next < left s.size count front items
  left_falls items next number is after =
      omega (
        arith,
        number_behind s.size count number front items is,
        number_behind s.size count (number + 1) front next after,
        number_within s.size count number front items is,
      )
