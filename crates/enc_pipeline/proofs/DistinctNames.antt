-- The names of a well typed problem tell its constructors and its symbols apart.
use Rattle.std.proofs.Common.{◌≡◌, ℕ, suc, ◌≤◌, Bool, true, false, not, List, [], ◌∷◌, ◌++◌, length, map, filter, cond, refl, subst, sym, arith, bytes_eq}
use Rattle.std.specs.Prelude.{if◌then◌else◌}
use Rattle.tptp_words.specs.Words.{same}
use Rattle.tptp_syntax.specs.declared.entry.File.{File}
use Rattle.tf_core.specs.declared.signature.Constructor.{Constructor}
use Rattle.tf_core.specs.declared.signature.Symbol.{Symbol}
use Rattle.tf_core.specs.declared.signature.Signature.{Signature}
use Rattle.tf_core.specs.declared.problem.Problem.{Problem}
use Rattle.tf_check.specs.Signature.{first_of_each, signature_of, individuals_constructor, declared_constructor, declared_symbols, visited_names}
use Rattle.tf_check.specs.Names.{over_individuals}
use Rattle.tf_check.specs.Entries.{constructor_declarations}
use Rattle.tf_check.specs.Typing.{IsTyped}
use Rattle.fof_text.specs.Names.{AllDiffer, place_of}
use Rattle.fof_text.proofs.Taken.{not_same}
use Rattle.model_tables.specs.Writable.{constructor_names, symbol_names}
use Rattle.enc_pipeline.specs.Distinct.{HasDistinctNames}
use Rattle.enc_pipeline.specs.Reading.{HasProblem}

-- a name that isn't there

abbrev Absent : List (List ℕ) → List ℕ → Type 0
Absent ns x = length ns ≤ place_of ns x

absent_behind : (n : List ℕ) (ns : List (List ℕ)) (x : List ℕ) → same x n ≡ false → Absent ns x →
    Absent (n ∷ ns) x
absent_behind n ns x differs absent =
    subst (λ v. suc (length ns) ≤ (if v then 0 else suc (place_of ns x))) (sym differs)
    (omega (arith, absent))

absent_parts : (n : List ℕ) (ns : List (List ℕ)) (x : List ℕ) → Absent (n ∷ ns) x →
    (same x n ≡ false) × Absent ns x
absent_parts n ns x absent = by (same x n) refl absent
  where
    by : (v : Bool) → same x n ≡ v → suc (length ns) ≤ (if v then 0 else suc (place_of ns x)) →
        (same x n ≡ false) × Absent ns x
    by true is there = absurd (omega (arith, there))
    by false is there = (is, omega (arith, there))

module _ {A : Type 0} (name_of : A → List ℕ) where
  abbrev names : List A → List (List ℕ)
  names items = map name_of items

  -- a filter adds no name
  absent_filter : (test : A → Bool) (items : List A) (x : List ℕ) → Absent (names items) x →
      Absent (names (filter test items)) x
  absent_filter test [] x absent = absent
  absent_filter test (item ∷ items) x absent =
      let parts = absent_parts (name_of item) (names items) x absent in
      by (test item) parts.0 (absent_filter test items x parts.1)
    where
      by : (passes : Bool) → same x (name_of item) ≡ false →
          Absent (names (filter test items)) x →
          Absent (names (cond passes (item ∷ filter test items) (filter test items))) x
      by true differs rest =
          absent_behind (name_of item) (names (filter test items)) x differs rest
      by false differs rest = rest

  -- names that differ do so behind a filter
  differ_filter : (test : A → Bool) (items : List A) → AllDiffer (names items) →
      AllDiffer (names (filter test items))
  differ_filter test [] differ = tt
  differ_filter test (item ∷ items) differ =
      by (test item) (absent_filter test items (name_of item) differ.0)
      (differ_filter test items differ.1)
    where
      by : (passes : Bool) → Absent (names (filter test items)) (name_of item) →
          AllDiffer (names (filter test items)) →
          AllDiffer (names (cond passes (item ∷ filter test items) (filter test items)))
      by true absent rest = (absent, rest)
      by false absent rest = rest

  abbrev without : List ℕ → List A → List A
  without x items = filter (λ later. not (bytes_eq (name_of later) x)) items

  -- a name that is filtered out isn't there
  absent_without : (x : List ℕ) (items : List A) → Absent (names (without x items)) x
  absent_without x [] = omega arith
  absent_without x (item ∷ items) = by (bytes_eq (name_of item) x) refl (absent_without x items)
    where
      by : (known : Bool) → bytes_eq (name_of item) x ≡ known →
          Absent (names (without x items)) x →
          Absent (names (cond (not known) (item ∷ without x items) (without x items))) x
      by true is rest = rest
      by false is rest =
          absent_behind (name_of item) (names (without x items)) x (not_same (name_of item) x is)
          rest

  -- the first items of each name differ in their names
  first_differ : (items : List A) → AllDiffer (names (first_of_each name_of items))
  first_differ [] = tt
  first_differ (item ∷ items) = (
    absent_without (name_of item) (first_of_each name_of items),
    differ_filter (λ later. not (bytes_eq (name_of later) (name_of item)))
        (first_of_each name_of items) (first_differ items),
  )

module _ (file : File) where
  constructors_differ : AllDiffer (constructor_names (signature_of file))
  unfolding signature_of
  constructors_differ =
      first_differ (λ (c : Constructor). c.name)
      (individuals_constructor ∷ map declared_constructor (constructor_declarations file))

  symbols_differ : AllDiffer (symbol_names (signature_of file))
  unfolding signature_of
  symbols_differ =
      first_differ (λ (f : Symbol). f.name)
      (declared_symbols file ++ map over_individuals (visited_names file))

pub typed_names_differ : (file : File) (problem : Problem) → IsTyped file problem →
    HasDistinctNames problem
typed_names_differ file problem typed = record {
  constructors =
      subst (λ (g : Signature). AllDiffer (constructor_names g)) (sym typed.signature)
      (constructors_differ file);
  symbols =
      subst (λ (g : Signature). AllDiffer (symbol_names g)) (sym typed.signature)
      (symbols_differ file);
}

-- those of a text's problem do
pub has_distinct_names : (text : List ℕ) (problem : Problem) → HasProblem text problem →
    HasDistinctNames problem
has_distinct_names text problem has = typed_names_differ has.0 problem has.2
