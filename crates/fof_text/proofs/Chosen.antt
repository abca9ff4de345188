-- Laws of chosen names.
use Rattle.std.proofs.Common.{◌≡◌, ℕ, zero, suc, ◌+◌, ◌%◌, ◌<◌, ◌≤◌, Bool, true, false}
use Rattle.std.proofs.Common.{if◌then◌else◌, List, [], ◌∷◌, ◌++◌, length, refl, arith}
use Rattle.std.specs.Prelude.{◌^◌, codes}
use Rattle.std.specs.List.{AllByRecursion}
use Rattle.std.specs.Fmt.{decimal}
use Rattle.std.proofs.lemmas.List.{length-map}
use Rattle.std.proofs.lemmas.Bool.Decides.{nat_tests}
use Rattle.std.proofs.lemmas.Fmt.{decimal_by_steps}
use Rattle.enc_base.specs.Names.{IsWritable}
use Rattle.fof_models.specs.declared.problem.FofSymbol.{FofSymbol}
use Rattle.tptp_words.specs.Text.{is_printable, AllPass, some_bytes}
use Rattle.tptp_syntax.proofs.WritableNames.{IsWritable-passes, some_bytes-writable, passes-writable}
use Rattle.fof_text.specs.Names.{is_among, is_free, least_below, numbered, free_number, choice}
use Rattle.fof_text.specs.Names.{choices, wanted_names}
use Rattle.fof_text.specs.Laws.{NumbersAreLeast, ChosenNamesAreNames}
use Rattle.fof_text.proofs.Choices.{free_found, chosen_differ, length-chosen}

least_below-before : (n : ℕ) (test : ℕ → Bool) (k : ℕ) → k < least_below n test → test k ≡ false
least_below-before zero test k l = absurd (omega arith)
least_below-before (suc n) test k l =
    go (test 0) refl k l (least_below-before n (λ j. test (suc j)))
  where
    go : (v : Bool) → test 0 ≡ v → (k : ℕ)
        → k < (if v then 0 else suc (least_below n (λ j. test (suc j))))
        → ((k : ℕ) → k < least_below n (λ j. test (suc j)) → test (suc k) ≡ false) → test k ≡ false
    go true e k l rest = absurd (omega arith)
    go false e zero l rest = e
    go false e (suc k) l rest = rest k (omega arith)

pub numbers_least : NumbersAreLeast
numbers_least wanted earlier name few = (
  free_found wanted earlier name (omega arith),
  least_below-before (length earlier + length wanted)
      (λ k. is_free wanted earlier (numbered name k)),
)

-- ---- names that can be written

digit_is_printable : (k : ℕ) → k < 10 → is_printable (48 + k) ≡ true
digit_is_printable k l = grind (arith, nat_tests)

pass_append : (p : ℕ → Bool) (us vs : List ℕ) → AllPass p us → AllPass p vs → AllPass p (us ++ vs)
pass_append p [] vs h k = k
pass_append p (b ∷ us) vs h k = (h.0, pass_append p us vs h.1 k)

decimal_printable : (k : ℕ) → k < 2 ^ 64 → AllPass is_printable (decimal k)
decimal_printable =
    decimal_by_steps (λ n ds. AllPass is_printable ds) (λ n l. (digit_is_printable n l, tt))
    (λ n ds l h. pass_append is_printable ds ((48 + n % 10) ∷ []) h
    (digit_is_printable (n % 10) (omega arith), tt))

some_append : (us vs : List ℕ) → some_bytes us ≡ true → some_bytes (us ++ vs) ≡ true
some_append [] vs h = absurd (cc h)
some_append (b ∷ us) vs h = refl

numbered_writable : (name : List ℕ) (k : ℕ) → k < 2 ^ 64 → IsWritable name
    → IsWritable (numbered name k)
numbered_writable name k l h =
    IsWritable-passes (numbered name k)
    (some_append name (codes "_" ++ decimal k) (some_bytes-writable name h))
    (pass_append is_printable name (codes "_" ++ decimal k) (passes-writable name h)
    (refl, decimal_printable k l))

least_below-within : (n : ℕ) (test : ℕ → Bool) → least_below n test ≤ n
least_below-within zero test = omega arith
least_below-within (suc n) test = go (test 0) (least_below-within n (λ j. test (suc j)))
  where
    go : (v : Bool) → least_below n (λ j. test (suc j)) ≤ n
        → (if v then 0 else suc (least_below n (λ j. test (suc j)))) ≤ suc n
    go true h = omega arith
    go false h = omega arith

choice_writable : (wanted earlier : List (List ℕ)) (name : List ℕ)
    → length earlier + length wanted < 2 ^ 64 → IsWritable name
    → IsWritable (choice wanted earlier name)
choice_writable wanted earlier name few h = go (is_among earlier name)
  where
    within : free_number wanted earlier name ≤ length earlier + length wanted
    within = least_below-within (length earlier + length wanted)
        (λ k. is_free wanted earlier (numbered name k))

    go : (v : Bool) → IsWritable
        (if v then numbered name (free_number wanted earlier name) else name)
    go true = numbered_writable name (free_number wanted earlier name)
        (omega (arith, few, within)) h
    go false = h

choices_writable : (wanted earlier ns : List (List ℕ))
    → length earlier + length ns + length wanted < 2 ^ 64 → AllByRecursion IsWritable ns
    → AllByRecursion IsWritable (choices wanted earlier ns)
choices_writable wanted earlier [] few h = tt
choices_writable wanted earlier (n ∷ ns) few h = (
  choice_writable wanted earlier n (omega arith) h.0,
  choices_writable wanted (choice wanted earlier n ∷ earlier) ns (omega arith) h.1,
)

pub names_are_names : ChosenNamesAreNames
names_are_names p s wanted named =
    let few = s.symbols in
    let all = length-map p.signature (λ (symbol : FofSymbol). symbol.wanted) in
    record {
      one_each = length-chosen p.signature;
      differ = chosen_differ p.signature (omega (arith, few));
      symbols = choices_writable (wanted_names p.signature) [] (wanted_names p.signature)
          (omega (arith, few, all)) wanted;
      formulas = named;
    }
