-- The number of a constructor by the marks of an encoded problem: how many marked symbols that
-- occur stand before it.
use Rattle.std.specs.Prelude.{ℕ, ◌+◌, ◌-◌, ◌<◌, ◌≤◌, ◌≡◌, Bool, true, false, not, ◌||◌, List, [], ◌∷◌, ◌++◌, map, length, cond, eqb, IsTrue}
use Rattle.std.specs.List.{list_any, position_or_len}
use Rattle.std.proofs.Common.{refl, sym, ap, ◌∙◌, subst, arith, ⊎_elim}
use Rattle.std.proofs.lemmas.Bool.{eqb-true, eq-eqb, false≢true, or_left, or_right, cases_lt}
use Rattle.std.proofs.lemmas.List.{length-append}
use Rattle.std.proofs.lemmas.Option.{slice_get_within}
use Rattle.tf_core.specs.declared.ty.Ty.{Ty}
use Rattle.tf_core.specs.declared.signature.Symbol.{Symbol}
use Rattle.tf_core.specs.declared.signature.Constructor.{Constructor}
use Rattle.tf_core.specs.declared.normal.Normal.{Normal}
use Rattle.tf_core.specs.Sorts.{sorts}
use Rattle.tf_core.specs.Typing.{IsType, type_variable, type_apply, AreTypes, no_types, more_types}
use Rattle.tf_core.proofs.Compared.{same_test}
use Rattle.fof_models.specs.declared.formula.FofTerm.{FofTerm}
use Rattle.fof_models.specs.declared.formula.FofTerm.TheVariants as fof
use Rattle.enc_marks.specs.declared.mark.Mark.{Mark}
use Rattle.enc_marks.specs.declared.choices.Marking.{Marking}
use Rattle.enc_marks.specs.declared.choices.Marking.TheVariants.{ByType, BySort}
use Rattle.enc_marks.specs.declared.choices.Binding.{Binding}
use Rattle.enc_marks.specs.declared.choices.Binding.TheVariants.{ByGuard, ByTag}
use Rattle.enc_marks.specs.Choices.{Choices}
use Rattle.enc_marks.specs.Marks.{is_constructor, constructor_number}
use Rattle.enc_marks.specs.Translation.{Numbers, type_term}
use Rattle.enc_marks.specs.Occurrence.{count_below, passing, occurs_in_term, renumber_term}
use Rattle.enc_marks.specs.Encoded.{MarkedSymbol, all_numbers, marked_symbols, marked_constructors, sort_marks, own_marks, all_marks, is_present, translation, encoded}
use Rattle.enc_marks.specs.Laws.{ConstructorsHaveNumbers, TypesHaveTheirTerms}
use Rattle.enc_marks.proofs.Translation.{type_term-variable, type_term-apply}
use Rattle.enc_marks.proofs.Occurrence.{occurs_in_term-apply, renumber_term-variable, renumber_term-apply}
use Rattle.enc_marks.proofs.Ranks.{count_below-more}
use Rattle.enc_marks.proofs.SoundMarks.{length-marked_symbols, length-marked_constructors}

module _ (i m : ℕ) where
  -- of marked symbols that are numbered from here on, only the one of number m is constructor i
  abbrev Tested : ℕ → List MarkedSymbol → Type 0
  Tested first [] = Unit {0}
  Tested first (one ∷ marks) =
      (is_constructor i one.mark ≡ eqb first m) × Tested (first + 1) marks

  tested-append : (first second : ℕ) (marks others : List MarkedSymbol) →
      first + length marks ≡ second → Tested first marks → Tested second others →
      Tested first (marks ++ others)
  tested-append first second [] others apart here there =
      let same : second ≡ first = omega (arith, apart) in
      subst (λ n. Tested n others) same there
  tested-append first second (one ∷ marks) others apart here there =
      (here.0, tested-append (first + 1) second marks others (omega (arith, apart)) here.1 there)

  -- another number is not m
  apart-eqb : (first : ℕ) → (first ≡ m → ⊥) → false ≡ eqb first m
  apart-eqb first differs =
      same_test false (eqb first m) (λ no. absurd (false≢true no))
      (λ same. absurd (differs (eqb-true first m same)))

  symbols-tested : (c : Choices) (f first : ℕ) (symbols : List Symbol) →
      first + length symbols ≤ m → Tested first (marked_symbols c f symbols)
  symbols-tested c f first [] before = tt
  symbols-tested c f first (symbol ∷ symbols) before = (
    apart-eqb first (λ same. omega (arith, before, same)),
    symbols-tested c (f + 1) (first + 1) symbols (omega (arith, before)),
  )

  constructors-tested : (normal : Normal) (n first : ℕ) (constructors : List Constructor) →
      first + i ≡ m + n → Tested first (marked_constructors normal n constructors)
  constructors-tested normal n first [] apart = tt
  constructors-tested normal n first (constructor ∷ constructors) apart = (
    same_test (eqb i n) (eqb first m)
        (λ is. eq-eqb first m (omega (arith, apart, eqb-true i n is)))
        (λ is. eq-eqb i n (omega (arith, apart, eqb-true first m is))),
    constructors-tested normal (n + 1) (first + 1) constructors (omega (arith, apart)),
  )

  sort_marks-tested : (normal : Normal) (binding : Binding) (s first : ℕ) (types : List Ty) →
      m < first → Tested first (sort_marks normal binding s types)
  sort_marks-tested normal binding s first [] after = tt
  sort_marks-tested normal ByGuard s first (ty ∷ types) after = (
    apart-eqb first (λ same. omega (arith, after, same)),
    sort_marks-tested normal ByGuard (s + 1) (first + 1) types (omega (arith, after)),
  )
  sort_marks-tested normal ByTag s first (ty ∷ types) after = (
    apart-eqb first (λ same. omega (arith, after, same)),
    sort_marks-tested normal ByTag (s + 1) (first + 1) types (omega (arith, after)),
  )

  own_marks-tested : (normal : Normal) (binding : Binding) (marking : Marking) (first : ℕ) →
      m < first → Tested first (own_marks normal binding marking)
  own_marks-tested normal ByGuard ByType first after =
      (apart-eqb first (λ same. omega (arith, after, same)), tt)
  own_marks-tested normal ByTag ByType first after =
      (apart-eqb first (λ same. omega (arith, after, same)), tt)
  own_marks-tested normal binding BySort first after =
      sort_marks-tested normal binding 0 first (sorts normal) after

  module _ (present : ℕ → Bool) (is : present m ≡ true) where
    abbrev marks_of : List MarkedSymbol → List Mark
    marks_of = map (λ one. one.mark)

    -- where constructor i stands among the first mark, if that passes, and the others
    abbrev place : Bool → MarkedSymbol → List MarkedSymbol → ℕ
    place passes one others =
        position_or_len (is_constructor i) (marks_of (cond passes (one ∷ others) others))

    -- behind another mark
    placed_later : (passes : Bool) (one : MarkedSymbol) (others : List MarkedSymbol)
        (before here whole : ℕ) → is_constructor i one.mark ≡ false →
        here ≡ before + cond passes 1 0 →
        position_or_len (is_constructor i) (marks_of others) + here ≡ whole →
        place passes one others + before ≡ whole
    placed_later true one others before here whole other step stands =
        omega (
          arith,
          ap (λ b. cond (not b) (1 + position_or_len (is_constructor i) (marks_of others)) 0) other,
          step,
          stands,
        )
    placed_later false one others before here whole other step stands =
        omega (arith, step, stands)

    -- at its own mark
    placed_here : (passes : Bool) (one : MarkedSymbol) (others : List MarkedSymbol)
        (before whole : ℕ) → is_constructor i one.mark ≡ true → passes ≡ true → before ≡ whole →
        place passes one others + before ≡ whole
    placed_here false one others before whole own passing same = absurd (false≢true passing)
    placed_here true one others before whole own passing same =
        omega (
          arith,
          ap (λ b. cond (not b) (1 + position_or_len (is_constructor i) (marks_of others)) 0) own,
          same,
        )

    -- where number m passes, its mark stands behind as many as pass before it
    position-passing : (first : ℕ) (marks : List MarkedSymbol) → Tested first marks →
        first ≤ m → m < first + length marks →
        position_or_len (is_constructor i) (marks_of (passing present first marks))
        + count_below first present ≡ count_below m present
    position-passing first [] tested from within = absurd (omega (arith, from, within))
    position-passing first (one ∷ marks) tested from within =
        ⊎_elim
        (λ before. placed_later (present first) one (passing present (first + 1) marks)
        (count_below first present) (count_below (first + 1) present) (count_below m present)
        (tested.0 ∙ sym (apart-eqb first (λ same. omega (arith, before, same))))
        (count_below-more first present)
        (position-passing (first + 1) marks tested.1 (omega (arith, before))
        (omega (arith, within))))
        (λ here. let same : first ≡ m = omega (arith, here, from) in
        placed_here (present first) one (passing present (first + 1) marks)
        (count_below first present) (count_below m present)
        (tested.0 ∙ eq-eqb first m same) (ap present same ∙ is)
        (ap (λ n. count_below n present) same))
        (cases_lt first m)

all_marks-tested : (c : Choices) (normal : Normal) (i : ℕ) →
    i < length normal.signature.constructors →
    Tested i (length normal.signature.symbols + i) 0 (all_marks c normal)
all_marks-tested c normal i within =
    let symbols = length normal.signature.symbols in
    let constructors = length normal.signature.constructors in
    let m = symbols + i in
    tested-append i m 0 symbols (marked_symbols c 0 normal.signature.symbols)
    (marked_constructors normal 0 normal.signature.constructors
    ++ own_marks normal c.binding c.marking)
    (omega (arith, length-marked_symbols c normal))
    (symbols-tested i m c 0 0 normal.signature.symbols (omega arith))
    (tested-append i m symbols (symbols + constructors)
    (marked_constructors normal 0 normal.signature.constructors)
    (own_marks normal c.binding c.marking)
    (omega (arith, length-marked_constructors c normal))
    (constructors-tested i m normal 0 symbols normal.signature.constructors (omega arith))
    (own_marks-tested i m normal c.binding c.marking (symbols + constructors)
    (omega (arith, within))))

pub constructors_numbered : ConstructorsHaveNumbers
unfolding encoded
constructors_numbered c normal i within is =
    let m = length normal.signature.symbols + i in
    let present = is_present (translation c normal) in
    omega (
      arith,
      position-passing i m present is 0 (all_marks c normal) (all_marks-tested c normal i within)
          (omega arith)
          (omega (
            arith,
            within,
            length-append (marked_symbols c 0 normal.signature.symbols)
                (marked_constructors normal 0 normal.signature.constructors
                ++ own_marks normal c.binding c.marking),
            length-append (marked_constructors normal 0 normal.signature.constructors)
                (own_marks normal c.binding c.marking),
            length-marked_symbols c normal,
            length-marked_constructors c normal,
          )),
    )

-- ---- types as terms

module _ (c : Choices) (normal : Normal) (variables depth : ℕ) where
  abbrev numbers : Numbers
  numbers = all_numbers normal

  abbrev rank : ℕ → ℕ
  rank m = count_below m (is_present (translation c normal))

  abbrev by_marks : Ty → FofTerm
  by_marks = type_term (constructor_number (encoded c normal).marks) depth

  -- the symbols that a term has occur in the translation
  abbrev Occur : (ℕ → Bool) → Type 0
  Occur has = (m : ℕ) → IsTrue (has m) → IsTrue (is_present (translation c normal) m)

  mutual
    pub term-renumbered : (ty : Ty) → IsType normal.signature variables ty →
        Occur (λ m. occurs_in_term m (type_term numbers.constructor depth ty)) →
        renumber_term rank (type_term numbers.constructor depth ty) ≡ by_marks ty
    term-renumbered ty (type_variable i within) occur =
        ap (renumber_term rank) (type_term-variable numbers.constructor depth i)
        ∙ renumber_term-variable rank (depth - (i + 1))
        ∙ sym (type_term-variable (constructor_number (encoded c normal).marks) depth i)
    term-renumbered ty (type_apply i constructor types at count are) occur =
        let terms = map (type_term numbers.constructor depth) types in
        let number = numbers.constructor i in
        let applied : Occur (λ m. eqb m number || list_any (occurs_in_term m) terms) =
        λ m has. occur m
        (ap (occurs_in_term m) (type_term-apply numbers.constructor depth i types)
        ∙ occurs_in_term-apply m number terms ∙ has) in
        let here = constructors_numbered c normal i
        (slice_get_within normal.signature.constructors i constructor at)
        (applied number (or_left (eqb number number) (list_any (occurs_in_term number) terms)
        (eq-eqb number number refl))) in
        ap (renumber_term rank) (type_term-apply numbers.constructor depth i types)
        ∙ renumber_term-apply rank number terms
        ∙ ap (λ n. fof.Apply n (map (renumber_term rank) terms)) (sym here)
        ∙ ap (fof.Apply (constructor_number (encoded c normal).marks i))
        (terms-renumbered types are
        (λ m has. applied m (or_right (eqb m number) (list_any (occurs_in_term m) terms) has)))
        ∙ sym (type_term-apply (constructor_number (encoded c normal).marks) depth i types)

    terms-renumbered : (types : List Ty) → AreTypes normal.signature variables types →
        Occur (λ m. list_any (occurs_in_term m) (map (type_term numbers.constructor depth) types)) →
        map (renumber_term rank) (map (type_term numbers.constructor depth) types)
        ≡ map by_marks types
    terms-renumbered types no_types occur = refl
    terms-renumbered types (more_types ty others first rest) occur =
        let t = type_term numbers.constructor depth ty in
        let terms = map (type_term numbers.constructor depth) others in
        ap (λ u. u ∷ map (renumber_term rank) terms)
        (term-renumbered ty first
        (λ m has. occur m (or_left (occurs_in_term m t) (list_any (occurs_in_term m) terms) has)))
        ∙ ap (λ list. by_marks ty ∷ list)
        (terms-renumbered others rest
        (λ m has. occur m (or_right (occurs_in_term m t) (list_any (occurs_in_term m) terms) has)))

pub types_renumbered : TypesHaveTheirTerms
types_renumbered c normal variables depth ty formed occur =
    term-renumbered c normal variables depth ty formed occur
