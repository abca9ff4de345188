-- The encoded problem of a sound normal problem is well formed and within the bounds of counting.
use Rattle.std.specs.Prelude.{ℕ, ◌+◌, ◌^◌, ◌<◌, ◌≡◌, Bool, true, List, [], ◌∷◌, ◌++◌, map, length, slice_get, IsTrue}
use Rattle.std.specs.List.{AllByRecursion}
use Rattle.std.specs.Option.{option_map}
use Rattle.std.proofs.Common.{refl, sym, ap, ◌∙◌, arith}
use Rattle.std.proofs.lemmas.Bool.{or_left, or_right}
use Rattle.std.proofs.lemmas.List.{length-map, length-append}
use Rattle.std.proofs.lemmas.Option.{slice_get-map}
use Rattle.tf_core.specs.declared.ty.Ty.{Ty}
use Rattle.tf_core.specs.declared.signature.Constructor.{Constructor}
use Rattle.tf_core.specs.declared.signature.Symbol.{Symbol}
use Rattle.tf_core.specs.declared.normal.Normal.{Normal}
use Rattle.tf_core.specs.Sorts.{sorts}
use Rattle.tf_core.specs.Sound.{IsBounded, IsSoundNormal}
use Rattle.fof_models.specs.declared.problem.FofSymbol.{FofSymbol}
use Rattle.fof_models.specs.declared.problem.FofFormula.{FofFormula}
use Rattle.fof_models.specs.Sound.{IsSoundFormula}
use Rattle.enc_marks.specs.declared.choices.Marking.{Marking}
use Rattle.enc_marks.specs.declared.choices.Marking.TheVariants.{ByType, BySort}
use Rattle.enc_marks.specs.declared.choices.Binding.{Binding}
use Rattle.enc_marks.specs.Choices.{Choices}
use Rattle.enc_marks.specs.Occurrence.{count_below, passing}
use Rattle.enc_marks.specs.Encoded.{MarkedSymbol, marked_symbols, marked_constructors, sort_mark, sort_marks, own_marks, all_marks, is_present, renumbered, translation, encoded}
use Rattle.enc_marks.specs.Laws.{Fit, TranslationsAreWellFormed}
use Rattle.enc_marks.proofs.SoundMarks.{slice_get-passing, length-passing, all-passing, sort_marks-numbered, length-marked_symbols, length-marked_constructors}
use Rattle.enc_marks.proofs.Passing.{length-numbered}
use Rattle.enc_marks.proofs.SoundRenumbered.{has_pairs-renumber, binder_count-renumber, is_formula-renumber}
use Rattle.enc_marks.proofs.SoundTypes.{count_by-few}
use Rattle.enc_marks.proofs.StatedFormulas.{all-append}
use Rattle.enc_marks.proofs.SoundAxioms.{translation-sound}

-- ---- formulas

-- under the numbers among the symbols that occur
module _ (present : ℕ → Bool) (before after : List FofSymbol) where
  renumbered-sound : (formulas : List FofFormula) →
      ((m : ℕ) → IsTrue (is_present formulas m) →
      slice_get after (count_below m present) ≡ slice_get before m) →
      AllByRecursion (IsSoundFormula before) formulas →
      AllByRecursion (IsSoundFormula after) (map (renumbered present) formulas)
  renumbered-sound [] stand sound = tt
  renumbered-sound (formula ∷ formulas) stand sound =
      let number : ℕ → ℕ = λ m. count_below m present in (
        record {
          typed = is_formula-renumber number before after formula.body
              (λ m o. stand m (or_left _ _ o)) 0 ∙ sound.0.typed;
          pairs = has_pairs-renumber number formula.body ∙ sound.0.pairs;
          binders = omega (arith, binder_count-renumber number formula.body, sound.0.binders);
        },
        renumbered-sound formulas (λ m o. stand m (or_right _ _ o)) sound.1,
      )

-- a marked symbol that passes stands at its rank among those that pass
passing-stands : (present : ℕ → Bool) (marks : List MarkedSymbol) (m : ℕ) →
    present m ≡ true →
    slice_get (map (λ (one : MarkedSymbol). one.symbol) (passing present 0 marks))
    (count_below m present)
    ≡ slice_get (map (λ (one : MarkedSymbol). one.symbol) marks) m
passing-stands present marks m is =
    let symbol_of = λ (one : MarkedSymbol). one.symbol in
    let same : 0 + m ≡ m = omega arith in
    let rank : count_below m present + count_below 0 present ≡ count_below (0 + m) present =
    omega (arith, ap (λ n. count_below n present) same) in
    slice_get-map symbol_of (passing present 0 marks) (count_below m present)
    ∙ ap (option_map symbol_of)
    (slice_get-passing present 0 marks m (count_below m present) rank (ap present same ∙ is))
    ∙ sym (slice_get-map symbol_of marks m)

-- ---- symbols

-- a marked symbol has few arguments
abbrev IsSmall : MarkedSymbol → Type 0
IsSmall one = one.symbol.arity < 2 ^ 30

all-symbols : (marks : List MarkedSymbol) → AllByRecursion IsSmall marks →
    AllByRecursion (λ (symbol : FofSymbol). symbol.arity < 2 ^ 30)
    (map (λ (one : MarkedSymbol). one.symbol) marks)
all-symbols [] small = tt
all-symbols (one ∷ marks) small = (small.0, all-symbols marks small.1)

symbols-small : (c : Choices) (normal : Normal) → Fit c normal → (f : ℕ) (symbols : List Symbol) →
    AllByRecursion (IsBounded (2 ^ 28)) symbols →
    AllByRecursion IsSmall (marked_symbols c f symbols)
symbols-small c normal fit f [] bounded = tt
symbols-small c normal fit f (symbol ∷ symbols) bounded = (
  omega (
    arith,
    count_by-few (c.keeps symbol),
    fit.keeps symbol,
    bounded.0.parameters,
    bounded.0.arguments,
  ),
  symbols-small c normal fit (f + 1) symbols bounded.1,
)

constructors-small : (normal : Normal) (i : ℕ) (constructors : List Constructor) →
    AllByRecursion (λ (constructor : Constructor). constructor.arity < 2 ^ 28) constructors →
    AllByRecursion IsSmall (marked_constructors normal i constructors)
constructors-small normal i [] bounded = tt
constructors-small normal i (constructor ∷ constructors) bounded =
    (omega (arith, bounded.0), constructors-small normal (i + 1) constructors bounded.1)

-- the guard or tag of all types, or those of the sorts

sort_marks-small : (normal : Normal) (binding : Binding) (s : ℕ) (types : List Ty) →
    AllByRecursion IsSmall (sort_marks normal binding s types)
sort_marks-small normal binding s [] = tt
sort_marks-small normal binding s (ty ∷ types) =
    let one : 1 < 2 ^ 30 = omega arith in (one, sort_marks-small normal binding (s + 1) types)

own_marks-small : (normal : Normal) (binding : Binding) (marking : Marking) →
    AllByRecursion IsSmall (own_marks normal binding marking)
own_marks-small normal binding ByType = let two : 2 < 2 ^ 30 = omega arith in (two, tt)
own_marks-small normal binding BySort = sort_marks-small normal binding 0 (sorts normal)

module _ (c : Choices) (normal : Normal) (fit : Fit c normal) (sound : IsSoundNormal normal) where
  own_marks-few : length (own_marks normal c.binding c.marking) < 2 ^ 28
  own_marks-few = by c.marking refl
    where
      by : (marking : Marking) → c.marking ≡ marking →
          length (own_marks normal c.binding marking) < 2 ^ 28
      by ByType is = omega arith
      by BySort is =
          omega (
            arith,
            ap (λ (list : List MarkedSymbol). length list)
                (sort_marks-numbered normal c.binding 0 (sorts normal)),
            length-numbered (sort_mark normal c.binding) 0 (sorts normal),
            sound.sort_count (fit.monomorphic is),
          )

  marks-small : AllByRecursion IsSmall (all_marks c normal)
  marks-small =
      let symbols = marked_symbols c 0 normal.signature.symbols in
      let constructors = marked_constructors normal 0 normal.signature.constructors in
      all-append IsSmall symbols (constructors ++ own_marks normal c.binding c.marking)
      (symbols-small c normal fit 0 normal.signature.symbols sound.signature.symbols)
      (all-append IsSmall constructors (own_marks normal c.binding c.marking)
      (constructors-small normal 0 normal.signature.constructors sound.signature.arities)
      (own_marks-small normal c.binding c.marking))

  marks-few : length (all_marks c normal) < 2 ^ 30
  marks-few =
      let symbols = marked_symbols c 0 normal.signature.symbols in
      let constructors = marked_constructors normal 0 normal.signature.constructors in
      omega (
        arith,
        length-append symbols (constructors ++ own_marks normal c.binding c.marking),
        length-append constructors (own_marks normal c.binding c.marking),
        length-marked_symbols c normal,
        length-marked_constructors c normal,
        own_marks-few,
        sound.signature.symbol_count,
        sound.signature.constructor_count,
      )

pub translations_well_formed : TranslationsAreWellFormed
unfolding encoded
translations_well_formed c normal fit sound =
    let formulas = translation c normal in
    let present = is_present formulas in
    let marks = all_marks c normal in
    let symbol_of = λ (one : MarkedSymbol). one.symbol in
    record {
      symbols = omega (
        arith,
        length-map (passing present 0 marks) symbol_of,
        length-passing present 0 marks,
        marks-few c normal fit sound,
      );
      arities = all-symbols (passing present 0 marks)
          (all-passing IsSmall present 0 marks (marks-small c normal fit sound));
      formulas = renumbered-sound present (map symbol_of marks)
          (map symbol_of (passing present 0 marks)) formulas
          (λ m is. passing-stands present marks m is)
          (translation-sound c normal fit sound.signature.typed sound.signature sound.formulas);
    }
