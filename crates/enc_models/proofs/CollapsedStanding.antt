-- What marked symbols stand for, where all types share a mark and where each sort has one of its own.
use Rattle.std.specs.Prelude.{ℕ, zero, suc, ◌≡◌, ◌<◌, ◌≤◌, ◌+◌, ◌++◌, ◌^◌, Bool, true, List, [], ◌∷◌, map, length, replicate, count_by, eqb, is_none, slice_get, Some, IsTrue}
use Rattle.std.specs.List.{list_all, range_with_len}
use Rattle.std.proofs.Common.{refl, sym, ap, subst, ◌∙◌, arith}
use Rattle.std.proofs.lemmas.Bool.{and_parts, eqb-true}
use Rattle.std.proofs.lemmas.List.{length-map, length-append}
use Rattle.std.proofs.lemmas.Option.{slice_get_within}
use Rattle.tf_core.specs.declared.ty.Ty.{Ty}
use Rattle.tf_core.specs.declared.signature.Constructor.{Constructor}
use Rattle.tf_core.specs.declared.signature.Symbol.{Symbol}
use Rattle.tf_core.specs.declared.normal.Normal.{Normal}
use Rattle.tf_core.specs.Sorts.{sorts}
use Rattle.tf_core.specs.Sound.{is_monomorphic, IsSoundNormal}
use Rattle.tf_naked.specs.Covers.{cover_of}
use Rattle.enc_marks.specs.declared.mark.Mark.{Mark}
use Rattle.enc_marks.specs.declared.mark.Mark.TheVariants as mark
use Rattle.enc_marks.specs.declared.choices.TypeArguments.{TypeArguments}
use Rattle.enc_marks.specs.declared.choices.TypeArguments.TheVariants as kept
use Rattle.enc_marks.specs.declared.choices.Marking.{Marking}
use Rattle.enc_marks.specs.declared.choices.Marking.TheVariants.{ByType, BySort}
use Rattle.enc_marks.specs.declared.choices.Binding.{Binding}
use Rattle.enc_marks.specs.declared.choices.Binding.TheVariants.{ByGuard, ByTag}
use Rattle.enc_marks.specs.Choices.{Choices, kept_types}
use Rattle.enc_marks.specs.Occurrence.{passing}
use Rattle.enc_marks.specs.Encoded.{MarkedSymbol, marked_symbol, marked_constructor, sort_mark, marked_symbols, marked_constructors, sort_marks, own_marks, all_marks, is_present, translation, encoded}
use Rattle.enc_marks.proofs.SoundMarks.{length-passing}
use Rattle.enc_laws.specs.MergedStructure.{kept_count}
use Rattle.enc_laws.proofs.MarksFound.{map_found, InLists, in_first, in_second, lists_found, symbol_found, constructor_found, length-symbols, length-constructors}
use Rattle.enc_models.specs.Bare.{WritesTypeArguments}
use Rattle.enc_models.specs.Calls.Sources.{AreKeptTypes}
use Rattle.enc_models.specs.Calls.Blocks.{AreMarksIn}
use Rattle.enc_models.proofs.Marks.{numbered, IsStanding, symbol_stands, constructor_stands, stands_at, few_symbols}

-- the mark that all types share
abbrev pub IsShared : Choices → Normal → ℕ → Type 0
IsShared c normal number =
    (c.marking ≡ ByType)
    × (number ≡ length normal.signature.symbols + length normal.signature.constructors)

-- the mark of a sort, of one argument
pub record IsOfSort (c : Choices) (normal : Normal) (binding : Binding) (number arity s : ℕ) :
    Type 0 where
  pub by_sort : c.marking ≡ BySort
  pub bound : c.binding ≡ binding
  pub within : s < length (sorts normal)
  pub number_is : number
      ≡ length normal.signature.symbols + length normal.signature.constructors + s
  pub arity_is : arity ≡ 1

-- what a marked symbol stands for, by its mark
pub record StandsFor (c : Choices) (normal : Normal) (number : ℕ) (one : MarkedSymbol) :
    Type 0 where
  pub on_symbol : (f : ℕ) → one.mark ≡ mark.Symbol f →
      (number ≡ f) × ((symbol : Symbol) × (slice_get normal.signature.symbols f ≡ Some symbol)
      × (one.symbol.arity ≡ kept_count c symbol + length symbol.arguments))
  pub on_constructor : (i : ℕ) → one.mark ≡ mark.Constructor i →
      (number ≡ length normal.signature.symbols + i) × ((constructor : Constructor)
      × (slice_get normal.signature.constructors i ≡ Some constructor)
      × (one.symbol.arity ≡ constructor.arity))
  pub on_guard : one.mark ≡ mark.Guard → IsShared c normal number
  pub on_tag : one.mark ≡ mark.Tag → IsShared c normal number
  pub on_sort_guard : (s : ℕ) → one.mark ≡ mark.SortGuard s →
      IsOfSort c normal ByGuard number one.symbol.arity s
  pub on_sort_tag : (s : ℕ) → one.mark ≡ mark.SortTag s →
      IsOfSort c normal ByTag number one.symbol.arity s

module _ (c : Choices) (normal : Normal) where
  -- where all types share a mark
  by_type_stands : c.marking ≡ ByType → (number : ℕ) (one : MarkedSymbol) →
      slice_get (all_marks c normal) number ≡ Some one → StandsFor c normal number one
  by_type_stands by_type number one found =
      let standing = stands_at c normal by_type number one found in
      record {
        on_symbol = standing.on_symbol;
        on_constructor = standing.on_constructor;
        on_guard = λ is. (by_type, (standing.on_guard is).0);
        on_tag = λ is. (by_type, (standing.on_tag is).0);
        on_sort_guard = λ s is. absurd (standing.no_sort_guard s is);
        on_sort_tag = λ s is. absurd (standing.no_sort_tag s is);
      }

  -- a symbol or a constructor is no guard and no tag
  unmarked_stands : (number : ℕ) (one : MarkedSymbol) →
      IsStanding c normal c.binding number one → (one.mark ≡ mark.Guard → ⊥) →
      (one.mark ≡ mark.Tag → ⊥) → StandsFor c normal number one
  unmarked_stands number one standing no_guard no_tag = record {
    on_symbol = standing.on_symbol;
    on_constructor = standing.on_constructor;
    on_guard = λ is. absurd (no_guard is);
    on_tag = λ is. absurd (no_tag is);
    on_sort_guard = λ s is. absurd (standing.no_sort_guard s is);
    on_sort_tag = λ s is. absurd (standing.no_sort_tag s is);
  }

  sort_found : (binding : Binding) (n : ℕ) (types : List Ty) (i : ℕ) (marked : MarkedSymbol) →
      slice_get (sort_marks normal binding n types) i ≡ Some marked →
      (ty : Ty) × (slice_get types i ≡ Some ty)
      × (marked ≡ sort_mark normal binding (n + i) ty)
  sort_found binding n [] i marked at = cc
  sort_found binding n (first ∷ types) zero marked at =
      let same : marked ≡ sort_mark normal binding n first = cc in
      let e : n ≡ n + 0 = omega arith in
      (first, refl, same ∙ ap (λ x. sort_mark normal binding x first) e)
  sort_found binding n (first ∷ types) (suc i) marked at =
      let found = sort_found binding (n + 1) types i marked at in
      let e : n + 1 + i ≡ n + suc i = omega arith in
      (found.0, found.1, found.2 ∙ ap (λ x. sort_mark normal binding x found.0) e)

  module _ (by_sort : c.marking ≡ BySort) where
    sort_stands : (binding : Binding) → c.binding ≡ binding → (s : ℕ) (ty : Ty) →
        s < length (sorts normal) →
        StandsFor c normal
        (length normal.signature.symbols + length normal.signature.constructors + s)
        (sort_mark normal binding s ty)
    sort_stands ByGuard bound s ty within = record {
      on_symbol = λ f is. cc;
      on_constructor = λ i is. cc;
      on_guard = λ is. cc;
      on_tag = λ is. cc;
      on_sort_guard = λ other is.
          let same : s ≡ other = cc in
          record {
            by_sort = by_sort;
            bound = bound;
            within = omega (arith, within, same);
            number_is = omega (arith, same);
            arity_is = refl;
          };
      on_sort_tag = λ other is. cc;
    }
    sort_stands ByTag bound s ty within = record {
      on_symbol = λ f is. cc;
      on_constructor = λ i is. cc;
      on_guard = λ is. cc;
      on_tag = λ is. cc;
      on_sort_guard = λ other is. cc;
      on_sort_tag = λ other is.
          let same : s ≡ other = cc in
          record {
            by_sort = by_sort;
            bound = bound;
            within = omega (arith, within, same);
            number_is = omega (arith, same);
            arity_is = refl;
          };
    }

    behind_stands : (behind : ℕ) (one : MarkedSymbol) →
        InLists (marked_constructors normal 0 normal.signature.constructors)
        (sort_marks normal c.binding 0 (sorts normal)) behind one →
        StandsFor c normal (length normal.signature.symbols + behind) one
    behind_stands behind one (in_first found) =
        let at = constructor_found normal 0 normal.signature.constructors behind one found in
        let e : 0 + behind ≡ behind = omega arith in
        let same : one ≡ marked_constructor normal behind at.0 =
        at.2 ∙ ap (λ n. marked_constructor normal n at.0) e in
        subst (StandsFor c normal (length normal.signature.symbols + behind)) (sym same)
        (unmarked_stands (length normal.signature.symbols + behind)
        (marked_constructor normal behind at.0)
        (constructor_stands c normal c.binding behind at.0 at.1) (λ is. cc) (λ is. cc))
    behind_stands behind one (in_second left same found) =
        let at = sort_found c.binding 0 (sorts normal) left one found in
        let e : 0 + left ≡ left = omega arith in
        let is : one ≡ sort_mark normal c.binding left at.0 =
        at.2 ∙ ap (λ n. sort_mark normal c.binding n at.0) e in
        let counts = length-constructors normal 0 normal.signature.constructors in
        let number : length normal.signature.symbols + length normal.signature.constructors + left
        ≡ length normal.signature.symbols + behind = omega (arith, same, counts) in
        subst (StandsFor c normal (length normal.signature.symbols + behind)) (sym is)
        (subst (λ n. StandsFor c normal n (sort_mark normal c.binding left at.0)) number
        (sort_stands c.binding refl left at.0
        (slice_get_within (sorts normal) left at.0 at.1)))

    marks_by_sort : all_marks c normal
        ≡ marked_symbols c 0 normal.signature.symbols
        ++ (marked_constructors normal 0 normal.signature.constructors
        ++ sort_marks normal c.binding 0 (sorts normal))
    marks_by_sort =
        ap (λ marking. marked_symbols c 0 normal.signature.symbols
        ++ (marked_constructors normal 0 normal.signature.constructors
        ++ own_marks normal c.binding marking)) by_sort

    listed_stands : (number : ℕ) (one : MarkedSymbol) →
        InLists (marked_symbols c 0 normal.signature.symbols)
        (marked_constructors normal 0 normal.signature.constructors
        ++ sort_marks normal c.binding 0 (sorts normal)) number one →
        StandsFor c normal number one
    listed_stands number one (in_first found) =
        let at = symbol_found c 0 normal.signature.symbols number one found in
        let e : 0 + number ≡ number = omega arith in
        let same : one ≡ marked_symbol c number at.0 =
        at.2 ∙ ap (λ n. marked_symbol c n at.0) e in
        subst (StandsFor c normal number) (sym same)
        (unmarked_stands number (marked_symbol c number at.0)
        (symbol_stands c normal c.binding number at.0 at.1) (λ is. cc) (λ is. cc))
    listed_stands number one (in_second behind same found) =
        let counts = length-symbols c 0 normal.signature.symbols in
        let e : length normal.signature.symbols + behind ≡ number = omega (arith, same, counts) in
        subst (λ n. StandsFor c normal n one) e
        (behind_stands behind one
        (lists_found (marked_constructors normal 0 normal.signature.constructors)
        (sort_marks normal c.binding 0 (sorts normal)) behind one found))

    by_sort_stands : (number : ℕ) (one : MarkedSymbol) →
        slice_get (all_marks c normal) number ≡ Some one → StandsFor c normal number one
    by_sort_stands number one found =
        listed_stands number one
        (lists_found (marked_symbols c 0 normal.signature.symbols) _ number one
        (ap (λ (ms : List MarkedSymbol). slice_get ms number) (sym marks_by_sort) ∙ found))

    length-sort_marks : (n : ℕ) (types : List Ty) →
        length (sort_marks normal c.binding n types) ≡ length types
    length-sort_marks n [] = refl
    length-sort_marks n (ty ∷ types) = ap suc (length-sort_marks (n + 1) types)

    length-by_sort : length (all_marks c normal)
        ≡ length normal.signature.symbols
        + (length normal.signature.constructors + length (sorts normal))
    length-by_sort =
        ap (λ (ms : List MarkedSymbol). length ms) marks_by_sort
        ∙ length-append _ _
        ∙ ap (λ n. n + length (marked_constructors normal 0 normal.signature.constructors
        ++ sort_marks normal c.binding 0 (sorts normal))) (length-symbols c 0 normal.signature.symbols)
        ∙ ap (λ n. length normal.signature.symbols + n)
        (length-append _ _
        ∙ ap (λ n. n + length (sort_marks normal c.binding 0 (sorts normal)))
        (length-constructors normal 0 normal.signature.constructors)
        ∙ ap (λ n. length normal.signature.constructors + n) (length-sort_marks 0 (sorts normal)))

    few_by_sort : length (encoded c normal).problem.signature
        ≤ length normal.signature.symbols
        + (length normal.signature.constructors + length (sorts normal))
    unfolding encoded
    few_by_sort =
        let present : ℕ → Bool = is_present (translation c normal) in
        let same : length (map (λ (one : MarkedSymbol). one.symbol)
        (passing present 0 (all_marks c normal))) ≡ length (passing present 0 (all_marks c normal)) =
        length-map _ _ in
        omega (arith, length-by_sort, same, length-passing present 0 (all_marks c normal))

  -- whichever has the marks

  pub stands_for : (number : ℕ) (one : MarkedSymbol) →
      slice_get (all_marks c normal) number ≡ Some one → StandsFor c normal number one
  stands_for number one found = by c.marking refl
    where
      by : (marking : Marking) → c.marking ≡ marking → StandsFor c normal number one
      by ByType is = by_type_stands is number one found
      by BySort is = by_sort_stands is number one found

  -- each mark of an encoded problem that stands for a symbol stands for one of the source's
  pub marks_there : AreMarksIn normal.signature (encoded c normal).marks
  unfolding encoded
  marks_there at marked found f is =
      let image = map_found (λ (one : MarkedSymbol). one.mark)
      (passing (is_present (translation c normal)) 0 (all_marks c normal)) at marked found in
      let number = numbered c normal at image.0 image.1 in
      let standing = stands_for number.0 image.0 number.1.found in
      let own = standing.on_symbol f (image.2 ∙ is) in
      slice_get_within normal.signature.symbols f own.1.0 own.1.1

  -- a sound problem has few
  pub few_there : IsSoundNormal normal → (c.marking ≡ BySort → IsTrue (is_monomorphic normal)) →
      length (encoded c normal).problem.signature ≤ 2 ^ 32
  few_there sound monomorphic = by c.marking refl
    where
      by : (marking : Marking) → c.marking ≡ marking →
          length (encoded c normal).problem.signature ≤ 2 ^ 32
      by ByType is =
          omega (
            arith,
            few_symbols c normal is,
            sound.signature.symbol_count,
            sound.signature.constructor_count,
          )
      by BySort is =
          omega (
            arith,
            few_by_sort is,
            sound.signature.symbol_count,
            sound.signature.constructor_count,
            sound.sort_count (monomorphic is),
          )

  -- ---- type arguments

  -- a symbol of a problem without type variables has no parameters
  no_parameters : IsTrue (is_monomorphic normal) → (f : ℕ) (symbol : Symbol) →
      slice_get normal.signature.symbols f ≡ Some symbol → symbol.parameters ≡ 0
  no_parameters monomorphic f symbol at =
      none normal.signature.symbols f (and_parts _ _ monomorphic).0 at
    where
      none : (symbols : List Symbol) (i : ℕ) →
          IsTrue (list_all (λ (one : Symbol). eqb one.parameters 0) symbols) →
          slice_get symbols i ≡ Some symbol → symbol.parameters ≡ 0
      none [] i each there = cc
      none (first ∷ symbols) zero each there =
          let same : first ≡ symbol = cc in
          ap (λ (one : Symbol). one.parameters) (sym same)
          ∙ eqb-true first.parameters 0 (and_parts _ _ each).0
      none (first ∷ symbols) (suc i) each there =
          none symbols i (and_parts (eqb first.parameters 0) _ each).1 there

  -- of no parameters none is written
  none_kept : (which : TypeArguments) (symbol : Symbol) → symbol.parameters ≡ 0 →
      count_by (λ (keeps : Bool). keeps) (kept_types which symbol) ≡ 0
  none_kept kept.All symbol none =
      ap (λ n. count_by (λ (keeps : Bool). keeps) (replicate n true)) none
  none_kept kept.Uncovered symbol none =
      ap (λ n. count_by (λ (keeps : Bool). keeps)
      (map (λ parameter. is_none (cover_of symbol parameter)) (range_with_len 0 n))) none
  none_kept kept.Nothing symbol none = refl

  pub all_written : (c.marking ≡ ByType → WritesTypeArguments c) →
      (c.marking ≡ BySort → IsTrue (is_monomorphic normal)) → AreKeptTypes c →
      (f : ℕ) (symbol : Symbol) → slice_get normal.signature.symbols f ≡ Some symbol →
      kept_count c symbol ≡ symbol.parameters
  all_written by_type by_sort keeps f symbol at = by c.marking refl
    where
      by : (marking : Marking) → c.marking ≡ marking → kept_count c symbol ≡ symbol.parameters
      by ByType is = (by_type is).all_kept symbol
      by BySort is =
          let none = no_parameters (by_sort is) f symbol at in
          ap (λ (tests : List Bool). count_by (λ (keeps : Bool). keeps) tests) (keeps.1 symbol)
          ∙ none_kept keeps.0 symbol none
          ∙ sym none
