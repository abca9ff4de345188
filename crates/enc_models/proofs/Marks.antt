-- What the symbols of an encoded problem stand for, and what the merged structure gives for each.
use Rattle.std.specs.Prelude.{ℕ, zero, suc, ◌≡◌, ◌<◌, ◌≤◌, ◌+◌, ◌++◌, Bool, true, List, [], ◌∷◌, map, length, replicate, cond, get_or, slice_get, option_map, Some}
use Rattle.std.proofs.Common.{refl, sym, ap, subst, ◌∙◌, arith}
use Rattle.std.proofs.lemmas.Bool.{lt-ltb}
use Rattle.std.proofs.lemmas.List.{length-replicate, length-map, length-append}
use Rattle.std.proofs.lemmas.Option.{slice_get-map, slice_get_within, get_or_from_slice_get}
use Rattle.enc_base.specs.Tables.{EachBelow}
use Rattle.tf_core.specs.declared.signature.Constructor.{Constructor}
use Rattle.tf_core.specs.declared.signature.Symbol.{Symbol}
use Rattle.tf_core.specs.declared.normal.Normal.{Normal}
use Rattle.tf_core.specs.TypedTables.{constructor_entry}
use Rattle.fof_models.specs.declared.problem.FofSymbol.{FofSymbol}
use Rattle.enc_base.proofs.Placing.{EachBelow-same_length}
use Rattle.tf_stamp.specs.Merged.{merged_size}
use Rattle.structure_tables.specs.Sources.{AreElementsFor}
use Rattle.enc_marks.specs.declared.mark.Mark.{Mark}
use Rattle.enc_marks.specs.declared.mark.Mark.TheVariants as mark
use Rattle.enc_marks.specs.declared.encoded.Encoded.{Encoded}
use Rattle.enc_marks.specs.declared.choices.Marking.TheVariants.{ByType}
use Rattle.enc_marks.specs.declared.choices.Binding.{Binding}
use Rattle.enc_marks.specs.declared.choices.Binding.TheVariants.{ByGuard, ByTag}
use Rattle.enc_marks.specs.Choices.{Choices}
use Rattle.enc_marks.specs.Occurrence.{count_below, passing}
use Rattle.enc_marks.specs.Encoded.{MarkedSymbol, marked_symbol, marked_constructor, shared_mark, marked_symbols, marked_constructors, own_marks, all_marks, is_present, translation, encoded}
use Rattle.enc_marks.proofs.SoundMarks.{length-passing}
use Rattle.enc_laws.specs.MergedStructure.{kept_count, merged_mark}
use Rattle.enc_laws.specs.Ranks.{nth}
use Rattle.enc_laws.proofs.Ranked.{nth-count_below}
use Rattle.enc_laws.proofs.MergedStructure.{symbol_at-other, symbol_at-shared}
use Rattle.enc_laws.proofs.MarksFound.{passing_found, map_found, InLists, in_first, in_second, lists_found, symbol_found, constructor_found, length-symbols, length-constructors}
use Rattle.enc_models.specs.Calls.Merging.{Parts, signature_in, tables_in, typed_in, merged_in, structure_in, members_in, IsMerging, AreNumbers, IsSymbolFor, IsConstructorFor}
use Rattle.enc_models.specs.Calls.Blocks.{AreMarksIn}

-- a symbol of the encoded problem is a marked one that occurs
pub record IsEncoded (c : Choices) (normal : Normal) (problem : Encoded) (at : ℕ)
    (symbol : FofSymbol) (one : MarkedSymbol) : Type 0 where
  pub passes : slice_get (passing (is_present (translation c normal)) 0 (all_marks c normal)) at
      ≡ Some one
  pub symbol_is : one.symbol ≡ symbol
  pub mark_at : slice_get problem.marks at ≡ Some one.mark

pub encoded_at : (c : Choices) (normal : Normal) (at : ℕ) (symbol : FofSymbol) →
    slice_get (encoded c normal).problem.signature at ≡ Some symbol →
    (one : MarkedSymbol) × IsEncoded c normal (encoded c normal) at symbol one
unfolding encoded
encoded_at c normal at symbol found =
    let marked : List MarkedSymbol =
    passing (is_present (translation c normal)) 0 (all_marks c normal) in
    let image = map_found (λ (one : MarkedSymbol). one.symbol) marked at symbol found in (
      image.0,
      record {
        passes = image.1;
        symbol_is = image.2;
        mark_at =
            slice_get-map (λ (one : MarkedSymbol). one.mark) marked at
            ∙ ap (option_map (λ (one : MarkedSymbol). one.mark)) image.1;
      },
    )

-- and has a number among all marked ones
pub record IsNumbered (c : Choices) (normal : Normal) (at number : ℕ) (one : MarkedSymbol) :
    Type 0 where
  pub found : slice_get (all_marks c normal) number ≡ Some one
  pub is : nth (length (all_marks c normal)) (is_present (translation c normal)) at ≡ number
  pub occurs : is_present (translation c normal) number ≡ true

pub numbered : (c : Choices) (normal : Normal) (at : ℕ) (one : MarkedSymbol) →
    slice_get (passing (is_present (translation c normal)) 0 (all_marks c normal)) at ≡ Some one →
    (number : ℕ) × IsNumbered c normal at number one
numbered c normal at one passes =
    let present : ℕ → Bool = is_present (translation c normal) in
    let found = passing_found present 0 (all_marks c normal) at one passes in
    let m : ℕ = found.0 in
    let facts = found.1 in
    let e : 0 + m ≡ m = omega arith in
    let here : present m ≡ true = ap present (sym e) ∙ facts.passes in
    let rank : count_below m present ≡ at =
    (let same = ap (λ x. count_below x present) e in
    let found_rank = facts.rank in
    let zero_below : count_below 0 present ≡ 0 = refl in
    omega (arith, same, found_rank, zero_below)) in
    let within = slice_get_within (all_marks c normal) m one facts.at in (
      m,
      record {
        found = facts.at;
        is = ap (nth (length (all_marks c normal)) present) (sym rank)
            ∙ nth-count_below (length (all_marks c normal)) m present within here;
        occurs = here;
      },
    )

-- what a marked symbol stands for, by its mark
pub record IsStanding (c : Choices) (normal : Normal) (binding : Binding) (number : ℕ)
    (one : MarkedSymbol) : Type 0 where
  pub on_symbol : (f : ℕ) → one.mark ≡ mark.Symbol f →
      (number ≡ f) × ((symbol : Symbol) × (slice_get normal.signature.symbols f ≡ Some symbol)
      × (one.symbol.arity ≡ kept_count c symbol + length symbol.arguments))
  pub on_constructor : (i : ℕ) → one.mark ≡ mark.Constructor i →
      (number ≡ length normal.signature.symbols + i) × ((constructor : Constructor)
      × (slice_get normal.signature.constructors i ≡ Some constructor)
      × (one.symbol.arity ≡ constructor.arity))
  pub on_guard : one.mark ≡ mark.Guard →
      (number ≡ length normal.signature.symbols + length normal.signature.constructors)
      × (one.symbol.arity ≡ 2) × (binding ≡ ByGuard)
  pub on_tag : one.mark ≡ mark.Tag →
      (number ≡ length normal.signature.symbols + length normal.signature.constructors)
      × (one.symbol.arity ≡ 2) × (binding ≡ ByTag)
  pub no_sort_guard : (s : ℕ) → one.mark ≡ mark.SortGuard s → ⊥
  pub no_sort_tag : (s : ℕ) → one.mark ≡ mark.SortTag s → ⊥

module _ (c : Choices) (normal : Normal) where
  pub symbol_stands : (binding : Binding) (n : ℕ) (symbol : Symbol) →
      slice_get normal.signature.symbols n ≡ Some symbol →
      IsStanding c normal binding n (marked_symbol c n symbol)
  symbol_stands binding n symbol found = record {
    on_symbol = λ f is.
        let same : n ≡ f = cc in
        (same, (symbol, ap (slice_get normal.signature.symbols) (sym same) ∙ found, refl));
    on_constructor = λ i is. cc;
    on_guard = λ is. cc;
    on_tag = λ is. cc;
    no_sort_guard = λ s is. cc;
    no_sort_tag = λ s is. cc;
  }

  pub constructor_stands : (binding : Binding) (i : ℕ) (constructor : Constructor) →
      slice_get normal.signature.constructors i ≡ Some constructor →
      IsStanding c normal binding (length normal.signature.symbols + i)
      (marked_constructor normal i constructor)
  constructor_stands binding i constructor found = record {
    on_symbol = λ f is. cc;
    on_constructor = λ j is.
        let same : i ≡ j = cc in (
          ap (λ n. length normal.signature.symbols + n) same,
          (constructor, ap (slice_get normal.signature.constructors) (sym same) ∙ found, refl),
        );
    on_guard = λ is. cc;
    on_tag = λ is. cc;
    no_sort_guard = λ s is. cc;
    no_sort_tag = λ s is. cc;
  }

  shared_stands : (binding : Binding) →
      IsStanding c normal binding
      (length normal.signature.symbols + length normal.signature.constructors)
      (shared_mark binding)
  shared_stands ByGuard = record {
    on_symbol = λ f is. cc;
    on_constructor = λ j is. cc;
    on_guard = λ is. (refl, refl, refl);
    on_tag = λ is. cc;
    no_sort_guard = λ s is. cc;
    no_sort_tag = λ s is. cc;
  }
  shared_stands ByTag = record {
    on_symbol = λ f is. cc;
    on_constructor = λ j is. cc;
    on_guard = λ is. cc;
    on_tag = λ is. (refl, refl, refl);
    no_sort_guard = λ s is. cc;
    no_sort_tag = λ s is. cc;
  }

  own_stands : (behind : ℕ) (one : MarkedSymbol) →
      slice_get (shared_mark c.binding ∷ []) behind ≡ Some one →
      IsStanding c normal c.binding
      (length normal.signature.symbols + (length normal.signature.constructors + behind)) one
  own_stands zero one found =
      let same : shared_mark c.binding ≡ one = cc in
      let e : length normal.signature.symbols + length normal.signature.constructors
      ≡ length normal.signature.symbols + (length normal.signature.constructors + 0) =
      omega arith in
      subst (λ n. IsStanding c normal c.binding n one) e
      (subst (IsStanding c normal c.binding
      (length normal.signature.symbols + length normal.signature.constructors)) same
      (shared_stands c.binding))
  own_stands (suc behind) one found = cc

  behind_stands : (behind : ℕ) (one : MarkedSymbol) →
      InLists (marked_constructors normal 0 normal.signature.constructors)
      (shared_mark c.binding ∷ []) behind one →
      IsStanding c normal c.binding (length normal.signature.symbols + behind) one
  behind_stands behind one (in_first found) =
      let at = constructor_found normal 0 normal.signature.constructors behind one found in
      let e : 0 + behind ≡ behind = omega arith in
      let same : one ≡ marked_constructor normal behind at.0 =
      at.2 ∙ ap (λ n. marked_constructor normal n at.0) e in
      subst (IsStanding c normal c.binding (length normal.signature.symbols + behind)) (sym same)
      (constructor_stands c.binding behind at.0 at.1)
  behind_stands behind one (in_second left same found) =
      let counts = length-constructors normal 0 normal.signature.constructors in
      let e : length normal.signature.constructors + left ≡ behind =
      omega (arith, same, counts) in
      subst (λ n. IsStanding c normal c.binding (length normal.signature.symbols + n) one) e
      (own_stands left one found)

  pub stands : (number : ℕ) (one : MarkedSymbol) →
      InLists (marked_symbols c 0 normal.signature.symbols)
      (marked_constructors normal 0 normal.signature.constructors ++ shared_mark c.binding ∷ [])
      number one →
      IsStanding c normal c.binding number one
  stands number one (in_first found) =
      let at = symbol_found c 0 normal.signature.symbols number one found in
      let e : 0 + number ≡ number = omega arith in
      let same : one ≡ marked_symbol c number at.0 =
      at.2 ∙ ap (λ n. marked_symbol c n at.0) e in
      subst (IsStanding c normal c.binding number) (sym same)
      (symbol_stands c.binding number at.0 at.1)
  stands number one (in_second behind same found) =
      let counts = length-symbols c 0 normal.signature.symbols in
      let e : length normal.signature.symbols + behind ≡ number = omega (arith, same, counts) in
      subst (λ n. IsStanding c normal c.binding n one) e
      (behind_stands behind one
      (lists_found (marked_constructors normal 0 normal.signature.constructors)
      (shared_mark c.binding ∷ []) behind one found))

  module _ (by_type : c.marking ≡ ByType) where
    pub marks_by_type : all_marks c normal
        ≡ marked_symbols c 0 normal.signature.symbols
        ++ (marked_constructors normal 0 normal.signature.constructors
        ++ shared_mark c.binding ∷ [])
    marks_by_type =
        ap (λ marking. marked_symbols c 0 normal.signature.symbols
        ++ (marked_constructors normal 0 normal.signature.constructors
        ++ own_marks normal c.binding marking)) by_type

    pub stands_at : (number : ℕ) (one : MarkedSymbol) →
        slice_get (all_marks c normal) number ≡ Some one →
        IsStanding c normal c.binding number one
    stands_at number one found =
        stands number one
        (lists_found (marked_symbols c 0 normal.signature.symbols) _ number one
        (ap (λ (ms : List MarkedSymbol). slice_get ms number) (sym marks_by_type) ∙ found))

    pub length-all_marks : length (all_marks c normal)
        ≡ length normal.signature.symbols + (length normal.signature.constructors + 1)
    length-all_marks =
        ap length marks_by_type
        ∙ length-append _ _
        ∙ ap (λ n. n + length (marked_constructors normal 0 normal.signature.constructors
        ++ shared_mark c.binding ∷ [])) (length-symbols c 0 normal.signature.symbols)
        ∙ ap (λ n. length normal.signature.symbols + n)
        (length-append _ _
        ∙ ap (λ n. n + 1) (length-constructors normal 0 normal.signature.constructors))

-- a symbol of the source, numbers for its arguments, and what the source gives for them
pub record IsSymbolOf (m : Parts) (at : ℕ) (values : List ℕ) : Type 0 where
  pub one : MarkedSymbol
  pub number : ℕ
  pub mark_at : slice_get m.encoded.marks at ≡ Some one.mark
  pub standing : IsStanding (m.choices) m.normal (m.choices).binding number one
  pub below : AreNumbers m one.symbol.arity values
  pub value_is : (structure_in m).symbol_at at values ≡ (merged_in m).symbol_at number values

pub symbol_of : (m : Parts) → IsMerging m → (at : ℕ) (values : List ℕ) →
    AreElementsFor m.encoded.problem.signature (structure_in m) at values →
    IsSymbolOf m at values
symbol_of m ready at values given =
    let c : Choices = m.choices in
    let normal : Normal = m.normal in
    let there : slice_get (encoded c normal).problem.signature at ≡ Some given.symbol =
    ap (λ (e : Encoded). slice_get e.problem.signature at) (sym ready.encoded_is) ∙ given.at in
    let found = encoded_at c normal at given.symbol there in
    let number = numbered c normal at found.0 found.1.passes in
    record {
      one = found.0;
      number = number.0;
      mark_at = ap (λ (e : Encoded). slice_get e.marks at) ready.encoded_is ∙ found.1.mark_at;
      standing =
          stands_at c normal ready.by_type number.0 found.0 number.1.found;
      below =
          subst (λ (symbol : FofSymbol). AreNumbers m symbol.arity values)
          (sym found.1.symbol_is) given.below;
      value_is = ap (λ n. (merged_in m).symbol_at n values) number.1.is;
    }

module _ (m : Parts) (at : ℕ) (values : List ℕ) (of : IsSymbolOf m at values)
    (marks : List Mark) (same : marks ≡ m.encoded.marks) (found other : Mark)
    (is : get_or marks at other ≡ found)
  where
    mark_is : of.one.mark ≡ found
    mark_is =
        sym (get_or_from_slice_get m.encoded.marks at of.one.mark other of.mark_at)
        ∙ ap (λ (ms : List Mark). get_or ms at other) (sym same)
        ∙ is

    pub symbol_for : (f : ℕ) → found ≡ mark.Symbol f → IsSymbolFor m at f values
    symbol_for f variant =
        let at_f = of.standing.on_symbol f (mark_is ∙ variant) in
        record {
          symbol = at_f.1.0;
          marked = record {
            mark_at = of.mark_at ∙ ap Some (mark_is ∙ variant);
            symbol_at = at_f.1.1;
          };
          below =
              subst (λ n. AreNumbers m n values)
              at_f.1.2 of.below;
        }

    pub symbol_gives : (f : ℕ) → found ≡ mark.Symbol f →
        (merged_in m).symbol_at f values ≡ (structure_in m).symbol_at at values
    symbol_gives f variant =
        ap (λ n. (merged_in m).symbol_at n values)
        (sym (of.standing.on_symbol f (mark_is ∙ variant)).0)
        ∙ sym of.value_is

    pub constructor_for : (i : ℕ) → found ≡ mark.Constructor i → IsConstructorFor m i values
    constructor_for i variant =
        let at_i = of.standing.on_constructor i (mark_is ∙ variant) in
        record {
          constructor = at_i.1.0;
          at = at_i.1.1;
          below = subst (λ n. AreNumbers m n values) at_i.1.2 of.below;
        }

    pub constructor_gives : (i : ℕ) → found ≡ mark.Constructor i →
        constructor_entry (tables_in m) i (members_in m values)
        ≡ (structure_in m).symbol_at at values
    constructor_gives i variant =
        let at_i = of.standing.on_constructor i (mark_is ∙ variant) in
        sym (of.value_is
        ∙ ap (λ n. (merged_in m).symbol_at n values) at_i.0
        ∙ symbol_at-other (m.choices) m.normal (typed_in m) i values
        ∙ ap (λ w. cond w (constructor_entry (tables_in m) i (members_in m values))
        (merged_mark (typed_in m) (m.choices).binding values))
        (lt-ltb i (length (signature_in m).constructors)
        (slice_get_within (signature_in m).constructors i at_i.1.0 at_i.1.1)))

    pub guard_arity : found ≡ mark.Guard → of.one.symbol.arity ≡ 2
    guard_arity variant = (of.standing.on_guard (mark_is ∙ variant)).1

    pub guard_two : found ≡ mark.Guard → length values ≡ 2
    guard_two variant =
        sym (EachBelow-same_length (replicate of.one.symbol.arity (merged_size m.model.sizes))
        values of.below)
        ∙ length-replicate of.one.symbol.arity (merged_size m.model.sizes)
        ∙ (of.standing.on_guard (mark_is ∙ variant)).1

    pub guard_gives : found ≡ mark.Guard →
        merged_mark (typed_in m) ByGuard values ≡ (structure_in m).symbol_at at values
    guard_gives variant =
        let own = of.standing.on_guard (mark_is ∙ variant) in
        sym (of.value_is
        ∙ ap (λ n. (merged_in m).symbol_at n values) own.0
        ∙ symbol_at-shared (m.choices) m.normal (typed_in m) values
        ∙ ap (λ binding. merged_mark (typed_in m) binding values) own.2)

    pub tag_arity : found ≡ mark.Tag → of.one.symbol.arity ≡ 2
    tag_arity variant = (of.standing.on_tag (mark_is ∙ variant)).1

    pub tag_two : found ≡ mark.Tag → length values ≡ 2
    tag_two variant =
        sym (EachBelow-same_length (replicate of.one.symbol.arity (merged_size m.model.sizes))
        values of.below)
        ∙ length-replicate of.one.symbol.arity (merged_size m.model.sizes)
        ∙ (of.standing.on_tag (mark_is ∙ variant)).1

    pub tag_gives : found ≡ mark.Tag →
        merged_mark (typed_in m) ByTag values ≡ (structure_in m).symbol_at at values
    tag_gives variant =
        let own = of.standing.on_tag (mark_is ∙ variant) in
        sym (of.value_is
        ∙ ap (λ n. (merged_in m).symbol_at n values) own.0
        ∙ symbol_at-shared (m.choices) m.normal (typed_in m) values
        ∙ ap (λ binding. merged_mark (typed_in m) binding values) own.2)

    pub never_sort_guard : (s : ℕ) → found ≡ mark.SortGuard s → ⊥
    never_sort_guard s variant = of.standing.no_sort_guard s (mark_is ∙ variant)

    pub never_sort_tag : (s : ℕ) → found ≡ mark.SortTag s → ⊥
    never_sort_tag s variant = of.standing.no_sort_tag s (mark_is ∙ variant)

    -- the two numbers of a guard's or tag's arguments
    pub two_below : (first second count : ℕ) → values ≡ first ∷ second ∷ [] →
        AreNumbers m count values → count ≡ 2 →
        (first < merged_size m.model.sizes) × (second < merged_size m.model.sizes)
    two_below first second count two below all =
        let each : EachBelow (replicate 2 (merged_size m.model.sizes)) (first ∷ second ∷ []) =
        subst (λ vs. EachBelow (replicate 2 (merged_size m.model.sizes)) vs) two
        (subst (λ n. AreNumbers m n values) all below) in
        (each.0, each.1.0)

-- each mark of an encoded problem that stands for a symbol stands for one of the source's
pub marks_within : (c : Choices) (normal : Normal) → c.marking ≡ ByType →
    AreMarksIn normal.signature (encoded c normal).marks
unfolding encoded
marks_within c normal by_type at marked found f is =
    let image = map_found (λ (one : MarkedSymbol). one.mark)
    (passing (is_present (translation c normal)) 0 (all_marks c normal)) at marked found in
    let number = numbered c normal at image.0 image.1 in
    let standing = stands_at c normal by_type number.0 image.0 number.1.found in
    let own = standing.on_symbol f (image.2 ∙ is) in
    slice_get_within normal.signature.symbols f own.1.0 own.1.1

-- it has no more symbols than are marked
pub few_symbols : (c : Choices) (normal : Normal) → c.marking ≡ ByType →
    length (encoded c normal).problem.signature
    ≤ length normal.signature.symbols + (length normal.signature.constructors + 1)
unfolding encoded
few_symbols c normal by_type =
    let present : ℕ → Bool = is_present (translation c normal) in
    let same : length (map (λ (one : MarkedSymbol). one.symbol)
    (passing present 0 (all_marks c normal))) ≡ length (passing present 0 (all_marks c normal)) =
    length-map _ _ in
    omega (
      arith,
      length-all_marks c normal by_type,
      same,
      length-passing present 0 (all_marks c normal),
    )
