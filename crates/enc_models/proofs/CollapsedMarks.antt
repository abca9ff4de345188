-- What the symbols of an encoded problem stand for, and what the collapsed structure gives for each.
use Rattle.std.specs.Prelude.{ℕ, ◌≡◌, ◌<◌, ◌+◌, true, List, [], ◌∷◌, map, length, replicate, cond, ltb, min, get_or, slice_get, slice_index, Some}
use Rattle.std.proofs.Common.{refl, sym, ap, subst, ◌∙◌, arith}
use Rattle.std.proofs.lemmas.List.{length-map, length-replicate, get_or_default}
use Rattle.std.proofs.lemmas.Option.{slice_get_within, get_or_from_slice_get}
use Rattle.enc_base.proofs.Placing.{EachBelow-same_length, get_or-mapped}
use Rattle.tf_core.specs.declared.ty.Ty.TheVariants as type
use Rattle.tf_core.specs.declared.signature.Symbol.{Symbol}
use Rattle.tf_core.specs.declared.normal.Normal.{Normal}
use Rattle.tf_core.specs.Sorts.{sorts}
use Rattle.fof_models.specs.declared.problem.FofSymbol.{FofSymbol}
use Rattle.structure_tables.specs.Sources.{AreElementsFor}
use Rattle.enc_marks.specs.declared.mark.Mark.{Mark}
use Rattle.enc_marks.specs.declared.mark.Mark.TheVariants as mark
use Rattle.enc_marks.specs.declared.encoded.Encoded.{Encoded}
use Rattle.enc_marks.specs.declared.choices.Marking.{Marking}
use Rattle.enc_marks.specs.declared.choices.Binding.{Binding}
use Rattle.enc_marks.specs.declared.choices.Binding.TheVariants.{ByGuard, ByTag}
use Rattle.enc_marks.specs.Choices.{Choices}
use Rattle.enc_marks.specs.Encoded.{MarkedSymbol, is_present, translation, encoded}
use Rattle.enc_laws.specs.CollapsedStructure.{collapse, greatest, sort_size, collapsed_size, collapsed_constructor, collapsed_mark}
use Rattle.enc_laws.proofs.CollapsedStructure.{greatest-above, collapsed-constructor, collapsed-mark}
use Rattle.enc_models.specs.Calls.Collapsing.{Parts, signature_in, typed_in, size_in, collapsed_in, structure_in, IsCollapsing, AreNumbers, IsSymbolFor, IsConstructorFor}
use Rattle.enc_models.proofs.Marks.{encoded_at, numbered}
use Rattle.enc_models.proofs.CollapsedStanding.{IsShared, IsOfSort, StandsFor, stands_for}

-- a symbol of the encoded problem, numbers for its arguments, and what the structure gives for them
pub record IsSymbolOf (m : Parts) (at : ℕ) (values : List ℕ) : Type 0 where
  pub one : MarkedSymbol
  pub number : ℕ
  pub mark_at : slice_get m.encoded.marks at ≡ Some one.mark
  pub standing : StandsFor m.choices m.normal number one
  pub occurs : is_present (translation m.choices m.normal) number ≡ true
  pub below : AreNumbers m one.symbol.arity values
  pub value_is : (structure_in m).symbol_at at values ≡ (collapsed_in m).symbol_at number values

pub symbol_of : (m : Parts) → IsCollapsing m → (at : ℕ) (values : List ℕ) →
    AreElementsFor m.encoded.problem.signature (structure_in m) at values →
    IsSymbolOf m at values
symbol_of m ready at values given =
    let c : Choices = m.choices in
    let normal : Normal = m.normal in
    let there : slice_get (encoded c normal).problem.signature at ≡ Some given.symbol =
    ap (λ (e : Encoded). slice_get e.problem.signature at) (sym ready.encoded_is) ∙ given.at in
    let found = encoded_at c normal at given.symbol there in
    let number = numbered c normal at found.0 found.1.passes in
    record {
      one = found.0;
      number = number.0;
      mark_at = ap (λ (e : Encoded). slice_get e.marks at) ready.encoded_is ∙ found.1.mark_at;
      standing = stands_for c normal number.0 found.0 number.1.found;
      occurs = number.1.occurs;
      below =
          subst (λ (symbol : FofSymbol). AreNumbers m symbol.arity values)
          (sym found.1.symbol_is) given.below;
      value_is = ap (λ n. (collapsed_in m).symbol_at n values) number.1.is;
    }

module _ (m : Parts) (ready : IsCollapsing m) (at : ℕ) (values : List ℕ)
    (of : IsSymbolOf m at values) (marks : List Mark) (same : marks ≡ m.encoded.marks)
    (found other : Mark) (is : get_or marks at other ≡ found)
  where
    mark_is : of.one.mark ≡ found
    mark_is =
        sym (get_or_from_slice_get m.encoded.marks at of.one.mark other of.mark_at)
        ∙ ap (λ (ms : List Mark). get_or ms at other) (sym same)
        ∙ is

    pub symbol_for : (f : ℕ) → found ≡ mark.Symbol f → IsSymbolFor m at f values
    symbol_for f variant =
        let at_f = of.standing.on_symbol f (mark_is ∙ variant) in
        let symbol : Symbol = at_f.1.0 in
        record {
          symbol = symbol;
          marked = record {
            mark_at = of.mark_at ∙ ap Some (mark_is ∙ variant);
            symbol_at = at_f.1.1;
          };
          below =
              subst (λ n. AreNumbers m n values)
              (at_f.1.2
              ∙ ap (λ n. n + length symbol.arguments) (ready.kept f symbol at_f.1.1)) of.below;
        }

    pub symbol_gives : (f : ℕ) → found ≡ mark.Symbol f →
        (collapsed_in m).symbol_at f values ≡ (structure_in m).symbol_at at values
    symbol_gives f variant =
        ap (λ n. (collapsed_in m).symbol_at n values)
        (sym (of.standing.on_symbol f (mark_is ∙ variant)).0)
        ∙ sym of.value_is

    pub constructor_for : (i : ℕ) → found ≡ mark.Constructor i → IsConstructorFor m i values
    constructor_for i variant =
        let at_i = of.standing.on_constructor i (mark_is ∙ variant) in
        record {
          constructor = at_i.1.0;
          at = at_i.1.1;
          below = subst (λ n. AreNumbers m n values) at_i.1.2 of.below;
        }

    pub constructor_gives : (i : ℕ) → found ≡ mark.Constructor i →
        collapsed_constructor m.choices.marking (typed_in m) i values
        ≡ (structure_in m).symbol_at at values
    constructor_gives i variant =
        let at_i = of.standing.on_constructor i (mark_is ∙ variant) in
        sym (of.value_is
        ∙ ap (λ n. (collapsed_in m).symbol_at n values) at_i.0
        ∙ collapsed-constructor m.choices m.normal (typed_in m) i values
        (slice_get_within (signature_in m).constructors i at_i.1.0 at_i.1.1))

    -- the mark that all types share doesn't occur

    never_shared : IsShared m.choices m.normal of.number → ⊥
    never_shared shared =
        omega (arith, shared.1, ready.unmarked shared.0 of.number of.occurs)

    pub never_guard : found ≡ mark.Guard → ⊥
    never_guard variant = never_shared (of.standing.on_guard (mark_is ∙ variant))

    pub never_tag : found ≡ mark.Tag → ⊥
    never_tag variant = never_shared (of.standing.on_tag (mark_is ∙ variant))

    -- the mark of a sort

    module _ (binding : Binding) (s : ℕ)
        (sort : IsOfSort m.choices m.normal binding of.number of.one.symbol.arity s)
      where
        sizes_is : m.sort_sizes ≡ map (sort_size (typed_in m)) (sorts m.normal)
        sizes_is = ready.sizes_are sort.by_sort

        within : s < length m.sort_sizes
        within =
            let same : length (map (sort_size (typed_in m)) (sorts m.normal))
            ≡ length (sorts m.normal) = length-map _ _ in
            omega (arith, sort.within, ap length sizes_is, same)

        one_value : length values ≡ 1
        one_value =
            sym (EachBelow-same_length (replicate of.one.symbol.arity (size_in m)) values of.below)
            ∙ length-replicate of.one.symbol.arity (size_in m)
            ∙ sort.arity_is

        size_is : min (sort_size (typed_in m) (get_or (sorts m.normal) s (type.Var 0))) (size_in m)
            ≡ slice_index m.sort_sizes s
        size_is =
            let own : slice_index m.sort_sizes s
            ≡ sort_size (typed_in m) (get_or (sorts m.normal) s (type.Var 0)) =
            ap (λ sizes. slice_index sizes s) sizes_is
            ∙ get_or-mapped (sort_size (typed_in m)) (sorts m.normal) s
            (get_or (sorts m.normal) s (type.Var 0)) sort.within
            (get_or_default (sorts m.normal) s (type.Var 0)
            (get_or (sorts m.normal) s (type.Var 0)) sort.within) in
            let bound : size_in m ≡ greatest m.sort_sizes =
            ap (λ (marking : Marking). collapsed_size marking m.normal (typed_in m)) sort.by_sort
            ∙ ap greatest (sym sizes_is) in
            omega (arith, own, bound, greatest-above m.sort_sizes s)

        gives : (structure_in m).symbol_at at values
            ≡ collapsed_mark binding (slice_index m.sort_sizes s) values
        gives =
            of.value_is
            ∙ ap (λ n. (collapsed_in m).symbol_at n values) sort.number_is
            ∙ collapsed-mark m.choices m.normal (typed_in m) s values
            ∙ ap (λ size. collapsed_mark m.choices.binding size values) size_is
            ∙ ap (λ (b : Binding). collapsed_mark b (slice_index m.sort_sizes s) values) sort.bound

    guard_of : (s : ℕ) → found ≡ mark.SortGuard s →
        IsOfSort m.choices m.normal ByGuard of.number of.one.symbol.arity s
    guard_of s variant = of.standing.on_sort_guard s (mark_is ∙ variant)

    tag_of : (s : ℕ) → found ≡ mark.SortTag s →
        IsOfSort m.choices m.normal ByTag of.number of.one.symbol.arity s
    tag_of s variant = of.standing.on_sort_tag s (mark_is ∙ variant)

    pub guard_within : (s : ℕ) → found ≡ mark.SortGuard s → s < length m.sort_sizes
    guard_within s variant = within ByGuard s (guard_of s variant)

    pub tag_within : (s : ℕ) → found ≡ mark.SortTag s → s < length m.sort_sizes
    tag_within s variant = within ByTag s (tag_of s variant)

    pub guard_one : (s : ℕ) → found ≡ mark.SortGuard s → length values ≡ 1
    guard_one s variant = one_value ByGuard s (guard_of s variant)

    pub tag_one : (s : ℕ) → found ≡ mark.SortTag s → length values ≡ 1
    tag_one s variant = one_value ByTag s (tag_of s variant)

    pub guard_gives : (s : ℕ) → found ≡ mark.SortGuard s →
        cond (ltb (slice_index values 0) (slice_index m.sort_sizes s)) 1 0
        ≡ (structure_in m).symbol_at at values
    guard_gives s variant =
        guard_of_one (slice_index m.sort_sizes s) values (guard_one s variant)
        ∙ sym (gives ByGuard s (guard_of s variant))
      where
        guard_of_one : (size : ℕ) (numbers : List ℕ) → length numbers ≡ 1 →
            cond (ltb (slice_index numbers 0) size) 1 0 ≡ collapsed_mark ByGuard size numbers
        guard_of_one size [] one = absurd (omega (arith, one))
        guard_of_one size (v ∷ numbers) one = refl

    pub tag_gives : (s : ℕ) → found ≡ mark.SortTag s →
        collapse (slice_index m.sort_sizes s) (slice_index values 0)
        ≡ (structure_in m).symbol_at at values
    tag_gives s variant =
        tag_of_one (slice_index m.sort_sizes s) values (tag_one s variant)
        ∙ sym (gives ByTag s (tag_of s variant))
      where
        tag_of_one : (size : ℕ) (numbers : List ℕ) → length numbers ≡ 1 →
            collapse size (slice_index numbers 0) ≡ collapsed_mark ByTag size numbers
        tag_of_one size [] one = absurd (omega (arith, one))
        tag_of_one size (v ∷ numbers) one = refl
