-- The merged structure gives for the marked symbols what it is to give, and is a model of the
-- translation.
use Rattle.std.specs.Prelude.{ℕ, zero, suc, ◌+◌, ◌-◌, ◌≡◌, List, [], ◌∷◌, ◌++◌, map, length, cond, drop, slice_get, take, Some, None}
use Rattle.std.proofs.Common.{refl, sym, ap, ◌∙◌, subst, arith}
use Rattle.std.proofs.lemmas.Bool.{lt-ltb, le-ltb}
use Rattle.tf_core.specs.declared.ty.Ty.{Ty}
use Rattle.tf_core.specs.declared.signature.Symbol.{Symbol}
use Rattle.tf_core.specs.declared.normal.NormalFormula.{NormalFormula}
use Rattle.tf_core.specs.declared.normal.Normal.{Normal}
use Rattle.tf_core.specs.Sorts.{sorts}
use Rattle.tf_core.specs.Typing.{IsNormal}
use Rattle.tf_core.specs.Structures.{Typed}
use Rattle.tf_core.specs.Models.{IsNormalModel}
use Rattle.fof_models.specs.Models.{AreSatisfied}
use Rattle.enc_marks.specs.Choices.{Choices}
use Rattle.enc_marks.specs.Encoded.{all_numbers, translation}
use Rattle.tf_stamp.specs.Merged.{member_in}
use Rattle.enc_laws.specs.MergedStructure.{kept_count, members_at, value_at, merged_value, merged_symbol, merged_mark, merged_other, merged_at, merged}
use Rattle.enc_laws.proofs.Selected.{all_same}
use Rattle.enc_laws.proofs.MarksFound.{slice_get-within}
use Rattle.enc_laws.proofs.Stamped.{stamped, IsMerged, MergesByType, corresponds}
use Rattle.enc_laws.proofs.StampedForward.{forward, forward_axioms}
use Rattle.enc_laws.proofs.ProblemForward.{translation_forward}

pub slice_get-past : {A : Type 0} (items : List A) (i : ℕ) → slice_get items (length items + i) ≡ None
slice_get-past [] i = refl
slice_get-past (item ∷ items) i =
    let e : length (item ∷ items) + i ≡ suc (length items + i) = omega arith in
    subst (λ x. slice_get (item ∷ items) x ≡ None) (sym e) (slice_get-past items i)

pub take-front : (front back : List ℕ) (n : ℕ) → length front ≡ n → take n (front ++ back) ≡ front
take-front [] back zero all = refl
take-front [] back (suc n) all = absurd (omega (arith, all))
take-front (x ∷ front) back zero all = absurd (omega (arith, all))
take-front (x ∷ front) back (suc n) all =
    ap (λ l. x ∷ l) (take-front front back n (omega (arith, all)))

pub drop-front : (front back : List ℕ) (n : ℕ) → length front ≡ n → drop n (front ++ back) ≡ back
drop-front [] back zero all = refl
drop-front [] back (suc n) all = absurd (omega (arith, all))
drop-front (x ∷ front) back zero all = absurd (omega (arith, all))
drop-front (x ∷ front) back (suc n) all = drop-front front back n (omega (arith, all))

module _ (c : Choices) (normal : Normal) (s : Typed) where
  symbol_at-symbol : (f : ℕ) (symbol : Symbol) (kept values : List ℕ) →
      slice_get normal.signature.symbols f ≡ Some symbol → length kept ≡ kept_count c symbol →
      (merged c normal.signature s).symbol_at f (kept ++ values) ≡ merged_symbol c s f symbol kept
      values
  symbol_at-symbol f symbol kept values at all =
      ap (λ o. merged_at c normal.signature s f o (kept ++ values)) at
      ∙ ap (λ y. merged_symbol c s f symbol y (drop (kept_count c symbol) (kept ++ values)))
      (take-front kept values (kept_count c symbol) all)
      ∙ ap (λ y. merged_symbol c s f symbol kept y)
      (drop-front kept values (kept_count c symbol) all)

  pub symbol_at-other : (i : ℕ) (values : List ℕ) →
      (merged c normal.signature s).symbol_at (length normal.signature.symbols + i) values
      ≡ merged_other c normal.signature s i values
  symbol_at-other i values =
      let symbols : ℕ = length normal.signature.symbols in
      let e : symbols + i - symbols ≡ i = omega arith in
      ap (λ o. merged_at c normal.signature s (symbols + i) o values)
      (slice_get-past normal.signature.symbols i)
      ∙ ap (λ y. merged_other c normal.signature s y values) e

  pub symbol_at-shared : (values : List ℕ) →
      (merged c normal.signature s).symbol_at
      (length normal.signature.symbols + length normal.signature.constructors) values
      ≡ merged_mark s c.binding values
  symbol_at-shared values =
      let count : ℕ = length normal.signature.constructors in
      symbol_at-other count values
      ∙ ap (λ w. cond w (s.constructor_at count (map (member_in s.sizes) values))
      (merged_mark s c.binding values)) (le-ltb count count (omega arith))

  pub is_merged : IsMerged c (all_numbers normal) normal.signature s (merged c normal.signature s)
  is_merged = record {
    size = refl;
    constructors = λ i constructor values at.
        symbol_at-other i values
        ∙ ap (λ w. cond w (s.constructor_at i (map (member_in s.sizes) values))
        (merged_mark s c.binding values))
        (lt-ltb i (length normal.signature.constructors)
        (slice_get-within normal.signature.constructors i constructor at));
    functions = λ f symbol ty kept values at gives all.
        symbol_at-symbol f symbol kept values at all
        ∙ ap (λ o. merged_value s (members_at c s symbol kept values) o
        (value_at s f symbol (members_at c s symbol kept values) values)) gives;
    predicates = λ f symbol kept values at gives all.
        symbol_at-symbol f symbol kept values at all
        ∙ ap (λ o. merged_value s (members_at c s symbol kept values) o
        (value_at s f symbol (members_at c s symbol kept values) values)) gives;
    guard = λ binding u v.
        symbol_at-shared (u ∷ v ∷ []) ∙ ap (λ z. merged_mark s z (u ∷ v ∷ [])) binding;
    tag = λ binding u v.
        symbol_at-shared (u ∷ v ∷ []) ∙ ap (λ z. merged_mark s z (u ∷ v ∷ [])) binding;
  }

  pub merged_satisfies : MergesByType c normal.signature s → IsNormal normal → IsNormalModel normal s →
      AreSatisfied (merged c normal.signature s) (translation c normal)
  merged_satisfies by sound model =
      let j = merged c normal.signature s in
      translation_forward c normal s j (stamped s) sound.signature
      (corresponds c (all_numbers normal) normal.signature s j sound.signature model.structure by
      is_merged)
      (forward_axioms c (all_numbers normal) normal.signature s j sound.signature model.structure by
      is_merged)
      (λ p. p ≡ p)
      (forward c (all_numbers normal) normal.signature s j sound.signature model.structure by
      is_merged) sound.formulas (all_same (λ (p : NormalFormula). p.body) normal.formulas)
      (all_same (λ (ty : Ty). ty) (sorts normal)) model.formulas
