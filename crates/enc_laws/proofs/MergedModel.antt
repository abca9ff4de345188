-- The merged structure, over the marked symbols that occur, is a model of the encoded problem.
use Rattle.std.specs.Prelude.{ℕ, zero, suc, ◌+◌, ◌<◌, ◌≡◌, Bool, true, false, List, [], ◌∷◌, map, length, replicate, cond, drop, is_none, slice_get, take, Some, IsTrue}
use Rattle.std.proofs.Common.{refl, sym, ap, ◌∙◌, subst, arith}
use Rattle.std.proofs.lemmas.Bool.{lt-ltb}
use Rattle.enc_base.specs.Tables.{EachBelow}
use Rattle.tf_core.specs.declared.signature.Constructor.{Constructor}
use Rattle.tf_core.specs.declared.signature.Symbol.{Symbol}
use Rattle.tf_core.specs.declared.normal.Normal.{Normal}
use Rattle.tf_core.specs.Typing.{IsNormal}
use Rattle.tf_core.specs.Structures.{Typed, member_count}
use Rattle.tf_core.specs.Models.{IsNormalModel}
use Rattle.fof_models.specs.Structures.{values_below}
use Rattle.fof_models.specs.Models as fof_models
use Rattle.fof_models.specs.Models.{AreSatisfied}
use Rattle.enc_marks.specs.declared.choices.Binding.{Binding}
use Rattle.enc_marks.specs.declared.choices.Binding.TheVariants.{ByGuard, ByTag}
use Rattle.enc_marks.specs.Choices.{Choices}
use Rattle.enc_marks.specs.Encoded.{MarkedSymbol, marked_symbol, marked_constructor, shared_mark, own_marks, all_marks, is_present, translation, encoded}
use Rattle.tf_stamp.specs.Merged.{merged_size, member_in, element_in}
use Rattle.enc_laws.specs.MergedStructure.{kept_count, merged_mark, merged_at, merged}
use Rattle.enc_laws.specs.Present.{over_present}
use Rattle.tf_stamp.proofs.Merged.{stamp_within, member_in-within}
use Rattle.enc_laws.proofs.Stamped.{MergesByType, element_of}
use Rattle.enc_laws.proofs.MergedStructure.{symbol_at-other, symbol_at-shared, merged_satisfies}
use Rattle.enc_laws.proofs.MergedFormed.{EachBelow-front, EachBelow-back, merged_symbol-below, merged_constructor-below}
use Rattle.enc_laws.proofs.MarksFound.{slice_get-within}
use Rattle.enc_laws.proofs.EncodedModel.{IsInRange, encoded_model}

module _ (c : Choices) (normal : Normal) (s : Typed) (by : MergesByType c normal.signature s)
    (sound : IsNormal normal) (model : IsNormalModel normal s) where
  -- each marked symbol gives a number in its range
  abbrev IsBelow : ℕ → MarkedSymbol → List ℕ → Type 0
  IsBelow m marked values =
      (merged c normal.signature s).symbol_at m values
      < values_below marked.symbol (merged_size s.sizes)

  symbol_below : (f : ℕ) (symbol : Symbol) (values : List ℕ) →
      slice_get normal.signature.symbols f ≡ Some symbol →
      EachBelow (replicate (kept_count c symbol + length symbol.arguments) (merged_size s.sizes))
      values →
      IsBelow f (marked_symbol c f symbol) values
  symbol_below f symbol values at below =
      let first : ℕ = kept_count c symbol in
      let second : ℕ = length symbol.arguments in
      subst (λ o. merged_at c normal.signature s f o values
      < cond (is_none symbol.result) 2 (merged_size s.sizes)) (sym at)
      (merged_symbol-below normal.signature s sound.signature model.structure c by.keeps f symbol
      (take first values) (drop first values) at
      (EachBelow-front (merged_size s.sizes) first second values below)
      (EachBelow-back (merged_size s.sizes) first second values below) symbol.result refl)

  constructor_below : (i : ℕ) (constructor : Constructor) (values : List ℕ) →
      slice_get normal.signature.constructors i ≡ Some constructor →
      EachBelow (replicate constructor.arity (merged_size s.sizes)) values →
      IsBelow (length normal.signature.symbols + i) (marked_constructor normal i constructor) values
  constructor_below i constructor values at below =
      let is = symbol_at-other c normal s i values
      ∙ ap (λ w. cond w (s.constructor_at i (map (member_in s.sizes) values))
      (merged_mark s c.binding values))
      (lt-ltb i (length normal.signature.constructors)
      (slice_get-within normal.signature.constructors i constructor at)) in
      subst (λ z. z < merged_size s.sizes) (sym is)
      (merged_constructor-below normal.signature s sound.signature model.structure i constructor
      values at below)

  guard_below : (b : Bool) → cond b 1 0 < 2
  guard_below true = omega arith
  guard_below false = omega arith

  mark_below : (b : Binding) (values : List ℕ) →
      EachBelow (replicate 2 (merged_size s.sizes)) values →
      merged_mark s b values < values_below (shared_mark b).symbol (merged_size s.sizes)
  mark_below b [] below = absurd below
  mark_below b (u ∷ []) below = absurd below.1
  mark_below ByGuard (u ∷ v ∷ others) below = guard_below _
  mark_below ByTag (u ∷ v ∷ others) below =
      let m : ℕ = member_in s.sizes u in
      let inside : m < member_count s = member_in-within s.sizes u below.0 in
      let two = below.1 in
      let element = element_of s v m two.0 inside (model.structure.inhabited m inside) in
      let place = stamp_within s.sizes m (element_in s.sizes v m) inside element.small in
      omega (arith, place)

  own_below : (behind : ℕ) (marked : MarkedSymbol) (values : List ℕ) →
      slice_get (own_marks normal c.binding c.marking) behind ≡ Some marked →
      EachBelow (replicate marked.symbol.arity (merged_size s.sizes)) values →
      IsBelow (length normal.signature.symbols + (length normal.signature.constructors + behind))
      marked values
  own_below behind marked values at below =
      alone behind (subst (λ z. slice_get (own_marks normal c.binding z) behind ≡ Some marked)
      by.marking at)
    where
      alone : (behind : ℕ) →
          slice_get (shared_mark c.binding ∷ []) behind ≡ Some marked →
          IsBelow (length normal.signature.symbols
          + (length normal.signature.constructors + behind)) marked values
      alone zero there =
          let same : shared_mark c.binding ≡ marked = cc in
          let e : length normal.signature.symbols + length normal.signature.constructors
          ≡ length normal.signature.symbols + (length normal.signature.constructors + 0) =
          omega arith in
          let low : EachBelow (replicate 2 (merged_size s.sizes)) values =
          subst (λ (z : MarkedSymbol).
          EachBelow (replicate z.symbol.arity (merged_size s.sizes)) values)
          (sym same) below in
          subst (λ z. IsBelow z marked values) e
          (subst (λ (z : MarkedSymbol). IsBelow
          (length normal.signature.symbols + length normal.signature.constructors) z values) same
          (subst (λ z. z < values_below (shared_mark c.binding).symbol (merged_size s.sizes))
          (sym (symbol_at-shared c normal s values)) (mark_below c.binding values low)))
      alone (suc behind) there = cc

  in_range : IsInRange c normal (merged c normal.signature s)
  in_range = record {
    some = let some = model.structure.some in omega (arith, some);
    symbols = λ f symbol values at below. symbol_below f symbol values at below;
    constructors = λ i constructor values at below.
        constructor_below i constructor values at below;
    own = λ behind marked values at below. own_below behind marked values at below;
  }

  pub merged_model : ((m : ℕ) → IsTrue (is_present (translation c normal) m) →
      m < length (all_marks c normal)) →
      fof_models.IsModel (encoded c normal).problem
      (over_present (is_present (translation c normal)) (length (all_marks c normal))
      (merged c normal.signature s))
  merged_model within =
      encoded_model c normal (merged c normal.signature s) in_range
      (merged_satisfies c normal s by sound model) within
