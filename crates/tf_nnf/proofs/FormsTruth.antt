-- Truth of the normal forms: that of the formula, and of its negation.
use Rattle.std.proofs.Common.{ℕ, zero, suc, ◌≡◌, Bool, true, false, List, [], ◌∷◌, map, refl, sym, ap, subst, ◌∙◌}
use Rattle.std.specs.Prelude.{not, ◌&&◌, ◌||◌}
use Rattle.std.specs.List.{list_all, list_any}
use Rattle.enc_base.specs.Quantifiers.{all_below, some_below}
use Rattle.enc_base.proofs.Quantifiers.{not-all_below, not-some_below}
use Rattle.tf_core.specs.declared.nnf.Nnf.{Nnf}
use Rattle.tf_core.specs.declared.formula.Formula.{Formula, roll-Formula}
use Rattle.tf_core.specs.declared.formula.Formula.TheVariants as formula
use Rattle.tf_core.specs.declared.formula.Formula.TheOpen.{Formula-F}
use Rattle.tf_core.specs.declared.formula.Formula.TheOpen as layer
use Rattle.tf_core.specs.declared.formula.Formula.TheFolds.{ind-Formula, map-Formula}
use Rattle.tf_core.specs.Structures.{Typed, size_of, member_of}
use Rattle.tf_core.specs.Truth.{truth, normal_truth, implies, iff}
use Rattle.tf_nnf.specs.Forms.{Forms, forms, positive_form, negative_form, both, either}
use Rattle.tf_nnf.proofs.Forms.{forms-true, forms-false, forms-atom, forms-equal, forms-not, forms-and, forms-or, forms-implies, forms-if, forms-iff, forms-xor, forms-nand, forms-nor, forms-for_all, forms-exists}
use Rattle.tf_nnf.proofs.Truth.{truth-true, truth-false, truth-atom, truth-equal, truth-not, truth-and, truth-or, truth-implies, truth-if, truth-iff, truth-xor, truth-nand, truth-nor, truth-for_all, truth-exists, normal_truth-true, normal_truth-false, normal_truth-atom, normal_truth-equation, normal_truth-and, normal_truth-or, normal_truth-for_all, normal_truth-exists}

-- tests

not-and : (a b : Bool) → (not a || not b) ≡ not (a && b)
not-and true b = refl
not-and false b = refl

not-or : (a b : Bool) → (not a && not b) ≡ not (a || b)
not-or true b = refl
not-or false b = refl

not-not : (a : Bool) → a ≡ not (not a)
not-not true = refl
not-not false = refl

and-not : (a b : Bool) → (a && not b) ≡ not (implies a b)
and-not true b = refl
and-not false b = refl

or-swapped : (a b : Bool) → (a || not b) ≡ implies b a
or-swapped true true = refl
or-swapped true false = refl
or-swapped false true = refl
or-swapped false false = refl

and-swapped : (a b : Bool) → (not a && b) ≡ not (implies b a)
and-swapped true true = refl
and-swapped true false = refl
and-swapped false true = refl
and-swapped false false = refl

differ : (a b : Bool) → ((a || b) && (not a || not b)) ≡ not (iff a b)
differ true true = refl
differ true false = refl
differ false true = refl
differ false false = refl

pub all_below-same : (bound : ℕ) (one other : ℕ → Bool) → ((n : ℕ) → one n ≡ other n) →
    all_below bound one ≡ all_below bound other
all_below-same zero one other same = refl
all_below-same (suc bound) one other same =
    ap (λ b. b && all_below bound one) (same bound)
    ∙ ap (λ b. other bound && b) (all_below-same bound one other same)

pub some_below-same : (bound : ℕ) (one other : ℕ → Bool) → ((n : ℕ) → one n ≡ other n) →
    some_below bound one ≡ some_below bound other
some_below-same zero one other same = refl
some_below-same (suc bound) one other same =
    ap (λ b. b || some_below bound one) (same bound)
    ∙ ap (λ b. other bound || b) (some_below-same bound one other same)

module _ (s : Typed) (members : List ℕ) where
  -- both forms of a formula keep its truth
  pub record Keeps (f : Formula) : Type 0 where
    pub positive : (elements : List ℕ) →
        normal_truth s members (positive_form f) elements ≡ truth s members f elements
    pub negative : (elements : List ℕ) →
        normal_truth s members (negative_form f) elements ≡ not (truth s members f elements)

  with_forms : (f : Formula) (made : Forms) → forms f ≡ made →
      ((elements : List ℕ) →
      normal_truth s members made.positive elements ≡ truth s members f elements) →
      ((elements : List ℕ) →
      normal_truth s members made.negative elements ≡ not (truth s members f elements)) →
      Keeps f
  with_forms f made is here there = record {
    positive = λ elements.
        ap (λ (x : Forms). normal_truth s members x.positive elements) is ∙ here elements;
    negative = λ elements.
        ap (λ (x : Forms). normal_truth s members x.negative elements) is ∙ there elements;
  }

  truth-both : (p q : Nnf) (elements : List ℕ) (a b : Bool) →
      normal_truth s members p elements ≡ a → normal_truth s members q elements ≡ b →
      normal_truth s members (both p q) elements ≡ (a && b)
  truth-both p q elements a b left right =
      normal_truth-and s members (p ∷ q ∷ []) elements
      ∙ ap (λ x. x && (normal_truth s members q elements && true)) left
      ∙ ap (λ x. a && (x && true)) right
      ∙ ap (λ x. a && x) (and-true b)
    where
      and-true : (b : Bool) → (b && true) ≡ b
      and-true true = refl
      and-true false = refl

  truth-either : (p q : Nnf) (elements : List ℕ) (a b : Bool) →
      normal_truth s members p elements ≡ a → normal_truth s members q elements ≡ b →
      normal_truth s members (either p q) elements ≡ (a || b)
  truth-either p q elements a b left right =
      normal_truth-or s members (p ∷ q ∷ []) elements
      ∙ ap (λ x. x || (normal_truth s members q elements || false)) left
      ∙ ap (λ x. a || (x || false)) right
      ∙ ap (λ x. a || x) (or-false b)
    where
      or-false : (b : Bool) → (b || false) ≡ b
      or-false true = refl
      or-false false = refl

  -- lists of parts

  abbrev Kept : Type 0
  Kept = (f : Formula) × Keeps f

  abbrev formulas : List Kept → List Formula
  formulas parts = map (λ (part : Kept). part.0) parts

  all_positive : (elements : List ℕ) (parts : List Kept) →
      list_all (λ part. normal_truth s members part elements) (map positive_form (formulas parts))
      ≡ list_all (λ part. truth s members part elements) (formulas parts)
  all_positive elements [] = refl
  all_positive elements (part ∷ parts) =
      ap (λ x. x && list_all (λ p. normal_truth s members p elements) (map positive_form (formulas parts)))
      (part.1.positive elements)
      ∙ ap (λ x. truth s members part.0 elements && x) (all_positive elements parts)

  any_positive : (elements : List ℕ) (parts : List Kept) →
      list_any (λ part. normal_truth s members part elements) (map positive_form (formulas parts))
      ≡ list_any (λ part. truth s members part elements) (formulas parts)
  any_positive elements [] = refl
  any_positive elements (part ∷ parts) =
      ap (λ x. x || list_any (λ p. normal_truth s members p elements) (map positive_form (formulas parts)))
      (part.1.positive elements)
      ∙ ap (λ x. truth s members part.0 elements || x) (any_positive elements parts)

  any_negative : (elements : List ℕ) (parts : List Kept) →
      list_any (λ part. normal_truth s members part elements) (map negative_form (formulas parts))
      ≡ not (list_all (λ part. truth s members part elements) (formulas parts))
  any_negative elements [] = refl
  any_negative elements (part ∷ parts) =
      ap (λ x. x || list_any (λ p. normal_truth s members p elements) (map negative_form (formulas parts)))
      (part.1.negative elements)
      ∙ ap (λ x. not (truth s members part.0 elements) || x) (any_negative elements parts)
      ∙ not-and (truth s members part.0 elements) (list_all (λ p. truth s members p elements) (formulas parts))

  all_negative : (elements : List ℕ) (parts : List Kept) →
      list_all (λ part. normal_truth s members part elements) (map negative_form (formulas parts))
      ≡ not (list_any (λ part. truth s members part elements) (formulas parts))
  all_negative elements [] = refl
  all_negative elements (part ∷ parts) =
      ap (λ x. x && list_all (λ p. normal_truth s members p elements) (map negative_form (formulas parts)))
      (part.1.negative elements)
      ∙ ap (λ x. not (truth s members part.0 elements) && x) (all_negative elements parts)
      ∙ not-or (truth s members part.0 elements) (list_any (λ p. truth s members p elements) (formulas parts))

  -- two parts that hold together or not

  equal_positive : (p q : Kept) (elements : List ℕ) →
      normal_truth s members
      (both (either (negative_form p.0) (positive_form q.0)) (either (negative_form q.0) (positive_form p.0)))
      elements
      ≡ iff (truth s members p.0 elements) (truth s members q.0 elements)
  equal_positive p q elements =
      truth-both (either (negative_form p.0) (positive_form q.0)) (either (negative_form q.0) (positive_form p.0))
      elements _ _
      (truth-either (negative_form p.0) (positive_form q.0) elements _ _ (p.1.negative elements) (q.1.positive elements))
      (truth-either (negative_form q.0) (positive_form p.0) elements _ _ (q.1.negative elements) (p.1.positive elements))

  equal_negative : (p q : Kept) (elements : List ℕ) →
      normal_truth s members
      (both (either (positive_form p.0) (positive_form q.0)) (either (negative_form p.0) (negative_form q.0)))
      elements
      ≡ not (iff (truth s members p.0 elements) (truth s members q.0 elements))
  equal_negative p q elements =
      truth-both (either (positive_form p.0) (positive_form q.0)) (either (negative_form p.0) (negative_form q.0))
      elements _ _
      (truth-either (positive_form p.0) (positive_form q.0) elements _ _ (p.1.positive elements) (q.1.positive elements))
      (truth-either (negative_form p.0) (negative_form q.0) elements _ _ (p.1.negative elements) (q.1.negative elements))
      ∙ differ (truth s members p.0 elements) (truth s members q.0 elements)

  -- one layer, whose parts keep their truth
  layer_keeps : (y : Formula-F Kept) → Keeps (roll-Formula (map-Formula Kept Formula (λ part. part.0) y))
  layer_keeps layer.True =
      subst Keeps (sym formula.rolls-True)
      (with_forms formula.True _ forms-true
      (λ elements. normal_truth-true s members elements ∙ sym (truth-true s members elements))
      (λ elements. normal_truth-false s members elements ∙ ap not (sym (truth-true s members elements))))
  layer_keeps layer.False =
      subst Keeps (sym formula.rolls-False)
      (with_forms formula.False _ forms-false
      (λ elements. normal_truth-false s members elements ∙ sym (truth-false s members elements))
      (λ elements. normal_truth-true s members elements ∙ ap not (sym (truth-false s members elements))))
  layer_keeps (layer.Atom f types terms) =
      subst Keeps (sym (formula.rolls-Atom f types terms))
      (with_forms (formula.Atom f types terms) _ (forms-atom f types terms)
      (λ elements. normal_truth-atom s members true f types terms elements
      ∙ sym (truth-atom s members f types terms elements))
      (λ elements. normal_truth-atom s members false f types terms elements
      ∙ ap not (sym (truth-atom s members f types terms elements))))
  layer_keeps (layer.Equal ty left right) =
      subst Keeps (sym (formula.rolls-Equal ty left right))
      (with_forms (formula.Equal ty left right) _ (forms-equal ty left right)
      (λ elements. normal_truth-equation s members true ty left right elements
      ∙ sym (truth-equal s members ty left right elements))
      (λ elements. normal_truth-equation s members false ty left right elements
      ∙ ap not (sym (truth-equal s members ty left right elements))))
  layer_keeps (layer.Not p) =
      subst Keeps (sym (formula.rolls-Not p.0))
      (with_forms (formula.Not p.0) _ (forms-not p.0)
      (λ elements. p.1.negative elements ∙ sym (truth-not s members p.0 elements))
      (λ elements. p.1.positive elements ∙ not-not (truth s members p.0 elements)
      ∙ ap not (sym (truth-not s members p.0 elements))))
  layer_keeps (layer.And parts) =
      subst Keeps (sym (formula.rolls-And (formulas parts)))
      (with_forms (formula.And (formulas parts)) _ (forms-and (formulas parts))
      (λ elements. normal_truth-and s members (map positive_form (formulas parts)) elements
      ∙ all_positive elements parts
      ∙ sym (truth-and s members (formulas parts) elements))
      (λ elements. normal_truth-or s members (map negative_form (formulas parts)) elements
      ∙ any_negative elements parts
      ∙ ap not (sym (truth-and s members (formulas parts) elements))))
  layer_keeps (layer.Or parts) =
      subst Keeps (sym (formula.rolls-Or (formulas parts)))
      (with_forms (formula.Or (formulas parts)) _ (forms-or (formulas parts))
      (λ elements. normal_truth-or s members (map positive_form (formulas parts)) elements
      ∙ any_positive elements parts
      ∙ sym (truth-or s members (formulas parts) elements))
      (λ elements. normal_truth-and s members (map negative_form (formulas parts)) elements
      ∙ all_negative elements parts
      ∙ ap not (sym (truth-or s members (formulas parts) elements))))
  layer_keeps (layer.Implies p q) =
      subst Keeps (sym (formula.rolls-Implies p.0 q.0))
      (with_forms (formula.Implies p.0 q.0) _ (forms-implies p.0 q.0)
      (λ elements. truth-either (negative_form p.0) (positive_form q.0) elements _ _
      (p.1.negative elements) (q.1.positive elements)
      ∙ sym (truth-implies s members p.0 q.0 elements))
      (λ elements. truth-both (positive_form p.0) (negative_form q.0) elements _ _
      (p.1.positive elements) (q.1.negative elements)
      ∙ and-not (truth s members p.0 elements) (truth s members q.0 elements)
      ∙ ap not (sym (truth-implies s members p.0 q.0 elements))))
  layer_keeps (layer.If p q) =
      subst Keeps (sym (formula.rolls-If p.0 q.0))
      (with_forms (formula.If p.0 q.0) _ (forms-if p.0 q.0)
      (λ elements. truth-either (positive_form p.0) (negative_form q.0) elements _ _
      (p.1.positive elements) (q.1.negative elements)
      ∙ or-swapped (truth s members p.0 elements) (truth s members q.0 elements)
      ∙ sym (truth-if s members p.0 q.0 elements))
      (λ elements. truth-both (negative_form p.0) (positive_form q.0) elements _ _
      (p.1.negative elements) (q.1.positive elements)
      ∙ and-swapped (truth s members p.0 elements) (truth s members q.0 elements)
      ∙ ap not (sym (truth-if s members p.0 q.0 elements))))
  layer_keeps (layer.Iff p q) =
      subst Keeps (sym (formula.rolls-Iff p.0 q.0))
      (with_forms (formula.Iff p.0 q.0) _ (forms-iff p.0 q.0)
      (λ elements. equal_positive p q elements ∙ sym (truth-iff s members p.0 q.0 elements))
      (λ elements. equal_negative p q elements ∙ ap not (sym (truth-iff s members p.0 q.0 elements))))
  layer_keeps (layer.Xor p q) =
      subst Keeps (sym (formula.rolls-Xor p.0 q.0))
      (with_forms (formula.Xor p.0 q.0) _ (forms-xor p.0 q.0)
      (λ elements. equal_negative p q elements ∙ sym (truth-xor s members p.0 q.0 elements))
      (λ elements. equal_positive p q elements
      ∙ not-not (iff (truth s members p.0 elements) (truth s members q.0 elements))
      ∙ ap not (sym (truth-xor s members p.0 q.0 elements))))
  layer_keeps (layer.Nand p q) =
      subst Keeps (sym (formula.rolls-Nand p.0 q.0))
      (with_forms (formula.Nand p.0 q.0) _ (forms-nand p.0 q.0)
      (λ elements. truth-either (negative_form p.0) (negative_form q.0) elements _ _
      (p.1.negative elements) (q.1.negative elements)
      ∙ not-and (truth s members p.0 elements) (truth s members q.0 elements)
      ∙ sym (truth-nand s members p.0 q.0 elements))
      (λ elements. truth-both (positive_form p.0) (positive_form q.0) elements _ _
      (p.1.positive elements) (q.1.positive elements)
      ∙ not-not (truth s members p.0 elements && truth s members q.0 elements)
      ∙ ap not (sym (truth-nand s members p.0 q.0 elements))))
  layer_keeps (layer.Nor p q) =
      subst Keeps (sym (formula.rolls-Nor p.0 q.0))
      (with_forms (formula.Nor p.0 q.0) _ (forms-nor p.0 q.0)
      (λ elements. truth-both (negative_form p.0) (negative_form q.0) elements _ _
      (p.1.negative elements) (q.1.negative elements)
      ∙ not-or (truth s members p.0 elements) (truth s members q.0 elements)
      ∙ sym (truth-nor s members p.0 q.0 elements))
      (λ elements. truth-either (positive_form p.0) (positive_form q.0) elements _ _
      (p.1.positive elements) (q.1.positive elements)
      ∙ not-not (truth s members p.0 elements || truth s members q.0 elements)
      ∙ ap not (sym (truth-nor s members p.0 q.0 elements))))
  layer_keeps (layer.ForAll ty p) =
      let size : ℕ = size_of s (member_of s members ty) in
      subst Keeps (sym (formula.rolls-ForAll ty p.0))
      (with_forms (formula.ForAll ty p.0) _ (forms-for_all ty p.0)
      (λ elements. normal_truth-for_all s members ty (positive_form p.0) elements
      ∙ all_below-same size _ _ (λ element. p.1.positive (element ∷ elements))
      ∙ sym (truth-for_all s members ty p.0 elements))
      (λ elements. normal_truth-exists s members ty (negative_form p.0) elements
      ∙ some_below-same size _ _ (λ element. p.1.negative (element ∷ elements))
      ∙ sym (not-all_below size (λ element. truth s members p.0 (element ∷ elements)))
      ∙ ap not (sym (truth-for_all s members ty p.0 elements))))
  layer_keeps (layer.Exists ty p) =
      let size : ℕ = size_of s (member_of s members ty) in
      subst Keeps (sym (formula.rolls-Exists ty p.0))
      (with_forms (formula.Exists ty p.0) _ (forms-exists ty p.0)
      (λ elements. normal_truth-exists s members ty (positive_form p.0) elements
      ∙ some_below-same size _ _ (λ element. p.1.positive (element ∷ elements))
      ∙ sym (truth-exists s members ty p.0 elements))
      (λ elements. normal_truth-for_all s members ty (negative_form p.0) elements
      ∙ all_below-same size _ _ (λ element. p.1.negative (element ∷ elements))
      ∙ sym (not-some_below size (λ element. truth s members p.0 (element ∷ elements)))
      ∙ ap not (sym (truth-exists s members ty p.0 elements))))

  pub forms_keep : (f : Formula) → Keeps f
  forms_keep =
      ind-Formula Keeps (λ x y is. subst (λ z. Keeps (roll-Formula z)) is (layer_keeps y))
