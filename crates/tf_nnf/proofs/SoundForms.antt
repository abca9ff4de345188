-- The normal forms of a formula are well typed, and binders and equations are among their nodes.
use Rattle.std.proofs.Common.{ℕ, ◌≤◌, ◌≡◌, true, false, List, [], ◌∷◌, map, sum, sym, subst, arith}
use Rattle.std.specs.List.{sum_by, AllByRecursion}
use Rattle.std.proofs.lemmas.List.Sums.{sum_by-cons}
use Rattle.tf_core.specs.declared.ty.Ty.{Ty}
use Rattle.tf_core.specs.declared.formula.Formula.{Formula}
use Rattle.tf_core.specs.declared.formula.Formula.TheVariants as formula
use Rattle.tf_core.specs.declared.nnf.Nnf.{Nnf}
use Rattle.tf_core.specs.declared.signature.Signature.{Signature}
use Rattle.tf_core.specs.Counts.{normal_sum}
use Rattle.tf_core.specs.Typing.{IsFormula, is_true, is_false, is_atom, is_equal, is_not, is_and, is_or, is_implies, is_if, is_iff, is_xor, is_nand, is_nor, is_for_all, is_exists, AreFormulas, no_formulas, more_formulas, IsNnf, nnf_true, nnf_false, nnf_atom, nnf_equation, nnf_and, nnf_or, nnf_for_all, nnf_exists, AreNnf, no_parts, more_parts}
use Rattle.tf_core.proofs.Counts.{normal_sum-true, normal_sum-false, normal_sum-atom, normal_sum-equation, normal_sum-and, normal_sum-or, normal_sum-for_all, normal_sum-exists}
use Rattle.tf_core.proofs.FormulaInduction.{nnf_induction}
use Rattle.tf_nnf.specs.Forms.{Forms, forms, positive_form, negative_form, both, either}
use Rattle.tf_nnf.specs.Nodes.{nnf_nodes}
use Rattle.tf_nnf.proofs.Forms.{forms-true, forms-false, forms-atom, forms-equal, forms-not, forms-and, forms-or, forms-implies, forms-if, forms-iff, forms-xor, forms-nand, forms-nor, forms-for_all, forms-exists}
use Rattle.tf_nnf.proofs.NodeCounts.{nnf_nodes-equation, nnf_nodes-and, nnf_nodes-or, nnf_nodes-for_all, nnf_nodes-exists}
use Rattle.tf_nnf.proofs.TypingKept.{Extends, type-extended, atom-extended, equation-extended}

-- both forms of a formula are well typed, over a signature that extends the formula's

module _ (g h : Signature) (extends : Extends g h) (variables : ℕ) where
  pub record TypedForms (context : List Ty) (f : Formula) : Type 0 where
    pub positive : IsNnf h variables context (positive_form f)
    pub negative : IsNnf h variables context (negative_form f)

  -- both forms of each of a list of formulas
  pub record TypedLists (context : List Ty) (parts : List Formula) : Type 0 where
    pub positive : AreNnf h variables context (map positive_form parts)
    pub negative : AreNnf h variables context (map negative_form parts)

  with_forms : (context : List Ty) (f : Formula) (made : Forms) → forms f ≡ made →
      IsNnf h variables context made.positive → IsNnf h variables context made.negative →
      TypedForms context f
  with_forms context f made is here there = record {
    positive = subst (λ (x : Forms). IsNnf h variables context x.positive) (sym is) here;
    negative = subst (λ (x : Forms). IsNnf h variables context x.negative) (sym is) there;
  }

  typed-both : (context : List Ty) (p q : Nnf) → IsNnf h variables context p →
      IsNnf h variables context q → IsNnf h variables context (both p q)
  typed-both context p q left right =
      nnf_and context (p ∷ q ∷ [])
      (more_parts context p (q ∷ []) left (more_parts context q [] right (no_parts context)))

  typed-either : (context : List Ty) (p q : Nnf) → IsNnf h variables context p →
      IsNnf h variables context q → IsNnf h variables context (either p q)
  typed-either context p q left right =
      nnf_or context (p ∷ q ∷ [])
      (more_parts context p (q ∷ []) left (more_parts context q [] right (no_parts context)))

  typed-same : (context : List Ty) (a b : Formula) → TypedForms context a → TypedForms context b →
      IsNnf h variables context
      (both (either (negative_form a) (positive_form b)) (either (negative_form b) (positive_form a)))
  typed-same context a b left right =
      typed-both context
      (either (negative_form a) (positive_form b)) (either (negative_form b) (positive_form a))
      (typed-either context (negative_form a) (positive_form b) left.negative right.positive)
      (typed-either context (negative_form b) (positive_form a) right.negative left.positive)

  typed-different : (context : List Ty) (a b : Formula) → TypedForms context a →
      TypedForms context b → IsNnf h variables context
      (both (either (positive_form a) (positive_form b)) (either (negative_form a) (negative_form b)))
  typed-different context a b left right =
      typed-both context
      (either (positive_form a) (positive_form b)) (either (negative_form a) (negative_form b))
      (typed-either context (positive_form a) (positive_form b) left.positive right.positive)
      (typed-either context (negative_form a) (negative_form b) left.negative right.negative)

  mutual
    pub forms-typed : (context : List Ty) (f : Formula) → IsFormula g variables context f →
        TypedForms context f
    forms-typed context f (is_true c) =
        with_forms context formula.True _ forms-true (nnf_true context) (nnf_false context)
    forms-typed context f (is_false c) =
        with_forms context formula.False _ forms-false (nnf_false context) (nnf_true context)
    forms-typed context f (is_atom c symbol_number symbol types terms atom) =
        let there = atom-extended g h extends variables context symbol_number symbol types terms atom in
        with_forms context (formula.Atom symbol_number types terms) _
        (forms-atom symbol_number types terms)
        (nnf_atom context true symbol_number symbol types terms there)
        (nnf_atom context false symbol_number symbol types terms there)
    forms-typed context f (is_equal c ty left right equation) =
        let there = equation-extended g h extends variables context ty left right equation in
        with_forms context (formula.Equal ty left right) _ (forms-equal ty left right)
        (nnf_equation context true ty left right there)
        (nnf_equation context false ty left right there)
    forms-typed context f (is_not c a typed) =
        let inner = forms-typed context a typed in
        with_forms context (formula.Not a) _ (forms-not a) inner.negative inner.positive
    forms-typed context f (is_and c parts typed) =
        let inner = lists-typed context parts typed in
        with_forms context (formula.And parts) _ (forms-and parts)
        (nnf_and context (map positive_form parts) inner.positive)
        (nnf_or context (map negative_form parts) inner.negative)
    forms-typed context f (is_or c parts typed) =
        let inner = lists-typed context parts typed in
        with_forms context (formula.Or parts) _ (forms-or parts)
        (nnf_or context (map positive_form parts) inner.positive)
        (nnf_and context (map negative_form parts) inner.negative)
    forms-typed context f (is_implies c a b left right) =
        let first = forms-typed context a left in
        let second = forms-typed context b right in
        with_forms context (formula.Implies a b) _ (forms-implies a b)
        (typed-either context (negative_form a) (positive_form b) first.negative second.positive)
        (typed-both context (positive_form a) (negative_form b) first.positive second.negative)
    forms-typed context f (is_if c a b left right) =
        let first = forms-typed context a left in
        let second = forms-typed context b right in
        with_forms context (formula.If a b) _ (forms-if a b)
        (typed-either context (positive_form a) (negative_form b) first.positive second.negative)
        (typed-both context (negative_form a) (positive_form b) first.negative second.positive)
    forms-typed context f (is_iff c a b left right) =
        let first = forms-typed context a left in
        let second = forms-typed context b right in
        with_forms context (formula.Iff a b) _ (forms-iff a b)
        (typed-same context a b first second) (typed-different context a b first second)
    forms-typed context f (is_xor c a b left right) =
        let first = forms-typed context a left in
        let second = forms-typed context b right in
        with_forms context (formula.Xor a b) _ (forms-xor a b)
        (typed-different context a b first second) (typed-same context a b first second)
    forms-typed context f (is_nand c a b left right) =
        let first = forms-typed context a left in
        let second = forms-typed context b right in
        with_forms context (formula.Nand a b) _ (forms-nand a b)
        (typed-either context (negative_form a) (negative_form b) first.negative second.negative)
        (typed-both context (positive_form a) (positive_form b) first.positive second.positive)
    forms-typed context f (is_nor c a b left right) =
        let first = forms-typed context a left in
        let second = forms-typed context b right in
        with_forms context (formula.Nor a b) _ (forms-nor a b)
        (typed-both context (negative_form a) (negative_form b) first.negative second.negative)
        (typed-either context (positive_form a) (positive_form b) first.positive second.positive)
    forms-typed context f (is_for_all c ty body formed typed) =
        let inner = forms-typed (ty ∷ context) body typed in
        let there = type-extended g h extends variables ty formed in
        with_forms context (formula.ForAll ty body) _ (forms-for_all ty body)
        (nnf_for_all context ty (positive_form body) there inner.positive)
        (nnf_exists context ty (negative_form body) there inner.negative)
    forms-typed context f (is_exists c ty body formed typed) =
        let inner = forms-typed (ty ∷ context) body typed in
        let there = type-extended g h extends variables ty formed in
        with_forms context (formula.Exists ty body) _ (forms-exists ty body)
        (nnf_exists context ty (positive_form body) there inner.positive)
        (nnf_for_all context ty (negative_form body) there inner.negative)

    pub lists-typed : (context : List Ty) (parts : List Formula) →
        AreFormulas g variables context parts → TypedLists context parts
    lists-typed context parts (no_formulas c) = record {
      positive = no_parts context;
      negative = no_parts context;
    }
    lists-typed context parts (more_formulas c part others typed typed_others) =
        let inner = forms-typed context part typed in
        let rest = lists-typed context others typed_others in
        record {
          positive = more_parts context (positive_form part) (map positive_form others)
              inner.positive rest.positive;
          negative = more_parts context (negative_form part) (map negative_form others)
              inner.negative rest.negative;
        }

-- binders and equations are nodes

module _ (binder equation : ℕ) (one_binder : binder ≤ 1) (one_equation : equation ≤ 1) where
  abbrev Within : Nnf → Type 0
  Within p = normal_sum binder equation p ≤ nnf_nodes p

  sums_within : (parts : List Nnf) → AllByRecursion Within parts →
      sum (map (normal_sum binder equation) parts) ≤ sum_by nnf_nodes parts
  sums_within [] within = omega arith
  sums_within (part ∷ parts) within =
      omega (
        arith,
        within.0,
        sums_within parts within.1,
        sum_by-cons (λ (n : ℕ). n) (normal_sum binder equation part)
            (map (normal_sum binder equation) parts),
        sum_by-cons nnf_nodes part parts,
      )

  pub normal_sum_within : (p : Nnf) → normal_sum binder equation p ≤ nnf_nodes p
  normal_sum_within = nnf_induction Within (record {
    on_true = omega (arith, normal_sum-true binder equation);
    on_false = omega (arith, normal_sum-false binder equation);
    on_atom = λ positive f types terms.
        omega (arith, normal_sum-atom binder equation positive f types terms);
    on_equation = λ positive ty left right.
        omega (
          arith,
          one_equation,
          normal_sum-equation binder equation positive ty left right,
          nnf_nodes-equation positive ty left right,
        );
    on_and = λ parts within.
        omega (
          arith,
          sums_within parts within,
          normal_sum-and binder equation parts,
          nnf_nodes-and parts,
        );
    on_or = λ parts within.
        omega (
          arith,
          sums_within parts within,
          normal_sum-or binder equation parts,
          nnf_nodes-or parts,
        );
    on_for_all = λ ty body within.
        omega (
          arith,
          one_binder,
          within,
          normal_sum-for_all binder equation ty body,
          nnf_nodes-for_all ty body,
        );
    on_exists = λ ty body within.
        omega (
          arith,
          one_binder,
          within,
          normal_sum-exists binder equation ty body,
          nnf_nodes-exists ty body,
        );
  })
