-- The typing relation of formulas and its test say the same.
use Rattle.std.specs.Prelude.{ℕ, List, [], ◌∷◌, IsTrue}
use Rattle.std.specs.List.{AllByRecursion, list_all}
use Rattle.std.proofs.Common.{refl, sym, ◌∙◌}
use Rattle.std.proofs.lemmas.Bool.{and_parts, and_from}
use Rattle.tf_core.specs.declared.ty.Ty.{Ty}
use Rattle.tf_core.specs.declared.formula.Formula.{Formula}
use Rattle.tf_core.specs.declared.signature.Signature.{Signature}
use Rattle.tf_core.specs.Typing.{IsFormula, AreFormulas, is_true, is_false, is_atom, is_equal, is_not, is_and, is_or, is_implies, is_if, is_iff, is_xor, is_nand, is_nor, is_for_all, is_exists, no_formulas, more_formulas}
use Rattle.tf_core.specs.TypingTests.{is_type, is_formula}
use Rattle.tf_core.proofs.TypingTests.{is_formula-true, is_formula-false, is_formula-atom, is_formula-equal, is_formula-not, is_formula-and, is_formula-or, is_formula-implies, is_formula-if, is_formula-iff, is_formula-xor, is_formula-nand, is_formula-nor, is_formula-for_all, is_formula-exists}
use Rattle.tf_core.proofs.FormulaInduction.{FormulaCases, formula_induction}
use Rattle.tf_core.proofs.Typed.{IsType-from, is_type-from}
use Rattle.tf_core.proofs.TypedTerms.{IsAtom-from, is_atom_test-from, equation_says}

module _ (g : Signature) (variables : ℕ) where
  abbrev IsFormulaFrom : Formula → Type 0
  IsFormulaFrom p = (context : List Ty) → IsTrue (is_formula g variables p context) → IsFormula g variables context p

  is_formula-parts : (parts : List Formula) → AllByRecursion IsFormulaFrom parts → (context : List Ty) →
      IsTrue (list_all (λ part. is_formula g variables part context) parts) →
      AreFormulas g variables context parts
  is_formula-parts [] each context holds = no_formulas context
  is_formula-parts (part ∷ parts) each context holds =
      let both = and_parts (is_formula g variables part context)
      (list_all (λ x. is_formula g variables x context) parts) holds in
      more_formulas context part parts (each.0 context both.0)
      (is_formula-parts parts each.1 context both.1)

  cases : FormulaCases IsFormulaFrom
  cases = record {
    on_true = λ context holds. is_true context;
    on_false = λ context holds. is_false context;
    on_atom = λ f types terms context holds.
        let atom = IsAtom-from g variables context f types terms
        (sym (is_formula-atom g variables f types terms context) ∙ holds) in
        is_atom context f atom.0 types terms atom.1;
    on_equal = λ ty left right context holds.
        is_equal context ty left right
        ((equation_says g variables context ty left right).0
        (sym (is_formula-equal g variables ty left right context) ∙ holds));
    on_not = λ a from context holds.
        is_not context a (from context (sym (is_formula-not g variables a context) ∙ holds));
    on_and = λ parts each context holds.
        is_and context parts (is_formula-parts parts each context
        (sym (is_formula-and g variables parts context) ∙ holds));
    on_or = λ parts each context holds.
        is_or context parts (is_formula-parts parts each context
        (sym (is_formula-or g variables parts context) ∙ holds));
    on_implies = λ a b first second context holds.
        let both = and_parts (is_formula g variables a context) (is_formula g variables b context)
        (sym (is_formula-implies g variables a b context) ∙ holds) in
        is_implies context a b (first context both.0) (second context both.1);
    on_if = λ a b first second context holds.
        let both = and_parts (is_formula g variables a context) (is_formula g variables b context)
        (sym (is_formula-if g variables a b context) ∙ holds) in
        is_if context a b (first context both.0) (second context both.1);
    on_iff = λ a b first second context holds.
        let both = and_parts (is_formula g variables a context) (is_formula g variables b context)
        (sym (is_formula-iff g variables a b context) ∙ holds) in
        is_iff context a b (first context both.0) (second context both.1);
    on_xor = λ a b first second context holds.
        let both = and_parts (is_formula g variables a context) (is_formula g variables b context)
        (sym (is_formula-xor g variables a b context) ∙ holds) in
        is_xor context a b (first context both.0) (second context both.1);
    on_nand = λ a b first second context holds.
        let both = and_parts (is_formula g variables a context) (is_formula g variables b context)
        (sym (is_formula-nand g variables a b context) ∙ holds) in
        is_nand context a b (first context both.0) (second context both.1);
    on_nor = λ a b first second context holds.
        let both = and_parts (is_formula g variables a context) (is_formula g variables b context)
        (sym (is_formula-nor g variables a b context) ∙ holds) in
        is_nor context a b (first context both.0) (second context both.1);
    on_for_all = λ ty body from context holds.
        let both = and_parts (is_type g variables ty) (is_formula g variables body (ty ∷ context))
        (sym (is_formula-for_all g variables ty body context) ∙ holds) in
        is_for_all context ty body (IsType-from g variables ty both.0) (from (ty ∷ context) both.1);
    on_exists = λ ty body from context holds.
        let both = and_parts (is_type g variables ty) (is_formula g variables body (ty ∷ context))
        (sym (is_formula-exists g variables ty body context) ∙ holds) in
        is_exists context ty body (IsType-from g variables ty both.0) (from (ty ∷ context) both.1);
  }

  pub IsFormula-from : (p : Formula) → IsFormulaFrom p
  IsFormula-from = formula_induction IsFormulaFrom cases

  mutual
    pub is_formula-from : (context : List Ty) (p : Formula) → IsFormula g variables context p →
        IsTrue (is_formula g variables p context)
    is_formula-from context p (is_true c) = is_formula-true g variables context
    is_formula-from context p (is_false c) = is_formula-false g variables context
    is_formula-from context p (is_atom c f symbol types terms atom) =
        is_formula-atom g variables f types terms context
        ∙ is_atom_test-from g variables context f symbol types terms atom
    is_formula-from context p (is_equal c ty left right equation) =
        is_formula-equal g variables ty left right context
        ∙ (equation_says g variables context ty left right).1 equation
    is_formula-from context p (is_not c a typed) =
        is_formula-not g variables a context ∙ is_formula-from context a typed
    is_formula-from context p (is_and c parts typed) =
        is_formula-and g variables parts context ∙ is_formula-each context parts typed
    is_formula-from context p (is_or c parts typed) =
        is_formula-or g variables parts context ∙ is_formula-each context parts typed
    is_formula-from context p (is_implies c a b first second) =
        is_formula-implies g variables a b context
        ∙ and_from (is_formula g variables a context) (is_formula g variables b context)
        (is_formula-from context a first) (is_formula-from context b second)
    is_formula-from context p (is_if c a b first second) =
        is_formula-if g variables a b context
        ∙ and_from (is_formula g variables a context) (is_formula g variables b context)
        (is_formula-from context a first) (is_formula-from context b second)
    is_formula-from context p (is_iff c a b first second) =
        is_formula-iff g variables a b context
        ∙ and_from (is_formula g variables a context) (is_formula g variables b context)
        (is_formula-from context a first) (is_formula-from context b second)
    is_formula-from context p (is_xor c a b first second) =
        is_formula-xor g variables a b context
        ∙ and_from (is_formula g variables a context) (is_formula g variables b context)
        (is_formula-from context a first) (is_formula-from context b second)
    is_formula-from context p (is_nand c a b first second) =
        is_formula-nand g variables a b context
        ∙ and_from (is_formula g variables a context) (is_formula g variables b context)
        (is_formula-from context a first) (is_formula-from context b second)
    is_formula-from context p (is_nor c a b first second) =
        is_formula-nor g variables a b context
        ∙ and_from (is_formula g variables a context) (is_formula g variables b context)
        (is_formula-from context a first) (is_formula-from context b second)
    is_formula-from context p (is_for_all c ty body formed typed) =
        is_formula-for_all g variables ty body context
        ∙ and_from (is_type g variables ty) (is_formula g variables body (ty ∷ context))
        (is_type-from g variables ty formed) (is_formula-from (ty ∷ context) body typed)
    is_formula-from context p (is_exists c ty body formed typed) =
        is_formula-exists g variables ty body context
        ∙ and_from (is_type g variables ty) (is_formula g variables body (ty ∷ context))
        (is_type-from g variables ty formed) (is_formula-from (ty ∷ context) body typed)

    is_formula-each : (context : List Ty) (parts : List Formula) → AreFormulas g variables context parts →
        IsTrue (list_all (λ part. is_formula g variables part context) parts)
    is_formula-each context parts (no_formulas c) = refl
    is_formula-each context parts (more_formulas c part others typed rest) =
        and_from (is_formula g variables part context)
        (list_all (λ x. is_formula g variables x context) others)
        (is_formula-from context part typed) (is_formula-each context others rest)
