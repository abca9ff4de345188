-- The typing relation of formulas in negation normal form and its test say the same.
use Rattle.std.specs.Prelude.{ℕ, List, [], ◌∷◌, IsTrue}
use Rattle.std.specs.List.{AllByRecursion, list_all}
use Rattle.std.proofs.Common.{refl, sym, ◌∙◌}
use Rattle.std.proofs.lemmas.Bool.{and_parts, and_from}
use Rattle.tf_core.specs.declared.ty.Ty.{Ty}
use Rattle.tf_core.specs.declared.nnf.Nnf.{Nnf}
use Rattle.tf_core.specs.declared.signature.Signature.{Signature}
use Rattle.tf_core.specs.Typing.{IsNnf, AreNnf, nnf_true, nnf_false, nnf_atom, nnf_equation, nnf_and, nnf_or, nnf_for_all, nnf_exists, no_parts, more_parts}
use Rattle.tf_core.specs.TypingTests.{is_type, is_nnf}
use Rattle.tf_core.proofs.TypingTests.{is_nnf-true, is_nnf-false, is_nnf-atom, is_nnf-equation, is_nnf-and, is_nnf-or, is_nnf-for_all, is_nnf-exists}
use Rattle.tf_core.proofs.FormulaInduction.{NnfCases, nnf_induction}
use Rattle.tf_core.proofs.Typed.{IsType-from, is_type-from}
use Rattle.tf_core.proofs.TypedTerms.{IsAtom-from, is_atom_test-from, equation_says}

module _ (g : Signature) (variables : ℕ) where
  abbrev IsNnfFrom : Nnf → Type 0
  IsNnfFrom p = (context : List Ty) → IsTrue (is_nnf g variables p context) → IsNnf g variables context p

  is_nnf-parts : (parts : List Nnf) → AllByRecursion IsNnfFrom parts → (context : List Ty) →
      IsTrue (list_all (λ part. is_nnf g variables part context) parts) →
      AreNnf g variables context parts
  is_nnf-parts [] each context holds = no_parts context
  is_nnf-parts (part ∷ parts) each context holds =
      let both = and_parts (is_nnf g variables part context)
      (list_all (λ x. is_nnf g variables x context) parts) holds in
      more_parts context part parts (each.0 context both.0)
      (is_nnf-parts parts each.1 context both.1)

  cases : NnfCases IsNnfFrom
  cases = record {
    on_true = λ context holds. nnf_true context;
    on_false = λ context holds. nnf_false context;
    on_atom = λ positive f types terms context holds.
        let atom = IsAtom-from g variables context f types terms
        (sym (is_nnf-atom g variables positive f types terms context) ∙ holds) in
        nnf_atom context positive f atom.0 types terms atom.1;
    on_equation = λ positive ty left right context holds.
        nnf_equation context positive ty left right
        ((equation_says g variables context ty left right).0
        (sym (is_nnf-equation g variables positive ty left right context) ∙ holds));
    on_and = λ parts each context holds.
        nnf_and context parts (is_nnf-parts parts each context
        (sym (is_nnf-and g variables parts context) ∙ holds));
    on_or = λ parts each context holds.
        nnf_or context parts (is_nnf-parts parts each context
        (sym (is_nnf-or g variables parts context) ∙ holds));
    on_for_all = λ ty body from context holds.
        let both = and_parts (is_type g variables ty) (is_nnf g variables body (ty ∷ context))
        (sym (is_nnf-for_all g variables ty body context) ∙ holds) in
        nnf_for_all context ty body (IsType-from g variables ty both.0) (from (ty ∷ context) both.1);
    on_exists = λ ty body from context holds.
        let both = and_parts (is_type g variables ty) (is_nnf g variables body (ty ∷ context))
        (sym (is_nnf-exists g variables ty body context) ∙ holds) in
        nnf_exists context ty body (IsType-from g variables ty both.0) (from (ty ∷ context) both.1);
  }

  pub IsNnf-from : (p : Nnf) → IsNnfFrom p
  IsNnf-from = nnf_induction IsNnfFrom cases

  mutual
    pub is_nnf-from : (context : List Ty) (p : Nnf) → IsNnf g variables context p →
        IsTrue (is_nnf g variables p context)
    is_nnf-from context p (nnf_true c) = is_nnf-true g variables context
    is_nnf-from context p (nnf_false c) = is_nnf-false g variables context
    is_nnf-from context p (nnf_atom c positive f symbol types terms atom) =
        is_nnf-atom g variables positive f types terms context
        ∙ is_atom_test-from g variables context f symbol types terms atom
    is_nnf-from context p (nnf_equation c positive ty left right equation) =
        is_nnf-equation g variables positive ty left right context
        ∙ (equation_says g variables context ty left right).1 equation
    is_nnf-from context p (nnf_and c parts typed) =
        is_nnf-and g variables parts context ∙ is_nnf-each context parts typed
    is_nnf-from context p (nnf_or c parts typed) =
        is_nnf-or g variables parts context ∙ is_nnf-each context parts typed
    is_nnf-from context p (nnf_for_all c ty body formed typed) =
        is_nnf-for_all g variables ty body context
        ∙ and_from (is_type g variables ty) (is_nnf g variables body (ty ∷ context))
        (is_type-from g variables ty formed) (is_nnf-from (ty ∷ context) body typed)
    is_nnf-from context p (nnf_exists c ty body formed typed) =
        is_nnf-exists g variables ty body context
        ∙ and_from (is_type g variables ty) (is_nnf g variables body (ty ∷ context))
        (is_type-from g variables ty formed) (is_nnf-from (ty ∷ context) body typed)

    is_nnf-each : (context : List Ty) (parts : List Nnf) → AreNnf g variables context parts →
        IsTrue (list_all (λ part. is_nnf g variables part context) parts)
    is_nnf-each context parts (no_parts c) = refl
    is_nnf-each context parts (more_parts c part others typed rest) =
        and_from (is_nnf g variables part context)
        (list_all (λ x. is_nnf g variables x context) others)
        (is_nnf-from context part typed) (is_nnf-each context others rest)
