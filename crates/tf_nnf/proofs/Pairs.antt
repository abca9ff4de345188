-- Lists of at least two parts: the equations, and that normal forms and replaced types keep them.
use Rattle.std.proofs.Common.{ℕ, ◌≡◌, Bool, true, false, List, [], ◌∷◌, map, length, sym, ap, ◌∙◌, refl}
use Rattle.std.specs.Prelude.{◌&&◌, leb, IsTrue}
use Rattle.std.specs.List.{list_all, AllByRecursion}
use Rattle.std.proofs.lemmas.Bool.{and_parts, and_from}
use Rattle.std.proofs.lemmas.List.{length-map}
use Rattle.std.proofs.lemmas.List.Folds.{list_all-map}
use Rattle.tf_core.specs.declared.ty.Ty.{Ty}
use Rattle.tf_core.specs.declared.term.Term.{Term}
use Rattle.tf_core.specs.declared.formula.Formula.{Formula}
use Rattle.tf_core.specs.declared.formula.Formula.TheVariants as formula
use Rattle.tf_core.specs.declared.formula.Formula.TheOpen as layer
use Rattle.tf_core.specs.declared.formula.Formula.TheFolds.{fold-roll-Formula}
use Rattle.tf_core.specs.declared.nnf.Nnf.{Nnf}
use Rattle.tf_core.specs.declared.nnf.Nnf.TheVariants as nnf
use Rattle.tf_core.specs.declared.nnf.Nnf.TheOpen as nnf_layer
use Rattle.tf_core.specs.declared.nnf.Nnf.TheFolds.{fold-roll-Nnf}
use Rattle.tf_core.specs.Counts.{has_pairs, has_pairs_step, normal_has_pairs, normal_has_pairs_step}
use Rattle.tf_core.specs.Substitution.{substitute_types}
use Rattle.tf_core.proofs.FormulaInduction.{FormulaCases, formula_induction, nnf_induction}
use Rattle.tf_nnf.specs.Forms.{Forms, forms, positive_form, negative_form, both, either}
use Rattle.tf_nnf.proofs.Forms.{forms-true, forms-false, forms-atom, forms-equal, forms-not, forms-and, forms-or, forms-implies, forms-if, forms-iff, forms-xor, forms-nand, forms-nor, forms-for_all, forms-exists}
use Rattle.tf_nnf.proofs.Substitution.{substitute_types-true, substitute_types-false, substitute_types-atom, substitute_types-equation, substitute_types-and, substitute_types-or, substitute_types-for_all, substitute_types-exists}

-- each of a list, of which there are two
listed : {A : Type 0} (test : A → Bool) (parts : List A) →
    (leb 2 (length (map test parts)) && list_all (λ (b : Bool). b) (map test parts))
    ≡ (leb 2 (length parts) && list_all test parts)
listed test parts =
    ap (λ n. leb 2 n && list_all (λ (b : Bool). b) (map test parts)) (length-map parts test)
    ∙ ap (λ b. leb 2 (length parts) && b) (list_all-map (λ (b : Bool). b) test parts)

pub has_pairs-true : has_pairs formula.True ≡ true
unfolding has_pairs
has_pairs-true =
    ap has_pairs (sym formula.rolls-True)
    ∙ fold-roll-Formula Bool has_pairs_step layer.True

pub has_pairs-false : has_pairs formula.False ≡ true
unfolding has_pairs
has_pairs-false =
    ap has_pairs (sym formula.rolls-False)
    ∙ fold-roll-Formula Bool has_pairs_step layer.False

pub has_pairs-atom : (f : ℕ) (types : List Ty) (terms : List Term) →
    has_pairs (formula.Atom f types terms) ≡ true
unfolding has_pairs
has_pairs-atom f types terms =
    ap has_pairs (sym (formula.rolls-Atom f types terms))
    ∙ fold-roll-Formula Bool has_pairs_step (layer.Atom f types terms)

pub has_pairs-equal : (ty : Ty) (left right : Term) → has_pairs (formula.Equal ty left right) ≡ true
unfolding has_pairs
has_pairs-equal ty left right =
    ap has_pairs (sym (formula.rolls-Equal ty left right))
    ∙ fold-roll-Formula Bool has_pairs_step (layer.Equal ty left right)

pub has_pairs-not : (a : Formula) → has_pairs (formula.Not a) ≡ has_pairs a
unfolding has_pairs
has_pairs-not a =
    ap has_pairs (sym (formula.rolls-Not a))
    ∙ fold-roll-Formula Bool has_pairs_step (layer.Not a)

pub has_pairs-and : (parts : List Formula) →
    has_pairs (formula.And parts) ≡ (leb 2 (length parts) && list_all has_pairs parts)
unfolding has_pairs
has_pairs-and parts =
    ap has_pairs (sym (formula.rolls-And parts))
    ∙ fold-roll-Formula Bool has_pairs_step (layer.And parts)
    ∙ listed has_pairs parts

pub has_pairs-or : (parts : List Formula) →
    has_pairs (formula.Or parts) ≡ (leb 2 (length parts) && list_all has_pairs parts)
unfolding has_pairs
has_pairs-or parts =
    ap has_pairs (sym (formula.rolls-Or parts))
    ∙ fold-roll-Formula Bool has_pairs_step (layer.Or parts)
    ∙ listed has_pairs parts

pub has_pairs-implies : (a b : Formula) →
    has_pairs (formula.Implies a b) ≡ (has_pairs a && has_pairs b)
unfolding has_pairs
has_pairs-implies a b =
    ap has_pairs (sym (formula.rolls-Implies a b))
    ∙ fold-roll-Formula Bool has_pairs_step (layer.Implies a b)

pub has_pairs-if : (a b : Formula) → has_pairs (formula.If a b) ≡ (has_pairs a && has_pairs b)
unfolding has_pairs
has_pairs-if a b =
    ap has_pairs (sym (formula.rolls-If a b))
    ∙ fold-roll-Formula Bool has_pairs_step (layer.If a b)

pub has_pairs-iff : (a b : Formula) → has_pairs (formula.Iff a b) ≡ (has_pairs a && has_pairs b)
unfolding has_pairs
has_pairs-iff a b =
    ap has_pairs (sym (formula.rolls-Iff a b))
    ∙ fold-roll-Formula Bool has_pairs_step (layer.Iff a b)

pub has_pairs-xor : (a b : Formula) → has_pairs (formula.Xor a b) ≡ (has_pairs a && has_pairs b)
unfolding has_pairs
has_pairs-xor a b =
    ap has_pairs (sym (formula.rolls-Xor a b))
    ∙ fold-roll-Formula Bool has_pairs_step (layer.Xor a b)

pub has_pairs-nand : (a b : Formula) → has_pairs (formula.Nand a b) ≡ (has_pairs a && has_pairs b)
unfolding has_pairs
has_pairs-nand a b =
    ap has_pairs (sym (formula.rolls-Nand a b))
    ∙ fold-roll-Formula Bool has_pairs_step (layer.Nand a b)

pub has_pairs-nor : (a b : Formula) → has_pairs (formula.Nor a b) ≡ (has_pairs a && has_pairs b)
unfolding has_pairs
has_pairs-nor a b =
    ap has_pairs (sym (formula.rolls-Nor a b))
    ∙ fold-roll-Formula Bool has_pairs_step (layer.Nor a b)

pub has_pairs-for_all : (ty : Ty) (body : Formula) →
    has_pairs (formula.ForAll ty body) ≡ has_pairs body
unfolding has_pairs
has_pairs-for_all ty body =
    ap has_pairs (sym (formula.rolls-ForAll ty body))
    ∙ fold-roll-Formula Bool has_pairs_step (layer.ForAll ty body)

pub has_pairs-exists : (ty : Ty) (body : Formula) →
    has_pairs (formula.Exists ty body) ≡ has_pairs body
unfolding has_pairs
has_pairs-exists ty body =
    ap has_pairs (sym (formula.rolls-Exists ty body))
    ∙ fold-roll-Formula Bool has_pairs_step (layer.Exists ty body)

pub normal_has_pairs-true : normal_has_pairs nnf.True ≡ true
unfolding normal_has_pairs
normal_has_pairs-true =
    ap normal_has_pairs (sym nnf.rolls-True)
    ∙ fold-roll-Nnf Bool normal_has_pairs_step nnf_layer.True

pub normal_has_pairs-false : normal_has_pairs nnf.False ≡ true
unfolding normal_has_pairs
normal_has_pairs-false =
    ap normal_has_pairs (sym nnf.rolls-False)
    ∙ fold-roll-Nnf Bool normal_has_pairs_step nnf_layer.False

pub normal_has_pairs-atom : (positive : Bool) (f : ℕ) (types : List Ty) (terms : List Term) →
    normal_has_pairs (nnf.Atom positive f types terms) ≡ true
unfolding normal_has_pairs
normal_has_pairs-atom positive f types terms =
    ap normal_has_pairs (sym (nnf.rolls-Atom positive f types terms))
    ∙ fold-roll-Nnf Bool normal_has_pairs_step (nnf_layer.Atom positive f types terms)

pub normal_has_pairs-equation : (positive : Bool) (ty : Ty) (left right : Term) →
    normal_has_pairs (nnf.Equation positive ty left right) ≡ true
unfolding normal_has_pairs
normal_has_pairs-equation positive ty left right =
    ap normal_has_pairs (sym (nnf.rolls-Equation positive ty left right))
    ∙ fold-roll-Nnf Bool normal_has_pairs_step (nnf_layer.Equation positive ty left right)

pub normal_has_pairs-and : (parts : List Nnf) →
    normal_has_pairs (nnf.And parts) ≡ (leb 2 (length parts) && list_all normal_has_pairs parts)
unfolding normal_has_pairs
normal_has_pairs-and parts =
    ap normal_has_pairs (sym (nnf.rolls-And parts))
    ∙ fold-roll-Nnf Bool normal_has_pairs_step (nnf_layer.And parts)
    ∙ listed normal_has_pairs parts

pub normal_has_pairs-or : (parts : List Nnf) →
    normal_has_pairs (nnf.Or parts) ≡ (leb 2 (length parts) && list_all normal_has_pairs parts)
unfolding normal_has_pairs
normal_has_pairs-or parts =
    ap normal_has_pairs (sym (nnf.rolls-Or parts))
    ∙ fold-roll-Nnf Bool normal_has_pairs_step (nnf_layer.Or parts)
    ∙ listed normal_has_pairs parts

pub normal_has_pairs-for_all : (ty : Ty) (body : Nnf) →
    normal_has_pairs (nnf.ForAll ty body) ≡ normal_has_pairs body
unfolding normal_has_pairs
normal_has_pairs-for_all ty body =
    ap normal_has_pairs (sym (nnf.rolls-ForAll ty body))
    ∙ fold-roll-Nnf Bool normal_has_pairs_step (nnf_layer.ForAll ty body)

pub normal_has_pairs-exists : (ty : Ty) (body : Nnf) →
    normal_has_pairs (nnf.Exists ty body) ≡ normal_has_pairs body
unfolding normal_has_pairs
normal_has_pairs-exists ty body =
    ap normal_has_pairs (sym (nnf.rolls-Exists ty body))
    ∙ fold-roll-Nnf Bool normal_has_pairs_step (nnf_layer.Exists ty body)

-- replaced types

parts_substituted : (instances : List Ty) (parts : List Nnf) →
    AllByRecursion (λ p. normal_has_pairs (substitute_types instances p) ≡ normal_has_pairs p) parts →
    (leb 2 (length (map (substitute_types instances) parts))
    && list_all normal_has_pairs (map (substitute_types instances) parts))
    ≡ (leb 2 (length parts) && list_all normal_has_pairs parts)
parts_substituted instances parts same =
    ap (λ n. leb 2 n && list_all normal_has_pairs (map (substitute_types instances) parts))
    (length-map parts (substitute_types instances))
    ∙ ap (λ b. leb 2 (length parts) && b) (each parts same)
  where
    each : (parts : List Nnf) →
        AllByRecursion (λ p. normal_has_pairs (substitute_types instances p) ≡ normal_has_pairs p) parts →
        list_all normal_has_pairs (map (substitute_types instances) parts)
        ≡ list_all normal_has_pairs parts
    each [] same = refl
    each (part ∷ parts) same =
        ap (λ b. b && list_all normal_has_pairs (map (substitute_types instances) parts)) same.0
        ∙ ap (λ b. normal_has_pairs part && b) (each parts same.1)

pub pairs-substitute_types : (instances : List Ty) (p : Nnf) →
    normal_has_pairs (substitute_types instances p) ≡ normal_has_pairs p
pairs-substitute_types instances =
    nnf_induction (λ p. normal_has_pairs (substitute_types instances p) ≡ normal_has_pairs p)
    (record {
      on_true = ap normal_has_pairs (substitute_types-true instances);
      on_false = ap normal_has_pairs (substitute_types-false instances);
      on_atom = λ positive f types terms.
          ap normal_has_pairs (substitute_types-atom instances positive f types terms)
          ∙ normal_has_pairs-atom positive f _ _
          ∙ sym (normal_has_pairs-atom positive f types terms);
      on_equation = λ positive ty left right.
          ap normal_has_pairs (substitute_types-equation instances positive ty left right)
          ∙ normal_has_pairs-equation positive _ _ _
          ∙ sym (normal_has_pairs-equation positive ty left right);
      on_and = λ parts same.
          ap normal_has_pairs (substitute_types-and instances parts)
          ∙ normal_has_pairs-and (map (substitute_types instances) parts)
          ∙ parts_substituted instances parts same
          ∙ sym (normal_has_pairs-and parts);
      on_or = λ parts same.
          ap normal_has_pairs (substitute_types-or instances parts)
          ∙ normal_has_pairs-or (map (substitute_types instances) parts)
          ∙ parts_substituted instances parts same
          ∙ sym (normal_has_pairs-or parts);
      on_for_all = λ ty body same.
          ap normal_has_pairs (substitute_types-for_all instances ty body)
          ∙ normal_has_pairs-for_all _ (substitute_types instances body)
          ∙ same
          ∙ sym (normal_has_pairs-for_all ty body);
      on_exists = λ ty body same.
          ap normal_has_pairs (substitute_types-exists instances ty body)
          ∙ normal_has_pairs-exists _ (substitute_types instances body)
          ∙ same
          ∙ sym (normal_has_pairs-exists ty body);
    })

-- normal forms

-- both forms of a formula have pairs
pub record FormsHavePairs (f : Formula) : Type 0 where
  pub positive : IsTrue (normal_has_pairs (positive_form f))
  pub negative : IsTrue (normal_has_pairs (negative_form f))

with_forms : (f : Formula) (made : Forms) → forms f ≡ made →
    IsTrue (normal_has_pairs made.positive) → IsTrue (normal_has_pairs made.negative) →
    FormsHavePairs f
with_forms f made is here there = record {
  positive = ap (λ (x : Forms). normal_has_pairs x.positive) is ∙ here;
  negative = ap (λ (x : Forms). normal_has_pairs x.negative) is ∙ there;
}

pair : (p q : Nnf) → IsTrue (normal_has_pairs p) → IsTrue (normal_has_pairs q) →
    IsTrue (leb 2 (length (p ∷ q ∷ [])) && list_all normal_has_pairs (p ∷ q ∷ []))
pair p q left right =
    ap (λ b. b && (normal_has_pairs q && true)) left ∙ ap (λ b. b && true) right

pairs-both : (p q : Nnf) → IsTrue (normal_has_pairs p) → IsTrue (normal_has_pairs q) →
    IsTrue (normal_has_pairs (both p q))
pairs-both p q left right = normal_has_pairs-and (p ∷ q ∷ []) ∙ pair p q left right

pairs-either : (p q : Nnf) → IsTrue (normal_has_pairs p) → IsTrue (normal_has_pairs q) →
    IsTrue (normal_has_pairs (either p q))
pairs-either p q left right = normal_has_pairs-or (p ∷ q ∷ []) ∙ pair p q left right

abbrev Keeps : Formula → Type 0
Keeps f = IsTrue (has_pairs f) → FormsHavePairs f

-- a list of formulas, in forms of either kind
all_positive : (parts : List Formula) → AllByRecursion Keeps parts →
    IsTrue (list_all has_pairs parts) → IsTrue (list_all normal_has_pairs (map positive_form parts))
all_positive [] each all = refl
all_positive (part ∷ parts) each all =
    let facts = and_parts (has_pairs part) (list_all has_pairs parts) all in
    and_from (normal_has_pairs (positive_form part)) (list_all normal_has_pairs (map positive_form parts))
    (each.0 facts.0).positive (all_positive parts each.1 facts.1)

all_negative : (parts : List Formula) → AllByRecursion Keeps parts →
    IsTrue (list_all has_pairs parts) → IsTrue (list_all normal_has_pairs (map negative_form parts))
all_negative [] each all = refl
all_negative (part ∷ parts) each all =
    let facts = and_parts (has_pairs part) (list_all has_pairs parts) all in
    and_from (normal_has_pairs (negative_form part)) (list_all normal_has_pairs (map negative_form parts))
    (each.0 facts.0).negative (all_negative parts each.1 facts.1)

mapped : (form : Formula → Nnf) (parts : List Formula) → IsTrue (leb 2 (length parts)) →
    IsTrue (list_all normal_has_pairs (map form parts)) →
    IsTrue (leb 2 (length (map form parts)) && list_all normal_has_pairs (map form parts))
mapped form parts two all =
    and_from (leb 2 (length (map form parts))) (list_all normal_has_pairs (map form parts))
    (ap (leb 2) (length-map parts form) ∙ two) all

keeps-and : (parts : List Formula) → AllByRecursion Keeps parts → Keeps (formula.And parts)
keeps-and parts each holds =
    let facts = and_parts (leb 2 (length parts)) (list_all has_pairs parts)
    (sym (has_pairs-and parts) ∙ holds) in
    with_forms (formula.And parts) _ (forms-and parts)
    (normal_has_pairs-and (map positive_form parts)
    ∙ mapped positive_form parts facts.0 (all_positive parts each facts.1))
    (normal_has_pairs-or (map negative_form parts)
    ∙ mapped negative_form parts facts.0 (all_negative parts each facts.1))

keeps-or : (parts : List Formula) → AllByRecursion Keeps parts → Keeps (formula.Or parts)
keeps-or parts each holds =
    let facts = and_parts (leb 2 (length parts)) (list_all has_pairs parts)
    (sym (has_pairs-or parts) ∙ holds) in
    with_forms (formula.Or parts) _ (forms-or parts)
    (normal_has_pairs-or (map positive_form parts)
    ∙ mapped positive_form parts facts.0 (all_positive parts each facts.1))
    (normal_has_pairs-and (map negative_form parts)
    ∙ mapped negative_form parts facts.0 (all_negative parts each facts.1))

-- two formulas of which both forms have pairs
pub record BothHavePairs (a b : Formula) : Type 0 where
  pub left : FormsHavePairs a
  pub right : FormsHavePairs b

of_two : (a b : Formula) → Keeps a → Keeps b → IsTrue (has_pairs a && has_pairs b) →
    BothHavePairs a b
of_two a b left right holds =
    let facts = and_parts (has_pairs a) (has_pairs b) holds in
    record { left = left facts.0; right = right facts.1 }

pairs-same : (a b : Formula) → BothHavePairs a b →
    IsTrue (normal_has_pairs (both (either (negative_form a) (positive_form b))
    (either (negative_form b) (positive_form a))))
pairs-same a b two =
    pairs-both (either (negative_form a) (positive_form b)) (either (negative_form b) (positive_form a))
    (pairs-either (negative_form a) (positive_form b) two.left.negative two.right.positive)
    (pairs-either (negative_form b) (positive_form a) two.right.negative two.left.positive)

pairs-different : (a b : Formula) → BothHavePairs a b →
    IsTrue (normal_has_pairs (both (either (positive_form a) (positive_form b))
    (either (negative_form a) (negative_form b))))
pairs-different a b two =
    pairs-both (either (positive_form a) (positive_form b)) (either (negative_form a) (negative_form b))
    (pairs-either (positive_form a) (positive_form b) two.left.positive two.right.positive)
    (pairs-either (negative_form a) (negative_form b) two.left.negative two.right.negative)

cases : FormulaCases Keeps
cases = record {
  on_true = λ _. with_forms formula.True _ forms-true normal_has_pairs-true normal_has_pairs-false;
  on_false = λ _. with_forms formula.False _ forms-false normal_has_pairs-false normal_has_pairs-true;
  on_atom = λ f types terms _.
      with_forms (formula.Atom f types terms) _ (forms-atom f types terms)
      (normal_has_pairs-atom true f types terms) (normal_has_pairs-atom false f types terms);
  on_equal = λ ty left right _.
      with_forms (formula.Equal ty left right) _ (forms-equal ty left right)
      (normal_has_pairs-equation true ty left right) (normal_has_pairs-equation false ty left right);
  on_not = λ a each holds.
      let inner = each (sym (has_pairs-not a) ∙ holds) in
      with_forms (formula.Not a) _ (forms-not a) inner.negative inner.positive;
  on_and = keeps-and;
  on_or = keeps-or;
  on_implies = λ a b left right holds.
      let two = of_two a b left right (sym (has_pairs-implies a b) ∙ holds) in
      with_forms (formula.Implies a b) _ (forms-implies a b)
      (pairs-either (negative_form a) (positive_form b) two.left.negative two.right.positive)
      (pairs-both (positive_form a) (negative_form b) two.left.positive two.right.negative);
  on_if = λ a b left right holds.
      let two = of_two a b left right (sym (has_pairs-if a b) ∙ holds) in
      with_forms (formula.If a b) _ (forms-if a b)
      (pairs-either (positive_form a) (negative_form b) two.left.positive two.right.negative)
      (pairs-both (negative_form a) (positive_form b) two.left.negative two.right.positive);
  on_iff = λ a b left right holds.
      let two = of_two a b left right (sym (has_pairs-iff a b) ∙ holds) in
      with_forms (formula.Iff a b) _ (forms-iff a b) (pairs-same a b two) (pairs-different a b two);
  on_xor = λ a b left right holds.
      let two = of_two a b left right (sym (has_pairs-xor a b) ∙ holds) in
      with_forms (formula.Xor a b) _ (forms-xor a b) (pairs-different a b two) (pairs-same a b two);
  on_nand = λ a b left right holds.
      let two = of_two a b left right (sym (has_pairs-nand a b) ∙ holds) in
      with_forms (formula.Nand a b) _ (forms-nand a b)
      (pairs-either (negative_form a) (negative_form b) two.left.negative two.right.negative)
      (pairs-both (positive_form a) (positive_form b) two.left.positive two.right.positive);
  on_nor = λ a b left right holds.
      let two = of_two a b left right (sym (has_pairs-nor a b) ∙ holds) in
      with_forms (formula.Nor a b) _ (forms-nor a b)
      (pairs-both (negative_form a) (negative_form b) two.left.negative two.right.negative)
      (pairs-either (positive_form a) (positive_form b) two.left.positive two.right.positive);
  on_for_all = λ ty body each holds.
      let inner = each (sym (has_pairs-for_all ty body) ∙ holds) in
      with_forms (formula.ForAll ty body) _ (forms-for_all ty body)
      (normal_has_pairs-for_all ty (positive_form body) ∙ inner.positive)
      (normal_has_pairs-exists ty (negative_form body) ∙ inner.negative);
  on_exists = λ ty body each holds.
      let inner = each (sym (has_pairs-exists ty body) ∙ holds) in
      with_forms (formula.Exists ty body) _ (forms-exists ty body)
      (normal_has_pairs-exists ty (positive_form body) ∙ inner.positive)
      (normal_has_pairs-for_all ty (negative_form body) ∙ inner.negative);
}

pub forms_have_pairs : (f : Formula) → IsTrue (has_pairs f) → FormsHavePairs f
forms_have_pairs = formula_induction Keeps cases
