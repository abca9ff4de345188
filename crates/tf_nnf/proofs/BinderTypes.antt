-- The types at the binders of normal forms: they stand at the binders of the formula.
use Rattle.std.proofs.Common.{ℕ, ◌+◌, ◌≡◌, Bool, true, false, List, [], ◌∷◌, ◌++◌, map, sum, refl, sym, ap, subst, ◌∙◌, arith, ⊎_elim, inl, inr}
use Rattle.std.specs.List.{AllByRecursion}
use Rattle.std.proofs.lemmas.List.{map-append}
use Rattle.std.proofs.lemmas.List.Sums.{sum_by-cons}
use Rattle.std.proofs.lemmas.Bool.{cases_lt}
use Rattle.tf_core.specs.declared.ty.Ty.{Ty}
use Rattle.tf_core.specs.declared.term.Term.{Term}
use Rattle.tf_core.specs.declared.formula.Formula.{Formula}
use Rattle.tf_core.specs.declared.formula.Formula.TheVariants as formula
use Rattle.tf_core.specs.declared.nnf.Nnf.{Nnf}
use Rattle.tf_core.specs.declared.nnf.Nnf.TheVariants as nnf
use Rattle.tf_core.specs.declared.nnf.Nnf.TheOpen as layer
use Rattle.tf_core.specs.declared.nnf.Nnf.TheFolds.{fold-roll-Nnf}
use Rattle.tf_core.specs.Types.{type_nodes, instantiate}
use Rattle.tf_core.specs.Counts.{binder_sum}
use Rattle.tf_core.specs.Sorts.{joined, binder_types, binder_types_step}
use Rattle.tf_core.specs.Substitution.{substitute_types}
use Rattle.tf_core.proofs.Types.{type_nodes-variable, type_nodes-apply}
use Rattle.tf_core.proofs.Counts.{binder_sum-true, binder_sum-false, binder_sum-atom, binder_sum-equal, binder_sum-not, binder_sum-and, binder_sum-or, binder_sum-implies, binder_sum-if, binder_sum-iff, binder_sum-xor, binder_sum-nand, binder_sum-nor, binder_sum-for_all, binder_sum-exists}
use Rattle.tf_core.proofs.Induction.{type_induction}
use Rattle.tf_core.proofs.FormulaInduction.{FormulaCases, formula_induction, nnf_induction}
use Rattle.tf_nnf.specs.Forms.{Forms, forms, positive_form, negative_form, both, either}
use Rattle.tf_nnf.specs.NormalForm.{fresh_types}
use Rattle.tf_nnf.proofs.Forms.{forms-true, forms-false, forms-atom, forms-equal, forms-not, forms-and, forms-or, forms-implies, forms-if, forms-iff, forms-xor, forms-nand, forms-nor, forms-for_all, forms-exists}
use Rattle.tf_nnf.proofs.Substitution.{instantiate-apply, substitute_types-true, substitute_types-false, substitute_types-atom, substitute_types-equation, substitute_types-and, substitute_types-or, substitute_types-for_all, substitute_types-exists}
use Rattle.tf_nnf.proofs.FreshTypes.{instantiate-fresh, instantiate-kept}
use Rattle.tf_nnf.proofs.Distinct.{AreAmong, are_append, are_left, are_right}

pub binder_types-true : binder_types nnf.True ≡ []
unfolding binder_types
binder_types-true =
    ap binder_types (sym nnf.rolls-True)
    ∙ fold-roll-Nnf (List Ty) binder_types_step layer.True

pub binder_types-false : binder_types nnf.False ≡ []
unfolding binder_types
binder_types-false =
    ap binder_types (sym nnf.rolls-False)
    ∙ fold-roll-Nnf (List Ty) binder_types_step layer.False

pub binder_types-atom : (positive : Bool) (f : ℕ) (types : List Ty) (terms : List Term) →
    binder_types (nnf.Atom positive f types terms) ≡ []
unfolding binder_types
binder_types-atom positive f types terms =
    ap binder_types (sym (nnf.rolls-Atom positive f types terms))
    ∙ fold-roll-Nnf (List Ty) binder_types_step (layer.Atom positive f types terms)

pub binder_types-equation : (positive : Bool) (ty : Ty) (left right : Term) →
    binder_types (nnf.Equation positive ty left right) ≡ []
unfolding binder_types
binder_types-equation positive ty left right =
    ap binder_types (sym (nnf.rolls-Equation positive ty left right))
    ∙ fold-roll-Nnf (List Ty) binder_types_step (layer.Equation positive ty left right)

pub binder_types-and : (parts : List Nnf) →
    binder_types (nnf.And parts) ≡ joined (map binder_types parts)
unfolding binder_types
binder_types-and parts =
    ap binder_types (sym (nnf.rolls-And parts))
    ∙ fold-roll-Nnf (List Ty) binder_types_step (layer.And parts)

pub binder_types-or : (parts : List Nnf) →
    binder_types (nnf.Or parts) ≡ joined (map binder_types parts)
unfolding binder_types
binder_types-or parts =
    ap binder_types (sym (nnf.rolls-Or parts))
    ∙ fold-roll-Nnf (List Ty) binder_types_step (layer.Or parts)

pub binder_types-for_all : (ty : Ty) (body : Nnf) →
    binder_types (nnf.ForAll ty body) ≡ ty ∷ binder_types body
unfolding binder_types
binder_types-for_all ty body =
    ap binder_types (sym (nnf.rolls-ForAll ty body))
    ∙ fold-roll-Nnf (List Ty) binder_types_step (layer.ForAll ty body)

pub binder_types-exists : (ty : Ty) (body : Nnf) →
    binder_types (nnf.Exists ty body) ≡ ty ∷ binder_types body
unfolding binder_types
binder_types-exists ty body =
    ap binder_types (sym (nnf.rolls-Exists ty body))
    ∙ fold-roll-Nnf (List Ty) binder_types_step (layer.Exists ty body)

-- types in place of type variables

map-joined : {A B : Type 0} (f : A → B) (lists : List (List A)) →
    map f (joined lists) ≡ joined (map (map f) lists)
map-joined f [] = refl
map-joined f (list ∷ lists) =
    map-append f list (joined lists) ∙ ap (λ more. map f list ++ more) (map-joined f lists)

module _ (instances : List Ty) where
  abbrev Replaced : Nnf → Type 0
  Replaced p =
      binder_types (substitute_types instances p) ≡ map (instantiate instances) (binder_types p)

  replaced-parts : (parts : List Nnf) → AllByRecursion Replaced parts →
      joined (map binder_types (map (substitute_types instances) parts))
      ≡ map (instantiate instances) (joined (map binder_types parts))
  replaced-parts [] same = refl
  replaced-parts (part ∷ parts) same =
      ap (λ xs. xs ++ joined (map binder_types (map (substitute_types instances) parts))) same.0
      ∙ ap (λ xs. map (instantiate instances) (binder_types part) ++ xs) (replaced-parts parts same.1)
      ∙ sym (map-append (instantiate instances) (binder_types part) (joined (map binder_types parts)))

  pub binder_types-substitute_types : (p : Nnf) →
      binder_types (substitute_types instances p) ≡ map (instantiate instances) (binder_types p)
  binder_types-substitute_types = nnf_induction Replaced (record {
    on_true =
        ap binder_types (substitute_types-true instances) ∙ binder_types-true
        ∙ sym (ap (map (instantiate instances)) binder_types-true);
    on_false =
        ap binder_types (substitute_types-false instances) ∙ binder_types-false
        ∙ sym (ap (map (instantiate instances)) binder_types-false);
    on_atom = λ positive f types terms.
        ap binder_types (substitute_types-atom instances positive f types terms)
        ∙ binder_types-atom positive f _ _
        ∙ sym (ap (map (instantiate instances)) (binder_types-atom positive f types terms));
    on_equation = λ positive ty left right.
        ap binder_types (substitute_types-equation instances positive ty left right)
        ∙ binder_types-equation positive _ _ _
        ∙ sym (ap (map (instantiate instances)) (binder_types-equation positive ty left right));
    on_and = λ parts same.
        ap binder_types (substitute_types-and instances parts)
        ∙ binder_types-and (map (substitute_types instances) parts)
        ∙ replaced-parts parts same
        ∙ sym (ap (map (instantiate instances)) (binder_types-and parts));
    on_or = λ parts same.
        ap binder_types (substitute_types-or instances parts)
        ∙ binder_types-or (map (substitute_types instances) parts)
        ∙ replaced-parts parts same
        ∙ sym (ap (map (instantiate instances)) (binder_types-or parts));
    on_for_all = λ ty body same.
        ap binder_types (substitute_types-for_all instances ty body)
        ∙ binder_types-for_all (instantiate instances ty) (substitute_types instances body)
        ∙ ap (λ xs. instantiate instances ty ∷ xs) same
        ∙ sym (ap (map (instantiate instances)) (binder_types-for_all ty body));
    on_exists = λ ty body same.
        ap binder_types (substitute_types-exists instances ty body)
        ∙ binder_types-exists (instantiate instances ty) (substitute_types instances body)
        ∙ ap (λ xs. instantiate instances ty ∷ xs) same
        ∙ sym (ap (map (instantiate instances)) (binder_types-exists ty body));
  })

-- fresh constructors in place of type variables leave the nodes as they are

nodes_same : (f : Ty → Ty) (types : List Ty) →
    AllByRecursion (λ ty. type_nodes (f ty) ≡ type_nodes ty) types →
    sum (map type_nodes (map f types)) ≡ sum (map type_nodes types)
nodes_same f [] same = refl
nodes_same f (ty ∷ types) same =
    omega (
      arith,
      same.0,
      nodes_same f types same.1,
      sum_by-cons (λ (n : ℕ). n) (type_nodes (f ty)) (map type_nodes (map f types)),
      sum_by-cons (λ (n : ℕ). n) (type_nodes ty) (map type_nodes types),
    )

module _ (first count : ℕ) where
  pub type_nodes-fresh : (ty : Ty) →
      type_nodes (instantiate (fresh_types first count) ty) ≡ type_nodes ty
  type_nodes-fresh =
      type_induction (λ ty. type_nodes (instantiate (fresh_types first count) ty) ≡ type_nodes ty)
      (λ i. ⊎_elim
      (λ within. ap type_nodes (instantiate-fresh first count i within)
      ∙ type_nodes-apply (first + i) []
      ∙ sym (type_nodes-variable i))
      (λ beyond. ap type_nodes (instantiate-kept first count i beyond))
      (cases_lt i count))
      (λ c types same. ap type_nodes (instantiate-apply (fresh_types first count) c types)
      ∙ type_nodes-apply c (map (instantiate (fresh_types first count)) types)
      ∙ ap (λ n. 1 + n) (nodes_same (instantiate (fresh_types first count)) types same)
      ∙ sym (type_nodes-apply c types))

  pub nodes-fresh : (types : List Ty) →
      sum (map type_nodes (map (instantiate (fresh_types first count)) types))
      ≡ sum (map type_nodes types)
  nodes-fresh types = nodes_same (instantiate (fresh_types first count)) types (each types)
    where
      each : (types : List Ty) →
          AllByRecursion
          (λ ty. type_nodes (instantiate (fresh_types first count) ty) ≡ type_nodes ty) types
      each [] = tt
      each (ty ∷ types) = (type_nodes-fresh ty, each types)

-- a sum over two lists
pub nodes-append : (types more : List Ty) →
    sum (map type_nodes (types ++ more)) ≡ sum (map type_nodes types) + sum (map type_nodes more)
nodes-append [] more = omega arith
nodes-append (ty ∷ types) more =
    omega (
      arith,
      nodes-append types more,
      sum_by-cons (λ (n : ℕ). n) (type_nodes ty) (map type_nodes (types ++ more)),
      sum_by-cons (λ (n : ℕ). n) (type_nodes ty) (map type_nodes types),
    )

-- normal forms

-- types with as many nodes as those at a formula's binders, among which are those at the binders of
-- both its forms
pub record BinderTypes (f : Formula) : Type 0 where
  pub types : List Ty
  pub positive : AreAmong (binder_types (positive_form f)) types
  pub negative : AreAmong (binder_types (negative_form f)) types
  pub nodes : sum (map type_nodes types) ≡ binder_sum type_nodes f

-- the same of a list of formulas
record ListTypes (parts : List Formula) : Type 0 where
  types : List Ty
  positive : AreAmong (joined (map binder_types (map positive_form parts))) types
  negative : AreAmong (joined (map binder_types (map negative_form parts))) types
  nodes : sum (map type_nodes types) ≡ sum (map (binder_sum type_nodes) parts)

list_types : (parts : List Formula) → AllByRecursion BinderTypes parts → ListTypes parts
list_types [] each = record {
  types = [];
  positive = λ x is. is;
  negative = λ x is. is;
  nodes = refl;
}
list_types (part ∷ parts) each =
    let rest = list_types parts each.1 in
    record {
      types = each.0.types ++ rest.types;
      positive = are_append (binder_types (positive_form part))
          (joined (map binder_types (map positive_form parts))) (each.0.types ++ rest.types)
          (are_left _ each.0.types rest.types each.0.positive)
          (are_right _ each.0.types rest.types rest.positive);
      negative = are_append (binder_types (negative_form part))
          (joined (map binder_types (map negative_form parts))) (each.0.types ++ rest.types)
          (are_left _ each.0.types rest.types each.0.negative)
          (are_right _ each.0.types rest.types rest.negative);
      nodes =
          omega (
            arith,
            each.0.nodes,
            rest.nodes,
            nodes-append each.0.types rest.types,
            sum_by-cons (λ (n : ℕ). n) (binder_sum type_nodes part) (map (binder_sum type_nodes) parts),
          );
    }

-- the types at the binders of a formula are among some
abbrev HasTypes : Nnf → List Ty → Type 0
HasTypes p types = AreAmong (binder_types p) types

by_equation : (p : Nnf) (made types : List Ty) → binder_types p ≡ made → AreAmong made types →
    HasTypes p types
by_equation p made types is are = subst (λ xs. AreAmong xs types) (sym is) are

none : (types : List Ty) → AreAmong [] types
none types x is = absurd is

two_lists : (one other types : List Ty) → AreAmong one types → AreAmong other types →
    AreAmong (one ++ (other ++ [])) types
two_lists one other types first second =
    are_append one (other ++ []) types first (are_append other [] types second (none types))

has-both : (p q : Nnf) (types : List Ty) → HasTypes p types → HasTypes q types →
    HasTypes (both p q) types
has-both p q types left right =
    by_equation (both p q) (binder_types p ++ (binder_types q ++ [])) types
    (binder_types-and (p ∷ q ∷ []))
    (two_lists (binder_types p) (binder_types q) types left right)

has-either : (p q : Nnf) (types : List Ty) → HasTypes p types → HasTypes q types →
    HasTypes (either p q) types
has-either p q types left right =
    by_equation (either p q) (binder_types p ++ (binder_types q ++ [])) types
    (binder_types-or (p ∷ q ∷ []))
    (two_lists (binder_types p) (binder_types q) types left right)

-- a binder over a formula
has-binder : (p body : Nnf) (ty : Ty) (types : List Ty) → binder_types p ≡ ty ∷ binder_types body →
    HasTypes body types → HasTypes p (ty ∷ types)
has-binder p body ty types is are =
    by_equation p (ty ∷ binder_types body) (ty ∷ types) is
    (λ x. ⊎_elim (λ here. inl here) (λ there. inr (are x there)))

-- both forms of two formulas
record TwoTypes (a b : Formula) (types : List Ty) : Type 0 where
  left : HasTypes (positive_form a) types
  not_left : HasTypes (negative_form a) types
  right : HasTypes (positive_form b) types
  not_right : HasTypes (negative_form b) types

two_types : (a b : Formula) (first : BinderTypes a) (second : BinderTypes b) →
    TwoTypes a b (first.types ++ second.types)
two_types a b first second = record {
  left = are_left (binder_types (positive_form a)) first.types second.types first.positive;
  not_left = are_left (binder_types (negative_form a)) first.types second.types first.negative;
  right = are_right (binder_types (positive_form b)) first.types second.types second.positive;
  not_right = are_right (binder_types (negative_form b)) first.types second.types second.negative;
}

has-same : (a b : Formula) (types : List Ty) → TwoTypes a b types →
    HasTypes
    (both (either (negative_form a) (positive_form b)) (either (negative_form b) (positive_form a))) types
has-same a b types two =
    has-both (either (negative_form a) (positive_form b))
    (either (negative_form b) (positive_form a)) types
    (has-either (negative_form a) (positive_form b) types two.not_left two.right)
    (has-either (negative_form b) (positive_form a) types two.not_right two.left)

has-different : (a b : Formula) (types : List Ty) → TwoTypes a b types →
    HasTypes
    (both (either (positive_form a) (positive_form b)) (either (negative_form a) (negative_form b))) types
has-different a b types two =
    has-both (either (positive_form a) (positive_form b))
    (either (negative_form a) (negative_form b)) types
    (has-either (positive_form a) (positive_form b) types two.left two.right)
    (has-either (negative_form a) (negative_form b) types two.not_left two.not_right)

with_forms : (f : Formula) (made : Forms) (types : List Ty) → forms f ≡ made →
    HasTypes made.positive types → HasTypes made.negative types →
    sum (map type_nodes types) ≡ binder_sum type_nodes f → BinderTypes f
with_forms f made types is here there same = record {
  types = types;
  positive = subst (λ (x : Forms). HasTypes x.positive types) (sym is) here;
  negative = subst (λ (x : Forms). HasTypes x.negative types) (sym is) there;
  nodes = same;
}

-- two formulas under a connective, with all their types
of_two : (a b : Formula) (first : BinderTypes a) (second : BinderTypes b) (f : Formula) (made : Forms) →
    forms f ≡ made → binder_sum type_nodes f ≡ binder_sum type_nodes a + binder_sum type_nodes b →
    (TwoTypes a b (first.types ++ second.types) → HasTypes made.positive (first.types ++ second.types)) →
    (TwoTypes a b (first.types ++ second.types) → HasTypes made.negative (first.types ++ second.types)) →
    BinderTypes f
of_two a b first second f made is nodes here there =
    with_forms f made (first.types ++ second.types) is
    (here (two_types a b first second)) (there (two_types a b first second))
    (omega (arith, nodes, nodes-append first.types second.types, first.nodes, second.nodes))

-- a formula with no parts
of_none : (f : Formula) (made : Forms) → forms f ≡ made → binder_sum type_nodes f ≡ 0 →
    binder_types made.positive ≡ [] → binder_types made.negative ≡ [] → BinderTypes f
of_none f made is nodes here there =
    with_forms f made [] is
    (by_equation made.positive [] [] here (none [])) (by_equation made.negative [] [] there (none []))
    (sym nodes)

cases : FormulaCases BinderTypes
cases = record {
  on_true = of_none formula.True _ forms-true (binder_sum-true type_nodes)
      binder_types-true binder_types-false;
  on_false = of_none formula.False _ forms-false (binder_sum-false type_nodes)
      binder_types-false binder_types-true;
  on_atom = λ f types terms.
      of_none (formula.Atom f types terms) _ (forms-atom f types terms)
      (binder_sum-atom type_nodes f types terms)
      (binder_types-atom true f types terms) (binder_types-atom false f types terms);
  on_equal = λ ty left right.
      of_none (formula.Equal ty left right) _ (forms-equal ty left right)
      (binder_sum-equal type_nodes ty left right)
      (binder_types-equation true ty left right) (binder_types-equation false ty left right);
  on_not = λ a inner.
      with_forms (formula.Not a) _ inner.types (forms-not a) inner.negative inner.positive
      (inner.nodes ∙ sym (binder_sum-not type_nodes a));
  on_and = λ parts each.
      let all = list_types parts each in
      with_forms (formula.And parts) _ all.types (forms-and parts)
      (by_equation (nnf.And (map positive_form parts)) _ all.types
      (binder_types-and (map positive_form parts)) all.positive)
      (by_equation (nnf.Or (map negative_form parts)) _ all.types
      (binder_types-or (map negative_form parts)) all.negative)
      (all.nodes ∙ sym (binder_sum-and type_nodes parts));
  on_or = λ parts each.
      let all = list_types parts each in
      with_forms (formula.Or parts) _ all.types (forms-or parts)
      (by_equation (nnf.Or (map positive_form parts)) _ all.types
      (binder_types-or (map positive_form parts)) all.positive)
      (by_equation (nnf.And (map negative_form parts)) _ all.types
      (binder_types-and (map negative_form parts)) all.negative)
      (all.nodes ∙ sym (binder_sum-or type_nodes parts));
  on_implies = λ a b first second.
      of_two a b first second
      (formula.Implies a b) _ (forms-implies a b) (binder_sum-implies type_nodes a b)
      (λ two. has-either (negative_form a) (positive_form b) _ two.not_left two.right)
      (λ two. has-both (positive_form a) (negative_form b) _ two.left two.not_right);
  on_if = λ a b first second.
      of_two a b first second
      (formula.If a b) _ (forms-if a b) (binder_sum-if type_nodes a b)
      (λ two. has-either (positive_form a) (negative_form b) _ two.left two.not_right)
      (λ two. has-both (negative_form a) (positive_form b) _ two.not_left two.right);
  on_iff = λ a b first second.
      of_two a b first second
      (formula.Iff a b) _ (forms-iff a b) (binder_sum-iff type_nodes a b)
      (has-same a b _) (has-different a b _);
  on_xor = λ a b first second.
      of_two a b first second
      (formula.Xor a b) _ (forms-xor a b) (binder_sum-xor type_nodes a b)
      (has-different a b _) (has-same a b _);
  on_nand = λ a b first second.
      of_two a b first second
      (formula.Nand a b) _ (forms-nand a b) (binder_sum-nand type_nodes a b)
      (λ two. has-either (negative_form a) (negative_form b) _ two.not_left two.not_right)
      (λ two. has-both (positive_form a) (positive_form b) _ two.left two.right);
  on_nor = λ a b first second.
      of_two a b first second
      (formula.Nor a b) _ (forms-nor a b) (binder_sum-nor type_nodes a b)
      (λ two. has-both (negative_form a) (negative_form b) _ two.not_left two.not_right)
      (λ two. has-either (positive_form a) (positive_form b) _ two.left two.right);
  on_for_all = λ ty body inner.
      with_forms (formula.ForAll ty body) _ (ty ∷ inner.types) (forms-for_all ty body)
      (has-binder (nnf.ForAll ty (positive_form body)) (positive_form body) ty inner.types
      (binder_types-for_all ty (positive_form body)) inner.positive)
      (has-binder (nnf.Exists ty (negative_form body)) (negative_form body) ty inner.types
      (binder_types-exists ty (negative_form body)) inner.negative)
      (omega (
        arith,
        inner.nodes,
        binder_sum-for_all type_nodes ty body,
        sum_by-cons (λ (n : ℕ). n) (type_nodes ty) (map type_nodes inner.types),
      ));
  on_exists = λ ty body inner.
      with_forms (formula.Exists ty body) _ (ty ∷ inner.types) (forms-exists ty body)
      (has-binder (nnf.Exists ty (positive_form body)) (positive_form body) ty inner.types
      (binder_types-exists ty (positive_form body)) inner.positive)
      (has-binder (nnf.ForAll ty (negative_form body)) (negative_form body) ty inner.types
      (binder_types-for_all ty (negative_form body)) inner.negative)
      (omega (
        arith,
        inner.nodes,
        binder_sum-exists type_nodes ty body,
        sum_by-cons (λ (n : ℕ). n) (type_nodes ty) (map type_nodes inner.types),
      ));
}

pub forms_binder_types : (f : Formula) → BinderTypes f
forms_binder_types = formula_induction BinderTypes cases
