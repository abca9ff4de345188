-- The equations of the counts of nodes, and the counts of normal forms.
use Rattle.tf_core.specs.declared.formula.Formula.TheVariants as formula
use Rattle.tf_core.specs.declared.formula.Formula.{Formula}
use Rattle.tf_core.specs.declared.nnf.Nnf.TheVariants as nnf
use Rattle.tf_core.specs.declared.nnf.Nnf.TheOpen as nnf_layer
use Rattle.tf_core.specs.declared.nnf.Nnf.TheFolds.{fold-roll-Nnf}
use Rattle.tf_core.specs.declared.nnf.Nnf.{Nnf}
use Rattle.tf_core.specs.declared.term.Term.TheVariants as term
use Rattle.tf_core.specs.declared.term.Term.TheOpen as term_layer
use Rattle.tf_core.specs.declared.term.Term.TheFolds.{fold-roll-Term}
use Rattle.tf_core.specs.declared.term.Term.{Term}
use Rattle.tf_core.specs.declared.ty.Ty.{Ty}
use Rattle.std.proofs.Common.{ℕ, ◌+◌, ◌≡◌, Bool, true, false, List, [], ◌∷◌, map, refl, sym, ap, ◌∙◌, arith}
use Rattle.std.specs.List.{sum_by}
use Rattle.enc_base.specs.Counts.{in_64_bits}
use Rattle.tf_nnf.specs.Nodes.{term_nodes, term_nodes_step, nnf_nodes, nnf_nodes_step, positive_nodes, negative_nodes, IsCounted}
use Rattle.tf_nnf.specs.Forms.{Forms, forms, positive_form, negative_form, both, either}
use Rattle.tf_nnf.proofs.Forms.{forms-true, forms-false, forms-atom, forms-equal, forms-not, forms-and, forms-or, forms-implies, forms-if, forms-iff, forms-xor, forms-nand, forms-nor, forms-for_all, forms-exists}
use Rattle.tf_nnf.proofs.Lists.{sum-map, sum_by-map}

pub term_nodes-var : (i : ℕ) →
    term_nodes (term.Var i) ≡ 1
unfolding term_nodes
term_nodes-var i =
    ap term_nodes (sym (term.rolls-Var i))
    ∙ fold-roll-Term ℕ term_nodes_step (term_layer.Var i)

pub term_nodes-apply : (f : ℕ) (types : List Ty) (terms : List Term) →
    term_nodes (term.Apply f types terms) ≡ 1 + sum_by term_nodes terms
unfolding term_nodes
term_nodes-apply f types terms =
    ap term_nodes (sym (term.rolls-Apply f types terms))
    ∙ fold-roll-Term ℕ term_nodes_step (term_layer.Apply f types terms)
    ∙ ap (λ n. 1 + n) (sum-map term_nodes terms)

pub nnf_nodes-true : nnf_nodes nnf.True ≡ 1
unfolding nnf_nodes
nnf_nodes-true =
    ap nnf_nodes (sym nnf.rolls-True)
    ∙ fold-roll-Nnf ℕ nnf_nodes_step nnf_layer.True

pub nnf_nodes-false : nnf_nodes nnf.False ≡ 1
unfolding nnf_nodes
nnf_nodes-false =
    ap nnf_nodes (sym nnf.rolls-False)
    ∙ fold-roll-Nnf ℕ nnf_nodes_step nnf_layer.False

pub nnf_nodes-atom : (positive : Bool) (f : ℕ) (types : List Ty) (terms : List Term) →
    nnf_nodes (nnf.Atom positive f types terms) ≡ 1 + sum_by term_nodes terms
unfolding nnf_nodes
nnf_nodes-atom positive f types terms =
    ap nnf_nodes (sym (nnf.rolls-Atom positive f types terms))
    ∙ fold-roll-Nnf ℕ nnf_nodes_step (nnf_layer.Atom positive f types terms)

pub nnf_nodes-equation : (positive : Bool) (ty : Ty) (left right : Term) →
    nnf_nodes (nnf.Equation positive ty left right) ≡ 1 + (term_nodes left + term_nodes right)
unfolding nnf_nodes
nnf_nodes-equation positive ty left right =
    ap nnf_nodes (sym (nnf.rolls-Equation positive ty left right))
    ∙ fold-roll-Nnf ℕ nnf_nodes_step (nnf_layer.Equation positive ty left right)

pub nnf_nodes-and : (parts : List Nnf) →
    nnf_nodes (nnf.And parts) ≡ 1 + sum_by nnf_nodes parts
unfolding nnf_nodes
nnf_nodes-and parts =
    ap nnf_nodes (sym (nnf.rolls-And parts))
    ∙ fold-roll-Nnf ℕ nnf_nodes_step (nnf_layer.And parts)
    ∙ ap (λ n. 1 + n) (sum-map nnf_nodes parts)

pub nnf_nodes-or : (parts : List Nnf) →
    nnf_nodes (nnf.Or parts) ≡ 1 + sum_by nnf_nodes parts
unfolding nnf_nodes
nnf_nodes-or parts =
    ap nnf_nodes (sym (nnf.rolls-Or parts))
    ∙ fold-roll-Nnf ℕ nnf_nodes_step (nnf_layer.Or parts)
    ∙ ap (λ n. 1 + n) (sum-map nnf_nodes parts)

pub nnf_nodes-for_all : (ty : Ty) (body : Nnf) →
    nnf_nodes (nnf.ForAll ty body) ≡ 1 + nnf_nodes body
unfolding nnf_nodes
nnf_nodes-for_all ty body =
    ap nnf_nodes (sym (nnf.rolls-ForAll ty body))
    ∙ fold-roll-Nnf ℕ nnf_nodes_step (nnf_layer.ForAll ty body)

pub nnf_nodes-exists : (ty : Ty) (body : Nnf) →
    nnf_nodes (nnf.Exists ty body) ≡ 1 + nnf_nodes body
unfolding nnf_nodes
nnf_nodes-exists ty body =
    ap nnf_nodes (sym (nnf.rolls-Exists ty body))
    ∙ fold-roll-Nnf ℕ nnf_nodes_step (nnf_layer.Exists ty body)

-- lists of two parts

nodes-both : (a b : Nnf) → nnf_nodes (both a b) ≡ 1 + (nnf_nodes a + nnf_nodes b)
nodes-both a b =
    omega (arith, nnf_nodes-and (a ∷ b ∷ []))

nodes-either : (a b : Nnf) → nnf_nodes (either a b) ≡ 1 + (nnf_nodes a + nnf_nodes b)
nodes-either a b =
    omega (arith, nnf_nodes-or (a ∷ b ∷ []))

-- the nodes of the form of a formula, and of that of its negation
pub record AreNodes (f : Formula) (positive negative : ℕ) : Type 0 where
  pub of_form : positive_nodes f ≡ positive
  pub of_negation : negative_nodes f ≡ negative

with_forms : (f : Formula) (made : Forms) (positive negative : ℕ) → forms f ≡ made →
    nnf_nodes made.positive ≡ positive → nnf_nodes made.negative ≡ negative →
    AreNodes f positive negative
with_forms f made positive negative is here there = record {
  of_form = ap (λ (x : Forms). nnf_nodes x.positive) is ∙ here;
  of_negation = ap (λ (x : Forms). nnf_nodes x.negative) is ∙ there;
}

pub nodes-true : AreNodes formula.True (1) (1)
nodes-true =
    with_forms formula.True _ (1) (1) forms-true
    (nnf_nodes-true)
    (nnf_nodes-false)

pub nodes-false : AreNodes formula.False (1) (1)
nodes-false =
    with_forms formula.False _ (1) (1) forms-false
    (nnf_nodes-false)
    (nnf_nodes-true)

pub nodes-atom : (f : ℕ) (types : List Ty) (terms : List Term) →
    AreNodes (formula.Atom f types terms) (1 + sum_by term_nodes terms) (1 + sum_by term_nodes terms)
nodes-atom f types terms =
    with_forms (formula.Atom f types terms) _ (1 + sum_by term_nodes terms) (1 + sum_by term_nodes terms) (forms-atom f types terms)
    (nnf_nodes-atom true f types terms)
    (nnf_nodes-atom false f types terms)

pub nodes-equal : (ty : Ty) (left right : Term) →
    AreNodes (formula.Equal ty left right) (1 + (term_nodes left + term_nodes right)) (1 + (term_nodes left + term_nodes right))
nodes-equal ty left right =
    with_forms (formula.Equal ty left right) _ (1 + (term_nodes left + term_nodes right)) (1 + (term_nodes left + term_nodes right)) (forms-equal ty left right)
    (nnf_nodes-equation true ty left right)
    (nnf_nodes-equation false ty left right)

pub nodes-not : (a : Formula) →
    AreNodes (formula.Not a) (negative_nodes a) (positive_nodes a)
nodes-not a =
    with_forms (formula.Not a) _ (negative_nodes a) (positive_nodes a) (forms-not a)
    (refl)
    (refl)

pub nodes-and : (parts : List Formula) →
    AreNodes (formula.And parts) (1 + sum_by positive_nodes parts) (1 + sum_by negative_nodes parts)
nodes-and parts =
    with_forms (formula.And parts) _ (1 + sum_by positive_nodes parts) (1 + sum_by negative_nodes parts) (forms-and parts)
    (nnf_nodes-and (map positive_form parts) ∙ ap (λ n. 1 + n) (sum_by-map nnf_nodes positive_form parts))
    (nnf_nodes-or (map negative_form parts) ∙ ap (λ n. 1 + n) (sum_by-map nnf_nodes negative_form parts))

pub nodes-or : (parts : List Formula) →
    AreNodes (formula.Or parts) (1 + sum_by positive_nodes parts) (1 + sum_by negative_nodes parts)
nodes-or parts =
    with_forms (formula.Or parts) _ (1 + sum_by positive_nodes parts) (1 + sum_by negative_nodes parts) (forms-or parts)
    (nnf_nodes-or (map positive_form parts) ∙ ap (λ n. 1 + n) (sum_by-map nnf_nodes positive_form parts))
    (nnf_nodes-and (map negative_form parts) ∙ ap (λ n. 1 + n) (sum_by-map nnf_nodes negative_form parts))

pub nodes-implies : (a b : Formula) →
    AreNodes (formula.Implies a b) (1 + (negative_nodes a + positive_nodes b)) (1 + (positive_nodes a + negative_nodes b))
nodes-implies a b =
    with_forms (formula.Implies a b) _ (1 + (negative_nodes a + positive_nodes b)) (1 + (positive_nodes a + negative_nodes b)) (forms-implies a b)
    (nodes-either (negative_form a) (positive_form b))
    (nodes-both (positive_form a) (negative_form b))

pub nodes-if : (a b : Formula) →
    AreNodes (formula.If a b) (1 + (positive_nodes a + negative_nodes b)) (1 + (negative_nodes a + positive_nodes b))
nodes-if a b =
    with_forms (formula.If a b) _ (1 + (positive_nodes a + negative_nodes b)) (1 + (negative_nodes a + positive_nodes b)) (forms-if a b)
    (nodes-either (positive_form a) (negative_form b))
    (nodes-both (negative_form a) (positive_form b))

pub nodes-nand : (a b : Formula) →
    AreNodes (formula.Nand a b) (1 + (negative_nodes a + negative_nodes b)) (1 + (positive_nodes a + positive_nodes b))
nodes-nand a b =
    with_forms (formula.Nand a b) _ (1 + (negative_nodes a + negative_nodes b)) (1 + (positive_nodes a + positive_nodes b)) (forms-nand a b)
    (nodes-either (negative_form a) (negative_form b))
    (nodes-both (positive_form a) (positive_form b))

pub nodes-nor : (a b : Formula) →
    AreNodes (formula.Nor a b) (1 + (negative_nodes a + negative_nodes b)) (1 + (positive_nodes a + positive_nodes b))
nodes-nor a b =
    with_forms (formula.Nor a b) _ (1 + (negative_nodes a + negative_nodes b)) (1 + (positive_nodes a + positive_nodes b)) (forms-nor a b)
    (nodes-both (negative_form a) (negative_form b))
    (nodes-either (positive_form a) (positive_form b))

pub nodes-iff : (a b : Formula) →
    AreNodes (formula.Iff a b) (3 + ((positive_nodes a + negative_nodes a) + (positive_nodes b + negative_nodes b))) (3 + ((positive_nodes a + negative_nodes a) + (positive_nodes b + negative_nodes b)))
nodes-iff a b =
    with_forms (formula.Iff a b) _ (3 + ((positive_nodes a + negative_nodes a) + (positive_nodes b + negative_nodes b))) (3 + ((positive_nodes a + negative_nodes a) + (positive_nodes b + negative_nodes b))) (forms-iff a b)
    (let first = nodes-either (negative_form a) (positive_form b) in
    let second = nodes-either (negative_form b) (positive_form a) in
    let whole = nodes-both (either (negative_form a) (positive_form b)) (either (negative_form b) (positive_form a)) in
    omega (arith, first, second, whole))
    (let first = nodes-either (positive_form a) (positive_form b) in
    let second = nodes-either (negative_form a) (negative_form b) in
    let whole = nodes-both (either (positive_form a) (positive_form b)) (either (negative_form a) (negative_form b)) in
    omega (arith, first, second, whole))

pub nodes-xor : (a b : Formula) →
    AreNodes (formula.Xor a b) (3 + ((positive_nodes a + negative_nodes a) + (positive_nodes b + negative_nodes b))) (3 + ((positive_nodes a + negative_nodes a) + (positive_nodes b + negative_nodes b)))
nodes-xor a b =
    with_forms (formula.Xor a b) _ (3 + ((positive_nodes a + negative_nodes a) + (positive_nodes b + negative_nodes b))) (3 + ((positive_nodes a + negative_nodes a) + (positive_nodes b + negative_nodes b))) (forms-xor a b)
    (let first = nodes-either (positive_form a) (positive_form b) in
    let second = nodes-either (negative_form a) (negative_form b) in
    let whole = nodes-both (either (positive_form a) (positive_form b)) (either (negative_form a) (negative_form b)) in
    omega (arith, first, second, whole))
    (let first = nodes-either (negative_form a) (positive_form b) in
    let second = nodes-either (negative_form b) (positive_form a) in
    let whole = nodes-both (either (negative_form a) (positive_form b)) (either (negative_form b) (positive_form a)) in
    omega (arith, first, second, whole))

pub nodes-for_all : (ty : Ty) (body : Formula) →
    AreNodes (formula.ForAll ty body) (1 + positive_nodes body) (1 + negative_nodes body)
nodes-for_all ty body =
    with_forms (formula.ForAll ty body) _ (1 + positive_nodes body) (1 + negative_nodes body) (forms-for_all ty body)
    (nnf_nodes-for_all ty (positive_form body))
    (nnf_nodes-exists ty (negative_form body))

pub nodes-exists : (ty : Ty) (body : Formula) →
    AreNodes (formula.Exists ty body) (1 + positive_nodes body) (1 + negative_nodes body)
nodes-exists ty body =
    with_forms (formula.Exists ty body) _ (1 + positive_nodes body) (1 + negative_nodes body) (forms-exists ty body)
    (nnf_nodes-exists ty (positive_form body))
    (nnf_nodes-for_all ty (negative_form body))

-- counted in 64 bits
pub counted : (f g : Formula) (x y positive negative : ℕ) → f ≡ g → AreNodes g x y →
    positive ≡ in_64_bits x → negative ≡ in_64_bits y → IsCounted f positive negative
counted f g x y positive negative is are here there = record {
  of_form = here ∙ sym (ap in_64_bits (ap positive_nodes is ∙ are.of_form));
  of_negation = there ∙ sym (ap in_64_bits (ap negative_nodes is ∙ are.of_negation));
}
