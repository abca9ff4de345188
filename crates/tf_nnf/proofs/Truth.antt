-- The equations of values and truth, one for each form.
use Rattle.std.proofs.Common.{ℕ, ◌≡◌, Bool, true, false, List, [], ◌∷◌, map, sym, ap, ◌∙◌, refl}
use Rattle.std.specs.Prelude.{not, ◌&&◌, ◌||◌, eqb, slice_index}
use Rattle.std.specs.List.{list_all, list_any}
use Rattle.enc_base.specs.Quantifiers.{all_below, some_below}
use Rattle.tf_core.specs.declared.ty.Ty.{Ty}
use Rattle.tf_core.specs.declared.ty.Ty.TheVariants as type
use Rattle.tf_core.specs.declared.ty.Ty.TheOpen as type_layer
use Rattle.tf_core.specs.declared.ty.Ty.TheFolds.{fold-roll-Ty}
use Rattle.tf_core.specs.declared.term.Term.{Term}
use Rattle.tf_core.specs.declared.term.Term.TheVariants as term
use Rattle.tf_core.specs.declared.term.Term.TheOpen as term_layer
use Rattle.tf_core.specs.declared.term.Term.TheFolds.{fold-roll-Term}
use Rattle.tf_core.specs.declared.formula.Formula.{Formula}
use Rattle.tf_core.specs.declared.formula.Formula.TheVariants as formula
use Rattle.tf_core.specs.declared.formula.Formula.TheOpen as layer
use Rattle.tf_core.specs.declared.formula.Formula.TheFolds.{fold-roll-Formula}
use Rattle.tf_core.specs.declared.nnf.Nnf.{Nnf}
use Rattle.tf_core.specs.declared.nnf.Nnf.TheVariants as nnf
use Rattle.tf_core.specs.declared.nnf.Nnf.TheOpen as nnf_layer
use Rattle.tf_core.specs.declared.nnf.Nnf.TheFolds.{fold-roll-Nnf}
use Rattle.tf_core.specs.Types.{type_value, type_value_step}
use Rattle.tf_core.specs.Structures.{Typed, size_of, member_of}
use Rattle.tf_core.specs.Truth.{value, value_step, holds_at, implies, iff, signed, truth, truth_step, normal_truth, normal_truth_step}

list_all-map : {A B : Type 0} (test : B → Bool) (f : A → B) (items : List A) →
    list_all test (map f items) ≡ list_all (λ (x : A). test (f x)) items
list_all-map test f [] = refl
list_all-map test f (item ∷ items) = ap (λ b. test (f item) && b) (list_all-map test f items)

list_any-map : {A B : Type 0} (test : B → Bool) (f : A → B) (items : List A) →
    list_any test (map f items) ≡ list_any (λ (x : A). test (f x)) items
list_any-map test f [] = refl
list_any-map test f (item ∷ items) = ap (λ b. test (f item) || b) (list_any-map test f items)

pub type_value-var : (constructor_at : ℕ → List ℕ → ℕ) (members : List ℕ) (i : ℕ) →
    type_value constructor_at members (type.Var i) ≡ slice_index members i
unfolding type_value
type_value-var constructor_at members i =
    ap (type_value constructor_at members) (sym (type.rolls-Var i))
    ∙ fold-roll-Ty ℕ (type_value_step constructor_at members) (type_layer.Var i)

pub type_value-apply : (constructor_at : ℕ → List ℕ → ℕ) (members : List ℕ) (c : ℕ) (types : List Ty) →
    type_value constructor_at members (type.Apply c types) ≡ constructor_at c (map (type_value constructor_at members) types)
unfolding type_value
type_value-apply constructor_at members c types =
    ap (type_value constructor_at members) (sym (type.rolls-Apply c types))
    ∙ fold-roll-Ty ℕ (type_value_step constructor_at members) (type_layer.Apply c types)

pub value-var : (s : Typed) (members elements : List ℕ) (i : ℕ) →
    value s members elements (term.Var i) ≡ slice_index elements i
unfolding value
value-var s members elements i =
    ap (value s members elements) (sym (term.rolls-Var i))
    ∙ fold-roll-Term ℕ (value_step s members elements) (term_layer.Var i)

pub value-apply : (s : Typed) (members elements : List ℕ) (f : ℕ) (types : List Ty) (terms : List Term) →
    value s members elements (term.Apply f types terms) ≡ s.symbol_at f (map (member_of s members) types) (map (value s members elements) terms)
unfolding value
value-apply s members elements f types terms =
    ap (value s members elements) (sym (term.rolls-Apply f types terms))
    ∙ fold-roll-Term ℕ (value_step s members elements) (term_layer.Apply f types terms)

pub truth-true : (s : Typed) (members elements : List ℕ) →
    truth s members formula.True elements ≡ true
unfolding truth
truth-true s members elements =
    ap (λ (x : Formula). truth s members x elements) (sym formula.rolls-True)
    ∙ ap (λ (h : List ℕ → Bool). h elements) (fold-roll-Formula (List ℕ → Bool) (truth_step s members) layer.True)

pub truth-false : (s : Typed) (members elements : List ℕ) →
    truth s members formula.False elements ≡ false
unfolding truth
truth-false s members elements =
    ap (λ (x : Formula). truth s members x elements) (sym formula.rolls-False)
    ∙ ap (λ (h : List ℕ → Bool). h elements) (fold-roll-Formula (List ℕ → Bool) (truth_step s members) layer.False)

pub truth-atom : (s : Typed) (members : List ℕ) (f : ℕ) (types : List Ty) (terms : List Term) (elements : List ℕ) →
    truth s members (formula.Atom f types terms) elements ≡ holds_at s members elements f types terms
unfolding truth
truth-atom s members f types terms elements =
    ap (λ (x : Formula). truth s members x elements) (sym (formula.rolls-Atom f types terms))
    ∙ ap (λ (h : List ℕ → Bool). h elements) (fold-roll-Formula (List ℕ → Bool) (truth_step s members) (layer.Atom f types terms))

pub truth-equal : (s : Typed) (members : List ℕ) (ty : Ty) (left right : Term) (elements : List ℕ) →
    truth s members (formula.Equal ty left right) elements ≡ eqb (value s members elements left) (value s members elements right)
unfolding truth
truth-equal s members ty left right elements =
    ap (λ (x : Formula). truth s members x elements) (sym (formula.rolls-Equal ty left right))
    ∙ ap (λ (h : List ℕ → Bool). h elements) (fold-roll-Formula (List ℕ → Bool) (truth_step s members) (layer.Equal ty left right))

pub truth-not : (s : Typed) (members : List ℕ) (a : Formula) (elements : List ℕ) →
    truth s members (formula.Not a) elements ≡ not (truth s members a elements)
unfolding truth
truth-not s members a elements =
    ap (λ (x : Formula). truth s members x elements) (sym (formula.rolls-Not a))
    ∙ ap (λ (h : List ℕ → Bool). h elements) (fold-roll-Formula (List ℕ → Bool) (truth_step s members) (layer.Not a))

pub truth-and : (s : Typed) (members : List ℕ) (parts : List Formula) (elements : List ℕ) →
    truth s members (formula.And parts) elements ≡ list_all (λ part. truth s members part elements) parts
unfolding truth
truth-and s members parts elements =
    ap (λ (x : Formula). truth s members x elements) (sym (formula.rolls-And parts))
    ∙ ap (λ (h : List ℕ → Bool). h elements) (fold-roll-Formula (List ℕ → Bool) (truth_step s members) (layer.And parts))
    ∙ list_all-map (λ (test : List ℕ → Bool). test elements) (truth s members) parts

pub truth-or : (s : Typed) (members : List ℕ) (parts : List Formula) (elements : List ℕ) →
    truth s members (formula.Or parts) elements ≡ list_any (λ part. truth s members part elements) parts
unfolding truth
truth-or s members parts elements =
    ap (λ (x : Formula). truth s members x elements) (sym (formula.rolls-Or parts))
    ∙ ap (λ (h : List ℕ → Bool). h elements) (fold-roll-Formula (List ℕ → Bool) (truth_step s members) (layer.Or parts))
    ∙ list_any-map (λ (test : List ℕ → Bool). test elements) (truth s members) parts

pub truth-implies : (s : Typed) (members : List ℕ) (a b : Formula) (elements : List ℕ) →
    truth s members (formula.Implies a b) elements ≡ implies (truth s members a elements) (truth s members b elements)
unfolding truth
truth-implies s members a b elements =
    ap (λ (x : Formula). truth s members x elements) (sym (formula.rolls-Implies a b))
    ∙ ap (λ (h : List ℕ → Bool). h elements) (fold-roll-Formula (List ℕ → Bool) (truth_step s members) (layer.Implies a b))

pub truth-if : (s : Typed) (members : List ℕ) (a b : Formula) (elements : List ℕ) →
    truth s members (formula.If a b) elements ≡ implies (truth s members b elements) (truth s members a elements)
unfolding truth
truth-if s members a b elements =
    ap (λ (x : Formula). truth s members x elements) (sym (formula.rolls-If a b))
    ∙ ap (λ (h : List ℕ → Bool). h elements) (fold-roll-Formula (List ℕ → Bool) (truth_step s members) (layer.If a b))

pub truth-iff : (s : Typed) (members : List ℕ) (a b : Formula) (elements : List ℕ) →
    truth s members (formula.Iff a b) elements ≡ iff (truth s members a elements) (truth s members b elements)
unfolding truth
truth-iff s members a b elements =
    ap (λ (x : Formula). truth s members x elements) (sym (formula.rolls-Iff a b))
    ∙ ap (λ (h : List ℕ → Bool). h elements) (fold-roll-Formula (List ℕ → Bool) (truth_step s members) (layer.Iff a b))

pub truth-xor : (s : Typed) (members : List ℕ) (a b : Formula) (elements : List ℕ) →
    truth s members (formula.Xor a b) elements ≡ not (iff (truth s members a elements) (truth s members b elements))
unfolding truth
truth-xor s members a b elements =
    ap (λ (x : Formula). truth s members x elements) (sym (formula.rolls-Xor a b))
    ∙ ap (λ (h : List ℕ → Bool). h elements) (fold-roll-Formula (List ℕ → Bool) (truth_step s members) (layer.Xor a b))

pub truth-nand : (s : Typed) (members : List ℕ) (a b : Formula) (elements : List ℕ) →
    truth s members (formula.Nand a b) elements ≡ not (truth s members a elements && truth s members b elements)
unfolding truth
truth-nand s members a b elements =
    ap (λ (x : Formula). truth s members x elements) (sym (formula.rolls-Nand a b))
    ∙ ap (λ (h : List ℕ → Bool). h elements) (fold-roll-Formula (List ℕ → Bool) (truth_step s members) (layer.Nand a b))

pub truth-nor : (s : Typed) (members : List ℕ) (a b : Formula) (elements : List ℕ) →
    truth s members (formula.Nor a b) elements ≡ not (truth s members a elements || truth s members b elements)
unfolding truth
truth-nor s members a b elements =
    ap (λ (x : Formula). truth s members x elements) (sym (formula.rolls-Nor a b))
    ∙ ap (λ (h : List ℕ → Bool). h elements) (fold-roll-Formula (List ℕ → Bool) (truth_step s members) (layer.Nor a b))

pub truth-for_all : (s : Typed) (members : List ℕ) (ty : Ty) (body : Formula) (elements : List ℕ) →
    truth s members (formula.ForAll ty body) elements ≡ all_below (size_of s (member_of s members ty))
    (λ element. truth s members body (element ∷ elements))
unfolding truth
truth-for_all s members ty body elements =
    ap (λ (x : Formula). truth s members x elements) (sym (formula.rolls-ForAll ty body))
    ∙ ap (λ (h : List ℕ → Bool). h elements) (fold-roll-Formula (List ℕ → Bool) (truth_step s members) (layer.ForAll ty body))

pub truth-exists : (s : Typed) (members : List ℕ) (ty : Ty) (body : Formula) (elements : List ℕ) →
    truth s members (formula.Exists ty body) elements ≡ some_below (size_of s (member_of s members ty))
    (λ element. truth s members body (element ∷ elements))
unfolding truth
truth-exists s members ty body elements =
    ap (λ (x : Formula). truth s members x elements) (sym (formula.rolls-Exists ty body))
    ∙ ap (λ (h : List ℕ → Bool). h elements) (fold-roll-Formula (List ℕ → Bool) (truth_step s members) (layer.Exists ty body))

pub normal_truth-true : (s : Typed) (members elements : List ℕ) →
    normal_truth s members nnf.True elements ≡ true
unfolding normal_truth
normal_truth-true s members elements =
    ap (λ (x : Nnf). normal_truth s members x elements) (sym nnf.rolls-True)
    ∙ ap (λ (h : List ℕ → Bool). h elements) (fold-roll-Nnf (List ℕ → Bool) (normal_truth_step s members) nnf_layer.True)

pub normal_truth-false : (s : Typed) (members elements : List ℕ) →
    normal_truth s members nnf.False elements ≡ false
unfolding normal_truth
normal_truth-false s members elements =
    ap (λ (x : Nnf). normal_truth s members x elements) (sym nnf.rolls-False)
    ∙ ap (λ (h : List ℕ → Bool). h elements) (fold-roll-Nnf (List ℕ → Bool) (normal_truth_step s members) nnf_layer.False)

pub normal_truth-atom : (s : Typed) (members : List ℕ) (positive : Bool) (f : ℕ) (types : List Ty) (terms : List Term) (elements : List ℕ) →
    normal_truth s members (nnf.Atom positive f types terms) elements ≡ signed positive (holds_at s members elements f types terms)
unfolding normal_truth
normal_truth-atom s members positive f types terms elements =
    ap (λ (x : Nnf). normal_truth s members x elements) (sym (nnf.rolls-Atom positive f types terms))
    ∙ ap (λ (h : List ℕ → Bool). h elements) (fold-roll-Nnf (List ℕ → Bool) (normal_truth_step s members) (nnf_layer.Atom positive f types terms))

pub normal_truth-equation : (s : Typed) (members : List ℕ) (positive : Bool) (ty : Ty) (left right : Term) (elements : List ℕ) →
    normal_truth s members (nnf.Equation positive ty left right) elements ≡ signed positive
    (eqb (value s members elements left) (value s members elements right))
unfolding normal_truth
normal_truth-equation s members positive ty left right elements =
    ap (λ (x : Nnf). normal_truth s members x elements) (sym (nnf.rolls-Equation positive ty left right))
    ∙ ap (λ (h : List ℕ → Bool). h elements) (fold-roll-Nnf (List ℕ → Bool) (normal_truth_step s members) (nnf_layer.Equation positive ty left right))

pub normal_truth-and : (s : Typed) (members : List ℕ) (parts : List Nnf) (elements : List ℕ) →
    normal_truth s members (nnf.And parts) elements ≡ list_all (λ part. normal_truth s members part elements) parts
unfolding normal_truth
normal_truth-and s members parts elements =
    ap (λ (x : Nnf). normal_truth s members x elements) (sym (nnf.rolls-And parts))
    ∙ ap (λ (h : List ℕ → Bool). h elements) (fold-roll-Nnf (List ℕ → Bool) (normal_truth_step s members) (nnf_layer.And parts))
    ∙ list_all-map (λ (test : List ℕ → Bool). test elements) (normal_truth s members) parts

pub normal_truth-or : (s : Typed) (members : List ℕ) (parts : List Nnf) (elements : List ℕ) →
    normal_truth s members (nnf.Or parts) elements ≡ list_any (λ part. normal_truth s members part elements) parts
unfolding normal_truth
normal_truth-or s members parts elements =
    ap (λ (x : Nnf). normal_truth s members x elements) (sym (nnf.rolls-Or parts))
    ∙ ap (λ (h : List ℕ → Bool). h elements) (fold-roll-Nnf (List ℕ → Bool) (normal_truth_step s members) (nnf_layer.Or parts))
    ∙ list_any-map (λ (test : List ℕ → Bool). test elements) (normal_truth s members) parts

pub normal_truth-for_all : (s : Typed) (members : List ℕ) (ty : Ty) (body : Nnf) (elements : List ℕ) →
    normal_truth s members (nnf.ForAll ty body) elements ≡ all_below (size_of s (member_of s members ty))
    (λ element. normal_truth s members body (element ∷ elements))
unfolding normal_truth
normal_truth-for_all s members ty body elements =
    ap (λ (x : Nnf). normal_truth s members x elements) (sym (nnf.rolls-ForAll ty body))
    ∙ ap (λ (h : List ℕ → Bool). h elements) (fold-roll-Nnf (List ℕ → Bool) (normal_truth_step s members) (nnf_layer.ForAll ty body))

pub normal_truth-exists : (s : Typed) (members : List ℕ) (ty : Ty) (body : Nnf) (elements : List ℕ) →
    normal_truth s members (nnf.Exists ty body) elements ≡ some_below (size_of s (member_of s members ty))
    (λ element. normal_truth s members body (element ∷ elements))
unfolding normal_truth
normal_truth-exists s members ty body elements =
    ap (λ (x : Nnf). normal_truth s members x elements) (sym (nnf.rolls-Exists ty body))
    ∙ ap (λ (h : List ℕ → Bool). h elements) (fold-roll-Nnf (List ℕ → Bool) (normal_truth_step s members) (nnf_layer.Exists ty body))
