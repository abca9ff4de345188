-- Fresh constructors in place of type variables.
use Rattle.std.proofs.Common.{ℕ, ◌+◌, ◌<◌, ◌≤◌, ◌≡◌, List, [], map, length, refl, sym, ap, subst, ◌∙◌}
use Rattle.std.proofs.Math.ListN.{get_or-eq_default}
use Rattle.std.proofs.lemmas.List.FromFn.{get_or-map-range_with_len, length-map-range_with_len}
use Rattle.tf_core.specs.declared.ty.Ty.{Ty}
use Rattle.tf_core.specs.declared.ty.Ty.TheVariants as type
use Rattle.tf_core.specs.declared.term.Term.{Term}
use Rattle.tf_core.specs.declared.term.Term.TheVariants as term
use Rattle.tf_core.specs.Types.{instantiate}
use Rattle.tf_core.specs.Substitution.{substitute_term}
use Rattle.tf_nnf.specs.NormalForm.{fresh_types}
use Rattle.tf_nnf.proofs.Substitution.{instantiate-var, instantiate-apply, substitute_term-var, substitute_term-apply}

pub length-fresh_types : (first count : ℕ) → length (fresh_types first count) ≡ count
length-fresh_types first count = length-map-range_with_len (λ i. type.Apply i []) first count

-- a variable that a fresh constructor replaces, and one that is kept

pub instantiate-fresh : (first count i : ℕ) → i < count →
    instantiate (fresh_types first count) (type.Var i) ≡ type.Apply (first + i) []
instantiate-fresh first count i within =
    instantiate-var (fresh_types first count) i
    ∙ get_or-map-range_with_len (λ j. type.Apply j []) first count i (first + i) (type.Var i) within refl

pub instantiate-kept : (first count i : ℕ) → count ≤ i →
    instantiate (fresh_types first count) (type.Var i) ≡ type.Var i
instantiate-kept first count i beyond =
    instantiate-var (fresh_types first count) i
    ∙ get_or-eq_default (fresh_types first count) (type.Var i)
    (subst (λ n. n ≤ i) (sym (length-fresh_types first count)) beyond)

-- instances of what a pattern finds

pub instance_is : (types : List Ty) (ty : Ty) (c : ℕ) (arguments lent made : List Ty) →
    ty ≡ type.Apply c arguments → lent ≡ arguments → made ≡ map (instantiate types) lent →
    type.Apply c made ≡ instantiate types ty
instance_is types ty c arguments lent made is same by_call =
    ap (type.Apply c) (by_call ∙ ap (map (instantiate types)) same)
    ∙ sym (ap (instantiate types) is ∙ instantiate-apply types c arguments)

pub term_variable_is : (types : List Ty) (t : Term) (i : ℕ) → t ≡ term.Var i →
    term.Var i ≡ substitute_term types t
term_variable_is types t i is = sym (ap (substitute_term types) is ∙ substitute_term-var types i)

pub term_instance_is : (types : List Ty) (t : Term) (f : ℕ) (arguments lent made : List Ty)
    (terms lent_terms made_terms : List Term) → t ≡ term.Apply f arguments terms →
    lent ≡ arguments → made ≡ map (instantiate types) lent →
    lent_terms ≡ terms → made_terms ≡ map (substitute_term types) lent_terms →
    term.Apply f made made_terms ≡ substitute_term types t
term_instance_is types t f arguments lent made terms lent_terms made_terms is same by_call same_terms by_second =
    ap (λ x. term.Apply f x made_terms) (by_call ∙ ap (map (instantiate types)) same)
    ∙ ap (λ x. term.Apply f (map (instantiate types) arguments) x) (by_second ∙ ap (map (substitute_term types)) same_terms)
    ∙ sym (ap (substitute_term types) is ∙ substitute_term-apply types f arguments terms)
