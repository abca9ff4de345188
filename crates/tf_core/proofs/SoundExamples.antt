-- A problem and a normal problem of two nested binders each are sound: what the tests count.
use Rattle.std.specs.Prelude.{ℕ, ◌≡◌, ◌+◌, ◌<◌, ◌^◌, ◌&&◌, Bool, true, List, [], ◌∷◌, IsTrue}
use Rattle.std.proofs.Common.{refl, sym, ap, subst, ◌∙◌, lit<, lit≤}
use Rattle.std.specs.List.{list_all}
use Rattle.std.proofs.lemmas.Bool.{false≢true, and_from, lt-ltb}
use Rattle.tf_core.specs.declared.ty.Ty.{Ty}
use Rattle.tf_core.specs.declared.ty.Ty.TheVariants as type
use Rattle.tf_core.specs.declared.term.Term.{Term}
use Rattle.tf_core.specs.declared.term.Term.TheVariants as term
use Rattle.tf_core.specs.declared.formula.Formula.{Formula, roll-Formula}
use Rattle.tf_core.specs.declared.formula.Formula.TheVariants as formula
use Rattle.tf_core.specs.declared.formula.Formula.TheOpen.{Formula-F}
use Rattle.tf_core.specs.declared.formula.Formula.TheOpen as formula_layer
use Rattle.tf_core.specs.declared.formula.Formula.TheFolds.{fold-roll-Formula, map-Formula}
use Rattle.tf_core.specs.declared.nnf.Nnf.{Nnf, roll-Nnf}
use Rattle.tf_core.specs.declared.nnf.Nnf.TheVariants as nnf
use Rattle.tf_core.specs.declared.nnf.Nnf.TheOpen.{Nnf-F}
use Rattle.tf_core.specs.declared.nnf.Nnf.TheOpen as nnf_layer
use Rattle.tf_core.specs.declared.nnf.Nnf.TheFolds.{fold-roll-Nnf, map-Nnf}
use Rattle.tf_core.specs.declared.problem.Role.TheVariants.{Conjecture}
use Rattle.tf_core.specs.declared.signature.Signature.{Signature}
use Rattle.tf_core.specs.Types.{type_nodes}
use Rattle.tf_core.specs.Substitution.{variables_below}
use Rattle.tf_core.specs.Typing.{type_variable, IsFormula, is_true, is_false, is_iff, is_for_all, is_exists, IsNnf, nnf_true, nnf_for_all, nnf_exists}
use Rattle.tf_core.specs.Counts.{binder_sum, normal_sum, has_pairs, has_pairs_step, normal_has_pairs, normal_has_pairs_step}
use Rattle.tf_core.specs.Sound.{IsSound, IsSoundNormal, individuals}
use Rattle.tf_core.proofs.Counts.{binder_sum-true, binder_sum-false, binder_sum-iff, binder_sum-for_all, binder_sum-exists, normal_sum-true, normal_sum-for_all, normal_sum-exists}
use Rattle.tf_core.proofs.Substitution.{variables_below-variable, variables_below-apply}
use Rattle.tf_core.proofs.Types.{type_nodes-variable}

abbrev pub only_individuals : Signature
only_individuals = record { constructors = individuals ∷ []; symbols = [] }

-- a formula

abbrev pub nested : Formula
nested = formula.ForAll (type.Var 1) (formula.Exists (type.Var 0) (formula.Iff formula.True formula.False))

nested_typed : IsFormula only_individuals 2 [] nested
nested_typed =
    is_for_all [] (type.Var 1) _ (type_variable 1 (lit< tt))
    (is_exists (type.Var 1 ∷ []) (type.Var 0) _ (type_variable 0 (lit< tt))
    (is_iff (type.Var 0 ∷ type.Var 1 ∷ []) formula.True formula.False
    (is_true (type.Var 0 ∷ type.Var 1 ∷ [])) (is_false (type.Var 0 ∷ type.Var 1 ∷ []))))

has_pairs-roll : (x : Formula-F Formula) →
    has_pairs (roll-Formula x) ≡ has_pairs_step (map-Formula Formula Bool has_pairs x)
unfolding has_pairs
has_pairs-roll x = fold-roll-Formula Bool has_pairs_step x

nested_pairs : IsTrue (has_pairs nested)
nested_pairs =
    ap has_pairs (sym (formula.rolls-ForAll (type.Var 1) _)) ∙ has_pairs-roll (formula_layer.ForAll (type.Var 1) _)
    ∙ ap has_pairs (sym (formula.rolls-Exists (type.Var 0) _)) ∙ has_pairs-roll (formula_layer.Exists (type.Var 0) _)
    ∙ ap has_pairs (sym (formula.rolls-Iff formula.True formula.False))
    ∙ has_pairs-roll (formula_layer.Iff formula.True formula.False)
    ∙ ap (λ b. b && has_pairs formula.False) (ap has_pairs (sym formula.rolls-True) ∙ has_pairs-roll formula_layer.True)
    ∙ (ap has_pairs (sym formula.rolls-False) ∙ has_pairs-roll formula_layer.False)

nested_sum : (binder : Ty → ℕ) →
    binder_sum binder nested ≡ binder (type.Var 1) + (binder (type.Var 0) + (0 + 0))
nested_sum binder =
    binder_sum-for_all binder (type.Var 1) _
    ∙ ap (λ n. binder (type.Var 1) + n)
    (binder_sum-exists binder (type.Var 0) _
    ∙ ap (λ n. binder (type.Var 0) + n)
    (binder_sum-iff binder formula.True formula.False
    ∙ ap (λ n. n + binder_sum binder formula.False) (binder_sum-true binder)
    ∙ ap (λ n. 0 + n) (binder_sum-false binder)))

nested_nodes : binder_sum type_nodes nested ≡ 2
nested_nodes =
    nested_sum type_nodes
    ∙ ap (λ n. n + (type_nodes (type.Var 0) + (0 + 0))) (type_nodes-variable 1)
    ∙ ap (λ n. 1 + (n + (0 + 0))) (type_nodes-variable 0)

pub nested_sound : (name : List ℕ) → IsSound (record {
  signature = only_individuals;
  formulas = record { name = name; role = Conjecture; type_variables = 2; body = nested } ∷ [];
})
nested_sound name = record {
  signature = record {
    typed = tt;
    first = refl;
    constructor_count = lit< tt;
    symbol_count = lit< tt;
    arities = (lit< tt, tt);
    symbols = tt;
  };
  formulas = (
    record {
      typed = nested_typed;
      pairs = nested_pairs;
      type_variables = lit< tt;
      binders = subst (λ n. n < 2 ^ 27) (sym (nested_sum (λ ty. 1))) (lit< tt);
    },
    tt,
  );
  conjectures = lit≤ tt;
  nodes = subst (λ n. 0 + (0 + n) < 2 ^ 27) (sym nested_nodes) (lit< tt);
}

-- a formula in negation normal form

abbrev pub normal_nested : Nnf
normal_nested = nnf.ForAll (type.Var 1) (nnf.Exists (type.Var 2) nnf.True)

normal_nested_typed : IsNnf only_individuals 3 [] normal_nested
normal_nested_typed =
    nnf_for_all [] (type.Var 1) _ (type_variable 1 (lit< tt))
    (nnf_exists (type.Var 1 ∷ []) (type.Var 2) _ (type_variable 2 (lit< tt))
    (nnf_true (type.Var 2 ∷ type.Var 1 ∷ [])))

normal_has_pairs-roll : (x : Nnf-F Nnf) →
    normal_has_pairs (roll-Nnf x) ≡ normal_has_pairs_step (map-Nnf Nnf Bool normal_has_pairs x)
unfolding normal_has_pairs
normal_has_pairs-roll x = fold-roll-Nnf Bool normal_has_pairs_step x

normal_nested_pairs : IsTrue (normal_has_pairs normal_nested)
normal_nested_pairs =
    ap normal_has_pairs (sym (nnf.rolls-ForAll (type.Var 1) _)) ∙ normal_has_pairs-roll (nnf_layer.ForAll (type.Var 1) _)
    ∙ ap normal_has_pairs (sym (nnf.rolls-Exists (type.Var 2) _)) ∙ normal_has_pairs-roll (nnf_layer.Exists (type.Var 2) _)
    ∙ ap normal_has_pairs (sym nnf.rolls-True) ∙ normal_has_pairs-roll nnf_layer.True

normal_nested_sum : (binder equation : ℕ) →
    normal_sum binder equation normal_nested ≡ binder + (binder + 0)
normal_nested_sum binder equation =
    normal_sum-for_all binder equation (type.Var 1) _
    ∙ ap (λ n. binder + n)
    (normal_sum-exists binder equation (type.Var 2) _
    ∙ ap (λ n. binder + n) (normal_sum-true binder equation))

pub normal_nested_sound : (name : List ℕ) (negated : Bool) → IsSoundNormal (record {
  signature = only_individuals;
  formulas = record { name = name; negated = negated; type_variables = 3; body = normal_nested } ∷ [];
  fresh = 0;
})
normal_nested_sound name negated = record {
  signature = record {
    typed = tt;
    first = refl;
    constructor_count = lit< tt;
    symbol_count = lit< tt;
    arities = (lit< tt, tt);
    symbols = tt;
  };
  formulas = (
    record {
      typed = normal_nested_typed;
      pairs = normal_nested_pairs;
      type_variables = lit< tt;
      binders = subst (λ n. n < 2 ^ 28) (sym (normal_nested_sum 1 0)) (lit< tt);
      equations = subst (λ n. n < 2 ^ 28) (sym (normal_nested_sum 0 1)) (lit< tt);
    },
    tt,
  );
  fresh = lit< tt;
  fresh_arities = tt;
  sort_count = λ monomorphic. absurd (false≢true monomorphic);
}

-- terms

-- the variable of an application to it alone is below a bound
pub argument_below : (bound i f : ℕ) (types : List Ty) (terms : List Term) → terms ≡ term.Var i ∷ [] →
    i < bound → IsTrue (variables_below bound (term.Apply f types terms))
argument_below bound i f types terms is within =
    variables_below-apply bound f types terms
    ∙ ap (list_all (variables_below bound)) is
    ∙ and_from (variables_below bound (term.Var i)) true
    (variables_below-variable bound i ∙ lt-ltb i bound within) refl
