-- The small problems of the tests are sound.
use Rattle.std.proofs.Common.{ℕ, ◌+◌, ◌^◌, ◌<◌, ◌≤◌, ◌≡◌, Bool, true, false, List, [], ◌∷◌, cond, refl, sym, ap, subst, ◌∙◌, arith, lit<, lit≤}
use Rattle.std.specs.Prelude.{IsTrue}
use Rattle.std.proofs.lemmas.Bool.{and_from}
use Rattle.std.proofs.lemmas.List.Sums.{sum_by-cons}
use Rattle.tf_core.specs.declared.ty.Ty.{Ty}
use Rattle.tf_core.specs.declared.ty.Ty.TheVariants as type
use Rattle.tf_core.specs.declared.term.Term.TheVariants as term
use Rattle.tf_core.specs.declared.formula.Formula.{Formula}
use Rattle.tf_core.specs.declared.formula.Formula.TheVariants as formula
use Rattle.tf_core.specs.declared.signature.Signature.{Signature}
use Rattle.tf_core.specs.declared.problem.Role.{Role}
use Rattle.tf_core.specs.declared.problem.Stated.{Stated}
use Rattle.tf_core.specs.declared.problem.Problem.{Problem}
use Rattle.tf_core.specs.Types.{type_nodes}
use Rattle.tf_core.specs.Typing.{IsFormula, type_variable, no_types, of_variable, no_terms, is_atom, is_equal, is_and, is_implies, is_iff, is_xor, is_for_all, no_formulas, more_formulas}
use Rattle.tf_core.specs.Counts.{binder_sum, has_pairs}
use Rattle.tf_core.specs.Sound.{is_conjecture, IsSound, IsSoundBelow}
use Rattle.tf_core.proofs.Types.{type_nodes-variable}
use Rattle.tf_core.proofs.Counts.{binder_sum-atom, binder_sum-equal, binder_sum-and, binder_sum-implies, binder_sum-iff, binder_sum-xor, binder_sum-for_all}
use Rattle.tf_nnf.specs.Samples.{proposition, propositions, stating, IsFit, all_equal, both_all_equal}
use Rattle.tf_nnf.proofs.Pairs.{has_pairs-atom, has_pairs-equal, has_pairs-and, has_pairs-implies, has_pairs-iff, has_pairs-xor, has_pairs-for_all}

-- formulas without binders

pub record IsPropositional (body : Formula) : Type 0 where
  pub typed : IsFormula propositions 0 [] body
  pub pairs : IsTrue (has_pairs body)
  pub binders : (binder : Ty → ℕ) → binder_sum binder body ≡ 0

pub propositional_fits : (body : Formula) → IsPropositional body → IsFit 0 body
propositional_fits body is = record {
  typed = is.typed;
  pairs = is.pairs;
  binders = omega (arith, is.binders (λ ty. 1));
  nodes = omega (arith, is.binders type_nodes);
}

pub p_is : IsPropositional (formula.Atom 0 [] [])
p_is = record {
  typed =
      is_atom [] 0 (proposition 112) [] []
      (record {
        predicate = record { at = refl; gives = refl; count = refl; formed = no_types };
        arguments = no_terms;
      });
  pairs = has_pairs-atom 0 [] [];
  binders = λ binder. binder_sum-atom binder 0 [] [];
}

q_is : IsPropositional (formula.Atom 1 [] [])
q_is = record {
  typed =
      is_atom [] 1 (proposition 113) [] []
      (record {
        predicate = record { at = refl; gives = refl; count = refl; formed = no_types };
        arguments = no_terms;
      });
  pairs = has_pairs-atom 1 [] [];
  binders = λ binder. binder_sum-atom binder 1 [] [];
}

pub p_equals : (a : Formula) → a ≡ formula.Atom 0 [] [] → IsPropositional a
p_equals a is = subst IsPropositional (sym is) p_is

pub q_equals : (b : Formula) → b ≡ formula.Atom 1 [] [] → IsPropositional b
q_equals b is = subst IsPropositional (sym is) q_is

module _ (a b : Formula) (left : IsPropositional a) (right : IsPropositional b) where
  pub implies_is : IsPropositional (formula.Implies a b)
  implies_is = record {
    typed = is_implies [] a b left.typed right.typed;
    pairs = has_pairs-implies a b ∙ and_from (has_pairs a) (has_pairs b) left.pairs right.pairs;
    binders = λ binder.
        omega (arith, binder_sum-implies binder a b, left.binders binder, right.binders binder);
  }

  pub iff_is : IsPropositional (formula.Iff a b)
  iff_is = record {
    typed = is_iff [] a b left.typed right.typed;
    pairs = has_pairs-iff a b ∙ and_from (has_pairs a) (has_pairs b) left.pairs right.pairs;
    binders = λ binder.
        omega (arith, binder_sum-iff binder a b, left.binders binder, right.binders binder);
  }

  pub xor_is : IsPropositional (formula.Xor a b)
  xor_is = record {
    typed = is_xor [] a b left.typed right.typed;
    pairs = has_pairs-xor a b ∙ and_from (has_pairs a) (has_pairs b) left.pairs right.pairs;
    binders = λ binder.
        omega (arith, binder_sum-xor binder a b, left.binders binder, right.binders binder);
  }

-- formulas over type variables

equal_pairs : (i : ℕ) → IsTrue (has_pairs (all_equal i))
equal_pairs i =
    has_pairs-for_all (type.Var i)
    (formula.ForAll (type.Var i) (formula.Equal (type.Var i) (term.Var 1) (term.Var 0)))
    ∙ has_pairs-for_all (type.Var i) (formula.Equal (type.Var i) (term.Var 1) (term.Var 0))
    ∙ has_pairs-equal (type.Var i) (term.Var 1) (term.Var 0)

equal_binders : (i : ℕ) (binder : Ty → ℕ) →
    binder_sum binder (all_equal i) ≡ binder (type.Var i) + (binder (type.Var i) + 0)
equal_binders i binder =
    binder_sum-for_all binder (type.Var i)
    (formula.ForAll (type.Var i) (formula.Equal (type.Var i) (term.Var 1) (term.Var 0)))
    ∙ ap (λ n. binder (type.Var i) + n)
    (binder_sum-for_all binder (type.Var i) (formula.Equal (type.Var i) (term.Var 1) (term.Var 0))
    ∙ ap (λ n. binder (type.Var i) + n)
    (binder_sum-equal binder (type.Var i) (term.Var 1) (term.Var 0)))

equal_typed : (i variables : ℕ) → i < variables → IsFormula propositions variables [] (all_equal i)
equal_typed i variables within =
    let ty : Ty = type.Var i in
    is_for_all [] ty (formula.ForAll ty (formula.Equal ty (term.Var 1) (term.Var 0)))
    (type_variable i within)
    (is_for_all (ty ∷ []) ty (formula.Equal ty (term.Var 1) (term.Var 0)) (type_variable i within)
    (is_equal (ty ∷ ty ∷ []) ty (term.Var 1) (term.Var 0)
    (record {
      formed = type_variable i within;
      left_side = of_variable 1 ty refl;
      right_side = of_variable 0 ty refl;
    })))

pub all_equal_fits : IsFit 1 (all_equal 0)
all_equal_fits = record {
  typed = equal_typed 0 1 (lit< tt);
  pairs = equal_pairs 0;
  binders = omega (arith, equal_binders 0 (λ ty. 1));
  nodes = omega (arith, equal_binders 0 type_nodes, type_nodes-variable 0);
}

pub both_fit : IsFit 2 both_all_equal
both_fit = record {
  typed =
      is_and [] (all_equal 0 ∷ all_equal 1 ∷ [])
      (more_formulas [] (all_equal 0) (all_equal 1 ∷ []) (equal_typed 0 2 (lit< tt))
      (more_formulas [] (all_equal 1) [] (equal_typed 1 2 (lit< tt)) (no_formulas [])));
  pairs =
      has_pairs-and (all_equal 0 ∷ all_equal 1 ∷ [])
      ∙ and_from (has_pairs (all_equal 0)) _ (equal_pairs 0)
      (and_from (has_pairs (all_equal 1)) true (equal_pairs 1) refl);
  binders =
      omega (
        arith,
        binder_sum-and (λ ty. 1) (all_equal 0 ∷ all_equal 1 ∷ []),
        equal_binders 0 (λ ty. 1),
        equal_binders 1 (λ ty. 1),
      );
  nodes =
      omega (
        arith,
        binder_sum-and type_nodes (all_equal 0 ∷ all_equal 1 ∷ []),
        equal_binders 0 type_nodes,
        equal_binders 1 type_nodes,
        type_nodes-variable 0,
        type_nodes-variable 1,
      );
}

-- the problem of one formula

propositions_sound : IsSoundBelow (2 ^ 27) propositions
propositions_sound = record {
  typed = (
    record { arguments = no_types; result = tt },
    (record { arguments = no_types; result = tt }, tt),
  );
  first = refl;
  constructor_count = lit< tt;
  symbol_count = lit< tt;
  arities = (lit< tt, tt);
  symbols = (
    record { parameters = lit< tt; arguments = lit< tt },
    (record { parameters = lit< tt; arguments = lit< tt }, tt),
  );
}

at_most_one : (b : Bool) → (let count : ℕ = cond b 1 0 in count) ≤ 1
at_most_one true = lit≤ tt
at_most_one false = lit≤ tt

pub stating_sound : (role : Role) (type_variables : ℕ) (body : Formula) →
    IsFit type_variables body → type_variables < 16 → IsSound (stating role type_variables body)
stating_sound role type_variables body fit few =
    let stated : Stated =
    record { name = 120 ∷ []; role = role; type_variables = type_variables; body = body } in
    record {
      signature = propositions_sound;
      formulas = (
        record {
          typed = fit.typed;
          pairs = fit.pairs;
          type_variables = omega (arith, few);
          binders = omega (arith, fit.binders);
        },
        tt,
      );
      conjectures =
          omega (
            arith,
            sum_by-cons (λ (x : Stated). cond (is_conjecture x.role) 1 0) stated [],
            at_most_one (is_conjecture role),
          );
      nodes = omega (arith, fit.nodes);
    }

pub stating_is : (signature : Signature) (formulas : List Stated) (name : List ℕ) (role : Role)
    (type_variables : ℕ) (body : Formula) → signature ≡ propositions →
    formulas
    ≡ record { name = name; role = role; type_variables = type_variables; body = body } ∷ [] →
    name ≡ 120 ∷ [] →
    (let made : Problem = record { signature = signature; formulas = formulas } in made)
    ≡ stating role type_variables body
stating_is signature formulas name role type_variables body g_is formulas_are name_is =
    ap (λ (g : Signature).
    let made : Problem = record { signature = g; formulas = formulas } in made) g_is
    ∙ ap (λ (fs : List Stated).
    let made : Problem = record { signature = propositions; formulas = fs } in made)
    (formulas_are
    ∙ ap (λ (n : List ℕ).
    let stated : Stated =
    record { name = n; role = role; type_variables = type_variables; body = body } in
    stated ∷ []) name_is)
