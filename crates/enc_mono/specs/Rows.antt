-- A worked row: lists over any type, natural numbers, two axioms with a type variable and a negated
-- conjecture without.
use Rattle.std.specs.Prelude.{true, false, List, [], ◌∷◌, codes, Some}
use Rattle.tf_core.specs.declared.ty.Ty.{Ty}
use Rattle.tf_core.specs.declared.ty.Ty.TheVariants as type
use Rattle.tf_core.specs.declared.term.Term.{Term}
use Rattle.tf_core.specs.declared.term.Term.TheVariants as term
use Rattle.tf_core.specs.declared.nnf.Nnf.TheVariants as nnf
use Rattle.tf_core.specs.declared.normal.NormalFormula.{NormalFormula}
use Rattle.tf_core.specs.declared.normal.Normal.{Normal}
use Rattle.tf_core.specs.Sound.{individuals}
use Rattle.enc_mono.specs.Monomorphised.{formula_instance, AreGroundForms}

abbrev pub nat : Ty
nat = type.Apply 2 []

abbrev pub list_of : Ty → Ty
list_of ty = type.Apply 1 (ty ∷ [])

abbrev pub nil_at : Ty → Term
nil_at ty = term.Apply 0 (ty ∷ []) []

abbrev pub cons_at : Ty → Term → Term → Term
cons_at ty head tail = term.Apply 1 (ty ∷ []) (head ∷ tail ∷ [])

-- `![A: $tType, X: A, L: list(A)]: nil(A) != cons(A, X, L)`
abbrev pub nil_is_no_cons : NormalFormula
nil_is_no_cons = record {
  name = codes "ne";
  negated = false;
  type_variables = 1;
  body = nnf.ForAll (type.Var 0) (nnf.ForAll (list_of (type.Var 0))
      (nnf.Equation false (list_of (type.Var 0)) (nil_at (type.Var 0))
      (cons_at (type.Var 0) (term.Var 1) (term.Var 0))));
}

-- `![A: $tType, X: A]: cons(list(A), cons(A, X, nil(A)), nil(list(A))) != nil(list(A))`
abbrev pub list_of_lists : NormalFormula
list_of_lists = record {
  name = codes "up";
  negated = false;
  type_variables = 1;
  body = nnf.ForAll (type.Var 0)
      (nnf.Equation false (list_of (list_of (type.Var 0)))
      (cons_at (list_of (type.Var 0)) (cons_at (type.Var 0) (term.Var 0) (nil_at (type.Var 0)))
      (nil_at (list_of (type.Var 0))))
      (nil_at (list_of (type.Var 0))));
}

-- `cons(nat, zero, nil(nat)) != nil(nat)`
abbrev pub zero_alone : NormalFormula
zero_alone = record {
  name = codes "go";
  negated = true;
  type_variables = 0;
  body = nnf.Equation false (list_of nat)
      (cons_at nat (term.Apply 2 [] []) (nil_at nat)) (nil_at nat);
}

abbrev pub list_problem : Normal
list_problem = record {
  signature = record {
    constructors = individuals ∷ record { name = codes "list"; arity = 1 }
        ∷ record { name = codes "nat"; arity = 0 } ∷ [];
    symbols =
        record {
          name = codes "nil";
          parameters = 1;
          arguments = [];
          result = Some (list_of (type.Var 0));
        }
        ∷ record {
          name = codes "cons";
          parameters = 1;
          arguments = type.Var 0 ∷ list_of (type.Var 0) ∷ [];
          result = Some (list_of (type.Var 0));
        }
        ∷ record { name = codes "zero"; parameters = 0; arguments = []; result = Some nat }
        ∷ [];
  };
  formulas = nil_is_no_cons ∷ list_of_lists ∷ zero_alone ∷ [];
  fresh = 0;
}

abbrev pub after_one_round : List NormalFormula
after_one_round =
    formula_instance nil_is_no_cons 0 (nat ∷ []) ∷ formula_instance list_of_lists 0 (nat ∷ [])
    ∷ zero_alone ∷ []

-- Without rounds the conjecture stays alone; one round adds each axiom at the natural numbers, and
-- at no other type.
pub record ListInstances : Type 0 where
  pub without_rounds : AreGroundForms list_problem 0 list_problem.formulas (zero_alone ∷ [])
  pub after_one : AreGroundForms list_problem 1 list_problem.formulas after_one_round
