-- What the calls of the tests ask for, of the samples.
use Rattle.std.specs.Prelude.{ℕ, ◌≡◌, ◌<◌, ◌^◌, List, [], ◌∷◌, length}
use Rattle.std.proofs.Common.{refl, sym, ap, ◌∙◌, subst, arith}
use Rattle.tf_core.specs.declared.ty.Ty.{Ty}
use Rattle.tf_core.specs.declared.ty.Ty.TheVariants as type
use Rattle.tf_core.specs.declared.term.Term.{Term}
use Rattle.tf_core.specs.declared.term.Term.TheVariants as term
use Rattle.tf_core.specs.declared.problem.Role.{Role}
use Rattle.tf_core.specs.Types.{instantiate}
use Rattle.tf_core.specs.Counts.{depth, most_types, most_terms}
use Rattle.tf_core.specs.Typing.{IsType, type_variable, type_apply, no_types, more_types, HasType, of_variable, of_apply, no_terms, more_terms, IsFormula, is_atom, is_for_all, is_exists, IsSignature, IsProblem}
use Rattle.tf_core.proofs.Types.{instantiate-variable, instantiate-apply, type_value-apply}
use Rattle.tf_core.proofs.Counts.{depth-atom, depth-for_all, depth-exists}
use Rattle.tf_core.specs.TypedTables.{constructor_entry}
use Rattle.tf_models.specs.Assignment.{Assignment}
use Rattle.tf_models.specs.Reading.{tables}
use Rattle.tf_models.specs.Evaluation.{member_in, size_in, IsTerm, IsTrueOrFalse}
use Rattle.tf_models.specs.Samples.{individuals, boxed, constant, predicate, function, signature, once, twice, atom, problem, structure}

-- types

module _ (variables : ℕ) where
  pub individuals_formed : IsType signature variables individuals
  individuals_formed =
      type_apply 0 (record { name = 36 ∷ 105 ∷ []; arity = 0 }) [] refl refl no_types

  pub box_formed : (ty : Ty) → IsType signature variables ty → IsType signature variables
      (type.Apply 1 (ty ∷ []))
  box_formed ty formed =
      type_apply 1 (record { name = 98 ∷ []; arity = 1 }) (ty ∷ []) refl refl
      (more_types ty [] formed no_types)

variable_formed : IsType signature 1 (type.Var 0)
variable_formed = type_variable 0 (omega arith)

pub signature_typed : IsSignature signature
signature_typed = (
  record { arguments = no_types; result = individuals_formed 0 },
  (
    record { arguments = more_types (type.Var 0) [] variable_formed no_types; result = tt },
    (
      record {
        arguments = more_types (type.Var 0) [] variable_formed no_types;
        result = box_formed 1 (type.Var 0) variable_formed;
      },
      tt,
    ),
  ),
)

-- terms

argument_is : (ty : Ty) → ty ≡ instantiate (ty ∷ []) (type.Var 0)
argument_is ty = sym (instantiate-variable (ty ∷ []) 0)

result_is : (ty : Ty) → instantiate (ty ∷ []) (type.Apply 1 (type.Var 0 ∷ []))
    ≡ type.Apply 1 (ty ∷ [])
result_is ty =
    instantiate-apply (ty ∷ []) 1 (type.Var 0 ∷ [])
    ∙ ap (λ x. type.Apply 1 (x ∷ [])) (sym (argument_is ty))

constant_typed : HasType signature 0 [] (term.Apply 0 [] []) individuals
constant_typed =
    subst (HasType signature 0 [] (term.Apply 0 [] [])) (instantiate-apply [] 0 [])
    (of_apply 0 constant individuals [] []
    (record { at = refl; gives = refl; count = refl; formed = no_types }) no_terms)

function_typed : (ty : Ty) (t : Term) → IsType signature 0 ty → HasType signature 0 [] t ty →
    HasType signature 0 [] (term.Apply 2 (ty ∷ []) (t ∷ [])) (type.Apply 1 (ty ∷ []))
function_typed ty t formed typed =
    subst (HasType signature 0 [] (term.Apply 2 (ty ∷ []) (t ∷ []))) (result_is ty)
    (of_apply 2 function (type.Apply 1 (type.Var 0 ∷ [])) (ty ∷ []) (t ∷ [])
    (record { at = refl; gives = refl; count = refl; formed = more_types ty [] formed no_types })
    (more_terms t (instantiate (ty ∷ []) (type.Var 0)) [] []
    (subst (HasType signature 0 [] t) (argument_is ty) typed) no_terms))

-- an environment without members
abbrev pub with_elements : ℕ → ℕ → List ℕ → Assignment
with_elements types terms elements = record {
  members = [];
  members_room = types;
  elements = elements;
  elements_room = terms;
}

pub twice_typed : (types terms : ℕ) → IsTerm signature structure (with_elements types terms [])
    twice
twice_typed types terms = record {
  context = [];
  ty = type.Apply 1 (boxed ∷ []);
  typed =
      function_typed boxed once (box_formed 0 individuals (individuals_formed 0))
      (function_typed individuals (term.Apply 0 [] []) (individuals_formed 0) constant_typed);
  assigned = record { members = tt; elements = tt };
}

-- formulas

atom_typed : (variables : ℕ) (ty : Ty) → IsType signature variables ty →
    IsFormula signature variables (ty ∷ []) (atom ty)
atom_typed variables ty formed =
    is_atom (ty ∷ []) 1 predicate (ty ∷ []) (term.Var 0 ∷ [])
    (record {
      predicate = record {
        at = refl;
        gives = refl;
        count = refl;
        formed =
            more_types ty [] formed no_types;
      };
      arguments =
          more_terms (term.Var 0) (instantiate (ty ∷ []) (type.Var 0)) [] []
          (subst (HasType signature variables (ty ∷ []) (term.Var 0)) (argument_is ty)
          (of_variable 0 ty refl)) no_terms;
    })

pub problem_typed : (first second : Role) → IsProblem (problem first second)
problem_typed first second = record {
  signature = signature_typed;
  formulas = (
    is_exists [] (type.Var 0) (atom (type.Var 0)) variable_formed
        (atom_typed 1 (type.Var 0) variable_formed),
    (
      is_for_all [] boxed (atom boxed) (box_formed 0 individuals (individuals_formed 0))
          (atom_typed 0 boxed (box_formed 0 individuals (individuals_formed 0))),
      tt,
    ),
  );
}

-- members

individuals_is : member_in structure [] individuals ≡ 0
individuals_is = type_value-apply (constructor_entry (tables structure)) [] 0 []

boxed_is : member_in structure [] boxed ≡ 1
boxed_is =
    type_value-apply (constructor_entry (tables structure)) [] 1 (individuals ∷ [])
    ∙ ap (λ n. constructor_entry (tables structure) 1 (n ∷ [])) individuals_is

pub atom_evaluated : (types terms : ℕ) (ty : Ty) → IsType signature 0 ty → 0 < size_in structure []
    ty →
    IsTrueOrFalse signature structure (with_elements types terms (0 ∷ [])) (atom ty)
atom_evaluated types terms ty formed some = record {
  context = ty ∷ [];
  typed = atom_typed 0 ty formed;
  assigned = record { members = tt; elements = (some, tt) };
}

pub individuals_some : 0 < size_in structure [] individuals
individuals_some = rw individuals_is (omega arith)

pub boxed_some : 0 < size_in structure [] boxed
boxed_some = rw boxed_is (omega arith)

pub boxed_formed : IsType signature 0 boxed
boxed_formed = box_formed 0 individuals (individuals_formed 0)

-- rooms

pub atom_depth : (ty : Ty) → depth (atom ty) ≡ 0
atom_depth ty = depth-atom 1 (ty ∷ []) (term.Var 0 ∷ [])

pub one_type : (first second : Role) → most_types (problem first second) ≡ 1
one_type first second = refl

pub one_term : (first second : Role) → most_terms (problem first second) ≡ 1
one_term first second =
    omega (
      arith,
      depth-exists (type.Var 0) (atom (type.Var 0)),
      depth-for_all boxed (atom boxed),
      atom_depth (type.Var 0),
      atom_depth boxed,
    )

pub few_members : length structure.sizes < 2 ^ 32
few_members = omega arith
