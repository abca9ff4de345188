-- The samples fit every signature.
use Rattle.std.specs.Prelude.{ℕ, zero, suc, ◌<◌, ◌≤◌, ◌-◌, ◌^◌, Bool, true, false, List, [], ◌∷◌, cond, eqb, ltb, length, replicate, get_or, slice_index}
use Rattle.std.specs.List.{All}
use Rattle.std.proofs.Common.{refl, arith}
use Rattle.enc_base.specs.Tables.{EachBelow}
use Rattle.tf_core.specs.declared.ty.Ty.{Ty}
use Rattle.tf_core.specs.declared.signature.Signature.{Signature}
use Rattle.tf_core.specs.Types.{type_value}
use Rattle.tf_core.specs.Structures.{member_of}
use Rattle.tf_core.proofs.Types.{type_value-variable, type_value-apply}
use Rattle.tf_core.proofs.Induction.{type_induction}
use Rattle.structure_tables.specs.Samples.{other_member, as_large, pair, firsts}
use Rattle.structure_tables.specs.Sources.{IsSized}

cond_below : (b : Bool) (x y n : ℕ) → x < n → y < n → cond b x y < n
cond_below true x y n first second = first
cond_below false x y n first second = second

other_member_below : (c : ℕ) (members : List ℕ) → other_member c members < 2
other_member_below c members =
    cond_below (eqb (length members) 0) 0 (1 - slice_index members 0) 2 (omega arith) (omega arith)

as_large_below : (f : ℕ) (members elements : List ℕ) → as_large f members elements < 2
as_large_below f members elements =
    cond_below (ltb (slice_index elements (length elements - 1)) (slice_index members 0)) 0 1 2
    (omega arith) (omega arith)

part_below : (count bound i : ℕ) (members : List ℕ) → 0 < bound →
    EachBelow (replicate count bound) members → get_or members i 0 < bound
part_below count bound i [] some below = some
part_below zero bound i (member ∷ members) some below = absurd below
part_below (suc count) bound zero (member ∷ members) some below = below.0
part_below (suc count) bound (suc i) (member ∷ members) some below =
    part_below count bound i members some below.1

member_below : (count : ℕ) (members : List ℕ) → EachBelow (replicate count 2) members →
    (ty : Ty) → member_of pair members ty < 2
member_below count members below =
    type_induction (λ ty. type_value other_member members ty < 2)
    (λ i. rw (type_value-variable other_member members i) (part_below count 2 i members (omega arith) below))
    (λ c types _. rw (type_value-apply other_member members c types) (other_member_below c _))

two_elements : (member : ℕ) → member < 2 → 2 ≤ slice_index (2 ∷ 3 ∷ []) member
two_elements zero within = omega arith
two_elements (suc zero) within = omega arith
two_elements (suc (suc member)) within = absurd (omega arith)

pub IsSized-pair : (g : Signature) → IsSized g pair (2 ∷ 3 ∷ [])
IsSized-pair g = record {
  fits = record {
    some = omega arith;
    inhabited = λ member within. omega (arith, two_elements member within);
    constructors = λ c constructor members at below. other_member_below c members;
    functions = λ f symbol result members elements at gives arguments.
        omega (
          arith,
          as_large_below f members elements,
          two_elements (member_of pair members result)
              (member_below symbol.parameters members arguments.for_parameters result),
        );
    predicates = λ f symbol members elements at gives arguments. as_large_below f members elements;
  };
  same = refl;
  few = omega arith;
}

-- firsts

pub IsSized-firsts : (g : Signature) (sizes : List ℕ) → 0 < length sizes → length sizes < 2 ^ 32 →
    All (λ size. 0 < size) sizes → IsSized g (firsts sizes) sizes
IsSized-firsts g sizes some few positive = record {
  fits = record {
    some = some;
    inhabited = λ member within. positive member 0 within;
    constructors = λ c constructor members at below. some;
    functions = λ f symbol result members elements at gives arguments.
        positive (member_of (firsts sizes) members result) 0
        (first_below symbol.parameters members arguments.for_parameters result);
    predicates = λ f symbol members elements at gives arguments. omega arith;
  };
  same = refl;
  few = few;
}
  where
    first_below : (count : ℕ) (members : List ℕ) →
        EachBelow (replicate count (length sizes)) members → (ty : Ty) →
        member_of (firsts sizes) members ty < length sizes
    first_below count members below =
        type_induction (λ ty. type_value (λ c ms. 0) members ty < length sizes)
        (λ i. rw (type_value-variable (λ c ms. 0) members i)
        (part_below count (length sizes) i members some below))
        (λ c types _. rw (type_value-apply (λ c ms. 0) members c types) some)
