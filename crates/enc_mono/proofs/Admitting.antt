-- Substitutions that are matched in an index of a set of symbol instances are those that the set
-- admits.
use Rattle.std.specs.Prelude.{ℕ, suc, ◌≡◌, ◌<◌, IsTrue, List, [], ◌∷◌, map, length, get_or}
use Rattle.std.specs.List.{Contains, AllByRecursion}
use Rattle.std.proofs.Common.{refl, sym, ap, subst, ◌∙◌, arith, inl, inr}
use Rattle.std.proofs.lemmas.Bool.{false≢true, or_cases}
use Rattle.std.proofs.lemmas.Bool.Decides.{Decides-eqb}
use Rattle.tf_core.specs.declared.ty.Ty.{Ty}
use Rattle.tf_core.specs.declared.ty.Ty.TheVariants as type
use Rattle.tf_core.specs.declared.signature.Signature.{Signature}
use Rattle.tf_core.specs.declared.normal.NormalFormula.{NormalFormula}
use Rattle.tf_core.specs.Types.{instantiate}
use Rattle.tf_core.specs.Typing.{IsType, AreTypes, no_types, more_types}
use Rattle.tf_core.specs.Occurrences.{occurs_in_type, occurs_in_types}
use Rattle.tf_core.proofs.Types.{instantiate-variable, instantiate-apply}
use Rattle.tf_core.proofs.Occurrences.{occurs_in_type-variable, occurs_in_type-apply}
use Rattle.tf_core.proofs.Induction.{type_induction}
use Rattle.tf_types.specs.declared.node.TypeId.{TypeId}
use Rattle.tf_types.specs.Numbers.{Denotes, IsNumber}
use Rattle.tf_types.proofs.Numbers.{type_at-Denotes, IsNumber-Denotes, Denotes-type_at}
use Rattle.tf_types.proofs.Nodes.{apply_parts}
use Rattle.enc_mono.specs.declared.instances.Origin.{Origin}
use Rattle.enc_mono.specs.Instances.{instance_under}
use Rattle.enc_mono.specs.Origins.{IsOriginOf}
use Rattle.enc_mono.specs.Rounds.{IsFound, IsAdmittedBy}
use Rattle.enc_mono.specs.Calls.Numbered.{as_type, ArePatterns, numbers_of, AreIndexed, IsFiled, IsIndex}
use Rattle.enc_mono.specs.Calls.Matched.{IsMatched, AreMatched, AreMatchedUpTo, denoted}
use Rattle.enc_mono.specs.Calls.Admitted.{AreAdmittedUpTo}
use Rattle.enc_mono.proofs.Listed.{all-same}
use Rattle.enc_mono.proofs.Filed.{instance_denoted-type}
use Rattle.enc_mono.proofs.Pursued.{all_of}
use Rattle.tf_models.proofs.Inversion.{application_parts}
use Rattle.std.proofs.lemmas.List.{get_or_default}

-- types that stand for variables in well-formed types are well-formed

module _ (g : Signature) (substitution : List Ty) (i : ℕ) (within : i < length substitution) where
  abbrev stands_for : Ty
  stands_for = get_or substitution i (type.Var 0)

  abbrev PartIsTyped : Ty → Type 0
  PartIsTyped ty = IsType g 0 (instantiate substitution ty) → IsTrue (occurs_in_type i ty) →
      IsType g 0 stands_for

  of_variable : (j : ℕ) → PartIsTyped (type.Var j)
  of_variable j typed has =
      let same : i ≡ j = (Decides-eqb i j).0 (sym (occurs_in_type-variable i j) ∙ has) in
      subst (IsType g 0)
      (instantiate-variable substitution j
      ∙ ap (λ k. get_or substitution k (type.Var k)) (sym same)
      ∙ get_or_default substitution i (type.Var i) (type.Var 0) within)
      typed

  in_types : (types : List Ty) → AllByRecursion PartIsTyped types →
      AreTypes g 0 (map (instantiate substitution) types) → IsTrue (occurs_in_types i types) →
      IsType g 0 stands_for
  in_types [] all typed has = absurd (false≢true has)
  in_types (ty ∷ types) all (more_types first rest is are) has =
      elim (or_cases (occurs_in_type i ty) (occurs_in_types i types) has) [
        | inl here ↦ all.0 is here
        | inr there ↦ in_types types all.1 are there
      ]

  of_application : (c : ℕ) (types : List Ty) → AllByRecursion PartIsTyped types →
      PartIsTyped (type.Apply c types)
  of_application c types all typed has =
      let parts = application_parts g 0 (instantiate substitution (type.Apply c types)) c
      (map (instantiate substitution) types) (instantiate-apply substitution c types) typed in
      in_types types all parts.3 (sym (occurs_in_type-apply i c types) ∙ has)

  part_typed : (ty : Ty) → PartIsTyped ty
  part_typed = type_induction PartIsTyped of_variable of_application

  all_parts_typed : (types : List Ty) → AllByRecursion PartIsTyped types
  all_parts_typed [] = tt
  all_parts_typed (ty ∷ types) = (part_typed ty, all_parts_typed types)

  pub typed_where_occurs : (types : List Ty) →
      AreTypes g 0 (map (instantiate substitution) types) → IsTrue (occurs_in_types i types) →
      IsType g 0 stands_for
  typed_where_occurs types = in_types types (all_parts_typed types)

all_typed : (g : Signature) (types : List Ty) →
    ((i : ℕ) → i < length types → IsType g 0 (get_or types i (type.Var 0))) → AreTypes g 0 types
all_typed g [] each = no_types
all_typed g (ty ∷ types) each =
    more_types ty types (each 0 (omega arith))
    (all_typed g types (λ i within. each (suc i) (omega (arith, within))))

-- numbers that are filed are numbers of the table
pub AreIndexed-filed : (types : List Ty) (index : List (List TypeId)) → IsFiled types index →
    AreIndexed types index
AreIndexed-filed types [] filed = tt
AreIndexed-filed types (ids ∷ index) filed = (
  all_of (IsNumber types) ids
      (λ id at. let is = filed 0 id at in
      IsNumber-Denotes types id (type.Apply 0 is.0) is.1),
  all_indexed index (λ f id at. let is = filed (suc f) id at in
      IsNumber-Denotes types id (type.Apply (suc f) is.0) is.1),
)
  where
    all_indexed : (index : List (List TypeId)) →
        ((f : ℕ) (id : TypeId) → Contains (numbers_of index f) id → IsNumber types id) →
        AreIndexed types index
    all_indexed [] each = tt
    all_indexed (ids ∷ index) each = (
      all_of (IsNumber types) ids (each 0),
      all_indexed index (λ f. each (suc f)),
    )

-- matched and admitted
module _ (types : List Ty) (known : Origin → Type 0) (g : Signature) (formula : NormalFormula)
    (index : List (List TypeId)) (patterns : List Ty) (is_index : IsIndex types known index)
    (well : (origin : Origin) → known origin → IsOriginOf g 0 origin)
    (are : ArePatterns formula.body patterns) (polymorphic : 0 < formula.type_variables)
  where
    found_from : (substitution : List Ty) (i : ℕ) →
        IsMatched types index patterns substitution i → IsFound known formula substitution i
    found_from substitution i matched =
        let from = are.each matched.pattern matched.of_formula in
        let origin : Origin = from.0 in
        let instance = matched.known in
        let symbols = apply_parts origin.symbol instance.symbol origin.types instance.arguments
        (sym from.2 ∙ instance.applied) in
        let filed = is_index.filed instance.symbol instance.id instance.stands in
        let number = IsNumber-Denotes types instance.id (type.Apply instance.symbol filed.0)
        filed.1 in
        record {
          origin = origin;
          stands = from.1;
          has = sym (ap (occurs_in_type i) from.2
              ∙ occurs_in_type-apply i origin.symbol origin.types) ∙ matched.has;
          is_known = (is_index.exact (instance_under substitution origin)).1 (
            instance.id,
            subst (λ f. Contains (numbers_of index f) instance.id) (sym symbols.0)
                instance.stands,
            subst (Denotes types instance.id)
                (sym instance.is_instance ∙ ap (instantiate substitution) from.2
                ∙ instance_denoted-type substitution origin)
                (Denotes-type_at types instance.id number),
          );
        }

    matched_from : (substitution : List Ty) (i : ℕ) → IsFound known formula substitution i →
        IsMatched types index patterns substitution i
    matched_from substitution i found =
        let has = (is_index.exact (instance_under substitution found.origin)).0 found.is_known in
        record {
          pattern = as_type found.origin;
          of_formula = are.whole found.origin found.stands;
          has = occurs_in_type-apply i found.origin.symbol found.origin.types ∙ found.has;
          known = record {
            symbol = found.origin.symbol;
            arguments = found.origin.types;
            applied = refl;
            id = has.0;
            stands = has.1;
            is_instance = instance_denoted-type substitution found.origin
                ∙ sym (type_at-Denotes types has.0
                (as_type (instance_under substitution found.origin)) has.2);
          };
        }

    pub admitted_from : (substitution : List Ty) →
        AreMatched types index patterns formula.type_variables substitution →
        IsAdmittedBy known g formula substitution
    admitted_from substitution matched = record {
      polymorphic = polymorphic;
      ground = record {
        count = matched.count;
        formed = all_typed g substitution (λ i within.
            let found = found_from substitution i
            (matched.each i (let count = matched.count in omega (arith, within, count))) in
            let of = well (instance_under substitution found.origin) found.is_known in
            typed_where_occurs g substitution i within found.origin.types of.formed found.has);
      };
      found = λ i within. found_from substitution i (matched.each i within);
    }

    pub matched_back : (substitution : List Ty) → IsAdmittedBy known g formula substitution →
        AreMatched types index patterns formula.type_variables substitution
    matched_back substitution admitted = record {
      count = admitted.ground.count;
      each = λ i within. matched_from substitution i (admitted.found i within);
    }

    pub AreAdmittedUpTo-matched : (most : ℕ) (found : List (List TypeId)) →
        AreMatchedUpTo types index patterns formula.type_variables most found →
        AreAdmittedUpTo types known g formula most found
    AreAdmittedUpTo-matched most found are_matched = record {
      numbers = are_matched.numbers;
      each = all-same (λ ids. AreMatched types index patterns formula.type_variables
          (denoted types ids)) (λ ids. IsAdmittedBy known g formula (denoted types ids))
          (λ ids. admitted_from (denoted types ids)) found are_matched.each;
      once = are_matched.once;
      whole = λ few substitution admitted.
          are_matched.whole few substitution (matched_back substitution admitted);
    }
