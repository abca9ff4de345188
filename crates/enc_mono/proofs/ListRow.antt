-- The instances of the list problem without rounds and after one.
use Rattle.std.specs.Prelude.{ℕ, zero, suc, ◌≡◌, ◌<◌, ◌⊎◌, false, ◌||◌, List, [], ◌∷◌, map, length, get_or, IsTrue}
use Rattle.std.specs.List.{AllByRecursion, Contains, slice_index_or}
use Rattle.std.proofs.Common.{refl, sym, ap, ◌∙◌, subst, arith, inl, inr, ⊎_elim}
use Rattle.tf_core.specs.declared.ty.Ty.{Ty, out-Ty}
use Rattle.tf_core.specs.declared.ty.Ty.TheVariants as type
use Rattle.tf_core.specs.declared.ty.Ty.TheOpen.{Ty-F}
use Rattle.tf_core.specs.declared.ty.Ty.TheOpen as layer
use Rattle.tf_core.specs.declared.ty.Ty.TheViews.{outs-Apply}
use Rattle.tf_core.specs.declared.normal.NormalFormula.{NormalFormula}
use Rattle.tf_core.specs.Types.{instantiate}
use Rattle.tf_core.specs.Occurrences.{occurs_in_types}
use Rattle.tf_core.specs.Typing.{no_types, more_types, type_apply}
use Rattle.tf_core.proofs.Types.{instantiate-variable, instantiate-apply}
use Rattle.tf_core.proofs.Occurrences.{occurs_in_type-variable}
use Rattle.enc_mono.specs.declared.instances.Origin.{Origin}
use Rattle.enc_mono.specs.Instances.{symbol_instances, instance_under}
use Rattle.enc_mono.specs.Rounds.{IsAdmitted, StandsInGround}
use Rattle.enc_mono.specs.Monomorphised.{AreAdmitted, no_forms, more_forms}
use Rattle.enc_mono.specs.Rows.{nat, list_of, nil_is_no_cons, list_of_lists, zero_alone, list_problem, ListInstances}
use Rattle.enc_mono.proofs.InstanceEquations.{term_instances-variable, term_instances-apply, symbol_instances-equation, symbol_instances-for_all}

-- what holds of all holds of each
module _ {A : Type 0} (P : A → Type 0) (item : A) where
  has_at : (items : List A) (k : ℕ) → AllByRecursion P items → k < length items →
      slice_index_or items k item ≡ item → P item
  has_at [] k all within is = absurd (omega (arith, within))
  has_at (first ∷ items) zero all within is = subst P is all.0
  has_at (first ∷ items) (suc k) all within is = has_at items k all.1 (omega (arith, within)) is

  has : (items : List A) → AllByRecursion P items → Contains items item → P item
  has items all at = has_at items at.0 all at.1 at.2

abbrev of : ℕ → List Ty → Origin
of f types = record { symbol = f; types = types }

-- the symbol instances of the three formulas

go_instances : symbol_instances zero_alone.body
    ≡ of 1 (nat ∷ []) ∷ of 2 [] ∷ of 0 (nat ∷ []) ∷ of 0 (nat ∷ []) ∷ []
go_instances =
    simp (symbol_instances-equation, term_instances-apply, term_instances-variable) refl

ne_instances : symbol_instances nil_is_no_cons.body
    ≡ of 0 (type.Var 0 ∷ []) ∷ of 1 (type.Var 0 ∷ []) ∷ []
ne_instances =
    simp (
      symbol_instances-for_all,
      symbol_instances-equation,
      term_instances-apply,
      term_instances-variable,
    ) refl

up_instances : symbol_instances list_of_lists.body
    ≡ of 1 (list_of (type.Var 0) ∷ []) ∷ of 1 (type.Var 0 ∷ []) ∷ of 0 (type.Var 0 ∷ [])
    ∷ of 0 (list_of (type.Var 0) ∷ []) ∷ of 0 (list_of (type.Var 0) ∷ []) ∷ []
up_instances =
    simp (
      symbol_instances-for_all,
      symbol_instances-equation,
      term_instances-apply,
      term_instances-variable,
    ) refl

-- what stands in the conjecture has the natural numbers as its type, or none
abbrev AtNat : Origin → Type 0
AtNat origin = (origin.types ≡ nat ∷ []) ⊎ (origin.types ≡ [])

in_go : (origin : Origin) → Contains (symbol_instances zero_alone.body) origin → AtNat origin
in_go origin at =
    has AtNat origin (symbol_instances zero_alone.body)
    (subst (AllByRecursion AtNat) (sym go_instances)
    (inl refl, (inr refl, (inl refl, (inl refl, tt))))) at

known_at_nat : (origin : Origin) → StandsInGround list_problem origin → AtNat origin
known_at_nat origin known =
    has (λ formula. formula.type_variables ≡ 0 →
    Contains (symbol_instances formula.body) origin → AtNat origin) known.formula
    list_problem.formulas (
      (λ none at. absurd (omega (arith, none))),
      (
        (λ none at. absurd (omega (arith, none))),
        ((λ none at. in_go origin at), tt),
      ),
    ) known.of_problem known.no_variables known.stands

-- substitutions that make a parameter of an axiom the natural numbers

abbrev constructor_step : Ty-F Ty → ℕ
constructor_step (layer.Var i) = 0
constructor_step (layer.Apply c arguments) = c

list_is_not_nat : (types : List Ty) → type.Apply 1 types ≡ nat → ⊥
list_is_not_nat types same =
    let numbers : 1 ≡ 2 =
    ap constructor_step (sym (outs-Apply 1 types) ∙ ap out-Ty same ∙ outs-Apply 2 []) in
    absurd (omega (arith, numbers))

abbrev IsParametric : Origin → Type 0
IsParametric origin =
    (origin.types ≡ type.Var 0 ∷ []) ⊎ (origin.types ≡ list_of (type.Var 0) ∷ [])

first_same : (ty other : Ty) → ty ∷ [] ≡ other ∷ [] → ty ≡ other
first_same ty other same = ap (λ types. get_or types 0 other) same

not_none : (ty : Ty) → (ty ∷ [] ≡ []) → ⊥
not_none ty same = let long = ap (λ (types : List Ty). length types) same in absurd (omega
    (arith, long))

one_type : (types : List Ty) → length types ≡ 1 → instantiate types (type.Var 0) ≡ nat →
    types ≡ nat ∷ []
one_type [] long is = absurd (omega (arith, long))
one_type (ty ∷ []) long is =
    ap (λ t. t ∷ []) (sym (instantiate-variable (ty ∷ []) 0) ∙ is)
one_type (ty ∷ other ∷ types) long is = absurd (omega (arith, long))

is_nat : (types : List Ty) → length types ≡ 1 → (origin : Origin) → IsParametric origin →
    AtNat (instance_under types origin) → types ≡ nat ∷ []
is_nat types long origin parametric known =
    ⊎_elim
    (λ plain.
    ⊎_elim
    (λ at. one_type types long (first_same (instantiate types (type.Var 0)) nat
    (sym (ap (map (instantiate types)) plain) ∙ at)))
    (λ none. absurd (not_none (instantiate types (type.Var 0))
    (sym (ap (map (instantiate types)) plain) ∙ none)))
    known)
    (λ listed.
    ⊎_elim
    (λ at. absurd (list_is_not_nat (map (instantiate types) (type.Var 0 ∷ []))
    (sym (instantiate-apply types 1 (type.Var 0 ∷ []))
    ∙ first_same (instantiate types (list_of (type.Var 0))) nat
    (sym (ap (map (instantiate types)) listed) ∙ at))))
    (λ none. absurd (not_none (instantiate types (list_of (type.Var 0)))
    (sym (ap (map (instantiate types)) listed) ∙ none)))
    known)
    parametric

nil_is_known : StandsInGround list_problem (instance_under (nat ∷ []) (of 0 (type.Var 0 ∷ [])))
nil_is_known =
    subst (λ ty. StandsInGround list_problem (record { symbol = 0; types = ty ∷ [] }))
    (sym (instantiate-variable (nat ∷ []) 0))
    (record {
      formula = zero_alone;
      of_problem = (2, omega arith, refl);
      no_variables = refl;
      stands = subst (λ l. Contains l (of 0 (nat ∷ []))) (sym go_instances) (2, omega arith, refl);
    })

-- an axiom whose symbols have the variable, or lists of it, for their parameters
module _ (formula : NormalFormula) (one : formula.type_variables ≡ 1)
    (parametric : AllByRecursion IsParametric (symbol_instances formula.body))
    (has_nil : Contains (symbol_instances formula.body) (of 0 (type.Var 0 ∷ [])))
  where
    admitted_is_nat : (types : List Ty) → IsAdmitted list_problem 1 formula types →
        types ≡ nat ∷ []
    admitted_is_nat types admitted =
        let found = admitted.found 0 (omega (arith, one)) in
        is_nat types (admitted.ground.count ∙ one) found.origin
        (has IsParametric found.origin (symbol_instances formula.body) parametric found.stands)
        (known_at_nat (instance_under types found.origin) found.is_known)

    nat_is_admitted : IsAdmitted list_problem 1 formula (nat ∷ [])
    nat_is_admitted = record {
      polymorphic = omega (arith, one);
      ground = record {
        count = sym one;
        formed = more_types nat [] (type_apply 2 _ [] refl refl no_types) no_types;
      };
      found = λ i within.
          let first : i ≡ 0 = omega (arith, within, one) in
          record {
            origin = of 0 (type.Var 0 ∷ []);
            stands = has_nil;
            has = subst (λ n. IsTrue (occurs_in_types n (type.Var 0 ∷ []))) (sym first)
                (ap (λ b. b || false) (occurs_in_type-variable 0 0));
            is_known = nil_is_known;
          };
    }

    pub admitted_once : AreAdmitted list_problem 1 formula ((nat ∷ []) ∷ [])
    admitted_once = record {
      in_order = (tt, tt);
      exact = λ types. (
        (λ at. subst (IsAdmitted list_problem 1 formula)
            (sym (has (λ t. t ≡ nat ∷ []) types ((nat ∷ []) ∷ []) (refl, tt) at)) nat_is_admitted),
        λ admitted. (0, omega arith, sym (admitted_is_nat types admitted)),
      );
    }

ne_once : AreAdmitted list_problem 1 nil_is_no_cons ((nat ∷ []) ∷ [])
ne_once =
    admitted_once nil_is_no_cons refl
    (subst (AllByRecursion IsParametric) (sym ne_instances) (inl refl, (inl refl, tt)))
    (subst (λ l. Contains l (of 0 (type.Var 0 ∷ []))) (sym ne_instances) (0, omega arith, refl))

up_once : AreAdmitted list_problem 1 list_of_lists ((nat ∷ []) ∷ [])
up_once =
    admitted_once list_of_lists refl
    (subst (AllByRecursion IsParametric) (sym up_instances)
    (inr refl, (inl refl, (inl refl, (inr refl, (inr refl, tt))))))
    (subst (λ l. Contains l (of 0 (type.Var 0 ∷ []))) (sym up_instances) (2, omega arith, refl))

-- nothing is contained in nothing
none_in : (types : List Ty) → Contains [] types → ⊥
none_in types at = let within = at.1 in absurd (omega (arith, within))

ground_not_admitted : (types : List Ty) → IsAdmitted list_problem 1 zero_alone types → ⊥
ground_not_admitted types admitted =
    let some = admitted.polymorphic in absurd (omega (arith, some))

pub list_instances : ListInstances
list_instances = record {
  without_rounds =
      more_forms nil_is_no_cons (list_of_lists ∷ zero_alone ∷ []) (zero_alone ∷ []) []
      (none_before nil_is_no_cons)
      (more_forms list_of_lists (zero_alone ∷ []) (zero_alone ∷ []) [] (none_before list_of_lists)
      (more_forms zero_alone [] [] [] (none_before zero_alone) no_forms));
  after_one =
      more_forms nil_is_no_cons (list_of_lists ∷ zero_alone ∷ []) _ ((nat ∷ []) ∷ []) ne_once
      (more_forms list_of_lists (zero_alone ∷ []) (zero_alone ∷ []) ((nat ∷ []) ∷ []) up_once
      (more_forms zero_alone [] [] [] (record {
        in_order = tt;
        exact = λ types. (
          (λ at. absurd (none_in types at)),
          (λ admitted. absurd (ground_not_admitted types admitted)),
        );
      }) no_forms));
}
  where
    none_before : (formula : NormalFormula) → AreAdmitted list_problem 0 formula []
    none_before formula = record {
      in_order = tt;
      exact = λ types. ((λ at. absurd (none_in types at)), (λ is. absurd is));
    }
