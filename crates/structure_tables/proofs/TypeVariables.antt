-- The variables of types, and that types have their values by them alone.
use Rattle.std.specs.Prelude.{ℕ, ◌≡◌, ◌<◌, ◌+◌, List, [], ◌∷◌, ◌++◌, map, length, slice_index, flat_map}
use Rattle.std.specs.List.{All, AllByRecursion}
use Rattle.std.proofs.Common.{refl, sym, ap, subst, ◌∙◌, arith, length-append}
use Rattle.std.proofs.lemmas.List.{get_or_append_left, get_or-append-add}
use Rattle.std.proofs.lemmas.List.Elements.{All-nil, All-cons, All-head, All-append, All-from_recursion}
use Rattle.std.proofs.lemmas.List.Folds.{flat_map-map}
use Rattle.tf_core.specs.declared.ty.Ty.{Ty, roll-Ty}
use Rattle.tf_core.specs.declared.ty.Ty.TheVariants as type
use Rattle.tf_core.specs.declared.ty.Ty.TheOpen.{Ty-F}
use Rattle.tf_core.specs.declared.ty.Ty.TheOpen as type_layer
use Rattle.tf_core.specs.declared.ty.Ty.TheFolds.{fold-roll-Ty, map-Ty}
use Rattle.tf_core.specs.declared.signature.Signature.{Signature}
use Rattle.tf_core.specs.Types.{type_value}
use Rattle.tf_core.specs.Typing.{IsType, type_variable, type_apply, AreTypes, no_types, more_types}
use Rattle.tf_core.proofs.Types.{type_value-variable, type_value-apply}
use Rattle.tf_core.proofs.Induction.{type_induction}
use Rattle.structure_tables.specs.ParameterGroups.{variables, variables_step, AreParameters}

variables-roll : (x : Ty-F Ty) →
    variables (roll-Ty x) ≡ variables_step (map-Ty Ty (List ℕ) variables x)
unfolding variables
variables-roll x = fold-roll-Ty (List ℕ) variables_step x

pub variables-variable : (i : ℕ) → variables (type.Var i) ≡ i ∷ []
variables-variable i = ap variables (sym (type.rolls-Var i)) ∙ variables-roll (type_layer.Var i)

pub variables-apply : (c : ℕ) (types : List Ty) →
    variables (type.Apply c types) ≡ flat_map variables types
variables-apply c types =
    ap variables (sym (type.rolls-Apply c types)) ∙ variables-roll (type_layer.Apply c types)
    ∙ flat_map-map (λ part. part) variables types

-- the variables of a formed type are parameters

module _ (g : Signature) (parameters : ℕ) where
  mutual
    pub variables_below : (ty : Ty) → IsType g parameters ty →
        AreParameters parameters (variables ty)
    variables_below ty (type_variable i within) =
        subst (AreParameters parameters) (sym (variables-variable i))
        (All-cons (λ variable. variable < parameters) i [] within
        (All-nil (λ variable. variable < parameters)))
    variables_below ty (type_apply c constructor types at long formed) =
        subst (AreParameters parameters) (sym (variables-apply c types))
        (all_below types formed)

    pub all_below : (types : List Ty) → AreTypes g parameters types →
        AreParameters parameters (flat_map variables types)
    all_below types no_types = All-nil (λ variable. variable < parameters)
    all_below types (more_types ty others formed rest) =
        All-append (λ variable. variable < parameters) (variables ty) (flat_map variables others)
        (variables_below ty formed) (all_below others rest)

  each_below : (types : List Ty) → AreTypes g parameters types →
      AllByRecursion (λ ty. AreParameters parameters (variables ty)) types
  each_below types no_types = tt
  each_below types (more_types ty others formed rest) =
      (variables_below ty formed, each_below others rest)

  pub variables_of_types_below : (types : List Ty) → AreTypes g parameters types →
      All (λ ty. AreParameters parameters (variables ty)) types
  variables_of_types_below types formed =
      All-from_recursion (λ ty. AreParameters parameters (variables ty)) types
      (each_below types formed)

-- the value of a type under members that agree at its variables

module _ (P : ℕ → Type 0) (xs ys : List ℕ) (each : All P (xs ++ ys)) where
  pub All-left : All P xs
  All-left k d within =
      subst P (get_or_append_left xs ys d k within)
      (each k d (omega (arith, within, length-append xs ys)))

  pub All-right : All P ys
  All-right k d within =
      subst P (get_or-append-add xs ys k d)
      (each (length xs + k) d (omega (arith, within, length-append xs ys)))

module _ (constructor_at : ℕ → List ℕ → ℕ) (members others : List ℕ) where
  abbrev pub Agree : List ℕ → Type 0
  Agree variables = All (λ i. slice_index members i ≡ slice_index others i) variables

  abbrev IsFixed : Ty → Type 0
  IsFixed ty = Agree (variables ty) →
      type_value constructor_at members ty ≡ type_value constructor_at others ty

  values_fixed : (types : List Ty) → AllByRecursion IsFixed types →
      Agree (flat_map variables types) →
      map (type_value constructor_at members) types ≡ map (type_value constructor_at others) types
  values_fixed [] each agree = refl
  values_fixed (ty ∷ types) each agree =
      let agrees : ℕ → Type 0 = λ i. slice_index members i ≡ slice_index others i in
      ap (λ v. v ∷ map (type_value constructor_at members) types)
      (each.0 (All-left agrees (variables ty) (flat_map variables types) agree))
      ∙ ap (λ vs. type_value constructor_at others ty ∷ vs)
      (values_fixed types each.1 (All-right agrees (variables ty) (flat_map variables types) agree))

  pub value_fixed : (ty : Ty) → IsFixed ty
  value_fixed =
      type_induction IsFixed
      (λ i agree. type_value-variable constructor_at members i
      ∙ All-head (λ j. slice_index members j ≡ slice_index others j) i []
      (subst Agree (variables-variable i) agree)
      ∙ sym (type_value-variable constructor_at others i))
      (λ c types each agree. type_value-apply constructor_at members c types
      ∙ ap (constructor_at c) (values_fixed types each (subst Agree (variables-apply c types) agree))
      ∙ sym (type_value-apply constructor_at others c types))
