-- A test of each binder of a formula: of a universal one with its body, and of the type of an
-- existential one.
use Rattle.std.specs.Prelude.{ℕ, ◌≡◌, Bool, true, ◌&&◌, List, [], ◌∷◌, map, IsTrue}
use Rattle.std.specs.List.{AllByRecursion, list_all}
use Rattle.std.proofs.Common.{refl, sym, ap, ◌∙◌}
use Rattle.std.proofs.lemmas.Bool.{and_parts, and_from}
use Rattle.tf_core.specs.declared.ty.Ty.{Ty}
use Rattle.tf_core.specs.declared.term.Term.{Term}
use Rattle.tf_core.specs.declared.nnf.Nnf.{Nnf, roll-Nnf}
use Rattle.tf_core.specs.declared.nnf.Nnf.TheVariants as nnf
use Rattle.tf_core.specs.declared.nnf.Nnf.TheOpen.{Nnf-F}
use Rattle.tf_core.specs.declared.nnf.Nnf.TheOpen as layer
use Rattle.tf_core.specs.declared.nnf.Nnf.TheFolds.{map-Nnf, para-Nnf, para-roll-Nnf}

module _ (universal : Ty → Nnf → Bool) (existential : Ty → Bool) where
  abbrev binders_pass_step : Nnf-F (Nnf × Bool) → Bool
  binders_pass_step layer.True = true
  binders_pass_step layer.False = true
  binders_pass_step (layer.Atom positive f types terms) = true
  binders_pass_step (layer.Equation positive ty left right) = true
  binders_pass_step (layer.And parts) = list_all (λ part. part.1) parts
  binders_pass_step (layer.Or parts) = list_all (λ part. part.1) parts
  binders_pass_step (layer.ForAll ty body) = universal ty body.0 && body.1
  binders_pass_step (layer.Exists ty body) = existential ty && body.1

  unfoldable pub binders_pass : Nnf → Bool
  binders_pass = para-Nnf Bool binders_pass_step

  binders_pass-roll : (x : Nnf-F Nnf) →
      binders_pass (roll-Nnf x)
      ≡ binders_pass_step (map-Nnf Nnf (Nnf × Bool) (λ part. (part, binders_pass part)) x)
  unfolding binders_pass
  binders_pass-roll x = para-roll-Nnf Bool binders_pass_step x

  -- the equations, one a variant

  pub binders_pass-true : binders_pass nnf.True ≡ true
  binders_pass-true = ap binders_pass (sym nnf.rolls-True) ∙ binders_pass-roll layer.True

  pub binders_pass-false : binders_pass nnf.False ≡ true
  binders_pass-false = ap binders_pass (sym nnf.rolls-False) ∙ binders_pass-roll layer.False

  binders_pass-atom : (positive : Bool) (f : ℕ) (types : List Ty) (terms : List Term) →
      binders_pass (nnf.Atom positive f types terms) ≡ true
  binders_pass-atom positive f types terms =
      ap binders_pass (sym (nnf.rolls-Atom positive f types terms))
      ∙ binders_pass-roll (layer.Atom positive f types terms)

  pub binders_pass-equation : (positive : Bool) (ty : Ty) (left right : Term) →
      binders_pass (nnf.Equation positive ty left right) ≡ true
  binders_pass-equation positive ty left right =
      ap binders_pass (sym (nnf.rolls-Equation positive ty left right))
      ∙ binders_pass-roll (layer.Equation positive ty left right)

  binders_pass-and : (parts : List Nnf) →
      binders_pass (nnf.And parts)
      ≡ list_all (λ (part : Nnf × Bool). part.1) (map (λ part. (part, binders_pass part)) parts)
  binders_pass-and parts =
      ap binders_pass (sym (nnf.rolls-And parts)) ∙ binders_pass-roll (layer.And parts)

  binders_pass-or : (parts : List Nnf) →
      binders_pass (nnf.Or parts)
      ≡ list_all (λ (part : Nnf × Bool). part.1) (map (λ part. (part, binders_pass part)) parts)
  binders_pass-or parts =
      ap binders_pass (sym (nnf.rolls-Or parts)) ∙ binders_pass-roll (layer.Or parts)

  binders_pass-for_all : (ty : Ty) (body : Nnf) →
      binders_pass (nnf.ForAll ty body) ≡ (universal ty body && binders_pass body)
  binders_pass-for_all ty body =
      ap binders_pass (sym (nnf.rolls-ForAll ty body)) ∙ binders_pass-roll (layer.ForAll ty body)

  binders_pass-exists : (ty : Ty) (body : Nnf) →
      binders_pass (nnf.Exists ty body) ≡ (existential ty && binders_pass body)
  binders_pass-exists ty body =
      ap binders_pass (sym (nnf.rolls-Exists ty body)) ∙ binders_pass-roll (layer.Exists ty body)

  -- they pass in a formula where they pass in its parts, and only there

  abbrev pub Pass : Nnf → Type 0
  Pass p = IsTrue (binders_pass p)

  each_passes : (parts : List Nnf) →
      IsTrue (list_all (λ (part : Nnf × Bool). part.1)
      (map (λ part. (part, binders_pass part)) parts)) → AllByRecursion Pass parts
  each_passes [] all = tt
  each_passes (p ∷ parts) all =
      let two = and_parts _ _ all in
      (two.0, each_passes parts two.1)

  all_pass : (parts : List Nnf) → AllByRecursion Pass parts →
      IsTrue (list_all (λ (part : Nnf × Bool). part.1)
      (map (λ part. (part, binders_pass part)) parts))
  all_pass [] each = refl
  all_pass (p ∷ parts) each = and_from _ _ each.0 (all_pass parts each.1)

  pub pass_at_atom : (positive : Bool) (f : ℕ) (types : List Ty) (terms : List Term) →
      Pass (nnf.Atom positive f types terms)
  pass_at_atom positive f types terms = binders_pass-atom positive f types terms

  pub pass_in_and : (parts : List Nnf) → Pass (nnf.And parts) → AllByRecursion Pass parts
  pass_in_and parts passes = each_passes parts (sym (binders_pass-and parts) ∙ passes)

  pub pass_at_and : (parts : List Nnf) → AllByRecursion Pass parts → Pass (nnf.And parts)
  pass_at_and parts each = binders_pass-and parts ∙ all_pass parts each

  pub pass_in_or : (parts : List Nnf) → Pass (nnf.Or parts) → AllByRecursion Pass parts
  pass_in_or parts passes = each_passes parts (sym (binders_pass-or parts) ∙ passes)

  pub pass_at_or : (parts : List Nnf) → AllByRecursion Pass parts → Pass (nnf.Or parts)
  pass_at_or parts each = binders_pass-or parts ∙ all_pass parts each

  pub pass_in_for_all : (ty : Ty) (body : Nnf) → Pass (nnf.ForAll ty body) →
      IsTrue (universal ty body) × Pass body
  pass_in_for_all ty body passes = and_parts _ _ (sym (binders_pass-for_all ty body) ∙ passes)

  pub pass_at_for_all : (ty : Ty) (body : Nnf) → IsTrue (universal ty body) → Pass body →
      Pass (nnf.ForAll ty body)
  pass_at_for_all ty body one rest = binders_pass-for_all ty body ∙ and_from _ _ one rest

  pub pass_in_exists : (ty : Ty) (body : Nnf) → Pass (nnf.Exists ty body) →
      IsTrue (existential ty) × Pass body
  pass_in_exists ty body passes = and_parts _ _ (sym (binders_pass-exists ty body) ∙ passes)

  pub pass_at_exists : (ty : Ty) (body : Nnf) → IsTrue (existential ty) → Pass body →
      Pass (nnf.Exists ty body)
  pass_at_exists ty body one rest = binders_pass-exists ty body ∙ and_from _ _ one rest
