-- The equations of the list of a formula's universal binders with their bodies, one a variant.
use Rattle.std.specs.Prelude.{ℕ, ◌≡◌, Bool, List, [], ◌∷◌, ◌++◌, map}
use Rattle.std.specs.List.{AllByRecursion}
use Rattle.std.proofs.Common.{refl, sym, ap, ◌∙◌}
use Rattle.std.proofs.lemmas.List.{map-append}
use Rattle.tf_core.specs.declared.ty.Ty.{Ty}
use Rattle.tf_core.specs.declared.term.Term.{Term}
use Rattle.tf_core.specs.declared.nnf.Nnf.{Nnf, roll-Nnf}
use Rattle.tf_core.specs.declared.nnf.Nnf.TheVariants as nnf
use Rattle.tf_core.specs.declared.nnf.Nnf.TheOpen.{Nnf-F}
use Rattle.tf_core.specs.declared.nnf.Nnf.TheOpen as layer
use Rattle.tf_core.specs.declared.nnf.Nnf.TheFolds.{map-Nnf, para-roll-Nnf}
use Rattle.tf_core.specs.declared.signature.Signature.{Signature}
use Rattle.tf_core.specs.Sorts.{joined}
use Rattle.tf_core.proofs.FormulaInduction.{nnf_induction}
use Rattle.tf_naked.specs.declared.binder.Binder.{Binder}
use Rattle.tf_naked.specs.Binders.{binder_of, universal_binders}
use Rattle.tf_naked.specs.Universals.{Universal, universals_of, universals_step}
use Rattle.tf_naked.specs.NakedLaws.{BindersAreTold}
use Rattle.tf_naked.proofs.Binders.{universal_binders-true, universal_binders-false, universal_binders-atom, universal_binders-equation, universal_binders-and, universal_binders-or, universal_binders-for_all, universal_binders-exists}

universals_of-roll : (x : Nnf-F Nnf) →
    universals_of (roll-Nnf x)
    ≡ universals_step (map-Nnf Nnf (Nnf × List Universal) (λ part. (part, universals_of part)) x)
unfolding universals_of
universals_of-roll x = para-roll-Nnf (List Universal) universals_step x

each_second : (parts : List Nnf) →
    map (λ (pair : Nnf × List Universal). pair.1) (map (λ part. (part, universals_of part)) parts)
    ≡ map universals_of parts
each_second [] = refl
each_second (part ∷ parts) = ap (λ lists. universals_of part ∷ lists) (each_second parts)

pub universals_of-true : universals_of nnf.True ≡ []
universals_of-true = ap universals_of (sym nnf.rolls-True) ∙ universals_of-roll layer.True

pub universals_of-false : universals_of nnf.False ≡ []
universals_of-false = ap universals_of (sym nnf.rolls-False) ∙ universals_of-roll layer.False

pub universals_of-atom : (positive : Bool) (f : ℕ) (types : List Ty) (terms : List Term) →
    universals_of (nnf.Atom positive f types terms) ≡ []
universals_of-atom positive f types terms =
    ap universals_of (sym (nnf.rolls-Atom positive f types terms))
    ∙ universals_of-roll (layer.Atom positive f types terms)

pub universals_of-equation : (positive : Bool) (ty : Ty) (left right : Term) →
    universals_of (nnf.Equation positive ty left right) ≡ []
universals_of-equation positive ty left right =
    ap universals_of (sym (nnf.rolls-Equation positive ty left right))
    ∙ universals_of-roll (layer.Equation positive ty left right)

pub universals_of-and : (parts : List Nnf) →
    universals_of (nnf.And parts) ≡ joined (map universals_of parts)
universals_of-and parts =
    ap universals_of (sym (nnf.rolls-And parts))
    ∙ universals_of-roll (layer.And parts)
    ∙ ap joined (each_second parts)

pub universals_of-or : (parts : List Nnf) →
    universals_of (nnf.Or parts) ≡ joined (map universals_of parts)
universals_of-or parts =
    ap universals_of (sym (nnf.rolls-Or parts))
    ∙ universals_of-roll (layer.Or parts)
    ∙ ap joined (each_second parts)

pub universals_of-for_all : (ty : Ty) (body : Nnf) →
    universals_of (nnf.ForAll ty body) ≡ record { ty = ty; body = body } ∷ universals_of body
universals_of-for_all ty body =
    ap universals_of (sym (nnf.rolls-ForAll ty body))
    ∙ universals_of-roll (layer.ForAll ty body)

pub universals_of-exists : (ty : Ty) (body : Nnf) →
    universals_of (nnf.Exists ty body) ≡ universals_of body
universals_of-exists ty body =
    ap universals_of (sym (nnf.rolls-Exists ty body))
    ∙ universals_of-roll (layer.Exists ty body)

-- ---- what is told of the binders

module _ (g : Signature) where
  -- of each binder, what is seen from it
  abbrev told : List Universal → List Binder
  told = map (λ (binder : Universal). binder_of g binder.body)

  abbrev IsTold : Nnf → Type 0
  IsTold p = universal_binders g p ≡ told (universals_of p)

  told_parts : (parts : List Nnf) → AllByRecursion IsTold parts →
      joined (map (universal_binders g) parts) ≡ told (joined (map universals_of parts))
  told_parts [] each = refl
  told_parts (part ∷ parts) each =
      ap (λ list. list ++ joined (map (universal_binders g) parts)) each.0
      ∙ ap (λ list. told (universals_of part) ++ list) (told_parts parts each.1)
      ∙ sym (map-append (λ (binder : Universal). binder_of g binder.body) (universals_of part)
      (joined (map universals_of parts)))

  each_told : (p : Nnf) → IsTold p
  each_told = nnf_induction IsTold (record {
    on_true = universal_binders-true g ∙ sym (ap told universals_of-true);
    on_false = universal_binders-false g ∙ sym (ap told universals_of-false);
    on_atom = λ positive f types terms.
        universal_binders-atom g positive f types terms
        ∙ sym (ap told (universals_of-atom positive f types terms));
    on_equation = λ positive ty left right.
        universal_binders-equation g positive ty left right
        ∙ sym (ap told (universals_of-equation positive ty left right));
    on_and = λ parts each.
        universal_binders-and g parts ∙ told_parts parts each
        ∙ sym (ap told (universals_of-and parts));
    on_or = λ parts each.
        universal_binders-or g parts ∙ told_parts parts each
        ∙ sym (ap told (universals_of-or parts));
    on_for_all = λ ty body is.
        universal_binders-for_all g ty body
        ∙ ap (λ list. binder_of g body ∷ list) is
        ∙ sym (ap told (universals_of-for_all ty body));
    on_exists = λ ty body is.
        universal_binders-exists g ty body ∙ is ∙ sym (ap told (universals_of-exists ty body));
  })

pub told_binders : BindersAreTold
told_binders g p = each_told g p
