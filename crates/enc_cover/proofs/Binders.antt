-- The equations of a formula's undercover binders, one a variant, in their order, and those of a
-- search through them.
use Rattle.std.specs.Prelude.{ℕ, zero, suc, ◌+◌, ◌<◌, ◌≤◌, ◌≡◌, Bool, false, List, [], ◌∷◌, ◌++◌, length, drop, map, get_or}
use Rattle.std.proofs.Common.{refl, sym, ap, ◌∙◌}
use Rattle.std.proofs.lemmas.List.{drop_more, drop_all}
use Rattle.tf_core.specs.declared.ty.Ty.{Ty}
use Rattle.tf_core.specs.declared.term.Term.{Term}
use Rattle.tf_core.specs.declared.nnf.Nnf.{Nnf, roll-Nnf}
use Rattle.tf_core.specs.declared.nnf.Nnf.TheVariants as nnf
use Rattle.tf_core.specs.declared.nnf.Nnf.TheOpen.{Nnf-F}
use Rattle.tf_core.specs.declared.nnf.Nnf.TheOpen as layer
use Rattle.tf_core.specs.declared.nnf.Nnf.TheFolds.{map-Nnf, para-roll-Nnf}
use Rattle.tf_core.specs.declared.signature.Signature.{Signature}
use Rattle.tf_core.specs.Sorts.{joined}
use Rattle.tf_naked.specs.Standing.{is_undercover}
use Rattle.enc_cover.specs.declared.undercover.Search.{Search}
use Rattle.enc_cover.specs.declared.undercover.Search.TheVariants.{Found, Left}
use Rattle.enc_cover.specs.Undercover.{undercover_binders, undercover_binders_step}
use Rattle.enc_cover.specs.Calls.Passed.{sought}

module _ (g : Signature) where
  undercover_binders-roll : (x : Nnf-F Nnf) →
      undercover_binders g (roll-Nnf x)
      ≡ undercover_binders_step g
      (map-Nnf Nnf (Nnf × List Bool) (λ part. (part, undercover_binders g part)) x)
  unfolding undercover_binders
  undercover_binders-roll x = para-roll-Nnf (List Bool) (undercover_binders_step g) x

  -- what is said of binders beside the parts
  each_second : (parts : List Nnf) →
      map (λ (pair : Nnf × List Bool). pair.1)
      (map (λ part. (part, undercover_binders g part)) parts)
      ≡ map (undercover_binders g) parts
  each_second [] = refl
  each_second (part ∷ parts) = ap (λ lists. undercover_binders g part ∷ lists) (each_second parts)

  pub undercover_binders-true : undercover_binders g nnf.True ≡ []
  undercover_binders-true =
      ap (undercover_binders g) (sym nnf.rolls-True) ∙ undercover_binders-roll layer.True

  pub undercover_binders-false : undercover_binders g nnf.False ≡ []
  undercover_binders-false =
      ap (undercover_binders g) (sym nnf.rolls-False) ∙ undercover_binders-roll layer.False

  pub undercover_binders-atom : (positive : Bool) (f : ℕ) (types : List Ty) (terms : List Term) →
      undercover_binders g (nnf.Atom positive f types terms) ≡ []
  undercover_binders-atom positive f types terms =
      ap (undercover_binders g) (sym (nnf.rolls-Atom positive f types terms))
      ∙ undercover_binders-roll (layer.Atom positive f types terms)

  pub undercover_binders-equation : (positive : Bool) (ty : Ty) (left right : Term) →
      undercover_binders g (nnf.Equation positive ty left right) ≡ []
  undercover_binders-equation positive ty left right =
      ap (undercover_binders g) (sym (nnf.rolls-Equation positive ty left right))
      ∙ undercover_binders-roll (layer.Equation positive ty left right)

  pub undercover_binders-and : (parts : List Nnf) →
      undercover_binders g (nnf.And parts) ≡ joined (map (undercover_binders g) parts)
  undercover_binders-and parts =
      ap (undercover_binders g) (sym (nnf.rolls-And parts))
      ∙ undercover_binders-roll (layer.And parts)
      ∙ ap joined (each_second parts)

  pub undercover_binders-or : (parts : List Nnf) →
      undercover_binders g (nnf.Or parts) ≡ joined (map (undercover_binders g) parts)
  undercover_binders-or parts =
      ap (undercover_binders g) (sym (nnf.rolls-Or parts))
      ∙ undercover_binders-roll (layer.Or parts)
      ∙ ap joined (each_second parts)

  pub undercover_binders-for_all : (ty : Ty) (body : Nnf) →
      undercover_binders g (nnf.ForAll ty body) ≡ is_undercover g body ∷ undercover_binders g body
  undercover_binders-for_all ty body =
      ap (undercover_binders g) (sym (nnf.rolls-ForAll ty body))
      ∙ undercover_binders-roll (layer.ForAll ty body)

  pub undercover_binders-exists : (ty : Ty) (body : Nnf) →
      undercover_binders g (nnf.Exists ty body) ≡ false ∷ undercover_binders g body
  undercover_binders-exists ty body =
      ap (undercover_binders g) (sym (nnf.rolls-Exists ty body))
      ∙ undercover_binders-roll (layer.Exists ty body)

-- a search that goes on in other items
abbrev sought_on : Search → List Bool → Search
sought_on (Found item) others = Found item
sought_on (Left left) others = sought others left

sought-append : (items others : List Bool) (left : ℕ) →
    sought (items ++ others) left ≡ sought_on (sought items left) others
sought-append [] others left = refl
sought-append (item ∷ items) others zero = refl
sought-append (item ∷ items) others (suc left) = sought-append items others left

module _ (binders_in : Nnf → List Bool) (parts : List Nnf) (i left : ℕ) where
  pub sought-parts_end : length parts ≤ i →
      sought (joined (map binders_in (drop i parts))) left ≡ Left left
  sought-parts_end ends =
      ap (λ xs. sought (joined (map binders_in xs)) left) (drop_all i parts ends)

  module _ (part : Nnf) (within : i < length parts) (is : part ≡ get_or parts i part) where
    sought-part : sought (joined (map binders_in (drop i parts))) left
        ≡ sought_on (sought (binders_in part) left)
        (joined (map binders_in (drop (i + 1) parts)))
    sought-part =
        ap (λ xs. sought (joined (map binders_in xs)) left)
        (drop_more parts i part within ∙ ap (λ x. x ∷ drop (i + 1) parts) (sym is))
        ∙ sought-append (binders_in part) (joined (map binders_in (drop (i + 1) parts))) left

    pub sought-part_found : (item : Bool) → sought (binders_in part) left ≡ Found item →
        sought (joined (map binders_in (drop i parts))) left ≡ Found item
    sought-part_found item found =
        sought-part
        ∙ ap (λ s. sought_on s (joined (map binders_in (drop (i + 1) parts)))) found

    pub sought-part_passed : (behind : ℕ) → sought (binders_in part) left ≡ Left behind →
        sought (joined (map binders_in (drop i parts))) left
        ≡ sought (joined (map binders_in (drop (i + 1) parts))) behind
    sought-part_passed behind passed =
        sought-part
        ∙ ap (λ s. sought_on s (joined (map binders_in (drop (i + 1) parts)))) passed

-- what a search answers

abbrev pub answer : Search → Bool
answer (Found item) = item
answer (Left left) = false

pub answer-sought : (items : List Bool) (left : ℕ) →
    answer (sought items left) ≡ get_or items left false
answer-sought [] left = refl
answer-sought (item ∷ items) zero = refl
answer-sought (item ∷ items) (suc left) = answer-sought items left
