-- The equations of lists of at least two parts in normal form, one a variant, in their order.
use Rattle.std.specs.Prelude.{ℕ, ◌≡◌, Bool, true, ◌&&◌, List, length, map, leb}
use Rattle.std.specs.List.{list_all}
use Rattle.std.proofs.Common.{sym, ap, ◌∙◌}
use Rattle.std.proofs.lemmas.List.{length-map}
use Rattle.std.proofs.lemmas.List.Folds.{list_all-map}
use Rattle.tf_core.specs.declared.ty.Ty.{Ty}
use Rattle.tf_core.specs.declared.term.Term.{Term}
use Rattle.tf_core.specs.declared.nnf.Nnf.{Nnf}
use Rattle.tf_core.specs.declared.nnf.Nnf.TheVariants as nnf
use Rattle.tf_core.specs.declared.nnf.Nnf.TheOpen as nnf_layer
use Rattle.tf_core.specs.declared.nnf.Nnf.TheFolds.{fold-roll-Nnf}
use Rattle.tf_core.specs.Counts.{normal_has_pairs, normal_has_pairs_step}

listed : {A : Type 0} (test : A → Bool) (parts : List A) →
    (leb 2 (length (map test parts)) && list_all (λ (b : Bool). b) (map test parts))
    ≡ (leb 2 (length parts) && list_all test parts)
listed test parts =
    ap (λ n. leb 2 n && list_all (λ (b : Bool). b) (map test parts)) (length-map parts test)
    ∙ ap (λ b. leb 2 (length parts) && b) (list_all-map (λ (b : Bool). b) test parts)

pub normal_has_pairs-true : normal_has_pairs nnf.True ≡ true
unfolding normal_has_pairs
normal_has_pairs-true =
    ap normal_has_pairs (sym nnf.rolls-True)
    ∙ fold-roll-Nnf Bool normal_has_pairs_step nnf_layer.True

pub normal_has_pairs-false : normal_has_pairs nnf.False ≡ true
unfolding normal_has_pairs
normal_has_pairs-false =
    ap normal_has_pairs (sym nnf.rolls-False)
    ∙ fold-roll-Nnf Bool normal_has_pairs_step nnf_layer.False

pub normal_has_pairs-atom : (positive : Bool) (f : ℕ) (types : List Ty) (terms : List Term) →
    normal_has_pairs (nnf.Atom positive f types terms) ≡ true
unfolding normal_has_pairs
normal_has_pairs-atom positive f types terms =
    ap normal_has_pairs (sym (nnf.rolls-Atom positive f types terms))
    ∙ fold-roll-Nnf Bool normal_has_pairs_step (nnf_layer.Atom positive f types terms)

pub normal_has_pairs-equation : (positive : Bool) (ty : Ty) (left right : Term) →
    normal_has_pairs (nnf.Equation positive ty left right) ≡ true
unfolding normal_has_pairs
normal_has_pairs-equation positive ty left right =
    ap normal_has_pairs (sym (nnf.rolls-Equation positive ty left right))
    ∙ fold-roll-Nnf Bool normal_has_pairs_step (nnf_layer.Equation positive ty left right)

pub normal_has_pairs-and : (parts : List Nnf) →
    normal_has_pairs (nnf.And parts) ≡ (leb 2 (length parts) && list_all normal_has_pairs parts)
unfolding normal_has_pairs
normal_has_pairs-and parts =
    ap normal_has_pairs (sym (nnf.rolls-And parts))
    ∙ fold-roll-Nnf Bool normal_has_pairs_step (nnf_layer.And parts)
    ∙ listed normal_has_pairs parts

pub normal_has_pairs-or : (parts : List Nnf) →
    normal_has_pairs (nnf.Or parts) ≡ (leb 2 (length parts) && list_all normal_has_pairs parts)
unfolding normal_has_pairs
normal_has_pairs-or parts =
    ap normal_has_pairs (sym (nnf.rolls-Or parts))
    ∙ fold-roll-Nnf Bool normal_has_pairs_step (nnf_layer.Or parts)
    ∙ listed normal_has_pairs parts

pub normal_has_pairs-for_all : (ty : Ty) (body : Nnf) →
    normal_has_pairs (nnf.ForAll ty body) ≡ normal_has_pairs body
unfolding normal_has_pairs
normal_has_pairs-for_all ty body =
    ap normal_has_pairs (sym (nnf.rolls-ForAll ty body))
    ∙ fold-roll-Nnf Bool normal_has_pairs_step (nnf_layer.ForAll ty body)

pub normal_has_pairs-exists : (ty : Ty) (body : Nnf) →
    normal_has_pairs (nnf.Exists ty body) ≡ normal_has_pairs body
unfolding normal_has_pairs
normal_has_pairs-exists ty body =
    ap normal_has_pairs (sym (nnf.rolls-Exists ty body))
    ∙ fold-roll-Nnf Bool normal_has_pairs_step (nnf_layer.Exists ty body)
