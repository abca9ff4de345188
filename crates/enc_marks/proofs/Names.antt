-- The equations of the name of a type.
use Rattle.std.specs.Prelude.{ℕ, ◌≡◌, List, [], ◌∷◌, ◌++◌, map, codes, flat_map, slice_get}
use Rattle.std.proofs.Common.{refl, sym, ap, ◌∙◌}
use Rattle.tf_core.specs.declared.ty.Ty.{Ty}
use Rattle.tf_core.specs.declared.ty.Ty.TheVariants as type
use Rattle.tf_core.specs.declared.ty.Ty.TheOpen as layer
use Rattle.tf_core.specs.declared.ty.Ty.TheFolds.{fold-roll-Ty}
use Rattle.tf_core.specs.declared.normal.Normal.{Normal}
use Rattle.enc_marks.specs.Names.{flat_constructor, flat_name, flat_name_step}

-- the arguments' names, each behind `_`
behind : (normal : Normal) (arguments : List Ty) →
    flat_map (λ name. codes "_" ++ name) (map (flat_name normal) arguments)
    ≡ flat_map (λ argument. codes "_" ++ flat_name normal argument) arguments
behind normal [] = refl
behind normal (argument ∷ arguments) =
    ap (λ names. (codes "_" ++ flat_name normal argument) ++ names) (behind normal arguments)

pub flat_name-variable : (normal : Normal) (i : ℕ) → flat_name normal (type.Var i) ≡ []
unfolding flat_name
flat_name-variable normal i =
    ap (flat_name normal) (sym (type.rolls-Var i))
    ∙ fold-roll-Ty (List ℕ) (flat_name_step normal) (layer.Var i)

pub flat_name-apply : (normal : Normal) (c : ℕ) (arguments : List Ty) →
    flat_name normal (type.Apply c arguments)
    ≡ flat_constructor normal c (slice_get normal.signature.constructors c)
    ++ flat_map (λ argument. codes "_" ++ flat_name normal argument) arguments
unfolding flat_name
flat_name-apply normal c arguments =
    ap (flat_name normal) (sym (type.rolls-Apply c arguments))
    ∙ fold-roll-Ty (List ℕ) (flat_name_step normal) (layer.Apply c arguments)
    ∙ ap (λ names. flat_constructor normal c (slice_get normal.signature.constructors c) ++ names)
    (behind normal arguments)
