-- The names that marked symbols want, and those of axioms.
use Rattle.std.specs.Prelude.{ℕ, zero, suc, ◌-◌, List, [], ◌++◌, length, cond, codes, leb, flat_map}
use Rattle.std.specs.Prelude.{slice_get, Option, Some, None}
use Rattle.std.specs.Fmt.{decimal}
use Rattle.tf_core.specs.declared.ty.Ty.{Ty}
use Rattle.tf_core.specs.declared.ty.Ty.TheOpen.{Ty-F}
use Rattle.tf_core.specs.declared.ty.Ty.TheOpen as layer
use Rattle.tf_core.specs.declared.ty.Ty.TheFolds.{fold-Ty}
use Rattle.tf_core.specs.declared.signature.Constructor.{Constructor}
use Rattle.tf_core.specs.declared.normal.Normal.{Normal}
use Rattle.enc_marks.specs.declared.choices.Binding.{Binding}
use Rattle.enc_marks.specs.declared.choices.Binding.TheVariants.{ByGuard, ByTag}

-- the number of the first constructor that was made for a type variable of the conjecture
abbrev pub first_fresh : Normal → ℕ
first_fresh normal = length normal.signature.constructors - normal.fresh

-- the name of a constructor other than the first: its own, or where it is fresh `fresh_` and the
-- number of its type variable
abbrev pub constructor_name : Normal → ℕ → List ℕ → List ℕ
constructor_name normal c name =
    cond (leb (first_fresh normal) c) (codes "fresh_" ++ decimal (c - first_fresh normal)) name

-- what a constructor wants to be called; the first one is `$i`
abbrev pub wanted_constructor : Normal → ℕ → List ℕ → List ℕ
wanted_constructor normal zero name = codes "ty_i"
wanted_constructor normal (suc c) name = constructor_name normal (suc c) name

-- what it is called within the name of a type
abbrev pub flat_constructor : Normal → ℕ → Option Constructor → List ℕ
flat_constructor normal c None = []
flat_constructor normal zero (Some constructor) = codes "i"
flat_constructor normal (suc c) (Some constructor) =
    constructor_name normal (suc c) constructor.name

abbrev pub flat_name_step : Normal → Ty-F (List ℕ) → List ℕ
flat_name_step normal (layer.Var i) = []
flat_name_step normal (layer.Apply c arguments) =
    flat_constructor normal c (slice_get normal.signature.constructors c)
    ++ flat_map (λ argument. codes "_" ++ argument) arguments

-- the name of a type without variables: its constructor's, then `_` and the name of each argument
unfoldable pub flat_name : Normal → Ty → List ℕ
flat_name normal = fold-Ty (List ℕ) (flat_name_step normal)

-- what the guard or the tag wants to be called, and that of a sort

abbrev pub wanted_mark : Binding → List ℕ
wanted_mark ByGuard = codes "is"
wanted_mark ByTag = codes "as"

abbrev pub wanted_sort_mark : Normal → Binding → Ty → List ℕ
wanted_sort_mark normal binding ty = wanted_mark binding ++ (codes "_" ++ flat_name normal ty)

-- the name of a function's typing axiom
abbrev pub typing_name : List ℕ → List ℕ
typing_name name = codes "typing_" ++ name

-- the name of the last axiom, and that of a sort

abbrev pub last_name : Binding → List ℕ
last_name ByGuard = codes "inhabitation"
last_name ByTag = codes "tag_idempotence"

abbrev pub sort_last_name : Normal → Binding → Ty → List ℕ
sort_last_name normal binding ty = last_name binding ++ (codes "_" ++ flat_name normal ty)
