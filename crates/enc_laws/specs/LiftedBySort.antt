-- What schemes promise whose guards or tags are those of sorts: an untyped model of the translation
-- gives a typed model of the problem, whose members are the sorts. So does each scheme.
use Rattle.std.specs.Prelude.{ℕ, ◌<◌, ◌≡◌, List, [], ◌∷◌, slice_get, Some, None}
use Rattle.tf_core.specs.declared.ty.Ty.{Ty}
use Rattle.tf_core.specs.declared.signature.Symbol.{Symbol}
use Rattle.tf_core.specs.declared.normal.Normal.{Normal}
use Rattle.tf_core.specs.Sound.{IsSoundNormal}
use Rattle.tf_core.specs.Models.{IsNormalModel}
use Rattle.fof_models.specs.declared.structure.Structure.{Structure}
use Rattle.fof_models.specs.Structures.{Untyped, reading}
use Rattle.fof_models.specs.Models.{AreSatisfied, AreModel}
use Rattle.tf_naked.specs.SortLaws.{IsSort}
use Rattle.enc_marks.specs.declared.choices.Marking.TheVariants.{BySort}
use Rattle.enc_marks.specs.declared.choices.Binding.TheVariants.{ByTag}
use Rattle.enc_marks.specs.declared.scheme.Scheme.{Scheme}
use Rattle.enc_marks.specs.Applies.{Applies}
use Rattle.enc_marks.specs.Choices.{Choices}
use Rattle.enc_marks.specs.Encoded.{all_numbers, translation, encoded}
use Rattle.enc_marks.specs.Schemes.{choices_of}
use Rattle.enc_laws.specs.Lifted.{lifted, lift_by_sort, IsClosed}
use Rattle.enc_laws.specs.Present.{all_present}
use Rattle.enc_laws.specs.Laws.{lifted_of}

-- The tables of an untyped structure are in range: constructors and functions give numbers of the
-- domain, the tag of a sort does for each number of the domain, and predicates give 0 or 1.
pub record IsTotalBySort (c : Choices) (normal : Normal) (j : Untyped) : Type 0 where
  pub closed : IsClosed (all_numbers normal) normal.signature j
  pub tags : c.binding ≡ ByTag → (sort : Ty) (v : ℕ) → IsSort normal sort → v < j.size →
      j.symbol_at ((all_numbers normal).sort sort) (v ∷ []) < j.size
  pub predicates : (f : ℕ) (symbol : Symbol) (values : List ℕ) →
      slice_get normal.signature.symbols f ≡ Some symbol → symbol.result ≡ None →
      j.symbol_at f values < 2

-- An untyped structure over all marked symbols, in which a translation is true, gives the lifted
-- structure, which is a model of the normal problem: under each scheme whose marks are of sorts.
abbrev pub SortsAreLifted : Type 0
SortsAreLifted = (which : Scheme) (normal : Normal) (j : Untyped) →
    (choices_of which normal).marking ≡ BySort → IsSoundNormal normal → Applies which normal →
    IsTotalBySort (choices_of which normal) normal j →
    AreSatisfied j (translation (choices_of which normal) normal) →
    IsNormalModel normal
    (lifted (choices_of which normal) (all_numbers normal) normal.signature all_present j
    (lift_by_sort (choices_of which normal) normal (all_numbers normal) j))

-- Each finite model of what a scheme makes of a normal problem to which it applies gives a model of
-- the normal problem.
abbrev pub ModelsAreLifted : Type 0
ModelsAreLifted = (which : Scheme) (normal : Normal) (s : Structure) → IsSoundNormal normal →
    Applies which normal → AreModel (encoded (choices_of which normal) normal).problem s →
    IsNormalModel normal (lifted_of (choices_of which normal) normal (reading s))
