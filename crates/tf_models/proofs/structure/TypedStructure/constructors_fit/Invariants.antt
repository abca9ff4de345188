use Rattle.std.proofs.Common.{ℕ, ◌≡◌, ◌<◌, [], length, get_or}
use Rattle.std.specs.Prelude.{slice_get, Some}
use Rattle.tf_core.specs.declared.signature.Constructor.{Constructor}
use Rattle.tf_models.specs.Fit.{IsTable}
use Rattle.tf_models.proofs.structure.TypedStructure.constructors_fit.Given as goal

abbrev pub invariant-loop-i : goal.invariant-loop-i
invariant-loop-i l =
    (c : ℕ) (constructor : Constructor) → c < l.i → slice_get l.signature.constructors c
    ≡ Some constructor →
    IsTable (length l.self.sizes) constructor.arity (get_or l.self.constructors c [])
