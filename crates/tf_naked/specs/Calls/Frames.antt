-- The kinds of the open binders, as they are kept in frames that borrow one another.
use Rattle.std.specs.Prelude.{List, [], ◌∷◌}
use Rattle.tf_naked.specs.declared.position.Kind.{Kind}
use Rattle.tf_naked.specs.declared.kinds.Frames.{Frames, fold-Frames}
use Rattle.tf_naked.specs.declared.kinds.Frames.TheOpen.{Frames-F}
use Rattle.tf_naked.specs.declared.kinds.Frames.TheOpen as layer

abbrev pub kinds_step : Frames-F (List Kind) → List Kind
kinds_step layer.Outside = []
kinds_step (layer.Inside kind outer) = kind ∷ outer.now

-- the kinds of the binders, the nearest first
unfoldable pub kinds_of : Frames → List Kind
kinds_of = fold-Frames (List Kind) kinds_step
