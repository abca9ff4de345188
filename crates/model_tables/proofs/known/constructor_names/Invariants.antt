use Rattle.std.proofs.Common.{◌≡◌, map, take}
use Rattle.tf_core.specs.declared.signature.Constructor.{Constructor}
use Rattle.model_tables.specs.Held.{texts_of}
use Rattle.model_tables.proofs.known.constructor_names.Given as goal

abbrev pub invariant-loop-constructor : goal.invariant-loop-constructor
invariant-loop-constructor l =
    texts_of l.names.items
    ≡ map (λ (c : Constructor). c.name) (take l.constructor-index l.constructors)
