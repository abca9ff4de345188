use Rattle.std.proofs.Common.{◌≡◌, take, true}
use Rattle.tf_core.specs.TypingTests.{are_types}
use Rattle.tf_core.proofs.typing.+formed.Given as goal

abbrev pub invariant-are_formed-loop-ty : goal.invariant-are_formed-loop-ty
invariant-are_formed-loop-ty l = are_types l.signature l.variables (take l.ty-index l.types) ≡ true
