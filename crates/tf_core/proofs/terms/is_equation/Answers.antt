use Rattle.std.proofs.Common.{◌&&◌, [], ap, sym, ◌∙◌}
use Rattle.tf_core.specs.Types.{instantiate}
use Rattle.tf_core.specs.TypingTests.{is_type, has_type}
use Rattle.tf_core.proofs.CheckedTerms.{and_then, and_else, equation_is}
use Rattle.tf_core.proofs.terms.is_equation.Goals as goal

pub returns-then-has_type : goal.returns-then-has_type
returns-then-has_type c =
    let g = c.args.scope.now.signature.now in
    let formed = is_type g c.args.scope.now.variables c.args.ty.now in
    let ty = instantiate [] c.args.ty.now in
    let left = has_type g c.args.scope.now.variables c.args.context.now c.args.left.now ty in
    let right = has_type g c.args.scope.now.variables c.args.context.now c.args.right.now ty in
    and_then c.has_type.result left c.has_type.ensures c.has_type-then-has_type.result right
    c.if-has_type.true c.has_type-then-has_type.ensures
    ∙ ap (λ x. x && (left && right)) (sym c.if-not-is_formed.false ∙ c.is_formed.ensures)
    ∙ equation_is g c.args.scope.now.variables c.args.context.now c.args.ty.now c.args.left.now c.args.right.now

pub returns-else-has_type : goal.returns-else-has_type
returns-else-has_type c =
    let g = c.args.scope.now.signature.now in
    let formed = is_type g c.args.scope.now.variables c.args.ty.now in
    let ty = instantiate [] c.args.ty.now in
    let left = has_type g c.args.scope.now.variables c.args.context.now c.args.left.now ty in
    let right = has_type g c.args.scope.now.variables c.args.context.now c.args.right.now ty in
    and_else c.has_type.result left c.has_type.ensures right c.if-has_type.false
    ∙ ap (λ x. x && (left && right)) (sym c.if-not-is_formed.false ∙ c.is_formed.ensures)
    ∙ equation_is g c.args.scope.now.variables c.args.context.now c.args.ty.now c.args.left.now c.args.right.now
