use Rattle.std.proofs.Common.{ap, sym, ◌∙◌}
use Rattle.tf_core.specs.Contexts.{lent}
use Rattle.tf_core.specs.Types.{instantiate}
use Rattle.tf_core.specs.TypingTests.{has_type}
use Rattle.tf_core.proofs.CheckedTerms.{pass_in_order-lengths, variable_decided, variable_missing, symbol_missing, application_then, application_else}
use Rattle.tf_core.proofs.terms.+typed.Goals as goal

pub has_type-returns-in-Some : goal.has_type-returns-in-Some
has_type-returns-in-Some t c =
    variable_decided c.args.scope.now.signature.now c.args.scope.now.variables c.args.context.now c.args.term.now
    (instantiate c.args.types.now c.args.declared.now) c.in-Var.i (lent c.type_at.result)
    c.in-Some.ty.now c.is_instance.result c.in-Var.is c.type_at.ensures (ap lent c.in-Some.is)
    c.is_instance.ensures

pub has_type-returns-in-None : goal.has_type-returns-in-None
has_type-returns-in-None t c =
    variable_missing c.args.scope.now.signature.now c.args.scope.now.variables c.args.context.now c.args.term.now
    (instantiate c.args.types.now c.args.declared.now) c.in-Var.i (lent c.type_at.result)
    c.in-Var.is c.type_at.ensures (ap lent c.in-None.is)

pub has_type-returns-then-offers : goal.has_type-returns-then-offers
has_type-returns-then-offers t c =
    application_then c.args.scope.now.signature.now c.args.scope.now.variables c.args.context.now
    c.args.term.now (instantiate c.args.types.now c.args.declared.now) c.in-Apply.f
    c.in-Apply.arguments c.in-Apply.terms c.in-Apply.is c.in-Some-symbol_at.symbol.now
    (sym c.symbol_at.ensures ∙ ap lent c.in-Some-symbol_at.is) c.offers.result
    (rw c.as_slice.ensures at c.offers.ensures) c.have_types.result c.if-offers.true
    (rw (
      c.as_slice-then-offers.ensures,
      c.as_slice-then-offers-2.ensures,
      c.as_slice-then-offers-3.ensures,
    ) at c.have_types.ensures)

pub has_type-returns-else-offers : goal.has_type-returns-else-offers
has_type-returns-else-offers t c =
    application_else c.args.scope.now.signature.now c.args.scope.now.variables c.args.context.now
    c.args.term.now (instantiate c.args.types.now c.args.declared.now) c.in-Apply.f
    c.in-Apply.arguments c.in-Apply.terms c.in-Apply.is c.in-Some-symbol_at.symbol.now
    (sym c.symbol_at.ensures ∙ ap lent c.in-Some-symbol_at.is) c.offers.result
    (rw c.as_slice.ensures at c.offers.ensures) c.if-offers.false

pub has_type-returns-in-None-symbol_at : goal.has_type-returns-in-None-symbol_at
has_type-returns-in-None-symbol_at t c =
    symbol_missing c.args.scope.now.signature.now c.args.scope.now.variables c.args.context.now
    c.args.term.now (instantiate c.args.types.now c.args.declared.now) c.in-Apply.f
    c.in-Apply.arguments c.in-Apply.terms c.in-Apply.is
    (sym c.symbol_at.ensures ∙ ap lent c.in-None-symbol_at.is)

pub have_types-returns-then-terms-declared : goal.have_types-returns-then-terms-declared
have_types-returns-then-terms-declared t c =
    pass_in_order-lengths (has_type c.args.scope.now.signature.now c.args.scope.now.variables c.args.context.now)
    (instantiate c.args.types.now) c.args.terms.now c.args.declared.now c.if-terms-declared.true
