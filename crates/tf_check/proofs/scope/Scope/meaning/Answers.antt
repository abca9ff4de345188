use Rattle.std.proofs.Common.{◌≡◌, ◌-◌, take, arith, sym, ap, subst, ◌∙◌}
use Rattle.std.proofs.lemmas.List.{take_all}
use Rattle.std.proofs.Math.Facts.{Fits-of_lt}
use Rattle.tf_check.specs.Scope.{Scope, OfTerm, meaning, type_variables}
use Rattle.tf_types.specs.Numbers.{type_at, IsNumber}
use Rattle.tf_check.specs.Bound.{Scoped, scope_of}
use Rattle.tf_check.proofs.ScopeLemmas.{raised, raised-zero, left_type, left_term, finds_type, finds_term, passes_type, passes_term}
use Rattle.tf_check.proofs.ScopedLemmas.{bound_number}
use Rattle.tf_check.proofs.scope.Scope.meaning.Goals as goal

pub loop-left-init : goal.loop-left-init
loop-left-init c =
    let all : take c.len-left.result c.self.inside.bindings.items ≡ c.self.inside.bindings.items =
    take_all c.len-left.result c.self.inside.bindings.items (omega (arith, c.len-left.ensures)) in
    record {
      within = omega (arith, c.len-left.ensures);
      counted = rw all c.self.invariant.counted;
      passed = rw all (ap (λ (s : Scoped). meaning s.names c.args.name.now) (sym c.self.view_is)
          ∙ sym (raised-zero (meaning (scope_of c.self.inside.types c.self.inside.bindings.items) c.args.name.now)));
    }

pub index-binding-requires : goal.index-binding-requires
index-binding-requires c = omega (arith, c.loop-left.invariant.within, c.loop-left-test.true)

pub overflow_sub-types : goal.overflow_sub-types
overflow_sub-types c =
    let outer = left_type c.self.inside.types c.self.inside.bindings.items c.loop-left.left c.index-binding.result.now
    c.loop-left-test.true (omega (arith, c.loop-left.invariant.within)) c.index-binding.ensures
    c.in-None.is in
    omega (arith, c.loop-left.invariant.counted, ap type_variables outer)

pub returns-then-eq-clause-exact : goal.returns-then-eq-clause-exact
returns-then-eq-clause-exact c =
    let outer = left_type c.self.inside.types c.self.inside.bindings.items c.loop-left.left c.index-binding.result.now
    c.loop-left-test.true (omega (arith, c.loop-left.invariant.within)) c.index-binding.ensures
    c.in-None.is in
    finds_type c.args.self.now.names (scope_of c.self.inside.types (take c.loop-left.left c.self.inside.bindings.items))
    (scope_of c.self.inside.types (take (c.loop-left.left - 1) c.self.inside.bindings.items)) c.args.name.now
    c.loop-left.terms c.loop-left.invariant.passed c.index-binding.result.now.name.now
    c.loop-left.types outer c.loop-left.invariant.counted (sym c.if-eq.ensures)

pub loop-left-preserved-else-eq : goal.loop-left-preserved-else-eq
loop-left-preserved-else-eq c =
    let outer = left_type c.self.inside.types c.self.inside.bindings.items c.loop-left.left c.index-binding.result.now
    c.loop-left-test.true (omega (arith, c.loop-left.invariant.within)) c.index-binding.ensures
    c.in-None.is in
    record {
      within = omega (arith, c.loop-left.invariant.within, c.loop-left-test.true);
      counted = omega (arith, c.loop-left.invariant.counted, ap type_variables outer);
      passed = passes_type c.args.self.now.names
          (scope_of c.self.inside.types (take c.loop-left.left c.self.inside.bindings.items))
          (scope_of c.self.inside.types (take (c.loop-left.left - 1) c.self.inside.bindings.items)) c.args.name.now
          c.loop-left.terms c.loop-left.invariant.passed c.index-binding.result.now.name.now outer
          (sym c.if-eq.ensures);
    }

pub returns-then-eq-2-clause-exact : goal.returns-then-eq-2-clause-exact
returns-then-eq-2-clause-exact c =
    let outer = left_term c.self.inside.types c.self.inside.bindings.items c.loop-left.left c.index-binding.result.now
    c.loop-left-test.true (omega (arith, c.loop-left.invariant.within)) c.index-binding.ensures
    c.in-Some.ty c.in-Some.is in
    ap (λ types. OfTerm c.loop-left.terms (type_at types c.in-Some.ty))
    (ap (λ (s : Scoped). s.types) (sym c.self.view_is))
    ∙ finds_term c.args.self.now.names (scope_of c.self.inside.types (take c.loop-left.left c.self.inside.bindings.items))
    (scope_of c.self.inside.types (take (c.loop-left.left - 1) c.self.inside.bindings.items)) c.args.name.now
    c.loop-left.terms c.loop-left.invariant.passed c.index-binding.result.now.name.now
    (type_at c.self.inside.types c.in-Some.ty) outer (sym c.if-eq-2.ensures)

pub returns-then-eq-2-clause-number : goal.returns-then-eq-2-clause-number
returns-then-eq-2-clause-number c =
    subst (λ types. IsNumber types c.in-Some.ty) (ap (λ (s : Scoped). s.types) c.self.view_is)
    (bound_number c.self.inside.types c.self.inside.bindings.items (c.loop-left.left - 1)
    c.index-binding.result.now c.in-Some.ty
    (omega (arith, c.loop-left.invariant.within, c.loop-left-test.true)) c.index-binding.ensures
    c.self.invariant.bound c.in-Some.is)

pub overflow_add-terms : goal.overflow_add-terms
overflow_add-terms c =
    Fits-of_lt (omega (
      arith,
      c.loop-left.invariant.within,
      c.self.invariant.within,
      c.loop-left-test.true,
    ))

pub loop-left-preserved : goal.loop-left-preserved
loop-left-preserved c =
    let outer = left_term c.self.inside.types c.self.inside.bindings.items c.loop-left.left c.index-binding.result.now
    c.loop-left-test.true (omega (arith, c.loop-left.invariant.within)) c.index-binding.ensures
    c.in-Some.ty c.in-Some.is in
    record {
      within = omega (arith, c.loop-left.invariant.within, c.loop-left-test.true);
      counted = c.loop-left.invariant.counted ∙ ap type_variables outer;
      passed = passes_term c.args.self.now.names
          (scope_of c.self.inside.types (take c.loop-left.left c.self.inside.bindings.items))
          (scope_of c.self.inside.types (take (c.loop-left.left - 1) c.self.inside.bindings.items)) c.args.name.now
          c.loop-left.terms c.loop-left.invariant.passed c.index-binding.result.now.name.now
          (type_at c.self.inside.types c.in-Some.ty) outer
          (sym c.if-eq-2.ensures);
    }

pub returns-clause-exact : goal.returns-clause-exact
returns-clause-exact c =
    let none : c.loop-left.left ≡ 0 = omega (arith, c.loop-left-test.false) in
    sym (c.loop-left.invariant.passed
    ∙ ap (λ k. raised c.loop-left.terms
    (meaning (scope_of c.self.inside.types (take k c.self.inside.bindings.items)) c.args.name.now)) none)
