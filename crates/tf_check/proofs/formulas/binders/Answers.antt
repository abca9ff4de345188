use Rattle.std.proofs.Common.{◌≡◌, ◌≤◌, ◌++◌, [], ◌∷◌, sym, ap, ◌∙◌, length, arith, subst}
use Rattle.tf_check.specs.declared.error.TypeError.TheVariants.{TypeQuantifier}
use Rattle.tf_check.specs.Bound.{Scoped, Grows}
use Rattle.tf_check.specs.Core.{binders_of}
use Rattle.tf_check.specs.Formulas.{binders}
use Rattle.tf_check.specs.Scope.{Scope, TypeVariable, TermVariable}
use Rattle.tf_check.proofs.FormulaAnswers.{answers-on_mapped, left-start, left-type, left-term, left-stop, left-end, binder_no_type, binder_no_term}
use Rattle.tf_check.proofs.ScopedLemmas.{Grows-twice, Grows-named, Keeps-itself}
use Rattle.tf_check.proofs.formulas.binders.Goals as goal
use Rattle.tf_check.proofs.formulas.binders.Goals.{then-binds_type+else-not-leading+in_ok-bind_type, else-binds_type+in_ok-ty+in_ok-bind_term+in_ok-push}

pub returns-then-not-leading-clause-exact : goal.returns-then-not-leading-clause-exact
returns-then-not-leading-clause-exact c =
    left-stop c.args.context.now.entry c.args.context.now.table.now c.args.leading
    c.args.bounds.now
    c.args.scope.now.names c.loop-bound.bound-index c.bound-item.result c.loop-bound.scope.names
    c.loop-bound.types (TypeQuantifier c.args.context.now.entry) c.loop-bound-test.true
    c.bound-item.is
    c.loop-bound.invariant.left
    (binder_no_type c.args.context.now.entry c.args.context.now.table.now c.args.leading
    c.bound-item.result c.loop-bound.scope.names (sym c.if-binds_type.ensures)
    c.if-not-leading.true)

pub returns-in_err-ty-clause-exact : goal.returns-in_err-ty-clause-exact
returns-in_err-ty-clause-exact c =
    answers-on_mapped
    (binders c.args.context.now.entry c.args.context.now.table.now c.args.leading c.args.bounds.now
    c.args.scope.now.names)
    (binders_of c.loop-bound.scope.names) c.from_residual-in_err-ty.result c.in_err-ty.field-0.0
    c.from_residual-in_err-ty.ensures
    (left-stop c.args.context.now.entry c.args.context.now.table.now c.args.leading
    c.args.bounds.now
    c.args.scope.now.names c.loop-bound.bound-index c.bound-item.result c.loop-bound.scope.names
    c.loop-bound.types c.in_err-ty.field-0.0 c.loop-bound-test.true c.bound-item.is
    c.loop-bound.invariant.left
    (binder_no_term c.args.context.now.entry c.args.context.now.table.now c.args.leading
    c.bound-item.result c.loop-bound.scope.names c.in_err-ty.field-0.0
    (sym c.if-binds_type.ensures) c.in_err-ty.ensures))

pub loop-bound-init : goal.loop-bound-init
loop-bound-init c =
    rw c.new-types.ensures
    (record {
      left = left-start c.args.context.now.entry c.args.context.now.table.now c.args.leading
          c.args.bounds.now c.args.scope.now.names;
      count = omega arith;
      grows = (Keeps-itself c.args.scope.now).grows;
    })

pub loop-bound-preserved : goal.loop-bound-preserved
loop-bound-preserved c =
    elim c.if-binds_type.branch [
      | then-binds_type+else-not-leading+in_ok-bind_type w ↦
          (let is : c.if-binds_type.scope.names
          ≡ TypeVariable c.bound-item.result.name ∷ c.loop-bound.scope.names =
          ap (λ (s : Scoped). s.names) w.scope-is
          ∙ (rw w.as_slice.ensures at (ap (λ (s : Scoped). s.names) w.in_ok-bind_type.ensures)) in
          record {
            left = left-type c.args.context.now.entry c.args.context.now.table.now c.args.leading
                c.args.bounds.now
                c.args.scope.now.names
                c.loop-bound.bound-index c.bound-item.result c.loop-bound.scope.names
                c.if-binds_type.scope.names c.loop-bound.types c.if-binds_type.types
                c.loop-bound-test.true c.bound-item.is c.loop-bound.invariant.left
                (sym w.if-binds_type.ensures) w.if-not-leading.false is w.types-is;
            count = omega (arith, ap (λ (s : Scope). length s) is, c.loop-bound.invariant.count);
            grows = Grows-named c.args.scope.now c.loop-bound.scope c.if-binds_type.scope
                (TypeVariable w.as_slice.result.now ∷ c.loop-bound.scope.names)
                (w.scope-is ∙ w.in_ok-bind_type.ensures) c.loop-bound.invariant.grows;
          })
      | else-binds_type+in_ok-ty+in_ok-bind_term+in_ok-push w ↦
          (let is : c.if-binds_type.scope.names
          ≡ TermVariable c.bound-item.result.name w.in_ok-ty.ty ∷ c.loop-bound.scope.names =
          ap (λ (s : Scoped). s.names) w.scope-is
          ∙ (rw w.as_slice-else-binds_type.ensures at w.in_ok-bind_term.ensures.names) in
          record {
            left = left-term c.args.context.now.entry c.args.context.now.table.now c.args.leading
                c.args.bounds.now
                c.args.scope.now.names
                c.loop-bound.bound-index c.bound-item.result c.loop-bound.scope.names
                c.if-binds_type.scope.names c.loop-bound.types c.if-binds_type.types w.in_ok-ty.ty
                c.loop-bound-test.true c.bound-item.is c.loop-bound.invariant.left
                (sym w.if-binds_type.ensures) w.in_ok-ty.ensures is
                (w.types-is ∙ w.in_ok-push.ensures.ok);
            count = omega (arith, ap (λ (s : Scope). length s) is, c.loop-bound.invariant.count);
            grows = subst (Grows c.args.scope.now) (sym w.scope-is)
                (Grows-twice c.args.scope.now c.loop-bound.scope _ c.loop-bound.invariant.grows
                w.in_ok-bind_term.ensures.grows);
          })
    ]

pub returns-clause-exact : goal.returns-clause-exact
returns-clause-exact c =
    let past : length c.args.bounds.now ≤ c.loop-bound.bound-index = omega arith in
    left-end c.args.context.now.entry c.args.context.now.table.now c.args.leading c.args.bounds.now
    c.args.scope.now.names c.loop-bound.bound-index c.loop-bound.scope.names c.loop-bound.types past
    c.loop-bound.invariant.left
