use Rattle.std.proofs.Common.{◌≡◌, ◌&&◌, false, sym, subst, Ok}
use Rattle.tf_core.specs.declared.problem.Stated.{Stated}
use Rattle.tf_check.specs.Answers.{Answers}
use Rattle.tf_check.specs.Entries.{statement_at}
use Rattle.tf_check.specs.Faults.{is_conjecture, visited_statement}
use Rattle.tf_check.proofs.AnswerLemmas.{answers-on}
use Rattle.tf_check.proofs.StatementLemmas.{stated_as, statement_second, statement_stop, statement_done, neither, not_first, both_hold}
use Rattle.tf_check.proofs.checker.statement_of.Goals as goal
use Rattle.tf_check.proofs.checker.statement_of.Goals.{else-conjectured-via-then-conjectured+else-is_conjecture, else-conjectured-via-else-conjectured}

pub returns-then-is_conjecture-clause-exact : goal.returns-then-is_conjecture-clause-exact
returns-then-is_conjecture-clause-exact c =
    statement_second c.args.context.now.table.now c.args.conjectured
    (statement_at c.args.context.now.entry c.args.label.now c.args.role c.args.formula.now)
    (both_hold c.args.conjectured (is_conjecture c.args.role) c.if-conjectured.true
    (sym c.if-is_conjecture.ensures))

pub returns-in_err-body-clause-exact : goal.returns-in_err-body-clause-exact
returns-in_err-body-clause-exact c =
    let only : (c.args.conjectured && is_conjecture c.args.role) ≡ false =
    elim c.else-conjectured.branch [
      | else-conjectured-via-then-conjectured+else-is_conjecture w ↦
          neither c.args.conjectured (is_conjecture c.args.role) (sym w.if-is_conjecture.ensures)
      | else-conjectured-via-else-conjectured w ↦
          not_first c.args.conjectured (is_conjecture c.args.role) w.if-conjectured.false
    ] in
    answers-on
    (visited_statement c.args.context.now.table.now c.args.conjectured
    (statement_at c.args.context.now.entry c.args.label.now c.args.role c.args.formula.now))
    c.from_residual.result c.in_err-body.field-0.0 c.from_residual.ensures
    (statement_stop c.args.context.now.table.now c.args.conjectured
    (statement_at c.args.context.now.entry c.args.label.now c.args.role c.args.formula.now)
    c.in_err-body.field-0.0 only (rw c.requires.unbound at c.in_err-body.ensures.exact))

pub returns-clause-exact : goal.returns-clause-exact
returns-clause-exact c =
    let only : (c.args.conjectured && is_conjecture c.args.role) ≡ false =
    elim c.else-conjectured.branch [
      | else-conjectured-via-then-conjectured+else-is_conjecture w ↦
          neither c.args.conjectured (is_conjecture c.args.role) (sym w.if-is_conjecture.ensures)
      | else-conjectured-via-else-conjectured w ↦
          not_first c.args.conjectured (is_conjecture c.args.role) w.if-conjectured.false
    ] in
    let is : stated_as c.args.context.now.table.now c.args.conjectured
    (statement_at c.args.context.now.entry c.args.label.now c.args.role c.args.formula.now)
    c.in_ok-body.body
    ≡ record {
      name = c.in_ok-copy.field-0;
      role = c.role_of.result;
      type_variables = c.prefix_types.result;
      body = c.in_ok-body.body;
    } =
    λ i. record {
      name = sym c.in_ok-copy.ensures i;
      role = sym c.role_of.ensures i;
      type_variables = sym c.prefix_types.ensures.exact i;
      body = c.in_ok-body.body;
    } in
    subst
    (λ (stated : Stated). Answers
    (visited_statement c.args.context.now.table.now c.args.conjectured
    (statement_at c.args.context.now.entry c.args.label.now c.args.role c.args.formula.now))
    (Ok stated)) is
    (statement_done c.args.context.now.table.now c.args.conjectured
    (statement_at c.args.context.now.entry c.args.label.now c.args.role c.args.formula.now)
    c.in_ok-body.body only (rw c.requires.unbound at c.in_ok-body.ensures.exact))
