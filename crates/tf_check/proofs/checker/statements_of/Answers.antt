use Rattle.std.proofs.Common.{◌≡◌, ◌≤◌, ◌||◌, false, length, sym, ap, ◌∙◌, arith}
use Rattle.tptp_syntax.specs.FileSizes.{entry_nodes}
use Rattle.tf_check.specs.Bound.{Scoped}
use Rattle.tf_check.specs.Entries.{statements}
use Rattle.tf_check.specs.Faults.{is_conjecture, visited_statements}
use Rattle.tf_check.specs.Passes.{file_of}
use Rattle.tf_check.proofs.AnswerLemmas.{answers-on}
use Rattle.tf_check.proofs.KindSteps.{sum_within}
use Rattle.tf_check.proofs.StatementLemmas.{statements_start, statements_skip, statements_next, statements_stop, statements_end, either_holds, neither_first}
use Rattle.tf_check.proofs.checker.statements_of.Goals as goal
use Rattle.tf_check.proofs.checker.statements_of.Goals.{in-Declaration, in-Statement+in_ok-stated-in-Statement+in_ok-push-in-Statement, then-conjectured, else-conjectured}

pub loop-i-init : goal.loop-i-init
loop-i-init c =
    rw c.new-formulas.ensures
    (record {
      left = statements_start c.args.table.now c.args.entries.now;
      unbound = c.in_ok-scope.ensures.names;
      ready = c.in_ok-scope.ensures.symbols;
    })

pub statement_of-requires-clause-size : goal.statement_of-requires-clause-size
statement_of-requires-clause-size c =
    omega (
      arith,
      c.requires,
      ap entry_nodes c.in-Statement.is,
      sum_within entry_nodes c.args.entries.now c.loop-i.i c.index-entries-i.result
          c.loop-i-test.true
          c.index-entries-i.is,
    )

pub returns-in_err-stated-in-Statement : goal.returns-in_err-stated-in-Statement
returns-in_err-stated-in-Statement c =
    answers-on
    (visited_statements c.args.table.now false (statements (file_of c.args.entries.now)))
    c.from_residual-in_err-stated-in-Statement.result c.in_err-stated-in-Statement.field-0.0
    c.from_residual-in_err-stated-in-Statement.ensures
    (statements_stop c.args.table.now c.args.entries.now c.loop-i.conjectured c.loop-i.i
    c.loop-i.formulas c.loop-i.invariant.left c.index-entries-i.result c.loop-i-test.true
    c.index-entries-i.is _ _ _ c.in_err-stated-in-Statement.field-0.0
    c.in-Statement.is c.in_err-stated-in-Statement.ensures.exact)

pub loop-i-preserved : goal.loop-i-preserved
loop-i-preserved c =
    elim c.match-entry.branch [
      | in-Declaration w ↦
          (record {
            left = rw (w.formulas-is, w.conjectured-is)
                (statements_skip c.args.table.now c.args.entries.now c.loop-i.conjectured c.loop-i.i
                c.loop-i.formulas c.loop-i.invariant.left c.index-entries-i.result
                c.loop-i-test.true c.index-entries-i.is _ _ _ w.in-Declaration.is);
            unbound = ap (λ (s : Scoped). s.names) w.scope-is ∙ c.loop-i.invariant.unbound;
            ready = ap (λ (s : Scoped). s.symbols) w.scope-is ∙ c.loop-i.invariant.ready;
          })
      | in-Statement+in_ok-stated-in-Statement+in_ok-push-in-Statement w ↦
          (let conjectured : c.match-entry.conjectured
          ≡ (c.loop-i.conjectured || is_conjecture w.in-Statement.role) =
          elim w.if-conjectured.branch [
            | then-conjectured v ↦
                w.conjectured-is ∙ v.conjectured-is ∙ v.if-conjectured.true
                ∙ sym (either_holds c.loop-i.conjectured (is_conjecture w.in-Statement.role)
                v.if-conjectured.true)
            | else-conjectured v ↦
                w.conjectured-is ∙ v.conjectured-is ∙ v.is_conjecture-conjectured.ensures
                ∙ sym (neither_first c.loop-i.conjectured (is_conjecture w.in-Statement.role)
                v.if-conjectured.false)
          ] in
          record {
            left = rw (w.formulas-is, w.in_ok-push-in-Statement.ensures.ok, conjectured)
                (statements_next c.args.table.now c.args.entries.now c.loop-i.conjectured c.loop-i.i
                c.loop-i.formulas c.loop-i.invariant.left c.index-entries-i.result
                c.loop-i-test.true c.index-entries-i.is _ _ _ w.in_ok-stated-in-Statement.stated
                w.in-Statement.is w.in_ok-stated-in-Statement.ensures.exact);
            unbound = ap (λ (s : Scoped). s.names) w.scope-is
                ∙ w.in_ok-stated-in-Statement.ensures.kept.names ∙ c.loop-i.invariant.unbound;
            ready = ap (λ (s : Scoped). s.symbols) w.scope-is
                ∙ w.in_ok-stated-in-Statement.ensures.kept.grows.symbols ∙ c.loop-i.invariant.ready;
          })
    ]

pub returns : goal.returns
returns c =
    let past : length c.args.entries.now ≤ c.loop-i.i = omega arith in
    statements_end c.args.table.now c.args.entries.now c.loop-i.conjectured c.loop-i.i
    c.loop-i.formulas past c.loop-i.invariant.left
