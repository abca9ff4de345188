use Rattle.std.proofs.Common.{sym, ap, ◌∙◌, arith}
use Rattle.tptp_syntax.specs.FileSizes.{entry_nodes}
use Rattle.tf_check.specs.Passes.{file_of, declaration_at, constructor_pass, constructors_alone}
use Rattle.tf_check.proofs.DeclareSteps.{declares-first}
use Rattle.tf_check.proofs.KindSteps.{sum_within}
use Rattle.tf_check.proofs.PassLemmas as p
use Rattle.tf_check.proofs.declarations.declare_constructors.Goals as goal
use Rattle.tf_check.proofs.declarations.declare_constructors.Goals.{in-Declaration+then-is_kind+in_ok-declare_constructor-in-Declaration, in-Declaration+else-is_kind, in-Statement}

pub loop-i-init : goal.loop-i-init
loop-i-init c = p.constructors_begin c.args.entries.now c.args.table.now c.requires.before

pub declare_constructor-requires-clause-nodes : goal.declare_constructor-requires-clause-nodes
declare_constructor-requires-clause-nodes c =
    let below = sum_within entry_nodes c.args.entries.now c.loop-i.i c.index-entries-i.result
    c.loop-i-test.true c.index-entries-i.is in
    let own = ap entry_nodes c.in-Declaration.is in
    omega (arith, below, own, c.requires.nodes)

pub returns-in_err-declare_constructor-in-Declaration :
    goal.returns-in_err-declare_constructor-in-Declaration
returns-in_err-declare_constructor-in-Declaration c =
    let d = declaration_at c.loop-i.i c.in-Declaration.subject c.in-Declaration.body in
    let one = ap (p.of_entry p.declares_constructor c.loop-i.i) c.in-Declaration.is
    ∙ p.kept_one p.declares_constructor c.loop-i.i c.in-Declaration.name c.in-Declaration.subject
    c.in-Declaration.body
    (sym c.is_kind.ensures ∙ c.if-is_kind.true) in
    declares-first (constructor_pass (file_of c.args.entries.now))
    (constructors_alone (file_of c.args.entries.now))
    c.declare_constructor.new.table c.from_residual.result
    c.in_err-declare_constructor-in-Declaration.field-0.0 c.from_residual.ensures
    (p.constructors_stop c.args.entries.now c.loop-i.i c.index-entries-i.result d
    c.loop-i-test.true
    c.index-entries-i.is one c.loop-i.table c.declare_constructor.new.table
    c.in_err-declare_constructor-in-Declaration.field-0.0
    c.loop-i.invariant c.in_err-declare_constructor-in-Declaration.ensures)

pub loop-i-preserved : goal.loop-i-preserved
loop-i-preserved c =
    elim c.match-entry.branch [
      | in-Declaration+then-is_kind+in_ok-declare_constructor-in-Declaration w ↦
          let d = declaration_at c.loop-i.i w.in-Declaration.subject w.in-Declaration.body in
          let one = ap (p.of_entry p.declares_constructor c.loop-i.i) w.in-Declaration.is
          ∙ p.kept_one p.declares_constructor c.loop-i.i w.in-Declaration.name
          w.in-Declaration.subject w.in-Declaration.body
          (sym w.is_kind.ensures ∙ w.if-is_kind.true) in
          rw w.table-is
          (p.constructors_next c.args.entries.now c.loop-i.i c.index-entries-i.result d
          c.loop-i-test.true
          c.index-entries-i.is one c.loop-i.table w.declare_constructor.new.table
          c.loop-i.invariant
          w.in_ok-declare_constructor-in-Declaration.ensures)
      | in-Declaration+else-is_kind w ↦
          let none = ap (p.of_entry p.declares_constructor c.loop-i.i) w.in-Declaration.is
          ∙ p.left_out p.declares_constructor c.loop-i.i w.in-Declaration.name
          w.in-Declaration.subject w.in-Declaration.body
          (sym w.is_kind.ensures ∙ w.if-is_kind.false) in
          rw w.table-is
          (p.constructors_skip c.args.entries.now c.loop-i.i c.index-entries-i.result
          c.loop-i.table c.loop-i-test.true
          c.index-entries-i.is none c.loop-i.invariant)
      | in-Statement w ↦
          rw w.table-is
          (p.constructors_skip c.args.entries.now c.loop-i.i c.index-entries-i.result
          c.loop-i.table c.loop-i-test.true
          c.index-entries-i.is (ap (p.of_entry p.declares_constructor c.loop-i.i)
          w.in-Statement.is) c.loop-i.invariant)
    ]
