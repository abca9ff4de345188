use Rattle.std.proofs.Common.{not, sym, ap, ◌∙◌, arith}
use Rattle.tptp_syntax.specs.FileSizes.{entry_nodes}
use Rattle.tf_check.specs.Passes.{file_of, declaration_at, symbol_pass, declared_signature}
use Rattle.tf_check.proofs.DeclareSteps.{declares-first}
use Rattle.tf_check.proofs.KindSteps.{sum_within}
use Rattle.tf_check.proofs.PassLemmas as p
use Rattle.tf_check.proofs.declarations.declare_symbols.Goals as goal
use Rattle.tf_check.proofs.declarations.declare_symbols.Goals.{in-Declaration+then-not-is_kind+in_ok-declare_symbol-in-Declaration, in-Declaration+else-not-is_kind, in-Statement}

pub loop-i-init : goal.loop-i-init
loop-i-init c = p.symbols_begin c.args.entries.now c.args.table.now c.requires.before
    c.requires.few

pub declare_symbol-requires-clause-nodes : goal.declare_symbol-requires-clause-nodes
declare_symbol-requires-clause-nodes c =
    let below = sum_within entry_nodes c.args.entries.now c.loop-i.i c.index-entries-i.result
    c.loop-i-test.true c.index-entries-i.is in
    let own = ap entry_nodes c.in-Declaration.is in
    omega (arith, below, own, c.requires.nodes)

pub returns-in_err-declare_symbol-in-Declaration :
    goal.returns-in_err-declare_symbol-in-Declaration
returns-in_err-declare_symbol-in-Declaration c =
    let d = declaration_at c.loop-i.i c.in-Declaration.subject c.in-Declaration.body in
    let one = ap (p.of_entry p.declares_symbol c.loop-i.i) c.in-Declaration.is
    ∙ p.kept_one p.declares_symbol c.loop-i.i c.in-Declaration.name c.in-Declaration.subject
    c.in-Declaration.body
    (ap not (sym c.is_kind.ensures ∙ c.if-not-is_kind.true)) in
    declares-first (symbol_pass (file_of c.args.entries.now))
    (declared_signature (file_of c.args.entries.now))
    c.declare_symbol.new.table c.from_residual.result
    c.in_err-declare_symbol-in-Declaration.field-0.0 c.from_residual.ensures
    (p.symbols_stop c.args.entries.now c.loop-i.i c.index-entries-i.result d c.loop-i-test.true
    c.index-entries-i.is one c.loop-i.table c.declare_symbol.new.table
    c.in_err-declare_symbol-in-Declaration.field-0.0
    c.loop-i.invariant c.in_err-declare_symbol-in-Declaration.ensures)

pub loop-i-preserved : goal.loop-i-preserved
loop-i-preserved c =
    elim c.match-entry.branch [
      | in-Declaration+then-not-is_kind+in_ok-declare_symbol-in-Declaration w ↦
          let d = declaration_at c.loop-i.i w.in-Declaration.subject w.in-Declaration.body in
          let one = ap (p.of_entry p.declares_symbol c.loop-i.i) w.in-Declaration.is
          ∙ p.kept_one p.declares_symbol c.loop-i.i w.in-Declaration.name w.in-Declaration.subject
          w.in-Declaration.body
          (ap not (sym w.is_kind.ensures ∙ w.if-not-is_kind.true)) in
          rw w.table-is
          (p.symbols_next c.args.entries.now c.loop-i.i c.index-entries-i.result d
          c.loop-i-test.true
          c.index-entries-i.is one c.loop-i.table w.declare_symbol.new.table c.loop-i.invariant
          w.in_ok-declare_symbol-in-Declaration.ensures)
      | in-Declaration+else-not-is_kind w ↦
          let none = ap (p.of_entry p.declares_symbol c.loop-i.i) w.in-Declaration.is
          ∙ p.left_out p.declares_symbol c.loop-i.i w.in-Declaration.name w.in-Declaration.subject
          w.in-Declaration.body
          (ap not (sym w.is_kind.ensures ∙ w.if-not-is_kind.false)) in
          rw w.table-is
          (p.symbols_skip c.args.entries.now c.loop-i.i c.index-entries-i.result c.loop-i.table
          c.loop-i-test.true
          c.index-entries-i.is none c.loop-i.invariant)
      | in-Statement w ↦
          rw w.table-is
          (p.symbols_skip c.args.entries.now c.loop-i.i c.index-entries-i.result c.loop-i.table
          c.loop-i-test.true
          c.index-entries-i.is (ap (p.of_entry p.declares_symbol c.loop-i.i) w.in-Statement.is)
          c.loop-i.invariant)
    ]

pub returns : goal.returns
returns c =
    p.symbols_end c.args.entries.now c.loop-i.i c.loop-i.table c.loop-i-test.false
    c.loop-i.invariant
