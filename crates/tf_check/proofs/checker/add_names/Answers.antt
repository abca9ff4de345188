use Rattle.std.proofs.Common.{◌≤◌, List, flat_map, length, sym, ap, ◌∙◌, arith}
use Rattle.std.proofs.lemmas.List.{take_all}
use Rattle.tptp_syntax.specs.declared.entry.Entry.{Entry}
use Rattle.tf_check.specs.Names.{parameters_in}
use Rattle.tf_check.specs.Table.{with_uses}
use Rattle.tf_check.proofs.StatementLemmas.{names_in, names_stated-entries}
use Rattle.tf_check.proofs.UseLemmas.{uses_next}
use Rattle.tf_check.proofs.checker.add_names.Goals as goal
use Rattle.tf_check.proofs.checker.add_names.Goals.{in-Declaration, in-Statement+in_ok-add_formula-in-Statement}

pub loop-entry-preserved : goal.loop-entry-preserved
loop-entry-preserved c =
    let next = uses_next c.args.table.now c.loop-entry.table c.match-entry.table names_in
    c.args.entries.now c.loop-entry.entry-index c.entry-item.result c.loop-entry-test.true
    c.entry-item.is c.loop-entry.invariant in
    let adds = λ (e : Entry).
    with_uses c.loop-entry.table (names_in (parameters_in c.loop-entry.table.symbols) e) in
    elim c.match-entry.branch [
      | in-Declaration w ↦ next (w.table-is ∙ ap adds (sym w.in-Declaration.is))
      | in-Statement+in_ok-add_formula-in-Statement w ↦
          next
          (w.table-is ∙ w.in_ok-add_formula-in-Statement.ensures ∙ ap adds (sym w.in-Statement.is))
    ]

pub returns : goal.returns
returns c =
    let past : length c.args.entries.now ≤ c.loop-entry.entry-index = omega arith in
    let parameters = parameters_in c.args.table.now.symbols in
    c.loop-entry.invariant
    ∙ ap (λ (es : List Entry). with_uses c.args.table.now (flat_map (names_in parameters) es))
    (take_all c.loop-entry.entry-index c.args.entries.now past)
    ∙ ap (with_uses c.args.table.now) (sym (names_stated-entries parameters 0 c.args.entries.now))
