use Rattle.std.proofs.Common.{◌≡◌, ◌-◌, length, drop, sym, ap, ◌∙◌, arith}
use Rattle.std.proofs.lemmas.List.{take_all, drop_all, length-drop}
use Rattle.tptp_syntax.specs.declared.term.RawTerm.{RawTerm}
use Rattle.tf_check.specs.Names.{parameters_in}
use Rattle.tf_check.proofs.UseLemmas.{head, parameters_in-with_use}
use Rattle.tf_check.proofs.names.add_head.Goals as goal

pub returns-then-parameters-parts-clause-terms : goal.returns-then-parameters-parts-clause-terms
returns-then-parameters-parts-clause-terms c =
    let same : c.parameters-parameters.result
    ≡ parameters_in c.args.table.now.symbols c.args.name.now =
    (rw c.as_slice-2.ensures at c.parameters-parameters.ensures)
    ∙ parameters_in-with_use c.args.table.now c.add_use.new.self
    (head c.as_slice.result.now (length c.args.parts.now) c.args.is_function) c.args.name.now
    c.in_ok-add_use.ensures in
    take_all (length c.args.parts.now - c.parameters-parameters.result)
    (drop c.parameters-parameters.result c.args.parts.now)
    (omega (arith, length-drop {A = RawTerm} c.parameters-parameters.result c.args.parts.now))
    ∙ ap (λ k. drop k c.args.parts.now) same

pub returns-else-parameters-parts-clause-terms : goal.returns-else-parameters-parts-clause-terms
returns-else-parameters-parts-clause-terms c =
    let same : c.parameters-parameters.result
    ≡ parameters_in c.args.table.now.symbols c.args.name.now =
    (rw c.as_slice-2.ensures at c.parameters-parameters.ensures)
    ∙ parameters_in-with_use c.args.table.now c.add_use.new.self
    (head c.as_slice.result.now (length c.args.parts.now) c.args.is_function) c.args.name.now
    c.in_ok-add_use.ensures in
    sym (ap (λ k. drop k c.args.parts.now) (sym same)
    ∙ drop_all c.parameters-parameters.result c.args.parts.now c.if-parameters-parts.false)
