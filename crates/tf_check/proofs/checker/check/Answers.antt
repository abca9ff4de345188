use Rattle.tf_check.proofs.FileAnswers.{entries_within, check_constructors, check_symbols, check_statements, check_done}
use Rattle.tf_check.proofs.checker.check.Goals as goal

pub declare_constructors-requires-clause-nodes : goal.declare_constructors-requires-clause-nodes
declare_constructors-requires-clause-nodes c =
    entries_within c.args.file.now c.requires.within c.as_slice-entries.result.now
    c.as_slice-entries.ensures

pub declare_symbols-requires-clause-nodes : goal.declare_symbols-requires-clause-nodes
declare_symbols-requires-clause-nodes c =
    entries_within c.args.file.now c.requires.within c.as_slice-entries.result.now
    c.as_slice-entries.ensures

pub statements_of-requires : goal.statements_of-requires
statements_of-requires c =
    entries_within c.args.file.now c.requires.within c.as_slice-entries.result.now
    c.as_slice-entries.ensures

pub returns-in_err-declare_constructors : goal.returns-in_err-declare_constructors
returns-in_err-declare_constructors c =
    let answer = check_constructors c.args.file.now c.requires.within c.as_slice-entries.result.now
    c.as_slice-entries.ensures c.from_residual-in_err-declare_constructors.result
    c.in_err-declare_constructors.field-0.0 c.from_residual-in_err-declare_constructors.ensures
    c.in_err-declare_constructors.ensures.refused in
    record { exact = answer.exact; refused = answer.refused; sound = answer.sound }

pub returns-in_err-declare_symbols : goal.returns-in_err-declare_symbols
returns-in_err-declare_symbols c =
    let answer = check_symbols c.args.file.now c.requires.within c.as_slice-entries.result.now
    c.as_slice-entries.ensures c.in_ok-declare_constructors.ensures.clean
    c.from_residual-in_err-declare_symbols.result c.in_err-declare_symbols.field-0.0
    c.from_residual-in_err-declare_symbols.ensures c.in_err-declare_symbols.ensures.refused in
    record { exact = answer.exact; refused = answer.refused; sound = answer.sound }

pub returns-in_err-formulas : goal.returns-in_err-formulas
returns-in_err-formulas c =
    let answer = check_statements c.args.file.now c.requires.within c.as_slice-entries.result.now
    c.as_slice-entries.ensures c.in_ok-declare_constructors.ensures.clean
    c.in_ok-declare_symbols.ensures.clean c.declare_symbols.new.table c.add_names.new.table
    c.in_ok-declare_symbols.ensures.leaves c.in_ok-add_names.ensures
    c.from_residual-in_err-formulas.result c.in_err-formulas.field-0.0
    c.from_residual-in_err-formulas.ensures c.in_err-formulas.ensures in
    record { exact = answer.exact; refused = answer.refused; sound = answer.sound }

pub returns : goal.returns
returns c =
    let answer = check_done c.args.file.now c.requires.within c.as_slice-entries.result.now
    c.as_slice-entries.ensures c.in_ok-declare_constructors.ensures.clean
    c.in_ok-declare_symbols.ensures.clean c.declare_symbols.new.table c.add_names.new.table
    c.in_ok-declare_symbols.ensures.leaves c.in_ok-add_names.ensures
    c.in_ok-into_signature.field-0 c.in_ok-formulas.formulas c.in_ok-into_signature.ensures
    c.in_ok-formulas.ensures in
    record { exact = answer.exact; refused = answer.refused; sound = answer.sound }
