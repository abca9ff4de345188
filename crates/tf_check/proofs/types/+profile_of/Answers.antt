use Rattle.std.proofs.Common.{List, length, map, ap, arith, Ok, Err}
use Rattle.tptp_syntax.specs.declared.types.Bound.{Bound}
use Rattle.tptp_syntax.specs.FileSizes.{type_nodes}
use Rattle.std.proofs.lemmas.List.{length-map}
use Rattle.tf_check.specs.Answers.{map_ok}
use Rattle.tf_check.specs.Context.{type_in}
use Rattle.tf_check.specs.Scope.{Scope}
use Rattle.tf_check.specs.Table.{named_profile}
use Rattle.tf_check.specs.Types.{bound_reading}
use Rattle.tf_check.proofs.ProfileSteps as p
use Rattle.tf_check.proofs.types.+profile_of.Goals as goal

pub bind_parameters-requires : goal.bind_parameters-requires
bind_parameters-requires t c =
    let nodes = p.nodes-quantified c.in-Quantified.bounds c.in-Quantified.inner in
    let size = ap type_nodes c.in-Quantified.is in
    let count = ap (λ (bs : List Bound). length bs) c.as_slice.ensures in
    omega (arith, nodes, size, count, c.requires)

pub returns-in_err-bind_parameters-in-Quantified :
    goal.returns-in_err-bind_parameters-in-Quantified
returns-in_err-bind_parameters-in-Quantified t c = λ name.
    p.answers-on_map ((type_in c.args.context.now c.args.body.now).as_symbol name c.args.scope.now.names)
    c.from_residual.result (named_profile name) c.in_err-bind_parameters-in-Quantified.field-0.0
    c.from_residual.ensures
    (rw c.in-Quantified.is
    (p.symbol_no_parameters c.args.context.now.entry c.args.context.now.table.now.constructors name
    c.args.scope.now.names c.in-Quantified.bounds c.in-Quantified.inner
    c.in_err-bind_parameters-in-Quantified.field-0.0
    (rw c.as_slice.ensures at c.in_err-bind_parameters-in-Quantified.ensures)))

pub profile_of-requires : goal.profile_of-requires
profile_of-requires t c =
    let nodes = p.nodes-quantified c.in-Quantified.bounds c.in-Quantified.inner in
    let size = ap type_nodes c.in-Quantified.is in
    let own = ap type_nodes c.get.ensures in
    let readings = map (bound_reading c.args.context.now.entry
    c.args.context.now.table.now.constructors)
    c.as_slice.result.now in
    let bound = p.length-bound c.args.context.now.entry readings c.args.scope.now.names in
    let count = length-map c.as_slice.result.now
    (bound_reading c.args.context.now.entry c.args.context.now.table.now.constructors) in
    let listed = ap (λ (bs : List Bound). length bs) c.as_slice.ensures in
    let value = ap (λ (s : Scope). length s)
    c.in_ok-bind_parameters-in-Quantified.ensures.exact.1 in (
      omega (arith, nodes, size, own),
      omega (arith, nodes, size, own, bound, count, listed, value, c.requires),
    )

pub returns-in_err-arguments_of-in-Map : goal.returns-in_err-arguments_of-in-Map
returns-in_err-arguments_of-in-Map t c = λ name.
    p.answers-on_map ((type_in c.args.context.now c.args.body.now).as_symbol name c.args.scope.now.names)
    c.from_residual-in_err-arguments_of-in-Map.result (named_profile name)
    c.in_err-arguments_of-in-Map.field-0.0 c.from_residual-in_err-arguments_of-in-Map.ensures
    (rw c.in-Map.is
    (p.map_no_arguments c.args.context.now.entry c.args.context.now.table.now.constructors name
    c.args.scope.now.names c.in-Map.left c.in-Map.right c.in_err-arguments_of-in-Map.field-0.0
    (p.answers-first
    ((type_in c.args.context.now c.in-Map.left).as_arguments c.args.scope.now.names)
    (Err c.in_err-arguments_of-in-Map.field-0.0)
    (rw (c.new-arguments.ensures, c.get-in-Map.ensures) at c.in_err-arguments_of-in-Map.ensures))))

pub returns-in_err-result-in-Map : goal.returns-in_err-result-in-Map
returns-in_err-result-in-Map t c = λ name.
    p.answers-on_map ((type_in c.args.context.now c.args.body.now).as_symbol name c.args.scope.now.names)
    c.from_residual-in_err-result-in-Map.result (named_profile name)
    c.in_err-result-in-Map.field-0.0 c.from_residual-in_err-result-in-Map.ensures
    (rw c.in-Map.is
    (p.map_no_result c.args.context.now.entry c.args.context.now.table.now.constructors name
    c.args.scope.now.names c.in-Map.left c.in-Map.right c.arguments_of.new.types
    c.in_err-result-in-Map.field-0.0
    (p.answers-first
    ((type_in c.args.context.now c.in-Map.left).as_arguments c.args.scope.now.names)
    (Ok c.arguments_of.new.types)
    (rw (c.new-arguments.ensures, c.get-in-Map.ensures) at c.in_ok-arguments_of-in-Map.ensures))
    (rw c.get-in-Map-2.ensures at c.in_err-result-in-Map.ensures)))

pub returns-in_err-result_of-in_default : goal.returns-in_err-result_of-in_default
returns-in_err-result_of-in_default t c = λ name.
    p.answers-on_map ((type_in c.args.context.now c.args.body.now).as_symbol name c.args.scope.now.names)
    c.from_residual-in_err-result_of-in_default.result (named_profile name)
    c.in_err-result_of-in_default.field-0.0 c.from_residual-in_err-result_of-in_default.ensures
    (p.constant_stop c.args.context.now.entry c.args.context.now.table.now.constructors name
    c.args.scope.now.names c.args.body.now c.in_default.not-Quantified c.in_default.not-Map
    c.in_err-result_of-in_default.field-0.0 c.in_err-result_of-in_default.ensures)

pub returns-in_ok-bind_parameters-in-Quantified : goal.returns-in_ok-bind_parameters-in-Quantified
returns-in_ok-bind_parameters-in-Quantified t c = λ name.
    rw c.in-Quantified.is
    (p.symbol_inside c.args.context.now.entry c.args.context.now.table.now.constructors name
    c.args.scope.now.names c.in-Quantified.bounds c.in-Quantified.inner c.bind_parameters.new.scope.names
    (map_ok (named_profile name) c.profile_of.result)
    (rw c.as_slice.ensures at c.in_ok-bind_parameters-in-Quantified.ensures)
    (rw c.get.ensures at c.profile_of.ensures name))

pub returns-in_ok-result-in-Map : goal.returns-in_ok-result-in-Map
returns-in_ok-result-in-Map t c = λ name.
    rw (c.in-Map.is, c.type_variables.ensures)
    (p.map_is c.args.context.now.entry c.args.context.now.table.now.constructors name
    c.args.scope.now.names c.in-Map.left c.in-Map.right c.arguments_of.new.types
    c.in_ok-result-in-Map.result
    (p.answers-first
    ((type_in c.args.context.now c.in-Map.left).as_arguments c.args.scope.now.names)
    (Ok c.arguments_of.new.types)
    (rw (c.new-arguments.ensures, c.get-in-Map.ensures) at c.in_ok-arguments_of-in-Map.ensures))
    (rw c.get-in-Map-2.ensures at c.in_ok-result-in-Map.ensures))

pub returns-in_ok-result_of-in_default : goal.returns-in_ok-result_of-in_default
returns-in_ok-result_of-in_default t c = λ name.
    rw (c.type_variables-in_default.ensures, c.new.ensures)
    (p.constant_is c.args.context.now.entry c.args.context.now.table.now.constructors name
    c.args.scope.now.names c.args.body.now c.in_default.not-Quantified c.in_default.not-Map
    c.in_ok-result_of-in_default.field-0 c.in_ok-result_of-in_default.ensures)
