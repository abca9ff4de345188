use Rattle.std.proofs.Common.{sym, ap, ◌∙◌, ◌++◌, ◌≡◌, ◌∷◌, [], subst}
use Rattle.std.specs.Prelude.{OnOk}
use Rattle.std.specs.List.{flat_map}
use Rattle.structure_tables.specs.ParameterGroups.{variables}
use Rattle.structure_tables.proofs.TypeVariables.{variables-variable, variables-apply}
use Rattle.structure_tables.proofs.groups.+variables.Goals as goal

pub push_variables-returns-in-Var : goal.push_variables-returns-in-Var
push_variables-returns-in-Var t c =
    let is : variables c.args.ty.now ≡ c.in-Var.i ∷ [] =
    ap variables c.in-Var.is ∙ variables-variable c.in-Var.i in
    subst (λ vs. OnOk c.push.result (c.push.new.self ≡ c.args.found.now ++ vs)) (sym is)
    c.push.ensures.ok

pub push_variables-returns-in-Apply : goal.push_variables-returns-in-Apply
push_variables-returns-in-Apply t c =
    let is : variables c.args.ty.now ≡ flat_map variables c.as_slice.result.now =
    ap variables c.in-Apply.is ∙ variables-apply c.in-Apply.field-0 c.in-Apply.types
    ∙ ap (flat_map variables) (sym c.as_slice.ensures) in
    subst
    (λ vs. OnOk c.push_variables_of_types.result
    (c.push_variables_of_types.new.found ≡ c.args.found.now ++ vs)) (sym is)
    c.push_variables_of_types.ensures
