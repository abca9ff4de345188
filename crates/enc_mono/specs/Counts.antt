-- How large a problem of instances is.
use Rattle.std.specs.Prelude.{ℕ, ◌+◌, map, sum}
use Rattle.std.specs.List.{sum_by}
use Rattle.tf_core.specs.declared.normal.Normal.{Normal}
use Rattle.tf_core.specs.Types.{type_nodes}
use Rattle.tf_core.specs.Sorts.{binder_types}
use Rattle.tf_core.specs.Counts.{signature_nodes}
use Rattle.tf_nnf.specs.Nodes.{normal_nodes}

-- the nodes of the types at binders, each type seen as a tree
abbrev pub binder_type_nodes : Normal → ℕ
binder_type_nodes normal =
    sum_by (λ formula. sum (map type_nodes (binder_types formula.body))) normal.formulas

-- the nodes of the formulas, and those of the types in symbols and at binders
abbrev pub instance_nodes : Normal → ℕ
instance_nodes normal =
    normal_nodes normal + (signature_nodes normal.signature + binder_type_nodes normal)

-- the most nodes that a problem of instances may have
abbrev pub most_instance_nodes : ℕ
most_instance_nodes = 16777216
