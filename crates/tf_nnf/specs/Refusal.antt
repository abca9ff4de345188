-- When a problem has no normal problem.
use Rattle.std.specs.Prelude.{ℕ, ◌<◌, ◌≤◌, ◌≡◌}
use Rattle.enc_base.specs.Counts.{in_64_bits}
use Rattle.tf_core.specs.declared.normal.Normal.{Normal}
use Rattle.tf_nnf.specs.declared.error.NormalError.{NormalError}
use Rattle.tf_nnf.specs.declared.error.NormalError.TheVariants.{TooLarge, Memory}
use Rattle.tf_nnf.specs.Nodes.{normal_nodes}

-- the most nodes that a normal problem may have
abbrev pub most_nodes : ℕ
most_nodes = 4194304

-- The normal problem has too many nodes, and the refusal carries their number. Or it hasn't, and
-- there was no memory.
abbrev pub IsRefused : Normal → NormalError → Type 0
IsRefused normal (TooLarge nodes) =
    (most_nodes < normal_nodes normal) × (nodes ≡ in_64_bits (normal_nodes normal))
IsRefused normal Memory = normal_nodes normal ≤ most_nodes
