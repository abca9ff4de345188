-- Whether a type is free, as it is looked up in a table of sorts.
use Rattle.std.specs.Prelude.{Bool, true, List, get_or}
use Rattle.std.specs.List.{position_or_len}
use Rattle.tf_core.specs.declared.ty.Ty.{Ty}
use Rattle.tf_core.specs.Types.{same_type}

-- by sorts and what is told of each; a type that is no sort is free
unfoldable pub is_free_by : List Ty × List Bool → Ty → Bool
is_free_by table ty = get_or table.1 (position_or_len (same_type ty) table.0) true
