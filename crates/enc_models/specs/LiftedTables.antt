-- The typed model, as tables, that an untyped model of a translation gives of the normal problem.
use Rattle.std.specs.Prelude.{ℕ, ◌<◌, ◌≡◌}
use Rattle.tf_core.specs.declared.normal.Normal.{Normal}
use Rattle.tf_core.specs.Structures.{Typed}
use Rattle.tf_core.specs.TypedTables.{TypedTables}
use Rattle.enc_base.specs.Counts.{in_64_bits, most_entries}
use Rattle.fof_models.specs.declared.structure.Structure.{Structure}
use Rattle.fof_models.specs.Structures.{Untyped, reading}
use Rattle.structure_tables.specs.TypedTabled.{tabled}
use Rattle.structure_tables.specs.EntryCounts.{typed_count}
use Rattle.enc_marks.specs.declared.refusal.Refusal.{Refusal}
use Rattle.enc_marks.specs.declared.refusal.Refusal.TheVariants.{NotMonomorphic, NotMonotone}
use Rattle.enc_marks.specs.declared.refusal.Refusal.TheVariants.{TableTooLarge, Memory}
use Rattle.enc_marks.specs.Choices.{Choices}
use Rattle.enc_marks.specs.Encoded.{all_numbers, is_present, translation}
use Rattle.enc_laws.specs.Lifted.{lifted, lift_by}
use Rattle.enc_laws.specs.Present.{over_all, is_tag}

-- The structure over all marked symbols. Of those that don't occur a tag changes nothing, and any
-- other has zeros.
abbrev pub marked_structure : Choices → Normal → Structure → Untyped
marked_structure c normal s =
    over_all (is_present (translation c normal)) (is_tag c normal) (reading s)

-- the typed structure that it gives
abbrev pub lifted_structure : Choices → Normal → Structure → Typed
lifted_structure c normal s =
    lifted c (all_numbers normal) normal.signature (is_present (translation c normal))
    (marked_structure c normal s)
    (lift_by c.marking c normal (all_numbers normal) (marked_structure c normal s))

-- its tables
abbrev pub lifted_tables : Choices → Normal → Structure → TypedTables
lifted_tables c normal s = tabled normal.signature (lifted_structure c normal s)

-- how many numbers they hold
abbrev pub lifted_entries : Choices → Normal → Structure → ℕ
lifted_entries c normal s = typed_count normal.signature (lifted_structure c normal s)

-- The tables would hold too many numbers, and the refusal carries how many. Or there was no memory,
-- for them or for what they are counted by. There is no other cause.
abbrev pub IsLiftRefused : Choices → Normal → Structure → Refusal → Type 0
IsLiftRefused c normal s (NotMonomorphic name) = ⊥
IsLiftRefused c normal s (NotMonotone place) = ⊥
IsLiftRefused c normal s (TableTooLarge entries) =
    (most_entries < lifted_entries c normal s)
    × (entries ≡ in_64_bits (lifted_entries c normal s))
IsLiftRefused c normal s Memory = Unit {0}
