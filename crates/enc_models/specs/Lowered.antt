-- The untyped model, as tables, that a typed model of a normal problem gives of its translation.
use Rattle.std.specs.Prelude.{ℕ, ◌<◌, ◌≤◌, ◌≡◌, length}
use Rattle.tf_core.specs.declared.normal.Normal.{Normal}
use Rattle.tf_core.specs.Structures.{Typed}
use Rattle.tf_core.specs.TypedTables.{TypedTables, reading}
use Rattle.enc_base.specs.Counts.{in_64_bits, most_entries}
use Rattle.fof_models.specs.declared.structure.Structure.{Structure}
use Rattle.fof_models.specs.Structures.{Untyped}
use Rattle.fof_models.specs.Tabled.{tabled}
use Rattle.structure_tables.specs.EntryCounts.{untyped_count}
use Rattle.enc_marks.specs.declared.refusal.Refusal.{Refusal}
use Rattle.enc_marks.specs.declared.refusal.Refusal.TheVariants.{NotMonomorphic, NotMonotone}
use Rattle.enc_marks.specs.declared.refusal.Refusal.TheVariants.{TableTooLarge, Memory}
use Rattle.enc_marks.specs.declared.choices.Domain.{Domain}
use Rattle.enc_marks.specs.declared.choices.Domain.TheVariants.{Merged, Collapsed}
use Rattle.enc_marks.specs.declared.choices.Marking.TheVariants.{BySort}
use Rattle.enc_marks.specs.declared.encoded.Encoded.{Encoded}
use Rattle.enc_marks.specs.Choices.{Choices}
use Rattle.enc_marks.specs.Encoded.{all_marks, is_present, translation, encoded}
use Rattle.enc_laws.specs.MergedStructure.{merged}
use Rattle.enc_laws.specs.CollapsedStructure.{collapsed, collapsed_size}
use Rattle.enc_laws.specs.Present.{over_present}

-- the untyped structure of the typed one, over all marked symbols
abbrev pub structure_by : Domain → Choices → Normal → Typed → Untyped
structure_by Merged c normal s = merged c normal.signature s
structure_by Collapsed c normal s = collapsed c normal s

-- the same over the marked symbols that occur in the translation
abbrev pub lowered_structure : Choices → Normal → TypedTables → Untyped
lowered_structure c normal t =
    over_present (is_present (translation c normal)) (length (all_marks c normal))
    (structure_by c.domain c normal (reading normal.signature t))

-- its tables
abbrev pub lowered : Choices → Normal → TypedTables → Structure
lowered c normal t = tabled (encoded c normal).problem.signature (lowered_structure c normal t)

-- how many numbers they hold: the size of the domain, and an entry of each symbol for each tuple
abbrev pub lowered_entries : Choices → Normal → TypedTables → ℕ
lowered_entries c normal t =
    untyped_count (lowered_structure c normal t).size (encoded c normal).problem.signature

-- how many they hold of a scheme whose marks are of sorts, over the collapsed domain
abbrev pub entries_by_sort : Normal → Encoded → TypedTables → ℕ
entries_by_sort normal encoded t =
    untyped_count (collapsed_size BySort normal (reading normal.signature t))
    encoded.problem.signature

-- so many numbers are too many, and the refusal carries how many
abbrev pub IsTooLarge : ℕ → Refusal → Type 0
IsTooLarge count (NotMonomorphic name) = ⊥
IsTooLarge count (NotMonotone place) = ⊥
IsTooLarge count (TableTooLarge entries) =
    (most_entries < count) × (entries ≡ in_64_bits count)
IsTooLarge count Memory = ⊥

-- The tables would hold too many numbers, and the refusal carries how many. Or they wouldn't, and
-- there was no memory. There is no other cause.
abbrev pub IsRefused : Choices → Normal → TypedTables → Refusal → Type 0
IsRefused c normal t (NotMonomorphic name) = ⊥
IsRefused c normal t (NotMonotone place) = ⊥
IsRefused c normal t (TableTooLarge entries) =
    (most_entries < lowered_entries c normal t)
    × (entries ≡ in_64_bits (lowered_entries c normal t))
IsRefused c normal t Memory = lowered_entries c normal t ≤ most_entries
