-- The lowered structure over a merged domain.
use Rattle.std.specs.Prelude.{◌≡◌, ◌≤◌, length}
use Rattle.std.proofs.Common.{ap, arith}
use Rattle.tf_core.specs.declared.normal.Normal.{Normal}
use Rattle.tf_core.specs.TypedTables.{TypedTables, reading}
use Rattle.tf_stamp.specs.Merged.{merged_size}
use Rattle.structure_tables.specs.EntryCounts.{untyped_count}
use Rattle.enc_marks.specs.declared.choices.Domain.{Domain}
use Rattle.enc_marks.specs.declared.choices.Domain.TheVariants.{Merged}
use Rattle.enc_marks.specs.Choices.{Choices}
use Rattle.enc_marks.specs.Encoded.{all_marks, encoded, is_present, translation}
use Rattle.enc_laws.specs.MergedStructure.{merged}
use Rattle.enc_laws.specs.Present.{over_present}
use Rattle.enc_models.specs.Lowered.{structure_by, lowered_structure, lowered_entries}

module _ (c : Choices) (normal : Normal) (t : TypedTables) (domain : c.domain ≡ Merged) where
  pub lowered_structure-merged : lowered_structure c normal t
      ≡ over_present (is_present (translation c normal)) (length (all_marks c normal))
      (merged c normal.signature (reading normal.signature t))
  lowered_structure-merged =
      ap (λ (d : Domain). over_present (is_present (translation c normal))
      (length (all_marks c normal)) (structure_by d c normal (reading normal.signature t))) domain

  pub lowered_entries-merged : lowered_entries c normal t
      ≡ untyped_count (merged_size t.sizes) (encoded c normal).problem.signature
  lowered_entries-merged =
      ap (λ (d : Domain). untyped_count (structure_by d c normal (reading normal.signature t)).size
      (encoded c normal).problem.signature) domain

  -- the domain is a part of what is counted
  pub merged_size-counted : merged_size t.sizes ≤ lowered_entries c normal t
  merged_size-counted = omega (arith, lowered_entries-merged)
