-- What holds of both schemes: they ask for problems without type variables, and their marks are of
-- sorts.
use Rattle.std.specs.Prelude.{ℕ, ◌≡◌, ◌≤◌, ◌⊎◌, List, Option, Some, None, IsTrue}
use Rattle.std.proofs.Common.{refl, sym, ap, subst, ⊎_elim}
use Rattle.tf_core.specs.declared.normal.Normal.{Normal}
use Rattle.tf_core.specs.Sound.{is_monomorphic}
use Rattle.tf_core.specs.TypedTables.{TypedTables}
use Rattle.enc_base.specs.Counts.{most_entries}
use Rattle.enc_marks.specs.declared.encoded.Encoded.{Encoded}
use Rattle.enc_marks.specs.declared.refusal.Refusal.{Refusal}
use Rattle.enc_marks.specs.declared.refusal.Refusal.TheVariants.{NotMonomorphic, NotMonotone, TableTooLarge, Memory}
use Rattle.enc_marks.specs.declared.scheme.Scheme.{Scheme}
use Rattle.enc_marks.specs.declared.scheme.Scheme.TheVariants as scheme
use Rattle.enc_marks.specs.Applies.{Applies, asks_monomorphic, first_polymorphic}
use Rattle.enc_marks.specs.Applies as applied
use Rattle.enc_marks.specs.Encoded.{encoded}
use Rattle.enc_marks.proofs.PolymorphicNames.{names_tell}
use Rattle.enc_marks.specs.Schemes.{choices_of}
use Rattle.enc_models.specs.Lowered.{lowered_entries, IsRefused}
use Rattle.enc_models.specs.Lowered.{entries_by_sort, IsTooLarge}

-- where no name with type variables was found
pub no_name-monomorphic : (name : Option (List ℕ)) (normal : Normal) →
    name ≡ first_polymorphic normal → ((other : List ℕ) → name ≡ Some other → ⊥) →
    IsTrue (is_monomorphic normal)
no_name-monomorphic None normal is never = (names_tell normal).0 (sym is)
no_name-monomorphic (Some other) normal is never = absurd (never other refl)

module _ (which : Scheme) (normal : Normal)
    (one : (which ≡ scheme.GuardsFeather) ⊎ (which ≡ scheme.TagsFeather)) where
  pub applies_to : IsTrue (is_monomorphic normal) → Applies which normal
  applies_to monomorphic =
      ⊎_elim
      (λ is. subst (λ s. Applies s normal) (sym is) monomorphic)
      (λ is. subst (λ s. Applies s normal) (sym is) monomorphic)
      one

  pub is_monomorphic_by : Applies which normal → IsTrue (is_monomorphic normal)
  is_monomorphic_by applies =
      ⊎_elim
      (λ is. subst (λ s. Applies s normal) is applies)
      (λ is. subst (λ s. Applies s normal) is applies)
      one

  pub refused_by : (name : List ℕ) → first_polymorphic normal ≡ Some name →
      applied.IsRefused which normal (NotMonomorphic name)
  refused_by name first = (
    ⊎_elim (λ is. ap asks_monomorphic is) (λ is. ap asks_monomorphic is) one,
    first,
  )

  module _ (e : Encoded) (t : TypedTables) (is : e ≡ encoded (choices_of which normal) normal) where
    -- the numbers that are counted are those of the lowered tables
    pub entries_are : entries_by_sort normal e t ≡ lowered_entries (choices_of which normal) normal t
    entries_are =
        subst (λ (other : Encoded). entries_by_sort normal other t
        ≡ lowered_entries (choices_of which normal) normal t) (sym is)
        (⊎_elim
        (λ same. subst (λ s. entries_by_sort normal (encoded (choices_of s normal) normal) t
        ≡ lowered_entries (choices_of s normal) normal t) (sym same) refl)
        (λ same. subst (λ s. entries_by_sort normal (encoded (choices_of s normal) normal) t
        ≡ lowered_entries (choices_of s normal) normal t) (sym same) refl)
        one)

    pub refused_large : (refusal : Refusal) → IsTooLarge (entries_by_sort normal e t) refusal →
        IsRefused (choices_of which normal) normal t refusal
    refused_large (NotMonomorphic name) never = never
    refused_large (NotMonotone place) never = never
    refused_large (TableTooLarge entries) large =
        subst (λ count. IsTooLarge count (TableTooLarge entries)) entries_are large
    refused_large Memory never = absurd never

    pub memory_refused : entries_by_sort normal e t ≤ most_entries →
        IsRefused (choices_of which normal) normal t Memory
    memory_refused within = subst (λ count. count ≤ most_entries) entries_are within
