-- The laws of the schemes whose marks are of sorts, and of all schemes, from those of the
-- structures.
use Rattle.std.specs.Prelude.{ℕ, ◌≡◌, Bool, true, false, not, ◌&&◌, cond, IsTrue}
use Rattle.std.proofs.Common.{refl, sym, subst}
use Rattle.std.proofs.lemmas.Bool.{and_parts, false≢true}
use Rattle.tf_core.specs.declared.normal.Normal.{Normal}
use Rattle.tf_core.specs.Sound.{is_monomorphic, IsSoundNormal}
use Rattle.tf_core.specs.Models.{IsNormalModel}
use Rattle.fof_models.specs.declared.structure.Structure.{Structure}
use Rattle.fof_models.specs.Structures.{Untyped, reading}
use Rattle.fof_models.specs.Models.{AreSatisfied, AreModel}
use Rattle.tf_naked.specs.Naked.{is_free}
use Rattle.tf_naked.specs.Standing.{is_positive_side, is_universal}
use Rattle.enc_marks.specs.declared.choices.Elements.{Elements}
use Rattle.enc_marks.specs.declared.choices.Elements.TheVariants.{Guarded, Fixed, All}
use Rattle.enc_marks.specs.declared.choices.Marking.TheVariants.{ByType, BySort}
use Rattle.enc_marks.specs.declared.scheme.Scheme.{Scheme}
use Rattle.enc_marks.specs.declared.scheme.Scheme.TheVariants as scheme
use Rattle.enc_marks.specs.Choices.{Choices}
use Rattle.enc_marks.specs.Schemes.{erase, guards_light, guards_feather, tags_feather, choices_of}
use Rattle.enc_marks.specs.Encoded.{all_numbers, is_present, translation, encoded}
use Rattle.enc_laws.specs.Lifted.{lifted, is_element, read_as, lift_by_sort, lift_by}
use Rattle.enc_laws.specs.Present.{over_all, is_tag, all_present}
use Rattle.enc_laws.specs.LiftedBySort.{IsTotalBySort, SortsAreLifted, ModelsAreLifted}
use Rattle.enc_laws.specs.Laws.{lifted_of}
use Rattle.enc_laws.proofs.Present.{symbol_absent, all_satisfied}
use Rattle.enc_laws.proofs.Schemes.{tables_lifted}
use Rattle.enc_laws.proofs.LiftBySort.{LiftsBySort}
use Rattle.enc_laws.proofs.LiftedBySort.{normal_typed, sort_lifted_model}
use Rattle.enc_laws.proofs.LiftBySortTags.{tags_light_lifted_model}
use Rattle.enc_laws.proofs.PresentBySort.{is_total_by_sort}
use Rattle.enc_laws.proofs.FilledBySort.{tags_light_tables_lifted}

-- ---- a sort that is free or not: all numbers are its elements, or these

or_read : (elements : Elements) (free : Bool) (mark : ℕ → ℕ) (v : ℕ) →
    read_as elements mark v ≡ v → read_as (cond free All elements) mark v ≡ v
or_read elements true mark v is = refl
or_read elements false mark v is = is

or_marked : (elements : Elements) (free : Bool) (size : ℕ) (mark : ℕ → ℕ) (v : ℕ) →
    not free ≡ true →
    is_element (cond free All elements) size mark v ≡ is_element elements size mark v
or_marked elements true size mark v is = absurd (false≢true is)
or_marked elements false size mark v is = refl

or_all : (elements : Elements) (free : Bool) (size : ℕ) (mark : ℕ → ℕ) (v : ℕ) →
    not free ≡ false → is_element (cond free All elements) size mark v ≡ true
or_all elements true size mark v is = refl
or_all elements false size mark v is = absurd (false≢true (sym is))

all_elements : (free : Bool) (size : ℕ) (mark : ℕ → ℕ) (v : ℕ) →
    is_element (cond free All All) size mark v ≡ true
all_elements true size mark v = refl
all_elements false size mark v = refl

-- ---- the schemes with marks of this kind, but that where every term is tagged

module _ (normal : Normal) where
  -- no sort is marked, and all numbers are elements of each
  erase_lift : LiftsBySort erase normal
  erase_lift = record {
    marking = refl;
    keeps = λ symbol. refl;
    itself = λ sort mark v. or_read All (is_free normal sort) mark v refl;
    bound = λ ty size mark v typing. absurd (false≢true typing);
    all = λ ty size mark v typing. all_elements (is_free normal ty) size mark v;
    universal = λ undercover naked ty binds. absurd (false≢true binds);
    existential = λ ty typing. absurd (false≢true typing);
    premise = λ cover ty premised. absurd (false≢true premised);
    tags = λ position kind ty tagged. absurd (false≢true tagged);
    tags_typed = λ position kind ty tagged. absurd (false≢true tagged);
    last = λ ty typing. absurd (false≢true typing);
  }

  guards_light_lift : LiftsBySort (guards_light (is_free normal)) normal
  guards_light_lift = record {
    marking = refl;
    keeps = λ symbol. refl;
    itself = λ sort mark v. or_read Guarded (is_free normal sort) mark v refl;
    bound = λ ty size mark v typing. or_marked Guarded (is_free normal ty) size mark v typing;
    all = λ ty size mark v typing. or_all Guarded (is_free normal ty) size mark v typing;
    universal = λ undercover naked ty binds. binds;
    existential = λ ty typing. typing;
    premise = λ cover ty premised. premised;
    tags = λ position kind ty tagged. absurd (false≢true tagged);
    tags_typed = λ position kind ty tagged. absurd (false≢true tagged);
    last = λ ty typing. typing;
  }

  guards_feather_lift : LiftsBySort (guards_feather (is_free normal)) normal
  guards_feather_lift = record {
    marking = refl;
    keeps = λ symbol. refl;
    itself = λ sort mark v. or_read Guarded (is_free normal sort) mark v refl;
    bound = λ ty size mark v typing. or_marked Guarded (is_free normal ty) size mark v typing;
    all = λ ty size mark v typing. or_all Guarded (is_free normal ty) size mark v typing;
    universal = λ undercover naked ty binds. (and_parts naked (not (is_free normal ty)) binds).1;
    existential = λ ty typing. typing;
    premise = λ cover ty premised. absurd (false≢true premised);
    tags = λ position kind ty tagged. absurd (false≢true tagged);
    tags_typed = λ position kind ty tagged. absurd (false≢true tagged);
    last = λ ty typing. typing;
  }

  tags_feather_lift : LiftsBySort (tags_feather (is_free normal)) normal
  tags_feather_lift = record {
    marking = refl;
    keeps = λ symbol. refl;
    itself = λ sort mark v. or_read Fixed (is_free normal sort) mark v refl;
    bound = λ ty size mark v typing. or_marked Fixed (is_free normal ty) size mark v typing;
    all = λ ty size mark v typing. or_all Fixed (is_free normal ty) size mark v typing;
    universal = λ undercover naked ty binds. absurd (false≢true binds);
    existential = λ ty typing. typing;
    premise = λ cover ty premised. absurd (false≢true premised);
    tags = λ position kind ty tagged. refl;
    tags_typed = λ position kind ty tagged.
        (and_parts (is_positive_side position && is_universal kind) (not (is_free normal ty))
        tagged).1;
    last = λ ty typing. typing;
  }

-- a lift by the marks of a structure that has all tables
from_total : (c : Choices) (normal : Normal) (j : Untyped) → LiftsBySort c normal →
    IsTrue (is_monomorphic normal) → IsSoundNormal normal → IsTotalBySort c normal j →
    AreSatisfied j (translation c normal) →
    IsNormalModel normal (lifted c (all_numbers normal) normal.signature all_present j
    (lift_by_sort c normal (all_numbers normal) j))
from_total c normal j by monomorphic sound total satisfied =
    sort_lifted_model c normal all_present j monomorphic sound total by
    (λ f symbol values at none. absurd (false≢true (sym none))) satisfied

pub sorts_lifted : SortsAreLifted
sorts_lifted scheme.Guards normal j marking sound applies total satisfied = cc
sorts_lifted scheme.Tags normal j marking sound applies total satisfied = cc
sorts_lifted scheme.GuardsCover normal j marking sound applies total satisfied = cc
sorts_lifted scheme.TagsCover normal j marking sound applies total satisfied = cc
sorts_lifted scheme.Args normal j marking sound applies total satisfied = cc
sorts_lifted scheme.Erase normal j marking sound applies total satisfied =
    from_total erase normal j (erase_lift normal) applies.0 sound total satisfied
sorts_lifted scheme.GuardsLight normal j marking sound applies total satisfied =
    from_total (guards_light (is_free normal)) normal j (guards_light_lift normal) applies sound
    total satisfied
sorts_lifted scheme.TagsLight normal j marking sound applies total satisfied =
    tags_light_lifted_model normal all_present j applies sound total
    (λ f symbol kept values members elements at none h. absurd (false≢true (sym none))) satisfied
sorts_lifted scheme.GuardsFeather normal j marking sound applies total satisfied =
    from_total (guards_feather (is_free normal)) normal j (guards_feather_lift normal) applies sound
    total satisfied
sorts_lifted scheme.TagsFeather normal j marking sound applies total satisfied =
    from_total (tags_feather (is_free normal)) normal j (tags_feather_lift normal) applies sound
    total satisfied

-- a lift by the marks that occur
from_tables : (c : Choices) (normal : Normal) (s : Structure) → LiftsBySort c normal →
    (marking : c.marking ≡ BySort) → IsTrue (is_monomorphic normal) → IsSoundNormal normal →
    AreModel (encoded c normal).problem s → IsNormalModel normal (lifted_of c normal (reading s))
from_tables c normal s by marking monomorphic sound model =
    let j : Untyped =
    over_all (is_present (translation c normal)) (is_tag c normal) (reading s) in
    subst (λ m. IsNormalModel normal (lifted c (all_numbers normal) normal.signature
    (is_present (translation c normal)) j (lift_by m c normal (all_numbers normal) j)))
    (sym marking)
    (sort_lifted_model c normal (is_present (translation c normal)) j monomorphic sound
    (is_total_by_sort c normal s model marking) by (symbol_absent c normal s model)
    (all_satisfied c normal s model))

-- by the marks of all types
by_types : (which : Scheme) (normal : Normal) (s : Structure) →
    (choices_of which normal).marking ≡ ByType → IsSoundNormal normal →
    AreModel (encoded (choices_of which normal) normal).problem s →
    IsNormalModel normal (lifted_of (choices_of which normal) normal (reading s))
by_types which normal s marking sound model =
    tables_lifted which normal s marking (normal_typed normal sound) model

pub models_lifted : ModelsAreLifted
models_lifted scheme.Guards normal s sound applies model =
    by_types scheme.Guards normal s refl sound model
models_lifted scheme.Tags normal s sound applies model =
    by_types scheme.Tags normal s refl sound model
models_lifted scheme.GuardsCover normal s sound applies model =
    by_types scheme.GuardsCover normal s refl sound model
models_lifted scheme.TagsCover normal s sound applies model =
    by_types scheme.TagsCover normal s refl sound model
models_lifted scheme.Args normal s sound applies model =
    by_types scheme.Args normal s refl sound model
models_lifted scheme.Erase normal s sound applies model =
    from_tables erase normal s (erase_lift normal) refl applies.0 sound model
models_lifted scheme.GuardsLight normal s sound applies model =
    from_tables (guards_light (is_free normal)) normal s (guards_light_lift normal) refl applies
    sound model
models_lifted scheme.TagsLight normal s sound applies model =
    tags_light_tables_lifted normal s applies sound model
models_lifted scheme.GuardsFeather normal s sound applies model =
    from_tables (guards_feather (is_free normal)) normal s (guards_feather_lift normal) refl applies
    sound model
models_lifted scheme.TagsFeather normal s sound applies model =
    from_tables (tags_feather (is_free normal)) normal s (tags_feather_lift normal) refl applies
    sound model
