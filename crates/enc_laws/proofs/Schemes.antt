-- The laws of the schemes, from those of the structures.
use Rattle.std.specs.Prelude.{◌≡◌, length}
use Rattle.std.proofs.Common.{refl, sym, ◌∙◌, subst, arith}
use Rattle.std.proofs.lemmas.Bool.{false≢true}
use Rattle.tf_core.specs.declared.normal.Normal.{Normal}
use Rattle.tf_core.specs.Typing.{IsNormal}
use Rattle.tf_core.specs.Structures.{Typed}
use Rattle.tf_core.specs.Models.{IsNormalModel}
use Rattle.fof_models.specs.declared.structure.Structure.{Structure}
use Rattle.fof_models.specs.Structures.{Untyped, reading}
use Rattle.fof_models.specs.Models.{AreSatisfied, IsModel, AreModel}
use Rattle.enc_marks.specs.declared.choices.Marking.TheVariants.{ByType, BySort}
use Rattle.enc_marks.specs.declared.choices.Domain.TheVariants.{Merged}
use Rattle.enc_marks.specs.declared.scheme.Scheme.{Scheme}
use Rattle.enc_marks.specs.declared.scheme.Scheme.TheVariants as scheme
use Rattle.enc_marks.specs.Choices.{Choices}
use Rattle.enc_marks.specs.Schemes.{guards, guards_cover, tags_cover, args, choices_of}
use Rattle.enc_marks.specs.Encoded.{all_numbers, all_marks, is_present, translation, encoded}
use Rattle.enc_marks.specs.Laws.{Fit}
use Rattle.enc_marks.proofs.OccurringSymbols.{only_marked}
use Rattle.enc_laws.specs.MergedStructure.{merged}
use Rattle.enc_laws.specs.Lifted.{lifted, lift_by_type, lift_by}
use Rattle.enc_laws.specs.Present.{over_present, over_all, is_tag, all_present}
use Rattle.enc_laws.specs.Total.{IsTotal}
use Rattle.enc_laws.specs.Laws.{lifted_of}
use Rattle.enc_laws.proofs.Stamped.{MergesByType}
use Rattle.enc_laws.proofs.ByType.{merges_by_type}
use Rattle.enc_laws.proofs.MergedModel.{merged_model}
use Rattle.enc_laws.proofs.Present.{is_total, symbol_absent, all_satisfied}
use Rattle.enc_laws.proofs.LiftByType.{LiftsByType, guards_lift, guards_cover_lift, tags_cover_lift, args_lift}
use Rattle.enc_laws.proofs.LiftedModel.{lifted_model}
use Rattle.enc_laws.proofs.LiftByTags.{tags_lifted_model}
use Rattle.enc_laws.proofs.Filled.{tags_tables_lifted}

merges_fit : (c : Choices) (normal : Normal) (s : Typed) → MergesByType c normal.signature s →
    Fit c normal
merges_fit c normal s by = record {
  keeps = λ symbol. let all = by.keeps symbol in omega (arith, all);
  tags = by.tags;
  monomorphic = λ marking. let same : ByType ≡ BySort = sym by.marking ∙ marking in cc;
}

-- Over the symbols that occur, the merged structure of a model is a model of the encoded problem.
pub models_encoded : (which : Scheme) (normal : Normal) (s : Typed) →
    (choices_of which normal).domain ≡ Merged → IsNormal normal → IsNormalModel normal s →
    IsModel (encoded (choices_of which normal) normal).problem
    (over_present (is_present (translation (choices_of which normal) normal))
    (length (all_marks (choices_of which normal) normal))
    (merged (choices_of which normal) normal.signature s))
models_encoded which normal s merges sound model =
    let c : Choices = choices_of which normal in
    let by = merges_by_type which normal s merges in
    merged_model c normal s by sound model (only_marked c normal (merges_fit c normal s by) sound)

-- a lift by the marks of a structure that has all tables
from_total : (c : Choices) (normal : Normal) (j : Untyped) → LiftsByType c → IsNormal normal →
    IsTotal c normal j → AreSatisfied j (translation c normal) →
    IsNormalModel normal (lifted c (all_numbers normal) normal.signature all_present j
    (lift_by_type c (all_numbers normal) j))
from_total c normal j by sound total satisfied =
    lifted_model c normal all_present j total by
    (λ f symbol values at none. absurd (false≢true (sym none))) satisfied sound

pub total_lifted : (which : Scheme) (normal : Normal) (j : Untyped) →
    (choices_of which normal).marking ≡ ByType → IsNormal normal →
    IsTotal (choices_of which normal) normal j →
    AreSatisfied j (translation (choices_of which normal) normal) →
    IsNormalModel normal
    (lifted (choices_of which normal) (all_numbers normal) normal.signature all_present j
    (lift_by_type (choices_of which normal) (all_numbers normal) j))
total_lifted scheme.Guards normal j marking sound total satisfied =
    from_total guards normal j guards_lift sound total satisfied
total_lifted scheme.Tags normal j marking sound total satisfied =
    tags_lifted_model normal all_present j total
    (λ f symbol kept values members elements at none h. absurd (false≢true (sym none))) sound
    satisfied
total_lifted scheme.GuardsCover normal j marking sound total satisfied =
    from_total guards_cover normal j guards_cover_lift sound total satisfied
total_lifted scheme.TagsCover normal j marking sound total satisfied =
    from_total tags_cover normal j tags_cover_lift sound total satisfied
total_lifted scheme.Args normal j marking sound total satisfied =
    from_total args normal j args_lift sound total satisfied
total_lifted scheme.Erase normal j marking sound total satisfied = cc
total_lifted scheme.GuardsLight normal j marking sound total satisfied = cc
total_lifted scheme.TagsLight normal j marking sound total satisfied = cc
total_lifted scheme.GuardsFeather normal j marking sound total satisfied = cc
total_lifted scheme.TagsFeather normal j marking sound total satisfied = cc

-- a lift by the marks that occur
from_tables : (c : Choices) (normal : Normal) (s : Structure) → LiftsByType c →
    (marking : c.marking ≡ ByType) → IsNormal normal → AreModel (encoded c normal).problem s →
    IsNormalModel normal (lifted_of c normal (reading s))
from_tables c normal s by marking sound model =
    let j : Untyped =
    over_all (is_present (translation c normal)) (is_tag c normal) (reading s) in
    subst (λ m. IsNormalModel normal (lifted c (all_numbers normal) normal.signature
    (is_present (translation c normal)) j (lift_by m c normal (all_numbers normal) j)))
    (sym marking)
    (lifted_model c normal (is_present (translation c normal)) j (is_total c normal s model marking)
    by (symbol_absent c normal s model) (all_satisfied c normal s model) sound)

pub tables_lifted : (which : Scheme) (normal : Normal) (s : Structure) →
    (choices_of which normal).marking ≡ ByType → IsNormal normal →
    AreModel (encoded (choices_of which normal) normal).problem s →
    IsNormalModel normal (lifted_of (choices_of which normal) normal (reading s))
tables_lifted scheme.Guards normal s marking sound model =
    from_tables guards normal s guards_lift refl sound model
tables_lifted scheme.Tags normal s marking sound model = tags_tables_lifted normal s model sound
tables_lifted scheme.GuardsCover normal s marking sound model =
    from_tables guards_cover normal s guards_cover_lift refl sound model
tables_lifted scheme.TagsCover normal s marking sound model =
    from_tables tags_cover normal s tags_cover_lift refl sound model
tables_lifted scheme.Args normal s marking sound model =
    from_tables args normal s args_lift refl sound model
tables_lifted scheme.Erase normal s marking sound model = cc
tables_lifted scheme.GuardsLight normal s marking sound model = cc
tables_lifted scheme.TagsLight normal s marking sound model = cc
tables_lifted scheme.GuardsFeather normal s marking sound model = cc
tables_lifted scheme.TagsFeather normal s marking sound model = cc
