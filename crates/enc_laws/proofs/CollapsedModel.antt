-- The collapsed structure, over the marked symbols that occur, is a model of the encoded problem:
-- scheme by scheme.
use Rattle.std.specs.Prelude.{◌≡◌, Bool, true, [], IsTrue}
use Rattle.tf_core.specs.declared.ty.Ty.{Ty}
use Rattle.tf_core.specs.declared.normal.Normal.{Normal}
use Rattle.tf_core.specs.Sorts.{sorts}
use Rattle.tf_core.specs.Typing.{IsNormal}
use Rattle.tf_core.specs.Sound.{is_monomorphic, IsSoundNormal}
use Rattle.tf_core.specs.Structures.{Typed}
use Rattle.tf_core.specs.Models.{IsNormalModel}
use Rattle.tf_naked.specs.Naked.{naked_places, is_free}
use Rattle.enc_marks.specs.declared.scheme.Scheme.TheVariants as scheme
use Rattle.enc_marks.specs.Choices.{Choices}
use Rattle.enc_marks.specs.Laws.{Fit}
use Rattle.enc_marks.specs.Schemes.{args, erase, guards_light, tags_light, guards_feather, tags_feather}
use Rattle.enc_marks.proofs.OccurringSymbols.{only_marked}
use Rattle.enc_marks.proofs.SoundSchemes.{schemes_fitting}
use Rattle.enc_laws.specs.CollapsedStructure.{collapsed}
use Rattle.enc_laws.specs.CollapsedLaws.{BearsCollapse, BareAreFree, CollapsedIsEncodedModel, ModelsAreEncodedCollapsed}
use Rattle.enc_laws.proofs.SoundNormal.{normal_typed}
use Rattle.enc_laws.proofs.ClosedTypes.{type_there}
use Rattle.enc_laws.proofs.EncodedModel.{encoded_model}
use Rattle.enc_laws.proofs.CollapsedFormed.{collapsed_in_range}
use Rattle.enc_laws.proofs.CollapsesArgs.{args_large, args_satisfies}
use Rattle.enc_laws.proofs.CollapsesBySort.{sorts_large, sorts_satisfy}
use Rattle.enc_laws.proofs.SchemesCollapse.{schemes_bear}

args_encoded : (normal : Normal) (s : Typed) → Fit args normal → naked_places normal ≡ [] →
    IsNormal normal → IsNormalModel normal s → CollapsedIsEncodedModel args normal s
args_encoded normal s fit none typed model =
    encoded_model args normal (collapsed args normal s)
    (collapsed_in_range args normal s typed.signature model.structure
    (args_large normal s typed model))
    (args_satisfies normal s typed model none) (only_marked args normal fit typed)

sorts_encoded : (c : Choices) (is_bare : Ty → Bool) (normal : Normal) (s : Typed) →
    Fit c normal → BearsCollapse c normal.signature is_bare → BareAreFree normal is_bare →
    IsTrue (is_monomorphic normal) → IsSoundNormal normal → IsNormalModel normal s →
    CollapsedIsEncodedModel c normal s
sorts_encoded c is_bare normal s fit by bare_free monomorphic sound model =
    let typed = normal_typed normal sound in
    encoded_model c normal (collapsed c normal s)
    (collapsed_in_range c normal s typed.signature model.structure
    (sorts_large c is_bare normal s by bare_free monomorphic sound typed model))
    (sorts_satisfy c is_bare normal s by bare_free monomorphic sound typed model)
    (only_marked c normal fit typed)

pub models_encoded_collapsed : ModelsAreEncodedCollapsed
models_encoded_collapsed scheme.Guards normal s collapses sound applies model = cc
models_encoded_collapsed scheme.Tags normal s collapses sound applies model = cc
models_encoded_collapsed scheme.GuardsCover normal s collapses sound applies model = cc
models_encoded_collapsed scheme.TagsCover normal s collapses sound applies model = cc
models_encoded_collapsed scheme.Args normal s collapses sound applies model =
    args_encoded normal s (schemes_fitting.schemes scheme.Args normal applies) applies
    (normal_typed normal sound) model
models_encoded_collapsed scheme.Erase normal s collapses sound applies model =
    sorts_encoded erase (λ ty. true) normal s
    (schemes_fitting.schemes scheme.Erase normal applies)
    (schemes_bear.erase_bears normal.signature)
    (λ ty is bare. type_there (λ sort. IsTrue (is_free normal sort)) (sorts normal) ty applies.1 is)
    applies.0 sound model
models_encoded_collapsed scheme.GuardsLight normal s collapses sound applies model =
    sorts_encoded (guards_light (is_free normal)) (is_free normal) normal s
    (schemes_fitting.schemes scheme.GuardsLight normal applies)
    (schemes_bear.guards_light_bears normal.signature (is_free normal)) (λ ty is bare. bare)
    applies sound model
models_encoded_collapsed scheme.TagsLight normal s collapses sound applies model =
    sorts_encoded (tags_light (is_free normal)) (is_free normal) normal s
    (schemes_fitting.schemes scheme.TagsLight normal applies)
    (schemes_bear.tags_light_bears normal.signature (is_free normal)) (λ ty is bare. bare)
    applies sound model
models_encoded_collapsed scheme.GuardsFeather normal s collapses sound applies model =
    sorts_encoded (guards_feather (is_free normal)) (is_free normal) normal s
    (schemes_fitting.schemes scheme.GuardsFeather normal applies)
    (schemes_bear.guards_feather_bears normal.signature (is_free normal)) (λ ty is bare. bare)
    applies sound model
models_encoded_collapsed scheme.TagsFeather normal s collapses sound applies model =
    sorts_encoded (tags_feather (is_free normal)) (is_free normal) normal s
    (schemes_fitting.schemes scheme.TagsFeather normal applies)
    (schemes_bear.tags_feather_bears normal.signature (is_free normal)) (λ ty is bare. bare)
    applies sound model
