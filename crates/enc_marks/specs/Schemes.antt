-- The choices of each scheme, to be held against the tables of translations row by row.
use Rattle.std.specs.Prelude.{Bool, true, false, not, ◌&&◌}
use Rattle.tf_core.specs.declared.ty.Ty.{Ty}
use Rattle.tf_core.specs.declared.normal.Normal.{Normal}
use Rattle.tf_naked.specs.Standing.{is_covering, is_positive_side, is_variable, is_universal}
use Rattle.tf_naked.specs.Naked.{is_free}
use Rattle.enc_marks.specs.declared.scheme.Scheme.{Scheme}
use Rattle.enc_marks.specs.declared.scheme.Scheme.TheVariants as scheme
use Rattle.enc_marks.specs.declared.choices.Marking.TheVariants.{ByType, BySort}
use Rattle.enc_marks.specs.declared.choices.Binding.TheVariants.{ByGuard, ByTag}
use Rattle.enc_marks.specs.declared.choices.Domain.TheVariants.{Merged, Collapsed}
use Rattle.enc_marks.specs.declared.choices.Elements.TheVariants.{Guarded, Image, Fixed, All}
use Rattle.enc_marks.specs.Choices.{Choices, all_types, uncovered_types, no_types}

-- a guard at each binder; typing axioms with a guard for each argument
abbrev pub guards : Choices
guards = record {
  keeps = all_types;
  tagged = λ position kind ty. false;
  universal = λ undercover naked ty. true;
  existential = λ ty. true;
  typing = λ ty. true;
  premise = λ cover ty. true;
  last = λ ty. true;
  marking = ByType;
  binding = ByGuard;
  domain = Merged;
  elements = Guarded;
}

-- a tag at each term
abbrev pub tags : Choices
tags = record {
  keeps = all_types;
  tagged = λ position kind ty. true;
  universal = λ undercover naked ty. false;
  existential = λ ty. false;
  typing = λ ty. false;
  premise = λ cover ty. false;
  last = λ ty. false;
  marking = ByType;
  binding = ByTag;
  domain = Merged;
  elements = Image;
}

-- a guard at undercover universal variables and at existential ones; premises at covers alone
abbrev pub guards_cover : Choices
guards_cover = record {
  keeps = uncovered_types;
  tagged = λ position kind ty. false;
  universal = λ undercover naked ty. undercover;
  existential = λ ty. true;
  typing = λ ty. true;
  premise = λ cover ty. cover;
  last = λ ty. true;
  marking = ByType;
  binding = ByGuard;
  domain = Merged;
  elements = Guarded;
}

-- a tag at variables at covers and at sides of positive equations
abbrev pub tags_cover : Choices
tags_cover = record {
  keeps = uncovered_types;
  tagged = λ position kind ty. is_covering position && is_variable kind;
  universal = λ undercover naked ty. false;
  existential = λ ty. true;
  typing = λ ty. true;
  premise = λ cover ty. false;
  last = λ ty. true;
  marking = ByType;
  binding = ByTag;
  domain = Merged;
  elements = Fixed;
}

-- type arguments, and nothing else
abbrev pub args : Choices
args = record {
  keeps = all_types;
  tagged = λ position kind ty. false;
  universal = λ undercover naked ty. false;
  existential = λ ty. false;
  typing = λ ty. false;
  premise = λ cover ty. false;
  last = λ ty. false;
  marking = ByType;
  binding = ByGuard;
  domain = Collapsed;
  elements = All;
}

-- nothing at all
abbrev pub erase : Choices
erase = record {
  keeps = no_types;
  tagged = λ position kind ty. false;
  universal = λ undercover naked ty. false;
  existential = λ ty. false;
  typing = λ ty. false;
  premise = λ cover ty. false;
  last = λ ty. false;
  marking = BySort;
  binding = ByGuard;
  domain = Collapsed;
  elements = All;
}

-- The light and feather schemes leave out the marks of free sorts.
module _ (is_free_sort : Ty → Bool) where
  -- a guard at each binder; typing axioms with a guard for each argument
  abbrev pub guards_light : Choices
  guards_light = record {
    keeps = no_types;
    tagged = λ position kind ty. false;
    universal = λ undercover naked ty. not (is_free_sort ty);
    existential = λ ty. not (is_free_sort ty);
    typing = λ ty. not (is_free_sort ty);
    premise = λ cover ty. not (is_free_sort ty);
    last = λ ty. not (is_free_sort ty);
    marking = BySort;
    binding = ByGuard;
    domain = Collapsed;
    elements = Guarded;
  }

  -- a tag at each term
  abbrev pub tags_light : Choices
  tags_light = record {
    keeps = no_types;
    tagged = λ position kind ty. not (is_free_sort ty);
    universal = λ undercover naked ty. false;
    existential = λ ty. false;
    typing = λ ty. false;
    premise = λ cover ty. false;
    last = λ ty. false;
    marking = BySort;
    binding = ByTag;
    domain = Collapsed;
    elements = Image;
  }

  -- a guard at naked universal variables and at existential ones; typing axioms without premises
  abbrev pub guards_feather : Choices
  guards_feather = record {
    keeps = no_types;
    tagged = λ position kind ty. false;
    universal = λ undercover naked ty. naked && not (is_free_sort ty);
    existential = λ ty. not (is_free_sort ty);
    typing = λ ty. not (is_free_sort ty);
    premise = λ cover ty. false;
    last = λ ty. not (is_free_sort ty);
    marking = BySort;
    binding = ByGuard;
    domain = Collapsed;
    elements = Guarded;
  }

  -- a tag at naked places
  abbrev pub tags_feather : Choices
  tags_feather = record {
    keeps = no_types;
    tagged = λ position kind ty.
        is_positive_side position && is_universal kind && not (is_free_sort ty);
    universal = λ undercover naked ty. false;
    existential = λ ty. not (is_free_sort ty);
    typing = λ ty. not (is_free_sort ty);
    premise = λ cover ty. false;
    last = λ ty. not (is_free_sort ty);
    marking = BySort;
    binding = ByTag;
    domain = Collapsed;
    elements = Fixed;
  }

-- the choices of a scheme for a normal problem, which says what sorts are free
abbrev pub choices_of : Scheme → Normal → Choices
choices_of scheme.Guards normal = guards
choices_of scheme.Tags normal = tags
choices_of scheme.GuardsCover normal = guards_cover
choices_of scheme.TagsCover normal = tags_cover
choices_of scheme.Args normal = args
choices_of scheme.Erase normal = erase
choices_of scheme.GuardsLight normal = guards_light (is_free normal)
choices_of scheme.TagsLight normal = tags_light (is_free normal)
choices_of scheme.GuardsFeather normal = guards_feather (is_free normal)
choices_of scheme.TagsFeather normal = tags_feather (is_free normal)
