-- The choices of the schemes: those with one guard or tag for all types, and what they fit.
use Rattle.std.specs.Prelude.{◌≡◌, ◌≤◌, Bool, true, false, List, [], length, is_none, IsTrue}
use Rattle.std.specs.List.{range_with_len}
use Rattle.std.proofs.Common.{refl, sym, ap, ◌∙◌, arith}
use Rattle.std.proofs.lemmas.Bool.{false≢true}
use Rattle.std.proofs.lemmas.List.{length-map, length-replicate}
use Rattle.std.proofs.lemmas.List.FromFn.{length-range_with_len}
use Rattle.tf_core.specs.declared.ty.Ty.{Ty}
use Rattle.tf_core.specs.declared.signature.Symbol.{Symbol}
use Rattle.tf_core.specs.declared.normal.Normal.{Normal}
use Rattle.tf_core.specs.Sound.{is_monomorphic}
use Rattle.tf_naked.specs.declared.position.Position.{Position}
use Rattle.tf_naked.specs.declared.position.Kind.{Kind}
use Rattle.tf_naked.specs.Naked.{is_free}
use Rattle.tf_naked.specs.Covers.{cover_of}
use Rattle.enc_marks.specs.declared.scheme.Scheme.{Scheme}
use Rattle.enc_marks.specs.declared.scheme.Scheme.TheVariants as scheme
use Rattle.enc_marks.specs.declared.choices.Marking.TheVariants.{ByType, BySort}
use Rattle.enc_marks.specs.declared.choices.Binding.TheVariants.{ByTag}
use Rattle.enc_marks.specs.Choices.{Choices}
use Rattle.enc_marks.specs.Choices.{all_types, uncovered_types}
use Rattle.enc_marks.specs.Schemes.{guards, tags, guards_cover, tags_cover, args, erase, guards_light, tags_light, guards_feather, tags_feather, choices_of}
use Rattle.enc_marks.specs.Applies.{Applies}
use Rattle.enc_marks.specs.Laws.{Fit, IsByType, TypeSchemesAreByType, SchemesFit}

all_types-few : (symbol : Symbol) → length (all_types symbol) ≤ symbol.parameters
all_types-few symbol = omega (arith, length-replicate symbol.parameters true)

uncovered_types-few : (symbol : Symbol) → length (uncovered_types symbol) ≤ symbol.parameters
uncovered_types-few symbol =
    omega (
      arith,
      length-map (range_with_len 0 symbol.parameters) (λ p. is_none (cover_of symbol p)),
      length-range_with_len 0 symbol.parameters,
    )

pub type_schemes : TypeSchemesAreByType
type_schemes = record {
  guards_are = record {
    marking = refl;
    keeps = all_types-few;
    tags = λ position kind ty tagged. absurd (false≢true tagged);
  };
  tags_are = record {
    marking = refl;
    keeps = all_types-few;
    tags = λ position kind ty tagged. refl;
  };
  guards_cover_are = record {
    marking = refl;
    keeps = uncovered_types-few;
    tags = λ position kind ty tagged. absurd (false≢true tagged);
  };
  tags_cover_are = record {
    marking = refl;
    keeps = uncovered_types-few;
    tags = λ position kind ty tagged. refl;
  };
  args_are = record {
    marking = refl;
    keeps = all_types-few;
    tags = λ position kind ty tagged. absurd (false≢true tagged);
  };
}

-- ---- what choices fit

pub by_type-fits : (c : Choices) (normal : Normal) → IsByType c → Fit c normal
by_type-fits c normal is = record {
  keeps = is.keeps;
  tags = is.tags;
  monomorphic = λ by_sort. absurd (types_differ (sym is.marking ∙ by_sort));
}
  where
    types_differ : ByType ≡ BySort → ⊥
    types_differ same = cc

-- without type arguments, and without tags
guards-fit : (c : Choices) (normal : Normal) → ((symbol : Symbol) → c.keeps symbol ≡ []) →
    ((position : Position) (kind : Kind) (ty : Ty) → c.tagged position kind ty ≡ false) →
    IsTrue (is_monomorphic normal) → Fit c normal
guards-fit c normal none untagged monomorphic = record {
  keeps = λ symbol. omega (arith, ap (λ (tests : List Bool). length tests) (none symbol));
  tags = λ position kind ty tagged.
      absurd (false≢true (sym (untagged position kind ty) ∙ tagged));
  monomorphic = λ by_sort. monomorphic;
}

-- without type arguments, and with tags
tags-fit : (c : Choices) (normal : Normal) → ((symbol : Symbol) → c.keeps symbol ≡ []) →
    c.binding ≡ ByTag → IsTrue (is_monomorphic normal) → Fit c normal
tags-fit c normal none binding monomorphic = record {
  keeps = λ symbol. omega (arith, ap (λ (tests : List Bool). length tests) (none symbol));
  tags = λ position kind ty tagged. binding;
  monomorphic = λ by_sort. monomorphic;
}

scheme-fits : (scheme : Scheme) (normal : Normal) → Applies scheme normal →
    Fit (choices_of scheme normal) normal
scheme-fits scheme.Guards normal applies = by_type-fits guards normal type_schemes.guards_are
scheme-fits scheme.Tags normal applies = by_type-fits tags normal type_schemes.tags_are
scheme-fits scheme.GuardsCover normal applies =
    by_type-fits guards_cover normal type_schemes.guards_cover_are
scheme-fits scheme.TagsCover normal applies =
    by_type-fits tags_cover normal type_schemes.tags_cover_are
scheme-fits scheme.Args normal applies = by_type-fits args normal type_schemes.args_are
scheme-fits scheme.Erase normal applies =
    guards-fit erase normal (λ symbol. refl) (λ position kind ty. refl) applies.0
scheme-fits scheme.GuardsLight normal applies =
    guards-fit (guards_light (is_free normal)) normal (λ symbol. refl) (λ position kind ty. refl)
    applies
scheme-fits scheme.TagsLight normal applies =
    tags-fit (tags_light (is_free normal)) normal (λ symbol. refl) refl applies
scheme-fits scheme.GuardsFeather normal applies =
    guards-fit (guards_feather (is_free normal)) normal (λ symbol. refl) (λ position kind ty. refl)
    applies
scheme-fits scheme.TagsFeather normal applies =
    tags-fit (tags_feather (is_free normal)) normal (λ symbol. refl) refl applies

pub schemes_fitting : SchemesFit
schemes_fitting = record {
  schemes = scheme-fits;
  by_type = by_type-fits;
}
