-- What the schemes promise whose domain is the collapsed one: the collapsed structure of a model of
-- a normal problem is a model of its translation.
use Rattle.std.specs.Prelude.{◌≡◌, ◌&&◌, not, Bool, true, false, [], length, IsTrue}
use Rattle.tf_core.specs.declared.ty.Ty.{Ty}
use Rattle.tf_core.specs.declared.nnf.Nnf.{Nnf}
use Rattle.tf_core.specs.declared.signature.Symbol.{Symbol}
use Rattle.tf_core.specs.declared.signature.Signature.{Signature}
use Rattle.tf_core.specs.declared.normal.Normal.{Normal}
use Rattle.tf_core.specs.Sound.{is_monomorphic, IsSoundNormal}
use Rattle.tf_core.specs.Typing.{IsNormal}
use Rattle.tf_core.specs.Structures.{Typed}
use Rattle.tf_core.specs.Models.{IsNormalModel}
use Rattle.fof_models.specs.Models.{AreSatisfied, IsModel}
use Rattle.tf_naked.specs.declared.position.Position.{Position}
use Rattle.tf_naked.specs.declared.position.Kind.{Kind}
use Rattle.tf_naked.specs.declared.position.Kind.TheVariants.{Universal}
use Rattle.tf_naked.specs.Standing.{is_positive_side, stands, is_undercover, is_naked}
use Rattle.tf_naked.specs.Naked.{naked_places, is_free}
use Rattle.tf_naked.specs.SortLaws.{IsSort}
use Rattle.enc_marks.specs.declared.choices.Marking.TheVariants.{BySort}
use Rattle.enc_marks.specs.declared.choices.Binding.TheVariants.{ByTag}
use Rattle.enc_marks.specs.declared.choices.Domain.TheVariants.{Collapsed}
use Rattle.enc_marks.specs.declared.scheme.Scheme.{Scheme}
use Rattle.enc_marks.specs.Choices.{Choices}
use Rattle.enc_marks.specs.Applies.{Applies}
use Rattle.enc_marks.specs.Encoded.{all_marks, is_present, translation, encoded}
use Rattle.enc_marks.specs.Schemes.{args, erase, guards_light, tags_light, guards_feather}
use Rattle.enc_marks.specs.Schemes.{tags_feather, choices_of}
use Rattle.enc_laws.specs.CollapsedStructure.{collapsed}
use Rattle.enc_laws.specs.Present.{over_present}

-- Choices that write no types treat each type in one of three ways: it is bare, guarded or tagged.
-- Only of a type that is bare, by this test, may a variable be neither bound nor tagged where it
-- has to be an element.
pub record BearsCollapse (c : Choices) (g : Signature) (is_bare : Ty → Bool) : Type 0 where
  pub domain : c.domain ≡ Collapsed
  pub marking : c.marking ≡ BySort
  pub keeps : (symbol : Symbol) → c.keeps symbol ≡ []
  -- a bare type has no tags
  pub tagged : (position : Position) (kind : Kind) (ty : Ty) → c.tagged position kind ty ≡ true →
      (is_bare ty ≡ false) × (c.binding ≡ ByTag)
  -- binders bind only what typing axioms bind
  pub universal : (undercover naked : Bool) (ty : Ty) → c.universal undercover naked ty ≡ true →
      c.typing ty ≡ true
  pub existential : (ty : Ty) → c.existential ty ≡ true → c.typing ty ≡ true
  -- A universal variable of a type that isn't bare is bound, where it stands without a tag on a
  -- side of a positive equation.
  pub binds : (ty : Ty) (body : Nnf) → is_bare ty ≡ false →
      IsTrue (stands g (λ p. is_positive_side p && not (c.tagged p Universal ty)) body 0) →
      c.universal (is_undercover g body) (is_naked g body) ty ≡ true

-- The choices of the schemes by sort bear the collapse: under `erase` each type is bare, under the
-- light and feather schemes a free sort is.
pub record SchemesCollapse : Type 0 where
  pub erase_bears : (g : Signature) → BearsCollapse erase g (λ ty. true)
  pub guards_light_bears : (g : Signature) (is_free_sort : Ty → Bool) →
      BearsCollapse (guards_light is_free_sort) g is_free_sort
  pub tags_light_bears : (g : Signature) (is_free_sort : Ty → Bool) →
      BearsCollapse (tags_light is_free_sort) g is_free_sort
  pub guards_feather_bears : (g : Signature) (is_free_sort : Ty → Bool) →
      BearsCollapse (guards_feather is_free_sort) g is_free_sort
  pub tags_feather_bears : (g : Signature) (is_free_sort : Ty → Bool) →
      BearsCollapse (tags_feather is_free_sort) g is_free_sort

-- bare sorts are free
abbrev pub BareAreFree : Normal → (Ty → Bool) → Type 0
BareAreFree normal is_bare = (ty : Ty) → IsSort normal ty → IsTrue (is_bare ty) →
    IsTrue (is_free normal ty)

-- the collapsed structure, over the marked symbols that occur, is a model of the encoded problem
abbrev pub CollapsedIsEncodedModel : Choices → Normal → Typed → Type 0
CollapsedIsEncodedModel c normal s =
    IsModel (encoded c normal).problem
    (over_present (is_present (translation c normal)) (length (all_marks c normal))
    (collapsed c normal s))

-- Where a normal problem has no naked place, its translation by `args` is true in the collapsed
-- structure of each model of it.
abbrev pub ModelsAreCollapsed : Type 0
ModelsAreCollapsed = (normal : Normal) (s : Typed) → naked_places normal ≡ [] → IsNormal normal →
    IsNormalModel normal s → AreSatisfied (collapsed args normal s) (translation args normal)

-- So is the translation of one without type variables, by choices that bear the collapse and leave
-- only free sorts bare.
abbrev pub ModelsAreCollapsedBySort : Type 0
ModelsAreCollapsedBySort = (c : Choices) (is_bare : Ty → Bool) (normal : Normal) (s : Typed) →
    BearsCollapse c normal.signature is_bare → BareAreFree normal is_bare →
    IsTrue (is_monomorphic normal) → IsSoundNormal normal → IsNormalModel normal s →
    AreSatisfied (collapsed c normal s) (translation c normal)

-- The collapsed structure of each model of a sound problem is, over the symbols that occur, a model
-- of the encoded problem: by each scheme that collapses, where it applies.
abbrev pub ModelsAreEncodedCollapsed : Type 0
ModelsAreEncodedCollapsed = (which : Scheme) (normal : Normal) (s : Typed) →
    (choices_of which normal).domain ≡ Collapsed → IsSoundNormal normal → Applies which normal →
    IsNormalModel normal s → CollapsedIsEncodedModel (choices_of which normal) normal s
