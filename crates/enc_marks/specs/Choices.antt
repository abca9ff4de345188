-- The choices by which schemes differ. All that a scheme writes follows from them by one
-- translation, and so does how models are carried to that translation and back.
use Rattle.std.specs.Prelude.{◌≡◌, Bool, true, List, [], replicate}
use Rattle.tf_core.specs.declared.ty.Ty.{Ty}
use Rattle.tf_core.specs.declared.signature.Symbol.{Symbol}
use Rattle.tf_naked.specs.declared.position.Position.{Position}
use Rattle.tf_naked.specs.declared.position.Kind.{Kind}
use Rattle.tf_naked.specs.Covers.{kept_parameters}
use Rattle.enc_marks.specs.declared.choices.TypeArguments.{TypeArguments}
use Rattle.enc_marks.specs.declared.choices.TypeArguments.TheVariants as kept
use Rattle.enc_marks.specs.declared.choices.Marking.{Marking}
use Rattle.enc_marks.specs.declared.choices.Marking.TheVariants.{ByType}
use Rattle.enc_marks.specs.declared.choices.Binding.{Binding}
use Rattle.enc_marks.specs.declared.choices.Domain.{Domain}
use Rattle.enc_marks.specs.declared.choices.Elements.{Elements}

-- all type arguments, those without a cover, or none
abbrev pub all_types : Symbol → List Bool
all_types symbol = replicate symbol.parameters true

abbrev pub uncovered_types : Symbol → List Bool
uncovered_types symbol = kept_parameters symbol

abbrev pub no_types : Symbol → List Bool
no_types symbol = []

abbrev pub kept_types : TypeArguments → Symbol → List Bool
kept_types kept.All = all_types
kept_types kept.Uncovered = uncovered_types
kept_types kept.Nothing = no_types

pub record Choices : Type 0 where
  -- for each of a symbol's type arguments, whether it is written
  pub keeps : Symbol → List Bool
  -- whether a term of this kind and type is written with its tag in this position
  pub tagged : Position → Kind → Ty → Bool
  -- whether a universal variable is bound to its type: undercover or not, naked or not, of this
  -- type
  pub universal : Bool → Bool → Ty → Bool
  -- whether an existential variable of this type is bound to it
  pub existential : Ty → Bool
  -- whether a function with this result type has a typing axiom
  pub typing : Ty → Bool
  -- whether a typing axiom has a premise for an argument, at a cover or not, of this type
  pub premise : Bool → Ty → Bool
  -- whether a type has a last axiom
  pub last : Ty → Bool
  -- one guard or tag for all types, or one for each sort
  pub marking : Marking
  -- what binds a term to a type
  pub binding : Binding
  -- the domain of the untyped model that a typed one gives
  pub domain : Domain
  -- the elements of a member of the typed model that an untyped one gives
  pub elements : Elements

-- Where all types share a guard or tag, whether a term has its tag doesn't depend on its type.
abbrev pub TagsTypesAlike : Choices → Type 0
TagsTypesAlike c = c.marking ≡ ByType → (position : Position) (kind : Kind) (ty other : Ty) →
    c.tagged position kind ty ≡ c.tagged position kind other
