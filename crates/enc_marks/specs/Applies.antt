-- To which normal problems a scheme applies, and why it is refused elsewhere.
use Rattle.std.specs.Prelude.{ℕ, ◌≡◌, Bool, true, false, not, List, [], map, eqb, filter, slice_get}
use Rattle.std.specs.Prelude.{Option, Some, None, IsTrue}
use Rattle.std.specs.List.{AllByRecursion}
use Rattle.tf_core.specs.declared.normal.Normal.{Normal}
use Rattle.tf_core.specs.Sorts.{sorts}
use Rattle.tf_core.specs.Sound.{is_monomorphic}
use Rattle.tf_naked.specs.declared.place.Place.{Place}
use Rattle.tf_naked.specs.Naked.{naked_places, first_naked, is_free}
use Rattle.enc_marks.specs.declared.refusal.Refusal.{Refusal}
use Rattle.enc_marks.specs.declared.refusal.Refusal.TheVariants.{NotMonomorphic, NotMonotone}
use Rattle.enc_marks.specs.declared.refusal.Refusal.TheVariants.{TableTooLarge, Memory}
use Rattle.enc_marks.specs.declared.scheme.Scheme.{Scheme}
use Rattle.enc_marks.specs.declared.scheme.Scheme.TheVariants as scheme

-- each sort is free
abbrev pub AreFree : Normal → Type 0
AreFree normal = AllByRecursion (λ sort. IsTrue (is_free normal sort)) (sorts normal)

-- the scheme applies to the problem
abbrev pub Applies : Scheme → Normal → Type 0
Applies scheme.Guards normal = Unit {0}
Applies scheme.Tags normal = Unit {0}
Applies scheme.GuardsCover normal = Unit {0}
Applies scheme.TagsCover normal = Unit {0}
Applies scheme.Args normal = naked_places normal ≡ []
Applies scheme.Erase normal = IsTrue (is_monomorphic normal) × AreFree normal
Applies scheme.GuardsLight normal = IsTrue (is_monomorphic normal)
Applies scheme.TagsLight normal = IsTrue (is_monomorphic normal)
Applies scheme.GuardsFeather normal = IsTrue (is_monomorphic normal)
Applies scheme.TagsFeather normal = IsTrue (is_monomorphic normal)

-- whether a scheme asks for a problem without type variables
abbrev pub asks_monomorphic : Scheme → Bool
asks_monomorphic scheme.Guards = false
asks_monomorphic scheme.Tags = false
asks_monomorphic scheme.GuardsCover = false
asks_monomorphic scheme.TagsCover = false
asks_monomorphic scheme.Args = false
asks_monomorphic scheme.Erase = true
asks_monomorphic scheme.GuardsLight = true
asks_monomorphic scheme.TagsLight = true
asks_monomorphic scheme.GuardsFeather = true
asks_monomorphic scheme.TagsFeather = true

-- the item itself, or else another
abbrev pub or_else : {A : Type 0} → Option A → Option A → Option A
or_else None other = other
or_else (Some item) other = Some item

-- the name of the first symbol with a parameter, else of the first formula with a type variable
abbrev pub first_polymorphic : Normal → Option (List ℕ)
first_polymorphic normal =
    or_else
    (slice_get (map (λ symbol. symbol.name)
    (filter (λ symbol. not (eqb symbol.parameters 0)) normal.signature.symbols)) 0)
    (slice_get (map (λ formula. formula.name)
    (filter (λ formula. not (eqb formula.type_variables 0)) normal.formulas)) 0)

-- the first naked place of a sort that isn't free
abbrev pub first_not_free : Normal → Option Place
first_not_free normal =
    slice_get (map (λ naked. naked.place)
    (filter (λ naked. not (is_free normal naked.ty)) (naked_places normal))) 0

-- the place for which a scheme is refused
abbrev pub refused_place : Scheme → Normal → Option Place
refused_place scheme.Guards normal = None
refused_place scheme.Tags normal = None
refused_place scheme.GuardsCover normal = None
refused_place scheme.TagsCover normal = None
refused_place scheme.Args normal = first_naked normal
refused_place scheme.Erase normal = first_not_free normal
refused_place scheme.GuardsLight normal = None
refused_place scheme.TagsLight normal = None
refused_place scheme.GuardsFeather normal = None
refused_place scheme.TagsFeather normal = None

-- The translation is refused: the scheme asks for a problem without type variables, and this is the
-- first name that has one; or it doesn't ask or there are none, and this is the first place that it
-- can't take. No translation is too large. Want of memory has no cause here.
abbrev pub IsRefused : Scheme → Normal → Refusal → Type 0
IsRefused which normal (NotMonomorphic name) =
    IsTrue (asks_monomorphic which) × (first_polymorphic normal ≡ Some name)
IsRefused which normal (NotMonotone place) =
    (IsTrue (asks_monomorphic which) → IsTrue (is_monomorphic normal))
    × (refused_place which normal ≡ Some place)
IsRefused which normal (TableTooLarge entries) = ⊥
IsRefused which normal Memory = Unit {0}
