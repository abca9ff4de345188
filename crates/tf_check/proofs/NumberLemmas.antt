-- Numbers of the types of symbols and of what their arguments are asked to be.
use Rattle.std.proofs.Common.{◌≡◌, ◌+◌, ◌<◌, ℕ, List, [], ◌∷◌, ◌++◌, length, map, take, get_or, slice_get, Option, Some, None, option_map, refl, sym, ap, ◌∙◌, subst, arith}
use Rattle.std.specs.List.{AllByRecursion}
use Rattle.std.proofs.lemmas.List.{length-map, map-append, take_more, get_or-map}
use Rattle.std.proofs.lemmas.Option.{slice_get-map, slice_get_within}
use Rattle.tf_core.specs.declared.ty.Ty.{Ty}
use Rattle.tf_core.specs.declared.ty.Ty.TheVariants as type
use Rattle.tf_core.specs.declared.ty.Ty.TheViews.{outs-Var}
use Rattle.tf_core.specs.declared.signature.Symbol.{Symbol}
use Rattle.tf_core.specs.Types.{instantiate}
use Rattle.tf_types.specs.declared.node.TypeId.{TypeId}
use Rattle.tf_types.specs.declared.node.TypeNode.{TypeNode}
use Rattle.tf_types.specs.declared.node.TypeNode.TheVariants as node
use Rattle.tf_types.specs.Instances.{arguments_of, arguments_step}
use Rattle.tf_types.specs.Nodes.{denoted, NamesBelow}
use Rattle.tf_types.specs.Numbers.{Extends, IsNumber, AreNumbers, type_at}
use Rattle.tf_types.proofs.Instances.{arguments_of-apply}
use Rattle.tf_types.proofs.Numbers.{types_at-extended, type_at-extended}
use Rattle.tf_check.specs.declared.context.Context.{Context}
use Rattle.tf_check.specs.declared.scope.SymbolNumbers.{SymbolNumbers}
use Rattle.tf_check.specs.declared.table.Profile.{Profile}
use Rattle.tf_check.specs.Signature.{symbol_named}
use Rattle.tf_check.specs.Table.{named_profile}
use Rattle.tf_check.specs.Bound.{Scoped, SymbolTypes, symbol_types, symbol_at, types_of_symbol, IsReady, IsSymbolAt, numbered_types, numbers_in}
use Rattle.tf_core.proofs.Types.{instantiate-apply}
use Rattle.tf_check.proofs.ScopedLemmas.{symbol_at-is, all_at, get_or-self}
use Rattle.tf_check.proofs.SoundTerms as sound

-- ---- the numbers of types one after another

pub numbers_next : (old new types : List Ty) (ids : List TypeId) (id : TypeId) (i : ℕ) (ty : Ty) →
    Extends old new → AreNumbers old ids → map (type_at old) ids ≡ take i types → i < length types →
    ty ≡ get_or types i ty → type_at new id ≡ ty →
    map (type_at new) (ids ++ id ∷ []) ≡ take (i + 1) types
numbers_next old new types ids id i ty grows numbers before within is denotes =
    map-append (type_at new) ids (id ∷ [])
    ∙ ap (λ tys. tys ++ type_at new id ∷ []) (types_at-extended old new grows ids numbers ∙ before)
    ∙ ap (λ x. take i types ++ x ∷ []) (denotes ∙ is)
    ∙ sym (take_more types i ty within)

-- the type of the place at an index
pub place_at : (old new : List Ty) → Extends old new → (ids : List TypeId) (i : ℕ) (d : TypeId) →
    i < length ids → AreNumbers old ids →
    type_at new (get_or ids i d)
    ≡ get_or (map (type_at old) ids) i (type_at new (get_or ids i d))
place_at old new grows ids i d within numbers =
    type_at-extended old new grows (get_or ids i d)
    (all_at (IsNumber old) ids i (get_or ids i d) within (get_or-self ids i d within) numbers)
    ∙ sym (get_or-map (type_at old) ids i d (type_at new (get_or ids i d)) within)

-- ---- the arguments of a type

arguments_of-var : (i : ℕ) → arguments_of (type.Var i) ≡ []
unfolding arguments_of
arguments_of-var i = ap arguments_step (outs-Var i)

pub arguments_of-denoted : (types : List Ty) (n : TypeNode) →
    map (type_at types) (numbers_in n) ≡ arguments_of (denoted types n)
arguments_of-denoted types (node.Var i) = sym (arguments_of-var i)
arguments_of-denoted types (node.Apply c numbers) =
    sym (arguments_of-apply c (map (type_at types) numbers))

pub numbers_below : (types : List Ty) (bound : ℕ) (n : TypeNode) → bound < length types →
    NamesBelow bound n → AreNumbers types (numbers_in n)
numbers_below types bound (node.Var i) within below = tt
numbers_below types bound (node.Apply c numbers) within below = all numbers below
  where
    all : (ids : List TypeId) → AllByRecursion (λ number. number.index < bound) ids →
        AreNumbers types ids
    all [] below = tt
    all (id ∷ ids) below = (omega (arith, below.0), all ids below.1)

-- ---- a symbol at its place

module _ (scoped : Scoped) (place : ℕ) (profile : Profile) (at : IsSymbolAt scoped place profile)
  where
    abbrev declared : SymbolTypes
    declared = symbol_types profile.arguments profile.result

    pub place_is_within : place < length scoped.symbols
    place_is_within = slice_get_within scoped.symbols place declared at

    -- the types that the places of its arguments have
    pub places_are : (types : List Ty) →
        arguments_of (instantiate types (symbol_at scoped place).arguments)
        ≡ map (instantiate types) profile.arguments
    places_are types =
        ap (λ (s : SymbolTypes). arguments_of (instantiate types s.arguments))
        (symbol_at-is scoped place profile.arguments profile.result at)
        ∙ ap arguments_of (instantiate-apply types 0 profile.arguments)
        ∙ arguments_of-apply 0 (map (instantiate types) profile.arguments)

    pub asked_are : (numbered types others : List Ty) → numbered ≡ types →
        others ≡ arguments_of (instantiate numbered (symbol_at scoped place).arguments) →
        others ≡ map (instantiate types) profile.arguments
    asked_are numbered types others same is =
        is ∙ places_are numbered ∙ ap (λ ts. map (instantiate ts) profile.arguments) same

    -- the type that its result has
    pub result_is : (numbers : SymbolNumbers) →
        numbered_types scoped.types numbers ≡ symbol_at scoped place →
        option_map (type_at scoped.types) numbers.result ≡ profile.result
    result_is numbers is =
        ap (λ (s : SymbolTypes). s.result)
        (is ∙ symbol_at-is scoped place profile.arguments profile.result at)

-- the symbol that is named
pub named_at : (context : Context) (scoped : Scoped) (name : List ℕ) (place : ℕ) (profile : Profile) →
    IsReady context scoped →
    Some (place, named_profile name profile) ≡ symbol_named name context.table.now →
    IsSymbolAt scoped place profile
named_at context scoped name place profile ready named =
    ap (λ (ss : List SymbolTypes). slice_get ss place) ready
    ∙ slice_get-map types_of_symbol context.table.now.symbols place
    ∙ ap (option_map types_of_symbol)
    (sound.symbol_at name context.table.now place (named_profile name profile) (sym named))

-- with the same symbols
pub at_still : (old new : Scoped) (place : ℕ) (profile : Profile) → new.symbols ≡ old.symbols →
    IsSymbolAt old place profile → IsSymbolAt new place profile
at_still old new place profile same at =
    ap (λ (ss : List SymbolTypes). slice_get ss place) same ∙ at
