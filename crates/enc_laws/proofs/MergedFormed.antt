-- The merged structure, over the marked symbols that occur, fits the signature.
use Rattle.std.specs.Prelude.{ℕ, zero, suc, ◌+◌, ◌<◌, ◌≡◌, Bool, true, false, List, [], ◌∷◌, map, length, replicate, cond, drop, is_none, slice_get, take, Option, Some, None}
use Rattle.std.proofs.Common.{sym, subst, arith}
use Rattle.enc_base.specs.Tables.{EachBelow}
use Rattle.tf_core.specs.declared.ty.Ty.{Ty}
use Rattle.tf_core.specs.declared.signature.Constructor.{Constructor}
use Rattle.tf_core.specs.declared.signature.Symbol.{Symbol}
use Rattle.tf_core.specs.declared.signature.Signature.{Signature}
use Rattle.tf_core.specs.Typing.{IsType, type_variable, type_apply, AreTypes, no_types, more_types, IsSignature}
use Rattle.tf_core.specs.Structures.{Typed, member_count, size_of, member_of, AreArguments, IsStructure}
use Rattle.tf_core.proofs.Types.{type_value-variable, type_value-apply}
use Rattle.tf_naked.specs.Covers.{is_parameter, argument_parameters}
use Rattle.enc_marks.specs.Choices.{Choices}
use Rattle.tf_stamp.specs.Merged.{merged_size, member_in}
use Rattle.enc_laws.specs.MergedStructure.{value_at_cover, members_read, elements_read, kept_count, members_at, value_at, merged_value}
use Rattle.enc_laws.proofs.Selected.{arguments_formed}
use Rattle.enc_laws.proofs.Closed.{EachBelow-at}
use Rattle.tf_stamp.proofs.Merged.{stamp_within, member_in-within}
use Rattle.enc_laws.proofs.Stamped.{size_within, element_of}

-- the parts of a tuple

pub EachBelow-front : (bound first second : ℕ) (values : List ℕ) →
    EachBelow (replicate (first + second) bound) values →
    EachBelow (replicate first bound) (take first values)
EachBelow-front bound zero second values below = tt
EachBelow-front bound (suc first) second values below =
    let e : suc first + second ≡ suc (first + second) = omega arith in
    front_more bound first second values (subst (λ n. EachBelow (replicate n bound) values) e below)
    (λ others. EachBelow-front bound first second others)
  where
    front_more : (bound first second : ℕ) (values : List ℕ) →
        EachBelow (replicate (suc (first + second)) bound) values →
        ((others : List ℕ) → EachBelow (replicate (first + second) bound) others →
        EachBelow (replicate first bound) (take first others)) →
        EachBelow (replicate (suc first) bound) (take (suc first) values)
    front_more bound first second [] below rest = absurd below
    front_more bound first second (v ∷ values) below rest = (below.0, rest values below.1)

pub EachBelow-back : (bound first second : ℕ) (values : List ℕ) →
    EachBelow (replicate (first + second) bound) values →
    EachBelow (replicate second bound) (drop first values)
EachBelow-back bound zero second values below =
    let e : 0 + second ≡ second = omega arith in
    subst (λ n. EachBelow (replicate n bound) values) e below
EachBelow-back bound (suc first) second values below =
    let e : suc first + second ≡ suc (first + second) = omega arith in
    back_more bound first second values (subst (λ n. EachBelow (replicate n bound) values) e below)
    (λ others. EachBelow-back bound first second others)
  where
    back_more : (bound first second : ℕ) (values : List ℕ) →
        EachBelow (replicate (suc (first + second)) bound) values →
        ((others : List ℕ) → EachBelow (replicate (first + second) bound) others →
        EachBelow (replicate second bound) (drop first others)) →
        EachBelow (replicate second bound) (drop (suc first) values)
    back_more bound first second [] below rest = absurd below
    back_more bound first second (v ∷ values) below rest = rest values below.1

module _ (g : Signature) (s : Typed) (sound : IsSignature g) (structure : IsStructure g s) where
  mutual
    pub type_within : (variables : ℕ) (ty : Ty) (formed : IsType g variables ty)
        (members : List ℕ) → EachBelow (replicate variables (member_count s)) members →
        member_of s members ty < member_count s
    type_within variables ty (type_variable i within) members below =
        subst (λ x. x < member_count s) (sym (type_value-variable s.constructor_at members i))
        (EachBelow-at (member_count s) variables members below i within)
    type_within variables ty (type_apply i constructor types at all formed) members below =
        subst (λ x. x < member_count s) (sym (type_value-apply s.constructor_at members i types))
        (structure.constructors i constructor (map (member_of s members) types) at
        (subst (λ a. EachBelow (replicate a (member_count s)) (map (member_of s members) types)) all
        (types_within variables types formed members below)))

    pub types_within : (variables : ℕ) (types : List Ty) (formed : AreTypes g variables types)
        (members : List ℕ) → EachBelow (replicate variables (member_count s)) members →
        EachBelow (replicate (length types) (member_count s)) (map (member_of s members) types)
    types_within variables types no_types members below = tt
    types_within variables types (more_types ty others formed rest) members below = (
      type_within variables ty formed members below,
      types_within variables others rest members below,
    )

  some_number : 0 < merged_size s.sizes
  some_number = let some = structure.some in omega (arith, some)

  value_at_cover-below : (p : ℕ) (places : List (Option ℕ)) (count : ℕ) (values : List ℕ) →
      EachBelow (replicate count (merged_size s.sizes)) values →
      value_at_cover p places values < merged_size s.sizes
  value_at_cover-below p [] count values below = some_number
  value_at_cover-below p (place ∷ places) count [] below = some_number
  value_at_cover-below p (place ∷ places) zero (v ∷ values) below = absurd below
  value_at_cover-below p (place ∷ places) (suc count) (v ∷ values) below =
      one (is_parameter p place) below.0 (value_at_cover-below p places count values below.1)
    where
      one : (b : Bool) → v < merged_size s.sizes →
          value_at_cover p places values < merged_size s.sizes →
          cond b v (value_at_cover p places values) < merged_size s.sizes
      one true first rest = first
      one false first rest = rest

  members_read-within : (keeps : List Bool) (p : ℕ) (places : List (Option ℕ))
      (kept_bound count : ℕ) (kept values : List ℕ) →
      EachBelow (replicate kept_bound (merged_size s.sizes)) kept →
      EachBelow (replicate count (merged_size s.sizes)) values →
      EachBelow (replicate (length keeps) (member_count s))
      (members_read s.sizes keeps p places kept values)
  members_read-within [] p places kept_bound count kept values below_kept below = tt
  members_read-within (true ∷ keeps) p places kept_bound count [] values below_kept below = (
    structure.some,
    members_read-within keeps (p + 1) places kept_bound count [] values below_kept below,
  )
  members_read-within (true ∷ keeps) p places zero count (u ∷ kept) values below_kept below =
      absurd below_kept
  members_read-within (true ∷ keeps) p places (suc kept_bound) count (u ∷ kept) values below_kept
      below = (
        member_in-within s.sizes u below_kept.0,
        members_read-within keeps (p + 1) places kept_bound count kept values below_kept.1 below,
      )
  members_read-within (false ∷ keeps) p places kept_bound count kept values below_kept below = (
    member_in-within s.sizes _ (value_at_cover-below p places count values below),
    members_read-within keeps (p + 1) places kept_bound count kept values below_kept below,
  )

  elements_read-within : (members : List ℕ) (types : List Ty) (values : List ℕ) →
      EachBelow (replicate (length types) (member_count s)) (map (member_of s members) types) →
      EachBelow (replicate (length types) (merged_size s.sizes)) values →
      EachBelow (map (λ ty. size_of s (member_of s members ty)) types)
      (elements_read s.sizes (map (member_of s members) types) values)
  elements_read-within members [] values within below = tt
  elements_read-within members (ty ∷ types) [] within below = absurd below
  elements_read-within members (ty ∷ types) (v ∷ values) within below =
      let element = element_of s v (member_of s members ty) below.0 within.0
      (structure.inhabited (member_of s members ty) within.0) in
      (element.small, elements_read-within members types values within.1 below.1)

  module _ (c : Choices) (keeps : (symbol : Symbol) → length (c.keeps symbol) ≡ symbol.parameters)
    where
      read_arguments : (f : ℕ) (symbol : Symbol) (kept values : List ℕ) →
          slice_get g.symbols f ≡ Some symbol →
          EachBelow (replicate (kept_count c symbol) (merged_size s.sizes)) kept →
          EachBelow (replicate (length symbol.arguments) (merged_size s.sizes)) values →
          AreArguments s symbol (members_at c s symbol kept values)
          (elements_read s.sizes
          (map (member_of s (members_at c s symbol kept values)) symbol.arguments) values)
      read_arguments f symbol kept values at below_kept below =
          let members : List ℕ = members_at c s symbol kept values in
          let within : EachBelow (replicate symbol.parameters (member_count s)) members =
          subst (λ n. EachBelow (replicate n (member_count s)) members) (keeps symbol)
          (members_read-within (c.keeps symbol) 0 (argument_parameters symbol)
          (kept_count c symbol) (length symbol.arguments) kept values below_kept below) in
          record {
            for_parameters = within;
            for_arguments = elements_read-within members symbol.arguments values
                (types_within symbol.parameters symbol.arguments
                (arguments_formed g f symbol sound at) members within) below;
          }

      -- a function gives a number of the domain, and a predicate 0 or 1
      pub merged_symbol-below : (f : ℕ) (symbol : Symbol) (kept values : List ℕ) →
          slice_get g.symbols f ≡ Some symbol →
          EachBelow (replicate (kept_count c symbol) (merged_size s.sizes)) kept →
          EachBelow (replicate (length symbol.arguments) (merged_size s.sizes)) values →
          (result : Option Ty) → symbol.result ≡ result →
          merged_value s (members_at c s symbol kept values) result
          (value_at s f symbol (members_at c s symbol kept values) values)
          < cond (is_none result) 2 (merged_size s.sizes)
      merged_symbol-below f symbol kept values at below_kept below None gives =
          structure.predicates f symbol (members_at c s symbol kept values) _ at gives
          (read_arguments f symbol kept values at below_kept below)
      merged_symbol-below f symbol kept values at below_kept below (Some ty) gives =
          let members : List ℕ = members_at c s symbol kept values in
          let small = structure.functions f symbol ty members _ at gives
          (read_arguments f symbol kept values at below_kept below) in
          let m : ℕ = member_of s members ty in
          let place = stamp_within s.sizes m _ (size_within s.sizes m _ small) small in
          omega (arith, place)

  pub merged_constructor-below : (i : ℕ) (constructor : Constructor) (values : List ℕ) →
      slice_get g.constructors i ≡ Some constructor →
      EachBelow (replicate constructor.arity (merged_size s.sizes)) values →
      s.constructor_at i (map (member_in s.sizes) values) < merged_size s.sizes
  merged_constructor-below i constructor values at below =
      let w = structure.constructors i constructor (map (member_in s.sizes) values) at
      (members_within constructor.arity values below) in
      omega (arith, w)
    where
      members_within : (count : ℕ) (values : List ℕ) →
          EachBelow (replicate count (merged_size s.sizes)) values →
          EachBelow (replicate count (member_count s)) (map (member_in s.sizes) values)
      members_within zero [] below = tt
      members_within zero (v ∷ values) below = absurd below
      members_within (suc count) [] below = absurd below
      members_within (suc count) (v ∷ values) below =
          (member_in-within s.sizes v below.0, members_within count values below.1)
