-- Tables that share those of a signature: the structures that they are agree on it.
use Rattle.std.proofs.Common.{ℕ, zero, suc, ◌+◌, ◌<◌, ◌≡◌, List, [], ◌∷◌, map, length, replicate, get_or, refl, sym, ap, subst, ◌∙◌, arith}
use Rattle.std.specs.Prelude.{slice_index, slice_get, Option, Some, None}
use Rattle.std.specs.List.{AllByRecursion}
use Rattle.enc_base.specs.Tables.{EachBelow, sum_below, tuple_count, place, total, begins}
use Rattle.tf_core.specs.declared.ty.Ty.{Ty}
use Rattle.tf_core.specs.declared.signature.Symbol.{Symbol}
use Rattle.tf_core.specs.declared.signature.Signature.{Signature}
use Rattle.tf_core.specs.Types.{type_value}
use Rattle.tf_core.specs.Structures.{Typed, size_of, member_of, AreArguments}
use Rattle.tf_core.specs.TypedTables.{TypedTables, constructor_entry, block_bounds, block_length, symbol_place, symbol_entry, reading}
use Rattle.tf_core.specs.Typing.{IsSymbol, IsSignature, IsType, IsResult}
use Rattle.tf_nnf.proofs.Lists.{map-map}
use Rattle.tf_nnf.proofs.Agreement.{Agree, type_values-agree, argument_sizes-agree, size_of-agree, member_of-agree}

-- an item of a list of which each is such

pub at_all : {A : Type 0} (P : A → Type 0) (items : List A) (i : ℕ) (item : A) →
    AllByRecursion P items → slice_get items i ≡ Some item → P item
at_all P [] i item all at = cc
at_all P (first ∷ items) zero item all at =
    let same : first ≡ item = cc in subst P same all.0
at_all P (first ∷ items) (suc i) item all at = at_all P items i item all.1 at

-- sums of lengths that are the same

sum_below-same : (bound : ℕ) (f g : ℕ → ℕ) → ((n : ℕ) → f n ≡ g n) →
    sum_below bound f ≡ sum_below bound g
sum_below-same zero f g same = refl
sum_below-same (suc bound) f g same =
    omega (arith, same bound, sum_below-same bound f g same)

pub total-same : (bounds : List ℕ) (f g : List ℕ → ℕ) → ((values : List ℕ) → f values ≡ g values) →
    total bounds f ≡ total bounds g
total-same [] f g same = same []
total-same (bound ∷ bounds) f g same =
    sum_below-same bound
    (λ value. total bounds (λ values. f (value ∷ values)))
    (λ value. total bounds (λ values. g (value ∷ values)))
    (λ value. total-same bounds (λ values. f (value ∷ values)) (λ values. g (value ∷ values))
    (λ values. same (value ∷ values)))

pub begins-same : (bounds : List ℕ) (f g : List ℕ → ℕ) (values : List ℕ) →
    ((others : List ℕ) → f others ≡ g others) → begins bounds f values ≡ begins bounds g values
begins-same [] f g values same = refl
begins-same (bound ∷ bounds) f g [] same = refl
begins-same (bound ∷ bounds) f g (value ∷ values) same =
    omega (
      arith,
      sum_below-same value
          (λ earlier. total bounds (λ others. f (earlier ∷ others)))
          (λ earlier. total bounds (λ others. g (earlier ∷ others)))
          (λ earlier. total-same bounds (λ others. f (earlier ∷ others)) (λ others. g (earlier ∷ others))
          (λ others. same (earlier ∷ others))),
      begins-same bounds (λ others. f (value ∷ others)) (λ others. g (value ∷ others)) values
          (λ others. same (value ∷ others)),
    )

-- the tables have the same sizes and symbols, and the same tables of a signature's constructors
pub record Share (g : Signature) (t u : TypedTables) : Type 0 where
  pub sizes : t.sizes ≡ u.sizes
  pub symbols : t.symbols ≡ u.symbols
  pub constructors : (c : ℕ) → c < length g.constructors →
      get_or t.constructors c [] ≡ get_or u.constructors c []

pub share-back : (g : Signature) (t u : TypedTables) → Share g t u → Share g u t
share-back g t u share = record {
  sizes = sym share.sizes;
  symbols = sym share.symbols;
  constructors = λ c within. sym (share.constructors c within);
}

module _ (g : Signature) (t u : TypedTables) (share : Share g t u) (typed : IsSignature g) where
  pub constructor_entry-share : (c : ℕ) (members : List ℕ) → c < length g.constructors →
      constructor_entry t c members ≡ constructor_entry u c members
  constructor_entry-share c members within =
      ap (λ (table : List ℕ). slice_index table (place (replicate (length members) (length t.sizes)) members))
      (share.constructors c within)
      ∙ ap (λ (sizes : List ℕ). slice_index (get_or u.constructors c [])
      (place (replicate (length members) (length sizes)) members)) share.sizes

  bounds-share : (variables : ℕ) (members : List ℕ) (types : List Ty) →
      map (type_value (constructor_entry t) members) types
      ≡ map (type_value (constructor_entry u) members) types →
      map (λ ty. slice_index t.sizes (type_value (constructor_entry t) members ty)) types
      ≡ map (λ ty. slice_index u.sizes (type_value (constructor_entry u) members ty)) types
  bounds-share variables members types same =
      sym (map-map (slice_index t.sizes) (type_value (constructor_entry t) members) types)
      ∙ ap (λ ms. map (slice_index t.sizes) ms) same
      ∙ ap (λ (sizes : List ℕ). map (slice_index sizes) (map (type_value (constructor_entry u) members) types))
      share.sizes
      ∙ map-map (slice_index u.sizes) (type_value (constructor_entry u) members) types

  pub block_bounds-share : (symbol : Symbol) → IsSymbol g symbol → (members : List ℕ) →
      block_bounds t symbol members ≡ block_bounds u symbol members
  block_bounds-share symbol is members =
      bounds-share symbol.parameters members symbol.arguments
      (type_values-agree g (constructor_entry t) (constructor_entry u) constructor_entry-share
      symbol.parameters members symbol.arguments is.arguments)

  pub block_length-share : (symbol : Symbol) → IsSymbol g symbol → (members : List ℕ) →
      block_length t symbol members ≡ block_length u symbol members
  block_length-share symbol is members = ap tuple_count (block_bounds-share symbol is members)

  symbol_place-share : (symbol : Symbol) → IsSymbol g symbol → (members elements : List ℕ) →
      symbol_place t symbol members elements ≡ symbol_place u symbol members elements
  symbol_place-share symbol is members elements =
      ap (λ n. n + place (block_bounds t symbol members) elements)
      (begins-same (replicate symbol.parameters (length t.sizes)) (block_length t symbol) (block_length u symbol)
      members (block_length-share symbol is)
      ∙ ap (λ (sizes : List ℕ). begins (replicate symbol.parameters (length sizes)) (block_length u symbol) members)
      share.sizes)
      ∙ ap (λ (bounds : List ℕ).
      begins (replicate symbol.parameters (length u.sizes)) (block_length u symbol) members + place bounds elements)
      (block_bounds-share symbol is members)

  symbol_entry-share : (o : Option Symbol) (f : ℕ) (members elements : List ℕ) →
      slice_get g.symbols f ≡ o →
      symbol_entry t o f members elements ≡ symbol_entry u o f members elements
  symbol_entry-share None f members elements at = refl
  symbol_entry-share (Some symbol) f members elements at =
      ap (slice_index (get_or t.symbols f []))
      (symbol_place-share symbol (at_all (IsSymbol g) g.symbols f symbol typed at) members elements)
      ∙ ap (λ (tables : List (List ℕ)). slice_index (get_or tables f []) (symbol_place u symbol members elements))
      share.symbols

  -- the structures agree, whatever constructors stand behind those of the signature
  pub agree : (h : Signature) → h.symbols ≡ g.symbols → Agree g (reading g t) (reading h u)
  agree h same = record {
    sizes = share.sizes;
    constructors = constructor_entry-share;
    symbols = λ f members elements.
        symbol_entry-share (slice_get g.symbols f) f members elements refl
        ∙ ap (λ (symbols : List Symbol). symbol_entry u (slice_get symbols f) f members elements) (sym same);
  }

  -- the tables of the symbols have the right lengths in both
  pub symbol_lengths : ((f : ℕ) (symbol : Symbol) → slice_get g.symbols f ≡ Some symbol →
      length (get_or t.symbols f [])
      ≡ total (replicate symbol.parameters (length t.sizes)) (block_length t symbol)) →
      (f : ℕ) (symbol : Symbol) → slice_get g.symbols f ≡ Some symbol →
      length (get_or u.symbols f [])
      ≡ total (replicate symbol.parameters (length u.sizes)) (block_length u symbol)
  symbol_lengths lengths f symbol at =
      ap (λ (tables : List (List ℕ)). length (get_or tables f [])) (sym share.symbols)
      ∙ lengths f symbol at
      ∙ ap (λ (sizes : List ℕ). total (replicate symbol.parameters (length sizes)) (block_length t symbol)) share.sizes
      ∙ total-same (replicate symbol.parameters (length u.sizes)) (block_length t symbol) (block_length u symbol)
      (block_length-share symbol (at_all (IsSymbol g) g.symbols f symbol typed at))

-- what functions and predicates give is in range in both of two structures that agree

module _ (g : Signature) (s r : Typed) (both : Agree g s r) (typed : IsSignature g) where
  arguments-back : (symbol : Symbol) → IsSymbol g symbol → (members elements : List ℕ) →
      AreArguments r symbol members elements → AreArguments s symbol members elements
  arguments-back symbol is members elements are = record {
    for_parameters =
        subst (λ (sizes : List ℕ). EachBelow (replicate symbol.parameters (length sizes)) members)
        (sym both.sizes) are.for_parameters;
    for_arguments =
        subst (λ (bounds : List ℕ). EachBelow bounds elements)
        (sym (argument_sizes-agree g s r both symbol members symbol.arguments is.arguments))
        are.for_arguments;
  }

  pub functions-agree : ((f : ℕ) (symbol : Symbol) (result : Ty) (members elements : List ℕ) →
      slice_get g.symbols f ≡ Some symbol → symbol.result ≡ Some result →
      AreArguments s symbol members elements →
      s.symbol_at f members elements < size_of s (member_of s members result)) →
      (f : ℕ) (symbol : Symbol) (result : Ty) (members elements : List ℕ) →
      slice_get g.symbols f ≡ Some symbol → symbol.result ≡ Some result →
      AreArguments r symbol members elements →
      r.symbol_at f members elements < size_of r (member_of r members result)
  functions-agree below f symbol result members elements at gives are =
      let is : IsSymbol g symbol = at_all (IsSymbol g) g.symbols f symbol typed at in
      let formed : IsType g symbol.parameters result = subst (IsResult g symbol.parameters) gives is.result in
      let there = below f symbol result members elements at gives
      (arguments-back symbol is members elements are) in
      let size : size_of s (member_of s members result) ≡ size_of r (member_of r members result) =
      ap (size_of s) (member_of-agree g s r both symbol.parameters members result formed)
      ∙ size_of-agree g s r both (member_of r members result) in
      omega (arith, there, size, both.symbols f members elements)

  pub predicates-agree : ((f : ℕ) (symbol : Symbol) (members elements : List ℕ) →
      slice_get g.symbols f ≡ Some symbol → symbol.result ≡ None →
      AreArguments s symbol members elements → s.symbol_at f members elements < 2) →
      (f : ℕ) (symbol : Symbol) (members elements : List ℕ) →
      slice_get g.symbols f ≡ Some symbol → symbol.result ≡ None →
      AreArguments r symbol members elements → r.symbol_at f members elements < 2
  predicates-agree below f symbol members elements at gives are =
      let is : IsSymbol g symbol = at_all (IsSymbol g) g.symbols f symbol typed at in
      let there = below f symbol members elements at gives (arguments-back symbol is members elements are) in
      omega (arith, there, both.symbols f members elements)
