-- The entries of a symbol: one at least for each tuple of members.
use Rattle.std.specs.Prelude.{ℕ, zero, suc, ◌≡◌, ◌≤◌, ◌<◌, ◌*◌, List, ◌∷◌, map, replicate, slice_index}
use Rattle.std.specs.List.{All}
use Rattle.std.proofs.Common.{refl, sym, ap, ◌∙◌, arith}
use Rattle.enc_base.specs.Tables.{EachBelow, tuple_count}
use Rattle.tf_core.specs.declared.ty.Ty.{Ty}
use Rattle.tf_core.specs.declared.signature.Symbol.{Symbol}
use Rattle.tf_core.specs.declared.signature.Signature.{Signature}
use Rattle.tf_core.specs.Typing.{IsType, IsSymbol, AreTypes, no_types, more_types}
use Rattle.tf_core.specs.Structures.{Typed, member_count, size_of, member_of, IsStructure, argument_sizes}
use Rattle.structure_tables.specs.EntryCounts.{symbol_count}
use Rattle.structure_tables.proofs.MembersOfTypes.{member_below}
use Rattle.structure_tables.proofs.BlockOrder.{first_below}
use Rattle.structure_tables.proofs.ProductSums.{total-grows, total-each, total-const}

positive_times : (a b : ℕ) → 1 ≤ a → 1 ≤ b → 1 ≤ a * b
positive_times a b first second = grind arith

pub tuples_some : (bound count : ℕ) → 0 < bound → 1 ≤ tuple_count (replicate count bound)
tuples_some bound zero some = omega arith
tuples_some bound (suc count) some =
    positive_times bound (tuple_count (replicate count bound)) some (tuples_some bound count some)

module _ (g : Signature) (s : Typed) (fits : IsStructure g s) where
  sizes_positive : (parameters : ℕ) (members : List ℕ) (arguments : List Ty) →
      EachBelow (replicate parameters (member_count s)) members → AreTypes g parameters arguments →
      1 ≤ tuple_count (map (λ ty. size_of s (member_of s members ty)) arguments)
  sizes_positive parameters members arguments below no_types = omega arith
  sizes_positive parameters members arguments below (more_types ty others formed rest) =
      positive_times (size_of s (member_of s members ty))
      (tuple_count (map (λ other. size_of s (member_of s members other)) others))
      (fits.inhabited (member_of s members ty)
      (member_below g s fits parameters members below ty formed))
      (sizes_positive parameters members others below rest)

  pub symbol_count-grows : (symbol : Symbol) → IsSymbol g symbol →
      tuple_count (replicate symbol.parameters (member_count s)) ≤ symbol_count s symbol
  symbol_count-grows symbol typed =
      total-grows (replicate symbol.parameters (member_count s))
      (λ members. tuple_count (argument_sizes s symbol members))
      (λ members below. sizes_positive symbol.parameters members symbol.arguments below
      typed.arguments)

  -- members of one size

  size_same : (parameters : ℕ) (members others : List ℕ) (ty : Ty) →
      All (λ size. size ≡ slice_index s.sizes 0) s.sizes →
      EachBelow (replicate parameters (member_count s)) members →
      EachBelow (replicate parameters (member_count s)) others → IsType g parameters ty →
      size_of s (member_of s members ty) ≡ size_of s (member_of s others ty)
  size_same parameters members others ty same below other_below formed =
      same (member_of s members ty) 0 (member_below g s fits parameters members below ty formed)
      ∙ sym (same (member_of s others ty) 0
      (member_below g s fits parameters others other_below ty formed))

  sizes_same : (parameters : ℕ) (members others : List ℕ) (arguments : List Ty) →
      All (λ size. size ≡ slice_index s.sizes 0) s.sizes →
      EachBelow (replicate parameters (member_count s)) members →
      EachBelow (replicate parameters (member_count s)) others → AreTypes g parameters arguments →
      map (λ ty. size_of s (member_of s members ty)) arguments
      ≡ map (λ ty. size_of s (member_of s others ty)) arguments
  sizes_same parameters members others arguments same below other_below no_types = refl
  sizes_same parameters members others arguments same below other_below
      (more_types ty rest formed types) =
      ap (λ n. n ∷ map (λ t. size_of s (member_of s members t)) rest)
      (size_same parameters members others ty same below other_below formed)
      ∙ ap (λ ns. size_of s (member_of s others ty) ∷ ns)
      (sizes_same parameters members others rest same below other_below types)

  -- where all members have one size, each block is as long as the first
  pub symbol_count-same : (symbol : Symbol) → IsSymbol g symbol →
      All (λ size. size ≡ slice_index s.sizes 0) s.sizes →
      symbol_count s symbol
      ≡ tuple_count (replicate symbol.parameters (member_count s))
      * tuple_count (argument_sizes s symbol (replicate symbol.parameters 0))
  symbol_count-same symbol typed same =
      total-each (replicate symbol.parameters (member_count s))
      (λ members. tuple_count (argument_sizes s symbol members))
      (λ _. tuple_count (argument_sizes s symbol (replicate symbol.parameters 0)))
      (λ members below. ap tuple_count
      (sizes_same symbol.parameters members (replicate symbol.parameters 0) symbol.arguments same
      below (first_below symbol.parameters (member_count s) fits.some) typed.arguments))
      ∙ total-const (replicate symbol.parameters (member_count s))
      (tuple_count (argument_sizes s symbol (replicate symbol.parameters 0)))
