-- Typed structures: a finite list of domains, the members, on which type constructors are functions.
use Rattle.std.specs.Prelude.{ℕ, ◌<◌, ◌≡◌, List, map, length, replicate, slice_index, slice_get, Some, None}
use Rattle.enc_base.specs.Tables.{EachBelow}
use Rattle.tf_core.specs.declared.ty.Ty.{Ty}
use Rattle.tf_core.specs.declared.signature.Constructor.{Constructor}
use Rattle.tf_core.specs.declared.signature.Symbol.{Symbol}
use Rattle.tf_core.specs.declared.signature.Signature.{Signature}
use Rattle.tf_core.specs.Types.{type_value}

-- The members are numbered from 0; the elements of a member are the numbers below its size.
-- A constructor gives a member for members. A symbol gives, for members for its parameters and
-- elements for its arguments, an element, or for a predicate 1 where it holds and 0 elsewhere.
pub record Typed : Type 0 where
  pub sizes : List ℕ
  pub constructor_at : ℕ → List ℕ → ℕ
  pub symbol_at : ℕ → List ℕ → List ℕ → ℕ

-- how many members there are
abbrev pub member_count : Typed → ℕ
member_count s = length s.sizes

-- how many elements a member has
abbrev pub size_of : Typed → ℕ → ℕ
size_of s member = slice_index s.sizes member

-- the member that a type is
abbrev pub member_of : Typed → List ℕ → Ty → ℕ
member_of s members ty = type_value s.constructor_at members ty

-- the sizes of the members that a symbol's argument types are
abbrev pub argument_sizes : Typed → Symbol → List ℕ → List ℕ
argument_sizes s symbol members = map (λ ty. size_of s (member_of s members ty)) symbol.arguments

-- each parameter has a member, and each argument an element of its type's member
pub record AreArguments (s : Typed) (symbol : Symbol) (members elements : List ℕ) : Type 0 where
  pub for_parameters : EachBelow (replicate symbol.parameters (member_count s)) members
  pub for_arguments : EachBelow (argument_sizes s symbol members) elements

-- The structure fits the signature: there is a member, each member has an element, constructors
-- give members, functions elements of their result type's member, and predicates 0 or 1.
pub record IsStructure (g : Signature) (s : Typed) : Type 0 where
  pub some : 0 < member_count s
  pub inhabited : (member : ℕ) → member < member_count s → 0 < size_of s member
  pub constructors : (c : ℕ) (constructor : Constructor) (members : List ℕ) →
      slice_get g.constructors c ≡ Some constructor →
      EachBelow (replicate constructor.arity (member_count s)) members →
      s.constructor_at c members < member_count s
  pub functions : (f : ℕ) (symbol : Symbol) (result : Ty) (members elements : List ℕ) →
      slice_get g.symbols f ≡ Some symbol → symbol.result ≡ Some result →
      AreArguments s symbol members elements →
      s.symbol_at f members elements < size_of s (member_of s members result)
  pub predicates : (f : ℕ) (symbol : Symbol) (members elements : List ℕ) →
      slice_get g.symbols f ≡ Some symbol → symbol.result ≡ None →
      AreArguments s symbol members elements →
      s.symbol_at f members elements < 2
