-- Words of the evaluator's contracts: values and truth under an environment, the last element being
-- the nearest binder's.
use Rattle.std.specs.Prelude.{ℕ, ◌≡◌, ◌<◌, ◌≤◌, Bool, List, ◌∷◌, map, length, replicate, reverse, ◌^◌, slice_get, slice_index, Option, Some, None, false}
use Rattle.std.specs.List.{list_all, list_any}
use Rattle.enc_base.specs.Tables.{EachBelow, tuple_count}
use Rattle.enc_base.specs.Tuples.{tuple_at}
use Rattle.tf_core.specs.declared.ty.Ty.{Ty}
use Rattle.tf_core.specs.declared.term.Term.{Term}
use Rattle.tf_core.specs.declared.formula.Formula.{Formula}
use Rattle.tf_core.specs.declared.signature.Symbol.{Symbol}
use Rattle.tf_core.specs.declared.signature.Signature.{Signature}
use Rattle.tf_core.specs.Types.{type_value, instantiate}
use Rattle.tf_core.specs.Truth.{value, truth}
use Rattle.tf_core.specs.Typing.{IsType, AreTypes, HasType, HaveTypes, IsFormula, AreFormulas, IsSymbol, IsSignature}
use Rattle.tf_core.specs.Occurrences.{occurs_in_type, occurs_in_types}
use Rattle.tf_core.specs.TypedTables.{constructor_entry, reading, IsWellFormed}
use Rattle.tf_models.specs.declared.structure.TypedStructure.{TypedStructure}
use Rattle.tf_models.specs.declared.members.Members.{Members}
use Rattle.tf_models.specs.declared.members.Members.TheVariants.{Listed, Numbered}
use Rattle.tf_models.specs.Assignment.{Assignment}
use Rattle.tf_models.specs.Reading.{tables}
use Rattle.tf_models.specs.Fit.{ConstructorsFit, block_count, length_at, bound_at, parameters_at}

-- the members for type variables, as a list
abbrev pub listed : Members → List ℕ
listed (Listed members) = members.now
listed (Numbered number bound count) = tuple_at bound count number

-- a number is that of a tuple
abbrev pub IsNumber : Members → Type 0
IsNumber (Listed members) = Unit {0}
IsNumber (Numbered number bound count) =
    (0 < bound) × (number < tuple_count (replicate count bound))

-- the members are those of a structure
pub record AreMembers (s : TypedStructure) (members : Members) : Type 0 where
  pub number : IsNumber members
  pub below : EachBelow (replicate (length (listed members)) (length s.sizes)) (listed members)

-- the member that a type is
abbrev pub member_in : TypedStructure → List ℕ → Ty → ℕ
member_in s members ty = type_value (constructor_entry (tables s)) members ty

-- the size of the member that a type is
abbrev pub size_in : TypedStructure → List ℕ → Ty → ℕ
size_in s members ty = slice_index s.sizes (member_in s members ty)

-- the value of a term under an environment
abbrev pub value_in : Signature → TypedStructure → Assignment → Term → ℕ
value_in g s env t = value (reading g (tables s)) env.members (reverse env.elements) t

-- whether a formula is true under an environment
abbrev pub true_in : Signature → TypedStructure → Assignment → Formula → Bool
true_in g s env formula = truth (reading g (tables s)) env.members formula (reverse env.elements)

-- whether it is with one element more
abbrev pub true_with : Signature → TypedStructure → Assignment → Formula → ℕ → Bool
true_with g s env formula element =
    truth (reading g (tables s)) env.members formula (element ∷ reverse env.elements)

-- whether each part is true, and whether some is

abbrev pub all_true : Signature → TypedStructure → Assignment → List Formula → Bool
all_true g s env parts = list_all (true_in g s env) parts

abbrev pub some_true : Signature → TypedStructure → Assignment → List Formula → Bool
some_true g s env parts = list_any (true_in g s env) parts

-- the sizes of the members of types
abbrev pub sizes_in : TypedStructure → List ℕ → List Ty → List ℕ
sizes_in s members types = map (size_in s members) types

-- The environment is an assignment: a member for each type variable, and for each term variable of
-- a context an element of its type's member.
pub record IsAssignment (g : Signature) (s : TypedStructure) (env : Assignment) (context : List Ty) :
    Type 0 where
  pub members : EachBelow (replicate (length env.members) (length s.sizes)) env.members
  pub elements : EachBelow (sizes_in s env.members context) (reverse env.elements)

-- The structure is well formed, for a signature that is well typed, and its members can be counted
-- in 32 bits.
pub record IsReady (g : Signature) (s : TypedStructure) : Type 0 where
  pub typed : IsSignature g
  pub well_formed : IsWellFormed g (tables s)
  pub few : length s.sizes < 2 ^ 32

-- a block of a symbol's table, by the number of its tuple of members
pub record IsBlock (g : Signature) (s : TypedStructure) (symbol : Symbol) (number : ℕ) : Type 0 where
  pub constructors : ConstructorsFit g (tables s)
  pub few : length s.sizes < 2 ^ 32
  pub typed : IsSymbol g symbol
  pub within : number < block_count (tables s) symbol

-- no type variable occurs in a result's type
abbrev pub IsClosedResult : Option Ty → Type 0
IsClosedResult None = Unit {0}
IsClosedResult (Some ty) = (i : ℕ) → occurs_in_type i ty ≡ false

-- none occurs in a symbol's types, so that its blocks are equally long and have one bound
pub record HasEvenBlocks (symbol : Symbol) : Type 0 where
  pub arguments : (i : ℕ) → occurs_in_types i symbol.arguments ≡ false
  pub result : IsClosedResult symbol.result

-- some entries begin with such a block, each entry of which is in its range
pub record IsBlockOf (s : TypedStructure) (symbol : Symbol) (number : ℕ) (entries : List ℕ) :
    Type 0 where
  pub long : length_at (tables s) symbol number ≤ length entries
  pub below : (i : ℕ) → i < length_at (tables s) symbol number →
      slice_index entries i
      < bound_at (tables s) symbol.result (parameters_at (tables s) symbol number)

-- a term is well typed in some context to which the environment is an assignment
pub record IsTerm (g : Signature) (s : TypedStructure) (env : Assignment) (t : Term) : Type 0 where
  pub context : List Ty
  pub ty : Ty
  pub typed : HasType g (length env.members) context t ty
  pub assigned : IsAssignment g s env context

-- and terms are, in one context
pub record AreTerms (g : Signature) (s : TypedStructure) (env : Assignment) (terms : List Term) :
    Type 0 where
  pub context : List Ty
  pub types : List Ty
  pub typed : HaveTypes g (length env.members) context terms types
  pub assigned : IsAssignment g s env context

-- a value is an element of the member of each type that a term has, in whichever context
abbrev pub IsElement : Signature → TypedStructure → Assignment → Term → ℕ → Type 0
IsElement g s env t value =
    (context : List Ty) (ty : Ty) → IsAssignment g s env context →
    HasType g (length env.members) context t ty → value < size_in s env.members ty

-- the f-th symbol has a type for each of its parameters, and terms of its argument types
pub record IsApplication (g : Signature) (s : TypedStructure) (env : Assignment) (f : ℕ)
    (symbol : Symbol) (types : List Ty) (terms : List Term) : Type 0 where
  pub context : List Ty
  pub at : slice_get g.symbols f ≡ Some symbol
  pub count : length types ≡ symbol.parameters
  pub formed : AreTypes g (length env.members) types
  pub arguments :
      HaveTypes g (length env.members) context terms (map (instantiate types) symbol.arguments)
  pub assigned : IsAssignment g s env context

abbrev pub IsApplied : Signature → TypedStructure → Assignment → ℕ → List Ty → List Term → Type 0
IsApplied g s env f types terms = (symbol : Symbol) × IsApplication g s env f symbol types terms

-- what a symbol gives for the values of types and terms under an environment
abbrev pub entry_in : Signature → TypedStructure → Assignment → ℕ → List Ty → List Term → ℕ
entry_in g s env f types terms =
    (reading g (tables s)).symbol_at f (map (member_in s env.members) types)
    (map (value_in g s env) terms)

-- a formula is well typed in some context to which the environment is an assignment
pub record IsTrueOrFalse (g : Signature) (s : TypedStructure) (env : Assignment) (formula : Formula) :
    Type 0 where
  pub context : List Ty
  pub typed : IsFormula g (length env.members) context formula
  pub assigned : IsAssignment g s env context

-- and formulas are, in one context
pub record AreTrueOrFalse (g : Signature) (s : TypedStructure) (env : Assignment)
    (parts : List Formula) : Type 0 where
  pub context : List Ty
  pub typed : AreFormulas g (length env.members) context parts
  pub assigned : IsAssignment g s env context

-- a binder's body is well typed, with its variable, in some such context
pub record IsBinder (g : Signature) (s : TypedStructure) (env : Assignment) (ty : Ty)
    (body : Formula) : Type 0 where
  pub context : List Ty
  pub formed : IsType g (length env.members) ty
  pub typed : IsFormula g (length env.members) (ty ∷ context) body
  pub assigned : IsAssignment g s env context
