-- What the sources of structures are asked for: values for arguments in range.
use Rattle.std.specs.Prelude.{ℕ, ◌≡◌, ◌<◌, ◌^◌, List, length, replicate, slice_get, Some}
use Rattle.enc_base.specs.Tables.{EachBelow}
use Rattle.fof_models.specs.declared.problem.FofSymbol.{FofSymbol}
use Rattle.fof_models.specs.Structures.{Untyped}
use Rattle.tf_core.specs.declared.signature.Constructor.{Constructor}
use Rattle.tf_core.specs.declared.signature.Symbol.{Symbol}
use Rattle.tf_core.specs.declared.signature.Signature.{Signature}
use Rattle.tf_core.specs.Structures.{Typed, member_count, AreArguments, IsStructure}

-- an element for each argument of the f-th symbol
pub record AreElementsFor (signature : List FofSymbol) (s : Untyped) (f : ℕ) (elements : List ℕ) :
    Type 0 where
  pub symbol : FofSymbol
  pub at : slice_get signature f ≡ Some symbol
  pub below : EachBelow (replicate symbol.arity s.size) elements

-- a member for each argument of the c-th constructor
pub record AreMembersFor (g : Signature) (s : Typed) (c : ℕ) (members : List ℕ) : Type 0 where
  pub constructor : Constructor
  pub at : slice_get g.constructors c ≡ Some constructor
  pub below : EachBelow (replicate constructor.arity (member_count s)) members

-- a member for each parameter of the f-th symbol, and an element for each argument
pub record AreArgumentsFor (g : Signature) (s : Typed) (f : ℕ) (members elements : List ℕ) :
    Type 0 where
  pub symbol : Symbol
  pub at : slice_get g.symbols f ≡ Some symbol
  pub arguments : AreArguments s symbol members elements

-- a structure that fits a signature, with these sizes, whose members can be counted in 32 bits
pub record IsSized (g : Signature) (s : Typed) (sizes : List ℕ) : Type 0 where
  pub fits : IsStructure g s
  pub same : sizes ≡ s.sizes
  pub few : length sizes < 2 ^ 32
