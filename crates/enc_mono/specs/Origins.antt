-- What a symbol instance is of.
use Rattle.std.specs.Prelude.{ℕ, ◌≡◌, length, slice_get, Some}
use Rattle.tf_core.specs.declared.signature.Symbol.{Symbol}
use Rattle.tf_core.specs.declared.signature.Signature.{Signature}
use Rattle.tf_core.specs.Typing.{AreTypes}
use Rattle.enc_mono.specs.declared.instances.Origin.{Origin}

-- a symbol of the signature, with a type that is formed from so many variables for each parameter
pub record IsOriginOf (g : Signature) (variables : ℕ) (origin : Origin) : Type 0 where
  pub declared : Symbol
  pub at : slice_get g.symbols origin.symbol ≡ Some declared
  pub count : length origin.types ≡ declared.parameters
  pub formed : AreTypes g variables origin.types
