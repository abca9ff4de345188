-- Small signatures whose tables are read by tests.
use Rattle.std.specs.Prelude.{ℕ, List, [], ◌∷◌, None}
use Rattle.tf_core.specs.declared.ty.Ty.TheVariants as type
use Rattle.tf_core.specs.declared.signature.Constructor.{Constructor}
use Rattle.tf_core.specs.declared.signature.Symbol.{Symbol}
use Rattle.tf_core.specs.declared.signature.Signature.{Signature}
use Rattle.tf_core.specs.Sound.{individuals}

-- `$i` alone
abbrev pub individuals_alone : Signature
individuals_alone = record { constructors = individuals ∷ []; symbols = [] }

abbrev pub constant_type : List ℕ → Constructor
constant_type name = record { name = name; arity = 0 }

-- a predicate of one argument, of a type without arguments
abbrev pub predicate_of : List ℕ → ℕ → Symbol
predicate_of name c = record {
  name = name;
  parameters = 0;
  arguments = type.Apply c [] ∷ [];
  result = None;
}

-- types `a`, `b` and `e`, a predicate `q` of `b` and a predicate `r` of `e`
abbrev pub three_types : Signature
three_types = record {
  constructors =
      individuals ∷ constant_type (97 ∷ []) ∷ constant_type (98 ∷ []) ∷ constant_type (101 ∷ []) ∷ [];
  symbols = predicate_of (113 ∷ []) 2 ∷ predicate_of (114 ∷ []) 3 ∷ [];
}
