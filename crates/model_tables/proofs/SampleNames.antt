-- The small signatures are well typed, and their names differ.
use Rattle.std.proofs.Common.{◌≡◌, ℕ, [], ◌∷◌, Some, slice_get, refl, arith}
use Rattle.tf_core.specs.declared.ty.Ty.TheVariants as type
use Rattle.tf_core.specs.declared.signature.Constructor.{Constructor}
use Rattle.tf_core.specs.Typing.{IsSignature, IsSymbol, IsType, type_apply, no_types, more_types}
use Rattle.tf_models.specs.Samples.{signature}
use Rattle.model_tables.specs.TypedLaws.{HasNames}
use Rattle.model_tables.specs.Samples.{individuals_alone, constant_type, three_types}

pub alone_typed : IsSignature individuals_alone
alone_typed = tt

pub alone_named : HasNames individuals_alone
alone_named = record {
  some = omega arith;
  constructors_differ = (omega arith, tt);
  symbols_differ = tt;
}

formed : (c : ℕ) (constructor : Constructor) → slice_get three_types.constructors c ≡ Some constructor
    → 0 ≡ constructor.arity → IsType three_types 0 (type.Apply c [])
formed c constructor at none = type_apply c constructor [] at none no_types

pub three_types_typed : IsSignature three_types
three_types_typed = (
  record { arguments = more_types (type.Apply 2 []) [] (formed 2 (constant_type (98 ∷ [])) refl refl) no_types; result = tt },
  (
    record { arguments = more_types (type.Apply 3 []) [] (formed 3 (constant_type (101 ∷ [])) refl refl) no_types; result = tt },
    tt,
  ),
)

pub three_types_named : HasNames three_types
three_types_named = record {
  some = omega arith;
  constructors_differ = (omega arith, (omega arith, (omega arith, (omega arith, tt))));
  symbols_differ = (omega arith, (omega arith, tt));
}

pub sample_named : HasNames signature
sample_named = record {
  some = omega arith;
  constructors_differ = (omega arith, (omega arith, tt));
  symbols_differ = (omega arith, (omega arith, (omega arith, tt)));
}
