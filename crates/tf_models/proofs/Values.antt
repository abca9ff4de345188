-- The values of well-typed terms are elements of their types' members.
pub use Rattle.tf_core.specs.Laws.{context_sizes}
pub use Rattle.tf_core.proofs.Values.{symbol_typed, types_below, sizes-instantiate, value_below, values_below}
