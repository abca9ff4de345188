use Rattle.std.proofs.Common.{sym, ap, arith, length}
use Rattle.tptp_syntax.specs.FileSizes.{formula_nodes}
use Rattle.tf_check.specs.Formulas.{types_bound, prefix_types}
use Rattle.tf_check.proofs.PrefixCounts.{for_all_nodes, for_all_types, no_prefix}
use Rattle.tf_check.proofs.formulas.+prefix_types.Goals as goal

pub types_bound-requires : goal.types_bound-requires
types_bound-requires t c =
    omega (
      arith,
      ap length c.as_slice.ensures,
      for_all_nodes c.args.raw.now c.in-ForAll.bounds c.in-ForAll.body c.in-ForAll.is,
    )

pub prefix_types-requires : goal.prefix_types-requires
prefix_types-requires t c = (
  omega (
    arith,
    ap formula_nodes c.get.ensures,
    for_all_nodes c.args.raw.now c.in-ForAll.bounds c.in-ForAll.body c.in-ForAll.is,
  ),
  omega (
    arith,
    ap formula_nodes c.get.ensures,
    for_all_nodes c.args.raw.now c.in-ForAll.bounds c.in-ForAll.body c.in-ForAll.is,
  ),
)

pub overflow_add-result : goal.overflow_add-result
overflow_add-result t c =
    omega (
      arith,
      ap length c.as_slice.ensures,
      ap formula_nodes c.get.ensures,
      for_all_nodes c.args.raw.now c.in-ForAll.bounds c.in-ForAll.body c.in-ForAll.is,
    )

pub returns-in-ForAll : goal.returns-in-ForAll
returns-in-ForAll t c = record {
  exact = omega (
    arith,
    c.types_bound.ensures.exact,
    c.prefix_types.ensures.exact,
    ap types_bound c.as_slice.ensures,
    ap prefix_types c.get.ensures,
    for_all_types c.args.raw.now c.in-ForAll.bounds c.in-ForAll.body c.in-ForAll.is,
  );
  within = omega (
    arith,
    ap length c.as_slice.ensures,
    ap formula_nodes c.get.ensures,
    for_all_nodes c.args.raw.now c.in-ForAll.bounds c.in-ForAll.body c.in-ForAll.is,
  );
}

pub returns-in_default : goal.returns-in_default
returns-in_default t c = record {
  exact = sym (no_prefix c.args.raw.now c.in_default.not-ForAll);
  within = omega arith;
}
