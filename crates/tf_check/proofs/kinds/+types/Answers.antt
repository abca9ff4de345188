use Rattle.std.proofs.Common.{List, ◌≡◌, ◌+◌, map, sum, sym, refl, ap, ◌∙◌, arith}
use Rattle.std.proofs.Math.Facts.{Fits-of_lt}
use Rattle.tptp_syntax.specs.declared.types.TypeExpr.{TypeExpr}
use Rattle.tptp_syntax.specs.FileSizes.{type_nodes}
use Rattle.tf_check.proofs.KindLemmas.{kind-types, kind-product, type_nodes-types, type_nodes-product}
use Rattle.tf_check.proofs.KindDefaults.{types-other}
use Rattle.tf_check.proofs.KindSteps.{sum_within, sum_next, some_within, joined_next, joined_break}
use Rattle.tf_check.proofs.Variants.{variant}
use Rattle.tf_check.proofs.kinds.+types.Goals as goal

pub types-types_of_all-requires : goal.types-types_of_all-requires
types-types_of_all-requires t c =
    let size : type_nodes c.args.expression.now ≡ 1 + sum (map type_nodes c.in-Product.parts) =
    ap type_nodes c.in-Product.is ∙ type_nodes-product c.in-Product.parts in
    let same = ap (λ (xs : List TypeExpr). sum (map type_nodes xs)) c.as_slice.ensures in
    (omega (arith, size, same), omega (arith, size, same, c.requires))

pub types-returns-in-Types-clause-exact : goal.types-returns-in-Types-clause-exact
types-returns-in-Types-clause-exact t c = rw (c.in-Types.is, kind-types) refl

pub types-returns-in-Types-clause-within : goal.types-returns-in-Types-clause-within
types-returns-in-Types-clause-within t c = rw (c.in-Types.is, type_nodes-types) (omega arith)

pub types-returns-in-Product-clause-exact : goal.types-returns-in-Product-clause-exact
types-returns-in-Product-clause-exact t c =
    rw (c.in-Product.is, kind-product c.in-Product.parts)
    (rw c.as_slice.ensures at c.types_of_all.ensures.exact)

pub types-returns-in-Product-clause-within : goal.types-returns-in-Product-clause-within
types-returns-in-Product-clause-within t c =
    let size : type_nodes c.args.expression.now ≡ 1 + sum (map type_nodes c.in-Product.parts) =
    ap type_nodes c.in-Product.is ∙ type_nodes-product c.in-Product.parts in
    some_within c.types_of_all.result (sum (map type_nodes c.as_slice.result.now))
    (type_nodes c.args.expression.now) c.types_of_all.ensures.within
    (rw c.as_slice.ensures (omega (arith, size)))

pub types-returns-in_default : goal.types-returns-in_default
types-returns-in_default t c =
    record {
      exact = sym (types-other c.args.expression.now (variant c.args.expression.now)
          c.in_default.not-Types
          c.in_default.not-Product);
      within = tt;
    }

pub types_of_all-types-requires : goal.types_of_all-types-requires
types_of_all-types-requires t c =
    let below = sum_within type_nodes c.args.parts.now c.loop-part.part-index c.part-item.result
    c.loop-part-test.true c.part-item.is in
    (omega (arith, below), omega (arith, below, c.requires))

pub types_of_all-returns-in_err-count-clause-exact :
    goal.types_of_all-returns-in_err-count-clause-exact
types_of_all-returns-in_err-count-clause-exact t c =
    c.from_residual.ensures
    ∙ sym (joined_break c.args.parts.now c.loop-part.part-index c.part-item.result
    c.loop-part-test.true c.part-item.is (sym c.in_err-count.ensures.exact))

pub types_of_all-overflow_add-count : goal.types_of_all-overflow_add-count
types_of_all-overflow_add-count t c =
    let below = sum_within type_nodes c.args.parts.now c.loop-part.part-index c.part-item.result
    c.loop-part-test.true c.part-item.is in
    Fits-of_lt (omega (
      arith,
      below,
      c.requires,
      c.loop-part.invariant.within,
      c.in_ok-count.ensures.within,
    ))

pub types_of_all-loop-part-preserved : goal.types_of_all-loop-part-preserved
types_of_all-loop-part-preserved t c =
    let next = sum_next type_nodes c.args.parts.now c.loop-part.part-index c.part-item.result
    c.loop-part-test.true c.part-item.is in
    record {
      done = joined_next c.args.parts.now c.loop-part.part-index c.part-item.result
          c.loop-part.count
          c.in_ok-count.field-0 c.loop-part-test.true c.part-item.is c.loop-part.invariant.done
          (sym c.in_ok-count.ensures.exact);
      within = omega (arith, next, c.loop-part.invariant.within, c.in_ok-count.ensures.within);
    }
