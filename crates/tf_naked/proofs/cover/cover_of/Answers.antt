use Rattle.std.proofs.Common.{map, sym, ap, ◌∙◌, below_more}
use Rattle.std.specs.List.{position}
use Rattle.tf_naked.specs.Covers.{is_parameter, parameter_of}
use Rattle.tf_naked.proofs.Positions.{parameter_at, position-at, position-none}
use Rattle.tf_naked.proofs.cover.cover_of.Goals as goal

pub loop-i-preserved : goal.loop-i-preserved
loop-i-preserved c =
    below_more _ _ c.loop-i.invariant
    (ap (is_parameter c.args.parameter)
    (parameter_at c.as_slice-ty-items.result.now c.loop-i.i c.ty-item.result c.loop-i-test.true
    c.ty-item.is)
    ∙ sym c.is_that_parameter.ensures
    ∙ c.if-is_that_parameter.false)

pub returns-then-is_that_parameter : goal.returns-then-is_that_parameter
returns-then-is_that_parameter c =
    record {
      exact = sym (ap (λ xs. position (is_parameter c.args.parameter) (map parameter_of xs))
          (sym c.as_slice-ty-items.ensures)
          ∙ position-at c.args.parameter c.loop-i.i c.as_slice-ty-items.result.now c.ty-item.result
          c.loop-i-test.true c.ty-item.is
          (sym c.is_that_parameter.ensures ∙ c.if-is_that_parameter.true) c.loop-i.invariant);
    }

pub returns : goal.returns
returns c =
    record {
      exact = sym (ap (λ xs. position (is_parameter c.args.parameter) (map parameter_of xs))
          (sym c.as_slice-ty-items.ensures)
          ∙ position-none c.args.parameter c.loop-i.i c.as_slice-ty-items.result.now
          c.loop-i.auto.i-end c.loop-i-test.false c.loop-i.invariant);
    }
