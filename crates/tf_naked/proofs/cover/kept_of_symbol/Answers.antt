use Rattle.std.proofs.Common.{false, drop, map, ◌+◌, ◌∙◌, sym, ap}
use Rattle.tf_naked.specs.Covers.{parameter_of}
use Rattle.tf_naked.specs.Calls.Flags.{all_flagged}
use Rattle.tf_naked.proofs.Flags.{all_flagged-step, all_flagged-end, all_flagged-kept_parameters}
use Rattle.tf_naked.proofs.cover.kept_of_symbol.Goals as goal

pub loop-ty-preserved : goal.loop-ty-preserved
loop-ty-preserved c =
    ap (λ flags. all_flagged false flags
    (map parameter_of (drop (c.loop-ty.ty-index + 1) c.as_slice-ty-items.result.now)))
    c.drop_parameter.ensures
    ∙ all_flagged-step c.loop-ty.kept.items c.as_slice-ty-items.result.now c.loop-ty.ty-index
    c.ty-item.result c.loop-ty-test.true c.ty-item.is
    ∙ c.loop-ty.invariant

pub returns : goal.returns
returns c =
    record {
      exact = c.from_vec.ensures
          ∙ sym (all_flagged-end c.loop-ty.kept.items c.as_slice-ty-items.result.now
          c.loop-ty.ty-index c.loop-ty-test.false)
          ∙ c.loop-ty.invariant
          ∙ ap (λ xs. all_flagged false c.in_ok-kept.kept.items (map parameter_of xs))
          c.as_slice-ty-items.ensures
          ∙ all_flagged-kept_parameters c.args.symbol.now c.in_ok-kept.kept.items
          c.in_ok-kept.ensures;
    }
