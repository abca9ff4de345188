use Rattle.std.proofs.Common.{◌≡◌, ◌+◌, ◌-◌, ◌<◌, length, drop, sym, ap, ◌∙◌, arith}
use Rattle.tf_check.specs.Scope.{Scope}
use Rattle.tf_check.specs.Bound.{Scoped}
use Rattle.tf_check.proofs.ScopeLemmas.{cut_next, length-drop_one}
use Rattle.tf_check.proofs.scope.Scope.cut.Goals as goal

pub loop-self-preserved : goal.loop-self-preserved
loop-self-preserved c =
    let some : 0 < length c.loop-self.self.names = omega (arith, c.loop-self-test.true, c.len.ensures) in
    let less = ap (λ (s : Scoped). s.names) c.unbind.ensures in
    let size : length c.unbind.new.self.names + 1 ≡ length c.loop-self.self.names =
    ap (λ (s : Scope). length s + 1) less ∙ length-drop_one c.loop-self.self.names some in
    let names = cut_next c.args.self.now.names c.loop-self.self.names c.unbind.new.self.names
    c.loop-self.invariant.fewer some
    (ap (λ (s : Scoped). s.names) c.loop-self.invariant.left) less size in
    record {
      fewer = omega (arith, size, c.loop-self.invariant.fewer);
      more = omega (arith, size, c.loop-self.invariant.more, c.loop-self-test.true, c.len.ensures);
      left = c.unbind.ensures
          ∙ ap (λ (s : Scoped). record s { names = drop 1 c.loop-self.self.names })
          c.loop-self.invariant.left
          ∙ ap (λ (names : Scope). record c.args.self.now { names = names }) (sym less ∙ names);
    }
