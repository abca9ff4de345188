use Rattle.std.proofs.Common.{◌≡◌, ◌≤◌, List, [], map, length, refl, ◌∙◌, sym, ap, arith, take}
use Rattle.std.proofs.lemmas.List.{take_all}
use Rattle.tf_types.specs.declared.node.TypeId.{TypeId}
use Rattle.tf_types.specs.Numbers.{AreNumbers, IsNumber, type_at}
use Rattle.tf_types.proofs.Numbers.{AreNumbers-extended}
use Rattle.tf_check.proofs.NumberLemmas.{numbers_next}
use Rattle.tf_check.proofs.ScopedLemmas.{Keeps-itself, Keeps-twice, all_push}
use Rattle.tf_check.proofs.numbers.numbers_of.Goals as goal

pub loop-ty-init : goal.loop-ty-init
loop-ty-init c =
    rw c.new-numbers.ensures
    (record { exact = refl; numbers = tt; kept = Keeps-itself c.args.scope.now })

pub loop-ty-preserved : goal.loop-ty-preserved
loop-ty-preserved c =
    let old = c.loop-ty.scope.types in
    let new = c.number_of.new.self.types in
    let grows = c.in_ok-number_of.ensures.kept.grows.types in
    rw c.in_ok-push.ensures.ok
    (record {
      exact = numbers_next old new c.args.types.now c.loop-ty.numbers c.in_ok-number_of.field-0
          c.loop-ty.ty-index c.ty-item.result grows c.loop-ty.invariant.numbers
          c.loop-ty.invariant.exact c.loop-ty-test.true c.ty-item.is c.in_ok-number_of.ensures.exact;
      numbers = all_push (IsNumber new) c.loop-ty.numbers c.in_ok-number_of.field-0
          (AreNumbers-extended old new grows c.loop-ty.numbers c.loop-ty.invariant.numbers)
          c.in_ok-number_of.ensures.number;
      kept = Keeps-twice c.args.scope.now c.loop-ty.scope c.number_of.new.self
          c.loop-ty.invariant.kept c.in_ok-number_of.ensures.kept;
    })

pub returns-clause-exact : goal.returns-clause-exact
returns-clause-exact c =
    let past : length c.args.types.now ≤ c.loop-ty.ty-index = omega arith in
    c.loop-ty.invariant.exact ∙ take_all c.loop-ty.ty-index c.args.types.now past
