use Rattle.std.proofs.Common.{◌≡◌, take, true, false}
use Rattle.enc_base.specs.Quantifiers.{all_below, some_below}
use Rattle.tf_models.specs.Evaluation.{true_with, all_true, some_true}
use Rattle.tf_models.proofs.structure.TypedStructure.+holds.Given as goal

abbrev pub invariant-all_hold-loop-part : goal.invariant-all_hold-loop-part
invariant-all_hold-loop-part l = record {
  kept : l.env ≡ l.initial.env;
  so_far : all_true l.signature l.self l.initial.env (take l.part-index l.parts) ≡ true;
}

abbrev pub invariant-some_holds-loop-part : goal.invariant-some_holds-loop-part
invariant-some_holds-loop-part l = record {
  kept : l.env ≡ l.initial.env;
  so_far : some_true l.signature l.self l.initial.env (take l.part-index l.parts) ≡ false;
}

abbrev pub invariant-holds_of_each-loop-element : goal.invariant-holds_of_each-loop-element
invariant-holds_of_each-loop-element l = record {
  kept : l.env ≡ l.initial.env;
  so_far : all_below l.element (true_with l.signature l.self l.initial.env l.body) ≡ true;
}

abbrev pub invariant-holds_of_some-loop-element : goal.invariant-holds_of_some-loop-element
invariant-holds_of_some-loop-element l = record {
  kept : l.env ≡ l.initial.env;
  so_far : some_below l.element (true_with l.signature l.self l.initial.env l.body) ≡ false;
}
