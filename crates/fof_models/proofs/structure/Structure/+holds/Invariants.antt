use Rattle.std.proofs.Common.{◌≡◌, take, true, false}
use Rattle.fof_models.specs.Evaluation.{all_true, some_true}
use Rattle.fof_models.proofs.Searching.{IsSearching, left}
use Rattle.fof_models.proofs.structure.Structure.+holds.Given as goal

abbrev pub invariant-all_hold-loop-part : goal.invariant-all_hold-loop-part
invariant-all_hold-loop-part l = record {
  kept : l.env ≡ l.initial.env;
  so_far : all_true l.self l.initial.env.items (take l.part-index l.parts) ≡ true;
}

abbrev pub invariant-some_holds-loop-part : goal.invariant-some_holds-loop-part
invariant-some_holds-loop-part l = record {
  kept : l.env ≡ l.initial.env;
  so_far : some_true l.self l.initial.env.items (take l.part-index l.parts) ≡ false;
}

abbrev pub invariant-is_each-loop-env : goal.invariant-is_each-loop-env
invariant-is_each-loop-env l = record {
  room : l.env.room ≡ l.fn.env.room;
  searching : IsSearching l.self l.body l.value l.count l.fn.env.items l.env.items;
}

abbrev pub decreases-is_each-loop-env : goal.decreases-is_each-loop-env
decreases-is_each-loop-env l = left l.self.size l.count l.fn.env.items l.env.items
