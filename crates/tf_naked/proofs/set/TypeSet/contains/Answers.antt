use Rattle.std.proofs.Common.{subst, sym}
use Rattle.std.proofs.lemmas.List.{append-nil}
use Rattle.tf_naked.specs.Calls.Sets.{AreMarked}
use Rattle.tf_naked.proofs.Sets.{AreMarked-grown}
use Rattle.tf_naked.proofs.set.TypeSet.contains.Goals as goal

pub returns-clause-kept : goal.returns-clause-kept
returns-clause-kept c types is =
    subst (AreMarked c.number_of.new.self c.args.self.now.marks.items) (sym (append-nil types))
    (AreMarked-grown c.args.self.now.table c.number_of.new.self c.args.self.now.marks.items types
    c.number_of.ensures.kept c.number_of.ensures.one_to_one is)
