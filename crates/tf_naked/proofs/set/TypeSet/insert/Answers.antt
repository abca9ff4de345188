use Rattle.std.proofs.Common.{◌<◌, length, arith}
use Rattle.std.proofs.lemmas.Option.{slice_get_within}
use Rattle.tf_naked.proofs.Sets.{AreMarked-grown, AreMarked-reached, AreMarked-put}
use Rattle.tf_naked.proofs.set.TypeSet.insert.Goals as goal

pub returns-clause-added : goal.returns-clause-added
returns-clause-added c types is =
    let number : c.in_ok-id.id.index < length c.number_of.new.self =
    slice_get_within c.number_of.new.self c.in_ok-id.id.index c.args.ty.now
    c.in_ok-id.ensures.denoted in
    AreMarked-put c.number_of.new.self c.reach.new.marks.items types c.in_ok-id.id c.args.ty.now
    c.in_ok-id.ensures.denoted
    (omega (arith, number, c.type_count.ensures, c.in_ok-reach.ensures.reached))
    (AreMarked-reached c.number_of.new.self c.args.self.now.marks.items c.reach.new.marks.items
    types c.in_ok-reach.ensures.same
    (AreMarked-grown c.args.self.now.table c.number_of.new.self c.args.self.now.marks.items types
    c.number_of.ensures.kept c.number_of.ensures.one_to_one is))
