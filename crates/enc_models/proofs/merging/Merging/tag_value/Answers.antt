use Rattle.enc_models.proofs.Numbers.{element_small}
use Rattle.enc_models.proofs.merging.Merging.tag_value.Goals as goal

pub stamp-requires-clause-element : goal.stamp-requires-clause-element
stamp-requires-clause-element g c =
    rw (c.element_in-element.ensures.exact, c.requires.ready.stamped_is)
    (element_small c.args.self.now.model.now.sizes c.args.v c.member_of-member.result
    c.requires.number (rw c.requires.ready.stamped_is at c.member_of-member.ensures.within)
    (c.requires.ready.ready.well_formed.structure.inhabited c.member_of-member.result
    (rw c.requires.ready.stamped_is at c.member_of-member.ensures.within)))
