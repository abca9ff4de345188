use Rattle.tf_types.proofs.Added.{added, added_kept, added_given, added_instances, added_ground}
use Rattle.tf_types.proofs.table.TypeTable.insert.Goals as goal

pub invariant_of-self-2 : goal.invariant_of-self-2
invariant_of-self-2 c = record {
  numbered = (added c.self.inside.nodes.keys c.insert_full.new.self.keys c.args.self.now c.args.node
      c.self.view_is c.self.invariant.numbered c.requires c.in_ok-index.ensures.keys).numbered;
  instances = added_instances c.self.inside.nodes.keys c.insert_full.new.self.keys c.args.self.now
      c.args.node c.self.view_is c.self.invariant.numbered c.requires c.in_ok-index.ensures.keys
      c.self.inside.instances.entries c.self.invariant.instances;
  ground = added_ground c.self.inside.nodes.keys c.insert_full.new.self.keys c.args.self.now
      c.args.node c.self.view_is c.self.invariant.numbered c.requires c.in_ok-index.ensures.keys
      c.self.inside.ground.items c.self.invariant.ground;
}

pub returns-clause-denoted : goal.returns-clause-denoted
returns-clause-denoted c =
    added_given c.self.inside.nodes.keys c.insert_full.new.self.keys c.args.self.now c.args.node
    c.self.view_is c.self.invariant.numbered c.requires c.in_ok-index.ensures.keys
    c.in_ok-index.index c.in_ok-index.ensures.stored

pub returns-clause-kept : goal.returns-clause-kept
returns-clause-kept c =
    added_kept c.self.inside.nodes.keys c.insert_full.new.self.keys c.args.self.now c.args.node
    c.self.view_is c.self.invariant.numbered c.requires c.in_ok-index.ensures.keys

pub returns-clause-one_to_one : goal.returns-clause-one_to_one
returns-clause-one_to_one c =
    let new = added c.self.inside.nodes.keys c.insert_full.new.self.keys c.args.self.now c.args.node
    c.self.view_is c.self.invariant.numbered c.requires c.in_ok-index.ensures.keys in
    new.numbered.one_to_one
