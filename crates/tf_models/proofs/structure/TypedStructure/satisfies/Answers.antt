use Rattle.std.proofs.Common.{ap, refl, ◌∙◌}
use Rattle.std.proofs.lemmas.Bool.{false≢true}
use Rattle.tf_models.specs.Assignment.{Assignment}
use Rattle.tf_models.proofs.Satisfied.{searched_none, searched_typed, truth_is, searched_used, searched_more, searched_all, searched_below, searched_next, searched_last, searched_smaller, not_satisfied}
use Rattle.tf_models.proofs.structure.TypedStructure.satisfies.Goals as goal

pub loop-env-init : goal.loop-env-init
loop-env-init c = rw c.first_types.ensures.exact
    (record {
      kept = refl;
      searched = searched_none c.args.signature.now c.args.self.now c.args.stated.now
          c.requires.ready.well_formed.structure.some;
    })

pub holds-requires-clause-formula : goal.holds-requires-clause-formula
holds-requires-clause-formula c =
    searched_typed c.args.signature.now c.args.self.now c.args.stated.now
    c.requires.ready.well_formed.structure.some c.loop-env.env
    (ap (λ env. env.elements) c.loop-env.invariant.kept ∙ c.requires.elements) c.requires.typed
    c.loop-env.invariant.searched

pub next_types-requires : goal.next_types-requires
next_types-requires c =
    rw (c.holds.ensures.kept, c.as_slice.ensures)
    (record {
      used = searched_used c.args.signature.now c.args.self.now c.args.stated.now
          c.requires.ready.well_formed.structure.some c.loop-env.env.members
          c.loop-env.invariant.searched c.used_types-used.result c.used_types-used.ensures.exact;
      below = searched_below c.args.signature.now c.args.self.now c.args.stated.now
          c.requires.ready.well_formed.structure.some c.loop-env.env.members
          c.loop-env.invariant.searched;
    })

pub returns-then-not-next_types-clause-exact : goal.returns-then-not-next_types-clause-exact
returns-then-not-next_types-clause-exact c = (
  λ _.
      searched_all c.args.signature.now c.args.self.now c.args.stated.now
      c.requires.ready.well_formed.structure.some c.loop-env.env.members
      c.loop-env.invariant.searched
      (truth_is c.args.signature.now c.args.self.now c.args.stated.now c.loop-env.env c.holds.result
      (ap (λ env. env.elements) c.loop-env.invariant.kept ∙ c.requires.elements)
      c.holds.ensures.exact
      ∙ c.loop-env-test.true)
      (searched_last c.args.signature.now c.args.self.now c.args.stated.now
      c.requires.ready.well_formed.structure.some c.loop-env.env.members
      c.loop-env.invariant.searched
      (rw (c.as_slice.ensures, c.holds.ensures.kept) at
      (c.next_types.ensures.last c.if-not-next_types.true))),
  λ _. refl,
)

pub loop-env-smaller : goal.loop-env-smaller
loop-env-smaller c =
    searched_smaller c.args.signature.now c.args.self.now c.args.stated.now
    c.requires.ready.well_formed.structure.some c.loop-env.env.members
    c.loop-env.invariant.searched c.next_types.new.self.members
    (searched_next c.args.signature.now c.args.self.now c.args.stated.now
    c.requires.ready.well_formed.structure.some c.loop-env.env.members
    c.loop-env.invariant.searched c.next_types.new.self.members
    (rw (c.as_slice.ensures, c.holds.ensures.kept) at
    (c.next_types.ensures.next c.if-not-next_types.false)))

pub loop-env-preserved : goal.loop-env-preserved
loop-env-preserved c = record {
  kept =
      c.next_types.ensures.kept
      ∙ ap (λ (env : Assignment). record env { members = c.next_types.new.self.members })
      (c.holds.ensures.kept ∙ c.loop-env.invariant.kept);
  searched =
      searched_more c.args.signature.now c.args.self.now c.args.stated.now
      c.requires.ready.well_formed.structure.some c.loop-env.env.members
      c.loop-env.invariant.searched c.next_types.new.self.members
      (truth_is c.args.signature.now c.args.self.now c.args.stated.now c.loop-env.env c.holds.result
      (ap (λ env. env.elements) c.loop-env.invariant.kept ∙ c.requires.elements)
      c.holds.ensures.exact
      ∙ c.loop-env-test.true)
      (searched_next c.args.signature.now c.args.self.now c.args.stated.now
      c.requires.ready.well_formed.structure.some c.loop-env.env.members
      c.loop-env.invariant.searched c.next_types.new.self.members
      (rw (c.as_slice.ensures, c.holds.ensures.kept) at
      (c.next_types.ensures.next c.if-not-next_types.false)));
}

pub returns-clause-exact : goal.returns-clause-exact
returns-clause-exact c = (
  λ never. absurd (false≢true never),
  λ satisfied.
      absurd (not_satisfied c.args.signature.now c.args.self.now c.args.stated.now
      c.requires.ready.well_formed.structure.some c.loop-env.env.members
      c.loop-env.invariant.searched
      (truth_is c.args.signature.now c.args.self.now c.args.stated.now c.loop-env.env c.holds.result
      (ap (λ env. env.elements) c.loop-env.invariant.kept ∙ c.requires.elements)
      c.holds.ensures.exact
      ∙ c.loop-env-test.false) satisfied),
)
