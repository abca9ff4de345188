use Rattle.std.proofs.Common.{arith, ap, ◌∙◌, sym, subst, length, get_or, ◌<◌, refl}
use Rattle.tf_stamp.specs.Merged.{merged_size, member_in}
use Rattle.enc_models.proofs.Numbers.{number_below, members-step, members-fit, members_placed}
use Rattle.enc_models.proofs.merging.Merging.place_of_members.Goals as goal

pub overflow_mul-at : goal.overflow_mul-at
overflow_mul-at g c =
    rw c.as_slice-count.ensures
    (omega (
      arith,
      c.requires.entries,
      members-fit c.args.self.now.model.now.sizes c.args.values.now c.requires.numbers
          c.loop-value.value-index c.loop-value.at
          (member_in c.args.self.now.model.now.sizes
          (get_or c.args.values.now c.loop-value.value-index 0)) c.loop-value-test.true refl
          c.loop-value.invariant,
    ))

pub member_of-requires : goal.member_of-requires
member_of-requires g c =
    record {
      number = subst
          (λ sizes. get_or c.args.values.now c.loop-value.value-index 0 < merged_size sizes)
          (sym c.requires.ready.stamped_is)
          (number_below c.args.self.now.model.now.sizes (length c.args.values.now)
          c.loop-value.value-index c.args.values.now c.requires.numbers c.loop-value-test.true);
    }

pub overflow_add-at : goal.overflow_add-at
overflow_add-at g c =
    rw c.as_slice-count.ensures
    (omega (
      arith,
      c.requires.entries,
      members-fit c.args.self.now.model.now.sizes c.args.values.now c.requires.numbers
          c.loop-value.value-index c.loop-value.at c.member_of.result c.loop-value-test.true
          (c.member_of.ensures.exact
          ∙ ap (λ sizes. member_in sizes (get_or c.args.values.now c.loop-value.value-index 0))
          c.requires.ready.stamped_is)
          c.loop-value.invariant,
    ))

pub loop-value-preserved : goal.loop-value-preserved
loop-value-preserved g c =
    rw c.as_slice-count.ensures
    (members-step c.args.self.now.model.now.sizes c.args.values.now c.requires.numbers
    c.loop-value.value-index c.loop-value.at c.member_of.result c.loop-value-test.true
    (c.member_of.ensures.exact
    ∙ ap (λ sizes. member_in sizes (get_or c.args.values.now c.loop-value.value-index 0))
    c.requires.ready.stamped_is)
    c.loop-value.invariant)

pub returns : goal.returns
returns g c =
    record {
      exact = members_placed c.args.self.now.model.now.sizes c.args.values.now c.requires.numbers
          c.loop-value.value-index c.loop-value.at (omega (arith, c.loop-value-test.false))
          c.loop-value.invariant;
    }
