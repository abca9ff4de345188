use Rattle.std.proofs.Common.{arith, refl, ap, ◌∙◌, sym, subst, ◌<◌, get_or}
use Rattle.tf_stamp.specs.Merged.{merged_size, member_in}
use Rattle.enc_models.proofs.Numbers.{place_within, told_number, told-step, told-fit, told_placed}
use Rattle.enc_models.proofs.merging.Merging.place_of_sources.Goals as goal

pub overflow_mul-at : goal.overflow_mul-at
overflow_mul-at g c =
    rw c.as_slice-count.ensures
    (omega (
      arith,
      c.requires.entries,
      told-fit c.args.self.now.model.now.sizes c.args.values.now c.args.sources.now
          c.requires.numbers c.requires.sources c.loop-source.source-index c.loop-source.at
          (member_in c.args.self.now.model.now.sizes
          (get_or c.args.values.now (get_or c.args.sources.now c.loop-source.source-index 0) 0))
          c.loop-source-test.true refl c.loop-source.invariant,
    ))

pub offset_bounds-values-source : goal.offset_bounds-values-source
offset_bounds-values-source g c =
    omega (
      arith,
      place_within c.args.self.now.model.now.sizes c.args.values.now c.args.sources.now
          c.requires.numbers c.requires.sources c.loop-source.source-index c.loop-source-test.true,
    )

pub bounds-values-source : goal.bounds-values-source
bounds-values-source g c =
    place_within c.args.self.now.model.now.sizes c.args.values.now c.args.sources.now
    c.requires.numbers c.requires.sources c.loop-source.source-index c.loop-source-test.true

pub member_of-requires : goal.member_of-requires
member_of-requires g c =
    record {
      number = subst
          (λ sizes. get_or c.args.values.now
          (get_or c.args.sources.now c.loop-source.source-index 0) 0 < merged_size sizes)
          (sym c.requires.ready.stamped_is)
          (told_number c.args.self.now.model.now.sizes c.args.values.now c.args.sources.now
          c.requires.numbers c.requires.sources c.loop-source.source-index
          c.loop-source-test.true);
    }

pub overflow_add-at : goal.overflow_add-at
overflow_add-at g c =
    rw c.as_slice-count.ensures
    (omega (
      arith,
      c.requires.entries,
      told-fit c.args.self.now.model.now.sizes c.args.values.now c.args.sources.now
          c.requires.numbers c.requires.sources c.loop-source.source-index c.loop-source.at
          c.member_of.result c.loop-source-test.true
          (c.member_of.ensures.exact
          ∙ ap (λ sizes. member_in sizes (get_or c.args.values.now
          (get_or c.args.sources.now c.loop-source.source-index 0) 0))
          c.requires.ready.stamped_is)
          c.loop-source.invariant,
    ))

pub loop-source-preserved : goal.loop-source-preserved
loop-source-preserved g c =
    rw c.as_slice-count.ensures
    (told-step c.args.self.now.model.now.sizes c.args.values.now c.args.sources.now
    c.requires.numbers c.requires.sources c.loop-source.source-index c.loop-source.at
    c.member_of.result c.loop-source-test.true
    (c.member_of.ensures.exact
    ∙ ap (λ sizes. member_in sizes (get_or c.args.values.now
    (get_or c.args.sources.now c.loop-source.source-index 0) 0))
    c.requires.ready.stamped_is)
    c.loop-source.invariant)

pub returns : goal.returns
returns g c =
    record {
      exact = told_placed c.args.self.now.model.now.sizes c.args.values.now c.args.sources.now
          c.requires.numbers c.requires.sources c.loop-source.source-index c.loop-source.at
          (omega (arith, c.loop-source-test.false)) c.loop-source.invariant;
    }
