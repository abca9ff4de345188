use Rattle.std.proofs.Common.{length, map, replicate, sym, ap, subst, ◌∙◌, ◌<◌}
use Rattle.enc_base.specs.Tables.{EachBelow}
use Rattle.structure_tables.specs.TypeWays.{one_at}
use Rattle.structure_tables.specs.CountedWays.{choices_of, choices_at, ways_by}
use Rattle.structure_tables.proofs.CountedWays.{first_choices, choices_below, ones_alone, counts_one}
use Rattle.structure_tables.proofs.ways.ways_of_parts.Goals as goal

pub choose-requires-clause-within : goal.choose-requires-clause-within
choose-requires-clause-within g c =
    subst (EachBelow (map (choices_of c.args.members) c.args.parts.now))
    (sym (c.as_slice.ensures.value ∙ c.in_ok-numbers.ensures))
    (first_choices c.args.members c.args.parts.now c.requires.some)

pub at-requires : goal.at-requires
at-requires g c =
    let parts = c.args.parts.now in
    c.requires.defined c.as_slice-then-are_one.result.now
    (subst (EachBelow (replicate (length parts) c.args.members))
    (sym (c.as_slice-then-are_one.ensures.value ∙ c.in_ok-choose.ensures.chosen
    ∙ ap (choices_at parts) (c.as_slice.ensures.value ∙ c.in_ok-numbers.ensures)))
    (choices_below c.args.members parts (replicate (length parts) 0) c.requires.fit
    (first_choices c.args.members parts c.requires.some)))

pub returns-then-are_one : goal.returns-then-are_one
returns-then-are_one g c =
    let members = c.args.members in
    let parts = c.args.parts.now in
    let f = g.F.TupleFunction.gives c.args.function.now in
    let is = c.at.ensures
    ∙ ap f (c.as_slice-then-are_one.ensures.value ∙ c.in_ok-choose.ensures.chosen
    ∙ ap (choices_at parts) (c.as_slice.ensures.value ∙ c.in_ok-numbers.ensures)) in
    counts_one members c.at.result (ways_by f members parts)
    (subst (λ n. n < members) (sym is)
    (c.requires.below (choices_at parts (replicate (length parts) 0))
    (choices_below members parts (replicate (length parts) 0) c.requires.fit
    (first_choices members parts c.requires.some))))
    (λ member. ones_alone members parts (λ values. one_at (f values) member)
    (c.are_one.ensures c.if-are_one.true)
    ∙ ap (λ n. one_at n member) (sym is))
