use Rattle.std.proofs.Common.{◌≡◌, ◌∙◌, sym, true, subst}
use Rattle.std.specs.List.{All}
use Rattle.std.proofs.lemmas.List.{take_all}
use Rattle.std.proofs.lemmas.List.Elements.{All-more}
use Rattle.structure_tables.specs.CountedWays.{is_one}
use Rattle.structure_tables.proofs.ways.are_one.Goals as goal

pub loop-part-preserved : goal.loop-part-preserved
loop-part-preserved c =
    All-more (λ part. is_one part ≡ true) c.args.parts.now c.loop-part.part-index c.part-item.result
    c.loop-part-test.true c.loop-part.invariant
    (subst (λ part. is_one part ≡ true) c.part-item.is
    (sym c.is_one.ensures ∙ c.if-not-is_one.false))

pub returns : goal.returns
returns c _ =
    subst (All (λ part. is_one part ≡ true)) (take_all c.loop-part.part-index c.args.parts.now c.loop-part-test.false)
    c.loop-part.invariant
