use Rattle.std.proofs.Common.{◌<◌, length, arith}
use Rattle.std.proofs.lemmas.Option.{slice_get_within}
use Rattle.enc_models.proofs.SortNumbers.{numbered-grown, numbered-reached, numbered-put}
use Rattle.enc_models.proofs.sort_numbers.SortNumbers.add.Goals as goal

pub returns : goal.returns
returns c listed once at are =
    let number : c.in_ok-id.id.index < length c.number_of.new.self =
    slice_get_within c.number_of.new.self c.in_ok-id.id.index c.args.ty.now
    c.in_ok-id.ensures.denoted in
    numbered-put c.number_of.new.self c.reach.new.numbers.items c.args.number listed c.in_ok-id.id
    c.args.ty.now c.in_ok-id.ensures.denoted
    (omega (arith, number, c.type_count.ensures, c.in_ok-reach.ensures.reached)) once at
    (numbered-reached c.number_of.new.self c.args.self.now.sorts.items c.reach.new.numbers.items
    c.args.number listed c.in_ok-reach.ensures.same
    (numbered-grown c.args.self.now.types c.number_of.new.self c.args.self.now.sorts.items
    c.args.number listed c.number_of.ensures.kept c.number_of.ensures.one_to_one are))
