use Rattle.std.proofs.Common.{◌<◌, ◌+◌, length, arith}
use Rattle.std.proofs.lemmas.Option.{slice_get_within}
use Rattle.tf_naked.proofs.SortPlaces.{ArePlaces-grown, ArePlaces-reached, ArePlaces-put}
use Rattle.tf_naked.proofs.sort_table.put.Goals as goal

pub returns : goal.returns
returns c rest are =
    let number : c.in_ok-id.id.index < length c.number_of.new.self =
    slice_get_within c.number_of.new.self c.in_ok-id.id.index c.args.ty.now
    c.in_ok-id.ensures.denoted in
    ArePlaces-put c.number_of.new.self c.reach.new.places.items c.args.count c.args.i rest
    c.in_ok-id.id c.args.ty.now c.in_ok-id.ensures.denoted
    (omega (arith, number, c.type_count.ensures, c.in_ok-reach.ensures.reached))
    (ArePlaces-reached c.number_of.new.self c.args.places.now.items c.reach.new.places.items
    c.args.count (c.args.i + 1) rest c.in_ok-reach.ensures.same
    (ArePlaces-grown c.args.table.now c.number_of.new.self c.args.places.now.items c.args.count
    (c.args.i + 1) rest c.in_ok-id.ensures.kept c.in_ok-id.ensures.one_to_one are))
