use Rattle.std.proofs.Common.{arith, ap, ◌∙◌, ◌+◌, length, slice_index}
use Rattle.enc_models.specs.Calls.Merging.{parts_of}
use Rattle.enc_models.proofs.KeptBlocks.{mark_within, are_blocks, block_read}
use Rattle.enc_models.proofs.Symbols.{symbol_read, all_numbers, sources_within, sources_read, sources_below, arguments_within, own_behind, parameters_fit, number_within, arguments_below, own_numbers, arguments_fit, entry_inside, predicate_is, member_within, entry_below, function_is}
use Rattle.enc_models.proofs.merging.Merging.symbol_value.Goals as goal

pub bounds-self-f : goal.bounds-self-f
bounds-self-f g c =
    let given = symbol_read (parts_of g.C.Choices.choices c.args.self.now) c.args.at c.args.f
    c.args.values.now c.requires.symbol c.as_slice.result.now c.index-as_slice-f.result
    c.as_slice.ensures c.index-as_slice-f.is in
    sources_within (parts_of g.C.Choices.choices c.args.self.now) c.requires.ready c.args.at c.args.f
    c.index-as_slice-f.result c.args.values.now given

pub offset_bounds-self-f : goal.offset_bounds-self-f
offset_bounds-self-f g c =
    let given = symbol_read (parts_of g.C.Choices.choices c.args.self.now) c.args.at c.args.f
    c.args.values.now c.requires.symbol c.as_slice.result.now c.index-as_slice-f.result
    c.as_slice.ensures c.index-as_slice-f.is in
    omega (
      arith,
      sources_within (parts_of g.C.Choices.choices c.args.self.now) c.requires.ready c.args.at c.args.f
          c.index-as_slice-f.result c.args.values.now given,
    )

pub place_of_sources-number-requires-clause-sources : goal.place_of_sources-number-requires-clause-sources
place_of_sources-number-requires-clause-sources g c =
    let given = symbol_read (parts_of g.C.Choices.choices c.args.self.now) c.args.at c.args.f
    c.args.values.now c.requires.symbol c.as_slice.result.now c.index-as_slice-f.result
    c.as_slice.ensures c.index-as_slice-f.is in
    rw (sources_read (parts_of g.C.Choices.choices c.args.self.now) c.requires.ready c.args.at c.args.f
    c.index-as_slice-f.result c.args.values.now given c.as_slice-sources.result.now
    c.index-self-f.result c.as_slice-sources.ensures)
    (sources_below (parts_of g.C.Choices.choices c.args.self.now) c.requires.ready c.args.at c.args.f
    c.index-as_slice-f.result c.args.values.now given)

pub place_of_sources-number-requires-clause-numbers : goal.place_of_sources-number-requires-clause-numbers
place_of_sources-number-requires-clause-numbers g c =
    let given = symbol_read (parts_of g.C.Choices.choices c.args.self.now) c.args.at c.args.f
    c.args.values.now c.requires.symbol c.as_slice.result.now c.index-as_slice-f.result
    c.as_slice.ensures c.index-as_slice-f.is in
    all_numbers (parts_of g.C.Choices.choices c.args.self.now) c.requires.ready c.args.at c.args.f
    c.index-as_slice-f.result c.args.values.now given

pub place_of_sources-number-requires-clause-entries : goal.place_of_sources-number-requires-clause-entries
place_of_sources-number-requires-clause-entries g c =
    let given = symbol_read (parts_of g.C.Choices.choices c.args.self.now) c.args.at c.args.f
    c.args.values.now c.requires.symbol c.as_slice.result.now c.index-as_slice-f.result
    c.as_slice.ensures c.index-as_slice-f.is in
    rw (
      sources_read (parts_of g.C.Choices.choices c.args.self.now) c.requires.ready c.args.at c.args.f
          c.index-as_slice-f.result c.args.values.now given c.as_slice-sources.result.now
          c.index-self-f.result c.as_slice-sources.ensures,
      c.symbol_table-table.ensures,
    )
    (parameters_fit (parts_of g.C.Choices.choices c.args.self.now) c.requires.ready c.args.at c.args.f
    c.index-as_slice-f.result c.args.values.now given)

pub overflow_sub-values : goal.overflow_sub-values
overflow_sub-values g c =
    let given = symbol_read (parts_of g.C.Choices.choices c.args.self.now) c.args.at c.args.f
    c.args.values.now c.requires.symbol c.as_slice.result.now c.index-as_slice-f.result
    c.as_slice.ensures c.index-as_slice-f.is in
    arguments_within (parts_of g.C.Choices.choices c.args.self.now) c.requires.ready c.args.at c.args.f
    c.index-as_slice-f.result c.args.values.now given c.as_slice-3.result.now
    c.as_slice-3.ensures

pub bounds-self-at : goal.bounds-self-at
bounds-self-at g c =
    let given = symbol_read (parts_of g.C.Choices.choices c.args.self.now) c.args.at c.args.f
    c.args.values.now c.requires.symbol c.as_slice.result.now c.index-as_slice-f.result
    c.as_slice.ensures c.index-as_slice-f.is in
    mark_within (parts_of g.C.Choices.choices c.args.self.now) c.requires.ready c.args.at c.args.f
    c.index-as_slice-f.result given.marked

pub offset_bounds-as_slice-number : goal.offset_bounds-as_slice-number
offset_bounds-as_slice-number g c =
    let given = symbol_read (parts_of g.C.Choices.choices c.args.self.now) c.args.at c.args.f
    c.args.values.now c.requires.symbol c.as_slice.result.now c.index-as_slice-f.result
    c.as_slice.ensures c.index-as_slice-f.is in
    let placed = rw (sources_read (parts_of g.C.Choices.choices c.args.self.now) c.requires.ready c.args.at c.args.f
    c.index-as_slice-f.result c.args.values.now given c.as_slice-sources.result.now
    c.index-self-f.result c.as_slice-sources.ensures) at c.place_of_sources-number.ensures.exact in
    let number = c.place_of_sources-number.result in
    let within = number_within (parts_of g.C.Choices.choices c.args.self.now) c.requires.ready c.args.at c.args.f
    c.index-as_slice-f.result c.args.values.now given number placed in
    omega (
      arith,
      c.as_slice-2.type_inv,
      (are_blocks (parts_of g.C.Choices.choices c.args.self.now) c.requires.ready c.args.at c.args.f
          c.index-as_slice-f.result given.marked c.as_slice-2.result.now c.index-self-at.result
          c.as_slice-2.ensures).count,
      within,
    )

pub bounds-as_slice-number : goal.bounds-as_slice-number
bounds-as_slice-number g c =
    let given = symbol_read (parts_of g.C.Choices.choices c.args.self.now) c.args.at c.args.f
    c.args.values.now c.requires.symbol c.as_slice.result.now c.index-as_slice-f.result
    c.as_slice.ensures c.index-as_slice-f.is in
    let placed = rw (sources_read (parts_of g.C.Choices.choices c.args.self.now) c.requires.ready c.args.at c.args.f
    c.index-as_slice-f.result c.args.values.now given c.as_slice-sources.result.now
    c.index-self-f.result c.as_slice-sources.ensures) at c.place_of_sources-number.ensures.exact in
    let number = c.place_of_sources-number.result in
    let within = number_within (parts_of g.C.Choices.choices c.args.self.now) c.requires.ready c.args.at c.args.f
    c.index-as_slice-f.result c.args.values.now given number placed in
    omega (
      arith,
      (are_blocks (parts_of g.C.Choices.choices c.args.self.now) c.requires.ready c.args.at c.args.f
          c.index-as_slice-f.result given.marked c.as_slice-2.result.now c.index-self-at.result
          c.as_slice-2.ensures).count,
      within,
    )

pub place_in_block-place-requires-clause-members : goal.place_in_block-place-requires-clause-members
place_in_block-place-requires-clause-members g c =
    let given = symbol_read (parts_of g.C.Choices.choices c.args.self.now) c.args.at c.args.f
    c.args.values.now c.requires.symbol c.as_slice.result.now c.index-as_slice-f.result
    c.as_slice.ensures c.index-as_slice-f.is in
    let placed = rw (sources_read (parts_of g.C.Choices.choices c.args.self.now) c.requires.ready c.args.at c.args.f
    c.index-as_slice-f.result c.args.values.now given c.as_slice-sources.result.now
    c.index-self-f.result c.as_slice-sources.ensures) at c.place_of_sources-number.ensures.exact in
    let number = c.place_of_sources-number.result in
    let within = number_within (parts_of g.C.Choices.choices c.args.self.now) c.requires.ready c.args.at c.args.f
    c.index-as_slice-f.result c.args.values.now given number placed in
    let block = c.index-as_slice-number.result in
    let kept = block_read (parts_of g.C.Choices.choices c.args.self.now) c.requires.ready c.args.at c.args.f
    c.index-as_slice-f.result given.marked c.as_slice-2.result.now c.index-self-at.result
    c.as_slice-2.ensures number within block c.index-as_slice-number.is in
    rw c.as_slice-4.ensures (arguments_below (parts_of g.C.Choices.choices c.args.self.now) c.requires.ready c.args.at c.args.f
    c.index-as_slice-f.result c.args.values.now given number placed block kept)

pub place_in_block-place-requires-clause-numbers : goal.place_in_block-place-requires-clause-numbers
place_in_block-place-requires-clause-numbers g c =
    let given = symbol_read (parts_of g.C.Choices.choices c.args.self.now) c.args.at c.args.f
    c.args.values.now c.requires.symbol c.as_slice.result.now c.index-as_slice-f.result
    c.as_slice.ensures c.index-as_slice-f.is in
    let placed = rw (sources_read (parts_of g.C.Choices.choices c.args.self.now) c.requires.ready c.args.at c.args.f
    c.index-as_slice-f.result c.args.values.now given c.as_slice-sources.result.now
    c.index-self-f.result c.as_slice-sources.ensures) at c.place_of_sources-number.ensures.exact in
    let number = c.place_of_sources-number.result in
    let within = number_within (parts_of g.C.Choices.choices c.args.self.now) c.requires.ready c.args.at c.args.f
    c.index-as_slice-f.result c.args.values.now given number placed in
    let block = c.index-as_slice-number.result in
    let kept = block_read (parts_of g.C.Choices.choices c.args.self.now) c.requires.ready c.args.at c.args.f
    c.index-as_slice-f.result given.marked c.as_slice-2.result.now c.index-self-at.result
    c.as_slice-2.ensures number within block c.index-as_slice-number.is in
    rw (
      c.as_slice-4.ensures,
      c.split_at.ensures.back ∙ own_behind (parts_of g.C.Choices.choices c.args.self.now) c.requires.ready c.args.at c.args.f
          c.index-as_slice-f.result c.args.values.now given c.as_slice-3.result.now
          c.as_slice-3.ensures,
    ) (own_numbers (parts_of g.C.Choices.choices c.args.self.now) c.requires.ready c.args.at c.args.f
    c.index-as_slice-f.result c.args.values.now given number placed block kept)

pub place_in_block-place-requires-clause-entries : goal.place_in_block-place-requires-clause-entries
place_in_block-place-requires-clause-entries g c =
    let given = symbol_read (parts_of g.C.Choices.choices c.args.self.now) c.args.at c.args.f
    c.args.values.now c.requires.symbol c.as_slice.result.now c.index-as_slice-f.result
    c.as_slice.ensures c.index-as_slice-f.is in
    let placed = rw (sources_read (parts_of g.C.Choices.choices c.args.self.now) c.requires.ready c.args.at c.args.f
    c.index-as_slice-f.result c.args.values.now given c.as_slice-sources.result.now
    c.index-self-f.result c.as_slice-sources.ensures) at c.place_of_sources-number.ensures.exact in
    let number = c.place_of_sources-number.result in
    let within = number_within (parts_of g.C.Choices.choices c.args.self.now) c.requires.ready c.args.at c.args.f
    c.index-as_slice-f.result c.args.values.now given number placed in
    let block = c.index-as_slice-number.result in
    let kept = block_read (parts_of g.C.Choices.choices c.args.self.now) c.requires.ready c.args.at c.args.f
    c.index-as_slice-f.result given.marked c.as_slice-2.result.now c.index-self-at.result
    c.as_slice-2.ensures number within block c.index-as_slice-number.is in
    rw (c.as_slice-4.ensures, c.symbol_table-table.ensures) (arguments_fit (parts_of g.C.Choices.choices c.args.self.now) c.requires.ready c.args.at c.args.f
    c.index-as_slice-f.result c.args.values.now given number placed block kept)

pub overflow_add-entry : goal.overflow_add-entry
overflow_add-entry g c =
    let given = symbol_read (parts_of g.C.Choices.choices c.args.self.now) c.args.at c.args.f
    c.args.values.now c.requires.symbol c.as_slice.result.now c.index-as_slice-f.result
    c.as_slice.ensures c.index-as_slice-f.is in
    let placed = rw (sources_read (parts_of g.C.Choices.choices c.args.self.now) c.requires.ready c.args.at c.args.f
    c.index-as_slice-f.result c.args.values.now given c.as_slice-sources.result.now
    c.index-self-f.result c.as_slice-sources.ensures) at c.place_of_sources-number.ensures.exact in
    let number = c.place_of_sources-number.result in
    let within = number_within (parts_of g.C.Choices.choices c.args.self.now) c.requires.ready c.args.at c.args.f
    c.index-as_slice-f.result c.args.values.now given number placed in
    let block = c.index-as_slice-number.result in
    let kept = block_read (parts_of g.C.Choices.choices c.args.self.now) c.requires.ready c.args.at c.args.f
    c.index-as_slice-f.result given.marked c.as_slice-2.result.now c.index-self-at.result
    c.as_slice-2.ensures number within block c.index-as_slice-number.is in
    let stands = rw (
      c.as_slice-4.ensures,
      c.split_at.ensures.back ∙ own_behind (parts_of g.C.Choices.choices c.args.self.now) c.requires.ready c.args.at c.args.f
          c.index-as_slice-f.result c.args.values.now given c.as_slice-3.result.now
          c.as_slice-3.ensures,
    ) at c.place_in_block-place.ensures.exact in
    let at_place = c.place_in_block-place.result in
    omega (
      arith,
      c.symbol_table-table.type_inv,
      ap length c.symbol_table-table.ensures,
      entry_inside (parts_of g.C.Choices.choices c.args.self.now) c.requires.ready c.args.at c.args.f
          c.index-as_slice-f.result c.args.values.now given number placed block kept at_place stands,
    )

pub offset_bounds-table-block : goal.offset_bounds-table-block
offset_bounds-table-block g c =
    let given = symbol_read (parts_of g.C.Choices.choices c.args.self.now) c.args.at c.args.f
    c.args.values.now c.requires.symbol c.as_slice.result.now c.index-as_slice-f.result
    c.as_slice.ensures c.index-as_slice-f.is in
    let placed = rw (sources_read (parts_of g.C.Choices.choices c.args.self.now) c.requires.ready c.args.at c.args.f
    c.index-as_slice-f.result c.args.values.now given c.as_slice-sources.result.now
    c.index-self-f.result c.as_slice-sources.ensures) at c.place_of_sources-number.ensures.exact in
    let number = c.place_of_sources-number.result in
    let within = number_within (parts_of g.C.Choices.choices c.args.self.now) c.requires.ready c.args.at c.args.f
    c.index-as_slice-f.result c.args.values.now given number placed in
    let block = c.index-as_slice-number.result in
    let kept = block_read (parts_of g.C.Choices.choices c.args.self.now) c.requires.ready c.args.at c.args.f
    c.index-as_slice-f.result given.marked c.as_slice-2.result.now c.index-self-at.result
    c.as_slice-2.ensures number within block c.index-as_slice-number.is in
    let stands = rw (
      c.as_slice-4.ensures,
      c.split_at.ensures.back ∙ own_behind (parts_of g.C.Choices.choices c.args.self.now) c.requires.ready c.args.at c.args.f
          c.index-as_slice-f.result c.args.values.now given c.as_slice-3.result.now
          c.as_slice-3.ensures,
    ) at c.place_in_block-place.ensures.exact in
    let at_place = c.place_in_block-place.result in
    omega (
      arith,
      c.symbol_table-table.type_inv,
      ap length c.symbol_table-table.ensures,
      entry_inside (parts_of g.C.Choices.choices c.args.self.now) c.requires.ready c.args.at c.args.f
          c.index-as_slice-f.result c.args.values.now given number placed block kept at_place stands,
    )

pub bounds-table-block : goal.bounds-table-block
bounds-table-block g c =
    let given = symbol_read (parts_of g.C.Choices.choices c.args.self.now) c.args.at c.args.f
    c.args.values.now c.requires.symbol c.as_slice.result.now c.index-as_slice-f.result
    c.as_slice.ensures c.index-as_slice-f.is in
    let placed = rw (sources_read (parts_of g.C.Choices.choices c.args.self.now) c.requires.ready c.args.at c.args.f
    c.index-as_slice-f.result c.args.values.now given c.as_slice-sources.result.now
    c.index-self-f.result c.as_slice-sources.ensures) at c.place_of_sources-number.ensures.exact in
    let number = c.place_of_sources-number.result in
    let within = number_within (parts_of g.C.Choices.choices c.args.self.now) c.requires.ready c.args.at c.args.f
    c.index-as_slice-f.result c.args.values.now given number placed in
    let block = c.index-as_slice-number.result in
    let kept = block_read (parts_of g.C.Choices.choices c.args.self.now) c.requires.ready c.args.at c.args.f
    c.index-as_slice-f.result given.marked c.as_slice-2.result.now c.index-self-at.result
    c.as_slice-2.ensures number within block c.index-as_slice-number.is in
    let stands = rw (
      c.as_slice-4.ensures,
      c.split_at.ensures.back ∙ own_behind (parts_of g.C.Choices.choices c.args.self.now) c.requires.ready c.args.at c.args.f
          c.index-as_slice-f.result c.args.values.now given c.as_slice-3.result.now
          c.as_slice-3.ensures,
    ) at c.place_in_block-place.ensures.exact in
    let at_place = c.place_in_block-place.result in
    omega (
      arith,
      c.symbol_table-table.type_inv,
      ap length c.symbol_table-table.ensures,
      entry_inside (parts_of g.C.Choices.choices c.args.self.now) c.requires.ready c.args.at c.args.f
          c.index-as_slice-f.result c.args.values.now given number placed block kept at_place stands,
    )

pub stamp-requires-clause-member : goal.stamp-requires-clause-member
stamp-requires-clause-member g c =
    let given = symbol_read (parts_of g.C.Choices.choices c.args.self.now) c.args.at c.args.f
    c.args.values.now c.requires.symbol c.as_slice.result.now c.index-as_slice-f.result
    c.as_slice.ensures c.index-as_slice-f.is in
    let placed = rw (sources_read (parts_of g.C.Choices.choices c.args.self.now) c.requires.ready c.args.at c.args.f
    c.index-as_slice-f.result c.args.values.now given c.as_slice-sources.result.now
    c.index-self-f.result c.as_slice-sources.ensures) at c.place_of_sources-number.ensures.exact in
    let number = c.place_of_sources-number.result in
    let within = number_within (parts_of g.C.Choices.choices c.args.self.now) c.requires.ready c.args.at c.args.f
    c.index-as_slice-f.result c.args.values.now given number placed in
    let block = c.index-as_slice-number.result in
    let kept = block_read (parts_of g.C.Choices.choices c.args.self.now) c.requires.ready c.args.at c.args.f
    c.index-as_slice-f.result given.marked c.as_slice-2.result.now c.index-self-at.result
    c.as_slice-2.ensures number within block c.index-as_slice-number.is in
    let stands = rw (
      c.as_slice-4.ensures,
      c.split_at.ensures.back ∙ own_behind (parts_of g.C.Choices.choices c.args.self.now) c.requires.ready c.args.at c.args.f
          c.index-as_slice-f.result c.args.values.now given c.as_slice-3.result.now
          c.as_slice-3.ensures,
    ) at c.place_in_block-place.ensures.exact in
    let at_place = c.place_in_block-place.result in
    let entry = slice_index c.symbol_table-table.result.now (block.start + at_place) in
    let read = ap (λ table. slice_index table (block.start + at_place)) c.symbol_table-table.ensures in
    rw c.requires.ready.stamped_is (member_within (parts_of g.C.Choices.choices c.args.self.now) c.requires.ready c.args.at c.args.f
    c.index-as_slice-f.result c.args.values.now given number placed block kept at_place stands entry read c.in-Some.member c.in-Some.is)

pub stamp-requires-clause-element : goal.stamp-requires-clause-element
stamp-requires-clause-element g c =
    let given = symbol_read (parts_of g.C.Choices.choices c.args.self.now) c.args.at c.args.f
    c.args.values.now c.requires.symbol c.as_slice.result.now c.index-as_slice-f.result
    c.as_slice.ensures c.index-as_slice-f.is in
    let placed = rw (sources_read (parts_of g.C.Choices.choices c.args.self.now) c.requires.ready c.args.at c.args.f
    c.index-as_slice-f.result c.args.values.now given c.as_slice-sources.result.now
    c.index-self-f.result c.as_slice-sources.ensures) at c.place_of_sources-number.ensures.exact in
    let number = c.place_of_sources-number.result in
    let within = number_within (parts_of g.C.Choices.choices c.args.self.now) c.requires.ready c.args.at c.args.f
    c.index-as_slice-f.result c.args.values.now given number placed in
    let block = c.index-as_slice-number.result in
    let kept = block_read (parts_of g.C.Choices.choices c.args.self.now) c.requires.ready c.args.at c.args.f
    c.index-as_slice-f.result given.marked c.as_slice-2.result.now c.index-self-at.result
    c.as_slice-2.ensures number within block c.index-as_slice-number.is in
    let stands = rw (
      c.as_slice-4.ensures,
      c.split_at.ensures.back ∙ own_behind (parts_of g.C.Choices.choices c.args.self.now) c.requires.ready c.args.at c.args.f
          c.index-as_slice-f.result c.args.values.now given c.as_slice-3.result.now
          c.as_slice-3.ensures,
    ) at c.place_in_block-place.ensures.exact in
    let at_place = c.place_in_block-place.result in
    let entry = slice_index c.symbol_table-table.result.now (block.start + at_place) in
    let read = ap (λ table. slice_index table (block.start + at_place)) c.symbol_table-table.ensures in
    rw c.requires.ready.stamped_is (entry_below (parts_of g.C.Choices.choices c.args.self.now) c.requires.ready c.args.at c.args.f
    c.index-as_slice-f.result c.args.values.now given number placed block kept at_place stands entry read c.in-Some.member c.in-Some.is)

pub returns-in-None : goal.returns-in-None
returns-in-None g c =
    let given = symbol_read (parts_of g.C.Choices.choices c.args.self.now) c.args.at c.args.f
    c.args.values.now c.requires.symbol c.as_slice.result.now c.index-as_slice-f.result
    c.as_slice.ensures c.index-as_slice-f.is in
    let placed = rw (sources_read (parts_of g.C.Choices.choices c.args.self.now) c.requires.ready c.args.at c.args.f
    c.index-as_slice-f.result c.args.values.now given c.as_slice-sources.result.now
    c.index-self-f.result c.as_slice-sources.ensures) at c.place_of_sources-number.ensures.exact in
    let number = c.place_of_sources-number.result in
    let within = number_within (parts_of g.C.Choices.choices c.args.self.now) c.requires.ready c.args.at c.args.f
    c.index-as_slice-f.result c.args.values.now given number placed in
    let block = c.index-as_slice-number.result in
    let kept = block_read (parts_of g.C.Choices.choices c.args.self.now) c.requires.ready c.args.at c.args.f
    c.index-as_slice-f.result given.marked c.as_slice-2.result.now c.index-self-at.result
    c.as_slice-2.ensures number within block c.index-as_slice-number.is in
    let stands = rw (
      c.as_slice-4.ensures,
      c.split_at.ensures.back ∙ own_behind (parts_of g.C.Choices.choices c.args.self.now) c.requires.ready c.args.at c.args.f
          c.index-as_slice-f.result c.args.values.now given c.as_slice-3.result.now
          c.as_slice-3.ensures,
    ) at c.place_in_block-place.ensures.exact in
    let at_place = c.place_in_block-place.result in
    let entry = slice_index c.symbol_table-table.result.now (block.start + at_place) in
    let read = ap (λ table. slice_index table (block.start + at_place)) c.symbol_table-table.ensures in
    record {
      exact = predicate_is (parts_of g.C.Choices.choices c.args.self.now) c.requires.ready c.args.at c.args.f
          c.index-as_slice-f.result c.args.values.now given number placed block kept at_place stands entry read c.in-None.is;
    }

pub returns-in-Some : goal.returns-in-Some
returns-in-Some g c =
    let given = symbol_read (parts_of g.C.Choices.choices c.args.self.now) c.args.at c.args.f
    c.args.values.now c.requires.symbol c.as_slice.result.now c.index-as_slice-f.result
    c.as_slice.ensures c.index-as_slice-f.is in
    let placed = rw (sources_read (parts_of g.C.Choices.choices c.args.self.now) c.requires.ready c.args.at c.args.f
    c.index-as_slice-f.result c.args.values.now given c.as_slice-sources.result.now
    c.index-self-f.result c.as_slice-sources.ensures) at c.place_of_sources-number.ensures.exact in
    let number = c.place_of_sources-number.result in
    let within = number_within (parts_of g.C.Choices.choices c.args.self.now) c.requires.ready c.args.at c.args.f
    c.index-as_slice-f.result c.args.values.now given number placed in
    let block = c.index-as_slice-number.result in
    let kept = block_read (parts_of g.C.Choices.choices c.args.self.now) c.requires.ready c.args.at c.args.f
    c.index-as_slice-f.result given.marked c.as_slice-2.result.now c.index-self-at.result
    c.as_slice-2.ensures number within block c.index-as_slice-number.is in
    let stands = rw (
      c.as_slice-4.ensures,
      c.split_at.ensures.back ∙ own_behind (parts_of g.C.Choices.choices c.args.self.now) c.requires.ready c.args.at c.args.f
          c.index-as_slice-f.result c.args.values.now given c.as_slice-3.result.now
          c.as_slice-3.ensures,
    ) at c.place_in_block-place.ensures.exact in
    let at_place = c.place_in_block-place.result in
    let entry = slice_index c.symbol_table-table.result.now (block.start + at_place) in
    let read = ap (λ table. slice_index table (block.start + at_place)) c.symbol_table-table.ensures in
    record {
      exact = (rw c.requires.ready.stamped_is at c.stamp.ensures.exact)
          ∙ function_is (parts_of g.C.Choices.choices c.args.self.now) c.requires.ready c.args.at c.args.f
          c.index-as_slice-f.result c.args.values.now given number placed block kept at_place stands entry read c.in-Some.member c.in-Some.is;
    }
