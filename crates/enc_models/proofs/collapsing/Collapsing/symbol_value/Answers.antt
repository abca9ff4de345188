use Rattle.std.proofs.Common.{arith, ap, ◌∙◌, ◌+◌, List, ℕ, length, slice_index}
use Rattle.enc_models.specs.Calls.Collapsing.{parts_of}
use Rattle.enc_models.proofs.CollapsedSymbols.{symbol_read, parameters_within, parameters_fit, mark_within, are_blocks, block_read, number_within, arguments_below, own_numbers, arguments_fit, entry_inside, value_is}
use Rattle.enc_models.proofs.collapsing.Collapsing.symbol_value.Goals as goal

pub split_at-requires : goal.split_at-requires
split_at-requires g c =
    let m = (parts_of g.C.Choices.choices c.args.self.now) in
    let given = symbol_read m c.args.at c.args.f c.args.values.now c.requires.symbol
    c.as_slice.result.now c.index-as_slice-f.result c.as_slice.ensures c.index-as_slice-f.is in
    parameters_within m c.requires.ready c.args.at c.args.f c.index-as_slice-f.result c.args.values.now given

pub place_of_members-number-requires-clause-entries : goal.place_of_members-number-requires-clause-entries
place_of_members-number-requires-clause-entries g c =
    let m = (parts_of g.C.Choices.choices c.args.self.now) in
    let given = symbol_read m c.args.at c.args.f c.args.values.now c.requires.symbol
    c.as_slice.result.now c.index-as_slice-f.result c.as_slice.ensures c.index-as_slice-f.is in
    rw (c.split_at.ensures.front, c.symbol_table-table.ensures)
    (parameters_fit m c.requires.ready c.args.at c.args.f c.index-as_slice-f.result c.args.values.now given)

pub bounds-self-at : goal.bounds-self-at
bounds-self-at g c =
    let m = (parts_of g.C.Choices.choices c.args.self.now) in
    let given = symbol_read m c.args.at c.args.f c.args.values.now c.requires.symbol
    c.as_slice.result.now c.index-as_slice-f.result c.as_slice.ensures c.index-as_slice-f.is in
    mark_within m c.requires.ready c.args.at c.args.f c.index-as_slice-f.result c.args.values.now given

pub offset_bounds-as_slice-number : goal.offset_bounds-as_slice-number
offset_bounds-as_slice-number g c =
    let m = (parts_of g.C.Choices.choices c.args.self.now) in
    let given = symbol_read m c.args.at c.args.f c.args.values.now c.requires.symbol
    c.as_slice.result.now c.index-as_slice-f.result c.as_slice.ensures c.index-as_slice-f.is in
    let placed = rw c.split_at.ensures.front at c.place_of_members-number.ensures.exact in
    let number = c.place_of_members-number.result in
    let within = number_within m c.requires.ready c.args.at c.args.f c.index-as_slice-f.result c.args.values.now given
    number placed in
    omega (
      arith,
      c.as_slice-2.type_inv,
      (are_blocks m c.requires.ready c.args.at c.args.f c.index-as_slice-f.result c.args.values.now given
          c.as_slice-2.result.now c.index-self-at.result c.as_slice-2.ensures).count,
      within,
    )

pub bounds-as_slice-number : goal.bounds-as_slice-number
bounds-as_slice-number g c =
    let m = (parts_of g.C.Choices.choices c.args.self.now) in
    let given = symbol_read m c.args.at c.args.f c.args.values.now c.requires.symbol
    c.as_slice.result.now c.index-as_slice-f.result c.as_slice.ensures c.index-as_slice-f.is in
    let placed = rw c.split_at.ensures.front at c.place_of_members-number.ensures.exact in
    let number = c.place_of_members-number.result in
    let within = number_within m c.requires.ready c.args.at c.args.f c.index-as_slice-f.result c.args.values.now given
    number placed in
    omega (
      arith,
      (are_blocks m c.requires.ready c.args.at c.args.f c.index-as_slice-f.result c.args.values.now given
          c.as_slice-2.result.now c.index-self-at.result c.as_slice-2.ensures).count,
      within,
    )

pub place_in_block-place-requires-clause-members : goal.place_in_block-place-requires-clause-members
place_in_block-place-requires-clause-members g c =
    let m = (parts_of g.C.Choices.choices c.args.self.now) in
    let given = symbol_read m c.args.at c.args.f c.args.values.now c.requires.symbol
    c.as_slice.result.now c.index-as_slice-f.result c.as_slice.ensures c.index-as_slice-f.is in
    let placed = rw c.split_at.ensures.front at c.place_of_members-number.ensures.exact in
    let number = c.place_of_members-number.result in
    let within = number_within m c.requires.ready c.args.at c.args.f c.index-as_slice-f.result c.args.values.now given
    number placed in
    let block = c.index-as_slice-number.result in
    let kept = block_read m c.requires.ready c.args.at c.args.f c.index-as_slice-f.result c.args.values.now given
    c.as_slice-2.result.now c.index-self-at.result c.as_slice-2.ensures number within block
    c.index-as_slice-number.is in
    rw c.as_slice-3.ensures
    (arguments_below m c.requires.ready c.args.at c.args.f c.index-as_slice-f.result c.args.values.now given
    number placed block kept)

pub place_in_block-place-requires-clause-values : goal.place_in_block-place-requires-clause-values
place_in_block-place-requires-clause-values g c =
    let m = (parts_of g.C.Choices.choices c.args.self.now) in
    let given = symbol_read m c.args.at c.args.f c.args.values.now c.requires.symbol
    c.as_slice.result.now c.index-as_slice-f.result c.as_slice.ensures c.index-as_slice-f.is in
    let placed = rw c.split_at.ensures.front at c.place_of_members-number.ensures.exact in
    let number = c.place_of_members-number.result in
    let within = number_within m c.requires.ready c.args.at c.args.f c.index-as_slice-f.result c.args.values.now given
    number placed in
    let block = c.index-as_slice-number.result in
    let kept = block_read m c.requires.ready c.args.at c.args.f c.index-as_slice-f.result c.args.values.now given
    c.as_slice-2.result.now c.index-self-at.result c.as_slice-2.ensures number within block
    c.index-as_slice-number.is in
    rw (c.as_slice-3.ensures, c.split_at.ensures.back)
    (own_numbers m c.requires.ready c.args.at c.args.f c.index-as_slice-f.result c.args.values.now given
    number placed block kept)

pub place_in_block-place-requires-clause-entries : goal.place_in_block-place-requires-clause-entries
place_in_block-place-requires-clause-entries g c =
    let m = (parts_of g.C.Choices.choices c.args.self.now) in
    let given = symbol_read m c.args.at c.args.f c.args.values.now c.requires.symbol
    c.as_slice.result.now c.index-as_slice-f.result c.as_slice.ensures c.index-as_slice-f.is in
    let placed = rw c.split_at.ensures.front at c.place_of_members-number.ensures.exact in
    let number = c.place_of_members-number.result in
    let within = number_within m c.requires.ready c.args.at c.args.f c.index-as_slice-f.result c.args.values.now given
    number placed in
    let block = c.index-as_slice-number.result in
    let kept = block_read m c.requires.ready c.args.at c.args.f c.index-as_slice-f.result c.args.values.now given
    c.as_slice-2.result.now c.index-self-at.result c.as_slice-2.ensures number within block
    c.index-as_slice-number.is in
    rw (c.as_slice-3.ensures, c.symbol_table-table.ensures)
    (arguments_fit m c.requires.ready c.args.at c.args.f c.index-as_slice-f.result c.args.values.now given
    number placed block kept)

pub overflow_add-result : goal.overflow_add-result
overflow_add-result g c =
    let m = (parts_of g.C.Choices.choices c.args.self.now) in
    let given = symbol_read m c.args.at c.args.f c.args.values.now c.requires.symbol
    c.as_slice.result.now c.index-as_slice-f.result c.as_slice.ensures c.index-as_slice-f.is in
    let placed = rw c.split_at.ensures.front at c.place_of_members-number.ensures.exact in
    let number = c.place_of_members-number.result in
    let within = number_within m c.requires.ready c.args.at c.args.f c.index-as_slice-f.result c.args.values.now given
    number placed in
    let block = c.index-as_slice-number.result in
    let kept = block_read m c.requires.ready c.args.at c.args.f c.index-as_slice-f.result c.args.values.now given
    c.as_slice-2.result.now c.index-self-at.result c.as_slice-2.ensures number within block
    c.index-as_slice-number.is in
    let stands = rw (c.as_slice-3.ensures, c.split_at.ensures.back)
    at c.place_in_block-place.ensures.exact in
    let place = c.place_in_block-place.result in
    omega (
      arith,
      c.symbol_table-table.type_inv,
      ap length c.symbol_table-table.ensures,
      entry_inside m c.requires.ready c.args.at c.args.f c.index-as_slice-f.result c.args.values.now given
          number placed block kept place stands,
    )

pub offset_bounds-table-block : goal.offset_bounds-table-block
offset_bounds-table-block g c =
    let m = (parts_of g.C.Choices.choices c.args.self.now) in
    let given = symbol_read m c.args.at c.args.f c.args.values.now c.requires.symbol
    c.as_slice.result.now c.index-as_slice-f.result c.as_slice.ensures c.index-as_slice-f.is in
    let placed = rw c.split_at.ensures.front at c.place_of_members-number.ensures.exact in
    let number = c.place_of_members-number.result in
    let within = number_within m c.requires.ready c.args.at c.args.f c.index-as_slice-f.result c.args.values.now given
    number placed in
    let block = c.index-as_slice-number.result in
    let kept = block_read m c.requires.ready c.args.at c.args.f c.index-as_slice-f.result c.args.values.now given
    c.as_slice-2.result.now c.index-self-at.result c.as_slice-2.ensures number within block
    c.index-as_slice-number.is in
    let stands = rw (c.as_slice-3.ensures, c.split_at.ensures.back)
    at c.place_in_block-place.ensures.exact in
    let place = c.place_in_block-place.result in
    omega (
      arith,
      c.symbol_table-table.type_inv,
      ap length c.symbol_table-table.ensures,
      entry_inside m c.requires.ready c.args.at c.args.f c.index-as_slice-f.result c.args.values.now given
          number placed block kept place stands,
    )

pub bounds-table-block : goal.bounds-table-block
bounds-table-block g c =
    let m = (parts_of g.C.Choices.choices c.args.self.now) in
    let given = symbol_read m c.args.at c.args.f c.args.values.now c.requires.symbol
    c.as_slice.result.now c.index-as_slice-f.result c.as_slice.ensures c.index-as_slice-f.is in
    let placed = rw c.split_at.ensures.front at c.place_of_members-number.ensures.exact in
    let number = c.place_of_members-number.result in
    let within = number_within m c.requires.ready c.args.at c.args.f c.index-as_slice-f.result c.args.values.now given
    number placed in
    let block = c.index-as_slice-number.result in
    let kept = block_read m c.requires.ready c.args.at c.args.f c.index-as_slice-f.result c.args.values.now given
    c.as_slice-2.result.now c.index-self-at.result c.as_slice-2.ensures number within block
    c.index-as_slice-number.is in
    let stands = rw (c.as_slice-3.ensures, c.split_at.ensures.back)
    at c.place_in_block-place.ensures.exact in
    let place = c.place_in_block-place.result in
    omega (
      arith,
      c.symbol_table-table.type_inv,
      ap length c.symbol_table-table.ensures,
      entry_inside m c.requires.ready c.args.at c.args.f c.index-as_slice-f.result c.args.values.now given
          number placed block kept place stands,
    )

pub returns : goal.returns
returns g c =
    let m = (parts_of g.C.Choices.choices c.args.self.now) in
    let given = symbol_read m c.args.at c.args.f c.args.values.now c.requires.symbol
    c.as_slice.result.now c.index-as_slice-f.result c.as_slice.ensures c.index-as_slice-f.is in
    let placed = rw c.split_at.ensures.front at c.place_of_members-number.ensures.exact in
    let number = c.place_of_members-number.result in
    let within = number_within m c.requires.ready c.args.at c.args.f c.index-as_slice-f.result c.args.values.now given
    number placed in
    let block = c.index-as_slice-number.result in
    let kept = block_read m c.requires.ready c.args.at c.args.f c.index-as_slice-f.result c.args.values.now given
    c.as_slice-2.result.now c.index-self-at.result c.as_slice-2.ensures number within block
    c.index-as_slice-number.is in
    let stands = rw (c.as_slice-3.ensures, c.split_at.ensures.back)
    at c.place_in_block-place.ensures.exact in
    let place = c.place_in_block-place.result in
    record {
      exact = ap (λ (table : List ℕ). slice_index table (block.start + place))
          c.symbol_table-table.ensures
          ∙ value_is m c.requires.ready c.args.at c.args.f c.index-as_slice-f.result c.args.values.now given
          number placed block kept place stands;
    }
