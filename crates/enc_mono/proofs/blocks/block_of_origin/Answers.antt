use Rattle.std.specs.Prelude.{◌≡◌, length}
use Rattle.std.proofs.Common.{ap, ◌∙◌, arith}
use Rattle.tf_models.specs.Reading.{tables}
use Rattle.tf_models.specs.Fit.{length_at}
use Rattle.enc_mono.proofs.OriginBlocks.{symbol_read, is_block, table_within}
use Rattle.enc_mono.proofs.ReadBlocks.{start_within, part_within, part_is}
use Rattle.enc_mono.proofs.blocks.block_of_origin.Goals as goal

pub offset_bounds-as_slice-number : goal.offset_bounds-as_slice-number
offset_bounds-as_slice-number c =
    let within = start_within c.args.signature.now c.args.model.now c.requires.ready
    c.args.origin.now
    c.requires.origin c.number_of_origin-number.result c.number_of_origin-number.ensures
    c.as_slice.result.now c.index-as_slice-origin.result c.as_slice.ensures
    c.index-as_slice-origin.is c.args.starts.now c.requires.starts
    c.index-starts-origin.result c.as_slice-2.result.now c.index-starts-origin.is
    c.as_slice-2.ensures in
    omega (arith, within, c.as_slice-2.type_inv)

pub bounds-as_slice-number : goal.bounds-as_slice-number
bounds-as_slice-number c =
    start_within c.args.signature.now c.args.model.now c.requires.ready c.args.origin.now
    c.requires.origin c.number_of_origin-number.result c.number_of_origin-number.ensures
    c.as_slice.result.now c.index-as_slice-origin.result c.as_slice.ensures
    c.index-as_slice-origin.is c.args.starts.now c.requires.starts
    c.index-starts-origin.result c.as_slice-2.result.now c.index-starts-origin.is
    c.as_slice-2.ensures

pub block_length-length-requires : goal.block_length-length-requires
block_length-length-requires c =
    record {
      block = is_block c.args.signature.now c.args.model.now c.requires.ready c.args.origin.now
          c.requires.origin c.number_of_origin-number.result c.number_of_origin-number.ensures
          c.index-as_slice-origin.result
          (symbol_read c.args.signature.now c.args.origin.now c.requires.origin
          c.as_slice.result.now c.index-as_slice-origin.result c.as_slice.ensures
          c.index-as_slice-origin.is);
    }

pub symbol_table-requires : goal.symbol_table-requires
symbol_table-requires c =
    table_within c.args.signature.now c.args.model.now c.requires.ready c.args.origin.now
    c.requires.origin

pub part_of-requires : goal.part_of-requires
part_of-requires c =
    let inside = part_within c.args.signature.now c.args.model.now c.requires.ready
    c.args.origin.now
    c.requires.origin c.number_of_origin-number.result c.number_of_origin-number.ensures
    c.as_slice.result.now c.index-as_slice-origin.result c.as_slice.ensures
    c.index-as_slice-origin.is c.args.starts.now c.requires.starts
    c.index-starts-origin.result c.as_slice-2.result.now c.index-starts-origin.is
    c.as_slice-2.ensures in
    let same = ap length c.symbol_table.ensures in
    omega (arith, inside, same, c.block_length-length.ensures.exact)

pub returns : goal.returns
returns c =
    let inside = part_within c.args.signature.now c.args.model.now c.requires.ready
    c.args.origin.now
    c.requires.origin c.number_of_origin-number.result c.number_of_origin-number.ensures
    c.as_slice.result.now c.index-as_slice-origin.result c.as_slice.ensures
    c.index-as_slice-origin.is c.args.starts.now c.requires.starts
    c.index-starts-origin.result c.as_slice-2.result.now c.index-starts-origin.is
    c.as_slice-2.ensures in
    let same = ap length c.symbol_table.ensures in
    let long : c.block_length-length.result
    ≡ length_at (tables c.args.model.now) c.index-as_slice-origin.result
    c.number_of_origin-number.result =
    omega (arith, inside, same, c.block_length-length.ensures.exact) in
    c.part_of.ensures
    ∙ part_is c.args.signature.now c.args.model.now c.requires.ready c.args.origin.now
    c.requires.origin c.number_of_origin-number.result c.number_of_origin-number.ensures
    c.as_slice.result.now c.index-as_slice-origin.result c.as_slice.ensures
    c.index-as_slice-origin.is c.args.starts.now c.requires.starts
    c.index-starts-origin.result c.as_slice-2.result.now c.index-starts-origin.is
    c.as_slice-2.ensures
    c.block_length-length.result c.symbol_table.result.now long c.symbol_table.ensures
