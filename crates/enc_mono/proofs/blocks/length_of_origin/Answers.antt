use Rattle.std.proofs.Common.{ap, sym, ◌∙◌}
use Rattle.enc_base.specs.Counts.{in_64_bits}
use Rattle.enc_mono.proofs.OriginBlocks.{symbol_read, is_block, length-origin_block}
use Rattle.enc_mono.proofs.blocks.length_of_origin.Goals as goal

pub block_length-requires : goal.block_length-requires
block_length-requires c =
    record {
      block = is_block c.args.signature.now c.args.model.now c.requires.ready c.args.origin.now
          c.requires.origin c.number_of_origin-number.result c.number_of_origin-number.ensures
          c.index-as_slice-origin.result
          (symbol_read c.args.signature.now c.args.origin.now c.requires.origin
          c.as_slice.result.now c.index-as_slice-origin.result c.as_slice.ensures
          c.index-as_slice-origin.is);
    }

pub returns : goal.returns
returns c =
    c.block_length.ensures.exact
    ∙ ap in_64_bits
    (sym (length-origin_block c.args.signature.now c.args.model.now c.requires.ready
    c.args.origin.now c.requires.origin c.number_of_origin-number.result
    c.number_of_origin-number.ensures c.index-as_slice-origin.result
    (symbol_read c.args.signature.now c.args.origin.now c.requires.origin c.as_slice.result.now
    c.index-as_slice-origin.result c.as_slice.ensures c.index-as_slice-origin.is)))
