use Rattle.tf_models.proofs.Entries.{constructors_fit}
use Rattle.enc_mono.proofs.OriginBlocks.{table_within, numbers_fit}
use Rattle.enc_mono.proofs.blocks.number_of_origin.Goals as goal

pub symbol_table-table-requires : goal.symbol_table-table-requires
symbol_table-table-requires c =
    table_within c.args.signature.now c.args.model.now c.requires.ready c.args.origin.now
    c.requires.origin

pub place_of_types-requires-clause-fit : goal.place_of_types-requires-clause-fit
place_of_types-requires-clause-fit c =
    constructors_fit c.args.signature.now c.args.model.now c.requires.ready.well_formed

pub place_of_types-requires-clause-entries : goal.place_of_types-requires-clause-entries
place_of_types-requires-clause-entries c =
    rw (c.as_slice.ensures, c.symbol_table-table.ensures)
    (numbers_fit c.args.signature.now c.args.model.now c.requires.ready c.args.origin.now
    c.requires.origin)
