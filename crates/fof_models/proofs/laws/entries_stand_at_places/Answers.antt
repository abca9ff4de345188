use Rattle.enc_base.proofs.Tables.{place_within, length-table, table-at}
use Rattle.fof_models.proofs.laws.entries_stand_at_places.Goals as goal

pub returns : goal.returns
returns c = record { within = place_within; count = length-table; entry = table-at }
