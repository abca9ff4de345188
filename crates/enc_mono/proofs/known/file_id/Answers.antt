use Rattle.enc_mono.proofs.Partials.{IsPut-keys, ids_decide}
use Rattle.enc_mono.proofs.Filed.{FilesId-put}
use Rattle.enc_mono.proofs.known.file_id.Goals as goal

pub returns : goal.returns
returns c =
    FilesId-put c.args.index.now c.args.symbol c.index-index-symbol.result c.insert_full.new.self c.args.id
    c.requires.within c.in_ok-insert_full.field-0.1
    (IsPut-keys _ ids_decide _ c.insert_full.new.self.keys c.args.id
    c.in_ok-insert_full.field-0.1 c.in_ok-insert_full.ensures.added
    c.in_ok-insert_full.ensures.keys)
