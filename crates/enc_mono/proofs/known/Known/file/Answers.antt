use Rattle.std.proofs.Common.{subst}
use Rattle.std.proofs.lemmas.Result.{on_ok_weaker}
use Rattle.tf_types.specs.Numbers.{Denotes}
use Rattle.enc_mono.proofs.Filed.{Files-filed}
use Rattle.enc_mono.proofs.known.Known.file.Goals as goal

pub returns : goal.returns
returns c =
    on_ok_weaker c.file_number.result
    (λ filed origin is.
    Files-filed c.args.self.now c.file_number.new.self c.number_of.new.self c.requires.kept
    c.in_ok-id.ensures.kept c.in_ok-id.ensures.one_to_one c.file_number.ensures.table origin
    c.in_ok-id.id (subst (Denotes c.number_of.new.self c.in_ok-id.id) is
    c.in_ok-id.ensures.denoted)
    (filed origin.symbol origin.types is))
    c.file_number.ensures.filed
