use Rattle.std.proofs.lemmas.Result.{on_ok_weaker}
use Rattle.tf_types.proofs.Numbers.{Extends-twice}
use Rattle.enc_mono.specs.Instances.{instance_under}
use Rattle.enc_mono.specs.Calls.Matched.{denoted}
use Rattle.enc_mono.proofs.Filed.{Files-filed, instance_denoted}
use Rattle.enc_mono.proofs.known.Known.file_instance.Goals as goal

pub returns : goal.returns
returns c =
    on_ok_weaker c.file_number.result
    (λ filed origin is.
    Files-filed c.args.self.now c.file_number.new.self c.instance.new.self c.requires.kept
    (Extends-twice c.args.self.now.table c.number_of.new.self c.instance.new.self
    c.in_ok-id.ensures.kept c.in_ok-made.ensures.kept)
    c.in_ok-made.ensures.one_to_one c.file_number.ensures.table
    (instance_under (denoted c.args.self.now.table c.args.types.now) origin) c.in_ok-made.made
    (instance_denoted c.args.self.now.table c.number_of.new.self c.instance.new.self
    c.in_ok-id.ensures.kept c.args.types.now c.requires.numbers c.args.pattern.now origin is
    c.in_ok-id.id c.in_ok-id.ensures.denoted c.in_ok-made.made c.in_ok-made.ensures.denoted)
    (filed origin.symbol origin.types is))
    c.file_number.ensures.filed
