use Rattle.std.proofs.Common.{rules, map}
use Rattle.std.specs.Prelude.{string_bytes}
use Rattle.enc_run.proofs.PlainJobs.{plain_job}
use Rattle.enc_run.proofs.running.work.Goals as goal

pub finish-requires : goal.finish-requires
finish-requires g c = record {
  plain = plain_job (map string_bytes c.args.words.now) c.in-Ok-Some.job (search rules);
}
