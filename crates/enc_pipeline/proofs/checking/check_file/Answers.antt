use Rattle.std.proofs.Common.{refl}
use Rattle.enc_pipeline.specs.Carried.{model_line}
use Rattle.enc_pipeline.proofs.checking.check_file.Goals as goal

pub returns-in-Ok-clause-exact : goal.returns-in-Ok-clause-exact
unfolding model_line
returns-in-Ok-clause-exact g c = c.in-Ok.ensures.ok

pub returns-in-Err-clause-stopped : goal.returns-in-Err-clause-stopped
unfolding model_line
returns-in-Err-clause-stopped g c = (
  c.in-Err.ensures.failed,
  (
    model_line,
    record { model = _; is_table = c.in_ok-typed_model.ensures.exact; output_is = refl },
    c.in-Err.ensures.begins,
  ),
)
