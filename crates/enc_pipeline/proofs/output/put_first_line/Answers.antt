use Rattle.std.proofs.Common.{ap, ◌∙◌, ◌++◌, codes}
use Rattle.enc_base.proofs.Puts.{then_put, put_as}
use Rattle.enc_pipeline.specs.Output.{first_line}
use Rattle.enc_pipeline.proofs.output.put_first_line.Goals as goal

pub returns : goal.returns
unfolding first_line
returns g c =
    put_as (ap (λ name. codes "% tfenc " ++ (name ++ codes " complete\n"))
    (c.as_bytes.ensures.value ∙ c.scheme_name.ensures))
    (then_put c.put.ensures.puts (then_put c.put-2.ensures.puts c.put-3.ensures.puts))
