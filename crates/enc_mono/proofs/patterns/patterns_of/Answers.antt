use Rattle.std.proofs.Common.{sym, subst}
use Rattle.std.proofs.lemmas.Result.{IfOk-weaker}
use Rattle.enc_mono.specs.Instances.{symbol_instances}
use Rattle.enc_mono.specs.Calls.Numbered.{Lists}
use Rattle.enc_mono.proofs.OnceKept.{ArePatterns-kept}
use Rattle.enc_mono.proofs.patterns.patterns_of.Goals as goal

pub returns : goal.returns
returns c =
    IfOk-weaker c.each_once.result _ _
    (ArePatterns-kept c.args.formula.now c.as_slice.result.now
    c.new-listed.result c.new-listed.ensures
    (subst (Lists (symbol_instances c.args.formula.now) c.new-listed.result)
    (sym c.as_slice.ensures) c.in_ok-list_instances.ensures))
    c.each_once.ensures
