use Rattle.std.proofs.Common.{map}
use Rattle.tf_core.specs.Types.{instantiate}
use Rattle.tf_core.proofs.Types.{instantiate-variable, instantiate-apply}
use Rattle.enc_marks.specs.Encoded.{all_numbers}
use Rattle.enc_marks.proofs.Translation.{type_term-apply}
use Rattle.enc_marks.proofs.Results.{ok_same}
use Rattle.enc_marks.proofs.type_writer.TypeWriter.+instance.Goals as goal

pub instance-returns-in-Var : goal.instance-returns-in-Var
instance-returns-in-Var t c =
    let layer = instantiate-variable c.args.types.now c.in-Var.i in
    ok_same c.given.result c.given.ensures (cc (layer, c.in-Var.is))

pub instance-returns-in_ok-terms-in-Apply : goal.instance-returns-in_ok-terms-in-Apply
instance-returns-in_ok-terms-in-Apply t c =
    let types = c.args.types.now in
    let number = (all_numbers c.args.self.now.normal.now).constructor in
    let replaced = instantiate-apply types c.in-Apply.c c.in-Apply.arguments in
    let layer = type_term-apply number c.args.depth c.in-Apply.c (map (instantiate types)
    c.in-Apply.arguments) in
    cc (
      replaced,
      layer,
      c.in-Apply.is,
      c.in_ok-number-in-Apply.ensures,
      c.as_slice.ensures,
      c.in_ok-terms-in-Apply.ensures,
    )
