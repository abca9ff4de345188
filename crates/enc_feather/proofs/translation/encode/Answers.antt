use Rattle.std.specs.Prelude.{◌≡◌}
use Rattle.std.proofs.lemmas.Result.{IfOk-weaker}
use Rattle.tf_core.specs.declared.normal.Normal.{Normal}
use Rattle.enc_marks.specs.Applies.{Applies}
use Rattle.enc_marks.specs.Encoded.{encoded}
use Rattle.enc_marks.specs.Schemes.{choices_of}
use Rattle.enc_laws.proofs.SoundNormal.{normal_typed}
use Rattle.enc_feather.proofs.OfTwo.{applies_to, no_name-monomorphic}
use Rattle.enc_feather.proofs.translation.encode.Goals as goal

pub new-requires : goal.new-requires
new-requires c = record { typed = normal_typed c.args.normal.now c.requires.sound }

pub encode_free-requires-clause-applies : goal.encode_free-requires-clause-applies
encode_free-requires-clause-applies c =
    applies_to c.args.which c.args.normal.now c.requires.scheme
    (no_name-monomorphic c.in_ok-name.field-0 c.args.normal.now c.in_ok-name.ensures.exact
    c.in_default.not-Some)

pub returns-clause-applies : goal.returns-clause-applies
returns-clause-applies c =
    let normal : Normal = c.args.normal.now in
    IfOk-weaker c.encode_free.result
    (λ made. made ≡ encoded (choices_of c.args.which normal) normal)
    (λ made. Applies c.args.which normal)
    (λ made is.
    applies_to c.args.which normal c.requires.scheme
    (no_name-monomorphic c.in_ok-name.field-0 normal c.in_ok-name.ensures.exact
    c.in_default.not-Some))
    c.encode_free.ensures.exact
