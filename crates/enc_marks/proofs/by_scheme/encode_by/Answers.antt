use Rattle.std.proofs.Common.{sym, ap, subst, ◌∙◌}
use Rattle.fof_models.specs.Sound.{IsSound}
use Rattle.tf_core.specs.declared.normal.Normal.{Normal}
use Rattle.enc_marks.specs.declared.encoded.Encoded.{Encoded}
use Rattle.enc_marks.specs.Choices.{Choices}
use Rattle.enc_marks.specs.Encoded.{encoded}
use Rattle.enc_marks.specs.Schemes.{choices_of}
use Rattle.enc_marks.proofs.Sound.{translations_well_formed}
use Rattle.enc_marks.proofs.SoundSchemes.{schemes_fitting}
use Rattle.enc_marks.proofs.by_scheme.encode_by.Goals as goal

pub encode-requires-clause-monomorphic : goal.encode-requires-clause-monomorphic
encode-requires-clause-monomorphic g c by_sort =
    (schemes_fitting.schemes g.which c.args.normal.now c.requires.1.1.0).monomorphic
    (ap (λ (k : Choices). k.marking) (sym c.requires.1.0) ∙ by_sort)

pub returns-in-Ok : goal.returns-in-Ok
returns-in-Ok g c =
    let normal : Normal = c.args.normal.now in
    let choices : Choices = choices_of g.which normal in
    let made_is = c.in-Ok.ensures.exact ∙ ap (λ (k : Choices). encoded k normal) c.requires.1.0 in
    record {
      exact = made_is;
      sound = subst (λ (made : Encoded). IsSound made.problem) (sym made_is)
          (translations_well_formed choices normal
          (schemes_fitting.schemes g.which normal c.requires.1.1.0) c.requires.1.1.1);
      refused = tt;
    }
