use Rattle.std.proofs.Common.{◌≡◌, ◌∙◌, ap, subst, sym}
use Rattle.tf_core.specs.declared.normal.Normal.{Normal}
use Rattle.tf_core.specs.Sound.{IsSoundNormal}
use Rattle.tf_nnf.specs.NormalForm.{normal_of}
use Rattle.fof_models.specs.Sound.{IsSound}
use Rattle.fof_text.specs.Names.{chosen_names}
use Rattle.fof_text.specs.States.{AreNamed}
use Rattle.enc_marks.specs.declared.encoded.Encoded.{Encoded}
use Rattle.enc_marks.specs.Encoded.{encoded}
use Rattle.enc_marks.specs.Schemes.{choices_of}
use Rattle.enc_pipeline.proofs.EncodedNames.{translation_named}
use Rattle.tfenc_cases.proofs.encoding.names_of.Goals as goal

pub returns-in-Ok : goal.returns-in-Ok
returns-in-Ok c =
    let problem = c.args.problem.now in
    let made = c.args.made.now in
    let choices = choices_of c.args.which.now c.args.normal.now in
    let made_is : made ≡ encoded choices (normal_of problem) =
    c.requires.encoded ∙ ap (λ (n : Normal). encoded choices n) c.requires.normal in
    let named : AreNamed (chosen_names made.problem.signature) made.problem =
    subst (λ (e : Encoded). AreNamed (chosen_names e.problem.signature) e.problem) (sym made_is)
    (translation_named problem c.requires.named choices
    (subst IsSoundNormal c.requires.normal c.requires.sound)
    (subst (λ (e : Encoded). IsSound e.problem) made_is c.requires.translated)) in
    subst (λ names. AreNamed names made.problem)
    (sym (c.in-Ok.ensures.exact ∙ ap chosen_names c.as_slice.ensures)) named
