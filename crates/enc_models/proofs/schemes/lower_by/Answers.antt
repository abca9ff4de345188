use Rattle.std.proofs.Common.{◌≡◌, length, sym, subst, ap, ◌∙◌}
use Rattle.std.proofs.lemmas.Result.{IfOk-weaker}
use Rattle.tf_core.specs.declared.signature.Symbol.{Symbol}
use Rattle.tf_core.specs.declared.normal.Normal.{Normal}
use Rattle.tf_core.specs.TypedTables.{TypedTables}
use Rattle.tf_models.specs.Reading.{tables}
use Rattle.fof_models.specs.Models.{AreModel}
use Rattle.enc_marks.specs.declared.encoded.Encoded.{Encoded}
use Rattle.enc_marks.specs.Choices.{Choices}
use Rattle.enc_marks.specs.Schemes.{choices_of}
use Rattle.enc_models.specs.Lowered.{lowered}
use Rattle.enc_models.proofs.ParameterSources.{each_kept}
use Rattle.enc_models.proofs.KeepsModels.{lowers_models}
use Rattle.enc_models.proofs.schemes.lower_by.Goals as goal

pub lower-requires-clause-each_kept : goal.lower-requires-clause-each_kept
lower-requires-clause-each_kept g c =
    let merged = c.requires.1.1.0 in
    subst (λ (k : Choices). (symbol : Symbol) → length (k.keeps symbol) ≡ symbol.parameters)
    (sym c.requires.1.0)
    (each_kept g.which c.args.normal.now (merged c.args.normal.now))

pub returns-clause-model : goal.returns-clause-model
returns-clause-model g c =
    let normal : Normal = c.args.normal.now in
    let t : TypedTables = tables c.args.model.now in
    let choices_are = c.requires.1.0 in
    let merged = c.requires.1.1.0 in
    let applies = c.requires.1.1.1.0 in
    let sound = c.requires.1.1.1.1.0 in
    let encoded_is = c.requires.1.1.1.1.1.0 in
    let model = c.requires.1.1.1.1.1.1.0 in
    IfOk-weaker c.lower.result
    (λ s. s ≡ lowered (g.C.Choices.choices c.args.choices.now) normal t)
    (AreModel c.args.encoded.now.problem)
    (λ s is.
    subst (AreModel c.args.encoded.now.problem)
    (sym (is ∙ ap (λ (k : Choices). lowered k normal t) choices_are))
    (subst
    (λ (e : Encoded). AreModel e.problem (lowered (choices_of g.which normal) normal t))
    (sym encoded_is)
    (lowers_models g.which merged normal t sound applies model)))
    c.lower.ensures.exact
