use Rattle.std.proofs.Common.{◌≡◌, IsTrue, sym, subst, ap, ◌∙◌}
use Rattle.std.proofs.lemmas.Result.{IfOk-weaker}
use Rattle.tf_core.specs.declared.normal.Normal.{Normal}
use Rattle.tf_core.specs.Sound.{is_monomorphic}
use Rattle.tf_core.specs.TypedTables.{TypedTables}
use Rattle.tf_models.specs.Reading.{tables}
use Rattle.fof_models.specs.Models.{AreModel}
use Rattle.enc_marks.specs.declared.encoded.Encoded.{Encoded}
use Rattle.enc_marks.specs.declared.choices.Marking.TheVariants.{ByType, BySort}
use Rattle.enc_marks.specs.Choices.{Choices}
use Rattle.enc_marks.specs.Schemes.{choices_of}
use Rattle.enc_models.specs.Bare.{WritesTypeArguments}
use Rattle.enc_models.specs.Lowered.{lowered}
use Rattle.enc_models.proofs.CollapsedSchemes.{types_written}
use Rattle.enc_models.proofs.SortMarked.{sorts_monomorphic}
use Rattle.enc_models.proofs.KeepsModels.{collapsed_lower}
use Rattle.enc_models.proofs.schemes.lower_collapsed_by.Goals as goal

pub lower_collapsed-requires-clause-by_type : goal.lower_collapsed-requires-clause-by_type
lower_collapsed-requires-clause-by_type g c =
    let normal : Normal = c.args.normal.now in
    let collapsed = c.requires.1.1.0 in
    subst (λ (k : Choices). k.marking ≡ ByType → WritesTypeArguments k) (sym c.requires.1.0)
    (types_written g.which normal (collapsed normal))

pub lower_collapsed-requires-clause-by_sort : goal.lower_collapsed-requires-clause-by_sort
lower_collapsed-requires-clause-by_sort g c =
    let normal : Normal = c.args.normal.now in
    subst (λ (k : Choices). k.marking ≡ BySort → IsTrue (is_monomorphic normal))
    (sym c.requires.1.0)
    (sorts_monomorphic g.which normal c.requires.1.1.1.0)

pub returns-clause-model : goal.returns-clause-model
returns-clause-model g c =
    let normal : Normal = c.args.normal.now in
    let t : TypedTables = tables c.args.model.now in
    let choices_are = c.requires.1.0 in
    let collapsed = c.requires.1.1.0 in
    let applies = c.requires.1.1.1.0 in
    let sound = c.requires.1.1.1.1.0 in
    let encoded_is = c.requires.1.1.1.1.1.0 in
    let model = c.requires.1.1.1.1.1.1.0 in
    IfOk-weaker c.lower_collapsed.result
    (λ s. s ≡ lowered (g.C.Choices.choices c.args.choices.now) normal t)
    (AreModel c.args.encoded.now.problem)
    (λ s is.
    subst (AreModel c.args.encoded.now.problem)
    (sym (is ∙ ap (λ (k : Choices). lowered k normal t) choices_are))
    (subst
    (λ (e : Encoded). AreModel e.problem (lowered (choices_of g.which normal) normal t))
    (sym encoded_is)
    (collapsed_lower g.which collapsed normal t sound applies model)))
    c.lower_collapsed.ensures.exact
