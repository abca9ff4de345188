use Rattle.std.proofs.Common.{◌≡◌, ◌≤◌, IfOk, sym, subst, ap, ◌∙◌}
use Rattle.std.proofs.lemmas.Result.{IfOk-weaker}
use Rattle.tf_core.specs.declared.normal.Normal.{Normal}
use Rattle.tf_core.specs.Structures.{IsStructure}
use Rattle.tf_core.specs.TypedTables.{AreNormalModel}
use Rattle.tf_models.specs.Reading.{tables}
use Rattle.enc_base.specs.Counts.{most_entries}
use Rattle.fof_models.specs.declared.structure.Structure.{Structure}
use Rattle.fof_models.specs.Models.{AreModel}
use Rattle.enc_marks.specs.declared.encoded.Encoded.{Encoded}
use Rattle.enc_marks.specs.Choices.{Choices}
use Rattle.enc_laws.proofs.SortSchemes.{models_lifted}
use Rattle.enc_models.specs.LiftedTables.{lifted_structure, lifted_tables, lifted_entries}
use Rattle.enc_models.proofs.KeepsModels.{lifts_models}
use Rattle.enc_models.proofs.SortMarked.{sorts_monomorphic}
use Rattle.enc_models.proofs.schemes.lift_by.Goals as goal

pub lift-requires-clause-monomorphic : goal.lift-requires-clause-monomorphic
lift-requires-clause-monomorphic g c by_sort =
    sorts_monomorphic g.which c.args.normal.now c.requires.1.1.1.0
    (ap (λ (k : Choices). k.marking) (sym c.requires.1.0) ∙ by_sort)

pub lift-requires-clause-fits : goal.lift-requires-clause-fits
lift-requires-clause-fits g c =
    let normal : Normal = c.args.normal.now in
    let s : Structure = c.args.model.now in
    let choices_are = c.requires.1.0 in
    let applies = c.requires.1.1.1.0 in
    let sound = c.requires.1.1.1.1.0 in
    let encoded_is = c.requires.1.1.1.1.1.0 in
    let model = c.requires.1.1.1.1.1.1 in
    subst (λ (k : Choices). IsStructure normal.signature (lifted_structure k normal s))
    (sym choices_are)
    (models_lifted g.which normal s sound applies
    (subst (λ (e : Encoded). AreModel e.problem s) encoded_is model)).structure

pub returns-clause-model : goal.returns-clause-model
returns-clause-model g c =
    let normal : Normal = c.args.normal.now in
    let s : Structure = c.args.model.now in
    let choices_are = c.requires.1.0 in
    let applies = c.requires.1.1.1.0 in
    let sound = c.requires.1.1.1.1.0 in
    let encoded_is = c.requires.1.1.1.1.1.0 in
    let model = c.requires.1.1.1.1.1.1 in
    IfOk-weaker c.lift.result
    (λ t. tables t ≡ lifted_tables (g.C.Choices.choices c.args.choices.now) normal s)
    (λ t. AreNormalModel normal (tables t))
    (λ t is.
    subst (AreNormalModel normal)
    (sym (is ∙ ap (λ (k : Choices). lifted_tables k normal s) choices_are))
    (lifts_models g.which normal s sound applies
    (subst (λ (e : Encoded). AreModel e.problem s) encoded_is model)))
    c.lift.ensures.exact

pub returns-clause-within : goal.returns-clause-within
returns-clause-within g c =
    subst
    (λ (k : Choices). IfOk c.lift.result
    (λ t. lifted_entries k c.args.normal.now c.args.model.now ≤ most_entries))
    c.requires.1.0 c.lift.ensures.within
