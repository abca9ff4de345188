use Rattle.std.proofs.Common.{◌≡◌, ◌<◌, length, sym, ap, ◌∙◌, subst, arith}
use Rattle.std.proofs.Common.{eqb-true}
use Rattle.std.proofs.lemmas.Bool.{eqb-false}
use Rattle.std.proofs.lemmas.List.{length-map}
use Rattle.tf_core.specs.declared.signature.Constructor.{Constructor}
use Rattle.tf_models.specs.Reading.{tables}
use Rattle.model_tables.specs.Faults.{limit_faults_of}
use Rattle.model_tables.specs.Checks.{Checks}
use Rattle.model_tables.specs.Typed.{typed_entries}
use Rattle.model_tables.specs.Marks.{missing_among}
use Rattle.model_tables.proofs.PartFacts.{all_fit, few}
use Rattle.model_tables.proofs.ItemEnds.{entries_known, entries_unknown}
use Rattle.model_tables.proofs.known.Known.check_all.Goals as goal

pub returns-then-not-all-clause-checks : goal.returns-then-not-all-clause-checks
returns-then-not-all-clause-checks c t said =
    let g = c.args.self.now.signature.now in
    let other = eqb-false (missing_among c.args.part.now.constructors) 0
    (sym c.all.ensures ∙ c.if-not-all.true) in
    let some : 0 < missing_among c.args.part.now.constructors = omega (arith, other) in
    ap limit_faults_of
    (entries_unknown g t c.args.part.now said
    (omega (
      arith,
      c.requires.part.constructor_marks,
      length-map g.constructors (λ (d : Constructor). d.name),
    )) some)

pub entries-requires-clause-constructors : goal.entries-requires-clause-constructors
entries-requires-clause-constructors c =
    all_fit c.args.self.now.signature.now c.args.part.now c.requires.part
    (eqb-true (missing_among c.args.part.now.constructors) 0
    (sym c.all.ensures ∙ c.if-not-all.false))

pub entries-requires-clause-few : goal.entries-requires-clause-few
entries-requires-clause-few c = few c.args.self.now.signature.now c.args.part.now c.requires.part

pub returns-clause-checks : goal.returns-clause-checks
returns-clause-checks c t said =
    let g = c.args.self.now.signature.now in
    subst (λ o. Checks (limit_faults_of o) c.check_limit.result)
    (sym (entries_known g t c.args.part.now said
    (eqb-true (missing_among c.args.part.now.constructors) 0
    (sym c.all.ensures ∙ c.if-not-all.false))))
    (c.check_limit.ensures (typed_entries g (tables c.args.part.now.structure))
    c.in_ok-entries.ensures)
