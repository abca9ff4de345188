use Rattle.std.proofs.Common.{◌≡◌, sym, ap, ◌∙◌, subst, eqb-true}
use Rattle.std.proofs.lemmas.Bool.{eqb-false}
use Rattle.model_tables.specs.Faults.{missing_faults}
use Rattle.model_tables.specs.Checks.{Checks}
use Rattle.model_tables.specs.Marks.{missing_among}
use Rattle.model_tables.proofs.MarkedNames.{first_unmarked-none}
use Rattle.model_tables.proofs.TypedChecks.{all_marked_by}
use Rattle.model_tables.proofs.known.Known.check_constructors.Goals as goal

pub returns-then-all-clause-checks : goal.returns-then-all-clause-checks
returns-then-all-clause-checks c =
    ap missing_faults
    (first_unmarked-none c.args.self.now.constructors c.args.part.now.constructors
    (eqb-true (missing_among c.args.part.now.constructors) 0
    (sym c.all.ensures ∙ c.if-all.true)))

pub returns-clause-all : goal.returns-clause-all
returns-clause-all c =
    all_marked_by c.args.self.now.constructors c.args.part.now.constructors c.check_missing.result
    c.requires
    (eqb-false (missing_among c.args.part.now.constructors) 0 (sym c.all.ensures ∙ c.if-all.false))
    (subst (λ o. Checks (missing_faults o) c.check_missing.result) c.first_unmarked.ensures
    c.check_missing.ensures)
