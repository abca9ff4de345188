use Rattle.std.proofs.Common.{sym, ◌∙◌}
use Rattle.std.proofs.lemmas.Bool.{false≢true}
use Rattle.tf_models.proofs.Entries.{constructors_fit}
use Rattle.tf_models.proofs.WellFormed.{well_formed_fits, fits_well_formed}
use Rattle.tf_models.proofs.structure.TypedStructure.well_formed.Goals as goal

pub returns-then-constructors_fit : goal.returns-then-constructors_fit
returns-then-constructors_fit c = record {
  exact = (
    λ holds. fits_well_formed c.args.signature.now c.args.self.now (c.symbols_fit.ensures.0 holds),
    λ well_formed. c.symbols_fit.ensures.1 (well_formed_fits c.args.signature.now c.args.self.now
        well_formed),
  );
}

pub returns-else-constructors_fit : goal.returns-else-constructors_fit
returns-else-constructors_fit c = record {
  exact = (
    λ holds. absurd (false≢true (sym c.if-constructors_fit.false ∙ holds)),
    λ well_formed.
        c.constructors_fit.ensures.1 (constructors_fit c.args.signature.now c.args.self.now
        well_formed),
  );
}
