use Rattle.std.proofs.Common.{sym, ap, ◌∙◌}
use Rattle.tf_naked.specs.Covers.{parameter_of}
use Rattle.tf_naked.proofs.Covers.{parameter_of-variable, parameter_of-apply}
use Rattle.enc_cover.proofs.Places.{mark-cover, mark-no_cover, mark-no_parameter, parameter_here}
use Rattle.enc_cover.proofs.sought.is_cover.Goals as goal

pub returns-in-Some : goal.returns-in-Some
returns-in-Some c =
    record {
      exact = mark-cover c.args.symbol.now c.args.place c.in-Var.parameter c.in-Some.cover
          (parameter_here c.args.symbol.now c.args.place c.index-as_slice-place.result
          c.as_slice.result.now c.as_slice.ensures c.requires.within c.index-as_slice-place.is
          ∙ ap parameter_of c.in-Var.is
          ∙ parameter_of-variable c.in-Var.parameter)
          (sym c.cover_of.ensures.exact ∙ c.in-Some.is);
    }

pub returns-in-None : goal.returns-in-None
returns-in-None c =
    record {
      exact = mark-no_cover c.args.symbol.now c.args.place c.in-Var.parameter
          (parameter_here c.args.symbol.now c.args.place c.index-as_slice-place.result
          c.as_slice.result.now c.as_slice.ensures c.requires.within c.index-as_slice-place.is
          ∙ ap parameter_of c.in-Var.is
          ∙ parameter_of-variable c.in-Var.parameter)
          (sym c.cover_of.ensures.exact ∙ c.in-None.is);
    }

pub returns-in-Apply : goal.returns-in-Apply
returns-in-Apply c =
    record {
      exact = mark-no_parameter c.args.symbol.now c.args.place
          (parameter_here c.args.symbol.now c.args.place c.index-as_slice-place.result
          c.as_slice.result.now c.as_slice.ensures c.requires.within c.index-as_slice-place.is
          ∙ ap parameter_of c.in-Apply.is
          ∙ parameter_of-apply c.in-Apply.field-0 c.in-Apply.field-1);
    }
