use Rattle.std.proofs.Common.{◌∙◌, Bool, List, length, ap}
use Rattle.enc_marks.specs.Axioms.{closed}
use Rattle.enc_marks.specs.Calls.Writing.{premises_in}
use Rattle.enc_marks.proofs.Results.{ok_with}
use Rattle.enc_marks.proofs.Guarded.{AxiomParts, typing_axiom-parts}
use Rattle.enc_marks.proofs.writer.Writer.typing_axiom.Goals as goal

pub returns : goal.returns
returns g c =
    let choices = g.C.Choices.choices c.args.self.now.choices.now in
    let normal = c.args.self.now.types.normal.now in
    let symbol = c.args.shape.now.symbol.now in
    let depth = c.args.depth in
    let parts : AxiomParts choices normal c.args.f symbol c.args.value.now depth
    c.in_ok-premises.premises
    c.in_ok-term.term c.in_ok-conclusion.conclusion = record {
      depth_is = c.requires.depth_is;
      premises_are = c.in_ok-premises.ensures.exact
          ∙ ap (λ (flags : List Bool). premises_in choices normal depth flags symbol.arguments
          (length symbol.arguments))
          c.requires.shape.covers_are;
      term_is = c.in_ok-term.ensures.exact;
      conclusion_is = c.in_ok-conclusion.ensures;
    } in
    record {
      exact = ok_with c.under.result
          (λ made is. ap (closed depth) is
          ∙ typing_axiom-parts choices normal c.args.f symbol c.args.value.now depth
          c.in_ok-premises.premises
          c.in_ok-term.term c.in_ok-conclusion.conclusion parts)
          c.under.ensures;
    }
