use Rattle.std.proofs.Common.{Bool, List, map, ap, sym, ◌∙◌}
use Rattle.std.proofs.Math.Path.{fun_ext}
use Rattle.tf_core.specs.declared.signature.Symbol.{Symbol}
use Rattle.enc_marks.specs.Choices.{kept_types}
use Rattle.enc_marks.specs.declared.open_formula.OpenFormula.{OpenFormula}
use Rattle.enc_marks.specs.Calls.Closures.{closures}
use Rattle.enc_marks.specs.Calls.Flags.{is_set, number_of}
use Rattle.enc_marks.specs.Encoded.{is_present}
use Rattle.enc_marks.proofs.GroundArguments.{arguments_ground}
use Rattle.enc_marks.proofs.Assembly.{Parts, encoded-parts}
use Rattle.enc_marks.proofs.encoding.encode_with.Goals as goal

pub returns : goal.returns
returns g c =
    let choices = g.C.Choices.choices c.args.choices.now in
    let stated = closures c.in_ok-stated.stated in
    let parts : Parts choices c.args.normal.now stated (is_set c.in_ok-occurring.occurring)
    (number_of c.in_ok-numbering.numbering) c.in_ok-formulas.formulas c.in_ok-marked.marked.symbols
    c.in_ok-marked.marked.marks = record {
      stated_is = c.in_ok-stated.ensures;
      occurs_is = fun_ext (λ m. c.in_ok-occurring.ensures m
          ∙ ap (λ (list : List OpenFormula). is_present (closures list) m) c.as_slice-5.ensures);
      number_is = fun_ext c.in_ok-numbering.ensures;
      formulas_are = c.in_ok-formulas.ensures;
      symbols_are = c.in_ok-marked.ensures.symbols;
      marks_are = c.in_ok-marked.ensures.marks;
    } in
    record {
      exact = encoded-parts choices c.args.normal.now stated (is_set c.in_ok-occurring.occurring)
          (number_of c.in_ok-numbering.numbering) c.in_ok-formulas.formulas
          c.in_ok-marked.marked.symbols
          c.in_ok-marked.marked.marks parts;
    }

pub invariant_of-writer-clause-are_ground : goal.invariant_of-writer-clause-are_ground
invariant_of-writer-clause-are_ground g c =
    arguments_ground c.args.normal.now (g.C.Choices.choices c.args.choices.now).marking
    c.requires.sound c.requires.monomorphic

pub invariant_of-writer-clause-kept_are : goal.invariant_of-writer-clause-kept_are
invariant_of-writer-clause-kept_are g c =
    let symbols = c.args.normal.now.signature.symbols in
    c.as_slice-3.ensures ∙ c.in_ok-kept.ensures
    ∙ ap (map (kept_types c.keeps.result)) c.as_slice-symbols.ensures
    ∙ ap (λ (keeps : Symbol → List Bool). map keeps symbols)
    (fun_ext (λ symbol. sym (c.keeps.ensures symbol)))
