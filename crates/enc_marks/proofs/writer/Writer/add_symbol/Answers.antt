use Rattle.std.proofs.Common.{◌≡◌, ◌∷◌, [], Bool, true, List, cond, rules, refl, ap, sym, subst, ◌∙◌}
use Rattle.std.specs.Prelude.{Option}
use Rattle.tf_core.specs.declared.signature.Symbol.{Symbol}
use Rattle.fof_models.specs.declared.problem.FofSymbol.{FofSymbol}
use Rattle.enc_marks.specs.declared.mark.Mark.TheVariants as mark
use Rattle.enc_marks.specs.Encoded.{MarkedSymbol, marked_symbol}
use Rattle.enc_marks.specs.Calls.Flags.{is_set}
use Rattle.enc_marks.specs.Calls.Marked.{MarksAdded}
use Rattle.enc_marks.specs.Calls.Writing.{marked_in}
use Rattle.enc_marks.specs.Occurrence.{passing}
use Rattle.enc_marks.proofs.Results.{on_ok}
use Rattle.enc_marks.proofs.writer.Writer.add_symbol.Goals as goal

pub returns : goal.returns
returns g c =
    let choices = g.C.Choices.choices c.args.self.now.choices.now in
    let test = is_set c.args.occurring.now in
    let f = c.args.f in
    let symbol = c.in-Some.shape.symbol.now in
    let found = c.in-Some.ensures in
    let up : c.has.result ≡ true = search (rules, c.if-not-has.false) in
    let made = c.in_ok-symbol_of.ensures choices c.args.self.now.types.normal.now
    (record {
      symbol_is = refl;
      covers_are = found.covers_are;
      kept_are = found.kept_are;
      slots_are = found.slots_are;
      ground = found.ground;
    }) f in
    on_ok c.push.result
    (subst (λ (list : List MarkedSymbol). MarksAdded c.args.marked.now c.push.new.self list)
    (ap (λ (made : FofSymbol). record { mark = mark.Symbol f; symbol = made } ∷ []) made
    ∙ ap (λ (b : Bool). cond b (marked_symbol choices f symbol ∷ []) []) (sym up ∙ c.has.ensures)
    ∙ sym (ap (λ (one : Option Symbol). passing test f (marked_in choices f one)) found.symbol_is)))
    c.push.ensures
