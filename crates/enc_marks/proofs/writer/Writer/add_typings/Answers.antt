use Rattle.std.proofs.Common.{◌≡◌, ◌≤◌, ◌<◌, ◌+◌, ◌++◌, ◌∷◌, [], List, take, length, append_assoc, ap, sym, ◌∙◌, arith}
use Rattle.std.specs.Prelude.{Option, slice_get}
use Rattle.std.proofs.lemmas.List.{append-nil, take_all, take_more, length-take}
use Rattle.tf_core.specs.declared.signature.Symbol.{Symbol}
use Rattle.fof_models.specs.declared.problem.FofFormula.{FofFormula}
use Rattle.enc_marks.specs.Calls.Closures.{closures}
use Rattle.enc_marks.specs.Calls.Writing.{typing_in}
use Rattle.enc_marks.specs.Encoded as specs
use Rattle.enc_marks.proofs.TypingAxioms.{typing_axioms-push}
use Rattle.enc_marks.proofs.Symbols.{slice_get-within}
use Rattle.enc_marks.proofs.writer.Writer.add_typings.Goals as goal

pub loop-f-init : goal.loop-f-init
loop-f-init g c = sym (append-nil (closures c.args.made.now))

pub loop-f-preserved : goal.loop-f-preserved
loop-f-preserved g c =
    let choices = g.C.Choices.choices c.args.self.now.choices.now in
    let normal = c.args.self.now.types.normal.now in
    let symbols = normal.signature.symbols in
    let f = c.loop-f.f in
    let count = ap (λ (items : List Symbol). length items) c.as_slice.ensures in
    let within : f < length symbols =
    omega (arith, c.loop-f-test.true, c.in_ok-count.ensures, count) in
    let before = closures c.args.made.now in
    let front = specs.typing_axioms choices normal 0 (take f symbols) in
    slice_get-within symbols f within
    (λ symbol here there.
    let at : f ≡ 0 + length (take f symbols) = omega (arith, length-take f symbols, within) in
    c.in_ok-add_typing.ensures
    ∙ ap (λ (made : List FofFormula). made ++ typing_in choices normal f (slice_get symbols f))
    c.loop-f.invariant
    ∙ ap (λ (one : Option Symbol). (before ++ front) ++ typing_in choices normal f one) here
    ∙ append_assoc before front _
    ∙ ap (λ (made : List FofFormula). before ++ made)
    (ap (λ n. front ++ specs.typing_of choices normal n symbol symbol.result) at
    ∙ sym (typing_axioms-push choices normal 0 (take f symbols) symbol)
    ∙ ap (λ (items : List Symbol). specs.typing_axioms choices normal 0 items)
    (sym (take_more symbols f symbol within
    ∙ ap (λ (one : Symbol). take f symbols ++ one ∷ []) there))))

pub returns : goal.returns
returns g c =
    let choices = g.C.Choices.choices c.args.self.now.choices.now in
    let normal = c.args.self.now.types.normal.now in
    let symbols = normal.signature.symbols in
    let count = ap (λ (items : List Symbol). length items) c.as_slice.ensures in
    let enough : length symbols ≤ c.loop-f.f =
    omega (arith, c.loop-f-test.false, c.in_ok-count.ensures, count) in
    c.loop-f.invariant
    ∙ ap (λ (items : List Symbol). closures c.args.made.now ++ specs.typing_axioms choices normal 0
    items)
    (take_all c.loop-f.f symbols enough)
