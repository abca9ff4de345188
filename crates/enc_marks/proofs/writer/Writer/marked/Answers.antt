use Rattle.std.proofs.Common.{◌+◌, ◌++◌, List, length, ap, sym, subst, ◌∙◌}
use Rattle.enc_marks.specs.declared.choices.Marking.{Marking}
use Rattle.enc_marks.specs.declared.choices.Binding.{Binding}
use Rattle.enc_marks.specs.Encoded.{MarkedSymbol, marked_symbols, marked_constructors, own_marks}
use Rattle.enc_marks.specs.Calls.Flags.{is_set}
use Rattle.enc_marks.specs.Calls.Marked.{Holds, MarksAdded}
use Rattle.enc_marks.specs.Calls.Slots.{marking_of}
use Rattle.enc_marks.specs.Occurrence.{passing}
use Rattle.enc_marks.proofs.Passing.{passing-parts, added-then, holds-added}
use Rattle.enc_marks.proofs.writer.Writer.marked.Goals as goal

pub returns : goal.returns
returns g c =
    let test = is_set c.args.occurring.now in
    let choices = g.C.Choices.choices c.args.self.now.choices.now in
    let normal = c.args.self.now.types.normal.now in
    let symbols = marked_symbols choices 0 normal.signature.symbols in
    let constructors = marked_constructors normal 0 normal.signature.constructors in
    let first = passing test 0 symbols in
    let second = passing test (length normal.signature.symbols) constructors in
    let at = length normal.signature.symbols + length normal.signature.constructors in
    let marking = marking_of c.args.self.now.types.marks in
    let own = own_marks normal choices.binding marking in
    let third = passing test at own in
    let empty = c.new-marked.result in
    let owned = subst (λ (binding : Binding). MarksAdded c.add_constructors.new.marked
    c.add_own.new.marked
    (passing test at (own_marks normal binding marking)))
    c.binding-binding.ensures c.in_ok-add_own.ensures in
    let all = added-then empty c.add_constructors.new.marked c.add_own.new.marked (first ++
    second) third
    (added-then empty c.add_symbols.new.marked c.add_constructors.new.marked first second
    c.in_ok-add_symbols.ensures c.in_ok-add_constructors.ensures)
    owned in
    subst (λ (list : List MarkedSymbol). Holds c.add_own.new.marked list)
    (sym (ap (λ (marking : Marking). passing test 0 (symbols ++ (constructors ++ own_marks normal
    choices.binding marking)))
    c.args.self.now.marking_is
    ∙ passing-parts test choices normal own))
    (holds-added empty c.add_own.new.marked ((first ++ second) ++ third) c.new-marked.ensures
    all)
