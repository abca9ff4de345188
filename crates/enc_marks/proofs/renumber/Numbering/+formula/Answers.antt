use Rattle.enc_marks.specs.Calls.Flags.{number_of}
use Rattle.enc_marks.proofs.Occurrence.{renumber-true, renumber-false, renumber-atom, renumber-equal, renumber-not, renumber-and, renumber-or, renumber-implies, renumber-for_all, renumber-exists}
use Rattle.enc_marks.proofs.renumber.Numbering.+formula.Goals as goal

pub formula-returns-in-True : goal.formula-returns-in-True
formula-returns-in-True t c =
    let layer = renumber-true (number_of c.args.self.now) in
    cc (layer, c.in-True.is)

pub formula-returns-in-False : goal.formula-returns-in-False
formula-returns-in-False t c =
    let layer = renumber-false (number_of c.args.self.now) in
    cc (layer, c.in-False.is)

pub formula-returns-in_ok-terms-in-Atom : goal.formula-returns-in_ok-terms-in-Atom
formula-returns-in_ok-terms-in-Atom t c =
    let layer = renumber-atom (number_of c.args.self.now) c.in-Atom.p c.in-Atom.terms in
    cc (layer, c.in-Atom.is, c.as_slice.ensures, c.in_ok-terms-in-Atom.ensures, c.number.ensures)

pub formula-returns-in_ok-right-in-Equal : goal.formula-returns-in_ok-right-in-Equal
formula-returns-in_ok-right-in-Equal t c =
    let layer = renumber-equal (number_of c.args.self.now) c.in-Equal.left c.in-Equal.right in
    cc (layer, c.in-Equal.is, c.in_ok-left-in-Equal.ensures, c.in_ok-right-in-Equal.ensures)

pub formula-returns-in_ok-boxed-in-Not : goal.formula-returns-in_ok-boxed-in-Not
formula-returns-in_ok-boxed-in-Not t c =
    let layer = renumber-not (number_of c.args.self.now) c.in-Not.a in
    cc (layer, c.in-Not.is, c.in_ok-boxed-in-Not.ensures)

pub formula-returns-in_ok-formulas-in-And : goal.formula-returns-in_ok-formulas-in-And
formula-returns-in_ok-formulas-in-And t c =
    let layer = renumber-and (number_of c.args.self.now) c.in-And.parts in
    cc (layer, c.in-And.is, c.as_slice-in-And.ensures, c.in_ok-formulas-in-And.ensures)

pub formula-returns-in_ok-formulas-in-Or : goal.formula-returns-in_ok-formulas-in-Or
formula-returns-in_ok-formulas-in-Or t c =
    let layer = renumber-or (number_of c.args.self.now) c.in-Or.parts in
    cc (layer, c.in-Or.is, c.as_slice-in-Or.ensures, c.in_ok-formulas-in-Or.ensures)

pub formula-returns-in_ok-b-in-Implies : goal.formula-returns-in_ok-b-in-Implies
formula-returns-in_ok-b-in-Implies t c =
    let layer = renumber-implies (number_of c.args.self.now) c.in-Implies.a c.in-Implies.b in
    cc (layer, c.in-Implies.is, c.in_ok-a-in-Implies.ensures, c.in_ok-b-in-Implies.ensures)

pub formula-returns-in_ok-boxed-in-ForAll : goal.formula-returns-in_ok-boxed-in-ForAll
formula-returns-in_ok-boxed-in-ForAll t c =
    let layer = renumber-for_all (number_of c.args.self.now) c.in-ForAll.body in
    cc (layer, c.in-ForAll.is, c.in_ok-boxed-in-ForAll.ensures)

pub formula-returns-in_ok-boxed-in-Exists : goal.formula-returns-in_ok-boxed-in-Exists
formula-returns-in_ok-boxed-in-Exists t c =
    let layer = renumber-exists (number_of c.args.self.now) c.in-Exists.body in
    cc (layer, c.in-Exists.is, c.in_ok-boxed-in-Exists.ensures)
