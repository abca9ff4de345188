use Rattle.tf_nnf.proofs.Lists.{ok_same}
use Rattle.tf_nnf.proofs.Made.{made-true, made-false, made-atom, made-equal, made-not, made-and, made-or, made-implies, made-if, made-iff, made-xor, made-nand, made-nor, made-for_all, made-exists}
use Rattle.tf_nnf.proofs.form.+form.Goals as goal

pub form-returns-in-True : goal.form-returns-in-True
form-returns-in-True t c =
    let layer = made-true c.args.fresh.first c.args.fresh.count c.args.positive in
    cc (layer, c.in-True.is, c.constant.ensures)

pub form-returns-in-False : goal.form-returns-in-False
form-returns-in-False t c =
    let layer = made-false c.args.fresh.first c.args.fresh.count c.args.positive in
    cc (layer, c.in-False.is, c.constant-in-False.ensures)

pub form-returns-in-Atom : goal.form-returns-in-Atom
form-returns-in-Atom t c =
    let layer = made-atom c.args.fresh.first c.args.fresh.count c.args.positive c.in-Atom.f c.in-Atom.types c.in-Atom.terms in
    ok_same c.atom.result c.atom.ensures
    (cc (layer, c.in-Atom.is, c.as_slice.ensures, c.as_slice-in-Atom.ensures))

pub form-returns-in-Equal : goal.form-returns-in-Equal
form-returns-in-Equal t c =
    let layer = made-equal c.args.fresh.first c.args.fresh.count c.args.positive c.in-Equal.ty c.in-Equal.left c.in-Equal.right in
    ok_same c.equation.result c.equation.ensures
    (cc (layer, c.in-Equal.is))

pub form-returns-in-Not : goal.form-returns-in-Not
form-returns-in-Not t c =
    let layer = made-not c.args.fresh.first c.args.fresh.count c.args.positive c.in-Not.a in
    ok_same c.form.result c.form.ensures
    (cc (layer, c.in-Not.is, c.get.ensures))

pub form-returns-in-And : goal.form-returns-in-And
form-returns-in-And t c =
    let layer = made-and c.args.fresh.first c.args.fresh.count c.args.positive c.in-And.parts in
    ok_same c.list.result c.list.ensures
    (cc (layer, c.in-And.is, c.as_slice-in-And.ensures))

pub form-returns-in-Or : goal.form-returns-in-Or
form-returns-in-Or t c =
    let layer = made-or c.args.fresh.first c.args.fresh.count c.args.positive c.in-Or.parts in
    ok_same c.list-in-Or.result c.list-in-Or.ensures
    (cc (layer, c.in-Or.is, c.as_slice-in-Or.ensures))

pub form-returns-in_ok-right-in-Implies : goal.form-returns-in_ok-right-in-Implies
form-returns-in_ok-right-in-Implies t c =
    let layer = made-implies c.args.fresh.first c.args.fresh.count c.args.positive c.in-Implies.a c.in-Implies.b in
    ok_same c.pair.result c.pair.ensures
    (cc (layer, c.in-Implies.is, c.in_ok-left-in-Implies.ensures, c.in_ok-right-in-Implies.ensures, c.get-in-Implies.ensures, c.get-in-Implies-2.ensures))

pub form-returns-in_ok-right-in-If : goal.form-returns-in_ok-right-in-If
form-returns-in_ok-right-in-If t c =
    let layer = made-if c.args.fresh.first c.args.fresh.count c.args.positive c.in-If.a c.in-If.b in
    ok_same c.pair-in-If.result c.pair-in-If.ensures
    (cc (layer, c.in-If.is, c.in_ok-left-in-If.ensures, c.in_ok-right-in-If.ensures, c.get-in-If.ensures, c.get-in-If-2.ensures))

pub form-returns-in_ok-right-in-Iff : goal.form-returns-in_ok-right-in-Iff
form-returns-in_ok-right-in-Iff t c =
    let layer = made-iff c.args.fresh.first c.args.fresh.count c.args.positive c.in-Iff.a c.in-Iff.b in
    ok_same c.equivalence.result c.equivalence.ensures
    (cc (layer, c.in-Iff.is, c.in_ok-left-in-Iff.ensures.positive, c.in_ok-left-in-Iff.ensures.negative, c.in_ok-right-in-Iff.ensures.positive, c.in_ok-right-in-Iff.ensures.negative, c.get-in-Iff.ensures, c.get-in-Iff-2.ensures))

pub form-returns-in_ok-right-in-Xor : goal.form-returns-in_ok-right-in-Xor
form-returns-in_ok-right-in-Xor t c =
    let layer = made-xor c.args.fresh.first c.args.fresh.count c.args.positive c.in-Xor.a c.in-Xor.b in
    ok_same c.equivalence-in-Xor.result c.equivalence-in-Xor.ensures
    (cc (layer, c.in-Xor.is, c.in_ok-left-in-Xor.ensures.positive, c.in_ok-left-in-Xor.ensures.negative, c.in_ok-right-in-Xor.ensures.positive, c.in_ok-right-in-Xor.ensures.negative, c.get-in-Xor.ensures, c.get-in-Xor-2.ensures))

pub form-returns-in_ok-right-in-Nand : goal.form-returns-in_ok-right-in-Nand
form-returns-in_ok-right-in-Nand t c =
    let layer = made-nand c.args.fresh.first c.args.fresh.count c.args.positive c.in-Nand.a c.in-Nand.b in
    ok_same c.pair-in-Nand.result c.pair-in-Nand.ensures
    (cc (layer, c.in-Nand.is, c.in_ok-left-in-Nand.ensures, c.in_ok-right-in-Nand.ensures, c.get-in-Nand.ensures, c.get-in-Nand-2.ensures))

pub form-returns-in_ok-right-in-Nor : goal.form-returns-in_ok-right-in-Nor
form-returns-in_ok-right-in-Nor t c =
    let layer = made-nor c.args.fresh.first c.args.fresh.count c.args.positive c.in-Nor.a c.in-Nor.b in
    ok_same c.pair-in-Nor.result c.pair-in-Nor.ensures
    (cc (layer, c.in-Nor.is, c.in_ok-left-in-Nor.ensures, c.in_ok-right-in-Nor.ensures, c.get-in-Nor.ensures, c.get-in-Nor-2.ensures))

pub form-returns-in-ForAll : goal.form-returns-in-ForAll
form-returns-in-ForAll t c =
    let layer = made-for_all c.args.fresh.first c.args.fresh.count c.args.positive c.in-ForAll.ty c.in-ForAll.body in
    ok_same c.quantifier.result c.quantifier.ensures
    (cc (layer, c.in-ForAll.is, c.get-in-ForAll.ensures))

pub form-returns-in-Exists : goal.form-returns-in-Exists
form-returns-in-Exists t c =
    let layer = made-exists c.args.fresh.first c.args.fresh.count c.args.positive c.in-Exists.ty c.in-Exists.body in
    ok_same c.quantifier-in-Exists.result c.quantifier-in-Exists.ensures
    (cc (layer, c.in-Exists.is, c.get-in-Exists.ensures))
