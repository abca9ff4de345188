use Rattle.std.proofs.Common.{arith}
use Rattle.tf_nnf.proofs.NodeCounts.{counted, nodes-true, nodes-false, nodes-atom, nodes-equal, nodes-not, nodes-and, nodes-or, nodes-implies, nodes-if, nodes-iff, nodes-xor, nodes-nand, nodes-nor, nodes-for_all, nodes-exists}
use Rattle.tf_nnf.proofs.nodes.+count.Goals as goal

pub count-returns-in-True : goal.count-returns-in-True
count-returns-in-True t c =
    counted _ _ _ _ _ _ c.in-True.is nodes-true
    (omega arith) (omega arith)

pub count-returns-in-False : goal.count-returns-in-False
count-returns-in-False t c =
    counted _ _ _ _ _ _ c.in-False.is nodes-false
    (omega arith) (omega arith)

pub count-returns-in-Atom : goal.count-returns-in-Atom
count-returns-in-Atom t c =
    let terms = rw c.as_slice.ensures at c.count_terms.ensures in
    counted _ _ _ _ _ _ c.in-Atom.is (nodes-atom c.in-Atom.field-0 c.in-Atom.field-1 c.in-Atom.terms)
    (omega arith) (omega arith)

pub count-returns-in-Equal : goal.count-returns-in-Equal
count-returns-in-Equal t c =
    counted _ _ _ _ _ _ c.in-Equal.is (nodes-equal c.in-Equal.field-0 c.in-Equal.left c.in-Equal.right)
    (omega arith) (omega arith)

pub count-returns-in-Not : goal.count-returns-in-Not
count-returns-in-Not t c =
    let a = rw c.get.ensures at c.count.ensures in
    counted _ _ _ _ _ _ c.in-Not.is (nodes-not c.in-Not.a)
    (omega arith) (omega arith)

pub count-returns-in-And : goal.count-returns-in-And
count-returns-in-And t c =
    let parts = rw c.as_slice-in-And.ensures at c.count_all.ensures in
    counted _ _ _ _ _ _ c.in-And.is (nodes-and c.in-And.parts)
    (omega arith) (omega arith)

pub count-returns-in-Or : goal.count-returns-in-Or
count-returns-in-Or t c =
    let parts = rw c.as_slice-in-Or.ensures at c.count_all-in-Or.ensures in
    counted _ _ _ _ _ _ c.in-Or.is (nodes-or c.in-Or.parts)
    (omega arith) (omega arith)

pub count-returns-in-Implies : goal.count-returns-in-Implies
count-returns-in-Implies t c =
    let a = rw c.get-in-Implies.ensures at c.count-in-Implies.ensures in
    let b = rw c.get-in-Implies-2.ensures at c.count-in-Implies-2.ensures in
    counted _ _ _ _ _ _ c.in-Implies.is (nodes-implies c.in-Implies.a c.in-Implies.b)
    (omega arith) (omega arith)

pub count-returns-in-If : goal.count-returns-in-If
count-returns-in-If t c =
    let a = rw c.get-in-If.ensures at c.count-in-If.ensures in
    let b = rw c.get-in-If-2.ensures at c.count-in-If-2.ensures in
    counted _ _ _ _ _ _ c.in-If.is (nodes-if c.in-If.a c.in-If.b)
    (omega arith) (omega arith)

pub count-returns-in-Iff : goal.count-returns-in-Iff
count-returns-in-Iff t c =
    let a = rw c.get-in-Iff.ensures at c.count-in-Iff.ensures in
    let b = rw c.get-in-Iff-2.ensures at c.count-in-Iff-2.ensures in
    counted _ _ _ _ _ _ c.in-Iff.is (nodes-iff c.in-Iff.a c.in-Iff.b)
    (omega arith) (omega arith)

pub count-returns-in-Xor : goal.count-returns-in-Xor
count-returns-in-Xor t c =
    let a = rw c.get-in-Xor.ensures at c.count-in-Xor.ensures in
    let b = rw c.get-in-Xor-2.ensures at c.count-in-Xor-2.ensures in
    counted _ _ _ _ _ _ c.in-Xor.is (nodes-xor c.in-Xor.a c.in-Xor.b)
    (omega arith) (omega arith)

pub count-returns-in-Nand : goal.count-returns-in-Nand
count-returns-in-Nand t c =
    let a = rw c.get-in-Nand.ensures at c.count-in-Nand.ensures in
    let b = rw c.get-in-Nand-2.ensures at c.count-in-Nand-2.ensures in
    counted _ _ _ _ _ _ c.in-Nand.is (nodes-nand c.in-Nand.a c.in-Nand.b)
    (omega arith) (omega arith)

pub count-returns-in-Nor : goal.count-returns-in-Nor
count-returns-in-Nor t c =
    let a = rw c.get-in-Nor.ensures at c.count-in-Nor.ensures in
    let b = rw c.get-in-Nor-2.ensures at c.count-in-Nor-2.ensures in
    counted _ _ _ _ _ _ c.in-Nor.is (nodes-nor c.in-Nor.a c.in-Nor.b)
    (omega arith) (omega arith)

pub count-returns-in-ForAll : goal.count-returns-in-ForAll
count-returns-in-ForAll t c =
    let body = rw c.get-in-ForAll.ensures at c.count-in-ForAll.ensures in
    counted _ _ _ _ _ _ c.in-ForAll.is (nodes-for_all c.in-ForAll.field-0 c.in-ForAll.body)
    (omega arith) (omega arith)

pub count-returns-in-Exists : goal.count-returns-in-Exists
count-returns-in-Exists t c =
    let body = rw c.get-in-Exists.ensures at c.count-in-Exists.ensures in
    counted _ _ _ _ _ _ c.in-Exists.is (nodes-exists c.in-Exists.field-0 c.in-Exists.body)
    (omega arith) (omega arith)
