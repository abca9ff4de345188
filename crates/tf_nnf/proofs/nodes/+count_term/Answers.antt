use Rattle.std.proofs.Common.{ap, arith}
use Rattle.tf_nnf.specs.Nodes.{term_nodes}
use Rattle.tf_nnf.proofs.NodeCounts.{term_nodes-var, term_nodes-apply}
use Rattle.tf_nnf.proofs.nodes.+count_term.Goals as goal

pub count_term-returns-in-Var : goal.count_term-returns-in-Var
count_term-returns-in-Var t c =
    omega (arith, ap term_nodes c.in-Var.is, term_nodes-var c.in-Var.field-0)

pub count_term-returns-in-Apply : goal.count_term-returns-in-Apply
count_term-returns-in-Apply t c =
    let is = ap term_nodes c.in-Apply.is in
    let layer = term_nodes-apply c.in-Apply.field-0 c.in-Apply.field-1 c.in-Apply.terms in
    let counted = rw c.as_slice.ensures at c.count_terms.ensures in
    omega (arith, is, layer, counted)
