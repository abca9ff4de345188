use Rattle.std.proofs.Common.{false, List, length, map, flat_map, drop, sum, refl, ap, ◌∙◌, arith}
use Rattle.tptp_syntax.specs.declared.formula.RawFormula.{RawFormula}
use Rattle.tptp_syntax.specs.FileSizes.{formula_nodes}
use Rattle.tf_check.specs.Names.{parameters_in, names_of_term, names_of_formula}
use Rattle.tf_check.proofs.KindSteps.{sum_within}
use Rattle.tf_check.proofs.NameLemmas as n
use Rattle.tf_check.proofs.NodeLemmas as m
use Rattle.tf_check.proofs.UseLemmas.{on_ok, head, uses_head, uses_two, uses_next, all_of-map}
use Rattle.tf_check.proofs.names.+add_formula.Goals as goal

pub add_both-returns : goal.add_both-returns
add_both-returns t c =
    on_ok c.add_formula-2.result
    (λ second. uses_two c.args.table.now c.add_formula.new.table c.add_formula-2.new.table
    (λ p. names_of_formula p c.args.left.now) (λ p. names_of_formula p c.args.right.now)
    c.in_ok-add_formula.ensures second)
    c.add_formula-2.ensures

pub add_formula-returns-in-True : goal.add_formula-returns-in-True
add_formula-returns-in-True t c =
    rw (c.in-True.is, n.names_of_formula-true (parameters_in c.args.table.now.symbols)) refl

pub add_formula-returns-in-False : goal.add_formula-returns-in-False
add_formula-returns-in-False t c =
    rw (c.in-False.is, n.names_of_formula-false (parameters_in c.args.table.now.symbols)) refl

pub add_formula-returns-in_ok-terms-in-Atom : goal.add_formula-returns-in_ok-terms-in-Atom
add_formula-returns-in_ok-terms-in-Atom t c =
    let p = parameters_in c.args.table.now.symbols in
    rw (
      c.in-Atom.is,
      n.names_of_formula-atom (parameters_in c.args.table.now.symbols)
          c.in-Atom.name c.in-Atom.parts,
    )
    (on_ok c.add_terms.result
    (λ second. uses_head c.args.table.now c.add_head.new.table c.add_terms.new.table
    (head c.in-Atom.name (length c.in-Atom.parts) false)
    (λ q. flat_map (names_of_term q) (drop (p c.in-Atom.name) c.in-Atom.parts))
    (rw c.as_slice.ensures at c.in_ok-terms-in-Atom.ensures.added)
    (rw (rw c.as_slice.ensures at c.in_ok-terms-in-Atom.ensures.terms) at second))
    c.add_terms.ensures)

pub add_formula-returns-in-Equal : goal.add_formula-returns-in-Equal
add_formula-returns-in-Equal t c =
    rw (
      c.in-Equal.is,
      n.names_of_formula-equal (parameters_in c.args.table.now.symbols)
          c.in-Equal.left c.in-Equal.right,
    ) c.add_sides.ensures

pub add_formula-returns-in-Unequal : goal.add_formula-returns-in-Unequal
add_formula-returns-in-Unequal t c =
    rw (
      c.in-Unequal.is,
      n.names_of_formula-unequal (parameters_in c.args.table.now.symbols)
          c.in-Unequal.left c.in-Unequal.right,
    ) c.add_sides-in-Unequal.ensures

pub add_formula-returns-in-Not : goal.add_formula-returns-in-Not
add_formula-returns-in-Not t c =
    rw (c.in-Not.is, n.names_of_formula-not (parameters_in c.args.table.now.symbols) c.in-Not.part)
    (rw c.get.ensures at c.add_formula.ensures)

pub add_formula-returns-in-And : goal.add_formula-returns-in-And
add_formula-returns-in-And t c =
    rw (
      c.in-And.is,
      n.names_of_formula-and (parameters_in c.args.table.now.symbols) c.in-And.parts,
      all_of-map (names_of_formula (parameters_in c.args.table.now.symbols)) c.in-And.parts,
    )
    (rw c.as_slice-in-And.ensures at c.add_parts.ensures)

pub add_formula-returns-in-Or : goal.add_formula-returns-in-Or
add_formula-returns-in-Or t c =
    rw (
      c.in-Or.is,
      n.names_of_formula-or (parameters_in c.args.table.now.symbols) c.in-Or.parts,
      all_of-map (names_of_formula (parameters_in c.args.table.now.symbols)) c.in-Or.parts,
    )
    (rw c.as_slice-in-Or.ensures at c.add_parts-in-Or.ensures)

pub add_formula-returns-in-Implies : goal.add_formula-returns-in-Implies
add_formula-returns-in-Implies t c =
    rw (
      c.in-Implies.is,
      n.names_of_formula-implies (parameters_in c.args.table.now.symbols)
          c.in-Implies.a c.in-Implies.b,
    )
    (rw (c.get-in-Implies.ensures, c.get-in-Implies-2.ensures) at c.add_both.ensures)

pub add_formula-returns-in-If : goal.add_formula-returns-in-If
add_formula-returns-in-If t c =
    rw (
      c.in-If.is,
      n.names_of_formula-if (parameters_in c.args.table.now.symbols) c.in-If.a
          c.in-If.b,
    )
    (rw (c.get-in-If.ensures, c.get-in-If-2.ensures) at c.add_both-in-If.ensures)

pub add_formula-returns-in-Iff : goal.add_formula-returns-in-Iff
add_formula-returns-in-Iff t c =
    rw (
      c.in-Iff.is,
      n.names_of_formula-iff (parameters_in c.args.table.now.symbols) c.in-Iff.a
          c.in-Iff.b,
    )
    (rw (c.get-in-Iff.ensures, c.get-in-Iff-2.ensures) at c.add_both-in-Iff.ensures)

pub add_formula-returns-in-Xor : goal.add_formula-returns-in-Xor
add_formula-returns-in-Xor t c =
    rw (
      c.in-Xor.is,
      n.names_of_formula-xor (parameters_in c.args.table.now.symbols) c.in-Xor.a
          c.in-Xor.b,
    )
    (rw (c.get-in-Xor.ensures, c.get-in-Xor-2.ensures) at c.add_both-in-Xor.ensures)

pub add_formula-returns-in-Nand : goal.add_formula-returns-in-Nand
add_formula-returns-in-Nand t c =
    rw (
      c.in-Nand.is,
      n.names_of_formula-nand (parameters_in c.args.table.now.symbols) c.in-Nand.a
          c.in-Nand.b,
    )
    (rw (c.get-in-Nand.ensures, c.get-in-Nand-2.ensures) at c.add_both-in-Nand.ensures)

pub add_formula-returns-in-Nor : goal.add_formula-returns-in-Nor
add_formula-returns-in-Nor t c =
    rw (
      c.in-Nor.is,
      n.names_of_formula-nor (parameters_in c.args.table.now.symbols) c.in-Nor.a
          c.in-Nor.b,
    )
    (rw (c.get-in-Nor.ensures, c.get-in-Nor-2.ensures) at c.add_both-in-Nor.ensures)

pub add_formula-returns-in-ForAll : goal.add_formula-returns-in-ForAll
add_formula-returns-in-ForAll t c =
    rw (
      c.in-ForAll.is,
      n.names_of_formula-for_all (parameters_in c.args.table.now.symbols)
          c.in-ForAll.field-0 c.in-ForAll.body,
    )
    (rw c.get-in-ForAll.ensures at c.add_formula-in-ForAll.ensures)

pub add_formula-returns-in-Exists : goal.add_formula-returns-in-Exists
add_formula-returns-in-Exists t c =
    rw (
      c.in-Exists.is,
      n.names_of_formula-exists (parameters_in c.args.table.now.symbols)
          c.in-Exists.field-0 c.in-Exists.body,
    )
    (rw c.get-in-Exists.ensures at c.add_formula-in-Exists.ensures)

pub add_parts-loop-part-preserved : goal.add_parts-loop-part-preserved
add_parts-loop-part-preserved t c =
    uses_next c.args.table.now c.loop-part.table c.add_formula.new.table names_of_formula
    c.args.parts.now
    c.loop-part.part-index c.part-item.result c.loop-part-test.true c.part-item.is
    c.loop-part.invariant
    c.in_ok-add_formula.ensures

-- ---- each call is of a smaller tree

pub add_formula-add_formula-requires : goal.add_formula-add_formula-requires
add_formula-add_formula-requires t c =
    let size = ap formula_nodes c.in-Not.is ∙ m.formula_nodes-not c.in-Not.part in
    (omega (arith, size, ap formula_nodes c.get.ensures), tt)

pub add_formula-add_parts-requires : goal.add_formula-add_parts-requires
add_formula-add_parts-requires t c =
    let size = ap formula_nodes c.in-And.is ∙ m.formula_nodes-and c.in-And.parts in
    let own = ap (λ (xs : List RawFormula). sum (map formula_nodes xs))
    c.as_slice-in-And.ensures in
    (omega (arith, size, own), tt)

pub add_formula-add_parts-requires-in-Or : goal.add_formula-add_parts-requires-in-Or
add_formula-add_parts-requires-in-Or t c =
    let size = ap formula_nodes c.in-Or.is ∙ m.formula_nodes-or c.in-Or.parts in
    let own = ap (λ (xs : List RawFormula). sum (map formula_nodes xs)) c.as_slice-in-Or.ensures in
    (omega (arith, size, own), tt)

pub add_formula-add_both-requires : goal.add_formula-add_both-requires
add_formula-add_both-requires t c =
    let size = ap formula_nodes c.in-Implies.is
    ∙ m.formula_nodes-implies c.in-Implies.a c.in-Implies.b in
    let left = ap formula_nodes c.get-in-Implies.ensures in
    let right = ap formula_nodes c.get-in-Implies-2.ensures in
    (omega (arith, size, left, right), tt)

pub add_formula-add_both-requires-in-If : goal.add_formula-add_both-requires-in-If
add_formula-add_both-requires-in-If t c =
    let size = ap formula_nodes c.in-If.is ∙ m.formula_nodes-if c.in-If.a c.in-If.b in
    let left = ap formula_nodes c.get-in-If.ensures in
    let right = ap formula_nodes c.get-in-If-2.ensures in
    (omega (arith, size, left, right), tt)

pub add_formula-add_both-requires-in-Iff : goal.add_formula-add_both-requires-in-Iff
add_formula-add_both-requires-in-Iff t c =
    let size = ap formula_nodes c.in-Iff.is ∙ m.formula_nodes-iff c.in-Iff.a c.in-Iff.b in
    let left = ap formula_nodes c.get-in-Iff.ensures in
    let right = ap formula_nodes c.get-in-Iff-2.ensures in
    (omega (arith, size, left, right), tt)

pub add_formula-add_both-requires-in-Xor : goal.add_formula-add_both-requires-in-Xor
add_formula-add_both-requires-in-Xor t c =
    let size = ap formula_nodes c.in-Xor.is ∙ m.formula_nodes-xor c.in-Xor.a c.in-Xor.b in
    let left = ap formula_nodes c.get-in-Xor.ensures in
    let right = ap formula_nodes c.get-in-Xor-2.ensures in
    (omega (arith, size, left, right), tt)

pub add_formula-add_both-requires-in-Nand : goal.add_formula-add_both-requires-in-Nand
add_formula-add_both-requires-in-Nand t c =
    let size = ap formula_nodes c.in-Nand.is ∙ m.formula_nodes-nand c.in-Nand.a c.in-Nand.b in
    let left = ap formula_nodes c.get-in-Nand.ensures in
    let right = ap formula_nodes c.get-in-Nand-2.ensures in
    (omega (arith, size, left, right), tt)

pub add_formula-add_both-requires-in-Nor : goal.add_formula-add_both-requires-in-Nor
add_formula-add_both-requires-in-Nor t c =
    let size = ap formula_nodes c.in-Nor.is ∙ m.formula_nodes-nor c.in-Nor.a c.in-Nor.b in
    let left = ap formula_nodes c.get-in-Nor.ensures in
    let right = ap formula_nodes c.get-in-Nor-2.ensures in
    (omega (arith, size, left, right), tt)

pub add_formula-add_formula-requires-in-ForAll : goal.add_formula-add_formula-requires-in-ForAll
add_formula-add_formula-requires-in-ForAll t c =
    let size = ap formula_nodes c.in-ForAll.is
    ∙ m.formula_nodes-for_all c.in-ForAll.field-0 c.in-ForAll.body in
    (omega (arith, size, ap formula_nodes c.get-in-ForAll.ensures), tt)

pub add_formula-add_formula-requires-in-Exists : goal.add_formula-add_formula-requires-in-Exists
add_formula-add_formula-requires-in-Exists t c =
    let size = ap formula_nodes c.in-Exists.is
    ∙ m.formula_nodes-exists c.in-Exists.field-0 c.in-Exists.body in
    (omega (arith, size, ap formula_nodes c.get-in-Exists.ensures), tt)

pub add_parts-add_formula-requires : goal.add_parts-add_formula-requires
add_parts-add_formula-requires t c =
    let below = sum_within formula_nodes c.args.parts.now c.loop-part.part-index c.part-item.result
    c.loop-part-test.true c.part-item.is in
    (omega (arith, below), tt)
