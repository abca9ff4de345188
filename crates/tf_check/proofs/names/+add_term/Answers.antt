use Rattle.std.proofs.Common.{true, List, length, map, flat_map, drop, sum, sym, ap, ◌∙◌, arith}
use Rattle.tptp_syntax.specs.declared.term.RawTerm.{RawTerm}
use Rattle.tptp_syntax.specs.FileSizes.{term_nodes}
use Rattle.tf_check.specs.Names.{parameters_in, names_of_term}
use Rattle.tf_check.specs.Table.{with_uses}
use Rattle.tf_check.proofs.KindSteps.{sum_within}
use Rattle.tf_check.proofs.UseLemmas.{on_ok, head, uses_head, uses_next, names_of_term-apply, names_of_term-other, term_nodes-apply, nodes_behind}
use Rattle.tf_check.proofs.names.+add_term.Goals as goal

pub add_term-add_terms-requires : goal.add_term-add_terms-requires
add_term-add_terms-requires t c =
    let size = ap term_nodes c.in-Apply.is ∙ term_nodes-apply c.in-Apply.name c.in-Apply.parts in
    let terms = ap (λ (ts : List RawTerm). sum (map term_nodes ts))
    (rw c.as_slice.ensures at c.in_ok-terms-in-Apply.ensures.terms) in
    let behind = nodes_behind (parameters_in c.args.table.now.symbols c.in-Apply.name)
    c.in-Apply.parts in
    (omega (arith, size, terms, behind), tt)

pub add_term-returns-in_ok-terms-in-Apply : goal.add_term-returns-in_ok-terms-in-Apply
add_term-returns-in_ok-terms-in-Apply t c =
    let p = parameters_in c.args.table.now.symbols in
    rw (
      c.in-Apply.is,
      names_of_term-apply (parameters_in c.args.table.now.symbols)
          c.in-Apply.name c.in-Apply.parts,
    )
    (on_ok c.add_terms.result
    (λ second. uses_head c.args.table.now c.add_head.new.table c.add_terms.new.table
    (head c.in-Apply.name (length c.in-Apply.parts) true)
    (λ q. flat_map (names_of_term q) (drop (p c.in-Apply.name) c.in-Apply.parts))
    (rw c.as_slice.ensures at c.in_ok-terms-in-Apply.ensures.added)
    (rw (rw c.as_slice.ensures at c.in_ok-terms-in-Apply.ensures.terms) at second))
    c.add_terms.ensures)

pub add_term-returns-in_default : goal.add_term-returns-in_default
add_term-returns-in_default t c =
    ap (λ os. with_uses c.args.table.now os)
    (sym (names_of_term-other (parameters_in c.args.table.now.symbols) c.args.raw.now
    c.in_default.not-Apply))

pub add_terms-add_term-requires : goal.add_terms-add_term-requires
add_terms-add_term-requires t c =
    let below = sum_within term_nodes c.args.raws.now c.loop-raw.raw-index c.raw-item.result
    c.loop-raw-test.true c.raw-item.is in
    (omega (arith, below), tt)

pub add_terms-loop-raw-preserved : goal.add_terms-loop-raw-preserved
add_terms-loop-raw-preserved t c =
    uses_next c.args.table.now c.loop-raw.table c.add_term.new.table names_of_term c.args.raws.now
    c.loop-raw.raw-index c.raw-item.result c.loop-raw-test.true c.raw-item.is c.loop-raw.invariant
    c.in_ok-add_term.ensures
