use Rattle.std.proofs.Common.{sym, ap, ◌∙◌, ◌+◌, length}
use Rattle.std.specs.Prelude.{true, slice_get}
use Rattle.fof_models.specs.Sound.{is_symbol, is_term, are_terms, is_formula, are_formulas}
use Rattle.fof_models.proofs.Sound.{is_formula-true, is_formula-false, is_formula-atom, is_formula-equal, is_formula-not, is_formula-and, is_formula-or, is_formula-implies}
use Rattle.fof_models.proofs.Tested.{and_then, and_else, Counts-plus}
use Rattle.fof_models.proofs.PrefixCounts.{universals_formula, existentials_formula}
use Rattle.fof_models.proofs.is_sound.+formula.Goals as goal

pub is_formula-returns-in-True : goal.is_formula-returns-in-True
is_formula-returns-in-True t c n counts = cc (is_formula-true c.args.signature.now n)

pub is_formula-returns-in-False : goal.is_formula-returns-in-False
is_formula-returns-in-False t c n counts = cc (is_formula-false c.args.signature.now n)

pub is_formula-returns-then-is_symbol : goal.is_formula-returns-then-is_symbol
is_formula-returns-then-is_symbol t c n counts =
    let signature = c.args.signature.now in
    and_then (is_formula signature c.args.formula.now n)
    (is_symbol (slice_get signature c.in-Atom.p) true (length c.in-Atom.terms))
    (are_terms signature c.in-Atom.terms n) _
    (cc (is_formula-atom signature c.in-Atom.p c.in-Atom.terms n))
    (cc) _
    (c.are_terms.ensures n counts ∙ ap (λ ts. are_terms signature ts n) c.as_slice-terms.ensures)
    c.if-is_symbol.true

pub is_formula-returns-else-is_symbol : goal.is_formula-returns-else-is_symbol
is_formula-returns-else-is_symbol t c n counts =
    let signature = c.args.signature.now in
    and_else (is_formula signature c.args.formula.now n)
    (is_symbol (slice_get signature c.in-Atom.p) true (length c.in-Atom.terms))
    (are_terms signature c.in-Atom.terms n) _
    (cc (is_formula-atom signature c.in-Atom.p c.in-Atom.terms n))
    (cc) c.if-is_symbol.false

pub is_formula-returns-then-is_term : goal.is_formula-returns-then-is_term
is_formula-returns-then-is_term t c n counts =
    let signature = c.args.signature.now in
    and_then (is_formula signature c.args.formula.now n)
    (is_term signature c.in-Equal.left n) (is_term signature c.in-Equal.right n) _
    (cc (is_formula-equal signature c.in-Equal.left c.in-Equal.right n))
    (c.is_term.ensures n counts) _
    (c.is_term-then-is_term.ensures n counts)
    c.if-is_term.true

pub is_formula-returns-else-is_term : goal.is_formula-returns-else-is_term
is_formula-returns-else-is_term t c n counts =
    let signature = c.args.signature.now in
    and_else (is_formula signature c.args.formula.now n)
    (is_term signature c.in-Equal.left n) (is_term signature c.in-Equal.right n) _
    (cc (is_formula-equal signature c.in-Equal.left c.in-Equal.right n))
    (c.is_term.ensures n counts)
    c.if-is_term.false

pub is_formula-returns-in-Not : goal.is_formula-returns-in-Not
is_formula-returns-in-Not t c n counts =
    let part = c.is_formula.ensures n counts in
    cc (is_formula-not c.args.signature.now c.in-Not.a n)

pub is_formula-returns-in-And : goal.is_formula-returns-in-And
is_formula-returns-in-And t c n counts =
    c.are_formulas.ensures n counts
    ∙ ap (λ parts. are_formulas c.args.signature.now parts n) c.as_slice.ensures
    ∙ cc (is_formula-and c.args.signature.now c.in-And.parts n)

pub is_formula-returns-in-Or : goal.is_formula-returns-in-Or
is_formula-returns-in-Or t c n counts =
    c.are_formulas-in-Or.ensures n counts
    ∙ ap (λ parts. are_formulas c.args.signature.now parts n) c.as_slice-in-Or.ensures
    ∙ cc (is_formula-or c.args.signature.now c.in-Or.parts n)

pub is_formula-returns-then-is_formula : goal.is_formula-returns-then-is_formula
is_formula-returns-then-is_formula t c n counts =
    let signature = c.args.signature.now in
    and_then (is_formula signature c.args.formula.now n)
    (is_formula signature c.in-Implies.a n) (is_formula signature c.in-Implies.b n) _
    (cc (is_formula-implies signature c.in-Implies.a c.in-Implies.b n))
    (let part = c.is_formula-in-Implies.ensures n counts in cc) _
    (let part = c.is_formula-then-is_formula.ensures n counts in cc)
    c.if-is_formula.true

pub is_formula-returns-else-is_formula : goal.is_formula-returns-else-is_formula
is_formula-returns-else-is_formula t c n counts =
    let signature = c.args.signature.now in
    and_else (is_formula signature c.args.formula.now n)
    (is_formula signature c.in-Implies.a n) (is_formula signature c.in-Implies.b n) _
    (cc (is_formula-implies signature c.in-Implies.a c.in-Implies.b n))
    (let part = c.is_formula-in-Implies.ensures n counts in cc)
    c.if-is_formula.false

pub is_formula-returns-in-ForAll : goal.is_formula-returns-in-ForAll
is_formula-returns-in-ForAll t c n counts =
    c.is_formula-in-ForAll.ensures (n + 1 + c.below_universals-more.result.0)
    (Counts-plus _ _ n c.below_universals-more.result.0 counts c.saturating_add.ensures)
    ∙ sym (universals_formula c.args.formula.now c.in-ForAll.inner c.get-in-ForAll.result.now
    c.below_universals-more.result.1.now c.below_universals-more.result.0 c.in-ForAll.is
    c.get-in-ForAll.ensures c.below_universals-more.ensures.whole
    c.args.signature.now n)

pub is_formula-returns-in-Exists : goal.is_formula-returns-in-Exists
is_formula-returns-in-Exists t c n counts =
    c.is_formula-in-Exists.ensures (n + 1 + c.below_existentials-more.result.0)
    (Counts-plus _ _ n c.below_existentials-more.result.0 counts c.saturating_add-in-Exists.ensures)
    ∙ sym (existentials_formula c.args.formula.now c.in-Exists.inner c.get-in-Exists.result.now
    c.below_existentials-more.result.1.now c.below_existentials-more.result.0 c.in-Exists.is
    c.get-in-Exists.ensures c.below_existentials-more.ensures.whole
    c.args.signature.now n)
