use Rattle.std.proofs.Common.{sym, ap, ◌∙◌, ◌++◌, ◌^◌, rules, codes}
use Rattle.fof_models.specs.declared.formula.Fof.TheVariants as F
use Rattle.fof_models.specs.declared.formula.Fof.TheViews.{the_lemmas}
use Rattle.enc_base.proofs.Puts.{then_put, put_as}
use Rattle.fof_text.proofs.Prefixes.{under_binders}
use Rattle.fof_text.proofs.Parts as form
use Rattle.fof_text.proofs.FewBinders as few
use Rattle.fof_text.proofs.formula.+formulas.Goals as goal

pub put_formula-returns-in-True : goal.put_formula-returns-in-True
put_formula-returns-in-True g t c =
    under_binders c.args.names.now c.put_binders-under.ensures.puts
    (form.true_is c.args.names.now _ _ c.in-True.is) c.put.ensures.puts

pub put_formula-returns-in-False : goal.put_formula-returns-in-False
put_formula-returns-in-False g t c =
    under_binders c.args.names.now c.put_binders-under.ensures.puts
    (form.false_is c.args.names.now _ _ c.in-False.is) c.put-in-False.ensures.puts

pub put_formula-returns-in-Atom : goal.put_formula-returns-in-Atom
put_formula-returns-in-Atom g t c =
    under_binders c.args.names.now c.put_binders-under.ensures.puts
    (form.atom_is c.args.names.now _ _ c.in-Atom.symbol c.as_slice.result.now
    (c.in-Atom.is ∙ ap (F.Atom c.in-Atom.symbol) (sym c.as_slice.ensures)))
    c.put_applied.ensures

pub put_formula-returns-in-Equal : goal.put_formula-returns-in-Equal
put_formula-returns-in-Equal g t c =
    under_binders c.args.names.now c.put_binders-under.ensures.puts
    (form.equal_is c.args.names.now _ _ _ _ c.in-Equal.is) c.put_sides.ensures

pub put_formula-returns-in-Not : goal.put_formula-returns-in-Not
put_formula-returns-in-Not g t c =
    under_binders c.args.names.now c.put_binders-under.ensures.puts
    (form.not_is c.args.names.now _ _ c.get.result.now
    (c.in-Not.is ∙ ap F.Not (sym c.get.ensures))) c.put_negation.ensures

pub put_formula-returns-in-And : goal.put_formula-returns-in-And
put_formula-returns-in-And g t c =
    under_binders c.args.names.now c.put_binders-under.ensures.puts
    (form.and_is c.args.names.now _ _ c.as_slice-in-And.result.now
    (c.in-And.is ∙ ap F.And (sym c.as_slice-in-And.ensures))) c.put_chain.ensures

pub put_formula-returns-in-Or : goal.put_formula-returns-in-Or
put_formula-returns-in-Or g t c =
    under_binders c.args.names.now c.put_binders-under.ensures.puts
    (form.or_is c.args.names.now _ _ c.as_slice-in-Or.result.now
    (c.in-Or.is ∙ ap F.Or (sym c.as_slice-in-Or.ensures))) c.put_chain-in-Or.ensures

pub put_formula-returns-in-Implies : goal.put_formula-returns-in-Implies
put_formula-returns-in-Implies g t c =
    let is = c.in-Implies.is
    ∙ ap (λ z. F.Implies z c.in-Implies.right) (sym c.get-in-Implies.ensures)
    ∙ ap (F.Implies c.get-in-Implies.result.now) (sym c.get-in-Implies-2.ensures) in
    under_binders c.args.names.now c.put_binders-under.ensures.puts
    (form.implies_is c.args.names.now _ _ c.get-in-Implies.result.now
    c.get-in-Implies-2.result.now is)
    (then_put (then_put (then_put (then_put
    c.put-in-Implies.ensures.puts c.put_formula.ensures) c.put-in-Implies-2.ensures.puts)
    c.put_formula-in-Implies.ensures) c.put-in-Implies-3.ensures.puts)

pub put_negation-returns-in-Equal : goal.put_negation-returns-in-Equal
put_negation-returns-in-Equal g t c = put_as
    (sym (form.equal_not c.args.names.now c.args.depth c.args.formula.now _ _ c.in-Equal.is))
    c.put_sides.ensures

pub put_negation-returns-in_default : goal.put_negation-returns-in_default
put_negation-returns-in_default g t c =
    put_as (sym (form.other_not c.args.names.now c.args.depth c.args.formula.now
    c.in_default.not-Equal)) (then_put c.put.ensures.puts c.put_formula.ensures)

pub put_chain-loop-i-preserved : goal.put_chain-loop-i-preserved
put_chain-loop-i-preserved g t c =
    put_as (sym (form.row_next
    (form.formula_part c.args.names.now c.args.depth) c.args.piece.now c.args.parts.now c.loop-i.i
    c.index-parts-i.result c.loop-i-test.true c.index-parts-i.is))
    (then_put (then_put c.loop-i.invariant c.put_between.ensures) c.put_formula.ensures)

pub put_chain-returns : goal.put_chain-returns
put_chain-returns g t c =
    put_as (ap (λ z. (codes "(" ++ z) ++ codes ")")
    (form.row_end (form.formula_part c.args.names.now c.args.depth) c.args.piece.now
    c.args.parts.now c.loop-i.i c.loop-i-test.false))
    (then_put (then_put c.put.ensures.puts c.loop-i.invariant) c.put-2.ensures.puts)

-- ---- there are few binders

pub put_chain-put_formula-requires : goal.put_chain-put_formula-requires
put_chain-put_formula-requires g t c κs lives = (
  search (rules, the_lemmas),
  (
    lives,
    few.one_few c.args.depth (2 ^ 32) c.args.parts.now c.loop-i.i c.index-parts-i.result
        c.loop-i-test.true c.index-parts-i.is c.requires,
  ),
)

pub put_formula-put_negation-requires : goal.put_formula-put_negation-requires
put_formula-put_negation-requires g t c κs lives = (
  search (rules, the_lemmas),
  (
    lives,
    few.not_few c.put_binders-under.result.1 (2 ^ 32) c.put_binders-under.result.0.now
        c.get.result.now (c.in-Not.is ∙ ap F.Not (sym c.get.ensures)) c.put_binders-under.ensures.few,
  ),
)

pub put_formula-put_chain-requires : goal.put_formula-put_chain-requires
put_formula-put_chain-requires g t c κs lives = (
  search (rules, the_lemmas),
  (
    lives,
    few.and_few c.put_binders-under.result.1 (2 ^ 32) c.put_binders-under.result.0.now
        c.as_slice-in-And.result.now (c.in-And.is ∙ ap F.And (sym c.as_slice-in-And.ensures))
        c.put_binders-under.ensures.few,
  ),
)

pub put_formula-put_chain-requires-in-Or : goal.put_formula-put_chain-requires-in-Or
put_formula-put_chain-requires-in-Or g t c κs lives = (
  search (rules, the_lemmas),
  (
    lives,
    few.or_few c.put_binders-under.result.1 (2 ^ 32) c.put_binders-under.result.0.now
        c.as_slice-in-Or.result.now (c.in-Or.is ∙ ap F.Or (sym c.as_slice-in-Or.ensures))
        c.put_binders-under.ensures.few,
  ),
)

pub put_formula-put_formula-requires : goal.put_formula-put_formula-requires
put_formula-put_formula-requires g t c κs lives = (
  search (rules, the_lemmas),
  (
    lives,
    (few.implies_few c.put_binders-under.result.1 (2 ^ 32) c.put_binders-under.result.0.now
        c.get-in-Implies.result.now c.in-Implies.right
        (c.in-Implies.is ∙ ap (λ z. F.Implies z c.in-Implies.right) (sym c.get-in-Implies.ensures))
        c.put_binders-under.ensures.few).0,
  ),
)

pub put_formula-put_formula-requires-in-Implies : goal.put_formula-put_formula-requires-in-Implies
put_formula-put_formula-requires-in-Implies g t c κs lives = (
  search (rules, the_lemmas),
  (
    lives,
    (few.implies_few c.put_binders-under.result.1 (2 ^ 32) c.put_binders-under.result.0.now
        c.in-Implies.left c.get-in-Implies-2.result.now
        (c.in-Implies.is ∙ ap (F.Implies c.in-Implies.left) (sym c.get-in-Implies-2.ensures))
        c.put_binders-under.ensures.few).1,
  ),
)
