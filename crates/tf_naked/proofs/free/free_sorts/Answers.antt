use Rattle.std.proofs.Common.{[], ◌∷◌, true, map, length, sym, ◌∙◌}
use Rattle.std.proofs.lemmas.Bool.{eqb-true, false≢true}
use Rattle.std.proofs.lemmas.Bool.Decides.{Decides-eqb}
use Rattle.tf_naked.specs.Naked.{is_free}
use Rattle.tf_naked.proofs.OnceListed.{if_ok}
use Rattle.tf_naked.proofs.FreeSorts.{one_free, many_free, if_outside}
use Rattle.tf_naked.proofs.free.free_sorts.Goals as goal

pub returns-then-is_one : goal.returns-then-is_one
returns-then-is_one c = record {
  exact = if_ok c.only_free.result (true ∷ []) (map (is_free c.args.normal.now) c.args.listed.now)
      (one_free c.args.normal.now c.args.listed.now c.requires.sorts
      (eqb-true (length c.args.listed.now) 1 (sym c.is_one.ensures ∙ c.if-is_one.true)))
      c.only_free.ensures;
}

pub returns : goal.returns
returns c = record {
  exact = if_outside c.outside.result c.mark_in_formulas.new.set _ c.args.listed.now
      (map (is_free c.args.normal.now) c.args.listed.now) c.outside.ensures
      (c.in_ok-mark_in_formulas.ensures [] c.new-set.ensures)
      (many_free c.args.normal.now c.args.listed.now c.as_slice.result.now c.requires.sorts
      (λ one. false≢true (sym c.if-is_one.false ∙ c.is_one.ensures
      ∙ (Decides-eqb (length c.args.listed.now) 1).1 one))
      c.as_slice.ensures);
}
