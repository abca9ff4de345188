use Rattle.tf_core.specs.Sorts.{or_individuals, sorts}
use Rattle.tf_naked.proofs.OnceListed.{sorts-listed, if_ok}
use Rattle.tf_naked.proofs.sort_list.sorts.Goals as goal

pub returns : goal.returns
returns c = record {
  exact = if_ok c.or_individuals.result
      (or_individuals c.list_formulas.new.listing.sorts) (sorts c.args.normal.now)
      (sorts-listed c.args.normal.now c.new-listing.result c.list_symbols.new.listing
      c.list_formulas.new.listing c.as_slice.result.now c.as_slice-2.result.now
      c.as_slice.ensures c.as_slice-2.ensures c.new-listing.ensures.empty
      c.in_ok-list_symbols.ensures c.in_ok-list_formulas.ensures)
      c.or_individuals.ensures;
}
