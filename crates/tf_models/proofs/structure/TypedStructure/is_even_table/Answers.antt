use Rattle.std.proofs.Common.{◌*◌, ap, arith}
use Rattle.std.proofs.lemmas.Bool.{false≢true}
use Rattle.tf_models.specs.Reading.{tables}
use Rattle.tf_models.specs.Fit.{length_at}
use Rattle.tf_models.proofs.SymbolBlocks.{block_positive}
use Rattle.tf_models.proofs.EvenBlocks.{first_block, whole_is, even_table, even_long, even_below}
use Rattle.tf_models.proofs.structure.TypedStructure.is_even_table.Goals as goal

pub block_length-length-requires : goal.block_length-length-requires
block_length-length-requires c = record {
  block = first_block c.args.signature.now c.args.self.now c.args.symbol.now c.requires.few
      c.requires.typed c.requires.constructors;
}

pub block_bound-requires : goal.block_bound-requires
block_bound-requires c = record {
  block = first_block c.args.signature.now c.args.self.now c.args.symbol.now c.requires.few
      c.requires.typed c.requires.constructors;
}

pub returns-then-saturating_mul-table : goal.returns-then-saturating_mul-table
returns-then-saturating_mul-table c =
    let first = first_block c.args.signature.now c.args.self.now c.args.symbol.now c.requires.few
    c.requires.typed c.requires.constructors in
    let product = whole_is c.args.blocks (length_at (tables c.args.self.now) c.args.symbol.now 0)
    c.block_length-length.result c.saturating_mul.result c.block_length-length.ensures.exact
    c.saturating_mul.ensures (omega (arith, first.within, c.requires.blocks)) in
    let all = ap (λ n. n * length_at (tables c.args.self.now) c.args.symbol.now 0)
    c.requires.blocks in
    record {
      exact = (
        λ never. absurd (false≢true never),
        λ table. absurd (c.if-saturating_mul-table.true (omega (
          arith,
          product,
          all,
          even_long c.args.signature.now c.args.self.now c.args.symbol.now c.requires.even c.args.table.now table,
        ))),
      );
    }

pub returns : goal.returns
returns c =
    let first = first_block c.args.signature.now c.args.self.now c.args.symbol.now c.requires.few
    c.requires.typed c.requires.constructors in
    let product = whole_is c.args.blocks (length_at (tables c.args.self.now) c.args.symbol.now 0)
    c.block_length-length.result c.saturating_mul.result c.block_length-length.ensures.exact
    c.saturating_mul.ensures (omega (arith, first.within, c.requires.blocks)) in
    let all = ap (λ n. n * length_at (tables c.args.self.now) c.args.symbol.now 0)
    c.requires.blocks in
    record {
      exact = (
        λ holds.
            even_table c.args.signature.now c.args.self.now c.args.symbol.now c.requires.even c.args.table.now
            (omega (arith, product, all, c.if-saturating_mul-table.false))
            (rw c.block_bound.ensures at (c.are_below.ensures.0 holds)),
        λ table.
            c.are_below.ensures.1
            (rw c.block_bound.ensures
            (even_below c.args.signature.now c.args.self.now c.args.symbol.now c.requires.even c.args.table.now table
            (block_positive c.args.signature.now c.args.self.now c.args.symbol.now 0 first))),
      );
    }
