use Rattle.std.proofs.Common.{◌∙◌, sym, subst, length, replicate}
use Rattle.std.proofs.lemmas.List.{length-replicate}
use Rattle.enc_base.specs.Tables.{EachBelow}
use Rattle.structure_tables.proofs.tuples.table_of.Goals as goal

pub append_table-requires-clause-some : goal.append_table-requires-clause-some
append_table-requires-clause-some g c =
    subst (λ bounds. EachBelow bounds (replicate (length bounds) 0))
    (sym (c.as_slice.ensures.value ∙ c.in_ok-bounds.ensures))
    (subst (λ n. EachBelow (replicate c.args.count c.args.bound) (replicate n 0))
    (sym (length-replicate c.args.count c.args.bound))
    c.requires.some)
