use Rattle.std.proofs.Common.{sym, ap, ◌∙◌, subst, ◌<◌, length}
use Rattle.fof_text.specs.Names.{name_at}
use Rattle.fof_text.proofs.Parts.{name_inside}
use Rattle.fof_text.proofs.names.Names.name_at.Goals as goal

pub returns : goal.returns
returns c =
    sym (name_inside c.as_slice.result.now c.args.symbol c.index-as_slice-symbol.result
    (subst (λ ns. c.args.symbol < length ns)
    (sym c.as_slice.ensures) c.requires) c.index-as_slice-symbol.is)
    ∙ ap (λ ns. name_at ns c.args.symbol) c.as_slice.ensures
