use Rattle.std.proofs.Common.{sym, ap, ◌∙◌, [], ◌∷◌}
use Rattle.fof_text.specs.Pieces.{part}
use Rattle.fof_text.specs.Written.{name_word}
use Rattle.enc_base.proofs.Puts.{put_as}
use Rattle.fof_text.proofs.Parts.{name_inside, name_outside, name_part}
use Rattle.fof_text.proofs.name.put_symbol.Goals as goal

pub returns-then-place-names : goal.returns-then-place-names
returns-then-place-names g c =
    put_as (sym (name_part c.as_slice.result.now)
    ∙ ap (λ n. part (λ rest. name_word n ∷ rest))
    (c.as_slice.ensures ∙ sym
    (name_inside c.args.names.now c.args.symbol c.index-names-place.result c.if-place-names.true
    c.index-names-place.is))) c.put_name.ensures

pub returns-else-place-names : goal.returns-else-place-names
returns-else-place-names g c =
    put_as (sym (name_part [])
    ∙ ap (λ n. part (λ rest. name_word n ∷ rest))
    (sym (name_outside c.args.names.now c.args.symbol c.if-place-names.false)))
    c.put_name-else-place-names.ensures
