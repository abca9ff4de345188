use Rattle.std.proofs.Common.{sym, ap, ◌∙◌, ◌++◌, ◌∷◌, codes}
use Rattle.fof_text.specs.Pieces.{part}
use Rattle.fof_text.specs.Written.{label_word, formula_words}
use Rattle.enc_base.proofs.Puts.{then_put, put_as}
use Rattle.fof_text.proofs.EntryParts.{entry_part}
use Rattle.fof_text.proofs.problem.put_entry.Goals as goal

pub returns : goal.returns
returns g c =
    let label = part (λ rest. label_word c.args.entry.now.name ∷ rest) in
    let body = part ((formula_words c.args.names.now c.args.entry.now.body).is 0) in
    put_as (ap (λ n. (((((codes "fof(" ++ part (λ rest. label_word n ∷ rest)) ++ codes ",")
    ++ c.role_name.result.now) ++ codes ",") ++ body) ++ codes ").\n") c.as_slice.ensures
    ∙ ap (λ r. (((((codes "fof(" ++ label) ++ codes ",") ++ r) ++ codes ",") ++ body)
    ++ codes ").\n") c.role_name.ensures
    ∙ sym (entry_part c.args.names.now c.args.entry.now))
    (then_put (then_put (then_put (then_put (then_put (then_put
    c.put.ensures.puts c.put_label.ensures) c.put-2.ensures.puts) c.put-3.ensures.puts)
    c.put-4.ensures.puts) c.put_formula.ensures) c.put-5.ensures.puts)
