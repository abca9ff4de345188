use Rattle.std.proofs.Common.{sym, ap, ◌∙◌, subst}
use Rattle.tptp_words.specs.Layout.{written}
use Rattle.fof_text.specs.Written.{problem_words, before, after}
use Rattle.enc_base.proofs.Puts.{put_as}
use Rattle.fof_text.proofs.EntryParts.{whole_text}
use Rattle.fof_text.proofs.FewBinders.{HaveFew, sound_few}
use Rattle.fof_text.proofs.problem.put_problem.Goals as goal

pub put_entries-requires : goal.put_entries-requires
put_entries-requires g c = subst HaveFew (sym c.as_slice.ensures)
    (sound_few c.args.problem.now c.requires)

pub returns : goal.returns
returns g c =
    put_as
    (ap (λ fs. written before after (problem_words c.as_slice-2.result.now fs)) c.as_slice.ensures
    ∙ ap (λ ns. written before after
    (problem_words ns c.args.problem.now.formulas)) c.as_slice-2.ensures
    ∙ whole_text c.args.names.now c.args.problem.now) c.put_entries.ensures
