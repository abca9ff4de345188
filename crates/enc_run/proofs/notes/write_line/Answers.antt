use Rattle.std.proofs.Common.{[], ◌∷◌, ◌++◌}
use Rattle.enc_run.specs.Note.{number_word, program_word}
use Rattle.enc_run.proofs.Begun.{begun_first, begun_second}
use Rattle.enc_run.proofs.notes.write_line.Goals as goal

pub returns-in_err-write_program_word-clause-begins : goal.returns-in_err-write_program_word-clause-begins
returns-in_err-write_program_word-clause-begins g c =
    let text = number_word c.args.number ++ (c.args.first.now ++ c.args.second.now) in
    begun_first c.from_residual.result _ _ program_word (text ++ 10 ∷ [])
    c.in_err-write_program_word.ensures.begins

pub returns-in_err-write_text-clause-begins : goal.returns-in_err-write_text-clause-begins
returns-in_err-write_text-clause-begins g c =
    let text = number_word c.args.number ++ (c.args.first.now ++ c.args.second.now) in
    begun_second c.from_residual-in_err-write_text.result _ _ _ program_word (text ++ 10 ∷ [])
    c.in_ok-write_program_word.ensures.ok
    (begun_first c.from_residual-in_err-write_text.result _ _ text (10 ∷ [])
    c.in_err-write_text.ensures.begins)

pub returns-clause-begins : goal.returns-clause-begins
returns-clause-begins g c =
    let text = number_word c.args.number ++ (c.args.first.now ++ c.args.second.now) in
    begun_second c.write.result _ _ _ program_word (text ++ 10 ∷ [])
    c.in_ok-write_program_word.ensures.ok
    (begun_second c.write.result _ _ _ text (10 ∷ []) c.in_ok-write_text.ensures.ok
    c.write.ensures.begins)
