use Rattle.enc_run.proofs.Readings.{is_complete, refused_exactly, not_built_exactly, unsuited_exactly, unread_exactly, unheld_is_unread, unwritten_only, out_holds, notes_hold, status_is_one}
use Rattle.enc_run.proofs.Headline.{have_models, translated}
use Rattle.enc_run.proofs.TablePromises.{checks, lowers, lifts}
use Rattle.enc_run.proofs.running.run.Goals as goal

pub returns-clause-models : goal.returns-clause-models
returns-clause-models g c = have_models _ _ _ _ c.ended.ensures.ended

pub returns-clause-translated : goal.returns-clause-translated
returns-clause-translated g c = translated _ _ _ _ c.ended.ensures.ended

pub returns-clause-complete : goal.returns-clause-complete
returns-clause-complete g c = is_complete _ _ _ _ c.ended.ensures.ended

pub returns-clause-checks : goal.returns-clause-checks
returns-clause-checks g c = checks _ _ _ _ c.ended.ensures.ended

pub returns-clause-lowers : goal.returns-clause-lowers
returns-clause-lowers g c = lowers _ _ _ _ c.ended.ensures.ended

pub returns-clause-lifts : goal.returns-clause-lifts
returns-clause-lifts g c = lifts _ _ _ _ c.ended.ensures.ended

pub returns-clause-refused : goal.returns-clause-refused
returns-clause-refused g c = refused_exactly _ _ _ _ c.ended.ensures.ended

pub returns-clause-unsuited : goal.returns-clause-unsuited
returns-clause-unsuited g c = unsuited_exactly _ _ _ _ c.ended.ensures.ended

pub returns-clause-not_built : goal.returns-clause-not_built
returns-clause-not_built g c = not_built_exactly _ _ _ _ c.ended.ensures.ended

pub returns-clause-unread : goal.returns-clause-unread
returns-clause-unread g c = unread_exactly _ _ _ _ c.ended.ensures.ended

pub returns-clause-unheld : goal.returns-clause-unheld
returns-clause-unheld g c = unheld_is_unread _ _ _ _ c.ended.ensures.ended

pub returns-clause-unwritten : goal.returns-clause-unwritten
returns-clause-unwritten g c = unwritten_only _ _ _ _ c.ended.ensures.ended

pub returns-clause-out : goal.returns-clause-out
returns-clause-out g c = out_holds _ _ _ _ c.ended.ensures.ended

pub returns-clause-notes : goal.returns-clause-notes
returns-clause-notes g c = notes_hold _ _ _ _ c.ended.ensures.ended

pub returns-clause-reads : goal.returns-clause-reads
returns-clause-reads g c = c.ended.ensures.ended.reads

pub returns-clause-statuses : goal.returns-clause-statuses
returns-clause-statuses g c = status_is_one _ _ _ _ c.ended.ensures.ended
