-- How a run ends, and what each way to end rests on. This need not be believed: the promises of a
-- run follow from it, and cite none of it.
use Rattle.std.specs.Prelude.{◌≡◌, ◌≢◌, ℕ, List, Option, None, Result, Ok, Err}
use Rattle.std.specs.Io.KnownBytes.{Appends}
use Rattle.enc_base.specs.Sink.{AppendsPrefix}
use Rattle.enc_run.specs.Texts.{IsRefused, IsOutput, IsInput, Fails, ReadsAsNeeded}
use Rattle.enc_run.specs.Work.{Change, Work, Rises, Untouched, KeepsCounts}
use Rattle.enc_run.specs.Calls.Note.{Notes}
use Rattle.enc_run.specs.Stop.{status_of}
use Rattle.enc_run.specs.declared.stop.Stop.{Stop}
use Rattle.enc_run.specs.declared.stop.Stop.TheVariants.{NotBuilt, Unread, Refused, Unwritten}
use Rattle.enc_run.specs.declared.stop.Stop.TheVariants.{Memory}

-- what a stop rests on; want of memory may come anywhere
abbrev pub CauseOf : Work → Stop → Type 0
CauseOf w NotBuilt = w.job ≡ None
CauseOf w (Unread name) = IsInput w name × Fails w name
CauseOf w (Refused reason) = IsRefused w reason
CauseOf w Unwritten =
    ((output : List ℕ) × IsOutput w output × AppendsPrefix w.out.before w.out.after output)
    × Rises w.out_faults
CauseOf w Memory = Unit {0}

-- a stop but that of a failed write leaves the output as it was
abbrev pub LeavesOut : Work → Stop → Type 0
LeavesOut w Unwritten = Unit {0}
LeavesOut w _ = Untouched w.out w.out_faults

-- the run wrote a whole output, or was stopped
abbrev pub EndsBy : Work → Result (Unit {0}) Stop → Type 0
EndsBy w (Ok done) =
    (output : List ℕ) × IsOutput w output × Appends w.out.before w.out.after output
EndsBy w (Err stop) = CauseOf w stop × LeavesOut w stop

abbrev pub status_at : Result (Unit {0}) Stop → ℕ
status_at (Ok done) = 0
status_at (Err stop) = status_of stop

-- what a run leaves in the notes: nothing, or the stop's note, as far as the notes take it
abbrev pub Noted : Result (Unit {0}) Stop → Change (Option (List ℕ)) → Change ℕ → Type 0
Noted (Ok done) notes faults = (notes.after ≡ notes.before) × (faults.after ≡ faults.before)
Noted (Err stop) notes faults = Notes stop notes faults

-- How a library's counts of faults stand after an end: as they were, but for those of the read that
-- stopped the run.
abbrev pub CountsFaults : {A : Type 0} → Change ℕ → Change (List ℕ → ℕ) → Result A Stop → Type 0
CountsFaults faults own (Err (Unread name)) =
    (other : List ℕ) → other ≢ name → own.after other ≡ own.before other
CountsFaults faults own _ = KeepsCounts faults own

-- how a run ended, with the status and the notes that belong to it
pub record Ended (w : Work) (notes : Change (Option (List ℕ))) (notes_faults : Change ℕ)
    (status : ℕ) : Type 0 where
  pub end : Result (Unit {0}) Stop
  pub status_is : status_at end ≡ status
  pub ends : EndsBy w end
  pub noted : Noted end notes notes_faults
  pub reads : ReadsAsNeeded w
  pub counts : CountsFaults w.faults w.own end

-- how a read of the named file stops a run, where these counts rose
abbrev pub IsUnread : List ℕ → Type 0 → Type 0 → Stop → Type 0
IsUnread name FaultsRose OwnRose (Unread unread) = (unread ≡ name) × FaultsRose × OwnRose
IsUnread name FaultsRose OwnRose Memory = Unit {0}
IsUnread name FaultsRose OwnRose _ = ⊥
