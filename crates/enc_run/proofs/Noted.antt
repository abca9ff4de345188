-- What a run promises of its notes follows from how it ended.
use Rattle.std.proofs.Common.{◌≡◌, ◌++◌, ℕ, List, Option, Ok, Err, subst, arith}
use Rattle.enc_base.specs.Library.{IsHeld}
use Rattle.enc_pipeline.specs.RefusalNumbers.{number_of}
use Rattle.enc_pipeline.specs.declared.fault.Fault.{Fault}
use Rattle.enc_run.specs.Texts.{IsRefused, IsInput}
use Rattle.enc_run.specs.Calls.Ending.{EndsBy, status_at, Noted}
use Rattle.enc_run.specs.Note.{line, number_word, not_built, cannot_read, cannot_write, no_memory}
use Rattle.enc_run.specs.Calls.Note.{IsNoteOf, Notes}
use Rattle.enc_run.specs.Promises.{IsOfRefusal, NotesHold}
use Rattle.enc_run.specs.Statuses.{status_of_refusal}
use Rattle.enc_run.specs.Work.{Change, Work, OwnRises, Adds}
use Rattle.enc_run.specs.declared.stop.Stop.TheVariants.{NotBuilt, Unread, Refused, Unwritten, Memory}
use Rattle.enc_run.proofs.Statuses.{End, not_refusal, only_refused}

module _ (w : Work) (notes : Change (Option (List ℕ))) (notes_faults : Change ℕ) where
  noted_none : (end : End) → EndsBy w end → Noted end notes notes_faults → status_at end ≡ 0
      → (notes.after ≡ notes.before) × (notes_faults.after ≡ notes_faults.before)
  noted_none (Ok done) ends noted is = noted
  noted_none (Err NotBuilt) ends noted is = absurd (omega arith)
  noted_none (Err (Unread name)) ends noted is = absurd (omega arith)
  noted_none (Err (Refused reason)) ends noted is =
      absurd (not_refusal w reason 0 ends.0 is (λ low high. omega arith))
  noted_none (Err Unwritten) ends noted is = absurd (omega arith)
  noted_none (Err Memory) ends noted is = absurd (omega arith)

  -- the note that was added
  added : (text note : List ℕ) → note ≡ text → Adds notes notes_faults note
      → Adds notes notes_faults text
  added text note is adds = subst (λ n. Adds notes notes_faults n) is adds

  noted_unbuilt : (end : End) → EndsBy w end → Noted end notes notes_faults → status_at end ≡ 9
      → Adds notes notes_faults (line not_built)
  noted_unbuilt (Ok done) ends noted is = absurd (omega arith)
  noted_unbuilt (Err NotBuilt) ends noted is = added (line not_built) noted.0 noted.1 noted.2
  noted_unbuilt (Err (Unread name)) ends noted is = absurd (omega arith)
  noted_unbuilt (Err (Refused reason)) ends noted is =
      absurd (not_refusal w reason 9 ends.0 is (λ low high. omega arith))
  noted_unbuilt (Err Unwritten) ends noted is = absurd (omega arith)
  noted_unbuilt (Err Memory) ends noted is = absurd (omega arith)

  noted_unwritten : (end : End) → EndsBy w end → Noted end notes notes_faults → status_at end ≡ 7
      → Adds notes notes_faults (line cannot_write)
  noted_unwritten (Ok done) ends noted is = absurd (omega arith)
  noted_unwritten (Err NotBuilt) ends noted is = absurd (omega arith)
  noted_unwritten (Err (Unread name)) ends noted is = absurd (omega arith)
  noted_unwritten (Err (Refused reason)) ends noted is =
      absurd (not_refusal w reason 7 ends.0 is (λ low high. omega arith))
  noted_unwritten (Err Unwritten) ends noted is =
      added (line cannot_write) noted.0 noted.1 noted.2
  noted_unwritten (Err Memory) ends noted is = absurd (omega arith)

  noted_memory : (end : End) → EndsBy w end → Noted end notes notes_faults → status_at end ≡ 8
      → Adds notes notes_faults (line no_memory)
  noted_memory (Ok done) ends noted is = absurd (omega arith)
  noted_memory (Err NotBuilt) ends noted is = absurd (omega arith)
  noted_memory (Err (Unread name)) ends noted is = absurd (omega arith)
  noted_memory (Err (Refused reason)) ends noted is =
      absurd (not_refusal w reason 8 ends.0 is (λ low high. omega arith))
  noted_memory (Err Unwritten) ends noted is = absurd (omega arith)
  noted_memory (Err Memory) ends noted is = added (line no_memory) noted.0 noted.1 noted.2

  noted_unread : (end : End) → EndsBy w end → Noted end notes notes_faults → status_at end ≡ 6
      → (name : List ℕ) × IsInput w name × (IsHeld w.held name → OwnRises w name)
      × Adds notes notes_faults (line (cannot_read ++ name))
  noted_unread (Ok done) ends noted is = absurd (omega arith)
  noted_unread (Err NotBuilt) ends noted is = absurd (omega arith)
  noted_unread (Err (Unread name)) ends noted is = (
    name,
    ends.0.0,
    ends.0.1.own,
    added (line (cannot_read ++ name)) noted.0 noted.1 noted.2,
  )
  noted_unread (Err (Refused reason)) ends noted is =
      absurd (not_refusal w reason 6 ends.0 is (λ low high. omega arith))
  noted_unread (Err Unwritten) ends noted is = absurd (omega arith)
  noted_unread (Err Memory) ends noted is = absurd (omega arith)

  noted_refused : (end : End) → EndsBy w end → Noted end notes notes_faults
      → IsOfRefusal (status_at end)
      → (reason : Fault) × IsRefused w reason × (status_of_refusal reason ≡ status_at end)
      × ((rest : List ℕ) × Adds notes notes_faults (line (number_word (number_of reason) ++ rest)))
  noted_refused end ends noted is =
      let refused = only_refused w end ends is in
      let note : Notes (Refused refused.0) notes notes_faults =
      subst (λ e. Noted e notes notes_faults) refused.3 noted in
      let rest : IsNoteOf (Refused refused.0) note.0 = note.1 in (
        refused.0,
        refused.1,
        refused.2,
        (rest.0, added (line (number_word (number_of refused.0) ++ rest.0)) note.0 rest.1 note.2),
      )

  pub notes_of : (end : End) → EndsBy w end → Noted end notes notes_faults
      → NotesHold w notes notes_faults (status_at end)
  notes_of end ends noted = record {
    none = noted_none end ends noted;
    unbuilt = noted_unbuilt end ends noted;
    unread = noted_unread end ends noted;
    unwritten = noted_unwritten end ends noted;
    memory = noted_memory end ends noted;
    refused = noted_refused end ends noted;
  }
