-- What a run promises of its status and its output follows from how it ended.
use Rattle.std.proofs.Common.{◌≡◌, inl, inr, ℕ, List, Option, Some, None, Ok, Err, refl, ap, subst, arith}
use Rattle.std.specs.Io.KnownBytes.{Appends}
use Rattle.enc_base.specs.Library.{Files, IsHeld}
use Rattle.enc_base.specs.Sink.{AppendsPrefix}
use Rattle.enc_pipeline.specs.declared.fault.Fault.{Fault}
use Rattle.enc_pipeline.specs.declared.fault.Fault.TheVariants as fault
use Rattle.enc_run.specs.Source.{IsToldSource, AreToldSource}
use Rattle.enc_run.specs.Texts.{IsOutput}
use Rattle.enc_run.specs.Calls.Ending.{CountsFaults, EndsBy, status_at, Ended}
use Rattle.enc_run.specs.Job.{table_name}
use Rattle.enc_run.specs.Leads.{Lead, IsRefusedBy, IsTableRefusedBy, IsUnsuited, IsAcceptable, IsOutputOf}
use Rattle.enc_run.specs.Promises.{IsOrMemory, Complete, NotBuiltExactly, RefusedExactly, UnsuitedExactly, UnreadExactly, UnheldIsUnread, UnwrittenOnly, IsStatus, OutHolds, NotesHold}
use Rattle.enc_run.specs.Statuses.{status_of_refusal}
use Rattle.enc_run.specs.Work.{Change, Work, Untouched, HasTable, ProblemStands}
use Rattle.enc_run.specs.Work.{NoneFails}
use Rattle.enc_run.specs.declared.job.Job.{Job}
use Rattle.enc_run.specs.declared.job.Task.{Task}
use Rattle.enc_run.specs.declared.stop.Stop.TheVariants.{NotBuilt, Unread, Refused, Unwritten, Memory}
use Rattle.enc_run.proofs.Exclusive.{refused_not_accepted, table_refused_accepted, output_accepted, refused_once, table_refused_once, table_refused_not_output}
use Rattle.enc_run.proofs.Noted.{notes_of}
use Rattle.enc_run.proofs.Statuses.{End, not_refusal, is_status, only_refused, only_unsuited, unsuited_refused}
use Rattle.enc_run.proofs.Told.{no_job, told, told_both, told_text, text_is_held, table_is_held, table_unread, table_fails}

-- ---- the output

pub whole : (w : Work) (end : End) → EndsBy w end → status_at end ≡ 0
    → (output : List ℕ) × IsOutput w output × Appends w.out.before w.out.after output
whole w (Ok done) ends is = ends
whole w (Err NotBuilt) ends is = absurd (omega arith)
whole w (Err (Unread name)) ends is = absurd (omega arith)
whole w (Err (Refused reason)) ends is =
    absurd (not_refusal w reason 0 ends.0 is (λ low high. omega arith))
whole w (Err Unwritten) ends is = absurd (omega arith)
whole w (Err Memory) ends is = absurd (omega arith)

prefix : (w : Work) (end : End) → EndsBy w end → status_at end ≡ 7
    → (output : List ℕ) × IsOutput w output × AppendsPrefix w.out.before w.out.after output
prefix w (Ok done) ends is = absurd (omega arith)
prefix w (Err NotBuilt) ends is = absurd (omega arith)
prefix w (Err (Unread name)) ends is = absurd (omega arith)
prefix w (Err (Refused reason)) ends is =
    absurd (not_refusal w reason 7 ends.0 is (λ low high. omega arith))
prefix w (Err Unwritten) ends is = ends.0.0
prefix w (Err Memory) ends is = absurd (omega arith)

untouched : (w : Work) (end : End) → EndsBy w end → (status_at end ≡ 0 → ⊥)
    → (status_at end ≡ 7 → ⊥) → Untouched w.out w.out_faults
untouched w (Ok done) ends not_done not_failed = absurd (not_done refl)
untouched w (Err NotBuilt) ends not_done not_failed = ends.1
untouched w (Err (Unread name)) ends not_done not_failed = ends.1
untouched w (Err (Refused reason)) ends not_done not_failed = ends.1
untouched w (Err Unwritten) ends not_done not_failed = absurd (not_failed refl)
untouched w (Err Memory) ends not_done not_failed = ends.1

-- ---- failing files and output

unread : (w : Work) (end : End) → EndsBy w end → CountsFaults w.faults w.own end
    → UnreadExactly w (status_at end)
unread w (Ok done) ends counts = record { only = λ is. absurd (omega arith); kept = λ other. counts }
unread w (Err NotBuilt) ends counts =
    record { only = λ is. absurd (omega arith); kept = λ other. counts }
unread w (Err (Unread name)) ends counts = record {
  only = λ is. (name, ends.0.0, ends.0.1, counts);
  kept = λ other. absurd (other refl);
}
unread w (Err (Refused reason)) ends counts = record {
  only = λ is. absurd (not_refusal w reason 6 ends.0 is (λ low high. omega arith));
  kept = λ other. counts;
}
unread w (Err Unwritten) ends counts =
    record { only = λ is. absurd (omega arith); kept = λ other. counts }
unread w (Err Memory) ends counts =
    record { only = λ is. absurd (omega arith); kept = λ other. counts }

unwritten : (w : Work) (end : End) → EndsBy w end → UnwrittenOnly w (status_at end)
unwritten w (Ok done) ends is = absurd (omega arith)
unwritten w (Err NotBuilt) ends is = absurd (omega arith)
unwritten w (Err (Unread name)) ends is = absurd (omega arith)
unwritten w (Err (Refused reason)) ends is =
    absurd (not_refusal w reason 7 ends.0 is (λ low high. omega arith))
unwritten w (Err Unwritten) ends is = ends.0.1
unwritten w (Err Memory) ends is = absurd (omega arith)

-- ---- names that aren't held

abbrev ToTable : (Task → Lead → List ℕ → Type 0) → Work → Task → Lead → Type 0
ToTable Holding w task source =
    (table : List ℕ) × HasTable w task table × Holding task source table

unheld : (w : Work) (end : End) → EndsBy w end → (job : Job) (files : Files) → w.job ≡ Some job
    → w.held ≡ Some files → (IsHeld w.held job.problem → ⊥) → IsOrMemory 6 (status_at end)
unheld w (Ok done) ends job files is_job is_told none =
    absurd (none (text_is_held w (ToTable (λ task. IsOutputOf task ends.0) w) job files is_job
    is_told ends.1))
unheld w (Err NotBuilt) ends job files is_job is_told none = absurd (no_job w job ends.0 is_job)
unheld w (Err (Unread name)) ends job files is_job is_told none = inl refl
unheld w (Err (Refused reason)) ends job files is_job is_told none = elim ends.0 [
  | inl of ↦ absurd (none (text_is_held w (λ task. IsRefusedBy task reason) job files is_job is_told
      of))
  | inr of ↦ absurd (none (text_is_held w (ToTable (λ task. IsTableRefusedBy task reason) w) job
      files is_job is_told of))
]
unheld w (Err Unwritten) ends job files is_job is_told none =
    absurd (none (text_is_held w (ToTable (λ task. IsOutputOf task ends.0.0.0) w) job files is_job
    is_told ends.0.0.1))
unheld w (Err Memory) ends job files is_job is_told none = inr refl

unheld_table : (w : Work) (end : End) → EndsBy w end → (job : Job) (source : Lead) (name : List ℕ)
    → IsToldSource w job source → ProblemStands w job → IsAcceptable job.task source
    → table_name job.task ≡ Some name → (IsHeld w.held name → ⊥) → IsOrMemory 6 (status_at end)
unheld_table w (Ok done) ends job source name is_told untroubled acceptable is_name none =
    let has = told_text w (λ task. IsOutputOf task ends.0) job source ends.1 is_told in
    absurd (none (table_is_held w job source name has.0 is_told is_name has.1))
unheld_table w (Err NotBuilt) ends job source name is_told untroubled acceptable is_name none =
    absurd (no_job w job ends.0 is_told.job_is)
unheld_table w (Err (Unread unread)) ends job source name is_told untroubled acceptable is_name none =
    inl refl
unheld_table w (Err (Refused reason)) ends job source name is_told untroubled acceptable is_name none =
    elim ends.0 [
      | inl of ↦ absurd (refused_not_accepted job.task source reason
          (told w (λ task. IsRefusedBy task reason) job source of is_told) acceptable)
      | inr of ↦
          let has = told_text w (λ task. IsTableRefusedBy task reason) job source of is_told in
          absurd (none (table_is_held w job source name has.0 is_told is_name has.1))
    ]
unheld_table w (Err Unwritten) ends job source name is_told untroubled acceptable is_name none =
    let has = told_text w (λ task. IsOutputOf task ends.0.0.0) job source ends.0.0.1 is_told in
    absurd (none (table_is_held w job source name has.0 is_told is_name has.1))
unheld_table w (Err Memory) ends job source name is_told untroubled acceptable is_name none = inr refl

-- ---- want of a job

at_words : (w : Work) (end : End) → EndsBy w end → w.job ≡ None → IsOrMemory 9 (status_at end)
at_words w (Ok done) ends none = absurd (no_job w ends.1.0 none ends.1.1)
at_words w (Err NotBuilt) ends none = inl refl
at_words w (Err (Unread name)) ends none = elim ends.0.0 [
  | inl of ↦ absurd (no_job w of.0 none of.1)
  | inr of ↦ absurd (no_job w of.0 none of.1)
]
at_words w (Err (Refused reason)) ends none = elim ends.0 [
  | inl of ↦ absurd (no_job w of.0 none of.1)
  | inr of ↦ absurd (no_job w of.0 none of.1)
]
at_words w (Err Unwritten) ends none = absurd (no_job w ends.0.0.1.0 none ends.0.0.1.1)
at_words w (Err Memory) ends none = inr refl

only_unbuilt : (w : Work) (end : End) → EndsBy w end → status_at end ≡ 9
    → w.job ≡ None
only_unbuilt w (Ok done) ends is = absurd (omega arith)
only_unbuilt w (Err NotBuilt) ends is = ends.0
only_unbuilt w (Err (Unread name)) ends is = absurd (omega arith)
only_unbuilt w (Err (Refused reason)) ends is =
    absurd (not_refusal w reason 9 ends.0 is (λ low high. omega arith))
only_unbuilt w (Err Unwritten) ends is = absurd (omega arith)
only_unbuilt w (Err Memory) ends is = absurd (omega arith)

-- ---- told texts

-- what holds of the problem's source alone, where an output is made or a table refused

accepted_output : (w : Work) (output : List ℕ) (job : Job) (source : Lead) → IsOutput w output
    → IsToldSource w job source → IsAcceptable job.task source
accepted_output w output job source of is_told =
    let has = told_text w (λ task. IsOutputOf task output) job source of is_told in
    output_accepted job.task source output has.0 has.2

at_refused : (w : Work) (end : End) → EndsBy w end → (job : Job) (source : Lead)
    (reason : Fault) → IsToldSource w job source → ProblemStands w job
    → IsRefusedBy job.task reason source → IsOrMemory (status_of_refusal reason) (status_at end)
at_refused w (Ok done) ends job source reason is_told untroubled refused =
    absurd (refused_not_accepted job.task source reason refused
    (accepted_output w ends.0 job source ends.1 is_told))
at_refused w (Err NotBuilt) ends job source reason is_told untroubled refused =
    absurd (no_job w job ends.0 is_told.job_is)
at_refused w (Err (Unread name)) ends job source reason is_told untroubled refused =
    let table = table_unread w name job source ends.0.0 ends.0.1 is_told untroubled in
    absurd (refused_not_accepted job.task source reason refused table.1)
at_refused w (Err (Refused other)) ends job source reason is_told untroubled refused = elim ends.0 [
  | inl of ↦ inl (ap status_of_refusal (refused_once job.task source other reason
      (told w (λ task. IsRefusedBy task other) job source of is_told) refused))
  | inr of ↦
      let has = told_text w (λ task. IsTableRefusedBy task other) job source of is_told in
      absurd (refused_not_accepted job.task source reason refused
      (table_refused_accepted job.task source other has.0 has.2))
]
at_refused w (Err Unwritten) ends job source reason is_told untroubled refused =
    absurd (refused_not_accepted job.task source reason refused
    (accepted_output w ends.0.0.0 job source ends.0.0.1 is_told))
at_refused w (Err Memory) ends job source reason is_told untroubled refused = inr refl

at_unsuited : (w : Work) (end : End) → EndsBy w end → (job : Job) (source : Lead)
    → IsToldSource w job source → ProblemStands w job → IsUnsuited job.task source
    → IsOrMemory 3 (status_at end)
at_unsuited w end ends job source is_told untroubled unsuited =
    let refused = unsuited_refused job.task is_told.text source is_told.leads unsuited in
    subst (λ n. IsOrMemory n (status_at end)) refused.2
    (at_refused w end ends job source (fault.Scheme refused.0) is_told untroubled refused.1)

-- ---- told tables

-- no read of a told job stops a run where none fails
all_read : (w : Work) (name : List ℕ) (job : Job) (source : Lead) (table : List ℕ)
    → EndsBy w (Err (Unread name)) → AreToldSource w job source table → NoneFails w job → ⊥
all_read w name job source table ends are_told none =
    let is_name = (table_unread w name job source ends.0.0 ends.0.1 are_told.told none.problem).0 in
    none.table name is_name (table_fails w name job source table are_told is_name ends.0.1)

at_table_refused : (w : Work) (end : End) → EndsBy w end → (job : Job) (source : Lead)
    (table : List ℕ)
    (reason : Fault) → AreToldSource w job source table → NoneFails w job
    → IsTableRefusedBy job.task reason source table
    → IsOrMemory (status_of_refusal reason) (status_at end)
at_table_refused w (Ok done) ends job source table reason are_told none refused =
    absurd (table_refused_not_output job.task source table reason ends.0 refused
    (told_both w (λ task. IsOutputOf task ends.0) job source table ends.1 are_told))
at_table_refused w (Err NotBuilt) ends job source table reason are_told none refused =
    absurd (no_job w job ends.0 are_told.told.job_is)
at_table_refused w (Err (Unread name)) ends job source table reason are_told none refused =
    absurd (all_read w name job source table ends are_told none)
at_table_refused w (Err (Refused other)) ends job source table reason are_told none refused =
    elim ends.0 [
      | inl of ↦ absurd (refused_not_accepted job.task source other
          (told w (λ task. IsRefusedBy task other) job source of are_told.told)
          (table_refused_accepted job.task source reason table refused))
      | inr of ↦ inl (ap status_of_refusal (table_refused_once job.task source table other reason
          (told_both w (λ task. IsTableRefusedBy task other) job source table of are_told)
          refused))
    ]
at_table_refused w (Err Unwritten) ends job source table reason are_told none refused =
    absurd (table_refused_not_output job.task source table reason ends.0.0.0 refused
    (told_both w (λ task. IsOutputOf task ends.0.0.0) job source table ends.0.0.1 are_told))
at_table_refused w (Err Memory) ends job source table reason are_told none refused = inr refl

complete : (w : Work) (end : End) → EndsBy w end → Complete w (status_at end)
complete w (Ok done) ends job source table output are_told is_output none written = inl refl
complete w (Err NotBuilt) ends job source table output are_told is_output none written =
    absurd (no_job w job ends.0 are_told.told.job_is)
complete w (Err (Unread name)) ends job source table output are_told is_output none written =
    absurd (all_read w name job source table ends are_told none)
complete w (Err (Refused reason)) ends job source table output are_told is_output none written =
    elim ends.0 [
      | inl of ↦ absurd (refused_not_accepted job.task source reason
          (told w (λ task. IsRefusedBy task reason) job source of are_told.told)
          (output_accepted job.task source output table is_output))
      | inr of ↦ absurd (table_refused_not_output job.task source table reason output
          (told_both w (λ task. IsTableRefusedBy task reason) job source table of are_told)
          is_output)
    ]
complete w (Err Unwritten) ends job source table output are_told is_output none written =
    absurd (written ends.0.1)
complete w (Err Memory) ends job source table output are_told is_output none written = inr refl

-- ---- all promises of this kind

module _
    (w : Work) (notes : Change (Option (List ℕ))) (notes_faults : Change ℕ) (status : ℕ)
    (ended : Ended w notes notes_faults status)
  where
    at_status : (P : ℕ → Type 0) → P (status_at ended.end) → P status
    at_status P holds = subst P ended.status_is holds

    pub is_complete : Complete w status
    is_complete = at_status (Complete w) (complete w ended.end ended.ends)

    pub not_built_exactly : NotBuiltExactly w status
    not_built_exactly = at_status (NotBuiltExactly w) (record {
      at_words = at_words w ended.end ended.ends;
      only = only_unbuilt w ended.end ended.ends;
    })

    pub refused_exactly : RefusedExactly w status
    refused_exactly = at_status (RefusedExactly w) (record {
      at_source = at_refused w ended.end ended.ends;
      at_table = at_table_refused w ended.end ended.ends;
      only = λ is.
          let refused = only_refused w ended.end ended.ends is in
          (refused.0, refused.1, refused.2);
    })

    pub unsuited_exactly : UnsuitedExactly w status
    unsuited_exactly = at_status (UnsuitedExactly w) (record {
      at_source = at_unsuited w ended.end ended.ends;
      only = only_unsuited w ended.end ended.ends;
    })

    pub unread_exactly : UnreadExactly w status
    unread_exactly = at_status (UnreadExactly w) (unread w ended.end ended.ends ended.counts)

    pub unheld_is_unread : UnheldIsUnread w status
    unheld_is_unread = at_status (UnheldIsUnread w) (record {
      problem = λ job name files is_job is_name is_told none.
          unheld w ended.end ended.ends job files is_job is_told
          (λ held. none (subst (λ n. IsHeld w.held n) is_name held));
      table = unheld_table w ended.end ended.ends;
    })

    pub unwritten_only : UnwrittenOnly w status
    unwritten_only = at_status (UnwrittenOnly w) (unwritten w ended.end ended.ends)

    pub status_is_one : IsStatus status
    status_is_one = at_status IsStatus (is_status w ended.end ended.ends)

    pub out_holds : OutHolds w status
    out_holds = at_status (OutHolds w) (record {
      whole = whole w ended.end ended.ends;
      prefix = prefix w ended.end ended.ends;
      untouched = untouched w ended.end ended.ends;
    })

    pub notes_hold : NotesHold w notes notes_faults status
    notes_hold = at_status (NotesHold w notes notes_faults)
        (notes_of w notes notes_faults ended.end ended.ends ended.noted)
