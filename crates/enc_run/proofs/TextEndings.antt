-- How the end of a part of a task on a problem's text makes the end of the task.
use Rattle.std.proofs.Common.{◌≡◌, ◌∙◌, inl, inr, ℕ, List, Option, Some, Result, Ok, Err, refl, sym, ap, subst}
use Rattle.std.specs.Prelude.{[], IsSomeAnd}
use Rattle.std.specs.Io.KnownBytes.{Appends}
use Rattle.enc_base.specs.Library.{IsHeld}
use Rattle.tf_core.specs.declared.problem.Problem.{Problem}
use Rattle.enc_marks.specs.declared.scheme.Scheme.{Scheme}
use Rattle.enc_pipeline.specs.Carried.{IsLoweredTo, IsUnlowered, IsLiftedTo, IsUnlifted}
use Rattle.enc_pipeline.specs.Causes.{IsUnreadable, IsUnprepared}
use Rattle.enc_pipeline.specs.Output.{output}
use Rattle.enc_pipeline.specs.Reading.{HasProblem}
use Rattle.enc_pipeline.specs.Stopped.{IsStopped}
use Rattle.enc_pipeline.specs.Way.{Preparation}
use Rattle.enc_pipeline.specs.declared.how.How.{How}
use Rattle.enc_pipeline.specs.declared.fault.Fault.{Fault}
use Rattle.enc_pipeline.specs.declared.fault.Fault.TheVariants as fault
use Rattle.enc_run.specs.Calls.Ending.{IsUnread}
use Rattle.enc_run.specs.Job.{table_name}
use Rattle.enc_run.specs.Leads.{task_scheme, IsAccepted, IsAcceptable}
use Rattle.enc_run.specs.Leads.{RefusesBy, RefusesTable, Writes}
use Rattle.enc_run.specs.Calls.Parts.{Led, LedToOutput, EncodingEnds, HasPrepared, TextStops, TextEnds}
use Rattle.enc_run.specs.Stop.{stop_of}
use Rattle.enc_run.specs.Work.{Change, Work, Rises, OwnRises, Untouched, HasText, HasTable}
use Rattle.enc_run.specs.declared.job.Task.{Task}
use Rattle.enc_run.specs.declared.job.Task.TheVariants.{Encode, Check, Lower, Lift}
use Rattle.enc_run.specs.declared.stop.Stop.{Stop}
use Rattle.enc_run.specs.declared.stop.Stop.TheVariants.{NotBuilt, Unread, Refused, Unwritten, Memory}
use Rattle.enc_run.proofs.Leads.{rests_on_normal, is_refused, sound_problem}

-- a text that has no problem stops each task
pub unreadable_stops : (task : Task) (text : List ℕ) (reason : Fault) → IsUnreadable text reason
    → TextStops task text (stop_of reason)
unreadable_stops task text (fault.Reading reason) unread =
    (Err (fault.Reading reason), (λ is. cc, unread), refl)
unreadable_stops task text (fault.Typing reason) unread =
    (Err (fault.Typing reason), (λ is. cc, unread), refl)
unreadable_stops task text (fault.TooLarge nodes) unread = absurd unread
unreadable_stops task text (fault.Scheme reason) unread = absurd unread
unreadable_stops task text fault.Incomplete unread = absurd unread
unreadable_stops task text (fault.Table reason) unread = absurd unread
unreadable_stops task text (fault.NotModel formula) unread = absurd unread
unreadable_stops task text fault.Write unread = absurd unread
unreadable_stops task text fault.Memory unread = tt

-- a problem that can't be prepared stops each task in its way
module _ (task : Task) (text : List ℕ) (problem : Problem) (has : HasProblem text problem)
    (how : How) (scheme_is : task_scheme task ≡ Some how.scheme) where
  pub unprepared_stops : (reason : Fault) → IsUnprepared problem how reason
      → TextStops task text (stop_of reason)
  unprepared_stops (fault.Reading reason) why = absurd why
  unprepared_stops (fault.Typing reason) why = absurd why
  unprepared_stops (fault.TooLarge nodes) why =
      (Ok problem, has, (rests_on_normal task how.scheme scheme_is, why.0, why.1))
  unprepared_stops (fault.Scheme reason) why = (
    Ok problem,
    has,
    subst (λ (found : Option Scheme). IsSomeAnd found (λ which. RefusesBy which problem reason))
        (sym scheme_is)
        (is_refused how.scheme problem (sound_problem text problem has) why.0 reason why.1 why.2),
  )
  unprepared_stops fault.Incomplete why = absurd why
  unprepared_stops (fault.Table reason) why = absurd why
  unprepared_stops (fault.NotModel formula) why = absurd why
  unprepared_stops fault.Write why = absurd why
  unprepared_stops fault.Memory why = tt

module _ (task : Task) (text : List ℕ) (w : Work) where
  -- the task is stopped by its problem's text
  pub text_stopped : (stop : Stop) → TextStops task text stop → Untouched w.out w.out_faults
      → TextEnds task text w (Err stop)
  text_stopped NotBuilt stops kept = absurd stops
  text_stopped (Unread name) stops kept = absurd stops
  text_stopped (Refused reason) stops kept = (inl stops, kept)
  text_stopped Unwritten stops kept = absurd stops
  text_stopped Memory stops kept = kept

  -- the task is stopped by the read of its table
  pub table_unread : (name : List ℕ) → table_name task ≡ Some name → Led text (IsAcceptable task)
      → (stop : Stop) → IsUnread name (Rises w.faults) (IsHeld w.held name → OwnRises w name) stop
      → Untouched w.out w.out_faults → TextEnds task text w (Err stop)
  table_unread name is accepted NotBuilt why kept = absurd why
  table_unread name is accepted (Unread unread) why kept =
      let same = sym why.0 in (
        is ∙ ap Some same,
        accepted,
        record { rises = why.1; own = subst (λ n. IsHeld w.held n → OwnRises w n) same why.2 },
        kept,
      )
  table_unread name is accepted (Refused reason) why kept = absurd why
  table_unread name is accepted Unwritten why kept = absurd why
  table_unread name is accepted Memory why kept = kept

  module _ (problem : Problem) (leads : HasProblem text problem)
      (accepted : IsAccepted task problem) (table : List ℕ) (has : HasTable w task table) where
    -- the task is stopped by its table, or in writing
    pub table_stopped : (reason : Fault)
        → IsStopped (RefusesTable task problem table) (Writes task problem table)
        w.out.before w.out.after w.out_faults.before w.out_faults.after reason
        → TextEnds task text w (Err (stop_of reason))
    table_stopped (fault.Reading reason) stopped =
        (inr (table, has, (Ok problem, leads, (accepted, stopped.0))), (stopped.1, stopped.2))
    table_stopped (fault.Typing reason) stopped =
        (inr (table, has, (Ok problem, leads, (accepted, stopped.0))), (stopped.1, stopped.2))
    table_stopped (fault.TooLarge nodes) stopped =
        (inr (table, has, (Ok problem, leads, (accepted, stopped.0))), (stopped.1, stopped.2))
    table_stopped (fault.Scheme reason) stopped =
        (inr (table, has, (Ok problem, leads, (accepted, stopped.0))), (stopped.1, stopped.2))
    table_stopped fault.Incomplete stopped =
        (inr (table, has, (Ok problem, leads, (accepted, stopped.0))), (stopped.1, stopped.2))
    table_stopped (fault.Table reason) stopped =
        (inr (table, has, (Ok problem, leads, (accepted, stopped.0))), (stopped.1, stopped.2))
    table_stopped (fault.NotModel formula) stopped =
        (inr (table, has, (Ok problem, leads, (accepted, stopped.0))), (stopped.1, stopped.2))
    table_stopped fault.Write stopped =
        (stopped.1.0, (table, has, (Ok problem, leads, (accepted, stopped.1.1))), stopped.1.2, stopped.0)
    table_stopped fault.Memory stopped = stopped

    -- the task is done
    pub done : (output : List ℕ) → Writes task problem table output
        → Appends w.out.before w.out.after output → TextEnds task text w (Ok tt)
    done output writes written = (output, (table, has, (Ok problem, leads, (accepted, writes))), written)

-- ---- check

-- each problem is accepted to be checked
pub checked : (name : List ℕ) (problem : Problem) → IsAccepted (Check name) problem
checked name problem = record { within = λ normalised. absurd cc; applies = tt }

-- ---- lower and lift

module _ (how : How) (name text : List ℕ) (p : Preparation) (is : HasPrepared how text p)
  where
    lowered : IsAccepted (Lower name how) is.problem
    lowered = record { within = λ normalised. is.within; applies = is.applies }

    pub lowerable : Led text (IsAcceptable (Lower name how))
    lowerable = (Ok is.problem, is.has, lowered)

    lifted : IsAccepted (Lift name how) is.problem
    lifted = record { within = λ normalised. is.within; applies = is.applies }

    pub liftable : Led text (IsAcceptable (Lift name how))
    liftable = (Ok is.problem, is.has, lifted)

    module _ (w : Work) (table : List ℕ) (has : HasText w name table) where
      pub lowering_stopped : (reason : Fault)
          → IsStopped (IsUnlowered p table) (IsLoweredTo p table) w.out.before w.out.after
          w.out_faults.before w.out_faults.after reason
          → TextEnds (Lower name how) text w (Err (stop_of reason))
      lowering_stopped reason stopped =
          table_stopped (Lower name how) text w is.problem is.has lowered table has reason
          (subst (λ q. IsStopped (IsUnlowered q table) (IsLoweredTo q table)
          w.out.before w.out.after w.out_faults.before w.out_faults.after reason) is.is stopped)

      pub lowering_done : (output : List ℕ) → IsLoweredTo p table output
          → Appends w.out.before w.out.after output → TextEnds (Lower name how) text w (Ok tt)
      lowering_done output carried written =
          done (Lower name how) text w is.problem is.has lowered table has output
          (subst (λ q. IsLoweredTo q table output) is.is carried) written

      pub lifting_stopped : (reason : Fault)
          → IsStopped (IsUnlifted p table) (IsLiftedTo p table) w.out.before w.out.after
          w.out_faults.before w.out_faults.after reason
          → TextEnds (Lift name how) text w (Err (stop_of reason))
      lifting_stopped reason stopped =
          table_stopped (Lift name how) text w is.problem is.has lifted table has reason
          (subst (λ q. IsStopped (IsUnlifted q table) (IsLiftedTo q table)
          w.out.before w.out.after w.out_faults.before w.out_faults.after reason) is.is stopped)

      pub lifting_done : (output : List ℕ) → IsLiftedTo p table output
          → Appends w.out.before w.out.after output → TextEnds (Lift name how) text w (Ok tt)
      lifting_done output carried written =
          done (Lift name how) text w is.problem is.has lifted table has output
          (subst (λ q. IsLiftedTo q table output) is.is carried) written

-- ---- encode

module _ (how : How) (text : List ℕ) (out : Change (Option (List ℕ))) (faults : Change ℕ) where
  -- the encoding is stopped by its text
  pub encoding_stopped : (stop : Stop) → TextStops (Encode how) text stop
      → Untouched out faults → EncodingEnds how text out faults (Err stop)
  encoding_stopped NotBuilt stops kept = absurd stops
  encoding_stopped (Unread name) stops kept = absurd stops
  encoding_stopped (Refused reason) stops kept = (stops, kept)
  encoding_stopped Unwritten stops kept = absurd stops
  encoding_stopped Memory stops kept = kept

-- what is prepared has an output
pub encodable : (how : How) (text : List ℕ) (p : Preparation) → HasPrepared how text p
    → LedToOutput (Encode how) (output p) text []
encodable how text p is = (
  Ok is.problem,
  is.has,
  (record { within = λ normalised. is.within; applies = is.applies }, ap output is.is),
)

-- the task of encoding ends as the encoding
pub encoded : (how : How) (text : List ℕ) (w : Work) (end : Result (Unit {0}) Stop)
    → EncodingEnds how text w.out w.out_faults end → TextEnds (Encode how) text w end
encoded how text w (Ok finished) ends = (ends.0, ([], refl, ends.1), ends.2)
encoded how text w (Err NotBuilt) ends = absurd ends
encoded how text w (Err (Unread name)) ends = absurd ends
encoded how text w (Err (Refused reason)) ends = (inl ends.0, ends.1)
encoded how text w (Err Unwritten) ends = (ends.0, ([], refl, ends.1), ends.2, ends.3)
encoded how text w (Err Memory) ends = ends
