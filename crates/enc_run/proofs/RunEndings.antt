-- How a run ends whose task is seen from the read of the problem's text on.
use Rattle.std.proofs.Common.{◌≡◌, ◌≤◌, ◌∙◌, inl, inr, ℕ, List, Option, Some, None, is_some, Result, Ok, Err, sym, ap, subst, arith}
use Rattle.std.specs.Prelude.{[], IsSome}
use Rattle.enc_base.specs.Counts.{Rose, one_more}
use Rattle.enc_base.specs.Library.{Files, Gives, IsHeld}
use Rattle.enc_run.specs.Texts.{OfSource, OfTexts, Fails, ReadsAsNeeded}
use Rattle.enc_run.specs.Calls.Ending.{CountsFaults, EndsBy, IsUnread}
use Rattle.enc_run.specs.Job.{table_name}
use Rattle.enc_run.specs.Leads.{Lead, IsRefusedBy, IsTableRefusedBy, IsAcceptable, IsOutputOf}
use Rattle.enc_run.specs.Calls.Parts.{Led, TextEnds, ReadsTable}
use Rattle.enc_run.specs.Work.{Change, Work, Rises, OwnRises, Untouched, GoesOn, HasText, HasTable, OfName, KeepsCounts}
use Rattle.enc_run.specs.declared.job.Job.{Job}
use Rattle.enc_run.specs.declared.job.Task.{Task}
use Rattle.enc_run.specs.declared.stop.Stop.{Stop}
use Rattle.enc_run.specs.declared.stop.Stop.TheVariants.{NotBuilt, Unread, Refused, Unwritten, Memory}

-- ---- counts

-- what rose from a later count on rose from an earlier one on
rose_earlier : (a b c : ℕ) → a ≤ b → Rose b c → Rose a c
rose_earlier a b c later rose = omega arith

one_more-later : (a : ℕ) → a ≤ one_more a
one_more-later a = omega arith

-- ---- counts of faults

-- what changes none of them from a later point on, changes none where none changed before
module _ (faults : Change ℕ) (own : Change (List ℕ → ℕ)) (between : ℕ) (own_between : List ℕ → ℕ)
    (same : between ≡ faults.before)
    (own_same : (name : List ℕ) → own_between name ≡ own.before name)
  where
    abbrev rest_faults : Change ℕ
    rest_faults = record { before = between; after = faults.after }

    abbrev rest_own : Change (List ℕ → ℕ)
    rest_own = record { before = own_between; after = own.after }

    still : KeepsCounts rest_faults rest_own → KeepsCounts faults own
    still keeps = record {
      same = keeps.same ∙ same;
      own_same = λ name. keeps.own_same name ∙ own_same name;
    }

    pub run_counts : (end : Result (Unit {0}) Stop) → CountsFaults rest_faults rest_own end
        → CountsFaults faults own end
    run_counts (Err (Unread name)) counts =
        λ other differs. counts other differs ∙ own_same other
    run_counts (Ok done) counts = still counts
    run_counts (Err NotBuilt) counts = still counts
    run_counts (Err (Refused reason)) counts = still counts
    run_counts (Err Unwritten) counts = still counts
    run_counts (Err Memory) counts = still counts

-- ---- runs that read nothing, or the problem alone

pub reads_nothing : (w : Work) → w.reads.after ≡ w.reads.before → ReadsAsNeeded w
reads_nothing w same =
    let later = one_more-later w.reads.before in
    let later_still = one_more-later (one_more w.reads.before) in
    let few : w.reads.after ≤ one_more w.reads.before = omega arith in
    record { most = omega arith; none = λ jobless. same; second = inl few }

module _ (w : Work) (job : Job) (is_job : w.job ≡ Some job) where
  pub reads_problem : w.reads.after ≡ one_more w.reads.before → ReadsAsNeeded w
  reads_problem counted =
      let later = one_more-later (one_more w.reads.before) in
      let few : w.reads.after ≤ one_more w.reads.before = omega arith in
      record { most = omega arith; none = λ jobless. absurd cc; second = inl few }

  -- the run is stopped by the read of its problem
  pub problem_unread : (stop : Stop)
      → IsUnread job.problem (Rises w.faults)
      (IsHeld w.held job.problem → OwnRises w job.problem) stop
      → w.reads.after ≡ one_more w.reads.before → Untouched w.out w.out_faults
      → EndsBy w (Err stop)
  problem_unread NotBuilt why counted kept = absurd why
  problem_unread (Unread unread) why counted kept =
      let same = sym why.0 in (
        (
          inl (job, is_job, same, omega arith),
          record { rises = why.1; own = subst (λ n. IsHeld w.held n → OwnRises w n) same why.2 },
        ),
        kept,
      )
  problem_unread (Refused reason) why counted kept = absurd why
  problem_unread Unwritten why counted kept = absurd why
  problem_unread Memory why counted kept = (tt, kept)

  -- ---- runs that go on after the read of the problem

  -- the problem's text is read, and then these are what the library tells and its counts
  module _ (text : List ℕ) (has : HasText w job.problem text) (held : Option Files)
      (same_files : held ≡ w.held) (faults reads : ℕ) (own : List ℕ → ℕ) where
    -- the run, as seen from there on
    abbrev pub rest : Work
    rest = record {
      job = None;
      held = held;
      faults = record { before = faults; after = w.faults.after };
      reads = record { before = reads; after = w.reads.after };
      own = record { before = own; after = w.own.after };
      out = w.out;
      out_faults = w.out_faults;
    }

    has_table : (table : List ℕ) → HasTable rest job.task table → HasTable w job.task table
    has_table table holds =
        subst (λ (h : Option Files). OfName (table_name job.task) (λ name bytes. Gives h name [] bytes)
        table) same_files holds

    -- what holds of what the text leads to holds of the job's source
    of_source : (Holding : Task → Lead → Type 0) → Led text (Holding job.task)
        → OfSource w Holding
    of_source Holding led = (job, is_job, (led.0, (text, has, led.1), led.2))

    of_texts : (Holding : Task → Lead → List ℕ → Type 0) (table : List ℕ)
        → HasTable rest job.task table → Led text (λ source. Holding job.task source table)
        → OfTexts w Holding
    of_texts Holding table holds led =
        of_source
        (λ task source. (found : List ℕ) × HasTable w task found × Holding task source found)
        (led.0, led.1, (table, has_table table holds, led.2))

    fails : w.faults.before ≤ faults → ((name : List ℕ) → w.own.before name ≤ own name)
        → (name : List ℕ) → Fails rest name → Fails w name
    fails later own_later name failed = record {
      rises = rose_earlier w.faults.before faults w.faults.after later failed.rises;
      own = λ is_held. rose_earlier (w.own.before name) (own name) (w.own.after name)
          (own_later name) (failed.own (subst (λ h. IsHeld h name) (sym same_files) is_held));
    }

    pub run_ends : w.faults.before ≤ faults → ((name : List ℕ) → w.own.before name ≤ own name)
        → (end : Result (Unit {0}) Stop) → TextEnds job.task text rest end → EndsBy w end
    run_ends later own_later (Ok done) ends = (
      ends.0,
      of_texts (λ task. IsOutputOf task ends.0) ends.1.0 ends.1.1 ends.1.2,
      ends.2,
    )
    run_ends later own_later (Err NotBuilt) ends = absurd ends
    run_ends later own_later (Err (Unread name)) ends = (
      (
        inr (of_source
            (λ task source. (table_name task ≡ Some name) × IsAcceptable task source)
            (ends.1.0, ends.1.1, (ends.0, ends.1.2))),
        fails later own_later name ends.2,
      ),
      ends.3,
    )
    run_ends later own_later (Err (Refused reason)) ends = elim ends.0 [
      | inl refused ↦ (inl (of_source (λ task. IsRefusedBy task reason) refused), ends.1)
      | inr refused ↦ (
        inr (of_texts (λ task. IsTableRefusedBy task reason) refused.0 refused.1 refused.2),
        ends.1,
      )
    ]
    run_ends later own_later (Err Unwritten) ends = (
      (
        (
          ends.0,
          of_texts (λ task. IsOutputOf task ends.0) ends.1.0 ends.1.1 ends.1.2,
          ends.2,
        ),
        ends.3,
      ),
      tt,
    )
    run_ends later own_later (Err Memory) ends = (tt, ends)

    -- the files stay, and no count falls, if neither did from there on
    pub run_goes : w.faults.before ≤ faults → ((name : List ℕ) → w.own.before name ≤ own name)
        → (held_after : Option Files) → GoesOn rest held_after → GoesOn w held_after
    run_goes later own_later held_after goes = record {
      same_files = goes.same_files ∙ same_files;
      later = omega (arith, later, goes.later);
      own_later = λ name. omega (arith, own_later name, goes.own_later name);
    }

    pub run_reads : reads ≡ one_more w.reads.before → ReadsTable job.task text rest
        → ReadsAsNeeded w
    run_reads counted (inl same) = reads_problem (same ∙ counted)
    run_reads counted (inr twice) =
        let after : w.reads.after ≡ one_more (one_more w.reads.before) =
        twice.3 ∙ ap one_more counted in
        record {
          most = omega arith;
          none = λ jobless. absurd cc;
          second = inr (of_source
              (λ task source. IsSome (table_name task) × IsAcceptable task source)
              (twice.2.0, twice.2.1, (ap is_some twice.1, twice.2.2)));
        }
