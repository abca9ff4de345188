-- The statuses of reasons that stand, and of all ends.
use Rattle.std.proofs.Common.{◌≡◌, ◌≤◌, ◌∙◌, ◌⊎◌, inl, inr, ℕ, List, Option, Some, None, Result, Ok, Err, refl, sym, ap, subst, arith}
use Rattle.std.specs.Prelude.{◌≢◌, IsSomeAnd}
use Rattle.tptp_syntax.specs.RefusalNumbers.{number_of as read_number}
use Rattle.tptp_syntax.specs.declared.error.ReadError.{ReadError}
use Rattle.tptp_syntax.specs.declared.error.ReadError.TheVariants as reading
use Rattle.tf_check.specs.RefusalNumbers.{number_of as type_number}
use Rattle.tf_check.specs.declared.error.TypeError.{TypeError}
use Rattle.tf_check.specs.declared.error.TypeError.TheVariants as typing
use Rattle.tf_core.specs.declared.problem.Problem.{Problem}
use Rattle.model_tables.specs.RefusalNumbers.{number_of as table_number}
use Rattle.model_tables.specs.declared.error.TableError.{TableError}
use Rattle.model_tables.specs.declared.error.TableError.TheVariants as table
use Rattle.enc_marks.specs.declared.refusal.Refusal.{Refusal}
use Rattle.enc_marks.specs.declared.refusal.Refusal.TheVariants as refusal
use Rattle.enc_marks.specs.declared.scheme.Scheme.{Scheme}
use Rattle.enc_pipeline.specs.declared.fault.Fault.{Fault}
use Rattle.enc_pipeline.specs.declared.fault.Fault.TheVariants as fault
use Rattle.enc_pipeline.specs.Carried.{IsNoModel, IsUnlowered, IsUnlifted}
use Rattle.enc_pipeline.specs.Causes.{IsSchemeRefusal}
use Rattle.enc_pipeline.specs.Way.{Preparation}
use Rattle.enc_run.specs.Texts.{IsRefused, OfSource}
use Rattle.enc_run.specs.Calls.Ending.{EndsBy, status_at}
use Rattle.enc_run.specs.Leads.{Lead, LeadsTo, RefusesProblem, IsRefusedBy, IsTableRefusedBy, RefusesTable, preparation}
use Rattle.enc_run.specs.Leads.{IsUnapplied, IsUnsuited, RefusesBy, task_scheme}
use Rattle.enc_run.specs.Promises.{IsOfRefusal, IsStatus}
use Rattle.enc_run.specs.Statuses.{status_by, status_of_refusal}
use Rattle.enc_run.specs.Work.{Work}
use Rattle.enc_run.specs.declared.job.Task.{Task}
use Rattle.enc_run.specs.declared.job.Task.TheVariants.{Encode, Check, Lower, Lift}
use Rattle.enc_run.specs.declared.stop.Stop.{Stop}
use Rattle.enc_run.specs.declared.stop.Stop.TheVariants.{NotBuilt, Unread, Refused, Unwritten, Memory}
use Rattle.enc_run.proofs.Leads.{sound_problem, some_refusal}

abbrev pub End : Type 0
End = Result (Unit {0}) Stop

-- the status is one of two
abbrev pub OneOf : ℕ → ℕ → ℕ → Type 0
OneOf first second status = (status ≡ first) ⊎ (status ≡ second)

-- ---- problems' texts

reading_statuses : (reason : ReadError) → reason ≢ reading.Memory
    → OneOf 1 5 (status_by (read_number reason))
reading_statuses (reading.BadByte at) lacks = inl refl
reading_statuses (reading.Unclosed at) lacks = inl refl
reading_statuses (reading.Syntax at) lacks = inl refl
reading_statuses (reading.TooDeep at) lacks = inr refl
reading_statuses (reading.Language at) lacks = inl refl
reading_statuses (reading.Role at) lacks = inl refl
reading_statuses (reading.Number at) lacks = inl refl
reading_statuses (reading.DistinctObject at) lacks = inl refl
reading_statuses (reading.Include at) lacks = inl refl
reading_statuses (reading.TooLong bytes) lacks = inr refl
reading_statuses reading.Memory lacks = absurd (lacks refl)

typing_statuses : (reason : TypeError) → reason ≢ typing.Memory
    → OneOf 1 5 (status_by (type_number reason))
typing_statuses (typing.Redeclared entry name) lacks = inl refl
typing_statuses (typing.BadDeclaration entry) lacks = inl refl
typing_statuses (typing.UnknownType entry name) lacks = inl refl
typing_statuses (typing.FreeVariable entry name) lacks = inl refl
typing_statuses (typing.Arity entry name expected found) lacks = inl refl
typing_statuses (typing.Mismatch entry expected found) lacks = inl refl
typing_statuses (typing.NotATerm entry name) lacks = inl refl
typing_statuses (typing.NotAFormula entry name) lacks = inl refl
typing_statuses (typing.TypeQuantifier entry) lacks = inl refl
typing_statuses (typing.SecondConjecture entry) lacks = inl refl
typing_statuses (typing.TooManySymbols count) lacks = inr refl
typing_statuses typing.Memory lacks = absurd (lacks refl)

reason_statuses : (text : List ℕ) (reason : Fault) → LeadsTo text (Err reason)
    → OneOf 1 5 (status_of_refusal reason)
reason_statuses text (fault.Reading reason) leads = reading_statuses reason leads.1.0
reason_statuses text (fault.Typing reason) leads = typing_statuses reason leads.1.0
reason_statuses text (fault.TooLarge nodes) leads = absurd leads.1
reason_statuses text (fault.Scheme reason) leads = absurd leads.1
reason_statuses text fault.Incomplete leads = absurd leads.1
reason_statuses text (fault.Table reason) leads = absurd leads.1
reason_statuses text (fault.NotModel formula) leads = absurd leads.1
reason_statuses text fault.Write leads = absurd leads.1
reason_statuses text fault.Memory leads = absurd (leads.0 refl)

-- a problem has too many nodes, or its scheme doesn't apply to it

scheme_status : (reason : Refusal) → IsSchemeRefusal reason
    → status_of_refusal (fault.Scheme reason) ≡ 3
scheme_status (refusal.NotMonomorphic name) is = refl
scheme_status (refusal.NotMonotone place) is = refl
scheme_status (refusal.TableTooLarge entries) is = absurd is
scheme_status refusal.Memory is = absurd is

is_scheme_refusal : (found : Option Scheme) (problem : Problem) (reason : Refusal)
    → IsSomeAnd found (λ which. RefusesBy which problem reason) → IsSchemeRefusal reason
is_scheme_refusal None problem reason refused = absurd refused
is_scheme_refusal (Some which) problem reason refused = refused.1

problem_statuses : (task : Task) (problem : Problem) (reason : Fault)
    → RefusesProblem task problem reason → OneOf 3 5 (status_of_refusal reason)
problem_statuses task problem (fault.TooLarge nodes) refused = inr refl
problem_statuses task problem (fault.Scheme reason) refused =
    inl (scheme_status reason (is_scheme_refusal (task_scheme task) problem reason refused))
problem_statuses task problem (fault.Reading reason) refused = absurd refused
problem_statuses task problem (fault.Typing reason) refused = absurd refused
problem_statuses task problem fault.Incomplete refused = absurd refused
problem_statuses task problem (fault.Table reason) refused = absurd refused
problem_statuses task problem (fault.NotModel formula) refused = absurd refused
problem_statuses task problem fault.Write refused = absurd refused
problem_statuses task problem fault.Memory refused = absurd refused

of_text : (status : ℕ) → OneOf 1 5 status → IsOfRefusal status
of_text status (inl is) = inl is
of_text status (inr is) = inr (inr (inr is))

of_problem : (status : ℕ) → OneOf 3 5 status → IsOfRefusal status
of_problem status (inl is) = inr (inl is)
of_problem status (inr is) = inr (inr (inr is))

of_table : (status : ℕ) → OneOf 4 5 status → IsOfRefusal status
of_table status (inl is) = inr (inr (inl is))
of_table status (inr is) = inr (inr (inr is))

source_statuses : (task : Task) (text : List ℕ) (source : Lead) (reason : Fault)
    → LeadsTo text source → IsRefusedBy task reason source → IsOfRefusal (status_of_refusal reason)
source_statuses task text (Ok problem) reason leads refused =
    of_problem (status_of_refusal reason) (problem_statuses task problem reason refused)
source_statuses task text (Err other) reason leads refused =
    subst (λ (r : Fault). IsOfRefusal (status_of_refusal r)) (sym refused)
    (of_text (status_of_refusal other) (reason_statuses text other leads))

-- ---- tables

table_statuses : (reason : TableError) → reason ≢ table.Memory
    → OneOf 4 5 (status_by (table_number reason))
table_statuses (table.TableSyntax at) lacks = inl refl
table_statuses (table.UnknownSymbol name) lacks = inl refl
table_statuses (table.Missing name) lacks = inl refl
table_statuses (table.Repeated name) lacks = inl refl
table_statuses (table.WrongLength name expected found) lacks = inl refl
table_statuses (table.OutOfRange name value) lacks = inl refl
table_statuses (table.TooLarge entries) lacks = inr refl
table_statuses table.Memory lacks = absurd (lacks refl)

no_model_statuses : (problem : Problem) (text : List ℕ) (reason : Fault)
    → IsNoModel problem text reason → OneOf 4 5 (status_of_refusal reason)
no_model_statuses problem text (fault.Table reason) refuses = table_statuses reason refuses.0
no_model_statuses problem text (fault.NotModel formula) refuses = inl refl
no_model_statuses problem text (fault.Reading reason) refuses = absurd refuses
no_model_statuses problem text (fault.Typing reason) refuses = absurd refuses
no_model_statuses problem text (fault.TooLarge nodes) refuses = absurd refuses
no_model_statuses problem text (fault.Scheme reason) refuses = absurd refuses
no_model_statuses problem text fault.Incomplete refuses = absurd refuses
no_model_statuses problem text fault.Write refuses = absurd refuses
no_model_statuses problem text fault.Memory refuses = absurd refuses

unlowered_statuses : (p : Preparation) (text : List ℕ) (reason : Fault)
    → IsUnlowered p text reason → OneOf 4 5 (status_of_refusal reason)
unlowered_statuses p text (fault.Table reason) refuses = table_statuses reason refuses.0
unlowered_statuses p text (fault.NotModel formula) refuses = inl refl
unlowered_statuses p text (fault.Scheme (refusal.TableTooLarge entries)) refuses = inr refl
unlowered_statuses p text (fault.Scheme (refusal.NotMonomorphic name)) refuses = absurd refuses
unlowered_statuses p text (fault.Scheme (refusal.NotMonotone place)) refuses = absurd refuses
unlowered_statuses p text (fault.Scheme refusal.Memory) refuses = absurd refuses
unlowered_statuses p text (fault.Reading reason) refuses = absurd refuses
unlowered_statuses p text (fault.Typing reason) refuses = absurd refuses
unlowered_statuses p text (fault.TooLarge nodes) refuses = absurd refuses
unlowered_statuses p text fault.Incomplete refuses = absurd refuses
unlowered_statuses p text fault.Write refuses = absurd refuses
unlowered_statuses p text fault.Memory refuses = absurd refuses

unlifted_statuses : (p : Preparation) (text : List ℕ) (reason : Fault)
    → IsUnlifted p text reason → OneOf 4 5 (status_of_refusal reason)
unlifted_statuses p text (fault.Table reason) refuses = table_statuses reason refuses.0
unlifted_statuses p text (fault.NotModel formula) refuses = inl refl
unlifted_statuses p text (fault.Scheme (refusal.TableTooLarge entries)) refuses = inr refl
unlifted_statuses p text (fault.Scheme (refusal.NotMonomorphic name)) refuses = absurd refuses
unlifted_statuses p text (fault.Scheme (refusal.NotMonotone place)) refuses = absurd refuses
unlifted_statuses p text (fault.Scheme refusal.Memory) refuses = absurd refuses
unlifted_statuses p text (fault.Reading reason) refuses = absurd refuses
unlifted_statuses p text (fault.Typing reason) refuses = absurd refuses
unlifted_statuses p text (fault.TooLarge nodes) refuses = absurd refuses
unlifted_statuses p text fault.Incomplete refuses = absurd refuses
unlifted_statuses p text fault.Write refuses = absurd refuses
unlifted_statuses p text fault.Memory refuses = absurd refuses

refusal_statuses : (task : Task) (problem : Problem) (text : List ℕ) (reason : Fault)
    → RefusesTable task problem text reason → OneOf 4 5 (status_of_refusal reason)
refusal_statuses (Encode how) problem text reason refuses = absurd refuses
refusal_statuses (Check name) problem text reason refuses =
    no_model_statuses problem text reason refuses
refusal_statuses (Lower name how) problem text reason refuses =
    unlowered_statuses (preparation how problem) text reason refuses
refusal_statuses (Lift name how) problem text reason refuses =
    unlifted_statuses (preparation how problem) text reason refuses

table_refusal_statuses : (task : Task) (source : Lead) (table : List ℕ) (reason : Fault)
    → IsTableRefusedBy task reason source table → OneOf 4 5 (status_of_refusal reason)
table_refusal_statuses task (Ok problem) table reason refused =
    refusal_statuses task problem table reason refused.1
table_refusal_statuses task (Err other) table reason refused = absurd refused

-- ---- all ends

-- a reason that stands has the status of a refusal
pub is_of_refusal : (w : Work) (reason : Fault) → IsRefused w reason
    → IsOfRefusal (status_of_refusal reason)
is_of_refusal w reason is_refused = elim is_refused [
  | inl of ↦ source_statuses of.0.task of.2.1.0 of.2.0 reason of.2.1.2 of.2.2
  | inr of ↦ of_table (status_of_refusal reason)
      (table_refusal_statuses of.0.task of.2.0 of.2.2.0 reason of.2.2.2)
]

between : (status : ℕ) → IsOfRefusal status → (1 ≤ status) × (status ≤ 5)
between status (inl is) = (omega arith, omega arith)
between status (inr (inl is)) = (omega arith, omega arith)
between status (inr (inr (inl is))) = (omega arith, omega arith)
between status (inr (inr (inr is))) = (omega arith, omega arith)

-- which is none of another end's
pub not_refusal : (w : Work) (reason : Fault) (status : ℕ) → IsRefused w reason
    → status_of_refusal reason ≡ status → (1 ≤ status → status ≤ 5 → ⊥) → ⊥
not_refusal w reason status is_refused is other =
    let bounds = between status (subst IsOfRefusal is (is_of_refusal w reason is_refused)) in
    other bounds.0 bounds.1

pub is_status : (w : Work) (end : End) → EndsBy w end → IsStatus (status_at end)
is_status w (Ok done) ends = inl refl
is_status w (Err (Refused reason)) ends = elim (is_of_refusal w reason ends.0) [
  | inl one ↦ inr (inl one)
  | inr others ↦ elim others [
    | inl three ↦ inr (inr (inl three))
    | inr last ↦ elim last [
      | inl four ↦ inr (inr (inr (inl four)))
      | inr five ↦ inr (inr (inr (inr (inl five))))
    ]
  ]
]
is_status w (Err (Unread name)) ends = inr (inr (inr (inr (inr (inl refl)))))
is_status w (Err Unwritten) ends = inr (inr (inr (inr (inr (inr (inl refl))))))
is_status w (Err Memory) ends = inr (inr (inr (inr (inr (inr (inr (inl refl)))))))
is_status w (Err NotBuilt) ends = inr (inr (inr (inr (inr (inr (inr (inr refl)))))))

-- an end with such a status is that of a reason that stands
pub only_refused : (w : Work) (end : End) → EndsBy w end → IsOfRefusal (status_at end)
    → (reason : Fault) × IsRefused w reason × (status_of_refusal reason ≡ status_at end)
    × (end ≡ Err (Refused reason))
only_refused w (Err (Refused reason)) ends is = (reason, ends.0, refl, refl)
only_refused w (Ok done) ends is = let bounds = between 0 is in absurd (omega arith)
only_refused w (Err NotBuilt) ends is = let bounds = between 9 is in absurd (omega arith)
only_refused w (Err (Unread name)) ends is = let bounds = between 6 is in absurd (omega arith)
only_refused w (Err Unwritten) ends is = let bounds = between 7 is in absurd (omega arith)
only_refused w (Err Memory) ends is = let bounds = between 8 is in absurd (omega arith)

-- ---- 3

-- such a status is that of a scheme that doesn't apply

some_unapplied : (found : Option Scheme) (problem : Problem) (reason : Refusal)
    → IsSomeAnd found (λ which. RefusesBy which problem reason)
    → IsSomeAnd found (λ which. IsUnapplied which problem)
some_unapplied None problem reason refused = absurd refused
some_unapplied (Some which) problem reason refused = refused.0

unsuited_problem : (task : Task) (problem : Problem) (reason : Fault)
    → RefusesProblem task problem reason → status_of_refusal reason ≡ 3
    → IsUnsuited task (Ok problem)
unsuited_problem task problem (fault.Scheme reason) refused is =
    some_unapplied (task_scheme task) problem reason refused
unsuited_problem task problem (fault.TooLarge nodes) refused is = absurd (omega arith)
unsuited_problem task problem (fault.Reading reason) refused is = absurd refused
unsuited_problem task problem (fault.Typing reason) refused is = absurd refused
unsuited_problem task problem fault.Incomplete refused is = absurd refused
unsuited_problem task problem (fault.Table reason) refused is = absurd refused
unsuited_problem task problem (fault.NotModel formula) refused is = absurd refused
unsuited_problem task problem fault.Write refused is = absurd refused
unsuited_problem task problem fault.Memory refused is = absurd refused

not_three : (first second status : ℕ) → OneOf first second status → status ≡ 3
    → (first ≡ 3 → ⊥) → (second ≡ 3 → ⊥) → ⊥
not_three first second status (inl at) is not_first not_second = not_first (sym at ∙ is)
not_three first second status (inr at) is not_first not_second = not_second (sym at ∙ is)

unsuited_source : (task : Task) (text : List ℕ) (source : Lead) (reason : Fault)
    → LeadsTo text source → IsRefusedBy task reason source → status_of_refusal reason ≡ 3
    → IsUnsuited task source
unsuited_source task text (Ok problem) reason leads refused is =
    unsuited_problem task problem reason refused is
unsuited_source task text (Err other) reason leads refused is =
    not_three 1 5 (status_of_refusal other) (reason_statuses text other leads)
    (ap status_of_refusal (sym refused) ∙ is) (λ same. cc) (λ same. cc)

pub only_unsuited : (w : Work) (end : End) → EndsBy w end → status_at end ≡ 3
    → OfSource w IsUnsuited
only_unsuited w (Err (Refused reason)) ends is = elim ends.0 [
  | inl of ↦ (
    of.0,
    of.1,
    (of.2.0, of.2.1, unsuited_source of.0.task of.2.1.0 of.2.0 reason of.2.1.2 of.2.2 is),
  )
  | inr of ↦ absurd (not_three 4 5 (status_of_refusal reason)
      (table_refusal_statuses of.0.task of.2.0 of.2.2.0 reason of.2.2.2) is (λ same. cc) (λ same. cc))
]
only_unsuited w (Ok done) ends is = absurd (omega arith)
only_unsuited w (Err NotBuilt) ends is = absurd (omega arith)
only_unsuited w (Err (Unread name)) ends is = absurd (omega arith)
only_unsuited w (Err Unwritten) ends is = absurd (omega arith)
only_unsuited w (Err Memory) ends is = absurd (omega arith)

-- a source whose problem the scheme doesn't apply to is refused with it
pub unsuited_refused : (task : Task) (text : List ℕ) (source : Lead) → LeadsTo text source
    → IsUnsuited task source
    → (reason : Refusal) × IsRefusedBy task (fault.Scheme reason) source
    × (status_of_refusal (fault.Scheme reason) ≡ 3)
unsuited_refused task text (Err reason) leads unsuited = absurd unsuited
unsuited_refused task text (Ok problem) leads unsuited =
    by (task_scheme task) refl unsuited
  where
    by : (found : Option Scheme) → task_scheme task ≡ found
        → IsSomeAnd found (λ which. IsUnapplied which problem)
        → (reason : Refusal) × IsRefusedBy task (fault.Scheme reason) (Ok problem)
        × (status_of_refusal (fault.Scheme reason) ≡ 3)
    by None is unapplied = absurd unapplied
    by (Some which) is unapplied =
        let found = some_refusal which problem (sound_problem text problem leads) unapplied in (
          found.0,
          subst (λ one. IsSomeAnd one (λ other. RefusesBy other problem found.0)) (sym is) found.1,
          scheme_status found.0 found.1.1,
        )
