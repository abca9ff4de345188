-- Each job that the words give is in a plain way.
use Rattle.std.proofs.Common.{◌≡◌, ℕ, Bool, true, false, List, [], ◌∷◌, Option, Some, None, codes, refl, sym, subst}
use Rattle.std.specs.Prelude.{if◌then◌else◌, ◌&&◌}
use Rattle.std.specs.Str.{bytes_eq}
use Rattle.enc_marks.specs.declared.scheme.Scheme.{Scheme}
use Rattle.enc_marks.specs.declared.scheme.Scheme.TheVariants as scheme
use Rattle.enc_pipeline.specs.Way.{plain_way}
use Rattle.enc_run.specs.Job.{encoding_of, carrying_of, table_task_of, with_problem, with_both, is_standard_input, scheme_of, job_of}
use Rattle.enc_run.specs.Calls.Parts.{IsPlainTask}
use Rattle.enc_run.specs.declared.job.Job.{Job}
use Rattle.enc_run.specs.declared.job.Task.{Task}
use Rattle.enc_run.specs.declared.job.Task.TheVariants.{Encode, Check, Lower, Lift}

-- ---- tasks

abbrev IsPlainOption : Option Task → Type 0
IsPlainOption None = Unit {0}
IsPlainOption (Some task) = IsPlainTask task

plain_if : (b : Bool) (t o : Option Task) → IsPlainOption t → IsPlainOption o
    → IsPlainOption (if b then t else o)
plain_if true t o is_plain others = is_plain
plain_if false t o is_plain others = others

encoding_plain : (action : List ℕ) (which : Option Scheme) → IsPlainOption (encoding_of action which)
encoding_plain action None = tt
encoding_plain action (Some which) =
    plain_if (bytes_eq action (codes "encode")) (Some (Encode (plain_way which))) None refl tt

carrying_plain : (action table : List ℕ) (which : Option Scheme)
    → IsPlainOption (carrying_of action table which)
carrying_plain action table None = tt
carrying_plain action table (Some which) =
    plain_if (bytes_eq action (codes "lower")) (Some (Lower table (plain_way which))) _ refl
    (plain_if (bytes_eq action (codes "lift")) (Some (Lift table (plain_way which))) None refl tt)

table_task_plain : (action table : List ℕ) → IsPlainOption (table_task_of action table)
table_task_plain action table =
    plain_if (bytes_eq action (codes "check")) (Some (Check table)) _ tt
    (carrying_plain action table (Some scheme.Guards))

-- ---- jobs

abbrev pub IsPlainJob : Option Job → Type 0
IsPlainJob None = Unit {0}
IsPlainJob (Some job) = IsPlainTask job.task

plain_job_if : (b : Bool) (j o : Option Job) → IsPlainJob j → IsPlainJob o
    → IsPlainJob (if b then j else o)
plain_job_if true j o is_plain others = is_plain
plain_job_if false j o is_plain others = others

with_problem_plain : (problem : List ℕ) (task : Option Task) → IsPlainOption task
    → IsPlainJob (with_problem problem task)
with_problem_plain problem None is_plain = tt
with_problem_plain problem (Some task) is_plain = is_plain

with_both_plain : (problem table : List ℕ) (task : Option Task) → IsPlainOption task
    → IsPlainJob (with_both problem table task)
with_both_plain problem table task is_plain =
    plain_job_if (is_standard_input problem && is_standard_input table) None
    (with_problem problem task) tt (with_problem_plain problem task is_plain)

pub plain_jobs : (words : List (List ℕ)) → IsPlainJob (job_of words)
plain_jobs [] = tt
plain_jobs (action ∷ []) = tt
plain_jobs (action ∷ problem ∷ []) =
    with_problem_plain problem (encoding_of action (Some scheme.Guards))
    (encoding_plain action (Some scheme.Guards))
plain_jobs (action ∷ problem ∷ table ∷ []) =
    with_both_plain problem table (table_task_of action table) (table_task_plain action table)
plain_jobs (action ∷ problem ∷ option ∷ name ∷ []) =
    plain_job_if (bytes_eq option (codes "--scheme"))
    (with_problem problem (encoding_of action (scheme_of name))) None
    (with_problem_plain problem (encoding_of action (scheme_of name))
    (encoding_plain action (scheme_of name))) tt
plain_jobs (action ∷ problem ∷ table ∷ option ∷ name ∷ []) =
    plain_job_if (bytes_eq option (codes "--scheme"))
    (with_both problem table (carrying_of action table (scheme_of name))) None
    (with_both_plain problem table (carrying_of action table (scheme_of name))
    (carrying_plain action table (scheme_of name))) tt
plain_jobs (action ∷ problem ∷ table ∷ option ∷ name ∷ more ∷ rest) = tt

-- a job that the words give
pub plain_job : (words : List (List ℕ)) (job : Job) → Some job ≡ job_of words
    → IsPlainTask job.task
plain_job words job is = subst IsPlainJob (sym is) (plain_jobs words)
