-- What the words ask for.
use Rattle.std.specs.Prelude.{ℕ, Bool, ◌&&◌, if◌then◌else◌, List, [], ◌∷◌, Option, Some, None}
use Rattle.std.specs.Prelude.{codes}
use Rattle.std.specs.Option.{option_map}
use Rattle.std.specs.Str.{bytes_eq}
use Rattle.enc_marks.specs.declared.scheme.Scheme.{Scheme}
use Rattle.enc_marks.specs.declared.scheme.Scheme.TheVariants as scheme
use Rattle.enc_pipeline.specs.Output.{scheme_name}
use Rattle.enc_pipeline.specs.Way.{plain_way}
use Rattle.enc_run.specs.declared.job.Job.{Job}
use Rattle.enc_run.specs.declared.job.Task.{Task}
use Rattle.enc_run.specs.declared.job.Task.TheVariants.{Encode, Check, Lower, Lift}

-- the name of a task's table, where it has one
abbrev pub table_name : Task → Option (List ℕ)
table_name (Encode how) = None
table_name (Check table) = Some table
table_name (Lower table how) = Some table
table_name (Lift table how) = Some table

-- the scheme of this name
unfoldable pub scheme_of : List ℕ → Option Scheme
scheme_of name =
    if bytes_eq name (scheme_name scheme.Guards) then Some scheme.Guards
    else (if bytes_eq name (scheme_name scheme.Tags) then Some scheme.Tags
    else (if bytes_eq name (scheme_name scheme.GuardsCover) then Some scheme.GuardsCover
    else (if bytes_eq name (scheme_name scheme.TagsCover) then Some scheme.TagsCover
    else (if bytes_eq name (scheme_name scheme.Args) then Some scheme.Args
    else (if bytes_eq name (scheme_name scheme.Erase) then Some scheme.Erase
    else (if bytes_eq name (scheme_name scheme.GuardsLight) then Some scheme.GuardsLight
    else (if bytes_eq name (scheme_name scheme.TagsLight) then Some scheme.TagsLight
    else (if bytes_eq name (scheme_name scheme.GuardsFeather) then Some scheme.GuardsFeather
    else (if bytes_eq name (scheme_name scheme.TagsFeather) then Some scheme.TagsFeather
    else None)))))))))

-- ---- tasks, by the name of the action

-- the problem is encoded by a scheme
abbrev pub encoding_of : List ℕ → Option Scheme → Option Task
encoding_of action None = None
encoding_of action (Some which) =
    if bytes_eq action (codes "encode") then Some (Encode (plain_way which)) else None

-- a table's model is carried by a scheme
abbrev pub carrying_of : List ℕ → List ℕ → Option Scheme → Option Task
carrying_of action table None = None
carrying_of action table (Some which) =
    if bytes_eq action (codes "lower") then Some (Lower table (plain_way which))
    else (if bytes_eq action (codes "lift") then Some (Lift table (plain_way which)) else None)

-- a task with a table, where no scheme is named
abbrev pub table_task_of : List ℕ → List ℕ → Option Task
table_task_of action table =
    if bytes_eq action (codes "check") then Some (Check table)
    else carrying_of action table (Some scheme.Guards)

-- ---- jobs

-- the task on this problem
abbrev pub with_problem : List ℕ → Option Task → Option Job
with_problem problem = option_map (λ task. record { problem = problem; task = task })

-- the word is the name of the standard input
abbrev pub is_standard_input : List ℕ → Bool
is_standard_input name = bytes_eq name (codes "-")

-- the task on this problem, unless it and the table are both to come from the standard input
abbrev pub with_both : List ℕ → List ℕ → Option Task → Option Job
with_both problem table task =
    if is_standard_input problem && is_standard_input table then None else with_problem problem task

-- The words give this job: `encode` and the problem's name; `check`, `lower` or `lift`, the
-- problem's name and the table's; or these, `check` apart, with `--scheme` and the name of a
-- scheme, which is `guards` where none is named. No other words give one yet.
abbrev pub job_of : List (List ℕ) → Option Job
job_of (action ∷ problem ∷ []) = with_problem problem (encoding_of action (Some scheme.Guards))
job_of (action ∷ problem ∷ table ∷ []) = with_both problem table (table_task_of action table)
job_of (action ∷ problem ∷ option ∷ name ∷ []) =
    if bytes_eq option (codes "--scheme")
    then with_problem problem (encoding_of action (scheme_of name)) else None
job_of (action ∷ problem ∷ table ∷ option ∷ name ∷ []) =
    if bytes_eq option (codes "--scheme")
    then with_both problem table (carrying_of action table (scheme_of name)) else None
job_of _ = None
