-- The exit statuses of refusals: one table, from their numbers.
use Rattle.std.specs.Prelude.{ℕ, ◌&&◌, ◌||◌, ◌==◌, nat_lt, if◌then◌else◌, Option, Some, None}
use Rattle.enc_pipeline.specs.declared.fault.Fault.{Fault}
use Rattle.enc_pipeline.specs.RefusalNumbers.{number_of}

-- The status of a refusal by its number: 5 where a limit is passed, 4 where a table isn't one of a
-- model, 3 where the scheme doesn't apply, and 1 where there is no problem.
abbrev pub status_of_number : ℕ → ℕ
status_of_number n =
    if (n == 4) || (n == 10) || (n == 21) || (n == 22) || (n == 33) || (n == 35) || (n == 36) then 5
    else (if nat_lt 40 n && nat_lt n 48 then 4
    else (if (n == 31) || (n == 32) || (n == 34) then 3 else 1))

-- the same where there is a number; what has none is no refusal, but want of memory
abbrev pub status_by : Option ℕ → ℕ
status_by (Some number) = status_of_number number
status_by None = 8

-- the status of a refusal
abbrev pub status_of_refusal : Fault → ℕ
status_of_refusal reason = status_by (number_of reason)
