-- The ways in which a run ends early: their statuses, and how a fault ends a run.
use Rattle.std.specs.Prelude.{ℕ}
use Rattle.enc_pipeline.specs.declared.fault.Fault.{Fault}
use Rattle.enc_pipeline.specs.declared.fault.Fault.TheVariants as fault
use Rattle.enc_run.specs.Statuses.{status_of_refusal}
use Rattle.enc_run.specs.declared.stop.Stop.{Stop}
use Rattle.enc_run.specs.declared.stop.Stop.TheVariants.{NotBuilt, Unread, Refused, Unwritten}
use Rattle.enc_run.specs.declared.stop.Stop.TheVariants.{Memory}

-- the status of a stop
abbrev pub status_of : Stop → ℕ
status_of NotBuilt = 9
status_of (Unread name) = 6
status_of (Refused reason) = status_of_refusal reason
status_of Unwritten = 7
status_of Memory = 8

-- how a fault ends a run
abbrev pub stop_of : Fault → Stop
stop_of fault.Write = Unwritten
stop_of fault.Memory = Memory
stop_of (fault.Reading reason) = Refused (fault.Reading reason)
stop_of (fault.Typing reason) = Refused (fault.Typing reason)
stop_of (fault.TooLarge nodes) = Refused (fault.TooLarge nodes)
stop_of (fault.Scheme reason) = Refused (fault.Scheme reason)
stop_of fault.Incomplete = Refused fault.Incomplete
stop_of (fault.Table reason) = Refused (fault.Table reason)
stop_of (fault.NotModel formula) = Refused (fault.NotModel formula)
