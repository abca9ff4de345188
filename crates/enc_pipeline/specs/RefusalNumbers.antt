-- The number under which each refusal is noted. A failed write and want of memory have none.
use Rattle.std.specs.Prelude.{ℕ, Option, Some, None}
use Rattle.tptp_syntax.specs.RefusalNumbers as reading
use Rattle.tf_check.specs.RefusalNumbers as typing
use Rattle.model_tables.specs.RefusalNumbers as table
use Rattle.enc_marks.specs.RefusalNumbers as scheme
use Rattle.enc_pipeline.specs.declared.fault.Fault.{Fault}
use Rattle.enc_pipeline.specs.declared.fault.Fault.TheVariants as fault

abbrev pub number_of : Fault → Option ℕ
number_of (fault.Reading reason) = reading.number_of reason
number_of (fault.Typing reason) = typing.number_of reason
number_of (fault.TooLarge nodes) = Some 22
number_of (fault.Scheme reason) = scheme.number_of reason
number_of fault.Incomplete = Some 34
number_of (fault.Table reason) = table.number_of reason
number_of (fault.NotModel formula) = Some 47
number_of fault.Write = None
number_of fault.Memory = None
