-- The fault that an error of a layer below becomes: want of memory is `Memory`, and another error
-- stands in its variant.
use Rattle.tptp_syntax.specs.declared.error.ReadError.{ReadError}
use Rattle.tptp_syntax.specs.declared.error.ReadError.TheVariants as reading
use Rattle.tf_check.specs.declared.error.TypeError.{TypeError}
use Rattle.tf_check.specs.declared.error.TypeError.TheVariants as typing
use Rattle.tf_nnf.specs.declared.error.NormalError.{NormalError}
use Rattle.tf_nnf.specs.declared.error.NormalError.TheVariants as normal
use Rattle.model_tables.specs.declared.error.TableError.{TableError}
use Rattle.model_tables.specs.declared.error.TableError.TheVariants as table
use Rattle.enc_marks.specs.declared.refusal.Refusal.{Refusal}
use Rattle.enc_marks.specs.declared.refusal.Refusal.TheVariants as refusal
use Rattle.enc_pipeline.specs.declared.fault.Fault.{Fault}
use Rattle.enc_pipeline.specs.declared.fault.Fault.TheVariants as fault

abbrev pub fault_of_reading : ReadError → Fault
fault_of_reading reading.Memory = fault.Memory
fault_of_reading reason = fault.Reading reason

abbrev pub fault_of_typing : TypeError → Fault
fault_of_typing typing.Memory = fault.Memory
fault_of_typing reason = fault.Typing reason

abbrev pub fault_of_normal : NormalError → Fault
fault_of_normal normal.Memory = fault.Memory
fault_of_normal (normal.TooLarge nodes) = fault.TooLarge nodes

abbrev pub fault_of_scheme : Refusal → Fault
fault_of_scheme refusal.Memory = fault.Memory
fault_of_scheme reason = fault.Scheme reason

abbrev pub fault_of_table : TableError → Fault
fault_of_table table.Memory = fault.Memory
fault_of_table reason = fault.Table reason
