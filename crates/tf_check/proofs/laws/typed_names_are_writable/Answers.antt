use Rattle.tf_check.proofs.WritableNames.{typed_names_are_writable}
use Rattle.tf_check.proofs.laws.typed_names_are_writable.Goals as goal

pub returns : goal.returns
returns c = typed_names_are_writable
