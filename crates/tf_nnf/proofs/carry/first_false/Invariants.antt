use Rattle.std.proofs.Common.{◌-◌, length, replicate}
use Rattle.enc_base.specs.Tables.{tuple_count, place}
use Rattle.tf_core.specs.TypedTables.{reading}
use Rattle.tf_models.specs.Reading.{tables}
use Rattle.tf_nnf.specs.Extension.{is_false_at}
use Rattle.tf_nnf.specs.Search.{HasRoom}
use Rattle.tf_nnf.proofs.NextTuple.{EarlierFail}
use Rattle.tf_nnf.proofs.carry.first_false.Given as goal

abbrev pub invariant-loop-members : goal.invariant-loop-members
invariant-loop-members l = record {
  room : HasRoom l.problem l.env;
  searched :
      EarlierFail (replicate l.stated.type_variables (length l.structure.sizes))
      (is_false_at (reading l.problem.signature (tables l.structure)) l.stated) l.members.items;
}

abbrev pub decreases-loop-members : goal.decreases-loop-members
decreases-loop-members l =
    tuple_count (replicate l.stated.type_variables (length l.structure.sizes))
    - place (replicate l.stated.type_variables (length l.structure.sizes)) l.members.items
