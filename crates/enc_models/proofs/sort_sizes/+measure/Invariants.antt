use Rattle.std.proofs.Common.{◌≡◌, [], map, take, length, replicate}
use Rattle.enc_base.specs.Tables.{place}
use Rattle.tf_models.specs.Evaluation.{member_in}
use Rattle.enc_models.specs.Calls.SortSizes.{greatest_size}
use Rattle.enc_models.proofs.sort_sizes.+measure.Given as goal

abbrev pub invariant-measure_all-loop-ty : goal.invariant-measure_all-loop-ty
invariant-measure_all-loop-ty l = record {
  placed : l.place ≡ place (take l.ty-index (replicate (length l.types) (length l.model.sizes)))
      (take l.ty-index (map (member_in l.model []) l.types));
  greatest : l.found ≡ greatest_size l.model (take l.ty-index l.types);
}
