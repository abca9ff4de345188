use Rattle.enc_marks.specs.Schemes.{choices_of}
use Rattle.enc_laws.proofs.MergedStructure.{merged_satisfies}
use Rattle.enc_laws.proofs.ByType.{merges_by_type}
use Rattle.enc_laws.proofs.laws.merged_is_model.Goals as goal

pub returns : goal.returns
returns _ which normal s merged sound model =
    merged_satisfies (choices_of which normal) normal s (merges_by_type which normal s merged) sound
    model
