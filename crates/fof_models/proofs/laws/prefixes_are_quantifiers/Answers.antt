use Rattle.std.proofs.Common.{sym}
use Rattle.fof_models.proofs.Prefixes.{under_universals-none, under_universals-outside, under_existentials-none, under_existentials-outside}
use Rattle.fof_models.proofs.laws.prefixes_are_quantifiers.Goals as goal

pub returns : goal.returns
returns c =
    record {
      no_universals = under_universals-none;
      more_universals = λ count body. sym (under_universals-outside count body);
      no_existentials = under_existentials-none;
      more_existentials = λ count body. sym (under_existentials-outside count body);
    }
