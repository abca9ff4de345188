use Rattle.tf_core.proofs.TypingKept.{term-shifted}
use Rattle.tf_core.proofs.laws.shifted_terms_are_typed.Goals as goal

pub returns : goal.returns
returns c = λ g variables before inserted after t ty typed.
    term-shifted before inserted after g variables t ty typed
