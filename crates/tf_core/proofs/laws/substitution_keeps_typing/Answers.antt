use Rattle.std.proofs.Common.{length, refl}
use Rattle.tf_core.proofs.TypingKept.{term-substituted}
use Rattle.tf_core.proofs.NnfTypingKept.{nnf-substituted}
use Rattle.tf_core.proofs.laws.substitution_keeps_typing.Goals as goal

pub returns : goal.returns
returns c = record {
  term = λ g others instances context t ty signature formed typed.
      term-substituted g (length instances) others instances formed refl signature context t ty typed;
  normal = λ g others instances context p signature formed typed.
      nnf-substituted g (length instances) others instances formed refl signature context p typed;
}
