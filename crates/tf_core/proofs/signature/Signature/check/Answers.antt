use Rattle.std.proofs.Common.{IsTrue, ◌↔◌, ◌∙◌, sym, ap, subst}
use Rattle.std.specs.List.{list_all}
use Rattle.tf_core.specs.Typing.{IsSignature}
use Rattle.tf_core.specs.TypingTests.{is_symbol}
use Rattle.tf_core.proofs.Typed.{is_signature-says}
use Rattle.tf_core.proofs.signature.Signature.check.Goals as goal

pub returns : goal.returns
returns c =
    record {
      exact = subst (λ b. IsTrue b ↔ IsSignature c.args.self.now)
          (sym (c.are_symbols.ensures ∙ ap (list_all (is_symbol c.args.self.now)) c.as_slice.ensures))
          (is_signature-says c.args.self.now);
    }
