use Rattle.std.proofs.Common.{sym, subst}
use Rattle.std.proofs.lemmas.Result.{IfOk-weaker}
use Rattle.enc_mono.specs.Rounds.{IsKnown}
use Rattle.enc_mono.specs.Calls.Numbered.{keys_in, AreIndexed}
use Rattle.enc_mono.specs.Calls.Matched.{AreMatchedUpTo}
use Rattle.enc_mono.specs.Calls.Known.{index_in}
use Rattle.enc_mono.proofs.Admitting.{AreIndexed-filed, AreAdmittedUpTo-matched}
use Rattle.enc_mono.proofs.KnownTyped.{known_typed}
use Rattle.enc_mono.proofs.rounds.admitted.Goals as goal

pub matched_substitutions-requires : goal.matched_substitutions-requires
matched_substitutions-requires c = record {
  numbers = subst (λ index. AreIndexed c.args.known.now.table (keys_in index))
      (sym c.as_slice.ensures.value)
      (AreIndexed-filed c.args.known.now.table (index_in c.args.known.now)
      c.requires.kept.filed);
}

pub returns : goal.returns
returns c =
    IfOk-weaker c.matched_substitutions.result _ _
    (λ found matched normal rounds sound is_index.
    AreAdmittedUpTo-matched c.args.known.now.table (IsKnown normal rounds) normal.signature
    c.args.formula.now (index_in c.args.known.now) c.in_ok-patterns.patterns is_index
    (known_typed normal sound rounds) c.in_ok-patterns.ensures c.requires.polymorphic
    c.args.most found
    (subst (λ patterns. AreMatchedUpTo c.args.known.now.table (index_in c.args.known.now) patterns
    c.args.formula.now.type_variables c.args.most found) c.as_slice-2.ensures
    (subst (λ index. AreMatchedUpTo c.args.known.now.table (keys_in index) c.as_slice-2.result.now
    c.args.formula.now.type_variables c.args.most found) c.as_slice.ensures.value matched)))
    c.matched_substitutions.ensures
