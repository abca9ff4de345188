use Rattle.std.proofs.Common.{sym, ◌∙◌, subst, refl, arith}
use Rattle.tptp_phrases.specs.Readers.{skip_balanced}
use Rattle.tptp_syntax.specs.Ahead.{Gives}
use Rattle.tptp_syntax.proofs.SkippedWords.{skip_end, skip_stop}
use Rattle.tptp_syntax.proofs.entry_reader.skip_words.Goals as goal

pub words-init : goal.words-init
unfolding skip_balanced
words-init c = record { skips = refl; taken = omega arith }

pub returns-in-None : goal.returns-in-None
returns-in-None c =
    subst (λ o. Gives o c.enough.result c.words.reader)
    (sym (c.words.invariant.skips ∙ skip_stop c.words.count c.words.some c.words.reader
    (sym c.sees_word.ensures ∙ c.words-test.true)
    (sym c.open_behind.ensures ∙ c.in-None.is))) (c.enough.ensures c.words.reader)

pub returns : goal.returns
returns c =
    subst (λ o. Gives o c.enough-2.result c.words.reader)
    (sym (c.words.invariant.skips ∙ skip_end c.words.count c.words.some c.words.reader
    (sym c.sees_word.ensures ∙ c.words-test.false))) (c.enough-2.ensures c.words.reader)
