use Rattle.std.proofs.Common.{◌≤◌, length, sym, subst}
use Rattle.tptp_phrases.specs.Readers.{seen}
use Rattle.tptp_syntax.proofs.WordCounts.{words_within}
use Rattle.tptp_syntax.proofs.reader.Reader.new.Goals as goal

pub invariant_of-result : goal.invariant_of-result
invariant_of-result c = record {
  spelled = c.next_of-next.ensures.spelled;
  few = subst (λ z. length (seen z) ≤ length c.args.text.now) (sym c.next_of-next.ensures.next)
      (words_within (length c.args.text.now) c.args.text.now c.new-words.result.words
      c.new-words.result.fault c.new-words.ensures.exact);
}
