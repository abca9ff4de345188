-- Lists and chains, once their first items are read.
use Rattle.std.proofs.Common.{◌≡◌, List, [], ◌∷◌, Ok, ap, sym, subst, ◌∙◌}
use Rattle.std.specs.Prelude.{codes}
use Rattle.tptp_words.specs.Words.{mark}
use Rattle.tptp_words.specs.Scanning.{Left}
use Rattle.tptp_phrases.specs.Readers.{Outcome, and_then, seq, many_at, behind}
use Rattle.tptp_phrases.proofs.Turns.{Turning, turning}
use Rattle.tptp_syntax.specs.Strays.{Stray}
use Rattle.std.specs.Prelude.{Option, Result}
use Rattle.tptp_words.specs.Text.{Token}
use Rattle.tptp_phrases.specs.Readers.{take_word, takes}
use Rattle.tptp_syntax.specs.declared.fault.Fault.{Fault}
use Rattle.tptp_syntax.specs.Ahead.{Gives}
use Rattle.tptp_syntax.specs.Descent.{Reads, sees, listed_at, parts_at}

pub listed_turning : {A : Type 0} (item : Reads A) (s : Left) (a : A) (u : Left) → item s ≡ Ok (a, u)
    → Turning (sees (codes ",")) (behind (mark (codes ",")) item) (listed_at item s) (a ∷ []) u
unfolding seq
listed_turning {A} item s a u e =
    let first = turning (sees (codes ",")) (behind (mark (codes ",")) item) (a ∷ []) u in
    record {
      turns = first.turns;
      enough = first.enough;
      rest = ap (λ (o : Outcome Stray A). and_then o
          (λ x. many_at (sees (codes ",")) (behind (mark (codes ",")) item) (x ∷ []))) e ∙ first.rest;
    }

module _ {A : Type 0} (f : Token → Option (Unit {0})) (part : Reads A) (a b : A) (s u v : Left) where
  parts_read : take_word {K = Stray} f s ≡ Ok (tt, u) → part u ≡ Ok (b, v)
      → parts_at f part a s ≡ many_at (takes f) (behind f part) (a ∷ b ∷ []) v
  unfolding seq
  parts_read h k =
      ap (λ (o : Outcome Stray (Unit {0})). and_then o (λ _ w. and_then (part w)
      (λ x. many_at (takes f) (behind f part) (a ∷ x ∷ [])))) h
      ∙ ap (λ (o : Outcome Stray A). and_then o
      (λ x. many_at (takes f) (behind f part) (a ∷ x ∷ []))) k

  -- what more parts give is what the chain gives
  pub parts_given : (found : List A) (result : Result (List A) Fault) (new : Left)
      → take_word {K = Stray} f s ≡ Ok (tt, u) → part u ≡ Ok (b, v) → found ≡ a ∷ b ∷ []
      → Gives (many_at (takes f) (behind f part) found v) result new
      → Gives (parts_at f part a s) result new
  parts_given found result new h k e g =
      subst (λ o. Gives o result new)
      (ap (λ z. many_at (takes f) (behind f part) z v) e ∙ sym (parts_read h k)) g
