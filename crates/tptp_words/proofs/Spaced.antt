-- A blank ends each word.
use Rattle.std.proofs.Common.{◌≡◌, ℕ, Bool, true, false, ◌||◌, ◌==◌, List, [], ◌∷◌, ◌++◌, length}
use Rattle.std.proofs.Common.{refl, sym, ◌∙◌, ap, subst, arith, append_assoc}
use Rattle.std.proofs.lemmas.Bool.{eqb-true}
use Rattle.tptp_words.specs.declared.word.WordKind.{WordKind}
use Rattle.tptp_words.specs.declared.word.WordKind.TheVariants.{Lower, Upper, Quoted, Distinct}
use Rattle.tptp_words.specs.declared.word.WordKind.TheVariants.{Dollar, System, Number, Mark}
use Rattle.tptp_words.specs.Text.{Token, is_blank, AllPass, some_bytes, marks, Spells}
use Rattle.tptp_words.specs.Layout.{written}
use Rattle.tptp_words.specs.Laws.{IsBlankLayout, Spaced, SpacedWordsAreRead, WrittenWordsAreRead}
use Rattle.tptp_words.proofs.Passes.{pass_append}
use Rattle.tptp_words.proofs.Marks.{Each, one_of_each}
use Rattle.tptp_words.proofs.Longest.{State, Begin, Name, Digits, Done, Dead, step, run, Ends}
use Rattle.tptp_words.proofs.Longest.{lower_run, upper_run, quoted_run, distinct_run, dollar_run}
use Rattle.tptp_words.proofs.Longest.{system_run, number_ends}
use Rattle.tptp_words.proofs.ReadBack as back

-- ---- the machine dies at a blank behind each word

abbrev DiesAt : List ℕ → ℕ → Type 0
DiesAt s b = step (run Begin s) b ≡ Dead

abbrev DiesAtBlanks : List ℕ → Type 0
DiesAtBlanks s = DiesAt s 32 × DiesAt s 9 × DiesAt s 13 × DiesAt s 10

one_blank : (s : List ℕ) (b : ℕ) → DiesAtBlanks s → is_blank b ≡ true → DiesAt s b
one_blank s b h e = go (b == 32) (b == 9) (b == 13) (b == 10) refl refl refl refl e
  where
    at : (c : ℕ) → (b == c) ≡ true → DiesAt s c → DiesAt s b
    at c f k = subst (DiesAt s) (sym (eqb-true b c f)) k

    go : (v w x y : Bool) → (b == 32) ≡ v → (b == 9) ≡ w → (b == 13) ≡ x → (b == 10) ≡ y
        → (v || w || x || y) ≡ true → DiesAt s b
    go true w x y e1 e2 e3 e4 i = at 32 e1 h.0
    go false true x y e1 e2 e3 e4 i = at 9 e2 h.1
    go false false true y e1 e2 e3 e4 i = at 13 e3 h.2
    go false false false true e1 e2 e3 e4 i = at 10 e4 h.3
    go false false false false e1 e2 e3 e4 i = absurd (cc i)

by_state : (q : State) (s : List ℕ) → run Begin s ≡ q
    → (step q 32 ≡ Dead) × (step q 9 ≡ Dead) × (step q 13 ≡ Dead) × (step q 10 ≡ Dead)
    → DiesAtBlanks s
by_state q s e h = (
  ap (λ z. step z 32) e ∙ h.0,
  ap (λ z. step z 9) e ∙ h.1,
  ap (λ z. step z 13) e ∙ h.2,
  ap (λ z. step z 10) e ∙ h.3,
)

each_dies : Each DiesAtBlanks marks
each_dies = (
  (refl, refl, refl, refl),
  (
    (refl, refl, refl, refl),
    (
      (refl, refl, refl, refl),
      (
        (refl, refl, refl, refl),
        (
          (refl, refl, refl, refl),
          (
            (refl, refl, refl, refl),
            (
              (refl, refl, refl, refl),
              (
                (refl, refl, refl, refl),
                (
                  (refl, refl, refl, refl),
                  (
                    (refl, refl, refl, refl),
                    (
                      (refl, refl, refl, refl),
                      (
                        (refl, refl, refl, refl),
                        (
                          (refl, refl, refl, refl),
                          (
                            (refl, refl, refl, refl),
                            (
                              (refl, refl, refl, refl),
                              (
                                (refl, refl, refl, refl),
                                (
                                  (refl, refl, refl, refl),
                                  (
                                    (refl, refl, refl, refl),
                                    (
                                      (refl, refl, refl, refl),
                                      (
                                        (refl, refl, refl, refl),
                                        (
                                          (refl, refl, refl, refl),
                                          (
                                            (refl, refl, refl, refl),
                                            (
                                              (refl, refl, refl, refl),
                                              tt,
                                            ),
                                          ),
                                        ),
                                      ),
                                    ),
                                  ),
                                ),
                              ),
                            ),
                          ),
                        ),
                      ),
                    ),
                  ),
                ),
              ),
            ),
          ),
        ),
      ),
    ),
  ),
)

dies : (kind : WordKind) (s : List ℕ) → Spells kind s → DiesAtBlanks s
dies Lower s h = by_state Name s (lower_run s h) (refl, refl, refl, refl)
dies Upper s h = by_state Name s (upper_run s h) (refl, refl, refl, refl)
dies Quoted s (bs, p, n, e) =
    by_state Done s (ap (run Begin) e ∙ quoted_run bs) (refl, refl, refl, refl)
dies Distinct s (bs, p, e) =
    by_state Done s (ap (run Begin) e ∙ distinct_run bs) (refl, refl, refl, refl)
dies Dollar s h = by_state Name s (dollar_run s h) (refl, refl, refl, refl)
dies System s h = by_state Name s (system_run s h) (refl, refl, refl, refl)
dies Number s h = by_state Digits s (number_ends s h) (refl, refl, refl, refl)
dies Mark s h = one_of_each DiesAtBlanks s marks each_dies h

blank_ends : (w : Token) (gap rest : List ℕ) → Spells w.kind w.spelling → AllPass is_blank gap
    → some_bytes gap ≡ true → Ends (run Begin w.spelling) (gap ++ rest)
blank_ends w [] rest h p some = absurd (cc some)
blank_ends w (b ∷ gap) rest h p some =
    one_blank w.spelling b (dies w.kind w.spelling h) p.0

-- nothing, or a blank, follows the last word
last_ends : (w : Token) (gap : List ℕ) → Spells w.kind w.spelling → AllPass is_blank gap
    → Ends (run Begin w.spelling) (gap ++ [])
last_ends w [] h p = tt
last_ends w (b ∷ gap) h p = one_blank w.spelling b (dies w.kind w.spelling h) p.0

spaced_joined : (before after : Token → List ℕ) (layout : IsBlankLayout before after)
    (ws : List Token) → Spaced before after ws
    → back.Joined before after layout.0 layout.1 ws
spaced_joined before after layout [] h = tt
spaced_joined before after layout (w ∷ []) h = (h, last_ends w (after w) h (layout.1 w), tt)
spaced_joined before after layout (w ∷ v ∷ ws) h =
    let rest : List ℕ = v.spelling ++ (after v ++ written before after ws) in
    let gap = pass_append is_blank (after w) (before v) (layout.1 w) (layout.0 v) in (
      h.0,
      subst (Ends (run Begin w.spelling)) (append_assoc (after w) (before v) rest)
          (blank_ends w (after w ++ before v) rest h.0 gap h.1),
      spaced_joined before after layout (v ∷ ws) h.2,
    )

pub spaced_words_are_read : SpacedWordsAreRead
spaced_words_are_read before after layout ws h =
    back.reads before after layout.0 layout.1 (length (written before after ws)) 0 ws
    (spaced_joined before after layout ws h) (omega arith)

pub written_words_are_read : WrittenWordsAreRead
written_words_are_read before after layout ws h =
    back.stand_reads before after layout.0 layout.1 (length (written before after ws)) 0 ws h
    (omega arith)
