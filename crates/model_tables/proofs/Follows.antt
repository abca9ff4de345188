-- States follow the words of a phrase.
use Rattle.std.proofs.Common.{◌≡◌, List, [], ◌∷◌, ◌++◌, ◌⊎◌, Option, Some, None, refl, sym, ap, ◌∙◌, subst}
use Rattle.std.proofs.Common.{append_assoc, append-nil, inl, inr}
use Rattle.tptp_words.specs.Text.{Token}
use Rattle.tptp_phrases.specs.Phrase.{Phrase, Row, word, empty, many, ◌>>=◌}
use Rattle.model_tables.specs.declared.form.Form.{Form}
use Rattle.model_tables.specs.Steps.{State, step}
use Rattle.model_tables.proofs.Runs.{Run, run_refl, run_one, run_then}

-- From the state s on, words that begin the phrase lead to some state, and words that derive it lead
-- to one that is fit for the value.
pub record Follows {A : Type 0} (form : Form) (s : State) (p : Phrase A) (fit : A → State → Type 0) :
    Type 0 where
  pub begun : (ws rest : List Token) → p.begins ws rest → (t : State) × Run form s ws rest t
  pub whole : (ws rest : List Token) (a : A) → p.derives ws rest a
      → (t : State) × Run form s ws rest t × fit a t

module _ (form : Form) where
  pub follows_empty : {A : Type 0} (s : State) (a : A) (fit : A → State → Type 0) → fit a s
      → Follows form s (empty a) fit
  unfolding empty
  follows_empty s a fit holds = record {
    begun = λ ws rest b. (s, run_refl form s ws rest b);
    whole = λ ws rest v d.
        (s, run_refl form s ws rest d.0, subst (λ z. fit z s) (sym d.1) holds);
  }

  pub follows_word : {A : Type 0} (s : State) (f : Token → Option A) (go : A → State)
      → ((w : Token) (a : A) → f w ≡ Some a → step form s w ≡ Some (go a))
      → Follows form s (word f) (λ a t. t ≡ go a)
  unfolding word
  follows_word {A} s f go steps = record {
    begun = λ ws rest b. begun ws rest b;
    whole = λ ws rest a d. (go a, run_one form s (go a) d.0 ws rest d.1 (steps d.0 a d.2), refl);
  }
    where
      begun : (ws rest : List Token)
          → (ws ≡ rest) ⊎ ((w : Token) × (a : A) × (ws ≡ w ∷ rest) × (f w ≡ Some a))
          → (t : State) × Run form s ws rest t
      begun ws rest (inl is) = (s, run_refl form s ws rest is)
      begun ws rest (inr (w, a, is, takes)) =
          (go a, run_one form s (go a) w ws rest is (steps w a takes))

  pub follows_seq : {A B : Type 0} (s : State) (p : Phrase A) (q : A → Phrase B)
      (between : A → State → Type 0) (fit : B → State → Type 0) → Follows form s p between
      → ((a : A) (t : State) → between a t → Follows form t (q a) fit)
      → Follows form s (p >>= q) fit
  unfolding ◌>>=◌
  follows_seq {A} {B} s p q between fit first second = record {
    begun = begun;
    whole = λ ws rest b d.
        let one = first.whole ws d.0 d.1 d.2 in
        let two = (second d.1 one.0 one.2).whole d.0 rest b d.3 in
        (two.0, run_then form s one.0 two.0 ws d.0 rest one.1 two.1, two.2);
  }
    where
      begun : (ws rest : List Token)
          → p.begins ws rest
          ⊎ ((mid : List Token) × (a : A) × p.derives ws mid a × (q a).begins mid rest)
          → (t : State) × Run form s ws rest t
      begun ws rest (inl b) = first.begun ws rest b
      begun ws rest (inr (mid, a, d, b)) =
          let one = first.whole ws mid a d in
          let two = (second a one.0 one.2).begun mid rest b in
          (two.0, run_then form s one.0 two.0 ws mid rest one.1 two.1)

  -- a word and what is behind it
  pub follows_then : {A B : Type 0} (s : State) (f : Token → Option A) (go : A → State)
      (q : A → Phrase B) (fit : B → State → Type 0)
      → ((w : Token) (a : A) → f w ≡ Some a → step form s w ≡ Some (go a))
      → ((a : A) → Follows form (go a) (q a) fit) → Follows form s (word f >>= q) fit
  follows_then s f go q fit steps next =
      follows_seq s (word f) q (λ a t. t ≡ go a) fit (follows_word s f go steps)
      (λ a t is. subst (λ z. Follows form z (q a) fit) (sym is) (next a))

  -- what is fit for one is fit for another
  pub follows_weaker : {A : Type 0} (s : State) (p : Phrase A) (fit other : A → State → Type 0)
      → Follows form s p fit → ((a : A) (t : State) → fit a t → other a t) → Follows form s p other
  follows_weaker s p fit other first weaker = record {
    begun = first.begun;
    whole = λ ws rest a d.
        let one = first.whole ws rest a d in (one.0, one.1, weaker a one.0 one.2);
  }

  module _ {A : Type 0} (p : Phrase A) (fit : List A → State → Type 0)
      (item : (found : List A) (t : State) → fit found t
      → Follows form t p (λ a u. fit (found ++ a ∷ []) u))
    where
      row : (found more : List A) (s : State) (ws rest : List Token) → fit found s
          → Row p ws rest more → (t : State) × Run form s ws rest t × fit (found ++ more) t
      row found [] s ws rest holds is =
          (s, run_refl form s ws rest is, rw append-nil holds)
      row found (a ∷ more) s ws rest holds (mid, d, others) =
          let one = (item found s holds).whole ws mid a d in
          let two = row (found ++ a ∷ []) more one.0 mid rest one.2 others in (
            two.0,
            run_then form s one.0 two.0 ws mid rest one.1 two.1,
            subst (λ z. fit z two.0) (append_assoc found (a ∷ []) more) two.2,
          )

      pub follows_many : (s : State) → fit [] s → Follows form s (many p) fit
      unfolding many
      follows_many s holds = record {
        begun = begun;
        whole = λ ws rest as' d. row [] as' s ws rest holds d;
      }
        where
          begun : (ws rest : List Token)
              → (ws ≡ rest)
              ⊎ ((mid : List Token) × (front : List A) × Row p ws mid front × p.begins mid rest)
              → (t : State) × Run form s ws rest t
          begun ws rest (inl is) = (s, run_refl form s ws rest is)
          begun ws rest (inr (mid, front, d, b)) =
              let one = row [] front s ws mid holds d in
              let two = (item front one.0 one.2).begun mid rest b in
              (two.0, run_then form s one.0 two.0 ws mid rest one.1 two.1)
