-- What words say one after another.
use Rattle.std.proofs.Common.{◌≡◌, List, [], ◌∷◌, ◌++◌, Option, Some, None, refl, sym, ap, ◌∙◌, subst}
use Rattle.std.proofs.Common.{append_assoc}
use Rattle.tptp_words.specs.Text.{Token}
use Rattle.model_tables.specs.declared.form.Form.{Form}
use Rattle.model_tables.specs.Steps.{State, step, run, bind}

-- the words from ws up to rest lead from one state to another
pub record Run (form : Form) (s : State) (ws rest : List Token) (t : State) : Type 0 where
  pub front : List Token
  pub is : ws ≡ front ++ rest
  pub runs : run form s front ≡ Some t

module _ (form : Form) where
  pub run_append : (s : State) (a b : List Token)
      → run form s (a ++ b) ≡ bind (run form s a) (λ t. run form t b)
  run_append s [] b = refl
  run_append s (w ∷ a) b = by (step form s w) (λ t. run_append t a b)
    where
      by : (o : Option State)
          → ((t : State) → run form t (a ++ b) ≡ bind (run form t a) (λ u. run form u b))
          → bind o (λ t. run form t (a ++ b))
          ≡ bind (bind o (λ t. run form t a)) (λ t. run form t b)
      by None more = refl
      by (Some t) more = more t

  pub run_refl : (s : State) (ws rest : List Token) → ws ≡ rest → Run form s ws rest s
  run_refl s ws rest is = record { front = []; is = is; runs = refl }

  pub run_one : (s t : State) (w : Token) (ws rest : List Token) → ws ≡ w ∷ rest
      → step form s w ≡ Some t → Run form s ws rest t
  run_one s t w ws rest is steps = record {
    front = w ∷ [];
    is = is;
    runs = ap (λ (o : Option State). bind o (λ u. Some u)) steps;
  }

  pub run_then : (s t u : State) (ws mid rest : List Token) → Run form s ws mid t
      → Run form t mid rest u → Run form s ws rest u
  run_then s t u ws mid rest first second = record {
    front = first.front ++ second.front;
    is = first.is ∙ ap (λ zs. first.front ++ zs) second.is
        ∙ sym (append_assoc first.front second.front rest);
    runs = run_append s first.front second.front
        ∙ ap (λ (o : Option State). bind o (λ t'. run form t' second.front)) first.runs
        ∙ second.runs;
  }
