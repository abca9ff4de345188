-- The words of a term derive a tree that stands for the term.
use Rattle.std.proofs.Common.{◌≡◌, ℕ, zero, suc, ◌+◌, ◌-◌, ◌<◌, Bool, true, false, List, [], ◌∷◌}
use Rattle.std.proofs.Common.{length, map, Option, Some, None, refl, sym, ◌∙◌, ap, subst, arith}
use Rattle.std.specs.Prelude.{◌^◌, slice_get}
use Rattle.std.specs.List.{list_all, AllByRecursion}
use Rattle.std.proofs.lemmas.Bool.{and_parts, ltb-true}
use Rattle.std.proofs.lemmas.Option.{slice_get_within}
use Rattle.enc_base.specs.Names.{IsWritable}
use Rattle.fof_models.specs.declared.problem.FofSymbol.{FofSymbol}
use Rattle.fof_models.specs.declared.formula.FofTerm.{FofTerm, roll-FofTerm}
use Rattle.fof_models.specs.declared.formula.FofTerm.TheVariants as T
use Rattle.fof_models.specs.declared.formula.FofTerm.TheOpen.{FofTerm-F}
use Rattle.fof_models.specs.declared.formula.FofTerm.TheOpen as O
use Rattle.fof_models.specs.declared.formula.FofTerm.TheFolds.{fold-roll-FofTerm, map-FofTerm}
use Rattle.fof_models.specs.Sound.{is_term, is_term_step, is_symbol}
use Rattle.tptp_words.specs.Text.{Token}
use Rattle.tptp_phrases.specs.Phrase.{Phrase, levels}
use Rattle.tptp_phrases.specs.Phrase as phrase
use Rattle.tptp_syntax.specs.declared.term.RawTerm.{RawTerm}
use Rattle.tptp_syntax.specs.declared.term.RawTerm.TheVariants as t
use Rattle.tptp_syntax.specs.Grammar.{Kind, term, term_rule}
use Rattle.tptp_syntax.specs.Files.{strict}
use Rattle.fof_text.specs.Names.{name_at, AllDiffer}
use Rattle.fof_text.specs.Written.{Writer, applied, variable_word, variable_name, term_words}
use Rattle.fof_text.specs.Written.{term_words_step}
use Rattle.fof_text.specs.Meaning.{term_meant}
use Rattle.fof_text.proofs.Places.{place_there, binders_of, variable_there}
use Rattle.fof_text.proofs.Trees.{terms_by_layer}
use Rattle.fof_text.proofs.RawTrees.{raw_term, raw_term_step}
use Rattle.fof_text.proofs.Meanings.{term_meant-variable, term_meant-apply}
use Rattle.fof_text.proofs.Spelled.{Joins, name_is, variable_is}
use Rattle.fof_text.proofs.Joins.{AllJoin, applied_joins}
use Rattle.fof_text.proofs.Derives.{Eventually, always, both, deeper, Has, seq, give, take, one}
use Rattle.fof_text.proofs.Derives.{other}
use Rattle.fof_text.proofs.Writers.{Writes, AllWrite, application_of}

-- ---- phrases

-- the phrase of terms that have n levels below them
abbrev pub term_at : ℕ → Phrase RawTerm
term_at n = term (strict n)

-- the phrase of their arguments
abbrev pub argument_at : ℕ → Phrase RawTerm
argument_at n = phrase.deeper term_rule (strict (suc n)) 1

pub as_argument : (n : ℕ) {ws rest : List Token} {a : RawTerm} → Has (term_at n) ws rest a
    → Has (argument_at n) ws rest a
unfolding term levels
as_argument n h = h

pub all_arguments : (n : ℕ) (ws : List Writer) (rs : List RawTerm) → AllWrite (term_at n) ws rs
    → AllWrite (argument_at n) ws rs
all_arguments n [] [] h = tt
all_arguments n [] (r ∷ rs) h = absurd h
all_arguments n (w ∷ ws) [] h = absurd h
all_arguments n (w ∷ ws) (r ∷ rs) h =
    (λ rest. as_argument n (h.0 rest), all_arguments n ws rs h.1)

as_term : (v : Kind) {ws rest : List Token} {a : RawTerm}
    → Has (term_rule v (phrase.deeper term_rule v)) ws rest a → Has (term v) ws rest a
unfolding term
as_term v h = h

variable_term : (v : Kind) (d : ℕ) → d < 2 ^ 64
    → Writes (term v) (λ rest. variable_word d ∷ rest) (t.Variable (variable_name d))
variable_term v d l rest =
    as_term v (one _ _
    (seq _ _ rest (variable_name d) (take _ (variable_word d) rest (variable_is d l).says)
    (give (t.Variable (variable_name d)) rest)))

applied_term : (n : ℕ) (name : List ℕ) → IsWritable name → (ws : List Writer) (rs : List RawTerm)
    → AllWrite (term_at n) ws rs → Writes (term_at (suc n)) (applied name ws) (t.Apply name rs)
applied_term n name h ws rs k rest =
    as_term (strict (suc n)) (other _ _ (one _ _
    (application_of t.Apply (argument_at n) name (name_is name h).says ws rs
    (all_arguments n ws rs k) rest)))

-- ---- symbols

pub symbol_within : (g : List FofSymbol) (f : ℕ) (predicate : Bool) (n : ℕ)
    → is_symbol (slice_get g f) predicate n ≡ true → f < length g
symbol_within g f predicate n h = go (slice_get g f) refl h
  where
    go : (o : Option FofSymbol) → slice_get g f ≡ o → is_symbol o predicate n ≡ true → f < length g
    go None e i = absurd (cc i)
    go (Some s) e i = slice_get_within g f s e

pub writable_at : (names : List (List ℕ)) (f : ℕ) → AllByRecursion IsWritable names
    → f < length names → IsWritable (name_at names f)
writable_at [] f h l = absurd (omega arith)
writable_at (n ∷ ns) zero h l = h.0
writable_at (n ∷ ns) (suc f) h l = writable_at ns f h.1 (omega arith)

-- ---- the induction

same_apply : {i j : ℕ} {xs ys : List FofTerm} → i ≡ j → xs ≡ ys → T.Apply i xs ≡ T.Apply j ys
same_apply {i} {j} {xs} {ys} e k = ap (λ z. T.Apply z xs) e ∙ ap (T.Apply j) k

module _ (names : List (List ℕ)) (g : List FofSymbol) (one_each : length names ≡ length g)
    (differ : AllDiffer names) (writable : AllByRecursion IsWritable names) where
  -- what is known of a term under d binders
  pub record TermReads (d : ℕ) (x : FofTerm) (w : Writer) (r : RawTerm) : Type 0 where
    pub writes : Eventually (λ n. Writes (term_at n) w r)
    pub joins : Joins w
    pub meant : term_meant names r (binders_of d) ≡ x

  pub record TermsRead (d : ℕ) (xs : List FofTerm) (ws : List Writer) (rs : List RawTerm)
      : Type 0 where
    pub writes : Eventually (λ n. AllWrite (term_at n) ws rs)
    pub joins : AllJoin ws
    pub meant : map (λ (h : List (List ℕ) → FofTerm). h (binders_of d)) (map (term_meant names) rs)
        ≡ xs

  none_read : (d : ℕ) → TermsRead d [] [] []
  none_read d = record { writes = always _ (λ n. tt); joins = tt; meant = refl }

  more_read : {d : ℕ} {x : FofTerm} {xs : List FofTerm} {w : Writer} {ws : List Writer}
      {r : RawTerm} {rs : List RawTerm} → TermReads d x w r → TermsRead d xs ws rs
      → TermsRead d (x ∷ xs) (w ∷ ws) (r ∷ rs)
  more_read {d} {x} {xs} {rs = rs} h k =
      let tail = map (λ (h : List (List ℕ) → FofTerm). h (binders_of d))
      (map (term_meant names) rs) in
      record {
        writes = both h.writes k.writes;
        joins = (h.joins, k.joins);
        meant = ap (λ z. z ∷ tail) h.meant ∙ ap (λ z. x ∷ z) k.meant;
      }

  abbrev Claim : (ℕ → Bool) → (ℕ → Writer) → (ℕ → RawTerm) → FofTerm → Type 0
  Claim s w r x = (d : ℕ) → d < 2 ^ 64 → s d ≡ true → TermReads d x (w d) (r d)

  abbrev pub TermClaim : FofTerm → Type 0
  TermClaim x = Claim (is_term g x) (term_words names x) (raw_term names x) x

  abbrev Kept : Type 0
  Kept = (x : FofTerm) × TermClaim x

  abbrev sound_layer : FofTerm-F FofTerm → ℕ → Bool
  sound_layer x = is_term_step g (map-FofTerm FofTerm (ℕ → Bool) (is_term g) x)

  abbrev words_layer : FofTerm-F FofTerm → ℕ → Writer
  words_layer x = term_words_step names (map-FofTerm FofTerm (ℕ → Writer) (term_words names) x)

  abbrev tree_layer : FofTerm-F FofTerm → ℕ → RawTerm
  tree_layer x = raw_term_step names (map-FofTerm FofTerm (ℕ → RawTerm) (raw_term names) x)

  rolled : (x : FofTerm-F FofTerm)
      → Claim (sound_layer x) (words_layer x) (tree_layer x) (roll-FofTerm x)
      → TermClaim (roll-FofTerm x)
  unfolding is_term term_words raw_term
  rolled x h =
      let r = roll-FofTerm x in
      subst (λ s. Claim s (term_words names r) (raw_term names r) r)
      (sym (fold-roll-FofTerm (ℕ → Bool) (is_term_step g) x))
      (subst (λ w. Claim (sound_layer x) w (raw_term names r) r)
      (sym (fold-roll-FofTerm (ℕ → Writer) (term_words_step names) x))
      (subst (λ t. Claim (sound_layer x) (words_layer x) t r)
      (sym (fold-roll-FofTerm (ℕ → RawTerm) (raw_term_step names) x)) h))

  abbrev of_kept : List Kept → List FofTerm
  of_kept xs = map (λ (e : Kept). e.0) xs

  all_kept : (xs : List Kept) (d : ℕ) → d < 2 ^ 64
      → list_all (λ (p : ℕ → Bool). p d) (map (is_term g) (of_kept xs)) ≡ true
      → TermsRead d (of_kept xs)
      (map (λ (w : ℕ → Writer). w d) (map (term_words names) (of_kept xs)))
      (map (λ (r : ℕ → RawTerm). r d) (map (raw_term names) (of_kept xs)))
  all_kept [] d l h = none_read d
  all_kept (x ∷ xs) d l h =
      let hs = and_parts _ _ h in more_read (x.1 d l hs.0) (all_kept xs d l hs.1)

  layer : (y : FofTerm-F Kept) → TermClaim (roll-FofTerm (map-FofTerm Kept FofTerm (λ e. e.0) y))
  layer (O.Var i) = rolled (O.Var i) (λ d l h.
      let below_d : i < d = ltb-true i d h in
      let small : d - (i + 1) < 2 ^ 64 = omega arith in
      record {
        writes = always _ (λ n. variable_term (strict n) (d - (i + 1)) small);
        joins = (variable_is (d - (i + 1)) small).joins;
        meant = term_meant-variable names _ _ ∙ ap T.Var (variable_there d i l below_d)
            ∙ sym (T.rolls-Var i);
      })
  layer (O.Apply f ts) = rolled (O.Apply f (of_kept ts)) (λ d l h.
      let hs = and_parts _ _ h in
      let within : f < length names = rw one_each (symbol_within g f false _ hs.0) in
      let name_writable = writable_at names f writable within in
      let args = all_kept ts d l hs.1 in
      record {
        writes = deeper (λ n k. applied_term n (name_at names f) name_writable _ _ k) args.writes;
        joins = applied_joins (name_at names f) (name_is (name_at names f) name_writable).joins _
            args.joins;
        meant = term_meant-apply names _ _ _
            ∙ same_apply (place_there names f differ within) args.meant
            ∙ sym (T.rolls-Apply f _);
      })

  pub terms_read : (x : FofTerm) → TermClaim x
  terms_read = terms_by_layer TermClaim layer

  -- the arguments of an atom
  pub all_read : (xs : List FofTerm) (d : ℕ) → d < 2 ^ 64
      → list_all (λ x. is_term g x d) xs ≡ true
      → TermsRead d xs (map (λ x. term_words names x d) xs) (map (λ x. raw_term names x d) xs)
  all_read [] d l h = none_read d
  all_read (x ∷ xs) d l h =
      let hs = and_parts _ _ h in more_read (terms_read x d l hs.0) (all_read xs d l hs.1)
