-- A tree stands for two terms, by two lists of names: their values are the same.
use Rattle.std.proofs.Common.{◌≡◌, ℕ, ◌<◌, Bool, true, false, cond, List, [], ◌∷◌, length, map}
use Rattle.std.proofs.Common.{Option, Some, refl, sym, ◌∙◌, ap, subst, arith}
use Rattle.std.specs.Prelude.{replicate, slice_get}
use Rattle.std.specs.List.{AllByRecursion}
use Rattle.std.proofs.lemmas.Bool.{and_parts, ltb-true}
use Rattle.enc_base.specs.Tables.{EachBelow}
use Rattle.std.proofs.lemmas.Simd.{map-map}
use Rattle.fof_models.specs.declared.problem.FofSymbol.{FofSymbol}
use Rattle.fof_models.specs.declared.formula.FofTerm.{FofTerm}
use Rattle.fof_models.specs.declared.formula.FofTerm.TheVariants as T
use Rattle.fof_models.specs.Sound.{is_term, is_symbol, are_terms}
use Rattle.fof_models.specs.Structures.{Untyped, IsStructure, values_below}
use Rattle.fof_models.specs.Truth.{value}
use Rattle.fof_models.proofs.Sound.{is_term-variable, is_term-apply}
use Rattle.fof_models.proofs.Truth.{value-variable, value-apply}
use Rattle.fof_models.proofs.Agreement.{is_symbol-says}
use Rattle.tptp_syntax.specs.declared.term.RawTerm.{RawTerm, roll-RawTerm}
use Rattle.tptp_syntax.specs.declared.term.RawTerm.TheVariants as t
use Rattle.tptp_syntax.specs.declared.term.RawTerm.TheOpen.{RawTerm-F}
use Rattle.tptp_syntax.specs.declared.term.RawTerm.TheOpen as O
use Rattle.tptp_syntax.specs.declared.term.RawTerm.TheFolds.{ind-RawTerm, map-RawTerm}
use Rattle.fof_text.specs.Names.{name_at, place_of}
use Rattle.fof_text.specs.Meaning.{term_meant}
use Rattle.fof_text.proofs.Places.{name_there}
use Rattle.fof_text.proofs.Meanings.{term_meant-variable, term_meant-apply, term_meant-individuals}
use Rattle.fof_text.proofs.Terms.{symbol_within}
use Rattle.fof_text.proofs.Renamed.{kept_in, kept_value, renamed, AreBound, element_below}

module _ (names others : List (List ℕ)) (g h : List FofSymbol) (one_each : length others ≡ length h)
    (s : Untyped) (structure : IsStructure g s) where
  abbrev pub other_one : Untyped
  other_one = renamed names others h s

  abbrev pub TermClaim : RawTerm → Type 0
  TermClaim r = (bound : List (List ℕ)) (d : ℕ) (elements : List ℕ)
      → is_term g (term_meant names r bound) d ≡ true
      → is_term h (term_meant others r bound) d ≡ true → AreBound s.size d elements
      → (value other_one elements (term_meant others r bound)
      ≡ value s elements (term_meant names r bound))
      × (value s elements (term_meant names r bound) < s.size)

  -- ---- symbols

  named : (x : List ℕ) → place_of others x < length h
      → place_of names (name_at others (place_of others x)) ≡ place_of names x
  named x l = ap (place_of names) (name_there others x (rw one_each l))

  -- the terms have the same values, each an element
  pub record SameList (elements : List ℕ) (xs ys : List FofTerm) : Type 0 where
    pub same : map (value other_one elements) ys ≡ map (value s elements) xs
    pub below : EachBelow (replicate (length xs) s.size) (map (value s elements) xs)

  -- a symbol at arguments of the same values
  pub symbol_same : (predicate : Bool) (x elements : List ℕ) (xs ys : List FofTerm)
      → is_symbol (slice_get h (place_of others x)) predicate (length ys) ≡ true
      → is_symbol (slice_get g (place_of names x)) predicate (length xs) ≡ true
      → SameList elements xs ys
      → (other_one.symbol_at (place_of others x) (map (value other_one elements) ys)
      ≡ s.symbol_at (place_of names x) (map (value s elements) xs))
      × (s.symbol_at (place_of names x) (map (value s elements) xs) < cond predicate 2 s.size)
  symbol_same predicate x elements xs ys there here list =
      let b = is_symbol-says _ predicate (length xs) here in
      let c = is_symbol-says _ predicate (length ys) there in
      let args : List ℕ = map (value s elements) xs in
      let v : ℕ = s.symbol_at (place_of names x) args in
      let below = subst (λ n. EachBelow (replicate n s.size) args) (sym b.3) list.below in
      let in_range : v < values_below b.0 s.size =
      structure.values (place_of names x) b.0 args b.1 below in
      let within : v < cond predicate 2 s.size = subst (λ p. v < cond p 2 s.size) b.2 in_range in
      let kept : kept_in s.size (Some c.0) v ≡ v =
      kept_value s.size c.0 v (subst (λ p. v < cond p 2 s.size) (sym c.2) within) in
      let at_name = named x (symbol_within h (place_of others x) predicate (length ys) there) in
      let found : Option FofSymbol = slice_get h (place_of others x) in (
        ap (λ z. kept_in s.size found (s.symbol_at z (map (value other_one elements) ys))) at_name
            ∙ ap (λ z. kept_in s.size found (s.symbol_at (place_of names x) z)) list.same
            ∙ ap (λ o. kept_in s.size o v) c.1 ∙ kept,
        within,
      )

  -- ---- lists of terms

  pub all_same : (bound : List (List ℕ)) (d : ℕ) (elements : List ℕ) → AreBound s.size d elements
      → (rs : List RawTerm) → AllByRecursion TermClaim rs
      → are_terms g (map (λ r. term_meant names r bound) rs) d ≡ true
      → are_terms h (map (λ r. term_meant others r bound) rs) d ≡ true
      → SameList elements (map (λ r. term_meant names r bound) rs)
      (map (λ r. term_meant others r bound) rs)
  all_same bound d elements k [] c i j = record { same = refl; below = tt }
  all_same bound d elements k (r ∷ rs) c i j =
      let i' = and_parts _ _ i in
      let j' = and_parts _ _ j in
      let first = c.0 bound d elements i'.0 j'.0 k in
      let rest = all_same bound d elements k rs c.1 i'.1 j'.1 in
      record {
        same =
            ap (λ z. z ∷ map (value other_one elements)
            (map (λ r. term_meant others r bound) rs)) first.0
            ∙ ap (λ z. value s elements (term_meant names r bound) ∷ z) rest.same;
        below = (first.1, rest.below);
      }

  -- ---- the cases

  variable_case : (x : List ℕ) → TermClaim (t.Variable x)
  variable_case x bound d elements i j k =
      let e = term_meant-variable names bound x in
      let e' = term_meant-variable others bound x in
      let l : place_of bound x < d =
      ltb-true _ _ (sym (is_term-variable g _ d) ∙ ap (λ z. is_term g z d) (sym e) ∙ i) in
      let v = ap (value s elements) e ∙ value-variable s elements (place_of bound x) in
      let v' = ap (value other_one elements) e'
      ∙ value-variable other_one elements (place_of bound x) in
      let enough = k.enough in (
        v' ∙ sym v,
        subst (λ z. z < s.size) (sym v)
            (element_below elements s.size (place_of bound x) k.below (omega arith)),
      )

  apply_case : (x : List ℕ) (rs : List RawTerm) → AllByRecursion TermClaim rs
      → TermClaim (t.Apply x rs)
  apply_case x rs c bound d elements i j k =
      let xs : List FofTerm = map (λ r. term_meant names r bound) rs in
      let ys : List FofTerm = map (λ r. term_meant others r bound) rs in
      let e = term_meant-apply names bound x rs ∙ ap (T.Apply (place_of names x))
      (map-map (λ (q : List (List ℕ) → FofTerm). q bound) (term_meant names) rs) in
      let e' = term_meant-apply others bound x rs ∙ ap (T.Apply (place_of others x))
      (map-map (λ (q : List (List ℕ) → FofTerm). q bound) (term_meant others) rs) in
      let i' = and_parts _ _ (sym (is_term-apply g (place_of names x) xs d)
      ∙ ap (λ z. is_term g z d) (sym e) ∙ i) in
      let j' = and_parts _ _ (sym (is_term-apply h (place_of others x) ys d)
      ∙ ap (λ z. is_term h z d) (sym e') ∙ j) in
      let list = all_same bound d elements k rs c i'.1 j'.1 in
      let r = symbol_same false x elements xs ys j'.0 i'.0 list in
      let v = ap (value s elements) e ∙ value-apply s elements (place_of names x) xs in
      let v' = ap (value other_one elements) e'
      ∙ value-apply other_one elements (place_of others x) ys in
      (v' ∙ r.0 ∙ sym v, subst (λ z. z < s.size) (sym v) r.1)

  -- no symbol has the length of the names as its place
  pub nowhere : (predicate : Bool) (n : ℕ)
      → is_symbol (slice_get h (length others)) predicate n ≡ true → ⊥
  nowhere predicate n i =
      let inside = symbol_within h (length others) predicate n i in omega (arith, one_each)

  individuals_case : TermClaim t.Individuals
  individuals_case bound d elements i j k =
      absurd (nowhere false 0 (and_parts _ _ (sym (is_term-apply h (length others) [] d)
      ∙ ap (λ z. is_term h z d) (sym (term_meant-individuals others bound)) ∙ j)).0)

  -- ---- the induction

  abbrev Kept : Type 0
  Kept = (r : RawTerm) × TermClaim r

  all_claims : (ks : List Kept) → AllByRecursion TermClaim (map (λ (e : Kept). e.0) ks)
  all_claims [] = tt
  all_claims (k ∷ ks) = (k.1, all_claims ks)

  term_layer : (y : RawTerm-F Kept)
      → TermClaim (roll-RawTerm (map-RawTerm Kept RawTerm (λ e. e.0) y))
  term_layer (O.Variable x) = subst TermClaim (sym (t.rolls-Variable x)) (variable_case x)
  term_layer (O.Apply x ks) =
      subst TermClaim (sym (t.rolls-Apply x (map (λ (e : Kept). e.0) ks)))
      (apply_case x (map (λ (e : Kept). e.0) ks) (all_claims ks))
  term_layer O.Individuals = subst TermClaim (sym t.rolls-Individuals) individuals_case

  pub terms_same : (r : RawTerm) → TermClaim r
  terms_same = ind-RawTerm TermClaim
      (λ x y is. subst (λ z. TermClaim (roll-RawTerm z)) is (term_layer y))
