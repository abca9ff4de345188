-- A tree stands for two formulas, by two lists of names: both are true or both are false.
use Rattle.std.proofs.Common.{◌≡◌, ℕ, ◌+◌, Bool, true, false, not, ◌&&◌, ◌||◌, if◌then◌else◌, List}
use Rattle.std.proofs.Common.{[], ◌∷◌, length, map, refl, sym, ◌∙◌, ap, subst}
use Rattle.std.specs.Prelude.{eqb}
use Rattle.std.specs.List.{list_all, list_any, AllByRecursion}
use Rattle.std.proofs.lemmas.Bool.{and_parts}
use Rattle.std.proofs.lemmas.Simd.{map-map}
use Rattle.enc_base.proofs.Quantifiers.{all_below-same, some_below-same}
use Rattle.fof_models.specs.declared.problem.FofSymbol.{FofSymbol}
use Rattle.fof_models.specs.declared.formula.FofTerm.{FofTerm}
use Rattle.fof_models.specs.declared.formula.Fof.{Fof}
use Rattle.fof_models.specs.declared.formula.Fof.TheVariants as F
use Rattle.fof_models.specs.Sound.{is_formula}
use Rattle.fof_models.specs.Structures.{Untyped, IsStructure}
use Rattle.fof_models.specs.Truth.{value, truth}
use Rattle.fof_models.proofs.Sound as sound
use Rattle.fof_models.proofs.Truth as true_of
use Rattle.tptp_syntax.specs.declared.types.Bound.{Bound}
use Rattle.tptp_syntax.specs.declared.term.RawTerm.{RawTerm}
use Rattle.tptp_syntax.specs.declared.formula.RawFormula.{RawFormula, roll-RawFormula}
use Rattle.tptp_syntax.specs.declared.formula.RawFormula.TheVariants as f
use Rattle.tptp_syntax.specs.declared.formula.RawFormula.TheOpen.{RawFormula-F}
use Rattle.tptp_syntax.specs.declared.formula.RawFormula.TheOpen as R
use Rattle.tptp_syntax.specs.declared.formula.RawFormula.TheFolds.{ind-RawFormula, map-RawFormula}
use Rattle.fof_text.specs.Names.{place_of}
use Rattle.fof_text.specs.Meaning.{term_meant, formula_meant, bind, nothing, is_untyped}
use Rattle.fof_text.proofs.Meanings as meant
use Rattle.fof_text.proofs.Renamed.{renamed, AreBound, bind_one}
use Rattle.fof_text.proofs.RenamedTerms.{TermClaim, terms_same, all_same, symbol_same, nowhere}

module _ (names others : List (List ℕ)) (g h : List FofSymbol) (one_each : length others ≡ length h)
    (s : Untyped) (structure : IsStructure g s) where
  abbrev other_one : Untyped
  other_one = renamed names others h s

  -- where both are sound, x is true in the one structure exactly where y is in the other
  pub record Same (x y : Fof) : Type 0 where
    pub here : (d : ℕ) (elements : List ℕ) → is_formula g x d ≡ true → is_formula h y d ≡ true
        → AreBound s.size d elements → truth other_one y elements ≡ truth s x elements

  abbrev pub FormulaClaim : RawFormula → Type 0
  FormulaClaim r = (bound : List (List ℕ))
      → Same (formula_meant names r bound) (formula_meant others r bound)

  same_at : {x y x' y' : Fof} → x' ≡ x → y' ≡ y → Same x y → Same x' y'
  same_at {x} {y} {x'} {y'} e k q = subst (λ z. Same z y') (sym e) (subst (Same x) (sym k) q)

  -- ---- formulas from parts

  same_true : Same F.True F.True
  same_true = record {
    here = λ d elements i j k.
        true_of.truth-true other_one elements ∙ sym (true_of.truth-true s elements);
  }

  same_false : Same F.False F.False
  same_false = record {
    here = λ d elements i j k.
        true_of.truth-false other_one elements ∙ sym (true_of.truth-false s elements);
  }

  same_not : {x y : Fof} → Same x y → Same (F.Not x) (F.Not y)
  same_not {x} {y} q = record {
    here = λ d elements i j k.
        true_of.truth-not other_one y elements
        ∙ ap not (q.here d elements (sym (sound.is_formula-not g x d) ∙ i)
        (sym (sound.is_formula-not h y d) ∙ j) k)
        ∙ sym (true_of.truth-not s x elements);
  }

  same_implies : {x y u v : Fof} → Same x y → Same u v → Same (F.Implies x u) (F.Implies y v)
  same_implies {x} {y} {u} {v} q r = record {
    here = λ d elements i j k.
        let i' = and_parts _ _ (sym (sound.is_formula-implies g x u d) ∙ i) in
        let j' = and_parts _ _ (sym (sound.is_formula-implies h y v d) ∙ j) in
        true_of.truth-implies other_one y v elements
        ∙ ap (λ z. not z || truth other_one v elements) (q.here d elements i'.0 j'.0 k)
        ∙ ap (λ z. not (truth s x elements) || z) (r.here d elements i'.1 j'.1 k)
        ∙ sym (true_of.truth-implies s x u elements);
  }

  same_for_all : {x y : Fof} → Same x y → Same (F.ForAll x) (F.ForAll y)
  same_for_all {x} {y} q = record {
    here = λ d elements i j k.
        true_of.truth-for_all other_one y elements
        ∙ all_below-same s.size (λ e. truth other_one y (e ∷ elements))
        (λ e. truth s x (e ∷ elements))
        (λ e l. q.here (d + 1) (e ∷ elements) (sym (sound.is_formula-for_all g x d) ∙ i)
        (sym (sound.is_formula-for_all h y d) ∙ j) (bind_one e l k))
        ∙ sym (true_of.truth-for_all s x elements);
  }

  same_exists : {x y : Fof} → Same x y → Same (F.Exists x) (F.Exists y)
  same_exists {x} {y} q = record {
    here = λ d elements i j k.
        true_of.truth-exists other_one y elements
        ∙ some_below-same s.size (λ e. truth other_one y (e ∷ elements))
        (λ e. truth s x (e ∷ elements))
        (λ e l. q.here (d + 1) (e ∷ elements) (sym (sound.is_formula-exists g x d) ∙ i)
        (sym (sound.is_formula-exists h y d) ∙ j) (bind_one e l k))
        ∙ sym (true_of.truth-exists s x elements);
  }

  -- what no formula is, is sound in neither
  same_nothing : Same (nothing names) (nothing others)
  same_nothing = record {
    here = λ d elements i j k.
        absurd (nowhere names others g h one_each s structure true 0
        (and_parts _ _ (sym (sound.is_formula-atom h (length others) [] d) ∙ j)).0);
  }

  same_bind : (binder : Fof → Fof) → ((x y : Fof) → Same x y → Same (binder x) (binder y))
      → (p q : List (List ℕ) → Fof) → ((bound : List (List ℕ)) → Same (p bound) (q bound))
      → (xs : List Bound) (bound : List (List ℕ))
      → Same (bind names binder xs p bound) (bind others binder xs q bound)
  same_bind binder b p q c [] bound = c bound
  same_bind binder b p q c (x ∷ xs) bound =
      go (is_untyped x.kind) (same_bind binder b p q c xs (x.name ∷ bound))
    where
      here : Fof
      here = bind names binder xs p (x.name ∷ bound)

      there : Fof
      there = bind others binder xs q (x.name ∷ bound)

      go : (v : Bool) → Same here there
          → Same (if v then binder here else nothing names)
          (if v then binder there else nothing others)
      go true k = b here there k
      go false k = same_nothing

  -- ---- atoms and equations

  same_equal : (a b : RawTerm) (bound : List (List ℕ))
      → Same (F.Equal (term_meant names a bound) (term_meant names b bound))
      (F.Equal (term_meant others a bound) (term_meant others b bound))
  same_equal a b bound = record {
    here = λ d elements i j k.
        let x = term_meant names a bound in
        let y = term_meant names b bound in
        let x' = term_meant others a bound in
        let y' = term_meant others b bound in
        let i' = and_parts _ _ (sym (sound.is_formula-equal g x y d) ∙ i) in
        let j' = and_parts _ _ (sym (sound.is_formula-equal h x' y' d) ∙ j) in
        let va = (terms_same names others g h one_each s structure a bound d elements i'.0 j'.0 k).0 in
        let vb = (terms_same names others g h one_each s structure b bound d elements i'.1 j'.1 k).0 in
        true_of.truth-equal other_one x' y' elements
        ∙ ap (λ z. eqb z (value other_one elements y')) va
        ∙ ap (λ z. eqb (value s elements x) z) vb
        ∙ sym (true_of.truth-equal s x y elements);
  }

  all_terms : (rs : List RawTerm)
      → AllByRecursion (TermClaim names others g h one_each s structure) rs
  all_terms [] = tt
  all_terms (r ∷ rs) = (terms_same names others g h one_each s structure r, all_terms rs)

  same_atom : (x : List ℕ) (rs : List RawTerm) (bound : List (List ℕ))
      → Same (F.Atom (place_of names x) (map (λ r. term_meant names r bound) rs))
      (F.Atom (place_of others x) (map (λ r. term_meant others r bound) rs))
  same_atom x rs bound = record {
    here = λ d elements i j k.
        let xs : List FofTerm = map (λ r. term_meant names r bound) rs in
        let ys : List FofTerm = map (λ r. term_meant others r bound) rs in
        let i' = and_parts _ _ (sym (sound.is_formula-atom g (place_of names x) xs d) ∙ i) in
        let j' = and_parts _ _ (sym (sound.is_formula-atom h (place_of others x) ys d) ∙ j) in
        let list = all_same names others g h one_each s structure bound d elements k rs
        (all_terms rs) i'.1 j'.1 in
        true_of.truth-atom other_one (place_of others x) ys elements
        ∙ ap (λ z. eqb z 1)
        (symbol_same names others g h one_each s structure true x elements xs ys j'.0 i'.0 list).0
        ∙ sym (true_of.truth-atom s (place_of names x) xs elements);
  }

  -- ---- conjunctions and disjunctions

  abbrev here_of : List (List ℕ) → List RawFormula → List Fof
  here_of bound rs = map (λ r. formula_meant names r bound) rs

  abbrev there_of : List (List ℕ) → List RawFormula → List Fof
  there_of bound rs = map (λ r. formula_meant others r bound) rs

  every : (bound : List (List ℕ)) (d : ℕ) (elements : List ℕ) → AreBound s.size d elements
      → (rs : List RawFormula) → AllByRecursion FormulaClaim rs
      → list_all (λ x. is_formula g x d) (here_of bound rs) ≡ true
      → list_all (λ x. is_formula h x d) (there_of bound rs) ≡ true
      → list_all (λ x. truth other_one x elements) (there_of bound rs)
      ≡ list_all (λ x. truth s x elements) (here_of bound rs)
  every bound d elements k [] c i j = refl
  every bound d elements k (r ∷ rs) c i j =
      let i' = and_parts _ _ i in
      let j' = and_parts _ _ j in
      ap (λ z. z && list_all (λ x. truth other_one x elements) (there_of bound rs))
      ((c.0 bound).here d elements i'.0 j'.0 k)
      ∙ ap (λ z. truth s (formula_meant names r bound) elements && z)
      (every bound d elements k rs c.1 i'.1 j'.1)

  same_and : (bound : List (List ℕ)) (rs : List RawFormula) → AllByRecursion FormulaClaim rs
      → Same (F.And (here_of bound rs)) (F.And (there_of bound rs))
  same_and bound rs c = record {
    here = λ d elements i j k.
        true_of.truth-and other_one (there_of bound rs) elements
        ∙ every bound d elements k rs c (sym (sound.is_formula-and g (here_of bound rs) d) ∙ i)
        (sym (sound.is_formula-and h (there_of bound rs) d) ∙ j)
        ∙ sym (true_of.truth-and s (here_of bound rs) elements);
  }

  some_one : (bound : List (List ℕ)) (d : ℕ) (elements : List ℕ) → AreBound s.size d elements
      → (rs : List RawFormula) → AllByRecursion FormulaClaim rs
      → list_all (λ x. is_formula g x d) (here_of bound rs) ≡ true
      → list_all (λ x. is_formula h x d) (there_of bound rs) ≡ true
      → list_any (λ x. truth other_one x elements) (there_of bound rs)
      ≡ list_any (λ x. truth s x elements) (here_of bound rs)
  some_one bound d elements k [] c i j = refl
  some_one bound d elements k (r ∷ rs) c i j =
      let i' = and_parts _ _ i in
      let j' = and_parts _ _ j in
      ap (λ z. z || list_any (λ x. truth other_one x elements) (there_of bound rs))
      ((c.0 bound).here d elements i'.0 j'.0 k)
      ∙ ap (λ z. truth s (formula_meant names r bound) elements || z)
      (some_one bound d elements k rs c.1 i'.1 j'.1)

  same_or : (bound : List (List ℕ)) (rs : List RawFormula) → AllByRecursion FormulaClaim rs
      → Same (F.Or (here_of bound rs)) (F.Or (there_of bound rs))
  same_or bound rs c = record {
    here = λ d elements i j k.
        true_of.truth-or other_one (there_of bound rs) elements
        ∙ some_one bound d elements k rs c (sym (sound.is_formula-or g (here_of bound rs) d) ∙ i)
        (sym (sound.is_formula-or h (there_of bound rs) d) ∙ j)
        ∙ sym (true_of.truth-or s (here_of bound rs) elements);
  }

  -- ---- the induction

  abbrev Kept : Type 0
  Kept = (r : RawFormula) × FormulaClaim r

  every_claim : (ks : List Kept) → AllByRecursion FormulaClaim (map (λ (e : Kept). e.0) ks)
  every_claim [] = tt
  every_claim (k ∷ ks) = (k.1, every_claim ks)

  meant_parts : (ns bound : List (List ℕ)) (rs : List RawFormula)
      → map (λ (q : List (List ℕ) → Fof). q bound) (map (formula_meant ns) rs)
      ≡ map (λ r. formula_meant ns r bound) rs
  meant_parts ns bound rs = map-map (λ (q : List (List ℕ) → Fof). q bound) (formula_meant ns) rs

  formula_layer : (y : RawFormula-F Kept)
      → FormulaClaim (roll-RawFormula (map-RawFormula Kept RawFormula (λ e. e.0) y))
  formula_layer R.True =
      subst FormulaClaim (sym f.rolls-True) (λ bound.
      same_at (meant.formula_meant-true names bound) (meant.formula_meant-true others bound)
      same_true)
  formula_layer R.False =
      subst FormulaClaim (sym f.rolls-False) (λ bound.
      same_at (meant.formula_meant-false names bound) (meant.formula_meant-false others bound)
      same_false)
  formula_layer (R.Atom n ts) =
      subst FormulaClaim (sym (f.rolls-Atom n ts)) (λ bound.
      same_at (meant.formula_meant-atom names bound n ts)
      (meant.formula_meant-atom others bound n ts)
      (same_atom n ts bound))
  formula_layer (R.Equal a b) =
      subst FormulaClaim (sym (f.rolls-Equal a b)) (λ bound.
      same_at (meant.formula_meant-equal names bound a b)
      (meant.formula_meant-equal others bound a b)
      (same_equal a b bound))
  formula_layer (R.Unequal a b) =
      subst FormulaClaim (sym (f.rolls-Unequal a b)) (λ bound.
      same_at (meant.formula_meant-unequal names bound a b)
      (meant.formula_meant-unequal others bound a b)
      (same_not (same_equal a b bound)))
  formula_layer (R.Not u) =
      subst FormulaClaim (sym (f.rolls-Not u.0)) (λ bound.
      same_at (meant.formula_meant-not names bound u.0) (meant.formula_meant-not others bound u.0)
      (same_not (u.1 bound)))
  formula_layer (R.And us) =
      let rs : List RawFormula = map (λ (e : Kept). e.0) us in
      subst FormulaClaim (sym (f.rolls-And rs)) (λ bound.
      same_at (meant.formula_meant-and names bound rs ∙ ap F.And (meant_parts names bound rs))
      (meant.formula_meant-and others bound rs ∙ ap F.And (meant_parts others bound rs))
      (same_and bound rs (every_claim us)))
  formula_layer (R.Or us) =
      let rs : List RawFormula = map (λ (e : Kept). e.0) us in
      subst FormulaClaim (sym (f.rolls-Or rs)) (λ bound.
      same_at (meant.formula_meant-or names bound rs ∙ ap F.Or (meant_parts names bound rs))
      (meant.formula_meant-or others bound rs ∙ ap F.Or (meant_parts others bound rs))
      (same_or bound rs (every_claim us)))
  formula_layer (R.Implies u v) =
      subst FormulaClaim (sym (f.rolls-Implies u.0 v.0)) (λ bound.
      same_at (meant.formula_meant-implies names bound u.0 v.0)
      (meant.formula_meant-implies others bound u.0 v.0)
      (same_implies (u.1 bound) (v.1 bound)))
  formula_layer (R.If u v) =
      subst FormulaClaim (sym (f.rolls-If u.0 v.0)) (λ bound.
      same_at (meant.formula_meant-if names bound u.0 v.0)
      (meant.formula_meant-if others bound u.0 v.0)
      same_nothing)
  formula_layer (R.Iff u v) =
      subst FormulaClaim (sym (f.rolls-Iff u.0 v.0)) (λ bound.
      same_at (meant.formula_meant-iff names bound u.0 v.0)
      (meant.formula_meant-iff others bound u.0 v.0)
      same_nothing)
  formula_layer (R.Xor u v) =
      subst FormulaClaim (sym (f.rolls-Xor u.0 v.0)) (λ bound.
      same_at (meant.formula_meant-xor names bound u.0 v.0)
      (meant.formula_meant-xor others bound u.0 v.0)
      same_nothing)
  formula_layer (R.Nand u v) =
      subst FormulaClaim (sym (f.rolls-Nand u.0 v.0)) (λ bound.
      same_at (meant.formula_meant-nand names bound u.0 v.0)
      (meant.formula_meant-nand others bound u.0 v.0)
      same_nothing)
  formula_layer (R.Nor u v) =
      subst FormulaClaim (sym (f.rolls-Nor u.0 v.0)) (λ bound.
      same_at (meant.formula_meant-nor names bound u.0 v.0)
      (meant.formula_meant-nor others bound u.0 v.0)
      same_nothing)
  formula_layer (R.ForAll xs u) =
      subst FormulaClaim (sym (f.rolls-ForAll xs u.0)) (λ bound.
      same_at (meant.formula_meant-for_all names bound xs u.0)
      (meant.formula_meant-for_all others bound xs u.0)
      (same_bind F.ForAll (λ x y q. same_for_all q) (formula_meant names u.0)
      (formula_meant others u.0) u.1 xs bound))
  formula_layer (R.Exists xs u) =
      subst FormulaClaim (sym (f.rolls-Exists xs u.0)) (λ bound.
      same_at (meant.formula_meant-exists names bound xs u.0)
      (meant.formula_meant-exists others bound xs u.0)
      (same_bind F.Exists (λ x y q. same_exists q) (formula_meant names u.0)
      (formula_meant others u.0) u.1 xs bound))

  pub formulas_same : (r : RawFormula) → FormulaClaim r
  formulas_same =
      ind-RawFormula FormulaClaim
      (λ x y is. subst (λ z. FormulaClaim (roll-RawFormula z)) is (formula_layer y))
