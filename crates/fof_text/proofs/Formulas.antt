-- The words of a formula derive a tree that stands for the formula.
use Rattle.std.proofs.Common.{◌≡◌, ℕ, suc, ◌+◌, ◌<◌, Bool, true, List, [], ◌∷◌, length, map, refl}
use Rattle.std.proofs.Common.{sym, ◌∙◌, ap, subst, arith}
use Rattle.std.specs.Prelude.{◌^◌, codes, sum}
use Rattle.std.specs.List.{list_all, AllByRecursion}
use Rattle.std.proofs.lemmas.Bool.{and_parts}
use Rattle.std.proofs.lemmas.List.Sums.{sum_by-cons}
use Rattle.std.proofs.lemmas.Simd.{map-map}
use Rattle.enc_base.specs.Names.{IsWritable}
use Rattle.fof_models.specs.declared.problem.FofSymbol.{FofSymbol}
use Rattle.fof_models.specs.declared.formula.FofTerm.{FofTerm}
use Rattle.fof_models.specs.declared.formula.Fof.{Fof, roll-Fof}
use Rattle.fof_models.specs.declared.formula.Fof.TheVariants as F
use Rattle.fof_models.specs.declared.formula.Fof.TheOpen.{Fof-F}
use Rattle.fof_models.specs.declared.formula.Fof.TheOpen as G
use Rattle.fof_models.specs.declared.formula.Fof.TheFolds.{fold-roll-Fof, map-Fof}
use Rattle.fof_models.specs.Sound.{is_formula, is_formula_step, has_pairs, has_pairs_step}
use Rattle.fof_models.specs.Sound.{binder_count, binder_count_step}
use Rattle.tptp_syntax.specs.declared.formula.RawFormula.{RawFormula}
use Rattle.tptp_syntax.specs.declared.formula.RawFormula.TheVariants as f
use Rattle.fof_text.specs.Names.{name_at, AllDiffer}
use Rattle.fof_text.specs.Written.{Writer, mark_word, separated, in_brackets, Both, formula_words}
use Rattle.fof_text.specs.Written.{formula_words_step}
use Rattle.fof_text.specs.Meaning.{term_meant, formula_meant}
use Rattle.fof_text.proofs.Places.{place_there, binders_of}
use Rattle.fof_text.proofs.Trees.{formulas_by_layer}
use Rattle.fof_text.proofs.RawTrees.{raw_term, RawBoth, raw_formula, raw_formula_step}
use Rattle.fof_text.proofs.Meanings as meant
use Rattle.fof_text.proofs.Spelled.{Joins, name_is}
use Rattle.fof_text.proofs.Joins.{AllJoin, applied_joins, bracketed, separated_joins, sides_join}
use Rattle.fof_text.proofs.Joins.{negated_joins, true_joins, false_joins, for_all_joins}
use Rattle.fof_text.proofs.Joins.{exists_joins, equals_parts, unequal_parts, implies_parts}
use Rattle.fof_text.proofs.Joins as joins
use Rattle.fof_text.proofs.Derives.{Eventually, always, both, weaker, deeper}
use Rattle.fof_text.proofs.Writers.{Writes, AllWrite}
use Rattle.fof_text.proofs.Terms.{symbol_within, writable_at, terms_read, all_read}
use Rattle.fof_text.proofs.Units as unit
use Rattle.fof_text.proofs.Units.{unit_at}

same_atom : {i j : ℕ} {xs ys : List FofTerm} → i ≡ j → xs ≡ ys → F.Atom i xs ≡ F.Atom j ys
same_atom {i} {j} {xs} {ys} e k = ap (λ z. F.Atom z xs) e ∙ ap (F.Atom j) k

same_equal : {a b c e : FofTerm} → a ≡ b → c ≡ e → F.Equal a c ≡ F.Equal b e
same_equal {a} {b} {c} {e} h k = ap (λ z. F.Equal z c) h ∙ ap (F.Equal b) k

same_implies : {a b c e : Fof} → a ≡ b → c ≡ e → F.Implies a c ≡ F.Implies b e
same_implies {a} {b} {c} {e} h k = ap (λ z. F.Implies z c) h ∙ ap (F.Implies b) k

module _ (names : List (List ℕ)) (g : List FofSymbol) (one_each : length names ≡ length g)
    (differ : AllDiffer names) (writable : AllByRecursion IsWritable names) where
  -- what is known of a formula under d binders
  pub record FormulaReads (d : ℕ) (x : Fof) (w : Writer) (r : RawFormula) : Type 0 where
    pub writes : Eventually (λ n. Writes (unit_at n) w r)
    pub joins : Joins w
    pub meant : formula_meant names r (binders_of d) ≡ x

  pub record FormulasRead (d : ℕ) (xs : List Fof) (ws : List Writer) (rs : List RawFormula)
      : Type 0 where
    pub writes : Eventually (λ n. AllWrite (unit_at n) ws rs)
    pub joins : AllJoin ws
    pub meant : map (λ (h : List (List ℕ) → Fof). h (binders_of d)) (map (formula_meant names) rs)
        ≡ xs

  none_read : (d : ℕ) → FormulasRead d [] [] []
  none_read d = record { writes = always _ (λ n. tt); joins = tt; meant = refl }

  more_read : {d : ℕ} {x : Fof} {xs : List Fof} {w : Writer} {ws : List Writer} {r : RawFormula}
      {rs : List RawFormula} → FormulaReads d x w r → FormulasRead d xs ws rs
      → FormulasRead d (x ∷ xs) (w ∷ ws) (r ∷ rs)
  more_read {d} {x} {xs} {rs = rs} h k =
      let tail = map (λ (h : List (List ℕ) → Fof). h (binders_of d))
      (map (formula_meant names) rs) in
      record {
        writes = both h.writes k.writes;
        joins = (h.joins, k.joins);
        meant = ap (λ z. z ∷ tail) h.meant ∙ ap (λ z. x ∷ z) k.meant;
      }

  -- ~u
  negation : {d : ℕ} {x : Fof} {w : Writer} {r : RawFormula} → FormulaReads d x w r
      → FormulaReads d (F.Not x) (λ rest. mark_word (codes "~") ∷ w rest) (f.Not r)
  negation {d} {x} {w} {r} h = record {
    writes = deeper (λ n k. unit.negated_unit n w r k) h.writes;
    joins = negated_joins w h.joins;
    meant = meant.formula_meant-not names (binders_of d) r ∙ ap F.Not h.meant;
  }

  -- with its negation
  with_not : {d : ℕ} {x : Fof} {w : Writer} {r : RawFormula} → FormulaReads d x w r
      → FormulaReads d x w r
      × FormulaReads d (F.Not x) (λ rest. mark_word (codes "~") ∷ w rest) (f.Not r)
  with_not h = (h, negation h)

  as_rolled : {d : ℕ} {x y : Fof} {w : Writer} {r : RawFormula} → x ≡ y → FormulaReads d x w r
      → FormulaReads d y w r
  as_rolled {d} {w = w} {r = r} e h = subst (λ z. FormulaReads d z w r) e h

  -- ---- the claim

  abbrev Claim : (ℕ → Bool) → Bool → ℕ → Both → RawBoth → Fof → Type 0
  Claim s p b w r x = (d : ℕ) → d + b < 2 ^ 64 → s d ≡ true → p ≡ true
      → FormulaReads d x (w.is d) (r.is d) × FormulaReads d (F.Not x) (w.negated d) (r.negated d)

  abbrev pub FormulaClaim : Fof → Type 0
  FormulaClaim x =
      Claim (is_formula g x) (has_pairs x) (binder_count x) (formula_words names x)
      (raw_formula names x) x

  abbrev Kept : Type 0
  Kept = (x : Fof) × FormulaClaim x

  abbrev sound_layer : Fof-F Fof → ℕ → Bool
  sound_layer x = is_formula_step g (map-Fof Fof (ℕ → Bool) (is_formula g) x)

  abbrev pairs_layer : Fof-F Fof → Bool
  pairs_layer x = has_pairs_step (map-Fof Fof Bool has_pairs x)

  abbrev count_layer : Fof-F Fof → ℕ
  count_layer x = binder_count_step (map-Fof Fof ℕ binder_count x)

  abbrev words_layer : Fof-F Fof → Both
  words_layer x = formula_words_step names (map-Fof Fof Both (formula_words names) x)

  abbrev tree_layer : Fof-F Fof → RawBoth
  tree_layer x = raw_formula_step names (map-Fof Fof RawBoth (raw_formula names) x)

  abbrev LayerClaim : Fof-F Fof → Type 0
  LayerClaim x =
      Claim (sound_layer x) (pairs_layer x) (count_layer x) (words_layer x) (tree_layer x)
      (roll-Fof x)

  rolled : (x : Fof-F Fof) → LayerClaim x → FormulaClaim (roll-Fof x)
  unfolding is_formula has_pairs binder_count formula_words raw_formula
  rolled x h =
      let y = roll-Fof x in
      subst (λ s. Claim s (has_pairs y) (binder_count y) (formula_words names y)
      (raw_formula names y) y)
      (sym (fold-roll-Fof (ℕ → Bool) (is_formula_step g) x))
      (subst (λ p. Claim (sound_layer x) p (binder_count y) (formula_words names y)
      (raw_formula names y) y)
      (sym (fold-roll-Fof Bool has_pairs_step x))
      (subst (λ b. Claim (sound_layer x) (pairs_layer x) b (formula_words names y)
      (raw_formula names y) y)
      (sym (fold-roll-Fof ℕ binder_count_step x))
      (subst (λ w. Claim (sound_layer x) (pairs_layer x) (count_layer x) w (raw_formula names y) y)
      (sym (fold-roll-Fof Both (formula_words_step names) x))
      (subst (λ r. Claim (sound_layer x) (pairs_layer x) (count_layer x) (words_layer x) r y)
      (sym (fold-roll-Fof RawBoth (raw_formula_step names) x)) h))))

  -- ---- lists

  abbrev of_kept : List Kept → List Fof
  of_kept us = map (λ (e : Kept). e.0) us

  all_kept : (us : List Kept) (d : ℕ) → d + sum (map binder_count (of_kept us)) < 2 ^ 64
      → list_all (λ (p : ℕ → Bool). p d) (map (is_formula g) (of_kept us)) ≡ true
      → list_all (λ (p : Bool). p) (map has_pairs (of_kept us)) ≡ true
      → FormulasRead d (of_kept us)
      (map (λ (w : Both). w.is d) (map (formula_words names) (of_kept us)))
      (map (λ (r : RawBoth). r.is d) (map (raw_formula names) (of_kept us)))
  all_kept [] d l h p = none_read d
  all_kept (u ∷ us) d l h p =
      let hs = and_parts _ _ h in
      let ps = and_parts _ _ p in
      let counts : sum (map binder_count (of_kept (u ∷ us)))
      ≡ binder_count u.0 + sum (map binder_count (of_kept us)) =
      sum_by-cons (λ n. n) (binder_count u.0) (map binder_count (of_kept us)) in
      more_read (u.1 d (omega arith) hs.0 ps.0).0 (all_kept us d (omega arith) hs.1 ps.1)

  and_reads : {d : ℕ} {x y : Fof} {xs : List Fof} {w v : Writer} {ws : List Writer}
      {r s : RawFormula} {rs : List RawFormula}
      → FormulasRead d (x ∷ y ∷ xs) (w ∷ v ∷ ws) (r ∷ s ∷ rs)
      → FormulaReads d (F.And (x ∷ y ∷ xs))
      (in_brackets (separated (mark_word (codes "&")) (w ∷ v ∷ ws))) (f.And (r ∷ s ∷ rs))
  and_reads {d} {x} {y} {xs} {w} {v} {ws} {r} {s} {rs} all = record {
    writes = deeper (λ n k. unit.and_unit n w v ws r s rs k) all.writes;
    joins = bracketed _ (separated_joins (codes "&") joins.and_parts w (v ∷ ws) all.joins);
    meant = meant.formula_meant-and names (binders_of d) (r ∷ s ∷ rs) ∙ ap F.And all.meant;
  }

  and_layer : (us : List Kept) → LayerClaim (G.And (of_kept us))
  and_layer [] d l h p = absurd (cc p)
  and_layer (u ∷ []) d l h p = absurd (cc p)
  and_layer (u ∷ v ∷ us) d l h p =
      with_not (as_rolled (sym (F.rolls-And (of_kept (u ∷ v ∷ us))))
      (and_reads (all_kept (u ∷ v ∷ us) d l h (and_parts _ _ p).1)))

  or_reads : {d : ℕ} {x y : Fof} {xs : List Fof} {w v : Writer} {ws : List Writer}
      {r s : RawFormula} {rs : List RawFormula}
      → FormulasRead d (x ∷ y ∷ xs) (w ∷ v ∷ ws) (r ∷ s ∷ rs)
      → FormulaReads d (F.Or (x ∷ y ∷ xs))
      (in_brackets (separated (mark_word (codes "|")) (w ∷ v ∷ ws))) (f.Or (r ∷ s ∷ rs))
  or_reads {d} {x} {y} {xs} {w} {v} {ws} {r} {s} {rs} all = record {
    writes = deeper (λ n k. unit.or_unit n w v ws r s rs k) all.writes;
    joins = bracketed _ (separated_joins (codes "|") joins.or_parts w (v ∷ ws) all.joins);
    meant = meant.formula_meant-or names (binders_of d) (r ∷ s ∷ rs) ∙ ap F.Or all.meant;
  }

  or_layer : (us : List Kept) → LayerClaim (G.Or (of_kept us))
  or_layer [] d l h p = absurd (cc p)
  or_layer (u ∷ []) d l h p = absurd (cc p)
  or_layer (u ∷ v ∷ us) d l h p =
      with_not (as_rolled (sym (F.rolls-Or (of_kept (u ∷ v ∷ us))))
      (or_reads (all_kept (u ∷ v ∷ us) d l h (and_parts _ _ p).1)))

  -- ---- atoms and equations

  atom_layer : (p : ℕ) (ts : List FofTerm) → LayerClaim (G.Atom p ts)
  atom_layer p ts d l h k =
      let hs = and_parts _ _ h in
      let within : p < length names = rw one_each (symbol_within g p true _ hs.0) in
      let name_writable = writable_at names p writable within in
      let args = all_read names g one_each differ writable ts d (omega arith) hs.1 in
      with_not (record {
        writes = deeper (λ n k. unit.atom_unit n (name_at names p) name_writable _ _ k) args.writes;
        joins = applied_joins (name_at names p) (name_is (name_at names p) name_writable).joins _
            args.joins;
        meant = meant.formula_meant-atom names _ _ _
            ∙ same_atom (place_there names p differ within)
            (sym (map-map (λ (h : List (List ℕ) → FofTerm). h (binders_of d)) (term_meant names)
            (map (λ x. raw_term names x d) ts)) ∙ args.meant)
            ∙ sym (F.rolls-Atom p ts);
      })

  equal_layer : (a b : FofTerm) → LayerClaim (G.Equal a b)
  equal_layer a b d l h k =
      let hs = and_parts _ _ h in
      let left = terms_read names g one_each differ writable a d (omega arith) hs.0 in
      let right = terms_read names g one_each differ writable b d (omega arith) hs.1 in (
        record {
          writes = weaker (λ n k. unit.equal_unit n _ _ _ _ k.0 k.1)
              (both left.writes right.writes);
          joins = sides_join (codes "=") equals_parts _ _ left.joins right.joins;
          meant = meant.formula_meant-equal names _ _ _ ∙ same_equal left.meant right.meant
              ∙ sym (F.rolls-Equal a b);
        },
        record {
          writes = weaker (λ n k. unit.unequal_unit n _ _ _ _ k.0 k.1)
              (both left.writes right.writes);
          joins = sides_join (codes "!=") unequal_parts _ _ left.joins right.joins;
          meant = meant.formula_meant-unequal names _ _ _
              ∙ ap F.Not (same_equal left.meant right.meant ∙ sym (F.rolls-Equal a b));
        },
      )

  -- ---- the induction

  implies_layer : (u v : Kept) → LayerClaim (G.Implies u.0 v.0)
  implies_layer u v d l h p =
      let hs = and_parts _ _ h in
      let ps = and_parts _ _ p in
      let left = (u.1 d (omega arith) hs.0 ps.0).0 in
      let right = (v.1 d (omega arith) hs.1 ps.1).0 in
      with_not (record {
        writes = deeper (λ n k. unit.implies_unit n _ _ _ _ k.0 k.1)
            (both left.writes right.writes);
        joins = bracketed _ (sides_join (codes "=>") implies_parts _ _ left.joins right.joins);
        meant = meant.formula_meant-implies names _ _ _ ∙ same_implies left.meant right.meant
            ∙ sym (F.rolls-Implies u.0 v.0);
      })

  for_all_layer : (u : Kept) → LayerClaim (G.ForAll u.0)
  for_all_layer u d l h p =
      let k = (u.1 (d + 1) (omega arith) h p).0 in
      let e : d + 1 ≡ suc d = omega arith in
      let few : d < 2 ^ 64 = omega arith in
      with_not (record {
        writes = deeper (λ n i. unit.for_all_unit n d few
            (formula_words names u.0).is _ i) k.writes;
        joins = for_all_joins d few (formula_words names u.0).is k.joins;
        meant = meant.formula_meant-for_all names _ _ _
            ∙ ap F.ForAll (ap (formula_meant names _) (sym (ap binders_of e)) ∙ k.meant)
            ∙ sym (F.rolls-ForAll u.0);
      })

  exists_layer : (u : Kept) → LayerClaim (G.Exists u.0)
  exists_layer u d l h p =
      let k = (u.1 (d + 1) (omega arith) h p).0 in
      let e : d + 1 ≡ suc d = omega arith in
      let few : d < 2 ^ 64 = omega arith in
      with_not (record {
        writes = deeper (λ n i. unit.exists_unit n d few (formula_words names u.0).is _ i) k.writes;
        joins = exists_joins d few (formula_words names u.0).is k.joins;
        meant = meant.formula_meant-exists names _ _ _
            ∙ ap F.Exists (ap (formula_meant names _) (sym (ap binders_of e)) ∙ k.meant)
            ∙ sym (F.rolls-Exists u.0);
      })

  layer : (y : Fof-F Kept) → FormulaClaim (roll-Fof (map-Fof Kept Fof (λ e. e.0) y))
  layer G.True = rolled G.True (λ d l h p. with_not (record {
    writes = always _ (λ n. unit.true_unit n);
    joins = true_joins;
    meant = meant.formula_meant-true names _ ∙ sym F.rolls-True;
  }))
  layer G.False = rolled G.False (λ d l h p. with_not (record {
    writes = always _ (λ n. unit.false_unit n);
    joins = false_joins;
    meant = meant.formula_meant-false names _ ∙ sym F.rolls-False;
  }))
  layer (G.Atom p ts) = rolled (G.Atom p ts) (atom_layer p ts)
  layer (G.Equal a b) = rolled (G.Equal a b) (equal_layer a b)
  layer (G.Not u) = rolled (G.Not u.0) (λ d l h p.
      let k = (u.1 d l h p).1 in
      with_not (record {
        writes = k.writes;
        joins = k.joins;
        meant = k.meant
            ∙ sym (F.rolls-Not u.0);
      }))
  layer (G.And us) = rolled (G.And (of_kept us)) (and_layer us)
  layer (G.Or us) = rolled (G.Or (of_kept us)) (or_layer us)
  layer (G.Implies u v) = rolled (G.Implies u.0 v.0) (implies_layer u v)
  layer (G.ForAll u) = rolled (G.ForAll u.0) (for_all_layer u)
  layer (G.Exists u) = rolled (G.Exists u.0) (exists_layer u)

  pub formulas_read : (x : Fof) → FormulaClaim x
  formulas_read = formulas_by_layer FormulaClaim layer
