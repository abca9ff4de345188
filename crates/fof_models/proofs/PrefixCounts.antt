-- Soundness, depth and binders of a formula under a prefix of quantifiers.
use Rattle.std.specs.Prelude.{ℕ, zero, suc, ◌≡◌, ◌+◌, Bool, List}
use Rattle.std.specs.Fn.{iterate}
use Rattle.std.proofs.Common.{sym, ap, ◌∙◌, arith}
use Rattle.fof_models.specs.declared.formula.Fof.{Fof}
use Rattle.fof_models.specs.declared.formula.Fof.TheVariants.{ForAll, Exists}
use Rattle.fof_models.specs.declared.problem.FofSymbol.{FofSymbol}
use Rattle.fof_models.specs.Prefix.{under_universals, under_existentials}
use Rattle.fof_models.specs.Sound.{is_formula, has_pairs, binder_count, depth}
use Rattle.fof_models.proofs.Sound.{is_formula-for_all, is_formula-exists, has_pairs-for_all, has_pairs-exists, binder_count-for_all, binder_count-exists, depth-for_all, depth-exists}
use Rattle.fof_models.proofs.Prefixes.{under_universals-commutes, under_universals-passed, under_existentials-commutes, under_existentials-passed}

iterate-plus_one : (count n : ℕ) → iterate (λ k. k + 1) count n ≡ n + count
iterate-plus_one zero n = omega arith
iterate-plus_one (suc count) n = omega (arith, iterate-plus_one count (n + 1))

iterate-deeper : (f : Fof → Fof) (test : Fof → ℕ → Bool) →
    ((p : Fof) (binders : ℕ) → test (f p) binders ≡ test p (binders + 1)) →
    (count : ℕ) (p : Fof) (binders : ℕ) → test (iterate f count p) binders ≡ test p (binders + count)
iterate-deeper f test step zero p binders =
    let none : binders ≡ binders + 0 = omega arith in ap (test p) none
iterate-deeper f test step (suc count) p binders =
    let more : binders + count + 1 ≡ binders + suc count = omega arith in
    iterate-deeper f test step count (f p) binders ∙ step p (binders + count) ∙ ap (test p) more

-- the parts of a formula that begins with a universal quantifier, as code finds them
module _ (p inner lent body : Fof) (more : ℕ) (is : p ≡ ForAll inner) (lend : lent ≡ inner)
    (whole : lent ≡ under_universals more body)
  where
    prefixed : inner ≡ under_universals more body
    prefixed = sym lend ∙ whole

    pub universals_depth : depth p ≡ depth body + more + 1
    universals_depth =
        omega (
          arith,
          ap depth is,
          depth-for_all inner,
          ap depth prefixed,
          under_universals-commutes (λ n. n + 1) depth depth-for_all more body,
          iterate-plus_one more (depth body),
        )

    pub universals_binders : binder_count p ≡ binder_count body + more + 1
    universals_binders =
        omega (
          arith,
          ap binder_count is,
          binder_count-for_all inner,
          ap binder_count prefixed,
          under_universals-commutes (λ n. n + 1) binder_count binder_count-for_all more body,
          iterate-plus_one more (binder_count body),
        )

    pub universals_pairs : has_pairs p ≡ has_pairs body
    universals_pairs =
        ap has_pairs is ∙ has_pairs-for_all inner ∙ ap has_pairs prefixed
        ∙ under_universals-passed has_pairs has_pairs-for_all more body

    pub universals_formula : (signature : List FofSymbol) (binders : ℕ) →
        is_formula signature p binders ≡ is_formula signature body (binders + 1 + more)
    unfolding under_universals
    universals_formula signature binders =
        ap (λ x. is_formula signature x binders) is ∙ is_formula-for_all signature inner binders
        ∙ ap (λ x. is_formula signature x (binders + 1)) prefixed
        ∙ iterate-deeper (λ x. ForAll x) (is_formula signature) (is_formula-for_all signature) more body
        (binders + 1)

-- and with an existential one
module _ (p inner lent body : Fof) (more : ℕ) (is : p ≡ Exists inner) (lend : lent ≡ inner)
    (whole : lent ≡ under_existentials more body)
  where
    prefixed_too : inner ≡ under_existentials more body
    prefixed_too = sym lend ∙ whole

    pub existentials_depth : depth p ≡ depth body + more + 1
    existentials_depth =
        omega (
          arith,
          ap depth is,
          depth-exists inner,
          ap depth prefixed_too,
          under_existentials-commutes (λ n. n + 1) depth depth-exists more body,
          iterate-plus_one more (depth body),
        )

    pub existentials_binders : binder_count p ≡ binder_count body + more + 1
    existentials_binders =
        omega (
          arith,
          ap binder_count is,
          binder_count-exists inner,
          ap binder_count prefixed_too,
          under_existentials-commutes (λ n. n + 1) binder_count binder_count-exists more body,
          iterate-plus_one more (binder_count body),
        )

    pub existentials_pairs : has_pairs p ≡ has_pairs body
    existentials_pairs =
        ap has_pairs is ∙ has_pairs-exists inner ∙ ap has_pairs prefixed_too
        ∙ under_existentials-passed has_pairs has_pairs-exists more body

    pub existentials_formula : (signature : List FofSymbol) (binders : ℕ) →
        is_formula signature p binders ≡ is_formula signature body (binders + 1 + more)
    unfolding under_existentials
    existentials_formula signature binders =
        ap (λ x. is_formula signature x binders) is ∙ is_formula-exists signature inner binders
        ∙ ap (λ x. is_formula signature x (binders + 1)) prefixed_too
        ∙ iterate-deeper (λ x. Exists x) (is_formula signature) (is_formula-exists signature) more body
        (binders + 1)
