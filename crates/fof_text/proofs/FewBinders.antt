-- The parts of a formula have no more binders than the formula.
use Rattle.std.proofs.Common.{◌≡◌, ◌+◌, ◌<◌, ◌≤◌, ℕ, zero, suc, List, [], ◌∷◌, map, length, sym, ap}
use Rattle.std.proofs.Common.{subst, ◌∙◌, arith}
use Rattle.std.specs.Prelude.{◌^◌, get_or}
use Rattle.std.specs.List.{AllByRecursion, sum}
use Rattle.std.proofs.lemmas.List.Sums.{sum_by-cons}
use Rattle.fof_models.specs.declared.formula.Fof.{Fof}
use Rattle.fof_models.specs.declared.formula.Fof.TheVariants as F
use Rattle.fof_models.specs.declared.problem.FofFormula.{FofFormula}
use Rattle.fof_models.specs.declared.problem.FofProblem.{FofProblem}
use Rattle.fof_models.specs.Sound.{binder_count, IsSound, IsSoundFormula}
use Rattle.fof_models.proofs.Sound as sound

module _ (d n : ℕ) (f : Fof) where
  pub not_few : (u : Fof) → f ≡ F.Not u → d + binder_count f < n → d + binder_count u < n
  not_few u e l = subst (λ k. d + k < n) (ap binder_count e ∙ sound.binder_count-not u) l

  pub and_few : (us : List Fof) → f ≡ F.And us → d + binder_count f < n
      → d + sum (map binder_count us) < n
  and_few us e l = subst (λ k. d + k < n) (ap binder_count e ∙ sound.binder_count-and us) l

  pub or_few : (us : List Fof) → f ≡ F.Or us → d + binder_count f < n
      → d + sum (map binder_count us) < n
  or_few us e l = subst (λ k. d + k < n) (ap binder_count e ∙ sound.binder_count-or us) l

  pub implies_few : (u v : Fof) → f ≡ F.Implies u v → d + binder_count f < n
      → (d + binder_count u < n) × (d + binder_count v < n)
  implies_few u v e l =
      let both : d + (binder_count u + binder_count v) < n =
      subst (λ k. d + k < n) (ap binder_count e ∙ sound.binder_count-implies u v) l in
      (omega arith, omega arith)

  pub for_all_few : (u : Fof) → f ≡ F.ForAll u → d + binder_count f < n
      → d + (binder_count u + 1) < n
  for_all_few u e l = subst (λ k. d + k < n) (ap binder_count e ∙ sound.binder_count-for_all u) l

  pub exists_few : (u : Fof) → f ≡ F.Exists u → d + binder_count f < n
      → d + (binder_count u + 1) < n
  exists_few u e l = subst (λ k. d + k < n) (ap binder_count e ∙ sound.binder_count-exists u) l

count_within : (us : List Fof) (i : ℕ) (u : Fof) → i < length us → u ≡ get_or us i u
    → binder_count u ≤ sum (map binder_count us)
count_within [] i u l e = absurd (omega arith)
count_within (x ∷ us) zero u l e =
    let counts = sum_by-cons (λ n. n) (binder_count x) (map binder_count us) in
    let same : binder_count u ≡ binder_count x = ap binder_count e in
    omega (arith, counts, same)
count_within (x ∷ us) (suc i) u l e =
    let counts = sum_by-cons (λ n. n) (binder_count x) (map binder_count us) in
    let rest = count_within us i u (omega arith) e in
    omega (arith, counts, rest)

pub one_few : (d n : ℕ) (us : List Fof) (i : ℕ) (u : Fof) → i < length us → u ≡ get_or us i u
    → d + sum (map binder_count us) < n → d + binder_count u < n
one_few d n us i u l e h = let within = count_within us i u l e in omega arith

-- each formula has fewer binders than a u32 counts
abbrev pub HaveFew : List FofFormula → Type 0
HaveFew fs = AllByRecursion (λ (f : FofFormula). binder_count f.body < 2 ^ 32) fs

pub entry_few : (fs : List FofFormula) (i : ℕ) (f : FofFormula) → i < length fs → f ≡ get_or fs i f
    → HaveFew fs → binder_count f.body < 2 ^ 32
entry_few [] i f l e h = absurd (omega arith)
entry_few (x ∷ fs) zero f l e h =
    subst (λ (z : FofFormula). binder_count z.body < 2 ^ 32) (sym e) h.0
entry_few (x ∷ fs) (suc i) f l e h = entry_few fs i f (omega arith) e h.1

pub sound_few : (p : FofProblem) → IsSound p → HaveFew p.formulas
sound_few p s = go p.formulas s.formulas
  where
    go : (fs : List FofFormula) → AllByRecursion (IsSoundFormula p.signature) fs → HaveFew fs
    go [] h = tt
    go (f ∷ fs) h = let few = h.0.binders in (omega arith, go fs h.1)
