-- The places of constructors and symbols, as a table finds them.
use Rattle.std.proofs.Common.{◌≡◌, ℕ, ◌==◌, false, List, Option, Some, None, Ok, Err, refl, sym, ap, ◌∙◌, subst, option_map}
use Rattle.tf_core.specs.declared.signature.Constructor.{Constructor}
use Rattle.tf_core.specs.declared.signature.Signature.{Signature}
use Rattle.tf_check.specs.declared.error.TypeError.TheVariants.{UnknownType, Arity}
use Rattle.tf_check.specs.Answers.{Answers}
use Rattle.tf_check.specs.Types.{constructor_named, constructor_place}
use Rattle.tf_check.specs.Table.{constructor_at}
use Rattle.tf_check.specs.Visited.{good, expect, ◌>>◌}
use Rattle.tf_check.proofs.AnswerLemmas.{answers-good, answers-bad, answers-then, answers-then_stop, answers-pass, answers-fail}
use Rattle.tf_check.proofs.SameLemmas.{equal_test}

-- what the search for a constructor found
pub at_place : (g : Signature) (name : List ℕ) (place arity : ℕ) →
    Some (place, arity) ≡ option_map constructor_at (constructor_named name g.constructors) →
    (constructor : Constructor) × (constructor_named name g.constructors ≡ Some (place, constructor))
    × (constructor.arity ≡ arity)
at_place g name place arity is = by (constructor_named name g.constructors) refl is
  where
    by : (at : Option (ℕ × Constructor)) → constructor_named name g.constructors ≡ at →
        Some (place, arity) ≡ option_map constructor_at at →
        (constructor : Constructor) × (constructor_named name g.constructors ≡ Some (place, constructor))
        × (constructor.arity ≡ arity)
    by None named same = cc
    by (Some (p, constructor)) named same =
        let pair : ℕ × ℕ = (place, arity) in
        let other : ℕ × ℕ = (p, constructor.arity) in
        let equal : pair ≡ other = cc in
        let first : place ≡ p = ap (λ (b : ℕ × ℕ). b.0) equal in
        let second : arity ≡ constructor.arity = ap (λ (b : ℕ × ℕ). b.1) equal in
        (constructor, named ∙ ap (λ k. Some (k, constructor)) (sym first), sym second)

pub no_place : (g : Signature) (name : List ℕ) →
    None ≡ option_map constructor_at (constructor_named name g.constructors) →
    constructor_named name g.constructors ≡ None
no_place g name is = by (constructor_named name g.constructors) is
  where
    by : (at : Option (ℕ × Constructor)) → None ≡ option_map constructor_at at → at ≡ None
    by None same = refl
    by (Some at) same = cc

module _ (entry : ℕ) (name : List ℕ) (count : ℕ) (g : Signature) where
  pub place_unknown : None ≡ option_map constructor_at (constructor_named name g.constructors) →
      Answers (constructor_place entry name count (constructor_named name g.constructors))
      (Err (UnknownType entry name))
  place_unknown is = rw (no_place g name is) (answers-bad (UnknownType entry name) 0)

  pub place_given : (place arity : ℕ) →
      Some (place, arity) ≡ option_map constructor_at (constructor_named name g.constructors) →
      arity ≡ count →
      Answers (constructor_place entry name count (constructor_named name g.constructors)) (Ok place)
  place_given place arity is same =
      let at = at_place g name place arity is in
      rw at.1
      (answers-then (expect (at.0.arity == count) (Arity entry name at.0.arity count)) (good place)
      (Ok place)
      (answers-pass (at.0.arity == count) (Arity entry name at.0.arity count)
      (equal_test at.0.arity count (at.2 ∙ same)))
      (answers-good place))

  pub place_arity : (place arity : ℕ) →
      Some (place, arity) ≡ option_map constructor_at (constructor_named name g.constructors) →
      (arity == count) ≡ false →
      Answers (constructor_place entry name count (constructor_named name g.constructors))
      (Err (Arity entry name arity count))
  place_arity place arity is differs =
      let at = at_place g name place arity is in
      rw at.1
      (subst (λ n. Answers (expect (n == count) (Arity entry name n count) >> good place)
      (Err (Arity entry name arity count))) (sym at.2)
      (answers-then_stop (expect (arity == count) (Arity entry name arity count)) (good place)
      (Arity entry name arity count)
      (answers-fail (arity == count) (Arity entry name arity count) differs)))
