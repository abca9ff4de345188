-- What a walk through a formula notes of the variables of the binders that are open round it.
use Rattle.std.specs.Prelude.{ℕ, ◌+◌, Bool, false, ◌&&◌, ◌||◌, List, [], ◌∷◌, map, slice_get}
use Rattle.std.specs.List.{list_any}
use Rattle.tf_core.specs.declared.term.Term.{Term}
use Rattle.tf_core.specs.declared.nnf.Nnf.{Nnf}
use Rattle.tf_core.specs.declared.signature.Signature.{Signature}
use Rattle.tf_naked.specs.declared.binder.Binder.{Binder}
use Rattle.tf_naked.specs.declared.position.Position.{Position}
use Rattle.tf_naked.specs.Covers.{covers_of}
use Rattle.tf_naked.specs.Standing.{is_covering, is_positive_side, standing, stands}
use Rattle.tf_naked.specs.Standing.{stands_in_arguments}

-- a variable that stands nowhere
abbrev pub unused : Binder
unused = record { undercover = false; naked = false }

-- a variable that stands where either does
abbrev pub either : Binder → Binder → Binder
either binder other =
    record {
      undercover = binder.undercover || other.undercover;
      naked = binder.naked || other.naked;
    }

-- open binders, the nearest first, after it is noted how the variable of each stands
abbrev pub noted : (ℕ → Binder) → List Binder → List Binder
noted uses [] = []
noted uses (binder ∷ binders) = either binder (uses 0) ∷ noted (λ i. uses (i + 1)) binders

-- a term that is the variable n, in its position
abbrev pub uses_of_variable : Position → Bool → Binder
uses_of_variable position here =
    record {
      undercover = is_covering position && here;
      naked = is_positive_side position && here;
    }

-- whether a variable stands in a term in its position, or is the term, where that passes a test
abbrev pub stands_at : Signature → (Position → Bool) → Position → Term → ℕ → Bool
stands_at g test position t i =
    (test position && (standing g test t).here i) || (standing g test t).inside i

-- how each variable stands in a term in its position
abbrev pub uses_at : Signature → Position → Term → ℕ → Binder
uses_at g position t i =
    record {
      undercover = stands_at g is_covering position t i;
      naked = stands_at g is_positive_side position t i;
    }

-- how each stands in terms at argument places, covers or not
abbrev pub uses_in_arguments : Signature → List Bool → List Term → ℕ → Binder
uses_in_arguments g covers terms i =
    record {
      undercover = stands_in_arguments is_covering covers (map (standing g is_covering) terms) i;
      naked =
          stands_in_arguments is_positive_side covers (map (standing g is_positive_side) terms) i;
    }

-- how each stands in the terms to which the f-th symbol is applied
abbrev pub uses_in_application : Signature → ℕ → List Term → ℕ → Binder
uses_in_application g f terms = uses_in_arguments g (covers_of (slice_get g.symbols f)) terms

-- how each stands in a formula
abbrev pub uses_in : Signature → Nnf → ℕ → Binder
uses_in g p i =
    record { undercover = stands g is_covering p i; naked = stands g is_positive_side p i }

-- how each stands in some of the formulas
abbrev pub uses_in_parts : Signature → List Nnf → ℕ → Binder
uses_in_parts g parts i =
    record {
      undercover = list_any (λ part. stands g is_covering part i) parts;
      naked = list_any (λ part. stands g is_positive_side part i) parts;
    }
