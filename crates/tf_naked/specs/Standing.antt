-- Where the variables of a formula stand: at which positions, and under which binders.
use Rattle.std.specs.Prelude.{ℕ, ◌+◌, Bool, true, false, ◌&&◌, ◌||◌, List, [], ◌∷◌, map, eqb}
use Rattle.std.specs.Prelude.{get_or, slice_get}
use Rattle.std.specs.List.{list_any}
use Rattle.tf_core.specs.declared.term.Term.{Term}
use Rattle.tf_core.specs.declared.term.Term.TheOpen.{Term-F}
use Rattle.tf_core.specs.declared.term.Term.TheOpen as term
use Rattle.tf_core.specs.declared.term.Term.TheFolds.{fold-Term}
use Rattle.tf_core.specs.declared.nnf.Nnf.{Nnf}
use Rattle.tf_core.specs.declared.nnf.Nnf.TheOpen.{Nnf-F}
use Rattle.tf_core.specs.declared.nnf.Nnf.TheOpen as layer
use Rattle.tf_core.specs.declared.nnf.Nnf.TheFolds.{fold-Nnf}
use Rattle.tf_core.specs.declared.signature.Signature.{Signature}
use Rattle.tf_naked.specs.declared.position.Position.{Position}
use Rattle.tf_naked.specs.declared.position.Position.TheVariants.{Argument, Side}
use Rattle.tf_naked.specs.declared.position.Kind.{Kind}
use Rattle.tf_naked.specs.declared.position.Kind.TheVariants.{Universal, Existential, Applied}
use Rattle.tf_naked.specs.Covers.{covers_of}

-- a cover, or a side of a positive equation
abbrev pub is_covering : Position → Bool
is_covering (Argument cover) = cover
is_covering (Side positive) = positive

-- a side of a positive equation
abbrev pub is_positive_side : Position → Bool
is_positive_side (Argument cover) = false
is_positive_side (Side positive) = positive

abbrev pub is_variable : Kind → Bool
is_variable Universal = true
is_variable Existential = true
is_variable Applied = false

abbrev pub is_universal : Kind → Bool
is_universal Universal = true
is_universal Existential = false
is_universal Applied = false

abbrev pub kind_step : List Kind → Term-F Kind → Kind
kind_step kinds (term.Var i) = get_or kinds i Universal
kind_step kinds (term.Apply f types terms) = Applied

-- what a term is under binders of these kinds, the nearest first
unfoldable pub kind_of : List Kind → Term → Kind
kind_of kinds = fold-Term Kind (kind_step kinds)

-- Of each variable: whether a term is that variable, and whether the variable stands inside the
-- term at a position that passes a test.
pub record Standing : Type 0 where
  pub here : ℕ → Bool
  pub inside : ℕ → Bool

-- whether a variable stands at a position that passes, in terms at argument places, covers or not
abbrev pub stands_in_arguments : (Position → Bool) → List Bool → List Standing → ℕ → Bool
stands_in_arguments test [] terms i = false
stands_in_arguments test (cover ∷ covers) [] i = false
stands_in_arguments test (cover ∷ covers) (t ∷ terms) i =
    (test (Argument cover) && t.here i) || (t.inside i || stands_in_arguments test covers terms i)

-- whether it does in the terms to which the f-th symbol is applied
abbrev pub stands_in_application : Signature → (Position → Bool) → ℕ → List Standing → ℕ → Bool
stands_in_application g test f terms i =
    stands_in_arguments test (covers_of (slice_get g.symbols f)) terms i

-- whether it does in a side of an equation
abbrev pub stands_in_side : (Position → Bool) → Bool → Standing → ℕ → Bool
stands_in_side test positive t i = (test (Side positive) && t.here i) || t.inside i

abbrev pub standing_step : Signature → (Position → Bool) → Term-F Standing → Standing
standing_step g test (term.Var n) = record { here = λ i. eqb n i; inside = λ i. false }
standing_step g test (term.Apply f types terms) =
    record { here = λ i. false; inside = stands_in_application g test f terms }

-- where variables stand in a term
unfoldable pub standing : Signature → (Position → Bool) → Term → Standing
standing g test = fold-Term Standing (standing_step g test)

abbrev pub stands_step : Signature → (Position → Bool) → Nnf-F (ℕ → Bool) → ℕ → Bool
stands_step g test layer.True i = false
stands_step g test layer.False i = false
stands_step g test (layer.Atom positive f types terms) i =
    stands_in_application g test f (map (standing g test) terms) i
stands_step g test (layer.Equation positive ty left right) i =
    stands_in_side test positive (standing g test left) i
    || stands_in_side test positive (standing g test right) i
stands_step g test (layer.And parts) i = list_any (λ part. part i) parts
stands_step g test (layer.Or parts) i = list_any (λ part. part i) parts
stands_step g test (layer.ForAll ty body) i = body (i + 1)
stands_step g test (layer.Exists ty body) i = body (i + 1)

-- whether the variable of the i-th enclosing binder stands in a formula at a position that passes
unfoldable pub stands : Signature → (Position → Bool) → Nnf → ℕ → Bool
stands g test = fold-Nnf (ℕ → Bool) (stands_step g test)

-- A universal variable, of a binder round this formula, is undercover: it stands at a cover or at a
-- naked place.
abbrev pub is_undercover : Signature → Nnf → Bool
is_undercover g body = stands g is_covering body 0

-- it is naked: it stands at a naked place
abbrev pub is_naked : Signature → Nnf → Bool
is_naked g body = stands g is_positive_side body 0
