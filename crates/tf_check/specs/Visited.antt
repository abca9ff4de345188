-- What a visit of a part of a file gives: what the part stands for, and the faults that are met on
-- the way, in order. Where there is a fault, only the first counts, and the value means nothing.
use Rattle.std.specs.Prelude.{Bool, true, false, List, [], ◌∷◌, ◌++◌}
use Rattle.tf_check.specs.declared.error.TypeError.{TypeError}

pub record Visited (A : Type 0) : Type 0 where
  pub value : A
  pub faults : List TypeError

-- no fault
unfoldable pub good : {A : Type 0} → A → Visited A
good a = record { value = a; faults = [] }

-- a fault, with some value in its place
unfoldable pub bad : {A : Type 0} → TypeError → A → Visited A
bad fault a = record { value = a; faults = fault ∷ [] }

-- a fault where the test fails
unfoldable pub expect : Bool → TypeError → Visited (Unit {0})
expect true fault = good tt
expect false fault = bad fault tt

infixl 10 ◌>>=◌
-- one visit, and then another by what the first gave
unfoldable pub ◌>>=◌ : {A B : Type 0} → Visited A → (A → Visited B) → Visited B
first >>= next =
    record { value = (next first.value).value; faults = first.faults ++ (next first.value).faults }

infixl 10 ◌>>◌
unfoldable pub ◌>>◌ : {B : Type 0} → Visited (Unit {0}) → Visited B → Visited B
first >> next = record { value = next.value; faults = first.faults ++ next.faults }

-- visits one after another
unfoldable pub in_turn : {A : Type 0} → List (Visited A) → Visited (List A)
in_turn [] = good []
in_turn (first ∷ rest) = do
  a ← first
  more ← in_turn rest
  good (a ∷ more)
