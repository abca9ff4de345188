-- What visits give: a value without a fault.
use Rattle.std.proofs.Common.{◌≡◌, Bool, true, false, if◌then◌else◌, List, [], ◌∷◌, ◌++◌, refl, sym, ap, ◌∙◌, subst}
use Rattle.std.proofs.lemmas.Bool.{false≢true}
use Rattle.tf_check.specs.declared.error.TypeError.{TypeError}
use Rattle.tf_check.specs.Visited.{Visited, good, bad, expect, in_turn, ◌>>=◌, ◌>>◌}

-- the visit meets no fault, and gives the value
pub record Gives {A : Type 0} (visit : Visited A) (value : A) : Type 0 where
  pub clean : visit.faults ≡ []
  pub is : visit.value ≡ value

pub empty_parts : {A : Type 0} (xs ys : List A) → xs ++ ys ≡ [] → (xs ≡ []) × (ys ≡ [])
empty_parts [] ys none = (refl, none)
empty_parts (x ∷ xs) ys none = cc

-- ---- what is given

pub gives-good : {A : Type 0} (a : A) → Gives (good a) a
unfolding good
gives-good a = record { clean = refl; is = refl }

pub gives-bind : {A B : Type 0} (first : Visited A) (next : A → Visited B) (a : A) (b : B) →
    Gives first a → Gives (next a) b → Gives (first >>= next) b
unfolding ◌>>=◌
gives-bind first next a b one two =
    let second : Gives (next first.value) b = subst (λ x. Gives (next x) b) (sym one.is) two in
    record {
      clean = ap (λ xs. xs ++ (next first.value).faults) one.clean ∙ second.clean;
      is = second.is;
    }

pub gives-then : {B : Type 0} (first : Visited (Unit {0})) (next : Visited B) (b : B) →
    Gives first tt → Gives next b → Gives (first >> next) b
unfolding ◌>>◌
gives-then first next b one two =
    record { clean = ap (λ xs. xs ++ next.faults) one.clean ∙ two.clean; is = two.is }

pub gives-expect : (test : Bool) (fault : TypeError) → test ≡ true → Gives (expect test fault) tt
unfolding expect
gives-expect true fault holds = gives-good tt
gives-expect false fault holds = absurd (false≢true holds)

pub gives-none : {A : Type 0} → Gives (in_turn {A = A} []) []
unfolding in_turn
gives-none = gives-good []

pub gives-more : {A : Type 0} (first : Visited A) (rest : List (Visited A)) (a : A) (more : List A) →
    Gives first a → Gives (in_turn rest) more → Gives (in_turn (first ∷ rest)) (a ∷ more)
unfolding in_turn
gives-more first rest a more one others =
    gives-bind first (λ x. in_turn rest >>= λ xs. good (x ∷ xs)) a (a ∷ more) one
    (gives-bind (in_turn rest) (λ xs. good (a ∷ xs)) more (a ∷ more) others (gives-good (a ∷ more)))

pub gives-then_branch : {A : Type 0} (test : Bool) (chosen other : Visited A) (a : A) → test ≡ true →
    Gives chosen a → Gives (if test then chosen else other) a
gives-then_branch true chosen other a holds given = given
gives-then_branch false chosen other a holds given = absurd (false≢true holds)

pub gives-else_branch : {A : Type 0} (test : Bool) (chosen other : Visited A) (a : A) → test ≡ false →
    Gives other a → Gives (if test then chosen else other) a
gives-else_branch true chosen other a fails given = absurd (false≢true (sym fails))
gives-else_branch false chosen other a fails given = given

-- ---- what is known where there is other fault

-- the visit meets other fault
abbrev pub IsClean : {A : Type 0} → Visited A → Type 0
IsClean visit = visit.faults ≡ []

pub clean-bind : {A B : Type 0} (first : Visited A) (next : A → Visited B) → IsClean (first >>= next) →
    IsClean first × IsClean (next first.value)
unfolding ◌>>=◌
clean-bind first next none = empty_parts first.faults (next first.value).faults none

pub value-bind : {A B : Type 0} (first : Visited A) (next : A → Visited B) →
    (first >>= next).value ≡ (next first.value).value
unfolding ◌>>=◌
value-bind first next = refl

pub clean-then : {B : Type 0} (first : Visited (Unit {0})) (next : Visited B) →
    IsClean (first >> next) → IsClean first × IsClean next
unfolding ◌>>◌
clean-then first next none = empty_parts first.faults next.faults none

pub value-then : {B : Type 0} (first : Visited (Unit {0})) (next : Visited B) →
    (first >> next).value ≡ next.value
unfolding ◌>>◌
value-then first next = refl

pub value-good : {A : Type 0} (a : A) → (good a).value ≡ a
unfolding good
value-good a = refl

pub clean-expect : (test : Bool) (fault : TypeError) → IsClean (expect test fault) → test ≡ true
unfolding expect bad
clean-expect true fault none = refl
clean-expect false fault none = cc

pub not_clean-bad : {A : Type 0} (fault : TypeError) (a : A) → IsClean (bad fault a) → ⊥
unfolding bad
not_clean-bad fault a none = cc

pub clean-more : {A : Type 0} (first : Visited A) (rest : List (Visited A)) →
    IsClean (in_turn (first ∷ rest)) → IsClean first × IsClean (in_turn rest)
unfolding in_turn
clean-more first rest none =
    let parts = clean-bind first (λ x. in_turn rest >>= λ xs. good (x ∷ xs)) none in
    (parts.0, (clean-bind (in_turn rest) (λ xs. good (first.value ∷ xs)) parts.1).0)

pub value-more : {A : Type 0} (first : Visited A) (rest : List (Visited A)) →
    (in_turn (first ∷ rest)).value ≡ first.value ∷ (in_turn rest).value
unfolding in_turn
value-more first rest =
    value-bind first (λ x. in_turn rest >>= λ xs. good (x ∷ xs))
    ∙ value-bind (in_turn rest) (λ xs. good (first.value ∷ xs))
    ∙ value-good (first.value ∷ (in_turn rest).value)

pub value-none : {A : Type 0} → (in_turn {A = A} []).value ≡ []
unfolding in_turn
value-none = value-good []
