-- What answers say of visits that are made of others.
use Rattle.std.proofs.Common.{◌≡◌, ℕ, zero, suc, ◌+◌, ◌<◌, Bool, true, false, List, [], ◌∷◌, ◌++◌, length, map, take, drop, get_or, slice_get, Some, Result, Ok, Err, IsErr, IsErrAnd, refl, sym, ap, ◌∙◌, subst, arith}
use Rattle.std.proofs.lemmas.Bool.{false≢true}
use Rattle.tf_check.specs.declared.error.TypeError.{TypeError}
use Rattle.tf_check.specs.declared.error.TypeError.TheVariants.{Memory}
use Rattle.tf_check.specs.Visited.{Visited, good, bad, expect, in_turn, ◌>>=◌, ◌>>◌}
use Rattle.tf_check.proofs.VisitLemmas as v
use Rattle.tf_check.specs.Answers.{Answers, IsFirst, appended}

pub answers-good : {A : Type 0} (a : A) → Answers (good a) (Ok a)
unfolding good
answers-good a = record { exact = (refl, refl); refused = tt }

pub answers-bad : {A : Type 0} (fault : TypeError) (a : A) → Answers (bad fault a) (Err fault)
unfolding bad
answers-bad fault a = record { exact = tt; refused = λ other. refl }

pub answers-memory : {A : Type 0} (visit : Visited A) → Answers visit (Err Memory)
answers-memory visit = record { exact = tt; refused = λ other. absurd (other refl) }

-- the first fault stays the first
pub first_stays : (faults others : List TypeError) (fault : TypeError) → IsFirst faults fault →
    IsFirst (faults ++ others) fault
first_stays [] others fault first = λ other. absurd (impossible (first other))
  where
    impossible : slice_get {X = TypeError} [] 0 ≡ Some fault → ⊥
    impossible is = cc
first_stays (x ∷ faults) others fault first = λ other. first other

pub answers-bind : {A B : Type 0} (first : Visited A) (next : A → Visited B) (a : A)
    (answer : Result B TypeError) → Answers first (Ok a) → Answers (next a) answer →
    Answers (first >>= next) answer
unfolding ◌>>=◌
answers-bind first next a (Ok b) one two =
    let second : Answers (next first.value) (Ok b) =
    subst (λ x. Answers (next x) (Ok b)) (sym one.exact.1) two in
    record {
      exact = (ap (λ xs. xs ++ (next first.value).faults) one.exact.0 ∙ second.exact.0, second.exact.1);
      refused = tt;
    }
answers-bind first next a (Err fault) one two =
    let second : Answers (next first.value) (Err fault) =
    subst (λ x. Answers (next x) (Err fault)) (sym one.exact.1) two in
    record {
      exact = tt;
      refused = subst (λ xs. IsFirst (xs ++ (next first.value).faults) fault) (sym one.exact.0)
          second.refused;
    }

pub answers-stop : {A B : Type 0} (first : Visited A) (next : A → Visited B) (fault : TypeError) →
    Answers first (Err fault) → Answers (first >>= next) (Err fault)
unfolding ◌>>=◌
answers-stop first next fault one =
    record {
      exact = tt;
      refused = first_stays first.faults (next first.value).faults fault one.refused;
    }

pub answers-then : {B : Type 0} (first : Visited (Unit {0})) (next : Visited B)
    (answer : Result B TypeError) → Answers first (Ok tt) → Answers next answer →
    Answers (first >> next) answer
unfolding ◌>>◌
answers-then first next (Ok b) one two =
    record {
      exact = (ap (λ xs. xs ++ next.faults) one.exact.0 ∙ two.exact.0, two.exact.1);
      refused = tt;
    }
answers-then first next (Err fault) one two =
    record {
      exact = tt;
      refused = subst (λ xs. IsFirst (xs ++ next.faults) fault) (sym one.exact.0) two.refused;
    }

pub answers-then_stop : {B : Type 0} (first : Visited (Unit {0})) (next : Visited B)
    (fault : TypeError) → Answers first (Err fault) → Answers (first >> next) (Err fault)
unfolding ◌>>◌
answers-then_stop first next fault one =
    record { exact = tt; refused = first_stays first.faults next.faults fault one.refused }

pub answers-pass : (test : Bool) (fault : TypeError) → test ≡ true →
    Answers (expect test fault) (Ok tt)
unfolding expect
answers-pass true fault holds = answers-good tt
answers-pass false fault holds = absurd (false≢true holds)

pub answers-fail : (test : Bool) (fault : TypeError) → test ≡ false →
    Answers (expect test fault) (Err fault)
unfolding expect
answers-fail true fault fails = absurd (false≢true (sym fails))
answers-fail false fault fails = answers-bad fault tt

-- a test that fails, and its fault or want of memory
pub answers-failed : (test : Bool) (fault error : TypeError) → test ≡ false →
    IsFirst (fault ∷ []) error → Answers (expect test fault) (Err error)
unfolding expect bad
answers-failed true fault error fails first = absurd (false≢true (sym fails))
answers-failed false fault error fails first = record { exact = tt; refused = first }

-- ---- in turn

pub answers-none : {A : Type 0} → Answers (in_turn {A = A} []) (Ok [])
unfolding in_turn
answers-none = answers-good []

pub answers-more : {A : Type 0} (first : Visited A) (rest : List (Visited A)) (a : A) (more : List A) →
    Answers first (Ok a) → Answers (in_turn rest) (Ok more) →
    Answers (in_turn (first ∷ rest)) (Ok (a ∷ more))
unfolding in_turn
answers-more first rest a more one others =
    answers-bind first (λ x. in_turn rest >>= λ xs. good (x ∷ xs)) a (Ok (a ∷ more)) one
    (answers-bind (in_turn rest) (λ xs. good (a ∷ xs)) more (Ok (a ∷ more)) others
    (answers-good (a ∷ more)))

answers-behind : {A : Type 0} (first : Visited A) (rest : List (Visited A)) (a : A) (fault : TypeError) →
    Answers first (Ok a) → Answers (in_turn rest) (Err fault) →
    Answers (in_turn (first ∷ rest)) (Err fault)
unfolding in_turn
answers-behind first rest a fault one others =
    answers-bind first (λ x. in_turn rest >>= λ xs. good (x ∷ xs)) a (Err fault) one
    (answers-stop (in_turn rest) (λ xs. good (a ∷ xs)) fault others)

answers-here : {A : Type 0} (first : Visited A) (rest : List (Visited A)) (fault : TypeError) →
    Answers first (Err fault) → Answers (in_turn (first ∷ rest)) (Err fault)
unfolding in_turn
answers-here first rest fault one =
    answers-stop first (λ x. in_turn rest >>= λ xs. good (x ∷ xs)) fault one

-- the parts of an answer of several
parts-more : {A : Type 0} (first : Visited A) (rest : List (Visited A)) (all : List A) →
    Answers (in_turn (first ∷ rest)) (Ok all) →
    Answers first (Ok first.value) × Answers (in_turn rest) (Ok (in_turn rest).value)
    × (all ≡ first.value ∷ (in_turn rest).value)
unfolding in_turn ◌>>=◌ good
parts-more first rest all answers =
    let parts = v.empty_parts first.faults ((in_turn rest).faults ++ []) answers.exact.0 in
    let back = v.empty_parts (in_turn rest).faults [] parts.1 in (
      record { exact = (parts.0, refl); refused = tt },
      record { exact = (back.0, refl); refused = tt },
      sym answers.exact.1,
    )

-- one more part, behind those that are done
pub answers-push : {A : Type 0} (done : List (Visited A)) (next : Visited A) (all : List A) (a : A) →
    Answers (in_turn done) (Ok all) → Answers next (Ok a) →
    Answers (in_turn (done ++ next ∷ [])) (Ok (all ++ a ∷ []))
unfolding in_turn good
answers-push [] next all a before one =
    let none : [] ≡ all = before.exact.1 in
    subst (λ xs. Answers (in_turn (next ∷ [])) (Ok (xs ++ a ∷ []))) none
    (answers-more next [] a [] one answers-none)
answers-push (first ∷ done) next all a before one =
    let parts = parts-more first done all before in
    subst (λ xs. Answers (in_turn (first ∷ (done ++ next ∷ []))) (Ok (xs ++ a ∷ []))) (sym parts.2)
    (answers-more first (done ++ next ∷ []) first.value ((in_turn done).value ++ a ∷ []) parts.0
    (answers-push done next (in_turn done).value a parts.1 one))

-- a fault behind those that are done
pub answers-in_turn_stop : {A : Type 0} (done : List (Visited A)) (next : Visited A)
    (rest : List (Visited A)) (all : List A) (fault : TypeError) → Answers (in_turn done) (Ok all) →
    Answers next (Err fault) → Answers (in_turn (done ++ next ∷ rest)) (Err fault)
answers-in_turn_stop [] next rest all fault before one = answers-here next rest fault one
answers-in_turn_stop (first ∷ done) next rest all fault before one =
    let parts = parts-more first done all before in
    answers-behind first (done ++ next ∷ rest) first.value fault parts.0
    (answers-in_turn_stop done next rest (in_turn done).value fault parts.1 one)

-- ---- loops over the items of a list

-- the items up to an index, the item there, and those behind it
pub split_at : {A X : Type 0} (f : X → A) (xs : List X) (i : ℕ) (x : X) → i < length xs →
    x ≡ get_or xs i x → map f xs ≡ map f (take i xs) ++ f x ∷ map f (drop (i + 1) xs)
split_at f [] i x within is = absurd (omega arith)
split_at f (y ∷ xs) zero x within is = ap (λ z. f z ∷ map f xs) (sym is)
split_at f (y ∷ xs) (suc i) x within is =
    let next : suc i + 1 ≡ suc (i + 1) = omega arith in
    subst (λ k. map f (y ∷ xs) ≡ map f (take (suc i) (y ∷ xs)) ++ f x ∷ map f (drop k (y ∷ xs)))
    (sym next) (ap (λ zs. f y ∷ zs) (split_at f xs i x (omega arith) is))

-- the items up to the next index
pub taken_next : {A X : Type 0} (f : X → A) (xs : List X) (i : ℕ) (x : X) → i < length xs →
    x ≡ get_or xs i x → map f (take (i + 1) xs) ≡ map f (take i xs) ++ f x ∷ []
taken_next f [] i x within is = absurd (omega arith)
taken_next f (y ∷ xs) zero x within is = ap (λ z. f z ∷ []) (sym is)
taken_next f (y ∷ xs) (suc i) x within is =
    let next : suc i + 1 ≡ suc (i + 1) = omega arith in
    subst (λ k. map f (take k (y ∷ xs)) ≡ map f (take (suc i) (y ∷ xs)) ++ f x ∷ []) (sym next)
    (ap (λ zs. f y ∷ zs) (taken_next f xs i x (omega arith) is))

module _ {A X : Type 0} (visit : X → Visited A) where
  pub answers-next : (xs : List X) (i : ℕ) (x : X) (all : List A) (a : A) → i < length xs →
      x ≡ get_or xs i x → Answers (in_turn (map visit (take i xs))) (Ok all) → Answers (visit x) (Ok a) →
      Answers (in_turn (map visit (take (i + 1) xs))) (Ok (all ++ a ∷ []))
  answers-next xs i x all a within is before one =
      rw (taken_next visit xs i x within is)
      (answers-push (map visit (take i xs)) (visit x) all a before one)

  pub answers-break : (xs : List X) (i : ℕ) (x : X) (all : List A) (fault : TypeError) → i < length xs →
      x ≡ get_or xs i x → Answers (in_turn (map visit (take i xs))) (Ok all) →
      Answers (visit x) (Err fault) → Answers (in_turn (map visit xs)) (Err fault)
  answers-break xs i x all fault within is before one =
      rw (split_at visit xs i x within is)
      (answers-in_turn_stop (map visit (take i xs)) (visit x) (map visit (drop (i + 1) xs)) all fault
      before one)

-- an error that is handed on
pub answers-on : {A : Type 0} (visit : Visited A) (result : Result A TypeError) (fault : TypeError) →
    IsErr result × IsErrAnd result (λ error. error ≡ fault) → Answers visit (Err fault) →
    Answers visit result
answers-on visit (Ok a) fault on answers = absurd on.1
answers-on visit (Err error) fault on answers = subst (λ e. Answers visit (Err e)) (sym on.1) answers

-- ---- what is appended

pub appended-none : {A : Type 0} (front : List A) (visit : Visited (List A)) (fault : TypeError) →
    Answers visit (Err fault) → Answers (appended front visit) (Err fault)
appended-none front visit fault answers = answers-stop visit (λ back. good (front ++ back)) fault answers
