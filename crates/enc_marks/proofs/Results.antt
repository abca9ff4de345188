-- What calls gave.
use Rattle.std.specs.Prelude.{◌≡◌, Result, Ok, Err, IfOk, OnOk}
use Rattle.std.proofs.Common.{subst}

-- a call that gave something, and what follows from what it promised
pub on_ok : {T E P Q : Type 0} (r : Result T E) → (P → Q) → OnOk r P → OnOk r Q
on_ok (Ok x) follows promised = follows promised
on_ok (Err e) follows promised = tt

-- what a call gave, by an equal value
pub ok_same : {A E : Type 0} {x y : A} (r : Result A E) → IfOk r (λ (z : A). z ≡ x) → x ≡ y →
    IfOk r (λ (z : A). z ≡ y)
ok_same r given same = subst (λ v. IfOk r (λ z. z ≡ v)) same given

-- a call that gave something, and what follows of it from what was promised of it
pub ok_with : {A E : Type 0} {P Q : A → Type 0} (r : Result A E) → ((x : A) → P x → Q x) →
    IfOk r P → IfOk r Q
ok_with (Ok x) follows promised = follows x promised
ok_with (Err e) follows promised = tt
