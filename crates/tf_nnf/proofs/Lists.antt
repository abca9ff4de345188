-- Lists, mapped and summed.
use Rattle.std.proofs.Common.{ℕ, ◌+◌, ◌≡◌, List, [], ◌∷◌, map, sum, refl, sym, ap, ◌∙◌, subst}
use Rattle.std.specs.Prelude.{Result, IfOk}
use Rattle.std.specs.List.{sum_by}
use Rattle.std.proofs.lemmas.List.Sums.{sum_by-cons}

pub map-map : {A B C : Type 0} (f : B → C) (g : A → B) (items : List A) →
    map f (map g items) ≡ map (λ (item : A). f (g item)) items
map-map f g [] = refl
map-map f g (item ∷ items) = ap (λ rest. f (g item) ∷ rest) (map-map f g items)

pub sum_by-map : {A B : Type 0} (f : B → ℕ) (g : A → B) (items : List A) →
    sum_by f (map g items) ≡ sum_by (λ (item : A). f (g item)) items
sum_by-map f g [] = refl
sum_by-map {A = A} f g (item ∷ items) =
    sum_by-cons f (g item) (map g items)
    ∙ ap (λ n. f (g item) + n) (sum_by-map f g items)
    ∙ sym (sum_by-cons (λ (x : A). f (g x)) item items)

pub sum-map : {A : Type 0} (f : A → ℕ) (items : List A) → sum (map f items) ≡ sum_by f items
sum-map f items = sum_by-map (λ (n : ℕ). n) f items

-- what a call gave, by an equal value
pub ok_same : {A E : Type 0} {x y : A} (r : Result A E) → IfOk r (λ (z : A). z ≡ x) → x ≡ y →
    IfOk r (λ (z : A). z ≡ y)
ok_same r given same = subst (λ v. IfOk r (λ z. z ≡ v)) same given
