-- What a table finds for the name of a symbol.
use Rattle.std.proofs.Common.{◌≡◌, ℕ, Bool, true, false, List, [], ◌∷◌, ◌+◌, bytes_eq, Option, Some, None, option_map, is_some, refl, sym, ap, ◌∙◌, subst, if◌then◌else◌}
use Rattle.tf_core.specs.declared.signature.Signature.{Signature}
use Rattle.tf_check.specs.Types.{constructor_named, found}
use Rattle.tf_check.specs.Signature.{symbol_named, symbol_among}
use Rattle.tf_check.specs.Table.{constructor_at}

pub is_some-map : {A B : Type 0} (f : A → B) (at : Option A) → is_some (option_map f at) ≡ is_some at
is_some-map f None = refl
is_some-map f (Some a) = refl

-- a name that is no constructor
pub is_symbol : (g : Signature) (name : List ℕ) (answer : Bool) →
    answer ≡ is_some (option_map constructor_at (constructor_named name g.constructors)) → answer
    ≡ false →
    symbol_named name g ≡ symbol_among name g.symbols
is_symbol g name answer is fails =
    let test : is_some (constructor_named name g.constructors) ≡ false =
    sym (is_some-map constructor_at (constructor_named name g.constructors)) ∙ sym is ∙ fails in
    ap (λ (b : Bool). if b then None else symbol_among name g.symbols) test

-- the name of the item that is found
pub found_named : {A : Type 0} (name_of : A → List ℕ) (name : List ℕ) (items : List A) (i : ℕ)
    (x : A) →
    found name_of name items ≡ Some (i, x) → bytes_eq name (name_of x) ≡ true
found_named name_of name [] i x is = cc
found_named {A = A} name_of name (item ∷ items) i x is =
    by (bytes_eq name (name_of item)) (found name_of name items) refl
    (λ p y same. found_named name_of name items p y same) is
  where
    chosen : Bool → Option (ℕ × A) → Option (ℕ × A)
    chosen same rest = if same then Some (0, item) else option_map (λ at. (at.0 + 1, at.1)) rest

    by : (same : Bool) (rest : Option (ℕ × A)) → bytes_eq name (name_of item) ≡ same →
        ((p : ℕ) (y : A) → rest ≡ Some (p, y) → bytes_eq name (name_of y) ≡ true) →
        chosen same rest ≡ Some (i, x) → bytes_eq name (name_of x) ≡ true
    by true rest tested below same =
        let here : ℕ × A = (0, item) in
        let equal : here ≡ (i, x) = cc in
        let value : item ≡ x = ap (λ (b : ℕ × A). b.1) equal in
        subst (λ z. bytes_eq name (name_of z) ≡ true) value tested
    by false None tested below same = cc
    by false (Some (p, y)) tested below same =
        let here : ℕ × A = (p + 1, y) in
        let equal : here ≡ (i, x) = cc in
        let value : y ≡ x = ap (λ (b : ℕ × A). b.1) equal in
        subst (λ z. bytes_eq name (name_of z) ≡ true) value (below p y refl)
