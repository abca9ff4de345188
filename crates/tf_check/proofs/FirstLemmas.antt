-- The first items of each name, gathered one by one.
use Rattle.std.proofs.Common.{◌≡◌, ℕ, suc, ◌+◌, Bool, true, false, not, List, [], ◌∷◌, ◌++◌, length, refl, sym, ap, ◌∙◌, arith, append_assoc, Option, Some, None, is_some, if◌then◌else◌, bytes_eq}
use Rattle.std.proofs.lemmas.List.{append-nil}
use Rattle.std.proofs.lemmas.List.Elements.{filter-append}
use Rattle.tf_check.specs.Signature.{first_of_each}
use Rattle.tf_check.specs.Types.{found}
use Rattle.tf_check.specs.Passes.{with_item}
use Rattle.tf_check.proofs.FoundLemmas.{found-append, name_itself, item_of, tested, others, found-others}

module _ {A : Type 0} (name_of : A → List ℕ) where
  -- ---- one more item

  -- one more item, where it is said whether its name is known
  abbrev pub kept : Bool → List A → A → List A
  kept known items item = if known then items else items ++ item ∷ []

  is_some-tested : (same : Bool) (item : A) (rest : Option (ℕ × A)) →
      is_some (tested name_of same item rest) ≡ (if same then true else is_some rest)
  is_some-tested true item rest = refl
  is_some-tested false item None = refl
  is_some-tested false item (Some at) = refl

  is_some-item_of : (at : Option (ℕ × A)) → is_some (item_of name_of at) ≡ is_some at
  is_some-item_of None = refl
  is_some-item_of (Some at) = refl

  known_among_others : (x : A) (items : List A) (y : A) → bytes_eq (name_of y) (name_of x)
      ≡ false →
      is_some (found name_of (name_of y) (others name_of x items))
      ≡ is_some (found name_of (name_of y) items)
  known_among_others x items y differs =
      sym (is_some-item_of (found name_of (name_of y) (others name_of x items)))
      ∙ ap is_some (found-others name_of (name_of y) x items differs)
      ∙ is_some-item_of (found name_of (name_of y) items)

  others-push : (x : A) (items : List A) (y : A) (same : Bool) → bytes_eq (name_of y) (name_of x)
      ≡ same →
      others name_of x (items ++ y ∷ []) ≡ others name_of x items
      ++ (if not same then y ∷ [] else [])
  others-push x items y same is =
      filter-append (λ later. not (bytes_eq (name_of later) (name_of x))) items (y ∷ [])
      ∙ ap (λ b. others name_of x items ++ (if not b then y ∷ [] else [])) is

  -- whether a name is that of an item or is known behind it
  known_behind : (x : A) (rest : List A) (y : A) (same : Bool) → bytes_eq (name_of y) (name_of x) ≡ same →
      is_some (found name_of (name_of y) (x ∷ rest))
      ≡ (if same then true else is_some (found name_of (name_of y) rest))
  known_behind x rest y same is =
      is_some-tested (bytes_eq (name_of y) (name_of x)) x (found name_of (name_of y) rest)
      ∙ ap (λ b. if b then true else is_some (found name_of (name_of y) rest)) is

  pushed : (x : A) (items : List A) (y : A) →
      x ∷ others name_of x (with_item name_of items y) ≡ with_item name_of (x ∷ others name_of x items) y
  pushed x items y =
      by (bytes_eq (name_of y) (name_of x)) (is_some (found name_of (name_of y) items)) refl refl
    where
      by : (same known : Bool) → bytes_eq (name_of y) (name_of x) ≡ same →
          is_some (found name_of (name_of y) items) ≡ known →
          x ∷ others name_of x (with_item name_of items y)
          ≡ with_item name_of (x ∷ others name_of x items) y
      by true true is there =
          ap (λ k. x ∷ others name_of x (kept k items y)) there
          ∙ sym (ap (λ b. kept b (x ∷ others name_of x items) y)
          (known_behind x (others name_of x items) y true is))
      by true false is there =
          ap (λ k. x ∷ others name_of x (kept k items y)) there
          ∙ ap (λ zs. x ∷ zs) (others-push x items y true is ∙ append-nil (others name_of x items))
          ∙ sym (ap (λ b. kept b (x ∷ others name_of x items) y)
          (known_behind x (others name_of x items) y true is))
      by false true is there =
          ap (λ k. x ∷ others name_of x (kept k items y)) there
          ∙ sym (ap (λ b. kept b (x ∷ others name_of x items) y)
          (known_behind x (others name_of x items) y false is
          ∙ known_among_others x items y is ∙ there))
      by false false is there =
          ap (λ k. x ∷ others name_of x (kept k items y)) there
          ∙ ap (λ zs. x ∷ zs) (others-push x items y false is)
          ∙ sym (ap (λ b. kept b (x ∷ others name_of x items) y)
          (known_behind x (others name_of x items) y false is
          ∙ known_among_others x items y is ∙ there))

  -- one item more
  pub first_of_each-push : (xs : List A) (y : A) →
      first_of_each name_of (xs ++ y ∷ []) ≡ with_item name_of (first_of_each name_of xs) y
  first_of_each-push [] y = refl
  first_of_each-push (x ∷ xs) y =
      ap (λ zs. x ∷ others name_of x zs) (first_of_each-push xs y)
      ∙ pushed x (first_of_each name_of xs) y

  -- ---- several items more

  abbrev pub with_items : List A → List A → List A
  with_items items [] = items
  with_items items (y ∷ ys) = with_items (with_item name_of items y) ys

  pub first_of_each-append : (xs ys : List A) →
      first_of_each name_of (xs ++ ys) ≡ with_items (first_of_each name_of xs) ys
  first_of_each-append xs [] = ap (first_of_each name_of) (append-nil xs)
  first_of_each-append xs (y ∷ ys) =
      ap (first_of_each name_of) (sym (append_assoc xs (y ∷ []) ys))
      ∙ first_of_each-append (xs ++ y ∷ []) ys
      ∙ ap (λ items. with_items items ys) (first_of_each-push xs y)

  with_item-more : (items : List A) (y : A) →
      (more : List A) × (with_item name_of items y ≡ items ++ more)
  with_item-more items y = by (is_some (found name_of (name_of y) items))
    where
      by : (known : Bool) → (more : List A) × (kept known items y ≡ items ++ more)
      by true = ([], sym (append-nil items))
      by false = (y ∷ [], refl)

  with_items-more : (items ys : List A) → (more : List A) × (with_items items ys ≡ items ++ more)
  with_items-more items [] = ([], sym (append-nil items))
  with_items-more items (y ∷ ys) =
      let one = with_item-more items y in
      let rest = with_items-more (with_item name_of items y) ys in
      (one.0 ++ rest.0, rest.1 ∙ ap (λ zs. zs ++ rest.0) one.1 ∙ append_assoc items one.0 rest.0)

  -- the first items of a front stand before the others
  pub first_of_each-front : (xs ys : List A) →
      (more : List A) × (first_of_each name_of (xs ++ ys) ≡ first_of_each name_of xs ++ more)
  first_of_each-front xs ys =
      let rest = with_items-more (first_of_each name_of xs) ys in
      (rest.0, first_of_each-append xs ys ∙ rest.1)

  -- ---- what is found of the item that is added

  pub found-last : (items : List A) (item : A) → found name_of (name_of item) items ≡ None →
      found name_of (name_of item) (items ++ item ∷ []) ≡ Some (length items, item)
  found-last [] item none = ap (λ b. tested name_of b item None) (name_itself (name_of item))
  found-last (x ∷ items) item none =
      by (bytes_eq (name_of item) (name_of x)) (found name_of (name_of item) items) refl none
      (found-last items item)
    where
      by : (same : Bool) (rest : Option (ℕ × A)) → bytes_eq (name_of item) (name_of x) ≡ same →
          tested name_of same x rest ≡ None →
          (rest ≡ None → found name_of (name_of item) (items ++ item ∷ [])
          ≡ Some (length items, item)) →
          found name_of (name_of item) (x ∷ (items ++ item ∷ [])) ≡ Some (length (x ∷ items), item)
      by true rest is none last = cc
      by false (Some at) is none last = cc
      by false None is none last =
          let size : length items + 1 ≡ suc (length items) = omega arith in
          ap (λ b. tested name_of b x (found name_of (name_of item) (items ++ item ∷ []))) is
          ∙ ap (tested name_of false x) (last refl)
          ∙ ap (λ k. Some (k, item)) size

  -- the name of an item that is added is found
  pub found-with_item : (items : List A) (item : A) →
      (at : ℕ × A) × (found name_of (name_of item) (with_item name_of items item) ≡ Some at)
  found-with_item items item = by (found name_of (name_of item) items) refl
    where
      by : (at : Option (ℕ × A)) → found name_of (name_of item) items ≡ at →
          (at : ℕ × A) × (found name_of (name_of item) (with_item name_of items item) ≡ Some at)
      by None is = (
        (length items, item),
        ap (λ k. found name_of (name_of item) (kept (is_some k) items item)) is
            ∙ found-last items item is,
      )
      by (Some at) is =
          (at, ap (λ k. found name_of (name_of item) (kept (is_some k) items item)) is ∙ is)

  -- It is found in what follows at the same place.
  pub found-with_item_more : (items : List A) (item : A) (more : List A) →
      found name_of (name_of item) (with_item name_of items item ++ more)
      ≡ found name_of (name_of item) (with_item name_of items item)
  found-with_item_more items item more =
      let at = found-with_item items item in
      found-append name_of (name_of item) (with_item name_of items item) more at.0 at.1 ∙ sym at.1

  pub with_item-known : (items : List A) (item : A) (at : ℕ × A) →
      found name_of (name_of item) items ≡ Some at → with_item name_of items item ≡ items
  with_item-known items item at is = ap (λ k. kept (is_some k) items item) is

  pub with_item-new : (items : List A) (item : A) → found name_of (name_of item) items ≡ None →
      with_item name_of items item ≡ items ++ item ∷ []
  with_item-new items item is = ap (λ k. kept (is_some k) items item) is
