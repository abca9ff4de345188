-- Terms in argument places, premises and selected items, as one place more is taken.
use Rattle.std.proofs.Common.{ℕ, zero, suc, ◌≡◌, ◌≤◌, ◌<◌, ◌+◌, ◌-◌, Bool, true, false, List, [], ◌∷◌, ◌++◌, length, min, map, take, cond, get_or, refl, ap, ◌∙◌, arith}
use Rattle.std.proofs.lemmas.List.{map-append}
use Rattle.tf_core.specs.declared.ty.Ty.{Ty}
use Rattle.tf_core.specs.declared.signature.Signature.{Signature}
use Rattle.tf_naked.specs.declared.position.Position.TheVariants.{Argument}
use Rattle.fof_models.specs.declared.formula.FofTerm.TheVariants.{Var}
use Rattle.fof_models.specs.declared.formula.Fof.{Fof}
use Rattle.enc_marks.specs.Choices.{Choices}
use Rattle.enc_marks.specs.Axioms.{premises}
use Rattle.enc_marks.specs.Translation.{Bare, Numbers, bind, placed, placed_all, selected}

selected-nothing : {A : Type 0} (tests : List Bool) → selected {A = A} tests [] ≡ []
selected-nothing [] = refl
selected-nothing (test ∷ tests) = refl

-- the first items are selected, one more of them
selected-suc : {A : Type 0} (tests : List Bool) (items : List A) (i : ℕ) (d : A) →
    i < length items →
    selected tests (take (suc i) items)
    ≡ selected tests (take i items) ++ cond (get_or tests i false) (get_or items i d ∷ []) []
selected-suc [] items i d within = refl
selected-suc (test ∷ tests) [] i d within = absurd (omega arith)
selected-suc (true ∷ tests) (item ∷ items) zero d within =
    ap (λ rest. item ∷ rest) (selected-nothing tests)
selected-suc (false ∷ tests) (item ∷ items) zero d within = selected-nothing tests
selected-suc (true ∷ tests) (item ∷ items) (suc i) d within =
    ap (λ rest. item ∷ rest) (selected-suc tests items i d (omega arith))
selected-suc (false ∷ tests) (item ∷ items) (suc i) d within =
    selected-suc tests items i d (omega arith)

pub selected-more : {A : Type 0} (tests : List Bool) (items : List A) (i : ℕ) (d : A) →
    i < length items →
    selected tests (take (i + 1) items)
    ≡ selected tests (take i items) ++ cond (get_or tests i false) (get_or items i d ∷ []) []
selected-more tests items i d within =
    let next : i + 1 ≡ suc i = omega arith in
    ap (λ n. selected tests (take n items)) next ∙ selected-suc tests items i d within

-- their images
pub map_selected-more : {A B : Type 0} (f : A → B) (tests : List Bool) (items : List A) (i : ℕ)
    (d : A) → i < length items →
    map f (selected tests (take (i + 1) items))
    ≡ map f (selected tests (take i items))
    ++ cond (get_or tests i false) (f (get_or items i d) ∷ []) []
map_selected-more {B = B} f tests items i d within =
    let front = selected tests (take i items) in
    ap (map f) (selected-more tests items i d within)
    ∙ map-append f front (cond (get_or tests i false) (get_or items i d ∷ []) [])
    ∙ ap (λ (more : List B). map f front ++ more) (chosen (get_or tests i false))
  where
    chosen : (b : Bool) → map f (cond b (get_or items i d ∷ []) [])
        ≡ cond b (f (get_or items i d) ∷ []) []
    chosen true = refl
    chosen false = refl

pub selected-none : {A : Type 0} (tests : List Bool) (items : List A) →
    selected tests (take 0 items) ≡ []
selected-none tests items = selected-nothing tests

module _ (c : Choices) (k : Numbers) (g : Signature) (depth : ℕ) where
  placed_all-suc : (tests : List Bool) (types : List Ty) (terms : List Bare) (i : ℕ) (a : Ty)
      (t : Bare) → i < length tests → i < length types → i < length terms →
      placed_all c k g depth tests (take (suc i) types) (take (suc i) terms)
      ≡ placed_all c k g depth tests (take i types) (take i terms)
      ++ placed c k g depth (Argument (get_or tests i false)) (get_or types i a) (get_or terms i t)
      ∷ []
  placed_all-suc [] types terms i a t within also third = absurd (omega arith)
  placed_all-suc (test ∷ tests) [] terms i a t within also third = absurd (omega arith)
  placed_all-suc (test ∷ tests) (ty ∷ types) [] i a t within also third = absurd (omega arith)
  placed_all-suc (test ∷ tests) (ty ∷ types) (x ∷ terms) zero a t within also third =
      ap (λ rest. placed c k g depth (Argument test) ty x ∷ rest) (none tests)
    where
      none : (others : List Bool) → placed_all c k g depth others [] [] ≡ []
      none [] = refl
      none (other ∷ others) = refl
  placed_all-suc (test ∷ tests) (ty ∷ types) (x ∷ terms) (suc i) a t within also third =
      ap (λ rest. placed c k g depth (Argument test) ty x ∷ rest)
      (placed_all-suc tests types terms i a t (omega arith) (omega arith) (omega arith))

  -- terms in argument places, one more of them
  pub placed_all-more : (tests : List Bool) (types : List Ty) (terms : List Bare) (i : ℕ) (a : Ty)
      (t : Bare) → i < length tests → i < length types → i < length terms →
      placed_all c k g depth tests (take (i + 1) types) (take (i + 1) terms)
      ≡ placed_all c k g depth tests (take i types) (take i terms)
      ++ placed c k g depth (Argument (get_or tests i false)) (get_or types i a) (get_or terms i t)
      ∷ []
  placed_all-more tests types terms i a t within also third =
      let next : i + 1 ≡ suc i = omega arith in
      ap (λ n. placed_all c k g depth tests (take n types) (take n terms)) next
      ∙ placed_all-suc tests types terms i a t within also third

  -- none are taken
  pub placed_all-none : (tests : List Bool) (types : List Ty) (terms : List Bare) →
      placed_all c k g depth tests (take 0 types) (take 0 terms) ≡ []
  placed_all-none [] types terms = refl
  placed_all-none (test ∷ tests) types terms = refl

  -- as many as the shorter list has
  pub placed_all-take : (tests : List Bool) (types : List Ty) (terms : List Bare) (n : ℕ) →
      min (length types) (length terms) ≤ n →
      placed_all c k g depth tests (take n types) (take n terms)
      ≡ placed_all c k g depth tests types terms
  placed_all-take [] types terms n enough = refl
  placed_all-take (test ∷ tests) [] terms zero enough = refl
  placed_all-take (test ∷ tests) [] terms (suc n) enough = refl
  placed_all-take (test ∷ tests) (ty ∷ types) [] zero enough = refl
  placed_all-take (test ∷ tests) (ty ∷ types) [] (suc n) enough = refl
  placed_all-take (test ∷ tests) (ty ∷ types) (t ∷ terms) zero enough = absurd (omega arith)
  placed_all-take (test ∷ tests) (ty ∷ types) (t ∷ terms) (suc n) enough =
      ap (λ rest. placed c k g depth (Argument test) ty t ∷ rest)
      (placed_all-take tests types terms n (omega arith))

  premises-suc : (tests : List Bool) (types : List Ty) (i : ℕ) (a : Ty) (count : ℕ) →
      i < length tests → i < length types →
      premises c k g depth tests (take (suc i) types) count
      ≡ premises c k g depth tests (take i types) count
      ++ cond (c.premise (get_or tests i false) (get_or types i a))
      (bind c k g depth (get_or types i a) (Var ((count - i) - 1)) ∷ []) []
  premises-suc [] types i a count within also = absurd (omega arith)
  premises-suc (test ∷ tests) [] i a count within also = absurd (omega arith)
  premises-suc (test ∷ tests) (ty ∷ types) zero a count within also =
      let same : count ≡ count - 0 = omega arith in
      ap (λ (rest : List Fof). cond (c.premise test ty) (bind c k g depth ty (Var (count - 1)) ∷
      rest) rest)
      (none tests)
      ∙ ap (λ n. cond (c.premise test ty) (bind c k g depth ty (Var (n - 1)) ∷ []) []) same
    where
      none : (others : List Bool) → premises c k g depth others [] (count - 1) ≡ []
      none [] = refl
      none (other ∷ others) = refl
  premises-suc (test ∷ tests) (ty ∷ types) (suc i) a count within also =
      let first = bind c k g depth ty (Var (count - 1)) in
      let same : (count - 1) - i ≡ count - suc i = omega arith in
      let later = λ (n : ℕ). cond (c.premise (get_or tests i false) (get_or types i a))
      (bind c k g depth (get_or types i a) (Var (n - 1)) ∷ []) [] in
      ap (λ (rest : List Fof). cond (c.premise test ty) (first ∷ rest) rest)
      (premises-suc tests types i a (count - 1) (omega arith) (omega arith)
      ∙ ap (λ n. premises c k g depth tests (take i types) (count - 1) ++ later n) same)
      ∙ apart (c.premise test ty) first (premises c k g depth tests (take i types) (count - 1))
      (later (count - suc i))
    where
      apart : (b : Bool) (first : Fof) (rest more : List Fof) →
          cond b (first ∷ (rest ++ more)) (rest ++ more) ≡ cond b (first ∷ rest) rest ++ more
      apart true first rest more = refl
      apart false first rest more = refl

  pub premises-none : (tests : List Bool) (types : List Ty) (count : ℕ) →
      premises c k g depth tests (take 0 types) count ≡ []
  premises-none [] types count = refl
  premises-none (test ∷ tests) types count = refl

  -- premises, one argument more
  pub premises-more : (tests : List Bool) (types : List Ty) (i : ℕ) (a : Ty) (count : ℕ) →
      i < length tests → i < length types →
      premises c k g depth tests (take (i + 1) types) count
      ≡ premises c k g depth tests (take i types) count
      ++ cond (c.premise (get_or tests i false) (get_or types i a))
      (bind c k g depth (get_or types i a) (Var ((count - i) - 1)) ∷ []) []
  premises-more tests types i a count within also =
      let next : i + 1 ≡ suc i = omega arith in
      ap (λ n. premises c k g depth tests (take n types) count) next
      ∙ premises-suc tests types i a count within also
