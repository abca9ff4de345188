-- Partial substitutions as code reads them.
use Rattle.std.specs.Prelude.{ℕ, ◌≡◌, ◌<◌, ◌≤◌, ◌+◌, ◌||◌, Bool, true, false, not, if◌then◌else◌, List, [], ◌∷◌, ◌++◌, map, length, take, get_or, slice_get, eqb, Option, Some, None}
use Rattle.std.specs.List.{Contains, list_any}
use Rattle.std.specs.Bool.{Decides}
use Rattle.std.specs.Cmp.Lexicographic.{pointwise}
use Rattle.std.specs.Option.{option_eq}
use Rattle.std.proofs.lemmas.Bool.Decides.{Decides-eqb}
use Rattle.std.proofs.lemmas.Slice.Eq.{slice_eq-Decides}
use Rattle.std.proofs.Common.{refl, sym, ap, subst, ◌∙◌, arith, inl, inr}
use Rattle.std.proofs.lemmas.Bool.{false≢true, cases_eq}
use Rattle.std.proofs.lemmas.List.{take_more, map-append, map-id}
use Rattle.std.proofs.lemmas.List.Elements.{Contains-push, Contains-append_right, Contains-append_left}
use Rattle.std.proofs.lemmas.Option.{slice_get-get_or, same_Some, none-some}
use Rattle.tf_types.specs.declared.node.TypeId.{TypeId}
use Rattle.tf_types.specs.Matching.{IsBound}
use Rattle.enc_mono.specs.Calls.Searched.{Partial, IsTotal, IsPut, bound_to}

-- the first entries are bound
abbrev pub AreBoundUpTo : Partial → ℕ → Type 0
AreBoundUpTo bound k = (i : ℕ) → i < k → IsBound bound i

pub bound_up_to-more : (bound : Partial) (k : ℕ) → k < length bound → (id : TypeId) →
    get_or bound k None ≡ Some id → AreBoundUpTo bound k → AreBoundUpTo bound (k + 1)
bound_up_to-more bound k within id is before i less =
    elim (cases_eq i k) [
      | inl last ↦ (
        id,
        ap (slice_get bound) last ∙ slice_get-get_or bound k None within ∙ ap Some is,
      )
      | inr earlier ↦ before i (omega (arith, less, earlier))
    ]

pub total_from_all : (bound : Partial) (k : ℕ) → length bound ≤ k → AreBoundUpTo bound k →
    IsTotal bound
total_from_all bound k all before i within = before i (omega (arith, all, within))

-- numbers to which the first entries are bound

pub numbers-more : (bound : Partial) (ids : List TypeId) (k : ℕ) (id : TypeId) →
    k < length bound → get_or bound k None ≡ Some id → bound_to ids ≡ take k bound →
    bound_to (ids ++ id ∷ []) ≡ take (k + 1) bound
numbers-more bound ids k id within is before =
    map-append Some ids (id ∷ [])
    ∙ ap (λ front. front ++ Some id ∷ []) before
    ∙ ap (λ last. take k bound ++ last ∷ []) (sym is)
    ∙ sym (take_more bound k None within)

pub total_has_no_gap : (bound : Partial) (k : ℕ) → IsTotal bound → k < length bound →
    get_or bound k None ≡ None → ⊥
total_has_no_gap bound k total within is =
    let there = total k within in
    none-some there.0
    (sym is
    ∙ same_Some (get_or bound k None) (Some there.0)
    (sym (slice_get-get_or bound k None within) ∙ there.1))

-- what is put into a set

module _ {K A : Type 0} (items : K → A) (eq : K → K → Bool)
    (decides : (a b : K) → Decides (eq a b) (items a ≡ items b))
  where
    here_or_later : (first : K) (keys : List K) (key : K) (b : Bool) → eq key first ≡ b →
        list_any (eq key) (first ∷ keys) ≡ true →
        (list_any (eq key) keys ≡ true → Contains (map items keys) (items key)) →
        Contains (map items (first ∷ keys)) (items key)
    here_or_later first keys key true same is later =
        subst (Contains (map items (first ∷ keys))) (sym ((decides key first).0 same))
        (Contains-append_left (items first ∷ []) (map items keys) (items first)
        (Contains-push [] (items first)))
    here_or_later first keys key false other is later =
        Contains-append_right (items first ∷ []) (map items keys) (items key)
        (later (sym (ap (λ b. b || list_any (eq key) keys) other) ∙ is))

    found_in_keys : (keys : List K) (key : K) → list_any (eq key) keys ≡ true →
        Contains (map items keys) (items key)
    found_in_keys [] key there = absurd (false≢true there)
    found_in_keys (first ∷ keys) key there =
        here_or_later first keys key (eq key first) refl there (found_in_keys keys key)

    pub IsPut-inserted : (keys new : List K) (key : K) (bound : A) → items key ≡ bound →
        (added : Bool) → added ≡ not (list_any (eq key) keys) →
        new ≡ (if list_any (eq key) keys then keys else keys ++ key ∷ []) →
        IsPut (map items keys) (map items new) bound added
    IsPut-inserted keys new key bound is added said inserted =
        by (list_any (eq key) keys) refl
      where
        by : (b : Bool) → list_any (eq key) keys ≡ b →
            IsPut (map items keys) (map items new) bound added
        by true there =
            subst (IsPut (map items keys) (map items new) bound) (sym (said ∙ ap not there)) (
              ap (map items) (inserted ∙ ap (λ c. if c then keys else keys ++ key ∷ []) there),
              subst (Contains (map items keys)) is (found_in_keys keys key there),
            )
        by false absent =
            subst (IsPut (map items keys) (map items new) bound) (sym (said ∙ ap not absent))
            (ap (map items) (inserted ∙ ap (λ c. if c then keys else keys ++ key ∷ []) absent)
            ∙ map-append items keys (key ∷ [])
            ∙ ap (λ last. map items keys ++ last ∷ []) is)

-- entries are equal where their numbers are
pub ids_decide : (a b : TypeId) → Decides (eqb a.index b.index) (a ≡ b)
ids_decide a b = (
  λ e. ap (λ index. record { index = index }) ((Decides-eqb a.index b.index).0 e),
  λ e. (Decides-eqb a.index b.index).1 (ap (λ (n : TypeId). n.index) e),
)

entries_decide : (a b : Option TypeId) →
    Decides (option_eq (λ (m n : TypeId). eqb m.index n.index) a b) (a ≡ b)
entries_decide None None = (λ e. refl, λ e. refl)
entries_decide None (Some b) = (λ e. absurd (false≢true e), λ e. absurd (none-some b e))
entries_decide (Some a) None = (λ e. absurd (false≢true e), λ e. absurd (none-some a (sym e)))
entries_decide (Some a) (Some b) = (
  λ e. ap Some ((ids_decide a b).0 e),
  λ e. (ids_decide a b).1 (same_Some a b e),
)

pub partials_decide : (xs ys : Partial) →
    Decides (pointwise (option_eq (λ (m n : TypeId). eqb m.index n.index)) xs ys) (xs ≡ ys)
partials_decide xs ys = slice_eq-Decides entries_decide xs ys _ refl

-- a key itself
pub IsPut-keys : {K : Type 0} (eq : K → K → Bool) → ((a b : K) → Decides (eq a b) (a ≡ b)) →
    (keys new : List K) (key : K) (added : Bool) → added ≡ not (list_any (eq key) keys) →
    new ≡ (if list_any (eq key) keys then keys else keys ++ key ∷ []) → IsPut keys new key added
IsPut-keys eq decides keys new key added said inserted =
    subst (λ list. IsPut list new key added) (map-id keys)
    (subst (λ list. IsPut (map (λ k. k) keys) list key added) (map-id new)
    (IsPut-inserted (λ k. k) eq decides keys new key key refl added said inserted))
