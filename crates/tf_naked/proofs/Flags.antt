-- What the flags of a symbol's parameters say.
use Rattle.std.specs.Prelude.{ℕ, ◌+◌, ◌<◌, ◌≤◌, ◌≡◌, ◌++◌, Bool, true, false, not, ◌&&◌, ◌||◌, List, [], ◌∷◌, length, map, eqb, get_or, set, drop, replicate, is_none, Option, Some, None}
use Rattle.std.specs.List.{AllByRecursion, list_any}
use Rattle.std.proofs.Common.{refl, sym, ap, subst, ◌∙◌, arith, ⊎_elim, eq-eqb}
use Rattle.std.proofs.Math.Bool.{and-false, and-true}
use Rattle.std.proofs.lemmas.Bool.{cases_eq}
use Rattle.std.proofs.lemmas.List.{ext_get_or, length-set, get_or-set_same, get_or-set_other, get_or-replicate, length-replicate, drop_more, drop_all, append_assoc, append-nil}
use Rattle.std.proofs.lemmas.List.FromFn.{get_or-map-range_with_len, length-map-range_with_len}
use Rattle.tf_core.specs.declared.ty.Ty.{Ty}
use Rattle.tf_core.specs.declared.signature.Symbol.{Symbol}
use Rattle.tf_naked.specs.Covers.{parameter_of, IsOwn, first_places, is_parameter, covers, cover_of, kept_parameters, argument_parameters, HasOwnParameters}
use Rattle.tf_naked.specs.Calls.Flags.{is_unseen, flagged, unseen_places, all_flagged}
use Rattle.tf_naked.proofs.Positions.{is_none-position}

pub length-flagged : (flag : Bool) (flags : List Bool) (parameter : Option ℕ) →
    length (flagged flag flags parameter) ≡ length flags
length-flagged flag flags None = refl
length-flagged flag flags (Some parameter) = length-set flags parameter flag

-- flags of the parameters that stand before

seen_more : (seen : List Bool) (earlier : List ℕ) (p q : ℕ) → p < length seen →
    get_or seen q false ≡ list_any (eqb q) earlier →
    get_or (set seen p true) q false ≡ (eqb q p || list_any (eqb q) earlier)
seen_more seen earlier p q within same =
    ⊎_elim
    (λ (is : q ≡ p). grind (arith, get_or-set_same))
    (λ differs. grind (arith, get_or-set_other, differs, same))
    (cases_eq q p)

pub unseen_places-first_places : (count : ℕ) (seen : List Bool) (earlier : List ℕ)
    (parameters : List (Option ℕ)) → length seen ≡ count → AllByRecursion (IsOwn count) parameters →
    ((p : ℕ) → p < count → get_or seen p false ≡ list_any (eqb p) earlier) →
    unseen_places seen parameters ≡ first_places earlier parameters
unseen_places-first_places count seen earlier [] long own same = refl
unseen_places-first_places count seen earlier (None ∷ parameters) long own same =
    ap (λ places. false ∷ places)
    (unseen_places-first_places count seen earlier parameters long own.1 same)
unseen_places-first_places count seen earlier (Some p ∷ parameters) long own same =
    ap (λ b. not b ∷ unseen_places (set seen p true) parameters) (same p own.0)
    ∙ ap (λ places. not (list_any (eqb p) earlier) ∷ places)
    (unseen_places-first_places count (set seen p true) (p ∷ earlier) parameters
    (length-set seen p true ∙ long) own.1
    (λ q within. seen_more seen earlier p q (subst (λ n. p < n) (sym long) own.0) (same q within)))

pub unseen_places-covers : (symbol : Symbol) (seen : List Bool) →
    seen ≡ replicate symbol.parameters false → HasOwnParameters symbol →
    unseen_places seen (argument_parameters symbol) ≡ covers symbol
unseen_places-covers symbol seen is own =
    unseen_places-first_places symbol.parameters seen [] (argument_parameters symbol)
    (ap length is ∙ length-replicate symbol.parameters false) own
    (λ p within. ap (λ xs. get_or xs p false) is
    ∙ get_or-replicate symbol.parameters p false false within)

-- flags of the parameters that no argument's type is

kept_more : (kept : List Bool) (p q : ℕ) (others : Bool) → p < length kept →
    (get_or (set kept q false) p true && not others)
    ≡ (get_or kept p true && not (eqb p q || others))
kept_more kept p q others within =
    ⊎_elim
    (λ (is : p ≡ q).
    ap (λ b. b && not others)
    (ap (λ n. get_or (set kept q false) n true) is
    ∙ get_or-set_same kept q false true (subst (λ n. n < length kept) is within))
    ∙ sym (ap (λ b. get_or kept p true && not (b || others)) (eq-eqb p q is)
    ∙ and-false (get_or kept p true)))
    (λ differs.
    let other : eqb p q ≡ false = grind (arith, differs) in
    ap (λ b. b && not others) (get_or-set_other kept q p false true differs)
    ∙ sym (ap (λ b. get_or kept p true && not (b || others)) other))
    (cases_eq p q)

pub get_or-all_flagged : (kept : List Bool) (parameters : List (Option ℕ)) (p : ℕ) →
    p < length kept →
    get_or (all_flagged false kept parameters) p true
    ≡ (get_or kept p true && not (list_any (is_parameter p) parameters))
get_or-all_flagged kept [] p within = sym (and-true (get_or kept p true))
get_or-all_flagged kept (None ∷ parameters) p within = get_or-all_flagged kept parameters p within
get_or-all_flagged kept (Some q ∷ parameters) p within =
    get_or-all_flagged (set kept q false) parameters p
    (subst (λ n. p < n) (sym (length-set kept q false)) within)
    ∙ kept_more kept p q (list_any (is_parameter p) parameters) within

pub length-all_flagged : (kept : List Bool) (parameters : List (Option ℕ)) →
    length (all_flagged false kept parameters) ≡ length kept
length-all_flagged kept [] = refl
length-all_flagged kept (None ∷ parameters) = length-all_flagged kept parameters
length-all_flagged kept (Some q ∷ parameters) =
    length-all_flagged (set kept q false) parameters ∙ length-set kept q false

pub all_flagged-kept_parameters : (symbol : Symbol) (kept : List Bool) →
    kept ≡ replicate symbol.parameters true →
    all_flagged false kept (argument_parameters symbol) ≡ kept_parameters symbol
all_flagged-kept_parameters symbol kept is =
    ext_get_or true _ _
    (length-all_flagged kept (argument_parameters symbol)
    ∙ long
    ∙ sym (length-map-range_with_len (λ p. is_none (cover_of symbol p)) 0 symbol.parameters))
    (λ p below. at p (subst (λ n. p < n)
    (length-all_flagged kept (argument_parameters symbol) ∙ long) below))
  where
    long : length kept ≡ symbol.parameters
    long = ap length is ∙ length-replicate symbol.parameters true

    at : (p : ℕ) → p < symbol.parameters →
        get_or (all_flagged false kept (argument_parameters symbol)) p true
        ≡ get_or (kept_parameters symbol) p true
    at p within =
        get_or-all_flagged kept (argument_parameters symbol) p
        (subst (λ n. p < n) (sym long) within)
        ∙ ap (λ b. b && not (list_any (is_parameter p) (argument_parameters symbol)))
        (ap (λ xs. get_or xs p true) is
        ∙ get_or-replicate symbol.parameters p true true within)
        ∙ sym (is_none-position (is_parameter p) (argument_parameters symbol))
        ∙ sym (get_or-map-range_with_len (λ q. is_none (cover_of symbol q)) 0 symbol.parameters p p
        true within (omega arith))

-- steps of loops over the types of arguments

pub own_at : (count : ℕ) (items : List Ty) (i : ℕ) (ty : Ty) → i < length items →
    ty ≡ get_or items i ty → AllByRecursion (IsOwn count) (map parameter_of (drop i items)) →
    IsOwn count (parameter_of ty)
    × AllByRecursion (IsOwn count) (map parameter_of (drop (i + 1) items))
own_at count items i ty within is own =
    subst (λ xs. AllByRecursion (IsOwn count) (map parameter_of xs))
    (drop_more items i ty within ∙ ap (λ x. x ∷ drop (i + 1) items) (sym is)) own

pub unseen_places-step : (seen found : List Bool) (items : List Ty) (i : ℕ) (ty : Ty) →
    i < length items → ty ≡ get_or items i ty →
    (found ++ is_unseen seen (parameter_of ty) ∷ [])
    ++ unseen_places (flagged true seen (parameter_of ty)) (map parameter_of (drop (i + 1) items))
    ≡ found ++ unseen_places seen (map parameter_of (drop i items))
unseen_places-step seen found items i ty within is =
    append_assoc found (is_unseen seen (parameter_of ty) ∷ []) _
    ∙ ap (λ xs. found ++ unseen_places seen (map parameter_of xs))
    (ap (λ x. x ∷ drop (i + 1) items) is ∙ sym (drop_more items i ty within))

pub unseen_places-end : (seen found : List Bool) (items : List Ty) (i : ℕ) → length items ≤ i →
    found ++ unseen_places seen (map parameter_of (drop i items)) ≡ found
unseen_places-end seen found items i ends =
    ap (λ xs. found ++ unseen_places seen (map parameter_of xs)) (drop_all i items ends)
    ∙ append-nil found

pub all_flagged-step : (flags : List Bool) (items : List Ty) (i : ℕ) (ty : Ty) →
    i < length items → ty ≡ get_or items i ty →
    all_flagged false (flagged false flags (parameter_of ty))
    (map parameter_of (drop (i + 1) items))
    ≡ all_flagged false flags (map parameter_of (drop i items))
all_flagged-step flags items i ty within is =
    ap (λ xs. all_flagged false flags (map parameter_of xs))
    (ap (λ x. x ∷ drop (i + 1) items) is ∙ sym (drop_more items i ty within))

pub all_flagged-end : (flags : List Bool) (items : List Ty) (i : ℕ) → length items ≤ i →
    all_flagged false flags (map parameter_of (drop i items)) ≡ flags
all_flagged-end flags items i ends =
    ap (λ xs. all_flagged false flags (map parameter_of xs)) (drop_all i items ends)
