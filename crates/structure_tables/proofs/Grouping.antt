-- Groups put together.
use Rattle.std.specs.Prelude.{ℕ, ◌≡◌, ◌<◌, ◌≤◌, ◌+◌, Bool, true, false, List, [], ◌∷◌, map, length, take, cond, eqb, get_or, slice_index}
use Rattle.std.specs.List.{All}
use Rattle.std.proofs.Common.{refl, sym, ap, subst, ◌∙◌, arith}
use Rattle.std.proofs.lemmas.Bool.{eq-eqb, ne_eqb}
use Rattle.std.proofs.lemmas.List.{length-map, get_or-map, take_all}
use Rattle.std.proofs.lemmas.List.Elements.{All-nil, All-map, All-more, All-take}
use Rattle.tf_core.specs.declared.ty.Ty.{Ty}
use Rattle.structure_tables.specs.ParameterGroups.{variables, group_of, AreParameters, AreTogether, StayTogether, AreJoined}

-- where there is a variable, the group is that of a parameter
group_of-below : (groups variables : List ℕ) → AreParameters (length groups) variables →
    All (λ group. group < length groups) groups → 0 < length variables →
    group_of groups variables < length groups
group_of-below groups [] parameters below some = absurd (omega (arith, some))
group_of-below groups (first ∷ others) parameters below some =
    below first 0 (parameters 0 0 (omega arith))

-- variables that are together stay so
together_still : (before after variables : List ℕ) → StayTogether before after →
    AreParameters (length before) variables → AreTogether before variables →
    AreTogether after variables
together_still before after [] stay parameters together k d within = absurd (omega (arith, within))
together_still before after (first ∷ others) stay parameters together k d within =
    stay (get_or (first ∷ others) k d) first (parameters k d within) (parameters 0 0 (omega arith))
    (together k d within)

-- types whose variables are together, some and one more
types_together_still : (before after : List ℕ) (types : List Ty) (i : ℕ) →
    StayTogether before after →
    All (λ ty. AreParameters (length before) (variables ty)) types →
    All (λ ty. AreTogether before (variables ty)) (take i types) →
    All (λ ty. AreTogether after (variables ty)) (take i types)
types_together_still before after types i stay parameters together k d within =
    together_still before after (variables (get_or (take i types) k d)) stay
    (All-take (λ ty. AreParameters (length before) (variables ty)) i types parameters k d within)
    (together k d within)

-- one type more
module _ (types : List Ty) (groups after : List ℕ) (count i : ℕ) (ty : Ty)
    (within : i < length types) (is : ty ≡ get_or types i ty) (long : length groups ≡ count)
    (parameters : All (λ t. AreParameters count (variables t)) types)
    (together : All (λ t. AreTogether groups (variables t)) (take i types))
    (joined : AreJoined groups (variables ty) after)
  where
    pub types_together_more : All (λ t. AreTogether after (variables t)) (take (i + 1) types)
    types_together_more =
        All-more (λ t. AreTogether after (variables t)) types i ty within
        (types_together_still groups after types i joined.stay
        (subst (λ n. All (λ t. AreParameters n (variables t)) types) (sym long) parameters) together)
        (subst (λ t. AreTogether after (variables t)) is joined.together)

-- the groups while variables are put together, the first so many of them
pub record IsJoining (before variables after : List ℕ) (group i : ℕ) : Type 0 where
  pub long : length after ≡ length before
  pub below : All (λ group. group < length after) after
  pub stay : StayTogether before after
  pub is : group ≡ group_of after variables
  pub together : All (λ variable. slice_index after variable ≡ group) (take i variables)

pub joining_none : (before variables : List ℕ) (group : ℕ) →
    All (λ group. group < length before) before → group ≡ group_of before variables →
    IsJoining before variables before group 0
joining_none before variables group below is = record {
  long = refl;
  below = below;
  stay = λ i j first second same. same;
  is = is;
  together = All-nil (λ variable. slice_index before variable ≡ group);
}

pub joining_all : (before variables after : List ℕ) (group i : ℕ) → length variables ≤ i →
    IsJoining before variables after group i → AreJoined before variables after
joining_all before variables after group i whole joining = record {
  long = joining.long;
  below = joining.below;
  stay = joining.stay;
  together =
      subst (λ n. All (λ variable. slice_index after variable ≡ n) variables) joining.is
      (subst (All (λ variable. slice_index after variable ≡ group)) (take_all i variables whole)
      joining.together);
}

-- a group replaced by another

abbrev pub replaced : ℕ → ℕ → ℕ → ℕ
replaced from to item = cond (eqb item from) to item

pub replaced-from : (from to item : ℕ) → item ≡ from → to ≡ replaced from to item
replaced-from from to item is = sym (ap (λ b. cond b to item) (eq-eqb item from is))

pub replaced-other : (from to item : ℕ) → (item ≡ from → ⊥) → item ≡ replaced from to item
replaced-other from to item differs =
    sym (ap (λ b. cond b to item) (ne_eqb item from differs))

cond_same : (b : Bool) (x y : ℕ) → x ≡ y → cond b x y ≡ y
cond_same true x y same = same
cond_same false x y same = refl

cond_below : (b : Bool) (x y n : ℕ) → x < n → y < n → cond b x y < n
cond_below true x y n first second = first
cond_below false x y n first second = second

module _ (groups : List ℕ) (from to : ℕ) where
  abbrev after : List ℕ
  after = map (replaced from to) groups

  long : length after ≡ length groups
  long = length-map groups (replaced from to)

  at : (i : ℕ) → i < length groups → slice_index after i ≡ replaced from to (slice_index groups i)
  at i within = get_or-map (replaced from to) groups i 0 0 within

  kept : (i : ℕ) → i < length groups → slice_index groups i ≡ to → slice_index after i ≡ to
  kept i within is =
      at i within ∙ ap (replaced from to) is ∙ cond_same (eqb to from) to to refl

  moved : (i : ℕ) → i < length groups → slice_index groups i ≡ from → slice_index after i ≡ to
  moved i within is =
      at i within
      ∙ ap (λ b. cond b to (slice_index groups i)) (eq-eqb (slice_index groups i) from is)

  still : StayTogether groups after
  still i j first second same =
      at i first ∙ ap (replaced from to) same ∙ sym (at j second)

  below_still : All (λ group. group < length groups) groups → to < length groups →
      All (λ group. group < length after) after
  below_still below within =
      subst (λ n. All (λ group. group < n) after) (sym long)
      (All-map (λ group. group < length groups) (replaced from to) groups
      (λ k d inside. cond_below (eqb (get_or groups k d) from) to (get_or groups k d)
      (length groups) within (below k d inside)))

-- one variable more
module _ (before variables groups : List ℕ) (group i variable : ℕ) (within : i < length variables)
    (at_i : variable ≡ get_or variables i 0)
    (parameters : AreParameters (length before) variables)
    (joining : IsJoining before variables groups group i)
  where
    abbrev after_one : List ℕ
    after_one = map (replaced (slice_index groups variable) group) groups

    inside : AreParameters (length groups) variables
    inside = subst (λ n. AreParameters n variables) (sym joining.long) parameters

    here : variable < length groups
    here = subst (λ v. v < length groups) (sym at_i) (inside i 0 within)

    group_below : group < length groups
    group_below =
        subst (λ n. n < length groups) (sym joining.is)
        (group_of-below groups variables inside joining.below (omega (arith, within)))

    first_kept : (vs : List ℕ) → AreParameters (length groups) vs → group ≡ group_of groups vs →
        0 < length vs → group ≡ group_of after_one vs
    first_kept [] ranges is some = absurd (omega (arith, some))
    first_kept (first ∷ others) ranges is some =
        sym (kept groups (slice_index groups variable) group first (ranges 0 0 (omega arith)) (sym is))

    pub joining_more : IsJoining before variables after_one group (i + 1)
    joining_more = record {
      long = long groups (slice_index groups variable) group ∙ joining.long;
      below = below_still groups (slice_index groups variable) group joining.below group_below;
      stay = λ m n first second same.
          still groups (slice_index groups variable) group m n
          (subst (λ k. m < k) (sym joining.long) first)
          (subst (λ k. n < k) (sym joining.long) second)
          (joining.stay m n first second same);
      is = first_kept variables inside joining.is (omega (arith, within));
      together =
          All-more (λ v. slice_index after_one v ≡ group) variables i 0 within
          (λ k d lt. kept groups (slice_index groups variable) group (get_or (take i variables) k d)
          (All-take (λ v. v < length groups) i variables inside k d lt) (joining.together k d lt))
          (moved groups (slice_index groups variable) group (get_or variables i 0)
          (inside i 0 within) (ap (slice_index groups) (sym at_i)));
    }
