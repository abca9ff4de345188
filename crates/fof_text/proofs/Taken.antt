-- What is known of taken names, as more are taken.
use Rattle.std.proofs.Common.{◌≡◌, ℕ, zero, suc, ◌+◌, ◌<◌, ◌≤◌, ◌⊎◌, inl, inr, Bool, true, false}
use Rattle.std.proofs.Common.{not, ◌&&◌, ◌||◌, if◌then◌else◌, List, [], ◌∷◌, ◌++◌, length, Option}
use Rattle.std.proofs.Common.{Some, None, refl, sym, ◌∙◌, ap, subst, arith, ⊎_elim, length-append}
use Rattle.std.specs.Prelude.{is_some, Vec}
use Rattle.std.specs.Str.{bytes_eq}
use Rattle.std.specs.Ordering.{nat_cmp, is_eq}
use Rattle.std.specs.Cmp.{eq_by_cmp_equiv}
use Rattle.std.specs.Cmp.Lexicographic.{slice_cmp, bytes_decides, nat_list_cmp_total}
use Rattle.std.specs.Cmp.Lexicographic.{nat_list_eq_equiv, texts_ties}
use Rattle.std.specs.BTreeMap as tree
use Rattle.std.specs.Map.{lookup, IsKeyTest, AreApart, KeepsOthers}
use Rattle.std.specs.declared.alloc.Global.{Global}
use Rattle.std.proofs.lemmas.Bool.{cases_Bool, cond-true, cond-false}
use Rattle.fof_text.specs.declared.uses.Use.{Use}
use Rattle.tptp_words.specs.Words.{same}
use Rattle.fof_text.specs.Names.{is_among, is_free, numbered, least_below, free_number}
use Rattle.fof_text.specs.Uses.{Uses, use_at, IsSet, Knows, IsFirstFree, IsChosen}
use Rattle.fof_text.proofs.Places.{same_is, same_self}

-- ---- a map by bytes

apart : (bs cs ks : List ℕ) → bytes_eq bs cs ≡ false → is_eq (slice_cmp nat_cmp bs ks) ≡ true
    → is_eq (slice_cmp nat_cmp cs ks) ≡ false
apart bs cs ks n y =
    let here : bytes_eq bs ks ≡ true = texts_ties bs ks ∙ y in
    sym (texts_ties cs ks) ∙ nat_list_eq_equiv.symm cs ks
    ∙ sym (nat_list_eq_equiv.congr bs ks cs here) ∙ n

module _ {K X : Type 0} (eq : K → K → Bool) (test : K → Bool) where
  other_entries : (old new : List (K × X)) → KeepsOthers eq test old new → (other : K → Bool)
      → IsKeyTest eq other → AreApart test other → lookup other new ≡ lookup other old
  unfolding KeepsOthers
  other_entries old new h = h

pub is_set : (m n : Uses) (key : Vec ℕ Global) (how : Use)
    → tree.UpdatesBy (λ (x y : Vec ℕ Global). slice_cmp nat_cmp x.items y.items)
    (λ (k : Vec ℕ Global). slice_cmp nat_cmp key.items k.items) m n (Some how)
    → IsSet m key.items how n
is_set m n key how h other =
    ⊎_elim
    (λ y. subst (λ l. use_at n l ≡ Some how) ((bytes_decides key.items other).0 y) h.1
    ∙ sym (cond-true (bytes_eq key.items other) (Some how) (use_at m other) y))
    (λ e. other_entries _ _ _ _ h.3 _
    (λ x y. (eq_by_cmp_equiv nat_list_cmp_total).congr other x.items y.items)
    (λ k. apart key.items other k.items e)
    ∙ sym (cond-false (bytes_eq key.items other) (Some how) (use_at m other) e))
    (cases_Bool (bytes_eq key.items other))

-- ---- names among others

pub same-bytes_eq : (xs ys : List ℕ) → bytes_eq xs ys ≡ true → same xs ys ≡ true
same-bytes_eq xs ys h = ap (same xs) (sym ((bytes_decides xs ys).0 h)) ∙ same_self xs

pub not_same : (xs ys : List ℕ) → bytes_eq xs ys ≡ false → same ys xs ≡ false
not_same xs ys h = go (same ys xs) refl
  where
    go : (v : Bool) → same ys xs ≡ v → same ys xs ≡ false
    go false e = e
    go true e = absurd (cc (sym h ∙ ap (bytes_eq xs) (same_is ys xs e) ∙ nat_list_eq_equiv.refl xs))

-- the name itself is among those that begin with it
among_first : (x : List ℕ) (ns : List (List ℕ)) → is_among (x ∷ ns) x ≡ true
among_first x ns = ap (λ v. v || is_among ns x) (same_self x)

among_equal : (x y : List ℕ) (ns : List (List ℕ)) → bytes_eq x y ≡ true
    → is_among (x ∷ ns) y ≡ true
among_equal x y ns e =
    subst (λ z. is_among (x ∷ ns) z ≡ true) ((bytes_decides x y).0 e) (among_first x ns)

among_other : (x y : List ℕ) (ns : List (List ℕ)) → bytes_eq x y ≡ false
    → is_among (x ∷ ns) y ≡ is_among ns y
among_other x y ns e = ap (λ v. v || is_among ns y) (not_same x y e)

or-true : (v : Bool) → (v || true) ≡ true
or-true true = refl
or-true false = refl

pub among_more : (x y : List ℕ) (ns : List (List ℕ)) → is_among ns y ≡ true
    → is_among (x ∷ ns) y ≡ true
among_more x y ns h = ap (λ v. same y x || v) h ∙ or-true (same y x)

pub is_among-append : (ns ms : List (List ℕ)) (x : List ℕ)
    → is_among (ns ++ ms) x ≡ (is_among ns x || is_among ms x)
is_among-append [] ms x = refl
is_among-append (n ∷ ns) ms x = ap (λ v. same x n || v) (is_among-append ns ms x) ∙ go (same x n)
  where
    go : (v : Bool) → (v || (is_among ns x || is_among ms x))
        ≡ ((v || is_among ns x) || is_among ms x)
    go true = refl
    go false = refl

-- ---- free names

not_free : (e w : Bool) → (e || w) ≡ true → (not e && not w) ≡ false
not_free true w h = refl
not_free false true h = refl
not_free false false h = absurd (cc h)

is_free_if : (e w : Bool) → (e || w) ≡ false → (not e && not w) ≡ true
is_free_if true w h = absurd (cc h)
is_free_if false true h = absurd (cc h)
is_free_if false false h = refl

-- a name that is not free is not free among more names
less_free : (e w e' w' : Bool) → (e ≡ true → e' ≡ true) → (w ≡ true → w' ≡ true)
    → (not e && not w) ≡ false → (not e' && not w') ≡ false
less_free true w e' w' f g h = ap (λ v. not v && not w') (f refl)
less_free false true true w' f g h = refl
less_free false true false w' f g h = ap (λ v. not v) (g refl)
less_free false false e' w' f g h = absurd (cc h)

pub free_less : (wanted earlier : List (List ℕ)) (x y : List ℕ) → is_free wanted earlier y ≡ false
    → is_free wanted (x ∷ earlier) y ≡ false
free_less wanted earlier x y h =
    less_free (is_among earlier y) (is_among wanted y) (is_among (x ∷ earlier) y)
    (is_among wanted y)
    (among_more x y earlier) (λ w. w) h

-- ---- the least number

pub least_below_is : (n : ℕ) (test : ℕ → Bool) (k : ℕ) → k ≤ n
    → ((j : ℕ) → j < k → test j ≡ false) → (k < n → test k ≡ true) → least_below n test ≡ k
least_below_is zero test k within below here = omega arith
least_below_is (suc n) test zero within below here =
    ap (λ v. if v then 0 else suc (least_below n (λ j. test (suc j)))) (here (omega arith))
least_below_is (suc n) test (suc k) within below here =
    ap (λ v. if v then 0 else suc (least_below n (λ j. test (suc j)))) (below 0 (omega arith))
    ∙ ap suc (least_below_is n (λ j. test (suc j)) k (omega arith)
    (λ j l. below (suc j) (omega arith))
    (λ l. here (omega arith)))

-- ---- what is known

pub known_none : (uses : Uses) → ((x : List ℕ) → use_at uses x ≡ None) → Knows [] [] uses
known_none uses none = record {
  taken = λ x. ap is_some (none x);
  had = λ x u e. absurd (cc (sym (none x) ∙ e));
  passed = λ x u e. absurd (cc (sym (none x) ∙ e));
  within = λ x u e. absurd (cc (sym (none x) ∙ e));
}

-- a fact about the use of each name, where one name is set
by_name : (P : List ℕ → Option Use → Type 0) (old new : Uses) (name : List ℕ) (how : Use)
    → IsSet old name how new → P name (Some how)
    → ((x : List ℕ) → bytes_eq name x ≡ false → P x (use_at old x)) → (x : List ℕ)
    → P x (use_at new x)
by_name P old new name how set here there x =
    ⊎_elim
    (λ e. subst (P x) (sym (set x ∙ cond-true (bytes_eq name x) (Some how) (use_at old x) e))
    (subst (λ z. P z (Some how)) ((bytes_decides name x).0 e) here))
    (λ e. subst (P x) (sym (set x ∙ cond-false (bytes_eq name x) (Some how) (use_at old x) e))
    (there x e))
    (cases_Bool (bytes_eq name x))

same_use : (u v : Use) → ◌≡◌ {A = Option Use} (Some u) (Some v) → u ≡ v
same_use u v e = cc e

-- one more wanted name, while no symbol has a name
pub known_wanted : (wanted : List (List ℕ)) (name : List ℕ) (how : Use) (old new : Uses)
    → Knows wanted [] old → IsSet old name how new → how.had ≡ false → how.next ≡ 0
    → Knows (wanted ++ name ∷ []) [] new
known_wanted wanted name how old new k set h n =
    let wider : List (List ℕ) = wanted ++ name ∷ [] in
    let joined : (x : List ℕ) → is_among wider x ≡ (is_among wanted x || (same x name || false)) =
    is_among-append wanted (name ∷ []) in
    let long : length wider ≡ length wanted + 1 = length-append wanted (name ∷ []) in
    record {
      taken = by_name (λ x o. is_some o ≡ is_among wider x) old new name how set
          (sym (joined name ∙ ap (λ v. is_among wanted name || (v || false)) (same_self name)
          ∙ or-true (is_among wanted name)))
          (λ x e. k.taken x ∙ sym
          (joined x ∙ ap (λ v. is_among wanted x || (v || false)) (not_same name x e)
          ∙ or_false (is_among wanted x)));
      had = by_name (λ x o. (u : Use) → o ≡ Some u → u.had ≡ false) old new name how set
          (λ u e. subst (λ (z : Use). z.had ≡ false) (same_use how u e) h)
          (λ x e. k.had x);
      passed = by_name (λ x o. (u : Use) → o ≡ Some u → (j : ℕ) → j < u.next
          → is_free wider [] (numbered x j) ≡ false) old new name how set
          (λ u e j l. let none : u.next ≡ 0 =
          subst (λ (z : Use). z.next ≡ 0) (same_use how u e) n in
          absurd (omega (arith, none, l)))
          (λ x e u f j l. less_free false (is_among wanted (numbered x j)) false
          (is_among wider (numbered x j))
          (λ v. v) (λ v. joined (numbered x j)
          ∙ ap (λ z. z || (same (numbered x j) name || false)) v)
          (k.passed x u f j l));
      within = by_name (λ x o. (u : Use) → o ≡ Some u
          → u.next ≤ 0 + length wider) old new name how set
          (λ u e. let none : u.next ≡ 0 = subst (λ (z : Use). z.next ≡ 0) (same_use how u e) n in
          omega (arith, none))
          (λ x e u f. let before = k.within x u f in omega (arith, long, before));
    }
  where
    or_false : (v : Bool) → (v || (false || false)) ≡ v
    or_false true = refl
    or_false false = refl

-- one more name that a symbol has
pub known_more : (wanted earlier : List (List ℕ)) (name : List ℕ) (how : Use) (old new : Uses)
    → Knows wanted earlier old → IsSet old name how new → how.had ≡ true → how.next ≡ 0
    → Knows wanted (name ∷ earlier) new
known_more wanted earlier name how old new k set h n = record {
  taken = by_name (λ x o. is_some o
      ≡ (is_among (name ∷ earlier) x || is_among wanted x)) old new name how set
      (sym (ap (λ v. v || is_among wanted name) (among_first name earlier)))
      (λ x e. k.taken x ∙ sym (ap (λ v. v || is_among wanted x) (among_other name x earlier e)));
  had = by_name (λ x o. (u : Use) → o ≡ Some u
      → u.had ≡ is_among (name ∷ earlier) x) old new name how set
      (λ u e. subst (λ (z : Use). z.had ≡ true) (same_use how u e) h
      ∙ sym (among_first name earlier))
      (λ x e u f. k.had x u f ∙ sym (among_other name x earlier e));
  passed = by_name (λ x o. (u : Use) → o ≡ Some u → (j : ℕ) → j < u.next
      → is_free wanted (name ∷ earlier) (numbered x j) ≡ false) old new name how set
      (λ u e j l. let none : u.next ≡ 0 = subst (λ (z : Use). z.next ≡ 0) (same_use how u e) n in
      absurd (omega (arith, none, l)))
      (λ x e u f j l. free_less wanted earlier name (numbered x j) (k.passed x u f j l));
  within = by_name (λ x o. (u : Use) → o ≡ Some u → u.next ≤ suc (length earlier) + length wanted)
      old new name how set
      (λ u e. let none : u.next ≡ 0 = subst (λ (z : Use). z.next ≡ 0) (same_use how u e) n in
      omega (arith, none))
      (λ x e u f. let before = k.within x u f in omega (arith, before));
}

-- more numbers that make no free name
pub known_passed : (wanted earlier : List (List ℕ)) (name : List ℕ) (how : Use) (old new : Uses)
    → Knows wanted earlier old → IsSet old name how new → is_among earlier name ≡ true
    → how.had ≡ true → how.next ≤ length earlier + length wanted
    → ((j : ℕ) → j < how.next → is_free wanted earlier (numbered name j) ≡ false)
    → Knows wanted earlier new
known_passed wanted earlier name how old new k set a h n p = record {
  taken = by_name (λ x o. is_some o
      ≡ (is_among earlier x || is_among wanted x)) old new name how set
      (sym (ap (λ v. v || is_among wanted name) a)) (λ x e. k.taken x);
  had = by_name (λ x o. (u : Use) → o ≡ Some u → u.had ≡ is_among earlier x) old new name how set
      (λ u e. subst (λ (z : Use). z.had ≡ true) (same_use how u e) h ∙ sym a) (λ x e. k.had x);
  passed = by_name (λ x o. (u : Use) → o ≡ Some u → (j : ℕ) → j < u.next
      → is_free wanted earlier (numbered x j) ≡ false) old new name how set
      (λ u e j l. p j (subst (λ (z : Use). j < z.next) (sym (same_use how u e)) l))
      (λ x e. k.passed x);
  within = by_name (λ x o. (u : Use) → o ≡ Some u → u.next ≤ length earlier + length wanted)
      old new name how set
      (λ u e. subst (λ (z : Use). z.next ≤ length earlier + length wanted) (same_use how u e) n)
      (λ x e. k.within x);
}

-- ---- choices

pub wanted_chosen : (wanted earlier : List (List ℕ)) (name : List ℕ) (how : Use) (old new : Uses)
    → Knows wanted earlier old → is_among earlier name ≡ false → IsSet old name how new
    → how.had ≡ true → how.next ≡ 0 → (chosen : List ℕ) → chosen ≡ name
    → IsChosen wanted earlier name new chosen
wanted_chosen wanted earlier name how old new k a set h n chosen e = record {
  is = e ∙ sym (ap (λ v. if v then numbered name (free_number wanted earlier name) else name) a);
  known = subst (λ z. Knows wanted (z ∷ earlier) new) (sym e)
      (known_more wanted earlier name how old new k set h n);
}

module _ (wanted earlier : List (List ℕ)) (name : List ℕ) (old : Uses) (how : Use)
    (k : Knows wanted earlier old) (at : use_at old name ≡ Some how) (had : how.had ≡ true)
    (number : ℕ) (first : IsFirstFree old name how.next
    (length earlier + length wanted) number) where
  among : is_among earlier name ≡ true
  among = sym (k.had name how at) ∙ had

  none_below : (j : ℕ) → j < number → is_free wanted earlier (numbered name j) ≡ false
  none_below j l =
      ⊎_elim
      (λ earlier_one. k.passed name how at j earlier_one)
      (λ later_one. not_free (is_among earlier (numbered name j))
      (is_among wanted (numbered name j))
      (sym (k.taken (numbered name j)) ∙ first.passed j later_one l))
      (split j how.next)
    where
      split : (j n : ℕ) → (j < n) ⊎ (n ≤ j)
      split j zero = inr (omega arith)
      split zero (suc n) = inl (omega arith)
      split (suc j) (suc n) = ⊎_elim (λ l. inl (omega arith)) (λ l. inr (omega arith)) (split j n)

  least : free_number wanted earlier name ≡ number
  least =
      least_below_is (length earlier + length wanted)
      (λ j. is_free wanted earlier (numbered name j)) number first.within none_below
      (λ l. is_free_if (is_among earlier (numbered name number))
      (is_among wanted (numbered name number))
      (sym (k.taken (numbered name number)) ∙ first.free l))

  pub numbered_chosen : (mid new : Uses) (first_use last_use : Use)
      → IsSet old (numbered name number) first_use mid → first_use.had ≡ true → first_use.next ≡ 0
      → IsSet mid name last_use new → last_use.had ≡ true → last_use.next ≡ number + 1
      → IsChosen wanted earlier name new (numbered name number)
  numbered_chosen mid new first_use last_use set_first h n set_last h' n' =
      let chosen : List ℕ = numbered name number in
      let within = first.within in
      let middle = known_more wanted earlier chosen first_use old mid k set_first h n in
      record {
        is = sym (ap (λ v. if v then numbered name (free_number wanted earlier name)
            else name) among
            ∙ ap (numbered name) least);
        known = known_passed wanted (chosen ∷ earlier) name last_use mid new middle set_last
            (among_more chosen name earlier among) h' (omega (arith, n', within))
            (λ j l. passed j (omega (arith, n', l)));
      }
    where
      passed : (j : ℕ) → j < number + 1
          → is_free wanted (numbered name number ∷ earlier) (numbered name j) ≡ false
      passed j l =
          ⊎_elim
          (λ below. free_less wanted earlier (numbered name number) (numbered name j)
          (none_below j below))
          (λ e. subst (λ z. is_free wanted (numbered name number ∷ earlier) (numbered name z)
          ≡ false) (sym e)
          (ap (λ v. not v && not (is_among wanted (numbered name number)))
          (among_first (numbered name number) earlier)))
          (last j number l)
        where
          last : (j n : ℕ) → j < n + 1 → (j < n) ⊎ (j ≡ n)
          last zero zero l = inr refl
          last zero (suc n) l = inl (omega arith)
          last (suc j) zero l = absurd (omega arith)
          last (suc j) (suc n) l =
              ⊎_elim (λ b. inl (omega arith)) (λ e. inr (ap suc e)) (last j n (omega arith))
