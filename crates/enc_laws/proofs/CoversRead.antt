-- The members for a symbol's parameters, read from its type arguments and from its covers.
use Rattle.std.specs.Prelude.{ℕ, zero, suc, ◌+◌, ◌≡◌, Bool, true, false, not, ◌||◌, List, [], ◌∷◌, map, length, replicate, cond, eqb, slice_index, slice_get, Option, Some, None, IsTrue}
use Rattle.std.specs.List.{list_any}
use Rattle.std.proofs.Common.{refl, sym, ap, ◌∙◌, subst, arith}
use Rattle.std.proofs.lemmas.Bool.{false≢true, eqb-true}
use Rattle.tf_core.specs.declared.ty.Ty.{Ty}
use Rattle.tf_core.specs.declared.ty.Ty.TheVariants as type
use Rattle.tf_core.specs.declared.signature.Signature.{Signature}
use Rattle.tf_core.specs.Typing.{type_variable, type_apply, AreTypes, no_types, more_types}
use Rattle.tf_core.specs.Structures.{Typed, member_of}
use Rattle.tf_core.proofs.Types.{type_value-variable}
use Rattle.tf_naked.specs.declared.position.Position.TheVariants.{Argument}
use Rattle.tf_naked.specs.Covers.{parameter_of, is_parameter, first_places}
use Rattle.tf_naked.proofs.Covers.{parameter_of-variable, parameter_of-apply}
use Rattle.enc_marks.specs.Translation.{selected}
use Rattle.enc_laws.specs.Relations.{Relations, AreRelated, more_related, ArgumentsAre, no_arguments, more_arguments}
use Rattle.tf_stamp.specs.Merged.{member_in}
use Rattle.enc_laws.specs.MergedStructure.{value_at_cover, members_read}

-- each parameter that isn't kept has a cover
pub data AreCovered (places : List (Option ℕ)) : List Bool → ℕ → Type 0 where
  no_parameters : (p : ℕ) → AreCovered places [] p
  kept : (keeps : List Bool) (p : ℕ) → AreCovered places keeps (p + 1) →
      AreCovered places (true ∷ keeps) p
  dropped : (keeps : List Bool) (p : ℕ) → IsTrue (list_any (is_parameter p) places) →
      AreCovered places keeps (p + 1) → AreCovered places (false ∷ keeps) p

pub AreCovered-all : (count p : ℕ) (places : List (Option ℕ)) →
    AreCovered places (replicate count true) p
AreCovered-all zero p places = no_parameters p
AreCovered-all (suc count) p places =
    kept (replicate count true) p (AreCovered-all count (p + 1) places)

pub members_read-related : (sizes : List ℕ) (R : ℕ → ℕ → Type 0) (places : List (Option ℕ))
    (keeps : List Bool) (p : ℕ) (us values members : List ℕ) →
    ((u m : ℕ) → R u m → member_in sizes u ≡ m) → AreCovered places keeps p →
    length keeps ≡ length members → AreRelated R us (selected keeps members) →
    ((i m : ℕ) → slice_get members i ≡ Some m → IsTrue (list_any (is_parameter (p + i)) places) →
    member_in sizes (value_at_cover (p + i) places values) ≡ m) →
    members_read sizes keeps p places us values ≡ members
members_read-related sizes R places keeps p us values [] is (no_parameters _) all related covered =
    refl
members_read-related sizes R places keeps p us values (m ∷ members) is (no_parameters _) all related
    covered = absurd (omega (arith, all))
members_read-related sizes R places keeps p us values [] is (kept keeps' _ rest) all related
    covered =
    absurd (omega (arith, all))
members_read-related sizes R places keeps p us values (m ∷ members) is (kept keeps' _ rest) all
    (more_related u _ us' _ h hs) covered =
    ap (λ x. x ∷ members_read sizes keeps' (p + 1) places us' values) (is u m h)
    ∙ ap (λ l. m ∷ l)
    (members_read-related sizes R places keeps' (p + 1) us' values members is rest
    (omega (arith, all)) hs
    (λ i m' q t.
    let e : p + suc i ≡ p + 1 + i = omega arith in
    subst (λ x. member_in sizes (value_at_cover x places values) ≡ m') e
    (covered (suc i) m' q (subst (λ x. IsTrue (list_any (is_parameter x) places)) (sym e) t))))
members_read-related sizes R places keeps p us values [] is (dropped keeps' _ c rest) all related
    covered = absurd (omega (arith, all))
members_read-related sizes R places keeps p us values (m ∷ members) is (dropped keeps' _ c rest) all
    related covered =
    let e : p + 0 ≡ p = omega arith in
    ap (λ x. x ∷ members_read sizes keeps' (p + 1) places us values)
    (subst (λ x. member_in sizes (value_at_cover x places values) ≡ m) e
    (covered 0 m refl (subst (λ x. IsTrue (list_any (is_parameter x) places)) (sym e) c)))
    ∙ ap (λ l. m ∷ l)
    (members_read-related sizes R places keeps' (p + 1) us values members is rest
    (omega (arith, all)) related
    (λ i m' q t.
    let e : p + suc i ≡ p + 1 + i = omega arith in
    subst (λ x. member_in sizes (value_at_cover x places values) ≡ m') e
    (covered (suc i) m' q (subst (λ x. IsTrue (list_any (is_parameter x) places)) (sym e) t))))

-- the argument at a parameter's cover is exact at the parameter's member
module _ (r : Relations) (g : Signature) (s : Typed) (members : List ℕ) (variables p : ℕ)
    (strict : r.strict (Argument true) ≡ true) where
  first_or_later : (q v m e : ℕ) (cover : Bool) (earlier : List ℕ) (places : List (Option ℕ))
      (values : List ℕ) → list_any (eqb p) earlier ≡ false →
      (r.strict (Argument cover) ≡ true → r.exact v m e) → (same : Bool) → eqb p q ≡ same →
      cover ≡ not (list_any (eqb q) earlier) → m ≡ member_of s members (type.Var q) →
      IsTrue (same || list_any (is_parameter p) places) →
      (eqb p q ≡ false → IsTrue (list_any (is_parameter p) places) →
      (e : ℕ) × r.exact (value_at_cover p places values) (slice_index members p) e) →
      (e : ℕ) × r.exact (cond same v (value_at_cover p places values)) (slice_index members p) e
  first_or_later q v m e cover earlier places values new exact true pq cover_is m_is found rest =
      let same : p ≡ q = eqb-true p q pq in
      let covers : cover ≡ true =
      cover_is ∙ ap not (ap (λ x. list_any (eqb x) earlier) (sym same) ∙ new) in
      let x : r.exact v m e = exact (ap (λ y. r.strict (Argument y)) covers ∙ strict) in (
        e,
        subst (λ y. r.exact v y e)
            (m_is ∙ type_value-variable s.constructor_at members q
            ∙ ap (slice_index members) (sym same))
            x,
      )
  first_or_later q v m e cover earlier places values new exact false pq cover_is m_is found rest =
      rest pq found

  pub cover_is_exact : (earlier : List ℕ) (types : List Ty) (formed : AreTypes g variables types)
      (tests : List Bool) (values ms elements : List ℕ) →
      tests ≡ first_places earlier (map parameter_of types) →
      ms ≡ map (member_of s members) types → ArgumentsAre r tests values ms elements →
      list_any (eqb p) earlier ≡ false →
      IsTrue (list_any (is_parameter p) (map parameter_of types)) →
      (e : ℕ) × r.exact (value_at_cover p (map parameter_of types) values) (slice_index members p) e
  cover_is_exact earlier types no_types tests values ms elements tests_are ms_are placed new found =
      absurd (false≢true found)
  cover_is_exact earlier types (more_types ty others h hs) tests values ms elements tests_are ms_are
      no_arguments new found = absurd (omega (arith, ap length ms_are))
  cover_is_exact earlier types (more_types ty others (type_variable q within) hs) tests values ms
      elements tests_are ms_are (more_arguments cover v m e tests' values' ms' elements' placed
      exact rest)
      new found =
      let o : parameter_of (type.Var q) ≡ Some q = parameter_of-variable q in
      let both_are : cover ∷ tests'
      ≡ not (list_any (eqb q) earlier) ∷ first_places (q ∷ earlier) (map parameter_of others) =
      tests_are ∙ ap (λ x. first_places earlier (x ∷ map parameter_of others)) o in
      let cover_is : cover ≡ not (list_any (eqb q) earlier) = cc in
      let others_are : tests' ≡ first_places (q ∷ earlier) (map parameter_of others) = cc in
      let m_is : m ≡ member_of s members (type.Var q) = cc in
      let ms_is : ms' ≡ map (member_of s members) others = cc in
      rw o (first_or_later q v m e cover earlier (map parameter_of others) values' new exact
      (eqb p q) refl cover_is m_is
      (subst (λ x. IsTrue (is_parameter p x || list_any (is_parameter p)
      (map parameter_of others))) o found)
      (λ differs there. cover_is_exact (q ∷ earlier) others hs tests' values' ms' elements'
      others_are ms_is rest (ap (λ y. y || list_any (eqb p) earlier) differs ∙ new) there))
  cover_is_exact earlier types (more_types ty others (type_apply i constructor cs at all formed)
      hs) tests values ms elements tests_are ms_are
      (more_arguments cover v m e tests' values' ms' elements' placed exact rest) new found =
      let o : parameter_of (type.Apply i cs) ≡ None = parameter_of-apply i cs in
      let both_are : cover ∷ tests' ≡ false ∷ first_places earlier (map parameter_of others) =
      tests_are ∙ ap (λ x. first_places earlier (x ∷ map parameter_of others)) o in
      let others_are : tests' ≡ first_places earlier (map parameter_of others) = cc in
      let ms_is : ms' ≡ map (member_of s members) others = cc in
      rw o (cover_is_exact earlier others hs tests' values' ms' elements' others_are ms_is rest new
      (subst (λ x. IsTrue (is_parameter p x || list_any (is_parameter p)
      (map parameter_of others))) o found))
