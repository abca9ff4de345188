-- The schemes whose marks have the type as an argument bind each variable that has to be exact.
use Rattle.std.specs.Prelude.{ℕ, zero, suc, ◌+◌, ◌≡◌, Bool, true, false, not, ◌&&◌, ◌||◌, List, [], ◌∷◌, map, length, replicate, cond, is_none, position, slice_get, Option, Some, None, IsTrue}
use Rattle.std.specs.List.{AllByRecursion, list_any, range_with_len, position_or_len}
use Rattle.std.proofs.Common.{refl, sym, ap, ◌∙◌, subst, arith, ⊎_elim}
use Rattle.std.proofs.lemmas.Bool.{or_cases, false≢true, le-ltb}
use Rattle.std.proofs.lemmas.List.FromFn.{length-map-range_with_len}
use Rattle.std.proofs.Math.Path.{fun_ext}
use Rattle.tf_core.specs.declared.term.Term.{Term}
use Rattle.tf_core.specs.declared.nnf.Nnf.{Nnf}
use Rattle.tf_core.specs.declared.signature.Symbol.{Symbol}
use Rattle.tf_core.specs.declared.signature.Signature.{Signature}
use Rattle.tf_core.specs.declared.normal.Normal.{Normal}
use Rattle.tf_core.specs.Structures.{Typed}
use Rattle.tf_core.proofs.Induction.{term_induction}
use Rattle.tf_core.proofs.FormulaInduction.{nnf_induction}
use Rattle.tf_naked.specs.Covers.{is_parameter, argument_parameters, cover_of, kept_parameters, covers_of}
use Rattle.tf_naked.specs.declared.position.Position.{Position}
use Rattle.tf_naked.specs.declared.position.Position.TheVariants.{Argument, Side}
use Rattle.tf_naked.specs.declared.position.Kind.TheVariants.{Universal}
use Rattle.tf_naked.specs.Standing.{is_covering, Standing, stands_in_arguments, standing, stands}
use Rattle.tf_naked.proofs.Standing.{standing-variable, standing-apply, stands-true, stands-false, stands-atom, stands-equation, stands-and, stands-or, stands-for_all, stands-exists}
use Rattle.enc_marks.specs.declared.choices.Domain.TheVariants.{Merged}
use Rattle.enc_marks.specs.declared.scheme.Scheme.{Scheme}
use Rattle.enc_marks.specs.declared.scheme.Scheme.TheVariants as scheme
use Rattle.enc_marks.specs.Schemes.{guards, tags, guards_cover, tags_cover, choices_of}
use Rattle.enc_laws.specs.Relations.{needed}
use Rattle.enc_laws.proofs.CoversRead.{AreCovered, no_parameters, kept, dropped, AreCovered-all}
use Rattle.enc_laws.proofs.Stamped.{stamped, MergesByType}

-- no variable stands at a position where nothing passes

abbrev nowhere : Position → Bool
nowhere position = false

module _ (g : Signature) where
  abbrev IsNever : Term → Type 0
  IsNever t = (i : ℕ) → IsTrue ((standing g nowhere t).inside i) → ⊥

  arguments_never : (tests : List Bool) (terms : List Term) (i : ℕ) →
      AllByRecursion IsNever terms →
      IsTrue (stands_in_arguments nowhere tests (map (standing g nowhere) terms) i) → ⊥
  arguments_never [] terms i never h = false≢true h
  arguments_never (test ∷ tests) [] i never h = false≢true h
  arguments_never (test ∷ tests) (t ∷ terms) i never h =
      ⊎_elim (λ x. never.0 i x) (λ x. arguments_never tests terms i never.1 x) (or_cases _ _ h)

  term_never : (t : Term) → IsNever t
  term_never = term_induction IsNever
      (λ n i h. false≢true (sym (ap (λ (z : Standing). z.inside i) (standing-variable g nowhere n))
      ∙ h))
      (λ f types terms never i h.
      arguments_never (covers_of (slice_get g.symbols f)) terms i never
      (sym (ap (λ (z : Standing). z.inside i) (standing-apply g nowhere f types terms)) ∙ h))

  all_never : (terms : List Term) → AllByRecursion IsNever terms
  all_never [] = tt
  all_never (t ∷ terms) = (term_never t, all_never terms)

  abbrev IsNowhere : Nnf → Type 0
  IsNowhere p = (i : ℕ) → IsTrue (stands g nowhere p i) → ⊥

  any_nowhere : (parts : List Nnf) (i : ℕ) → AllByRecursion IsNowhere parts →
      IsTrue (list_any (λ part. stands g nowhere part i) parts) → ⊥
  any_nowhere [] i never h = false≢true h
  any_nowhere (p ∷ parts) i never h =
      ⊎_elim (λ x. never.0 i x) (λ x. any_nowhere parts i never.1 x) (or_cases _ _ h)

  stands_nowhere : (p : Nnf) (i : ℕ) → IsTrue (stands g nowhere p i) → ⊥
  stands_nowhere = nnf_induction IsNowhere (record {
    on_true = λ i h. false≢true (sym (stands-true g nowhere i) ∙ h);
    on_false = λ i h. false≢true (sym (stands-false g nowhere i) ∙ h);
    on_atom = λ positive f types terms i h.
        arguments_never (covers_of (slice_get g.symbols f)) terms i (all_never terms)
        (sym (stands-atom g nowhere positive f types terms i) ∙ h);
    on_equation = λ positive ty left right i h.
        ⊎_elim (λ x. term_never left i x) (λ x. term_never right i x)
        (or_cases _ _ (sym (stands-equation g nowhere positive ty left right i) ∙ h));
    on_and = λ parts never i h. any_nowhere parts i never (sym (stands-and g nowhere parts i) ∙ h);
    on_or = λ parts never i h. any_nowhere parts i never (sym (stands-or g nowhere parts i) ∙ h);
    on_for_all = λ ty body never i h. never (i + 1) (sym (stands-for_all g nowhere ty body i) ∙ h);
    on_exists = λ ty body never i h. never (i + 1) (sym (stands-exists g nowhere ty body i) ∙ h);
  })

  pub never_stands : (test : Position → Bool) → ((p : Position) → test p ≡ false) → (p : Nnf) (i : ℕ) →
      IsTrue (stands g test p i) → ⊥
  never_stands test none p i h =
      stands_nowhere p i (subst (λ x. IsTrue (stands g x p i)) (fun_ext none) h)

  pub same_stands : (test other : Position → Bool) → ((p : Position) → test p ≡ other p) →
      (p : Nnf) (i : ℕ) → IsTrue (stands g test p i) → IsTrue (stands g other p i)
  same_stands test other same p i h = subst (λ x. IsTrue (stands g x p i)) (fun_ext same) h

and_true : (a : Bool) → (a && true) ≡ a
and_true true = refl
and_true false = refl

and_false : (a : Bool) → (a && false) ≡ false
and_false true = refl
and_false false = refl

length-all : (n : ℕ) → length (replicate n true) ≡ n
length-all zero = refl
length-all (suc n) = ap suc (length-all n)

-- which parameters have no cover

position_or_len-more : {A : Type 0} (test : A → Bool) (items : List A) (b : Bool) →
    (b || list_any test items) ≡ false →
    (list_any test items ≡ false → position_or_len test items ≡ length items) →
    cond (not b) (1 + position_or_len test items) 0 ≡ suc (length items)
position_or_len-more test items true none rest = absurd (false≢true (sym none))
position_or_len-more test items false none rest =
    let same = rest none in
    omega (arith, same)

position_or_len-none : {A : Type 0} (test : A → Bool) (items : List A) → list_any test items
    ≡ false →
    position_or_len test items ≡ length items
position_or_len-none test [] none = refl
position_or_len-none test (item ∷ items) none =
    position_or_len-more test items (test item) none
    (λ others. position_or_len-none test items others)

position-none : {A : Type 0} (test : A → Bool) (items : List A) → list_any test items ≡ false →
    is_none (position test items) ≡ true
position-none test items none =
    let at = position_or_len-none test items none in
    ap (λ b. is_none (cond b (Some (position_or_len test items)) None))
    (le-ltb (position_or_len test items) (length items) (omega (arith, at)))

has_cover : (p : ℕ) (places : List (Option ℕ)) → is_none (position (is_parameter p) places)
    ≡ false →
    (b : Bool) → list_any (is_parameter p) places ≡ b → IsTrue (list_any (is_parameter p) places)
has_cover p places found true is = is
has_cover p places found false is =
    absurd (false≢true (sym found ∙ position-none (is_parameter p) places is))

AreCovered-more : (p : ℕ) (places : List (Option ℕ)) (keeps : List Bool) →
    AreCovered places keeps (p + 1) →
    (b : Bool) → is_none (position (is_parameter p) places) ≡ b → AreCovered places (b ∷ keeps) p
AreCovered-more p places keeps rest true is = kept keeps p rest
AreCovered-more p places keeps rest false is =
    dropped keeps p (has_cover p places is (list_any (is_parameter p) places) refl) rest

AreCovered-kept : (symbol : Symbol) (count p : ℕ) →
    AreCovered (argument_parameters symbol)
    (map (λ parameter. is_none (cover_of symbol parameter)) (range_with_len p count)) p
AreCovered-kept symbol zero p = no_parameters p
AreCovered-kept symbol (suc count) p =
    AreCovered-more p (argument_parameters symbol) _ (AreCovered-kept symbol count (p + 1))
    (is_none (cover_of symbol p)) refl

length-kept : (symbol : Symbol) → length (kept_parameters symbol) ≡ symbol.parameters
length-kept symbol =
    length-map-range_with_len (λ parameter. is_none (cover_of symbol parameter)) 0 symbol.parameters

pub guards_by_type : (g : Signature) (s : Typed) → MergesByType guards g s
guards_by_type g s = record {
  marking = refl;
  covered = λ symbol. AreCovered-all symbol.parameters 0 (argument_parameters symbol);
  keeps = λ symbol. length-all symbol.parameters;
  tags = λ position kind ty tagged. absurd (false≢true tagged);
  arguments = λ ty untagged. refl;
  binds = λ ty body h. refl;
}

pub tags_by_type : (g : Signature) (s : Typed) → MergesByType tags g s
tags_by_type g s = record {
  marking = refl;
  covered = λ symbol. AreCovered-all symbol.parameters 0 (argument_parameters symbol);
  keeps = λ symbol. length-all symbol.parameters;
  tags = λ position kind ty tagged. refl;
  arguments = λ ty untagged. absurd (false≢true (sym untagged));
  binds = λ ty body h. absurd (never_stands g (needed tags (stamped s) Universal ty)
      (λ p. and_false (is_covering p)) body 0 h);
}

pub guards_cover_by_type : (g : Signature) (s : Typed) → MergesByType guards_cover g s
guards_cover_by_type g s = record {
  marking = refl;
  covered = λ symbol. AreCovered-kept symbol symbol.parameters 0;
  keeps = length-kept;
  tags = λ position kind ty tagged. absurd (false≢true tagged);
  arguments = λ ty untagged. refl;
  binds = λ ty body h. same_stands g (needed guards_cover (stamped s) Universal ty) is_covering
      (λ p. and_true (is_covering p)) body 0 h;
}

covered_never : (p : Position) → (is_covering p && not (is_covering p && true)) ≡ false
covered_never (Argument true) = refl
covered_never (Argument false) = refl
covered_never (Side true) = refl
covered_never (Side false) = refl

pub tags_cover_by_type : (g : Signature) (s : Typed) → MergesByType tags_cover g s
tags_cover_by_type g s = record {
  marking = refl;
  covered = λ symbol. AreCovered-kept symbol symbol.parameters 0;
  keeps = length-kept;
  tags = λ position kind ty tagged. refl;
  arguments = λ ty untagged. absurd (false≢true (sym untagged));
  binds = λ ty body h.
      absurd (never_stands g (needed tags_cover (stamped s) Universal ty) covered_never body 0 h);
}

-- the schemes whose domain is the merged one
pub merges_by_type : (which : Scheme) (normal : Normal) (s : Typed) →
    (choices_of which normal).domain ≡ Merged →
    MergesByType (choices_of which normal) normal.signature s
merges_by_type scheme.Guards normal s merged = guards_by_type normal.signature s
merges_by_type scheme.Tags normal s merged = tags_by_type normal.signature s
merges_by_type scheme.GuardsCover normal s merged = guards_cover_by_type normal.signature s
merges_by_type scheme.TagsCover normal s merged = tags_cover_by_type normal.signature s
merges_by_type scheme.Args normal s merged = cc
merges_by_type scheme.Erase normal s merged = cc
merges_by_type scheme.GuardsLight normal s merged = cc
merges_by_type scheme.TagsLight normal s merged = cc
merges_by_type scheme.GuardsFeather normal s merged = cc
merges_by_type scheme.TagsFeather normal s merged = cc
