-- What literals and binders of a translation say, in structures that correspond.
use Rattle.std.specs.Prelude.{ℕ, zero, suc, ◌+◌, ◌-◌, ◌≡◌, Bool, true, false, not, ◌&&◌, ◌||◌, List, [], ◌∷◌, map, eqb, get_or, slice_index, slice_get, Some, None, IsTrue, cond}
use Rattle.std.proofs.Common.{refl, sym, ap, ◌∙◌, subst, arith}
use Rattle.std.proofs.lemmas.Bool.{and_parts, and_from, or_left, or_right, false≢true, eq-eqb, eqb-true, ne_eqb, not-true}
use Rattle.std.proofs.lemmas.List.{map-append}
use Rattle.tf_core.specs.declared.ty.Ty.{Ty}
use Rattle.tf_core.specs.declared.term.Term.{Term}
use Rattle.tf_core.specs.declared.nnf.Nnf.TheVariants as nnf
use Rattle.tf_core.specs.declared.signature.Symbol.{Symbol}
use Rattle.tf_core.specs.declared.signature.Signature.{Signature}
use Rattle.tf_core.specs.Types.{instantiate}
use Rattle.tf_core.specs.Typing.{IsType, IsInstance, HasType, IsAtom, IsEquation, IsSignature}
use Rattle.tf_core.specs.Structures.{Typed, member_of}
use Rattle.tf_core.specs.Truth as typed
use Rattle.tf_core.specs.Truth.{signed, holds_at}
use Rattle.fof_models.specs.declared.formula.FofTerm.{FofTerm}
use Rattle.fof_models.specs.declared.formula.Fof.{Fof}
use Rattle.fof_models.specs.declared.formula.Fof.TheVariants as fof
use Rattle.fof_models.specs.Structures.{Untyped}
use Rattle.fof_models.specs.Truth as untyped
use Rattle.fof_models.proofs.Truth as untyped_proofs
use Rattle.tf_naked.specs.Covers.{covers, covers_of}
use Rattle.tf_naked.specs.declared.position.Position.{Position}
use Rattle.tf_naked.specs.declared.position.Position.TheVariants.{Side}
use Rattle.tf_naked.specs.declared.position.Kind.{Kind}
use Rattle.tf_naked.specs.declared.position.Kind.TheVariants.{Universal}
use Rattle.tf_naked.specs.Standing.{stands_in_arguments, stands_in_side, standing, stands}
use Rattle.tf_naked.proofs.Standing.{stands-atom, stands-equation}
use Rattle.enc_marks.specs.Choices.{Choices}
use Rattle.enc_marks.specs.Translation.{Numbers, type_term, selected, literal, arguments, arguments_of, bare, side}
use Rattle.enc_laws.specs.Relations.{Relations, needed, TypesAre}
use Rattle.enc_laws.specs.Corresponds.{Corresponds, Reads}
use Rattle.enc_laws.proofs.Terms.{IsPlaced, value-placed, covers_count, application_is, arguments_typed, term_reads, arguments_read}

pub implies_from : (a b : Bool) → (IsTrue a → IsTrue b) → IsTrue (not a || b)
implies_from true b h = h refl
implies_from false b h = refl

pub implied : (a b : Bool) → IsTrue a → IsTrue (not a || b) → IsTrue b
implied true b held h = h
implied false b held h = absurd (false≢true held)

pub not_from : (a : Bool) → (IsTrue a → ⊥) → not a ≡ true
not_from true h = absurd (h refl)
not_from false h = refl

-- an optional premise of a formula, and an optional conjunct

pub premised_from : (j : Untyped) (b : Bool) (p q : Fof) (assignment : List ℕ) →
    ((b ≡ true → IsTrue (untyped.truth j p assignment)) → IsTrue (untyped.truth j q assignment)) →
    IsTrue (untyped.truth j (cond b (fof.Implies p q) q) assignment)
premised_from j true p q assignment h =
    untyped_proofs.truth-implies j p q assignment ∙ implies_from _ _ (λ e. h (λ _. e))
premised_from j false p q assignment h = h (λ e. absurd (false≢true e))

pub premised : (j : Untyped) (b : Bool) (p q : Fof) (assignment : List ℕ) →
    IsTrue (untyped.truth j (cond b (fof.Implies p q) q) assignment) →
    (b ≡ true → IsTrue (untyped.truth j p assignment)) → IsTrue (untyped.truth j q assignment)
premised j true p q assignment h e =
    implied _ _ (e refl) (sym (untyped_proofs.truth-implies j p q assignment) ∙ h)
premised j false p q assignment h e = h

pub joined_from : (j : Untyped) (b : Bool) (p q : Fof) (assignment : List ℕ) →
    (b ≡ true → IsTrue (untyped.truth j p assignment)) → IsTrue (untyped.truth j q assignment) →
    IsTrue (untyped.truth j (cond b (fof.And (p ∷ q ∷ [])) q) assignment)
joined_from j true p q assignment e h =
    untyped_proofs.truth-and j (p ∷ q ∷ []) assignment
    ∙ and_from _ _ (e refl) (and_from _ true h refl)
joined_from j false p q assignment e h = h

pub joined : (j : Untyped) (b : Bool) (p q : Fof) (assignment : List ℕ) →
    IsTrue (untyped.truth j (cond b (fof.And (p ∷ q ∷ [])) q) assignment) →
    (b ≡ true → IsTrue (untyped.truth j p assignment)) × IsTrue (untyped.truth j q assignment)
joined j true p q assignment h =
    let two = and_parts (untyped.truth j p assignment) (untyped.truth j q assignment && true)
    (sym (untyped_proofs.truth-and j (p ∷ q ∷ []) assignment) ∙ h) in
    (λ _. two.0, (and_parts (untyped.truth j q assignment) true two.1).0)
joined j false p q assignment h = (λ e. absurd (false≢true e), h)

pub TypesAre-more : (r : Relations) (variables depth : ℕ) (members assignment : List ℕ) (v : ℕ) →
    TypesAre r variables depth members assignment →
    TypesAre r variables (depth + 1) members (v ∷ assignment)
TypesAre-more r variables depth members assignment v are = record {
  deep = omega (arith, are.deep);
  is = λ i within.
      let deep = are.deep in
      let e : depth + 1 - (i + 1) ≡ suc (depth - (i + 1)) = omega arith in
      rw e (are.is i within);
}

module _ (c : Choices) (k : Numbers) (g : Signature) (s : Typed) (j : Untyped) (r : Relations) where
  pub Reads-less : (variables depth : ℕ) (context : List Ty) (kinds : List Kind)
      (members elements assignment : List ℕ) (at fewer : (Position → Bool) → ℕ → Bool) →
      ((test : Position → Bool) (i : ℕ) → IsTrue (fewer test i) → IsTrue (at test i)) →
      Reads c k g s j r variables depth context kinds members elements assignment at →
      Reads c k g s j r variables depth context kinds members elements assignment fewer
  Reads-less variables depth context kinds members elements assignment at fewer less read = record {
    types = read.types;
    terms = read.terms;
    goods = read.goods;
    exacts = λ i ty is h. read.exacts i ty is (less _ i h);
  }

  -- under one more binder
  pub Reads-more : (variables depth : ℕ) (context : List Ty) (kinds : List Kind)
      (members elements assignment : List ℕ) (at inner : (Position → Bool) → ℕ → Bool) (ty : Ty)
      (kind : Kind) (v e : ℕ) →
      ((test : Position → Bool) (i : ℕ) → at test i ≡ inner test (i + 1)) →
      Reads c k g s j r variables depth context kinds members elements assignment at →
      r.good ty → r.reads v (member_of s members ty) e →
      (IsTrue (inner (needed c r kind ty) 0) → r.exact v (member_of s members ty) e) →
      Reads c k g s j r variables (depth + 1) (ty ∷ context) (kind ∷ kinds) members
      (e ∷ elements) (v ∷ assignment) inner
  Reads-more variables depth context kinds members elements assignment at inner ty kind v e same
      read
      good reads exact = record {
        types = TypesAre-more r variables depth members assignment v read.types;
        terms = terms;
        goods = goods;
        exacts = exacts;
      }
    where
      terms : (i : ℕ) (u : Ty) → slice_get (ty ∷ context) i ≡ Some u →
          r.reads (slice_index (v ∷ assignment) i) (member_of s members u)
          (slice_index (e ∷ elements) i)
      terms zero u is =
          subst (λ y. r.reads v (member_of s members y) e) (let z : ty ≡ u = cc in z) reads
      terms (suc i) u is = read.terms i u is

      goods : (i : ℕ) (u : Ty) → slice_get (ty ∷ context) i ≡ Some u → r.good u
      goods zero u is = subst r.good (let z : ty ≡ u = cc in z) good
      goods (suc i) u is = read.goods i u is

      exacts : (i : ℕ) (u : Ty) → slice_get (ty ∷ context) i ≡ Some u →
          IsTrue (inner (needed c r (get_or (kind ∷ kinds) i Universal) u) i) →
          r.exact (slice_index (v ∷ assignment) i) (member_of s members u)
          (slice_index (e ∷ elements) i)
      exacts zero u is h =
          let z : u ≡ ty = cc in
          subst (λ y. r.exact v (member_of s members y) e) (sym z)
          (exact (subst (λ y. IsTrue (inner (needed c r kind y) 0)) z h))
      exacts (suc i) u is h =
          let z : suc i ≡ i + 1 = omega arith in
          read.exacts i u is
          (same _ i ∙ subst (λ y. IsTrue (inner (needed c r (get_or kinds i Universal) u) y)) z h)

module _ (c : Choices) (k : Numbers) (g : Signature) (s : Typed) (j : Untyped) (r : Relations)
    (sound : IsSignature g) (both : Corresponds c k g s j r) where
  pub truth-atom : (variables : ℕ) (context : List Ty) (positive : Bool) (f : ℕ) (symbol : Symbol)
      (types : List Ty) (terms : List Term) →
      IsAtom g variables context f symbol types terms →
      (depth : ℕ) (kinds : List Kind) (members elements assignment : List ℕ) →
      Reads c k g s j r variables depth context kinds members elements assignment
      (λ test i. stands g test (nnf.Atom positive f types terms) i) →
      untyped.truth j
      (fof.Atom (k.symbol f)
      (arguments_of c k g depth f types (map (bare c k g depth kinds) terms)))
      assignment
      ≡ holds_at s members elements f types terms
  truth-atom variables context positive f symbol types terms is depth kinds members elements
      assignment read =
      let instance : IsInstance g variables f symbol None types = is.predicate in
      let at : (Position → Bool) → ℕ → Bool =
      λ test i. stands g test (nnf.Atom positive f types terms) i in
      let within : (test : Position → Bool) (i : ℕ) →
      IsTrue (stands_in_arguments test (covers symbol) (map (standing g test) terms) i) →
      IsTrue (at test i) = λ test i h.
      stands-atom g test positive f types terms i
      ∙ ap (λ o. stands_in_arguments test (covers_of o) (map (standing g test) terms) i) instance.at
      ∙ h in
      let applied = application_is c k g s j r sound both variables f symbol types _ _ instance.at
      instance.count instance.formed depth members assignment read.types
      (arguments_read c k g s j r sound both variables context terms
      (map (instantiate types) symbol.arguments) is.arguments (covers symbol)
      (covers_count c k g s j r sound both symbol types)
      (arguments_typed c k g s j r sound both variables f symbol types instance.at instance.count
      instance.formed)
      depth kinds members elements assignment at read within) in
      untyped_proofs.truth-atom j (k.symbol f)
      (arguments_of c k g depth f types (map (bare c k g depth kinds) terms)) assignment
      ∙ ap (λ o. eqb (j.symbol_at (k.symbol f) (map (untyped.value j assignment)
      (arguments c k g depth o types (map (bare c k g depth kinds) terms)))) 1) instance.at
      ∙ ap (λ l. eqb (j.symbol_at (k.symbol f) l) 1)
      (map-append (untyped.value j assignment)
      (map (type_term k.constructor depth) (selected (c.keeps symbol) types)) _)
      ∙ ap (λ x. eqb x 1)
      (both.predicates f symbol _ _ (map (member_of s members) types)
      (map (typed.value s members elements) terms) instance.at instance.gives applied)

  -- a side of an equation
  side_is : (variables : ℕ) (context : List Ty) (positive : Bool) (ty : Ty) (left right t : Term) →
      IsType g variables ty → HasType g variables context t ty →
      (depth : ℕ) (kinds : List Kind) (members elements assignment : List ℕ) →
      Reads c k g s j r variables depth context kinds members elements assignment
      (λ test i. stands g test (nnf.Equation positive ty left right) i) →
      ((test : Position → Bool) (i : ℕ) →
      IsTrue (stands_in_side test positive (standing g test t) i) →
      IsTrue (stands g test (nnf.Equation positive ty left right) i)) →
      IsPlaced c k g s j r sound both (Side positive)
      (untyped.value j assignment (side c k g depth kinds positive ty t)) (member_of s members ty)
      (typed.value s members elements t)
  side_is variables context positive ty left right t formed has depth kinds members elements
      assignment read here =
      let at : (Position → Bool) → ℕ → Bool =
      λ test i. stands g test (nnf.Equation positive ty left right) i in
      value-placed c k g s j r sound both variables depth (Side positive) ty t
      (bare c k g depth kinds t) members assignment (typed.value s members elements t) at formed
      read.types
      (term_reads c k g s j r sound both variables context t ty has depth kinds members elements
      assignment at read (λ test i q. here test i (or_right _ _ q)))
      (λ test i q. here test i (or_left _ _ q))

  pub left_is : (variables : ℕ) (context : List Ty) (positive : Bool) (ty : Ty)
      (left right : Term) → IsEquation g variables context ty left right →
      (depth : ℕ) (kinds : List Kind) (members elements assignment : List ℕ) →
      Reads c k g s j r variables depth context kinds members elements assignment
      (λ test i. stands g test (nnf.Equation positive ty left right) i) →
      IsPlaced c k g s j r sound both (Side positive)
      (untyped.value j assignment (side c k g depth kinds positive ty left))
      (member_of s members ty) (typed.value s members elements left)
  left_is variables context positive ty left right is depth kinds members elements assignment read =
      side_is variables context positive ty left right left is.formed is.left_side depth kinds
      members elements assignment read
      (λ test i q. stands-equation g test positive ty left right i ∙ or_left _ _ q)

  pub right_is : (variables : ℕ) (context : List Ty) (positive : Bool) (ty : Ty)
      (left right : Term) → IsEquation g variables context ty left right →
      (depth : ℕ) (kinds : List Kind) (members elements assignment : List ℕ) →
      Reads c k g s j r variables depth context kinds members elements assignment
      (λ test i. stands g test (nnf.Equation positive ty left right) i) →
      IsPlaced c k g s j r sound both (Side positive)
      (untyped.value j assignment (side c k g depth kinds positive ty right))
      (member_of s members ty) (typed.value s members elements right)
  right_is variables context positive ty left right is depth kinds members elements assignment
      read =
      side_is variables context positive ty left right right is.formed is.right_side depth kinds
      members elements assignment read
      (λ test i q. stands-equation g test positive ty left right i ∙ or_right _ _ q)

  pub truth-literal : (positive : Bool) (p : Fof) (assignment : List ℕ) (held : Bool) →
      untyped.truth j p assignment ≡ held →
      untyped.truth j (literal positive p) assignment ≡ signed positive held
  truth-literal true p assignment held h = h
  truth-literal false p assignment held h = untyped_proofs.truth-not j p assignment ∙ ap not h

  -- equal elements, and equal numbers

  pub equation_forward : (positive : Bool) (x y : FofTerm) (assignment : List ℕ) (m e f : ℕ) →
      r.strict (Side true) ≡ true →
      IsPlaced c k g s j r sound both (Side positive) (untyped.value j assignment x) m e →
      IsPlaced c k g s j r sound both (Side positive) (untyped.value j assignment y) m f →
      IsTrue (signed positive (eqb e f)) →
      IsTrue (untyped.truth j (literal positive (fof.Equal x y)) assignment)
  equation_forward true x y assignment m e f strict left right h =
      let same = subst (λ a. r.exact (untyped.value j assignment x) m a) (eqb-true _ _ h)
      (left.exact strict) in
      untyped_proofs.truth-equal j x y assignment
      ∙ eq-eqb _ _ (both.same _ _ m f same (right.exact strict))
  equation_forward false x y assignment m e f strict left right h =
      untyped_proofs.truth-not j (fof.Equal x y) assignment
      ∙ ap not (untyped_proofs.truth-equal j x y assignment ∙ ne_eqb _ _ (λ q.
      false≢true (sym (not-true _ h)
      ∙ eq-eqb _ _ (both.one _ m e f left.placed
      (subst (λ a. r.placed a m f) (sym q) right.placed)))))

  pub equation_back : (positive : Bool) (x y : FofTerm) (assignment : List ℕ) (m e f : ℕ) →
      r.strict (Side false) ≡ true →
      IsPlaced c k g s j r sound both (Side positive) (untyped.value j assignment x) m e →
      IsPlaced c k g s j r sound both (Side positive) (untyped.value j assignment y) m f →
      IsTrue (untyped.truth j (literal positive (fof.Equal x y)) assignment) →
      IsTrue (signed positive (eqb e f))
  equation_back true x y assignment m e f strict left right h =
      let q = eqb-true _ _ (sym (untyped_proofs.truth-equal j x y assignment) ∙ h) in
      eq-eqb _ _ (both.one _ m e f left.placed (subst (λ a. r.placed a m f) (sym q) right.placed))
  equation_back false x y assignment m e f strict left right h =
      let differs = not-true _ (sym (ap not (untyped_proofs.truth-equal j x y assignment))
      ∙ (sym (untyped_proofs.truth-not j (fof.Equal x y) assignment) ∙ h)) in
      not_from _ (λ q. false≢true (sym differs
      ∙ eq-eqb _ _ (both.same _ _ m f
      (subst (λ a. r.exact (untyped.value j assignment x) m a) (eqb-true _ _ q) (left.exact strict))
      (right.exact strict))))
