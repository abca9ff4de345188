-- The merged structure forward: what its binders and its axioms say.
use Rattle.std.specs.Prelude.{ℕ, ◌+◌, ◌-◌, ◌<◌, ◌≤◌, ◌≡◌, Bool, true, false, ◌&&◌, List, [], ◌∷◌, cond, eqb, ltb, length, slice_index, IsTrue}
use Rattle.std.proofs.Common.{refl, sym, ap, ◌∙◌, subst, arith, ⊎_elim}
use Rattle.std.proofs.lemmas.Bool.{and_parts, and_from, cond-true, cond-false, cases_lt, eq-eqb, eqb-true, lt-ltb, le-ltb, false≢true}
use Rattle.enc_base.proofs.Quantifiers.{all_below-from, some_below-from}
use Rattle.tf_core.specs.declared.ty.Ty.{Ty}
use Rattle.tf_core.specs.declared.ty.Ty.TheVariants as type
use Rattle.tf_core.specs.declared.nnf.Nnf.{Nnf}
use Rattle.tf_core.specs.declared.signature.Signature.{Signature}
use Rattle.tf_core.specs.Typing.{IsSignature, IsType}
use Rattle.tf_core.specs.Structures.{Typed, member_count, member_of, IsStructure}
use Rattle.fof_models.specs.declared.formula.FofTerm.{FofTerm}
use Rattle.fof_models.specs.declared.formula.FofTerm.TheVariants as term
use Rattle.fof_models.specs.Structures.{Untyped}
use Rattle.fof_models.specs.Truth.{value, truth}
use Rattle.fof_models.proofs.Truth.{value-variable, truth-atom, truth-equal, truth-for_all, truth-exists}
use Rattle.tf_naked.specs.declared.position.Position.TheVariants.{Argument}
use Rattle.tf_naked.specs.declared.position.Kind.TheVariants.{Universal}
use Rattle.tf_naked.specs.Standing.{is_covering}
use Rattle.enc_marks.specs.declared.choices.Binding.{Binding}
use Rattle.enc_marks.specs.declared.choices.Marking.TheVariants.{ByType, BySort}
use Rattle.enc_marks.specs.declared.choices.Binding.TheVariants.{ByGuard, ByTag}
use Rattle.enc_marks.specs.Choices.{Choices}
use Rattle.enc_marks.specs.Translation.{Numbers, type_term, tag, guard_by, bind_by, bind}
use Rattle.enc_marks.specs.Axioms.{last_axiom}
use Rattle.enc_marks.proofs.Translation.{type_term-variable}
use Rattle.enc_laws.specs.Relations.{TypesAre}
use Rattle.enc_laws.specs.Directions.{Forward}
use Rattle.enc_laws.specs.ForwardAxioms.{ForwardAxioms}
use Rattle.tf_stamp.specs.Merged.{merged_size, stamp, is_stamp, member_in, element_in}
use Rattle.tf_stamp.proofs.Merged.{member_in-stamp, stamp-parts, member_in-within}
use Rattle.enc_laws.proofs.Selected.{all_same}
use Rattle.enc_laws.proofs.Literals.{TypesAre-more}
use Rattle.enc_laws.proofs.Terms.{type_reads}
use Rattle.enc_laws.proofs.Stamped.{IsMemberRead, IsElement, IsStamp, stamped, IsMerged, MergesByType, stamp-below, stamp-element, size_within, element_of, value-tag, corresponds}

one_is : (b : Bool) → eqb (cond b 1 0) 1 ≡ b
one_is true = refl
one_is false = refl

is_stamp-past : (sizes : List ℕ) (v : ℕ) → IsTrue (is_stamp sizes v) → length sizes ≤ v
is_stamp-past sizes v h =
    ⊎_elim
    (λ l. absurd (false≢true
    (sym (cond-true (ltb v (length sizes)) false true (lt-ltb v (length sizes) l)) ∙ h)))
    (λ l. l) (cases_lt v (length sizes))

is_stamp-from : (sizes : List ℕ) (v : ℕ) → length sizes ≤ v → is_stamp sizes v ≡ true
is_stamp-from sizes v l =
    cond-false (ltb v (length sizes)) false true (le-ltb v (length sizes) l)

module _ (c : Choices) (k : Numbers) (g : Signature) (s : Typed) (j : Untyped)
    (sound : IsSignature g) (structure : IsStructure g s) (by : MergesByType c g s)
    (low : IsMerged c k g s j) where
  stamp_of : (v m : ℕ) → length s.sizes ≤ v → v < merged_size s.sizes →
      member_in s.sizes v ≡ m → IsStamp s v m (element_in s.sizes v m)
  stamp_of v m past below e =
      let p = stamp-parts s.sizes v past below in
      let q = p.is in
      subst (λ x. IsStamp s v x (element_in s.sizes v x)) e
      (record { is = omega (arith, q, past); within = p.within; below = p.below })

  truth-guard : (depth : ℕ) (ty : Ty) (t : FofTerm) (assignment : List ℕ) (m : ℕ) →
      c.binding ≡ ByGuard →
      IsMemberRead s (value j assignment (type_term k.constructor depth ty)) m →
      truth j (bind c k g depth ty t) assignment
      ≡ (is_stamp s.sizes (value j assignment t)
      && eqb (member_in s.sizes (value j assignment t)) m)
  truth-guard depth ty t assignment m binding read =
      ap (λ z. truth j (bind_by z c.marking k depth ty t) assignment) binding
      ∙ ap (λ z. truth j (guard_by z k depth ty t) assignment) by.marking
      ∙ truth-atom j k.shared (type_term k.constructor depth ty ∷ t ∷ []) assignment
      ∙ ap (λ z. eqb z 1) (low.guard binding _ _) ∙ one_is _
      ∙ ap (λ z. is_stamp s.sizes (value j assignment t)
      && eqb (member_in s.sizes (value j assignment t)) z) read.is

  truth-tag : (depth : ℕ) (ty : Ty) (t : FofTerm) (assignment : List ℕ) → c.binding ≡ ByTag →
      truth j (bind c k g depth ty t) assignment
      ≡ eqb (value j assignment (tag c k g depth ty t)) (value j assignment t)
  truth-tag depth ty t assignment binding =
      ap (λ z. truth j (bind_by z c.marking k depth ty t) assignment) binding
      ∙ truth-equal j (tag c k g depth ty t) t assignment

  -- what is bound to a type is the stamp of its member, and what is such a stamp is bound

  bound_exact : (depth : ℕ) (ty : Ty) (t : FofTerm) (assignment : List ℕ) (m : ℕ) →
      IsMemberRead s (value j assignment (type_term k.constructor depth ty)) m →
      IsElement s (value j assignment t) m (element_in s.sizes (value j assignment t) m) →
      IsTrue (truth j (bind c k g depth ty t) assignment) → (b : Binding) → c.binding ≡ b →
      IsStamp s (value j assignment t) m (element_in s.sizes (value j assignment t) m)
  bound_exact depth ty t assignment m read element h ByGuard binding =
      let two = and_parts _ _ (sym (truth-guard depth ty t assignment m binding read) ∙ h) in
      stamp_of (value j assignment t) m (is_stamp-past s.sizes _ two.0) element.below
      (eqb-true _ _ two.1)
  bound_exact depth ty t assignment m read element h ByTag binding =
      let same = eqb-true _ _ (sym (truth-tag depth ty t assignment binding) ∙ h) in
      record {
        is = sym same
            ∙ value-tag c k g s j sound structure by low depth ty t assignment m
            (element_in s.sizes (value j assignment t) m) binding read element;
        within = size_within s.sizes m _ element.small;
        below = element.small;
      }

  bound_true : (depth : ℕ) (ty : Ty) (t : FofTerm) (assignment : List ℕ) (m e : ℕ) →
      IsMemberRead s (value j assignment (type_term k.constructor depth ty)) m →
      IsStamp s (value j assignment t) m e → (b : Binding) → c.binding ≡ b →
      IsTrue (truth j (bind c k g depth ty t) assignment)
  bound_true depth ty t assignment m e read h ByGuard binding =
      truth-guard depth ty t assignment m binding read
      ∙ and_from _ _ (is_stamp-from s.sizes _ (let q = h.is in omega (arith, q)))
      (eq-eqb _ m (ap (member_in s.sizes) h.is ∙ member_in-stamp s.sizes m e h.within h.below))
  bound_true depth ty t assignment m e read h ByTag binding =
      truth-tag depth ty t assignment binding
      ∙ eq-eqb _ _ (value-tag c k g s j sound structure by low depth ty t assignment m e binding
      read (stamp-element s _ m e h) ∙ sym h.is)

  -- a number that is read at a type's member
  element_at : (v m : ℕ) → v < j.size → m < member_count s →
      IsElement s v m (element_in s.sizes v m)
  element_at v m below within =
      element_of s v m (omega (arith, below, low.size)) within (structure.inhabited m within)

  member_within : (u m : ℕ) → IsMemberRead s u m → m < member_count s
  member_within u m read =
      subst (λ x. x < member_count s) read.is (member_in-within s.sizes u read.below)

  type_bound : (variables depth : ℕ) (ty : Ty) (members assignment : List ℕ) (v : ℕ) →
      IsType g variables ty → TypesAre (stamped s) variables depth members assignment →
      IsMemberRead s (value j (v ∷ assignment) (type_term k.constructor (depth + 1) ty))
      (member_of s members ty)
  type_bound variables depth ty members assignment v formed are =
      type_reads c k g s j (stamped s) sound (corresponds c k g s j sound structure by low)
      variables ty formed (depth + 1) members (v ∷ assignment)
      (TypesAre-more (stamped s) variables depth members assignment v are)

  pub forward : Forward c k g s j (stamped s) (λ p. p ≡ p)
  forward = record {
    passes = record {
      and = λ parts h. all_same (λ (p : Nnf). p) parts;
      or = λ parts h. all_same (λ (p : Nnf). p) parts;
      for_all = λ ty body h. (refl, refl);
      exists = λ ty body h. (refl, refl);
    };
    sides = refl;
    everywhere = λ variables depth ty body members assignment v at within bound.
        let m : ℕ = member_of s members ty in
        let read = type_bound variables depth ty members assignment v at.formed at.types in
        let element = element_at v m within (member_within _ m read) in
        let is : value j (v ∷ assignment) (term.Var 0) ≡ v = value-variable j (v ∷ assignment)
        0 in (
          element_in s.sizes v m,
          record {
            small = element.small;
            reads = element;
            exact = λ need.
                subst (λ x. IsStamp s x m (element_in s.sizes x m)) is
                (bound_exact (depth + 1) ty (term.Var 0) (v ∷ assignment) m read
                (subst (λ x. IsElement s x m (element_in s.sizes x m)) (sym is) element)
                (bound (by.binds ty body need)) c.binding refl);
          },
        );
    somewhere = λ variables depth ty body members assignment e at small.
        let m : ℕ = member_of s members ty in
        let v : ℕ = stamp s.sizes m e in
        let exact : IsStamp s v m e =
        record { is = refl; within = size_within s.sizes m e small; below = small } in
        let read = type_bound variables depth ty members assignment v at.formed at.types in
        let is : value j (v ∷ assignment) (term.Var 0) ≡ v = value-variable j (v ∷ assignment)
        0 in (
          v,
          omega (arith, stamp-below s v m e exact, low.size),
          record { small = small; reads = stamp-element s v m e exact; exact = λ need. exact },
          λ binds. bound_true (depth + 1) ty (term.Var 0) (v ∷ assignment) m e read
              (subst (λ x. IsStamp s x m e) (sym is) exact) c.binding refl,
        );
  }

  premise_of : (cover : Bool) (ty : Ty) → is_covering (Argument cover) ≡ true →
      c.tagged (Argument cover) Universal ty ≡ false → c.premise cover ty ≡ true
  premise_of true ty strict untagged = by.arguments ty untagged
  premise_of false ty strict untagged = absurd (false≢true strict)

  -- the number of the outermost binder of a type variable is read as some member
  variable_read : (v u : ℕ) → u < j.size →
      IsMemberRead s (value j (v ∷ u ∷ []) (type_term k.constructor 2 (type.Var 0)))
      (member_in s.sizes u)
  variable_read v u within =
      let is : value j (v ∷ u ∷ []) (type_term k.constructor 2 (type.Var 0)) ≡ u =
      ap (value j (v ∷ u ∷ [])) (type_term-variable k.constructor 2 0)
      ∙ value-variable j (v ∷ u ∷ []) (2 - (0 + 1))
      ∙ (let e : 2 - (0 + 1) ≡ 1 = omega arith in ap (slice_index (v ∷ u ∷ [])) e) in
      rw is (record { below = omega (arith, within, low.size); is = refl })

  last_true : (u : ℕ) → u < j.size → (b : Binding) → c.binding ≡ b →
      IsTrue (truth j (last_axiom c k g b 1 (type.Var 0)) (u ∷ []))
  last_true u within ByGuard binding =
      let m : ℕ = member_in s.sizes u in
      let inside : m < member_count s =
      member_in-within s.sizes u (omega (arith, within, low.size)) in
      let v : ℕ = stamp s.sizes m 0 in
      let exact : IsStamp s v m 0 =
      record { is = refl; within = inside; below = structure.inhabited m inside } in
      let is : value j (v ∷ u ∷ []) (term.Var 0) ≡ v = value-variable j (v ∷ u ∷ []) 0 in
      truth-exists j (bind c k g 2 (type.Var 0) (term.Var 0)) (u ∷ [])
      ∙ some_below-from j.size
      (λ x. truth j (bind c k g 2 (type.Var 0) (term.Var 0)) (x ∷ u ∷ [])) v
      (omega (arith, stamp-below s v m 0 exact, low.size))
      (bound_true 2 (type.Var 0) (term.Var 0) (v ∷ u ∷ []) m 0 (variable_read v u within)
      (subst (λ x. IsStamp s x m 0) (sym is) exact) c.binding refl)
  last_true u within ByTag binding =
      let m : ℕ = member_in s.sizes u in
      let inside : m < member_count s =
      member_in-within s.sizes u (omega (arith, within, low.size)) in
      let tagged : FofTerm = tag c k g 2 (type.Var 0) (term.Var 0) in
      truth-for_all j (bind c k g 2 (type.Var 0) tagged) (u ∷ [])
      ∙ all_below-from j.size (λ x. truth j (bind c k g 2 (type.Var 0) tagged) (x ∷ u ∷ []))
      (λ v below.
      let element = element_at v m below inside in
      let is : value j (v ∷ u ∷ []) (term.Var 0) ≡ v = value-variable j (v ∷ u ∷ []) 0 in
      let gives = value-tag c k g s j sound structure by low 2 (type.Var 0) (term.Var 0)
      (v ∷ u ∷ []) m (element_in s.sizes v m) binding (variable_read v u within)
      (subst (λ x. IsElement s x m (element_in s.sizes v m)) (sym is) element) in
      bound_true 2 (type.Var 0) tagged (v ∷ u ∷ []) m (element_in s.sizes v m)
      (variable_read v u within) (record { is = gives; within = inside; below = element.small })
      c.binding refl)

  by_type : c.marking ≡ BySort → ⊥
  by_type marking = let same : ByType ≡ BySort = sym by.marking ∙ marking in cc

  pub forward_axioms : ForwardAxioms c k g s j (stamped s)
  forward_axioms = record {
    some_member = λ v within. (
      member_in s.sizes v,
      member_in-within s.sizes v (omega (arith, within, low.size)),
      record { below = omega (arith, within, low.size); is = refl },
    );
    declared = λ f symbol at. all_same (λ (ty : Ty). ty) symbol.arguments;
    declared_result = λ f symbol ty at gives. refl;
    argument = λ depth cover ty t members assignment good read within bound.
        let m : ℕ = member_of s members ty in
        let element = element_at (value j assignment t) m within (member_within _ m read) in (
          element_in s.sizes (value j assignment t) m,
          record {
            reads = element;
            exact = λ strict untagged.
                bound_exact depth ty t assignment m read element
                (bound (premise_of cover ty strict untagged)) c.binding refl;
          },
        );
    result = λ depth ty t members assignment e good typing read applied.
        bound_true depth ty t assignment (member_of s members ty) e read applied c.binding refl;
    last = λ marking last.
        truth-for_all j (last_axiom c k g c.binding 1 (type.Var 0)) []
        ∙ all_below-from j.size (λ u. truth j (last_axiom c k g c.binding 1 (type.Var 0)) (u ∷ []))
        (λ u within. last_true u within c.binding refl);
    last_of_sort = λ ty good marking last. absurd (by_type marking);
  }
