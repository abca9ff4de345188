-- What a formula says of the typed structure its translation says of the untyped one.
use Rattle.std.specs.Prelude.{ℕ, ◌+◌, List, ◌∷◌, map, IsTrue}
use Rattle.std.specs.List.{AllByRecursion, list_all, list_any}
use Rattle.std.proofs.Common.{refl, sym, ap, ◌∙◌, ⊎_elim}
use Rattle.std.proofs.lemmas.Bool.{and_parts, and_from, or_left, or_right, or_cases, false≢true}
use Rattle.enc_base.proofs.Quantifiers.{all_below-at, all_below-from, some_below-at, some_below-from}
use Rattle.tf_core.specs.declared.ty.Ty.{Ty}
use Rattle.tf_core.specs.declared.nnf.Nnf.{Nnf}
use Rattle.tf_core.specs.declared.signature.Signature.{Signature}
use Rattle.tf_core.specs.Typing.{IsSignature, IsNnf, nnf_true, nnf_false, nnf_atom, nnf_equation, nnf_and, nnf_or, nnf_for_all, nnf_exists, AreNnf, no_parts, more_parts}
use Rattle.tf_core.specs.Structures.{Typed, size_of, member_of}
use Rattle.tf_core.specs.Truth as typed
use Rattle.tf_core.proofs.Truth as typed_proofs
use Rattle.fof_models.specs.Structures.{Untyped}
use Rattle.fof_models.specs.Truth as untyped
use Rattle.fof_models.proofs.Truth as untyped_proofs
use Rattle.tf_naked.specs.declared.position.Kind.{Kind}
use Rattle.tf_naked.specs.declared.position.Kind.TheVariants.{Universal, Existential}
use Rattle.tf_naked.specs.Standing.{stands}
use Rattle.tf_naked.proofs.Standing.{stands-and, stands-or, stands-for_all, stands-exists}
use Rattle.enc_marks.specs.Choices.{Choices}
use Rattle.enc_marks.specs.Translation.{Numbers, formula}
use Rattle.enc_marks.proofs.Translation.{formula-true, formula-atom, formula-equation, formula-and, formula-or, formula-for_all, formula-exists}
use Rattle.enc_laws.specs.Relations.{Relations}
use Rattle.enc_laws.specs.Corresponds.{Corresponds, Reads}
use Rattle.enc_laws.specs.Directions.{is_bound, Forward}
use Rattle.enc_laws.proofs.Literals.{premised_from, joined_from, Reads-less, Reads-more, truth-atom, left_is, right_is, truth-literal, equation_forward}

module _ (c : Choices) (k : Numbers) (g : Signature) (s : Typed) (j : Untyped) (r : Relations)
    (sound : IsSignature g) (both : Corresponds c k g s j r) (ok : Nnf → Type 0)
    (by : Forward c k g s j r ok) where
  mutual
    pub true_forward : (variables : ℕ) (context : List Ty) (p : Nnf)
        (typed_p : IsNnf g variables context p)
        (depth : ℕ) (kinds : List Kind) (members elements assignment : List ℕ) → ok p →
        Reads c k g s j r variables depth context kinds members elements assignment
        (λ test i. stands g test p i) →
        IsTrue (typed.normal_truth s members p elements) →
        IsTrue (untyped.truth j (formula c k g p depth kinds) assignment)
    true_forward variables context p (nnf_true _) depth kinds members elements assignment holds
        read h =
        ap (λ f. untyped.truth j f assignment) (formula-true c k g depth kinds)
        ∙ untyped_proofs.truth-true j assignment
    true_forward variables context p (nnf_false _) depth kinds members elements assignment holds
        read h =
        absurd (false≢true (sym (typed_proofs.normal_truth-false s members elements) ∙ h))
    true_forward variables context p (nnf_atom _ positive f symbol types terms is) depth kinds
        members elements assignment holds read h =
        ap (λ f. untyped.truth j f assignment)
        (formula-atom c k g positive f types terms depth kinds)
        ∙ truth-literal c k g s j r sound both positive _ assignment _
        (truth-atom c k g s j r sound both variables context positive f symbol types terms is
        depth kinds members elements assignment read)
        ∙ (sym (typed_proofs.normal_truth-atom s members positive f types terms elements) ∙ h)
    true_forward variables context p (nnf_equation _ positive ty left right is) depth kinds members
        elements assignment holds read h =
        ap (λ f. untyped.truth j f assignment)
        (formula-equation c k g positive ty left right depth kinds)
        ∙ equation_forward c k g s j r sound both positive _ _ assignment (member_of s members ty)
        (typed.value s members elements left) (typed.value s members elements right) by.sides
        (left_is c k g s j r sound both variables context positive ty left right is depth kinds
        members elements assignment read)
        (right_is c k g s j r sound both variables context positive ty left right is depth kinds
        members elements assignment read)
        (sym (typed_proofs.normal_truth-equation s members positive ty left right elements) ∙ h)
    true_forward variables context p (nnf_and _ parts are) depth kinds members elements assignment
        holds read h =
        ap (λ f. untyped.truth j f assignment) (formula-and c k g parts depth kinds)
        ∙ untyped_proofs.truth-and j (map (λ part. formula c k g part depth kinds) parts) assignment
        ∙ all_forward variables context parts are depth kinds members elements assignment
        (by.passes.and parts holds)
        (Reads-less c k g s j r variables depth context kinds members elements assignment _ _
        (λ test i q. stands-and g test parts i ∙ q) read)
        (sym (typed_proofs.normal_truth-and s members parts elements) ∙ h)
    true_forward variables context p (nnf_or _ parts are) depth kinds members elements assignment
        holds read h =
        ap (λ f. untyped.truth j f assignment) (formula-or c k g parts depth kinds)
        ∙ untyped_proofs.truth-or j (map (λ part. formula c k g part depth kinds) parts) assignment
        ∙ some_forward variables context parts are depth kinds members elements assignment
        (by.passes.or parts holds)
        (Reads-less c k g s j r variables depth context kinds members elements assignment _ _
        (λ test i q. stands-or g test parts i ∙ q) read)
        (sym (typed_proofs.normal_truth-or s members parts elements) ∙ h)
    true_forward variables context p (nnf_for_all _ ty body formed is) depth kinds members elements
        assignment holds read h =
        let inner = by.passes.for_all ty body holds in
        let all = sym (typed_proofs.normal_truth-for_all s members ty body elements) ∙ h in
        ap (λ f. untyped.truth j f assignment) (formula-for_all c k g ty body depth kinds)
        ∙ untyped_proofs.truth-for_all j _ assignment
        ∙ all_below-from j.size _ (λ v within.
        premised_from j (is_bound c k g s j r ty body) _ _ (v ∷ assignment) (λ bound.
        let x = by.everywhere variables depth ty body members assignment v
        (record { formed = formed; holds = holds; types = read.types }) within bound in
        let y = x.1 in
        true_forward variables (ty ∷ context) body is (depth + 1) (Universal ∷ kinds) members
        (x.0 ∷ elements) (v ∷ assignment) inner.1
        (Reads-more c k g s j r variables depth context kinds members elements assignment _ _ ty
        Universal v x.0 (λ test i. stands-for_all g test ty body i) read inner.0 y.reads y.exact)
        (all_below-at (size_of s (member_of s members ty))
        (λ e. typed.normal_truth s members body (e ∷ elements)) all x.0 y.small)))
    true_forward variables context p (nnf_exists _ ty body formed is) depth kinds members elements
        assignment holds read h =
        let inner = by.passes.exists ty body holds in
        let found = some_below-at (size_of s (member_of s members ty))
        (λ e. typed.normal_truth s members body (e ∷ elements))
        (sym (typed_proofs.normal_truth-exists s members ty body elements) ∙ h) in
        let x = by.somewhere variables depth ty body members assignment found.0
        (record { formed = formed; holds = holds; types = read.types }) found.1 in
        let y = x.2 in
        ap (λ f. untyped.truth j f assignment) (formula-exists c k g ty body depth kinds)
        ∙ untyped_proofs.truth-exists j _ assignment
        ∙ some_below-from j.size _ x.0 x.1
        (joined_from j (c.existential ty) _ _ (x.0 ∷ assignment) x.3
        (true_forward variables (ty ∷ context) body is (depth + 1) (Existential ∷ kinds) members
        (found.0 ∷ elements) (x.0 ∷ assignment) inner.1
        (Reads-more c k g s j r variables depth context kinds members elements assignment _ _ ty
        Existential x.0 found.0 (λ test i. stands-exists g test ty body i) read inner.0 y.reads
        y.exact)
        found.2))

    all_forward : (variables : ℕ) (context : List Ty) (parts : List Nnf)
        (are : AreNnf g variables context parts)
        (depth : ℕ) (kinds : List Kind) (members elements assignment : List ℕ) →
        AllByRecursion ok parts →
        Reads c k g s j r variables depth context kinds members elements assignment
        (λ test i. list_any (λ part. stands g test part i) parts) →
        IsTrue (list_all (λ part. typed.normal_truth s members part elements) parts) →
        IsTrue (list_all (λ part. untyped.truth j part assignment)
        (map (λ part. formula c k g part depth kinds) parts))
    all_forward variables context parts (no_parts _) depth kinds members elements assignment holds
        read h =
        refl
    all_forward variables context parts (more_parts _ part others is are) depth kinds members
        elements assignment holds read h =
        let two = and_parts _ _ h in
        and_from _ _
        (true_forward variables context part is depth kinds members elements assignment holds.0
        (Reads-less c k g s j r variables depth context kinds members elements assignment _ _
        (λ test i z. or_left _ _ z) read) two.0)
        (all_forward variables context others are depth kinds members elements assignment holds.1
        (Reads-less c k g s j r variables depth context kinds members elements assignment _ _
        (λ test i z. or_right _ _ z) read) two.1)

    some_forward : (variables : ℕ) (context : List Ty) (parts : List Nnf)
        (are : AreNnf g variables context parts)
        (depth : ℕ) (kinds : List Kind) (members elements assignment : List ℕ) →
        AllByRecursion ok parts →
        Reads c k g s j r variables depth context kinds members elements assignment
        (λ test i. list_any (λ part. stands g test part i) parts) →
        IsTrue (list_any (λ part. typed.normal_truth s members part elements) parts) →
        IsTrue (list_any (λ part. untyped.truth j part assignment)
        (map (λ part. formula c k g part depth kinds) parts))
    some_forward variables context parts (no_parts _) depth kinds members elements assignment
        holds read
        h = h
    some_forward variables context parts (more_parts _ part others is are) depth kinds members
        elements assignment holds read h =
        ⊎_elim
        (λ y. or_left _ _
        (true_forward variables context part is depth kinds members elements assignment holds.0
        (Reads-less c k g s j r variables depth context kinds members elements assignment _ _
        (λ test i z. or_left _ _ z) read) y))
        (λ y. or_right _ _
        (some_forward variables context others are depth kinds members elements assignment holds.1
        (Reads-less c k g s j r variables depth context kinds members elements assignment _ _
        (λ test i z. or_right _ _ z) read) y))
        (or_cases _ _ h)
