-- Worked rows: what small problems are encoded as.
use Rattle.std.specs.Prelude.{ℕ, ◌≡◌, ◌||◌, eqb, true, false, List, [], ◌∷◌, codes, get_or}
use Rattle.std.proofs.Common.{refl, ap, ◌∙◌}
use Rattle.tf_core.specs.declared.ty.Ty.TheVariants as type
use Rattle.tf_core.specs.declared.term.Term.TheVariants as typed_term
use Rattle.tf_core.specs.declared.nnf.Nnf.{Nnf}
use Rattle.tf_core.specs.declared.nnf.Nnf.TheVariants as nnf
use Rattle.fof_models.specs.declared.formula.FofTerm.{FofTerm}
use Rattle.fof_models.specs.declared.formula.FofTerm.TheVariants as term
use Rattle.fof_models.specs.declared.formula.Fof.{Fof}
use Rattle.fof_models.specs.declared.formula.Fof.TheVariants as fof
use Rattle.tf_naked.specs.Covers.{covers, kept_parameters}
use Rattle.tf_naked.specs.declared.position.Kind.{Kind}
use Rattle.tf_naked.specs.declared.position.Kind.TheVariants.{Universal}
use Rattle.tf_naked.proofs.Covers.{parameter_of-variable, parameter_of-apply}
use Rattle.enc_marks.specs.Schemes.{guards, tags}
use Rattle.tf_core.specs.declared.signature.Signature.{Signature}
use Rattle.enc_marks.specs.Axioms.{closed_formula}
use Rattle.enc_marks.specs.Translation.{Numbers, Bare, tag, side}
use Rattle.enc_marks.specs.Encoded.{axiom_named, all_numbers, encoded, encoded_from, translation}
use Rattle.enc_marks.specs.Occurrence.{occurs, occurs_in_term, renumber, renumber_term}
use Rattle.enc_marks.specs.Rows.{nothing, nothing_guarded, one_element, one_element_tagged, nil, cons}
use Rattle.enc_marks.proofs.Translation.{type_term-variable, bare-variable, formula-equation, formula-for_all}
use Rattle.enc_marks.proofs.Occurrence.{occurs-for_all, occurs-exists, occurs-atom, occurs-equal, occurs_in_term-variable, occurs_in_term-apply, renumber-for_all, renumber-exists, renumber-atom, renumber-equal, renumber_term-variable, renumber_term-apply}

-- nothing, under guards

abbrev inhabited : ℕ → Fof
inhabited guard = fof.ForAll (fof.Exists (fof.Atom guard (term.Var 1 ∷ term.Var 0 ∷ [])))

occurs-inhabited : (m guard : ℕ) →
    occurs m (inhabited guard) ≡ (eqb m guard || (false || (false || false)))
occurs-inhabited m guard =
    occurs-for_all m (fof.Exists (fof.Atom guard (term.Var 1 ∷ term.Var 0 ∷ [])))
    ∙ occurs-exists m (fof.Atom guard (term.Var 1 ∷ term.Var 0 ∷ []))
    ∙ occurs-atom m guard (term.Var 1 ∷ term.Var 0 ∷ [])
    ∙ ap (λ b. eqb m guard || (b || (occurs_in_term m (term.Var 0) || false)))
    (occurs_in_term-variable m 1)
    ∙ ap (λ b. eqb m guard || (false || (b || false))) (occurs_in_term-variable m 0)

renumber-inhabited : (number : ℕ → ℕ) (guard : ℕ) →
    renumber number (inhabited guard) ≡ inhabited (number guard)
renumber-inhabited number guard =
    renumber-for_all number (fof.Exists (fof.Atom guard (term.Var 1 ∷ term.Var 0 ∷ [])))
    ∙ ap fof.ForAll (renumber-exists number (fof.Atom guard (term.Var 1 ∷ term.Var 0 ∷ []))
    ∙ ap fof.Exists (renumber-atom number guard (term.Var 1 ∷ term.Var 0 ∷ [])
    ∙ ap (λ t. fof.Atom (number guard) (t ∷ renumber_term number (term.Var 0) ∷ []))
    (renumber_term-variable number 1)
    ∙ ap (λ t. fof.Atom (number guard) (term.Var 1 ∷ t ∷ [])) (renumber_term-variable number 0)))

pub nothing_under_guards : encoded guards nothing ≡ nothing_guarded
unfolding encoded translation
nothing_under_guards =
    ap (λ t. encoded_from guards nothing (axiom_named (codes "inhabitation")
    (fof.ForAll (fof.Exists (fof.Atom 1 (t ∷ term.Var 0 ∷ [])))) ∷ []))
    (type_term-variable (all_numbers nothing).constructor 2 0)
    ∙ rw (occurs-inhabited 0 1, occurs-inhabited 1 1, renumber-inhabited)
    (rw (occurs-inhabited 0 1) refl)

-- one element, under tags

abbrev tagged : ℕ → ℕ → FofTerm
tagged tag i = term.Apply tag (term.Var 2 ∷ term.Var i ∷ [])

abbrev all_same : ℕ → Fof
all_same tag = fof.ForAll (fof.ForAll (fof.ForAll (fof.Equal (tagged tag 1) (tagged tag 0))))

occurs-tagged : (m tag i : ℕ) →
    occurs_in_term m (tagged tag i) ≡ (eqb m tag || (false || (false || false)))
occurs-tagged m tag i =
    occurs_in_term-apply m tag (term.Var 2 ∷ term.Var i ∷ [])
    ∙ ap (λ b. eqb m tag || (b || (occurs_in_term m (term.Var i) || false)))
    (occurs_in_term-variable m 2)
    ∙ ap (λ b. eqb m tag || (false || (b || false))) (occurs_in_term-variable m i)

occurs-all_same : (m tag : ℕ) →
    occurs m (all_same tag)
    ≡ ((eqb m tag || (false || (false || false))) || (eqb m tag || (false || (false || false))))
occurs-all_same m tag =
    occurs-for_all m (fof.ForAll (fof.ForAll (fof.Equal (tagged tag 1) (tagged tag 0))))
    ∙ occurs-for_all m (fof.ForAll (fof.Equal (tagged tag 1) (tagged tag 0)))
    ∙ occurs-for_all m (fof.Equal (tagged tag 1) (tagged tag 0))
    ∙ occurs-equal m (tagged tag 1) (tagged tag 0)
    ∙ ap (λ b. b || occurs_in_term m (tagged tag 0)) (occurs-tagged m tag 1)
    ∙ ap (λ b. (eqb m tag || (false || (false || false))) || b) (occurs-tagged m tag 0)

renumber-tagged : (number : ℕ → ℕ) (tag i : ℕ) →
    renumber_term number (tagged tag i) ≡ tagged (number tag) i
renumber-tagged number tag i =
    renumber_term-apply number tag (term.Var 2 ∷ term.Var i ∷ [])
    ∙ ap (λ t. term.Apply (number tag) (t ∷ renumber_term number (term.Var i) ∷ []))
    (renumber_term-variable number 2)
    ∙ ap (λ t. term.Apply (number tag) (term.Var 2 ∷ t ∷ [])) (renumber_term-variable number i)

renumber-all_same : (number : ℕ → ℕ) (tag : ℕ) →
    renumber number (all_same tag) ≡ all_same (number tag)
renumber-all_same number tag =
    renumber-for_all number (fof.ForAll (fof.ForAll (fof.Equal (tagged tag 1) (tagged tag 0))))
    ∙ ap fof.ForAll (renumber-for_all number (fof.ForAll (fof.Equal (tagged tag 1) (tagged tag 0)))
    ∙ ap fof.ForAll (renumber-for_all number (fof.Equal (tagged tag 1) (tagged tag 0))
    ∙ ap fof.ForAll (renumber-equal number (tagged tag 1) (tagged tag 0)
    ∙ ap (λ t. fof.Equal t (renumber_term number (tagged tag 0))) (renumber-tagged number tag 1)
    ∙ ap (fof.Equal (tagged (number tag) 1)) (renumber-tagged number tag 0))))

abbrev same_variables : Nnf
same_variables = nnf.Equation true (type.Var 0) (typed_term.Var 1) (typed_term.Var 0)

module _ where
  abbrev k : Numbers
  k = all_numbers one_element

  abbrev g : Signature
  g = one_element.signature

  abbrev two : List Kind
  two = Universal ∷ Universal ∷ []

  tagged-variable : (i : ℕ) → get_or two i Universal ≡ Universal →
      side tags k g 3 two true (type.Var 0) (typed_term.Var i) ≡ tagged 1 i
  tagged-variable i is =
      ap (λ (t : Bare). tag tags k g 3 (type.Var 0) t.term) (bare-variable tags k g 3 two i)
      ∙ ap (λ t. term.Apply 1 (t ∷ term.Var i ∷ [])) (type_term-variable k.constructor 3 0)

  formula-all_same : closed_formula tags k g
      (record {
        name = codes "p";
        negated = false;
        type_variables = 1;
        body = nnf.ForAll (type.Var 0) (nnf.ForAll (type.Var 0) same_variables);
      }) ≡ all_same 1
  formula-all_same =
      ap fof.ForAll
      (formula-for_all tags k g (type.Var 0) (nnf.ForAll (type.Var 0) same_variables) 1 []
      ∙ ap fof.ForAll (formula-for_all tags k g (type.Var 0) same_variables 2 (Universal ∷ [])
      ∙ ap fof.ForAll
      (formula-equation tags k g true (type.Var 0) (typed_term.Var 1) (typed_term.Var 0) 3 two
      ∙ ap (λ t. fof.Equal t (side tags k g 3 two true (type.Var 0) (typed_term.Var 0)))
      (tagged-variable 1 refl)
      ∙ ap (fof.Equal (tagged 1 1)) (tagged-variable 0 refl))))

pub one_element_under_tags : encoded tags one_element ≡ one_element_tagged
unfolding encoded translation
one_element_under_tags =
    ap (λ body. encoded_from tags one_element (axiom_named (codes "p") body ∷ [])) formula-all_same
    ∙ rw (occurs-all_same 0 1, occurs-all_same 1 1, renumber-all_same)
    (rw (occurs-all_same 0 1) refl)

-- under the cover schemes `cons` drops its type argument and `nil` keeps it
pub nil_keeps_its_type : kept_parameters nil ≡ true ∷ []
nil_keeps_its_type = refl

pub cons_drops_its_type : kept_parameters cons ≡ false ∷ []
cons_drops_its_type = simp (parameter_of-variable, parameter_of-apply)

pub the_first_argument_of_cons_covers : covers cons ≡ true ∷ false ∷ []
the_first_argument_of_cons_covers = simp (parameter_of-variable, parameter_of-apply)
