-- Renumbered terms and formulas mean in a restricted structure what they meant.
use Rattle.std.specs.Prelude.{ℕ, ◌≡◌, Bool, ◌&&◌, ◌||◌, List, [], ◌∷◌, map, eqb}
use Rattle.std.specs.List.{AllByRecursion, list_all, list_any}
use Rattle.std.proofs.Common.{refl, sym, ap, ◌∙◌, subst}
use Rattle.std.proofs.Math.Path.{fun_ext}
use Rattle.enc_base.specs.Quantifiers.{all_below, some_below}
use Rattle.tf_core.specs.declared.ty.Ty.{Ty}
use Rattle.tf_core.specs.declared.term.Term.{Term}
use Rattle.tf_core.specs.declared.nnf.Nnf.{Nnf}
use Rattle.tf_core.specs.declared.nnf.Nnf.TheVariants as nnf
use Rattle.tf_core.specs.Sorts.{joined}
use Rattle.tf_core.specs.Structures.{Typed, size_of, member_of}
use Rattle.tf_core.specs.Truth.{value, signed, normal_truth}
use Rattle.tf_core.proofs.Truth.{value-variable, value-apply, normal_truth-true, normal_truth-false, normal_truth-atom, normal_truth-equation, normal_truth-and, normal_truth-or, normal_truth-for_all, normal_truth-exists}
use Rattle.tf_core.proofs.Induction.{term_induction}
use Rattle.tf_core.proofs.FormulaInduction.{nnf_induction}
use Rattle.enc_mono.specs.declared.instances.Origin.{Origin}
use Rattle.enc_mono.specs.Instances.{term_instances, symbol_instances}
use Rattle.enc_mono.specs.Monomorphised.{number_among, renumbered_term, renumbered}
use Rattle.enc_mono.specs.Restricted.{instance_at, restricted}
use Rattle.enc_mono.proofs.InstanceEquations.{term_instances-apply, symbol_instances-atom, symbol_instances-equation, symbol_instances-and, symbol_instances-or, symbol_instances-for_all, symbol_instances-exists, renumbered_term-variable, renumbered_term-apply, renumbered-true, renumbered-false, renumbered-atom, renumbered-equation, renumbered-and, renumbered-or, renumbered-for_all, renumbered-exists}
use Rattle.enc_mono.proofs.Listed.{all-front, all-back}
use Rattle.enc_mono.proofs.NumberedOrigins.{IsNumbered}

module _ (s : Typed) (origins : List Origin) where
  abbrev there : Typed
  there = restricted origins s

  abbrev AreNumbered : List Origin → Type 0
  AreNumbered = AllByRecursion (IsNumbered origins)

  -- terms

  abbrev MeansTheSame : List ℕ → Term → Type 0
  MeansTheSame elements t = AreNumbered (term_instances t) →
      value there [] elements (renumbered_term origins t) ≡ value s [] elements t

  values-renumbered : (elements : List ℕ) (terms : List Term) →
      AllByRecursion (MeansTheSame elements) terms →
      AreNumbered (joined (map term_instances terms)) →
      map (value there [] elements) (map (renumbered_term origins) terms)
      ≡ map (value s [] elements) terms
  values-renumbered elements [] same all = refl
  values-renumbered elements (t ∷ terms) same all =
      ap (λ v. v ∷ map (value there [] elements) (map (renumbered_term origins) terms))
      (same.0 (all-front (IsNumbered origins) (term_instances t) (joined (map term_instances terms))
      all))
      ∙ ap (λ vs. value s [] elements t ∷ vs)
      (values-renumbered elements terms same.1
      (all-back (IsNumbered origins) (term_instances t) (joined (map term_instances terms)) all))

  -- what a renumbered symbol gives
  at_number : (f : ℕ) (types : List Ty) (values : List ℕ) →
      IsNumbered origins (record { symbol = f; types = types }) →
      there.symbol_at (number_among origins f types) [] values
      ≡ s.symbol_at f (map (member_of s []) types) values
  at_number f types values is = ap (λ o. instance_at s o values) is

  pub value-renumbered : (elements : List ℕ) (t : Term) → MeansTheSame elements t
  value-renumbered elements = term_induction (MeansTheSame elements)
      (λ i all.
      ap (value there [] elements) (renumbered_term-variable origins i)
      ∙ value-variable there [] elements i ∙ sym (value-variable s [] elements i))
      (λ f types terms same given.
      let all = subst AreNumbered (term_instances-apply f types terms) given in
      ap (value there [] elements) (renumbered_term-apply origins f types terms)
      ∙ value-apply there [] elements (number_among origins f types) []
      (map (renumbered_term origins) terms)
      ∙ at_number f types (map (value there [] elements) (map
      (renumbered_term origins) terms)) all.0
      ∙ ap (s.symbol_at f (map (member_of s []) types))
      (values-renumbered elements terms same all.1)
      ∙ sym (value-apply s [] elements f types terms))

  all_values-renumbered : (elements : List ℕ) (terms : List Term) →
      AreNumbered (joined (map term_instances terms)) →
      map (value there [] elements) (map (renumbered_term origins) terms)
      ≡ map (value s [] elements) terms
  all_values-renumbered elements terms =
      values-renumbered elements terms (each terms)
    where
      each : (terms : List Term) → AllByRecursion (MeansTheSame elements) terms
      each [] = tt
      each (t ∷ terms) = (value-renumbered elements t, each terms)

  -- formulas

  abbrev IsAsTrue : Nnf → Type 0
  IsAsTrue p = (elements : List ℕ) → AreNumbered (symbol_instances p) →
      normal_truth there [] (renumbered origins p) elements ≡ normal_truth s [] p elements

  all-renumbered : (parts : List Nnf) → AllByRecursion IsAsTrue parts → (elements : List ℕ) →
      AreNumbered (joined (map symbol_instances parts)) →
      list_all (λ part. normal_truth there [] part elements) (map (renumbered origins) parts)
      ≡ list_all (λ part. normal_truth s [] part elements) parts
  all-renumbered [] same elements all = refl
  all-renumbered (part ∷ parts) same elements all =
      ap (λ b. b && list_all (λ p. normal_truth there [] p elements) (map
      (renumbered origins) parts))
      (same.0 elements (all-front (IsNumbered origins) (symbol_instances part)
      (joined (map symbol_instances parts)) all))
      ∙ ap (λ b. normal_truth s [] part elements && b)
      (all-renumbered parts same.1 elements (all-back (IsNumbered origins) (symbol_instances part)
      (joined (map symbol_instances parts)) all))

  any-renumbered : (parts : List Nnf) → AllByRecursion IsAsTrue parts → (elements : List ℕ) →
      AreNumbered (joined (map symbol_instances parts)) →
      list_any (λ part. normal_truth there [] part elements) (map (renumbered origins) parts)
      ≡ list_any (λ part. normal_truth s [] part elements) parts
  any-renumbered [] same elements all = refl
  any-renumbered (part ∷ parts) same elements all =
      ap (λ b. b || list_any (λ p. normal_truth there [] p elements) (map
      (renumbered origins) parts))
      (same.0 elements (all-front (IsNumbered origins) (symbol_instances part)
      (joined (map symbol_instances parts)) all))
      ∙ ap (λ b. normal_truth s [] part elements || b)
      (any-renumbered parts same.1 elements (all-back (IsNumbered origins) (symbol_instances part)
      (joined (map symbol_instances parts)) all))

  on_atom : (positive : Bool) (f : ℕ) (types : List Ty) (terms : List Term) →
      IsAsTrue (nnf.Atom positive f types terms)
  on_atom positive f types terms elements given =
      let all = subst AreNumbered (symbol_instances-atom positive f types terms) given in
      ap (λ p. normal_truth there [] p elements) (renumbered-atom origins positive f types terms)
      ∙ normal_truth-atom there [] positive (number_among origins f types) []
      (map (renumbered_term origins) terms) elements
      ∙ ap (λ n. signed positive (eqb n 1))
      (at_number f types (map (value there [] elements) (map (renumbered_term origins) terms)) all.0
      ∙ ap (s.symbol_at f (map (member_of s []) types))
      (all_values-renumbered elements terms all.1))
      ∙ sym (normal_truth-atom s [] positive f types terms elements)

  on_equation : (positive : Bool) (ty : Ty) (left right : Term) →
      IsAsTrue (nnf.Equation positive ty left right)
  on_equation positive ty left right elements given =
      let all = subst AreNumbered (symbol_instances-equation positive ty left right) given in
      ap (λ p. normal_truth there [] p elements)
      (renumbered-equation origins positive ty left right)
      ∙ normal_truth-equation there [] positive ty (renumbered_term origins left)
      (renumbered_term origins right) elements
      ∙ ap (λ v. signed positive
      (eqb v (value there [] elements (renumbered_term origins right))))
      (value-renumbered elements left
      (all-front (IsNumbered origins) (term_instances left) (term_instances right) all))
      ∙ ap (λ v. signed positive (eqb (value s [] elements left) v))
      (value-renumbered elements right
      (all-back (IsNumbered origins) (term_instances left) (term_instances right) all))
      ∙ sym (normal_truth-equation s [] positive ty left right elements)

  pub normal_truth-renumbered : (p : Nnf) → IsAsTrue p
  normal_truth-renumbered = nnf_induction IsAsTrue (record {
    on_true = λ elements all.
        ap (λ p. normal_truth there [] p elements) (renumbered-true origins)
        ∙ normal_truth-true there [] elements ∙ sym (normal_truth-true s [] elements);
    on_false = λ elements all.
        ap (λ p. normal_truth there [] p elements) (renumbered-false origins)
        ∙ normal_truth-false there [] elements ∙ sym (normal_truth-false s [] elements);
    on_atom = on_atom;
    on_equation = on_equation;
    on_and = λ parts same elements given.
        ap (λ p. normal_truth there [] p elements) (renumbered-and origins parts)
        ∙ normal_truth-and there [] (map (renumbered origins) parts) elements
        ∙ all-renumbered parts same elements
        (subst AreNumbered (symbol_instances-and parts) given)
        ∙ sym (normal_truth-and s [] parts elements);
    on_or = λ parts same elements given.
        ap (λ p. normal_truth there [] p elements) (renumbered-or origins parts)
        ∙ normal_truth-or there [] (map (renumbered origins) parts) elements
        ∙ any-renumbered parts same elements
        (subst AreNumbered (symbol_instances-or parts) given)
        ∙ sym (normal_truth-or s [] parts elements);
    on_for_all = λ ty body same elements given.
        ap (λ p. normal_truth there [] p elements) (renumbered-for_all origins ty body)
        ∙ normal_truth-for_all there [] ty (renumbered origins body) elements
        ∙ ap (all_below (size_of s (member_of s [] ty)))
        (fun_ext (λ element. same (element ∷ elements)
        (subst AreNumbered (symbol_instances-for_all ty body) given)))
        ∙ sym (normal_truth-for_all s [] ty body elements);
    on_exists = λ ty body same elements given.
        ap (λ p. normal_truth there [] p elements) (renumbered-exists origins ty body)
        ∙ normal_truth-exists there [] ty (renumbered origins body) elements
        ∙ ap (some_below (size_of s (member_of s [] ty)))
        (fun_ext (λ element. same (element ∷ elements)
        (subst AreNumbered (symbol_instances-exists ty body) given)))
        ∙ sym (normal_truth-exists s [] ty body elements);
  })
