-- Formulas that are visited without a fault are well typed, and mean what the visit gives. The number
-- of each name in them is allowed.
use Rattle.std.proofs.Common.{◌≡◌, ℕ, ◌≤◌, Bool, true, false, List, [], ◌∷◌, ◌++◌, map, drop, refl, sym, ap, ◌∙◌, subst, Option, Some, None, flat_map, if◌then◌else◌}
use Rattle.std.specs.List.{AllByRecursion}
use Rattle.std.proofs.lemmas.Bool.{false≢true}
use Rattle.tptp_syntax.specs.declared.types.TypeExpr.{TypeExpr}
use Rattle.tptp_syntax.specs.declared.types.TypeExpr.TheVariants as e
use Rattle.tptp_syntax.specs.declared.types.Bound.{Bound}
use Rattle.tptp_syntax.specs.declared.term.RawTerm.{RawTerm}
use Rattle.tptp_syntax.specs.declared.formula.RawFormula.{RawFormula}
use Rattle.tptp_syntax.specs.declared.formula.RawFormula.TheVariants as r
use Rattle.tf_core.specs.declared.ty.Ty.{Ty}
use Rattle.tf_core.specs.declared.term.Term.{Term}
use Rattle.tf_core.specs.declared.formula.Formula.{Formula}
use Rattle.tf_core.specs.declared.formula.Formula.TheVariants as f
use Rattle.tf_core.specs.declared.signature.Symbol.{Symbol}
use Rattle.tf_core.specs.declared.signature.Signature.{Signature}
use Rattle.tf_core.specs.Types.{same_type}
use Rattle.tf_check.specs.declared.error.TypeError.TheVariants.{NotAFormula, Mismatch, TypeQuantifier}
use Rattle.tf_check.specs.Kinds.{kind, Kind, is_type_kind}
use Rattle.tf_check.specs.Scope.{Scope, TypeVariable, TermVariable}
use Rattle.tf_check.specs.Visited.{Visited, good, expect, in_turn, ◌>>=◌, ◌>>◌}
use Rattle.tf_check.specs.Types.{individuals, reading}
use Rattle.tf_check.specs.Names.{names_of_term, names_of_formula, all_of}
use Rattle.tf_check.specs.Signature.{symbol_named}
use Rattle.tf_check.specs.declared.terms.Arguments.{Arguments}
use Rattle.tf_check.specs.Terms.{Typed, TermReading, term_reading, arguments_of, predicate_applied, atom_applied, expect_number, number_of, most_symbols}
use Rattle.tf_check.specs.Formulas as specs
use Rattle.tf_check.specs.Formulas.{Binders, binds_type, binder, binders, variable_type, term_binder, quantified, equation, quantifier, two, several, FormulaReading, formula_reading}
use Rattle.tf_check.specs.Typing.{TermMeans, type_bound}
use Rattle.tf_check.specs.Typing.{BindersMean, no_binders, type_binder, plain_binder, typed_binder}
use Rattle.tf_check.specs.Typing.{FormulaMeans, means_true, means_false, means_atom, means_equal, means_unequal, means_not, means_and, means_or, means_implies, means_if, means_iff, means_xor, means_nand, means_nor, means_for_all, means_exists, FormulasMean, no_formulas, more_formulas}
use Rattle.tf_check.proofs.VisitLemmas.{IsClean, clean-bind, value-bind, clean-then, value-then, value-good, clean-expect, not_clean-bad, clean-more, value-more, value-none}
use Rattle.tf_check.proofs.SameLemmas.{same_type-equal}
use Rattle.tf_check.proofs.Variants.{IsVariant, is_variable, is_apply, is_individuals, is_truth, is_types, is_product, is_map, is_quantified, variant, formula_induction}
use Rattle.tf_check.proofs.KindLemmas as k
use Rattle.tf_check.proofs.TypesClean.{reading_sound}
use Rattle.tf_check.proofs.TermsClean.{IsNumbered, all_append, number_clean, arguments_sound, IsSoundTerm, term_sound}
use Rattle.tf_check.proofs.FormulaLemmas as l
use Rattle.tf_check.proofs.NameLemmas as n

-- what is said to be `$tType` is `$tType`
pub is_types_says : (x : TypeExpr) → IsVariant x → (kind x).is_types ≡ true → x ≡ e.Types
is_types_says _ (is_variable name) says =
    absurd (false≢true (ap (λ (k : Kind). k.is_types) (sym (k.kind-variable name)) ∙ says))
is_types_says _ (is_apply name parts) says =
    absurd (false≢true (ap (λ (k : Kind). k.is_types) (sym (k.kind-apply name parts)) ∙ says))
is_types_says _ is_individuals says =
    absurd (false≢true (ap (λ (k : Kind). k.is_types) (sym k.kind-individuals) ∙ says))
is_types_says _ is_truth says =
    absurd (false≢true (ap (λ (k : Kind). k.is_types) (sym k.kind-truth) ∙ says))
is_types_says _ is_types says = refl
is_types_says _ (is_product parts) says =
    absurd (false≢true (ap (λ (k : Kind). k.is_types) (sym (k.kind-product parts)) ∙ says))
is_types_says _ (is_map left right) says =
    absurd (false≢true (ap (λ (k : Kind). k.is_types) (sym (k.kind-map left right)) ∙ says))
is_types_says _ (is_quantified bounds body) says =
    absurd (false≢true (ap (λ (k : Kind). k.is_types) (sym (k.kind-quantified bounds body)) ∙ says))

kind_says : (name : List ℕ) (kind : Option TypeExpr) → is_type_kind kind ≡ true →
    kind ≡ Some e.Types
kind_says name None says = absurd (false≢true says)
kind_says name (Some x) says = ap Some (is_types_says x (variant x) says)

module _ (entry : ℕ) (g : Signature) where
  -- the type of a term variable
  variable_means : (leading : Bool) (name : List ℕ) (kind : Option TypeExpr) (scope : Scope)
      (bounds : List Bound) (inner : Scope) (types : List Ty) →
      IsClean (variable_type entry g kind scope) →
      BindersMean g leading (TermVariable name (variable_type entry g kind scope).value ∷ scope) bounds inner types →
      BindersMean g leading scope (record { name = name; kind = kind } ∷ bounds) inner
      ((variable_type entry g kind scope).value ∷ types)
  variable_means leading name None scope bounds inner types clean others =
      rw (value-good individuals)
      (plain_binder leading name scope bounds inner types (rw (value-good individuals) at others))
  variable_means leading name (Some x) scope bounds inner types clean others =
      typed_binder leading name x ((reading entry g.constructors x).as_type scope).value scope bounds inner types
      ((reading_sound entry g.constructors x).type scope clean) others

  -- one binder, by its test
  binder_step : (leading : Bool) (bound : Bound) (scope : Scope) (bounds : List Bound) (inner : Scope)
      (types : List Ty) (test : Bool) → binds_type bound ≡ test →
      IsClean (if test then specs.type_binder entry g leading bound.name scope
      else term_binder entry g bound.name bound.kind scope) →
      BindersMean g leading
      (if test then specs.type_binder entry g leading bound.name scope
      else term_binder entry g bound.name bound.kind scope).value.scope bounds inner types →
      BindersMean g leading scope (bound ∷ bounds) inner
      ((if test then specs.type_binder entry g leading bound.name scope
      else term_binder entry g bound.name bound.kind scope).value.types ++ types)
  binder_step leading bound scope bounds inner types true is clean others =
      let test : Visited (Unit {0}) = expect leading (TypeQuantifier entry) in
      let made : Binders = record { scope = TypeVariable bound.name ∷ scope; types = [] } in
      let parts = clean-then test (good made) clean in
      let value : (test >> good made).value ≡ made = value-then test (good made) ∙ value-good made in
      let allowed : leading ≡ true = clean-expect leading (TypeQuantifier entry) parts.0 in
      let same : bound ≡ type_bound bound.name =
      λ i. record { name = bound.name; kind = kind_says bound.name bound.kind is i } in
      let rest : BindersMean g true (TypeVariable bound.name ∷ scope) bounds inner types =
      subst (λ (b : Binders). BindersMean g true b.scope bounds inner types) value
      (subst (λ b. BindersMean g b (test >> good made).value.scope bounds inner types) allowed others) in
      let whole : BindersMean g true scope (type_bound bound.name ∷ bounds) inner types =
      type_binder bound.name scope bounds inner types rest in
      subst (λ (b : Binders). BindersMean g leading scope (bound ∷ bounds) inner (b.types ++ types)) (sym value)
      (subst (λ b. BindersMean g b scope (bound ∷ bounds) inner types) (sym allowed)
      (subst (λ b. BindersMean g true scope (b ∷ bounds) inner types) (sym same) whole))
  binder_step leading bound scope bounds inner types false is clean others =
      let visit : Visited Ty = variable_type entry g bound.kind scope in
      let make : Ty → Binders = λ ty. record { scope = TermVariable bound.name ty ∷ scope; types = ty ∷ [] } in
      let parts = clean-bind visit (λ ty. good (make ty)) clean in
      let value : (visit >>= λ ty. good (make ty)).value ≡ make visit.value =
      value-bind visit (λ ty. good (make ty)) ∙ value-good (make visit.value) in
      let rest : BindersMean g leading (TermVariable bound.name visit.value ∷ scope) bounds inner types =
      subst (λ (b : Binders). BindersMean g leading b.scope bounds inner types) value others in
      subst (λ (b : Binders). BindersMean g leading scope (bound ∷ bounds) inner (b.types ++ types)) (sym value)
      (variable_means leading bound.name bound.kind scope bounds inner types parts.0 rest)

  pub binders_sound : (leading : Bool) (bounds : List Bound) (scope : Scope) →
      IsClean (binders entry g leading bounds scope) →
      BindersMean g leading scope bounds (binders entry g leading bounds scope).value.scope
      (binders entry g leading bounds scope).value.types
  binders_sound leading [] scope clean =
      rw (value-good {A = Binders} (record { scope = scope; types = [] })) (no_binders leading scope)
  binders_sound leading (bound ∷ bounds) scope clean =
      let first : Visited Binders = binder entry g leading bound scope in
      let rest : Scope → Visited Binders = binders entry g leading bounds in
      let join : Binders → Binders → Binders = λ b i. record { scope = i.scope; types = b.types ++ i.types } in
      let after : Binders → Visited Binders = λ b. rest b.scope >>= λ i. good (join b i) in
      let parts = clean-bind first after clean in
      let inner : Visited Binders = rest first.value.scope in
      let others = clean-bind inner (λ i. good (join first.value i)) parts.1 in
      let value : (first >>= after).value ≡ join first.value inner.value =
      value-bind first after ∙ value-bind inner (λ i. good (join first.value i))
      ∙ value-good (join first.value inner.value) in
      subst (λ (b : Binders). BindersMean g leading scope (bound ∷ bounds) b.scope b.types) (sym value)
      (binder_step leading bound scope bounds inner.value.scope inner.value.types (binds_type bound) refl
      parts.0 (binders_sound leading bounds first.value.scope others.0))

module _ (entry : ℕ) (g : Signature) (parameters : List ℕ → ℕ)
    (agree : (name : List ℕ) (place : ℕ) (symbol : Symbol) →
    symbol_named name g ≡ Some (place, symbol) → parameters name ≡ symbol.parameters)
  where
    -- what a reading says of a formula that is visited without a fault
    pub record IsSoundFormula (x : RawFormula) (reading : FormulaReading) : Type 0 where
      pub means : (leading : Bool) (scope : Scope) → IsClean (reading leading scope) →
          FormulaMeans g leading scope x (reading leading scope).value
      pub names : (leading : Bool) (scope : Scope) → IsClean (reading leading scope) →
          AllByRecursion (IsNumbered g) (names_of_formula parameters x)

    abbrev Sound : RawFormula → Type 0
    Sound x = IsSoundFormula x (formula_reading entry g x)

    -- ---- equations

    sides : (make : Formula → Formula) (left right : RawTerm) (scope : Scope) →
        IsClean (equation entry g make left right scope) →
        (ty : Ty) × (a : Term) × (b : Term) × TermMeans g scope left a ty × TermMeans g scope right b ty
        × AllByRecursion (IsNumbered g) (names_of_term parameters left ++ names_of_term parameters right)
        × ((equation entry g make left right scope).value ≡ make (f.Equal ty a b))
    sides make left right scope clean =
        let first : Visited Typed = (term_reading entry g left).as_term scope in
        let second : Visited Typed = (term_reading entry g right).as_term scope in
        let test : Typed → Typed → Visited (Unit {0}) = λ x y. expect (same_type x.1 y.1) (Mismatch entry x.1 y.1) in
        let last : Typed → Typed → Visited Formula = λ x y. test x y >> good (make (f.Equal x.1 x.0 y.0)) in
        let after : Typed → Visited Formula = λ x. second >>= λ y. last x y in
        let parts = clean-bind first after clean in
        let more = clean-bind second (λ y. last first.value y) parts.1 in
        let made : Visited Formula = good (make (f.Equal first.value.1 first.value.0 second.value.0)) in
        let tests = clean-then (test first.value second.value) made more.1 in
        let same : first.value.1 ≡ second.value.1 =
        same_type-equal first.value.1 second.value.1
        (clean-expect (same_type first.value.1 second.value.1)
        (Mismatch entry first.value.1 second.value.1) tests.0) in
        let one = term_sound entry g parameters agree left in
        let other = term_sound entry g parameters agree right in (
          first.value.1,
          first.value.0,
          second.value.0,
          one.term scope parts.0,
          subst (TermMeans g scope right second.value.0) (sym same) (other.term scope more.0),
          all_append (IsNumbered g) (names_of_term parameters left) (names_of_term parameters right)
              (one.names scope parts.0) (other.names scope more.0),
          value-bind first after ∙ value-bind second (λ y. last first.value y)
              ∙ value-then (test first.value second.value) made
              ∙ value-good (make (f.Equal first.value.1 first.value.0 second.value.0)),
        )

    -- ---- atoms

    predicate_clean : (name : List ℕ) (place : ℕ) (result : Option Ty) (arguments : Visited Arguments) →
        IsClean (predicate_applied entry g name place result arguments) →
        (result ≡ None) × IsClean arguments
        × ((predicate_applied entry g name place result arguments).value
        ≡ f.Atom place arguments.value.types arguments.value.terms)
    predicate_clean name place (Some ty) arguments clean =
        absurd (not_clean-bad (NotAFormula entry name) f.False clean)
    predicate_clean name place None arguments clean =
        let last : Arguments → Visited Formula = λ a. good (f.Atom place a.types a.terms) in (
          refl,
          (clean-bind arguments last clean).0,
          value-bind arguments last ∙ value-good (f.Atom place arguments.value.types arguments.value.terms),
        )

    atom_clean : (name : List ℕ) (at : Option (ℕ × Symbol)) (parts : List TermReading) (scope : Scope) →
        IsClean (atom_applied entry g name at parts scope) →
        (place : ℕ) × (symbol : Symbol) × (at ≡ Some (place, symbol)) × (symbol.result ≡ None)
        × (number_of g place ≤ most_symbols) × IsClean (arguments_of entry symbol parts scope)
        × ((atom_applied entry g name at parts scope).value
        ≡ f.Atom place (arguments_of entry symbol parts scope).value.types
        (arguments_of entry symbol parts scope).value.terms)
    atom_clean name None parts scope clean = absurd (not_clean-bad (NotAFormula entry name) f.False clean)
    atom_clean name (Some (place, symbol)) parts scope clean =
        let arguments : Visited Arguments = arguments_of entry symbol parts scope in
        let test : Visited (Unit {0}) = expect_number (number_of g place) in
        let first = clean-then test (predicate_applied entry g name place symbol.result arguments) clean in
        let found = predicate_clean name place symbol.result arguments first.1 in (
          place,
          symbol,
          refl,
          found.0,
          number_clean (number_of g place) first.0,
          found.1,
          value-then test (predicate_applied entry g name place symbol.result arguments) ∙ found.2,
        )

    all_terms : (xs : List RawTerm) →
        AllByRecursion (λ x. IsSoundTerm entry g parameters agree x (term_reading entry g x)) xs
    all_terms [] = tt
    all_terms (x ∷ xs) = (term_sound entry g parameters agree x, all_terms xs)

    atom_sound : (name : List ℕ) (raws : List RawTerm) → Sound (r.Atom name raws)
    atom_sound name raws =
        subst (IsSoundFormula (r.Atom name raws)) (sym (l.formula_reading-atom entry g name raws)) (record {
          means = λ leading scope clean.
              (let parts : List TermReading = map (term_reading entry g) raws in
              let found = atom_clean name (symbol_named name g) parts scope clean in
              let given = arguments_sound entry g parameters agree scope name found.0 found.1 raws (all_terms raws) found.5 in
              let value : Arguments = (arguments_of entry found.1 parts scope).value in
              rw found.6
              (subst (λ rs. FormulaMeans g leading scope (r.Atom name rs) (f.Atom found.0 value.types value.terms))
              (sym given.split)
              (means_atom leading scope name found.0 found.1 given.front value.types given.back value.terms
              (record { named = found.2; gives = found.3; count = given.count; means = given.types })
              given.terms)));
          names = λ leading scope clean.
              (let parts : List TermReading = map (term_reading entry g) raws in
              let found = atom_clean name (symbol_named name g) parts scope clean in
              let given = arguments_sound entry g parameters agree scope name found.0 found.1 raws (all_terms raws) found.5 in
              rw (n.names_of_formula-atom parameters name raws) (
                record { place = found.0; symbol = found.1; named = found.2; within = found.4 },
                subst (λ k. AllByRecursion (IsNumbered g) (flat_map (names_of_term parameters) (drop k raws)))
                    (sym (agree name found.0 found.1 found.2)) given.names,
              ));
        })

    -- ---- several parts

    formulas_sound : (scope : Scope) (xs : List RawFormula) → AllByRecursion Sound xs →
        IsClean (in_turn (map (λ (part : FormulaReading). part false scope) (map (formula_reading entry g) xs))) →
        FormulasMean g scope xs
        (in_turn (map (λ (part : FormulaReading). part false scope) (map (formula_reading entry g) xs))).value
        × AllByRecursion (IsNumbered g) (all_of (map (names_of_formula parameters) xs))
    formulas_sound scope [] all clean = (rw (value-none {A = Formula}) (no_formulas scope), tt)
    formulas_sound scope (x ∷ xs) all clean =
        let first : Visited Formula = formula_reading entry g x false scope in
        let rest : List (Visited Formula) = map (λ (part : FormulaReading). part false scope) (map (formula_reading entry g) xs) in
        let parts = clean-more first rest clean in
        let others = formulas_sound scope xs all.1 parts.1 in (
          rw (value-more first rest)
              (more_formulas scope x first.value xs (in_turn rest).value (all.0.means false scope parts.0) others.0),
          all_append (IsNumbered g) (names_of_formula parameters x) (all_of (map (names_of_formula parameters) xs))
              (all.0.names false scope parts.0) others.1,
        )

    chain_sound : (x : RawFormula) (xs : List RawFormula) (make : List Formula → Formula) →
        formula_reading entry g x ≡ (λ leading scope. several entry g make (map (formula_reading entry g) xs) scope) →
        names_of_formula parameters x ≡ all_of (map (names_of_formula parameters) xs) →
        ((leading : Bool) (scope : Scope) (bodies : List Formula) → FormulasMean g scope xs bodies →
        FormulaMeans g leading scope x (make bodies)) →
        AllByRecursion Sound xs → Sound x
    chain_sound x xs make is named means all =
        subst (IsSoundFormula x) (sym is) (record {
          means = λ leading scope clean.
              (let visits : Visited (List Formula) =
              in_turn (map (λ (part : FormulaReading). part false scope) (map (formula_reading entry g) xs)) in
              let parts = clean-bind visits (λ bodies. good (make bodies)) clean in
              rw (value-bind visits (λ bodies. good (make bodies)), value-good (make visits.value))
              (means leading scope visits.value (formulas_sound scope xs all parts.0).0));
          names = λ leading scope clean.
              (let visits : Visited (List Formula) =
              in_turn (map (λ (part : FormulaReading). part false scope) (map (formula_reading entry g) xs)) in
              rw named (formulas_sound scope xs all (clean-bind visits (λ bodies. good (make bodies)) clean).0).1);
        })

    -- ---- two parts

    two_sound : (x left right : RawFormula) (make : Formula → Formula → Formula) →
        formula_reading entry g x
        ≡ (λ leading scope. two entry g make (formula_reading entry g left) (formula_reading entry g right) scope) →
        names_of_formula parameters x ≡ names_of_formula parameters left ++ names_of_formula parameters right →
        ((leading : Bool) (scope : Scope) (a b : Formula) → FormulaMeans g false scope left a →
        FormulaMeans g false scope right b → FormulaMeans g leading scope x (make a b)) →
        Sound left → Sound right → Sound x
    two_sound x left right make is named means one other =
        subst (IsSoundFormula x) (sym is) (record {
          means = λ leading scope clean.
              (let first : Visited Formula = formula_reading entry g left false scope in
              let second : Visited Formula = formula_reading entry g right false scope in
              let parts = clean-bind first (λ a. second >>= λ b. good (make a b)) clean in
              let more = clean-bind second (λ b. good (make first.value b)) parts.1 in
              rw (
                value-bind first (λ a. second >>= λ b. good (make a b)),
                value-bind second (λ b. good (make first.value b)),
                value-good (make first.value second.value),
              )
              (means leading scope first.value second.value (one.means false scope parts.0)
              (other.means false scope more.0)));
          names = λ leading scope clean.
              (let first : Visited Formula = formula_reading entry g left false scope in
              let second : Visited Formula = formula_reading entry g right false scope in
              let parts = clean-bind first (λ a. second >>= λ b. good (make a b)) clean in
              let more = clean-bind second (λ b. good (make first.value b)) parts.1 in
              rw named
              (all_append (IsNumbered g) (names_of_formula parameters left) (names_of_formula parameters right)
              (one.names false scope parts.0) (other.names false scope more.0)));
        })

    -- ---- quantifiers

    quantifier_sound : (x : RawFormula) (bounds : List Bound) (body : RawFormula)
        (make : Ty → Formula → Formula) (inside : Bool → Bool) →
        formula_reading entry g x
        ≡ (λ leading scope. quantifier entry g make (inside leading) bounds (formula_reading entry g body) scope) →
        names_of_formula parameters x ≡ names_of_formula parameters body →
        ((leading : Bool) (scope inner : Scope) (types : List Ty) (a : Formula) →
        BindersMean g (inside leading) scope bounds inner types → FormulaMeans g (inside leading) inner body a →
        FormulaMeans g leading scope x (quantified make types a)) →
        Sound body → Sound x
    quantifier_sound x bounds body make inside is named means sound =
        subst (IsSoundFormula x) (sym is) (record {
          means = λ leading scope clean.
              (let binds : Visited Binders = binders entry g (inside leading) bounds scope in
              let scoped : Scope → Visited Formula = formula_reading entry g body (inside leading) in
              let after : Binders → Visited Formula = λ b. scoped b.scope >>= λ a. good (quantified make b.types a) in
              let parts = clean-bind binds after clean in
              let inner : Visited Formula = scoped binds.value.scope in
              let more = clean-bind inner (λ a. good (quantified make binds.value.types a)) parts.1 in
              rw (
                value-bind binds after,
                value-bind inner (λ a. good (quantified make binds.value.types a)),
                value-good (quantified make binds.value.types inner.value),
              )
              (means leading scope binds.value.scope binds.value.types inner.value
              (binders_sound entry g (inside leading) bounds scope parts.0)
              (sound.means (inside leading) binds.value.scope more.0)));
          names = λ leading scope clean.
              (let binds : Visited Binders = binders entry g (inside leading) bounds scope in
              let scoped : Scope → Visited Formula = formula_reading entry g body (inside leading) in
              let after : Binders → Visited Formula = λ b. scoped b.scope >>= λ a. good (quantified make b.types a) in
              let parts = clean-bind binds after clean in
              let inner : Visited Formula = scoped binds.value.scope in
              let more = clean-bind inner (λ a. good (quantified make binds.value.types a)) parts.1 in
              rw named (sound.names (inside leading) binds.value.scope more.0));
        })

    -- ---- all variants

    constant_sound : (x : RawFormula) (a : Formula) →
        formula_reading entry g x ≡ (λ leading scope. good a) → names_of_formula parameters x ≡ [] →
        ((leading : Bool) (scope : Scope) → FormulaMeans g leading scope x a) → Sound x
    constant_sound x a is named means =
        subst (IsSoundFormula x) (sym is) (record {
          means = λ leading scope clean. rw (value-good a) (means leading scope);
          names = λ leading scope clean. rw named tt;
        })

    equal_sound : (x : RawFormula) (left right : RawTerm) (make : Formula → Formula) →
        formula_reading entry g x ≡ (λ leading scope. equation entry g make left right scope) →
        names_of_formula parameters x ≡ names_of_term parameters left ++ names_of_term parameters right →
        ((leading : Bool) (scope : Scope) (ty : Ty) (a b : Term) → TermMeans g scope left a ty →
        TermMeans g scope right b ty → FormulaMeans g leading scope x (make (f.Equal ty a b))) →
        Sound x
    equal_sound x left right make is named means =
        subst (IsSoundFormula x) (sym is) (record {
          means = λ leading scope clean.
              (let found = sides make left right scope clean in
              rw found.6 (means leading scope found.0 found.1 found.2 found.3 found.4));
          names = λ leading scope clean. rw named (sides make left right scope clean).5;
        })

    not_sound : (part : RawFormula) → Sound part → Sound (r.Not part)
    not_sound part sound =
        subst (IsSoundFormula (r.Not part)) (sym (l.formula_reading-not entry g part)) (record {
          means = λ leading scope clean.
              (let visit : Visited Formula = formula_reading entry g part false scope in
              let parts = clean-bind visit (λ a. good (f.Not a)) clean in
              rw (value-bind visit (λ a. good (f.Not a)), value-good (f.Not visit.value))
              (means_not leading scope part visit.value (sound.means false scope parts.0)));
          names = λ leading scope clean.
              (let visit : Visited Formula = formula_reading entry g part false scope in
              rw (n.names_of_formula-not parameters part)
              (sound.names false scope (clean-bind visit (λ a. good (f.Not a)) clean).0));
        })

    -- every formula that is visited without a fault is well typed
    pub formula_sound : (x : RawFormula) → Sound x
    formula_sound =
        formula_induction Sound (record {
          on_true = constant_sound r.True f.True (l.formula_reading-true entry g)
              (n.names_of_formula-true parameters) means_true;
          on_false = constant_sound r.False f.False (l.formula_reading-false entry g)
              (n.names_of_formula-false parameters) means_false;
          on_atom = atom_sound;
          on_equal = λ left right. equal_sound (r.Equal left right) left right (λ body. body)
              (l.formula_reading-equal entry g left right) (n.names_of_formula-equal parameters left right)
              (λ leading scope ty a b one other. means_equal leading scope left right ty a b one other);
          on_unequal = λ left right. equal_sound (r.Unequal left right) left right f.Not
              (l.formula_reading-unequal entry g left right) (n.names_of_formula-unequal parameters left right)
              (λ leading scope ty a b one other. means_unequal leading scope left right ty a b one other);
          on_not = not_sound;
          on_and = λ xs all. chain_sound (r.And xs) xs f.And (l.formula_reading-and entry g xs)
              (n.names_of_formula-and parameters xs)
              (λ leading scope bodies means. means_and leading scope xs bodies means) all;
          on_or = λ xs all. chain_sound (r.Or xs) xs f.Or (l.formula_reading-or entry g xs)
              (n.names_of_formula-or parameters xs)
              (λ leading scope bodies means. means_or leading scope xs bodies means) all;
          on_implies = λ left right one other. two_sound (r.Implies left right) left right f.Implies
              (l.formula_reading-implies entry g left right) (n.names_of_formula-implies parameters left right)
              (λ leading scope a b p q. means_implies leading scope left right a b p q) one other;
          on_if = λ left right one other. two_sound (r.If left right) left right f.If
              (l.formula_reading-if entry g left right) (n.names_of_formula-if parameters left right)
              (λ leading scope a b p q. means_if leading scope left right a b p q) one other;
          on_iff = λ left right one other. two_sound (r.Iff left right) left right f.Iff
              (l.formula_reading-iff entry g left right) (n.names_of_formula-iff parameters left right)
              (λ leading scope a b p q. means_iff leading scope left right a b p q) one other;
          on_xor = λ left right one other. two_sound (r.Xor left right) left right f.Xor
              (l.formula_reading-xor entry g left right) (n.names_of_formula-xor parameters left right)
              (λ leading scope a b p q. means_xor leading scope left right a b p q) one other;
          on_nand = λ left right one other. two_sound (r.Nand left right) left right f.Nand
              (l.formula_reading-nand entry g left right) (n.names_of_formula-nand parameters left right)
              (λ leading scope a b p q. means_nand leading scope left right a b p q) one other;
          on_nor = λ left right one other. two_sound (r.Nor left right) left right f.Nor
              (l.formula_reading-nor entry g left right) (n.names_of_formula-nor parameters left right)
              (λ leading scope a b p q. means_nor leading scope left right a b p q) one other;
          on_for_all = λ bounds body sound. quantifier_sound (r.ForAll bounds body) bounds body f.ForAll
              (λ leading. leading) (l.formula_reading-for_all entry g bounds body)
              (n.names_of_formula-for_all parameters bounds body)
              (λ leading scope inner types a bind means.
              means_for_all leading scope inner bounds types body a bind means) sound;
          on_exists = λ bounds body sound. quantifier_sound (r.Exists bounds body) bounds body f.Exists
              (λ leading. false) (l.formula_reading-exists entry g bounds body)
              (n.names_of_formula-exists parameters bounds body)
              (λ leading scope inner types a bind means.
              means_exists leading scope inner bounds types body a bind means) sound;
        })
