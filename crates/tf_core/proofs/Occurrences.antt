-- The equations of occurrences, one a variant, in their order, and what they say of values and truth.
use Rattle.std.specs.Prelude.{ℕ, ◌≡◌, Bool, true, false, not, ◌&&◌, ◌||◌, List, [], ◌∷◌, map, eqb, IsTrue}
use Rattle.std.specs.List.{AllByRecursion, list_all, list_any}
use Rattle.std.proofs.Common.{refl, sym, ap, ◌∙◌}
use Rattle.std.proofs.Math.Path.{fun_ext}
use Rattle.std.proofs.lemmas.Bool.{eq-eqb}
use Rattle.enc_base.specs.Quantifiers.{all_below, some_below}
use Rattle.enc_base.proofs.Quantifiers.{list_any-map}
use Rattle.tf_core.specs.declared.ty.Ty.{Ty, roll-Ty}
use Rattle.tf_core.specs.declared.ty.Ty.TheVariants as type
use Rattle.tf_core.specs.declared.ty.Ty.TheOpen.{Ty-F}
use Rattle.tf_core.specs.declared.ty.Ty.TheOpen as type_layer
use Rattle.tf_core.specs.declared.ty.Ty.TheFolds.{fold-roll-Ty, map-Ty}
use Rattle.tf_core.specs.declared.term.Term.{Term, roll-Term}
use Rattle.tf_core.specs.declared.term.Term.TheVariants as term
use Rattle.tf_core.specs.declared.term.Term.TheOpen.{Term-F}
use Rattle.tf_core.specs.declared.term.Term.TheOpen as term_layer
use Rattle.tf_core.specs.declared.term.Term.TheFolds.{fold-roll-Term, map-Term}
use Rattle.tf_core.specs.declared.formula.Formula.{Formula, roll-Formula}
use Rattle.tf_core.specs.declared.formula.Formula.TheVariants as formula
use Rattle.tf_core.specs.declared.formula.Formula.TheOpen.{Formula-F}
use Rattle.tf_core.specs.declared.formula.Formula.TheOpen as formula_layer
use Rattle.tf_core.specs.declared.formula.Formula.TheFolds.{fold-roll-Formula, map-Formula}
use Rattle.tf_core.specs.Types.{type_value}
use Rattle.tf_core.specs.Structures.{Typed, size_of, member_of}
use Rattle.tf_core.specs.Truth.{value, implies, iff, truth}
use Rattle.tf_core.specs.Occurrences.{occurs_in_type, occurs_in_type_step, occurs_in_types, occurs_in_term, occurs_in_term_step, occurs_in_terms, occurs_in, occurs_in_step, AgreeWhere}
use Rattle.tf_core.proofs.Types.{type_value-variable, type_value-apply}
use Rattle.tf_core.proofs.Truth.{value-variable, value-apply, truth-true, truth-false, truth-atom, truth-equal, truth-not, truth-and, truth-or, truth-implies, truth-if, truth-iff, truth-xor, truth-nand, truth-nor, truth-for_all, truth-exists}
use Rattle.tf_core.proofs.Induction.{type_induction, term_induction}
use Rattle.tf_core.proofs.FormulaInduction.{FormulaCases, formula_induction}

-- types

occurs_in_type-roll : (i : ℕ) (x : Ty-F Ty) →
    occurs_in_type i (roll-Ty x) ≡ occurs_in_type_step i (map-Ty Ty Bool (occurs_in_type i) x)
unfolding occurs_in_type
occurs_in_type-roll i x = fold-roll-Ty Bool (occurs_in_type_step i) x

pub occurs_in_type-variable : (i j : ℕ) → occurs_in_type i (type.Var j) ≡ eqb i j
occurs_in_type-variable i j =
    ap (occurs_in_type i) (sym (type.rolls-Var j)) ∙ occurs_in_type-roll i (type_layer.Var j)

pub occurs_in_type-apply : (i c : ℕ) (types : List Ty) →
    occurs_in_type i (type.Apply c types) ≡ occurs_in_types i types
occurs_in_type-apply i c types =
    ap (occurs_in_type i) (sym (type.rolls-Apply c types))
    ∙ occurs_in_type-roll i (type_layer.Apply c types)
    ∙ list_any-map (λ (b : Bool). b) (occurs_in_type i) types

-- terms

occurs_in_term-roll : (i : ℕ) (x : Term-F Term) →
    occurs_in_term i (roll-Term x)
    ≡ occurs_in_term_step i (map-Term Term Bool (occurs_in_term i) x)
unfolding occurs_in_term
occurs_in_term-roll i x = fold-roll-Term Bool (occurs_in_term_step i) x

pub occurs_in_term-variable : (i j : ℕ) → occurs_in_term i (term.Var j) ≡ false
occurs_in_term-variable i j =
    ap (occurs_in_term i) (sym (term.rolls-Var j)) ∙ occurs_in_term-roll i (term_layer.Var j)

pub occurs_in_term-apply : (i f : ℕ) (types : List Ty) (terms : List Term) →
    occurs_in_term i (term.Apply f types terms)
    ≡ (occurs_in_types i types || occurs_in_terms i terms)
occurs_in_term-apply i f types terms =
    ap (occurs_in_term i) (sym (term.rolls-Apply f types terms))
    ∙ occurs_in_term-roll i (term_layer.Apply f types terms)
    ∙ ap (λ b. occurs_in_types i types || b)
    (list_any-map (λ (b : Bool). b) (occurs_in_term i) terms)

-- formulas

occurs_in-roll : (i : ℕ) (x : Formula-F Formula) →
    occurs_in i (roll-Formula x)
    ≡ occurs_in_step i (map-Formula Formula Bool (occurs_in i) x)
unfolding occurs_in
occurs_in-roll i x = fold-roll-Formula Bool (occurs_in_step i) x

pub occurs_in-true : (i : ℕ) →
    occurs_in i formula.True
    ≡ false
occurs_in-true i =
    ap (occurs_in i) (sym formula.rolls-True)
    ∙ occurs_in-roll i formula_layer.True

pub occurs_in-false : (i : ℕ) →
    occurs_in i formula.False
    ≡ false
occurs_in-false i =
    ap (occurs_in i) (sym formula.rolls-False)
    ∙ occurs_in-roll i formula_layer.False

pub occurs_in-atom : (i : ℕ) (f : ℕ) (types : List Ty) (terms : List Term) →
    occurs_in i (formula.Atom f types terms)
    ≡ (occurs_in_types i types || occurs_in_terms i terms)
occurs_in-atom i f types terms =
    ap (occurs_in i) (sym (formula.rolls-Atom f types terms))
    ∙ occurs_in-roll i (formula_layer.Atom f types terms)

pub occurs_in-equal : (i : ℕ) (ty : Ty) (left right : Term) →
    occurs_in i (formula.Equal ty left right)
    ≡ (occurs_in_type i ty || occurs_in_term i left || occurs_in_term i right)
occurs_in-equal i ty left right =
    ap (occurs_in i) (sym (formula.rolls-Equal ty left right))
    ∙ occurs_in-roll i (formula_layer.Equal ty left right)

pub occurs_in-not : (i : ℕ) (a : Formula) →
    occurs_in i (formula.Not a)
    ≡ occurs_in i a
occurs_in-not i a =
    ap (occurs_in i) (sym (formula.rolls-Not a))
    ∙ occurs_in-roll i (formula_layer.Not a)

pub occurs_in-and : (i : ℕ) (parts : List Formula) →
    occurs_in i (formula.And parts)
    ≡ list_any (occurs_in i) parts
occurs_in-and i parts =
    ap (occurs_in i) (sym (formula.rolls-And parts))
    ∙ occurs_in-roll i (formula_layer.And parts)
    ∙ list_any-map (λ (b : Bool). b) (occurs_in i) parts

pub occurs_in-or : (i : ℕ) (parts : List Formula) →
    occurs_in i (formula.Or parts)
    ≡ list_any (occurs_in i) parts
occurs_in-or i parts =
    ap (occurs_in i) (sym (formula.rolls-Or parts))
    ∙ occurs_in-roll i (formula_layer.Or parts)
    ∙ list_any-map (λ (b : Bool). b) (occurs_in i) parts

pub occurs_in-implies : (i : ℕ) (a b : Formula) →
    occurs_in i (formula.Implies a b)
    ≡ (occurs_in i a || occurs_in i b)
occurs_in-implies i a b =
    ap (occurs_in i) (sym (formula.rolls-Implies a b))
    ∙ occurs_in-roll i (formula_layer.Implies a b)

pub occurs_in-if : (i : ℕ) (a b : Formula) →
    occurs_in i (formula.If a b)
    ≡ (occurs_in i a || occurs_in i b)
occurs_in-if i a b =
    ap (occurs_in i) (sym (formula.rolls-If a b))
    ∙ occurs_in-roll i (formula_layer.If a b)

pub occurs_in-iff : (i : ℕ) (a b : Formula) →
    occurs_in i (formula.Iff a b)
    ≡ (occurs_in i a || occurs_in i b)
occurs_in-iff i a b =
    ap (occurs_in i) (sym (formula.rolls-Iff a b))
    ∙ occurs_in-roll i (formula_layer.Iff a b)

pub occurs_in-xor : (i : ℕ) (a b : Formula) →
    occurs_in i (formula.Xor a b)
    ≡ (occurs_in i a || occurs_in i b)
occurs_in-xor i a b =
    ap (occurs_in i) (sym (formula.rolls-Xor a b))
    ∙ occurs_in-roll i (formula_layer.Xor a b)

pub occurs_in-nand : (i : ℕ) (a b : Formula) →
    occurs_in i (formula.Nand a b)
    ≡ (occurs_in i a || occurs_in i b)
occurs_in-nand i a b =
    ap (occurs_in i) (sym (formula.rolls-Nand a b))
    ∙ occurs_in-roll i (formula_layer.Nand a b)

pub occurs_in-nor : (i : ℕ) (a b : Formula) →
    occurs_in i (formula.Nor a b)
    ≡ (occurs_in i a || occurs_in i b)
occurs_in-nor i a b =
    ap (occurs_in i) (sym (formula.rolls-Nor a b))
    ∙ occurs_in-roll i (formula_layer.Nor a b)

pub occurs_in-for_all : (i : ℕ) (ty : Ty) (body : Formula) →
    occurs_in i (formula.ForAll ty body)
    ≡ (occurs_in_type i ty || occurs_in i body)
occurs_in-for_all i ty body =
    ap (occurs_in i) (sym (formula.rolls-ForAll ty body))
    ∙ occurs_in-roll i (formula_layer.ForAll ty body)

pub occurs_in-exists : (i : ℕ) (ty : Ty) (body : Formula) →
    occurs_in i (formula.Exists ty body)
    ≡ (occurs_in_type i ty || occurs_in i body)
occurs_in-exists i ty body =
    ap (occurs_in i) (sym (formula.rolls-Exists ty body))
    ∙ occurs_in-roll i (formula_layer.Exists ty body)

-- assignments that agree where something occurs agree where a part of it does

or_left : (a b : Bool) → IsTrue a → IsTrue (a || b)
or_left true b is = refl
or_left false b is = absurd cc

or_right : (a b : Bool) → IsTrue b → IsTrue (a || b)
or_right true b is = refl
or_right false b is = is

module _ (members others : List ℕ) where
  abbrev Agree : (ℕ → Bool) → Type 0
  Agree occurs = AgreeWhere occurs members others

  agree_same : (whole part : ℕ → Bool) → ((i : ℕ) → whole i ≡ part i) → Agree whole → Agree part
  agree_same whole part same agree i is = agree i (same i ∙ is)

  agree_first : (a b : ℕ → Bool) → Agree (λ i. a i || b i) → Agree a
  agree_first a b agree i is = agree i (or_left (a i) (b i) is)

  agree_rest : (a b : ℕ → Bool) → Agree (λ i. a i || b i) → Agree b
  agree_rest a b agree i is = agree i (or_right (a i) (b i) is)

  -- values of types

  module _ (constructor_at : ℕ → List ℕ → ℕ) where
    abbrev SameMember : Ty → Type 0
    SameMember ty = Agree (λ i. occurs_in_type i ty) →
        type_value constructor_at members ty ≡ type_value constructor_at others ty

    same_members : (types : List Ty) → AllByRecursion SameMember types →
        Agree (λ i. occurs_in_types i types) →
        map (type_value constructor_at members) types ≡ map (type_value constructor_at others) types
    same_members [] same agree = refl
    same_members (ty ∷ types) same agree =
        ap (λ m. m ∷ map (type_value constructor_at members) types)
        (same.0 (agree_first (λ i. occurs_in_type i ty) (λ i. occurs_in_types i types) agree))
        ∙ ap (λ ms. type_value constructor_at others ty ∷ ms)
        (same_members types same.1
        (agree_rest (λ i. occurs_in_type i ty) (λ i. occurs_in_types i types) agree))

    type_value-agrees : (ty : Ty) → SameMember ty
    type_value-agrees = type_induction SameMember
        (λ j agree.
        type_value-variable constructor_at members j
        ∙ agree j (occurs_in_type-variable j j ∙ eq-eqb j j refl)
        ∙ sym (type_value-variable constructor_at others j))
        (λ c types same agree.
        type_value-apply constructor_at members c types
        ∙ ap (constructor_at c) (same_members types same
        (agree_same (λ i. occurs_in_type i (type.Apply c types)) (λ i. occurs_in_types i types)
        (λ i. occurs_in_type-apply i c types) agree))
        ∙ sym (type_value-apply constructor_at others c types))

    all_same_member : (types : List Ty) → AllByRecursion SameMember types
    all_same_member [] = tt
    all_same_member (ty ∷ types) = (type_value-agrees ty, all_same_member types)

    pub type_values-agree : (types : List Ty) → Agree (λ i. occurs_in_types i types) →
        map (type_value constructor_at members) types ≡ map (type_value constructor_at others) types
    type_values-agree types = same_members types (all_same_member types)

  -- values of terms

  module _ (s : Typed) (elements : List ℕ) where
    abbrev SameValue : Term → Type 0
    SameValue t = Agree (λ i. occurs_in_term i t) → value s members elements t ≡ value s others elements t

    same_values : (terms : List Term) → AllByRecursion SameValue terms →
        Agree (λ i. occurs_in_terms i terms) →
        map (value s members elements) terms ≡ map (value s others elements) terms
    same_values [] same agree = refl
    same_values (t ∷ terms) same agree =
        ap (λ v. v ∷ map (value s members elements) terms)
        (same.0 (agree_first (λ i. occurs_in_term i t) (λ i. occurs_in_terms i terms) agree))
        ∙ ap (λ vs. value s others elements t ∷ vs)
        (same_values terms same.1
        (agree_rest (λ i. occurs_in_term i t) (λ i. occurs_in_terms i terms) agree))

    -- what a symbol gives for types and terms
    same_entry : (f : ℕ) (types : List Ty) (terms : List Term) → AllByRecursion SameValue terms →
        Agree (λ i. occurs_in_types i types || occurs_in_terms i terms) →
        s.symbol_at f (map (member_of s members) types) (map (value s members elements) terms)
        ≡ s.symbol_at f (map (member_of s others) types) (map (value s others elements) terms)
    same_entry f types terms same agree =
        ap (λ ms. s.symbol_at f ms (map (value s members elements) terms))
        (type_values-agree s.constructor_at types
        (agree_first (λ i. occurs_in_types i types) (λ i. occurs_in_terms i terms) agree))
        ∙ ap (s.symbol_at f (map (member_of s others) types))
        (same_values terms same
        (agree_rest (λ i. occurs_in_types i types) (λ i. occurs_in_terms i terms) agree))

    value-agrees : (t : Term) → SameValue t
    value-agrees = term_induction SameValue
        (λ j agree. value-variable s members elements j ∙ sym (value-variable s others elements j))
        (λ f types terms same agree.
        value-apply s members elements f types terms
        ∙ same_entry f types terms same
        (agree_same (λ i. occurs_in_term i (term.Apply f types terms))
        (λ i. occurs_in_types i types || occurs_in_terms i terms)
        (λ i. occurs_in_term-apply i f types terms) agree)
        ∙ sym (value-apply s others elements f types terms))

    all_same_value : (terms : List Term) → AllByRecursion SameValue terms
    all_same_value [] = tt
    all_same_value (t ∷ terms) = (value-agrees t, all_same_value terms)

  -- truth

  module _ (s : Typed) where
    abbrev SameTruth : Formula → Type 0
    SameTruth p = Agree (λ i. occurs_in i p) → (elements : List ℕ) →
        truth s members p elements ≡ truth s others p elements

    all_same : (parts : List Formula) → AllByRecursion SameTruth parts →
        Agree (λ i. list_any (occurs_in i) parts) → (elements : List ℕ) →
        list_all (λ part. truth s members part elements) parts
        ≡ list_all (λ part. truth s others part elements) parts
    all_same [] same agree elements = refl
    all_same (part ∷ parts) same agree elements =
        ap (λ b. b && list_all (λ p. truth s members p elements) parts)
        (same.0 (agree_first (λ i. occurs_in i part) (λ i. list_any (occurs_in i) parts) agree)
        elements)
        ∙ ap (λ b. truth s others part elements && b)
        (all_same parts same.1
        (agree_rest (λ i. occurs_in i part) (λ i. list_any (occurs_in i) parts) agree) elements)

    some_same : (parts : List Formula) → AllByRecursion SameTruth parts →
        Agree (λ i. list_any (occurs_in i) parts) → (elements : List ℕ) →
        list_any (λ part. truth s members part elements) parts
        ≡ list_any (λ part. truth s others part elements) parts
    some_same [] same agree elements = refl
    some_same (part ∷ parts) same agree elements =
        ap (λ b. b || list_any (λ p. truth s members p elements) parts)
        (same.0 (agree_first (λ i. occurs_in i part) (λ i. list_any (occurs_in i) parts) agree)
        elements)
        ∙ ap (λ b. truth s others part elements || b)
        (some_same parts same.1
        (agree_rest (λ i. occurs_in i part) (λ i. list_any (occurs_in i) parts) agree) elements)

    -- a connective of two parts
    two_same : (a b : Formula) (connect : Bool → Bool → Bool) → SameTruth a → SameTruth b →
        Agree (λ i. occurs_in i a || occurs_in i b) → (elements : List ℕ) →
        connect (truth s members a elements) (truth s members b elements)
        ≡ connect (truth s others a elements) (truth s others b elements)
    two_same a b connect same_a same_b agree elements =
        ap (λ x. connect x (truth s members b elements))
        (same_a (agree_first (λ i. occurs_in i a) (λ i. occurs_in i b) agree) elements)
        ∙ ap (connect (truth s others a elements))
        (same_b (agree_rest (λ i. occurs_in i a) (λ i. occurs_in i b) agree) elements)

    -- a quantifier over a type's elements
    bound_same : (ty : Ty) (body : Formula) (quantify : ℕ → (ℕ → Bool) → Bool) → SameTruth body →
        Agree (λ i. occurs_in_type i ty || occurs_in i body) → (elements : List ℕ) →
        quantify (size_of s (member_of s members ty)) (λ element. truth s members body (element ∷ elements))
        ≡ quantify (size_of s (member_of s others ty)) (λ element. truth s others body (element ∷ elements))
    bound_same ty body quantify same agree elements =
        ap (λ m. quantify (size_of s m) (λ element. truth s members body (element ∷ elements)))
        (type_value-agrees s.constructor_at ty
        (agree_first (λ i. occurs_in_type i ty) (λ i. occurs_in i body) agree))
        ∙ ap (quantify (size_of s (member_of s others ty)))
        (fun_ext (λ element. same
        (agree_rest (λ i. occurs_in_type i ty) (λ i. occurs_in i body) agree) (element ∷ elements)))

    truth_cases : FormulaCases SameTruth
    truth_cases = record {
      on_true = λ agree elements. truth-true s members elements ∙ sym (truth-true s others elements);
      on_false = λ agree elements. truth-false s members elements ∙ sym (truth-false s others elements);
      on_atom = λ f types terms agree elements.
          truth-atom s members f types terms elements
          ∙ ap (λ v. eqb v 1) (same_entry s elements f types terms (all_same_value s elements terms)
          (agree_same (λ i. occurs_in i (formula.Atom f types terms))
          (λ i. occurs_in_types i types || occurs_in_terms i terms)
          (λ i. occurs_in-atom i f types terms) agree))
          ∙ sym (truth-atom s others f types terms elements);
      on_equal = λ ty left right agree elements.
          let whole = agree_same (λ i. occurs_in i (formula.Equal ty left right))
          (λ i. occurs_in_type i ty || occurs_in_term i left || occurs_in_term i right)
          (λ i. occurs_in-equal i ty left right) agree in
          let first = agree_rest (λ i. occurs_in_type i ty) (λ i. occurs_in_term i left)
          (agree_first (λ i. occurs_in_type i ty || occurs_in_term i left)
          (λ i. occurs_in_term i right) whole) in
          let second = agree_rest (λ i. occurs_in_type i ty || occurs_in_term i left)
          (λ i. occurs_in_term i right) whole in
          truth-equal s members ty left right elements
          ∙ ap (λ v. eqb v (value s members elements right)) (value-agrees s elements left first)
          ∙ ap (eqb (value s others elements left)) (value-agrees s elements right second)
          ∙ sym (truth-equal s others ty left right elements);
      on_not = λ a same agree elements.
          truth-not s members a elements
          ∙ ap not (same (agree_same (λ i. occurs_in i (formula.Not a)) (λ i. occurs_in i a)
          (λ i. occurs_in-not i a) agree) elements)
          ∙ sym (truth-not s others a elements);
      on_and = λ parts same agree elements.
          truth-and s members parts elements
          ∙ all_same parts same (agree_same (λ i. occurs_in i (formula.And parts))
          (λ i. list_any (occurs_in i) parts) (λ i. occurs_in-and i parts) agree) elements
          ∙ sym (truth-and s others parts elements);
      on_or = λ parts same agree elements.
          truth-or s members parts elements
          ∙ some_same parts same (agree_same (λ i. occurs_in i (formula.Or parts))
          (λ i. list_any (occurs_in i) parts) (λ i. occurs_in-or i parts) agree) elements
          ∙ sym (truth-or s others parts elements);
      on_implies = λ a b same_a same_b agree elements.
          truth-implies s members a b elements
          ∙ two_same a b (λ x y. implies x y) same_a same_b
          (agree_same (λ i. occurs_in i (formula.Implies a b)) (λ i. occurs_in i a || occurs_in i b)
          (λ i. occurs_in-implies i a b) agree) elements
          ∙ sym (truth-implies s others a b elements);
      on_if = λ a b same_a same_b agree elements.
          truth-if s members a b elements
          ∙ two_same a b (λ x y. implies y x) same_a same_b
          (agree_same (λ i. occurs_in i (formula.If a b)) (λ i. occurs_in i a || occurs_in i b)
          (λ i. occurs_in-if i a b) agree) elements
          ∙ sym (truth-if s others a b elements);
      on_iff = λ a b same_a same_b agree elements.
          truth-iff s members a b elements
          ∙ two_same a b (λ x y. iff x y) same_a same_b
          (agree_same (λ i. occurs_in i (formula.Iff a b)) (λ i. occurs_in i a || occurs_in i b)
          (λ i. occurs_in-iff i a b) agree) elements
          ∙ sym (truth-iff s others a b elements);
      on_xor = λ a b same_a same_b agree elements.
          truth-xor s members a b elements
          ∙ two_same a b (λ x y. not (iff x y)) same_a same_b
          (agree_same (λ i. occurs_in i (formula.Xor a b)) (λ i. occurs_in i a || occurs_in i b)
          (λ i. occurs_in-xor i a b) agree) elements
          ∙ sym (truth-xor s others a b elements);
      on_nand = λ a b same_a same_b agree elements.
          truth-nand s members a b elements
          ∙ two_same a b (λ x y. not (x && y)) same_a same_b
          (agree_same (λ i. occurs_in i (formula.Nand a b)) (λ i. occurs_in i a || occurs_in i b)
          (λ i. occurs_in-nand i a b) agree) elements
          ∙ sym (truth-nand s others a b elements);
      on_nor = λ a b same_a same_b agree elements.
          truth-nor s members a b elements
          ∙ two_same a b (λ x y. not (x || y)) same_a same_b
          (agree_same (λ i. occurs_in i (formula.Nor a b)) (λ i. occurs_in i a || occurs_in i b)
          (λ i. occurs_in-nor i a b) agree) elements
          ∙ sym (truth-nor s others a b elements);
      on_for_all = λ ty body same agree elements.
          truth-for_all s members ty body elements
          ∙ bound_same ty body all_below same (agree_same (λ i. occurs_in i (formula.ForAll ty body))
          (λ i. occurs_in_type i ty || occurs_in i body) (λ i. occurs_in-for_all i ty body) agree) elements
          ∙ sym (truth-for_all s others ty body elements);
      on_exists = λ ty body same agree elements.
          truth-exists s members ty body elements
          ∙ bound_same ty body some_below same (agree_same (λ i. occurs_in i (formula.Exists ty body))
          (λ i. occurs_in_type i ty || occurs_in i body) (λ i. occurs_in-exists i ty body) agree) elements
          ∙ sym (truth-exists s others ty body elements);
    }

pub truth-agrees : (s : Typed) (members others : List ℕ) (p : Formula) (elements : List ℕ) →
    AgreeWhere (λ i. occurs_in i p) members others →
    truth s members p elements ≡ truth s others p elements
truth-agrees s members others p elements agree =
    formula_induction (SameTruth members others s) (truth_cases members others s) p agree elements
