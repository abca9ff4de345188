-- The parts of a formula: that they are well typed, that they have room, and what their truth makes.
use Rattle.std.specs.Prelude.{ℕ, zero, suc, ◌≡◌, ◌<◌, ◌≤◌, ◌+◌, max, Bool, true, false, not, ◌&&◌, ◌||◌, List, [], ◌∷◌, ◌++◌, map, length, reverse, get_or, eqb, IsTrue}
use Rattle.std.proofs.Common.{refl, sym, ap, ◌∙◌, subst, arith}
use Rattle.std.proofs.Math.Bool.{beq}
use Rattle.std.proofs.lemmas.Bool.{false≢true}
use Rattle.std.proofs.lemmas.List.{reverse-append}
use Rattle.enc_base.specs.Tables.{EachBelow}
use Rattle.enc_base.specs.Quantifiers.{all_below, some_below}
use Rattle.enc_base.proofs.Quantifiers.{all_below-at, some_below-from}
use Rattle.tf_core.specs.declared.ty.Ty.{Ty}
use Rattle.tf_core.specs.declared.term.Term.{Term}
use Rattle.tf_core.specs.declared.formula.Formula.{Formula}
use Rattle.tf_core.specs.declared.formula.Formula.TheVariants as formula
use Rattle.tf_core.specs.declared.signature.Signature.{Signature}
use Rattle.tf_core.specs.Counts.{depth, greatest}
use Rattle.tf_core.specs.Truth.{implies, iff, truth}
use Rattle.tf_core.specs.Typing.{IsFormula, AreFormulas, no_formulas, more_formulas}
use Rattle.tf_core.specs.TypedTables.{reading}
use Rattle.tf_core.proofs.Truth.{truth-true, truth-false, truth-atom, truth-equal, truth-not, truth-and, truth-or, truth-implies, truth-if, truth-iff, truth-xor, truth-nand, truth-nor, truth-for_all, truth-exists}
use Rattle.tf_core.proofs.Counts.{depth-not, depth-and, depth-or, depth-implies, depth-if, depth-iff, depth-xor, depth-nand, depth-nor, depth-for_all, depth-exists}
use Rattle.tf_models.specs.declared.structure.TypedStructure.{TypedStructure}
use Rattle.tf_models.specs.Assignment.{Assignment}
use Rattle.tf_models.specs.Reading.{tables}
use Rattle.tf_models.specs.Evaluation.{size_in, value_in, entry_in, true_in, true_with, all_true, some_true, IsTerm, IsApplied, IsTrueOrFalse, AreTrueOrFalse, IsBinder}
use Rattle.tf_models.proofs.Inversion.{atom_parts, equal_parts, not_parts, and_parts, or_parts, implies_parts, if_parts, iff_parts, xor_parts, nand_parts, nor_parts, for_all_parts, exists_parts}

-- typing

module _ (g : Signature) (s : TypedStructure) (env : Assignment) (p : Formula)
    (typed : IsTrueOrFalse g s env p)
  where
    pub atom_applied : (f : ℕ) (types : List Ty) (terms : List Term) → p ≡ formula.Atom f types
        terms →
        IsApplied g s env f types terms
    atom_applied f types terms is =
        let found = atom_parts g (length env.members) typed.context p typed.typed f types terms
        is in (
          found.0,
          record {
            context = typed.context;
            at = found.1.predicate.at;
            count = found.1.predicate.count;
            formed = found.1.predicate.formed;
            arguments = found.1.arguments;
            assigned = typed.assigned;
          },
        )

    pub equal_sides : (ty : Ty) (left right : Term) → p ≡ formula.Equal ty left right →
        IsTerm g s env left × IsTerm g s env right
    equal_sides ty left right is =
        let parts = equal_parts g (length env.members) typed.context p typed.typed ty left right
        is in (
          record {
            context = typed.context;
            ty = ty;
            typed = parts.left_side;
            assigned =
                typed.assigned;
          },
          record {
            context = typed.context;
            ty = ty;
            typed = parts.right_side;
            assigned =
                typed.assigned;
          },
        )

    pub not_typed : (a : Formula) → p ≡ formula.Not a → IsTrueOrFalse g s env a
    not_typed a is = record {
      context = typed.context;
      typed = not_parts g (length env.members) typed.context p typed.typed a is;
      assigned = typed.assigned;
    }

    pub and_typed : (parts : List Formula) → p ≡ formula.And parts → AreTrueOrFalse g s env parts
    and_typed parts is = record {
      context = typed.context;
      typed = and_parts g (length env.members) typed.context p typed.typed parts is;
      assigned = typed.assigned;
    }

    pub or_typed : (parts : List Formula) → p ≡ formula.Or parts → AreTrueOrFalse g s env parts
    or_typed parts is = record {
      context = typed.context;
      typed = or_parts g (length env.members) typed.context p typed.typed parts is;
      assigned = typed.assigned;
    }

    pub implies_typed : (a b : Formula) → p ≡ formula.Implies a b → IsTrueOrFalse g s env a ×
        IsTrueOrFalse g s env b
    implies_typed a b is =
        let parts = implies_parts g (length env.members) typed.context p typed.typed a b is in (
          record { context = typed.context; typed = parts.0; assigned = typed.assigned },
          record { context = typed.context; typed = parts.1; assigned = typed.assigned },
        )

    pub if_typed : (a b : Formula) → p ≡ formula.If a b → IsTrueOrFalse g s env a ×
        IsTrueOrFalse g s env b
    if_typed a b is =
        let parts = if_parts g (length env.members) typed.context p typed.typed a b is in (
          record { context = typed.context; typed = parts.0; assigned = typed.assigned },
          record { context = typed.context; typed = parts.1; assigned = typed.assigned },
        )

    pub iff_typed : (a b : Formula) → p ≡ formula.Iff a b → IsTrueOrFalse g s env a ×
        IsTrueOrFalse g s env b
    iff_typed a b is =
        let parts = iff_parts g (length env.members) typed.context p typed.typed a b is in (
          record { context = typed.context; typed = parts.0; assigned = typed.assigned },
          record { context = typed.context; typed = parts.1; assigned = typed.assigned },
        )

    pub xor_typed : (a b : Formula) → p ≡ formula.Xor a b → IsTrueOrFalse g s env a ×
        IsTrueOrFalse g s env b
    xor_typed a b is =
        let parts = xor_parts g (length env.members) typed.context p typed.typed a b is in (
          record { context = typed.context; typed = parts.0; assigned = typed.assigned },
          record { context = typed.context; typed = parts.1; assigned = typed.assigned },
        )

    pub nand_typed : (a b : Formula) → p ≡ formula.Nand a b → IsTrueOrFalse g s env a ×
        IsTrueOrFalse g s env b
    nand_typed a b is =
        let parts = nand_parts g (length env.members) typed.context p typed.typed a b is in (
          record { context = typed.context; typed = parts.0; assigned = typed.assigned },
          record { context = typed.context; typed = parts.1; assigned = typed.assigned },
        )

    pub nor_typed : (a b : Formula) → p ≡ formula.Nor a b → IsTrueOrFalse g s env a ×
        IsTrueOrFalse g s env b
    nor_typed a b is =
        let parts = nor_parts g (length env.members) typed.context p typed.typed a b is in (
          record { context = typed.context; typed = parts.0; assigned = typed.assigned },
          record { context = typed.context; typed = parts.1; assigned = typed.assigned },
        )

    pub for_all_typed : (ty : Ty) (body : Formula) → p ≡ formula.ForAll ty body →
        IsBinder g s env ty body
    for_all_typed ty body is =
        let parts = for_all_parts g (length env.members) typed.context p typed.typed ty body is in
        record {
          context = typed.context;
          formed = parts.0;
          typed = parts.1;
          assigned =
              typed.assigned;
        }

    pub exists_typed : (ty : Ty) (body : Formula) → p ≡ formula.Exists ty body →
        IsBinder g s env ty body
    exists_typed ty body is =
        let parts = exists_parts g (length env.members) typed.context p typed.typed ty body is in
        record {
          context = typed.context;
          formed = parts.0;
          typed = parts.1;
          assigned =
              typed.assigned;
        }

-- depth

module _ (p : Formula) where
  pub not_depth : (a : Formula) → p ≡ formula.Not a → depth p ≡ depth a
  not_depth a is = ap depth is ∙ depth-not a

  pub and_depth : (parts : List Formula) → p ≡ formula.And parts → depth p
      ≡ greatest (map depth parts)
  and_depth parts is = ap depth is ∙ depth-and parts

  pub or_depth : (parts : List Formula) → p ≡ formula.Or parts → depth p
      ≡ greatest (map depth parts)
  or_depth parts is = ap depth is ∙ depth-or parts

  pub implies_depth : (a b : Formula) → p ≡ formula.Implies a b → depth p ≡ max (depth a) (depth b)
  implies_depth a b is = ap depth is ∙ depth-implies a b

  pub if_depth : (a b : Formula) → p ≡ formula.If a b → depth p ≡ max (depth a) (depth b)
  if_depth a b is = ap depth is ∙ depth-if a b

  pub iff_depth : (a b : Formula) → p ≡ formula.Iff a b → depth p ≡ max (depth a) (depth b)
  iff_depth a b is = ap depth is ∙ depth-iff a b

  pub xor_depth : (a b : Formula) → p ≡ formula.Xor a b → depth p ≡ max (depth a) (depth b)
  xor_depth a b is = ap depth is ∙ depth-xor a b

  pub nand_depth : (a b : Formula) → p ≡ formula.Nand a b → depth p ≡ max (depth a) (depth b)
  nand_depth a b is = ap depth is ∙ depth-nand a b

  pub nor_depth : (a b : Formula) → p ≡ formula.Nor a b → depth p ≡ max (depth a) (depth b)
  nor_depth a b is = ap depth is ∙ depth-nor a b

  pub for_all_depth : (ty : Ty) (body : Formula) → p ≡ formula.ForAll ty body → depth p
      ≡ depth body + 1
  for_all_depth ty body is = ap depth is ∙ depth-for_all ty body

  pub exists_depth : (ty : Ty) (body : Formula) → p ≡ formula.Exists ty body → depth p ≡ depth body
      + 1
  exists_depth ty body is = ap depth is ∙ depth-exists ty body

-- truth

module _ (g : Signature) (s : TypedStructure) (env : Assignment) (p : Formula) (held : Bool) where
  pub true_is : p ≡ formula.True → true ≡ true_in g s env p
  true_is is = sym (ap (true_in g s env) is ∙ truth-true (reading g (tables s)) env.members
      (reverse env.elements))

  pub false_is : p ≡ formula.False → false ≡ true_in g s env p
  false_is is = sym (ap (true_in g s env) is ∙ truth-false (reading g (tables s)) env.members
      (reverse env.elements))

  pub atom_is : (f : ℕ) (types : List Ty) (terms : List Term) → p ≡ formula.Atom f types terms →
      held ≡ eqb (entry_in g s env f types terms) 1 → held ≡ true_in g s env p
  atom_is f types terms is at =
      at ∙ sym (ap (true_in g s env) is
      ∙ truth-atom (reading g (tables s)) env.members f types terms (reverse env.elements))

  pub equal_is : (ty : Ty) (left right : Term) → p ≡ formula.Equal ty left right →
      held ≡ eqb (value_in g s env left) (value_in g s env right) → held ≡ true_in g s env p
  equal_is ty left right is at =
      at ∙ sym (ap (true_in g s env) is
      ∙ truth-equal (reading g (tables s)) env.members ty left right (reverse env.elements))

  pub not_is : (a : Formula) → p ≡ formula.Not a → held ≡ true_in g s env a → not held
      ≡ true_in g s env p
  not_is a is at =
      ap not at ∙ sym (ap (true_in g s env) is
      ∙ truth-not (reading g (tables s)) env.members a (reverse env.elements))

  pub and_is : (parts : List Formula) → p ≡ formula.And parts → held ≡ all_true g s env parts →
      held ≡ true_in g s env p
  and_is parts is at =
      at ∙ sym (ap (true_in g s env) is
      ∙ truth-and (reading g (tables s)) env.members parts (reverse env.elements))

  pub or_is : (parts : List Formula) → p ≡ formula.Or parts → held ≡ some_true g s env parts →
      held ≡ true_in g s env p
  or_is parts is at =
      at ∙ sym (ap (true_in g s env) is
      ∙ truth-or (reading g (tables s)) env.members parts (reverse env.elements))

  pub for_all_is : (ty : Ty) (body : Formula) → p ≡ formula.ForAll ty body →
      held ≡ all_below (size_in s env.members ty) (true_with g s env body) → held
      ≡ true_in g s env p
  for_all_is ty body is at =
      at ∙ sym (ap (true_in g s env) is
      ∙ truth-for_all (reading g (tables s)) env.members ty body (reverse env.elements))

  pub exists_is : (ty : Ty) (body : Formula) → p ≡ formula.Exists ty body →
      held ≡ some_below (size_in s env.members ty) (true_with g s env body) → held
      ≡ true_in g s env p
  exists_is ty body is at =
      at ∙ sym (ap (true_in g s env) is
      ∙ truth-exists (reading g (tables s)) env.members ty body (reverse env.elements))

-- of two parts
module _ (g : Signature) (s : TypedStructure) (env : Assignment) (p a b : Formula)
    (first second held : Bool) (first_is : first ≡ true_in g s env a)
    (second_is : second ≡ true_in g s env b)
  where
    pub iff_is : p ≡ formula.Iff a b → held ≡ (iff first second) → held ≡ true_in g s env p
    iff_is is at =
        at ∙ ap (λ x. iff x second) first_is ∙ ap (λ x. iff (true_in g s env a) x) second_is
        ∙ sym (ap (true_in g s env) is
        ∙ truth-iff (reading g (tables s)) env.members a b (reverse env.elements))

    pub xor_is : p ≡ formula.Xor a b → held ≡ (not (iff first second)) → held ≡ true_in g s env p
    xor_is is at =
        at ∙ ap (λ x. not (iff x second)) first_is ∙ ap (λ x. not (iff (true_in g s env a) x))
        second_is
        ∙ sym (ap (true_in g s env) is
        ∙ truth-xor (reading g (tables s)) env.members a b (reverse env.elements))

or_true : (b : Bool) → (b || true) ≡ true
or_true true = refl
or_true false = refl

or_false : (b : Bool) → (b || false) ≡ b
or_false true = refl
or_false false = refl

-- of two parts, of which the first decides or leaves it to the second
module _ (g : Signature) (s : TypedStructure) (env : Assignment) (p a b : Formula)
    (first : Bool) (first_is : first ≡ true_in g s env a)
  where
    found : (truth_of : Bool → Bool) (decided : Bool) → first ≡ decided →
        truth_of (true_in g s env a) ≡ truth_of decided
    found truth_of decided is = ap truth_of (sym first_is ∙ is)

    pub implies_decided : p ≡ formula.Implies a b → first ≡ false → true ≡ true_in g s env p
    implies_decided is decides =
        sym (ap (true_in g s env) is
        ∙ truth-implies (reading g (tables s)) env.members a b (reverse env.elements)
        ∙ found (λ x. implies x (true_in g s env b)) false decides)

    pub implies_open : (second : Bool) → p ≡ formula.Implies a b → first ≡ true →
        second ≡ true_in g s env b → second ≡ true_in g s env p
    implies_open second is opens second_is =
        second_is
        ∙ sym (ap (true_in g s env) is
        ∙ truth-implies (reading g (tables s)) env.members a b (reverse env.elements)
        ∙ found (λ x. implies x (true_in g s env b)) true opens)

    pub if_decided : p ≡ formula.If a b → first ≡ true → true ≡ true_in g s env p
    if_decided is decides =
        sym (ap (true_in g s env) is
        ∙ truth-if (reading g (tables s)) env.members a b (reverse env.elements)
        ∙ found (λ x. implies (true_in g s env b) x) true decides ∙ or_true (not (true_in g s env b)))

    pub if_open : (second : Bool) → p ≡ formula.If a b → first ≡ false →
        second ≡ true_in g s env b → not second ≡ true_in g s env p
    if_open second is opens second_is =
        ap not second_is
        ∙ sym (ap (true_in g s env) is
        ∙ truth-if (reading g (tables s)) env.members a b (reverse env.elements)
        ∙ found (λ x. implies (true_in g s env b) x) false opens
        ∙ or_false (not (true_in g s env b)))

    pub nand_decided : p ≡ formula.Nand a b → first ≡ false → true ≡ true_in g s env p
    nand_decided is decides =
        sym (ap (true_in g s env) is
        ∙ truth-nand (reading g (tables s)) env.members a b (reverse env.elements)
        ∙ found (λ x. not (x && (true_in g s env b))) false decides)

    pub nand_open : (second : Bool) → p ≡ formula.Nand a b → first ≡ true →
        second ≡ true_in g s env b → not second ≡ true_in g s env p
    nand_open second is opens second_is =
        ap not second_is
        ∙ sym (ap (true_in g s env) is
        ∙ truth-nand (reading g (tables s)) env.members a b (reverse env.elements)
        ∙ found (λ x. not (x && (true_in g s env b))) true opens)

    pub nor_decided : p ≡ formula.Nor a b → first ≡ true → false ≡ true_in g s env p
    nor_decided is decides =
        sym (ap (true_in g s env) is
        ∙ truth-nor (reading g (tables s)) env.members a b (reverse env.elements)
        ∙ found (λ x. not (x || (true_in g s env b))) true decides)

    pub nor_open : (second : Bool) → p ≡ formula.Nor a b → first ≡ false →
        second ≡ true_in g s env b → not second ≡ true_in g s env p
    nor_open second is opens second_is =
        ap not second_is
        ∙ sym (ap (true_in g s env) is
        ∙ truth-nor (reading g (tables s)) env.members a b (reverse env.elements)
        ∙ found (λ x. not (x || (true_in g s env b))) false opens)

pub beq-iff : (a b : Bool) → beq a b ≡ iff a b
beq-iff true true = refl
beq-iff true false = refl
beq-iff false true = refl
beq-iff false false = refl

-- an item of a list of well-typed formulas
pub formula_at : (g : Signature) (s : TypedStructure) (env : Assignment) (parts : List Formula)
    (i : ℕ) (part : Formula) → AreTrueOrFalse g s env parts → i < length parts → part
    ≡ get_or parts i part →
    IsTrueOrFalse g s env part
formula_at g s env parts i part are within is = record {
  context = are.context;
  typed = subst (IsFormula g (length env.members) are.context) (sym is)
      (go are.context i parts within are.typed);
  assigned = are.assigned;
}
  where
    go : (context : List Ty) (i : ℕ) (xs : List Formula) → i < length xs →
        AreFormulas g (length env.members) context xs →
        IsFormula g (length env.members) context (get_or xs i part)
    go context i xs within (no_formulas around) = absurd (omega arith)
    go context zero xs within (more_formulas around x others first more) = first
    go context (suc i) xs within (more_formulas around x others first more) =
        go context i others (omega arith) more

-- the greatest of numbers is as great as each
pub at_most_greatest : {A : Type 0} (f : A → ℕ) (items : List A) (i : ℕ) (item : A) →
    i < length items → item ≡ get_or items i item → f item ≤ greatest (map f items)
at_most_greatest {A} f items i item within is =
    subst (λ x. f x ≤ greatest (map f items)) (sym is) (go i items within)
  where
    go : (i : ℕ) (xs : List A) → i < length xs → f (get_or xs i item) ≤ greatest (map f xs)
    go i [] within = absurd (omega arith)
    go zero (x ∷ xs) within = omega arith
    go (suc i) (x ∷ xs) within = omega (arith, go i xs (omega arith))

-- a binder's body, under one element more

reverse-last : (elements : List ℕ) (element : ℕ) →
    reverse (elements ++ element ∷ []) ≡ element ∷ reverse elements
reverse-last elements element = reverse-append elements (element ∷ [])

pub body_typed : (g : Signature) (s : TypedStructure) (env : Assignment) (ty : Ty) (body : Formula)
    (element : ℕ) → IsBinder g s env ty body → element < size_in s env.members ty →
    IsTrueOrFalse g s (record env { elements = env.elements ++ element ∷ [] }) body
body_typed g s env ty body element binder below = record {
  context = ty ∷ binder.context;
  typed = binder.typed;
  assigned = record {
    members = binder.assigned.members;
    elements =
        subst (EachBelow (map (size_in s env.members) (ty ∷ binder.context)))
        (sym (reverse-last env.elements element)) (below, binder.assigned.elements);
  };
}

pub body_truth : (g : Signature) (s : TypedStructure) (env : Assignment) (body : Formula)
    (element : ℕ) →
    true_in g s (record env { elements = env.elements ++ element ∷ [] }) body
    ≡ true_with g s env body element
body_truth g s env body element =
    ap (truth (reading g (tables s)) env.members body) (reverse-last env.elements element)

-- a binder's body that is false of an element, and one that is true of one

pub each_fails : (bound element : ℕ) (test : ℕ → Bool) (held : Bool) → element < bound →
    held ≡ false → held ≡ test element → false ≡ all_below bound test
each_fails bound element test held within fails is = go (all_below bound test)
    (all_below-at bound test)
  where
    go : (b : Bool) → (IsTrue b → (n : ℕ) → n < bound → IsTrue (test n)) → false ≡ b
    go false each = refl
    go true each = absurd (false≢true (sym fails ∙ is ∙ each refl element within))

pub some_holds_of : (bound element : ℕ) (test : ℕ → Bool) (held : Bool) → element < bound →
    held ≡ true → held ≡ test element → true ≡ some_below bound test
some_holds_of bound element test held within holds is =
    sym (some_below-from bound test element within (sym is ∙ holds))
