-- The formulas that well typed raw formulas mean are typed, their lists have two parts at least,
-- and
-- the types at their binders have no more nodes than the raw formulas.
use Rattle.std.proofs.Common.{◌≡◌, ℕ, ◌+◌, ◌≤◌, Bool, true, false, ◌&&◌, List, [], ◌∷◌, length, map, refl, sym, ap, ◌∙◌, arith, Some, None, slice_get, leb}
use Rattle.std.specs.List.{list_all}
use Rattle.std.proofs.lemmas.Bool.{and_parts, and_from}
use Rattle.tptp_syntax.specs.declared.types.Bound.{Bound}
use Rattle.tptp_syntax.specs.declared.formula.RawFormula.{RawFormula}
use Rattle.tptp_syntax.specs.declared.formula.RawFormula.TheVariants as r
use Rattle.tptp_syntax.specs.FileSizes.{bound_nodes, formula_nodes, has_chains, is_chain}
use Rattle.tf_core.specs.declared.ty.Ty.{Ty}
use Rattle.tf_core.specs.declared.formula.Formula.{Formula}
use Rattle.tf_core.specs.declared.formula.Formula.TheVariants as f
use Rattle.tf_core.specs.declared.signature.Signature.{Signature}
use Rattle.tf_core.specs.Types as core
use Rattle.tf_core.specs.Types.{instantiate}
use Rattle.tf_core.specs.Counts.{has_pairs, binder_sum}
use Rattle.tf_core.specs.Typing.{IsType, AreTypes, IsSignature, IsFormula, AreFormulas}
use Rattle.tf_core.specs.Typing as typing
use Rattle.tf_core.proofs.Counts as c
use Rattle.tf_check.specs.Kinds.{Kind}
use Rattle.tf_check.specs.Scope.{Scope, TypeVariable, TermVariable, type_variables}
use Rattle.tf_check.specs.Types.{individuals}
use Rattle.tf_check.specs.Formulas.{binds_type, quantified, types_bound, prefix_types}
use Rattle.tf_check.specs.Typing.{type_bound, BindersMean, no_binders, type_binder, plain_binder, typed_binder}
use Rattle.tf_check.specs.Typing.{FormulaMeans, means_true, means_false, means_atom, means_equal, means_unequal, means_not, means_and, means_or, means_implies, means_if, means_iff, means_xor, means_nand, means_nor, means_for_all, means_exists, FormulasMean, no_formulas, more_formulas}
use Rattle.tf_check.proofs.KindLemmas as k
use Rattle.tf_check.proofs.PrefixLemmas.{prefix_types-for_all}
use Rattle.tf_check.proofs.NodeLemmas as nodes
use Rattle.tf_check.proofs.ChainLemmas as chains
use Rattle.tf_check.proofs.PairLemmas as pairs
use Rattle.tf_check.proofs.SumLemmas.{total, total-cons}
use Rattle.tf_check.proofs.SoundTypes.{type_size, type_formed, individuals_formed, individuals_nodes}
use Rattle.tf_check.proofs.SoundTerms.{context_of, instance_is, terms_typed, term_typed, term_formed}

-- ---- binders

-- how many type variables a list of bound variables may bind
abbrev pub may_bind : Bool → List Bound → ℕ
may_bind true bounds = types_bound bounds
may_bind false bounds = 0

-- how many the formula may bind
abbrev pub may_prefix : Bool → RawFormula → ℕ
may_prefix true x = prefix_types x
may_prefix false x = 0

may_prefix-for_all : (leading : Bool) (bounds : List Bound) (body : RawFormula) →
    may_prefix leading (r.ForAll bounds body) ≡ may_bind leading bounds + may_prefix leading body
may_prefix-for_all true bounds body = prefix_types-for_all bounds body
may_prefix-for_all false bounds body = omega arith

may_bind-more : (leading : Bool) (bound : Bound) (bounds : List Bound) →
    may_bind leading bounds ≤ may_bind leading (bound ∷ bounds)
may_bind-more true bound bounds = omega arith
may_bind-more false bound bounds = omega arith

binds_type-itself : (name : List ℕ) → binds_type (type_bound name) ≡ true
binds_type-itself name = ap (λ (kind : Kind). kind.is_types) k.kind-types

may_bind-type : (name : List ℕ) (bounds : List Bound) →
    types_bound (type_bound name ∷ bounds) ≡ 1 + types_bound bounds
may_bind-type name bounds = rw (binds_type-itself name)

module _ (g : Signature) where
  -- no more type variables than are counted
  binders_count : (leading : Bool) (scope : Scope) (bounds : List Bound) (inner : Scope)
      (types : List Ty) → BindersMean g leading scope bounds inner types →
      type_variables inner ≤ type_variables scope + may_bind leading bounds
  binders_count _ _ _ _ _ (no_binders leading scope) = omega arith
  binders_count _ _ _ _ _ (type_binder name scope bounds inner types others) =
      omega (
        arith,
        binders_count true (TypeVariable name ∷ scope) bounds inner types others,
        may_bind-type name bounds,
      )
  binders_count _ _ _ _ _ (plain_binder leading name scope bounds inner types others) =
      omega (
        arith,
        binders_count leading (TermVariable name individuals ∷ scope) bounds inner types others,
        may_bind-more leading (record { name = name; kind = None }) bounds,
      )
  binders_count _ _ _ _ _ (typed_binder leading name kind ty scope bounds inner types means
      others) =
      omega (
        arith,
        binders_count leading (TermVariable name ty ∷ scope) bounds inner types others,
        may_bind-more leading (record { name = name; kind = Some kind }) bounds,
      )

  -- bound names stay bound
  binders_more : (leading : Bool) (scope : Scope) (bounds : List Bound) (inner : Scope)
      (types : List Ty) → BindersMean g leading scope bounds inner types →
      type_variables scope ≤ type_variables inner
  binders_more _ _ _ _ _ (no_binders leading scope) = omega arith
  binders_more _ _ _ _ _ (type_binder name scope bounds inner types others) =
      omega (arith, binders_more true (TypeVariable name ∷ scope) bounds inner types others)
  binders_more _ _ _ _ _ (plain_binder leading name scope bounds inner types others) =
      binders_more leading (TermVariable name individuals ∷ scope) bounds inner types others
  binders_more _ _ _ _ _ (typed_binder leading name kind ty scope bounds inner types means
      others) =
      binders_more leading (TermVariable name ty ∷ scope) bounds inner types others

  -- the types of the variables have no more nodes than the bound names
  binders_size : (weigh : Ty → ℕ) → ((ty : Ty) → weigh ty ≤ core.type_nodes ty) → (leading : Bool)
      (scope : Scope) (bounds : List Bound) (inner : Scope) (types : List Ty) →
      BindersMean g leading scope bounds inner types → total weigh types ≤ total bound_nodes bounds
  binders_size weigh less _ _ _ _ _ (no_binders leading scope) = omega arith
  binders_size weigh less _ _ _ _ _ (type_binder name scope bounds inner types others) =
      omega (
        arith,
        binders_size weigh less true (TypeVariable name ∷ scope) bounds inner types others,
        total-cons bound_nodes (type_bound name) bounds,
      )
  binders_size weigh less _ _ _ _ _ (plain_binder leading name scope bounds inner types others) =
      omega (
        arith,
        binders_size weigh less leading (TermVariable name individuals ∷ scope) bounds inner types
            others,
        total-cons bound_nodes (record { name = name; kind = None }) bounds,
        total-cons weigh individuals types,
        less individuals,
        individuals_nodes,
      )
  binders_size weigh less _ _ _ _ _ (typed_binder leading name kind ty scope bounds inner types
      means others) =
      omega (
        arith,
        binders_size weigh less leading (TermVariable name ty ∷ scope) bounds inner types others,
        total-cons bound_nodes (record { name = name; kind = Some kind }) bounds,
        total-cons weigh ty types,
        less ty,
        type_size g.constructors scope kind ty means,
      )

-- ---- typing

module _ (g : Signature) (signed : IsSignature g)
    (first : slice_get g.constructors 0 ≡ Some (record { name = 36 ∷ 105 ∷ []; arity = 0 }))
    (variables : ℕ)
  where
    -- the types of the variables are formed
    binders_formed : (leading : Bool) (scope : Scope) (bounds : List Bound) (inner : Scope)
        (types : List Ty) → BindersMean g leading scope bounds inner types →
        type_variables inner ≤ variables → AreTypes g variables (context_of scope) →
        AreTypes g variables (context_of inner)
    binders_formed _ _ _ _ _ (no_binders leading scope) within context = context
    binders_formed _ _ _ _ _ (type_binder name scope bounds inner types others) within context =
        binders_formed true (TypeVariable name ∷ scope) bounds inner types others within context
    binders_formed _ _ _ _ _ (plain_binder leading name scope bounds inner types others) within
        context =
        binders_formed leading (TermVariable name individuals ∷ scope) bounds inner types others
        within
        (typing.more_types individuals (context_of scope)
        (individuals_formed g variables (record { name = 36 ∷ 105 ∷ []; arity = 0 }) first refl)
        context)
    binders_formed _ _ _ _ _ (typed_binder leading name kind ty scope bounds inner types means
        others)
        within context =
        let more : type_variables scope ≤ type_variables inner =
        binders_more g leading (TermVariable name ty ∷ scope) bounds inner types others in
        binders_formed leading (TermVariable name ty ∷ scope) bounds inner types others within
        (typing.more_types ty (context_of scope)
        (type_formed g variables first scope (omega arith) kind ty means) context)

    -- one quantifier after another
    quantified_typed : (make : Ty → Formula → Formula) →
        ((context : List Ty) (ty : Ty) (body : Formula) → IsType g variables ty →
        IsFormula g variables (ty ∷ context) body → IsFormula g variables context (make ty body)) →
        (leading : Bool) (scope : Scope) (bounds : List Bound) (inner : Scope) (types : List Ty)
        (a : Formula) → BindersMean g leading scope bounds inner types →
        type_variables inner ≤ variables → IsFormula g variables (context_of inner) a →
        IsFormula g variables (context_of scope) (quantified make types a)
    quantified_typed make made _ _ _ _ _ a (no_binders leading scope) within typed = typed
    quantified_typed make made _ _ _ _ _ a (type_binder name scope bounds inner types others)
        within typed =
        quantified_typed make made true (TypeVariable name ∷ scope) bounds inner types a others
        within typed
    quantified_typed make made _ _ _ _ _ a (plain_binder leading name scope bounds inner types
        others)
        within typed =
        made (context_of scope) individuals (quantified make types a)
        (individuals_formed g variables (record { name = 36 ∷ 105 ∷ []; arity = 0 }) first refl)
        (quantified_typed make made leading (TermVariable name individuals ∷ scope) bounds inner
        types a
        others within typed)
    quantified_typed make made _ _ _ _ _ a
        (typed_binder leading name kind ty scope bounds inner types means others) within typed =
        let more : type_variables scope ≤ type_variables inner =
        binders_more g leading (TermVariable name ty ∷ scope) bounds inner types others in
        made (context_of scope) ty (quantified make types a)
        (type_formed g variables first scope (omega arith) kind ty means)
        (quantified_typed make made leading (TermVariable name ty ∷ scope) bounds inner types a
        others
        within typed)

    mutual
      pub formula_typed : (leading : Bool) (scope : Scope) (x : RawFormula) (a : Formula) →
          FormulaMeans g leading scope x a → type_variables scope + may_prefix leading x
          ≤ variables →
          AreTypes g variables (context_of scope) → IsFormula g variables (context_of scope) a
      formula_typed _ _ _ _ (means_true leading scope) within context = typing.is_true
          (context_of scope)
      formula_typed _ _ _ _ (means_false leading scope) within context = typing.is_false
          (context_of scope)
      formula_typed _ _ _ _
          (means_atom leading scope name place symbol front types back terms applied means) within
          context =
          typing.is_atom (context_of scope) place symbol types terms (record {
            predicate = instance_is g signed first variables scope (omega arith) name place symbol
                None
                front types applied;
            arguments = terms_typed g signed first variables scope (omega arith) back terms
                (map (instantiate types) symbol.arguments) means;
          })
      formula_typed _ _ _ _ (means_equal leading scope left right ty a b one two) within context =
          typing.is_equal (context_of scope) ty a b (record {
            formed = term_formed g signed first variables scope (omega arith) context left a ty
                one;
            left_side = term_typed g signed first variables scope (omega arith) left a ty one;
            right_side = term_typed g signed first variables scope (omega arith) right b ty two;
          })
      formula_typed _ _ _ _ (means_unequal leading scope left right ty a b one two) within
          context =
          typing.is_not (context_of scope) (f.Equal ty a b)
          (typing.is_equal (context_of scope) ty a b (record {
            formed = term_formed g signed first variables scope (omega arith) context left a ty
                one;
            left_side = term_typed g signed first variables scope (omega arith) left a ty one;
            right_side = term_typed g signed first variables scope (omega arith) right b ty two;
          }))
      formula_typed _ _ _ _ (means_not leading scope part a means) within context =
          typing.is_not (context_of scope) a (formula_typed false scope part a means
          (omega arith) context)
      formula_typed _ _ _ _ (means_and leading scope parts bodies means) within context =
          typing.is_and (context_of scope) bodies
          (formulas_typed scope parts bodies means (omega arith) context)
      formula_typed _ _ _ _ (means_or leading scope parts bodies means) within context =
          typing.is_or (context_of scope) bodies
          (formulas_typed scope parts bodies means (omega arith) context)
      formula_typed _ _ _ _ (means_implies leading scope left right a b one two) within context =
          typing.is_implies (context_of scope) a b
          (formula_typed false scope left a one (omega arith) context)
          (formula_typed false scope right b two (omega arith) context)
      formula_typed _ _ _ _ (means_if leading scope left right a b one two) within context =
          typing.is_if (context_of scope) a b
          (formula_typed false scope left a one (omega arith) context)
          (formula_typed false scope right b two (omega arith) context)
      formula_typed _ _ _ _ (means_iff leading scope left right a b one two) within context =
          typing.is_iff (context_of scope) a b
          (formula_typed false scope left a one (omega arith) context)
          (formula_typed false scope right b two (omega arith) context)
      formula_typed _ _ _ _ (means_xor leading scope left right a b one two) within context =
          typing.is_xor (context_of scope) a b
          (formula_typed false scope left a one (omega arith) context)
          (formula_typed false scope right b two (omega arith) context)
      formula_typed _ _ _ _ (means_nand leading scope left right a b one two) within context =
          typing.is_nand (context_of scope) a b
          (formula_typed false scope left a one (omega arith) context)
          (formula_typed false scope right b two (omega arith) context)
      formula_typed _ _ _ _ (means_nor leading scope left right a b one two) within context =
          typing.is_nor (context_of scope) a b
          (formula_typed false scope left a one (omega arith) context)
          (formula_typed false scope right b two (omega arith) context)
      formula_typed _ _ _ _ (means_for_all leading scope inner bounds types body a bind means)
          within context =
          let bounded : type_variables inner + may_prefix leading body ≤ variables =
          omega (
            arith,
            binders_count g leading scope bounds inner types bind,
            may_prefix-for_all leading bounds body,
          ) in
          quantified_typed f.ForAll typing.is_for_all leading scope bounds inner types a bind
          (omega arith)
          (formula_typed leading inner body a means bounded
          (binders_formed leading scope bounds inner types bind (omega arith) context))
      formula_typed _ _ _ _ (means_exists leading scope inner bounds types body a bind means)
          within context =
          let bounded : type_variables inner + may_prefix false body ≤ variables =
          omega (arith, binders_count g false scope bounds inner types bind) in
          quantified_typed f.Exists typing.is_exists false scope bounds inner types a bind
          (omega arith)
          (formula_typed false inner body a means bounded
          (binders_formed false scope bounds inner types bind (omega arith) context))

      formulas_typed : (scope : Scope) (xs : List RawFormula) (bodies : List Formula) →
          FormulasMean g scope xs bodies → type_variables scope ≤ variables →
          AreTypes g variables (context_of scope) →
          AreFormulas g variables (context_of scope) bodies
      formulas_typed _ _ _ (no_formulas scope) within context = typing.no_formulas
          (context_of scope)
      formulas_typed _ _ _ (more_formulas scope part a parts bodies means others) within context =
          typing.more_formulas (context_of scope) a bodies
          (formula_typed false scope part a means (omega arith) context)
          (formulas_typed scope parts bodies others within context)

-- ---- pairs

module _ (g : Signature) where
  formulas_count : (scope : Scope) (xs : List RawFormula) (bodies : List Formula) →
      FormulasMean g scope xs bodies → length (map has_pairs bodies) ≡ length (map has_chains xs)
  formulas_count _ _ _ (no_formulas scope) = refl
  formulas_count _ _ _ (more_formulas scope part a parts bodies means others) =
      omega (arith, formulas_count scope parts bodies others)

  quantified_pairs : (make : Ty → Formula → Formula) →
      ((ty : Ty) (body : Formula) → has_pairs (make ty body) ≡ has_pairs body) → (types : List Ty)
      (a : Formula) → has_pairs (quantified make types a) ≡ has_pairs a
  quantified_pairs make kept [] a = refl
  quantified_pairs make kept (ty ∷ types) a =
      kept ty (quantified make types a) ∙ quantified_pairs make kept types a

  both_pairs : (a b : Formula) (left right : RawFormula) →
      (has_chains left ≡ true → has_pairs a ≡ true) →
      (has_chains right ≡ true → has_pairs b ≡ true) →
      (has_chains left && has_chains right) ≡ true → (has_pairs a && has_pairs b) ≡ true
  both_pairs a b left right one two holds =
      let parts = and_parts (has_chains left) (has_chains right) holds in
      and_from (has_pairs a) (has_pairs b) (one parts.0) (two parts.1)

  list_pairs : (scope : Scope) (xs : List RawFormula) (bodies : List Formula) →
      FormulasMean g scope xs bodies →
      (list_all (λ (part : Bool). part) (map has_chains xs) ≡ true →
      list_all (λ (part : Bool). part) (map has_pairs bodies) ≡ true) →
      is_chain (map has_chains xs) ≡ true → is_chain (map has_pairs bodies) ≡ true
  list_pairs scope xs bodies means each holds =
      let parts = and_parts (leb 2 (length (map has_chains xs)))
      (list_all (λ (part : Bool). part) (map has_chains xs)) holds in
      and_from (leb 2 (length (map has_pairs bodies)))
      (list_all (λ (part : Bool). part) (map has_pairs bodies))
      (ap (leb 2) (formulas_count scope xs bodies means) ∙ parts.0) (each parts.1)

  mutual
    pub formula_pairs : (leading : Bool) (scope : Scope) (x : RawFormula) (a : Formula) →
        FormulaMeans g leading scope x a → has_chains x ≡ true → has_pairs a ≡ true
    formula_pairs _ _ _ _ (means_true leading scope) holds = pairs.has_pairs-true
    formula_pairs _ _ _ _ (means_false leading scope) holds = pairs.has_pairs-false
    formula_pairs _ _ _ _
        (means_atom leading scope name place symbol front types back terms applied means) holds =
        pairs.has_pairs-atom place types terms
    formula_pairs _ _ _ _ (means_equal leading scope left right ty a b one two) holds =
        pairs.has_pairs-equal ty a b
    formula_pairs _ _ _ _ (means_unequal leading scope left right ty a b one two) holds =
        pairs.has_pairs-not (f.Equal ty a b) ∙ pairs.has_pairs-equal ty a b
    formula_pairs _ _ _ _ (means_not leading scope part a means) holds =
        pairs.has_pairs-not a
        ∙ formula_pairs false scope part a means (sym (chains.has_chains-not part) ∙ holds)
    formula_pairs _ _ _ _ (means_and leading scope parts bodies means) holds =
        pairs.has_pairs-and bodies
        ∙ list_pairs scope parts bodies means (λ each. all_pairs scope parts bodies means each)
        (sym (chains.has_chains-and parts) ∙ holds)
    formula_pairs _ _ _ _ (means_or leading scope parts bodies means) holds =
        pairs.has_pairs-or bodies
        ∙ list_pairs scope parts bodies means (λ each. all_pairs scope parts bodies means each)
        (sym (chains.has_chains-or parts) ∙ holds)
    formula_pairs _ _ _ _ (means_implies leading scope left right a b one two) holds =
        pairs.has_pairs-implies a b
        ∙ both_pairs a b left right (formula_pairs false scope left a one)
        (formula_pairs false scope right b two) (sym (chains.has_chains-implies left right)
        ∙ holds)
    formula_pairs _ _ _ _ (means_if leading scope left right a b one two) holds =
        pairs.has_pairs-if a b
        ∙ both_pairs a b left right (formula_pairs false scope left a one)
        (formula_pairs false scope right b two) (sym (chains.has_chains-if left right) ∙ holds)
    formula_pairs _ _ _ _ (means_iff leading scope left right a b one two) holds =
        pairs.has_pairs-iff a b
        ∙ both_pairs a b left right (formula_pairs false scope left a one)
        (formula_pairs false scope right b two) (sym (chains.has_chains-iff left right) ∙ holds)
    formula_pairs _ _ _ _ (means_xor leading scope left right a b one two) holds =
        pairs.has_pairs-xor a b
        ∙ both_pairs a b left right (formula_pairs false scope left a one)
        (formula_pairs false scope right b two) (sym (chains.has_chains-xor left right) ∙ holds)
    formula_pairs _ _ _ _ (means_nand leading scope left right a b one two) holds =
        pairs.has_pairs-nand a b
        ∙ both_pairs a b left right (formula_pairs false scope left a one)
        (formula_pairs false scope right b two) (sym (chains.has_chains-nand left right) ∙ holds)
    formula_pairs _ _ _ _ (means_nor leading scope left right a b one two) holds =
        pairs.has_pairs-nor a b
        ∙ both_pairs a b left right (formula_pairs false scope left a one)
        (formula_pairs false scope right b two) (sym (chains.has_chains-nor left right) ∙ holds)
    formula_pairs _ _ _ _ (means_for_all leading scope inner bounds types body a bind means)
        holds =
        quantified_pairs f.ForAll pairs.has_pairs-for_all types a
        ∙ formula_pairs leading inner body a means (sym (chains.has_chains-for_all bounds body)
        ∙ holds)
    formula_pairs _ _ _ _ (means_exists leading scope inner bounds types body a bind means) holds =
        quantified_pairs f.Exists pairs.has_pairs-exists types a
        ∙ formula_pairs false inner body a means (sym (chains.has_chains-exists bounds body)
        ∙ holds)

    all_pairs : (scope : Scope) (xs : List RawFormula) (bodies : List Formula) →
        FormulasMean g scope xs bodies → list_all (λ (part : Bool). part) (map has_chains xs)
        ≡ true →
        list_all (λ (part : Bool). part) (map has_pairs bodies) ≡ true
    all_pairs _ _ _ (no_formulas scope) holds = refl
    all_pairs _ _ _ (more_formulas scope part a parts bodies means others) holds =
        let split = and_parts (has_chains part) (list_all (λ (b : Bool). b) (map has_chains parts))
        holds in
        and_from (has_pairs a) (list_all (λ (b : Bool). b) (map has_pairs bodies))
        (formula_pairs false scope part a means split.0)
        (all_pairs scope parts bodies others split.1)

-- ---- counts

module _ (g : Signature) (weigh : Ty → ℕ) (less : (ty : Ty) → weigh ty ≤ core.type_nodes ty) where
  quantified_sum : (make : Ty → Formula → Formula) →
      ((ty : Ty) (body : Formula) → binder_sum weigh (make ty body) ≡ weigh ty
      + binder_sum weigh body) →
      (types : List Ty) (a : Formula) →
      binder_sum weigh (quantified make types a) ≡ total weigh types + binder_sum weigh a
  quantified_sum make more [] a = omega arith
  quantified_sum make more (ty ∷ types) a =
      omega (
        arith,
        more ty (quantified make types a),
        quantified_sum make more types a,
        total-cons weigh ty types,
      )

  mutual
    -- what the binders count for
    pub formula_size : (leading : Bool) (scope : Scope) (x : RawFormula) (a : Formula) →
        FormulaMeans g leading scope x a → binder_sum weigh a ≤ formula_nodes x
    formula_size _ _ _ _ (means_true leading scope) = omega (arith, c.binder_sum-true weigh)
    formula_size _ _ _ _ (means_false leading scope) = omega (arith, c.binder_sum-false weigh)
    formula_size _ _ _ _
        (means_atom leading scope name place symbol front types back terms applied means) =
        omega (arith, c.binder_sum-atom weigh place types terms)
    formula_size _ _ _ _ (means_equal leading scope left right ty a b one two) =
        omega (arith, c.binder_sum-equal weigh ty a b)
    formula_size _ _ _ _ (means_unequal leading scope left right ty a b one two) =
        omega (arith, c.binder_sum-not weigh (f.Equal ty a b), c.binder_sum-equal weigh ty a b)
    formula_size _ _ _ _ (means_not leading scope part a means) =
        omega (
          arith,
          c.binder_sum-not weigh a,
          nodes.formula_nodes-not part,
          formula_size false scope part a means,
        )
    formula_size _ _ _ _ (means_and leading scope parts bodies means) =
        omega (
          arith,
          c.binder_sum-and weigh bodies,
          nodes.formula_nodes-and parts,
          formulas_size scope parts bodies means,
        )
    formula_size _ _ _ _ (means_or leading scope parts bodies means) =
        omega (
          arith,
          c.binder_sum-or weigh bodies,
          nodes.formula_nodes-or parts,
          formulas_size scope parts bodies means,
        )
    formula_size _ _ _ _ (means_implies leading scope left right a b one two) =
        omega (
          arith,
          c.binder_sum-implies weigh a b,
          nodes.formula_nodes-implies left right,
          formula_size false scope left a one,
          formula_size false scope right b two,
        )
    formula_size _ _ _ _ (means_if leading scope left right a b one two) =
        omega (
          arith,
          c.binder_sum-if weigh a b,
          nodes.formula_nodes-if left right,
          formula_size false scope left a one,
          formula_size false scope right b two,
        )
    formula_size _ _ _ _ (means_iff leading scope left right a b one two) =
        omega (
          arith,
          c.binder_sum-iff weigh a b,
          nodes.formula_nodes-iff left right,
          formula_size false scope left a one,
          formula_size false scope right b two,
        )
    formula_size _ _ _ _ (means_xor leading scope left right a b one two) =
        omega (
          arith,
          c.binder_sum-xor weigh a b,
          nodes.formula_nodes-xor left right,
          formula_size false scope left a one,
          formula_size false scope right b two,
        )
    formula_size _ _ _ _ (means_nand leading scope left right a b one two) =
        omega (
          arith,
          c.binder_sum-nand weigh a b,
          nodes.formula_nodes-nand left right,
          formula_size false scope left a one,
          formula_size false scope right b two,
        )
    formula_size _ _ _ _ (means_nor leading scope left right a b one two) =
        omega (
          arith,
          c.binder_sum-nor weigh a b,
          nodes.formula_nodes-nor left right,
          formula_size false scope left a one,
          formula_size false scope right b two,
        )
    formula_size _ _ _ _ (means_for_all leading scope inner bounds types body a bind means) =
        omega (
          arith,
          quantified_sum f.ForAll (c.binder_sum-for_all weigh) types a,
          nodes.formula_nodes-for_all bounds body,
          binders_size g weigh less leading scope bounds inner types bind,
          formula_size leading inner body a means,
        )
    formula_size _ _ _ _ (means_exists leading scope inner bounds types body a bind means) =
        omega (
          arith,
          quantified_sum f.Exists (c.binder_sum-exists weigh) types a,
          nodes.formula_nodes-exists bounds body,
          binders_size g weigh less false scope bounds inner types bind,
          formula_size false inner body a means,
        )

    formulas_size : (scope : Scope) (xs : List RawFormula) (bodies : List Formula) →
        FormulasMean g scope xs bodies → total (binder_sum weigh) bodies ≤ total formula_nodes xs
    formulas_size _ _ _ (no_formulas scope) = omega arith
    formulas_size _ _ _ (more_formulas scope part a parts bodies means others) =
        omega (
          arith,
          formula_size false scope part a means,
          formulas_size scope parts bodies others,
          total-cons (binder_sum weigh) a bodies,
          total-cons formula_nodes part parts,
        )
