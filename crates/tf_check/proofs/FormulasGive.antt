-- Well typed formulas are visited without a fault, and give what they mean.
use Rattle.std.proofs.Common.{◌≡◌, ℕ, Bool, true, false, List, [], ◌∷◌, ◌++◌, map, refl, ap, ◌∙◌, Option, Some, None}
use Rattle.std.proofs.lemmas.List.{length-map}
use Rattle.tptp_syntax.specs.declared.types.TypeExpr.{TypeExpr}
use Rattle.tptp_syntax.specs.declared.types.TypeExpr.TheVariants as e
use Rattle.tptp_syntax.specs.declared.types.Bound.{Bound}
use Rattle.tptp_syntax.specs.declared.term.RawTerm.{RawTerm}
use Rattle.tptp_syntax.specs.declared.formula.RawFormula.{RawFormula}
use Rattle.tf_core.specs.declared.ty.Ty.{Ty}
use Rattle.tf_core.specs.declared.term.Term.{Term}
use Rattle.tf_core.specs.declared.formula.Formula.{Formula}
use Rattle.tf_core.specs.declared.formula.Formula.TheVariants as f
use Rattle.tf_core.specs.declared.signature.Constructor.{Constructor}
use Rattle.tf_core.specs.declared.signature.Signature.{Signature}
use Rattle.tf_core.specs.Types.{instantiate, same_type}
use Rattle.tf_check.specs.declared.error.TypeError.TheVariants.{Mismatch, TypeQuantifier}
use Rattle.tf_check.specs.Kinds.{kind, Kind}
use Rattle.tf_check.specs.Scope.{Scope, TypeVariable, TermVariable}
use Rattle.tf_check.specs.Visited.{Visited, good, expect, in_turn, ◌>>=◌, ◌>>◌}
use Rattle.tf_check.specs.Types.{individuals}
use Rattle.tf_check.specs.declared.terms.Arguments.{Arguments}
use Rattle.tf_check.specs.Terms.{term_reading, arguments_of, number_of, expect_number, predicate_applied}
use Rattle.tf_check.specs.Formulas as specs
use Rattle.tf_check.specs.Formulas.{Binders, binds_type, binder, binders, variable_type, term_binder, quantified, equation, quantifier, two, several, FormulaReading, formula_reading}
use Rattle.tf_check.specs.Typing.{TypeMeans, bound_type, applied_type, individuals_type, TermMeans, type_bound}
use Rattle.tf_check.specs.Typing.{BindersMean, no_binders, type_binder, plain_binder, typed_binder}
use Rattle.tf_check.specs.Typing.{FormulaMeans, means_true, means_false, means_atom, means_equal, means_unequal, means_not, means_and, means_or, means_implies, means_if, means_iff, means_xor, means_nand, means_nor, means_for_all, means_exists, FormulasMean, no_formulas, more_formulas}
use Rattle.tf_check.proofs.VisitLemmas.{Gives, gives-good, gives-bind, gives-then, gives-expect, gives-none, gives-more, gives-then_branch, gives-else_branch}
use Rattle.tf_check.proofs.SameLemmas.{same_type-self}
use Rattle.tf_check.proofs.KindLemmas as k
use Rattle.tf_check.proofs.TypesGive.{type_gives}
use Rattle.tf_check.proofs.TermsGive.{AreAllowed, number_gives, arguments_of_gives, term_gives, terms_give, terms_count}
use Rattle.tf_check.proofs.FormulaLemmas as l

-- a type of terms is not `$tType`
no_kind : (constructors : List Constructor) (scope : Scope) (x : TypeExpr) (ty : Ty) →
    TypeMeans constructors scope x ty → (kind x).is_types ≡ false
no_kind constructors scope _ _ (bound_type name i is) =
    ap (λ (kind : Kind). kind.is_types) (k.kind-variable name)
no_kind constructors scope _ _ (applied_type name place constructor parts types named arity means) =
    ap (λ (kind : Kind). kind.is_types) (k.kind-apply name parts)
no_kind constructors scope _ _ individuals_type =
    ap (λ (kind : Kind). kind.is_types) k.kind-individuals

module _ (entry : ℕ) (g : Signature) where
  -- one binder and then others
  more_binders : (leading : Bool) (bound : Bound) (bounds : List Bound) (scope middle inner : Scope)
      (first types : List Ty) →
      Gives (binder entry g leading bound scope) (record { scope = middle; types = first }) →
      Gives (binders entry g leading bounds middle) (record { scope = inner; types = types }) →
      Gives (binders entry g leading (bound ∷ bounds) scope)
      (record { scope = inner; types = first ++ types })
  more_binders leading bound bounds scope middle inner first types one others =
      gives-bind (binder entry g leading bound scope)
      (λ b. binders entry g leading bounds b.scope >>= λ i.
      good (record { scope = i.scope; types = b.types ++ i.types }))
      (record { scope = middle; types = first })
      (record { scope = inner; types = first ++ types }) one
      (gives-bind (binders entry g leading bounds middle)
      (λ i. good (record { scope = i.scope; types = first ++ i.types }))
      (record { scope = inner; types = types })
      (record { scope = inner; types = first ++ types }) others
      (gives-good (record { scope = inner; types = first ++ types })))

  term_binder_gives : (name : List ℕ) (kind : Option TypeExpr) (scope : Scope) (ty : Ty) →
      Gives (variable_type entry g kind scope) ty →
      Gives (term_binder entry g name kind scope)
      (record { scope = TermVariable name ty ∷ scope; types = ty ∷ [] })
  term_binder_gives name kind scope ty given =
      gives-bind (variable_type entry g kind scope)
      (λ a. good (record { scope = TermVariable name a ∷ scope; types = a ∷ [] })) ty
      (record { scope = TermVariable name ty ∷ scope; types = ty ∷ [] }) given
      (gives-good (record { scope = TermVariable name ty ∷ scope; types = ty ∷ [] }))

  type_binder_gives : (name : List ℕ) (scope : Scope) →
      Gives (binder entry g true (type_bound name) scope)
      (record { scope = TypeVariable name ∷ scope; types = [] })
  type_binder_gives name scope =
      gives-then_branch (binds_type (type_bound name)) (specs.type_binder entry g true name scope)
      (term_binder entry g name (Some e.Types) scope)
      (record { scope = TypeVariable name ∷ scope; types = [] })
      (ap (λ (kind : Kind). kind.is_types) k.kind-types)
      (gives-then (expect true (TypeQuantifier entry))
      (good (record { scope = TypeVariable name ∷ scope; types = [] }))
      (record { scope = TypeVariable name ∷ scope; types = [] })
      (gives-expect true (TypeQuantifier entry) refl)
      (gives-good (record { scope = TypeVariable name ∷ scope; types = [] })))

  pub binders_give : (leading : Bool) (scope : Scope) (bounds : List Bound) (inner : Scope)
      (types : List Ty) → BindersMean g leading scope bounds inner types →
      Gives (binders entry g leading bounds scope) (record { scope = inner; types = types })
  binders_give _ _ _ _ _ (no_binders leading scope) =
      gives-good (record { scope = scope; types = [] })
  binders_give _ _ _ _ _ (type_binder name scope bounds inner types others) =
      more_binders true (type_bound name) bounds scope (TypeVariable name ∷ scope) inner [] types
      (type_binder_gives name scope)
      (binders_give true (TypeVariable name ∷ scope) bounds inner types others)
  binders_give _ _ _ _ _ (plain_binder leading name scope bounds inner types others) =
      more_binders leading (record { name = name; kind = None }) bounds scope
      (TermVariable name individuals ∷ scope) inner (individuals ∷ []) types
      (term_binder_gives name None scope individuals (gives-good individuals))
      (binders_give leading (TermVariable name individuals ∷ scope) bounds inner types others)
  binders_give _ _ _ _ _ (typed_binder leading name kind ty scope bounds inner types means others) =
      more_binders leading (record { name = name; kind = Some kind }) bounds scope
      (TermVariable name ty ∷ scope) inner (ty ∷ []) types
      (gives-else_branch (binds_type (record { name = name; kind = Some kind }))
      (specs.type_binder entry g leading name scope) (term_binder entry g name (Some kind) scope)
      (record { scope = TermVariable name ty ∷ scope; types = ty ∷ [] })
      (no_kind g.constructors scope kind ty means)
      (term_binder_gives name (Some kind) scope ty
      (type_gives entry g.constructors scope kind ty means)))
      (binders_give leading (TermVariable name ty ∷ scope) bounds inner types others)

module _ (entry : ℕ) (g : Signature) (allowed : AreAllowed g) where
  equation_gives : (make : Formula → Formula) (scope : Scope) (left right : RawTerm) (ty : Ty)
      (a b : Term) → TermMeans g scope left a ty → TermMeans g scope right b ty →
      Gives (equation entry g make left right scope) (make (f.Equal ty a b))
  equation_gives make scope left right ty a b one two =
      gives-bind ((term_reading entry g left).as_term scope)
      (λ x. (term_reading entry g right).as_term scope >>= λ y.
      expect (same_type x.1 y.1) (Mismatch entry x.1 y.1) >> good (make (f.Equal x.1 x.0 y.0)))
      (a, ty) (make (f.Equal ty a b)) (term_gives entry g scope allowed left a ty one)
      (gives-bind ((term_reading entry g right).as_term scope)
      (λ y. expect (same_type ty y.1) (Mismatch entry ty y.1) >> good (make (f.Equal ty a y.0)))
      (b, ty) (make (f.Equal ty a b)) (term_gives entry g scope allowed right b ty two)
      (gives-then (expect (same_type ty ty) (Mismatch entry ty ty)) (good (make (f.Equal ty a b)))
      (make (f.Equal ty a b))
      (gives-expect (same_type ty ty) (Mismatch entry ty ty) (same_type-self ty))
      (gives-good (make (f.Equal ty a b)))))

  two_give : (make : Formula → Formula → Formula) (left right : FormulaReading) (scope : Scope)
      (a b : Formula) → Gives (left false scope) a → Gives (right false scope) b →
      Gives (two entry g make left right scope) (make a b)
  two_give make left right scope a b one other =
      gives-bind (left false scope) (λ x. right false scope >>= λ y. good (make x y)) a (make a b) one
      (gives-bind (right false scope) (λ y. good (make a y)) b (make a b) other
      (gives-good (make a b)))

  quantifier_gives : (make : Ty → Formula → Formula) (leading : Bool) (bounds : List Bound)
      (body : FormulaReading) (scope inner : Scope) (types : List Ty) (a : Formula) →
      BindersMean g leading scope bounds inner types → Gives (body leading inner) a →
      Gives (quantifier entry g make leading bounds body scope) (quantified make types a)
  quantifier_gives make leading bounds body scope inner types a bind given =
      gives-bind (binders entry g leading bounds scope)
      (λ i. body leading i.scope >>= λ x. good (quantified make i.types x))
      (record { scope = inner; types = types }) (quantified make types a)
      (binders_give entry g leading scope bounds inner types bind)
      (gives-bind (body leading inner) (λ x. good (quantified make types x)) a
      (quantified make types a) given (gives-good (quantified make types a)))

  several_give : (make : List Formula → Formula) (parts : List FormulaReading) (scope : Scope)
      (bodies : List Formula) →
      Gives (in_turn (map (λ (part : FormulaReading). part false scope) parts)) bodies →
      Gives (several entry g make parts scope) (make bodies)
  several_give make parts scope bodies given =
      gives-bind (in_turn (map (λ (part : FormulaReading). part false scope) parts))
      (λ xs. good (make xs)) bodies (make bodies) given (gives-good (make bodies))

  atom_gives : (name : List ℕ) (place : ℕ) (arguments : Visited Arguments)
      (types : List Ty) (terms : List Term) →
      Gives arguments (record { types = types; terms = terms }) →
      Gives (predicate_applied entry g name place None arguments) (f.Atom place types terms)
  atom_gives name place arguments types terms given =
      gives-bind arguments (λ a. good (f.Atom place a.types a.terms))
      (record { types = types; terms = terms }) (f.Atom place types terms) given
      (gives-good (f.Atom place types terms))

  mutual
    pub formula_gives : (leading : Bool) (scope : Scope) (x : RawFormula) (a : Formula) →
        FormulaMeans g leading scope x a → Gives (formula_reading entry g x leading scope) a
    formula_gives _ _ _ _ (means_true leading scope) =
        rw (l.formula_reading-true entry g) (gives-good f.True)
    formula_gives _ _ _ _ (means_false leading scope) =
        rw (l.formula_reading-false entry g) (gives-good f.False)
    formula_gives _ _ _ _
        (means_atom leading scope name place symbol front types back terms applied means) =
        rw (l.formula_reading-atom entry g name (front ++ back), applied.named, applied.gives)
        (gives-then (expect_number (number_of g place))
        (predicate_applied entry g name place None
        (arguments_of entry symbol (map (term_reading entry g) (front ++ back)) scope))
        (f.Atom place types terms)
        (number_gives (number_of g place) (allowed.within name place symbol applied.named))
        (atom_gives name place
        (arguments_of entry symbol (map (term_reading entry g) (front ++ back)) scope) types terms
        (arguments_of_gives entry g scope allowed name place symbol None front types back terms applied
        (terms_count entry g scope allowed back terms (map (instantiate types) symbol.arguments) means
        ∙ length-map symbol.arguments (instantiate types))
        (terms_give entry g scope allowed back terms (map (instantiate types) symbol.arguments)
        means))))
    formula_gives _ _ _ _ (means_equal leading scope left right ty a b one two) =
        rw (l.formula_reading-equal entry g left right)
        (equation_gives (λ body. body) scope left right ty a b one two)
    formula_gives _ _ _ _ (means_unequal leading scope left right ty a b one two) =
        rw (l.formula_reading-unequal entry g left right)
        (equation_gives f.Not scope left right ty a b one two)
    formula_gives _ _ _ _ (means_not leading scope part a means) =
        rw (l.formula_reading-not entry g part)
        (gives-bind (formula_reading entry g part false scope) (λ x. good (f.Not x)) a (f.Not a)
        (formula_gives false scope part a means) (gives-good (f.Not a)))
    formula_gives _ _ _ _ (means_and leading scope parts bodies means) =
        rw (l.formula_reading-and entry g parts)
        (several_give f.And (map (formula_reading entry g) parts) scope bodies
        (formulas_give scope parts bodies means))
    formula_gives _ _ _ _ (means_or leading scope parts bodies means) =
        rw (l.formula_reading-or entry g parts)
        (several_give f.Or (map (formula_reading entry g) parts) scope bodies
        (formulas_give scope parts bodies means))
    formula_gives _ _ _ _ (means_implies leading scope left right a b one other) =
        rw (l.formula_reading-implies entry g left right)
        (two_give f.Implies (formula_reading entry g left) (formula_reading entry g right) scope a b
        (formula_gives false scope left a one) (formula_gives false scope right b other))
    formula_gives _ _ _ _ (means_if leading scope left right a b one other) =
        rw (l.formula_reading-if entry g left right)
        (two_give f.If (formula_reading entry g left) (formula_reading entry g right) scope a b
        (formula_gives false scope left a one) (formula_gives false scope right b other))
    formula_gives _ _ _ _ (means_iff leading scope left right a b one other) =
        rw (l.formula_reading-iff entry g left right)
        (two_give f.Iff (formula_reading entry g left) (formula_reading entry g right) scope a b
        (formula_gives false scope left a one) (formula_gives false scope right b other))
    formula_gives _ _ _ _ (means_xor leading scope left right a b one other) =
        rw (l.formula_reading-xor entry g left right)
        (two_give f.Xor (formula_reading entry g left) (formula_reading entry g right) scope a b
        (formula_gives false scope left a one) (formula_gives false scope right b other))
    formula_gives _ _ _ _ (means_nand leading scope left right a b one other) =
        rw (l.formula_reading-nand entry g left right)
        (two_give f.Nand (formula_reading entry g left) (formula_reading entry g right) scope a b
        (formula_gives false scope left a one) (formula_gives false scope right b other))
    formula_gives _ _ _ _ (means_nor leading scope left right a b one other) =
        rw (l.formula_reading-nor entry g left right)
        (two_give f.Nor (formula_reading entry g left) (formula_reading entry g right) scope a b
        (formula_gives false scope left a one) (formula_gives false scope right b other))
    formula_gives _ _ _ _ (means_for_all leading scope inner bounds types body a bind means) =
        rw (l.formula_reading-for_all entry g bounds body)
        (quantifier_gives f.ForAll leading bounds (formula_reading entry g body) scope inner types a
        bind (formula_gives leading inner body a means))
    formula_gives _ _ _ _ (means_exists leading scope inner bounds types body a bind means) =
        rw (l.formula_reading-exists entry g bounds body)
        (quantifier_gives f.Exists false bounds (formula_reading entry g body) scope inner types a
        bind (formula_gives false inner body a means))

    pub formulas_give : (scope : Scope) (xs : List RawFormula) (bodies : List Formula) →
        FormulasMean g scope xs bodies →
        Gives (in_turn (map (λ (part : FormulaReading). part false scope)
        (map (formula_reading entry g) xs))) bodies
    formulas_give _ _ _ (no_formulas scope) = gives-none
    formulas_give _ _ _ (more_formulas scope part a parts bodies means others) =
        gives-more (formula_reading entry g part false scope)
        (map (λ (part : FormulaReading). part false scope) (map (formula_reading entry g) parts))
        a bodies (formula_gives false scope part a means) (formulas_give scope parts bodies others)
