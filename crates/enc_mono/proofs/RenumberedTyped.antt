-- Renumbered terms and formulas are well typed over the symbols that symbol instances become.
use Rattle.std.specs.Prelude.{ℕ, ◌≡◌, List, [], ◌∷◌, map, length, slice_get, option_map, Option, Some, None}
use Rattle.std.specs.List.{AllByRecursion}
use Rattle.std.proofs.Common.{refl, sym, ap, ◌∙◌, subst}
use Rattle.std.proofs.lemmas.Option.{slice_get-map}
use Rattle.tf_core.specs.declared.ty.Ty.{Ty}
use Rattle.tf_core.specs.declared.term.Term.{Term}
use Rattle.tf_core.specs.declared.term.Term.TheVariants as term
use Rattle.tf_core.specs.declared.nnf.Nnf.{Nnf}
use Rattle.tf_core.specs.declared.signature.Symbol.{Symbol}
use Rattle.tf_core.specs.declared.signature.Signature.{Signature}
use Rattle.tf_core.specs.declared.normal.Normal.{Normal}
use Rattle.tf_core.specs.Types.{instantiate}
use Rattle.tf_core.specs.Sorts.{joined}
use Rattle.tf_core.specs.Typing.{IsType, type_variable, type_apply, AreTypes, no_types, more_types, HasType, of_variable, of_apply, HaveTypes, no_terms, more_terms, IsNnf, nnf_true, nnf_false, nnf_atom, nnf_equation, nnf_and, nnf_or, nnf_for_all, nnf_exists, AreNnf, no_parts, more_parts, IsResult, IsSymbol, IsSignature}
use Rattle.tf_core.proofs.Compared.{instantiate-none}
use Rattle.tf_core.proofs.TypingKept.{type-substituted, types-substituted}
use Rattle.tf_core.proofs.Values.{symbol_typed}
use Rattle.enc_mono.specs.declared.instances.Origin.{Origin}
use Rattle.enc_mono.specs.Instances.{term_instances, symbol_instances}
use Rattle.enc_mono.specs.Origins.{IsOriginOf}
use Rattle.enc_mono.specs.Monomorphised.{number_among, renumbered_term, renumbered, instance_symbol, instance_symbols}
use Rattle.enc_mono.proofs.InstanceEquations.{term_instances-apply, symbol_instances-atom, symbol_instances-equation, symbol_instances-and, symbol_instances-or, symbol_instances-for_all, symbol_instances-exists, renumbered_term-variable, renumbered_term-apply, renumbered-true, renumbered-false, renumbered-atom, renumbered-equation, renumbered-and, renumbered-or, renumbered-for_all, renumbered-exists}
use Rattle.enc_mono.proofs.Listed.{all-front, all-back}
use Rattle.enc_mono.proofs.NumberedOrigins.{IsNumbered}

map_none : (types : List Ty) → map (instantiate []) types ≡ types
map_none [] = refl
map_none (ty ∷ types) =
    ap (λ x. x ∷ map (instantiate []) types) (instantiate-none ty)
    ∙ ap (λ xs. ty ∷ xs) (map_none types)

module _ (normal : Normal) (origins : List Origin) where
  abbrev pub there : Signature
  there = record {
    constructors = normal.signature.constructors;
    symbols = instance_symbols normal origins;
  }

  abbrev AreNumbered : List Origin → Type 0
  AreNumbered = AllByRecursion (IsNumbered origins)

  -- the constructors are the same

  mutual
    pub type-kept : (variables : ℕ) (ty : Ty) → IsType normal.signature variables ty →
        IsType there variables ty
    type-kept variables ty (type_variable i within) = type_variable i within
    type-kept variables ty (type_apply c constructor types at count are) =
        type_apply c constructor types at count (types-kept variables types are)

    pub types-kept : (variables : ℕ) (types : List Ty) → AreTypes normal.signature variables types →
        AreTypes there variables types
    types-kept variables types no_types = no_types
    types-kept variables types (more_types ty rest is are) =
        more_types ty rest (type-kept variables ty is) (types-kept variables rest are)

  -- symbols

  made_at : (f : ℕ) (declared : Symbol) (types : List Ty) →
      slice_get normal.signature.symbols f ≡ Some declared →
      IsNumbered origins (record { symbol = f; types = types }) →
      slice_get there.symbols (number_among origins f types)
      ≡ Some (instance_symbol normal (Some declared) types)
  made_at f declared types at is =
      slice_get-map (λ (origin : Origin). instance_symbol normal
      (slice_get normal.signature.symbols origin.symbol) origin.types) origins
      (number_among origins f types)
      ∙ ap (option_map (λ (origin : Origin). instance_symbol normal
      (slice_get normal.signature.symbols origin.symbol) origin.types)) is
      ∙ ap (λ d. Some (instance_symbol normal d types)) at

  result-kept : (parameters : ℕ) (given : Option Ty) (types : List Ty) →
      AreTypes normal.signature 0 types → length types ≡ parameters →
      IsResult normal.signature parameters given →
      IsResult there 0 (option_map (instantiate types) given)
  result-kept parameters None types formed count is = tt
  result-kept parameters (Some ty) types formed count is =
      type-kept 0 (instantiate types ty)
      (type-substituted normal.signature parameters 0 types formed count ty is)

  made_typed : IsSignature normal.signature → (origin : Origin) →
      IsOriginOf normal.signature 0 origin →
      IsSymbol there (instance_symbol normal (slice_get normal.signature.symbols origin.symbol)
      origin.types)
  made_typed typed origin of =
      let is : IsSymbol normal.signature of.declared =
      symbol_typed normal.signature normal.signature.symbols origin.symbol of.declared of.at
      typed in
      subst (λ d. IsSymbol there (instance_symbol normal d origin.types)) (sym of.at)
      (record {
        arguments = types-kept 0 (map (instantiate origin.types) of.declared.arguments)
            (types-substituted normal.signature of.declared.parameters 0 origin.types of.formed
            of.count of.declared.arguments is.arguments);
        result = result-kept of.declared.parameters of.declared.result origin.types of.formed
            of.count is.result;
      })

  pub symbols_typed : IsSignature normal.signature → (some : List Origin) →
      AllByRecursion (IsOriginOf normal.signature 0) some →
      AllByRecursion (IsSymbol there) (instance_symbols normal some)
  symbols_typed typed [] are = tt
  symbols_typed typed (origin ∷ rest) are =
      (made_typed typed origin are.0, symbols_typed typed rest are.1)

  -- terms

  mutual
    pub term-renumbered : (context : List Ty) (t : Term) (ty : Ty) →
        HasType normal.signature 0 context t ty → AreNumbered (term_instances t) →
        HasType there 0 context (renumbered_term origins t) ty
    term-renumbered context t ty (of_variable i declared at) given =
        subst (λ x. HasType there 0 context x ty) (sym (renumbered_term-variable origins i))
        (of_variable i ty at)
    term-renumbered context t ty (of_apply f symbol result types terms is typed) given =
        let all = subst AreNumbered (term_instances-apply f types terms) given in
        subst (λ x. HasType there 0 context x (instantiate types result))
        (sym (renumbered_term-apply origins f types terms))
        (subst (HasType there 0 context (term.Apply (number_among origins f types) []
        (map (renumbered_term origins) terms))) (instantiate-none (instantiate types result))
        (of_apply (number_among origins f types) (instance_symbol normal (Some symbol) types)
        (instantiate types result) [] (map (renumbered_term origins) terms)
        (record {
          at = made_at f symbol types is.at all.0;
          gives = ap (option_map (instantiate types)) is.gives;
          count = refl;
          formed = no_types;
        })
        (subst (HaveTypes there 0 context (map (renumbered_term origins) terms))
        (sym (map_none (map (instantiate types) symbol.arguments)))
        (terms-renumbered context terms (map (instantiate types) symbol.arguments) typed all.1))))

    pub terms-renumbered : (context : List Ty) (terms : List Term) (types : List Ty) →
        HaveTypes normal.signature 0 context terms types →
        AreNumbered (joined (map term_instances terms)) →
        HaveTypes there 0 context (map (renumbered_term origins) terms) types
    terms-renumbered context terms types no_terms all = no_terms
    terms-renumbered context terms types (more_terms t ty others rest first more) all =
        more_terms (renumbered_term origins t) ty (map (renumbered_term origins) others) rest
        (term-renumbered context t ty first
        (all-front (IsNumbered origins) (term_instances t) (joined
        (map term_instances others)) all))
        (terms-renumbered context others rest more
        (all-back (IsNumbered origins) (term_instances t) (joined (map term_instances others)) all))

  -- formulas

  mutual
    pub formula-renumbered : (context : List Ty) (p : Nnf) → IsNnf normal.signature 0 context p →
        AreNumbered (symbol_instances p) → IsNnf there 0 context (renumbered origins p)
    formula-renumbered context p (nnf_true c) given =
        subst (IsNnf there 0 context) (sym (renumbered-true origins)) (nnf_true context)
    formula-renumbered context p (nnf_false c) given =
        subst (IsNnf there 0 context) (sym (renumbered-false origins)) (nnf_false context)
    formula-renumbered context p (nnf_atom c positive f symbol types terms atom) given =
        let all = subst AreNumbered (symbol_instances-atom positive f types terms) given in
        subst (IsNnf there 0 context) (sym (renumbered-atom origins positive f types terms))
        (nnf_atom context positive (number_among origins f types)
        (instance_symbol normal (Some symbol) types) [] (map (renumbered_term origins) terms)
        (record {
          predicate = record {
            at = made_at f symbol types atom.predicate.at all.0;
            gives = ap (option_map (instantiate types)) atom.predicate.gives;
            count = refl;
            formed = no_types;
          };
          arguments = subst (HaveTypes there 0 context (map (renumbered_term origins) terms))
              (sym (map_none (map (instantiate types) symbol.arguments)))
              (terms-renumbered context terms (map (instantiate types) symbol.arguments)
              atom.arguments all.1);
        }))
    formula-renumbered context p (nnf_equation c positive ty left right equation) given =
        let all = subst AreNumbered (symbol_instances-equation positive ty left right) given in
        subst (IsNnf there 0 context) (sym (renumbered-equation origins positive ty left right))
        (nnf_equation context positive ty (renumbered_term origins left)
        (renumbered_term origins right)
        (record {
          formed = type-kept 0 ty equation.formed;
          left_side = term-renumbered context left ty equation.left_side
              (all-front (IsNumbered origins) (term_instances left) (term_instances right) all);
          right_side = term-renumbered context right ty equation.right_side
              (all-back (IsNumbered origins) (term_instances left) (term_instances right) all);
        }))
    formula-renumbered context p (nnf_and c parts are) given =
        subst (IsNnf there 0 context) (sym (renumbered-and origins parts))
        (nnf_and context (map (renumbered origins) parts)
        (parts-renumbered context parts are
        (subst AreNumbered (symbol_instances-and parts) given)))
    formula-renumbered context p (nnf_or c parts are) given =
        subst (IsNnf there 0 context) (sym (renumbered-or origins parts))
        (nnf_or context (map (renumbered origins) parts)
        (parts-renumbered context parts are
        (subst AreNumbered (symbol_instances-or parts) given)))
    formula-renumbered context p (nnf_for_all c ty body formed is) given =
        subst (IsNnf there 0 context) (sym (renumbered-for_all origins ty body))
        (nnf_for_all context ty (renumbered origins body) (type-kept 0 ty formed)
        (formula-renumbered (ty ∷ context) body is
        (subst AreNumbered (symbol_instances-for_all ty body) given)))
    formula-renumbered context p (nnf_exists c ty body formed is) given =
        subst (IsNnf there 0 context) (sym (renumbered-exists origins ty body))
        (nnf_exists context ty (renumbered origins body) (type-kept 0 ty formed)
        (formula-renumbered (ty ∷ context) body is
        (subst AreNumbered (symbol_instances-exists ty body) given)))

    pub parts-renumbered : (context : List Ty) (parts : List Nnf) →
        AreNnf normal.signature 0 context parts →
        AreNumbered (joined (map symbol_instances parts)) →
        AreNnf there 0 context (map (renumbered origins) parts)
    parts-renumbered context parts (no_parts c) all = no_parts context
    parts-renumbered context parts (more_parts c part rest is are) all =
        more_parts context (renumbered origins part) (map (renumbered origins) rest)
        (formula-renumbered context part is
        (all-front (IsNumbered origins) (symbol_instances part)
        (joined (map symbol_instances rest)) all))
        (parts-renumbered context rest are
        (all-back (IsNumbered origins) (symbol_instances part)
        (joined (map symbol_instances rest)) all))
