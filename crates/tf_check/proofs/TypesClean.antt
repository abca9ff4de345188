-- Type expressions that are visited without a fault are well typed, and mean what the visit gives.
use Rattle.std.proofs.Common.{◌≡◌, ℕ, ◌==◌, true, List, [], ◌∷◌, ◌++◌, map, length, refl, sym, ap, ◌∙◌, subst, Option, Some, None}
use Rattle.std.specs.List.{AllByRecursion}
use Rattle.std.proofs.lemmas.List.{length-map}
use Rattle.std.proofs.lemmas.Bool.{false≢true}
use Rattle.tptp_syntax.specs.declared.types.TypeExpr.{TypeExpr}
use Rattle.tptp_syntax.specs.declared.types.TypeExpr.TheVariants as e
use Rattle.tptp_syntax.specs.declared.types.TypeExpr.TheOpen as layer
use Rattle.tptp_syntax.specs.declared.types.Bound.{Bound}
use Rattle.tf_core.specs.declared.ty.Ty.{Ty}
use Rattle.tf_core.specs.declared.ty.Ty.TheVariants as type
use Rattle.tf_core.specs.declared.signature.Constructor.{Constructor}
use Rattle.tf_core.specs.declared.signature.Symbol.{Symbol}
use Rattle.tf_check.specs.declared.error.TypeError.TheVariants.{BadDeclaration, UnknownType, Arity}
use Rattle.tf_check.specs.Scope.{Scope, Meaning, Unbound, OfType, OfTerm, meaning, TypeVariable, type_variables}
use Rattle.tf_check.specs.Visited.{Visited, good, bad, expect, in_turn, ◌>>=◌, ◌>>◌}
use Rattle.tf_check.specs.Types.{individuals, Reading, reading, reading_step, bound_reading, type_variable, type_applied, types_of_all, constructor_named, arguments_of_all, symbol_of, bind_parameters}
use Rattle.tf_check.specs.Typing.{TypeMeans, TypesMean, bound_type, applied_type, individuals_type, no_types, more_types}
use Rattle.tf_check.specs.Typing.{ArgumentsMean, one_argument, several_arguments, AllArgumentsMean, no_arguments, more_arguments}
use Rattle.tf_check.specs.Typing.{ResultMeans, predicate_result, function_result, type_bound, with_parameters}
use Rattle.tf_check.specs.Typing.{SymbolMeans, constant_symbol, mapped_symbol, quantified_symbol}
use Rattle.tf_check.proofs.VisitLemmas.{IsClean, clean-bind, value-bind, clean-then, value-then, value-good, clean-expect, not_clean-bad, clean-more, value-more, value-none}
use Rattle.tf_check.proofs.SameLemmas.{tested_equal}
use Rattle.tf_check.proofs.Variants.{type_induction, IsVariant, is_variable, is_apply, is_individuals, is_truth, is_types, is_product, is_map, is_quantified, variant}
use Rattle.tf_check.proofs.TypeLemmas as l

-- a variable in the place of a type
pub variable_clean : (entry : ℕ) (name : List ℕ) (m : Meaning) → IsClean (type_variable entry name m) →
    (i : ℕ) × (m ≡ OfType i) × ((type_variable entry name m).value ≡ type.Var i)
variable_clean entry name Unbound clean = absurd (not_clean-bad (UnknownType entry name) individuals clean)
variable_clean entry name (OfType i) clean = (i, refl, value-good (type.Var i))
variable_clean entry name (OfTerm i ty) clean = absurd (not_clean-bad (UnknownType entry name) individuals clean)

-- a constructor with arguments
pub applied_clean : (entry : ℕ) (name : List ℕ) (at : Option (ℕ × Constructor)) (arguments : List (Visited Ty)) →
    IsClean (type_applied entry name at arguments) →
    (place : ℕ) × (constructor : Constructor) × (at ≡ Some (place, constructor))
    × (constructor.arity ≡ length arguments) × IsClean (in_turn arguments)
    × ((type_applied entry name at arguments).value ≡ type.Apply place (in_turn arguments).value)
applied_clean entry name None arguments clean =
    absurd (not_clean-bad (UnknownType entry name) 0
    (clean-bind (bad (UnknownType entry name) 0)
    (λ place. in_turn arguments >>= λ ts. good (type.Apply place ts)) clean).0)
applied_clean entry name (Some (place, constructor)) arguments clean =
    let test : Visited (Unit {0}) = expect (constructor.arity == length arguments)
    (Arity entry name constructor.arity (length arguments)) in
    let parts = clean-bind (test >> good place)
    (λ p. in_turn arguments >>= λ ts. good (type.Apply p ts)) clean in
    let first = clean-then test (good place) parts.0 in
    let given : (test >> good place).value ≡ place = value-then test (good place) ∙ value-good place in
    let rest = clean-bind (in_turn arguments) (λ ts. good (type.Apply (test >> good place).value ts)) parts.1 in (
      place,
      constructor,
      refl,
      tested_equal constructor.arity (length arguments)
          (clean-expect (constructor.arity == length arguments)
          (Arity entry name constructor.arity (length arguments)) first.0),
      rest.0,
      value-bind (test >> good place) (λ p. in_turn arguments >>= λ ts. good (type.Apply p ts))
          ∙ value-bind (in_turn arguments) (λ ts. good (type.Apply (test >> good place).value ts))
          ∙ value-good (type.Apply (test >> good place).value (in_turn arguments).value)
          ∙ ap (λ p. type.Apply p (in_turn arguments).value) given,
    )

module _ (entry : ℕ) (constructors : List Constructor) where
  -- what a reading says of an expression that is visited without a fault
  pub record IsSoundFor (x : TypeExpr) (r : Reading) : Type 0 where
    pub type : (scope : Scope) → IsClean (r.as_type scope) →
        TypeMeans constructors scope x (r.as_type scope).value
    pub result : (scope : Scope) → IsClean (r.as_result scope) →
        ResultMeans constructors scope x (r.as_result scope).value
    pub arguments : (scope : Scope) → IsClean (r.as_arguments scope) →
        ArgumentsMean constructors scope x (r.as_arguments scope).value
    pub symbol : (name : List ℕ) (scope : Scope) → IsClean (r.as_symbol name scope) →
        SymbolMeans constructors name scope x (r.as_symbol name scope).value

  module _ (x : TypeExpr) where
    -- the other places of a type, by its place as a type of terms

    from_type_result : (scope : Scope) (visit : Visited Ty) →
        (IsClean visit → TypeMeans constructors scope x visit.value) →
        IsClean (visit >>= λ ty. good (Some ty)) →
        ResultMeans constructors scope x (visit >>= λ ty. good (Some ty)).value
    from_type_result scope visit sound clean =
        let parts = clean-bind visit (λ ty. good (Some ty)) clean in
        rw (value-bind visit (λ ty. good (Some ty)), value-good (Some visit.value))
        (function_result x visit.value (sound parts.0))

    from_type_arguments : (scope : Scope) (visit : Visited Ty) →
        (IsClean visit → TypeMeans constructors scope x visit.value) →
        IsClean (visit >>= λ ty. good (ty ∷ [])) →
        ArgumentsMean constructors scope x (visit >>= λ ty. good (ty ∷ [])).value
    from_type_arguments scope visit sound clean =
        let parts = clean-bind visit (λ ty. good (ty ∷ [])) clean in
        rw (value-bind visit (λ ty. good (ty ∷ [])), value-good (visit.value ∷ []))
        (one_argument x visit.value (sound parts.0))

    -- the symbol that is made of arguments and a result
    made : List ℕ → Scope → List Ty → Option Ty → Symbol
    made name scope arguments result =
        record {
          name = name;
          parameters = type_variables scope;
          arguments = arguments;
          result = result;
        }

  symbol_parts : (name : List ℕ) (scope : Scope) (left : Visited (List Ty)) (right : Visited (Option Ty)) →
      IsClean (symbol_of name scope left right) →
      IsClean left × IsClean right
      × ((symbol_of name scope left right).value ≡ record {
        name = name;
        parameters = type_variables scope;
        arguments = left.value;
        result = right.value;
      })
  symbol_parts name scope left right clean =
      let make : List Ty → Option Ty → Symbol = λ a r. record {
        name = name;
        parameters = type_variables scope;
        arguments = a;
        result = r;
      } in
      let parts = clean-bind left (λ a. right >>= λ r. good (make a r)) clean in
      let rest = clean-bind right (λ r. good (make left.value r)) parts.1 in (
        parts.0,
        rest.0,
        value-bind left (λ a. right >>= λ r. good (make a r))
            ∙ value-bind right (λ r. good (make left.value r)) ∙ value-good (make left.value right.value),
      )

  from_result : (x : TypeExpr) (name : List ℕ) (scope : Scope) (visit : Visited (Option Ty)) →
      (IsClean visit → ResultMeans constructors scope x visit.value) →
      IsClean (symbol_of name scope (good []) visit) →
      SymbolMeans constructors name scope x (symbol_of name scope (good []) visit).value
  from_result x name scope visit sound clean =
      let parts = symbol_parts name scope (good []) visit clean in
      rw (parts.2, value-good {A = List Ty} []) (constant_symbol scope x visit.value (sound parts.1))

  -- a reading by the visits of a type of terms alone
  plain : (Scope → Visited Ty) → Reading → Type 0
  plain visit r =
      ((scope : Scope) → r.as_type scope ≡ visit scope)
      × ((scope : Scope) → r.as_result scope ≡ (visit scope >>= λ ty. good (Some ty)))
      × ((scope : Scope) → r.as_arguments scope ≡ (visit scope >>= λ ty. good (ty ∷ [])))
      × ((name : List ℕ) (scope : Scope) →
      r.as_symbol name scope ≡ symbol_of name scope (good []) (visit scope >>= λ ty. good (Some ty)))

  plain_sound : (x : TypeExpr) (visit : Scope → Visited Ty) (r : Reading) → plain visit r →
      ((scope : Scope) → IsClean (visit scope) → TypeMeans constructors scope x (visit scope).value) →
      IsSoundFor x r
  unfolding plain
  plain_sound x visit r is sound =
      record {
        type = λ scope clean. rw (is.0 scope) (sound scope (rw (is.0 scope) at clean));
        result = λ scope clean. rw (is.1 scope)
            (from_type_result x scope (visit scope) (sound scope) (rw (is.1 scope) at clean));
        arguments = λ scope clean. rw (is.2 scope)
            (from_type_arguments x scope (visit scope) (sound scope) (rw (is.2 scope) at clean));
        symbol = λ name scope clean. rw (is.3 name scope)
            (from_result x name scope (visit scope >>= λ ty. good (Some ty))
            (from_type_result x scope (visit scope) (sound scope)) (rw (is.3 name scope) at clean));
      }

  -- ---- each variant

  at_step : (x : TypeExpr) (r : Reading) → reading entry constructors x ≡ r → IsSoundFor x r →
      IsSoundFor x (reading entry constructors x)
  at_step x r is sound = subst (IsSoundFor x) (sym is) sound

  variable_sound : (name : List ℕ) → IsSoundFor (e.Variable name) (reading entry constructors (e.Variable name))
  unfolding plain
  variable_sound name =
      at_step (e.Variable name) (reading_step entry constructors (layer.Variable name))
      (l.reading-variable entry constructors name)
      (plain_sound (e.Variable name) (λ scope. type_variable entry name (meaning scope name))
      (reading_step entry constructors (layer.Variable name))
      ((λ scope. refl), (λ scope. refl), (λ scope. refl), (λ name scope. refl))
      (λ scope clean.
      let found = variable_clean entry name (meaning scope name) clean in
      rw found.2 (bound_type name found.0 found.1)))

  types_sound : (scope : Scope) (xs : List TypeExpr) →
      AllByRecursion (λ x. IsSoundFor x (reading entry constructors x)) xs →
      IsClean (in_turn (types_of_all (map (reading entry constructors) xs) scope)) →
      TypesMean constructors scope xs (in_turn (types_of_all (map (reading entry constructors) xs) scope)).value
  types_sound scope [] all clean = rw (value-none {A = Ty}) no_types
  types_sound scope (x ∷ xs) all clean =
      let first : Visited Ty = (reading entry constructors x).as_type scope in
      let rest : List (Visited Ty) = types_of_all (map (reading entry constructors) xs) scope in
      let parts = clean-more first rest clean in
      rw (value-more first rest)
      (more_types x first.value xs (in_turn rest).value (all.0.type scope parts.0)
      (types_sound scope xs all.1 parts.1))

  apply_sound : (name : List ℕ) (parts : List TypeExpr) →
      AllByRecursion (λ x. IsSoundFor x (reading entry constructors x)) parts →
      IsSoundFor (e.Apply name parts) (reading entry constructors (e.Apply name parts))
  unfolding plain
  apply_sound name parts all =
      let readings : List Reading = map (reading entry constructors) parts in
      let at : Option (ℕ × Constructor) = constructor_named name constructors in
      at_step (e.Apply name parts) (reading_step entry constructors (layer.Apply name readings))
      (l.reading-apply entry constructors name parts)
      (plain_sound (e.Apply name parts)
      (λ scope. type_applied entry name at (types_of_all readings scope))
      (reading_step entry constructors (layer.Apply name readings))
      ((λ scope. refl), (λ scope. refl), (λ scope. refl), (λ name scope. refl))
      (λ scope clean.
      let found = applied_clean entry name at (types_of_all readings scope) clean in
      rw found.5
      (applied_type name found.0 found.1 parts (in_turn (types_of_all readings scope)).value found.2
      (found.3 ∙ length-map readings (λ (part : Reading). part.as_type scope)
      ∙ length-map parts (reading entry constructors))
      (types_sound scope parts all found.4))))

  individuals_sound : IsSoundFor e.Individuals (reading entry constructors e.Individuals)
  unfolding plain
  individuals_sound =
      at_step e.Individuals (reading_step entry constructors layer.Individuals)
      (l.reading-individuals entry constructors)
      (plain_sound e.Individuals (λ scope. good individuals)
      (reading_step entry constructors layer.Individuals)
      ((λ scope. refl), (λ scope. refl), (λ scope. refl), (λ name scope. refl))
      (λ scope clean. rw (value-good individuals) individuals_type))

  -- what is no type of terms

  refused : (x : TypeExpr) (scope : Scope) → IsClean (bad (BadDeclaration entry) individuals) →
      TypeMeans constructors scope x (bad (BadDeclaration entry) individuals).value
  refused x scope clean = absurd (not_clean-bad (BadDeclaration entry) individuals clean)

  types_variant_sound : IsSoundFor e.Types (reading entry constructors e.Types)
  unfolding plain
  types_variant_sound =
      at_step e.Types (reading_step entry constructors layer.Types) (l.reading-types entry constructors)
      (plain_sound e.Types (λ scope. bad (BadDeclaration entry) individuals)
      (reading_step entry constructors layer.Types)
      ((λ scope. refl), (λ scope. refl), (λ scope. refl), (λ name scope. refl)) (refused e.Types))

  truth_sound : IsSoundFor e.Truth (reading entry constructors e.Truth)
  truth_sound =
      at_step e.Truth (reading_step entry constructors layer.Truth) (l.reading-truth entry constructors)
      (record {
        type = refused e.Truth;
        result = λ scope clean. rw (value-good {A = Option Ty} None) predicate_result;
        arguments = λ scope clean.
            from_type_arguments e.Truth scope (bad (BadDeclaration entry) individuals)
            (refused e.Truth scope) clean;
        symbol = λ name scope clean.
            from_result e.Truth name scope (good None)
            (λ ok. rw (value-good {A = Option Ty} None) predicate_result) clean;
      })

  all_arguments_sound : (scope : Scope) (xs : List TypeExpr) →
      AllByRecursion (λ x. IsSoundFor x (reading entry constructors x)) xs →
      IsClean (arguments_of_all (map (reading entry constructors) xs) scope) →
      AllArgumentsMean constructors scope xs
      (arguments_of_all (map (reading entry constructors) xs) scope).value
  all_arguments_sound scope [] all clean = rw (value-good {A = List Ty} []) no_arguments
  all_arguments_sound scope (x ∷ xs) all clean =
      let first : Visited (List Ty) = (reading entry constructors x).as_arguments scope in
      let rest : Visited (List Ty) = arguments_of_all (map (reading entry constructors) xs) scope in
      let parts = clean-bind first (λ a. rest >>= λ b. good (a ++ b)) clean in
      let others = clean-bind rest (λ b. good (first.value ++ b)) parts.1 in
      rw (
        value-bind first (λ a. rest >>= λ b. good (a ++ b)),
        value-bind rest (λ b. good (first.value ++ b)),
        value-good (first.value ++ rest.value),
      )
      (more_arguments x first.value xs rest.value (all.0.arguments scope parts.0)
      (all_arguments_sound scope xs all.1 others.0))

  product_sound : (parts : List TypeExpr) →
      AllByRecursion (λ x. IsSoundFor x (reading entry constructors x)) parts →
      IsSoundFor (e.Product parts) (reading entry constructors (e.Product parts))
  product_sound parts all =
      let readings : List Reading = map (reading entry constructors) parts in
      at_step (e.Product parts) (reading_step entry constructors (layer.Product readings))
      (l.reading-product entry constructors parts)
      (record {
        type = refused (e.Product parts);
        result = λ scope clean.
            from_type_result (e.Product parts) scope (bad (BadDeclaration entry) individuals)
            (refused (e.Product parts) scope) clean;
        arguments = λ scope clean.
            several_arguments parts (arguments_of_all readings scope).value
            (all_arguments_sound scope parts all clean);
        symbol = λ name scope clean.
            from_result (e.Product parts) name scope
            (bad (BadDeclaration entry) individuals >>= λ ty. good (Some ty))
            (from_type_result (e.Product parts) scope (bad (BadDeclaration entry) individuals)
            (refused (e.Product parts) scope)) clean;
      })

  map_sound : (left right : TypeExpr) → IsSoundFor left (reading entry constructors left) →
      IsSoundFor right (reading entry constructors right) →
      IsSoundFor (e.Map left right) (reading entry constructors (e.Map left right))
  map_sound left right one other =
      let x : TypeExpr = e.Map left right in
      at_step x
      (reading_step entry constructors
      (layer.Map (reading entry constructors left) (reading entry constructors right)))
      (l.reading-map entry constructors left right)
      (record {
        type = refused x;
        result = λ scope clean.
            from_type_result x scope (bad (BadDeclaration entry) individuals) (refused x scope) clean;
        arguments = λ scope clean.
            from_type_arguments x scope (bad (BadDeclaration entry) individuals) (refused x scope) clean;
        symbol = λ name scope clean.
            (let arguments : Visited (List Ty) = (reading entry constructors left).as_arguments scope in
            let result : Visited (Option Ty) = (reading entry constructors right).as_result scope in
            let parts = symbol_parts name scope arguments result clean in
            rw parts.2
            (mapped_symbol scope left right arguments.value result.value
            (one.arguments scope parts.0) (other.result scope parts.1)));
      })

  -- ---- quantified bodies

  is_types_at_types : (x : TypeExpr) → IsVariant x → (reading entry constructors x).is_types ≡ true →
      x ≡ e.Types
  is_types_at_types _ (is_variable name) says =
      absurd (false≢true (ap (λ (r : Reading). r.is_types) (sym (l.reading-variable entry constructors name)) ∙ says))
  is_types_at_types _ (is_apply name parts) says =
      absurd (false≢true (ap (λ (r : Reading). r.is_types) (sym (l.reading-apply entry constructors name parts)) ∙ says))
  is_types_at_types _ is_individuals says =
      absurd (false≢true (ap (λ (r : Reading). r.is_types) (sym (l.reading-individuals entry constructors)) ∙ says))
  is_types_at_types _ is_truth says =
      absurd (false≢true (ap (λ (r : Reading). r.is_types) (sym (l.reading-truth entry constructors)) ∙ says))
  is_types_at_types _ is_types says = refl
  is_types_at_types _ (is_product parts) says =
      absurd (false≢true (ap (λ (r : Reading). r.is_types) (sym (l.reading-product entry constructors parts)) ∙ says))
  is_types_at_types _ (is_map left right) says =
      absurd (false≢true (ap (λ (r : Reading). r.is_types) (sym (l.reading-map entry constructors left right)) ∙ says))
  is_types_at_types _ (is_quantified bounds body) says =
      absurd (false≢true (ap (λ (r : Reading). r.is_types) (sym (l.reading-quantified entry constructors bounds body)) ∙ says))

  -- the kind of a parameter
  parameter_kind : (name : List ℕ) (kind : Option TypeExpr) →
      (bound_reading entry constructors (record { name = name; kind = kind })).is_type ≡ true →
      kind ≡ Some e.Types
  parameter_kind name None says =
      absurd (false≢true (ap (λ b. b.is_type) (sym (l.bound_reading-record entry constructors name None)) ∙ says))
  parameter_kind name (Some x) says =
      ap Some (is_types_at_types x (variant x)
      (ap (λ b. b.is_type) (sym (l.bound_reading-record entry constructors name (Some x))) ∙ says))

  parameters_sound : (bounds : List Bound) (scope : Scope) →
      IsClean (bind_parameters entry (map (bound_reading entry constructors) bounds) scope) →
      (names : List (List ℕ)) × (bounds ≡ map type_bound names)
      × ((bind_parameters entry (map (bound_reading entry constructors) bounds) scope).value
      ≡ with_parameters names scope)
  parameters_sound [] scope clean = ([], refl, value-good scope)
  parameters_sound (bound ∷ bounds) scope clean =
      let read = bound_reading entry constructors bound in
      let test : Visited (Unit {0}) = expect read.is_type (BadDeclaration entry) in
      let rest : Visited Scope = bind_parameters entry (map (bound_reading entry constructors) bounds)
      (TypeVariable read.name ∷ scope) in
      let parts = clean-then test rest clean in
      let kind : bound.kind ≡ Some e.Types =
      parameter_kind bound.name bound.kind (clean-expect read.is_type (BadDeclaration entry) parts.0) in
      let same : bound ≡ type_bound bound.name = λ i. record { name = bound.name; kind = kind i } in
      let named : read.name ≡ bound.name = ap (λ b. b.name) (l.bound_reading-record entry constructors bound.name bound.kind) in
      let others = parameters_sound bounds (TypeVariable read.name ∷ scope) parts.1 in (
        bound.name ∷ others.0,
        (λ i. same i ∷ others.1 i),
        value-then test rest ∙ others.2 ∙ ap (λ n. with_parameters others.0 (TypeVariable n ∷ scope)) named,
      )

  quantified_sound : (bounds : List Bound) (body : TypeExpr) →
      IsSoundFor body (reading entry constructors body) →
      IsSoundFor (e.Quantified bounds body) (reading entry constructors (e.Quantified bounds body))
  quantified_sound bounds body sound =
      let x : TypeExpr = e.Quantified bounds body in
      at_step x
      (reading_step entry constructors
      (layer.Quantified (map (bound_reading entry constructors) bounds) (reading entry constructors body)))
      (l.reading-quantified entry constructors bounds body)
      (record {
        type = refused x;
        result = λ scope clean.
            from_type_result x scope (bad (BadDeclaration entry) individuals) (refused x scope) clean;
        arguments = λ scope clean.
            from_type_arguments x scope (bad (BadDeclaration entry) individuals) (refused x scope) clean;
        symbol = λ name scope clean.
            (let binds : Visited Scope = bind_parameters entry (map (bound_reading entry constructors) bounds) scope in
            let inner : Scope → Visited Symbol = (reading entry constructors body).as_symbol name in
            let parts = clean-bind binds inner clean in
            let bound = parameters_sound bounds scope parts.0 in
            let means : SymbolMeans constructors name (with_parameters bound.0 scope) body (inner binds.value).value =
            subst (λ s. SymbolMeans constructors name s body (inner binds.value).value) bound.2
            (sound.symbol name binds.value parts.1) in
            rw (value-bind binds inner)
            (subst (λ bs. SymbolMeans constructors name scope (e.Quantified bs body) (inner binds.value).value)
            (sym bound.1)
            (quantified_symbol scope bound.0 body (inner binds.value).value means)));
      })

  -- every type expression that is visited without a fault is well typed
  pub reading_sound : (x : TypeExpr) → IsSoundFor x (reading entry constructors x)
  reading_sound =
      type_induction (λ x. IsSoundFor x (reading entry constructors x)) (record {
        on_variable = variable_sound;
        on_apply = apply_sound;
        on_individuals = individuals_sound;
        on_truth = truth_sound;
        on_types = types_variant_sound;
        on_product = product_sound;
        on_map = map_sound;
        on_quantified = λ bounds body sound. quantified_sound bounds body sound;
      })
