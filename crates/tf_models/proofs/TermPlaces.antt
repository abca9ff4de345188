-- The parts of terms: that they are well typed, their values, and the place of their tuple.
use Rattle.std.specs.Prelude.{ℕ, zero, suc, ◌≡◌, ◌<◌, ◌≤◌, ◌+◌, ◌*◌, ◌-◌, List, map, length, reverse, take, get_or, slice_index}
use Rattle.std.proofs.Common.{sym, ap, subst, ◌∙◌, arith}
use Rattle.std.proofs.lemmas.List.{length-map, length-reverse, get_or-reverse}
use Rattle.std.proofs.lemmas.Option.{slice_get_within}
use Rattle.enc_base.specs.Tables.{EachBelow, tuple_count, place}
use Rattle.enc_base.specs.Tuples.{IsPlaced}
use Rattle.enc_base.proofs.Placing.{EachBelow-same_length, place-step, place-fits, place-whole, get_or-mapped}
use Rattle.tf_core.specs.declared.ty.Ty.{Ty}
use Rattle.tf_core.specs.declared.term.Term.{Term}
use Rattle.tf_core.specs.declared.term.Term.TheVariants as term
use Rattle.tf_core.specs.declared.signature.Symbol.{Symbol}
use Rattle.tf_core.specs.declared.signature.Signature.{Signature}
use Rattle.tf_core.specs.Typing.{HasType, HaveTypes, no_terms, more_terms}
use Rattle.tf_core.specs.TypedTables.{reading}
use Rattle.tf_core.proofs.Truth.{value-variable, value-apply}
use Rattle.tf_models.specs.declared.structure.TypedStructure.{TypedStructure}
use Rattle.tf_models.specs.Assignment.{Assignment}
use Rattle.tf_models.specs.Reading.{tables}
use Rattle.tf_models.specs.Fit.{bounds_at, parameters_at}
use Rattle.tf_models.specs.Evaluation.{member_in, value_in, entry_in, sizes_in, IsAssignment, IsBlock, IsTerm, AreTerms, IsApplied}
use Rattle.tf_models.proofs.SymbolBlocks.{argument_size}
use Rattle.tf_models.proofs.Inversion.{term_variable_parts, term_application_parts}

-- a variable

-- as many elements as types in the context
pub context_long : (g : Signature) (s : TypedStructure) (env : Assignment) (context : List Ty) →
    IsAssignment g s env context → length context ≡ length env.elements
context_long g s env context assigned =
    sym (length-map _ _)
    ∙ EachBelow-same_length (sizes_in s env.members context) (reverse env.elements)
    assigned.elements
    ∙ length-reverse env.elements

module _ (g : Signature) (s : TypedStructure) (env : Assignment) (t : Term)
    (typed : IsTerm g s env t) where
  pub variable_bound : (i : ℕ) → t ≡ term.Var i → i < length env.elements
  variable_bound i is =
      omega (
        arith,
        slice_get_within typed.context i typed.ty
            (term_variable_parts g (length env.members) typed.context t i typed.ty is typed.typed),
        context_long g s env typed.context typed.assigned,
      )

  pub variable_value : (i v : ℕ) → t ≡ term.Var i → v ≡ slice_index env.elements
      (length env.elements - (i + 1)) →
      v ≡ value_in g s env t
  variable_value i v is at =
      let place : length env.elements - (i + 1) ≡ length env.elements - 1 - i = omega arith in
      at ∙ ap (slice_index env.elements) place
      ∙ sym (get_or-reverse env.elements i 0 (variable_bound i is))
      ∙ sym (value-variable (reading g (tables s)) env.members (reverse env.elements) i)
      ∙ ap (value_in g s env) (sym is)

  pub application_applied : (f : ℕ) (types : List Ty) (terms : List Term) →
      t ≡ term.Apply f types terms →
      IsApplied g s env f types terms
  application_applied f types terms is =
      let parts = term_application_parts g (length env.members) typed.context t f types terms
      typed.ty is typed.typed in (
        parts.symbol,
        record {
          context = typed.context;
          at = parts.instance.at;
          count = parts.instance.count;
          formed = parts.instance.formed;
          arguments = parts.arguments;
          assigned = typed.assigned;
        },
      )

pub application_value : (g : Signature) (s : TypedStructure) (env : Assignment) (t : Term) (f v : ℕ)
    (types : List Ty) (terms : List Term) → t ≡ term.Apply f types terms →
    v ≡ entry_in g s env f types terms → v ≡ value_in g s env t
application_value g s env t f v types terms is at =
    at ∙ sym (value-apply (reading g (tables s)) env.members (reverse env.elements) f types terms)
    ∙ ap (value_in g s env) (sym is)

-- an item of a list of terms
pub term_at : (g : Signature) (s : TypedStructure) (env : Assignment) (terms : List Term) (i : ℕ)
    (t : Term) →
    AreTerms g s env terms → i < length terms → t ≡ get_or terms i t → IsTerm g s env t
term_at g s env terms i t are within is =
    let found = go i terms are.types within are.typed in
    record {
      context = are.context;
      ty = found.0;
      typed = subst (λ x. HasType g (length env.members) are.context x found.0) (sym is) found.1;
      assigned = are.assigned;
    }
  where
    go : (i : ℕ) (xs : List Term) (types : List Ty) → i < length xs →
        HaveTypes g (length env.members) are.context xs types →
        (ty : Ty) × HasType g (length env.members) are.context (get_or xs i t) ty
    go i xs types within no_terms = absurd (omega arith)
    go zero xs types within (more_terms x ty others rest first more) = (ty, first)
    go (suc i) xs types within (more_terms x ty others rest first more) =
        go i others rest (omega arith) more

-- the place of the tuple of the terms' values, found from the left
module _ (g : Signature) (s : TypedStructure) (env : Assignment) (symbol : Symbol) (number : ℕ)
    (block : IsBlock g s symbol number) (terms : List Term)
    (below : EachBelow (bounds_at (tables s) symbol number)
    (map (value_in g s env) terms))
  where
    pub as_many : length symbol.arguments ≡ length terms
    as_many =
        sym (length-map _ _)
        ∙ EachBelow-same_length (bounds_at (tables s) symbol number)
        (map (value_in g s env) terms) below
        ∙ length-map _ _

    module _ (i at size v : ℕ) (ty : Ty) (t : Term) (within : i < length terms)
        (ty_is : ty ≡ get_or symbol.arguments i ty) (t_is : t ≡ get_or terms i t)
        (size_is : size ≡ slice_index s.sizes (member_in s (parameters_at (tables s) symbol number)
        ty)) (value_is : v ≡ value_in g s env t)
        (so_far : at ≡ place (take i (bounds_at (tables s) symbol number))
        (take i (map (value_in g s env) terms)))
      where
        inside : i < length (bounds_at (tables s) symbol number)
        inside = rw (length-map _ _) (omega (arith, as_many))

        pub terms-step : at * size + v
            ≡ place (take (i + 1) (bounds_at (tables s) symbol number))
            (take (i + 1) (map (value_in g s env) terms))
        terms-step =
            place-step (bounds_at (tables s) symbol number)
            (map (value_in g s env) terms) i size v at below inside
            (argument_size g s symbol number block i size ty (omega (arith, as_many)) ty_is size_is)
            (value_is ∙ sym (get_or-mapped (value_in g s env) terms i t within t_is)) so_far

        pub terms-fit : at * size + v
            < tuple_count (bounds_at (tables s) symbol number)
        terms-fit =
            place-fits (bounds_at (tables s) symbol number)
            (map (value_in g s env) terms) i size v at below inside
            (argument_size g s symbol number block i size ty (omega (arith, as_many)) ty_is size_is)
            (value_is ∙ sym (get_or-mapped (value_in g s env) terms i t within t_is)) so_far

    pub terms_placed : (i at : ℕ) → length terms ≤ i →
        at ≡ place (take i (bounds_at (tables s) symbol number))
        (take i (map (value_in g s env) terms)) →
        IsPlaced (bounds_at (tables s) symbol number)
        (map (value_in g s env) terms) at
    terms_placed i at whole so_far = record {
      place_is = so_far
          ∙ place-whole (bounds_at (tables s) symbol number)
          (map (value_in g s env) terms) i below (rw (length-map _ _) (omega (arith, as_many)));
      below = below;
    }
