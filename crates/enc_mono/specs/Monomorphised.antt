-- The problem of instances: each formula under the substitutions that the last round admits, over
-- the symbol instances that stand in these.
use Rattle.std.specs.Prelude.{ℕ, ◌+◌, ◌≡◌, ◌↔◌, Bool, ◌&&◌, List, [], ◌∷◌, ◌++◌, map, cond, codes, eqb, flat_map, option_map}
use Rattle.std.specs.Prelude.{slice_get, Option, Some, None}
use Rattle.std.specs.List.{Contains, list_any, position_or_len}
use Rattle.std.specs.Fmt.{decimal}
use Rattle.tf_core.specs.declared.ty.Ty.{Ty}
use Rattle.tf_core.specs.declared.term.Term.{Term}
use Rattle.tf_core.specs.declared.term.Term.TheVariants as term
use Rattle.tf_core.specs.declared.term.Term.TheOpen.{Term-F}
use Rattle.tf_core.specs.declared.term.Term.TheOpen as term_layer
use Rattle.tf_core.specs.declared.term.Term.TheFolds.{fold-Term}
use Rattle.tf_core.specs.declared.nnf.Nnf.{Nnf}
use Rattle.tf_core.specs.declared.nnf.Nnf.TheVariants as nnf
use Rattle.tf_core.specs.declared.nnf.Nnf.TheOpen.{Nnf-F}
use Rattle.tf_core.specs.declared.nnf.Nnf.TheOpen as layer
use Rattle.tf_core.specs.declared.nnf.Nnf.TheFolds.{fold-Nnf}
use Rattle.tf_core.specs.declared.signature.Symbol.{Symbol}
use Rattle.tf_core.specs.declared.normal.NormalFormula.{NormalFormula}
use Rattle.tf_core.specs.declared.normal.Normal.{Normal}
use Rattle.tf_core.specs.Types.{instantiate, same_type, pass_in_order}
use Rattle.tf_core.specs.Substitution.{substitute_types}
use Rattle.tf_core.specs.Sorts.{joined}
use Rattle.enc_marks.specs.Names.{flat_name}
use Rattle.enc_mono.specs.declared.instances.Origin.{Origin}
use Rattle.enc_mono.specs.Instances.{symbol_instances}
use Rattle.enc_mono.specs.Rounds.{IsAdmitted}
use Rattle.enc_mono.specs.TypeOrder.{AreInOrder}

-- formulas

-- the substitutions of a formula that the last of so many rounds admits, once each and in order
pub record AreAdmitted (normal : Normal) (rounds : ℕ) (formula : NormalFormula)
    (substitutions : List (List Ty)) : Type 0 where
  pub in_order : AreInOrder substitutions
  pub exact : (types : List Ty) →
      Contains substitutions types ↔ IsAdmitted normal rounds formula types

-- an instance of a formula, whose name is followed by `_` and the instance's number
abbrev pub formula_instance : NormalFormula → ℕ → List Ty → NormalFormula
formula_instance formula number types = record {
  name = formula.name ++ (codes "_" ++ decimal number);
  negated = formula.negated;
  type_variables = 0;
  body = substitute_types types formula.body;
}

-- instances of a formula, the first of them having this number
abbrev pub formula_instances : NormalFormula → ℕ → List (List Ty) → List NormalFormula
formula_instances formula number [] = []
formula_instances formula number (types ∷ substitutions) =
    formula_instance formula number types ∷ formula_instances formula (number + 1) substitutions

-- what stands for a formula: itself where it has no type variables, else its instances
abbrev pub ground_forms : NormalFormula → List (List Ty) → List NormalFormula
ground_forms formula substitutions =
    cond (eqb formula.type_variables 0) (formula ∷ []) (formula_instances formula 0 substitutions)

-- the ground formulas that stand for formulas, in their order
pub data AreGroundForms (normal : Normal) (rounds : ℕ) :
    List NormalFormula → List NormalFormula → Type 0 where
  no_forms : AreGroundForms normal rounds [] []
  more_forms : (formula : NormalFormula) (formulas ground : List NormalFormula)
      (substitutions : List (List Ty)) → AreAdmitted normal rounds formula substitutions →
      AreGroundForms normal rounds formulas ground →
      AreGroundForms normal rounds (formula ∷ formulas)
      (ground_forms formula substitutions ++ ground)

-- symbols

abbrev pub same_origin : Origin → Origin → Bool
same_origin origin other =
    eqb origin.symbol other.symbol && pass_in_order (map same_type origin.types) other.types

-- each symbol instance once, where it comes first, besides those seen before
abbrev pub once : List Origin → List Origin → List Origin
once seen [] = []
once seen (origin ∷ origins) =
    cond (list_any (same_origin origin) seen) (once seen origins)
    (origin ∷ once (origin ∷ seen) origins)

-- the symbol instances of formulas, in order of first occurrence
abbrev pub origins_of : List NormalFormula → List Origin
origins_of formulas = once [] (joined (map (λ formula. symbol_instances formula.body) formulas))

-- the name of a symbol instance: the symbol's, then `_` and the name of each type
abbrev pub instance_name : Normal → List ℕ → List Ty → List ℕ
instance_name normal name types = name ++ flat_map (λ ty. codes "_" ++ flat_name normal ty) types

-- the symbol that a symbol instance becomes, over the symbol that it is of
abbrev pub instance_symbol : Normal → Option Symbol → List Ty → Symbol
instance_symbol normal None types =
    record { name = []; parameters = 0; arguments = []; result = None }
instance_symbol normal (Some symbol) types = record {
  name = instance_name normal symbol.name types;
  parameters = 0;
  arguments = map (instantiate types) symbol.arguments;
  result = option_map (instantiate types) symbol.result;
}

-- the symbols that symbol instances become
abbrev pub instance_symbols : Normal → List Origin → List Symbol
instance_symbols normal origins =
    map (λ origin. instance_symbol normal (slice_get normal.signature.symbols origin.symbol)
    origin.types) origins

-- the number of a symbol with these types among symbol instances
abbrev pub number_among : List Origin → ℕ → List Ty → ℕ
number_among origins f types =
    position_or_len (same_origin (record { symbol = f; types = types })) origins

abbrev pub renumbered_term_step : List Origin → Term-F Term → Term
renumbered_term_step origins (term_layer.Var i) = term.Var i
renumbered_term_step origins (term_layer.Apply f types terms) =
    term.Apply (number_among origins f types) [] terms

-- a term with each symbol and its types replaced by the symbol that the two became
unfoldable pub renumbered_term : List Origin → Term → Term
renumbered_term origins = fold-Term Term (renumbered_term_step origins)

abbrev pub renumbered_step : List Origin → Nnf-F Nnf → Nnf
renumbered_step origins layer.True = nnf.True
renumbered_step origins layer.False = nnf.False
renumbered_step origins (layer.Atom positive f types terms) =
    nnf.Atom positive (number_among origins f types) [] (map (renumbered_term origins) terms)
renumbered_step origins (layer.Equation positive ty left right) =
    nnf.Equation positive ty (renumbered_term origins left) (renumbered_term origins right)
renumbered_step origins (layer.And parts) = nnf.And parts
renumbered_step origins (layer.Or parts) = nnf.Or parts
renumbered_step origins (layer.ForAll ty body) = nnf.ForAll ty body
renumbered_step origins (layer.Exists ty body) = nnf.Exists ty body

-- the same of a formula
unfoldable pub renumbered : List Origin → Nnf → Nnf
renumbered origins = fold-Nnf Nnf (renumbered_step origins)

abbrev pub over_origins : List Origin → NormalFormula → NormalFormula
over_origins origins formula = record formula { body = renumbered origins formula.body }

-- the problem

-- ground formulas over their symbol instances as symbols; the constructors stay
abbrev pub over_instances : Normal → List Origin → List NormalFormula → Normal
over_instances normal origins ground = record {
  signature = record {
    constructors = normal.signature.constructors;
    symbols = instance_symbols normal origins;
  };
  formulas = map (over_origins origins) ground;
  fresh = normal.fresh;
}

-- the problem of instances after so many rounds, and the symbol instance that each of its symbols
-- is
pub record IsMonomorphised (normal : Normal) (rounds : ℕ) (made : Normal) (origins : List Origin) :
    Type 0 where
  pub ground : List NormalFormula
  pub forms : AreGroundForms normal rounds normal.formulas ground
  pub origins_are : origins ≡ origins_of ground
  pub made_is : made ≡ over_instances normal origins ground
