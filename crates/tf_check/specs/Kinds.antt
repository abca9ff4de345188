-- Kinds: the type expressions that declare constructors.
use Rattle.std.specs.Prelude.{ℕ, ◌+◌, Bool, true, false, List, [], ◌∷◌, Option, Some, None}
use Rattle.tptp_syntax.specs.declared.types.TypeExpr.{TypeExpr}
use Rattle.tptp_syntax.specs.declared.types.TypeExpr.TheOpen.{TypeExpr-F, Bound-F}
use Rattle.tptp_syntax.specs.declared.types.TypeExpr.TheOpen as layer
use Rattle.tptp_syntax.specs.declared.types.TypeExpr.TheFolds.{fold-TypeExpr}

-- what is said of a type expression as a kind
pub record Kind : Type 0 where
  -- whether it is `$tType`
  pub is_types : Bool
  -- how many `$tType` it joins by `*`, products flattened, where nothing else stands in it
  pub types : Option ℕ
  -- whether it declares a constructor: it is `$tType`, or a map to `$tType`
  pub is_kind : Bool
  -- the number of arguments of the constructor that it declares, where its left side is allowed
  pub arity : Option ℕ

abbrev pub is_types_at : {A B : Type 0} → TypeExpr-F A B → Bool
is_types_at layer.Types = true
is_types_at _ = false

abbrev pub added : Option ℕ → Option ℕ → Option ℕ
added (Some m) (Some n) = Some (m + n)
added _ _ = None

abbrev pub types_of_all : List Kind → Option ℕ
types_of_all [] = Some 0
types_of_all (part ∷ parts) = added part.types (types_of_all parts)

abbrev pub types_at : {B : Type 0} → TypeExpr-F Kind B → Option ℕ
types_at layer.Types = Some 1
types_at (layer.Product parts) = types_of_all parts
types_at _ = None

abbrev pub is_kind_at : {B : Type 0} → TypeExpr-F Kind B → Bool
is_kind_at layer.Types = true
is_kind_at (layer.Map left right) = right.is_types
is_kind_at _ = false

abbrev pub arity_at : {B : Type 0} → TypeExpr-F Kind B → Option ℕ
arity_at layer.Types = Some 0
arity_at (layer.Map left right) = left.types
arity_at _ = None

abbrev pub kind_step : TypeExpr-F Kind (Unit {0}) → Kind
kind_step part =
    record {
      is_types = is_types_at part;
      types = types_at part;
      is_kind = is_kind_at part;
      arity = arity_at part;
    }

unfoldable pub kind : TypeExpr → Kind
kind = fold-TypeExpr Kind (Unit {0}) kind_step (λ bound. tt)

-- whether a variable is bound with `$tType`
abbrev pub is_type_kind : Option TypeExpr → Bool
is_type_kind None = false
is_type_kind (Some expression) = (kind expression).is_types
