-- The names that are bound at a place: type variables and term variables, in one scope.
use Rattle.std.specs.Prelude.{ℕ, ◌+◌, List, [], ◌∷◌, if◌then◌else◌, bytes_eq}
use Rattle.tf_core.specs.declared.ty.Ty.{Ty}

-- a bound name, and the type of a term variable
pub data Binding : Type 0 where
  TypeVariable : List ℕ → Binding
  TermVariable : List ℕ → Ty → Binding

-- the bound names, the innermost first
abbrev pub Scope : Type 0
Scope = List Binding

-- how many type variables are bound
abbrev pub type_variables : Scope → ℕ
type_variables [] = 0
type_variables (TypeVariable name ∷ outer) = type_variables outer + 1
type_variables (TermVariable name ty ∷ outer) = type_variables outer

-- What a name stands for: a type variable, numbered from the outermost, or a term variable,
-- numbered from the innermost, with its type.
pub data Meaning : Type 0 where
  Unbound : Meaning
  OfType : ℕ → Meaning
  OfTerm : ℕ → Ty → Meaning

abbrev pub under_binder : Meaning → Meaning
under_binder Unbound = Unbound
under_binder (OfType i) = OfType i
under_binder (OfTerm i ty) = OfTerm (i + 1) ty

-- The innermost binding of a name decides, whatever it binds.
abbrev pub meaning : Scope → List ℕ → Meaning
meaning [] name = Unbound
meaning (TypeVariable bound ∷ outer) name =
    if bytes_eq name bound then OfType (type_variables outer) else meaning outer name
meaning (TermVariable bound ty ∷ outer) name =
    if bytes_eq name bound then OfTerm 0 ty else under_binder (meaning outer name)
