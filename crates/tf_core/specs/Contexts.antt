-- The context that a stack of borrowed types stands for.
use Rattle.std.specs.Prelude.{List, map, reverse, Option, Some, None}
use Rattle.std.specs.Borrow.{Bor}
use Rattle.tf_core.specs.declared.ty.Ty.{Ty}

-- the nearest binder's type is the last of the stack
abbrev pub context_of : List (Bor Ty) → List Ty
context_of types = reverse (map (λ ty. ty.now) types)

-- what is lent, where there is something
abbrev pub lent : {A : Type 0} → Option (Bor A) → Option A
lent None = None
lent (Some lender) = Some lender.now
