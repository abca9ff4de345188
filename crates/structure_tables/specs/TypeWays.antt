-- How many tuples of members for the parameters of a type give each member that the type can be.
-- Some parameters are kept: each of them has one member. The others have all members, in turn.
use Rattle.std.specs.Prelude.{ℕ, ◌*◌, Bool, List, [], ◌∷◌, cond, eqb, length, replicate, slice_index}
use Rattle.enc_base.specs.Tables.{sum_below, total}
use Rattle.tf_core.specs.declared.ty.Ty.{Ty}
use Rattle.tf_core.specs.declared.ty.Ty.TheOpen.{Ty-F}
use Rattle.tf_core.specs.declared.ty.Ty.TheOpen as layer
use Rattle.tf_core.specs.declared.ty.Ty.TheFolds.{fold-Ty}
use Rattle.tf_core.specs.Structures.{Typed, member_count, size_of}

-- 1 where two numbers are one, else 0
abbrev pub one_at : ℕ → ℕ → ℕ
one_at number other = cond (eqb number other) 1 0

-- how many tuples give parts these members, where each has parameters of its own
abbrev pub ways_together : List (ℕ → ℕ) → List ℕ → ℕ
ways_together [] members = 1
ways_together (part ∷ parts) [] = 1
ways_together (part ∷ parts) (member ∷ members) = part member * ways_together parts members

-- one layer of a type's ways
abbrev pub type_ways_step : Typed → (ℕ → Bool) → List ℕ → Ty-F (ℕ → ℕ) → ℕ → ℕ
type_ways_step s kept members (layer.Var i) member =
    cond (kept i) (one_at (slice_index members i) member) 1
type_ways_step s kept members (layer.Apply c parts) member =
    total (replicate (length parts) (member_count s))
    (λ arguments. ways_together parts arguments * one_at (s.constructor_at c arguments) member)

-- how many tuples of members for the parameters that are not kept give a member
unfoldable pub type_ways : Typed → (ℕ → Bool) → List ℕ → Ty → ℕ → ℕ
type_ways s kept members = fold-Ty (ℕ → ℕ) (type_ways_step s kept members)

-- the sum, over those tuples, of the size of the member that the type is
abbrev pub sizes_of_type : Typed → (ℕ → Bool) → List ℕ → Ty → ℕ
sizes_of_type s kept members ty =
    sum_below (member_count s) (λ member. type_ways s kept members ty member * size_of s member)
