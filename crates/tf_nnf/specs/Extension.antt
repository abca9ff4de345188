-- Models of a problem and of its normal problem: the tables of the fresh constructors, added and
-- taken away.
use Rattle.std.specs.Prelude.{ℕ, ◌<◌, ◌≡◌, ◌-◌, ◌⊎◌, Bool, false, not, List, [], ◌∷◌, ◌++◌, map, length, take, replicate, Option, Some, None, IsTrue}
use Rattle.enc_base.specs.Tables.{EachBelow}
use Rattle.tf_core.specs.declared.problem.Stated.{Stated}
use Rattle.tf_core.specs.declared.problem.Problem.{Problem}
use Rattle.tf_core.specs.declared.normal.Normal.{Normal}
use Rattle.tf_core.specs.Structures.{Typed, member_count}
use Rattle.tf_core.specs.TypedTables.{TypedTables, reading}
use Rattle.tf_core.specs.Truth.{truth}
use Rattle.tf_nnf.specs.NormalForm.{conjecture_of}

-- One tuple stands before another in lexicographic order: where the two first differ, it has the
-- smaller number.
abbrev pub IsBefore : List ℕ → List ℕ → Type 0
IsBefore [] others = ⊥
IsBefore (value ∷ values) [] = ⊥
IsBefore (value ∷ values) (other ∷ others) =
    (value < other) ⊎ ((value ≡ other) × IsBefore values others)

-- The first tuple in lexicographic order, of those of numbers below bounds, that passes a test.
pub record IsFirst (bounds : List ℕ) (test : List ℕ → Bool) (values : List ℕ) : Type 0 where
  pub below : EachBelow bounds values
  pub passes : IsTrue (test values)
  pub first : (others : List ℕ) → EachBelow bounds others → IsBefore others values →
      test others ≡ false

-- whether the body of a formula is false under members for its type variables
abbrev pub is_false_at : Typed → Stated → List ℕ → Bool
is_false_at s stated members = not (truth s members stated.body [])

-- Members for the type variables of the conjecture: the first tuple at which its body is false. Of
-- no type variables there is one tuple, the empty one; without a conjecture there are no members.
abbrev pub AreFirstFalse : Typed → Option Stated → List ℕ → Type 0
AreFirstFalse s None members = members ≡ []
AreFirstFalse s (Some stated) members =
    IsFirst (replicate stated.type_variables (member_count s)) (is_false_at s stated) members

-- the tables with one more for each of these members, a constructor's without arguments
abbrev pub with_members : List ℕ → TypedTables → TypedTables
with_members members t = record {
  sizes = t.sizes;
  constructors = t.constructors ++ map (λ member. member ∷ []) members;
  symbols = t.symbols;
}

-- Tables are extended to the normal problem: the fresh constructors are the first members at which
-- the conjecture's body is false.
pub record IsExtension (problem : Problem) (t extension : TypedTables) : Type 0 where
  pub members : List ℕ
  pub are_first :
      AreFirstFalse (reading problem.signature t) (conjecture_of problem.formulas) members
  pub exact : extension ≡ with_members members t

-- the tables without those of the fresh constructors
abbrev pub without_fresh : Normal → TypedTables → TypedTables
without_fresh normal t = record {
  sizes = t.sizes;
  constructors = take (length t.constructors - normal.fresh) t.constructors;
  symbols = t.symbols;
}
