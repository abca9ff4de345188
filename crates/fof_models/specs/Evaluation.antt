-- Words of the evaluator's contracts: an assignment as an environment holds it, the last element
-- being the nearest binder's.
use Rattle.std.specs.Prelude.{ℕ, ◌≡◌, Bool, List, ◌++◌, replicate, reverse}
use Rattle.std.specs.List.{list_all, list_any}
use Rattle.enc_base.specs.Tables.{EachBelow, place}
use Rattle.fof_models.specs.declared.formula.FofTerm.{FofTerm}
use Rattle.fof_models.specs.declared.formula.Fof.{Fof}
use Rattle.fof_models.specs.declared.problem.FofSymbol.{FofSymbol}
use Rattle.fof_models.specs.declared.structure.Structure.{Structure}
use Rattle.fof_models.specs.Structures.{reading, AreElements, IsWellFormed}
use Rattle.fof_models.specs.Truth.{value, truth}

-- the value of a term under an environment's items
abbrev pub value_in : Structure → List ℕ → FofTerm → ℕ
value_in s items t = value (reading s) (reverse items) t

-- whether a formula is true under an environment's items
abbrev pub true_in : Structure → List ℕ → Fof → Bool
true_in s items formula = truth (reading s) formula (reverse items)

-- whether each part is true, and whether some is

abbrev pub all_true : Structure → List ℕ → List Fof → Bool
all_true s items parts = list_all (true_in s items) parts

abbrev pub some_true : Structure → List ℕ → List Fof → Bool
some_true s items parts = list_any (true_in s items) parts

-- the structure is well formed, and the items are elements
pub record IsReady (signature : List FofSymbol) (s : Structure) (items : List ℕ) : Type 0 where
  pub well_formed : IsWellFormed signature s
  pub elements : AreElements s.size items

-- whether a formula has a truth value for each tuple of so many elements more
abbrev pub IsEach : Structure → List ℕ → Fof → ℕ → Bool → Type 0
IsEach s items body count value =
    (tuple : List ℕ) → EachBelow (replicate count s.size) tuple →
    true_in s (items ++ tuple) body ≡ value

-- items that end in a tuple of so many numbers below a bound, before which a number of tuples stand
pub record IsTuple (bound count : ℕ) (front items : List ℕ) (number : ℕ) : Type 0 where
  pub tuple : List ℕ
  pub items_are : items ≡ front ++ tuple
  pub below : EachBelow (replicate count bound) tuple
  pub number_is : place (replicate count bound) tuple ≡ number
