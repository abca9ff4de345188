-- What the definitions promise one another.
use Rattle.std.specs.Prelude.{ℕ, ◌+◌, ◌<◌, ◌≡◌, ◌↔◌, List, ◌∷◌, ◌++◌, length, get_or, replicate, reverse, slice_get, Some, IsTrue}
use Rattle.enc_base.specs.Tables.{EachBelow, tuple_count, place, table}
use Rattle.fof_models.specs.declared.formula.Fof.{Fof}
use Rattle.fof_models.specs.declared.formula.Fof.TheVariants.{ForAll, Exists}
use Rattle.fof_models.specs.declared.problem.FofSymbol.{FofSymbol}
use Rattle.fof_models.specs.declared.problem.FofProblem.{FofProblem}
use Rattle.fof_models.specs.declared.structure.Structure.{Structure}
use Rattle.fof_models.specs.Structures.{Untyped, reading, IsStructure, IsWellFormed}
use Rattle.fof_models.specs.Prefix.{under_universals, under_existentials}
use Rattle.fof_models.specs.Truth.{truth}
use Rattle.fof_models.specs.Models.{IsModel, AreModel}
use Rattle.fof_models.specs.Sound.{IsSound}
use Rattle.fof_models.specs.Tabled.{tabled}

-- the textbook's reading of a universal formula
abbrev pub UniversalIsTrueOfEach : Type 0
UniversalIsTrueOfEach = (s : Untyped) (body : Fof) (elements : List ℕ) →
    IsTrue (truth s (ForAll body) elements)
    ↔ ((element : ℕ) → element < s.size → IsTrue (truth s body (element ∷ elements)))

-- the textbook's reading of an existential formula
abbrev pub ExistentialIsTrueOfSome : Type 0
ExistentialIsTrueOfSome = (s : Untyped) (body : Fof) (elements : List ℕ) →
    IsTrue (truth s (Exists body) elements)
    ↔ ((element : ℕ) × (element < s.size) × IsTrue (truth s body (element ∷ elements)))

-- Under no quantifiers a formula is itself, and under one more it is quantified once more.
pub record PrefixesAreQuantifiers : Type 0 where
  pub no_universals : (body : Fof) → under_universals 0 body ≡ body
  pub more_universals : (count : ℕ) (body : Fof) →
      under_universals (count + 1) body ≡ ForAll (under_universals count body)
  pub no_existentials : (body : Fof) → under_existentials 0 body ≡ body
  pub more_existentials : (count : ℕ) (body : Fof) →
      under_existentials (count + 1) body ≡ Exists (under_existentials count body)

-- The textbook's reading of a prefix: a formula under so many universal quantifiers is true exactly
-- where it is true of each tuple of so many elements, and one under existential quantifiers where
-- it is true of some. The first part of a tuple is the outermost quantifier's.
pub record PrefixesAreTrueOfTuples : Type 0 where
  pub universal : (s : Untyped) (count : ℕ) (body : Fof) (elements : List ℕ) →
      IsTrue (truth s (under_universals count body) elements)
      ↔ ((tuple : List ℕ) → EachBelow (replicate count s.size) tuple →
      IsTrue (truth s body (reverse tuple ++ elements)))
  pub existential : (s : Untyped) (count : ℕ) (body : Fof) (elements : List ℕ) →
      IsTrue (truth s (under_existentials count body) elements)
      ↔ ((tuple : List ℕ) × EachBelow (replicate count s.size) tuple
      × IsTrue (truth s body (reverse tuple ++ elements)))

-- The table of a function has as many entries as there are tuples, and the function's value at a
-- tuple stands at the tuple's place.
pub record EntriesStandAtPlaces : Type 0 where
  pub within : (bounds values : List ℕ) → EachBelow bounds values →
      place bounds values < tuple_count bounds
  pub count : (bounds : List ℕ) (f : List ℕ → ℕ) → length (table bounds f) ≡ tuple_count bounds
  pub entry : (bounds values : List ℕ) (f : List ℕ → ℕ) → EachBelow bounds values →
      get_or (table bounds f) (place bounds values) 0 ≡ f values

-- Well-formed tables are functions that fit the signature, and functions that fit it are the
-- reading of their tables, which are well formed.
pub record TablesAreFunctions : Type 0 where
  pub functions : (signature : List FofSymbol) (s : Structure) → IsWellFormed signature s →
      IsStructure signature (reading s)
  pub tables : (signature : List FofSymbol) (s : Untyped) → IsStructure signature s →
      IsWellFormed signature (tabled signature s)
  pub same : (signature : List FofSymbol) (s : Untyped) (f : ℕ) (symbol : FofSymbol)
      (elements : List ℕ) → slice_get signature f ≡ Some symbol →
      EachBelow (replicate symbol.arity s.size) elements →
      (reading (tabled signature s)).symbol_at f elements ≡ s.symbol_at f elements

-- A problem has a model of tables exactly where it has one of functions.
pub record ModelsAreTables : Type 0 where
  pub functions : (problem : FofProblem) (s : Structure) → AreModel problem s →
      IsModel problem (reading s)
  pub tables : (problem : FofProblem) (s : Untyped) → IsSound problem → IsModel problem s →
      AreModel problem (tabled problem.signature s)
