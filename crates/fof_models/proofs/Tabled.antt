-- Tables as functions and functions as tables.
use Rattle.std.specs.Prelude.{ℕ, zero, suc, ◌+◌, ◌<◌, ◌≡◌, List, [], ◌∷◌, length, get_or, replicate, slice_index, slice_get, Some}
use Rattle.std.specs.List.{AllByRecursion}
use Rattle.std.proofs.Common.{refl, sym, ap, ◌∙◌, subst, arith}
use Rattle.enc_base.specs.Tables.{EachBelow, place}
use Rattle.enc_base.proofs.Tables.{place_within, length-table, table-at, table-each, EachBelow-length}
use Rattle.fof_models.specs.declared.problem.FofSymbol.{FofSymbol}
use Rattle.fof_models.specs.declared.problem.FofProblem.{FofProblem}
use Rattle.fof_models.specs.declared.structure.Structure.{Structure}
use Rattle.fof_models.specs.Structures.{Untyped, table_of, reading, values_below, AreElements, IsStructure, IsTable, IsWellFormed}
use Rattle.fof_models.specs.declared.problem.FofFormula.{FofFormula}
use Rattle.fof_models.specs.Models.{IsModel, AreModel, AreSatisfied}
use Rattle.fof_models.specs.Sound.{IsSound, IsSoundFormula}
use Rattle.fof_models.proofs.Agreement.{truth-agrees}
use Rattle.fof_models.specs.Tabled.{symbol_table, symbol_tables, tabled}

-- a value that a structure of tables gives is an entry of the symbol's table
pub IsStructure-reading : (signature : List FofSymbol) (s : Structure) →
    IsWellFormed signature s → IsStructure signature (reading s)
IsStructure-reading signature s well_formed = record {
  inhabited = well_formed.inhabited;
  values = λ f symbol elements at below.
      let count : symbol.arity ≡ length elements = EachBelow-length symbol.arity s.size elements below in
      let there : place (replicate symbol.arity s.size) elements < length (table_of s f) =
      rw ((well_formed.tables f symbol at).count) (place_within (replicate symbol.arity s.size) elements below) in
      subst
      (λ n. slice_index (table_of s f) (place (replicate n s.size) elements) < values_below symbol s.size)
      count
      ((well_formed.tables f symbol at).below (place (replicate symbol.arity s.size) elements) there);
}

-- the table of the f-th symbol
table_of-tabled : (s : Untyped) (symbols : List FofSymbol) (first f : ℕ) (symbol : FofSymbol) →
    slice_get symbols f ≡ Some symbol →
    get_or (symbol_tables s symbols first) f [] ≡ symbol_table s symbol (first + f)
table_of-tabled s [] first f symbol at = cc
table_of-tabled s (other ∷ symbols) first zero symbol at =
    let same : other ≡ symbol = cc in
    let here : first ≡ first + 0 = omega arith in
    ap (λ x. symbol_table s x first) same ∙ ap (symbol_table s symbol) here
table_of-tabled s (other ∷ symbols) first (suc f) symbol at =
    let next : first + 1 + f ≡ first + suc f = omega arith in
    table_of-tabled s symbols (first + 1) f symbol at ∙ ap (symbol_table s symbol) next

length-symbol_tables : (s : Untyped) (symbols : List FofSymbol) (first : ℕ) →
    length (symbol_tables s symbols first) ≡ length symbols
length-symbol_tables s [] first = refl
length-symbol_tables s (symbol ∷ symbols) first = ap suc (length-symbol_tables s symbols (first + 1))

table_is : (signature : List FofSymbol) (s : Untyped) (f : ℕ) (symbol : FofSymbol) →
    slice_get signature f ≡ Some symbol →
    table_of (tabled signature s) f ≡ symbol_table s symbol f
table_is signature s f symbol at =
    let same : 0 + f ≡ f = omega arith in
    table_of-tabled s signature 0 f symbol at ∙ ap (symbol_table s symbol) same

pub IsWellFormed-tabled : (signature : List FofSymbol) (s : Untyped) → IsStructure signature s →
    IsWellFormed signature (tabled signature s)
IsWellFormed-tabled signature s fits = record {
  inhabited = fits.inhabited;
  count = length-symbol_tables s signature 0;
  tables = λ f symbol at.
      subst (IsTable symbol s.size) (sym (table_is signature s f symbol at))
      (record {
        count = length-table (replicate symbol.arity s.size) (s.symbol_at f);
        below = table-each (replicate symbol.arity s.size) (s.symbol_at f)
            (λ v. v < values_below symbol s.size)
            (λ elements below. fits.values f symbol elements at below);
      });
}

pub symbol_at-tabled : (signature : List FofSymbol) (s : Untyped) (f : ℕ) (symbol : FofSymbol)
    (elements : List ℕ) → slice_get signature f ≡ Some symbol →
    EachBelow (replicate symbol.arity s.size) elements →
    (reading (tabled signature s)).symbol_at f elements ≡ s.symbol_at f elements
symbol_at-tabled signature s f symbol elements at below =
    let count : length elements ≡ symbol.arity = sym (EachBelow-length symbol.arity s.size elements below) in
    ap (λ t. slice_index t (place (replicate (length elements) s.size) elements))
    (table_is signature s f symbol at)
    ∙ ap (λ n. slice_index (symbol_table s symbol f) (place (replicate n s.size) elements)) count
    ∙ table-at (replicate symbol.arity s.size) elements (s.symbol_at f) below

pub IsModel-reading : (problem : FofProblem) (s : Structure) → AreModel problem s →
    IsModel problem (reading s)
IsModel-reading problem s model = record {
  structure = IsStructure-reading problem.signature s model.well_formed;
  formulas = model.formulas;
}

-- an empty assignment
AreElements-none : (size : ℕ) → AreElements size []
AreElements-none size = record { below = λ i within. absurd (omega arith) }

pub AreModel-tabled : (problem : FofProblem) (s : Untyped) → IsSound problem → IsModel problem s →
    AreModel problem (tabled problem.signature s)
AreModel-tabled problem s sound model = record {
  well_formed = IsWellFormed-tabled problem.signature s model.structure;
  formulas = each problem.formulas sound.formulas model.formulas;
}
  where
    each : (formulas : List FofFormula) → AllByRecursion (IsSoundFormula problem.signature) formulas →
        AreSatisfied s formulas → AreSatisfied (reading (tabled problem.signature s)) formulas
    each [] are satisfied = tt
    each (formula ∷ formulas) are satisfied = (
      truth-agrees problem.signature s (reading (tabled problem.signature s)) model.structure refl
          (symbol_at-tabled problem.signature s) formula.body [] (AreElements-none s.size) are.0.typed
          ∙ satisfied.0,
      each formulas are.1 satisfied.1,
    )
