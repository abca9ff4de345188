-- The structure of the tests is a model of their conjectures: each is false at some members.
use Rattle.std.proofs.Common.{ℕ, zero, suc, ◌<◌, ◌≡◌, Bool, true, false, List, [], ◌∷◌, length, replicate, get_or, refl, sym, ap, subst, ◌∙◌, arith, lit<}
use Rattle.std.specs.Prelude.{◌&&◌, eqb, slice_index, slice_get, Some, None, IsTrue}
use Rattle.enc_base.specs.Tables.{tuple_count, total}
use Rattle.tf_core.specs.declared.ty.Ty.{Ty}
use Rattle.tf_core.specs.declared.ty.Ty.TheVariants as type
use Rattle.tf_core.specs.declared.term.Term.TheVariants as term
use Rattle.tf_core.specs.declared.formula.Formula.{Formula}
use Rattle.tf_core.specs.declared.formula.Formula.TheVariants as formula
use Rattle.tf_core.specs.declared.signature.Constructor.{Constructor}
use Rattle.tf_core.specs.declared.signature.Symbol.{Symbol}
use Rattle.tf_core.specs.declared.problem.Role.TheVariants.{Conjecture}
use Rattle.tf_core.specs.Structures.{Typed, size_of, member_of, IsStructure}
use Rattle.tf_core.specs.Sound.{individuals}
use Rattle.tf_core.specs.Truth.{value, truth}
use Rattle.tf_core.specs.TypedTables.{AreTables, AreModel, reading, block_length, symbol_place}
use Rattle.tf_core.proofs.Types.{type_value-variable}
use Rattle.tf_core.proofs.Truth.{value-variable, truth-equal, truth-and}
use Rattle.tf_core.proofs.Quantified.{truth-for_all-says}
use Rattle.tf_nnf.specs.Samples.{proposition, propositions, stating, all_equal, both_all_equal, one_and_two}

abbrev s : Typed
s = reading propositions one_and_two

-- the tables fit

constructor_length : (c : ℕ) (constructor : Constructor) →
    slice_get propositions.constructors c ≡ Some constructor →
    length (get_or one_and_two.constructors c []) ≡ tuple_count (replicate constructor.arity 2)
constructor_length zero constructor at =
    let same : individuals ≡ constructor = cc in
    ap (λ (it : Constructor). tuple_count (replicate it.arity 2)) same
constructor_length (suc c) constructor at = cc

symbol_length : (f : ℕ) (symbol : Symbol) → slice_get propositions.symbols f ≡ Some symbol →
    length (get_or one_and_two.symbols f [])
    ≡ total (replicate symbol.parameters 2) (block_length one_and_two symbol)
symbol_length zero symbol at =
    let same : proposition 112 ≡ symbol = cc in
    ap (λ (it : Symbol). total (replicate it.parameters 2) (block_length one_and_two it)) same
symbol_length (suc zero) symbol at =
    let same : proposition 113 ≡ symbol = cc in
    ap (λ (it : Symbol). total (replicate it.parameters 2) (block_length one_and_two it)) same
symbol_length (suc (suc f)) symbol at = cc

tables : AreTables propositions one_and_two
tables = record {
  constructor_count = refl;
  symbol_count = refl;
  constructors = constructor_length;
  symbols = symbol_length;
}

inhabited : (member : ℕ) → member < 2 → 0 < slice_index (1 ∷ 2 ∷ []) member
inhabited zero within = lit< tt
inhabited (suc zero) within = lit< tt
inhabited (suc (suc member)) within = absurd (omega arith)

only_zero : (i : ℕ) → slice_index (0 ∷ []) i < 2
only_zero zero = lit< tt
only_zero (suc i) = lit< tt

constructor_within : (c : ℕ) (constructor : Constructor) (members : List ℕ) →
    slice_get propositions.constructors c ≡ Some constructor → s.constructor_at c members < 2
constructor_within zero constructor members at = only_zero _
constructor_within (suc c) constructor members at = cc

predicate_within : (f : ℕ) (symbol : Symbol) (members elements : List ℕ) →
    slice_get propositions.symbols f ≡ Some symbol → s.symbol_at f members elements < 2
predicate_within zero symbol members elements at =
    only_zero (symbol_place one_and_two (proposition 112) members elements)
predicate_within (suc zero) symbol members elements at =
    only_zero (symbol_place one_and_two (proposition 113) members elements)
predicate_within (suc (suc f)) symbol members elements at = cc

no_function : (f : ℕ) (symbol : Symbol) (result : Ty) →
    slice_get propositions.symbols f ≡ Some symbol → symbol.result ≡ Some result → ⊥
no_function zero symbol result at gives =
    let same : proposition 112 ≡ symbol = cc in
    let none : None ≡ Some result = ap (λ (it : Symbol). it.result) same ∙ gives in cc
no_function (suc zero) symbol result at gives =
    let same : proposition 113 ≡ symbol = cc in
    let none : None ≡ Some result = ap (λ (it : Symbol). it.result) same ∙ gives in cc
no_function (suc (suc f)) symbol result at gives = cc

structure : IsStructure propositions s
structure = record {
  some = lit< tt;
  inhabited = inhabited;
  constructors = λ c constructor members at each. constructor_within c constructor members at;
  functions = λ f symbol result members elements at gives are.
      absurd (no_function f symbol result at gives);
  predicates = λ f symbol members elements at gives are.
      predicate_within f symbol members elements at;
}

-- the elements of the second member aren't equal

differ : (i : ℕ) (members : List ℕ) → slice_index members i ≡ 1 →
    IsTrue (truth s members (all_equal i) []) → ⊥
differ i members is holds =
    let ty : Ty = type.Var i in
    let equal : Formula = formula.Equal ty (term.Var 1) (term.Var 0) in
    let member : member_of s members ty ≡ 1 = type_value-variable s.constructor_at members i ∙ is in
    let first : 0 < size_of s (member_of s members ty) =
    subst (λ n. 0 < size_of s n) (sym member) (lit< tt) in
    let second : 1 < size_of s (member_of s members ty) =
    subst (λ n. 1 < size_of s n) (sym member) (lit< tt) in
    let outer = (truth-for_all-says s members [] ty (formula.ForAll ty equal)).0 holds 0 first in
    let inner = (truth-for_all-says s members (0 ∷ []) ty equal).0 outer 1 second in
    let values : truth s members equal (1 ∷ 0 ∷ []) ≡ eqb 0 1 =
    truth-equal s members ty (term.Var 1) (term.Var 0) (1 ∷ 0 ∷ [])
    ∙ ap (λ n. eqb n (value s members (1 ∷ 0 ∷ []) (term.Var 0)))
    (value-variable s members (1 ∷ 0 ∷ []) 1)
    ∙ ap (λ n. eqb 0 n) (value-variable s members (1 ∷ 0 ∷ []) 0) in
    let clash : true ≡ false = sym inner ∙ values in cc

first_of : (a b : Bool) → IsTrue (a && b) → IsTrue a
first_of true b both = refl
first_of false b both = cc

pub one_type_refuted : AreModel (stating Conjecture 1 (all_equal 0)) one_and_two
one_type_refuted = record {
  tables = tables;
  model = record {
    structure = structure;
    formulas = (
      (λ all. differ 0 (1 ∷ []) refl (all (1 ∷ []) (lit< tt, tt))),
      tt,
    );
  };
}

pub two_types_refuted : AreModel (stating Conjecture 2 both_all_equal) one_and_two
two_types_refuted = record {
  tables = tables;
  model = record {
    structure = structure;
    formulas = (
      (λ all.
          differ 0 (1 ∷ 0 ∷ []) refl
          (first_of (truth s (1 ∷ 0 ∷ []) (all_equal 0) []) _
          (sym (truth-and s (1 ∷ 0 ∷ []) (all_equal 0 ∷ all_equal 1 ∷ []) [])
          ∙ all (1 ∷ 0 ∷ []) (lit< tt, (lit< tt, tt))))),
      tt,
    );
  };
}
