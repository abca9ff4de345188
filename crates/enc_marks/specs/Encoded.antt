-- The untyped problem of a normal problem by the choices of a scheme, and what its symbols stand
-- for.
use Rattle.std.specs.Prelude.{ℕ, ◌+◌, Bool, true, false, List, [], ◌∷◌, ◌++◌, map, length, cond}
use Rattle.std.specs.Prelude.{count_by, is_none, Option, Some, None}
use Rattle.std.specs.List.{list_any, position_or_len}
use Rattle.tf_core.specs.declared.ty.Ty.{Ty}
use Rattle.tf_core.specs.declared.ty.Ty.TheVariants as type
use Rattle.tf_core.specs.declared.signature.Constructor.{Constructor}
use Rattle.tf_core.specs.declared.signature.Symbol.{Symbol}
use Rattle.tf_core.specs.declared.normal.NormalFormula.{NormalFormula}
use Rattle.tf_core.specs.declared.normal.Normal.{Normal}
use Rattle.tf_core.specs.Sorts.{sorts}
use Rattle.tf_core.specs.Types.{same_type}
use Rattle.fof_models.specs.declared.formula.Fof.{Fof}
use Rattle.fof_models.specs.declared.formula.Fof.TheVariants.{ForAll}
use Rattle.fof_models.specs.declared.problem.FofSymbol.{FofSymbol}
use Rattle.fof_models.specs.declared.problem.FofRole.{FofRole}
use Rattle.fof_models.specs.declared.problem.FofRole.TheVariants.{Axiom, NegatedConjecture}
use Rattle.fof_models.specs.declared.problem.FofFormula.{FofFormula}
use Rattle.enc_marks.specs.declared.mark.Mark.{Mark}
use Rattle.enc_marks.specs.declared.mark.Mark.TheVariants as mark
use Rattle.enc_marks.specs.declared.encoded.Encoded.{Encoded}
use Rattle.enc_marks.specs.declared.choices.Marking.{Marking}
use Rattle.enc_marks.specs.declared.choices.Marking.TheVariants.{ByType, BySort}
use Rattle.enc_marks.specs.declared.choices.Binding.{Binding}
use Rattle.enc_marks.specs.declared.choices.Binding.TheVariants.{ByGuard, ByTag}
use Rattle.enc_marks.specs.Choices.{Choices}
use Rattle.enc_marks.specs.Translation.{Numbers}
use Rattle.enc_marks.specs.Axioms.{closed_formula, typing_axiom, last_axiom}
use Rattle.enc_marks.specs.Occurrence.{occurs, renumber, count_below, passing}
use Rattle.enc_marks.specs.Names.{wanted_constructor, wanted_mark, wanted_sort_mark, typing_name}
use Rattle.enc_marks.specs.Names.{last_name, sort_last_name}

-- All marked symbols have numbers, in this order: symbols, constructors, then the guard or tag of
-- all types, or those of the sorts.
abbrev pub all_numbers : Normal → Numbers
all_numbers normal =
    let symbols = length normal.signature.symbols in
    let constructors = length normal.signature.constructors in
    record {
      symbol = λ f. f;
      constructor = λ c. symbols + c;
      shared = symbols + constructors;
      sort = λ ty. symbols + constructors + position_or_len (same_type ty) (sorts normal);
    }

-- what a symbol of the untyped problem stands for, and the symbol
pub record MarkedSymbol : Type 0 where
  pub mark : Mark
  pub symbol : FofSymbol

abbrev pub is_guard : Binding → Bool
is_guard ByGuard = true
is_guard ByTag = false

abbrev pub mark_of : Binding → Mark
mark_of ByGuard = mark.Guard
mark_of ByTag = mark.Tag

abbrev pub sort_mark_of : Binding → ℕ → Mark
sort_mark_of ByGuard s = mark.SortGuard s
sort_mark_of ByTag s = mark.SortTag s

-- the f-th source symbol: its arguments are the type arguments that are kept and its own
abbrev pub marked_symbol : Choices → ℕ → Symbol → MarkedSymbol
marked_symbol c f symbol = record {
  mark = mark.Symbol f;
  symbol = record {
    wanted = symbol.name;
    arity = count_by (λ keeps. keeps) (c.keeps symbol) + length symbol.arguments;
    predicate = is_none symbol.result;
  };
}

abbrev pub marked_constructor : Normal → ℕ → Constructor → MarkedSymbol
marked_constructor normal i constructor = record {
  mark = mark.Constructor i;
  symbol = record {
    wanted = wanted_constructor normal i constructor.name;
    arity = constructor.arity;
    predicate = false;
  };
}

-- the guard or tag of all types, of a type and a term
abbrev pub shared_mark : Binding → MarkedSymbol
shared_mark binding = record {
  mark = mark_of binding;
  symbol = record { wanted = wanted_mark binding; arity = 2; predicate = is_guard binding };
}

-- the guard or tag of the s-th sort, of a term
abbrev pub sort_mark : Normal → Binding → ℕ → Ty → MarkedSymbol
sort_mark normal binding s ty = record {
  mark = sort_mark_of binding s;
  symbol = record {
    wanted = wanted_sort_mark normal binding ty;
    arity = 1;
    predicate = is_guard binding;
  };
}

-- lists of them, numbered from here on

abbrev pub marked_symbols : Choices → ℕ → List Symbol → List MarkedSymbol
marked_symbols c f [] = []
marked_symbols c f (symbol ∷ symbols) = marked_symbol c f symbol ∷ marked_symbols c (f + 1) symbols

abbrev pub marked_constructors : Normal → ℕ → List Constructor → List MarkedSymbol
marked_constructors normal i [] = []
marked_constructors normal i (constructor ∷ constructors) =
    marked_constructor normal i constructor ∷ marked_constructors normal (i + 1) constructors

abbrev pub sort_marks : Normal → Binding → ℕ → List Ty → List MarkedSymbol
sort_marks normal binding s [] = []
sort_marks normal binding s (ty ∷ types) =
    sort_mark normal binding s ty ∷ sort_marks normal binding (s + 1) types

abbrev pub own_marks : Normal → Binding → Marking → List MarkedSymbol
own_marks normal binding ByType = shared_mark binding ∷ []
own_marks normal binding BySort = sort_marks normal binding 0 (sorts normal)

-- all marked symbols, in the order of their numbers
abbrev pub all_marks : Choices → Normal → List MarkedSymbol
all_marks c normal =
    marked_symbols c 0 normal.signature.symbols
    ++ (marked_constructors normal 0 normal.signature.constructors
    ++ own_marks normal c.binding c.marking)

abbrev pub role_of : Bool → FofRole
role_of true = NegatedConjecture
role_of false = Axiom

-- a formula of the normal problem, under its name and in its role
abbrev pub stated : Choices → Normal → NormalFormula → FofFormula
stated c normal formula = record {
  name = formula.name;
  role = role_of formula.negated;
  body = closed_formula c (all_numbers normal) normal.signature formula;
}

abbrev pub axiom_named : List ℕ → Fof → FofFormula
axiom_named name body = record { name = name; role = Axiom; body = body }

-- the typing axiom of the f-th symbol, where it is a function that has one
abbrev pub typing_of : Choices → Normal → ℕ → Symbol → Option Ty → List FofFormula
typing_of c normal f symbol None = []
typing_of c normal f symbol (Some result) =
    cond (c.typing result)
    (axiom_named (typing_name symbol.name)
    (typing_axiom c (all_numbers normal) normal.signature f symbol result) ∷ [])
    []

-- those of symbols that are numbered from here on
abbrev pub typing_axioms : Choices → Normal → ℕ → List Symbol → List FofFormula
typing_axioms c normal f [] = []
typing_axioms c normal f (symbol ∷ symbols) =
    typing_of c normal f symbol symbol.result ++ typing_axioms c normal (f + 1) symbols

-- the last axiom of all types: that of a type variable
abbrev pub type_axioms : Choices → Normal → List FofFormula
type_axioms c normal =
    cond (c.last (type.Var 0))
    (axiom_named (last_name c.binding)
    (ForAll (last_axiom c (all_numbers normal) normal.signature c.binding 1 (type.Var 0))) ∷ [])
    []

-- those of sorts
abbrev pub sort_axioms : Choices → Normal → List Ty → List FofFormula
sort_axioms c normal [] = []
sort_axioms c normal (ty ∷ types) =
    cond (c.last ty)
    (axiom_named (sort_last_name normal c.binding ty)
    (last_axiom c (all_numbers normal) normal.signature c.binding 0 ty)
    ∷ sort_axioms c normal types)
    (sort_axioms c normal types)

abbrev pub last_axioms : Choices → Normal → Marking → List FofFormula
last_axioms c normal ByType = type_axioms c normal
last_axioms c normal BySort = sort_axioms c normal (sorts normal)

-- what is stated, the symbols under the numbers of all marked symbols
unfoldable pub translation : Choices → Normal → List FofFormula
translation c normal =
    map (stated c normal) normal.formulas
    ++ (typing_axioms c normal 0 normal.signature.symbols ++ last_axioms c normal c.marking)

-- whether the marked symbol of a number occurs in what is stated
abbrev pub is_present : List FofFormula → ℕ → Bool
is_present formulas m = list_any (λ formula. occurs m formula.body) formulas

-- a formula whose symbols have the numbers among those that occur
abbrev pub renumbered : (ℕ → Bool) → FofFormula → FofFormula
renumbered present formula = record {
  name = formula.name;
  role = formula.role;
  body = renumber (λ m. count_below m present) formula.body;
}

-- the problem over the marked symbols that occur, and the mark of each
abbrev pub encoded_from : Choices → Normal → List FofFormula → Encoded
encoded_from c normal formulas =
    let marked = passing (is_present formulas) 0 (all_marks c normal) in
    record {
      problem = record {
        signature = map (λ one. one.symbol) marked;
        formulas = map (renumbered (is_present formulas)) formulas;
      };
      marks = map (λ one. one.mark) marked;
    }

-- the translation of a normal problem
unfoldable pub encoded : Choices → Normal → Encoded
encoded c normal = encoded_from c normal (translation c normal)
