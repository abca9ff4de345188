-- Worked rows: of lists, which variables of a formula are undercover, and what the cover schemes
-- write; of pairs, what `guards_cover` writes.
use Rattle.std.specs.Prelude.{ℕ, true, false, List, [], ◌∷◌, codes, Some}
use Rattle.tf_core.specs.declared.ty.Ty.{Ty}
use Rattle.tf_core.specs.declared.ty.Ty.TheVariants as type
use Rattle.tf_core.specs.declared.term.Term.TheVariants as term
use Rattle.tf_core.specs.declared.nnf.Nnf.{Nnf}
use Rattle.tf_core.specs.declared.nnf.Nnf.TheVariants as nnf
use Rattle.tf_core.specs.declared.signature.Symbol.{Symbol}
use Rattle.tf_core.specs.declared.signature.Signature.{Signature}
use Rattle.tf_core.specs.declared.normal.NormalFormula.{NormalFormula}
use Rattle.tf_core.specs.declared.normal.Normal.{Normal}
use Rattle.tf_core.specs.Sound.{individuals}
use Rattle.fof_models.specs.declared.formula.FofTerm.{FofTerm}
use Rattle.fof_models.specs.declared.formula.FofTerm.TheVariants as fof_term
use Rattle.fof_models.specs.declared.formula.Fof.{Fof}
use Rattle.fof_models.specs.declared.formula.Fof.TheVariants as fof
use Rattle.fof_models.specs.declared.problem.FofSymbol.{FofSymbol}
use Rattle.enc_marks.specs.declared.mark.Mark.TheVariants as mark
use Rattle.enc_marks.specs.declared.encoded.Encoded.{Encoded}
use Rattle.enc_marks.specs.Encoded.{axiom_named}
use Rattle.enc_marks.specs.Rows.{list_of, nil, cons}

-- the empty list, and lists with one element more
abbrev pub lists : Signature
lists = record {
  constructors = individuals ∷ record { name = codes "list"; arity = 1 } ∷ [];
  symbols = nil ∷ cons ∷ [];
}

-- `nil(A) != cons(A,X,L)`
abbrev pub sides_differ : Nnf
sides_differ =
    nnf.Equation false (list_of (type.Var 0)) (term.Apply 0 (type.Var 0 ∷ []) [])
    (term.Apply 1 (type.Var 0 ∷ []) (term.Var 1 ∷ term.Var 0 ∷ []))

-- `![X: A, L: list(A)]: nil(A) != cons(A,X,L)`
abbrev pub all_differ : Nnf
all_differ = nnf.ForAll (type.Var 0) (nnf.ForAll (list_of (type.Var 0)) sides_differ)

-- `?[X: A, L: list(A)]: nil(A) != cons(A,X,L)`
abbrev pub some_differ : Nnf
some_differ = nnf.Exists (type.Var 0) (nnf.Exists (list_of (type.Var 0)) sides_differ)

-- the problem that states the one for all types
abbrev pub lists_differ : Normal
lists_differ = record {
  signature = lists;
  formulas = record {
    name = codes "ne";
    negated = false;
    type_variables = 1;
    body = all_differ;
  } ∷ [];
  fresh = 0;
}

-- ---- untyped terms and atoms

abbrev pub variable : ℕ → FofTerm
variable i = fof_term.Var i

abbrev pub of_one : ℕ → FofTerm → FofTerm
of_one f a = fof_term.Apply f (a ∷ [])

abbrev pub of_two : ℕ → FofTerm → FofTerm → FofTerm
of_two f a b = fof_term.Apply f (a ∷ b ∷ [])

abbrev pub holds_of : ℕ → FofTerm → FofTerm → Fof
holds_of p a b = fof.Atom p (a ∷ b ∷ [])

abbrev pub function : List ℕ → ℕ → FofSymbol
function name arity = record { wanted = name; arity = arity; predicate = false }

abbrev pub guard_symbol : FofSymbol
guard_symbol = record { wanted = codes "is"; arity = 2; predicate = true }

-- `![A]: ?[X]: is(A,X)`
abbrev pub inhabited : ℕ → Fof
inhabited guard = fof.ForAll (fof.Exists (holds_of guard (variable 1) (variable 0)))

-- ---- lists under `guards_cover`, over the numbers of `list` and of the guard: the type argument
-- of `cons` is dropped, and that of `nil` is kept

-- `![A]: ![X]: (is(A,X) => ![L]: nil(A) != cons(X,L))`
abbrev pub differ_guarded : ℕ → Fof
differ_guarded guard =
    fof.ForAll
    (fof.ForAll
    (fof.Implies (holds_of guard (variable 1) (variable 0))
    (fof.ForAll
    (fof.Not (fof.Equal (of_one 0 (variable 2)) (of_two 1 (variable 1) (variable 0)))))))

-- `![A]: is(list(A),nil(A))`
abbrev pub nil_guarded : ℕ → ℕ → Fof
nil_guarded list guard =
    fof.ForAll (holds_of guard (of_one list (variable 0)) (of_one 0 (variable 0)))

-- `![A]: ![X]: ![L]: (is(A,X) => is(list(A),cons(X,L)))`
abbrev pub cons_guarded : ℕ → ℕ → Fof
cons_guarded list guard =
    fof.ForAll
    (fof.ForAll
    (fof.ForAll
    (fof.Implies (holds_of guard (variable 2) (variable 1))
    (holds_of guard (of_one list (variable 2)) (of_two 1 (variable 1) (variable 0))))))

abbrev pub lists_guarded : Encoded
lists_guarded = record {
  problem = record {
    signature = function (codes "nil") 1
        ∷ function (codes "cons") 2
        ∷ function (codes "list") 1
        ∷ guard_symbol ∷ [];
    formulas = axiom_named (codes "ne") (differ_guarded 3)
        ∷ axiom_named (codes "typing_nil") (nil_guarded 2 3)
        ∷ axiom_named (codes "typing_cons") (cons_guarded 2 3)
        ∷ axiom_named (codes "inhabitation") (inhabited 3) ∷ [];
  };
  marks = mark.Symbol 0 ∷ mark.Symbol 1 ∷ mark.Constructor 1 ∷ mark.Guard ∷ [];
}

-- ---- lists under `tags_cover`, over the numbers of `list` and of the tag

-- `cons(as(A,X),L)`, where A and X are these variables and L is the nearest
abbrev pub tagged_cons : ℕ → ℕ → ℕ → FofTerm
tagged_cons tag a x = of_two 1 (of_two tag (variable a) (variable x)) (variable 0)

-- `![A]: ![X]: ![L]: nil(A) != cons(as(A,X),L)`
abbrev pub differ_tagged : ℕ → Fof
differ_tagged tag =
    fof.ForAll
    (fof.ForAll
    (fof.ForAll (fof.Not (fof.Equal (of_one 0 (variable 2)) (tagged_cons tag 2 1)))))

-- `![A]: as(list(A),nil(A)) = nil(A)`
abbrev pub nil_tagged : ℕ → ℕ → Fof
nil_tagged list tag =
    fof.ForAll
    (fof.Equal (of_two tag (of_one list (variable 0)) (of_one 0 (variable 0)))
    (of_one 0 (variable 0)))

-- `![A]: ![X]: ![L]: as(list(A),cons(as(A,X),L)) = cons(as(A,X),L)`
abbrev pub cons_tagged : ℕ → ℕ → Fof
cons_tagged list tag =
    fof.ForAll
    (fof.ForAll
    (fof.ForAll
    (fof.Equal (of_two tag (of_one list (variable 2)) (tagged_cons tag 2 1))
    (tagged_cons tag 2 1))))

-- `![A]: ![X]: as(A,as(A,X)) = as(A,X)`
abbrev pub idempotent : ℕ → Fof
idempotent tag =
    fof.ForAll
    (fof.ForAll
    (fof.Equal (of_two tag (variable 1) (of_two tag (variable 1) (variable 0)))
    (of_two tag (variable 1) (variable 0))))

abbrev pub lists_tagged : Encoded
lists_tagged = record {
  problem = record {
    signature = function (codes "nil") 1
        ∷ function (codes "cons") 2
        ∷ function (codes "list") 1
        ∷ function (codes "as") 2 ∷ [];
    formulas = axiom_named (codes "ne") (differ_tagged 3)
        ∷ axiom_named (codes "typing_nil") (nil_tagged 2 3)
        ∷ axiom_named (codes "typing_cons") (cons_tagged 2 3)
        ∷ axiom_named (codes "tag_idempotence") (idempotent 3) ∷ [];
  };
  marks = mark.Symbol 0 ∷ mark.Symbol 1 ∷ mark.Constructor 1 ∷ mark.Tag ∷ [];
}

-- ---- pairs under `guards_cover`: a parameter that stands only under a constructor is kept

abbrev pub pair_of : Ty → Ty → Ty
pair_of a b = type.Apply 1 (a ∷ b ∷ [])

abbrev pub code : Ty
code = type.Apply 2 []

-- the code of a type, and that of the first type of a pair
abbrev pub id : Symbol
id = record { name = codes "id"; parameters = 1; arguments = []; result = Some code }

abbrev pub fst : Symbol
fst = record {
  name = codes "fst";
  parameters = 2;
  arguments = pair_of (type.Var 0) (type.Var 1) ∷ [];
  result = Some code;
}

-- `fst(A,B,P) = id(A)`
abbrev pub first_equation : Nnf
first_equation =
    nnf.Equation true code (term.Apply 1 (type.Var 0 ∷ type.Var 1 ∷ []) (term.Var 0 ∷ []))
    (term.Apply 0 (type.Var 0 ∷ []) [])

-- `![A: $tType, B: $tType, P: pair(A,B)]: fst(A,B,P) = id(A)`
abbrev pub first_code : NormalFormula
first_code = record {
  name = codes "ax";
  negated = false;
  type_variables = 2;
  body = nnf.ForAll (pair_of (type.Var 0) (type.Var 1)) first_equation;
}

-- `id(code) != id(pair(code,code))`
abbrev pub codes_differ : NormalFormula
codes_differ = record {
  name = codes "nt";
  negated = false;
  type_variables = 0;
  body = nnf.Equation false code (term.Apply 0 (code ∷ []) [])
      (term.Apply 0 (pair_of code code ∷ []) []);
}

abbrev pub pairs : Normal
pairs = record {
  signature = record {
    constructors = individuals
        ∷ record { name = codes "pair"; arity = 2 }
        ∷ record { name = codes "code"; arity = 0 } ∷ [];
    symbols = id ∷ fst ∷ [];
  };
  formulas = first_code ∷ codes_differ ∷ [];
  fresh = 0;
}

-- over the numbers of `pair`, of `code` and of the guard

-- `fst(A,B,P)`, where these are the nearest three variables, and `code`
abbrev pub fst_of_nearest : FofTerm
fst_of_nearest = fof_term.Apply 1 (variable 2 ∷ variable 1 ∷ variable 0 ∷ [])

abbrev pub code_term : ℕ → FofTerm
code_term code = fof_term.Apply code []

-- `![A]: ![B]: ![P]: fst(A,B,P) = id(A)`
abbrev pub first_written : Fof
first_written =
    fof.ForAll
    (fof.ForAll (fof.ForAll (fof.Equal fst_of_nearest (of_one 0 (variable 2)))))

-- `id(code) != id(pair(code,code))`
abbrev pub codes_written : ℕ → ℕ → Fof
codes_written pair code =
    fof.Not
    (fof.Equal (of_one 0 (code_term code))
    (of_one 0 (of_two pair (code_term code) (code_term code))))

-- `![A]: is(code,id(A))`
abbrev pub id_guarded : ℕ → ℕ → Fof
id_guarded code guard = fof.ForAll (holds_of guard (code_term code) (of_one 0 (variable 0)))

-- `![A]: ![B]: ![P]: is(code,fst(A,B,P))`
abbrev pub fst_guarded : ℕ → ℕ → Fof
fst_guarded code guard =
    fof.ForAll (fof.ForAll (fof.ForAll (holds_of guard (code_term code) fst_of_nearest)))

abbrev pub pairs_guarded : Encoded
pairs_guarded = record {
  problem = record {
    signature = function (codes "id") 1
        ∷ function (codes "fst") 3
        ∷ function (codes "pair") 2
        ∷ function (codes "code") 0
        ∷ guard_symbol ∷ [];
    formulas = axiom_named (codes "ax") first_written
        ∷ axiom_named (codes "nt") (codes_written 2 3)
        ∷ axiom_named (codes "typing_id") (id_guarded 3 4)
        ∷ axiom_named (codes "typing_fst") (fst_guarded 3 4)
        ∷ axiom_named (codes "inhabitation") (inhabited 4) ∷ [];
  };
  marks = mark.Symbol 0
      ∷ mark.Symbol 1
      ∷ mark.Constructor 1
      ∷ mark.Constructor 2
      ∷ mark.Guard ∷ [];
}
