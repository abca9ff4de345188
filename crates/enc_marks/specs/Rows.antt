-- Worked rows: small problems, and what they are encoded as.
use Rattle.std.specs.Prelude.{ℕ, true, false, [], ◌∷◌, codes, Some}
use Rattle.tf_core.specs.declared.ty.Ty.{Ty}
use Rattle.tf_core.specs.declared.ty.Ty.TheVariants as type
use Rattle.tf_core.specs.declared.term.Term.TheVariants as term
use Rattle.tf_core.specs.declared.nnf.Nnf.TheVariants as nnf
use Rattle.tf_core.specs.declared.signature.Symbol.{Symbol}
use Rattle.tf_core.specs.declared.normal.Normal.{Normal}
use Rattle.tf_core.specs.Sound.{individuals}
use Rattle.fof_models.specs.declared.formula.FofTerm.{FofTerm}
use Rattle.fof_models.specs.declared.formula.FofTerm.TheVariants as fof_term
use Rattle.fof_models.specs.declared.formula.Fof.TheVariants as fof
use Rattle.fof_models.specs.declared.problem.FofRole.TheVariants.{Axiom}
use Rattle.enc_marks.specs.declared.mark.Mark.TheVariants as mark
use Rattle.enc_marks.specs.declared.encoded.Encoded.{Encoded}

-- the problem that states nothing
abbrev pub nothing : Normal
nothing = record {
  signature = record { constructors = individuals ∷ []; symbols = [] };
  formulas = [];
  fresh = 0;
}

-- under guards: each type has an element, `![A]: ?[X]: is(A,X)`
abbrev pub nothing_guarded : Encoded
nothing_guarded = record {
  problem = record {
    signature = record { wanted = codes "is"; arity = 2; predicate = true } ∷ [];
    formulas = record {
      name = codes "inhabitation";
      role = Axiom;
      body = fof.ForAll
          (fof.Exists (fof.Atom 0 (fof_term.Var 1 ∷ fof_term.Var 0 ∷ [])));
    } ∷ [];
  };
  marks = mark.Guard ∷ [];
}

-- the problem that states of each type that all its elements are one
abbrev pub one_element : Normal
one_element = record {
  signature = record { constructors = individuals ∷ []; symbols = [] };
  formulas = record {
    name = codes "p";
    negated = false;
    type_variables = 1;
    body = nnf.ForAll (type.Var 0)
        (nnf.ForAll (type.Var 0) (nnf.Equation true (type.Var 0) (term.Var 1) (term.Var 0)));
  } ∷ [];
  fresh = 0;
}

abbrev pub tagged_variable : ℕ → FofTerm
tagged_variable i = fof_term.Apply 0 (fof_term.Var 2 ∷ fof_term.Var i ∷ [])

-- under tags: `![A]: ![X]: ![Y]: as(A,X) = as(A,Y)`
abbrev pub one_element_tagged : Encoded
one_element_tagged = record {
  problem = record {
    signature = record { wanted = codes "as"; arity = 2; predicate = false } ∷ [];
    formulas = record {
      name = codes "p";
      role = Axiom;
      body = fof.ForAll
          (fof.ForAll (fof.ForAll (fof.Equal (tagged_variable 1) (tagged_variable 0))));
    } ∷ [];
  };
  marks = mark.Tag ∷ [];
}

-- lists of a type, by constructor 1
abbrev pub list_of : Ty → Ty
list_of ty = type.Apply 1 (ty ∷ [])

-- the empty list, whose type no argument tells
abbrev pub nil : Symbol
nil = record {
  name = codes "nil";
  parameters = 1;
  arguments = [];
  result = Some (list_of (type.Var 0));
}

-- a list with one element more, which tells the type
abbrev pub cons : Symbol
cons = record {
  name = codes "cons";
  parameters = 1;
  arguments = type.Var 0 ∷ list_of (type.Var 0) ∷ [];
  result = Some (list_of (type.Var 0));
}
