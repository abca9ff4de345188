-- Worked rows of the feather schemes: a problem with sorts a and b, of which only b is free, whose
-- three formulas have a naked universal variable, another universal one, and an existential one.
use Rattle.std.specs.Prelude.{ℕ, true, false, [], ◌∷◌, codes, Some, None}
use Rattle.tf_core.specs.declared.term.Term.TheVariants as typed_term
use Rattle.tf_core.specs.declared.nnf.Nnf.{Nnf}
use Rattle.tf_core.specs.declared.nnf.Nnf.TheVariants as nnf
use Rattle.tf_core.specs.declared.signature.Symbol.{Symbol}
use Rattle.tf_core.specs.declared.normal.Normal.{Normal}
use Rattle.tf_core.specs.Sound.{individuals}
use Rattle.tf_naked.specs.Rows.{sort_a, sort_b, axiom_of, all_equal}
use Rattle.fof_models.specs.declared.formula.FofTerm.{FofTerm}
use Rattle.fof_models.specs.declared.formula.FofTerm.TheVariants as term
use Rattle.fof_models.specs.declared.formula.Fof.{Fof}
use Rattle.fof_models.specs.declared.formula.Fof.TheVariants as fof
use Rattle.fof_models.specs.declared.problem.FofRole.TheVariants.{Axiom}
use Rattle.enc_marks.specs.declared.mark.Mark.TheVariants as mark
use Rattle.enc_marks.specs.declared.encoded.Encoded.{Encoded}
use Rattle.enc_marks.specs.SortRows.{is_of_a, all_of_a_equal, some_of_a, as_of_a, all_tagged_equal}

-- `f: (a * b) > a`
abbrev pub function_f : Symbol
function_f =
    record {
      name = codes "f";
      parameters = 0;
      arguments = sort_a ∷ sort_b ∷ [];
      result = Some sort_a;
    }

-- `p: a > $o`
abbrev pub predicate_p : Symbol
predicate_p =
    record { name = codes "p"; parameters = 0; arguments = sort_a ∷ []; result = None }

-- `p(X)`
abbrev pub of_p : Nnf
of_p = nnf.Atom true 1 [] (typed_term.Var 0 ∷ [])

-- `![X: a,Y: a]: X = Y`, `![X: a]: p(X)`, `?[X: a]: p(X)`
abbrev pub feathered : Normal
feathered = record {
  signature = record {
    constructors = individuals ∷ record { name = codes "a"; arity = 0 }
        ∷ record { name = codes "b"; arity = 0 } ∷ [];
    symbols = function_f ∷ predicate_p ∷ [];
  };
  formulas = axiom_of (codes "one") all_equal
      ∷ axiom_of (codes "two") (nnf.ForAll sort_a of_p)
      ∷ axiom_of (codes "three") (nnf.Exists sort_a of_p) ∷ [];
  fresh = 0;
}

-- `p(X)` of the nearest variable
abbrev pub is_p : Fof
is_p = fof.Atom 1 (term.Var 0 ∷ [])

-- `f(X,Y)` of the two nearest variables
abbrev pub value_of_f : FofTerm
value_of_f = term.Apply 0 (term.Var 1 ∷ term.Var 0 ∷ [])

-- ---- under guards at naked universal variables and at existential ones

-- `?[X]: (is_a(X) & p(X))`
abbrev pub some_guarded : ℕ → Fof
some_guarded guard = fof.Exists (fof.And (is_of_a guard ∷ is_p ∷ []))

-- `![X]: ![Y]: is_a(f(X,Y))`
abbrev pub f_guarded : ℕ → Fof
f_guarded guard = fof.ForAll (fof.ForAll (fof.Atom guard (value_of_f ∷ [])))

abbrev pub feather_guarded : Encoded
feather_guarded = record {
  problem = record {
    signature = record { wanted = codes "f"; arity = 2; predicate = false }
        ∷ record { wanted = codes "p"; arity = 1; predicate = true }
        ∷ record { wanted = codes "is_a"; arity = 1; predicate = true } ∷ [];
    formulas = record { name = codes "one"; role = Axiom; body = all_of_a_equal 2 }
        ∷ record { name = codes "two"; role = Axiom; body = fof.ForAll is_p }
        ∷ record { name = codes "three"; role = Axiom; body = some_guarded 2 }
        ∷ record { name = codes "typing_f"; role = Axiom; body = f_guarded 2 }
        ∷ record { name = codes "inhabitation_a"; role = Axiom; body = some_of_a 2 } ∷ [];
  };
  marks = mark.Symbol 0 ∷ mark.Symbol 1 ∷ mark.SortGuard 0 ∷ [];
}

-- ---- under tags at naked places

-- `?[X]: (as_a(X) = X & p(X))`
abbrev pub some_tagged : ℕ → Fof
some_tagged tag = fof.Exists (fof.And (fof.Equal (as_of_a tag 0) (term.Var 0) ∷ is_p ∷ []))

-- `![X]: ![Y]: as_a(f(X,Y)) = f(X,Y)`
abbrev pub f_tagged : ℕ → Fof
f_tagged tag =
    fof.ForAll (fof.ForAll (fof.Equal (term.Apply tag (value_of_f ∷ [])) value_of_f))

-- `![X]: as_a(as_a(X)) = as_a(X)`
abbrev pub tagged_twice : ℕ → Fof
tagged_twice tag = fof.ForAll (fof.Equal (term.Apply tag (as_of_a tag 0 ∷ [])) (as_of_a tag 0))

abbrev pub feather_tagged : Encoded
feather_tagged = record {
  problem = record {
    signature = record { wanted = codes "f"; arity = 2; predicate = false }
        ∷ record { wanted = codes "p"; arity = 1; predicate = true }
        ∷ record { wanted = codes "as_a"; arity = 1; predicate = false } ∷ [];
    formulas = record { name = codes "one"; role = Axiom; body = all_tagged_equal 2 }
        ∷ record { name = codes "two"; role = Axiom; body = fof.ForAll is_p }
        ∷ record { name = codes "three"; role = Axiom; body = some_tagged 2 }
        ∷ record { name = codes "typing_f"; role = Axiom; body = f_tagged 2 }
        ∷ record { name = codes "tag_idempotence_a"; role = Axiom; body = tagged_twice 2 } ∷ [];
  };
  marks = mark.Symbol 0 ∷ mark.Symbol 1 ∷ mark.SortTag 0 ∷ [];
}
