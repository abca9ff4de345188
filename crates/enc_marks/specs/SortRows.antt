-- Worked rows of schemes whose marks are of sorts: a problem with sorts a and b, of which only b is
-- free, under guards at variables of sorts that aren't free, and under tags at terms of these.
use Rattle.std.specs.Prelude.{ℕ, true, false, [], ◌∷◌, codes}
use Rattle.fof_models.specs.declared.formula.FofTerm.{FofTerm}
use Rattle.fof_models.specs.declared.formula.FofTerm.TheVariants as term
use Rattle.fof_models.specs.declared.formula.Fof.{Fof}
use Rattle.fof_models.specs.declared.formula.Fof.TheVariants as fof
use Rattle.fof_models.specs.declared.problem.FofRole.TheVariants.{Axiom}
use Rattle.enc_marks.specs.declared.mark.Mark.TheVariants as mark
use Rattle.enc_marks.specs.declared.encoded.Encoded.{Encoded}

-- `is_a(X)` of the nearest variable, under the number of the guard of a
abbrev pub is_of_a : ℕ → Fof
is_of_a guard = fof.Atom guard (term.Var 0 ∷ [])

-- `![X]: (is_a(X) => ![Y]: (is_a(Y) => X = Y))`
abbrev pub all_of_a_equal : ℕ → Fof
all_of_a_equal guard =
    fof.ForAll (fof.Implies (is_of_a guard)
    (fof.ForAll (fof.Implies (is_of_a guard) (fof.Equal (term.Var 1) (term.Var 0)))))

-- `c != d`
abbrev pub constants_differ : Fof
constants_differ = fof.Not (fof.Equal (term.Apply 0 []) (term.Apply 1 []))

-- `?[X]: is_a(X)`
abbrev pub some_of_a : ℕ → Fof
some_of_a guard = fof.Exists (is_of_a guard)

abbrev pub universal_guarded : Encoded
universal_guarded = record {
  problem = record {
    signature = record { wanted = codes "c"; arity = 0; predicate = false }
        ∷ record { wanted = codes "d"; arity = 0; predicate = false }
        ∷ record { wanted = codes "is_a"; arity = 1; predicate = true } ∷ [];
    formulas = record { name = codes "one"; role = Axiom; body = all_of_a_equal 2 }
        ∷ record { name = codes "two"; role = Axiom; body = constants_differ }
        ∷ record { name = codes "inhabitation_a"; role = Axiom; body = some_of_a 2 } ∷ [];
  };
  marks = mark.Symbol 0 ∷ mark.Symbol 1 ∷ mark.SortGuard 1 ∷ [];
}

-- `as_a(X)` of the i-th variable, under the number of the tag of a
abbrev pub as_of_a : ℕ → ℕ → FofTerm
as_of_a tag i = term.Apply tag (term.Var i ∷ [])

-- `![X]: ![Y]: as_a(X) = as_a(Y)`
abbrev pub all_tagged_equal : ℕ → Fof
all_tagged_equal tag = fof.ForAll (fof.ForAll (fof.Equal (as_of_a tag 1) (as_of_a tag 0)))

abbrev pub universal_tagged : Encoded
universal_tagged = record {
  problem = record {
    signature = record { wanted = codes "c"; arity = 0; predicate = false }
        ∷ record { wanted = codes "d"; arity = 0; predicate = false }
        ∷ record { wanted = codes "as_a"; arity = 1; predicate = false } ∷ [];
    formulas = record { name = codes "one"; role = Axiom; body = all_tagged_equal 2 }
        ∷ record { name = codes "two"; role = Axiom; body = constants_differ } ∷ [];
  };
  marks = mark.Symbol 0 ∷ mark.Symbol 1 ∷ mark.SortTag 1 ∷ [];
}
