-- Worked rows of schemes by sort: which place is refused, and what a light scheme writes.
use Rattle.std.specs.Prelude.{ℕ, ◌+◌, ◌≡◌, ◌||◌, Bool, true, false, not, List, [], ◌∷◌, ◌++◌, map, cond, eqb, codes, Some, None}
use Rattle.std.specs.List.{position_or_len}
use Rattle.std.proofs.Common.{refl, ap, ◌∙◌}
use Rattle.std.proofs.Math.Path.{fun_ext}
use Rattle.tf_core.specs.declared.ty.Ty.{Ty}
use Rattle.tf_core.specs.declared.term.Term.TheVariants as typed_term
use Rattle.tf_core.specs.declared.nnf.Nnf.TheVariants as nnf
use Rattle.tf_core.specs.declared.signature.Signature.{Signature}
use Rattle.tf_core.specs.Types.{same_type}
use Rattle.tf_core.specs.Sorts.{sorts}
use Rattle.tf_core.proofs.Typed.{same_type-self}
use Rattle.fof_models.specs.declared.formula.FofTerm.TheVariants as term
use Rattle.fof_models.specs.declared.formula.Fof.{Fof}
use Rattle.fof_models.specs.declared.formula.Fof.TheVariants as fof
use Rattle.fof_models.specs.declared.problem.FofFormula.{FofFormula}
use Rattle.tf_naked.specs.Naked.{side_of, is_free}
use Rattle.tf_naked.specs.Rows.{sort_a, sort_b, equal_variables, all_equal, universal, existential, refuted}
use Rattle.tf_naked.specs.Rows as typed
use Rattle.tf_naked.specs.declared.position.Kind.{Kind}
use Rattle.tf_naked.specs.declared.position.Kind.TheVariants.{Universal}
use Rattle.tf_naked.proofs.Rows.{universal_places, existential_places, refuted_places, universal_sorts, universal_a, universal_b, refuted_a, same_type-a_b}
use Rattle.enc_marks.specs.declared.mark.Mark.TheVariants as mark
use Rattle.enc_marks.specs.declared.encoded.Encoded.{Encoded}
use Rattle.enc_marks.specs.declared.choices.Binding.TheVariants.{ByGuard}
use Rattle.enc_marks.specs.Choices.{Choices}
use Rattle.enc_marks.specs.Applies.{first_not_free}
use Rattle.enc_marks.specs.Schemes.{guards_light}
use Rattle.enc_marks.specs.Names.{flat_name, sort_last_name}
use Rattle.enc_marks.specs.Axioms.{last_axiom}
use Rattle.enc_marks.specs.Translation.{Numbers, Bare, bare, formula}
use Rattle.enc_marks.specs.Occurrence.{occurs, occurs_in_term, renumber, renumber_term, count_below, passing}
use Rattle.enc_marks.specs.Encoded.{MarkedSymbol, marked_symbol, marked_symbols, marked_constructors, sort_marks, all_marks, all_numbers, axiom_named, typing_axioms, sort_axioms, translation, is_present, renumbered, encoded_from, encoded}
use Rattle.enc_marks.specs.SortRows.{is_of_a, all_of_a_equal, constants_differ, some_of_a, universal_guarded}
use Rattle.enc_marks.proofs.Names.{flat_name-apply}
use Rattle.enc_marks.proofs.Translation.{bare-variable, bare-apply, formula-equation, formula-for_all}
use Rattle.enc_marks.proofs.Occurrence.{occurs-not, occurs-implies, occurs-for_all, occurs-exists, occurs-atom, occurs-equal, occurs_in_term-variable, occurs_in_term-apply, renumber-not, renumber-implies, renumber-for_all, renumber-exists, renumber-atom, renumber-equal, renumber_term-variable, renumber_term-apply}

-- under universal quantifiers the left side of `X = Y` is the first place that isn't free
pub universal_refused : first_not_free universal ≡ Some (side_of 0 0 0)
universal_refused = rw (universal_places) (rw (universal_a) refl)

-- under existential ones no place is refused
pub existential_taken : first_not_free existential ≡ None
existential_taken = rw (existential_places) refl

-- of the conjecture it is that of its negation
pub refuted_refused : first_not_free refuted ≡ Some (side_of 1 0 0)
refuted_refused = rw (refuted_places) (rw (refuted_a) refl)

-- ---- what guards at variables of sorts that aren't free write

abbrev choices : Choices
choices = guards_light (is_free universal)

abbrev k : Numbers
k = all_numbers universal

abbrev g : Signature
g = universal.signature

-- the guard of a has this number among all marked symbols
pub guard_of_a : k.sort sort_a ≡ 6
guard_of_a =
    ap (λ types. 5 + position_or_len (same_type sort_a) types) universal_sorts
    ∙ ap (λ b. 5 + cond (not b) (1 + position_or_len (same_type sort_a) (sort_a ∷ [])) 0)
    same_type-a_b
    ∙ ap (λ b. 5 + (1 + cond (not b) 1 0)) (same_type-self sort_a)

guarded : (p : Fof) →
    fof.ForAll (cond (not (is_free universal sort_a))
    (fof.Implies (fof.Atom (k.sort sort_a) (term.Var 0 ∷ [])) p) p)
    ≡ fof.ForAll (fof.Implies (is_of_a 6) p)
guarded p =
    ap (λ b. fof.ForAll (cond (not b)
    (fof.Implies (fof.Atom (k.sort sort_a) (term.Var 0 ∷ [])) p) p)) universal_a
    ∙ ap (λ n. fof.ForAll (fof.Implies (is_of_a n) p)) guard_of_a

abbrev two : List Kind
two = Universal ∷ Universal ∷ []

equation-body : formula choices k g equal_variables 2 two ≡ fof.Equal (term.Var 1) (term.Var 0)
equation-body =
    formula-equation choices k g true sort_a (typed_term.Var 1) (typed_term.Var 0) 2 two
    ∙ ap (λ (t : Bare). fof.Equal t.term (bare choices k g 2 two (typed_term.Var 0)).term)
    (bare-variable choices k g 2 two 1)
    ∙ ap (λ (t : Bare). fof.Equal (term.Var 1) t.term) (bare-variable choices k g 2 two 0)

universal-body : formula choices k g all_equal 0 [] ≡ all_of_a_equal 6
universal-body =
    formula-for_all choices k g sort_a (nnf.ForAll sort_a equal_variables) 0 []
    ∙ guarded (formula choices k g (nnf.ForAll sort_a equal_variables) 1 (Universal ∷ []))
    ∙ ap (λ p. fof.ForAll (fof.Implies (is_of_a 6) p))
    (formula-for_all choices k g sort_a equal_variables 1 (Universal ∷ [])
    ∙ guarded (formula choices k g equal_variables 2 two)
    ∙ ap (λ p. fof.ForAll (fof.Implies (is_of_a 6) p)) equation-body)

differ-body : formula choices k g typed.constants_differ 0 [] ≡ constants_differ
differ-body =
    formula-equation choices k g false sort_b (typed_term.Apply 0 [] []) (typed_term.Apply 1 [] [])
    0 []
    ∙ ap (λ (t : Bare).
    fof.Not (fof.Equal t.term (bare choices k g 0 [] (typed_term.Apply 1 [] [])).term))
    (bare-apply choices k g 0 [] 0 [] [])
    ∙ ap (λ (t : Bare). fof.Not (fof.Equal (term.Apply 0 []) t.term))
    (bare-apply choices k g 0 [] 1 [] [])

pub name_of_a : flat_name universal sort_a ≡ codes "a"
name_of_a = flat_name-apply universal 1 []

abbrev last_of_a : FofFormula
last_of_a = axiom_named (codes "inhabitation_a") (some_of_a 6)

last_axioms-universal : sort_axioms choices universal (sorts universal) ≡ last_of_a ∷ []
last_axioms-universal =
    ap (sort_axioms choices universal) universal_sorts
    ∙ ap (λ b. cond (not b) (last_named sort_b ∷ rest) rest) universal_b
    ∙ ap (λ b. cond (not b) (last_named sort_a ∷ []) []) universal_a
    ∙ ap (λ name. axiom_named (codes "inhabitation" ++ (codes "_" ++ name))
    (some_of_a (k.sort sort_a)) ∷ []) name_of_a
    ∙ ap (λ n. axiom_named (codes "inhabitation_a") (some_of_a n) ∷ []) guard_of_a
  where
    last_named : Ty → FofFormula
    last_named ty =
        axiom_named (sort_last_name universal ByGuard ty) (last_axiom choices k g ByGuard 0 ty)

    rest : List FofFormula
    rest = sort_axioms choices universal (sort_a ∷ [])

-- functions whose results are free have no typing axioms
typing_axioms-universal : typing_axioms choices universal 0 g.symbols ≡ []
typing_axioms-universal = rw (universal_b) refl

abbrev all_stated : List FofFormula
all_stated =
    axiom_named (codes "one") (all_of_a_equal 6)
    ∷ axiom_named (codes "two") constants_differ ∷ last_of_a ∷ []

translation-universal : translation choices universal ≡ all_stated
unfolding translation
translation-universal =
    ap (λ body. axiom_named (codes "one") body
    ∷ axiom_named (codes "two") (formula choices k g typed.constants_differ 0 [])
    ∷ (typing_axioms choices universal 0 g.symbols
    ++ sort_axioms choices universal (sorts universal))) universal-body
    ∙ ap (λ body. axiom_named (codes "one") (all_of_a_equal 6) ∷ axiom_named (codes "two") body
    ∷ (typing_axioms choices universal 0 g.symbols
    ++ sort_axioms choices universal (sorts universal))) differ-body
    ∙ ap (λ list. axiom_named (codes "one") (all_of_a_equal 6)
    ∷ axiom_named (codes "two") constants_differ
    ∷ (list ++ sort_axioms choices universal (sorts universal))) typing_axioms-universal
    ∙ ap (λ list. axiom_named (codes "one") (all_of_a_equal 6)
    ∷ axiom_named (codes "two") constants_differ ∷ list) last_axioms-universal

-- ---- what occurs

occurs-of_a : (m guard : ℕ) → occurs m (is_of_a guard) ≡ (eqb m guard || (false || false))
occurs-of_a m guard =
    occurs-atom m guard (term.Var 0 ∷ [])
    ∙ ap (λ b. eqb m guard || (b || false)) (occurs_in_term-variable m 0)

pub occurs-differ : (m : ℕ) →
    occurs m constants_differ ≡ ((eqb m 0 || false) || (eqb m 1 || false))
occurs-differ m =
    occurs-not m (fof.Equal (term.Apply 0 []) (term.Apply 1 []))
    ∙ occurs-equal m (term.Apply 0 []) (term.Apply 1 [])
    ∙ ap (λ b. b || occurs_in_term m (term.Apply 1 [])) (occurs_in_term-apply m 0 [])
    ∙ ap (λ b. (eqb m 0 || false) || b) (occurs_in_term-apply m 1 [])

abbrev inner : ℕ → Fof
inner guard = fof.Implies (is_of_a guard) (fof.Equal (term.Var 1) (term.Var 0))

occurs-inner : (m guard : ℕ) →
    occurs m (inner guard) ≡ ((eqb m guard || (false || false)) || (false || false))
occurs-inner m guard =
    occurs-implies m (is_of_a guard) (fof.Equal (term.Var 1) (term.Var 0))
    ∙ ap (λ b. b || occurs m (fof.Equal (term.Var 1) (term.Var 0))) (occurs-of_a m guard)
    ∙ ap (λ b. (eqb m guard || (false || false)) || b)
    (occurs-equal m (term.Var 1) (term.Var 0)
    ∙ ap (λ b. b || occurs_in_term m (term.Var 0)) (occurs_in_term-variable m 1)
    ∙ ap (λ b. false || b) (occurs_in_term-variable m 0))

occurs-all : (m guard : ℕ) → occurs m (all_of_a_equal guard)
    ≡ ((eqb m guard || (false || false)) || ((eqb m guard || (false || false)) || (false || false)))
occurs-all m guard =
    occurs-for_all m (fof.Implies (is_of_a guard) (fof.ForAll (inner guard)))
    ∙ occurs-implies m (is_of_a guard) (fof.ForAll (inner guard))
    ∙ ap (λ b. b || occurs m (fof.ForAll (inner guard))) (occurs-of_a m guard)
    ∙ ap (λ b. (eqb m guard || (false || false)) || b)
    (occurs-for_all m (inner guard) ∙ occurs-inner m guard)

occurs-some : (m guard : ℕ) → occurs m (some_of_a guard) ≡ (eqb m guard || (false || false))
occurs-some m guard = occurs-exists m (is_of_a guard) ∙ occurs-of_a m guard

abbrev present : ℕ → Bool
present m =
    ((eqb m 6 || (false || false)) || ((eqb m 6 || (false || false)) || (false || false)))
    || (((eqb m 0 || false) || (eqb m 1 || false)) || ((eqb m 6 || (false || false)) || false))

is_present-stated : is_present all_stated ≡ present
is_present-stated =
    fun_ext (λ m.
    ap (λ b. b || (occurs m constants_differ || (occurs m (some_of_a 6) || false)))
    (occurs-all m 6)
    ∙ ap (λ b. first m || (b || (occurs m (some_of_a 6) || false))) (occurs-differ m)
    ∙ ap (λ b. first m || (((eqb m 0 || false) || (eqb m 1 || false)) || (b || false)))
    (occurs-some m 6))
  where
    first : ℕ → Bool
    first m =
        (eqb m 6 || (false || false)) || ((eqb m 6 || (false || false)) || (false || false))

-- ---- renumbering

renumber-of_a : (number : ℕ → ℕ) (guard : ℕ) →
    renumber number (is_of_a guard) ≡ is_of_a (number guard)
renumber-of_a number guard =
    renumber-atom number guard (term.Var 0 ∷ [])
    ∙ ap (λ t. fof.Atom (number guard) (t ∷ [])) (renumber_term-variable number 0)

pub renumber-differ : (number : ℕ → ℕ) → renumber number constants_differ
    ≡ fof.Not (fof.Equal (term.Apply (number 0) []) (term.Apply (number 1) []))
renumber-differ number =
    renumber-not number (fof.Equal (term.Apply 0 []) (term.Apply 1 []))
    ∙ ap fof.Not (renumber-equal number (term.Apply 0 []) (term.Apply 1 [])
    ∙ ap (λ t. fof.Equal t (renumber_term number (term.Apply 1 [])))
    (renumber_term-apply number 0 [])
    ∙ ap (fof.Equal (term.Apply (number 0) [])) (renumber_term-apply number 1 []))

renumber-inner : (number : ℕ → ℕ) (guard : ℕ) →
    renumber number (inner guard) ≡ inner (number guard)
renumber-inner number guard =
    renumber-implies number (is_of_a guard) (fof.Equal (term.Var 1) (term.Var 0))
    ∙ ap (λ p. fof.Implies p (renumber number (fof.Equal (term.Var 1) (term.Var 0))))
    (renumber-of_a number guard)
    ∙ ap (fof.Implies (is_of_a (number guard)))
    (renumber-equal number (term.Var 1) (term.Var 0)
    ∙ ap (λ t. fof.Equal t (renumber_term number (term.Var 0))) (renumber_term-variable number 1)
    ∙ ap (fof.Equal (term.Var 1)) (renumber_term-variable number 0))

renumber-all : (number : ℕ → ℕ) (guard : ℕ) →
    renumber number (all_of_a_equal guard) ≡ all_of_a_equal (number guard)
renumber-all number guard =
    renumber-for_all number (fof.Implies (is_of_a guard) (fof.ForAll (inner guard)))
    ∙ ap fof.ForAll (renumber-implies number (is_of_a guard) (fof.ForAll (inner guard))
    ∙ ap (λ p. fof.Implies p (renumber number (fof.ForAll (inner guard))))
    (renumber-of_a number guard)
    ∙ ap (fof.Implies (is_of_a (number guard)))
    (renumber-for_all number (inner guard) ∙ ap fof.ForAll (renumber-inner number guard)))

renumber-some : (number : ℕ → ℕ) (guard : ℕ) →
    renumber number (some_of_a guard) ≡ some_of_a (number guard)
renumber-some number guard =
    renumber-exists number (is_of_a guard) ∙ ap fof.Exists (renumber-of_a number guard)

-- ---- the encoded problem

abbrev rank : ℕ → ℕ
rank m = count_below m present

formulas-universal : map (renumbered present) all_stated ≡ universal_guarded.problem.formulas
formulas-universal =
    ap (λ body. axiom_named (codes "one") body
    ∷ axiom_named (codes "two") (renumber rank constants_differ)
    ∷ axiom_named (codes "inhabitation_a") (renumber rank (some_of_a 6)) ∷ []) (renumber-all rank 6)
    ∙ ap (λ body. axiom_named (codes "one") (all_of_a_equal 2) ∷ axiom_named (codes "two") body
    ∷ axiom_named (codes "inhabitation_a") (renumber rank (some_of_a 6)) ∷ [])
    (renumber-differ rank)
    ∙ ap (λ body. axiom_named (codes "one") (all_of_a_equal 2)
    ∷ axiom_named (codes "two") constants_differ
    ∷ axiom_named (codes "inhabitation_a") body ∷ []) (renumber-some rank 6)

abbrev guard_mark : List ℕ → MarkedSymbol
guard_mark name = record {
  mark = mark.SortGuard 1;
  symbol = record {
    wanted = codes "is" ++ (codes "_" ++ name);
    arity = 1;
    predicate = true;
  };
}

abbrev kept : List MarkedSymbol
kept =
    marked_symbol choices 0 (typed.constant_of_b (codes "c"))
    ∷ marked_symbol choices 1 (typed.constant_of_b (codes "d")) ∷ guard_mark (codes "a") ∷ []

marks-universal : passing present 0 (all_marks choices universal) ≡ kept
marks-universal =
    ap (λ types. passing present 0 (marked_symbols choices 0 g.symbols
    ++ (marked_constructors universal 0 g.constructors ++ sort_marks universal ByGuard 0 types)))
    universal_sorts
    ∙ ap (λ name. marked_symbol choices 0 (typed.constant_of_b (codes "c"))
    ∷ marked_symbol choices 1 (typed.constant_of_b (codes "d")) ∷ guard_mark name ∷ []) name_of_a

abbrev made : List MarkedSymbol → List FofFormula → Encoded
made marked formulas = record {
  problem = record { signature = map (λ one. one.symbol) marked; formulas = formulas };
  marks = map (λ one. one.mark) marked;
}

pub universal_under_light_guards : encoded choices universal ≡ universal_guarded
unfolding encoded
universal_under_light_guards =
    ap (encoded_from choices universal) translation-universal
    ∙ ap (λ (test : ℕ → Bool). made (passing test 0 (all_marks choices universal))
    (map (renumbered test) all_stated)) is_present-stated
    ∙ ap (λ marked. made marked (map (renumbered present) all_stated)) marks-universal
    ∙ ap (made kept) formulas-universal
