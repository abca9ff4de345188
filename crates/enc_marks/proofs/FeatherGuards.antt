-- Worked row of guards_feather: what it writes of the problem of `FeatherRows`.
use Rattle.std.specs.Prelude.{ℕ, ◌≡◌, ◌||◌, ◌&&◌, Bool, true, false, not, List, [], ◌∷◌, ◌++◌, map, cond, eqb, codes}
use Rattle.std.proofs.Common.{ap, ◌∙◌}
use Rattle.std.proofs.Math.Path.{fun_ext}
use Rattle.tf_core.specs.declared.ty.Ty.{Ty}
use Rattle.tf_core.specs.declared.term.Term.TheVariants as typed_term
use Rattle.tf_core.specs.declared.nnf.Nnf.{Nnf}
use Rattle.tf_core.specs.declared.nnf.Nnf.TheVariants as nnf
use Rattle.tf_core.specs.declared.signature.Signature.{Signature}
use Rattle.tf_core.specs.Types.{instantiate}
use Rattle.tf_core.specs.Sorts.{sorts}
use Rattle.fof_models.specs.declared.formula.FofTerm.TheVariants as term
use Rattle.fof_models.specs.declared.formula.Fof.{Fof}
use Rattle.fof_models.specs.declared.formula.Fof.TheVariants as fof
use Rattle.fof_models.specs.declared.problem.FofFormula.{FofFormula}
use Rattle.tf_naked.specs.Standing.{is_naked}
use Rattle.tf_naked.specs.Naked.{is_free}
use Rattle.tf_naked.specs.Rows.{sort_a, sort_b, equal_variables, all_equal}
use Rattle.tf_naked.specs.declared.position.Kind.{Kind}
use Rattle.tf_naked.specs.declared.position.Kind.TheVariants.{Universal, Existential}
use Rattle.enc_marks.specs.declared.mark.Mark.TheVariants as mark
use Rattle.enc_marks.specs.declared.encoded.Encoded.{Encoded}
use Rattle.enc_marks.specs.declared.choices.Binding.TheVariants.{ByGuard}
use Rattle.enc_marks.specs.Choices.{Choices}
use Rattle.enc_marks.specs.Schemes.{guards_feather}
use Rattle.enc_marks.specs.Names.{typing_name, sort_last_name}
use Rattle.enc_marks.specs.Axioms.{own_variables, under, premises, typing_axiom, last_axiom}
use Rattle.enc_marks.specs.Translation.{Numbers, Bare, bare, bind, placed_all, formula}
use Rattle.enc_marks.specs.Occurrence.{occurs, renumber, count_below, passing}
use Rattle.enc_marks.specs.Encoded.{MarkedSymbol, marked_symbol, marked_symbols, marked_constructors, sort_marks, all_marks, all_numbers, axiom_named, typing_axioms, sort_axioms, translation, is_present, renumbered, encoded_from, encoded}
use Rattle.enc_marks.specs.SortRows.{is_of_a, all_of_a_equal, some_of_a}
use Rattle.enc_marks.specs.FeatherRows.{function_f, predicate_p, of_p, feathered, is_p, some_guarded, f_guarded, feather_guarded}
use Rattle.enc_marks.proofs.FeatherProblem.{feathered_sorts, outer_naked, inner_naked, other_not_naked, feathered_a, feathered_b, number_of_a, name_of_a, covers_f, covers_p}
use Rattle.enc_marks.proofs.Translation.{bare-variable, formula-atom, formula-equation, formula-for_all, formula-exists}
use Rattle.enc_marks.proofs.Occurrence.{occurs-and, occurs-implies, occurs-for_all, occurs-exists, occurs-atom, occurs-equal, occurs_in_term-variable, occurs_in_term-apply, renumber-and, renumber-implies, renumber-for_all, renumber-exists, renumber-atom, renumber-equal, renumber_term-variable, renumber_term-apply}

abbrev choices : Choices
choices = guards_feather (is_free feathered)

abbrev k : Numbers
k = all_numbers feathered

abbrev g : Signature
g = feathered.signature

abbrev two : List Kind
two = Universal ∷ Universal ∷ []

-- ---- what is written

atom-body : (kinds : List Kind) → formula choices k g of_p 1 kinds ≡ is_p
atom-body kinds =
    formula-atom choices k g true 1 [] (typed_term.Var 0 ∷ []) 1 kinds
    ∙ ap (λ (tests : List Bool). fof.Atom 1
    (placed_all choices k g 1 tests (map (instantiate []) predicate_p.arguments)
    (bare choices k g 1 kinds (typed_term.Var 0) ∷ []))) covers_p
    ∙ ap (λ (t : Bare). fof.Atom 1 (t.term ∷ [])) (bare-variable choices k g 1 kinds 0)

guarded : (body : Nnf) (p : Fof) → is_naked g body ≡ true →
    fof.ForAll (cond (is_naked g body && not (is_free feathered sort_a))
    (fof.Implies (is_of_a (k.sort sort_a)) p) p)
    ≡ fof.ForAll (fof.Implies (is_of_a 5) p)
guarded body p naked =
    ap (λ b. fof.ForAll (cond (b && not (is_free feathered sort_a))
    (fof.Implies (is_of_a (k.sort sort_a)) p) p)) naked
    ∙ ap (λ b. fof.ForAll (cond (not b) (fof.Implies (is_of_a (k.sort sort_a)) p) p)) feathered_a
    ∙ ap (λ n. fof.ForAll (fof.Implies (is_of_a n) p)) number_of_a

equation-body : formula choices k g equal_variables 2 two ≡ fof.Equal (term.Var 1) (term.Var 0)
equation-body =
    formula-equation choices k g true sort_a (typed_term.Var 1) (typed_term.Var 0) 2 two
    ∙ ap (λ (t : Bare). fof.Equal t.term (bare choices k g 2 two (typed_term.Var 0)).term)
    (bare-variable choices k g 2 two 1)
    ∙ ap (λ (t : Bare). fof.Equal (term.Var 1) t.term) (bare-variable choices k g 2 two 0)

one-body : formula choices k g all_equal 0 [] ≡ all_of_a_equal 5
one-body =
    formula-for_all choices k g sort_a (nnf.ForAll sort_a equal_variables) 0 []
    ∙ guarded (nnf.ForAll sort_a equal_variables)
    (formula choices k g (nnf.ForAll sort_a equal_variables) 1 (Universal ∷ [])) outer_naked
    ∙ ap (λ p. fof.ForAll (fof.Implies (is_of_a 5) p))
    (formula-for_all choices k g sort_a equal_variables 1 (Universal ∷ [])
    ∙ guarded equal_variables (formula choices k g equal_variables 2 two) inner_naked
    ∙ ap (λ p. fof.ForAll (fof.Implies (is_of_a 5) p)) equation-body)

-- a variable that isn't naked has no guard
two-body : formula choices k g (nnf.ForAll sort_a of_p) 0 [] ≡ fof.ForAll is_p
two-body =
    formula-for_all choices k g sort_a of_p 0 []
    ∙ ap (λ b. fof.ForAll (cond (b && not (is_free feathered sort_a))
    (fof.Implies (is_of_a (k.sort sort_a)) translated) translated)) other_not_naked
    ∙ ap fof.ForAll (atom-body (Universal ∷ []))
  where
    translated : Fof
    translated = formula choices k g of_p 1 (Universal ∷ [])

-- an existential variable is bound
three-body : formula choices k g (nnf.Exists sort_a of_p) 0 [] ≡ some_guarded 5
three-body =
    formula-exists choices k g sort_a of_p 0 []
    ∙ ap (λ b. fof.Exists (cond (not b) (fof.And (bound (k.sort sort_a) ∷ translated ∷ []))
    translated)) feathered_a
    ∙ ap (λ n. fof.Exists (fof.And (bound n ∷ translated ∷ []))) number_of_a
    ∙ ap (λ p. fof.Exists (fof.And (bound 5 ∷ p ∷ []))) (atom-body (Existential ∷ []))
  where
    bound : ℕ → Fof
    bound n = is_of_a n

    translated : Fof
    translated = formula choices k g of_p 1 (Existential ∷ [])

typing-f : typing_axiom choices k g 0 function_f sort_a ≡ f_guarded 5
typing-f =
    ap (λ (tests : List Bool). fof.ForAll (fof.ForAll
    (under (premises choices k g 2 tests function_f.arguments 2)
    (bind choices k g 2 sort_a
    (term.Apply 0 (placed_all choices k g 2 tests function_f.arguments (own_variables 2)))))))
    covers_f
    ∙ ap f_guarded number_of_a

typing_axioms-feathered : typing_axioms choices feathered 0 g.symbols
    ≡ axiom_named (codes "typing_f") (f_guarded 5) ∷ []
typing_axioms-feathered =
    ap (λ b. cond (not b)
    (axiom_named (typing_name (codes "f")) (typing_axiom choices k g 0 function_f sort_a) ∷ []) []
    ++ []) feathered_a
    ∙ ap (λ body. axiom_named (codes "typing_f") body ∷ []) typing-f

last_axioms-feathered : sort_axioms choices feathered (sorts feathered)
    ≡ axiom_named (codes "inhabitation_a") (some_of_a 5) ∷ []
last_axioms-feathered =
    ap (sort_axioms choices feathered) feathered_sorts
    ∙ ap (λ b. cond (not b) (last_named sort_a ∷ rest) rest) feathered_a
    ∙ ap (λ b. last_named sort_a ∷ cond (not b) (last_named sort_b ∷ []) []) feathered_b
    ∙ ap (λ name. axiom_named (codes "inhabitation" ++ (codes "_" ++ name))
    (some_of_a (k.sort sort_a)) ∷ []) name_of_a
    ∙ ap (λ n. axiom_named (codes "inhabitation_a") (some_of_a n) ∷ []) number_of_a
  where
    last_named : Ty → FofFormula
    last_named ty =
        axiom_named (sort_last_name feathered ByGuard ty)
        (last_axiom choices k g ByGuard 0 ty)

    rest : List FofFormula
    rest = sort_axioms choices feathered (sort_b ∷ [])

abbrev all_stated : List FofFormula
all_stated =
    axiom_named (codes "one") (all_of_a_equal 5) ∷ axiom_named (codes "two") (fof.ForAll is_p)
    ∷ axiom_named (codes "three") (some_guarded 5) ∷ axiom_named (codes "typing_f") (f_guarded 5)
    ∷ axiom_named (codes "inhabitation_a") (some_of_a 5) ∷ []

translation-feathered : translation choices feathered ≡ all_stated
unfolding translation
translation-feathered =
    ap (λ body. axiom_named (codes "one") body ∷ axiom_named (codes "two") second
    ∷ axiom_named (codes "three") third ∷ axioms) one-body
    ∙ ap (λ body. axiom_named (codes "one") (all_of_a_equal 5) ∷ axiom_named (codes "two") body
    ∷ axiom_named (codes "three") third ∷ axioms) two-body
    ∙ ap (λ body. axiom_named (codes "one") (all_of_a_equal 5)
    ∷ axiom_named (codes "two") (fof.ForAll is_p) ∷ axiom_named (codes "three") body ∷ axioms)
    three-body
    ∙ ap (λ (list : List FofFormula). first_three
    ++ (list ++ sort_axioms choices feathered (sorts feathered))) typing_axioms-feathered
    ∙ ap (λ (list : List FofFormula). first_three
    ++ (axiom_named (codes "typing_f") (f_guarded 5) ∷ list)) last_axioms-feathered
  where
    second : Fof
    second = formula choices k g (nnf.ForAll sort_a of_p) 0 []

    third : Fof
    third = formula choices k g (nnf.Exists sort_a of_p) 0 []

    axioms : List FofFormula
    axioms =
        typing_axioms choices feathered 0 g.symbols
        ++ sort_axioms choices feathered (sorts feathered)

    first_three : List FofFormula
    first_three =
        axiom_named (codes "one") (all_of_a_equal 5) ∷ axiom_named (codes "two") (fof.ForAll is_p)
        ∷ axiom_named (codes "three") (some_guarded 5) ∷ []

-- ---- what occurs

abbrev here : ℕ → ℕ → Bool
here m n = eqb m n || (false || false)

abbrev in_one : ℕ → Bool
in_one m = here m 5 || (here m 5 || (false || false))

occurs-one : (m : ℕ) → occurs m (all_of_a_equal 5) ≡ in_one m
occurs-one m =
    simp (occurs-implies, occurs-for_all, occurs-atom, occurs-equal, occurs_in_term-variable)

occurs-two : (m : ℕ) → occurs m (fof.ForAll is_p) ≡ here m 1
occurs-two m = simp (occurs-for_all, occurs-atom, occurs_in_term-variable)

abbrev in_three : ℕ → Bool
in_three m = here m 5 || (here m 1 || false)

occurs-three : (m : ℕ) → occurs m (some_guarded 5) ≡ in_three m
occurs-three m =
    simp (occurs-and, occurs-exists, occurs-atom, occurs_in_term-variable)

abbrev in_typing : ℕ → Bool
in_typing m = eqb m 5 || ((eqb m 0 || (false || (false || false))) || false)

occurs-typing : (m : ℕ) → occurs m (f_guarded 5) ≡ in_typing m
occurs-typing m =
    simp (occurs-for_all, occurs-atom, occurs_in_term-variable, occurs_in_term-apply)

abbrev in_last : ℕ → Bool
in_last m = here m 5

occurs-last : (m : ℕ) → occurs m (some_of_a 5) ≡ in_last m
occurs-last m =
    simp (occurs-exists, occurs-atom, occurs_in_term-variable)

abbrev present : ℕ → Bool
present m = in_one m || (here m 1 || (in_three m || (in_typing m || (in_last m || false))))

is_present-stated : is_present all_stated ≡ present
is_present-stated =
    fun_ext (λ m.
    simp (occurs-one m, occurs-two m, occurs-three m, occurs-typing m, occurs-last m))

-- ---- the encoded problem

abbrev rank : ℕ → ℕ
rank m = count_below m present

formulas-feathered : map (renumbered present) all_stated ≡ feather_guarded.problem.formulas
formulas-feathered =
    simp (
      renumber-and,
      renumber-implies,
      renumber-for_all,
      renumber-exists,
      renumber-atom,
      renumber-equal,
      renumber_term-variable,
      renumber_term-apply,
    )

abbrev sort_mark : List ℕ → MarkedSymbol
sort_mark name = record {
  mark = mark.SortGuard 0;
  symbol = record {
    wanted = codes "is" ++ (codes "_" ++ name);
    arity = 1;
    predicate = true;
  };
}

abbrev kept : List MarkedSymbol
kept =
    marked_symbol choices 0 function_f ∷ marked_symbol choices 1 predicate_p
    ∷ sort_mark (codes "a") ∷ []

marks-feathered : passing present 0 (all_marks choices feathered) ≡ kept
marks-feathered =
    ap (λ types. passing present 0 (marked_symbols choices 0 g.symbols
    ++ (marked_constructors feathered 0 g.constructors
    ++ sort_marks feathered ByGuard 0 types))) feathered_sorts
    ∙ ap (λ name. marked_symbol choices 0 function_f ∷ marked_symbol choices 1 predicate_p
    ∷ sort_mark name ∷ []) name_of_a

abbrev made : List MarkedSymbol → List FofFormula → Encoded
made marked formulas = record {
  problem = record { signature = map (λ one. one.symbol) marked; formulas = formulas };
  marks = map (λ one. one.mark) marked;
}

pub feathered_under_guards_feather : encoded choices feathered ≡ feather_guarded
unfolding encoded
feathered_under_guards_feather =
    ap (encoded_from choices feathered) translation-feathered
    ∙ ap (λ (test : ℕ → Bool). made (passing test 0 (all_marks choices feathered))
    (map (renumbered test) all_stated)) is_present-stated
    ∙ ap (λ marked. made marked (map (renumbered present) all_stated)) marks-feathered
    ∙ ap (made kept) formulas-feathered
