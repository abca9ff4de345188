-- Worked row of tags of sorts: what they write of the problem of `SortRows`.
use Rattle.std.specs.Prelude.{ℕ, ◌≡◌, ◌||◌, Bool, true, false, not, List, [], ◌∷◌, ◌++◌, map, cond, eqb, codes}
use Rattle.std.proofs.Common.{ap, ◌∙◌}
use Rattle.std.proofs.Math.Path.{fun_ext}
use Rattle.tf_core.specs.declared.term.Term.TheVariants as typed_term
use Rattle.tf_core.specs.declared.nnf.Nnf.TheVariants as nnf
use Rattle.tf_core.specs.declared.signature.Signature.{Signature}
use Rattle.tf_core.specs.Sorts.{sorts}
use Rattle.fof_models.specs.declared.formula.FofTerm.TheVariants as term
use Rattle.fof_models.specs.declared.formula.Fof.TheVariants as fof
use Rattle.fof_models.specs.declared.problem.FofFormula.{FofFormula}
use Rattle.tf_naked.specs.Naked.{is_free}
use Rattle.tf_naked.specs.Rows.{sort_a, sort_b, equal_variables, all_equal, universal}
use Rattle.tf_naked.specs.Rows as typed
use Rattle.tf_naked.specs.declared.position.Kind.{Kind}
use Rattle.tf_naked.specs.declared.position.Kind.TheVariants.{Universal}
use Rattle.tf_naked.proofs.Rows.{universal_sorts, universal_a, universal_b}
use Rattle.enc_marks.specs.declared.mark.Mark.TheVariants as mark
use Rattle.enc_marks.specs.declared.encoded.Encoded.{Encoded}
use Rattle.enc_marks.specs.declared.choices.Binding.TheVariants.{ByTag}
use Rattle.enc_marks.specs.Choices.{Choices}
use Rattle.enc_marks.specs.Schemes.{tags_light}
use Rattle.enc_marks.specs.Translation.{Numbers, Bare, bare, side, tag, formula}
use Rattle.enc_marks.specs.Occurrence.{occurs, occurs_in_term, renumber, renumber_term, count_below, passing}
use Rattle.enc_marks.specs.Encoded.{MarkedSymbol, marked_symbol, marked_symbols, marked_constructors, sort_marks, all_marks, all_numbers, axiom_named, typing_axioms, sort_axioms, translation, is_present, renumbered, encoded_from, encoded}
use Rattle.enc_marks.specs.SortRows.{constants_differ, as_of_a, all_tagged_equal, universal_tagged}
use Rattle.enc_marks.proofs.SortRows.{guard_of_a, name_of_a, occurs-differ, renumber-differ}
use Rattle.enc_marks.proofs.Translation.{bare-variable, bare-apply, formula-equation, formula-for_all}
use Rattle.enc_marks.proofs.Occurrence.{occurs-for_all, occurs-equal, occurs_in_term-variable, occurs_in_term-apply, renumber-for_all, renumber-equal, renumber_term-variable, renumber_term-apply}

abbrev choices : Choices
choices = tags_light (is_free universal)

abbrev k : Numbers
k = all_numbers universal

abbrev g : Signature
g = universal.signature

abbrev two : List Kind
two = Universal ∷ Universal ∷ []

-- ---- what is written

tagged-variable : (i : ℕ) → side choices k g 2 two true sort_a (typed_term.Var i) ≡ as_of_a 6 i
tagged-variable i =
    ap (λ (t : Bare). cond (not (is_free universal sort_a)) (tag choices k g 2 sort_a t.term) t.term)
    (bare-variable choices k g 2 two i)
    ∙ ap (λ b. cond (not b) (as_of_a (k.sort sort_a) i) (term.Var i)) universal_a
    ∙ ap (λ n. as_of_a n i) guard_of_a

equation-body : formula choices k g equal_variables 2 two
    ≡ fof.Equal (as_of_a 6 1) (as_of_a 6 0)
equation-body =
    formula-equation choices k g true sort_a (typed_term.Var 1) (typed_term.Var 0) 2 two
    ∙ ap (λ t. fof.Equal t (side choices k g 2 two true sort_a (typed_term.Var 0)))
    (tagged-variable 1)
    ∙ ap (fof.Equal (as_of_a 6 1)) (tagged-variable 0)

universal-body : formula choices k g all_equal 0 [] ≡ all_tagged_equal 6
universal-body =
    formula-for_all choices k g sort_a (nnf.ForAll sort_a equal_variables) 0 []
    ∙ ap fof.ForAll (formula-for_all choices k g sort_a equal_variables 1 (Universal ∷ [])
    ∙ ap fof.ForAll equation-body)

-- a term of b has no tag
untagged : (t : Bare) →
    cond (not (is_free universal sort_b)) (tag choices k g 0 sort_b t.term) t.term ≡ t.term
untagged t = ap (λ b. cond (not b) (tag choices k g 0 sort_b t.term) t.term) universal_b

differ-body : formula choices k g typed.constants_differ 0 [] ≡ constants_differ
differ-body =
    formula-equation choices k g false sort_b (typed_term.Apply 0 [] []) (typed_term.Apply 1 [] [])
    0 []
    ∙ ap (λ t. fof.Not
    (fof.Equal t (side choices k g 0 [] false sort_b (typed_term.Apply 1 [] []))))
    (untagged (bare choices k g 0 [] (typed_term.Apply 0 [] []))
    ∙ ap (λ (t : Bare). t.term) (bare-apply choices k g 0 [] 0 [] []))
    ∙ ap (λ t. fof.Not (fof.Equal (term.Apply 0 []) t))
    (untagged (bare choices k g 0 [] (typed_term.Apply 1 [] []))
    ∙ ap (λ (t : Bare). t.term) (bare-apply choices k g 0 [] 1 [] []))

last_axioms-none : sort_axioms choices universal (sorts universal) ≡ []
last_axioms-none = ap (sort_axioms choices universal) universal_sorts

abbrev all_stated : List FofFormula
all_stated =
    axiom_named (codes "one") (all_tagged_equal 6) ∷ axiom_named (codes "two") constants_differ ∷ []

translation-universal : translation choices universal ≡ all_stated
unfolding translation
translation-universal =
    ap (λ body. axiom_named (codes "one") body
    ∷ axiom_named (codes "two") (formula choices k g typed.constants_differ 0 [])
    ∷ (typing_axioms choices universal 0 g.symbols
    ++ sort_axioms choices universal (sorts universal))) universal-body
    ∙ ap (λ body. axiom_named (codes "one") (all_tagged_equal 6) ∷ axiom_named (codes "two") body
    ∷ (typing_axioms choices universal 0 g.symbols
    ++ sort_axioms choices universal (sorts universal))) differ-body
    ∙ ap (λ (list : List FofFormula). axiom_named (codes "one") (all_tagged_equal 6)
    ∷ axiom_named (codes "two") constants_differ ∷ list) last_axioms-none

-- ---- what occurs

occurs-as : (m tag i : ℕ) →
    occurs_in_term m (as_of_a tag i) ≡ (eqb m tag || (false || false))
occurs-as m tag i =
    occurs_in_term-apply m tag (term.Var i ∷ [])
    ∙ ap (λ b. eqb m tag || (b || false)) (occurs_in_term-variable m i)

occurs-all : (m tag : ℕ) → occurs m (all_tagged_equal tag)
    ≡ ((eqb m tag || (false || false)) || (eqb m tag || (false || false)))
occurs-all m tag =
    occurs-for_all m (fof.ForAll (fof.Equal (as_of_a tag 1) (as_of_a tag 0)))
    ∙ occurs-for_all m (fof.Equal (as_of_a tag 1) (as_of_a tag 0))
    ∙ occurs-equal m (as_of_a tag 1) (as_of_a tag 0)
    ∙ ap (λ b. b || occurs_in_term m (as_of_a tag 0)) (occurs-as m tag 1)
    ∙ ap (λ b. (eqb m tag || (false || false)) || b) (occurs-as m tag 0)

abbrev present : ℕ → Bool
present m =
    ((eqb m 6 || (false || false)) || (eqb m 6 || (false || false)))
    || (((eqb m 0 || false) || (eqb m 1 || false)) || false)

is_present-stated : is_present all_stated ≡ present
is_present-stated =
    fun_ext (λ m.
    ap (λ b. b || (occurs m constants_differ || false)) (occurs-all m 6)
    ∙ ap (λ b. ((eqb m 6 || (false || false)) || (eqb m 6 || (false || false))) || (b || false))
    (occurs-differ m))

-- ---- renumbering

renumber-as : (number : ℕ → ℕ) (tag i : ℕ) →
    renumber_term number (as_of_a tag i) ≡ as_of_a (number tag) i
renumber-as number tag i =
    renumber_term-apply number tag (term.Var i ∷ [])
    ∙ ap (λ t. term.Apply (number tag) (t ∷ [])) (renumber_term-variable number i)

renumber-all : (number : ℕ → ℕ) (tag : ℕ) →
    renumber number (all_tagged_equal tag) ≡ all_tagged_equal (number tag)
renumber-all number tag =
    renumber-for_all number (fof.ForAll (fof.Equal (as_of_a tag 1) (as_of_a tag 0)))
    ∙ ap fof.ForAll (renumber-for_all number (fof.Equal (as_of_a tag 1) (as_of_a tag 0))
    ∙ ap fof.ForAll (renumber-equal number (as_of_a tag 1) (as_of_a tag 0)
    ∙ ap (λ t. fof.Equal t (renumber_term number (as_of_a tag 0))) (renumber-as number tag 1)
    ∙ ap (fof.Equal (as_of_a (number tag) 1)) (renumber-as number tag 0)))

-- ---- the encoded problem

abbrev rank : ℕ → ℕ
rank m = count_below m present

formulas-universal : map (renumbered present) all_stated ≡ universal_tagged.problem.formulas
formulas-universal =
    ap (λ body. axiom_named (codes "one") body
    ∷ axiom_named (codes "two") (renumber rank constants_differ) ∷ []) (renumber-all rank 6)
    ∙ ap (λ body. axiom_named (codes "one") (all_tagged_equal 2) ∷ axiom_named (codes "two") body
    ∷ []) (renumber-differ rank)

abbrev tag_mark : List ℕ → MarkedSymbol
tag_mark name = record {
  mark = mark.SortTag 1;
  symbol = record {
    wanted = codes "as" ++ (codes "_" ++ name);
    arity = 1;
    predicate = false;
  };
}

abbrev kept : List MarkedSymbol
kept =
    marked_symbol choices 0 (typed.constant_of_b (codes "c"))
    ∷ marked_symbol choices 1 (typed.constant_of_b (codes "d")) ∷ tag_mark (codes "a") ∷ []

marks-universal : passing present 0 (all_marks choices universal) ≡ kept
marks-universal =
    ap (λ types. passing present 0 (marked_symbols choices 0 g.symbols
    ++ (marked_constructors universal 0 g.constructors ++ sort_marks universal ByTag 0 types)))
    universal_sorts
    ∙ ap (λ name. marked_symbol choices 0 (typed.constant_of_b (codes "c"))
    ∷ marked_symbol choices 1 (typed.constant_of_b (codes "d")) ∷ tag_mark name ∷ []) name_of_a

abbrev made : List MarkedSymbol → List FofFormula → Encoded
made marked formulas = record {
  problem = record { signature = map (λ one. one.symbol) marked; formulas = formulas };
  marks = map (λ one. one.mark) marked;
}

pub universal_under_light_tags : encoded choices universal ≡ universal_tagged
unfolding encoded
universal_under_light_tags =
    ap (encoded_from choices universal) translation-universal
    ∙ ap (λ (test : ℕ → Bool). made (passing test 0 (all_marks choices universal))
    (map (renumbered test) all_stated)) is_present-stated
    ∙ ap (λ marked. made marked (map (renumbered present) all_stated)) marks-universal
    ∙ ap (made kept) formulas-universal
