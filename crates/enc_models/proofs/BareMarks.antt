-- In translations by choices that have no guard and no tag, symbols and constructors alone occur.
use Rattle.std.specs.Prelude.{ℕ, zero, suc, ◌+◌, ◌<◌, ◌≤◌, ◌≡◌, Bool, true, false, ◌||◌, List, [], ◌∷◌, ◌++◌, map, length, cond, eqb, slice_get, Option, Some, None, IsTrue}
use Rattle.std.specs.List.{AllByRecursion, list_any}
use Rattle.std.proofs.Common.{refl, sym, ap, subst, ◌∙◌, arith, ⊎_elim}
use Rattle.std.proofs.lemmas.Bool.{ne_eqb, cases_lt, false≢true}
use Rattle.std.proofs.lemmas.List.Folds.{list_any-append}
use Rattle.std.proofs.lemmas.Option.{slice_get_within}
use Rattle.tf_core.specs.declared.ty.Ty.{Ty}
use Rattle.tf_core.specs.declared.ty.Ty.TheVariants as type
use Rattle.tf_core.specs.declared.term.Term.{Term}
use Rattle.tf_core.specs.declared.nnf.Nnf.{Nnf}
use Rattle.tf_core.specs.declared.signature.Symbol.{Symbol}
use Rattle.tf_core.specs.declared.normal.NormalFormula.{NormalFormula}
use Rattle.tf_core.specs.declared.normal.Normal.{Normal}
use Rattle.tf_core.specs.Sorts.{sorts}
use Rattle.tf_core.specs.Types.{instantiate}
use Rattle.tf_core.specs.Typing.{IsType, AreTypes, type_variable, type_apply, no_types, more_types, HasType, HaveTypes, of_variable, of_apply, no_terms, more_terms, IsNnf, AreNnf, nnf_true, nnf_false, nnf_atom, nnf_equation, nnf_and, nnf_or, nnf_for_all, nnf_exists, no_parts, more_parts, IsNormal}
use Rattle.fof_models.specs.declared.formula.FofTerm.{FofTerm}
use Rattle.fof_models.specs.declared.formula.FofTerm.TheVariants as fof_term
use Rattle.fof_models.specs.declared.formula.Fof.{Fof}
use Rattle.fof_models.specs.declared.formula.Fof.TheVariants as fof
use Rattle.fof_models.specs.declared.problem.FofFormula.{FofFormula}
use Rattle.tf_naked.specs.Covers.{covers}
use Rattle.tf_naked.specs.declared.position.Position.{Position}
use Rattle.tf_naked.specs.declared.position.Position.TheVariants.{Argument, Side}
use Rattle.tf_naked.specs.declared.position.Kind.{Kind}
use Rattle.tf_naked.specs.declared.position.Kind.TheVariants.{Universal, Existential}
use Rattle.tf_naked.specs.Standing.{is_undercover, is_naked}
use Rattle.enc_marks.specs.declared.choices.Marking.{Marking}
use Rattle.enc_marks.specs.declared.choices.Marking.TheVariants.{ByType, BySort}
use Rattle.enc_marks.specs.Choices.{Choices}
use Rattle.enc_marks.specs.Translation.{Numbers, Bare, type_term, tag, bind, selected, literal, placed, placed_all, arguments, arguments_of, bare, side, for_all, exists, formula}
use Rattle.enc_marks.specs.Axioms.{closed, closed_formula, last_axiom}
use Rattle.enc_marks.specs.Occurrence.{occurs_in_term, occurs}
use Rattle.enc_marks.specs.Encoded.{all_numbers, stated, typing_axioms, typing_of, last_axioms, sort_axioms, type_axioms, translation, is_present}
use Rattle.enc_marks.proofs.Translation.{type_term-variable, type_term-apply, bare-variable, bare-apply, formula-true, formula-false, formula-atom, formula-equation, formula-and, formula-or, formula-for_all, formula-exists}
use Rattle.enc_marks.proofs.Occurrence.{occurs_in_term-variable, occurs_in_term-apply, occurs-true, occurs-false, occurs-atom, occurs-equal, occurs-not, occurs-and, occurs-or, occurs-for_all, occurs-exists}
use Rattle.enc_laws.proofs.Selected.{AreTypes-selected}
use Rattle.enc_models.specs.Bare.{IsBare}
use Rattle.enc_models.specs.Calls.Collapsing.{IsUnmarked}

-- the second of two, where a test is false
second_of : (test : Bool) (first second : List FofFormula) → test ≡ false →
    cond test first second ≡ second
second_of test first second is = ap (λ (t : Bool). cond t first second) is

neither : (a b : Bool) → a ≡ false → b ≡ false → (a || b) ≡ false
neither a b first second = ap (λ x. x || b) first ∙ second

module _ (c : Choices) (normal : Normal) (is_bare : IsBare c) (m : ℕ)
    (past : length normal.signature.symbols + length normal.signature.constructors ≤ m)
  where
    abbrev k : Numbers
    k = all_numbers normal

    other : (number : ℕ) → number < m → eqb m number ≡ false
    other number less = ne_eqb m number (λ same. omega (arith, same, less))

    mutual
      type_absent : (variables : ℕ) (ty : Ty) (formed : IsType normal.signature variables ty)
          (depth : ℕ) → occurs_in_term m (type_term k.constructor depth ty) ≡ false
      type_absent variables ty (type_variable i within) depth =
          ap (occurs_in_term m) (type_term-variable k.constructor depth i)
          ∙ occurs_in_term-variable m _
      type_absent variables ty (type_apply i constructor types at all formed) depth =
          ap (occurs_in_term m) (type_term-apply k.constructor depth i types)
          ∙ occurs_in_term-apply m (k.constructor i) (map (type_term k.constructor depth) types)
          ∙ neither (eqb m (k.constructor i)) _
          (other (k.constructor i) (omega (
            arith,
            past,
            slice_get_within normal.signature.constructors i constructor at,
          )))
          (types_absent variables types formed depth)

      types_absent : (variables : ℕ) (types : List Ty)
          (formed : AreTypes normal.signature variables types) (depth : ℕ) →
          list_any (occurs_in_term m) (map (type_term k.constructor depth) types) ≡ false
      types_absent variables types no_types depth = refl
      types_absent variables types (more_types ty others formed rest) depth =
          neither (occurs_in_term m (type_term k.constructor depth ty)) _
          (type_absent variables ty formed depth) (types_absent variables others rest depth)

    -- a term in its position has no tag
    placed_absent : (depth : ℕ) (position : Position) (ty : Ty) (t : Bare) →
        occurs_in_term m t.term ≡ false →
        occurs_in_term m (placed c k normal.signature depth position ty t) ≡ false
    placed_absent depth position ty t absent =
        ap (λ tagged. occurs_in_term m (cond tagged (tag c k normal.signature depth ty t.term) t.term))
        (is_bare.tagged position t.kind ty)
        ∙ absent

    abbrev AreAbsent : List Bare → Type 0
    AreAbsent terms = AllByRecursion (λ (t : Bare). occurs_in_term m t.term ≡ false) terms

    all_placed : (depth : ℕ) (tests : List Bool) (types : List Ty) (terms : List Bare) →
        AreAbsent terms →
        list_any (occurs_in_term m) (placed_all c k normal.signature depth tests types terms) ≡ false
    all_placed depth [] types terms absent = refl
    all_placed depth (cover ∷ tests) [] terms absent = refl
    all_placed depth (cover ∷ tests) (ty ∷ types) [] absent = refl
    all_placed depth (cover ∷ tests) (ty ∷ types) (t ∷ terms) absent =
        neither (occurs_in_term m (placed c k normal.signature depth (Argument cover) ty t)) _
        (placed_absent depth (Argument cover) ty t absent.0)
        (all_placed depth tests types terms absent.1)

    arguments_absent : (variables depth f : ℕ) (symbol : Symbol) (types : List Ty)
        (terms : List Bare) → slice_get normal.signature.symbols f ≡ Some symbol →
        AreTypes normal.signature variables types → AreAbsent terms →
        list_any (occurs_in_term m) (arguments_of c k normal.signature depth f types terms) ≡ false
    arguments_absent variables depth f symbol types terms at formed absent =
        ap (λ (found : Option Symbol). list_any (occurs_in_term m)
        (arguments c k normal.signature depth found types terms)) at
        ∙ list_any-append (occurs_in_term m)
        (map (type_term k.constructor depth) (selected (c.keeps symbol) types))
        (placed_all c k normal.signature depth (covers symbol)
        (map (instantiate types) symbol.arguments) terms)
        ∙ neither (list_any (occurs_in_term m)
        (map (type_term k.constructor depth) (selected (c.keeps symbol) types))) _
        (types_absent variables (selected (c.keeps symbol) types)
        (AreTypes-selected normal.signature variables (c.keeps symbol) types formed) depth)
        (all_placed depth (covers symbol) (map (instantiate types) symbol.arguments) terms absent)

    symbol_below : (f : ℕ) (symbol : Symbol) → slice_get normal.signature.symbols f ≡ Some symbol →
        f < m
    symbol_below f symbol at =
        omega (arith, past, slice_get_within normal.signature.symbols f symbol at)

    mutual
      term_absent : (variables : ℕ) (context : List Ty) (t : Term) (ty : Ty)
          (typed : HasType normal.signature variables context t ty) (depth : ℕ)
          (kinds : List Kind) →
          occurs_in_term m (bare c k normal.signature depth kinds t).term ≡ false
      term_absent variables context t ty (of_variable i _ at) depth kinds =
          ap (λ (b : Bare). occurs_in_term m b.term) (bare-variable c k normal.signature depth kinds i)
          ∙ occurs_in_term-variable m i
      term_absent variables context t ty (of_apply f symbol result types terms one typed) depth
          kinds =
          ap (λ (b : Bare). occurs_in_term m b.term)
          (bare-apply c k normal.signature depth kinds f types terms)
          ∙ occurs_in_term-apply m f
          (arguments_of c k normal.signature depth f types
          (map (bare c k normal.signature depth kinds) terms))
          ∙ neither (eqb m f) _ (other f (symbol_below f symbol one.at))
          (arguments_absent variables depth f symbol types
          (map (bare c k normal.signature depth kinds) terms) one.at one.formed
          (terms_absent variables context terms (map (instantiate types) symbol.arguments) typed
          depth kinds))

      terms_absent : (variables : ℕ) (context : List Ty) (terms : List Term) (types : List Ty)
          (typed : HaveTypes normal.signature variables context terms types) (depth : ℕ)
          (kinds : List Kind) → AreAbsent (map (bare c k normal.signature depth kinds) terms)
      terms_absent variables context terms types no_terms depth kinds = tt
      terms_absent variables context terms types (more_terms t ty others rest typed behind) depth
          kinds = (
            term_absent variables context t ty typed depth kinds,
            terms_absent variables context others rest behind depth kinds,
          )

    literal_absent : (positive : Bool) (q : Fof) → occurs m q ≡ false →
        occurs m (literal positive q) ≡ false
    literal_absent true q absent = absent
    literal_absent false q absent = occurs-not m q ∙ absent

    mutual
      formula_absent : (variables : ℕ) (context : List Ty) (p : Nnf)
          (formed : IsNnf normal.signature variables context p) (depth : ℕ) (kinds : List Kind) →
          occurs m (formula c k normal.signature p depth kinds) ≡ false
      formula_absent variables context p (nnf_true _) depth kinds =
          ap (occurs m) (formula-true c k normal.signature depth kinds) ∙ occurs-true m
      formula_absent variables context p (nnf_false _) depth kinds =
          ap (occurs m) (formula-false c k normal.signature depth kinds) ∙ occurs-false m
      formula_absent variables context p (nnf_atom _ positive f symbol types terms atom) depth kinds =
          ap (occurs m) (formula-atom c k normal.signature positive f types terms depth kinds)
          ∙ literal_absent positive _
          (occurs-atom m f
          (arguments_of c k normal.signature depth f types
          (map (bare c k normal.signature depth kinds) terms))
          ∙ neither (eqb m f) _ (other f (symbol_below f symbol atom.predicate.at))
          (arguments_absent variables depth f symbol types
          (map (bare c k normal.signature depth kinds) terms) atom.predicate.at
          atom.predicate.formed
          (terms_absent variables context terms (map (instantiate types) symbol.arguments)
          atom.arguments depth kinds)))
      formula_absent variables context p (nnf_equation _ positive ty left right equation) depth
          kinds =
          ap (occurs m) (formula-equation c k normal.signature positive ty left right depth kinds)
          ∙ literal_absent positive _
          (occurs-equal m (side c k normal.signature depth kinds positive ty left)
          (side c k normal.signature depth kinds positive ty right)
          ∙ neither (occurs_in_term m (side c k normal.signature depth kinds positive ty left)) _
          (placed_absent depth (Side positive) ty (bare c k normal.signature depth kinds left)
          (term_absent variables context left ty equation.left_side depth kinds))
          (placed_absent depth (Side positive) ty (bare c k normal.signature depth kinds right)
          (term_absent variables context right ty equation.right_side depth kinds)))
      formula_absent variables context p (nnf_and _ parts formed) depth kinds =
          ap (occurs m) (formula-and c k normal.signature parts depth kinds)
          ∙ occurs-and m (map (λ part. formula c k normal.signature part depth kinds) parts)
          ∙ parts_absent variables context parts formed depth kinds
      formula_absent variables context p (nnf_or _ parts formed) depth kinds =
          ap (occurs m) (formula-or c k normal.signature parts depth kinds)
          ∙ occurs-or m (map (λ part. formula c k normal.signature part depth kinds) parts)
          ∙ parts_absent variables context parts formed depth kinds
      formula_absent variables context p (nnf_for_all _ ty body formed rest) depth kinds =
          let q : Fof = formula c k normal.signature body (depth + 1) (Universal ∷ kinds) in
          ap (occurs m) (formula-for_all c k normal.signature ty body depth kinds)
          ∙ occurs-for_all m _
          ∙ ap (λ binds. occurs m (cond binds
          (fof.Implies (bind c k normal.signature (depth + 1) ty (fof_term.Var 0)) q) q))
          (is_bare.universal (is_undercover normal.signature body) (is_naked normal.signature body) ty)
          ∙ formula_absent variables (ty ∷ context) body rest (depth + 1) (Universal ∷ kinds)
      formula_absent variables context p (nnf_exists _ ty body formed rest) depth kinds =
          let q : Fof = formula c k normal.signature body (depth + 1) (Existential ∷ kinds) in
          ap (occurs m) (formula-exists c k normal.signature ty body depth kinds)
          ∙ occurs-exists m _
          ∙ ap (λ binds. occurs m (cond binds
          (fof.And (bind c k normal.signature (depth + 1) ty (fof_term.Var 0) ∷ q ∷ [])) q))
          (is_bare.existential ty)
          ∙ formula_absent variables (ty ∷ context) body rest (depth + 1) (Existential ∷ kinds)

      parts_absent : (variables : ℕ) (context : List Ty) (parts : List Nnf)
          (formed : AreNnf normal.signature variables context parts) (depth : ℕ)
          (kinds : List Kind) →
          list_any (occurs m) (map (λ part. formula c k normal.signature part depth kinds) parts)
          ≡ false
      parts_absent variables context parts (no_parts _) depth kinds = refl
      parts_absent variables context parts (more_parts _ part others formed rest) depth kinds =
          neither (occurs m (formula c k normal.signature part depth kinds)) _
          (formula_absent variables context part formed depth kinds)
          (parts_absent variables context others rest depth kinds)

    closed_absent : (count : ℕ) (q : Fof) → occurs m q ≡ false → occurs m (closed count q) ≡ false
    closed_absent zero q absent = absent
    closed_absent (suc count) q absent =
        occurs-for_all m (closed count q) ∙ closed_absent count q absent

    stated_absent : (formulas : List NormalFormula) →
        AllByRecursion (λ one. IsNnf normal.signature one.type_variables [] one.body) formulas →
        is_present (map (stated c normal) formulas) m ≡ false
    stated_absent [] formed = refl
    stated_absent (one ∷ formulas) formed =
        neither (occurs m (stated c normal one).body) _
        (closed_absent one.type_variables
        (formula c k normal.signature one.body one.type_variables [])
        (formula_absent one.type_variables [] one.body formed.0 one.type_variables []))
        (stated_absent formulas formed.1)

    -- there are no axioms

    no_typing_of : (f : ℕ) (symbol : Symbol) (result : Option Ty) →
        typing_of c normal f symbol result ≡ []
    no_typing_of f symbol None = refl
    no_typing_of f symbol (Some ty) =
        second_of (c.typing ty) _ [] (is_bare.typing ty)

    no_typing : (f : ℕ) (symbols : List Symbol) → typing_axioms c normal f symbols ≡ []
    no_typing f [] = refl
    no_typing f (symbol ∷ symbols) =
        ap (λ (axioms : List FofFormula). axioms ++ typing_axioms c normal (f + 1) symbols)
        (no_typing_of f symbol symbol.result)
        ∙ no_typing (f + 1) symbols

    no_sort_axioms : (types : List Ty) → sort_axioms c normal types ≡ []
    no_sort_axioms [] = refl
    no_sort_axioms (ty ∷ types) =
        second_of (c.last ty) _ (sort_axioms c normal types) (is_bare.last ty)
        ∙ no_sort_axioms types

    no_last : (marking : Marking) → last_axioms c normal marking ≡ []
    no_last ByType = second_of (c.last (type.Var 0)) _ [] (is_bare.last (type.Var 0))
    no_last BySort = no_sort_axioms (sorts normal)

    absent : IsNormal normal → is_present (translation c normal) m ≡ false
    unfolding translation
    absent typed =
        list_any-append (λ (one : FofFormula). occurs m one.body)
        (map (stated c normal) normal.formulas)
        (typing_axioms c normal 0 normal.signature.symbols ++ last_axioms c normal c.marking)
        ∙ neither (is_present (map (stated c normal) normal.formulas) m) _
        (stated_absent normal.formulas typed.formulas)
        (ap (λ (axioms : List FofFormula). is_present (axioms ++ last_axioms c normal c.marking) m)
        (no_typing 0 normal.signature.symbols)
        ∙ ap (λ (axioms : List FofFormula). is_present axioms m) (no_last c.marking))

pub bare_unmarked : (c : Choices) (normal : Normal) → IsBare c → IsNormal normal →
    IsUnmarked c normal
bare_unmarked c normal is_bare typed number occurring =
    ⊎_elim (λ less. less)
    (λ past. absurd (false≢true
    (sym (absent c normal is_bare number past typed) ∙ occurring)))
    (cases_lt number (length normal.signature.symbols + length normal.signature.constructors))
