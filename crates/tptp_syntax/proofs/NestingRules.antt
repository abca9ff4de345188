-- The machine that counts nestings goes over the rules of types, declarations, terms and formulas.
use Rattle.std.proofs.Common.{◌≡◌, ℕ, suc, ◌+◌, ◌≤◌, inl, List}
use Rattle.std.proofs.Common.{true, false, None, is_some, refl, ap, subst}
use Rattle.std.proofs.Common.{arith, ◌∙◌}
use Rattle.std.specs.Prelude.{codes}
use Rattle.tptp_words.specs.declared.word.WordKind.TheVariants as kind
use Rattle.tptp_words.specs.Text.{Token}
use Rattle.tptp_words.specs.Words.{dollar}
use Rattle.tptp_phrases.specs.Phrase.{Phrase, empty, word, ◌>>=◌, ◌>>◌, ◌or◌}
use Rattle.tptp_phrases.specs.Phrase.{levels, nested}
use Rattle.tptp_phrases.proofs.Walks.{Steps, walks_word, walks_or, walks_on, walks_via, walks_so}
use Rattle.tptp_phrases.proofs.Walks.{walks_stray}
use Rattle.tptp_phrases.proofs.WalkLevels.{plain, WalksRule, WalksDeeper, walks_levels}
use Rattle.tptp_phrases.proofs.WalkLevels.{walks_nested}
use Rattle.tptp_syntax.specs.declared.types.TypeExpr.{TypeExpr}
use Rattle.tptp_syntax.specs.declared.types.TypeExpr.TheVariants as y
use Rattle.tptp_syntax.specs.declared.types.Bound.{Bound}
use Rattle.tptp_syntax.specs.declared.term.RawTerm.{RawTerm}
use Rattle.tptp_syntax.specs.declared.term.RawTerm.TheVariants as t
use Rattle.tptp_syntax.specs.declared.formula.RawFormula.{RawFormula}
use Rattle.tptp_syntax.specs.declared.formula.RawFormula.TheVariants as f
use Rattle.tptp_syntax.specs.declared.language.Language.{Language}
use Rattle.tptp_syntax.specs.declared.language.Language.TheVariants.{Tff, Fof}
use Rattle.tptp_syntax.specs.Strays.{connective}
use Rattle.tptp_syntax.specs.Strays.{stray_type, stray_term}
use Rattle.tptp_syntax.specs.Grammar.{Kind, sign}
use Rattle.tptp_syntax.specs.Grammar.{quantified, type_variable, unit_type, product, type_rule}
use Rattle.tptp_syntax.specs.Grammar.{type_of, declaration_rule, declaration, term_rule, term}
use Rattle.tptp_syntax.specs.Grammar.{bound, formula_of, pair}
use Rattle.tptp_syntax.specs.Grammar.{unit_rule, formula, joined}
use Rattle.tptp_syntax.specs.Nesting.{Round, Square, Place}
use Rattle.tptp_syntax.specs.Nesting.{ends_scopes, behind}
use Rattle.tptp_syntax.proofs.KnownWords.{token, by_connective}
use Rattle.tptp_syntax.proofs.NestingWords.{nestings, Spot, at, height, scoped, inside, item, Same}
use Rattle.tptp_syntax.proofs.NestingWords.{Trails, Nests, steps_inside, steps_ending}
use Rattle.tptp_syntax.proofs.NestingWords.{nests_sign, ends, later, loosened, based}
use Rattle.tptp_syntax.proofs.NestingWords.{nests_quiet, nests_name, nests_variable, nests_dollar}
use Rattle.tptp_syntax.proofs.NestingWords.{nests_application, nests_bracketed, nests_chain}
use Rattle.tptp_syntax.proofs.NestingWords.{nests_pair, nests_quantified}

-- a Dollar word that stands for one value
nests_fixed : {A : Type 0} {depth base : ℕ} (i : Spot) → height i ≤ base + depth → (m : List ℕ)
    → (a : A) → Nests depth base (height i) (at i) (Same i) (λ _. word (dollar m) >> empty a)
nests_fixed i room m a = walks_on (at i) (nests_dollar i room m) (λ _ _. ends a refl)

-- ---- types

nests_type_variable : {depth base : ℕ} (i : Spot) → height i ≡ base
    → Nests depth base base (at i) (Trails i) (λ _. type_variable)
nests_type_variable i e =
    based i e (loosened (walks_on (at i) (nests_variable i (omega (arith, e))) (λ room n.
    walks_on (at i) (later (nests_quiet i room (codes ":") refl refl)) (λ _ _.
    walks_on (at i) (later (nests_dollar i room (codes "$tType"))) (λ _ _. ends _ refl)))))

-- the phrases a level deeper, behind a bracket and so many commas
abbrev InBrackets : {A : Type 0} → ℕ → ℕ → Spot → (ℕ → Phrase A) → Type 0
InBrackets depth base i p =
    (n : ℕ) → Nests depth base (base + 1) (at (item (inside Round i) n))
    (Trails (item (inside Round i) n)) p

nests_unit_type : {depth base : ℕ} (i : Spot) → height i ≡ base → (p : ℕ → Phrase TypeExpr)
    → InBrackets depth base i p
    → Nests depth base base (at i) (Same i) (λ n. unit_type (p n) (plain n))
nests_unit_type {depth} {base} i e p h =
    based i e (walks_or (walks_on (at i) (nests_variable i room) (λ _ n. ends (y.Variable n) refl))
    (walks_or (nests_application i room low h y.Apply)
    (walks_or (nests_fixed i room (codes "$i") y.Individuals)
    (walks_or (nests_fixed i room (codes "$o") y.Truth)
    (walks_or (nests_fixed i room (codes "$tType") y.Types)
    (walks_or (nests_bracketed i room low h) (walks_stray stray_type)))))))
  where
    room : height i ≤ base + depth
    room = omega (arith, e)

    low : suc (height i) ≤ base + 1
    low = omega (arith, e)

-- parts of a product
nests_product : {depth base : ℕ} (i : Spot) → height i ≡ base → (p : ℕ → Phrase TypeExpr)
    → Nests depth base base (at i) (Same i) p
    → Nests depth base base (at i) (Same i) (λ n. product (p n))
nests_product {depth} {base} i e p h =
    walks_or (walks_on (at i) h (λ _ a. ends a refl))
    (walks_so {more = base} (omega arith) (λ a t x. x.1)
    (nests_chain (at i) (λ (_ : Unit {0}). at i) (codes "*") y.Product
    (walks_so (omega arith) (λ a t x. (tt, x)) h)
    (λ room _. later (nests_quiet i (omega (arith, e)) (codes "*") refl refl))))

nests_type_rule : WalksRule nestings at height Trails type_rule
nests_type_rule depth base i e deeper =
    walks_or (based i e (nests_quantified (λ d k. levels type_rule None d k) i e
    (λ n. nests_type_variable (item (inside Square i) n) (omega (arith, e)))
    deeper (codes "!>") y.Quantified refl refl))
    (walks_or (walks_on (at i) products (λ _ a. ends a (i.scopes, refl)))
    (loosened (nests_pair i (codes ">") y.Map (omega (arith, e)) refl refl products units)))
  where
    units : Nests depth base base (at i) (Same i)
        (λ n. unit_type (levels type_rule None n 1) (plain n))
    units =
        nests_unit_type i e (λ n. levels type_rule None n 1) (λ n.
        deeper 0 (item (inside Round i) n) (omega (arith, e)))

    products : Nests depth base base (at i) (Same i)
        (λ n. product (unit_type (levels type_rule None n 1) (plain n)))
    products = nests_product i e _ units

none_type : (v : Kind) (inside : ℕ → Phrase TypeExpr) (ws : List Token)
    → (type_rule v inside).begins ws ws
unfolding ◌or◌ ◌>>=◌ word
none_type v inside ws = inl (inl (inl refl))

nests_type : {depth base : ℕ} (i : Spot) → height i ≡ base
    → Nests depth base base (at i) (Trails i) (λ n. type_of (plain n))
unfolding type_of
nests_type {depth} {base} i e =
    walks_nested at height Trails type_rule none_type nests_type_rule depth base i e

-- ---- declarations

nests_declaration_rule : WalksRule nestings at height Trails declaration_rule
nests_declaration_rule depth base i e deeper =
    walks_or (based i e (walks_on (at i) (nests_name i room) (λ _ n.
    walks_on (at i) (later (nests_quiet i room (codes ":") refl refl)) (λ _ _.
    walks_via (λ z. at (scoped i z)) (later (nests_type i e)) (λ _ body z.
    ends (n, body) (z, refl))))))
    (based i e (loosened (nests_bracketed i room (omega (arith, e))
    (λ n. deeper 0 (item (inside Round i) n) (omega (arith, e))))))
  where
    room : height i ≤ base + depth
    room = omega (arith, e)

none_declaration : (v : Kind) (inside : ℕ → Phrase (List ℕ × TypeExpr)) (ws : List Token)
    → (declaration_rule v inside).begins ws ws
unfolding ◌or◌ ◌>>=◌ word
none_declaration v inside ws = inl (inl (inl refl))

pub nests_declaration : {depth base : ℕ} (i : Spot) → height i ≡ base
    → Nests depth base base (at i) (Trails i) (λ n. declaration (plain n))
unfolding declaration
nests_declaration {depth} {base} i e =
    walks_nested at height Trails declaration_rule none_declaration nests_declaration_rule depth
    base i e

-- ---- terms

nests_term_rule : WalksRule nestings at height Same term_rule
nests_term_rule depth base i e deeper =
    based i e (walks_or (walks_on (at i) (nests_variable i room) (λ _ n. ends (t.Variable n) refl))
    (walks_or (nests_application i room (omega (arith, e))
    (λ n. loosened (deeper 0 (item (inside Round i) n) (omega (arith, e)))) t.Apply)
    (walks_or (nests_fixed i room (codes "$i") t.Individuals) (walks_stray stray_term))))
  where
    room : height i ≤ base + depth
    room = omega (arith, e)

none_term : (v : Kind) (inside : ℕ → Phrase RawTerm) (ws : List Token)
    → (term_rule v inside).begins ws ws
unfolding ◌or◌ ◌>>=◌ word
none_term v inside ws = inl (inl (inl refl))

nests_terms_deeper : (depth base : ℕ) → WalksDeeper nestings at height Same term_rule depth base
nests_terms_deeper depth base =
    walks_levels at height Same term_rule none_term nests_term_rule depth base

nests_term : {depth base : ℕ} (i : Spot) → height i ≡ base
    → Nests depth base base (at i) (Same i) (λ n. term (plain n))
unfolding term
nests_term {depth} {base} i e =
    walks_nested at height Same term_rule none_term nests_term_rule depth base i e

-- ---- formulas

nests_untyped : {depth base : ℕ} (i : Spot) → height i ≡ base
    → Nests depth base base (at i) (Trails i) (λ n. bound Fof (plain n))
nests_untyped i e =
    based i e (loosened
    (walks_on (at i) (nests_variable i (omega (arith, e))) (λ _ n. ends _ refl)))

nests_bound : (l : Language) {depth base : ℕ} (i : Spot) → height i ≡ base
    → Nests depth base base (at i) (Trails i) (λ n. bound l (plain n))
nests_bound Fof i e = nests_untyped i e
nests_bound Tff i e =
    walks_or (nests_untyped i e)
    (based i e (walks_on (at i) (nests_variable i (omega (arith, e))) (λ room n.
    walks_on (at i) (later (nests_quiet i room (codes ":") refl refl)) (λ _ _.
    walks_via (λ z. at (scoped i z)) (later (nests_type i e)) (λ _ a z. ends _ (z, refl))))))

-- where no scope is open directly inside the bracket
nests_formula_of : {depth base least : ℕ} (i : Spot) (n : ℕ) (u : ℕ → Phrase RawFormula)
    → height (item i n) ≤ least → Nests depth base least (at (item i n)) (Trails (item i n)) u
    → Nests depth base least (at (item i n)) (Trails (item i n)) (λ d. formula_of (u d))
nests_formula_of {depth} {base} {least} i n u low h =
    walks_or (walks_via behind_unit h (λ _ a z. ends a (z, refl)))
    (walks_or (nests_chain (at (item i n)) behind_unit (codes "&") f.And h (λ room z.
    joins room z (codes "&") refl refl))
    (walks_or (nests_chain (at (item i n)) behind_unit (codes "|") f.Or h (λ room z.
    joins room z (codes "|") refl refl))
    (walks_via behind_unit h (λ room a z.
    walks_on (at (item i n)) (connects room z) (λ _ op.
    walks_via behind_unit (later h) (λ _ b x. ends (joined op a b) (x, refl)))))))
  where
    behind_unit : ℕ → Place
    behind_unit z = at (scoped (item i n) z)

    joins : least ≤ base + depth → (z : ℕ) (m : List ℕ) → ends_scopes (token kind.Mark m) ≡ true
        → behind (behind_unit z) (token kind.Mark m) ≡ at (item i n)
        → Nests depth base 0 (behind_unit z) (λ _ t. t ≡ at (item i n)) (λ _. sign m)
    joins room z m over back =
        walks_so (omega arith) (λ a t e. e ∙ back)
        (nests_sign m
        (steps_ending (scoped (item i n) z) (base + depth) (token kind.Mark m) (omega arith) over))

    connects : least ≤ base + depth → (z : ℕ)
        → Nests depth base 0 (behind_unit z) (λ _ t. t ≡ at (item i n)) (λ _. word connective)
    connects room z =
        walks_so {more = height (item i n)} (omega arith) (λ a t e. e)
        (walks_word (λ w a e.
        by_connective Back
        (one (codes "=>") refl refl) (one (codes "<=") refl refl) (one (codes "<=>") refl refl)
        (one (codes "<~>") refl refl) (one (codes "~&") refl refl) (one (codes "~|") refl refl)
        w (ap is_some e)))
      where
        Back : Token → Type 0
        Back w =
            Steps nestings (base + depth) (height (item i n)) (behind_unit z)
            (λ t. t ≡ at (item i n)) w

        one : (m : List ℕ) → ends_scopes (token kind.Mark m) ≡ true
            → behind (behind_unit z) (token kind.Mark m) ≡ at (item i n)
            → Back (token kind.Mark m)
        one m over back =
            subst (λ x. Steps nestings (base + depth) (height (item i n)) (behind_unit z)
            (λ t. t ≡ x) (token kind.Mark m)) back
            (steps_ending (scoped (item i n) z) (base + depth) (token kind.Mark m) (omega arith)
            over)

nests_unit_rule : (l : Language) → WalksRule nestings at height Trails (unit_rule l)
nests_unit_rule l depth base i e deeper =
    walks_or (binder (codes "!") f.ForAll refl refl)
    (walks_or (binder (codes "?") f.Exists refl refl)
    (walks_or (based i e (walks_on (at negated) (nests_sign (codes "~")
    (steps_inside i (base + depth) (token kind.Mark (codes "~")) room refl)) (λ _ _.
    walks_via (λ z. at (scoped i z)) (later (deeper 0 negated (omega (arith, e)))) (λ _ a z.
    ends (f.Not a) (z, refl)))))
    (walks_or (based i e (loosened (nests_fixed i room (codes "$true") f.True)))
    (walks_or (based i e (loosened (nests_fixed i room (codes "$false") f.False)))
    (walks_or (based i e (loosened (nests_bracketed i room (omega (arith, e)) inner)))
    (walks_or (based i e (loosened (nests_application i room (omega (arith, e)) terms f.Atom)))
    (walks_or (equation (codes "=") f.Equal refl refl)
    (equation (codes "!=") f.Unequal refl refl))))))))
  where
    room : height i ≤ base + depth
    room = omega (arith, e)

    negated : Spot
    negated = scoped i (suc i.scopes)

    binder : (m : List ℕ) (make : List Bound → RawFormula → RawFormula)
        → ends_scopes (token kind.Mark m) ≡ false → behind (at i) (token kind.Mark m) ≡ at i
        → Nests depth base base (at i) (Trails i)
        (λ d. quantified m make (bound l (plain d)) (λ k. levels (unit_rule l) None d k))
    binder m make keeps stays =
        based i e (nests_quantified (λ d k. levels (unit_rule l) None d k) i e
        (λ n. nests_bound l (item (inside Square i) n) (omega (arith, e))) deeper m make keeps
        stays)

    equation : (m : List ℕ) (make : RawTerm → RawTerm → RawFormula)
        → ends_scopes (token kind.Mark m) ≡ false → behind (at i) (token kind.Mark m) ≡ at i
        → Nests depth base base (at i) (Trails i)
        (λ d. pair m make (term (plain d)) (term (plain d)))
    equation m make keeps stays =
        loosened (nests_pair i m make (omega (arith, e)) keeps stays (nests_term i e)
        (nests_term i e))

    inner : InBrackets depth base i (λ d. formula_of (levels (unit_rule l) None d 1))
    inner n =
        nests_formula_of (inside Round i) n _ (omega (arith, e))
        (deeper 0 (item (inside Round i) n) (omega (arith, e)))

    terms : InBrackets depth base i (λ d. levels term_rule None d 1)
    terms n =
        loosened (nests_terms_deeper depth base 0 (item (inside Round i) n) (omega (arith, e)))

none_unit : (l : Language) (v : Kind) (inside : ℕ → Phrase RawFormula) (ws : List Token)
    → (unit_rule l v inside).begins ws ws
unfolding ◌or◌ ◌>>=◌ word
none_unit l v inside ws = inl (inl (inl refl))

pub nests_formula : (l : Language) {depth base : ℕ} (i : Spot) (n : ℕ) → height (item i n) ≡ base
    → Nests depth base base (at (item i n)) (Trails (item i n)) (λ d. formula l (plain d))
unfolding formula
nests_formula l {depth} {base} i n e =
    nests_formula_of i n (λ d. nested (unit_rule l) (plain d)) (omega (arith, e))
    (walks_nested at height Trails (unit_rule l) (none_unit l) (nests_unit_rule l) depth base
    (item i n) e)
