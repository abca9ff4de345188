-- Where words begin a file, so do their fronts.
use Rattle.std.proofs.Common.{ℕ, List, [], ◌∷◌, Some, None}
use Rattle.std.specs.Prelude.{codes}
use Rattle.tptp_words.specs.Words.{name, variable, mark, keyword, dollar}
use Rattle.tptp_phrases.specs.Phrase.{Phrase, empty, word, ◌>>=◌, ◌>>◌}
use Rattle.tptp_phrases.specs.Phrase.{deeper, nested}
use Rattle.tptp_phrases.proofs.Fronts.{Closed, closed_empty, closed_word, closed_stray, closed_bind}
use Rattle.tptp_phrases.proofs.Fronts.{closed_or, closed_many, closed_balanced, closed_levels}
use Rattle.tptp_syntax.specs.declared.types.TypeExpr.{TypeExpr}
use Rattle.tptp_syntax.specs.declared.types.Bound.{Bound}
use Rattle.tptp_syntax.specs.declared.term.RawTerm.{RawTerm}
use Rattle.tptp_syntax.specs.declared.formula.RawFormula.{RawFormula}
use Rattle.tptp_syntax.specs.declared.language.Language.{Language}
use Rattle.tptp_syntax.specs.declared.language.Language.TheVariants.{Tff, Fof}
use Rattle.tptp_syntax.specs.declared.types.TypeExpr.TheVariants as y
use Rattle.tptp_syntax.specs.declared.term.RawTerm.TheVariants as t
use Rattle.tptp_syntax.specs.declared.formula.RawFormula.TheVariants as f
use Rattle.tptp_syntax.specs.declared.entry.Entry.TheVariants as e
use Rattle.tptp_syntax.specs.Strays.{label, language, role, connective}
use Rattle.tptp_syntax.specs.Grammar.{joined}
use Rattle.tptp_syntax.specs.Strays.{stray_type, stray_term, stray_role, stray_language}
use Rattle.tptp_syntax.specs.Grammar.{Kind, sign, listed, arguments, application, chain, pair}
use Rattle.tptp_syntax.specs.Grammar.{quantified, type_variable, unit_type, product, type_rule, type_of}
use Rattle.tptp_syntax.specs.Grammar.{declaration_rule, declaration, term_rule, term, bound, formula_of}
use Rattle.tptp_syntax.specs.Grammar.{unit_rule, formula, notes, statement, content, entry, file}

-- ---- parts that several rules share

module _ {A : Type 0} (p : Phrase A) (h : Closed p) where
  closed_behind : (m : List ℕ) → Closed (sign m >> p)
  closed_behind m = closed_bind _ _ (closed_word (mark m)) (λ _. h)

  closed_listed : Closed (listed p)
  closed_listed =
      closed_bind _ _ h (λ x. closed_bind _ _
      (closed_many (sign (codes ",") >> p) (closed_behind (codes ",")))
      (λ more. closed_empty (x ∷ more)))

  closed_arguments : Closed (arguments p)
  closed_arguments =
      closed_bind _ _ (closed_word (mark (codes "("))) (λ _.
      closed_bind _ _ closed_listed (λ xs.
      closed_bind _ _ (closed_word (mark (codes ")"))) (λ _. closed_empty xs)))

  closed_application : {T : Type 0} (make : List ℕ → List A → T) → Closed (application make p)
  closed_application make =
      closed_or _ _ (closed_bind _ _ (closed_word name) (λ n. closed_empty (make n [])))
      (closed_bind _ _ (closed_word name) (λ n.
      closed_bind _ _ closed_arguments (λ xs. closed_empty (make n xs))))

  closed_chain : {T : Type 0} (m : List ℕ) (make : List A → T) → Closed (chain m make p)
  closed_chain m make =
      closed_bind _ _ h (λ a. closed_bind _ _ (closed_word (mark m)) (λ _.
      closed_bind _ _ h (λ b. closed_bind _ _ (closed_many (sign m >> p) (closed_behind m))
      (λ more. closed_empty (make (a ∷ b ∷ more))))))

  closed_pair : {B T : Type 0} (m : List ℕ) (make : A → B → T) (q : Phrase B) → Closed q
      → Closed (pair m make p q)
  closed_pair m make q k =
      closed_bind _ _ h (λ a. closed_bind _ _ (closed_word (mark m)) (λ _.
      closed_bind _ _ k (λ b. closed_empty (make a b))))

  closed_bracketed : Closed (sign (codes "(") >> (p >>= λ a. sign (codes ")") >> empty a))
  closed_bracketed =
      closed_bind _ _ (closed_word (mark (codes "("))) (λ _. closed_bind _ _ h (λ a.
      closed_bind _ _ (closed_word (mark (codes ")"))) (λ _. closed_empty a)))

closed_quantified : {A T : Type 0} (m : List ℕ) (make : List Bound → A → T) (b : Phrase Bound)
    (body : ℕ → Phrase A) → Closed b → ((k : ℕ) → Closed (body k))
    → Closed (quantified m make b body)
closed_quantified m make b body h k =
    closed_bind _ _ (closed_word (mark m)) (λ _. closed_bind _ _ (closed_word (mark (codes "[")))
    (λ _. closed_bind _ _ (closed_listed b h) (λ vs.
    closed_bind _ _ (closed_word (mark (codes "]"))) (λ _.
    closed_bind _ _ (closed_word (mark (codes ":"))) (λ _.
    closed_bind _ _ (k _) (λ scope. closed_empty (make vs scope)))))))

closed_fixed : {A : Type 0} (m : List ℕ) (v : A) → Closed (word (dollar m) >> empty v)
closed_fixed m v = closed_bind _ _ (closed_word (dollar m)) (λ _. closed_empty v)

-- ---- types

closed_type_variable : Closed type_variable
closed_type_variable =
    closed_bind _ _ (closed_word variable) (λ n.
    closed_bind _ _ (closed_word (mark (codes ":"))) (λ _.
    closed_bind _ _ (closed_word (dollar (codes "$tType"))) (λ _.
    closed_empty (record { name = n; kind = Some y.Types }))))

closed_unit_type : (inner : Phrase TypeExpr) (v : Kind) → Closed inner → Closed (unit_type inner v)
closed_unit_type inner v h =
    closed_or _ _ (closed_bind _ _ (closed_word variable) (λ n. closed_empty (y.Variable n)))
    (closed_or _ _ (closed_application inner h y.Apply)
    (closed_or _ _ (closed_fixed (codes "$i") y.Individuals)
    (closed_or _ _ (closed_fixed (codes "$o") y.Truth)
    (closed_or _ _ (closed_fixed (codes "$tType") y.Types)
    (closed_or _ _ (closed_bracketed inner h) (closed_stray stray_type v))))))

closed_product : (u : Phrase TypeExpr) → Closed u → Closed (product u)
closed_product u h =
    closed_or _ _ (closed_bind _ _ h (λ a. closed_empty a)) (closed_chain u h (codes "*") y.Product)

closed_type_rule : (v : Kind) (inside : ℕ → Phrase TypeExpr) → ((k : ℕ) → Closed (inside k))
    → Closed (type_rule v inside)
closed_type_rule v inside h =
    closed_or _ _
    (closed_quantified (codes "!>") y.Quantified type_variable inside closed_type_variable h)
    (closed_or _ _ (closed_bind _ _ products (λ a. closed_empty a))
    (closed_pair _ products (codes ">") y.Map _ units))
  where
    units : Closed (unit_type (inside 1) v)
    units = closed_unit_type (inside 1) v (h 1)

    products : Closed (product (unit_type (inside 1) v))
    products = closed_product (unit_type (inside 1) v) (closed_unit_type (inside 1) v (h 1))

closed_type : (v : Kind) → Closed (type_of v)
unfolding type_of
closed_type v =
    closed_type_rule v (deeper type_rule v)
    (λ k. closed_levels type_rule closed_type_rule v.stray v.depth k)

closed_declaration_rule : (v : Kind) (inside : ℕ → Phrase (List ℕ × TypeExpr))
    → ((k : ℕ) → Closed (inside k)) → Closed (declaration_rule v inside)
closed_declaration_rule v inside h =
    closed_or _ _ (closed_bind _ _ (closed_word name) (λ n.
    closed_bind _ _ (closed_word (mark (codes ":"))) (λ _.
    closed_bind _ _ (closed_type v) (λ body. closed_empty (n, body)))))
    (closed_bracketed (inside 1) (h 1))

closed_declaration : (v : Kind) → Closed (declaration v)
unfolding declaration
closed_declaration v =
    closed_declaration_rule v (deeper declaration_rule v)
    (λ k. closed_levels declaration_rule closed_declaration_rule v.stray v.depth k)

-- ---- terms

closed_term_rule : (v : Kind) (inside : ℕ → Phrase RawTerm) → ((k : ℕ) → Closed (inside k))
    → Closed (term_rule v inside)
closed_term_rule v inside h =
    closed_or _ _ (closed_bind _ _ (closed_word variable) (λ n. closed_empty (t.Variable n)))
    (closed_or _ _ (closed_application (inside 1) (h 1) t.Apply)
    (closed_or _ _ (closed_fixed (codes "$i") t.Individuals) (closed_stray stray_term v)))

closed_term_deeper : (v : Kind) (k : ℕ) → Closed (deeper term_rule v k)
closed_term_deeper v k = closed_levels term_rule closed_term_rule v.stray v.depth k

closed_term : (v : Kind) → Closed (term v)
unfolding term
closed_term v = closed_term_rule v (deeper term_rule v) (closed_term_deeper v)

-- ---- formulas

closed_bound : (l : Language) (v : Kind) → Closed (bound l v)
closed_bound Fof v =
    closed_bind _ _ (closed_word variable) (λ n. closed_empty (record { name = n; kind = None }))
closed_bound Tff v =
    closed_or _ _
    (closed_bind _ _ (closed_word variable) (λ n. closed_empty (record { name = n; kind = None })))
    (closed_bind _ _ (closed_word variable) (λ n.
    closed_bind _ _ (closed_word (mark (codes ":"))) (λ _.
    closed_bind _ _ (closed_type v) (λ a. closed_empty (record { name = n; kind = Some a })))))

closed_formula_of : (u : Phrase RawFormula) → Closed u → Closed (formula_of u)
closed_formula_of u h =
    closed_or _ _ (closed_bind _ _ h (λ a. closed_empty a))
    (closed_or _ _ (closed_chain u h (codes "&") f.And) (closed_or _ _ (closed_chain u h (codes "|") f.Or)
    (closed_bind _ _ h (λ a. closed_bind _ _ (closed_word connective) (λ op.
    closed_bind _ _ h (λ b. closed_empty (joined op a b)))))))

closed_unit_rule : (l : Language) (v : Kind) (inside : ℕ → Phrase RawFormula)
    → ((k : ℕ) → Closed (inside k)) → Closed (unit_rule l v inside)
closed_unit_rule l v inside h =
    closed_or _ _ (closed_quantified (codes "!") f.ForAll (bound l v) inside (closed_bound l v) h)
    (closed_or _ _ (closed_quantified (codes "?") f.Exists (bound l v) inside (closed_bound l v) h)
    (closed_or _ _ (closed_bind _ _ (closed_word (mark (codes "~"))) (λ _.
    closed_bind _ _ (h 1) (λ a. closed_empty (f.Not a))))
    (closed_or _ _ (closed_fixed (codes "$true") f.True) (closed_or _ _ (closed_fixed (codes "$false") f.False)
    (closed_or _ _ (closed_bracketed (formula_of (inside 1)) (closed_formula_of (inside 1) (h 1)))
    (closed_or _ _ (closed_application (deeper term_rule v 1) (closed_term_deeper v 1) f.Atom)
    (closed_or _ _ (closed_pair (term v) (closed_term v) (codes "=") f.Equal (term v) (closed_term v))
    (closed_pair (term v) (closed_term v) (codes "!=") f.Unequal (term v) (closed_term v)))))))))

closed_formula : (l : Language) (v : Kind) → Closed (formula l v)
unfolding formula
closed_formula l v =
    closed_formula_of (nested (unit_rule l) v)
    (closed_unit_rule l v (deeper (unit_rule l) v)
    (λ k. closed_levels (unit_rule l) (closed_unit_rule l) v.stray v.depth k))

-- ---- entries and files

closed_notes : Closed notes
closed_notes =
    closed_or _ _ (closed_empty tt) (closed_bind _ _ (closed_word (mark (codes ","))) (λ _.
    closed_bind _ _ (closed_balanced _ _) (λ _. closed_empty tt)))

closed_statement : (l : Language) (v : Kind) (n : List ℕ) → Closed (statement l v n)
closed_statement l v n =
    closed_or _ _ (closed_bind _ _ (closed_word role) (λ r.
    closed_bind _ _ (closed_word (mark (codes ","))) (λ _.
    closed_bind _ _ (closed_formula l v) (λ a. closed_empty (e.Statement n r a)))))
    (closed_stray (stray_role l) v)

closed_content : (l : Language) (v : Kind) (n : List ℕ) → Closed (content l v n)
closed_content Fof v n = closed_statement Fof v n
closed_content Tff v n =
    closed_or _ _ (closed_bind _ _ (closed_word (keyword (codes "type"))) (λ _.
    closed_bind _ _ (closed_word (mark (codes ","))) (λ _.
    closed_bind _ _ (closed_declaration v) (λ d. closed_empty (e.Declaration n d.0 d.1)))))
    (closed_statement Tff v n)

closed_entry : (v : Kind) → Closed (entry v)
unfolding entry
closed_entry v =
    closed_or _ _ (closed_bind _ _ (closed_word language) (λ l.
    closed_bind _ _ (closed_word (mark (codes "("))) (λ _. closed_bind _ _ (closed_word label) (λ n.
    closed_bind _ _ (closed_word (mark (codes ","))) (λ _.
    closed_bind _ _ (closed_content l v n) (λ x. closed_bind _ _ closed_notes (λ _.
    closed_bind _ _ (closed_word (mark (codes ")"))) (λ _.
    closed_bind _ _ (closed_word (mark (codes "."))) (λ _. closed_empty x)))))))))
    (closed_stray stray_language v)

pub closed_file : (v : Kind) → Closed (file v)
unfolding file
closed_file v =
    closed_bind _ _ (closed_many (entry v) (closed_entry v)) (λ entries. closed_empty (record { entries = entries }))
