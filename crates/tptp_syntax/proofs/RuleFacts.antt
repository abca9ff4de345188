-- What holds of each tree that the grammar derives from spelled words, rule by rule.
use Rattle.std.proofs.Common.{ℕ, ◌+◌, ◌≤◌, List, Some, None, refl, arith}
use Rattle.std.specs.Prelude.{codes, IsTrue}
use Rattle.std.specs.List.{AllByRecursion}
use Rattle.enc_base.specs.Names.{IsWritable}
use Rattle.tptp_phrases.specs.Phrase.{Phrase}
use Rattle.tptp_phrases.proofs.Always.{Always, AlwaysRule, Sized, always_empty, always_then}
use Rattle.tptp_phrases.proofs.Always.{always_or, always_many, always_balanced}
use Rattle.tptp_phrases.proofs.Always.{always_stray, always_nested, always_deeper}
use Rattle.tptp_syntax.specs.declared.types.TypeExpr.{TypeExpr}
use Rattle.tptp_syntax.specs.declared.types.TypeExpr.TheVariants as y
use Rattle.tptp_syntax.specs.declared.term.RawTerm.TheVariants as t
use Rattle.tptp_syntax.specs.declared.formula.RawFormula.{RawFormula}
use Rattle.tptp_syntax.specs.declared.formula.RawFormula.TheVariants as f
use Rattle.tptp_syntax.specs.declared.entry.Entry.{Entry}
use Rattle.tptp_syntax.specs.declared.entry.Entry.TheVariants as e
use Rattle.tptp_syntax.specs.declared.entry.File.{File}
use Rattle.tptp_syntax.specs.declared.language.Connective.{Connective}
use Rattle.tptp_syntax.specs.declared.language.Connective.TheVariants as c
use Rattle.tptp_syntax.specs.declared.language.Language.{Language}
use Rattle.tptp_syntax.specs.declared.language.Language.TheVariants.{Tff, Fof}
use Rattle.tptp_syntax.specs.FileNames.{entry_names}
use Rattle.tptp_syntax.specs.FileSizes.{type_nodes, bound_nodes, term_nodes, formula_nodes}
use Rattle.tptp_syntax.specs.FileSizes.{entry_nodes, entry_has_chains, file_size}
use Rattle.tptp_syntax.specs.Grammar.{Kind, type_variable, unit_type, product, type_rule, type_of}
use Rattle.tptp_syntax.specs.Grammar.{declaration_rule, declaration, term_rule, term, bound}
use Rattle.tptp_syntax.specs.Grammar.{joined, formula_of, unit_rule, formula, notes}
use Rattle.tptp_syntax.specs.Grammar.{statement, content, entry, file}
use Rattle.tptp_syntax.proofs.WordFacts.{Spelled}
use Rattle.tptp_syntax.proofs.TreeFacts.{AreWritable, TypeHolds, BoundHolds, TermHolds}
use Rattle.tptp_syntax.proofs.TreeFacts.{FormulaHolds}
use Rattle.tptp_syntax.proofs.TreeFacts as tree
use Rattle.tptp_syntax.proofs.PartFacts.{Gives, one_word, one_name, one_variable, one_label}
use Rattle.tptp_syntax.proofs.PartFacts.{gives_alone, gives_brackets, gives_fixed, gives_variable}
use Rattle.tptp_syntax.proofs.PartFacts.{gives_application, gives_chain, gives_pair}
use Rattle.tptp_syntax.proofs.PartFacts.{gives_quantified}

-- ---- types

-- a bound variable with its type
typed_bound : (n m : ℕ) (name : List ℕ) (a : TypeExpr) → IsWritable name
    → Sized TypeHolds type_nodes m a → 1 + m ≤ n
    → Sized BoundHolds bound_nodes n (record { name = name; kind = Some a })
typed_bound n m name a w h l =
    let small = h.within in record { holds = (w, h.holds); within = omega (arith, small, l) }

gives_type_variable : Gives type_variable BoundHolds bound_nodes
gives_type_variable =
    always_then one_variable (λ n x one.
    always_then (one_word _) (λ k u colon.
    always_then (one_word _) (λ l v kind.
    let count = one.one in
    always_empty (record { name = x; kind = Some y.Types })
    (typed_bound (n + (k + (l + 0))) 1 x y.Types one.writable (tree.type_types 1 (omega arith))
    (omega (arith, count, colon, kind))))))

gives_unit_type : (inner : Phrase TypeExpr) (v : Kind) → Gives inner TypeHolds type_nodes
    → Gives (unit_type inner v) TypeHolds type_nodes
gives_unit_type inner v h =
    always_or (gives_variable y.Variable tree.type_variable)
    (always_or (gives_application y.Apply inner h tree.type_apply)
    (always_or (gives_fixed _ y.Individuals tree.type_individuals)
    (always_or (gives_fixed _ y.Truth tree.type_truth)
    (always_or (gives_fixed _ y.Types tree.type_types)
    (always_or (gives_brackets inner h)
    (always_stray _ v))))))

gives_product : (part : Phrase TypeExpr) → Gives part TypeHolds type_nodes
    → Gives (product part) TypeHolds type_nodes
gives_product part h =
    always_or (gives_alone part h)
    (gives_chain (codes "*") y.Product part h (λ n xs all two l. tree.type_product n xs all l))

gives_type_rule : AlwaysRule Spelled type_rule (Sized TypeHolds type_nodes)
gives_type_rule v inside h =
    let unit = gives_unit_type (inside 1) v (h 1) in
    always_or (gives_quantified (codes "!>") y.Quantified type_variable inside gives_type_variable h
    tree.type_quantified)
    (always_or (gives_alone _ (gives_product _ unit))
    (gives_pair (codes ">") y.Map _ _ (gives_product _ unit) unit tree.type_map))

gives_type : (v : Kind) → Gives (type_of v) TypeHolds type_nodes
unfolding type_of
gives_type v = always_nested type_rule _ gives_type_rule v

-- ---- declarations

-- the subject and the names of the body can be written
abbrev pub DeclaredHolds : (List ℕ × TypeExpr) → Type 0
DeclaredHolds d = IsWritable d.0 × TypeHolds d.1

abbrev pub declared_nodes : (List ℕ × TypeExpr) → ℕ
declared_nodes d = type_nodes d.1

gives_declaration_rule : AlwaysRule Spelled declaration_rule (Sized DeclaredHolds declared_nodes)
gives_declaration_rule v inside h =
    always_or
    (always_then one_name (λ n x one.
    always_then (one_word _) (λ k u colon.
    always_then (gives_type v) (λ l a body.
    let small = body.within in
    always_empty (x, a)
    (record { holds = (one.writable, body.holds); within = omega (arith, small) })))))
    (gives_brackets (inside 1) (h 1))

gives_declaration : (v : Kind) → Gives (declaration v) DeclaredHolds declared_nodes
unfolding declaration
gives_declaration v = always_nested declaration_rule _ gives_declaration_rule v

-- ---- terms

gives_term_rule : AlwaysRule Spelled term_rule (Sized TermHolds term_nodes)
gives_term_rule v inside h =
    always_or (gives_variable t.Variable tree.term_variable)
    (always_or (gives_application t.Apply (inside 1) (h 1) tree.term_apply)
    (always_or (gives_fixed _ t.Individuals tree.term_individuals)
    (always_stray _ v)))

gives_term : (v : Kind) → Gives (term v) TermHolds term_nodes
unfolding term
gives_term v = always_nested term_rule _ gives_term_rule v

-- ---- formulas

-- a bound variable without a type
untyped_bound : (n : ℕ) (name : List ℕ) → IsWritable name → 1 ≤ n
    → Sized BoundHolds bound_nodes n (record { name = name; kind = None })
untyped_bound n name w l = record { holds = (w, tt); within = omega (arith, l) }

gives_bound : (l : Language) (v : Kind) → Gives (bound l v) BoundHolds bound_nodes
gives_bound Fof v = gives_variable (λ n. record { name = n; kind = None }) untyped_bound
gives_bound Tff v =
    always_or (gives_variable (λ n. record { name = n; kind = None }) untyped_bound)
    (always_then one_variable (λ n x one.
    always_then (one_word _) (λ k u colon.
    always_then (gives_type v) (λ l a kind.
    let count = one.one in
    always_empty (record { name = x; kind = Some a })
    (typed_bound (n + (k + (l + 0))) l x a one.writable kind (omega (arith, count, colon)))))))

of_connective : (op : Connective) → tree.OfTwo (λ a b. joined op a b)
of_connective c.Implies = tree.formula_implies
of_connective c.If = tree.formula_if
of_connective c.Iff = tree.formula_iff
of_connective c.Xor = tree.formula_xor
of_connective c.Nand = tree.formula_nand
of_connective c.Nor = tree.formula_nor

gives_formula_of : (unit : Phrase RawFormula) → Gives unit FormulaHolds formula_nodes
    → Gives (formula_of unit) FormulaHolds formula_nodes
gives_formula_of unit h =
    always_or (gives_alone unit h)
    (always_or (gives_chain (codes "&") f.And unit h tree.formula_and)
    (always_or (gives_chain (codes "|") f.Or unit h tree.formula_or)
    (always_then h (λ n a first.
    always_then (one_word _) (λ m op mark.
    always_then h (λ k b second.
    let one = first.within in
    let two = second.within in
    always_empty (joined op a b)
    (of_connective op (n + (m + (k + 0))) a b first.holds second.holds
    (omega (arith, one, two, mark)))))))))

gives_unit_rule : (l : Language)
    → AlwaysRule Spelled (unit_rule l) (Sized FormulaHolds formula_nodes)
gives_unit_rule l v inside h =
    always_or (gives_quantified (codes "!") f.ForAll (bound l v) inside (gives_bound l v) h
    tree.formula_for_all)
    (always_or (gives_quantified (codes "?") f.Exists (bound l v) inside (gives_bound l v) h
    tree.formula_exists)
    (always_or
    (always_then (one_word _) (λ n u mark.
    always_then (h 1) (λ m a part.
    let small = part.within in
    always_empty (f.Not a)
    (tree.formula_not (n + (m + 0)) a part.holds (omega (arith, mark, small))))))
    (always_or (gives_fixed _ f.True tree.formula_true)
    (always_or (gives_fixed _ f.False tree.formula_false)
    (always_or (gives_brackets _ (gives_formula_of (inside 1) (h 1)))
    (always_or (gives_application f.Atom _
    (always_deeper term_rule _ gives_term_rule v 1) tree.formula_atom)
    (always_or (gives_pair (codes "=") f.Equal _ _ (gives_term v) (gives_term v) tree.formula_equal)
    (gives_pair (codes "!=") f.Unequal _ _ (gives_term v) (gives_term v)
    tree.formula_unequal))))))))

gives_formula : (l : Language) (v : Kind) → Gives (formula l v) FormulaHolds formula_nodes
unfolding formula
gives_formula l v =
    gives_formula_of _ (always_nested (unit_rule l) _ (gives_unit_rule l) v)

-- ---- entries

-- the names of the entry can be written, and its chains have two parts at least
abbrev pub EntryHolds : Entry → Type 0
EntryHolds x = AreWritable (entry_names x) × IsTrue (entry_has_chains x)

-- whatever the words
abbrev Any : ℕ → Unit {0} → Type 0
Any n u = Unit {0}

any_notes : Always Spelled notes Any
any_notes =
    always_or (always_empty tt tt)
    (always_then (one_word _) (λ n u mark.
    always_then (always_balanced {Holds = Any} _ _ (λ m. tt)) (λ m w balance. always_empty tt tt)))

gives_statement : (l : Language) (v : Kind) (label : List ℕ) → IsWritable label
    → Gives (statement l v label) EntryHolds entry_nodes
gives_statement l v label w =
    always_or
    (always_then (one_word _) (λ n r role.
    always_then (one_word _) (λ m u mark.
    always_then (gives_formula l v) (λ k a stated.
    let small = stated.within in
    always_empty (e.Statement label r a)
    (record {
      holds = ((w, stated.holds.0), stated.holds.1);
      within = omega (arith, small);
    })))))
    (always_stray _ v)

gives_content : (l : Language) (v : Kind) (label : List ℕ) → IsWritable label
    → Gives (content l v label) EntryHolds entry_nodes
gives_content Fof v label w = gives_statement Fof v label w
gives_content Tff v label w =
    always_or
    (always_then (one_word _) (λ n u kind.
    always_then (one_word _) (λ m r mark.
    always_then (gives_declaration v) (λ k d declared.
    let small = declared.within in
    always_empty (e.Declaration label d.0 d.1)
    (record {
      holds = ((w, (declared.holds.0, declared.holds.1)), refl);
      within = omega (arith, small);
    })))))
    (gives_statement Tff v label w)

gives_entry : (v : Kind) → Gives (entry v) EntryHolds entry_nodes
unfolding entry
gives_entry v =
    always_or
    (always_then (one_word _) (λ n l language.
    always_then (one_word _) (λ m u before.
    always_then one_label (λ k x one.
    always_then (one_word _) (λ o r comma.
    always_then (gives_content l v x one.writable) (λ i a body.
    always_then any_notes (λ j q note.
    always_then (one_word _) (λ c s after.
    always_then (one_word _) (λ d p point.
    let small = body.within in
    always_empty a (record { holds = body.holds; within = omega (arith, small) }))))))))))
    (always_stray _ v)

-- ---- files

abbrev pub FileHolds : File → Type 0
FileHolds x = AllByRecursion EntryHolds x.entries

pub gives_file : (v : Kind) → Gives (file v) FileHolds file_size
unfolding file
gives_file v =
    always_then (always_many (gives_entry v)) (λ n entries all.
    let small = all.within in
    always_empty (record { entries = entries })
    (record { holds = all.holds; within = omega (arith, small) }))
