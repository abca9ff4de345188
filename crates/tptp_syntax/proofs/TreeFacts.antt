-- What holds of trees where it holds of their parts: their names can be written, their chains have
-- two parts at least, and they are no larger than the words that stand for them.
use Rattle.std.proofs.Common.{◌≡◌, ℕ, ◌+◌, ◌≤◌, ◌&&◌, Bool, true, false, List, [], ◌∷◌, ◌++◌}
use Rattle.std.proofs.Common.{length, map, sum, leb, Option, Some, None, refl, sym, ap, subst, arith, ◌∙◌}
use Rattle.std.specs.List.{AllByRecursion, list_all}
use Rattle.std.specs.Prelude.{IsTrue}
use Rattle.std.proofs.lemmas.Bool.Decides.{nat_tests}
use Rattle.std.proofs.lemmas.List.{length-map}
use Rattle.enc_base.specs.Names.{IsWritable}
use Rattle.tptp_phrases.proofs.Always.{Sized}
use Rattle.tptp_syntax.specs.declared.types.TypeExpr.{TypeExpr, roll-TypeExpr}
use Rattle.tptp_syntax.specs.declared.types.TypeExpr.TheVariants as type
use Rattle.tptp_syntax.specs.declared.types.TypeExpr.TheOpen.{TypeExpr-F, Bound-F}
use Rattle.tptp_syntax.specs.declared.types.TypeExpr.TheOpen as type_layer
use Rattle.tptp_syntax.specs.declared.types.TypeExpr.TheFolds.{fold-Bound, map-TypeExpr}
use Rattle.tptp_syntax.specs.declared.types.TypeExpr.TheFolds.{fold-roll-TypeExpr, fold-roll-Bound}
use Rattle.tptp_syntax.specs.declared.types.Bound.{Bound}
use Rattle.tptp_syntax.specs.declared.term.RawTerm.{RawTerm, roll-RawTerm}
use Rattle.tptp_syntax.specs.declared.term.RawTerm.TheVariants as term
use Rattle.tptp_syntax.specs.declared.term.RawTerm.TheOpen.{RawTerm-F}
use Rattle.tptp_syntax.specs.declared.term.RawTerm.TheOpen as term_layer
use Rattle.tptp_syntax.specs.declared.term.RawTerm.TheFolds.{map-RawTerm, fold-roll-RawTerm}
use Rattle.tptp_syntax.specs.declared.formula.RawFormula.{RawFormula, roll-RawFormula}
use Rattle.tptp_syntax.specs.declared.formula.RawFormula.TheVariants as formula
use Rattle.tptp_syntax.specs.declared.formula.RawFormula.TheOpen.{RawFormula-F}
use Rattle.tptp_syntax.specs.declared.formula.RawFormula.TheOpen as formula_layer
use Rattle.tptp_syntax.specs.declared.formula.RawFormula.TheFolds.{map-RawFormula}
use Rattle.tptp_syntax.specs.declared.formula.RawFormula.TheFolds.{fold-roll-RawFormula}
use Rattle.tptp_syntax.specs.FileNames.{Bytes, all_names, type_names, type_names_at}
use Rattle.tptp_syntax.specs.FileNames.{bound_names, bound_names_at, bound_type_names, term_names}
use Rattle.tptp_syntax.specs.FileNames.{term_names_at, formula_names, formula_names_at}
use Rattle.tptp_syntax.specs.FileSizes.{type_nodes, type_nodes_at, bound_nodes, bound_nodes_at}
use Rattle.tptp_syntax.specs.FileSizes.{bound_type_nodes, term_nodes, term_nodes_at, formula_nodes}
use Rattle.tptp_syntax.specs.FileSizes.{formula_nodes_at, has_chains, has_chains_at, is_chain}

-- each of the names can be written
abbrev pub AreWritable : List Bytes → Type 0
AreWritable names = AllByRecursion IsWritable names

-- ---- lists

pub writable_append : (xs ys : List Bytes) → AreWritable xs → AreWritable ys
    → AreWritable (xs ++ ys)
writable_append [] ys h k = k
writable_append (x ∷ xs) ys h k = (h.0, writable_append xs ys h.1 k)

pub writable_all : {A : Type 0} (names : A → List Bytes) (xs : List A)
    → AllByRecursion (λ x. AreWritable (names x)) xs → AreWritable (all_names (map names xs))
writable_all names [] h = tt
writable_all names (x ∷ xs) h =
    writable_append (names x) (all_names (map names xs)) h.0 (writable_all names xs h.1)

-- ---- types

-- the names of the type can be written
abbrev pub TypeHolds : TypeExpr → Type 0
TypeHolds a = AreWritable (type_names a)

abbrev pub BoundHolds : Bound → Type 0
BoundHolds b = AreWritable (bound_names b)

pub names-bound : (b : Bound)
    → fold-Bound (List Bytes) (List Bytes) type_names_at bound_names_at b ≡ bound_names b
unfolding type_names
names-bound b = go b.name b.kind
  where
    go : (name : Bytes) (kind : Option TypeExpr)
        → fold-Bound (List Bytes) (List Bytes) type_names_at bound_names_at
        (record { name = name; kind = kind })
        ≡ name ∷ bound_type_names kind
    go name None =
        fold-roll-Bound (List Bytes) (List Bytes) type_names_at bound_names_at
        (record { name = name; kind = None })
    go name (Some a) =
        fold-roll-Bound (List Bytes) (List Bytes) type_names_at bound_names_at
        (record { name = name; kind = Some a })

nodes-bound : (b : Bound) → fold-Bound ℕ ℕ type_nodes_at bound_nodes_at b ≡ bound_nodes b
unfolding type_nodes
nodes-bound b = go b.name b.kind
  where
    go : (name : Bytes) (kind : Option TypeExpr)
        → fold-Bound ℕ ℕ type_nodes_at bound_nodes_at (record { name = name; kind = kind })
        ≡ 1 + bound_type_nodes kind
    go name None =
        fold-roll-Bound ℕ ℕ type_nodes_at bound_nodes_at (record { name = name; kind = None })
    go name (Some a) =
        fold-roll-Bound ℕ ℕ type_nodes_at bound_nodes_at (record { name = name; kind = Some a })

pub map-same : {A B : Type 0} (f g : A → B) → ((x : A) → f x ≡ g x) → (xs : List A)
    → map f xs ≡ map g xs
map-same f g e [] = refl
map-same f g e (x ∷ xs) = ap (λ z. z ∷ map f xs) (e x) ∙ ap (λ z. g x ∷ z) (map-same f g e xs)

-- the names and the nodes of a layer, by those of its parts
abbrev pub names_in_type : TypeExpr-F TypeExpr Bound → List Bytes
names_in_type x =
    type_names_at (map-TypeExpr TypeExpr Bound (List Bytes) (List Bytes) type_names
    (fold-Bound (List Bytes) (List Bytes) type_names_at bound_names_at) x)

abbrev nodes_in_type : TypeExpr-F TypeExpr Bound → ℕ
nodes_in_type x =
    type_nodes_at (map-TypeExpr TypeExpr Bound ℕ ℕ type_nodes
    (fold-Bound ℕ ℕ type_nodes_at bound_nodes_at) x)

of_type : (n : ℕ) (x : TypeExpr-F TypeExpr Bound) (a : TypeExpr) → roll-TypeExpr x ≡ a
    → AreWritable (names_in_type x) → nodes_in_type x ≤ n → Sized TypeHolds type_nodes n a
unfolding type_names type_nodes
of_type n x a is names nodes =
    subst (Sized TypeHolds type_nodes n) is
    (record {
      holds = subst AreWritable
          (sym (fold-roll-TypeExpr (List Bytes) (List Bytes) type_names_at bound_names_at x)) names;
      within = subst (λ z. z ≤ n)
          (sym (fold-roll-TypeExpr ℕ ℕ type_nodes_at bound_nodes_at x)) nodes;
    })

pub type_variable : (n : ℕ) (name : Bytes) → IsWritable name → 1 ≤ n
    → Sized TypeHolds type_nodes n (type.Variable name)
type_variable n name w l =
    of_type n (type_layer.Variable name) (type.Variable name) (type.rolls-Variable name) (w, tt) l

pub type_apply : (n : ℕ) (name : Bytes) (parts : List TypeExpr) → IsWritable name
    → AllByRecursion TypeHolds parts → 1 + sum (map type_nodes parts) ≤ n
    → Sized TypeHolds type_nodes n (type.Apply name parts)
type_apply n name parts w h l =
    of_type n (type_layer.Apply name parts) (type.Apply name parts) (type.rolls-Apply name parts)
    (w, writable_all type_names parts h) l

pub type_individuals : (n : ℕ) → 1 ≤ n → Sized TypeHolds type_nodes n type.Individuals
type_individuals n l =
    of_type n type_layer.Individuals type.Individuals type.rolls-Individuals tt l

pub type_truth : (n : ℕ) → 1 ≤ n → Sized TypeHolds type_nodes n type.Truth
type_truth n l = of_type n type_layer.Truth type.Truth type.rolls-Truth tt l

pub type_types : (n : ℕ) → 1 ≤ n → Sized TypeHolds type_nodes n type.Types
type_types n l = of_type n type_layer.Types type.Types type.rolls-Types tt l

pub type_product : (n : ℕ) (parts : List TypeExpr) → AllByRecursion TypeHolds parts
    → 1 + sum (map type_nodes parts) ≤ n → Sized TypeHolds type_nodes n (type.Product parts)
type_product n parts h l =
    of_type n (type_layer.Product parts) (type.Product parts) (type.rolls-Product parts)
    (writable_all type_names parts h) l

pub type_map : (n : ℕ) (left right : TypeExpr) → TypeHolds left → TypeHolds right
    → 1 + (type_nodes left + type_nodes right) ≤ n
    → Sized TypeHolds type_nodes n (type.Map left right)
type_map n left right h k l =
    of_type n (type_layer.Map left right) (type.Map left right) (type.rolls-Map left right)
    (writable_append (type_names left) (type_names right) h k) l

pub type_quantified : (n : ℕ) (bounds : List Bound) (body : TypeExpr)
    → AllByRecursion BoundHolds bounds → TypeHolds body
    → 1 + (sum (map bound_nodes bounds) + type_nodes body) ≤ n
    → Sized TypeHolds type_nodes n (type.Quantified bounds body)
type_quantified n bounds body h k l =
    of_type n (type_layer.Quantified bounds body) (type.Quantified bounds body)
    (type.rolls-Quantified bounds body)
    (subst (λ z. AreWritable (all_names z ++ type_names body))
    (sym (map-same (fold-Bound (List Bytes) (List Bytes) type_names_at bound_names_at) bound_names
    names-bound bounds))
    (writable_append (all_names (map bound_names bounds)) (type_names body)
    (writable_all bound_names bounds h) k))
    (subst (λ z. 1 + (sum z + type_nodes body) ≤ n)
    (sym (map-same (fold-Bound ℕ ℕ type_nodes_at bound_nodes_at) bound_nodes nodes-bound bounds)) l)

-- ---- terms

-- the names of the term can be written
abbrev pub TermHolds : RawTerm → Type 0
TermHolds t = AreWritable (term_names t)

abbrev pub names_in_term : RawTerm-F RawTerm → List Bytes
names_in_term x = term_names_at (map-RawTerm RawTerm (List Bytes) term_names x)

abbrev nodes_in_term : RawTerm-F RawTerm → ℕ
nodes_in_term x = term_nodes_at (map-RawTerm RawTerm ℕ term_nodes x)

of_term : (n : ℕ) (x : RawTerm-F RawTerm) (t : RawTerm) → roll-RawTerm x ≡ t
    → AreWritable (names_in_term x) → nodes_in_term x ≤ n → Sized TermHolds term_nodes n t
unfolding term_names term_nodes
of_term n x t is names nodes =
    subst (Sized TermHolds term_nodes n) is
    (record {
      holds = subst AreWritable (sym (fold-roll-RawTerm (List Bytes) term_names_at x)) names;
      within = subst (λ z. z ≤ n) (sym (fold-roll-RawTerm ℕ term_nodes_at x)) nodes;
    })

pub term_variable : (n : ℕ) (name : Bytes) → IsWritable name → 1 ≤ n
    → Sized TermHolds term_nodes n (term.Variable name)
term_variable n name w l =
    of_term n (term_layer.Variable name) (term.Variable name) (term.rolls-Variable name) (w, tt) l

pub term_apply : (n : ℕ) (name : Bytes) (parts : List RawTerm) → IsWritable name
    → AllByRecursion TermHolds parts → 1 + sum (map term_nodes parts) ≤ n
    → Sized TermHolds term_nodes n (term.Apply name parts)
term_apply n name parts w h l =
    of_term n (term_layer.Apply name parts) (term.Apply name parts) (term.rolls-Apply name parts)
    (w, writable_all term_names parts h) l

pub term_individuals : (n : ℕ) → 1 ≤ n → Sized TermHolds term_nodes n term.Individuals
term_individuals n l =
    of_term n term_layer.Individuals term.Individuals term.rolls-Individuals tt l

-- ---- formulas

-- the names of the formula can be written, and its chains have two parts at least
abbrev pub FormulaHolds : RawFormula → Type 0
FormulaHolds a = AreWritable (formula_names a) × IsTrue (has_chains a)

abbrev pub names_in_formula : RawFormula-F RawFormula → List Bytes
names_in_formula x = formula_names_at (map-RawFormula RawFormula (List Bytes) formula_names x)

abbrev chains_in_formula : RawFormula-F RawFormula → Bool
chains_in_formula x = has_chains_at (map-RawFormula RawFormula Bool has_chains x)

abbrev nodes_in_formula : RawFormula-F RawFormula → ℕ
nodes_in_formula x = formula_nodes_at (map-RawFormula RawFormula ℕ formula_nodes x)

of_formula : (n : ℕ) (x : RawFormula-F RawFormula) (a : RawFormula) → roll-RawFormula x ≡ a
    → AreWritable (names_in_formula x) → IsTrue (chains_in_formula x) → nodes_in_formula x ≤ n
    → Sized FormulaHolds formula_nodes n a
unfolding formula_names has_chains formula_nodes
of_formula n x a is names chains nodes =
    subst (Sized FormulaHolds formula_nodes n) is
    (record {
      holds = (
        subst AreWritable (sym (fold-roll-RawFormula (List Bytes) formula_names_at x)) names,
        fold-roll-RawFormula Bool has_chains_at x ∙ chains,
      );
      within = subst (λ z. z ≤ n) (sym (fold-roll-RawFormula ℕ formula_nodes_at x)) nodes;
    })

pub formula_true : (n : ℕ) → 1 ≤ n → Sized FormulaHolds formula_nodes n formula.True
formula_true n l =
    of_formula n formula_layer.True formula.True formula.rolls-True tt refl l

pub formula_false : (n : ℕ) → 1 ≤ n → Sized FormulaHolds formula_nodes n formula.False
formula_false n l =
    of_formula n formula_layer.False formula.False formula.rolls-False tt refl l

pub formula_atom : (n : ℕ) (name : Bytes) (parts : List RawTerm) → IsWritable name
    → AllByRecursion TermHolds parts → 1 + sum (map term_nodes parts) ≤ n
    → Sized FormulaHolds formula_nodes n (formula.Atom name parts)
formula_atom n name parts w h l =
    of_formula n (formula_layer.Atom name parts) (formula.Atom name parts)
    (formula.rolls-Atom name parts) (w, writable_all term_names parts h) refl l

pub formula_equal : (n : ℕ) (left right : RawTerm) → TermHolds left → TermHolds right
    → 1 + (term_nodes left + term_nodes right) ≤ n
    → Sized FormulaHolds formula_nodes n (formula.Equal left right)
formula_equal n left right h k l =
    of_formula n (formula_layer.Equal left right) (formula.Equal left right)
    (formula.rolls-Equal left right) (writable_append (term_names left) (term_names right) h k)
    refl l

pub formula_unequal : (n : ℕ) (left right : RawTerm) → TermHolds left → TermHolds right
    → 1 + (term_nodes left + term_nodes right) ≤ n
    → Sized FormulaHolds formula_nodes n (formula.Unequal left right)
formula_unequal n left right h k l =
    of_formula n (formula_layer.Unequal left right) (formula.Unequal left right)
    (formula.rolls-Unequal left right) (writable_append (term_names left) (term_names right) h k)
    refl l

pub formula_not : (n : ℕ) (part : RawFormula) → FormulaHolds part → 1 + formula_nodes part ≤ n
    → Sized FormulaHolds formula_nodes n (formula.Not part)
formula_not n part h l =
    of_formula n (formula_layer.Not part) (formula.Not part) (formula.rolls-Not part) h.0 h.1 l

names_of_parts : (parts : List RawFormula) → AllByRecursion FormulaHolds parts
    → AllByRecursion (λ a. AreWritable (formula_names a)) parts
names_of_parts [] h = tt
names_of_parts (a ∷ parts) h = (h.0.0, names_of_parts parts h.1)

pub true_both : (a b : Bool) → IsTrue a → IsTrue b → IsTrue (a && b)
true_both true b h k = k
true_both false b h k = h

all_chains : (parts : List RawFormula) → AllByRecursion FormulaHolds parts
    → IsTrue (list_all (λ part. part) (map has_chains parts))
all_chains [] h = refl
all_chains (a ∷ parts) h =
    true_both (has_chains a) (list_all (λ part. part) (map has_chains parts)) h.0.1
    (all_chains parts h.1)

at_least_two : (n : ℕ) → 2 ≤ n → leb 2 n ≡ true
at_least_two n l = grind (arith, nat_tests)

-- two parts at least, each with chains of two parts at least
chain : (parts : List RawFormula) → AllByRecursion FormulaHolds parts → 2 ≤ length parts
    → IsTrue (is_chain (map has_chains parts))
chain parts h l =
    let size = length-map parts has_chains in
    true_both (leb 2 (length (map has_chains parts)))
    (list_all (λ part. part) (map has_chains parts))
    (at_least_two (length (map has_chains parts)) (omega (arith, size, l))) (all_chains parts h)

pub formula_and : (n : ℕ) (parts : List RawFormula) → AllByRecursion FormulaHolds parts
    → 2 ≤ length parts → 1 + sum (map formula_nodes parts) ≤ n
    → Sized FormulaHolds formula_nodes n (formula.And parts)
formula_and n parts h two l =
    of_formula n (formula_layer.And parts) (formula.And parts) (formula.rolls-And parts)
    (writable_all formula_names parts (names_of_parts parts h)) (chain parts h two) l

pub formula_or : (n : ℕ) (parts : List RawFormula) → AllByRecursion FormulaHolds parts
    → 2 ≤ length parts → 1 + sum (map formula_nodes parts) ≤ n
    → Sized FormulaHolds formula_nodes n (formula.Or parts)
formula_or n parts h two l =
    of_formula n (formula_layer.Or parts) (formula.Or parts) (formula.rolls-Or parts)
    (writable_all formula_names parts (names_of_parts parts h)) (chain parts h two) l

-- what is asked of a formula that two others make up
abbrev pub OfTwo : (RawFormula → RawFormula → RawFormula) → Type 0
OfTwo make =
    (n : ℕ) (left right : RawFormula) → FormulaHolds left → FormulaHolds right
    → 1 + (formula_nodes left + formula_nodes right) ≤ n
    → Sized FormulaHolds formula_nodes n (make left right)

pub formula_implies : OfTwo formula.Implies
formula_implies n left right h k l =
    of_formula n (formula_layer.Implies left right) (formula.Implies left right)
    (formula.rolls-Implies left right)
    (writable_append (formula_names left) (formula_names right) h.0 k.0)
    (true_both (has_chains left) (has_chains right) h.1 k.1) l

pub formula_if : OfTwo formula.If
formula_if n left right h k l =
    of_formula n (formula_layer.If left right) (formula.If left right)
    (formula.rolls-If left right)
    (writable_append (formula_names left) (formula_names right) h.0 k.0)
    (true_both (has_chains left) (has_chains right) h.1 k.1) l

pub formula_iff : OfTwo formula.Iff
formula_iff n left right h k l =
    of_formula n (formula_layer.Iff left right) (formula.Iff left right)
    (formula.rolls-Iff left right)
    (writable_append (formula_names left) (formula_names right) h.0 k.0)
    (true_both (has_chains left) (has_chains right) h.1 k.1) l

pub formula_xor : OfTwo formula.Xor
formula_xor n left right h k l =
    of_formula n (formula_layer.Xor left right) (formula.Xor left right)
    (formula.rolls-Xor left right)
    (writable_append (formula_names left) (formula_names right) h.0 k.0)
    (true_both (has_chains left) (has_chains right) h.1 k.1) l

pub formula_nand : OfTwo formula.Nand
formula_nand n left right h k l =
    of_formula n (formula_layer.Nand left right) (formula.Nand left right)
    (formula.rolls-Nand left right)
    (writable_append (formula_names left) (formula_names right) h.0 k.0)
    (true_both (has_chains left) (has_chains right) h.1 k.1) l

pub formula_nor : OfTwo formula.Nor
formula_nor n left right h k l =
    of_formula n (formula_layer.Nor left right) (formula.Nor left right)
    (formula.rolls-Nor left right)
    (writable_append (formula_names left) (formula_names right) h.0 k.0)
    (true_both (has_chains left) (has_chains right) h.1 k.1) l

-- what is asked of a quantified formula
abbrev pub OfBound : (List Bound → RawFormula → RawFormula) → Type 0
OfBound make =
    (n : ℕ) (bounds : List Bound) (body : RawFormula) → AllByRecursion BoundHolds bounds
    → FormulaHolds body → 1 + (sum (map bound_nodes bounds) + formula_nodes body) ≤ n
    → Sized FormulaHolds formula_nodes n (make bounds body)

pub formula_for_all : OfBound formula.ForAll
formula_for_all n bounds body h k l =
    of_formula n (formula_layer.ForAll bounds body) (formula.ForAll bounds body)
    (formula.rolls-ForAll bounds body)
    (writable_append (all_names (map bound_names bounds)) (formula_names body)
    (writable_all bound_names bounds h) k.0) k.1 l

pub formula_exists : OfBound formula.Exists
formula_exists n bounds body h k l =
    of_formula n (formula_layer.Exists bounds body) (formula.Exists bounds body)
    (formula.rolls-Exists bounds body)
    (writable_append (all_names (map bound_names bounds)) (formula_names body)
    (writable_all bound_names bounds h) k.0) k.1 l
