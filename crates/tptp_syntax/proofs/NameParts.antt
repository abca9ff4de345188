-- Where the names of a tree can be written, so can those of its parts.
use Rattle.std.proofs.Common.{◌≡◌, List, [], ◌∷◌, ◌++◌, map, sym, subst}
use Rattle.std.specs.List.{AllByRecursion}
use Rattle.enc_base.specs.Names.{IsWritable}
use Rattle.tptp_syntax.specs.declared.types.TypeExpr.{TypeExpr, roll-TypeExpr}
use Rattle.tptp_syntax.specs.declared.types.TypeExpr.TheVariants as type
use Rattle.tptp_syntax.specs.declared.types.TypeExpr.TheOpen.{TypeExpr-F}
use Rattle.tptp_syntax.specs.declared.types.TypeExpr.TheOpen as type_layer
use Rattle.tptp_syntax.specs.declared.types.TypeExpr.TheFolds.{fold-Bound, fold-roll-TypeExpr}
use Rattle.tptp_syntax.specs.declared.types.Bound.{Bound}
use Rattle.tptp_syntax.specs.declared.term.RawTerm.{RawTerm, roll-RawTerm}
use Rattle.tptp_syntax.specs.declared.term.RawTerm.TheVariants as term
use Rattle.tptp_syntax.specs.declared.term.RawTerm.TheOpen.{RawTerm-F}
use Rattle.tptp_syntax.specs.declared.term.RawTerm.TheOpen as term_layer
use Rattle.tptp_syntax.specs.declared.term.RawTerm.TheFolds.{fold-roll-RawTerm}
use Rattle.tptp_syntax.specs.declared.formula.RawFormula.{RawFormula, roll-RawFormula}
use Rattle.tptp_syntax.specs.declared.formula.RawFormula.TheVariants as formula
use Rattle.tptp_syntax.specs.declared.formula.RawFormula.TheOpen.{RawFormula-F}
use Rattle.tptp_syntax.specs.declared.formula.RawFormula.TheOpen as formula_layer
use Rattle.tptp_syntax.specs.declared.formula.RawFormula.TheFolds.{fold-roll-RawFormula}
use Rattle.tptp_syntax.specs.FileNames.{Bytes, all_names, type_names, type_names_at}
use Rattle.tptp_syntax.specs.FileNames.{bound_names, bound_names_at, term_names, term_names_at}
use Rattle.tptp_syntax.specs.FileNames.{formula_names, formula_names_at}
use Rattle.tptp_syntax.proofs.TreeFacts.{AreWritable, TypeHolds, BoundHolds, TermHolds, map-same}
use Rattle.tptp_syntax.proofs.TreeFacts.{names-bound, names_in_type, names_in_term}
use Rattle.tptp_syntax.proofs.TreeFacts.{names_in_formula}

-- ---- lists

parts_of_append : (xs ys : List Bytes) → AreWritable (xs ++ ys) → AreWritable xs × AreWritable ys
parts_of_append [] ys h = (tt, h)
parts_of_append (x ∷ xs) ys h =
    let more = parts_of_append xs ys h.1 in ((h.0, more.0), more.1)

pub parts_of_all : {A : Type 0} (names : A → List Bytes) (xs : List A)
    → AreWritable (all_names (map names xs)) → AllByRecursion (λ x. AreWritable (names x)) xs
parts_of_all names [] h = tt
parts_of_all names (x ∷ xs) h =
    let both = parts_of_append (names x) (all_names (map names xs)) h in
    (both.0, parts_of_all names xs both.1)

-- ---- types

parts_of_type : (x : TypeExpr-F TypeExpr Bound) (a : TypeExpr) → roll-TypeExpr x ≡ a → TypeHolds a
    → AreWritable (names_in_type x)
unfolding type_names
parts_of_type x a is h =
    subst AreWritable (fold-roll-TypeExpr (List Bytes) (List Bytes) type_names_at bound_names_at x)
    (subst TypeHolds (sym is) h)

pub parts_of_type-variable : (name : Bytes) → TypeHolds (type.Variable name) → IsWritable name
parts_of_type-variable name h =
    (parts_of_type (type_layer.Variable name) (type.Variable name) (type.rolls-Variable name) h).0

pub parts_of_type-apply : (name : Bytes) (parts : List TypeExpr)
    → TypeHolds (type.Apply name parts) → IsWritable name × AllByRecursion TypeHolds parts
parts_of_type-apply name parts h =
    let all = parts_of_type (type_layer.Apply name parts) (type.Apply name parts)
    (type.rolls-Apply name parts) h in
    (all.0, parts_of_all type_names parts all.1)

pub parts_of_type-product : (parts : List TypeExpr) → TypeHolds (type.Product parts)
    → AllByRecursion TypeHolds parts
parts_of_type-product parts h =
    parts_of_all type_names parts
    (parts_of_type (type_layer.Product parts) (type.Product parts) (type.rolls-Product parts) h)

pub parts_of_type-map : (left right : TypeExpr) → TypeHolds (type.Map left right)
    → TypeHolds left × TypeHolds right
parts_of_type-map left right h =
    parts_of_append (type_names left) (type_names right)
    (parts_of_type (type_layer.Map left right) (type.Map left right) (type.rolls-Map left right) h)

pub parts_of_type-quantified : (bounds : List Bound) (body : TypeExpr)
    → TypeHolds (type.Quantified bounds body) → AllByRecursion BoundHolds bounds × TypeHolds body
parts_of_type-quantified bounds body h =
    let all = parts_of_type (type_layer.Quantified bounds body) (type.Quantified bounds body)
    (type.rolls-Quantified bounds body) h in
    let both = parts_of_append (all_names (map bound_names bounds)) (type_names body)
    (subst (λ z. AreWritable (all_names z ++ type_names body))
    (map-same (fold-Bound (List Bytes) (List Bytes) type_names_at bound_names_at) bound_names
    names-bound bounds) all) in
    (parts_of_all bound_names bounds both.0, both.1)

-- ---- terms

parts_of_term : (x : RawTerm-F RawTerm) (t : RawTerm) → roll-RawTerm x ≡ t → TermHolds t
    → AreWritable (names_in_term x)
unfolding term_names
parts_of_term x t is h =
    subst AreWritable (fold-roll-RawTerm (List Bytes) term_names_at x) (subst TermHolds (sym is) h)

pub parts_of_term-variable : (name : Bytes) → TermHolds (term.Variable name) → IsWritable name
parts_of_term-variable name h =
    (parts_of_term (term_layer.Variable name) (term.Variable name) (term.rolls-Variable name) h).0

pub parts_of_term-apply : (name : Bytes) (parts : List RawTerm) → TermHolds (term.Apply name parts)
    → IsWritable name × AllByRecursion TermHolds parts
parts_of_term-apply name parts h =
    let all = parts_of_term (term_layer.Apply name parts) (term.Apply name parts)
    (term.rolls-Apply name parts) h in
    (all.0, parts_of_all term_names parts all.1)

-- ---- formulas

-- the names of the formula can be written
abbrev pub NamesHold : RawFormula → Type 0
NamesHold a = AreWritable (formula_names a)

parts_of_formula : (x : RawFormula-F RawFormula) (a : RawFormula) → roll-RawFormula x ≡ a
    → NamesHold a → AreWritable (names_in_formula x)
unfolding formula_names
parts_of_formula x a is h =
    subst AreWritable (fold-roll-RawFormula (List Bytes) formula_names_at x)
    (subst NamesHold (sym is) h)

pub parts_of_formula-atom : (name : Bytes) (parts : List RawTerm)
    → NamesHold (formula.Atom name parts) → IsWritable name × AllByRecursion TermHolds parts
parts_of_formula-atom name parts h =
    let all = parts_of_formula (formula_layer.Atom name parts) (formula.Atom name parts)
    (formula.rolls-Atom name parts) h in
    (all.0, parts_of_all term_names parts all.1)

pub parts_of_formula-equal : (left right : RawTerm) → NamesHold (formula.Equal left right)
    → TermHolds left × TermHolds right
parts_of_formula-equal left right h =
    parts_of_append (term_names left) (term_names right)
    (parts_of_formula (formula_layer.Equal left right) (formula.Equal left right)
    (formula.rolls-Equal left right) h)

pub parts_of_formula-unequal : (left right : RawTerm) → NamesHold (formula.Unequal left right)
    → TermHolds left × TermHolds right
parts_of_formula-unequal left right h =
    parts_of_append (term_names left) (term_names right)
    (parts_of_formula (formula_layer.Unequal left right) (formula.Unequal left right)
    (formula.rolls-Unequal left right) h)

pub parts_of_formula-not : (part : RawFormula) → NamesHold (formula.Not part) → NamesHold part
parts_of_formula-not part h =
    parts_of_formula (formula_layer.Not part) (formula.Not part) (formula.rolls-Not part) h

pub parts_of_formula-and : (parts : List RawFormula) → NamesHold (formula.And parts)
    → AllByRecursion NamesHold parts
parts_of_formula-and parts h =
    parts_of_all formula_names parts
    (parts_of_formula (formula_layer.And parts) (formula.And parts) (formula.rolls-And parts) h)

pub parts_of_formula-or : (parts : List RawFormula) → NamesHold (formula.Or parts)
    → AllByRecursion NamesHold parts
parts_of_formula-or parts h =
    parts_of_all formula_names parts
    (parts_of_formula (formula_layer.Or parts) (formula.Or parts) (formula.rolls-Or parts) h)

-- a formula that two others make up
abbrev pub OfTwo : (RawFormula → RawFormula → RawFormula) → Type 0
OfTwo make =
    (left right : RawFormula) → NamesHold (make left right)
    → NamesHold left × NamesHold right

pub parts_of_formula-implies : OfTwo formula.Implies
parts_of_formula-implies left right h =
    parts_of_append (formula_names left) (formula_names right)
    (parts_of_formula (formula_layer.Implies left right) (formula.Implies left right)
    (formula.rolls-Implies left right) h)

pub parts_of_formula-if : OfTwo formula.If
parts_of_formula-if left right h =
    parts_of_append (formula_names left) (formula_names right)
    (parts_of_formula (formula_layer.If left right) (formula.If left right)
    (formula.rolls-If left right) h)

pub parts_of_formula-iff : OfTwo formula.Iff
parts_of_formula-iff left right h =
    parts_of_append (formula_names left) (formula_names right)
    (parts_of_formula (formula_layer.Iff left right) (formula.Iff left right)
    (formula.rolls-Iff left right) h)

pub parts_of_formula-xor : OfTwo formula.Xor
parts_of_formula-xor left right h =
    parts_of_append (formula_names left) (formula_names right)
    (parts_of_formula (formula_layer.Xor left right) (formula.Xor left right)
    (formula.rolls-Xor left right) h)

pub parts_of_formula-nand : OfTwo formula.Nand
parts_of_formula-nand left right h =
    parts_of_append (formula_names left) (formula_names right)
    (parts_of_formula (formula_layer.Nand left right) (formula.Nand left right)
    (formula.rolls-Nand left right) h)

pub parts_of_formula-nor : OfTwo formula.Nor
parts_of_formula-nor left right h =
    parts_of_append (formula_names left) (formula_names right)
    (parts_of_formula (formula_layer.Nor left right) (formula.Nor left right)
    (formula.rolls-Nor left right) h)

-- a quantified formula
abbrev pub OfBound : (List Bound → RawFormula → RawFormula) → Type 0
OfBound make =
    (bounds : List Bound) (body : RawFormula) → NamesHold (make bounds body)
    → AllByRecursion BoundHolds bounds × NamesHold body

pub parts_of_formula-for_all : OfBound formula.ForAll
parts_of_formula-for_all bounds body h =
    let both = parts_of_append (all_names (map bound_names bounds)) (formula_names body)
    (parts_of_formula (formula_layer.ForAll bounds body) (formula.ForAll bounds body)
    (formula.rolls-ForAll bounds body) h) in
    (parts_of_all bound_names bounds both.0, both.1)

pub parts_of_formula-exists : OfBound formula.Exists
parts_of_formula-exists bounds body h =
    let both = parts_of_append (all_names (map bound_names bounds)) (formula_names body)
    (parts_of_formula (formula_layer.Exists bounds body) (formula.Exists bounds body)
    (formula.rolls-Exists bounds body) h) in
    (parts_of_all bound_names bounds both.0, both.1)
