-- The equations of the names of formulas.
use Rattle.std.proofs.Common.{◌≡◌, ℕ, List, map, sym, ap, ◌∙◌}
use Rattle.tptp_syntax.specs.declared.types.Bound.{Bound}
use Rattle.tptp_syntax.specs.declared.term.RawTerm.{RawTerm}
use Rattle.tptp_syntax.specs.declared.formula.RawFormula.{RawFormula}
use Rattle.tptp_syntax.specs.declared.formula.RawFormula.TheVariants as r
use Rattle.tptp_syntax.specs.declared.formula.RawFormula.TheOpen as layer
use Rattle.tptp_syntax.specs.declared.formula.RawFormula.TheFolds.{fold-roll-RawFormula}
use Rattle.tf_check.specs.Names.{Occurrence, names_of_formula, names_of_formula_at}

pub names_of_formula-true : (parameters : List ℕ → ℕ) →
    names_of_formula parameters r.True ≡ names_of_formula_at parameters layer.True
unfolding names_of_formula
names_of_formula-true parameters =
    ap (names_of_formula parameters) (sym r.rolls-True)
    ∙ fold-roll-RawFormula (List Occurrence) (names_of_formula_at parameters) layer.True

pub names_of_formula-false : (parameters : List ℕ → ℕ) →
    names_of_formula parameters r.False ≡ names_of_formula_at parameters layer.False
unfolding names_of_formula
names_of_formula-false parameters =
    ap (names_of_formula parameters) (sym r.rolls-False)
    ∙ fold-roll-RawFormula (List Occurrence) (names_of_formula_at parameters) layer.False

pub names_of_formula-atom : (parameters : List ℕ → ℕ) (name : List ℕ) (arguments : List RawTerm) →
    names_of_formula parameters (r.Atom name arguments) ≡ names_of_formula_at parameters (layer.Atom name arguments)
unfolding names_of_formula
names_of_formula-atom parameters name arguments =
    ap (names_of_formula parameters) (sym (r.rolls-Atom name arguments))
    ∙ fold-roll-RawFormula (List Occurrence) (names_of_formula_at parameters) (layer.Atom name arguments)

pub names_of_formula-equal : (parameters : List ℕ → ℕ) (left : RawTerm) (right : RawTerm) →
    names_of_formula parameters (r.Equal left right) ≡ names_of_formula_at parameters (layer.Equal left right)
unfolding names_of_formula
names_of_formula-equal parameters left right =
    ap (names_of_formula parameters) (sym (r.rolls-Equal left right))
    ∙ fold-roll-RawFormula (List Occurrence) (names_of_formula_at parameters) (layer.Equal left right)

pub names_of_formula-unequal : (parameters : List ℕ → ℕ) (left : RawTerm) (right : RawTerm) →
    names_of_formula parameters (r.Unequal left right) ≡ names_of_formula_at parameters (layer.Unequal left right)
unfolding names_of_formula
names_of_formula-unequal parameters left right =
    ap (names_of_formula parameters) (sym (r.rolls-Unequal left right))
    ∙ fold-roll-RawFormula (List Occurrence) (names_of_formula_at parameters) (layer.Unequal left right)

pub names_of_formula-not : (parameters : List ℕ → ℕ) (part : RawFormula) →
    names_of_formula parameters (r.Not part) ≡ names_of_formula_at parameters (layer.Not (names_of_formula parameters part))
unfolding names_of_formula
names_of_formula-not parameters part =
    ap (names_of_formula parameters) (sym (r.rolls-Not part))
    ∙ fold-roll-RawFormula (List Occurrence) (names_of_formula_at parameters) (layer.Not part)

pub names_of_formula-and : (parameters : List ℕ → ℕ) (parts : List RawFormula) →
    names_of_formula parameters (r.And parts) ≡ names_of_formula_at parameters (layer.And (map (names_of_formula parameters) parts))
unfolding names_of_formula
names_of_formula-and parameters parts =
    ap (names_of_formula parameters) (sym (r.rolls-And parts))
    ∙ fold-roll-RawFormula (List Occurrence) (names_of_formula_at parameters) (layer.And parts)

pub names_of_formula-or : (parameters : List ℕ → ℕ) (parts : List RawFormula) →
    names_of_formula parameters (r.Or parts) ≡ names_of_formula_at parameters (layer.Or (map (names_of_formula parameters) parts))
unfolding names_of_formula
names_of_formula-or parameters parts =
    ap (names_of_formula parameters) (sym (r.rolls-Or parts))
    ∙ fold-roll-RawFormula (List Occurrence) (names_of_formula_at parameters) (layer.Or parts)

pub names_of_formula-implies : (parameters : List ℕ → ℕ) (left : RawFormula) (right : RawFormula) →
    names_of_formula parameters (r.Implies left right) ≡ names_of_formula_at parameters (layer.Implies (names_of_formula parameters left) (names_of_formula parameters right))
unfolding names_of_formula
names_of_formula-implies parameters left right =
    ap (names_of_formula parameters) (sym (r.rolls-Implies left right))
    ∙ fold-roll-RawFormula (List Occurrence) (names_of_formula_at parameters) (layer.Implies left right)

pub names_of_formula-if : (parameters : List ℕ → ℕ) (left : RawFormula) (right : RawFormula) →
    names_of_formula parameters (r.If left right) ≡ names_of_formula_at parameters (layer.If (names_of_formula parameters left) (names_of_formula parameters right))
unfolding names_of_formula
names_of_formula-if parameters left right =
    ap (names_of_formula parameters) (sym (r.rolls-If left right))
    ∙ fold-roll-RawFormula (List Occurrence) (names_of_formula_at parameters) (layer.If left right)

pub names_of_formula-iff : (parameters : List ℕ → ℕ) (left : RawFormula) (right : RawFormula) →
    names_of_formula parameters (r.Iff left right) ≡ names_of_formula_at parameters (layer.Iff (names_of_formula parameters left) (names_of_formula parameters right))
unfolding names_of_formula
names_of_formula-iff parameters left right =
    ap (names_of_formula parameters) (sym (r.rolls-Iff left right))
    ∙ fold-roll-RawFormula (List Occurrence) (names_of_formula_at parameters) (layer.Iff left right)

pub names_of_formula-xor : (parameters : List ℕ → ℕ) (left : RawFormula) (right : RawFormula) →
    names_of_formula parameters (r.Xor left right) ≡ names_of_formula_at parameters (layer.Xor (names_of_formula parameters left) (names_of_formula parameters right))
unfolding names_of_formula
names_of_formula-xor parameters left right =
    ap (names_of_formula parameters) (sym (r.rolls-Xor left right))
    ∙ fold-roll-RawFormula (List Occurrence) (names_of_formula_at parameters) (layer.Xor left right)

pub names_of_formula-nand : (parameters : List ℕ → ℕ) (left : RawFormula) (right : RawFormula) →
    names_of_formula parameters (r.Nand left right) ≡ names_of_formula_at parameters (layer.Nand (names_of_formula parameters left) (names_of_formula parameters right))
unfolding names_of_formula
names_of_formula-nand parameters left right =
    ap (names_of_formula parameters) (sym (r.rolls-Nand left right))
    ∙ fold-roll-RawFormula (List Occurrence) (names_of_formula_at parameters) (layer.Nand left right)

pub names_of_formula-nor : (parameters : List ℕ → ℕ) (left : RawFormula) (right : RawFormula) →
    names_of_formula parameters (r.Nor left right) ≡ names_of_formula_at parameters (layer.Nor (names_of_formula parameters left) (names_of_formula parameters right))
unfolding names_of_formula
names_of_formula-nor parameters left right =
    ap (names_of_formula parameters) (sym (r.rolls-Nor left right))
    ∙ fold-roll-RawFormula (List Occurrence) (names_of_formula_at parameters) (layer.Nor left right)

pub names_of_formula-for_all : (parameters : List ℕ → ℕ) (bounds : List Bound) (body : RawFormula) →
    names_of_formula parameters (r.ForAll bounds body) ≡ names_of_formula_at parameters (layer.ForAll bounds (names_of_formula parameters body))
unfolding names_of_formula
names_of_formula-for_all parameters bounds body =
    ap (names_of_formula parameters) (sym (r.rolls-ForAll bounds body))
    ∙ fold-roll-RawFormula (List Occurrence) (names_of_formula_at parameters) (layer.ForAll bounds body)

pub names_of_formula-exists : (parameters : List ℕ → ℕ) (bounds : List Bound) (body : RawFormula) →
    names_of_formula parameters (r.Exists bounds body) ≡ names_of_formula_at parameters (layer.Exists bounds (names_of_formula parameters body))
unfolding names_of_formula
names_of_formula-exists parameters bounds body =
    ap (names_of_formula parameters) (sym (r.rolls-Exists bounds body))
    ∙ fold-roll-RawFormula (List Occurrence) (names_of_formula_at parameters) (layer.Exists bounds body)
