-- The equations of the readings of formulas.
use Rattle.std.proofs.Common.{◌≡◌, ℕ, List, map, sym, ap, ◌∙◌}
use Rattle.tptp_syntax.specs.declared.types.Bound.{Bound}
use Rattle.tptp_syntax.specs.declared.term.RawTerm.{RawTerm}
use Rattle.tptp_syntax.specs.declared.formula.RawFormula.{RawFormula}
use Rattle.tptp_syntax.specs.declared.formula.RawFormula.TheVariants as r
use Rattle.tptp_syntax.specs.declared.formula.RawFormula.TheOpen as layer
use Rattle.tptp_syntax.specs.declared.formula.RawFormula.TheFolds.{fold-roll-RawFormula}
use Rattle.tf_core.specs.declared.signature.Signature.{Signature}
use Rattle.tf_check.specs.Formulas.{FormulaReading, formula_reading, formula_at}

pub formula_reading-true : (entry : ℕ) (signature : Signature) →
    formula_reading entry signature r.True ≡ formula_at entry signature layer.True
unfolding formula_reading
formula_reading-true entry signature =
    ap (formula_reading entry signature) (sym r.rolls-True)
    ∙ fold-roll-RawFormula FormulaReading (formula_at entry signature) layer.True

pub formula_reading-false : (entry : ℕ) (signature : Signature) →
    formula_reading entry signature r.False ≡ formula_at entry signature layer.False
unfolding formula_reading
formula_reading-false entry signature =
    ap (formula_reading entry signature) (sym r.rolls-False)
    ∙ fold-roll-RawFormula FormulaReading (formula_at entry signature) layer.False

pub formula_reading-atom : (entry : ℕ) (signature : Signature) (name : List ℕ) (arguments : List RawTerm) →
    formula_reading entry signature (r.Atom name arguments) ≡ formula_at entry signature (layer.Atom name arguments)
unfolding formula_reading
formula_reading-atom entry signature name arguments =
    ap (formula_reading entry signature) (sym (r.rolls-Atom name arguments))
    ∙ fold-roll-RawFormula FormulaReading (formula_at entry signature) (layer.Atom name arguments)

pub formula_reading-equal : (entry : ℕ) (signature : Signature) (left : RawTerm) (right : RawTerm) →
    formula_reading entry signature (r.Equal left right) ≡ formula_at entry signature (layer.Equal left right)
unfolding formula_reading
formula_reading-equal entry signature left right =
    ap (formula_reading entry signature) (sym (r.rolls-Equal left right))
    ∙ fold-roll-RawFormula FormulaReading (formula_at entry signature) (layer.Equal left right)

pub formula_reading-unequal : (entry : ℕ) (signature : Signature) (left : RawTerm) (right : RawTerm) →
    formula_reading entry signature (r.Unequal left right) ≡ formula_at entry signature (layer.Unequal left right)
unfolding formula_reading
formula_reading-unequal entry signature left right =
    ap (formula_reading entry signature) (sym (r.rolls-Unequal left right))
    ∙ fold-roll-RawFormula FormulaReading (formula_at entry signature) (layer.Unequal left right)

pub formula_reading-not : (entry : ℕ) (signature : Signature) (part : RawFormula) →
    formula_reading entry signature (r.Not part) ≡ formula_at entry signature (layer.Not (formula_reading entry signature part))
unfolding formula_reading
formula_reading-not entry signature part =
    ap (formula_reading entry signature) (sym (r.rolls-Not part))
    ∙ fold-roll-RawFormula FormulaReading (formula_at entry signature) (layer.Not part)

pub formula_reading-and : (entry : ℕ) (signature : Signature) (parts : List RawFormula) →
    formula_reading entry signature (r.And parts) ≡ formula_at entry signature (layer.And (map (formula_reading entry signature) parts))
unfolding formula_reading
formula_reading-and entry signature parts =
    ap (formula_reading entry signature) (sym (r.rolls-And parts))
    ∙ fold-roll-RawFormula FormulaReading (formula_at entry signature) (layer.And parts)

pub formula_reading-or : (entry : ℕ) (signature : Signature) (parts : List RawFormula) →
    formula_reading entry signature (r.Or parts) ≡ formula_at entry signature (layer.Or (map (formula_reading entry signature) parts))
unfolding formula_reading
formula_reading-or entry signature parts =
    ap (formula_reading entry signature) (sym (r.rolls-Or parts))
    ∙ fold-roll-RawFormula FormulaReading (formula_at entry signature) (layer.Or parts)

pub formula_reading-implies : (entry : ℕ) (signature : Signature) (left : RawFormula) (right : RawFormula) →
    formula_reading entry signature (r.Implies left right) ≡ formula_at entry signature (layer.Implies (formula_reading entry signature left) (formula_reading entry signature right))
unfolding formula_reading
formula_reading-implies entry signature left right =
    ap (formula_reading entry signature) (sym (r.rolls-Implies left right))
    ∙ fold-roll-RawFormula FormulaReading (formula_at entry signature) (layer.Implies left right)

pub formula_reading-if : (entry : ℕ) (signature : Signature) (left : RawFormula) (right : RawFormula) →
    formula_reading entry signature (r.If left right) ≡ formula_at entry signature (layer.If (formula_reading entry signature left) (formula_reading entry signature right))
unfolding formula_reading
formula_reading-if entry signature left right =
    ap (formula_reading entry signature) (sym (r.rolls-If left right))
    ∙ fold-roll-RawFormula FormulaReading (formula_at entry signature) (layer.If left right)

pub formula_reading-iff : (entry : ℕ) (signature : Signature) (left : RawFormula) (right : RawFormula) →
    formula_reading entry signature (r.Iff left right) ≡ formula_at entry signature (layer.Iff (formula_reading entry signature left) (formula_reading entry signature right))
unfolding formula_reading
formula_reading-iff entry signature left right =
    ap (formula_reading entry signature) (sym (r.rolls-Iff left right))
    ∙ fold-roll-RawFormula FormulaReading (formula_at entry signature) (layer.Iff left right)

pub formula_reading-xor : (entry : ℕ) (signature : Signature) (left : RawFormula) (right : RawFormula) →
    formula_reading entry signature (r.Xor left right) ≡ formula_at entry signature (layer.Xor (formula_reading entry signature left) (formula_reading entry signature right))
unfolding formula_reading
formula_reading-xor entry signature left right =
    ap (formula_reading entry signature) (sym (r.rolls-Xor left right))
    ∙ fold-roll-RawFormula FormulaReading (formula_at entry signature) (layer.Xor left right)

pub formula_reading-nand : (entry : ℕ) (signature : Signature) (left : RawFormula) (right : RawFormula) →
    formula_reading entry signature (r.Nand left right) ≡ formula_at entry signature (layer.Nand (formula_reading entry signature left) (formula_reading entry signature right))
unfolding formula_reading
formula_reading-nand entry signature left right =
    ap (formula_reading entry signature) (sym (r.rolls-Nand left right))
    ∙ fold-roll-RawFormula FormulaReading (formula_at entry signature) (layer.Nand left right)

pub formula_reading-nor : (entry : ℕ) (signature : Signature) (left : RawFormula) (right : RawFormula) →
    formula_reading entry signature (r.Nor left right) ≡ formula_at entry signature (layer.Nor (formula_reading entry signature left) (formula_reading entry signature right))
unfolding formula_reading
formula_reading-nor entry signature left right =
    ap (formula_reading entry signature) (sym (r.rolls-Nor left right))
    ∙ fold-roll-RawFormula FormulaReading (formula_at entry signature) (layer.Nor left right)

pub formula_reading-for_all : (entry : ℕ) (signature : Signature) (bounds : List Bound) (body : RawFormula) →
    formula_reading entry signature (r.ForAll bounds body) ≡ formula_at entry signature (layer.ForAll bounds (formula_reading entry signature body))
unfolding formula_reading
formula_reading-for_all entry signature bounds body =
    ap (formula_reading entry signature) (sym (r.rolls-ForAll bounds body))
    ∙ fold-roll-RawFormula FormulaReading (formula_at entry signature) (layer.ForAll bounds body)

pub formula_reading-exists : (entry : ℕ) (signature : Signature) (bounds : List Bound) (body : RawFormula) →
    formula_reading entry signature (r.Exists bounds body) ≡ formula_at entry signature (layer.Exists bounds (formula_reading entry signature body))
unfolding formula_reading
formula_reading-exists entry signature bounds body =
    ap (formula_reading entry signature) (sym (r.rolls-Exists bounds body))
    ∙ fold-roll-RawFormula FormulaReading (formula_at entry signature) (layer.Exists bounds body)
