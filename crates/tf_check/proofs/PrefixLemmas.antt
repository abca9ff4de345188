-- The equations of the type variables of the leading prefix.
use Rattle.std.proofs.Common.{◌≡◌, ℕ, List, map, sym, ap, ◌∙◌}
use Rattle.tptp_syntax.specs.declared.types.Bound.{Bound}
use Rattle.tptp_syntax.specs.declared.term.RawTerm.{RawTerm}
use Rattle.tptp_syntax.specs.declared.formula.RawFormula.{RawFormula}
use Rattle.tptp_syntax.specs.declared.formula.RawFormula.TheVariants as r
use Rattle.tptp_syntax.specs.declared.formula.RawFormula.TheOpen as layer
use Rattle.tptp_syntax.specs.declared.formula.RawFormula.TheFolds.{fold-roll-RawFormula}
use Rattle.tf_check.specs.Formulas.{prefix_types, prefix_types_at}

pub prefix_types-true : prefix_types r.True ≡ prefix_types_at layer.True
unfolding prefix_types
prefix_types-true =
    ap prefix_types (sym r.rolls-True)
    ∙ fold-roll-RawFormula ℕ prefix_types_at layer.True

pub prefix_types-false : prefix_types r.False ≡ prefix_types_at layer.False
unfolding prefix_types
prefix_types-false =
    ap prefix_types (sym r.rolls-False)
    ∙ fold-roll-RawFormula ℕ prefix_types_at layer.False

pub prefix_types-atom : (name : List ℕ) (arguments : List RawTerm) →
    prefix_types (r.Atom name arguments) ≡ prefix_types_at (layer.Atom name arguments)
unfolding prefix_types
prefix_types-atom name arguments =
    ap prefix_types (sym (r.rolls-Atom name arguments))
    ∙ fold-roll-RawFormula ℕ prefix_types_at (layer.Atom name arguments)

pub prefix_types-equal : (left : RawTerm) (right : RawTerm) →
    prefix_types (r.Equal left right) ≡ prefix_types_at (layer.Equal left right)
unfolding prefix_types
prefix_types-equal left right =
    ap prefix_types (sym (r.rolls-Equal left right))
    ∙ fold-roll-RawFormula ℕ prefix_types_at (layer.Equal left right)

pub prefix_types-unequal : (left : RawTerm) (right : RawTerm) →
    prefix_types (r.Unequal left right) ≡ prefix_types_at (layer.Unequal left right)
unfolding prefix_types
prefix_types-unequal left right =
    ap prefix_types (sym (r.rolls-Unequal left right))
    ∙ fold-roll-RawFormula ℕ prefix_types_at (layer.Unequal left right)

pub prefix_types-not : (part : RawFormula) →
    prefix_types (r.Not part) ≡ prefix_types_at (layer.Not (prefix_types part))
unfolding prefix_types
prefix_types-not part =
    ap prefix_types (sym (r.rolls-Not part))
    ∙ fold-roll-RawFormula ℕ prefix_types_at (layer.Not part)

pub prefix_types-and : (parts : List RawFormula) →
    prefix_types (r.And parts) ≡ prefix_types_at (layer.And (map prefix_types parts))
unfolding prefix_types
prefix_types-and parts =
    ap prefix_types (sym (r.rolls-And parts))
    ∙ fold-roll-RawFormula ℕ prefix_types_at (layer.And parts)

pub prefix_types-or : (parts : List RawFormula) →
    prefix_types (r.Or parts) ≡ prefix_types_at (layer.Or (map prefix_types parts))
unfolding prefix_types
prefix_types-or parts =
    ap prefix_types (sym (r.rolls-Or parts))
    ∙ fold-roll-RawFormula ℕ prefix_types_at (layer.Or parts)

pub prefix_types-implies : (left : RawFormula) (right : RawFormula) →
    prefix_types (r.Implies left right) ≡ prefix_types_at (layer.Implies (prefix_types left) (prefix_types right))
unfolding prefix_types
prefix_types-implies left right =
    ap prefix_types (sym (r.rolls-Implies left right))
    ∙ fold-roll-RawFormula ℕ prefix_types_at (layer.Implies left right)

pub prefix_types-if : (left : RawFormula) (right : RawFormula) →
    prefix_types (r.If left right) ≡ prefix_types_at (layer.If (prefix_types left) (prefix_types right))
unfolding prefix_types
prefix_types-if left right =
    ap prefix_types (sym (r.rolls-If left right))
    ∙ fold-roll-RawFormula ℕ prefix_types_at (layer.If left right)

pub prefix_types-iff : (left : RawFormula) (right : RawFormula) →
    prefix_types (r.Iff left right) ≡ prefix_types_at (layer.Iff (prefix_types left) (prefix_types right))
unfolding prefix_types
prefix_types-iff left right =
    ap prefix_types (sym (r.rolls-Iff left right))
    ∙ fold-roll-RawFormula ℕ prefix_types_at (layer.Iff left right)

pub prefix_types-xor : (left : RawFormula) (right : RawFormula) →
    prefix_types (r.Xor left right) ≡ prefix_types_at (layer.Xor (prefix_types left) (prefix_types right))
unfolding prefix_types
prefix_types-xor left right =
    ap prefix_types (sym (r.rolls-Xor left right))
    ∙ fold-roll-RawFormula ℕ prefix_types_at (layer.Xor left right)

pub prefix_types-nand : (left : RawFormula) (right : RawFormula) →
    prefix_types (r.Nand left right) ≡ prefix_types_at (layer.Nand (prefix_types left) (prefix_types right))
unfolding prefix_types
prefix_types-nand left right =
    ap prefix_types (sym (r.rolls-Nand left right))
    ∙ fold-roll-RawFormula ℕ prefix_types_at (layer.Nand left right)

pub prefix_types-nor : (left : RawFormula) (right : RawFormula) →
    prefix_types (r.Nor left right) ≡ prefix_types_at (layer.Nor (prefix_types left) (prefix_types right))
unfolding prefix_types
prefix_types-nor left right =
    ap prefix_types (sym (r.rolls-Nor left right))
    ∙ fold-roll-RawFormula ℕ prefix_types_at (layer.Nor left right)

pub prefix_types-for_all : (bounds : List Bound) (body : RawFormula) →
    prefix_types (r.ForAll bounds body) ≡ prefix_types_at (layer.ForAll bounds (prefix_types body))
unfolding prefix_types
prefix_types-for_all bounds body =
    ap prefix_types (sym (r.rolls-ForAll bounds body))
    ∙ fold-roll-RawFormula ℕ prefix_types_at (layer.ForAll bounds body)

pub prefix_types-exists : (bounds : List Bound) (body : RawFormula) →
    prefix_types (r.Exists bounds body) ≡ prefix_types_at (layer.Exists bounds (prefix_types body))
unfolding prefix_types
prefix_types-exists bounds body =
    ap prefix_types (sym (r.rolls-Exists bounds body))
    ∙ fold-roll-RawFormula ℕ prefix_types_at (layer.Exists bounds body)
