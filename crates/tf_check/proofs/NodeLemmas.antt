-- The equations of the nodes of formulas.
use Rattle.std.proofs.Common.{◌≡◌, ℕ, List, map, sym, ap, ◌∙◌}
use Rattle.tptp_syntax.specs.declared.types.Bound.{Bound}
use Rattle.tptp_syntax.specs.declared.term.RawTerm.{RawTerm}
use Rattle.tptp_syntax.specs.declared.formula.RawFormula.{RawFormula}
use Rattle.tptp_syntax.specs.declared.formula.RawFormula.TheVariants as r
use Rattle.tptp_syntax.specs.declared.formula.RawFormula.TheOpen as layer
use Rattle.tptp_syntax.specs.declared.formula.RawFormula.TheFolds.{fold-roll-RawFormula}
use Rattle.tptp_syntax.specs.FileSizes.{formula_nodes, formula_nodes_at}

pub formula_nodes-true : formula_nodes r.True ≡ formula_nodes_at layer.True
unfolding formula_nodes
formula_nodes-true =
    ap formula_nodes (sym r.rolls-True)
    ∙ fold-roll-RawFormula ℕ formula_nodes_at layer.True

pub formula_nodes-false : formula_nodes r.False ≡ formula_nodes_at layer.False
unfolding formula_nodes
formula_nodes-false =
    ap formula_nodes (sym r.rolls-False)
    ∙ fold-roll-RawFormula ℕ formula_nodes_at layer.False

pub formula_nodes-atom : (name : List ℕ) (arguments : List RawTerm) →
    formula_nodes (r.Atom name arguments) ≡ formula_nodes_at (layer.Atom name arguments)
unfolding formula_nodes
formula_nodes-atom name arguments =
    ap formula_nodes (sym (r.rolls-Atom name arguments))
    ∙ fold-roll-RawFormula ℕ formula_nodes_at (layer.Atom name arguments)

pub formula_nodes-equal : (left : RawTerm) (right : RawTerm) →
    formula_nodes (r.Equal left right) ≡ formula_nodes_at (layer.Equal left right)
unfolding formula_nodes
formula_nodes-equal left right =
    ap formula_nodes (sym (r.rolls-Equal left right))
    ∙ fold-roll-RawFormula ℕ formula_nodes_at (layer.Equal left right)

pub formula_nodes-unequal : (left : RawTerm) (right : RawTerm) →
    formula_nodes (r.Unequal left right) ≡ formula_nodes_at (layer.Unequal left right)
unfolding formula_nodes
formula_nodes-unequal left right =
    ap formula_nodes (sym (r.rolls-Unequal left right))
    ∙ fold-roll-RawFormula ℕ formula_nodes_at (layer.Unequal left right)

pub formula_nodes-not : (part : RawFormula) →
    formula_nodes (r.Not part) ≡ formula_nodes_at (layer.Not (formula_nodes part))
unfolding formula_nodes
formula_nodes-not part =
    ap formula_nodes (sym (r.rolls-Not part))
    ∙ fold-roll-RawFormula ℕ formula_nodes_at (layer.Not part)

pub formula_nodes-and : (parts : List RawFormula) →
    formula_nodes (r.And parts) ≡ formula_nodes_at (layer.And (map formula_nodes parts))
unfolding formula_nodes
formula_nodes-and parts =
    ap formula_nodes (sym (r.rolls-And parts))
    ∙ fold-roll-RawFormula ℕ formula_nodes_at (layer.And parts)

pub formula_nodes-or : (parts : List RawFormula) →
    formula_nodes (r.Or parts) ≡ formula_nodes_at (layer.Or (map formula_nodes parts))
unfolding formula_nodes
formula_nodes-or parts =
    ap formula_nodes (sym (r.rolls-Or parts))
    ∙ fold-roll-RawFormula ℕ formula_nodes_at (layer.Or parts)

pub formula_nodes-implies : (left : RawFormula) (right : RawFormula) →
    formula_nodes (r.Implies left right) ≡ formula_nodes_at (layer.Implies (formula_nodes left) (formula_nodes right))
unfolding formula_nodes
formula_nodes-implies left right =
    ap formula_nodes (sym (r.rolls-Implies left right))
    ∙ fold-roll-RawFormula ℕ formula_nodes_at (layer.Implies left right)

pub formula_nodes-if : (left : RawFormula) (right : RawFormula) →
    formula_nodes (r.If left right) ≡ formula_nodes_at (layer.If (formula_nodes left) (formula_nodes right))
unfolding formula_nodes
formula_nodes-if left right =
    ap formula_nodes (sym (r.rolls-If left right))
    ∙ fold-roll-RawFormula ℕ formula_nodes_at (layer.If left right)

pub formula_nodes-iff : (left : RawFormula) (right : RawFormula) →
    formula_nodes (r.Iff left right) ≡ formula_nodes_at (layer.Iff (formula_nodes left) (formula_nodes right))
unfolding formula_nodes
formula_nodes-iff left right =
    ap formula_nodes (sym (r.rolls-Iff left right))
    ∙ fold-roll-RawFormula ℕ formula_nodes_at (layer.Iff left right)

pub formula_nodes-xor : (left : RawFormula) (right : RawFormula) →
    formula_nodes (r.Xor left right) ≡ formula_nodes_at (layer.Xor (formula_nodes left) (formula_nodes right))
unfolding formula_nodes
formula_nodes-xor left right =
    ap formula_nodes (sym (r.rolls-Xor left right))
    ∙ fold-roll-RawFormula ℕ formula_nodes_at (layer.Xor left right)

pub formula_nodes-nand : (left : RawFormula) (right : RawFormula) →
    formula_nodes (r.Nand left right) ≡ formula_nodes_at (layer.Nand (formula_nodes left) (formula_nodes right))
unfolding formula_nodes
formula_nodes-nand left right =
    ap formula_nodes (sym (r.rolls-Nand left right))
    ∙ fold-roll-RawFormula ℕ formula_nodes_at (layer.Nand left right)

pub formula_nodes-nor : (left : RawFormula) (right : RawFormula) →
    formula_nodes (r.Nor left right) ≡ formula_nodes_at (layer.Nor (formula_nodes left) (formula_nodes right))
unfolding formula_nodes
formula_nodes-nor left right =
    ap formula_nodes (sym (r.rolls-Nor left right))
    ∙ fold-roll-RawFormula ℕ formula_nodes_at (layer.Nor left right)

pub formula_nodes-for_all : (bounds : List Bound) (body : RawFormula) →
    formula_nodes (r.ForAll bounds body) ≡ formula_nodes_at (layer.ForAll bounds (formula_nodes body))
unfolding formula_nodes
formula_nodes-for_all bounds body =
    ap formula_nodes (sym (r.rolls-ForAll bounds body))
    ∙ fold-roll-RawFormula ℕ formula_nodes_at (layer.ForAll bounds body)

pub formula_nodes-exists : (bounds : List Bound) (body : RawFormula) →
    formula_nodes (r.Exists bounds body) ≡ formula_nodes_at (layer.Exists bounds (formula_nodes body))
unfolding formula_nodes
formula_nodes-exists bounds body =
    ap formula_nodes (sym (r.rolls-Exists bounds body))
    ∙ fold-roll-RawFormula ℕ formula_nodes_at (layer.Exists bounds body)
