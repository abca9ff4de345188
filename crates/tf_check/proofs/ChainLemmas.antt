-- The equations of the test of chains.
use Rattle.std.proofs.Common.{◌≡◌, ℕ, Bool, List, map, sym, ap, ◌∙◌}
use Rattle.tptp_syntax.specs.declared.types.Bound.{Bound}
use Rattle.tptp_syntax.specs.declared.term.RawTerm.{RawTerm}
use Rattle.tptp_syntax.specs.declared.formula.RawFormula.{RawFormula}
use Rattle.tptp_syntax.specs.declared.formula.RawFormula.TheVariants as r
use Rattle.tptp_syntax.specs.declared.formula.RawFormula.TheOpen as layer
use Rattle.tptp_syntax.specs.declared.formula.RawFormula.TheFolds.{fold-roll-RawFormula}
use Rattle.tptp_syntax.specs.FileSizes.{has_chains, has_chains_at}

pub has_chains-true : has_chains r.True ≡ has_chains_at layer.True
unfolding has_chains
has_chains-true =
    ap has_chains (sym r.rolls-True)
    ∙ fold-roll-RawFormula Bool has_chains_at layer.True

pub has_chains-false : has_chains r.False ≡ has_chains_at layer.False
unfolding has_chains
has_chains-false =
    ap has_chains (sym r.rolls-False)
    ∙ fold-roll-RawFormula Bool has_chains_at layer.False

pub has_chains-atom : (name : List ℕ) (arguments : List RawTerm) →
    has_chains (r.Atom name arguments) ≡ has_chains_at (layer.Atom name arguments)
unfolding has_chains
has_chains-atom name arguments =
    ap has_chains (sym (r.rolls-Atom name arguments))
    ∙ fold-roll-RawFormula Bool has_chains_at (layer.Atom name arguments)

pub has_chains-equal : (left : RawTerm) (right : RawTerm) →
    has_chains (r.Equal left right) ≡ has_chains_at (layer.Equal left right)
unfolding has_chains
has_chains-equal left right =
    ap has_chains (sym (r.rolls-Equal left right))
    ∙ fold-roll-RawFormula Bool has_chains_at (layer.Equal left right)

pub has_chains-unequal : (left : RawTerm) (right : RawTerm) →
    has_chains (r.Unequal left right) ≡ has_chains_at (layer.Unequal left right)
unfolding has_chains
has_chains-unequal left right =
    ap has_chains (sym (r.rolls-Unequal left right))
    ∙ fold-roll-RawFormula Bool has_chains_at (layer.Unequal left right)

pub has_chains-not : (part : RawFormula) →
    has_chains (r.Not part) ≡ has_chains_at (layer.Not (has_chains part))
unfolding has_chains
has_chains-not part =
    ap has_chains (sym (r.rolls-Not part))
    ∙ fold-roll-RawFormula Bool has_chains_at (layer.Not part)

pub has_chains-and : (parts : List RawFormula) →
    has_chains (r.And parts) ≡ has_chains_at (layer.And (map has_chains parts))
unfolding has_chains
has_chains-and parts =
    ap has_chains (sym (r.rolls-And parts))
    ∙ fold-roll-RawFormula Bool has_chains_at (layer.And parts)

pub has_chains-or : (parts : List RawFormula) →
    has_chains (r.Or parts) ≡ has_chains_at (layer.Or (map has_chains parts))
unfolding has_chains
has_chains-or parts =
    ap has_chains (sym (r.rolls-Or parts))
    ∙ fold-roll-RawFormula Bool has_chains_at (layer.Or parts)

pub has_chains-implies : (left : RawFormula) (right : RawFormula) →
    has_chains (r.Implies left right) ≡ has_chains_at (layer.Implies (has_chains left) (has_chains right))
unfolding has_chains
has_chains-implies left right =
    ap has_chains (sym (r.rolls-Implies left right))
    ∙ fold-roll-RawFormula Bool has_chains_at (layer.Implies left right)

pub has_chains-if : (left : RawFormula) (right : RawFormula) →
    has_chains (r.If left right) ≡ has_chains_at (layer.If (has_chains left) (has_chains right))
unfolding has_chains
has_chains-if left right =
    ap has_chains (sym (r.rolls-If left right))
    ∙ fold-roll-RawFormula Bool has_chains_at (layer.If left right)

pub has_chains-iff : (left : RawFormula) (right : RawFormula) →
    has_chains (r.Iff left right) ≡ has_chains_at (layer.Iff (has_chains left) (has_chains right))
unfolding has_chains
has_chains-iff left right =
    ap has_chains (sym (r.rolls-Iff left right))
    ∙ fold-roll-RawFormula Bool has_chains_at (layer.Iff left right)

pub has_chains-xor : (left : RawFormula) (right : RawFormula) →
    has_chains (r.Xor left right) ≡ has_chains_at (layer.Xor (has_chains left) (has_chains right))
unfolding has_chains
has_chains-xor left right =
    ap has_chains (sym (r.rolls-Xor left right))
    ∙ fold-roll-RawFormula Bool has_chains_at (layer.Xor left right)

pub has_chains-nand : (left : RawFormula) (right : RawFormula) →
    has_chains (r.Nand left right) ≡ has_chains_at (layer.Nand (has_chains left) (has_chains right))
unfolding has_chains
has_chains-nand left right =
    ap has_chains (sym (r.rolls-Nand left right))
    ∙ fold-roll-RawFormula Bool has_chains_at (layer.Nand left right)

pub has_chains-nor : (left : RawFormula) (right : RawFormula) →
    has_chains (r.Nor left right) ≡ has_chains_at (layer.Nor (has_chains left) (has_chains right))
unfolding has_chains
has_chains-nor left right =
    ap has_chains (sym (r.rolls-Nor left right))
    ∙ fold-roll-RawFormula Bool has_chains_at (layer.Nor left right)

pub has_chains-for_all : (bounds : List Bound) (body : RawFormula) →
    has_chains (r.ForAll bounds body) ≡ has_chains_at (layer.ForAll bounds (has_chains body))
unfolding has_chains
has_chains-for_all bounds body =
    ap has_chains (sym (r.rolls-ForAll bounds body))
    ∙ fold-roll-RawFormula Bool has_chains_at (layer.ForAll bounds body)

pub has_chains-exists : (bounds : List Bound) (body : RawFormula) →
    has_chains (r.Exists bounds body) ≡ has_chains_at (layer.Exists bounds (has_chains body))
unfolding has_chains
has_chains-exists bounds body =
    ap has_chains (sym (r.rolls-Exists bounds body))
    ∙ fold-roll-RawFormula Bool has_chains_at (layer.Exists bounds body)
