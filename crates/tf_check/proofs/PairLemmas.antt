-- The equations of the test of pairs, one a variant, in their order.
use Rattle.std.proofs.Common.{◌≡◌, ℕ, Bool, List, map, sym, ap, ◌∙◌}
use Rattle.tf_core.specs.declared.ty.Ty.{Ty}
use Rattle.tf_core.specs.declared.term.Term.{Term}
use Rattle.tf_core.specs.declared.formula.Formula.{Formula}
use Rattle.tf_core.specs.declared.formula.Formula.TheVariants as formula
use Rattle.tf_core.specs.declared.formula.Formula.TheOpen as layer
use Rattle.tf_core.specs.declared.formula.Formula.TheFolds.{fold-roll-Formula}
use Rattle.tf_core.specs.Counts.{has_pairs, has_pairs_step}

pub has_pairs-true : has_pairs formula.True ≡ has_pairs_step layer.True
unfolding has_pairs
has_pairs-true =
    ap has_pairs (sym formula.rolls-True)
    ∙ fold-roll-Formula Bool has_pairs_step layer.True

pub has_pairs-false : has_pairs formula.False ≡ has_pairs_step layer.False
unfolding has_pairs
has_pairs-false =
    ap has_pairs (sym formula.rolls-False)
    ∙ fold-roll-Formula Bool has_pairs_step layer.False

pub has_pairs-atom : (f : ℕ) (types : List Ty) (terms : List Term) →
    has_pairs (formula.Atom f types terms) ≡ has_pairs_step (layer.Atom f types terms)
unfolding has_pairs
has_pairs-atom f types terms =
    ap has_pairs (sym (formula.rolls-Atom f types terms))
    ∙ fold-roll-Formula Bool has_pairs_step (layer.Atom f types terms)

pub has_pairs-equal : (ty : Ty) (left : Term) (right : Term) →
    has_pairs (formula.Equal ty left right) ≡ has_pairs_step (layer.Equal ty left right)
unfolding has_pairs
has_pairs-equal ty left right =
    ap has_pairs (sym (formula.rolls-Equal ty left right))
    ∙ fold-roll-Formula Bool has_pairs_step (layer.Equal ty left right)

pub has_pairs-not : (a : Formula) →
    has_pairs (formula.Not a) ≡ has_pairs_step (layer.Not (has_pairs a))
unfolding has_pairs
has_pairs-not a =
    ap has_pairs (sym (formula.rolls-Not a))
    ∙ fold-roll-Formula Bool has_pairs_step (layer.Not a)

pub has_pairs-and : (parts : List Formula) →
    has_pairs (formula.And parts) ≡ has_pairs_step (layer.And (map has_pairs parts))
unfolding has_pairs
has_pairs-and parts =
    ap has_pairs (sym (formula.rolls-And parts))
    ∙ fold-roll-Formula Bool has_pairs_step (layer.And parts)

pub has_pairs-or : (parts : List Formula) →
    has_pairs (formula.Or parts) ≡ has_pairs_step (layer.Or (map has_pairs parts))
unfolding has_pairs
has_pairs-or parts =
    ap has_pairs (sym (formula.rolls-Or parts))
    ∙ fold-roll-Formula Bool has_pairs_step (layer.Or parts)

pub has_pairs-implies : (a : Formula) (b : Formula) →
    has_pairs (formula.Implies a b) ≡ has_pairs_step (layer.Implies (has_pairs a) (has_pairs b))
unfolding has_pairs
has_pairs-implies a b =
    ap has_pairs (sym (formula.rolls-Implies a b))
    ∙ fold-roll-Formula Bool has_pairs_step (layer.Implies a b)

pub has_pairs-if : (a : Formula) (b : Formula) →
    has_pairs (formula.If a b) ≡ has_pairs_step (layer.If (has_pairs a) (has_pairs b))
unfolding has_pairs
has_pairs-if a b =
    ap has_pairs (sym (formula.rolls-If a b))
    ∙ fold-roll-Formula Bool has_pairs_step (layer.If a b)

pub has_pairs-iff : (a : Formula) (b : Formula) →
    has_pairs (formula.Iff a b) ≡ has_pairs_step (layer.Iff (has_pairs a) (has_pairs b))
unfolding has_pairs
has_pairs-iff a b =
    ap has_pairs (sym (formula.rolls-Iff a b))
    ∙ fold-roll-Formula Bool has_pairs_step (layer.Iff a b)

pub has_pairs-xor : (a : Formula) (b : Formula) →
    has_pairs (formula.Xor a b) ≡ has_pairs_step (layer.Xor (has_pairs a) (has_pairs b))
unfolding has_pairs
has_pairs-xor a b =
    ap has_pairs (sym (formula.rolls-Xor a b))
    ∙ fold-roll-Formula Bool has_pairs_step (layer.Xor a b)

pub has_pairs-nand : (a : Formula) (b : Formula) →
    has_pairs (formula.Nand a b) ≡ has_pairs_step (layer.Nand (has_pairs a) (has_pairs b))
unfolding has_pairs
has_pairs-nand a b =
    ap has_pairs (sym (formula.rolls-Nand a b))
    ∙ fold-roll-Formula Bool has_pairs_step (layer.Nand a b)

pub has_pairs-nor : (a : Formula) (b : Formula) →
    has_pairs (formula.Nor a b) ≡ has_pairs_step (layer.Nor (has_pairs a) (has_pairs b))
unfolding has_pairs
has_pairs-nor a b =
    ap has_pairs (sym (formula.rolls-Nor a b))
    ∙ fold-roll-Formula Bool has_pairs_step (layer.Nor a b)

pub has_pairs-for_all : (ty : Ty) (body : Formula) →
    has_pairs (formula.ForAll ty body) ≡ has_pairs_step (layer.ForAll ty (has_pairs body))
unfolding has_pairs
has_pairs-for_all ty body =
    ap has_pairs (sym (formula.rolls-ForAll ty body))
    ∙ fold-roll-Formula Bool has_pairs_step (layer.ForAll ty body)

pub has_pairs-exists : (ty : Ty) (body : Formula) →
    has_pairs (formula.Exists ty body) ≡ has_pairs_step (layer.Exists ty (has_pairs body))
unfolding has_pairs
has_pairs-exists ty body =
    ap has_pairs (sym (formula.rolls-Exists ty body))
    ∙ fold-roll-Formula Bool has_pairs_step (layer.Exists ty body)
