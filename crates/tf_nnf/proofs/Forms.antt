-- The equations of the normal forms, one for each connective.
use Rattle.tf_core.specs.declared.formula.Formula.TheVariants as formula
use Rattle.tf_core.specs.declared.formula.Formula.TheOpen as layer
use Rattle.tf_core.specs.declared.nnf.Nnf.TheVariants as nnf
use Rattle.tf_core.specs.declared.nnf.Nnf.{Nnf}
use Rattle.tf_core.specs.declared.formula.Formula.{Formula}
use Rattle.tf_core.specs.declared.formula.Formula.TheFolds.{fold-roll-Formula}
use Rattle.tf_core.specs.declared.ty.Ty.{Ty}
use Rattle.tf_core.specs.declared.term.Term.{Term}
use Rattle.std.proofs.Common.{ℕ, ◌≡◌, true, false, List, map, sym, ap, ◌∙◌}
use Rattle.tf_nnf.specs.Forms.{Forms, forms, forms_step, positive_form, negative_form, negation, implication, converse, equivalence, alternative_denial, joint_denial}
use Rattle.tf_nnf.proofs.Lists.{map-map}

joined-forms : (one other : List Nnf → Nnf) (parts : List Formula) →
    (let made : Forms = record {
      positive = one (map (λ (part : Forms). part.positive) (map forms parts));
      negative = other (map (λ (part : Forms). part.negative) (map forms parts));
    } in made)
    ≡ record { positive = one (map positive_form parts); negative = other (map negative_form parts) }
joined-forms one other parts =
    ap
    (λ (ps : List Nnf). let made : Forms = record {
      positive = one ps;
      negative = other (map (λ (part : Forms). part.negative) (map forms parts));
    } in made)
    (map-map (λ (part : Forms). part.positive) forms parts)
    ∙ ap
    (λ (ps : List Nnf). let made : Forms = record {
      positive = one (map positive_form parts);
      negative = other ps;
    } in made)
    (map-map (λ (part : Forms). part.negative) forms parts)

pub forms-true : forms formula.True ≡ record { positive = nnf.True; negative = nnf.False }
unfolding forms
forms-true =
    ap forms (sym formula.rolls-True)
    ∙ fold-roll-Formula Forms forms_step layer.True

pub forms-false : forms formula.False ≡ record { positive = nnf.False; negative = nnf.True }
unfolding forms
forms-false =
    ap forms (sym formula.rolls-False)
    ∙ fold-roll-Formula Forms forms_step layer.False

pub forms-atom : (f : ℕ) (types : List Ty) (terms : List Term) →
    forms (formula.Atom f types terms) ≡ record {
      positive = nnf.Atom true f types terms;
      negative = nnf.Atom false f types terms;
    }
unfolding forms
forms-atom f types terms =
    ap forms (sym (formula.rolls-Atom f types terms))
    ∙ fold-roll-Formula Forms forms_step (layer.Atom f types terms)

pub forms-equal : (ty : Ty) (left right : Term) →
    forms (formula.Equal ty left right) ≡ record {
      positive = nnf.Equation true ty left right;
      negative = nnf.Equation false ty left right;
    }
unfolding forms
forms-equal ty left right =
    ap forms (sym (formula.rolls-Equal ty left right))
    ∙ fold-roll-Formula Forms forms_step (layer.Equal ty left right)

pub forms-not : (a : Formula) →
    forms (formula.Not a) ≡ negation (forms a)
unfolding forms
forms-not a =
    ap forms (sym (formula.rolls-Not a))
    ∙ fold-roll-Formula Forms forms_step (layer.Not a)

pub forms-and : (parts : List Formula) →
    forms (formula.And parts) ≡ record {
      positive = nnf.And (map positive_form parts);
      negative = nnf.Or (map negative_form parts);
    }
unfolding forms
forms-and parts =
    ap forms (sym (formula.rolls-And parts))
    ∙ fold-roll-Formula Forms forms_step (layer.And parts)
    ∙ joined-forms nnf.And nnf.Or parts

pub forms-or : (parts : List Formula) →
    forms (formula.Or parts) ≡ record {
      positive = nnf.Or (map positive_form parts);
      negative = nnf.And (map negative_form parts);
    }
unfolding forms
forms-or parts =
    ap forms (sym (formula.rolls-Or parts))
    ∙ fold-roll-Formula Forms forms_step (layer.Or parts)
    ∙ joined-forms nnf.Or nnf.And parts

pub forms-implies : (a b : Formula) →
    forms (formula.Implies a b) ≡ implication (forms a) (forms b)
unfolding forms
forms-implies a b =
    ap forms (sym (formula.rolls-Implies a b))
    ∙ fold-roll-Formula Forms forms_step (layer.Implies a b)

pub forms-if : (a b : Formula) →
    forms (formula.If a b) ≡ converse (forms a) (forms b)
unfolding forms
forms-if a b =
    ap forms (sym (formula.rolls-If a b))
    ∙ fold-roll-Formula Forms forms_step (layer.If a b)

pub forms-iff : (a b : Formula) →
    forms (formula.Iff a b) ≡ equivalence (forms a) (forms b)
unfolding forms
forms-iff a b =
    ap forms (sym (formula.rolls-Iff a b))
    ∙ fold-roll-Formula Forms forms_step (layer.Iff a b)

pub forms-xor : (a b : Formula) →
    forms (formula.Xor a b) ≡ negation (equivalence (forms a) (forms b))
unfolding forms
forms-xor a b =
    ap forms (sym (formula.rolls-Xor a b))
    ∙ fold-roll-Formula Forms forms_step (layer.Xor a b)

pub forms-nand : (a b : Formula) →
    forms (formula.Nand a b) ≡ alternative_denial (forms a) (forms b)
unfolding forms
forms-nand a b =
    ap forms (sym (formula.rolls-Nand a b))
    ∙ fold-roll-Formula Forms forms_step (layer.Nand a b)

pub forms-nor : (a b : Formula) →
    forms (formula.Nor a b) ≡ joint_denial (forms a) (forms b)
unfolding forms
forms-nor a b =
    ap forms (sym (formula.rolls-Nor a b))
    ∙ fold-roll-Formula Forms forms_step (layer.Nor a b)

pub forms-for_all : (ty : Ty) (body : Formula) →
    forms (formula.ForAll ty body) ≡ record {
      positive = nnf.ForAll ty (positive_form body);
      negative = nnf.Exists ty (negative_form body);
    }
unfolding forms
forms-for_all ty body =
    ap forms (sym (formula.rolls-ForAll ty body))
    ∙ fold-roll-Formula Forms forms_step (layer.ForAll ty body)

pub forms-exists : (ty : Ty) (body : Formula) →
    forms (formula.Exists ty body) ≡ record {
      positive = nnf.Exists ty (positive_form body);
      negative = nnf.ForAll ty (negative_form body);
    }
unfolding forms
forms-exists ty body =
    ap forms (sym (formula.rolls-Exists ty body))
    ∙ fold-roll-Formula Forms forms_step (layer.Exists ty body)
