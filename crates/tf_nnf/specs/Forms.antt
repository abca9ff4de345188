-- Negation normal forms: of a formula, and of its negation.
use Rattle.std.specs.Prelude.{Bool, true, false, List, [], ◌∷◌, map}
use Rattle.tf_core.specs.declared.ty.Ty.{Ty}
use Rattle.tf_core.specs.declared.nnf.Nnf.{Nnf}
use Rattle.tf_core.specs.declared.nnf.Nnf.TheVariants as nnf
use Rattle.tf_core.specs.declared.formula.Formula.{Formula}
use Rattle.tf_core.specs.declared.formula.Formula.TheOpen.{Formula-F}
use Rattle.tf_core.specs.declared.formula.Formula.TheOpen as formula
use Rattle.tf_core.specs.declared.formula.Formula.TheFolds.{fold-Formula}

-- the normal form of a formula, and that of its negation
pub record Forms : Type 0 where
  pub positive : Nnf
  pub negative : Nnf

-- the forms of the negation
abbrev pub negation : Forms → Forms
negation a = record { positive = a.negative; negative = a.positive }

abbrev pub both : Nnf → Nnf → Nnf
both a b = nnf.And (a ∷ b ∷ [])

abbrev pub either : Nnf → Nnf → Nnf
either a b = nnf.Or (a ∷ b ∷ [])

-- the forms of `a => b`
abbrev pub implication : Forms → Forms → Forms
implication a b = record {
  positive = either a.negative b.positive;
  negative = both a.positive b.negative;
}

-- the forms of `a <= b`
abbrev pub converse : Forms → Forms → Forms
converse a b = record {
  positive = either a.positive b.negative;
  negative = both a.negative b.positive;
}

-- the forms of `a <=> b`
abbrev pub equivalence : Forms → Forms → Forms
equivalence a b = record {
  positive = both (either a.negative b.positive) (either b.negative a.positive);
  negative = both (either a.positive b.positive) (either a.negative b.negative);
}

-- the forms of `a ~& b`
abbrev pub alternative_denial : Forms → Forms → Forms
alternative_denial a b = record {
  positive = either a.negative b.negative;
  negative = both a.positive b.positive;
}

-- the forms of `a ~| b`
abbrev pub joint_denial : Forms → Forms → Forms
joint_denial a b = record {
  positive = both a.negative b.negative;
  negative = either a.positive b.positive;
}

-- the forms of one layer, whose parts are forms
abbrev pub forms_step : Formula-F Forms → Forms
forms_step formula.True = record { positive = nnf.True; negative = nnf.False }
forms_step formula.False = record { positive = nnf.False; negative = nnf.True }
forms_step (formula.Atom f types terms) = record {
  positive = nnf.Atom true f types terms;
  negative = nnf.Atom false f types terms;
}
forms_step (formula.Equal ty left right) = record {
  positive = nnf.Equation true ty left right;
  negative = nnf.Equation false ty left right;
}
forms_step (formula.Not a) = negation a
forms_step (formula.And parts) = record {
  positive = nnf.And (map (λ part. part.positive) parts);
  negative = nnf.Or (map (λ part. part.negative) parts);
}
forms_step (formula.Or parts) = record {
  positive = nnf.Or (map (λ part. part.positive) parts);
  negative = nnf.And (map (λ part. part.negative) parts);
}
forms_step (formula.Implies a b) = implication a b
forms_step (formula.If a b) = converse a b
forms_step (formula.Iff a b) = equivalence a b
forms_step (formula.Xor a b) = negation (equivalence a b)
forms_step (formula.Nand a b) = alternative_denial a b
forms_step (formula.Nor a b) = joint_denial a b
forms_step (formula.ForAll ty body) = record {
  positive = nnf.ForAll ty body.positive;
  negative = nnf.Exists ty body.negative;
}
forms_step (formula.Exists ty body) = record {
  positive = nnf.Exists ty body.positive;
  negative = nnf.ForAll ty body.negative;
}

-- the forms of a formula
unfoldable pub forms : Formula → Forms
forms = fold-Formula Forms forms_step

-- the normal form of a formula
abbrev pub positive_form : Formula → Nnf
positive_form f = (forms f).positive

-- the normal form of its negation
abbrev pub negative_form : Formula → Nnf
negative_form f = (forms f).negative

-- the normal form of a formula, or where the sign is false that of its negation
abbrev pub signed_form : Bool → Formula → Nnf
signed_form true f = positive_form f
signed_form false f = negative_form f

-- true or false, by the sign
abbrev pub constant : Bool → Nnf
constant true = nnf.True
constant false = nnf.False

-- a conjunction, or where the sign is false a disjunction
abbrev pub joined : Bool → List Nnf → Nnf
joined true parts = nnf.And parts
joined false parts = nnf.Or parts

-- a universal formula, or where the sign is false an existential one
abbrev pub quantified : Bool → Ty → Nnf → Nnf
quantified true ty body = nnf.ForAll ty body
quantified false ty body = nnf.Exists ty body

-- what `a <=> b` becomes, and where the sign is false what its negation does, by both forms of the
-- parts
abbrev pub equal_forms : Bool → Nnf → Nnf → Nnf → Nnf → Nnf
equal_forms true a not_a b not_b = both (either not_a b) (either not_b a)
equal_forms false a not_a b not_b = both (either a b) (either not_a not_b)
