-- What kinds are where the code has no case of its own.
use Rattle.std.proofs.Common.{◌≡◌, false, refl, ap, None, List}
use Rattle.tptp_syntax.specs.declared.types.TypeExpr.{TypeExpr}
use Rattle.tptp_syntax.specs.declared.types.TypeExpr.TheVariants as e
use Rattle.tf_check.specs.Kinds.{Kind, kind}
use Rattle.tf_check.proofs.KindLemmas as l
use Rattle.tf_check.proofs.Variants.{IsVariant, is_variable, is_apply, is_individuals, is_truth, is_types, is_product, is_map, is_quantified}

pub is_types-other : (expression : TypeExpr) → IsVariant expression →
    (expression ≡ e.Types → ⊥) →
    (kind expression).is_types ≡ false
is_types-other _ (is_variable name) not_types =
    ap (λ (k : Kind). k.is_types) (l.kind-variable name)
is_types-other _ (is_apply name parts) not_types =
    ap (λ (k : Kind). k.is_types) (l.kind-apply name parts)
is_types-other _ is_individuals not_types =
    ap (λ (k : Kind). k.is_types) l.kind-individuals
is_types-other _ is_truth not_types =
    ap (λ (k : Kind). k.is_types) l.kind-truth
is_types-other _ is_types not_types =
    absurd (not_types refl)
is_types-other _ (is_product parts) not_types =
    ap (λ (k : Kind). k.is_types) (l.kind-product parts)
is_types-other _ (is_map left right) not_types =
    ap (λ (k : Kind). k.is_types) (l.kind-map left right)
is_types-other _ (is_quantified bounds body) not_types =
    ap (λ (k : Kind). k.is_types) (l.kind-quantified bounds body)

pub types-other : (expression : TypeExpr) → IsVariant expression →
    (expression ≡ e.Types → ⊥) →
    ((parts : List TypeExpr) → expression ≡ e.Product parts → ⊥) →
    (kind expression).types ≡ None
types-other _ (is_variable name) not_types not_product =
    ap (λ (k : Kind). k.types) (l.kind-variable name)
types-other _ (is_apply name parts) not_types not_product =
    ap (λ (k : Kind). k.types) (l.kind-apply name parts)
types-other _ is_individuals not_types not_product =
    ap (λ (k : Kind). k.types) l.kind-individuals
types-other _ is_truth not_types not_product =
    ap (λ (k : Kind). k.types) l.kind-truth
types-other _ is_types not_types not_product =
    absurd (not_types refl)
types-other _ (is_product parts) not_types not_product =
    absurd (not_product parts refl)
types-other _ (is_map left right) not_types not_product =
    ap (λ (k : Kind). k.types) (l.kind-map left right)
types-other _ (is_quantified bounds body) not_types not_product =
    ap (λ (k : Kind). k.types) (l.kind-quantified bounds body)

pub is_kind-other : (expression : TypeExpr) → IsVariant expression →
    (expression ≡ e.Types → ⊥) →
    ((left : TypeExpr) → (right : TypeExpr) → expression ≡ e.Map left right → ⊥) →
    (kind expression).is_kind ≡ false
is_kind-other _ (is_variable name) not_types not_map =
    ap (λ (k : Kind). k.is_kind) (l.kind-variable name)
is_kind-other _ (is_apply name parts) not_types not_map =
    ap (λ (k : Kind). k.is_kind) (l.kind-apply name parts)
is_kind-other _ is_individuals not_types not_map =
    ap (λ (k : Kind). k.is_kind) l.kind-individuals
is_kind-other _ is_truth not_types not_map =
    ap (λ (k : Kind). k.is_kind) l.kind-truth
is_kind-other _ is_types not_types not_map =
    absurd (not_types refl)
is_kind-other _ (is_product parts) not_types not_map =
    ap (λ (k : Kind). k.is_kind) (l.kind-product parts)
is_kind-other _ (is_map left right) not_types not_map =
    absurd (not_map left right refl)
is_kind-other _ (is_quantified bounds body) not_types not_map =
    ap (λ (k : Kind). k.is_kind) (l.kind-quantified bounds body)

pub arity-other : (expression : TypeExpr) → IsVariant expression →
    (expression ≡ e.Types → ⊥) →
    ((left : TypeExpr) → (right : TypeExpr) → expression ≡ e.Map left right → ⊥) →
    (kind expression).arity ≡ None
arity-other _ (is_variable name) not_types not_map =
    ap (λ (k : Kind). k.arity) (l.kind-variable name)
arity-other _ (is_apply name parts) not_types not_map =
    ap (λ (k : Kind). k.arity) (l.kind-apply name parts)
arity-other _ is_individuals not_types not_map =
    ap (λ (k : Kind). k.arity) l.kind-individuals
arity-other _ is_truth not_types not_map =
    ap (λ (k : Kind). k.arity) l.kind-truth
arity-other _ is_types not_types not_map =
    absurd (not_types refl)
arity-other _ (is_product parts) not_types not_map =
    ap (λ (k : Kind). k.arity) (l.kind-product parts)
arity-other _ (is_map left right) not_types not_map =
    absurd (not_map left right refl)
arity-other _ (is_quantified bounds body) not_types not_map =
    ap (λ (k : Kind). k.arity) (l.kind-quantified bounds body)
