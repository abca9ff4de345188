-- How many type variables the leading prefix binds: no more than the formula has nodes.
use Rattle.std.proofs.Common.{◌≡◌, ◌+◌, ◌≤◌, Bool, true, false, List, [], ◌∷◌, length, map, sum, refl, ap, ◌∙◌, arith, if◌then◌else◌}
use Rattle.tptp_syntax.specs.declared.types.Bound.{Bound}
use Rattle.tptp_syntax.specs.declared.formula.RawFormula.{RawFormula}
use Rattle.tptp_syntax.specs.declared.formula.RawFormula.TheVariants as r
use Rattle.tptp_syntax.specs.FileSizes.{bound_nodes, formula_nodes}
use Rattle.tf_check.specs.Formulas.{binds_type, types_bound, prefix_types}
use Rattle.tf_check.proofs.Variants.{formula_induction}
use Rattle.tf_check.proofs.NodeLemmas as nodes
use Rattle.tf_check.proofs.PrefixLemmas as p
use Rattle.tf_check.proofs.SumLemmas.{total-cons}

bit_within : (b : Bool) → (if b then 1 else 0) ≤ 1
bit_within true = omega arith
bit_within false = omega arith

pub types_bound-within : (bounds : List Bound) → types_bound bounds ≤ length bounds
types_bound-within [] = omega arith
types_bound-within (bound ∷ bounds) =
    omega (arith, types_bound-within bounds, bit_within (binds_type bound))

-- as many bound names as bounds
pub bounds_within : (bounds : List Bound) → length bounds ≤ sum (map bound_nodes bounds)
bounds_within [] = omega arith
bounds_within (bound ∷ bounds) =
    omega (arith, bounds_within bounds, total-cons bound_nodes bound bounds)

-- the parts of a quantified formula

pub for_all_nodes : (x : RawFormula) (bounds : List Bound) (body : RawFormula) →
    x ≡ r.ForAll bounds body →
    1 + (length bounds + formula_nodes body) ≤ formula_nodes x
for_all_nodes x bounds body is =
    omega (
      arith,
      ap formula_nodes is,
      nodes.formula_nodes-for_all bounds body,
      bounds_within bounds,
    )

pub exists_nodes : (x : RawFormula) (bounds : List Bound) (body : RawFormula) →
    x ≡ r.Exists bounds body →
    1 + (length bounds + formula_nodes body) ≤ formula_nodes x
exists_nodes x bounds body is =
    omega (
      arith,
      ap formula_nodes is,
      nodes.formula_nodes-exists bounds body,
      bounds_within bounds,
    )

pub for_all_types : (x : RawFormula) (bounds : List Bound) (body : RawFormula) →
    x ≡ r.ForAll bounds body →
    prefix_types x ≡ types_bound bounds + prefix_types body
for_all_types x bounds body is = ap prefix_types is ∙ p.prefix_types-for_all bounds body

-- any other formula has no prefix
pub no_prefix : (x : RawFormula) → ((bounds : List Bound) (body : RawFormula) →
    x ≡ r.ForAll bounds body → ⊥) →
    prefix_types x ≡ 0
no_prefix =
    formula_induction
    (λ x. ((bounds : List Bound) (body : RawFormula) → x ≡ r.ForAll bounds body → ⊥) →
    prefix_types x ≡ 0)
    (record {
      on_true = λ differs. p.prefix_types-true;
      on_false = λ differs. p.prefix_types-false;
      on_atom = λ name parts differs. p.prefix_types-atom name parts;
      on_equal = λ left right differs. p.prefix_types-equal left right;
      on_unequal = λ left right differs. p.prefix_types-unequal left right;
      on_not = λ part rest differs. p.prefix_types-not part;
      on_and = λ parts each differs. p.prefix_types-and parts;
      on_or = λ parts each differs. p.prefix_types-or parts;
      on_implies = λ left right one other differs. p.prefix_types-implies left right;
      on_if = λ left right one other differs. p.prefix_types-if left right;
      on_iff = λ left right one other differs. p.prefix_types-iff left right;
      on_xor = λ left right one other differs. p.prefix_types-xor left right;
      on_nand = λ left right one other differs. p.prefix_types-nand left right;
      on_nor = λ left right one other differs. p.prefix_types-nor left right;
      on_for_all = λ bounds body rest differs. absurd (differs bounds body refl);
      on_exists = λ bounds body rest differs. p.prefix_types-exists bounds body;
    })

abbrev IsShort : RawFormula → Type 0
IsShort x = prefix_types x ≤ formula_nodes x

pub prefix_types-within : (x : RawFormula) → prefix_types x ≤ formula_nodes x
prefix_types-within =
    formula_induction IsShort (record {
      on_true = omega (arith, p.prefix_types-true);
      on_false = omega (arith, p.prefix_types-false);
      on_atom = λ name parts. omega (arith, p.prefix_types-atom name parts);
      on_equal = λ left right. omega (arith, p.prefix_types-equal left right);
      on_unequal = λ left right. omega (arith, p.prefix_types-unequal left right);
      on_not = λ part within. omega (arith, p.prefix_types-not part);
      on_and = λ parts each. omega (arith, p.prefix_types-and parts);
      on_or = λ parts each. omega (arith, p.prefix_types-or parts);
      on_implies = λ left right one other. omega (arith, p.prefix_types-implies left right);
      on_if = λ left right one other. omega (arith, p.prefix_types-if left right);
      on_iff = λ left right one other. omega (arith, p.prefix_types-iff left right);
      on_xor = λ left right one other. omega (arith, p.prefix_types-xor left right);
      on_nand = λ left right one other. omega (arith, p.prefix_types-nand left right);
      on_nor = λ left right one other. omega (arith, p.prefix_types-nor left right);
      on_for_all = λ bounds body within.
          omega (
            arith,
            within,
            p.prefix_types-for_all bounds body,
            types_bound-within bounds,
            bounds_within bounds,
            nodes.formula_nodes-for_all bounds body,
          );
      on_exists = λ bounds body within. omega (arith, p.prefix_types-exists bounds body);
    })
