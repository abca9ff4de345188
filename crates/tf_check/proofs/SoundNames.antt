-- How many arguments the names in formulas have, all together.
use Rattle.std.proofs.Common.{◌≡◌, ℕ, ◌+◌, ◌*◌, ◌≤◌, true, false, List, [], ◌∷◌, ◌++◌, length, map, drop, flat_map, refl, ap, ◌∙◌, arith}
use Rattle.std.specs.List.{AllByRecursion}
use Rattle.std.proofs.lemmas.List.{drop-map, length-map}
use Rattle.tptp_syntax.specs.declared.term.RawTerm.{RawTerm}
use Rattle.tptp_syntax.specs.declared.term.RawTerm.TheVariants as t
use Rattle.tptp_syntax.specs.declared.formula.RawFormula.{RawFormula}
use Rattle.tptp_syntax.specs.declared.formula.RawFormula.TheVariants as r
use Rattle.tptp_syntax.specs.FileSizes.{term_nodes, formula_nodes}
use Rattle.tf_check.specs.Names.{Occurrence, names_of_term, names_of_formula, all_of}
use Rattle.tf_check.proofs.Variants.{term_induction, formula_induction}
use Rattle.tf_check.proofs.TermLemmas as t_lemmas
use Rattle.tf_check.proofs.NameLemmas as n
use Rattle.tf_check.proofs.NodeLemmas as nodes
use Rattle.tf_check.proofs.SumLemmas.{total, total-cons, total-append, total-flat_map-drop}

-- what a name counts for: its arguments and itself
abbrev pub weight : Occurrence → ℕ
weight occurrence = occurrence.arguments + 1

module _ (parameters : List ℕ → ℕ) where
  abbrev names_weight : RawTerm → ℕ
  names_weight x = total weight (names_of_term parameters x)

  abbrev IsLight : RawTerm → Type 0
  IsLight x = names_weight x + 1 ≤ 2 * term_nodes x

  -- the names of terms and the terms themselves
  light_all : (xs : List RawTerm) → AllByRecursion IsLight xs →
      total weight (flat_map (names_of_term parameters) xs) + length xs ≤ 2 * total term_nodes xs
  light_all [] all = omega arith
  light_all (x ∷ xs) all =
      let rest : total weight (flat_map (names_of_term parameters) xs) + length xs
      ≤ 2 * total term_nodes xs = light_all xs all.1 in
      let first : names_weight x + 1 ≤ 2 * term_nodes x = all.0 in
      omega (
        arith,
        total-append weight (names_of_term parameters x) (flat_map (names_of_term parameters) xs),
        total-cons term_nodes x xs,
      )

  all_of_map : (xs : List RawTerm) →
      all_of (map (names_of_term parameters) xs) ≡ flat_map (names_of_term parameters) xs
  all_of_map [] = refl
  all_of_map (x ∷ xs) = ap (λ ys. names_of_term parameters x ++ ys) (all_of_map xs)

  -- a name with its arguments, of which the first are types
  applied_light : (head : Occurrence) (k : ℕ) (xs : List RawTerm) → head.arguments ≡ length xs →
      AllByRecursion IsLight xs →
      total weight (head ∷ flat_map (names_of_term parameters) (drop k xs)) ≤ 1
      + 2 * total term_nodes xs
  applied_light head k xs count all =
      omega (
        arith,
        total-cons weight head (flat_map (names_of_term parameters) (drop k xs)),
        total-flat_map-drop weight (names_of_term parameters) k xs,
        light_all xs all,
      )

  pub term_light : (x : RawTerm) → IsLight x
  term_light =
      term_induction IsLight
      (λ name.
      omega (
        arith,
        ap (total weight) (t_lemmas.names_of_term-variable parameters name),
        t_lemmas.term_nodes-variable name,
      ))
      (λ name parts each.
      let head : Occurrence =
      record {
        name = name;
        arguments = length (map (names_of_term parameters) parts);
        is_function = true;
      } in
      let is : names_of_term parameters (t.Apply name parts)
      ≡ head ∷ flat_map (names_of_term parameters) (drop (parameters name) parts) =
      t_lemmas.names_of_term-apply parameters name parts
      ∙ ap (λ ys. head ∷ ys)
      (ap all_of (drop-map (names_of_term parameters) (parameters name) parts)
      ∙ all_of_map (drop (parameters name) parts)) in
      omega (
        arith,
        ap (total weight) is,
        applied_light head (parameters name) parts (length-map parts (names_of_term parameters))
            each,
        t_lemmas.term_nodes-apply name parts,
      ))
      (omega (
        arith,
        ap (total weight) (t_lemmas.names_of_term-individuals parameters),
        t_lemmas.term_nodes-individuals,
      ))

  terms_light : (xs : List RawTerm) → AllByRecursion IsLight xs
  terms_light [] = tt
  terms_light (x ∷ xs) = (term_light x, terms_light xs)

  abbrev pub formula_weight : RawFormula → ℕ
  formula_weight x = total weight (names_of_formula parameters x)

  abbrev IsLightFormula : RawFormula → Type 0
  IsLightFormula x = formula_weight x ≤ 2 * formula_nodes x

  parts_light : (xs : List RawFormula) → AllByRecursion IsLightFormula xs →
      total weight (all_of (map (names_of_formula parameters) xs)) ≤ 2 * total formula_nodes xs
  parts_light [] all = omega arith
  parts_light (x ∷ xs) all =
      let rest : total weight (all_of (map (names_of_formula parameters) xs))
      ≤ 2 * total formula_nodes xs =
      parts_light xs all.1 in
      let first : formula_weight x ≤ 2 * formula_nodes x = all.0 in
      omega (
        arith,
        total-append weight (names_of_formula parameters x)
            (all_of (map (names_of_formula parameters) xs)),
        total-cons formula_nodes x xs,
      )

  -- of two parts
  both_light : (x left right : RawFormula) →
      names_of_formula parameters x ≡ names_of_formula parameters left
      ++ names_of_formula parameters right →
      formula_nodes x ≡ 1 + (formula_nodes left + formula_nodes right) →
      IsLightFormula left → IsLightFormula right → IsLightFormula x
  both_light x left right names size first second =
      omega (
        arith,
        ap (total weight) names,
        size,
        first,
        second,
        total-append weight (names_of_formula parameters left) (names_of_formula parameters right),
      )

  sides_light : (x : RawFormula) (left right : RawTerm) →
      names_of_formula parameters x ≡ names_of_term parameters left ++ names_of_term parameters
      right →
      formula_nodes x ≡ 1 + (term_nodes left + term_nodes right) → IsLightFormula x
  sides_light x left right names size =
      omega (
        arith,
        ap (total weight) names,
        size,
        term_light left,
        term_light right,
        total-append weight (names_of_term parameters left) (names_of_term parameters right),
      )

  one_light : (x part : RawFormula) → names_of_formula parameters x ≡ names_of_formula parameters
      part →
      formula_nodes part ≤ formula_nodes x → IsLightFormula part → IsLightFormula x
  one_light x part names size light = omega (arith, ap (total weight) names, size, light)

  pub formula_light : (x : RawFormula) → IsLightFormula x
  formula_light =
      formula_induction IsLightFormula (record {
        on_true = omega (arith, ap (total weight) (n.names_of_formula-true parameters));
        on_false = omega (arith, ap (total weight) (n.names_of_formula-false parameters));
        on_atom = λ name parts.
            omega (
              arith,
              ap (total weight) (n.names_of_formula-atom parameters name parts),
              applied_light (record { name = name; arguments = length parts; is_function = false })
                  (parameters name) parts refl (terms_light parts),
              nodes.formula_nodes-atom name parts,
            );
        on_equal = λ left right.
            sides_light (r.Equal left right) left right
            (n.names_of_formula-equal parameters left right)
            (nodes.formula_nodes-equal left right);
        on_unequal = λ left right.
            sides_light (r.Unequal left right) left right
            (n.names_of_formula-unequal parameters left right)
            (nodes.formula_nodes-unequal left right);
        on_not = λ part light.
            one_light (r.Not part) part (n.names_of_formula-not parameters part)
            (omega (arith, nodes.formula_nodes-not part)) light;
        on_and = λ parts each.
            omega (
              arith,
              ap (total weight) (n.names_of_formula-and parameters parts),
              parts_light parts each,
              nodes.formula_nodes-and parts,
            );
        on_or = λ parts each.
            omega (
              arith,
              ap (total weight) (n.names_of_formula-or parameters parts),
              parts_light parts each,
              nodes.formula_nodes-or parts,
            );
        on_implies = λ left right one other.
            both_light (r.Implies left right) left right
            (n.names_of_formula-implies parameters left right)
            (nodes.formula_nodes-implies left right) one other;
        on_if = λ left right one other.
            both_light (r.If left right) left right
            (n.names_of_formula-if parameters left right) (nodes.formula_nodes-if left right) one
            other;
        on_iff = λ left right one other.
            both_light (r.Iff left right) left right
            (n.names_of_formula-iff parameters left right) (nodes.formula_nodes-iff left right) one
            other;
        on_xor = λ left right one other.
            both_light (r.Xor left right) left right
            (n.names_of_formula-xor parameters left right) (nodes.formula_nodes-xor left right) one
            other;
        on_nand = λ left right one other.
            both_light (r.Nand left right) left right
            (n.names_of_formula-nand parameters left right) (nodes.formula_nodes-nand left right)
            one other;
        on_nor = λ left right one other.
            both_light (r.Nor left right) left right
            (n.names_of_formula-nor parameters left right) (nodes.formula_nodes-nor left right) one
            other;
        on_for_all = λ bounds body light.
            one_light (r.ForAll bounds body) body
            (n.names_of_formula-for_all parameters bounds body)
            (omega (arith, nodes.formula_nodes-for_all bounds body)) light;
        on_exists = λ bounds body light.
            one_light (r.Exists bounds body) body
            (n.names_of_formula-exists parameters bounds body)
            (omega (arith, nodes.formula_nodes-exists bounds body)) light;
      })
