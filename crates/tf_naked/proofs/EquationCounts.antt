-- How many equations stand in a formula, and in parts one after another.
use Rattle.std.specs.Prelude.{ℕ, ◌+◌, ◌≡◌, List, [], ◌∷◌, map, length, sum}
use Rattle.std.specs.List.{AllByRecursion}
use Rattle.std.proofs.Common.{refl, sym, ap, ◌∙◌, arith, length-append}
use Rattle.std.proofs.lemmas.List.Sums.{sum_by-cons}
use Rattle.tf_core.specs.declared.nnf.Nnf.{Nnf}
use Rattle.tf_core.specs.Sorts.{joined}
use Rattle.tf_core.specs.Counts.{equation_count}
use Rattle.tf_core.proofs.Counts.{normal_sum-true, normal_sum-false, normal_sum-atom, normal_sum-equation, normal_sum-and, normal_sum-or, normal_sum-for_all, normal_sum-exists}
use Rattle.tf_core.proofs.FormulaInduction.{nnf_induction}
use Rattle.tf_naked.specs.declared.position.Kind.{Kind}
use Rattle.tf_naked.specs.declared.position.Kind.TheVariants.{Universal, Existential}
use Rattle.tf_naked.specs.Naked.{equations_of}
use Rattle.tf_naked.proofs.Naked.{equations_of-true, equations_of-false, equations_of-atom, equations_of-equation, equations_of-and, equations_of-or, equations_of-for_all, equations_of-exists}

-- as many equations are listed as stand in the formula, whatever the kinds
abbrev IsCounted : Nnf → Type 0
IsCounted p = (kinds : List Kind) → length (equations_of p kinds) ≡ equation_count p

counted_parts : (parts : List Nnf) → AllByRecursion IsCounted parts → (kinds : List Kind) →
    length (joined (map (λ part. equations_of part kinds) parts)) ≡ sum (map equation_count parts)
counted_parts [] each kinds = refl
counted_parts (part ∷ parts) each kinds =
    length-append (equations_of part kinds) (joined (map (λ p. equations_of p kinds) parts))
    ∙ ap (λ n. n + length (joined (map (λ p. equations_of p kinds) parts))) (each.0 kinds)
    ∙ ap (λ n. equation_count part + n) (counted_parts parts each.1 kinds)
    ∙ sym (sum_by-cons (λ n. n) (equation_count part) (map equation_count parts))

nothing_more : (n : ℕ) → n ≡ 0 + n
nothing_more n = omega arith

pub length-equations_of : (p : Nnf) → IsCounted p
length-equations_of = nnf_induction IsCounted (record {
  on_true = λ kinds. ap length (equations_of-true kinds) ∙ sym (normal_sum-true 0 1);
  on_false = λ kinds. ap length (equations_of-false kinds) ∙ sym (normal_sum-false 0 1);
  on_atom = λ positive f types terms kinds.
      ap length (equations_of-atom positive f types terms kinds)
      ∙ sym (normal_sum-atom 0 1 positive f types terms);
  on_equation = λ positive ty left right kinds.
      ap length (equations_of-equation positive ty left right kinds)
      ∙ sym (normal_sum-equation 0 1 positive ty left right);
  on_and = λ parts each kinds.
      ap length (equations_of-and parts kinds) ∙ counted_parts parts each kinds
      ∙ sym (normal_sum-and 0 1 parts);
  on_or = λ parts each kinds.
      ap length (equations_of-or parts kinds) ∙ counted_parts parts each kinds
      ∙ sym (normal_sum-or 0 1 parts);
  on_for_all = λ ty body counted kinds.
      ap length (equations_of-for_all ty body kinds) ∙ counted (Universal ∷ kinds)
      ∙ nothing_more (equation_count body) ∙ sym (normal_sum-for_all 0 1 ty body);
  on_exists = λ ty body counted kinds.
      ap length (equations_of-exists ty body kinds) ∙ counted (Existential ∷ kinds)
      ∙ nothing_more (equation_count body) ∙ sym (normal_sum-exists 0 1 ty body);
})
