-- A declaration gives a symbol of its own name.
use Rattle.std.proofs.Common.{◌≡◌, ℕ, List, map, refl, ap, ◌∙◌}
use Rattle.tptp_syntax.specs.declared.types.TypeExpr.{TypeExpr}
use Rattle.tf_core.specs.declared.signature.Constructor.{Constructor}
use Rattle.tf_check.specs.Scope.{Scope}
use Rattle.tf_check.specs.Types.{Reading, reading, bound_reading, bind_parameters}
use Rattle.tf_check.specs.Visited.{good, ◌>>=◌}
use Rattle.tf_check.proofs.TypeLemmas as l
use Rattle.tf_check.proofs.Variants.{TypeCases, type_induction}

module _ (entry : ℕ) (constructors : List Constructor) where
  -- the symbol that an expression declares has the name
  abbrev IsNamed : TypeExpr → Type 0
  IsNamed x = (name : List ℕ) (scope : Scope) →
      ((reading entry constructors x).as_symbol name scope).value.name ≡ name

  named : (x : TypeExpr) (r : Reading) → reading entry constructors x ≡ r →
      ((name : List ℕ) (scope : Scope) → (r.as_symbol name scope).value.name ≡ name) → IsNamed x
  named x r is own name scope =
      ap (λ (q : Reading). (q.as_symbol name scope).value.name) is ∙ own name scope

  cases : TypeCases IsNamed
  unfolding ◌>>=◌ good
  cases =
      record {
        on_variable = λ name. named _ _ (l.reading-variable entry constructors name) (λ n s. refl);
        on_apply = λ name parts all. named _ _ (l.reading-apply entry constructors name parts)
            (λ n s. refl);
        on_individuals = named _ _ (l.reading-individuals entry constructors) (λ n s. refl);
        on_truth = named _ _ (l.reading-truth entry constructors) (λ n s. refl);
        on_types = named _ _ (l.reading-types entry constructors) (λ n s. refl);
        on_product = λ parts all. named _ _ (l.reading-product entry constructors parts)
            (λ n s. refl);
        on_map = λ left right a b. named _ _ (l.reading-map entry constructors left right)
            (λ n s. refl);
        on_quantified = λ bounds body own.
            named _ _ (l.reading-quantified entry constructors bounds body)
            (λ n s. own n (bind_parameters entry (map (bound_reading entry constructors) bounds)
            s).value);
      }

  pub as_symbol-name : (x : TypeExpr) (name : List ℕ) (scope : Scope) →
      ((reading entry constructors x).as_symbol name scope).value.name ≡ name
  as_symbol-name x = type_induction IsNamed cases x
