-- What is known at first.
use Rattle.std.specs.Prelude.{ℕ, ◌≡◌, ◌↔◌, ◌<◌, ◌≤◌, ◌+◌, ◌⊎◌, List, [], ◌∷◌, ◌++◌, map, length, take, get_or}
use Rattle.std.specs.List.{Contains, AllByRecursion}
use Rattle.std.proofs.Common.{sym, ap, subst, ◌∙◌, arith, inl, inr}
use Rattle.std.proofs.lemmas.List.{take_more, take_all}
use Rattle.std.proofs.lemmas.List.Elements.{Contains-append_left, Contains-push, Contains-push_cases}
use Rattle.std.proofs.lemmas.Option.{slice_get_within}
use Rattle.tf_core.specs.declared.ty.Ty.{Ty}
use Rattle.tf_core.specs.declared.normal.NormalFormula.{NormalFormula}
use Rattle.tf_core.specs.declared.normal.Normal.{Normal}
use Rattle.tf_core.specs.declared.signature.Signature.{Signature}
use Rattle.tf_core.specs.Sound.{IsSoundFormula}
use Rattle.tf_types.proofs.Nodes.{apply_parts}
use Rattle.enc_mono.specs.declared.instances.Origin.{Origin}
use Rattle.enc_mono.specs.declared.known.Known.{Known}
use Rattle.enc_mono.specs.Instances.{symbol_instances}
use Rattle.enc_mono.specs.Origins.{IsOriginOf}
use Rattle.enc_mono.specs.Rounds.{IsKnown}
use Rattle.enc_mono.specs.Calls.Numbered.{as_type, Lists, HasInstance, IsIndex}
use Rattle.enc_mono.specs.Calls.Known.{index_in, IsKept, IsNamed, AreOfSymbols, Files}
use Rattle.enc_mono.proofs.Listed.{all-same}
use Rattle.enc_mono.proofs.InstancesTyped.{symbol_instances-typed}

-- symbol instances of symbols, as types
pub named_types : (symbols : ℕ) (origins : List Origin) → AreOfSymbols symbols origins →
    AllByRecursion (IsNamed symbols) (map as_type origins)
named_types symbols [] all = tt
named_types symbols (origin ∷ origins) all = (
  λ f arguments same. subst (λ n. n < symbols)
      (apply_parts origin.symbol f origin.types arguments same).0 all.0,
  named_types symbols origins all.1,
)

-- those of a sound formula are of the signature's symbols
pub of_signature : (g : Signature) (formula : NormalFormula) → IsSoundFormula g formula →
    AreOfSymbols (length g.symbols) (symbol_instances formula.body)
of_signature g formula sound =
    all-same (IsOriginOf g formula.type_variables) (λ origin. origin.symbol < length g.symbols)
    (λ origin of. slice_get_within g.symbols origin.symbol of.declared of.at)
    (symbol_instances formula.body)
    (symbol_instances-typed g formula.type_variables [] formula.body sound.typed)

-- a symbol instance of one of the formulas, which has no type variables
pub record StandsIn (formulas : List NormalFormula) (origin : Origin) : Type 0 where
  pub formula : NormalFormula
  pub of_these : Contains formulas formula
  pub no_variables : formula.type_variables ≡ 0
  pub stands : Contains (symbol_instances formula.body) origin

-- those of the first formulas are known
pub record IsFirstKnown (normal : Normal) (k : ℕ) (known : Known) : Type 0 where
  pub kept : IsKept known
  pub count : length (index_in known) ≡ length normal.signature.symbols
  pub exact : (origin : Origin) → HasInstance known.table (index_in known) origin
      ↔ StandsIn (take k normal.formulas) origin

module _ (normal : Normal) where
  pub IsFirstKnown-nothing : (known : Known) → IsKept known →
      length (index_in known) ≡ length normal.signature.symbols →
      ((origin : Origin) → HasInstance known.table (index_in known) origin → ⊥) →
      IsFirstKnown normal 0 known
  IsFirstKnown-nothing known kept count none = record {
    kept = kept;
    count = count;
    exact = λ origin. (
      λ has. absurd (none origin has),
      λ stands. absurd (let inside : stands.of_these.0 < 0 = stands.of_these.1 in
          omega (arith, inside)),
    );
  }

  module _ (k : ℕ) (known : Known) (so_far : IsFirstKnown normal k known) (formula : NormalFormula)
      (within : k < length normal.formulas) (is : formula ≡ get_or normal.formulas k formula)
    where
      abbrev now : List NormalFormula
      now = take k normal.formulas

      next_or_before : (other : NormalFormula) → Contains (take (k + 1) normal.formulas) other →
          Contains now other ⊎ (formula ≡ other)
      next_or_before other at =
          elim (Contains-push_cases now (get_or normal.formulas k formula) other
          (subst (λ list. Contains list other) (take_more normal.formulas k formula within) at)) [
            | inl before ↦ inl before
            | inr same ↦ inr (is ∙ same)
          ]

      is_next : Contains (take (k + 1) normal.formulas) formula
      is_next =
          subst (λ list. Contains list formula)
          (sym (take_more normal.formulas k formula within))
          (subst (Contains (now ++ get_or normal.formulas k formula ∷ [])) (sym is)
          (Contains-push now (get_or normal.formulas k formula)))

      was_before : (other : NormalFormula) → Contains now other →
          Contains (take (k + 1) normal.formulas) other
      was_before other at =
          subst (λ list. Contains list other) (sym (take_more normal.formulas k formula within))
          (Contains-append_left now (get_or normal.formulas k formula ∷ []) other at)

      stands_later : (origin : Origin) → StandsIn now origin →
          StandsIn (take (k + 1) normal.formulas) origin
      stands_later origin stands = record {
        formula = stands.formula;
        of_these = was_before stands.formula stands.of_these;
        no_variables = stands.no_variables;
        stands = stands.stands;
      }

      -- the next has type variables
      pub IsFirstKnown-passed : (formula.type_variables ≡ 0 → ⊥) → IsFirstKnown normal (k + 1) known
      IsFirstKnown-passed polymorphic = record {
        kept = so_far.kept;
        count = so_far.count;
        exact = λ origin. (
          λ has. stands_later origin ((so_far.exact origin).0 has),
          λ stands. elim (next_or_before stands.formula stands.of_these) [
            | inl before ↦ (so_far.exact origin).1 (record {
              formula = stands.formula;
              of_these = before;
              no_variables = stands.no_variables;
              stands = stands.stands;
            })
            | inr same ↦ absurd (polymorphic
                (ap (λ (f : NormalFormula). f.type_variables) same ∙ stands.no_variables))
          ],
        );
      }

      -- it has none, and its symbol instances were filed
      pub IsFirstKnown-filed : formula.type_variables ≡ 0 → (later : Known) →
          Files (symbol_instances formula.body) known later → IsFirstKnown normal (k + 1) later
      IsFirstKnown-filed ground later files = record {
        kept = files.kept;
        count = files.count ∙ so_far.count;
        exact = λ origin. (
          λ has. elim ((files.exact origin).0 has) [
            | inl was ↦ stands_later origin ((so_far.exact origin).0 was)
            | inr stands ↦ record {
              formula = formula;
              of_these = is_next;
              no_variables = ground;
              stands = stands;
            }
          ],
          λ stands. elim (next_or_before stands.formula stands.of_these) [
            | inl before ↦ (files.exact origin).1 (inl ((so_far.exact origin).1 (record {
              formula = stands.formula;
              of_these = before;
              no_variables = stands.no_variables;
              stands = stands.stands;
            })))
            | inr same ↦ (files.exact origin).1 (inr
                (subst (λ (f : NormalFormula). Contains (symbol_instances f.body) origin) (sym same)
                stands.stands))
          ],
        );
      }

  pub IsIndex-first : (k : ℕ) (known : Known) → length normal.formulas ≤ k →
      IsFirstKnown normal k known → IsIndex known.table (IsKnown normal 0) (index_in known)
  IsIndex-first k known all are = record {
    filed = are.kept.filed;
    exact = λ origin. (
      λ stands. (are.exact origin).1 (record {
        formula = stands.formula;
        of_these = subst (λ list. Contains list stands.formula)
            (sym (take_all k normal.formulas all)) stands.of_problem;
        no_variables = stands.no_variables;
        stands = stands.stands;
      }),
      λ has. let stands = (are.exact origin).0 has in record {
        formula = stands.formula;
        of_problem = subst (λ list. Contains list stands.formula)
            (take_all k normal.formulas all) stands.of_these;
        no_variables = stands.no_variables;
        stands = stands.stands;
      },
    );
  }

-- what was listed from nothing
pub listed_is : (origins : List Origin) (nothing listed : List Ty) → nothing ≡ [] →
    Lists origins nothing listed → listed ≡ map as_type origins
listed_is origins nothing listed none lists =
    lists ∙ ap (λ front. front ++ map as_type origins) none

-- formulas as a loop reads them

pub formula_read : (formulas items : List NormalFormula) (k : ℕ) (formula : NormalFormula) →
    items ≡ formulas → k < length items → formula ≡ get_or items k formula →
    (k < length formulas) × (formula ≡ get_or formulas k formula)
formula_read formulas items k formula same within is = (
  subst (λ list. k < length list) same within,
  is ∙ ap (λ list. get_or list k formula) same,
)

pub all_read : (formulas items : List NormalFormula) (k : ℕ) → items ≡ formulas →
    length items ≤ k → length formulas ≤ k
all_read formulas items k same = subst (λ list. length list ≤ k) same
