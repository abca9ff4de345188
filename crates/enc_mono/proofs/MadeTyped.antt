-- The problem of instances of a sound problem is well typed.
use Rattle.std.specs.Prelude.{ℕ, ◌≡◌, List, [], ◌∷◌, map}
use Rattle.std.specs.List.{AllByRecursion}
use Rattle.std.proofs.Common.{refl, sym, subst}
use Rattle.tf_core.specs.declared.normal.NormalFormula.{NormalFormula}
use Rattle.tf_core.specs.declared.normal.Normal.{Normal}
use Rattle.tf_core.specs.Typing.{IsNnf, IsSignature, IsNormal}
use Rattle.tf_core.specs.Sound.{IsSoundNormal, IsSoundFormula}
use Rattle.tf_core.proofs.NnfTypingKept.{nnf-substituted}
use Rattle.enc_mono.specs.declared.instances.Origin.{Origin}
use Rattle.enc_mono.specs.Instances.{symbol_instances}
use Rattle.enc_mono.specs.Origins.{IsOriginOf}
use Rattle.enc_mono.specs.Monomorphised.{AreGroundForms, origins_of, over_origins, over_instances, IsMonomorphised}
use Rattle.enc_mono.proofs.Listed.{all-same, all-joined, all-parted}
use Rattle.enc_mono.proofs.NumberedOrigins.{IsNumbered, all_numbered, all_once}
use Rattle.enc_mono.proofs.InstancesTyped.{symbol_instances-typed}
use Rattle.enc_mono.proofs.GroundForms.{HoldsOfForms, of_ground}
use Rattle.enc_mono.proofs.RenumberedTyped.{there, symbols_typed, formula-renumbered}

-- a ground formula is well typed without type variables
pub record IsTypedGround (normal : Normal) (formula : NormalFormula) : Type 0 where
  pub no_variables : formula.type_variables ≡ 0
  pub typed : IsNnf normal.signature 0 [] formula.body

module _ (normal : Normal) (rounds : ℕ) (typed : IsSignature normal.signature) where
  typed_forms : (formula : NormalFormula) → IsSoundFormula normal.signature formula →
      HoldsOfForms normal rounds (IsTypedGround normal) formula
  typed_forms formula is = record {
    itself = λ none. record {
      no_variables = none;
      typed = subst (λ n. IsNnf normal.signature n [] formula.body) none is.typed;
    };
    instances = λ number types ground. record {
      no_variables = refl;
      typed = nnf-substituted normal.signature formula.type_variables 0 types ground.formed
          ground.count typed [] formula.body is.typed;
    };
  }

  pub ground_are_typed : (ground : List NormalFormula) →
      AllByRecursion (IsSoundFormula normal.signature) normal.formulas →
      AreGroundForms normal rounds normal.formulas ground →
      AllByRecursion (IsTypedGround normal) ground
  ground_are_typed ground sound forms =
      of_ground normal rounds (IsTypedGround normal) normal.formulas ground forms
      (all-same (IsSoundFormula normal.signature)
      (HoldsOfForms normal rounds (IsTypedGround normal)) typed_forms normal.formulas sound)

module _ (normal : Normal) (ground : List NormalFormula)
    (are : AllByRecursion (IsTypedGround normal) ground)
  where
    -- the symbol instances of ground formulas are of symbols
    pub are_origins : AllByRecursion (IsOriginOf normal.signature 0) (origins_of ground)
    are_origins =
        all_once (IsOriginOf normal.signature 0) [] _
        (all-joined (IsOriginOf normal.signature 0) (λ formula. symbol_instances formula.body)
        ground
        (all-same (IsTypedGround normal)
        (λ formula. AllByRecursion (IsOriginOf normal.signature 0) (symbol_instances formula.body))
        (λ formula is. symbol_instances-typed normal.signature 0 [] formula.body is.typed)
        ground are))

    formulas_typed : (origins : List Origin) (some : List NormalFormula) →
        AllByRecursion (IsTypedGround normal) some →
        AllByRecursion (λ formula. AllByRecursion (IsNumbered origins)
        (symbol_instances formula.body)) some →
        AllByRecursion (λ formula. IsNnf (there normal origins) formula.type_variables []
        formula.body) (map (over_origins origins) some)
    formulas_typed origins [] typed numbered = tt
    formulas_typed origins (formula ∷ rest) typed numbered = (
      subst (λ n. IsNnf (there normal origins) n [] (over_origins origins formula).body)
          (sym typed.0.no_variables)
          (formula-renumbered normal origins [] formula.body typed.0.typed numbered.0),
      formulas_typed origins rest typed.1 numbered.1,
    )

    pub over_instances_typed : IsSignature normal.signature →
        IsNormal (over_instances normal (origins_of ground) ground)
    over_instances_typed typed = record {
      signature = symbols_typed normal (origins_of ground) typed (origins_of ground) are_origins;
      formulas = formulas_typed (origins_of ground) ground are
          (all-parted (IsNumbered (origins_of ground)) (λ formula. symbol_instances formula.body)
          ground (all_numbered _));
    }

-- a problem of instances is well typed, and each of its symbols is of a symbol

pub made_is_typed : (normal : Normal) (rounds : ℕ) (made : Normal) (origins : List Origin) →
    IsSoundNormal normal → IsMonomorphised normal rounds made origins → IsNormal made
made_is_typed normal rounds made origins sound is =
    subst IsNormal (sym is.made_is)
    (subst (λ os. IsNormal (over_instances normal os is.ground)) (sym is.origins_are)
    (over_instances_typed normal is.ground
    (ground_are_typed normal rounds sound.signature.typed is.ground sound.formulas is.forms)
    sound.signature.typed))

pub origins_are_of : (normal : Normal) (rounds : ℕ) (made : Normal) (origins : List Origin) →
    IsSoundNormal normal → IsMonomorphised normal rounds made origins →
    AllByRecursion (IsOriginOf normal.signature 0) origins
origins_are_of normal rounds made origins sound is =
    subst (AllByRecursion (IsOriginOf normal.signature 0)) (sym is.origins_are)
    (are_origins normal is.ground
    (ground_are_typed normal rounds sound.signature.typed is.ground sound.formulas is.forms))
