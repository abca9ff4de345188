-- What is known after rounds is of symbols of the signature, with types that are formed.
use Rattle.std.specs.Prelude.{ℕ, zero, suc, List, []}
use Rattle.std.specs.List.{Contains}
use Rattle.std.proofs.Common.{sym, subst, ◌∙◌, inl, inr}
use Rattle.std.proofs.lemmas.List.{length-map}
use Rattle.tf_core.specs.declared.ty.Ty.{Ty}
use Rattle.tf_core.specs.declared.normal.NormalFormula.{NormalFormula}
use Rattle.tf_core.specs.declared.normal.Normal.{Normal}
use Rattle.tf_core.specs.declared.signature.Signature.{Signature}
use Rattle.tf_core.specs.Types.{instantiate}
use Rattle.tf_core.specs.Sound.{IsSoundNormal, IsSoundFormula}
use Rattle.tf_core.proofs.TypingKept.{types-substituted}
use Rattle.enc_mono.specs.declared.instances.Origin.{Origin}
use Rattle.enc_mono.specs.Instances.{symbol_instances, instance_under}
use Rattle.enc_mono.specs.Origins.{IsOriginOf}
use Rattle.enc_mono.specs.Rounds.{IsGround, IsKnown}
use Rattle.enc_mono.proofs.InstancesTyped.{symbol_instances-typed}
use Rattle.enc_mono.proofs.Searching.{holds}

module _ (normal : Normal) (sound : IsSoundNormal normal) where
  abbrev g : Signature
  g = normal.signature

  sound_formula : (formula : NormalFormula) → Contains normal.formulas formula →
      IsSoundFormula g formula
  sound_formula formula at = holds (IsSoundFormula g) normal.formulas formula sound.formulas at

  pub stands_typed : (formula : NormalFormula) → Contains normal.formulas formula →
      (origin : Origin) → Contains (symbol_instances formula.body) origin →
      IsOriginOf g formula.type_variables origin
  stands_typed formula at origin stands =
      let is = sound_formula formula at in
      holds (IsOriginOf g formula.type_variables) (symbol_instances formula.body) origin
      (symbol_instances-typed g formula.type_variables [] formula.body is.typed) stands

  under_typed : (variables : ℕ) (types : List Ty) → IsGround g variables types →
      (origin : Origin) → IsOriginOf g variables origin → IsOriginOf g 0 (instance_under types origin)
  under_typed variables types ground origin of = record {
    declared = of.declared;
    at = of.at;
    count = length-map origin.types (instantiate types) ∙ of.count;
    formed = types-substituted g variables 0 types ground.formed ground.count origin.types
        of.formed;
  }

  pub known_typed : (rounds : ℕ) (origin : Origin) → IsKnown normal rounds origin →
      IsOriginOf g 0 origin
  known_typed zero origin stands =
      subst (λ n. IsOriginOf g n origin) stands.no_variables
      (stands_typed stands.formula stands.of_problem origin stands.stands)
  known_typed (suc rounds) origin (inl before) = known_typed rounds origin before
  known_typed (suc rounds) origin (inr stands) =
      subst (IsOriginOf g 0) (sym stands.is_instance)
      (under_typed stands.formula.type_variables stands.types stands.admitted.ground stands.before
      (stands_typed stands.formula stands.of_problem stands.before stands.stands))
