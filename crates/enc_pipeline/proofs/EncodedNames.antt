-- The names that are chosen for the translation of a problem whose names can be written.
use Rattle.std.proofs.Common.{◌≡◌, ◌+◌, ◌-◌, ◌++◌, ℕ, List, [], ◌∷◌, map, length, take, refl, sym, subst, ap, ◌∙◌, arith}
use Rattle.std.proofs.lemmas.List.{length-append}
use Rattle.std.proofs.lemmas.List.FromFn.{length-map-range_with_len}
use Rattle.std.proofs.Math.Seq.{take-append_seam}
use Rattle.std.specs.List.{AllByRecursion, range_with_len}
use Rattle.tf_core.specs.declared.ty.Ty.{Ty}
use Rattle.tf_core.specs.declared.signature.Constructor.{Constructor}
use Rattle.tf_core.specs.declared.signature.Symbol.{Symbol}
use Rattle.tf_core.specs.declared.problem.Role.{Role}
use Rattle.tf_core.specs.declared.problem.Role.TheVariants.{Hypothesis, Conjecture}
use Rattle.tf_core.specs.declared.problem.Stated.{Stated}
use Rattle.tf_core.specs.declared.problem.Problem.{Problem}
use Rattle.tf_core.specs.declared.normal.NormalFormula.{NormalFormula}
use Rattle.tf_core.specs.declared.normal.Normal.{Normal}
use Rattle.tf_core.specs.Sound.{IsSoundNormal}
use Rattle.tf_check.specs.Writable.{HasWritableNames}
use Rattle.tf_check.proofs.VisitedNames.{all-weaker, all-map}
use Rattle.tf_nnf.specs.NormalForm.{normal_by_role, normal_formula, normal_of, types_for_conjecture, fresh_count, fresh_constructor}
use Rattle.fof_models.specs.declared.problem.FofSymbol.{FofSymbol}
use Rattle.fof_models.specs.declared.problem.FofFormula.{FofFormula}
use Rattle.fof_models.specs.Sound as untyped
use Rattle.fof_text.specs.Names.{chosen_names}
use Rattle.enc_base.specs.Names.{IsWritable}
use Rattle.fof_text.specs.States.{AreNamed}
use Rattle.fof_text.proofs.Chosen.{names_are_names}
use Rattle.enc_marks.specs.Choices.{Choices}
use Rattle.enc_marks.specs.Names.{first_fresh}
use Rattle.enc_marks.specs.Encoded.{encoded}
use Rattle.enc_marks.specs.Laws as marks
use Rattle.enc_marks.proofs.WritableNames.{translations_named}

-- ---- the normal problem

module _ (problem : Problem) (writable : HasWritableNames problem) where
  abbrev pub normal : Normal
  normal = normal_of problem

  abbrev count : ℕ
  count = fresh_count problem

  abbrev fresh : List Constructor
  fresh = map fresh_constructor (range_with_len 0 count)

  -- without the fresh constructors there are those of the problem
  own_constructors : take (first_fresh normal) normal.signature.constructors
      ≡ problem.signature.constructors
  own_constructors =
      let own = problem.signature.constructors in
      let all : length (own ++ fresh) ≡ length own + length fresh = length-append own fresh in
      let many : length fresh ≡ count = length-map-range_with_len fresh_constructor 0 count in
      let first : length (own ++ fresh) - count ≡ length own = omega (arith, all, many) in
      ap (λ (n : ℕ). take n (own ++ fresh)) first ∙ take-append_seam own fresh

  -- a formula keeps its name in normal form
  normal_name : (types : List Ty) (stated : Stated) (role : Role) →
      (normal_by_role types stated role).name ≡ stated.name
  normal_name types stated Hypothesis = refl
  normal_name types stated Conjecture = refl

  abbrev types : List Ty
  types = types_for_conjecture problem

  -- each name of the normal problem can be written
  pub normal_writable : marks.HasWritableNames normal
  normal_writable = record {
    constructors =
        subst (AllByRecursion (λ (c : Constructor). IsWritable c.name)) (sym own_constructors)
        writable.constructors;
    symbols = writable.symbols;
    formulas =
        all-map (λ (f : NormalFormula). IsWritable f.name) (normal_formula types)
        problem.formulas
        (all-weaker (λ (s : Stated). IsWritable s.name)
        (λ (s : Stated). IsWritable (normal_formula types s).name)
        (λ s here. subst IsWritable (sym (normal_name types s s.role)) here)
        problem.formulas writable.formulas);
  }

  -- The names that are chosen for a translation: each symbol has one of its own, and they and the
  -- names of the formulas can be written.
  pub translation_named : (c : Choices) → IsSoundNormal normal →
      untyped.IsSound (encoded c normal).problem →
      AreNamed (chosen_names (encoded c normal).problem.signature) (encoded c normal).problem
  translation_named c sound sound_translation =
      let named = translations_named c normal sound normal_writable in
      names_are_names (encoded c normal).problem sound_translation
      (all-map IsWritable (λ (symbol : FofSymbol). symbol.wanted) (encoded c normal).problem.signature
      named.symbols)
      named.formulas
