-- Models that are carried, by what the layers below make of them.
use Rattle.std.proofs.Common.{◌≡◌, ◌≢◌, ℕ, suc, ◌<◌, ◌≤◌, ◌^◌, List, [], ◌∷◌, length, sum, slice_index, refl, subst, ap, ◌∙◌, arith}
use Rattle.std.proofs.lemmas.List.Sums.{sum_by-cons}
use Rattle.enc_base.specs.Counts.{most_entries}
use Rattle.tf_core.specs.declared.normal.Normal.{Normal}
use Rattle.tf_core.specs.Sound.{IsSound}
use Rattle.tf_core.specs.TypedTables.{TypedTables, AreNormalModel}
use Rattle.tf_models.specs.declared.structure.TypedStructure.{TypedStructure}
use Rattle.tf_models.specs.Reading.{tables}
use Rattle.tf_nnf.specs.NormalForm.{normal_of}
use Rattle.tf_nnf.specs.Extension.{IsExtension, without_fresh}
use Rattle.tf_nnf.specs.Laws.{GivesModel}
use Rattle.fof_models.specs.declared.structure.Structure.{Structure}
use Rattle.fof_models.specs.Models.{AreModel}
use Rattle.enc_marks.specs.declared.scheme.Scheme.{Scheme}
use Rattle.enc_marks.specs.declared.refusal.Refusal.{Refusal}
use Rattle.enc_marks.specs.declared.refusal.Refusal.TheVariants.{NotMonomorphic, NotMonotone, TableTooLarge, Memory}
use Rattle.enc_marks.specs.declared.encoded.Encoded.{Encoded}
use Rattle.enc_marks.specs.Choices.{Choices}
use Rattle.enc_marks.specs.Schemes.{choices_of}
use Rattle.enc_models.specs.Lowered.{lowered, lowered_entries, IsRefused}
use Rattle.enc_models.specs.LiftedTables.{lifted_tables, lifted_entries, IsLiftRefused}
use Rattle.enc_pipeline.specs.Way.{Preparation}
use Rattle.enc_pipeline.specs.Output.{translated}
use Rattle.enc_pipeline.specs.Carried.{written_normal, choices, structure_of}
use Rattle.enc_pipeline.specs.Calls.Carrying.{IsLowered, IsNotLowered, IsLifted, IsNotLifted}
use Rattle.enc_pipeline.specs.declared.fault.Fault.TheVariants as fault

-- The parts of a prepared problem, under other names.
module _ (p : Preparation) (which : Scheme) (n : Normal) (made : Encoded)
    (scheme_is : which ≡ p.how.scheme) (normal_is : n ≡ normal_of p.problem)
    (made_is : made ≡ translated p.how.scheme p.problem) where
  -- what holds of the scheme's choices and the normal problem does so of those of the problem
  of_parts : (P : Choices → Normal → Type 0) → P (choices_of which n) n → P (choices p) (written_normal p)
  of_parts P holds =
      subst (λ m. P (choices_of p.how.scheme m) m) normal_is
      (subst (λ w. P (choices_of w n) n) scheme_is holds)

  -- ---- lowering

  pub is_lowered : (t extension : TypedTables) (s : Structure) → IsExtension p.problem t extension →
      AreModel made.problem s → s ≡ lowered (choices_of which n) n extension →
      lowered_entries (choices_of which n) n extension ≤ most_entries → IsLowered p t s
  is_lowered t extension s extends model exact within = record {
    extension = extension;
    extends = extends;
    within = of_parts (λ c m. lowered_entries c m extension ≤ most_entries) within;
    exact = of_parts (λ c m. s ≡ lowered c m extension) exact;
    is_model = subst (λ (e : Encoded). AreModel e.problem s) made_is model;
  }

  pub is_not_lowered : (t extension : TypedTables) (reason : Refusal) →
      IsExtension p.problem t extension → reason ≢ Memory →
      IsRefused (choices_of which n) n extension reason → IsNotLowered p t (fault.Scheme reason)
  is_not_lowered t extension reason extends other refused =
      by reason other (of_parts (λ c m. IsRefused c m extension reason) refused)
    where
      by : (reason : Refusal) → reason ≢ Memory →
          IsRefused (choices p) (written_normal p) extension reason → IsNotLowered p t (fault.Scheme reason)
      by (NotMonomorphic name) other refused = absurd refused
      by (NotMonotone place) other refused = absurd refused
      by (TableTooLarge entries) other refused = (extension, extends, refused.0, refused.1)
      by Memory other refused = absurd (other refl)

  -- ---- lifting

  pub is_lifted : (model : Structure) (t : TypedTables) (s : TypedStructure) → IsSound p.problem →
      AreNormalModel n t → t ≡ lifted_tables (choices_of which n) n model →
      lifted_entries (choices_of which n) n model ≤ most_entries → tables s ≡ without_fresh n t →
      GivesModel n t (tables s) → IsLifted p model s
  is_lifted model t s sound good exact within reduct gives = record {
    within = of_parts (λ c m. lifted_entries c m model ≤ most_entries) within;
    exact =
        ap structure_of
        (reduct ∙ ap (without_fresh n) exact
        ∙ of_parts (λ c m. without_fresh n (lifted_tables (choices_of which n) n model)
        ≡ without_fresh m (lifted_tables c m model)) refl);
    is_model = gives p.problem sound normal_is good;
  }

  pub is_not_lifted : (model : Structure) (reason : Refusal) → reason ≢ Memory →
      IsLiftRefused (choices_of which n) n model reason → IsNotLifted p model (fault.Scheme reason)
  is_not_lifted model reason other refused =
      by reason other (of_parts (λ c m. IsLiftRefused c m model reason) refused)
    where
      by : (reason : Refusal) → reason ≢ Memory →
          IsLiftRefused (choices p) (written_normal p) model reason →
          IsNotLifted p model (fault.Scheme reason)
      by (NotMonomorphic name) other refused = absurd refused
      by (NotMonotone place) other refused = absurd refused
      by (TableTooLarge entries) other refused = refused
      by Memory other refused = absurd (other refl)

-- members that each have an element are no more than elements
pub members_within : (sizes : List ℕ) → ((m : ℕ) → m < length sizes → 0 < slice_index sizes m) →
    length sizes ≤ sum sizes
members_within [] some = omega arith
members_within (size ∷ sizes) some =
    let first : 0 < size = some 0 (omega arith) in
    let rest : length sizes ≤ sum sizes =
    members_within sizes (λ m within. some (suc m) (omega (arith, within))) in
    omega (arith, first, rest, sum_by-cons (λ (n : ℕ). n) size sizes)

-- a lifted structure within the limit has few members
pub few_members : (c : Choices) (n : Normal) (model : Structure) (t : TypedTables) →
    t ≡ lifted_tables c n model → AreNormalModel n t → lifted_entries c n model ≤ most_entries →
    length t.sizes < 2 ^ 32
few_members c n model t exact good within =
    let members : length t.sizes ≤ sum t.sizes =
    members_within t.sizes good.model.structure.inhabited in
    let same : sum t.sizes ≡ sum (lifted_tables c n model).sizes =
    ap (λ (u : TypedTables). sum u.sizes) exact in
    omega (arith, members, same, within)
