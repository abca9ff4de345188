-- A table has at most one answer: the output that is written for it, or why there is none.
use Rattle.std.proofs.Common.{◌≡◌, ℕ, ◌<◌, ◌≤◌, ◌⊎◌, inl, inr, List, refl, sym, subst, ap, ◌∙◌, arith}
use Rattle.std.proofs.lemmas.Bool.{false≢true}
use Rattle.enc_base.specs.Counts.{most_entries, in_64_bits}
use Rattle.tf_core.specs.declared.problem.Problem.{Problem}
use Rattle.tf_core.specs.declared.problem.Stated.{Stated}
use Rattle.tf_core.specs.TypedTables.{TypedTables, reading}
use Rattle.tf_models.specs.declared.structure.TypedStructure.{TypedStructure}
use Rattle.tf_models.specs.FirstFalse.{IsAsStated}
use Rattle.tf_models.specs.Reading.{tables}
use Rattle.tf_nnf.specs.Extension.{IsExtension}
use Rattle.tf_nnf.proofs.Models.{model_has_one_extension}
use Rattle.fof_models.specs.declared.problem.FofFormula.{FofFormula}
use Rattle.fof_models.specs.declared.structure.Structure.{Structure}
use Rattle.fof_models.specs.Models.{IsSatisfied}
use Rattle.fof_models.specs.Structures as untyped_structures
use Rattle.model_tables.specs.declared.error.TableError.{TableError}
use Rattle.model_tables.specs.Refusals.{IsRefused}
use Rattle.model_tables.specs.Typed as typed
use Rattle.model_tables.specs.Untyped as untyped_tables
use Rattle.model_tables.specs.Written.{typed_text, untyped_text}
use Rattle.model_tables.proofs.OneStructure.{one_typed, one_untyped}
use Rattle.model_tables.proofs.TypedTables.{typed_tables_are_not_refused}
use Rattle.model_tables.proofs.UntypedTables.{untyped_not_refused}
use Rattle.enc_marks.specs.declared.refusal.Refusal.TheVariants as refusal
use Rattle.enc_models.specs.Lowered.{lowered, lowered_entries}
use Rattle.enc_models.specs.LiftedTables.{lifted_entries}
use Rattle.enc_pipeline.specs.Way.{Preparation}
use Rattle.enc_pipeline.specs.Carried.{written_normal, translation, names, choices, lifted_model}
use Rattle.enc_pipeline.specs.Carried.{IsTableOfModel, IsNoModel, IsCheckedTo}
use Rattle.enc_pipeline.specs.Carried.{IsTableOfUntypedModel, IsNoUntypedModel}
use Rattle.enc_pipeline.specs.Carried.{IsLoweredTo, IsUnlowered, IsLoweredTooLarge}
use Rattle.enc_pipeline.specs.Carried.{IsLiftedTo, IsUnlifted, IsLiftedTooLarge}
use Rattle.enc_pipeline.specs.Laws.{HasOneAnswer}
use Rattle.enc_pipeline.specs.declared.fault.Fault.{Fault}
use Rattle.enc_pipeline.specs.declared.fault.Fault.TheVariants as fault
use Rattle.enc_pipeline.proofs.OneTable as one

-- ---- typed tables, and checking

module _ (problem : Problem) (text : List ℕ) where
  abbrev IsTable : TypedStructure → Type 0
  IsTable s = typed.IsTypedTable text problem.signature s

  abbrev Small : TypedStructure → Type 0
  Small s = typed.structure_entries s ≤ most_entries

  abbrev Good : TypedStructure → Stated → Type 0
  Good s = IsAsStated (reading problem.signature (tables s))

  abbrev one_table : (s t : TypedStructure) → IsTable s → IsTable t → s ≡ t
  one_table = one_typed text problem.signature

  abbrev not_bad : (s : TypedStructure) (reason : TableError) → IsTable s → Small s →
      IsRefused (typed.typed problem.signature) text reason → ⊥
  not_bad = typed_tables_are_not_refused text problem.signature

  abbrev IsBad : Fault → Type 0
  IsBad = one.IsBad TypedStructure (typed.typed problem.signature) text IsTable Small Good
      problem.formulas one_table not_bad

  abbrev IsFalse : Fault → Type 0
  IsFalse = one.IsFalse TypedStructure (typed.typed problem.signature) text IsTable Small Good
      problem.formulas one_table not_bad

  no_model_cases : (a : Fault) → IsNoModel problem text a → IsBad a ⊎ IsFalse a
  no_model_cases (fault.Table reason) why =
      inl (record { reason = reason; is = refl; refused = why.1 })
  no_model_cases (fault.NotModel formula) why =
      inr (record {
        formula = formula;
        is = refl;
        structure = why.0;
        is_table = why.1;
        small = why.2;
        within = why.3.within;
        fails = why.3.fails;
        earlier = why.3.earlier;
      })
  no_model_cases _ why = absurd why

  pub one_no_model : (a b : Fault) → IsNoModel problem text a → IsNoModel problem text b → a ≡ b
  one_no_model a b why other =
      one.one_none TypedStructure (typed.typed problem.signature) text IsTable Small Good
      problem.formulas one_table not_bad a b (no_model_cases a why) (no_model_cases b other)

  pub no_model_and_model : (a : Fault) (model : TypedStructure) → IsNoModel problem text a →
      IsTableOfModel text problem model → ⊥
  no_model_and_model a model why table =
      one.none_and_model TypedStructure (typed.typed problem.signature) text IsTable Small Good
      problem.formulas one_table not_bad a model (no_model_cases a why) table.is_table table.within
      table.is_model.model.formulas

  pub checking_has_one_answer : HasOneAnswer (IsNoModel problem text) (IsCheckedTo problem text)
  checking_has_one_answer = record {
    one_refusal = one_no_model;
    one_output = λ output other done also. done.output_is ∙ sym also.output_is;
    not_both = λ a output why done. no_model_and_model a done.model why done.is_table;
  }

-- ---- lowering

module _ (p : Preparation) (text : List ℕ) where
  pub record IsTooLarge (a : Fault) : Type 0 where
    pub entries : ℕ
    pub is : a ≡ fault.Scheme (refusal.TableTooLarge entries)
    pub model : TypedStructure
    pub is_table : IsTableOfModel text p.problem model
    pub too_large : IsLoweredTooLarge p (tables model) entries

  unlowered_cases : (a : Fault) → IsUnlowered p text a → IsNoModel p.problem text a ⊎ IsTooLarge a
  unlowered_cases (fault.Table reason) why = inl why
  unlowered_cases (fault.NotModel formula) why = inl why
  unlowered_cases (fault.Scheme (refusal.TableTooLarge entries)) why =
      inr (record {
        entries = entries;
        is = refl;
        model = why.0;
        is_table = why.1;
        too_large = why.2;
      })
  unlowered_cases (fault.Scheme _) why = absurd why
  unlowered_cases _ why = absurd why

  -- two extensions of the model of a table are one
  one_extension : (model other : TypedStructure) (extension also : TypedTables) →
      IsTableOfModel text p.problem model → IsTableOfModel text p.problem other →
      IsExtension p.problem (tables model) extension → IsExtension p.problem (tables other) also →
      extension ≡ also
  one_extension model other extension also table more extends extends' =
      let same = one_typed text p.problem.signature model other table.is_table more.is_table in
      model_has_one_extension.one p.problem (tables other) extension also
      (subst (λ (s : TypedStructure). IsExtension p.problem (tables s) extension) same extends)
      extends'

  one_too_large : (a b : Fault) → IsTooLarge a → IsTooLarge b → a ≡ b
  one_too_large a b large other =
      let same = one_extension large.model other.model large.too_large.0 other.too_large.0
      large.is_table other.is_table large.too_large.1 other.too_large.1 in
      large.is
      ∙ ap (λ entries. fault.Scheme (refusal.TableTooLarge entries))
      (large.too_large.3
      ∙ ap (λ t. in_64_bits (lowered_entries (choices p) (written_normal p) t)) same
      ∙ sym other.too_large.3)
      ∙ sym other.is

  one_unlowered : (a b : Fault) → IsUnlowered p text a → IsUnlowered p text b → a ≡ b
  one_unlowered a b why other =
      one.one_of (IsNoModel p.problem text) IsTooLarge (one_no_model p.problem text)
      one_too_large
      (λ c d none large.
      no_model_and_model p.problem text c large.model none large.is_table)
      a b (unlowered_cases a why) (unlowered_cases b other)

  one_lowered : (output other : List ℕ) → IsLoweredTo p text output → IsLoweredTo p text other →
      output ≡ other
  one_lowered output other done also =
      let same = one_extension done.model also.model done.extension also.extension done.is_table
      also.is_table done.extends also.extends in
      done.output_is
      ∙ ap (λ t. untyped_text (translation p).signature (names p) (lowered (choices p) (written_normal p) t))
      same
      ∙ sym also.output_is

  not_both : (a : Fault) (output : List ℕ) → IsNoModel p.problem text a ⊎ IsTooLarge a →
      IsLoweredTo p text output → ⊥
  not_both a output (inl none) done =
      no_model_and_model p.problem text a done.model none done.is_table
  not_both a output (inr large) done =
      let same = one_extension large.model done.model large.too_large.0 done.extension
      large.is_table done.is_table large.too_large.1 done.extends in
      let above = subst (λ t. most_entries < lowered_entries (choices p) (written_normal p) t) same
      large.too_large.2 in
      omega (arith, above, done.within)

  pub lowering_has_one_answer : HasOneAnswer (IsUnlowered p text) (IsLoweredTo p text)
  lowering_has_one_answer = record {
    one_refusal = one_unlowered;
    one_output = one_lowered;
    not_both = λ a output why done. not_both a output (unlowered_cases a why) done;
  }

-- ---- untyped tables, and lifting

module _ (p : Preparation) (text : List ℕ) where
  abbrev IsUntypedTable : Structure → Type 0
  IsUntypedTable s = untyped_tables.IsUntypedTable text (translation p) (names p) s

  abbrev SmallUntyped : Structure → Type 0
  SmallUntyped s = untyped_tables.structure_entries s ≤ most_entries

  abbrev GoodUntyped : Structure → FofFormula → Type 0
  GoodUntyped s = IsSatisfied (untyped_structures.reading s)

  abbrev one_untyped_table : (s t : Structure) → IsUntypedTable s → IsUntypedTable t → s ≡ t
  one_untyped_table = one_untyped text (translation p) (names p)

  abbrev not_bad_untyped : (s : Structure) (reason : TableError) → IsUntypedTable s →
      SmallUntyped s → IsRefused (untyped_tables.untyped (translation p).signature (names p)) text reason → ⊥
  not_bad_untyped = untyped_not_refused text (translation p) (names p)

  abbrev IsBadUntyped : Fault → Type 0
  IsBadUntyped = one.IsBad Structure (untyped_tables.untyped (translation p).signature (names p)) text
      IsUntypedTable SmallUntyped GoodUntyped (translation p).formulas one_untyped_table
      not_bad_untyped

  abbrev IsFalseUntyped : Fault → Type 0
  IsFalseUntyped = one.IsFalse Structure (untyped_tables.untyped (translation p).signature (names p)) text
      IsUntypedTable SmallUntyped GoodUntyped (translation p).formulas one_untyped_table
      not_bad_untyped

  no_untyped_cases : (a : Fault) → IsNoUntypedModel p text a → IsBadUntyped a ⊎ IsFalseUntyped a
  no_untyped_cases (fault.Table reason) why =
      inl (record { reason = reason; is = refl; refused = why.1 })
  no_untyped_cases (fault.NotModel formula) why =
      inr (record {
        formula = formula;
        is = refl;
        structure = why.0;
        is_table = why.1;
        small = why.2;
        within = why.3.within;
        fails = λ f at good. false≢true (sym (why.3.fails f at) ∙ good);
        earlier = why.3.earlier;
      })
  no_untyped_cases _ why = absurd why

  one_no_untyped : (a b : Fault) → IsNoUntypedModel p text a → IsNoUntypedModel p text b → a ≡ b
  one_no_untyped a b why other =
      one.one_none Structure (untyped_tables.untyped (translation p).signature (names p)) text
      IsUntypedTable SmallUntyped GoodUntyped (translation p).formulas one_untyped_table
      not_bad_untyped a b (no_untyped_cases a why) (no_untyped_cases b other)

  no_untyped_and_model : (a : Fault) (model : Structure) → IsNoUntypedModel p text a →
      IsTableOfUntypedModel text p model → ⊥
  no_untyped_and_model a model why table =
      one.none_and_model Structure (untyped_tables.untyped (translation p).signature (names p)) text
      IsUntypedTable SmallUntyped GoodUntyped (translation p).formulas one_untyped_table
      not_bad_untyped a model (no_untyped_cases a why) table.is_table table.within
      table.is_model.formulas

  pub record IsLiftTooLarge (a : Fault) : Type 0 where
    pub entries : ℕ
    pub is : a ≡ fault.Scheme (refusal.TableTooLarge entries)
    pub model : Structure
    pub is_table : IsTableOfUntypedModel text p model
    pub too_large : IsLiftedTooLarge p model entries

  unlifted_cases : (a : Fault) → IsUnlifted p text a → IsNoUntypedModel p text a ⊎ IsLiftTooLarge a
  unlifted_cases (fault.Table reason) why = inl why
  unlifted_cases (fault.NotModel formula) why = inl why
  unlifted_cases (fault.Scheme (refusal.TableTooLarge entries)) why =
      inr (record {
        entries = entries;
        is = refl;
        model = why.0;
        is_table = why.1;
        too_large = why.2;
      })
  unlifted_cases (fault.Scheme _) why = absurd why
  unlifted_cases _ why = absurd why

  one_of_two : (model other : Structure) → IsTableOfUntypedModel text p model →
      IsTableOfUntypedModel text p other → model ≡ other
  one_of_two model other table also = one_untyped_table model other table.is_table also.is_table

  one_lift_too_large : (a b : Fault) → IsLiftTooLarge a → IsLiftTooLarge b → a ≡ b
  one_lift_too_large a b large other =
      large.is
      ∙ ap (λ entries. fault.Scheme (refusal.TableTooLarge entries))
      (large.too_large.1
      ∙ ap (λ s. in_64_bits (lifted_entries (choices p) (written_normal p) s))
      (one_of_two large.model other.model large.is_table other.is_table)
      ∙ sym other.too_large.1)
      ∙ sym other.is

  one_unlifted : (a b : Fault) → IsUnlifted p text a → IsUnlifted p text b → a ≡ b
  one_unlifted a b why other =
      one.one_of (IsNoUntypedModel p text) IsLiftTooLarge one_no_untyped one_lift_too_large
      (λ c d none large. no_untyped_and_model c large.model none large.is_table)
      a b (unlifted_cases a why) (unlifted_cases b other)

  one_lifted : (output other : List ℕ) → IsLiftedTo p text output → IsLiftedTo p text other →
      output ≡ other
  one_lifted output other done also =
      done.output_is
      ∙ ap (λ s. typed_text p.problem.signature (lifted_model p s))
      (one_of_two done.model also.model done.is_table also.is_table)
      ∙ sym also.output_is

  not_both_lifted : (a : Fault) (output : List ℕ) → IsNoUntypedModel p text a ⊎ IsLiftTooLarge a →
      IsLiftedTo p text output → ⊥
  not_both_lifted a output (inl none) done =
      no_untyped_and_model a done.model none done.is_table
  not_both_lifted a output (inr large) done =
      let above = subst (λ s. most_entries < lifted_entries (choices p) (written_normal p) s)
      (one_of_two large.model done.model large.is_table done.is_table) large.too_large.0 in
      omega (arith, above, done.within)

  pub lifting_has_one_answer : HasOneAnswer (IsUnlifted p text) (IsLiftedTo p text)
  lifting_has_one_answer = record {
    one_refusal = one_unlifted;
    one_output = one_lifted;
    not_both = λ a output why done. not_both_lifted a output (unlifted_cases a why) done;
  }
