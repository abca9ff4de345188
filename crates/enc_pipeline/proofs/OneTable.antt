-- A text is a table of one model, or there is one reason why it is none.
use Rattle.std.proofs.Common.{◌≡◌, ℕ, ◌<◌, ◌⊎◌, inl, inr, List, length, take, slice_get, Some, Err, Result, sym, subst, ap, ◌∙◌}
use Rattle.std.specs.List.{AllByRecursion}
use Rattle.model_tables.specs.declared.error.TableError.{TableError}
use Rattle.model_tables.specs.Faults.{Asked}
use Rattle.model_tables.specs.Grammar.{Table}
use Rattle.model_tables.specs.Refusals.{IsRefused}
use Rattle.model_tables.proofs.OneVerdict.{one_verdict}
use Rattle.enc_pipeline.specs.declared.fault.Fault.{Fault}
use Rattle.enc_pipeline.specs.declared.fault.Fault.TheVariants as fault
use Rattle.enc_pipeline.proofs.FirstOnes.{one_first, none_fails}

abbrev refusal : TableError → Result Table TableError
refusal reason = Err reason

-- of two kinds of reasons there is one, where there is one of each kind and never one of both
pub one_of : (First Second : Fault → Type 0) →
    ((a b : Fault) → First a → First b → a ≡ b) → ((a b : Fault) → Second a → Second b → a ≡ b) →
    ((a b : Fault) → First a → Second b → ⊥) →
    (a b : Fault) → First a ⊎ Second a → First b ⊎ Second b → a ≡ b
one_of First Second one two apart a b (inl x) (inl y) = one a b x y
one_of First Second one two apart a b (inl x) (inr y) = absurd (apart a b x y)
one_of First Second one two apart a b (inr x) (inl y) = absurd (apart b a y x)
one_of First Second one two apart a b (inr x) (inr y) = two a b x y

-- Tables of structures, within a limit, that are asked for formulas which are to be good in them.
module _ {Formula : Type 0} (S : Type 0) (asked : Asked) (text : List ℕ) (IsTable Small : S → Type 0)
    (Good : S → Formula → Type 0) (formulas : List Formula)
    (one : (s t : S) → IsTable s → IsTable t → s ≡ t)
    (not_refused : (s : S) (reason : TableError) → IsTable s → Small s →
    IsRefused asked text reason → ⊥) where
  -- the text is refused
  pub record IsBad (a : Fault) : Type 0 where
    pub reason : TableError
    pub is : a ≡ fault.Table reason
    pub refused : IsRefused asked text reason

  -- it is a table of a structure, in which this formula is the first that isn't good
  pub record IsFalse (a : Fault) : Type 0 where
    pub formula : ℕ
    pub is : a ≡ fault.NotModel formula
    pub structure : S
    pub is_table : IsTable structure
    pub small : Small structure
    pub within : formula < length formulas
    pub fails : (f : Formula) → slice_get formulas formula ≡ Some f → Good structure f → ⊥
    pub earlier : AllByRecursion (Good structure) (take formula formulas)

  one_bad : (a b : Fault) → IsBad a → IsBad b → a ≡ b
  one_bad a b bad other =
      let same : refusal bad.reason ≡ refusal other.reason =
      one_verdict asked text (refusal bad.reason) (refusal other.reason) bad.refused other.refused
      in
      let reason : bad.reason ≡ other.reason = cc in
      bad.is ∙ ap fault.Table reason ∙ sym other.is

  bad_and_table : (a : Fault) (s : S) → IsBad a → IsTable s → Small s → ⊥
  bad_and_table a s bad is_table small = not_refused s bad.reason is_table small bad.refused

  -- a structure of the text in the place of another
  in_place : (a : Fault) (s : S) (wrong : IsFalse a) → IsTable s →
      ((f : Formula) → slice_get formulas wrong.formula ≡ Some f → Good s f → ⊥)
      × AllByRecursion (Good s) (take wrong.formula formulas)
  in_place a s wrong is_table =
      subst (λ t. ((f : Formula) → slice_get formulas wrong.formula ≡ Some f → Good t f → ⊥)
      × AllByRecursion (Good t) (take wrong.formula formulas))
      (one wrong.structure s wrong.is_table is_table) (wrong.fails, wrong.earlier)

  one_false : (a b : Fault) → IsFalse a → IsFalse b → a ≡ b
  one_false a b wrong other =
      let here = in_place a other.structure wrong other.is_table in
      wrong.is
      ∙ ap fault.NotModel
      (one_first (Good other.structure) formulas wrong.formula other.formula here.0 other.fails
      wrong.within other.within here.1 other.earlier)
      ∙ sym other.is

  pub one_none : (a b : Fault) → IsBad a ⊎ IsFalse a → IsBad b ⊎ IsFalse b → a ≡ b
  one_none =
      one_of IsBad IsFalse one_bad one_false
      (λ a b bad wrong. bad_and_table a wrong.structure bad wrong.is_table wrong.small)

  pub none_and_model : (a : Fault) (s : S) → IsBad a ⊎ IsFalse a → IsTable s → Small s →
      AllByRecursion (Good s) formulas → ⊥
  none_and_model a s (inl bad) is_table small good = bad_and_table a s bad is_table small
  none_and_model a s (inr wrong) is_table small good =
      none_fails (Good s) formulas wrong.formula (in_place a s wrong is_table).0 wrong.within good
