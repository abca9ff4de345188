-- A model of a translation by tags of sorts in which functions may be absent. Each of them is given
-- a number that is read as the element of rank 0 of its result's sort. So its table is zeros after
-- the renumbering.
use Rattle.std.specs.Prelude.{ℕ, ◌+◌, ◌<◌, ◌≡◌, Bool, true, false, List, [], ◌∷◌, ◌++◌, map, length, cond, eqb, slice_get, Option, Some, None, IsTrue}
use Rattle.std.proofs.Common.{refl, sym, ap, ◌∙◌, subst, arith}
use Rattle.std.proofs.lemmas.Bool.{eqb-true, eq-eqb}
use Rattle.std.proofs.Math.Path.{fun_ext}
use Rattle.tf_core.specs.declared.ty.Ty.{Ty}
use Rattle.tf_core.specs.declared.signature.Symbol.{Symbol}
use Rattle.tf_core.specs.declared.normal.Normal.{Normal}
use Rattle.tf_core.specs.Types.{same_type, type_value}
use Rattle.tf_core.specs.Sorts.{sorts}
use Rattle.tf_core.specs.Sound.{is_monomorphic, IsSoundNormal}
use Rattle.tf_core.specs.Structures.{Typed}
use Rattle.tf_core.specs.Models.{IsNormalModel}
use Rattle.fof_models.specs.declared.structure.Structure.{Structure}
use Rattle.fof_models.specs.Structures.{Untyped, reading}
use Rattle.fof_models.specs.Models.{AreModel}
use Rattle.tf_naked.specs.Naked.{is_free}
use Rattle.tf_naked.proofs.HeldTypes as naked_sorts
use Rattle.enc_marks.specs.Choices.{Choices}
use Rattle.enc_marks.specs.Translation.{Numbers, selected}
use Rattle.enc_marks.specs.Encoded.{all_numbers, is_present, translation, encoded}
use Rattle.enc_marks.specs.Occurrence.{count_below}
use Rattle.enc_marks.specs.Schemes.{tags_light}
use Rattle.enc_laws.specs.Ranks.{nth}
use Rattle.enc_laws.specs.Lifted.{Lift, numbers_of, lifted, lifted_at, lifted_value, is_element, read_as, elements_in, mark_of_sort, sort_at, formed_sort, lift_by_sort}
use Rattle.enc_laws.specs.Present.{over_all, last_of, is_tag}
use Rattle.enc_laws.specs.LiftedBySort.{IsTotalBySort}
use Rattle.enc_laws.specs.Laws.{lifted_of}
use Rattle.enc_laws.proofs.Ranked.{count_below-less, nth-count_below, ranked}
use Rattle.enc_laws.proofs.MergedStructure.{slice_get-past}
use Rattle.enc_laws.proofs.SortsFormed.{sort_number, number_within, sort_value}
use Rattle.enc_laws.proofs.LiftBySortTags.{AreAbsentBySort, read_from_some, sort_inhabited, tags_light_lifted_model}
use Rattle.enc_laws.proofs.Present.{agreeing_satisfied}
use Rattle.enc_laws.proofs.PresentBySort.{is_total_by_sort}

module _ (normal : Normal) (s : Structure) (monomorphic : IsTrue (is_monomorphic normal))
    (sound : IsSoundNormal normal)
    (model : AreModel (encoded (tags_light (is_free normal)) normal).problem s) where
  abbrev c : Choices
  c = tags_light (is_free normal)

  abbrev k : Numbers
  k = all_numbers normal

  abbrev present : ℕ → Bool
  present = is_present (translation c normal)

  abbrev zeros : Untyped
  zeros = over_all (is_present (translation c normal)) (is_tag c normal) (reading s)

  total : IsTotalBySort c normal zeros
  total = is_total_by_sort c normal s model refl

  abbrev own : Lift
  own = lift_by_sort c normal k zeros

  -- whether a number is read as the element of rank 0 of a member
  abbrev is_first : ℕ → ℕ → Bool
  is_first m x = eqb (count_below (own.into m x) (own.picks m)) 0

  abbrev first_read : ℕ → ℕ
  first_read m = nth s.size (is_first m) 0

  record IsFirst (m v : ℕ) : Type 0 where
    below : v < s.size
    rank : count_below (own.into m v) (own.picks m) ≡ 0

  first_is : (m : ℕ) → m < length (sorts normal) → IsFirst m (first_read m)
  first_is m within =
      let least = ranked s.size 0 (own.picks m)
      (sort_inhabited normal present zeros monomorphic sound total.closed (total.tags refl) m
      within) in
      let from = read_from_some (is_free normal (sort_at normal m)) s.size
      (mark_of_sort k zeros (sort_at normal m)) least.0 least.1.below least.1.passes in
      let passes : is_first m from.0 ≡ true =
      eq-eqb _ _ (ap (λ w. count_below w (own.picks m)) from.2 ∙ least.1.rank_is) in
      let some = count_below-less s.size from.0 (is_first m) from.1 passes in
      let found = ranked s.size 0 (is_first m) (omega (arith, some)) in
      let is : first_read m ≡ found.0 =
      ap (nth s.size (is_first m)) (sym found.1.rank_is)
      ∙ nth-count_below s.size found.0 (is_first m) found.1.below found.1.passes in
      record {
        below = subst (λ z. z < s.size) (sym is) found.1.below;
        rank = ap (λ z. count_below (own.into m z) (own.picks m)) is
            ∙ eqb-true _ _ found.1.passes;
      }

  abbrev filled_result : Option Ty → ℕ
  filled_result None = 0
  filled_result (Some ty) = first_read (sort_number normal ty)

  abbrev filled_at : Bool → Option Symbol → ℕ → ℕ
  filled_at true symbol old = old
  filled_at false None old = old
  filled_at false (Some symbol) old = filled_result symbol.result

  abbrev filled : Untyped
  filled = record {
    size = s.size;
    symbol_at = λ m values. filled_at (present m) (slice_get normal.signature.symbols m)
        (zeros.symbol_at m values);
  }

  no_symbol : (b : Bool) (old : ℕ) → filled_at b None old ≡ old
  no_symbol true old = refl
  no_symbol false old = refl

  behind_same : (i : ℕ) (values : List ℕ) →
      filled.symbol_at (length normal.signature.symbols + i) values
      ≡ zeros.symbol_at (length normal.signature.symbols + i) values
  behind_same i values =
      let m : ℕ = length normal.signature.symbols + i in
      ap (λ o. filled_at (present m) o (zeros.symbol_at m values))
      (slice_get-past normal.signature.symbols i)
      ∙ no_symbol (present m) (zeros.symbol_at m values)

  mark_same : (sort : Ty) (v : ℕ) → mark_of_sort k filled sort v ≡ mark_of_sort k zeros sort v
  mark_same sort v =
      let i : ℕ = length normal.signature.constructors + sort_number normal sort in
      let e : length normal.signature.symbols + i ≡ k.sort sort = omega arith in
      subst (λ m. filled.symbol_at m (v ∷ []) ≡ zeros.symbol_at m (v ∷ [])) e
      (behind_same i (v ∷ []))

  -- a lift by what the sorts' tags give
  abbrev lift_of : (Ty → ℕ → ℕ) → Lift
  lift_of mark = record {
    members = length (sorts normal);
    constructor_at = formed_sort normal;
    picks = λ m v. is_element (elements_in c normal (sort_at normal m)) s.size
        (mark (sort_at normal m)) v;
    into = λ m v. read_as (elements_in c normal (sort_at normal m)) (mark (sort_at normal m)) v;
  }

  same_lift : lift_by_sort c normal k filled ≡ lift_by_sort c normal k zeros
  same_lift =
      let marks : mark_of_sort k filled ≡ mark_of_sort k zeros =
      fun_ext (λ sort. fun_ext (λ v. mark_same sort v)) in
      ap lift_of marks

  present_same : (f : ℕ) (values : List ℕ) → present f ≡ true →
      filled.symbol_at f values ≡ zeros.symbol_at f values
  present_same f values is =
      ap (λ b. filled_at b (slice_get normal.signature.symbols f) (zeros.symbol_at f values)) is

  absent_filled : (f : ℕ) (symbol : Symbol) (values : List ℕ) →
      slice_get normal.signature.symbols f ≡ Some symbol → present f ≡ false →
      filled.symbol_at f values ≡ filled_result symbol.result
  absent_filled f symbol values at is =
      ap (λ b. filled_at b (slice_get normal.signature.symbols f) (zeros.symbol_at f values)) is
      ∙ ap (λ o. filled_at false o (zeros.symbol_at f values)) at

  -- a result's sort
  first_of_result : (f : ℕ) (symbol : Symbol) (ty : Ty) →
      slice_get normal.signature.symbols f ≡ Some symbol → symbol.result ≡ Some ty →
      IsFirst (sort_number normal ty) (first_read (sort_number normal ty))
  first_of_result f symbol ty at gives =
      first_is (sort_number normal ty) (number_within (same_type ty) (sorts normal)
      (naked_sorts.result_sort normal f symbol ty at gives))

  function_below : (f : ℕ) (symbol : Symbol) (ty : Ty) (values : List ℕ) →
      slice_get normal.signature.symbols f ≡ Some symbol → symbol.result ≡ Some ty →
      (b : Bool) → present f ≡ b → filled.symbol_at f values < s.size
  function_below f symbol ty values at gives true is =
      subst (λ z. z < s.size) (sym (present_same f values is))
      (total.closed.functions f symbol ty values at gives)
  function_below f symbol ty values at gives false is =
      subst (λ z. z < s.size)
      (sym (absent_filled f symbol values at is ∙ ap (λ o. filled_result o) gives))
      (first_of_result f symbol ty at gives).below

  predicate_below : (f : ℕ) (symbol : Symbol) (values : List ℕ) →
      slice_get normal.signature.symbols f ≡ Some symbol → symbol.result ≡ None →
      (b : Bool) → present f ≡ b → filled.symbol_at f values < 2
  predicate_below f symbol values at gives true is =
      subst (λ z. z < 2) (sym (present_same f values is))
      (total.predicates f symbol values at gives)
  predicate_below f symbol values at gives false is =
      let some : 0 < 2 = omega arith in
      subst (λ z. z < 2)
      (sym (absent_filled f symbol values at is ∙ ap (λ o. filled_result o) gives)) some

  filled_total : IsTotalBySort c normal filled
  filled_total = record {
    closed = record {
      inhabited = total.closed.inhabited;
      constructors = λ i constructor values at.
          subst (λ z. z < s.size) (sym (behind_same i values))
          (total.closed.constructors i constructor values at);
      functions = λ f symbol ty values at gives.
          function_below f symbol ty values at gives (present f) refl;
    };
    tags = λ binding sort v is below.
        subst (λ z. z < s.size) (sym (mark_same sort v)) (total.tags binding sort v is below);
    predicates = λ f symbol values at gives.
        predicate_below f symbol values at gives (present f) refl;
  }

  -- what is absent has rank 0

  result_zero : (f : ℕ) (symbol : Symbol) (members : List ℕ) →
      slice_get normal.signature.symbols f ≡ Some symbol → (result : Option Ty) →
      symbol.result ≡ result → lifted_value own members result (filled_result result) ≡ 0
  result_zero f symbol members at None gives = refl
  result_zero f symbol members at (Some ty) gives =
      let is = naked_sorts.result_sort normal f symbol ty at gives in
      ap (λ m. count_below (own.into m (first_read (sort_number normal ty))) (own.picks m))
      (sort_value normal monomorphic sound ty members is)
      ∙ (first_of_result f symbol ty at gives).rank

  absent_zero : AreAbsentBySort normal present filled
  absent_zero f symbol kept values members elements at is h =
      ap (λ v. lifted_value (lift_by_sort c normal k filled) members symbol.result v)
      (absent_filled f symbol (kept ++ values) at is)
      ∙ ap (λ l. lifted_value l members symbol.result (filled_result symbol.result)) same_lift
      ∙ result_zero f symbol members at symbol.result refl

  -- the lifted structure is the one with zeros

  -- the numbers at which a symbol's table is read
  abbrev read_numbers : Symbol → List ℕ → List ℕ → List ℕ
  read_numbers symbol members elements =
      selected (c.keeps symbol) members
      ++ numbers_of own s.size (map (type_value own.constructor_at members) symbol.arguments)
      elements

  at_same : (f : ℕ) (symbol : Option Symbol) (members elements : List ℕ) (b : Bool) →
      present f ≡ b →
      lifted_at c k present filled own f symbol members elements
      ≡ lifted_at c k present zeros own f symbol members elements
  at_same f None members elements b is = refl
  at_same f (Some symbol) members elements true is =
      ap (λ v. cond (present f) (lifted_value own members symbol.result v) 0)
      (present_same f (read_numbers symbol members elements) is)
  at_same f (Some symbol) members elements false is =
      let values : List ℕ = read_numbers symbol members elements in
      ap (λ b. cond b (lifted_value own members symbol.result (filled.symbol_at f values)) 0) is
      ∙ sym (ap (λ b. cond b (lifted_value own members symbol.result (zeros.symbol_at f values)) 0)
      is)

  abbrev of_symbols : (ℕ → List ℕ → List ℕ → ℕ) → Typed
  of_symbols at = record {
    sizes = (lifted c k normal.signature present zeros own).sizes;
    constructor_at = own.constructor_at;
    symbol_at = at;
  }

  lifted_same : lifted c k normal.signature present filled (lift_by_sort c normal k filled)
      ≡ lifted c k normal.signature present zeros (lift_by_sort c normal k zeros)
  lifted_same =
      ap (lifted c k normal.signature present filled) same_lift
      ∙ ap of_symbols (fun_ext (λ f. fun_ext (λ members. fun_ext (λ elements.
      at_same f (slice_get normal.signature.symbols f) members elements (present f) refl))))

  pub tags_light_tables_lifted : IsNormalModel normal
      (lifted_of (tags_light (is_free normal)) normal (reading s))
  tags_light_tables_lifted =
      subst (IsNormalModel normal) lifted_same
      (tags_light_lifted_model normal present filled monomorphic sound filled_total absent_zero
      (agreeing_satisfied c normal s model filled refl (λ m is values.
      sym (present_same m values is
      ∙ ap (λ b. cond b ((reading s).symbol_at (count_below m present) values)
      (cond (is_tag c normal m) (last_of values) 0)) is))))
