-- A model of a translation by tags in which functions may be absent. Each of them is given, at the
-- members that it has, a number that is read as the element of rank 0 of the result's member. So its
-- table is zeros after the renumbering.
use Rattle.std.specs.Prelude.{ℕ, zero, suc, ◌+◌, ◌<◌, ◌≡◌, Bool, true, false, List, [], ◌∷◌, ◌++◌, map, length, replicate, cond, eqb, slice_get, take, Option, Some, None}
use Rattle.std.proofs.Common.{refl, sym, ap, ◌∙◌, subst, arith}
use Rattle.std.proofs.lemmas.Bool.{eqb-true, eq-eqb}
use Rattle.std.proofs.Math.Path.{fun_ext}
use Rattle.tf_core.specs.declared.ty.Ty.{Ty}
use Rattle.tf_core.specs.declared.signature.Symbol.{Symbol}
use Rattle.tf_core.specs.declared.normal.Normal.{Normal}
use Rattle.tf_core.specs.Types.{type_value}
use Rattle.tf_core.specs.Typing.{IsNormal}
use Rattle.tf_core.specs.Structures.{Typed}
use Rattle.tf_core.specs.Models.{IsNormalModel}
use Rattle.fof_models.specs.declared.structure.Structure.{Structure}
use Rattle.fof_models.specs.Structures.{Untyped, reading}
use Rattle.fof_models.specs.Models.{AreModel}
use Rattle.enc_marks.specs.declared.choices.Elements.TheVariants.{Image}
use Rattle.enc_marks.specs.Translation.{Numbers, selected}
use Rattle.enc_marks.specs.Encoded.{all_numbers, is_present, translation, encoded}
use Rattle.enc_marks.specs.Occurrence.{count_below}
use Rattle.enc_marks.specs.Schemes.{tags}
use Rattle.enc_laws.specs.Ranks.{nth}
use Rattle.enc_laws.specs.Lifted.{Lift, numbers_of, lifted, lifted_at, lifted_value, is_element, read_as, lift_by_type}
use Rattle.enc_laws.specs.Present.{over_all, last_of, is_tag}
use Rattle.enc_laws.specs.Total.{IsTotal}
use Rattle.enc_laws.specs.Laws.{lifted_of}
use Rattle.enc_laws.proofs.Ranked.{count_below-less, nth-count_below, ranked}
use Rattle.enc_laws.proofs.MergedStructure.{slice_get-past, take-front}
use Rattle.enc_laws.proofs.LiftByType.{same_numbers}
use Rattle.enc_laws.proofs.LiftByTags.{AreAbsent, read_from, tag_inhabited, tags_lifted_model}
use Rattle.enc_laws.proofs.Present.{is_total, agreeing_satisfied}

selected_all : (count : ℕ) (members : List ℕ) → length members ≡ count →
    selected (replicate count true) members ≡ members
selected_all zero [] all = refl
selected_all zero (m ∷ members) all = absurd (omega (arith, all))
selected_all (suc count) [] all = absurd (omega (arith, all))
selected_all (suc count) (m ∷ members) all =
    ap (λ ms. m ∷ ms) (selected_all count members (omega (arith, all)))

-- a lift by images, by what its constructors and its tag give
abbrev image_lift : ℕ → (ℕ → List ℕ → ℕ) → (ℕ → ℕ → ℕ) → Lift
image_lift size at mark = record {
  members = size;
  constructor_at = at;
  picks = λ m v. is_element Image size (mark m) v;
  into = λ m v. read_as Image (mark m) v;
}

module _ (normal : Normal) (s : Structure) (model : AreModel (encoded tags normal).problem s) where
  abbrev k : Numbers
  k = all_numbers normal

  abbrev present : ℕ → Bool
  present = is_present (translation tags normal)

  abbrev zeros : Untyped
  zeros = over_all (is_present (translation tags normal)) (is_tag tags normal) (reading s)

  total : IsTotal tags normal zeros
  total = is_total tags normal s model refl

  abbrev own : Lift
  own = lift_by_type tags k zeros

  -- whether a number is read as the element of rank 0 of a member
  abbrev is_first : ℕ → ℕ → Bool
  is_first m x = eqb (count_below (own.into m x) (own.picks m)) 0

  abbrev first_read : ℕ → ℕ
  first_read m = nth s.size (is_first m) 0

  record IsFirst (m v : ℕ) : Type 0 where
    below : v < s.size
    rank : count_below (own.into m v) (own.picks m) ≡ 0

  first_is : (m : ℕ) → IsFirst m (first_read m)
  first_is m =
      let below : (u v : ℕ) → v < s.size → zeros.symbol_at k.shared (u ∷ v ∷ []) < s.size =
      total.tags refl in
      let least = ranked s.size 0 (own.picks m)
      (tag_inhabited k normal.signature present zeros total.closed below m) in
      let from = read_from k normal.signature present zeros total.closed below m least.0
      least.1.passes in
      let passes : is_first m from.0 ≡ true =
      eq-eqb _ _ (ap (λ w. count_below w (own.picks m)) from.2 ∙ least.1.rank_is) in
      let some = count_below-less s.size from.0 (is_first m) from.1 passes in
      let found = ranked s.size 0 (is_first m) (omega (arith, some)) in
      let is : first_read m ≡ found.0 =
      ap (nth s.size (is_first m)) (sym found.1.rank_is)
      ∙ nth-count_below s.size found.0 (is_first m) found.1.below found.1.passes in
      record {
        below = subst (λ z. z < s.size) (sym is) found.1.below;
        rank = ap (λ z. count_below (own.into m z) (own.picks m)) is
            ∙ eqb-true _ _ found.1.passes;
      }

  abbrev filled_result : Option Ty → List ℕ → ℕ
  filled_result None members = 0
  filled_result (Some ty) members = first_read (type_value own.constructor_at members ty)

  abbrev filled_at : Bool → Option Symbol → ℕ → List ℕ → ℕ
  filled_at true symbol old values = old
  filled_at false None old values = old
  filled_at false (Some symbol) old values =
      filled_result symbol.result (take symbol.parameters values)

  abbrev filled : Untyped
  filled = record {
    size = s.size;
    symbol_at = λ m values. filled_at (present m) (slice_get normal.signature.symbols m)
        (zeros.symbol_at m values) values;
  }

  no_symbol : (b : Bool) (old : ℕ) (values : List ℕ) → filled_at b None old values ≡ old
  no_symbol true old values = refl
  no_symbol false old values = refl

  behind_same : (i : ℕ) (values : List ℕ) →
      filled.symbol_at (length normal.signature.symbols + i) values
      ≡ zeros.symbol_at (length normal.signature.symbols + i) values
  behind_same i values =
      let m : ℕ = length normal.signature.symbols + i in
      ap (λ o. filled_at (present m) o (zeros.symbol_at m values) values)
      (slice_get-past normal.signature.symbols i)
      ∙ no_symbol (present m) (zeros.symbol_at m values) values

  same_lift : lift_by_type tags k filled ≡ lift_by_type tags k zeros
  same_lift =
      let mark : ℕ → ℕ → ℕ = λ m v. filled.symbol_at k.shared (m ∷ v ∷ []) in
      let constructors : (λ (i : ℕ) (members : List ℕ). filled.symbol_at (k.constructor i) members)
      ≡ (λ (i : ℕ) (members : List ℕ). zeros.symbol_at (k.constructor i) members) =
      fun_ext (λ i. fun_ext (λ members. behind_same i members)) in
      let marks : (λ (m v : ℕ). filled.symbol_at k.shared (m ∷ v ∷ []))
      ≡ (λ (m v : ℕ). zeros.symbol_at k.shared (m ∷ v ∷ [])) =
      fun_ext (λ m. fun_ext (λ v.
      behind_same (length normal.signature.constructors) (m ∷ v ∷ []))) in
      ap (λ at. image_lift s.size at mark) constructors
      ∙ ap (image_lift s.size (λ i members. zeros.symbol_at (k.constructor i) members)) marks

  present_same : (f : ℕ) (values : List ℕ) → present f ≡ true →
      filled.symbol_at f values ≡ zeros.symbol_at f values
  present_same f values is =
      ap (λ b. filled_at b (slice_get normal.signature.symbols f) (zeros.symbol_at f values) values)
      is

  absent_filled : (f : ℕ) (symbol : Symbol) (values : List ℕ) →
      slice_get normal.signature.symbols f ≡ Some symbol → present f ≡ false →
      filled.symbol_at f values ≡ filled_result symbol.result (take symbol.parameters values)
  absent_filled f symbol values at is =
      ap (λ b. filled_at b (slice_get normal.signature.symbols f) (zeros.symbol_at f values) values)
      is
      ∙ ap (λ o. filled_at false o (zeros.symbol_at f values) values) at

  function_below : (f : ℕ) (symbol : Symbol) (ty : Ty) (values : List ℕ) →
      slice_get normal.signature.symbols f ≡ Some symbol → symbol.result ≡ Some ty →
      (b : Bool) → present f ≡ b → filled.symbol_at f values < s.size
  function_below f symbol ty values at gives true is =
      subst (λ z. z < s.size) (sym (present_same f values is))
      (total.closed.functions f symbol ty values at gives)
  function_below f symbol ty values at gives false is =
      subst (λ z. z < s.size)
      (sym (absent_filled f symbol values at is
      ∙ ap (λ o. filled_result o (take symbol.parameters values)) gives))
      (first_is (type_value own.constructor_at (take symbol.parameters values) ty)).below

  predicate_below : (f : ℕ) (symbol : Symbol) (values : List ℕ) →
      slice_get normal.signature.symbols f ≡ Some symbol → symbol.result ≡ None →
      (b : Bool) → present f ≡ b → filled.symbol_at f values < 2
  predicate_below f symbol values at gives true is =
      subst (λ z. z < 2) (sym (present_same f values is))
      (total.predicates f symbol values at gives)
  predicate_below f symbol values at gives false is =
      let some : 0 < 2 = omega arith in
      subst (λ z. z < 2)
      (sym (absent_filled f symbol values at is
      ∙ ap (λ o. filled_result o (take symbol.parameters values)) gives)) some

  filled_total : IsTotal tags normal filled
  filled_total = record {
    closed = record {
      inhabited = total.closed.inhabited;
      constructors = λ i constructor values at.
          subst (λ z. z < s.size) (sym (behind_same i values))
          (total.closed.constructors i constructor values at);
      functions = λ f symbol ty values at gives.
          function_below f symbol ty values at gives (present f) refl;
    };
    tags = λ binding u v below.
        subst (λ z. z < s.size)
        (sym (behind_same (length normal.signature.constructors) (u ∷ v ∷ [])))
        (total.tags binding u v below);
    predicates = λ f symbol values at gives.
        predicate_below f symbol values at gives (present f) refl;
  }

  -- what is absent has rank 0

  abbrev IsZero : Lift → List ℕ → Option Ty → ℕ → Type 0
  IsZero l members result v = lifted_value l members result v ≡ 0

  result_zero : (members : List ℕ) (result : Option Ty) →
      IsZero own members result (filled_result result members)
  result_zero members None = refl
  result_zero members (Some ty) = (first_is (type_value own.constructor_at members ty)).rank

  absent_zero : AreAbsent k normal.signature present filled
  absent_zero f symbol kept values members elements at is h =
      let all : kept ≡ members =
      same_numbers filled kept (selected (tags.keeps symbol) members) h.kept_types
      ∙ selected_all symbol.parameters members h.count in
      let front : take symbol.parameters (kept ++ values) ≡ members =
      take-front kept values symbol.parameters (ap length all ∙ h.count) ∙ all in
      let value_is : filled.symbol_at f (kept ++ values) ≡ filled_result symbol.result members =
      absent_filled f symbol (kept ++ values) at is
      ∙ ap (λ ms. filled_result symbol.result ms) front in
      ap (λ v. lifted_value (lift_by_type tags k filled) members symbol.result v) value_is
      ∙ subst (λ l. IsZero l members symbol.result (filled_result symbol.result members))
      (sym same_lift) (result_zero members symbol.result)

  -- the lifted structure is the one with zeros

  -- the numbers at which a symbol's table is read
  abbrev read_numbers : Symbol → List ℕ → List ℕ → List ℕ
  read_numbers symbol members elements =
      selected (tags.keeps symbol) members
      ++ numbers_of own s.size (map (type_value own.constructor_at members) symbol.arguments)
      elements

  at_same : (f : ℕ) (symbol : Option Symbol) (members elements : List ℕ) (b : Bool) →
      present f ≡ b →
      lifted_at tags k present filled own f symbol members elements
      ≡ lifted_at tags k present zeros own f symbol members elements
  at_same f None members elements b is = refl
  at_same f (Some symbol) members elements true is =
      ap (λ v. cond (present f) (lifted_value own members symbol.result v) 0)
      (present_same f (read_numbers symbol members elements) is)
  at_same f (Some symbol) members elements false is =
      let values : List ℕ = read_numbers symbol members elements in
      ap (λ b. cond b (lifted_value own members symbol.result (filled.symbol_at f values)) 0) is
      ∙ sym (ap (λ b. cond b (lifted_value own members symbol.result (zeros.symbol_at f values)) 0)
      is)

  abbrev of_symbols : (ℕ → List ℕ → List ℕ → ℕ) → Typed
  of_symbols at = record {
    sizes = (lifted tags k normal.signature present zeros own).sizes;
    constructor_at = own.constructor_at;
    symbol_at = at;
  }

  lifted_same : lifted tags k normal.signature present filled (lift_by_type tags k filled)
      ≡ lifted tags k normal.signature present zeros (lift_by_type tags k zeros)
  lifted_same =
      ap (lifted tags k normal.signature present filled) same_lift
      ∙ ap of_symbols (fun_ext (λ f. fun_ext (λ members. fun_ext (λ elements.
      at_same f (slice_get normal.signature.symbols f) members elements (present f) refl))))

  pub tags_tables_lifted : IsNormal normal → IsNormalModel normal (lifted_of tags normal (reading s))
  tags_tables_lifted sound =
      subst (IsNormalModel normal) lifted_same
      (tags_lifted_model normal present filled filled_total absent_zero sound
      (agreeing_satisfied tags normal s model filled refl (λ m is values.
      sym (present_same m values is
      ∙ ap (λ b. cond b ((reading s).symbol_at (count_below m present) values)
      (cond (is_tag tags normal m) (last_of values) 0)) is))))
