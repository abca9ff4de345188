-- The collapsed structure has its tables in range.
use Rattle.std.specs.Prelude.{ℕ, zero, suc, ◌+◌, ◌<◌, ◌≤◌, ◌≡◌, Bool, true, false, List, [], ◌∷◌, map, length, replicate, cond, drop, get_or, is_none, ltb, min, slice_get, take, Option, Some, None}
use Rattle.std.proofs.Common.{refl, sym, ap, ◌∙◌, subst, arith, ⊎_elim}
use Rattle.std.proofs.lemmas.Bool.{cond-true, cond-false, cases_lt, lt-ltb, le-ltb}
use Rattle.enc_base.specs.Tables.{EachBelow}
use Rattle.tf_core.specs.declared.ty.Ty.{Ty}
use Rattle.tf_core.specs.declared.ty.Ty.TheVariants as type
use Rattle.tf_core.specs.declared.signature.Constructor.{Constructor}
use Rattle.tf_core.specs.declared.signature.Symbol.{Symbol}
use Rattle.tf_core.specs.declared.normal.Normal.{Normal}
use Rattle.tf_core.specs.Sorts.{sorts}
use Rattle.tf_core.specs.Typing.{IsSignature}
use Rattle.tf_core.specs.Structures.{Typed, member_count, size_of, member_of, AreArguments, IsStructure}
use Rattle.fof_models.specs.Structures.{Untyped, values_below}
use Rattle.enc_marks.specs.declared.choices.Marking.{Marking}
use Rattle.enc_marks.specs.declared.choices.Marking.TheVariants.{ByType, BySort}
use Rattle.enc_marks.specs.declared.choices.Binding.{Binding}
use Rattle.enc_marks.specs.declared.choices.Binding.TheVariants.{ByGuard, ByTag}
use Rattle.enc_marks.specs.Choices.{Choices}
use Rattle.enc_marks.specs.Encoded.{MarkedSymbol, is_guard, shared_mark, sort_mark, sort_marks, own_marks}
use Rattle.enc_laws.specs.MergedStructure.{kept_count}
use Rattle.enc_laws.specs.CollapsedStructure.{collapse, sort_size, members_collapsed, elements_collapsed, collapsed_symbol, collapsed_constructor, collapsed_mark, collapsed_at, domain_size, collapsed}
use Rattle.enc_laws.proofs.Selected.{arguments_formed}
use Rattle.enc_laws.proofs.MarksFound.{slice_get-within}
use Rattle.enc_laws.proofs.MergedFormed.{EachBelow-front, EachBelow-back, types_within}
use Rattle.enc_laws.proofs.Collapsed.{collapse-below}
use Rattle.enc_laws.proofs.CollapsedStructure.{collapsed-constructor, collapsed-mark}
use Rattle.enc_laws.proofs.EncodedModel.{IsInRange}

-- what a number of the domain is read as is one
collapse-within : (bound size v : ℕ) → v < size → collapse bound v < size
collapse-within bound size v within =
    ⊎_elim
    (λ less. let is = cond-true (ltb v bound) v 0 (lt-ltb v bound less) in
    omega (arith, within, is))
    (λ past. let is = cond-false (ltb v bound) v 0 (le-ltb v bound past) in
    omega (arith, within, is))
    (cases_lt v bound)

-- What the domain has to be for the tables to be in range: all type arguments that symbols have are
-- written, results fit the domain, and where types are written the members do.
pub record IsLarge (c : Choices) (normal : Normal) (s : Typed) : Type 0 where
  pub some : 0 < domain_size c normal s
  pub keeps : (f : ℕ) (symbol : Symbol) → slice_get normal.signature.symbols f ≡ Some symbol →
      kept_count c symbol ≡ symbol.parameters
  pub results : (f : ℕ) (symbol : Symbol) (ty : Ty) (members : List ℕ) →
      slice_get normal.signature.symbols f ≡ Some symbol → symbol.result ≡ Some ty →
      size_of s (member_of s members ty) ≤ domain_size c normal s
  pub members : c.marking ≡ ByType → member_count s ≤ domain_size c normal s

module _ (c : Choices) (normal : Normal) (s : Typed) (sound : IsSignature normal.signature)
    (structure : IsStructure normal.signature s) (large : IsLarge c normal s) where
  abbrev size : ℕ
  size = domain_size c normal s

  abbrev own : Untyped
  own = collapsed c normal s

  members_within : (count : ℕ) (values : List ℕ) → EachBelow (replicate count size) values →
      EachBelow (replicate count (member_count s)) (members_collapsed s values)
  members_within zero [] below = tt
  members_within zero (v ∷ values) below = absurd below
  members_within (suc count) [] below = absurd below
  members_within (suc count) (v ∷ values) below = (
    collapse-below (member_count s) v structure.some,
    members_within count values below.1,
  )

  elements_within : (members : List ℕ) (types : List Ty) (values : List ℕ) →
      EachBelow (replicate (length types) (member_count s)) (map (member_of s members) types) →
      EachBelow (replicate (length types) size) values →
      EachBelow (map (λ ty. size_of s (member_of s members ty)) types)
      (elements_collapsed s size (map (member_of s members) types) values)
  elements_within members [] values within below = tt
  elements_within members (ty ∷ types) [] within below = absurd below
  elements_within members (ty ∷ types) (v ∷ values) within below =
      let bound : ℕ = size_of s (member_of s members ty) in
      let some = structure.inhabited (member_of s members ty) within.0 in
      let more = large.some in
      let small = collapse-below (min bound size) v (omega (arith, some, more)) in (
        omega (arith, small),
        elements_within members types values within.1 below.1,
      )

  are_arguments : (f : ℕ) (symbol : Symbol) (kept values : List ℕ) →
      slice_get normal.signature.symbols f ≡ Some symbol →
      EachBelow (replicate (kept_count c symbol) size) kept →
      EachBelow (replicate (length symbol.arguments) size) values →
      AreArguments s symbol (members_collapsed s kept)
      (elements_collapsed s size
      (map (member_of s (members_collapsed s kept)) symbol.arguments) values)
  are_arguments f symbol kept values at below_kept below =
      let members : List ℕ = members_collapsed s kept in
      let within = subst (λ a. EachBelow (replicate a (member_count s)) members)
      (large.keeps f symbol at) (members_within (kept_count c symbol) kept below_kept) in
      record {
        for_parameters = within;
        for_arguments = elements_within members symbol.arguments values
            (types_within normal.signature s sound structure symbol.parameters symbol.arguments
            (arguments_formed normal.signature f symbol sound at) members within) below;
      }

  symbol_below : (f : ℕ) (symbol : Symbol) (kept values : List ℕ) →
      slice_get normal.signature.symbols f ≡ Some symbol →
      EachBelow (replicate (kept_count c symbol) size) kept →
      EachBelow (replicate (length symbol.arguments) size) values →
      (result : Option Ty) → symbol.result ≡ result →
      collapsed_symbol s size f symbol kept values < cond (is_none result) 2 size
  symbol_below f symbol kept values at below_kept below None gives =
      structure.predicates f symbol (members_collapsed s kept) _ at gives
      (are_arguments f symbol kept values at below_kept below)
  symbol_below f symbol kept values at below_kept below (Some ty) gives =
      let small = structure.functions f symbol ty (members_collapsed s kept) _ at gives
      (are_arguments f symbol kept values at below_kept below) in
      let fit = large.results f symbol ty (members_collapsed s kept) at gives in
      omega (arith, small, fit)

  constructor_below : (i : ℕ) (constructor : Constructor) (values : List ℕ) →
      slice_get normal.signature.constructors i ≡ Some constructor →
      EachBelow (replicate constructor.arity size) values → (marking : Marking) →
      c.marking ≡ marking → collapsed_constructor marking s i values < size
  constructor_below i constructor values at below ByType is =
      let member = structure.constructors i constructor (members_collapsed s values) at
      (members_within constructor.arity values below) in
      let fit = large.members is in
      omega (arith, member, fit)
  constructor_below i constructor values at below BySort is = large.some

  guard_below : (b : Bool) → cond b 1 0 < 2
  guard_below true = omega arith
  guard_below false = omega arith

  mark_below : (b : Binding) (bound arity : ℕ) (values : List ℕ) →
      EachBelow (replicate arity size) values →
      collapsed_mark b bound values < cond (is_guard b) 2 size
  mark_below ByGuard bound arity [] below = omega arith
  mark_below ByGuard bound arity (v ∷ values) below = guard_below (ltb v bound)
  mark_below ByTag bound arity [] below = large.some
  mark_below ByTag bound zero (v ∷ values) below = absurd below
  mark_below ByTag bound (suc arity) (v ∷ values) below = collapse-within bound size v below.0

  -- a mark of types is a guard or tag as the choices bind by guards or tags
  mark_kind : (marking : Marking) (behind : ℕ) (marked : MarkedSymbol) →
      slice_get (own_marks normal c.binding marking) behind ≡ Some marked →
      is_guard c.binding ≡ marked.symbol.predicate
  mark_kind ByType behind marked at = alone behind at
    where
      alone : (behind : ℕ) → slice_get (shared_mark c.binding ∷ []) behind ≡ Some marked →
          is_guard c.binding ≡ marked.symbol.predicate
      alone zero there =
          let same : shared_mark c.binding ≡ marked = cc in
          ap (λ (one : MarkedSymbol). one.symbol.predicate) same
      alone (suc behind) there = cc
  mark_kind BySort behind marked at = one_of 0 (sorts normal) behind at
    where
      one_of : (number : ℕ) (types : List Ty) (behind : ℕ) →
          slice_get (sort_marks normal c.binding number types) behind ≡ Some marked →
          is_guard c.binding ≡ marked.symbol.predicate
      one_of number [] behind there = cc
      one_of number (ty ∷ types) zero there =
          let same : sort_mark normal c.binding number ty ≡ marked = cc in
          ap (λ (one : MarkedSymbol). one.symbol.predicate) same
      one_of number (ty ∷ types) (suc behind) there = one_of (number + 1) types behind there

  pub collapsed_in_range : IsInRange c normal (collapsed c normal s)
  collapsed_in_range = record {
    some = large.some;
    symbols = λ f symbol values at below.
        let first : ℕ = kept_count c symbol in
        let second : ℕ = length symbol.arguments in
        subst (λ o. collapsed_at c normal s f o values < cond (is_none symbol.result) 2 size)
        (sym at)
        (symbol_below f symbol (take first values) (drop first values) at
        (EachBelow-front size first second values below)
        (EachBelow-back size first second values below) symbol.result refl);
    constructors = λ i constructor values at below.
        subst (λ z. z < size)
        (sym (collapsed-constructor c normal s i values
        (slice_get-within normal.signature.constructors i constructor at)))
        (constructor_below i constructor values at below c.marking refl);
    own = λ behind marked values at below.
        let symbols : ℕ = length normal.signature.symbols in
        let count : ℕ = length normal.signature.constructors in
        let apart : symbols + count + behind ≡ symbols + (count + behind) = omega arith in
        let bound : ℕ =
        min (sort_size s (get_or (sorts normal) behind (type.Var 0))) (domain_size c normal s) in
        subst (λ z. z < values_below marked.symbol size)
        (sym (ap (λ x. own.symbol_at x values) (sym apart)
        ∙ collapsed-mark c normal s behind values))
        (subst (λ b. collapsed_mark c.binding bound values < cond b 2 size)
        (mark_kind c.marking behind marked at)
        (mark_below c.binding bound marked.symbol.arity values below));
  }
