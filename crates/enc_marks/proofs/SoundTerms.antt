-- The translations of types and terms are terms over all marked symbols.
use Rattle.std.specs.Prelude.{ℕ, suc, ◌+◌, ◌-◌, ◌≡◌, ◌≤◌, Bool, true, false, not, ◌&&◌, List, [], ◌∷◌, ◌++◌, map, length, cond, is_none, eqb, slice_get, Option, Some}
use Rattle.std.specs.List.{AllByRecursion}
use Rattle.std.specs.Option.{option_map}
use Rattle.std.proofs.Common.{refl, sym, ap, ◌∙◌, subst, arith}
use Rattle.std.proofs.lemmas.Bool.{and_from, and_parts, eq-eqb, lt-ltb}
use Rattle.std.proofs.lemmas.List.{length-map, length-append}
use Rattle.std.proofs.lemmas.Option.{slice_get-map, slice_get_within}
use Rattle.tf_core.specs.declared.ty.Ty.{Ty}
use Rattle.tf_core.specs.declared.term.Term.{Term}
use Rattle.tf_core.specs.declared.signature.Symbol.{Symbol}
use Rattle.tf_core.specs.declared.signature.Signature.{Signature}
use Rattle.tf_core.specs.declared.normal.Normal.{Normal}
use Rattle.tf_core.specs.Types.{instantiate}
use Rattle.tf_core.specs.Typing.{IsType, type_variable, type_apply, AreTypes, no_types, more_types, IsInstance, HasType, of_variable, of_apply, HaveTypes, no_terms, more_terms, IsSymbol, IsSignature}
use Rattle.fof_models.specs.declared.formula.FofTerm.{FofTerm}
use Rattle.fof_models.specs.declared.problem.FofSymbol.{FofSymbol}
use Rattle.fof_models.specs.Sound.{is_of_kind, is_symbol, is_term, are_terms}
use Rattle.fof_models.proofs.Sound.{is_term-variable, is_term-apply}
use Rattle.tf_naked.specs.Covers.{covers}
use Rattle.tf_naked.proofs.HeldTypes.{place_sorts}
use Rattle.tf_naked.specs.declared.position.Position.{Position}
use Rattle.tf_naked.specs.declared.position.Position.TheVariants.{Argument}
use Rattle.tf_naked.specs.declared.position.Kind.{Kind}
use Rattle.enc_marks.specs.declared.choices.Marking.TheVariants.{ByType, BySort}
use Rattle.enc_marks.specs.declared.choices.Marking.{Marking}
use Rattle.enc_marks.specs.declared.choices.Binding.TheVariants.{ByTag}
use Rattle.enc_marks.specs.Choices.{Choices}
use Rattle.enc_marks.specs.Translation.{Numbers, Bare, type_term, selected, tag, placed, placed_all, arguments, arguments_of, bare}
use Rattle.enc_marks.specs.Encoded.{MarkedSymbol, is_guard, all_numbers, all_marks, marked_symbol, marked_constructor}
use Rattle.enc_marks.specs.Laws.{Fit}
use Rattle.enc_marks.proofs.Translation.{type_term-variable, type_term-apply, bare-variable, bare-apply}
use Rattle.enc_marks.proofs.CoverCount.{length-covers}
use Rattle.enc_marks.proofs.SoundMarks.{symbol-at, constructor-at}
use Rattle.enc_marks.proofs.OwnMarks.{own_number, own_arguments, own_mark, tag_by-own, MarkedBy, HasMark, HaveMarks, types_marked, own_mark-at, own_mark-kind, own_mark-arity}
use Rattle.enc_marks.proofs.SoundTypes.{AreTypes-instantiate, AreTypes-selected, length-selected, all_at}

-- a symbol passes in its kind and at its number of arguments
pub symbol_passes : (o : Option FofSymbol) (symbol : FofSymbol) (predicate : Bool) (count : ℕ) →
    o ≡ Some symbol → symbol.predicate ≡ predicate → symbol.arity ≡ count →
    is_symbol o predicate count ≡ true
symbol_passes o symbol predicate count at kind arity =
    ap (λ x. is_symbol x predicate count) at
    ∙ and_from (is_of_kind symbol predicate) (eqb symbol.arity count) (kinds predicate kind)
    (eq-eqb symbol.arity count arity)
  where
    kinds : (b : Bool) → symbol.predicate ≡ b → is_of_kind symbol b ≡ true
    kinds true same = same
    kinds false same = ap not same

pub are_terms-append : (symbols : List FofSymbol) (terms others : List FofTerm) (depth : ℕ) →
    are_terms symbols terms depth ≡ true → are_terms symbols others depth ≡ true →
    are_terms symbols (terms ++ others) depth ≡ true
are_terms-append symbols [] others depth first second = second
are_terms-append symbols (t ∷ terms) others depth first second =
    let parts = and_parts (is_term symbols t depth) (are_terms symbols terms depth) first in
    and_from (is_term symbols t depth) (are_terms symbols (terms ++ others) depth) parts.0
    (are_terms-append symbols terms others depth parts.1 second)

-- as many terms as types
HaveTypes-length : (g : Signature) (variables : ℕ) (context : List Ty) (terms : List Term)
    (types : List Ty) → HaveTypes g variables context terms types → length terms ≡ length types
HaveTypes-length g variables context terms types no_terms = refl
HaveTypes-length g variables context terms types (more_terms t ty ts tys first rest) =
    ap suc (HaveTypes-length g variables context ts tys rest)

module _ (c : Choices) (normal : Normal) (fit : Fit c normal)
    (typed : IsSignature normal.signature) where
  abbrev pub own : Signature
  own = normal.signature

  abbrev pub numbers : Numbers
  numbers = all_numbers normal

  -- the symbols under all numbers
  abbrev pub marked : List FofSymbol
  marked = map (λ (one : MarkedSymbol). one.symbol) (all_marks c normal)

  pub image-at : (i : ℕ) (one : MarkedSymbol) → slice_get (all_marks c normal) i ≡ Some one →
      slice_get marked i ≡ Some one.symbol
  image-at i one at =
      slice_get-map (λ (one : MarkedSymbol). one.symbol) (all_marks c normal) i
      ∙ ap (option_map (λ (one : MarkedSymbol). one.symbol)) at

  -- ---- types

  module _ (variables depth : ℕ) (fits : variables ≤ depth) where
    mutual
      pub type_term-sound : (ty : Ty) → IsType own variables ty →
          is_term marked (type_term numbers.constructor depth ty) depth ≡ true
      type_term-sound ty (type_variable i within) =
          ap (λ t. is_term marked t depth) (type_term-variable numbers.constructor depth i)
          ∙ is_term-variable marked (depth - (i + 1)) depth
          ∙ lt-ltb (depth - (i + 1)) depth (omega (arith, within, fits))
      type_term-sound ty (type_apply i constructor types at count are) =
          let terms = map (type_term numbers.constructor depth) types in
          let number = numbers.constructor i in
          ap (λ t. is_term marked t depth) (type_term-apply numbers.constructor depth i types)
          ∙ is_term-apply marked number terms depth
          ∙ and_from (is_symbol (slice_get marked number) false (length terms))
          (are_terms marked terms depth)
          (symbol_passes (slice_get marked number)
          (marked_constructor normal i constructor).symbol false (length terms)
          (image-at number (marked_constructor normal i constructor)
          (constructor-at c normal i constructor at)) refl
          (sym (length-map types (type_term numbers.constructor depth) ∙ count)))
          (type_terms-sound types are)

      pub type_terms-sound : (types : List Ty) → AreTypes own variables types →
          are_terms marked (map (type_term numbers.constructor depth) types) depth ≡ true
      type_terms-sound types no_types = refl
      type_terms-sound types (more_types ty others first rest) =
          and_from (is_term marked (type_term numbers.constructor depth ty) depth)
          (are_terms marked (map (type_term numbers.constructor depth) others) depth)
          (type_term-sound ty first) (type_terms-sound others rest)

    -- ---- tags

    -- what a guard or tag is applied to
    pub own_arguments-sound : (ty : Ty) (t : FofTerm) → HasMark c normal variables ty →
        is_term marked t depth ≡ true →
        are_terms marked (own_arguments c.marking numbers depth ty t) depth ≡ true
    own_arguments-sound ty t = by c.marking
      where
        by : (marking : Marking) → MarkedBy marking normal variables ty →
            is_term marked t depth ≡ true →
            are_terms marked (own_arguments marking numbers depth ty t) depth ≡ true
        by ByType formed sound =
            and_from (is_term marked (type_term numbers.constructor depth ty) depth)
            (are_terms marked (t ∷ []) depth) (type_term-sound ty formed)
            (and_from (is_term marked t depth) true sound refl)
        by BySort sort sound = and_from (is_term marked t depth) true sound refl

    -- a guard or tag is applied as its arity says
    pub own-sound : (predicate : Bool) → is_guard c.binding ≡ predicate → (ty : Ty) (t : FofTerm) →
        HasMark c normal variables ty → is_term marked t depth ≡ true →
        (is_symbol (slice_get marked (own_number c.marking numbers ty)) predicate
        (length (own_arguments c.marking numbers depth ty t))
        && are_terms marked (own_arguments c.marking numbers depth ty t) depth) ≡ true
    own-sound predicate kind ty t has sound =
        let number = own_number c.marking numbers ty in
        let one = own_mark c.marking normal c ty in
        let terms = own_arguments c.marking numbers depth ty t in
        and_from (is_symbol (slice_get marked number) predicate (length terms))
        (are_terms marked terms depth)
        (symbol_passes (slice_get marked number) one.symbol predicate (length terms)
        (image-at number one (own_mark-at c normal variables ty has))
        (own_mark-kind c.marking normal c ty ∙ kind)
        (own_mark-arity c.marking normal c numbers depth ty t))
        (own_arguments-sound ty t has sound)

    pub tag-sound : c.binding ≡ ByTag → (ty : Ty) (t : FofTerm) → HasMark c normal variables ty →
        is_term marked t depth ≡ true →
        is_term marked (tag c numbers own depth ty t) depth ≡ true
    tag-sound tags ty t has sound =
        ap (λ tagged. is_term marked tagged depth) (tag_by-own c.marking numbers depth ty t)
        ∙ is_term-apply marked (own_number c.marking numbers ty)
        (own_arguments c.marking numbers depth ty t) depth
        ∙ own-sound false (ap is_guard tags) ty t has sound

    pub placed-sound : (position : Position) (ty : Ty) (t : Bare) →
        HasMark c normal variables ty → is_term marked t.term depth ≡ true →
        is_term marked (placed c numbers own depth position ty t) depth ≡ true
    placed-sound position ty t has sound = by (c.tagged position t.kind ty) refl
      where
        by : (b : Bool) → c.tagged position t.kind ty ≡ b →
            is_term marked (cond b (tag c numbers own depth ty t.term) t.term) depth ≡ true
        by true is = tag-sound (fit.tags position t.kind ty is) ty t.term has sound
        by false is = sound

    -- ---- arguments

    pub placed_all-sound : (tests : List Bool) (types : List Ty) (terms : List Bare) →
        HaveMarks c normal variables types →
        AllByRecursion (λ (t : Bare). is_term marked t.term depth ≡ true) terms →
        are_terms marked (placed_all c numbers own depth tests types terms) depth ≡ true
    placed_all-sound [] types terms have sound = refl
    placed_all-sound (test ∷ tests) [] terms have sound = refl
    placed_all-sound (test ∷ tests) (ty ∷ others) [] have sound = refl
    placed_all-sound (test ∷ tests) (ty ∷ others) (t ∷ terms) have sound =
        and_from (is_term marked (placed c numbers own depth (Argument test) ty t) depth)
        (are_terms marked (placed_all c numbers own depth tests others terms) depth)
        (placed-sound (Argument test) ty t have.0 sound.0)
        (placed_all-sound tests others terms have.1 sound.1)

    length-placed_all : (tests : List Bool) (types : List Ty) (terms : List Bare) →
        length tests ≡ length terms → length types ≡ length terms →
        length (placed_all c numbers own depth tests types terms) ≡ length terms
    length-placed_all [] types [] tests_count types_count = refl
    length-placed_all [] types (t ∷ terms) tests_count types_count =
        absurd (omega (arith, tests_count))
    length-placed_all (test ∷ tests) [] [] tests_count types_count = refl
    length-placed_all (test ∷ tests) [] (t ∷ terms) tests_count types_count =
        absurd (omega (arith, types_count))
    length-placed_all (test ∷ tests) (ty ∷ types) [] tests_count types_count = refl
    length-placed_all (test ∷ tests) (ty ∷ types) (t ∷ terms) tests_count types_count =
        ap suc (length-placed_all tests types terms (omega (arith, tests_count))
        (omega (arith, types_count)))

    -- A symbol at types, and at terms in places of these types, is applied as its arity says.
    pub applied-sound : (f : ℕ) (symbol : Symbol) (predicate : Bool) (types places : List Ty)
        (terms : List Bare) → slice_get own.symbols f ≡ Some symbol →
        is_none symbol.result ≡ predicate → AreTypes own variables types →
        length types ≡ symbol.parameters → HaveMarks c normal variables places →
        length places ≡ length symbol.arguments → length terms ≡ length symbol.arguments →
        AllByRecursion (λ (t : Bare). is_term marked t.term depth ≡ true) terms →
        (is_symbol (slice_get marked f) predicate
        (length (map (type_term numbers.constructor depth) (selected (c.keeps symbol) types)
        ++ placed_all c numbers own depth (covers symbol) places terms))
        && are_terms marked
        (map (type_term numbers.constructor depth) (selected (c.keeps symbol) types)
        ++ placed_all c numbers own depth (covers symbol) places terms) depth) ≡ true
    applied-sound f symbol predicate types places terms at kind formed types_count have_places
        places_count terms_count sound =
        let front = map (type_term numbers.constructor depth) (selected (c.keeps symbol) types) in
        let back = placed_all c numbers own depth (covers symbol) places terms in
        let few = fit.keeps symbol in
        let count : (marked_symbol c f symbol).symbol.arity ≡ length (front ++ back) =
        omega (
          arith,
          length-append front back,
          length-map (selected (c.keeps symbol) types) (type_term numbers.constructor depth),
          length-selected (c.keeps symbol) types (omega (arith, few, types_count)),
          length-placed_all (covers symbol) places terms
              (length-covers symbol ∙ sym terms_count) (places_count ∙ sym terms_count),
          terms_count,
        ) in
        and_from (is_symbol (slice_get marked f) predicate (length (front ++ back)))
        (are_terms marked (front ++ back) depth)
        (symbol_passes (slice_get marked f) (marked_symbol c f symbol).symbol predicate
        (length (front ++ back))
        (image-at f (marked_symbol c f symbol) (symbol-at c normal f symbol at)) kind count)
        (are_terms-append marked front back depth
        (type_terms-sound (selected (c.keeps symbol) types)
        (AreTypes-selected own variables (c.keeps symbol) types formed))
        (placed_all-sound (covers symbol) places terms have_places sound))

  -- ---- terms

  pub arguments_formed : (f : ℕ) (symbol : Symbol) (variables : ℕ) (types : List Ty) →
      slice_get own.symbols f ≡ Some symbol → length types ≡ symbol.parameters →
      AreTypes own variables types →
      AreTypes own variables (map (instantiate types) symbol.arguments)
  arguments_formed f symbol variables types at count formed =
      let is : IsSymbol own symbol = all_at (IsSymbol own) own.symbols f symbol typed at in
      AreTypes-instantiate own variables types formed symbol.arguments
      (ap_types (sym count) is.arguments)
    where
      ap_types : {m n : ℕ} → m ≡ n → AreTypes own m symbol.arguments →
          AreTypes own n symbol.arguments
      ap_types same are = subst (λ k. AreTypes own k symbol.arguments) same are

  -- the types of the places where terms stand have guards or tags
  pub places_marked : (variables f : ℕ) (symbol : Symbol) (result : Option Ty) (types : List Ty) →
      IsInstance own variables f symbol result types →
      HaveMarks c normal variables (map (instantiate types) symbol.arguments)
  places_marked variables f symbol result types instance =
      types_marked c.marking normal variables (map (instantiate types) symbol.arguments)
      (arguments_formed f symbol variables types instance.at instance.count instance.formed)
      (λ by_sort. place_sorts normal (fit.monomorphic by_sort) variables f symbol result types
      instance)

  -- an instance of a symbol, of the kind that its result says, at terms
  pub instance-sound : (variables depth : ℕ) → variables ≤ depth → (f : ℕ) (symbol : Symbol)
      (result : Option Ty) (types : List Ty) (terms : List Bare) →
      IsInstance own variables f symbol result types → length terms ≡ length symbol.arguments →
      AllByRecursion (λ (t : Bare). is_term marked t.term depth ≡ true) terms →
      (is_symbol (slice_get marked f) (is_none result)
      (length (arguments_of c numbers own depth f types terms))
      && are_terms marked (arguments_of c numbers own depth f types terms) depth) ≡ true
  instance-sound variables depth fits f symbol result types terms instance count sound =
      ap (λ (o : Option Symbol). is_symbol (slice_get marked f) (is_none result)
      (length (arguments c numbers own depth o types terms))
      && are_terms marked (arguments c numbers own depth o types terms) depth) instance.at
      ∙ applied-sound variables depth fits f symbol (is_none result) types
      (map (instantiate types) symbol.arguments) terms instance.at
      (ap is_none instance.gives) instance.formed instance.count
      (places_marked variables f symbol result types instance)
      (length-map symbol.arguments (instantiate types)) count sound

  module _ (variables : ℕ) (context : List Ty) (kinds : List Kind) (depth : ℕ)
      (deep : variables + length context ≡ depth) where
    pub bares_count : (symbol : Symbol) (types : List Ty) (terms : List Term) →
        HaveTypes own variables context terms (map (instantiate types) symbol.arguments) →
        length (map (bare c numbers own depth kinds) terms) ≡ length symbol.arguments
    bares_count symbol types terms have =
        length-map terms (bare c numbers own depth kinds)
        ∙ HaveTypes-length own variables context terms
        (map (instantiate types) symbol.arguments) have
        ∙ length-map symbol.arguments (instantiate types)

    mutual
      pub bare-sound : (t : Term) (ty : Ty) → HasType own variables context t ty →
          is_term marked (bare c numbers own depth kinds t).term depth ≡ true
      bare-sound t ty (of_variable i found at) =
          ap (λ (b : Bare). is_term marked b.term depth) (bare-variable c numbers own depth kinds i)
          ∙ is_term-variable marked i depth
          ∙ lt-ltb i depth (omega (arith, slice_get_within context i found at, deep))
      bare-sound t ty (of_apply f symbol result types terms instance have) =
          ap (λ (b : Bare). is_term marked b.term depth)
          (bare-apply c numbers own depth kinds f types terms)
          ∙ is_term-apply marked f
          (arguments_of c numbers own depth f types (map (bare c numbers own depth kinds) terms))
          depth
          ∙ instance-sound variables depth (omega (arith, deep)) f symbol (Some result) types
          (map (bare c numbers own depth kinds) terms) instance
          (bares_count symbol types terms have)
          (bares-sound terms (map (instantiate types) symbol.arguments) have)

      pub bares-sound : (terms : List Term) (types : List Ty) →
          HaveTypes own variables context terms types →
          AllByRecursion (λ (t : Bare). is_term marked t.term depth ≡ true)
          (map (bare c numbers own depth kinds) terms)
      bares-sound terms types no_terms = tt
      bares-sound terms types (more_terms t ty ts tys first rest) =
          (bare-sound t ty first, bares-sound ts tys rest)
