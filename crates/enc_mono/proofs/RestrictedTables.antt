-- The restricted tables are those of the restricted structure.
use Rattle.std.specs.Prelude.{ℕ, zero, suc, ◌≡◌, ◌<◌, ◌≤◌, ◌+◌, List, [], ◌∷◌, map, length, take, drop, replicate, get_or, slice_index, slice_get, Some}
use Rattle.std.specs.List.{AllByRecursion}
use Rattle.std.proofs.Common.{refl, sym, ap, ◌∙◌, subst, arith}
use Rattle.std.proofs.lemmas.List.{length-map, length-take-le, length-drop, get_or-take, get_or-drop}
use Rattle.enc_base.specs.Tables.{EachBelow, tuple_count, place, begins, total}
use Rattle.enc_base.proofs.Tables.{begins_within, place_within}
use Rattle.tf_core.specs.declared.ty.Ty.{Ty}
use Rattle.tf_core.specs.declared.signature.Symbol.{Symbol}
use Rattle.tf_core.specs.declared.signature.Signature.{Signature}
use Rattle.tf_core.specs.declared.normal.NormalFormula.{NormalFormula}
use Rattle.tf_core.specs.declared.normal.Normal.{Normal}
use Rattle.tf_core.specs.Types.{instantiate}
use Rattle.tf_core.specs.Typing.{IsSymbol, IsSignature, IsNormal, IsNnf}
use Rattle.tf_core.specs.Sound.{IsSoundNormal}
use Rattle.tf_core.specs.Structures.{Typed, AreArguments, IsStructure}
use Rattle.tf_core.specs.Laws.{context_sizes}
use Rattle.tf_core.specs.Models.{IsNormalSatisfied, IsNormalModel}
use Rattle.tf_core.specs.TypedTables.{TypedTables, block_bounds, block_length, symbol_place, symbol_entry, reading, AreTables, AreNormalModel}
use Rattle.tf_core.proofs.TypingKept.{at_all}
use Rattle.tf_core.proofs.Values.{symbol_typed, types_below, sizes-instantiate}
use Rattle.structure_tables.proofs.TypedAgreement.{Agrees, IsStructure-agrees, normal_truth-agrees}
use Rattle.enc_mono.specs.declared.instances.Origin.{Origin}
use Rattle.enc_mono.specs.Origins.{IsOriginOf}
use Rattle.enc_mono.specs.Monomorphised.{instance_symbol, instance_symbols, over_instances, IsMonomorphised}
use Rattle.enc_mono.specs.Restricted.{instance_at, restricted, origin_members, block_of, origin_block, restricted_tables}
use Rattle.enc_mono.proofs.RestrictedModel.{image_at, none_below, restricted_model}
use Rattle.enc_mono.proofs.MadeTyped.{made_is_typed, origins_are_of}

-- an image among images
image_read : {A B : Type 0} (f : A → B) (items : List A) (i : ℕ) (item : A) (other : B) →
    slice_get items i ≡ Some item → get_or (map f items) i other ≡ f item
image_read f [] i item other at = cc
image_read f (first ∷ items) zero item other at = let same : first ≡ item = cc in ap f same
image_read f (first ∷ items) (suc i) item other at = image_read f items i item other at

module _ (g : Signature) (t : TypedTables) (are_tables : AreTables g t) (typed : IsSignature g)
    (structure : IsStructure g (reading g t)) (origin : Origin) (of : IsOriginOf g 0 origin)
  where
    abbrev members : List ℕ
    members = origin_members t origin

    abbrev table : List ℕ
    table = get_or t.symbols origin.symbol []

    abbrev arguments_here : List Ty
    arguments_here = map (instantiate origin.types) of.declared.arguments

    is_symbol : IsSymbol g of.declared
    is_symbol = symbol_typed g g.symbols origin.symbol of.declared of.at typed

    below : EachBelow (replicate of.declared.parameters (length t.sizes)) members
    below =
        subst (λ n. EachBelow (replicate n (length t.sizes)) members) of.count
        (types_below g (reading g t) typed structure 0 [] tt origin.types of.formed)

    pub bounds_are : context_sizes (reading g t) [] arguments_here
        ≡ block_bounds t of.declared members
    bounds_are =
        sizes-instantiate g (reading g t) typed structure 0 [] tt of.declared origin.types of.count
        is_symbol of.declared.arguments is_symbol.arguments

    abbrev start : ℕ
    start =
        begins (replicate of.declared.parameters (length t.sizes)) (block_length t of.declared)
        members

    block_is : origin_block g t origin
        ≡ take (block_length t of.declared members) (drop start table)
    block_is = ap (λ d. block_of t d table members) of.at

    fits : start + block_length t of.declared members ≤ length table
    fits =
        let part = begins_within (replicate of.declared.parameters (length t.sizes)) members
        (block_length t of.declared) below in
        let whole = are_tables.symbols origin.symbol of.declared of.at in
        omega (arith, part, whole)

    pub length_is : length (origin_block g t origin)
        ≡ tuple_count (context_sizes (reading g t) [] arguments_here)
    length_is =
        ap length block_is
        ∙ length-take-le (block_length t of.declared members) (drop start table)
        (let rest = length-drop start table in omega (arith, rest, fits))
        ∙ ap tuple_count (sym bounds_are)

    -- an entry of the block is one of the table
    pub entry_is : (elements : List ℕ) →
        EachBelow (context_sizes (reading g t) [] arguments_here) elements →
        slice_index (origin_block g t origin)
        (place (context_sizes (reading g t) [] arguments_here) elements)
        ≡ (reading g t).symbol_at origin.symbol members elements
    entry_is elements inside =
        let at : ℕ = place (block_bounds t of.declared members) elements in
        let within : at < block_length t of.declared members =
        place_within (block_bounds t of.declared members) elements
        (subst (λ bounds. EachBelow bounds elements) bounds_are inside) in
        ap (λ bounds. slice_index (origin_block g t origin) (place bounds elements)) bounds_are
        ∙ ap (λ entries. slice_index entries at) block_is
        ∙ get_or-take (block_length t of.declared members) (drop start table) at 0 within
        ∙ get_or-drop start table at 0
        ∙ sym (ap (λ d. symbol_entry t d origin.symbol members elements) of.at)

module _ (normal : Normal) (t : TypedTables) (are_tables : AreTables normal.signature t)
    (typed : IsSignature normal.signature)
    (structure : IsStructure normal.signature (reading normal.signature t))
    (origins : List Origin) (are : AllByRecursion (IsOriginOf normal.signature 0) origins)
  where
    abbrev g : Signature
    g = normal.signature

    abbrev there : Signature
    there = record { constructors = g.constructors; symbols = instance_symbols normal origins }

    abbrev made : TypedTables
    made = restricted_tables g origins t

    -- the instance that a symbol is of
    record IsFrom (f : ℕ) (symbol : Symbol) : Type 0 where
      pub origin : Origin
      pub stands : slice_get origins f ≡ Some origin
      pub of : IsOriginOf g 0 origin
      pub same : instance_symbol normal (Some of.declared) origin.types ≡ symbol

    from : (f : ℕ) (symbol : Symbol) → slice_get there.symbols f ≡ Some symbol → IsFrom f symbol
    from f symbol at =
        let image = image_at (λ (origin : Origin). instance_symbol normal
        (slice_get g.symbols origin.symbol) origin.types) origins f symbol at in
        let of = at_all (IsOriginOf g 0) origins f image.0 are image.1 in
        record {
          origin = image.0;
          stands = image.1;
          of = of;
          same = ap (λ d. instance_symbol normal d image.0.types) (sym of.at) ∙ image.2;
        }

    table_is : (f : ℕ) (origin : Origin) → slice_get origins f ≡ Some origin →
        get_or made.symbols f [] ≡ origin_block g t origin
    table_is f origin stands = image_read (origin_block g t) origins f origin [] stands

    long : (f : ℕ) (origin : Origin) (of : IsOriginOf g 0 origin) →
        slice_get origins f ≡ Some origin →
        length (get_or made.symbols f [])
        ≡ block_length made (instance_symbol normal (Some of.declared) origin.types) []
    long f origin of stands =
        ap length (table_is f origin stands)
        ∙ length_is g t are_tables typed structure origin of

    pub tables_are : AreTables there made
    tables_are = record {
      constructor_count = are_tables.constructor_count;
      symbol_count =
          length-map origins (origin_block g t)
          ∙ sym (length-map origins (λ (origin : Origin). instance_symbol normal
          (slice_get g.symbols origin.symbol) origin.types));
      constructors = are_tables.constructors;
      symbols = λ f symbol at.
          let is = from f symbol at in
          subst (λ (s : Symbol). length (get_or made.symbols f [])
          ≡ total (replicate s.parameters (length t.sizes)) (block_length made s)) is.same
          (long f is.origin is.of is.stands);
    }

    abbrev HasEntries : ℕ → Symbol → Type 0
    HasEntries f symbol = (members elements : List ℕ) →
        AreArguments (restricted origins (reading g t)) symbol members elements →
        symbol_entry made (Some symbol) f members elements
        ≡ instance_at (reading g t) (slice_get origins f) elements

    entries_of : (f : ℕ) (origin : Origin) (of : IsOriginOf g 0 origin) →
        slice_get origins f ≡ Some origin →
        HasEntries f (instance_symbol normal (Some of.declared) origin.types)
    entries_of f origin of stands members elements arguments =
        let none = none_below members arguments.for_parameters in
        let symbol : Symbol = instance_symbol normal (Some of.declared) origin.types in
        ap (λ others. symbol_entry made (Some symbol) f others elements) none
        ∙ ap (λ entries. slice_index entries (symbol_place made symbol [] elements))
        (table_is f origin stands)
        ∙ ap (slice_index (origin_block g t origin))
        (let plain : 0 + place (block_bounds made symbol []) elements
        ≡ place (block_bounds made symbol []) elements = omega arith in plain)
        ∙ entry_is g t are_tables typed structure origin of elements
        (subst (λ others. EachBelow (context_sizes (reading g t) others
        (map (instantiate origin.types) of.declared.arguments)) elements) none
        arguments.for_arguments)
        ∙ sym (ap (λ o. instance_at (reading g t) o elements) stands)

    pub agree : Agrees there (restricted origins (reading g t)) (reading there made)
    agree = record {
      sizes = refl;
      constructors = λ c constructor members at inside. refl;
      symbols = λ f symbol members elements at arguments.
          let is = from f symbol at in
          ap (λ d. symbol_entry made d f members elements) at
          ∙ subst (HasEntries f) is.same (entries_of f is.origin is.of is.stands) members elements
          arguments;
    }

module _ (g : Signature) (s other : Typed) (typed : IsSignature g) (structure : IsStructure g s)
    (agrees : Agrees g s other)
  where
    satisfied_too : (formulas : List NormalFormula) →
        AllByRecursion (λ formula. IsNnf g formula.type_variables [] formula.body) formulas →
        AllByRecursion (IsNormalSatisfied s) formulas →
        AllByRecursion (IsNormalSatisfied other) formulas
    satisfied_too [] are satisfied = tt
    satisfied_too (formula ∷ formulas) are satisfied = (
      λ members below.
          let here = subst (λ n. EachBelow (replicate formula.type_variables n) members)
          (ap length agrees.sizes) below in
          normal_truth-agrees g s other typed structure agrees formula.type_variables members here
          [] formula.body are.0 [] tt
          ∙ satisfied.0 members here,
      satisfied_too formulas are.1 satisfied.1,
    )

-- of a model that is given as tables, the restricted tables are a model
pub restricted_tables_model : (normal : Normal) (rounds : ℕ) (made : Normal)
    (origins : List Origin) (t : TypedTables) → IsSoundNormal normal →
    IsMonomorphised normal rounds made origins → AreNormalModel normal t →
    AreNormalModel made (restricted_tables normal.signature origins t)
restricted_tables_model normal rounds made origins t sound is model =
    subst (λ m. AreNormalModel m (restricted_tables normal.signature origins t)) (sym is.made_is)
    (let whole : Normal = over_instances normal origins is.ground in
    let s : Typed = restricted origins (reading normal.signature t) in
    let is_typed : IsNormal whole =
    subst IsNormal is.made_is (made_is_typed normal rounds made origins sound is) in
    let is_model : IsNormalModel whole s =
    subst (λ m. IsNormalModel m s) is.made_is
    (restricted_model normal rounds made origins (reading normal.signature t) sound is
    model.model) in
    let of = origins_are_of normal rounds made origins sound is in
    let agrees = agree normal t model.tables sound.signature.typed model.model.structure origins of
    in
    record {
      tables = tables_are normal t model.tables sound.signature.typed model.model.structure origins
          of;
      model = record {
        structure = IsStructure-agrees whole.signature s
            (reading whole.signature (restricted_tables normal.signature origins t))
            is_typed.signature is_model.structure agrees;
        formulas = satisfied_too whole.signature s
            (reading whole.signature (restricted_tables normal.signature origins t))
            is_typed.signature is_model.structure agrees whole.formulas is_typed.formulas
            is_model.formulas;
      };
    })
