-- The names of an encoded problem can be written, where the normal problem's names can be.
use Rattle.std.specs.Prelude.{ℕ, zero, suc, ◌+◌, ◌-◌, ◌%◌, ◌^◌, ◌<◌, ◌≤◌, ◌≡◌, Bool, true, false, List, [], ◌∷◌, ◌++◌, map, length, take, cond, codes, leb, flat_map, slice_get, IsTrue, Option, Some, None}
use Rattle.std.specs.List.{AllByRecursion, list_all}
use Rattle.std.specs.Fmt.{decimal}
use Rattle.std.proofs.Common.{refl, sym, subst, arith}
use Rattle.std.proofs.lemmas.Bool.{and_from, and_parts, le-leb, leb-false}
use Rattle.std.proofs.lemmas.Fmt.{decimal_by_steps}
use Rattle.std.proofs.lemmas.List.{length-append}
use Rattle.std.proofs.lemmas.Option.{slice_get_within}
use Rattle.tf_core.specs.declared.ty.Ty.{Ty}
use Rattle.tf_core.specs.declared.signature.Constructor.{Constructor}
use Rattle.tf_core.specs.declared.signature.Symbol.{Symbol}
use Rattle.tf_core.specs.declared.normal.Normal.{Normal}
use Rattle.tf_core.specs.Sorts.{sorts}
use Rattle.tf_core.proofs.Induction.{type_induction}
use Rattle.fof_models.specs.declared.problem.FofSymbol.{FofSymbol}
use Rattle.fof_models.specs.declared.problem.FofFormula.{FofFormula}
use Rattle.enc_marks.specs.declared.choices.Marking.{Marking}
use Rattle.enc_marks.specs.declared.choices.Marking.TheVariants.{ByType, BySort}
use Rattle.enc_marks.specs.declared.choices.Binding.{Binding}
use Rattle.enc_marks.specs.declared.choices.Binding.TheVariants.{ByGuard, ByTag}
use Rattle.enc_marks.specs.Choices.{Choices}
use Rattle.enc_marks.specs.Occurrence.{passing}
use Rattle.enc_marks.specs.Names.{first_fresh, constructor_name, wanted_constructor, flat_constructor, flat_name, wanted_mark, last_name, sort_last_name}
use Rattle.enc_marks.specs.Encoded.{MarkedSymbol, marked_symbols, marked_constructors, sort_marks, own_marks, all_marks, translation, is_present, renumbered, encoded}
use Rattle.enc_base.specs.Names.{is_writable_byte, IsWritable}
use Rattle.enc_marks.specs.Laws.{HasWritableNames, TranslationsCanBeNamed}
use Rattle.enc_marks.proofs.SoundMarks.{all-passing}
use Rattle.enc_marks.proofs.SoundTypes.{all_at}
use Rattle.enc_marks.proofs.StatedFormulas.{all-append, translation-all}
use Rattle.enc_marks.proofs.Names.{flat_name-variable, flat_name-apply}

abbrev AreBytes : List ℕ → Type 0
AreBytes name = AllByRecursion (λ b. IsTrue (is_writable_byte b)) name

-- ---- names that are put together

writable-append : (front back : List ℕ) → IsWritable front → AreBytes back →
    IsWritable (front ++ back)
writable-append front back first second = record {
  some = omega (arith, length-append front back, first.some);
  bytes = all-append (λ b. IsTrue (is_writable_byte b)) front back first.bytes second;
}

digit-writable : (k : ℕ) → k < 10 → is_writable_byte (48 + k) ≡ true
digit-writable k within =
    and_from (leb 32 (48 + k)) (leb (48 + k) 126)
    (le-leb 32 (48 + k) (omega arith)) (le-leb (48 + k) 126 (omega (arith, within)))

decimal-writable : (k : ℕ) → k < 2 ^ 64 → AreBytes (decimal k)
decimal-writable =
    decimal_by_steps (λ n ds. AreBytes ds) (λ n within. (digit-writable n within, tt))
    (λ n ds within earlier.
    all-append (λ b. IsTrue (is_writable_byte b)) ds ((48 + n % 10) ∷ []) earlier
    (digit-writable (n % 10) (omega arith), tt))

-- the fixed words

bytes_from : (name : List ℕ) → list_all is_writable_byte name ≡ true → AreBytes name
bytes_from [] all = tt
bytes_from (b ∷ name) all =
    let parts = and_parts (is_writable_byte b) (list_all is_writable_byte name) all in
    (parts.0, bytes_from name parts.1)

word-writable : (name : List ℕ) (others : ℕ) → length name ≡ suc others →
    list_all is_writable_byte name ≡ true → IsWritable name
word-writable name others is all =
    record { some = omega (arith, is); bytes = bytes_from name all }

fresh-writable : IsWritable (codes "fresh_")
fresh-writable = word-writable (codes "fresh_") 5 refl refl

first-writable : IsWritable (codes "ty_i")
first-writable = word-writable (codes "ty_i") 3 refl refl

typing-writable : IsWritable (codes "typing_")
typing-writable = word-writable (codes "typing_") 6 refl refl

mark-writable : (binding : Binding) → IsWritable (wanted_mark binding)
mark-writable ByGuard = word-writable (codes "is") 1 refl refl
mark-writable ByTag = word-writable (codes "as") 1 refl refl

last-writable : (binding : Binding) → IsWritable (last_name binding)
last-writable ByGuard = word-writable (codes "inhabitation") 11 refl refl
last-writable ByTag = word-writable (codes "tag_idempotence") 14 refl refl

-- ---- symbols

abbrev IsNamed : MarkedSymbol → Type 0
IsNamed one = IsWritable one.symbol.wanted

symbols-named : (c : Choices) (f : ℕ) (symbols : List Symbol) →
    AllByRecursion (λ (symbol : Symbol). IsWritable symbol.name) symbols →
    AllByRecursion IsNamed (marked_symbols c f symbols)
symbols-named c f [] named = tt
symbols-named c f (symbol ∷ symbols) named = (named.0, symbols-named c (f + 1) symbols named.1)

-- the names of so many constructors can be written
abbrev Own : ℕ → List Constructor → Type 0
Own count constructors =
    AllByRecursion (λ (constructor : Constructor). IsWritable constructor.name)
    (take count constructors)

none-taken : (constructors : List Constructor) → Own zero constructors
none-taken [] = tt
none-taken (constructor ∷ constructors) = tt

module _ (normal : Normal) (few : length normal.signature.constructors < 2 ^ 28) where
  -- the name of a constructor, where its own can be written or it is fresh
  constructor_name-writable : (i : ℕ) (name : List ℕ) → i < 2 ^ 28 →
      (i < first_fresh normal → IsWritable name) → IsWritable (constructor_name normal i name)
  constructor_name-writable i name within own = by (leb (first_fresh normal) i) refl
    where
      by : (b : Bool) → leb (first_fresh normal) i ≡ b →
          IsWritable (cond b (codes "fresh_" ++ decimal (i - first_fresh normal)) name)
      by true is = writable-append (codes "fresh_") (decimal (i - first_fresh normal))
          fresh-writable (decimal-writable (i - first_fresh normal) (omega (arith, within)))
      by false is = own (leb-false (first_fresh normal) i is)

  wanted_constructor-writable : (i : ℕ) (name : List ℕ) → i < 2 ^ 28 →
      (i < first_fresh normal → IsWritable name) → IsWritable (wanted_constructor normal i name)
  wanted_constructor-writable zero name within own = first-writable
  wanted_constructor-writable (suc i) name within own =
      constructor_name-writable (suc i) name within own

  constructors-named : (i : ℕ) (constructors : List Constructor) →
      i + length constructors ≤ length normal.signature.constructors →
      AllByRecursion (λ (constructor : Constructor). IsWritable constructor.name)
      (take (first_fresh normal - i) constructors) →
      AllByRecursion IsNamed (marked_constructors normal i constructors)
  constructors-named i [] within named = tt
  constructors-named i (constructor ∷ constructors) within named =
      by (first_fresh normal - i) refl named
      (λ later. constructors-named (i + 1) constructors (omega (arith, within)) later)
    where
      by : (left : ℕ) → first_fresh normal - i ≡ left → Own left (constructor ∷ constructors) →
          (Own (first_fresh normal - (i + 1)) constructors →
          AllByRecursion IsNamed (marked_constructors normal (i + 1) constructors)) →
          AllByRecursion IsNamed (marked_constructors normal i (constructor ∷ constructors))
      by zero is named rest =
          let none : zero ≡ first_fresh normal - (i + 1) = omega (arith, is) in (
            wanted_constructor-writable i constructor.name (omega (arith, within, few))
                (λ below. absurd (omega (arith, is, below))),
            rest (subst (λ n. Own n constructors) none (none-taken constructors)),
          )
      by (suc left) is named rest =
          let less : left ≡ first_fresh normal - (i + 1) = omega (arith, is) in (
            wanted_constructor-writable i constructor.name (omega (arith, within, few))
                (λ below. named.0),
            rest (subst (λ n. Own n constructors) less named.1),
          )

-- ---- names of types

-- the i-th of so many constructors whose names can be written
own-at : (count : ℕ) (constructors : List Constructor) (i : ℕ) (constructor : Constructor) →
    Own count constructors → slice_get constructors i ≡ Some constructor → i < count →
    IsWritable constructor.name
own-at count [] i constructor named at within = cc
own-at zero (first ∷ constructors) i constructor named at within = absurd (omega (arith, within))
own-at (suc count) (first ∷ constructors) zero constructor named at within =
    let same : first ≡ constructor = cc in
    subst (λ (one : Constructor). IsWritable one.name) same named.0
own-at (suc count) (first ∷ constructors) (suc i) constructor named at within =
    own-at count constructors i constructor named.1 at (omega (arith, within))

module _ (normal : Normal) (few : length normal.signature.constructors < 2 ^ 28)
    (named : HasWritableNames normal) where
  flat_constructor-bytes : (i : ℕ) (o : Option Constructor) →
      slice_get normal.signature.constructors i ≡ o → AreBytes (flat_constructor normal i o)
  flat_constructor-bytes i None at = tt
  flat_constructor-bytes zero (Some constructor) at = bytes_from (codes "i") refl
  flat_constructor-bytes (suc i) (Some constructor) at =
      (constructor_name-writable normal few (suc i) constructor.name
      (omega (arith, few, slice_get_within normal.signature.constructors (suc i) constructor at))
      (λ within. own-at (first_fresh normal) normal.signature.constructors (suc i) constructor
      named.constructors at within)).bytes

  joined-bytes : (name : List ℕ) → AreBytes name → AreBytes (codes "_" ++ name)
  joined-bytes name bytes =
      all-append (λ b. IsTrue (is_writable_byte b)) (codes "_") name (bytes_from (codes "_") refl)
      bytes

  arguments-bytes : (types : List Ty) →
      AllByRecursion (λ ty. AreBytes (flat_name normal ty)) types →
      AreBytes (flat_map (λ argument. codes "_" ++ flat_name normal argument) types)
  arguments-bytes [] each = tt
  arguments-bytes (ty ∷ types) each =
      all-append (λ b. IsTrue (is_writable_byte b)) (codes "_" ++ flat_name normal ty)
      (flat_map (λ argument. codes "_" ++ flat_name normal argument) types)
      (joined-bytes (flat_name normal ty) each.0) (arguments-bytes types each.1)

  flat_name-bytes : (ty : Ty) → AreBytes (flat_name normal ty)
  flat_name-bytes = type_induction (λ ty. AreBytes (flat_name normal ty))
      (λ i. subst AreBytes (sym (flat_name-variable normal i)) tt)
      (λ i types each. subst AreBytes (sym (flat_name-apply normal i types))
      (all-append (λ b. IsTrue (is_writable_byte b))
      (flat_constructor normal i (slice_get normal.signature.constructors i))
      (flat_map (λ argument. codes "_" ++ flat_name normal argument) types)
      (flat_constructor-bytes i (slice_get normal.signature.constructors i) refl)
      (arguments-bytes types each)))

  -- a name before that of a type
  behind-writable : (name : List ℕ) (ty : Ty) → IsWritable name →
      IsWritable (name ++ (codes "_" ++ flat_name normal ty))
  behind-writable name ty writable =
      writable-append name (codes "_" ++ flat_name normal ty) writable
      (joined-bytes (flat_name normal ty) (flat_name-bytes ty))

  -- ---- marks

  sort_marks-named : (binding : Binding) (s : ℕ) (types : List Ty) →
      AllByRecursion IsNamed (sort_marks normal binding s types)
  sort_marks-named binding s [] = tt
  sort_marks-named binding s (ty ∷ types) = (
    behind-writable (wanted_mark binding) ty (mark-writable binding),
    sort_marks-named binding (s + 1) types,
  )

  own_marks-named : (binding : Binding) (marking : Marking) →
      AllByRecursion IsNamed (own_marks normal binding marking)
  own_marks-named binding ByType = (mark-writable binding, tt)
  own_marks-named binding BySort = sort_marks-named binding 0 (sorts normal)

  marks-named : (c : Choices) → AllByRecursion IsNamed (all_marks c normal)
  marks-named c =
      let symbols = marked_symbols c 0 normal.signature.symbols in
      let constructors = marked_constructors normal 0 normal.signature.constructors in
      let whole : first_fresh normal ≡ first_fresh normal - 0 = omega arith in
      all-append IsNamed symbols (constructors ++ own_marks normal c.binding c.marking)
      (symbols-named c 0 normal.signature.symbols named.symbols)
      (all-append IsNamed constructors (own_marks normal c.binding c.marking)
      (constructors-named normal few 0 normal.signature.constructors (omega arith)
      (subst (λ n. AllByRecursion (λ (constructor : Constructor). IsWritable constructor.name)
      (take n normal.signature.constructors)) whole named.constructors))
      (own_marks-named c.binding c.marking))

  -- ---- formulas

  abbrev HasName : FofFormula → Type 0
  HasName formula = IsWritable formula.name

  translation-named : (c : Choices) → AllByRecursion HasName (translation c normal)
  translation-named c =
      translation-all c normal HasName named.formulas
      (λ f symbol result at gives. writable-append (codes "typing_") symbol.name typing-writable
      (all_at (λ (one : Symbol). IsWritable one.name) normal.signature.symbols f symbol
      named.symbols at).bytes)
      (λ by_type. last-writable c.binding)
      (λ by_sort. each (sorts normal))
    where
      each : (types : List Ty) →
          AllByRecursion (λ ty. IsWritable (sort_last_name normal c.binding ty)) types
      each [] = tt
      each (ty ∷ types) =
          (behind-writable (last_name c.binding) ty (last-writable c.binding), each types)

all-wanted : (marks : List MarkedSymbol) → AllByRecursion IsNamed marks →
    AllByRecursion (λ (symbol : FofSymbol). IsWritable symbol.wanted)
    (map (λ (one : MarkedSymbol). one.symbol) marks)
all-wanted [] named = tt
all-wanted (one ∷ marks) named = (named.0, all-wanted marks named.1)

renumbered-named : (present : ℕ → Bool) (formulas : List FofFormula) →
    AllByRecursion (λ (formula : FofFormula). IsWritable formula.name) formulas →
    AllByRecursion (λ (formula : FofFormula). IsWritable formula.name)
    (map (renumbered present) formulas)
renumbered-named present [] named = tt
renumbered-named present (formula ∷ formulas) named =
    (named.0, renumbered-named present formulas named.1)

pub translations_named : TranslationsCanBeNamed
unfolding encoded
translations_named c normal sound named =
    let few = sound.signature.constructor_count in
    let formulas = translation c normal in
    let present = is_present formulas in
    let marks = all_marks c normal in
    record {
      symbols = all-wanted (passing present 0 marks)
          (all-passing IsNamed present 0 marks (marks-named normal few named c));
      formulas = renumbered-named present formulas (translation-named normal few named c);
    }
