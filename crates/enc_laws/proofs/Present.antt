-- The tables of the marked symbols that occur, seen over all marked symbols.
use Rattle.std.specs.Prelude.{ℕ, zero, suc, ◌+◌, ◌<◌, ◌≤◌, ◌≡◌, Bool, true, false, not, ◌&&◌, List, [], ◌∷◌, ◌++◌, map, length, replicate, cond, is_none, slice_index, slice_get, Some, None, IsTrue}
use Rattle.std.proofs.Common.{refl, sym, ap, ◌∙◌, subst, arith, ⊎_elim}
use Rattle.std.proofs.lemmas.Bool.{cases_lt, le-leb, lt-leb}
use Rattle.enc_base.specs.Tables.{place}
use Rattle.tf_core.specs.declared.signature.Constructor.{Constructor}
use Rattle.tf_core.specs.declared.signature.Symbol.{Symbol}
use Rattle.tf_core.specs.declared.normal.Normal.{Normal}
use Rattle.fof_models.specs.declared.problem.FofSymbol.{FofSymbol}
use Rattle.fof_models.specs.declared.structure.Structure.{Structure}
use Rattle.fof_models.specs.Structures.{Untyped, table_of, reading, values_below, IsWellFormed}
use Rattle.fof_models.specs.Models.{AreSatisfied, AreModel}
use Rattle.enc_marks.specs.declared.choices.Marking.TheVariants.{ByType}
use Rattle.enc_marks.specs.declared.choices.Binding.TheVariants.{ByTag}
use Rattle.enc_marks.specs.Choices.{Choices}
use Rattle.enc_marks.specs.Occurrence.{count_below, passing}
use Rattle.enc_marks.specs.Encoded.{all_numbers, MarkedSymbol, is_guard, marked_symbol, marked_constructor, shared_mark, marked_symbols, marked_constructors, own_marks, all_marks, is_present, renumbered, translation, encoded}
use Rattle.enc_laws.specs.Present.{over_all, last_of, is_tag}
use Rattle.enc_laws.specs.Lifted.{IsClosed}
use Rattle.enc_laws.specs.Total.{IsTotal}
use Rattle.enc_laws.proofs.MarksFound.{slice_get-within, count_below-next, length-symbols, length-constructors}
use Rattle.enc_laws.proofs.Renumbered.{satisfied-all_marks}

slice_index-past : (items : List ℕ) (i : ℕ) → length items ≤ i → slice_index items i ≡ 0
slice_index-past [] i past = refl
slice_index-past (item ∷ items) zero past = absurd (omega (arith, past))
slice_index-past (item ∷ items) (suc i) past = slice_index-past items i (omega (arith, past))

-- a table's entries are in range wherever one looks
symbol_at-reading : (signature : List FofSymbol) (s : Structure) → IsWellFormed signature s →
    (f : ℕ) (symbol : FofSymbol) (values : List ℕ) → slice_get signature f ≡ Some symbol →
    0 < values_below symbol s.size → (reading s).symbol_at f values < values_below symbol s.size
symbol_at-reading signature s well f symbol values at some =
    let table = well.tables f symbol at in
    let i : ℕ = place (replicate (length values) s.size) values in
    ⊎_elim (λ within. table.below i within)
    (λ past. subst (λ z. z < values_below symbol s.size)
    (sym (slice_index-past (table_of s f) i past)) some)
    (cases_lt i (length (table_of s f)))

count_below-grows : (n more : ℕ) (test : ℕ → Bool) → count_below n test ≤ count_below (n + more)
    test
count_below-grows n zero test = let e : n ≡ n + 0 = omega arith in
    (let same = ap (λ x. count_below x test) e in omega (arith, same))
count_below-grows n (suc more) test =
    let e : n + suc more ≡ suc (n + more) = omega arith in
    let same = ap (λ x. count_below x test) e in
    let step = count_below-grows n more test in
    omega (arith, same, step)

passing_later : {A : Type 0} (test : ℕ → Bool) (number m : ℕ) (first item : A) (others : List A)
    (r : ℕ) →
    (b : Bool) → test number ≡ b → count_below m test ≡ count_below number test + r →
    count_below (number + 1) test ≤ count_below m test →
    ((left : ℕ) → count_below m test ≡ count_below (number + 1) test + left →
    slice_get others left ≡ Some item) →
    slice_get (cond b (first ∷ others) others) r ≡ Some item
passing_later test number m first item others zero true is count grows later =
    absurd (omega (arith, count, grows, count_below-next number test true is))
passing_later test number m first item others (suc r) true is count grows later =
    later r (omega (arith, count, count_below-next number test true is))
passing_later test number m first item others r false is count grows later =
    later r (omega (arith, count, count_below-next number test false is))

-- an item that passes stands at the count of those that pass before it
slice_get-passing : {A : Type 0} (test : ℕ → Bool) (number : ℕ) (items : List A) (i : ℕ)
    (item : A) →
    slice_get items i ≡ Some item → test (number + i) ≡ true → (r : ℕ) →
    count_below (number + i) test ≡ count_below number test + r →
    slice_get (passing test number items) r ≡ Some item
slice_get-passing test number [] i item at passes r count = cc
slice_get-passing test number (first ∷ items) zero item at passes r count =
    let e : number + 0 ≡ number = omega arith in
    let here : test number ≡ true = ap test (sym e) ∙ passes in
    let same = ap (λ x. count_below x test) e in
    let none : r ≡ 0 = omega (arith, same, count) in
    rw (here, none) at
slice_get-passing test number (first ∷ items) (suc i) item at passes r count =
    let e : number + suc i ≡ number + 1 + i = omega arith in
    passing_later test number (number + 1 + i) first item (passing test (number + 1) items) r
    (test number) refl (ap (λ x. count_below x test) (sym e) ∙ count)
    (count_below-grows (number + 1) i test)
    (λ left there.
    slice_get-passing test (number + 1) items i item at (ap test (sym e) ∙ passes) left there)

slice_get-map : {A B : Type 0} (f : A → B) (items : List A) (i : ℕ) (item : A) →
    slice_get items i ≡ Some item → slice_get (map f items) i ≡ Some (f item)
slice_get-map f [] i item at = cc
slice_get-map f (first ∷ items) zero item at =
    let same : first ≡ item = cc in ap (λ x. Some (f x)) same
slice_get-map f (first ∷ items) (suc i) item at = slice_get-map f items i item at

slice_get-front : {A : Type 0} (items others : List A) (i : ℕ) (item : A) →
    slice_get items i ≡ Some item → slice_get (items ++ others) i ≡ Some item
slice_get-front [] others i item at = cc
slice_get-front (first ∷ items) others zero item at = at
slice_get-front (first ∷ items) others (suc i) item at = slice_get-front items others i item at

slice_get-behind : {A : Type 0} (items others : List A) (i : ℕ) (item : A) →
    slice_get others i ≡ Some item → slice_get (items ++ others) (length items + i) ≡ Some item
slice_get-behind [] others i item at = let e : i ≡ 0 + i = omega arith in
    subst (λ x. slice_get others x ≡ Some item) e at
slice_get-behind (first ∷ items) others i item at =
    let e : suc (length items + i) ≡ length (first ∷ items) + i = omega arith in
    subst (λ x. slice_get ((first ∷ items) ++ others) x ≡ Some item) e
    (slice_get-behind items others i item at)

-- the marked symbols of symbols and constructors

slice_get-symbols : (c : Choices) (n : ℕ) (symbols : List Symbol) (f : ℕ) (symbol : Symbol) →
    slice_get symbols f ≡ Some symbol →
    slice_get (marked_symbols c n symbols) f ≡ Some (marked_symbol c (n + f) symbol)
slice_get-symbols c n [] f symbol at = cc
slice_get-symbols c n (first ∷ symbols) zero symbol at =
    let same : first ≡ symbol = cc in
    let e : n ≡ n + 0 = omega arith in
    ap (λ x. Some (marked_symbol c n x)) same ∙ ap (λ x. Some (marked_symbol c x symbol)) e
slice_get-symbols c n (first ∷ symbols) (suc f) symbol at =
    let e : n + 1 + f ≡ n + suc f = omega arith in
    slice_get-symbols c (n + 1) symbols f symbol at ∙ ap (λ x. Some (marked_symbol c x symbol)) e

slice_get-constructors : (normal : Normal) (n : ℕ) (constructors : List Constructor) (i : ℕ)
    (constructor : Constructor) → slice_get constructors i ≡ Some constructor →
    slice_get (marked_constructors normal n constructors) i
    ≡ Some (marked_constructor normal (n + i) constructor)
slice_get-constructors normal n [] i constructor at = cc
slice_get-constructors normal n (first ∷ constructors) zero constructor at =
    let same : first ≡ constructor = cc in
    let e : n ≡ n + 0 = omega arith in
    ap (λ x. Some (marked_constructor normal n x)) same
    ∙ ap (λ x. Some (marked_constructor normal x constructor)) e
slice_get-constructors normal n (first ∷ constructors) (suc i) constructor at =
    let e : n + 1 + i ≡ n + suc i = omega arith in
    slice_get-constructors normal (n + 1) constructors i constructor at
    ∙ ap (λ x. Some (marked_constructor normal x constructor)) e

module _ (c : Choices) (normal : Normal) where
  mark-symbol : (f : ℕ) (symbol : Symbol) → slice_get normal.signature.symbols f ≡ Some symbol →
      slice_get (all_marks c normal) f ≡ Some (marked_symbol c f symbol)
  mark-symbol f symbol at =
      slice_get-front (marked_symbols c 0 normal.signature.symbols) _ f (marked_symbol c f symbol)
      (slice_get-symbols c 0 normal.signature.symbols f symbol at
      ∙ (let e : 0 + f ≡ f = omega arith in ap (λ x. Some (marked_symbol c x symbol)) e))

  mark-constructor : (i : ℕ) (constructor : Constructor) →
      slice_get normal.signature.constructors i ≡ Some constructor →
      slice_get (all_marks c normal) (length normal.signature.symbols + i)
      ≡ Some (marked_constructor normal i constructor)
  mark-constructor i constructor at =
      let e : 0 + i ≡ i = omega arith in
      subst (λ n. slice_get (all_marks c normal) (n + i)
      ≡ Some (marked_constructor normal i constructor))
      (length-symbols c 0 normal.signature.symbols)
      (slice_get-behind (marked_symbols c 0 normal.signature.symbols) _ i
      (marked_constructor normal i constructor)
      (slice_get-front (marked_constructors normal 0 normal.signature.constructors) _ i
      (marked_constructor normal i constructor)
      (slice_get-constructors normal 0 normal.signature.constructors i constructor at
      ∙ ap (λ x. Some (marked_constructor normal x constructor)) e)))

  module _ (s : Structure) (model : AreModel (encoded c normal).problem s) where
    abbrev present : ℕ → Bool
    present = is_present (translation c normal)

    abbrev signature : List FofSymbol
    signature = map (λ one. one.symbol)
        (passing (is_present (translation c normal)) 0 (all_marks c normal))

    pub well_formed : IsWellFormed (map (λ one. one.symbol)
        (passing (is_present (translation c normal)) 0 (all_marks c normal))) s
    unfolding encoded
    well_formed = model.well_formed

    formulas_satisfied : AreSatisfied (reading s)
        (map (λ formula. renumbered (is_present (translation c normal)) formula)
        (translation c normal))
    unfolding encoded
    formulas_satisfied = model.formulas

    -- the structure over all marked symbols
    abbrev pub marked : Untyped
    marked = over_all (is_present (translation c normal)) (is_tag c normal) (reading s)

    pub mark_present : (m : ℕ) (item : MarkedSymbol) (values : List ℕ) →
        slice_get (all_marks c normal) m ≡ Some item →
        0 < values_below item.symbol s.size → present m ≡ true →
        marked.symbol_at m values < values_below item.symbol s.size
    mark_present m item values at some is =
        let e : 0 + m ≡ m = omega arith in
        let there : slice_get signature (count_below m present) ≡ Some item.symbol =
        slice_get-map (λ (one : MarkedSymbol). one.symbol)
        (passing present 0 (all_marks c normal)) (count_below m present) item
        (slice_get-passing present 0 (all_marks c normal) m item at (ap present e ∙ is)
        (count_below m present)
        (ap (λ x. count_below x present) e
        ∙ (let z : count_below m present ≡ 0 + count_below m present = omega arith in z))) in
        rw is (symbol_at-reading signature s well_formed (count_below m present) item.symbol
        values there some)

    -- what is absent and no tag has zeros
    pub absent_zero : (m : ℕ) (values : List ℕ) →
        m < length normal.signature.symbols + length normal.signature.constructors →
        present m ≡ false → marked.symbol_at m values ≡ 0
    absent_zero m values before is =
        let symbols : ℕ = length normal.signature.symbols in
        let constructors : ℕ = length normal.signature.constructors in
        let tagless : is_tag c normal m ≡ false =
        ap (λ b. b && not (is_guard c.binding)) (lt-leb (symbols + constructors) m before) in
        ap (λ b. cond b ((reading s).symbol_at (count_below m present) values)
        (cond (is_tag c normal m) (last_of values) 0)) is
        ∙ ap (λ b. cond b (last_of values) 0) tagless

    mark_below : (m : ℕ) (item : MarkedSymbol) (values : List ℕ) →
        slice_get (all_marks c normal) m ≡ Some item →
        m < length normal.signature.symbols + length normal.signature.constructors →
        0 < values_below item.symbol s.size → (b : Bool) → present m ≡ b →
        marked.symbol_at m values < values_below item.symbol s.size
    mark_below m item values at before some false is =
        subst (λ z. z < values_below item.symbol s.size) (sym (absent_zero m values before is)) some
    mark_below m item values at before some true is = mark_present m item values at some is

    pub is_closed : IsClosed (all_numbers normal) normal.signature marked
    is_closed = record {
      inhabited = well_formed.inhabited;
      constructors = λ i constructor values at.
          let within = slice_get-within normal.signature.constructors i constructor at in
          mark_below (length normal.signature.symbols + i)
          (marked_constructor normal i constructor) values (mark-constructor i constructor at)
          (omega (arith, within))
          well_formed.inhabited (present (length normal.signature.symbols + i)) refl;
      functions = λ f symbol ty values at gives.
          let within = slice_get-within normal.signature.symbols f symbol at in
          let kind : is_none symbol.result ≡ false = ap is_none gives in
          subst (λ b. marked.symbol_at f values < cond b 2 s.size) kind
          (mark_below f (marked_symbol c f symbol) values (mark-symbol f symbol at)
          (omega (arith, within))
          (subst (λ b. 0 < cond b 2 s.size) (sym kind) well_formed.inhabited) (present f) refl);
    }

    pub predicates_below : (f : ℕ) (symbol : Symbol) (values : List ℕ) →
        slice_get normal.signature.symbols f ≡ Some symbol → symbol.result ≡ None →
        marked.symbol_at f values < 2
    predicates_below f symbol values at gives =
        let within = slice_get-within normal.signature.symbols f symbol at in
        let kind : is_none symbol.result ≡ true = ap is_none gives in
        let some : 0 < 2 = omega arith in
        subst (λ b. marked.symbol_at f values < cond b 2 s.size) kind
        (mark_below f (marked_symbol c f symbol) values (mark-symbol f symbol at)
        (omega (arith, within))
        (subst (λ b. 0 < cond b 2 s.size) (sym kind) some) (present f) refl)

    -- a tag gives numbers of the domain, also where it doesn't occur
    module _ (marking : c.marking ≡ ByType) (binding : c.binding ≡ ByTag) where
      abbrev shared : ℕ
      shared = length normal.signature.symbols + length normal.signature.constructors

      mark-shared : slice_get (all_marks c normal)
          (length normal.signature.symbols + length normal.signature.constructors)
          ≡ Some (shared_mark ByTag)
      mark-shared =
          let counts = length-constructors normal 0 normal.signature.constructors in
          let e : length (marked_constructors normal 0 normal.signature.constructors) + 0
          ≡ length normal.signature.constructors = omega (arith, counts) in
          let own : slice_get (own_marks normal c.binding c.marking) 0 ≡ Some (shared_mark ByTag) =
          ap (λ z. slice_get (own_marks normal c.binding z) 0) marking
          ∙ ap (λ z. Some (shared_mark z)) binding in
          subst (λ n. slice_get (all_marks c normal) (n + length normal.signature.constructors)
          ≡ Some (shared_mark ByTag)) (length-symbols c 0 normal.signature.symbols)
          (slice_get-behind (marked_symbols c 0 normal.signature.symbols) _
          (length normal.signature.constructors) (shared_mark ByTag)
          (subst (λ n. slice_get (marked_constructors normal 0 normal.signature.constructors
          ++ own_marks normal c.binding c.marking) n ≡ Some (shared_mark ByTag)) e
          (slice_get-behind (marked_constructors normal 0 normal.signature.constructors) _ 0
          (shared_mark ByTag) own)))

      tag_by_presence : (u v : ℕ) → v < s.size → (b : Bool) →
          present (length normal.signature.symbols + length normal.signature.constructors) ≡ b →
          marked.symbol_at
          (length normal.signature.symbols + length normal.signature.constructors) (u ∷ v ∷ [])
          < s.size
      tag_by_presence u v below true is =
          mark_present (length normal.signature.symbols + length normal.signature.constructors)
          (shared_mark ByTag) (u ∷ v ∷ []) mark-shared well_formed.inhabited is
      tag_by_presence u v below false is =
          let tag : is_tag c normal shared ≡ true =
          ap (λ b. b && not (is_guard c.binding)) (le-leb shared shared (omega arith))
          ∙ ap (λ z. not (is_guard z)) binding in
          subst (λ z. z < s.size)
          (sym (ap (λ b. cond b ((reading s).symbol_at (count_below shared present) (u ∷ v ∷ []))
          (cond (is_tag c normal shared) v 0)) is
          ∙ ap (λ b. cond b v 0) tag)) below

      pub tags_below : (u v : ℕ) → v < s.size →
          marked.symbol_at
          (length normal.signature.symbols + length normal.signature.constructors) (u ∷ v ∷ [])
          < s.size
      tags_below u v below = tag_by_presence u v below (present shared) refl

    pub is_total : c.marking ≡ ByType → IsTotal c normal marked
    is_total marking = record {
      closed = is_closed;
      tags = λ binding u v below. tags_below marking binding u v below;
      predicates = predicates_below;
    }

    -- a symbol that doesn't occur
    pub symbol_absent : (f : ℕ) (symbol : Symbol) (values : List ℕ) →
        slice_get normal.signature.symbols f ≡ Some symbol → present f ≡ false →
        marked.symbol_at f values ≡ 0
    symbol_absent f symbol values at is =
        let within = slice_get-within normal.signature.symbols f symbol at in
        absent_zero f values (omega (arith, within)) is

    -- any structure that agrees on the symbols that occur satisfies what is stated
    pub agreeing_satisfied : (j : Untyped) → s.size ≡ j.size →
        ((m : ℕ) → IsTrue (present m) → (values : List ℕ) →
        (reading s).symbol_at (count_below m present) values ≡ j.symbol_at m values) →
        AreSatisfied j (translation c normal)
    agreeing_satisfied j size agree =
        satisfied-all_marks present (reading s) j size (translation c normal) agree
        formulas_satisfied

    pub all_satisfied : AreSatisfied marked (translation c normal)
    all_satisfied =
        agreeing_satisfied marked refl
        (λ m is values. sym (ap (λ b. cond b ((reading s).symbol_at (count_below m present) values)
        (cond (is_tag c normal m) (last_of values) 0)) is))
