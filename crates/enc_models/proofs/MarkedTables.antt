-- The tables of marked symbols, by their numbers.
use Rattle.std.specs.Prelude.{ℕ, zero, suc, ◌≡◌, ◌<◌, ◌≤◌, ◌+◌, ◌*◌, ◌++◌, Bool, true, false, List, [], ◌∷◌, length, replicate, cond, is_none, not, ◌&&◌, get_or, slice_get, slice_index, option_map, Option, Some, None}
use Rattle.std.proofs.Common.{refl, sym, ap, subst, ◌∙◌, arith, ⊎_elim}
use Rattle.std.proofs.lemmas.Bool.{cases_Bool, cases_lt, le-leb, lt-leb}
use Rattle.std.proofs.lemmas.List.{length-append, get_or_append_left, get_or_push, get_or_default}
use Rattle.std.proofs.lemmas.Option.{slice_get-map, slice_get-get_or, slice_get_within}
use Rattle.enc_base.specs.Tables.{tuple_count, place}
use Rattle.enc_base.proofs.Tables.{place_within}
use Rattle.tf_core.specs.declared.ty.Ty.{Ty}
use Rattle.tf_core.specs.declared.signature.Constructor.{Constructor}
use Rattle.tf_core.specs.declared.signature.Symbol.{Symbol}
use Rattle.tf_core.specs.declared.normal.Normal.{Normal}
use Rattle.tf_core.specs.Sorts.{sorts}
use Rattle.fof_models.specs.declared.structure.Structure.{Structure}
use Rattle.fof_models.specs.Structures.{table_of, reading, IsWellFormed}
use Rattle.enc_marks.specs.declared.mark.Mark.{Mark}
use Rattle.enc_marks.specs.declared.mark.Mark.TheVariants as mark
use Rattle.enc_marks.specs.declared.choices.Marking.{Marking}
use Rattle.enc_marks.specs.declared.choices.Marking.TheVariants.{ByType, BySort}
use Rattle.enc_marks.specs.declared.choices.Binding.{Binding}
use Rattle.enc_marks.specs.declared.choices.Binding.TheVariants.{ByGuard, ByTag}
use Rattle.enc_marks.specs.Choices.{Choices}
use Rattle.enc_marks.specs.Occurrence.{count_below, passing}
use Rattle.enc_marks.specs.Encoded.{MarkedSymbol, shared_mark, sort_mark, mark_of, sort_mark_of, sort_marks, marked_symbols, marked_constructors, own_marks, all_marks, encoded, is_guard}
use Rattle.enc_laws.specs.MergedStructure.{kept_count}
use Rattle.enc_laws.specs.Present.{is_tag, last_of}
use Rattle.enc_marks.proofs.SoundMarks.{slice_get-passing, symbol-at, constructor-at, shared-at}
use Rattle.enc_laws.proofs.MarksFound.{passing_found, map_found, InLists, in_first, in_second, lists_found, symbol_found, constructor_found, length-symbols, length-constructors}
use Rattle.enc_models.specs.LiftedTables.{marked_structure}
use Rattle.enc_models.specs.Calls.Lifting.{Parts, occurs_in, mark_count, mark_number, mark_in, place_in, table_in, ArePlaces, marked_table}

-- what holds of each item holds with one item more
pub each_pushed : {A : Type 0} (P : ℕ → A → Type 0) (items : List A) (d item : A) (n : ℕ) →
    length items ≡ n → ((m : ℕ) → m < n → P m (get_or items m d)) → P n item →
    (m : ℕ) → m < n + 1 → P m (get_or (items ++ item ∷ []) m d)
each_pushed P items d item n long before here m within =
    ⊎_elim
    (λ less.
    subst (P m) (sym (get_or_append_left items (item ∷ []) d m (omega (arith, less, long))))
    (before m less))
    (λ past.
    let last : n ≡ m = omega (arith, past, within) in
    subst (P m) (sym (get_or_push items item d m (long ∙ last)))
    (subst (λ k. P k item) last here))
    (cases_lt m n)

-- a place that is read

place_some : (b : Bool) (n at : ℕ) → cond b (Some n) None ≡ Some at → (b ≡ true) × (n ≡ at)
place_some true n at is = let same : n ≡ at = cc in (refl, same)
place_some false n at is = cc

place_none : (b : Bool) (n : ℕ) → cond b (Some n) None ≡ None → b ≡ false
place_none true n is = cc
place_none false n is = refl

-- the number of a guard or tag

sort_mark_found : (normal : Normal) (binding : Binding) (n : ℕ) (types : List Ty) (i : ℕ)
    (one : MarkedSymbol) → slice_get (sort_marks normal binding n types) i ≡ Some one →
    one.mark ≡ sort_mark_of binding (n + i)
sort_mark_found normal binding n [] i one found = cc
sort_mark_found normal binding n (ty ∷ types) zero one found =
    let same : sort_mark normal binding n ty ≡ one = cc in
    let e : n ≡ n + 0 = omega arith in
    ap (λ (marked : MarkedSymbol). marked.mark) (sym same) ∙ ap (sort_mark_of binding) e
sort_mark_found normal binding n (ty ∷ types) (suc i) one found =
    let e : n + 1 + i ≡ n + suc i = omega arith in
    sort_mark_found normal binding (n + 1) types i one found ∙ ap (sort_mark_of binding) e

own_number : (normal : Normal) (binding : Binding) (marking : Marking) (symbols constructors : ℕ)
    (i : ℕ) (one : MarkedSymbol) → slice_get (own_marks normal binding marking) i ≡ Some one →
    mark_number symbols constructors one.mark ≡ symbols + constructors + i
own_number normal binding ByType symbols constructors zero one found =
    let same : shared_mark binding ≡ one = cc in
    let e : symbols + constructors ≡ symbols + constructors + 0 = omega arith in
    ap (λ (marked : MarkedSymbol). mark_number symbols constructors marked.mark) (sym same)
    ∙ (by binding ∙ e)
  where
    by : (b : Binding) → mark_number symbols constructors (mark_of b) ≡ symbols + constructors
    by ByGuard = refl
    by ByTag = refl
own_number normal binding ByType symbols constructors (suc i) one found = cc
own_number normal binding BySort symbols constructors i one found =
    let e : 0 + i ≡ i = omega arith in
    ap (mark_number symbols constructors)
    (sort_mark_found normal binding 0 (sorts normal) i one found)
    ∙ by binding (0 + i) ∙ ap (λ n. symbols + constructors + n) e
  where
    by : (b : Binding) (s : ℕ) →
        mark_number symbols constructors (sort_mark_of b s) ≡ symbols + constructors + s
    by ByGuard s = refl
    by ByTag s = refl

module _ (c : Choices) (normal : Normal) where
  abbrev symbols : ℕ
  symbols = length normal.signature.symbols

  abbrev constructors : ℕ
  constructors = length normal.signature.constructors

  abbrev present : ℕ → Bool
  present = occurs_in c normal

  abbrev marked : List MarkedSymbol
  marked = all_marks c normal

  pub all_marks-count : length (all_marks c normal) ≡ mark_count c normal
  all_marks-count =
      omega (
        arith,
        length-append (marked_symbols c 0 normal.signature.symbols)
            (marked_constructors normal 0 normal.signature.constructors
            ++ own_marks normal c.binding c.marking),
        length-append (marked_constructors normal 0 normal.signature.constructors)
            (own_marks normal c.binding c.marking),
        length-symbols c 0 normal.signature.symbols,
        length-constructors normal 0 normal.signature.constructors,
      )

  -- the number of a marked symbol by its mark

  number_behind : (behind : ℕ) (one : MarkedSymbol) →
      InLists (marked_constructors normal 0 normal.signature.constructors)
      (own_marks normal c.binding c.marking) behind one →
      mark_number symbols constructors one.mark ≡ symbols + behind
  number_behind behind one (in_first found) =
      let at = constructor_found normal 0 normal.signature.constructors behind one found in
      let e : 0 + behind ≡ behind = omega arith in
      ap (λ (marked : MarkedSymbol). mark_number symbols constructors marked.mark) at.2
      ∙ ap (λ n. symbols + n) e
  number_behind behind one (in_second i same found) =
      own_number normal c.binding c.marking symbols constructors i one found
      ∙ omega (arith, same, length-constructors normal 0 normal.signature.constructors)

  pub number_is : (number : ℕ) (one : MarkedSymbol) →
      slice_get (all_marks c normal) number ≡ Some one →
      mark_number symbols constructors one.mark ≡ number
  number_is number one found =
      by (lists_found (marked_symbols c 0 normal.signature.symbols) _ number one found)
    where
      by : InLists (marked_symbols c 0 normal.signature.symbols)
          (marked_constructors normal 0 normal.signature.constructors
          ++ own_marks normal c.binding c.marking) number one →
          mark_number symbols constructors one.mark ≡ number
      by (in_first there) =
          let at = symbol_found c 0 normal.signature.symbols number one there in
          let e : 0 + number ≡ number = omega arith in
          ap (λ (marked : MarkedSymbol). mark_number symbols constructors marked.mark) at.2 ∙ e
      by (in_second behind same there) =
          number_behind behind one
          (lists_found (marked_constructors normal 0 normal.signature.constructors)
          (own_marks normal c.binding c.marking) behind one there)
          ∙ omega (arith, same, length-symbols c 0 normal.signature.symbols)

  -- a marked symbol that occurs stands behind as many as occur before it
  passes_at : (number : ℕ) (one : MarkedSymbol) →
      slice_get (all_marks c normal) number ≡ Some one → present number ≡ true →
      slice_get (passing present 0 (all_marks c normal)) (count_below number present) ≡ Some one
  passes_at number one at is =
      let e : 0 + number ≡ number = omega arith in
      let same = ap (λ n. count_below n present) e in
      let none : count_below 0 present ≡ 0 = refl in
      slice_get-passing present 0 (all_marks c normal) number (count_below number present)
      (omega (arith, same, none)) (ap present e ∙ is)
      ∙ at

  pub mark_passes : (number : ℕ) (one : MarkedSymbol) →
      slice_get (all_marks c normal) number ≡ Some one → present number ≡ true →
      slice_get (encoded c normal).marks (count_below number present) ≡ Some one.mark
  unfolding encoded
  mark_passes number one at is =
      slice_get-map (λ (one : MarkedSymbol). one.mark)
      (passing present 0 (all_marks c normal)) (count_below number present)
      ∙ ap (option_map (λ (one : MarkedSymbol). one.mark)) (passes_at number one at is)

  pub symbol_passes : (number : ℕ) (one : MarkedSymbol) →
      slice_get (all_marks c normal) number ≡ Some one → present number ≡ true →
      slice_get (encoded c normal).problem.signature (count_below number present)
      ≡ Some one.symbol
  unfolding encoded
  symbol_passes number one at is =
      slice_get-map (λ (one : MarkedSymbol). one.symbol)
      (passing present 0 (all_marks c normal)) (count_below number present)
      ∙ ap (option_map (λ (one : MarkedSymbol). one.symbol)) (passes_at number one at is)

  -- a number occurs where a mark stands for it
  pub found_occurs : (number at : ℕ) (kind : Mark) →
      slice_get (encoded c normal).marks at ≡ Some kind →
      mark_number symbols constructors kind ≡ number → present number ≡ true
  unfolding encoded
  found_occurs number at kind found is =
      let image = map_found (λ (one : MarkedSymbol). one.mark)
      (passing present 0 (all_marks c normal)) at kind found in
      let stood = passing_found present 0 (all_marks c normal) at image.0 image.1 in
      let e : 0 + stood.0 ≡ stood.0 = omega arith in
      let same : stood.0 ≡ number =
      sym (number_is stood.0 image.0 stood.1.at)
      ∙ ap (mark_number symbols constructors) image.2
      ∙ is in
      ap present (sym same) ∙ ap present (sym e) ∙ stood.1.passes

  -- each number is that of a marked symbol
  numbered_one : (number : ℕ) → number < mark_count c normal →
      slice_get (all_marks c normal) number
      ≡ Some (get_or (all_marks c normal) number (shared_mark ByGuard))
  numbered_one number within =
      slice_get-get_or (all_marks c normal) number (shared_mark ByGuard)
      (omega (arith, within, all_marks-count))

  -- where a number occurs, there is a mark for it
  pub occurs_within : (number : ℕ) → number < mark_count c normal → present number ≡ true →
      count_below number present < length (encoded c normal).marks
  occurs_within number within is =
      slice_get_within (encoded c normal).marks (count_below number present) _
      (mark_passes number _ (numbered_one number within) is)

  pub occurs_number : (number : ℕ) (kind : Mark) → number < mark_count c normal →
      present number ≡ true →
      kind ≡ get_or (encoded c normal).marks (count_below number present) kind →
      mark_number symbols constructors kind ≡ number
  occurs_number number kind within is read =
      let one = get_or (all_marks c normal) number (shared_mark ByGuard) in
      let there = mark_passes number one (numbered_one number within) is in
      let same : kind ≡ one.mark = read ∙ get_or_from (encoded c normal).marks
      (count_below number present) one.mark kind there in
      ap (mark_number symbols constructors) same
      ∙ number_is number one (numbered_one number within)
    where
      get_or_from : (items : List Mark) (i : ℕ) (item d : Mark) →
          slice_get items i ≡ Some item → get_or items i d ≡ item
      get_or_from [] i item d at = cc
      get_or_from (first ∷ items) zero item d at = let same : first ≡ item = cc in same
      get_or_from (first ∷ items) (suc i) item d at = get_or_from items i item d at

  -- the next mark, as code reads it
  module _ (marks : List Mark) (are : marks ≡ (encoded c normal).marks) (number at : ℕ)
      (other : Mark)
    where
      pub occurs_here : at < length marks →
          mark_number (length normal.signature.symbols) (length normal.signature.constructors)
          (get_or marks at other) ≡ number →
          occurs_in c normal number ≡ true
      occurs_here within is =
          found_occurs number at (get_or marks at other)
          (ap (λ (ms : List Mark). slice_get ms at) (sym are) ∙ slice_get-get_or marks at other within)
          is

      module _ (inside : number < mark_count c normal) (so_far : at ≡ count_below number (occurs_in c normal))
        where
          pub fails_past : length marks ≤ at → occurs_in c normal number ≡ false
          fails_past past =
              ⊎_elim
              (λ is. absurd (omega (
                arith,
                past,
                so_far,
                occurs_within number inside is,
                ap (λ (ms : List Mark). length ms) are,
              )))
              (λ fails. fails) (cases_Bool (present number))

          pub fails_other : at < length marks →
              (mark_number (length normal.signature.symbols) (length normal.signature.constructors)
              (get_or marks at other) ≡ number → ⊥) →
              occurs_in c normal number ≡ false
          fails_other within differs =
              ⊎_elim
              (λ is.
              absurd (differs (occurs_number number (get_or marks at other) inside is
              (get_or_default marks at other (get_or marks at other) within
              ∙ ap (λ (ms : List Mark). get_or ms at (get_or marks at other)) are
              ∙ ap (λ n. get_or (encoded c normal).marks n (get_or marks at other)) so_far))))
              (λ fails. fails) (cases_Bool (present number))

  -- a place more
  module _ (places : List (Option ℕ)) (number at : ℕ) (length_is : length places ≡ number)
      (each : (m : ℕ) → m < number → get_or places m None ≡ place_in (occurs_in c normal) m)
      (so_far : at ≡ count_below number (occurs_in c normal))
    where
      pub some_more : occurs_in c normal number ≡ true → (m : ℕ) → m < number + 1 →
          get_or (places ++ Some at ∷ []) m None ≡ place_in (occurs_in c normal) m
      some_more occurs =
          each_pushed (λ k p. p ≡ place_in present k) places None (Some at) number length_is each
          (ap Some so_far
          ∙ sym (ap (λ b. cond b (Some (count_below number present)) None) occurs))

      pub none_more : occurs_in c normal number ≡ false → (m : ℕ) → m < number + 1 →
          get_or (places ++ None ∷ []) m None ≡ place_in (occurs_in c normal) m
      none_more fails =
          each_pushed (λ k p. p ≡ place_in present k) places None None number length_is each
          (sym (ap (λ b. cond b (Some (count_below number present)) None) fails))

  -- what is read among the places of marks
  module _ (places : List (Option ℕ)) (are : ArePlaces (occurs_in c normal) (mark_count c normal) places)
      (number : ℕ) (within : number < mark_count c normal) (other : Option ℕ)
    where
      read : get_or places number other ≡ place_in present number
      read =
          get_or_default places number other None (omega (arith, within, are.length_is))
          ∙ are.each number within

      pub read_some : (at : ℕ) → get_or places number other ≡ Some at →
          (occurs_in c normal number ≡ true) × (count_below number (occurs_in c normal) ≡ at)
      read_some at is =
          place_some (present number) (count_below number present) at (sym read ∙ is)

      pub read_none : get_or places number other ≡ None → occurs_in c normal number ≡ false
      read_none is = place_none (present number) (count_below number present) (sym read ∙ is)

  module _ (s : Structure) (well : IsWellFormed (encoded c normal).problem.signature s) where
    pub table_within : (number : ℕ) → number < mark_count c normal → occurs_in c normal number ≡ true →
        count_below number (occurs_in c normal) < length s.tables
    table_within number within is =
        let there = slice_get_within (encoded c normal).problem.signature
        (count_below number present) _ (symbol_passes number _ (numbered_one number within) is) in
        omega (arith, there, well.count)

    pub table_is : (number at : ℕ) (found : List ℕ) (tables : List (List ℕ)) →
        number < mark_count c normal → occurs_in c normal number ≡ true →
        count_below number (occurs_in c normal) ≡ at → tables ≡ s.tables →
        found ≡ get_or tables at found → found ≡ marked_table (occurs_in c normal) s number
    table_is number at found tables within occurs is same read =
        let inside : at < length s.tables =
        subst (λ n. n < length s.tables) is (table_within number within occurs) in
        read
        ∙ ap (λ ts. get_or ts at found) same
        ∙ get_or_default s.tables at found [] inside
        ∙ ap (λ n. get_or s.tables n []) (sym is)
        ∙ ap (λ b. cond b (get_or s.tables (count_below number present) []) []) (sym occurs)

    table_long : (number : ℕ) (one : MarkedSymbol) →
        slice_get (all_marks c normal) number ≡ Some one → (b : Bool) → present number ≡ b →
        0 < length (cond b (table_of s (count_below number present)) []) →
        length (cond b (table_of s (count_below number present)) [])
        ≡ tuple_count (replicate one.symbol.arity s.size)
    table_long number one at true is some =
        (well.tables (count_below number present) one.symbol (symbol_passes number one at is)).count
    table_long number one at false is some = absurd (omega (arith, some))

    pub table_present : (number : ℕ) (one : MarkedSymbol) →
        slice_get (all_marks c normal) number ≡ Some one → present number ≡ true →
        length (marked_table present s number) ≡ tuple_count (replicate one.symbol.arity s.size)
    table_present number one at is =
        ap (λ b. length (cond b (table_of s (count_below number present)) [])) is
        ∙ (well.tables (count_below number present) one.symbol (symbol_passes number one at is)).count

    -- a table that has an entry has one for each tuple
    module _ (f : ℕ) (symbol : Symbol) (at : slice_get normal.signature.symbols f ≡ Some symbol) where
      pub symbol_long : present f ≡ true →
          length (marked_table (occurs_in c normal) s f)
          ≡ tuple_count (replicate (kept_count c symbol + length symbol.arguments) s.size)
      symbol_long is = table_present f _ (symbol-at c normal f symbol at) is

      -- and the entries of a function's are numbers of the domain
      pub symbol_below : (ty : Ty) → symbol.result ≡ Some ty → (i : ℕ) →
          i < length (marked_table (occurs_in c normal) s f) →
          slice_index (marked_table (occurs_in c normal) s f) i < s.size
      symbol_below ty gives i = by (present f) refl
        where
          kind : is_none symbol.result ≡ false
          kind = ap is_none gives

          by : (b : Bool) → present f ≡ b →
              i < length (cond b (table_of s (count_below f present)) []) →
              slice_index (cond b (table_of s (count_below f present)) []) i < s.size
          by true is within =
              subst (λ k. slice_index (table_of s (count_below f present)) i < cond k 2 s.size) kind
              ((well.tables (count_below f present) _
              (symbol_passes f _ (symbol-at c normal f symbol at) is)).below i within)
          by false is within = absurd (omega (arith, within))

    pub constructor_long : (i : ℕ) (constructor : Constructor) →
        slice_get normal.signature.constructors i ≡ Some constructor →
        0 < length (marked_table (occurs_in c normal) s (length normal.signature.symbols + i)) →
        length (marked_table (occurs_in c normal) s (length normal.signature.symbols + i))
        ≡ tuple_count (replicate constructor.arity s.size)
    constructor_long i constructor at some =
        table_long (symbols + i) _ (constructor-at c normal i constructor at)
        (present (symbols + i)) refl some

    -- a function's entries are numbers of the domain
    pub function_below : (number : ℕ) (one : MarkedSymbol) →
        slice_get (all_marks c normal) number ≡ Some one → one.symbol.predicate ≡ false →
        present number ≡ true → (i : ℕ) →
        i < length (marked_table (occurs_in c normal) s number) →
        slice_index (marked_table (occurs_in c normal) s number) i < s.size
    function_below number one at function is i within =
        let table : List ℕ = table_of s (count_below number present) in
        let same : table ≡ marked_table present s number = sym (ap (λ b. cond b table []) is) in
        let inside : i < length table = subst (λ t. i < length t) (sym same) within in
        subst (λ t. slice_index t i < s.size) same
        (subst (λ b. slice_index table i < cond b 2 s.size) function
        ((well.tables (count_below number present) _ (symbol_passes number one at is)).below i
        inside))

  -- what a marked symbol that is no tag gives stands in its table
  pub entry_is : (s : Structure) (number : ℕ) (values : List ℕ) →
      is_tag c normal number ≡ false →
      (marked_structure c normal s).symbol_at number values
      ≡ slice_index (marked_table (occurs_in c normal) s number)
      (place (replicate (length values) s.size) values)
  entry_is s number values plain = by (present number)
    where
      by : (b : Bool) →
          cond b
          (slice_index (table_of s (count_below number present))
          (place (replicate (length values) s.size) values))
          (cond (is_tag c normal number) (last_of values) 0)
          ≡ slice_index (cond b (table_of s (count_below number present)) [])
          (place (replicate (length values) s.size) values)
      by true = refl
      by false = ap (λ tag. cond tag (last_of values) 0) plain

  -- and so does what one gives that occurs
  pub entry_present : (s : Structure) (number : ℕ) (values : List ℕ) →
      occurs_in c normal number ≡ true →
      (marked_structure c normal s).symbol_at number values
      ≡ slice_index (marked_table (occurs_in c normal) s number)
      (place (replicate (length values) s.size) values)
  entry_present s number values is =
      ap (λ b. cond b
      (slice_index (table_of s (count_below number present))
      (place (replicate (length values) s.size) values))
      (cond (is_tag c normal number) (last_of values) 0)) is
      ∙ sym (ap (λ b. slice_index (cond b (table_of s (count_below number present)) [])
      (place (replicate (length values) s.size) values)) is)

  -- symbols and constructors are no tags
  pub plain_number : (number : ℕ) →
      number < length normal.signature.symbols + length normal.signature.constructors →
      is_tag c normal number ≡ false
  plain_number number within =
      ap (λ b. b && not (is_guard c.binding)) (lt-leb (symbols + constructors) number within)

-- a table that has an entry is of a symbol that occurs
pub some_occurs : (b : Bool) (table : List ℕ) → (length (cond b table []) ≡ 0 → ⊥) → b ≡ true
some_occurs true table some = refl
some_occurs false table some = absurd (some refl)

-- nothing stands in an empty table
pub entry_none : (table : List ℕ) (i : ℕ) → length table ≡ 0 → 0 ≡ slice_index table i
entry_none [] i none = refl
entry_none (first ∷ table) i none = absurd (omega (arith, none))
