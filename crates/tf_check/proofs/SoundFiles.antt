-- The problem of a well typed file within the limits is sound.
use Rattle.std.proofs.Common.{◌≡◌, ℕ, zero, suc, not, ◌+◌, ◌*◌, ◌^◌, ◌<◌, ◌≤◌, Bool, true, false, List, [], ◌∷◌, ◌++◌, map, filter, flat_map, replicate, refl, sym, ap, ◌∙◌, subst, arith, Some, None, slice_get, unwrap_or, count_by, cond, if◌then◌else◌, bytes_eq}
use Rattle.std.specs.List.{AllByRecursion, enumerate_from, list_all}
use Rattle.std.proofs.lemmas.Bool.{and_parts}
use Rattle.std.proofs.lemmas.List.Sums.{sum_by-cons}
use Rattle.tptp_syntax.specs.declared.entry.Entry.{Entry}
use Rattle.tptp_syntax.specs.declared.entry.Entry.TheVariants.{Declaration, Statement}
use Rattle.tptp_syntax.specs.declared.entry.File.{File}
use Rattle.tptp_syntax.specs.declared.entry.StatedRole.{StatedRole}
use Rattle.tptp_syntax.specs.declared.entry.StatedRole.TheVariants as raw
use Rattle.tptp_syntax.specs.declared.formula.RawFormula.{RawFormula}
use Rattle.tptp_syntax.specs.FileSizes.{type_nodes, formula_nodes, entry_nodes, file_size, has_chains, entry_has_chains}
use Rattle.tf_core.specs.declared.problem.Problem.{Problem}
use Rattle.tf_core.specs.declared.problem.Stated.{Stated}
use Rattle.tf_core.specs.declared.signature.Constructor.{Constructor}
use Rattle.tf_core.specs.declared.signature.Symbol.{Symbol}
use Rattle.tf_core.specs.declared.signature.Signature.{Signature}
use Rattle.tf_core.specs.Types as core
use Rattle.tf_core.specs.Counts.{result_nodes, binder_sum}
use Rattle.tf_core.specs.Typing.{AreTypes, IsSymbol, IsSignature}
use Rattle.tf_core.specs.Typing as typing
use Rattle.tf_core.specs.Sound.{IsBounded, IsSoundBelow, IsSoundStated, IsSound}
use Rattle.tf_core.specs.Sound as sound
use Rattle.tf_check.specs.Kinds.{kind}
use Rattle.tf_check.specs.Types.{individuals}
use Rattle.tf_check.specs.Names.{Occurrence, over_individuals, parameters_in, names_of_formula}
use Rattle.tf_check.specs.Entries.{Declared, RawStatement, declared, stated, entries_of, constructor_declarations, symbol_declarations, statements}
use Rattle.tf_check.specs.Signature.{first_of_each, individuals_constructor, declared_constructor, declared_symbol, declared_symbols, visited_names, constructors_of, symbols_of, signature_of}
use Rattle.tf_check.specs.Faults.{is_conjecture, role_of}
use Rattle.tf_check.specs.Limits.{most_nodes, IsWithin}
use Rattle.tf_check.specs.Typing.{IsDeclaredConstructor, IsDeclaredSymbol, StatementMeans, StatementsMean, no_statements, more_statements, IsTyped}
use Rattle.tf_check.proofs.TypesGive.{symbol_gives}
use Rattle.tf_check.proofs.TermsClean.{all_append}
use Rattle.tf_check.proofs.FoundLemmas.{all-first_of_each}
use Rattle.tf_check.proofs.FileGives.{kind_is}
use Rattle.tf_check.proofs.SumLemmas.{total, total-cons, total-append, total-map, total-filter, each_within, total-le, total-le_all, length-le_total, all-map, all-follow, all-both}
use Rattle.tf_check.proofs.PrefixCounts.{prefix_types-within}
use Rattle.tf_check.proofs.SoundTypes.{some_nodes, individuals_nodes, symbol_nodes, symbol_counted, individuals_formed, kind_size}
use Rattle.tf_check.proofs.SoundNames.{weight, formula_light}
use Rattle.tf_check.proofs.SoundFormulas.{formula_typed, formula_pairs, formula_size}

-- ---- the sizes of the parts of a file

abbrev body_nodes : Declared → ℕ
body_nodes d = type_nodes d.body

abbrev statement_nodes : RawStatement → ℕ
statement_nodes statement = formula_nodes statement.formula

declared_size : (n : ℕ) (entries : List Entry) →
    total body_nodes (declared (enumerate_from n entries)) ≤ total entry_nodes entries
declared_size n [] = omega arith
declared_size n (Declaration label name body ∷ entries) =
    omega (
      arith,
      declared_size (n + 1) entries,
      total-cons body_nodes (record { entry = n; name = name; body = body })
          (declared (enumerate_from (n + 1) entries)),
      total-cons entry_nodes (Declaration label name body) entries,
    )
declared_size n (Statement label role formula ∷ entries) =
    omega (
      arith,
      declared_size (n + 1) entries,
      total-cons entry_nodes (Statement label role formula) entries,
    )

stated_size : (n : ℕ) (entries : List Entry) →
    total statement_nodes (stated (enumerate_from n entries)) ≤ total entry_nodes entries
stated_size n [] = omega arith
stated_size n (Declaration label name body ∷ entries) =
    omega (
      arith,
      stated_size (n + 1) entries,
      total-cons entry_nodes (Declaration label name body) entries,
    )
stated_size n (Statement label role formula ∷ entries) =
    omega (
      arith,
      stated_size (n + 1) entries,
      total-cons statement_nodes
          (record { entry = n; label = label; role = role; formula = formula })
          (stated (enumerate_from (n + 1) entries)),
      total-cons entry_nodes (Statement label role formula) entries,
    )

stated_chains : (n : ℕ) (entries : List Entry) → list_all entry_has_chains entries ≡ true →
    AllByRecursion (λ (s : RawStatement). has_chains s.formula ≡ true)
    (stated (enumerate_from n entries))
stated_chains n [] holds = tt
stated_chains n (Declaration label name body ∷ entries) holds =
    stated_chains (n + 1) entries
    (and_parts (entry_has_chains (Declaration label name body)) (list_all entry_has_chains entries)
    holds).1
stated_chains n (Statement label role formula ∷ entries) holds =
    let parts = and_parts (has_chains formula) (list_all entry_has_chains entries) holds in
    (parts.0, stated_chains (n + 1) entries parts.1)

constructors_size : (file : File) → total body_nodes (constructor_declarations file)
    ≤ file_size file
constructors_size file =
    omega (
      arith,
      declared_size 0 file.entries,
      total-filter body_nodes (λ d. (kind d.body).is_kind) (declared (entries_of file)),
    )

symbols_size : (file : File) → total body_nodes (symbol_declarations file) ≤ file_size file
symbols_size file =
    omega (
      arith,
      declared_size 0 file.entries,
      total-filter body_nodes (λ d. not (kind d.body).is_kind) (declared (entries_of file)),
    )

-- ---- constructors

constructor_bound : (g : Signature) (bound : ℕ) (d : Declared) → IsDeclaredConstructor g d →
    body_nodes d ≤ bound → (declared_constructor d).arity ≤ bound
constructor_bound g bound d means within =
    let arity : (declared_constructor d).arity ≡ means.arity =
    ap (λ a. unwrap_or a 0) (kind_is d.body means.arity means.means) in
    omega (arith, kind_size d.body means.arity means.means)

constructors_bounded : (file : File) (g : Signature) (bound : ℕ) →
    AllByRecursion (IsDeclaredConstructor g) (constructor_declarations file) →
    file_size file ≤ bound →
    AllByRecursion (λ (c : Constructor). c.arity ≤ bound) (constructors_of file)
constructors_bounded file g bound means within =
    let small : AllByRecursion (λ d. body_nodes d ≤ bound) (constructor_declarations file) =
    each_within body_nodes bound (constructor_declarations file)
    (omega (arith, constructors_size file)) in
    let declared : AllByRecursion (λ (c : Constructor). c.arity ≤ bound)
    (map declared_constructor (constructor_declarations file)) =
    all-map declared_constructor (λ (c : Constructor). c.arity ≤ bound)
    (constructor_declarations file)
    (all-follow (λ d. IsDeclaredConstructor g d × (body_nodes d ≤ bound))
    (λ d. (declared_constructor d).arity ≤ bound)
    (λ d is. constructor_bound g bound d is.0 is.1) (constructor_declarations file)
    (all-both (IsDeclaredConstructor g) (λ d. body_nodes d ≤ bound) (constructor_declarations file)
    means
    small)) in
    all-first_of_each (λ (c : Constructor). c.name) (λ (c : Constructor). c.arity ≤ bound)
    (individuals_constructor ∷ map declared_constructor (constructor_declarations file))
    (omega arith, declared)

-- ---- symbols

-- a symbol is formed, with no more parameters than the bound
pub record IsGood (g : Signature) (bound : ℕ) (symbol : Symbol) : Type 0 where
  pub formed : IsSymbol g symbol
  pub parameters : symbol.parameters ≤ bound

module _ (g : Signature)
    (first : slice_get g.constructors 0 ≡ Some (record { name = 36 ∷ 105 ∷ []; arity = 0 }))
  where
    declared_is : (d : Declared) (means : IsDeclaredSymbol g d) →
        declared_symbol g.constructors d ≡ means.symbol
    declared_is d means =
        (symbol_gives d.entry g.constructors d.name [] d.body means.symbol means.means).is

    declared_good : (bound : ℕ) (d : Declared) → IsDeclaredSymbol g d → body_nodes d ≤ bound →
        IsGood g bound (declared_symbol g.constructors d)
    declared_good bound d means within =
        let counted = symbol_counted g first d.name [] d.body means.symbol means.means in
        subst (IsGood g bound) (sym (declared_is d means)) (record {
          formed = counted.formed;
          parameters = omega (arith, counted.parameters);
        })

    declared_nodes : (d : Declared) → IsDeclaredSymbol g d →
        symbol_nodes (declared_symbol g.constructors d) ≤ body_nodes d
    declared_nodes d means =
        subst (λ s. symbol_nodes s ≤ body_nodes d) (sym (declared_is d means))
        (symbol_counted g first d.name [] d.body means.symbol means.means).types

    over_formed : (n : ℕ) → AreTypes g 0 (replicate n individuals)
    over_formed zero = typing.no_types
    over_formed (suc n) =
        typing.more_types individuals (replicate n individuals)
        (individuals_formed g 0 (record { name = 36 ∷ 105 ∷ []; arity = 0 }) first refl)
        (over_formed n)

    over_good : (bound : ℕ) (o : Occurrence) → IsGood g bound (over_individuals o)
    over_good bound o =
        record {
          formed = record { arguments = over_formed o.arguments; result = by o.is_function };
          parameters = omega arith;
        }
      where
        by : (function : Bool) →
            typing.IsResult g 0 (if function then Some individuals else None)
        by true = individuals_formed g 0 (record { name = 36 ∷ 105 ∷ []; arity = 0 }) first refl
        by false = tt

over_arguments : (n : ℕ) → total core.type_nodes (replicate n individuals) ≡ n
over_arguments zero = refl
over_arguments (suc n) =
    omega (
      arith,
      over_arguments n,
      individuals_nodes,
      total-cons core.type_nodes individuals (replicate n individuals),
    )

over_nodes : (o : Occurrence) → symbol_nodes (over_individuals o) ≤ weight o
over_nodes o = omega (arith, over_arguments o.arguments, by o.is_function)
  where
    by : (function : Bool) → result_nodes (if function then Some individuals else None) ≤ 1
    by true = omega (arith, individuals_nodes)
    by false = omega arith

-- each once counts for no more than all
total-first_of_each : {A : Type 0} (name_of : A → List ℕ) (f : A → ℕ) (xs : List A) →
    total f (first_of_each name_of xs) ≤ total f xs
total-first_of_each name_of f [] = omega arith
total-first_of_each name_of f (x ∷ xs) =
    let kept = filter (λ later. not (bytes_eq (name_of later) (name_of x)))
    (first_of_each name_of xs) in
    omega (
      arith,
      total-cons f x kept,
      total-cons f x xs,
      total-filter f (λ later. not (bytes_eq (name_of later) (name_of x)))
          (first_of_each name_of xs),
      total-first_of_each name_of f xs,
    )

-- the names of the statements
names_weight : (parameters : List ℕ → ℕ) (xs : List RawStatement) →
    total weight (flat_map (λ (s : RawStatement). names_of_formula parameters s.formula) xs)
    ≤ 2 * total statement_nodes xs
names_weight parameters [] = omega arith
names_weight parameters (s ∷ xs) =
    omega (
      arith,
      names_weight parameters xs,
      formula_light parameters s.formula,
      total-append weight (names_of_formula parameters s.formula)
          (flat_map (λ (s : RawStatement). names_of_formula parameters s.formula) xs),
      total-cons statement_nodes s xs,
    )

-- ---- statements

conjecture_kept : (role : StatedRole) → sound.is_conjecture (role_of role) ≡ is_conjecture role
conjecture_kept raw.Hypothesis = refl
conjecture_kept raw.Conjecture = refl

abbrev bit : Bool → ℕ
bit b = cond b 1 0

module _ (g : Signature) where
  conjectures_kept : (xs : List RawStatement) (formulas : List Stated) →
      StatementsMean g xs formulas →
      count_by (λ (s : Stated). sound.is_conjecture s.role) formulas
      ≡ count_by (λ (s : RawStatement). is_conjecture s.role) xs
  conjectures_kept _ _ no_statements = refl
  conjectures_kept _ _ (more_statements statement formula rest formulas means others) =
      let same : bit (sound.is_conjecture formula.role) ≡ bit (is_conjecture statement.role) =
      ap (λ role. bit (sound.is_conjecture role)) means.role
      ∙ ap bit (conjecture_kept statement.role) in
      omega (
        arith,
        same,
        conjectures_kept rest formulas others,
        sum_by-cons (λ (s : Stated). bit (sound.is_conjecture s.role)) formula formulas,
        sum_by-cons (λ (s : RawStatement). bit (is_conjecture s.role)) statement rest,
      )

  binders_size : (xs : List RawStatement) (formulas : List Stated) → StatementsMean g xs formulas →
      total (λ (s : Stated). binder_sum core.type_nodes s.body) formulas ≤ total statement_nodes xs
  binders_size _ _ no_statements = omega arith
  binders_size _ _ (more_statements statement formula rest formulas means others) =
      omega (
        arith,
        binders_size rest formulas others,
        formula_size g core.type_nodes (λ ty. omega arith) true [] statement.formula formula.body
            means.body,
        total-cons (λ (s : Stated). binder_sum core.type_nodes s.body) formula formulas,
        total-cons statement_nodes statement rest,
      )

module _ (g : Signature) (signed : IsSignature g)
    (first : slice_get g.constructors 0 ≡ Some (record { name = 36 ∷ 105 ∷ []; arity = 0 }))
  where
    statement_sound : (statement : RawStatement) (formula : Stated) →
        StatementMeans g statement formula →
        statement_nodes statement ≤ most_nodes → has_chains statement.formula ≡ true →
        IsSoundStated g formula
    statement_sound statement formula means within chains =
        let x : RawFormula = statement.formula in
        record {
          typed = formula_typed g signed first formula.type_variables true [] x formula.body
              means.body
              (omega (arith, means.type_variables)) typing.no_types;
          pairs = formula_pairs g true [] x formula.body means.body chains;
          type_variables = omega (arith, means.type_variables, prefix_types-within x);
          binders = omega (
            arith,
            formula_size g (λ ty. 1) some_nodes true [] x formula.body
                means.body,
          );
        }

    statements_sound : (xs : List RawStatement) (formulas : List Stated) →
        StatementsMean g xs formulas →
        AllByRecursion (λ s. statement_nodes s ≤ most_nodes) xs →
        AllByRecursion (λ (s : RawStatement). has_chains s.formula ≡ true) xs →
        AllByRecursion (IsSoundStated g) formulas
    statements_sound _ _ no_statements within chains = tt
    statements_sound _ _ (more_statements statement formula rest formulas means others) within
        chains = (
          statement_sound statement formula means within.0 chains.0,
          statements_sound rest formulas others within.1 chains.1,
        )

-- ---- files

module _ (file : File) (p : Problem) (within : IsWithin file) (typed : IsTyped file p) where
  constructors_are : p.signature.constructors ≡ constructors_of file
  unfolding signature_of
  constructors_are = ap (λ (g : Signature). g.constructors) typed.signature

  symbols_are : p.signature.symbols ≡ symbols_of file
  unfolding signature_of
  symbols_are = ap (λ (g : Signature). g.symbols) typed.signature

  first_is : slice_get p.signature.constructors 0
      ≡ Some (record { name = 36 ∷ 105 ∷ []; arity = 0 })
  first_is = ap (λ (cs : List Constructor). slice_get cs 0) constructors_are

  declared_within : AllByRecursion (λ d. body_nodes d ≤ most_nodes) (symbol_declarations file)
  declared_within =
      each_within body_nodes most_nodes (symbol_declarations file)
      (omega (arith, symbols_size file, within.nodes))

  symbols_good : AllByRecursion (IsGood p.signature most_nodes) p.signature.symbols
  symbols_good =
      let g : Signature = p.signature in
      let good : Symbol → Type 0 = IsGood g most_nodes in
      let front : AllByRecursion good (map (declared_symbol g.constructors)
      (symbol_declarations file)) =
      all-map (declared_symbol g.constructors) good (symbol_declarations file)
      (all-follow (λ d. IsDeclaredSymbol g d × (body_nodes d ≤ most_nodes))
      (λ d. good (declared_symbol g.constructors d))
      (λ d is. declared_good g first_is most_nodes d is.0 is.1) (symbol_declarations file)
      (all-both (IsDeclaredSymbol g) (λ d. body_nodes d ≤ most_nodes) (symbol_declarations file)
      typed.symbols declared_within)) in
      let back : AllByRecursion good (map over_individuals (visited_names file)) =
      all-map over_individuals good (visited_names file)
      (each_over (visited_names file)) in
      subst (AllByRecursion good) (sym symbols_are)
      (all-first_of_each (λ (s : Symbol). s.name) good
      (declared_symbols file ++ map over_individuals (visited_names file))
      (all_append good (declared_symbols file) (map over_individuals (visited_names file))
      (subst (λ cs. AllByRecursion good (map (declared_symbol cs) (symbol_declarations file)))
      constructors_are front) back))
    where
      each_over : (os : List Occurrence) →
          AllByRecursion (λ o. IsGood p.signature most_nodes (over_individuals o)) os
      each_over [] = tt
      each_over (o ∷ os) = (over_good p.signature first_is most_nodes o, each_over os)

  symbols_nodes : total symbol_nodes p.signature.symbols ≤ 3 * most_nodes
  symbols_nodes =
      let g : Signature = p.signature in
      let front : total symbol_nodes (map (declared_symbol g.constructors)
      (symbol_declarations file))
      ≤ total body_nodes (symbol_declarations file) =
      omega (
        arith,
        total-map symbol_nodes (declared_symbol g.constructors) (symbol_declarations file),
        total-le (λ d. symbol_nodes (declared_symbol g.constructors d)) body_nodes
            (symbol_declarations file)
            (all-follow (IsDeclaredSymbol g)
            (λ d. symbol_nodes (declared_symbol g.constructors d) ≤ body_nodes d)
            (declared_nodes g first_is)
            (symbol_declarations file) typed.symbols),
      ) in
      let back : total symbol_nodes (map over_individuals (visited_names file))
      ≤ 2 * total statement_nodes (statements file) =
      omega (
        arith,
        total-map symbol_nodes over_individuals (visited_names file),
        total-le_all (λ o. symbol_nodes (over_individuals o)) weight over_nodes
            (visited_names file),
        names_weight (parameters_in (declared_symbols file)) (statements file),
      ) in
      let declared : total symbol_nodes (declared_symbols file)
      ≤ total body_nodes (symbol_declarations file) =
      subst (λ cs. total symbol_nodes (map (declared_symbol cs) (symbol_declarations file))
      ≤ total body_nodes (symbol_declarations file)) constructors_are front in
      omega (
        arith,
        ap (total symbol_nodes) symbols_are,
        total-first_of_each (λ (s : Symbol). s.name) symbol_nodes
            (declared_symbols file ++ map over_individuals (visited_names file)),
        total-append symbol_nodes (declared_symbols file)
            (map over_individuals (visited_names file)),
        declared,
        back,
        symbols_size file,
        stated_size 0 file.entries,
        within.nodes,
      )

  signature_sound : IsSoundBelow (2 ^ 27) p.signature
  signature_sound =
      let g : Signature = p.signature in
      record {
        typed = all-follow (IsGood g most_nodes) (IsSymbol g) (λ s good. good.formed) g.symbols
            symbols_good;
        first = first_is;
        constructor_count = omega (arith, typed.size);
        symbol_count = omega (arith, typed.size);
        arities = all-follow (λ (c : Constructor). c.arity ≤ most_nodes)
            (λ (c : Constructor). c.arity < 2 ^ 27) (λ c small. omega arith) g.constructors
            (subst (AllByRecursion (λ (c : Constructor). c.arity ≤ most_nodes))
            (sym constructors_are)
            (constructors_bounded file g most_nodes typed.constructors within.nodes));
        symbols = all-follow (λ s. IsGood g most_nodes s × (symbol_nodes s ≤ 3 * most_nodes))
            (IsBounded (2 ^ 27))
            (λ s is. record {
              parameters = omega (arith, is.0.parameters);
              arguments = omega (
                arith,
                is.1,
                length-le_total core.type_nodes some_nodes
                    s.arguments,
              );
            }) g.symbols
            (all-both (IsGood g most_nodes) (λ s. symbol_nodes s ≤ 3 * most_nodes) g.symbols
            symbols_good
            (each_within symbol_nodes (3 * most_nodes) g.symbols symbols_nodes));
      }

  pub typed_sound : IsSound p
  typed_sound =
      let g : Signature = p.signature in
      let small : total statement_nodes (statements file) ≤ most_nodes =
      omega (arith, stated_size 0 file.entries, within.nodes) in
      record {
        signature = signature_sound;
        formulas = statements_sound g signature_sound.typed first_is (statements file) p.formulas
            typed.formulas (each_within statement_nodes most_nodes (statements file) small)
            (stated_chains 0 file.entries within.chains);
        conjectures = omega (
          arith,
          conjectures_kept g (statements file) p.formulas typed.formulas,
          typed.conjectures,
        );
        nodes = omega (
          arith,
          symbols_nodes,
          small,
          binders_size g (statements file) p.formulas typed.formulas,
        );
      }
