-- The names of a typed problem can be written where those of its file can, since they stand in it.
use Rattle.std.specs.Prelude.{◌≡◌, ℕ, ◌+◌, not, List, [], ◌∷◌, ◌++◌, map}
use Rattle.std.specs.List.{AllByRecursion, enumerate_from}
use Rattle.std.proofs.Common.{refl, sym, ap, ◌∙◌, subst, length, arith}
use Rattle.tptp_syntax.specs.declared.types.TypeExpr.{TypeExpr, roll-TypeExpr}
use Rattle.tptp_syntax.specs.declared.types.TypeExpr.TheOpen.{TypeExpr-F}
use Rattle.tptp_syntax.specs.declared.types.TypeExpr.TheOpen as type
use Rattle.tptp_syntax.specs.declared.types.TypeExpr.TheFolds.{ind-TypeExpr, map-TypeExpr}
use Rattle.tptp_syntax.specs.declared.types.TypeExpr.TheFolds.{fold-Bound, fold-roll-TypeExpr}
use Rattle.tptp_syntax.specs.declared.types.Bound.{Bound}
use Rattle.tptp_syntax.specs.declared.entry.Entry.{Entry}
use Rattle.tptp_syntax.specs.declared.entry.Entry.TheVariants.{Declaration, Statement}
use Rattle.tptp_syntax.specs.declared.entry.File.{File}
use Rattle.tptp_syntax.specs.FileNames.{formula_names, entry_names}
use Rattle.enc_base.specs.Names.{IsWritable}
use Rattle.tptp_syntax.specs.FileNames.{IsWritableFile}
use Rattle.tf_core.specs.declared.signature.Constructor.{Constructor}
use Rattle.tf_core.specs.declared.signature.Symbol.{Symbol}
use Rattle.tf_core.specs.declared.signature.Signature.{Signature}
use Rattle.tf_core.specs.declared.problem.Stated.{Stated}
use Rattle.tf_core.specs.declared.problem.Problem.{Problem}
use Rattle.tf_check.specs.Scope.{Scope}
use Rattle.tf_check.specs.Types.{Reading, BoundReading, reading, reading_step, bound_step}
use Rattle.tf_check.specs.Types.{bind_parameters}
use Rattle.tf_check.specs.Names.{Occurrence, over_individuals, parameters_in, names_of_formula}
use Rattle.tf_check.specs.Entries.{Declared, RawStatement, declared, stated, entries_of}
use Rattle.tf_check.specs.Entries.{symbol_declarations, statements}
use Rattle.tf_check.specs.Kinds.{kind}
use Rattle.tf_check.specs.Signature.{declared_symbol, declared_symbols, visited_names}
use Rattle.tf_check.specs.Signature.{constructors_of, signature_of}
use Rattle.tf_check.specs.Typing.{StatementsMean, no_statements, more_statements, IsTyped}
use Rattle.tf_check.specs.Signature.{individuals_constructor, declared_constructor}
use Rattle.tf_check.specs.Entries.{constructor_declarations}
use Rattle.tf_check.specs.Visited.{good, bad, expect, ◌>>=◌, ◌>>◌}
use Rattle.tf_check.specs.Writable.{HasWritableNames, TypedNamesAreWritable}
use Rattle.tf_check.proofs.VisitedNames.{all-append, all-filter, all-first_of_each, all-weaker}
use Rattle.tf_check.proofs.VisitedNames.{all-map, all-flat_map, AllWritable, all-joined}
use Rattle.tf_check.proofs.VisitedNames.{HasWritableName, AreWritable, formulas_writable}
use Rattle.tf_check.proofs.VisitedNames.{IsNamedWritably, AreNamedWritably}

-- ---- the name of a declared symbol

module _ (entry : ℕ) (constructors : List Constructor) where
  -- the symbol that is declared has the name of its declaration
  abbrev NameClaim : TypeExpr → Type 0
  NameClaim body = (name : List ℕ) (scope : Scope)
      → ((reading entry constructors body).as_symbol name scope).value.name ≡ name

  abbrev bound_reading : Bound → BoundReading
  bound_reading = fold-Bound Reading BoundReading (reading_step entry constructors) bound_step

  abbrev layer_reading : TypeExpr-F TypeExpr Bound → Reading
  layer_reading x =
      reading_step entry constructors
      (map-TypeExpr TypeExpr Bound Reading BoundReading (reading entry constructors)
      bound_reading x)

  name_claim : (x : TypeExpr-F TypeExpr Bound)
      → ((name : List ℕ) (scope : Scope)
      → ((layer_reading x).as_symbol name scope).value.name ≡ name)
      → NameClaim (roll-TypeExpr x)
  unfolding reading
  name_claim x layer name scope =
      ap (λ (r : Reading). (r.as_symbol name scope).value.name)
      (fold-roll-TypeExpr Reading BoundReading (reading_step entry constructors) bound_step x)
      ∙ layer name scope

  abbrev KeptType : Type 0
  KeptType = (body : TypeExpr) × NameClaim body

  abbrev KeptBound : Type 0
  KeptBound = Bound × Unit {0}

  name_layer : (y : TypeExpr-F KeptType KeptBound)
      → NameClaim (roll-TypeExpr
      (map-TypeExpr KeptType KeptBound TypeExpr Bound (λ k. k.0) (λ k. k.0) y))
  unfolding ◌>>=◌ good
  name_layer (type.Variable x) = name_claim (type.Variable x) (λ name scope. refl)
  name_layer (type.Apply x kept) =
      name_claim (type.Apply x (map (λ (k : KeptType). k.0) kept)) (λ name scope. refl)
  name_layer type.Individuals = name_claim type.Individuals (λ name scope. refl)
  name_layer type.Truth = name_claim type.Truth (λ name scope. refl)
  name_layer type.Types = name_claim type.Types (λ name scope. refl)
  name_layer (type.Product kept) =
      name_claim (type.Product (map (λ (k : KeptType). k.0) kept)) (λ name scope. refl)
  name_layer (type.Map left right) = name_claim (type.Map left.0 right.0) (λ name scope. refl)
  name_layer (type.Quantified bounds body) =
      let bare : List Bound = map (λ (k : KeptBound). k.0) bounds in
      name_claim (type.Quantified bare body.0)
      (λ name scope. body.1 name (bind_parameters entry (map bound_reading bare) scope).value)

  names_kept : (body : TypeExpr) → NameClaim body
  names_kept =
      ind-TypeExpr NameClaim (λ bound. Unit {0})
      (λ x y is. subst (λ z. NameClaim (roll-TypeExpr z)) is (name_layer y)) (λ x y is. tt)

-- ---- the names of a file

-- all names of the entries can be written
abbrev EntriesWritable : List Entry → Type 0
EntriesWritable = AllByRecursion (λ e. AllWritable (entry_names e))

declared_writable : (n : ℕ) (entries : List Entry) → EntriesWritable entries
    → AllByRecursion (λ (d : Declared). IsWritable d.name) (declared (enumerate_from n entries))
declared_writable n [] all = tt
declared_writable n (Declaration label name body ∷ entries) all =
    (all.0.1.0, declared_writable (n + 1) entries all.1)
declared_writable n (Statement label role f ∷ entries) all =
    declared_writable (n + 1) entries all.1

-- the label and the names of the formula can be written
abbrev StatementWritable : RawStatement → Type 0
StatementWritable statement =
    IsWritable statement.label × AllWritable (formula_names statement.formula)

stated_writable : (n : ℕ) (entries : List Entry) → EntriesWritable entries
    → AllByRecursion StatementWritable (stated (enumerate_from n entries))
stated_writable n [] all = tt
stated_writable n (Declaration label name body ∷ entries) all =
    stated_writable (n + 1) entries all.1
stated_writable n (Statement label role f ∷ entries) all =
    (all.0, stated_writable (n + 1) entries all.1)

-- the name of the constructor can be written
abbrev IsNamedConstructor : Constructor → Type 0
IsNamedConstructor constructor = IsWritable constructor.name

individuals-writable : IsNamedConstructor individuals_constructor
individuals-writable =
    let two : length individuals_constructor.name ≡ 2 = refl in
    record { some = omega (arith, two); bytes = (refl, (refl, tt)) }

module _ (file : File) (writable : IsWritableFile file) where
  entries_writable : EntriesWritable file.entries
  entries_writable = all-joined entry_names file.entries writable

  statements_writable : AllByRecursion StatementWritable (statements file)
  statements_writable = stated_writable 0 file.entries entries_writable

  declarations_writable : AreWritable (declared_symbols file)
  declarations_writable =
      all-map HasWritableName (declared_symbol constructors) (symbol_declarations file)
      (all-weaker (λ (d : Declared). IsWritable d.name)
      (λ (d : Declared). HasWritableName (declared_symbol constructors d))
      (λ d here. subst IsWritable (sym (names_kept d.entry constructors d.body d.name [])) here)
      (symbol_declarations file)
      (all-filter (λ (d : Declared). IsWritable d.name) (λ d. not (kind d.body).is_kind)
      (declared (entries_of file)) (declared_writable 0 file.entries entries_writable)))
    where
      constructors : List Constructor
      constructors = constructors_of file

  abbrev visited_in : RawStatement → List Occurrence
  visited_in statement =
      names_of_formula (parameters_in (declared_symbols file)) statement.formula

  visited_writable : AreWritable (map over_individuals (visited_names file))
  visited_writable =
      all-map HasWritableName over_individuals (visited_names file)
      (all-flat_map IsNamedWritably visited_in (statements file)
      (all-weaker StatementWritable (λ statement. AreNamedWritably (visited_in statement))
      (λ statement here.
      formulas_writable (parameters_in (declared_symbols file)) statement.formula here.1)
      (statements file) statements_writable))

  constructors_writable : AllByRecursion IsNamedConstructor (signature_of file).constructors
  unfolding signature_of
  constructors_writable =
      all-first_of_each IsNamedConstructor (λ (constructor : Constructor). constructor.name)
      (individuals_constructor ∷ map declared_constructor (constructor_declarations file)) (
        individuals-writable,
        all-map IsNamedConstructor declared_constructor (constructor_declarations file)
            (all-filter (λ (d : Declared). IsWritable d.name) (λ d. (kind d.body).is_kind)
            (declared (entries_of file)) (declared_writable 0 file.entries entries_writable)),
      )

  signature_writable : AreWritable (signature_of file).symbols
  unfolding signature_of
  signature_writable =
      all-first_of_each HasWritableName (λ (symbol : Symbol). symbol.name)
      (declared_symbols file ++ map over_individuals (visited_names file))
      (all-append HasWritableName (declared_symbols file)
      (map over_individuals (visited_names file))
      declarations_writable visited_writable)

stated_names : (g : Signature) (raw : List RawStatement) (formulas : List Stated)
    → StatementsMean g raw formulas → AllByRecursion StatementWritable raw
    → AllByRecursion (λ (s : Stated). IsWritable s.name) formulas
stated_names g _ _ no_statements all = tt
stated_names g _ _ (more_statements _ _ rest formulas first others) all =
    (subst IsWritable (sym first.name) all.0.0, stated_names g rest formulas others all.1)

pub typed_names_are_writable : TypedNamesAreWritable
typed_names_are_writable file problem writable typed = record {
  constructors =
      subst (λ (g : Signature). AllByRecursion IsNamedConstructor g.constructors)
      (sym typed.signature) (constructors_writable file writable);
  symbols =
      subst (λ (g : Signature). AreWritable g.symbols) (sym typed.signature)
      (signature_writable file writable);
  formulas =
      stated_names problem.signature (statements file) problem.formulas typed.formulas
      (statements_writable file writable);
}
