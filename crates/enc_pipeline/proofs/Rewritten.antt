-- What is written for a table is a table of a model on the other side.
use Rattle.std.proofs.Common.{◌≡◌, ℕ, zero, suc, ◌+◌, ◌-◌, ◌≤◌, List, [], ◌∷◌, length, map, sum, take, replicate, refl, sym, subst, ap, ◌∙◌, arith}
use Rattle.std.specs.Prelude.{sum_by}
use Rattle.std.proofs.lemmas.List.Sums.{sum_by-cons}
use Rattle.enc_base.specs.Counts.{most_entries}
use Rattle.enc_base.specs.Tables.{tuple_count}
use Rattle.enc_base.proofs.Tables.{length-blocks, length-table}
use Rattle.tf_core.specs.declared.signature.Constructor.{Constructor}
use Rattle.tf_core.specs.declared.signature.Symbol.{Symbol}
use Rattle.tf_core.specs.declared.signature.Signature.{Signature}
use Rattle.tf_core.specs.Structures.{Typed, member_count, argument_sizes}
use Rattle.tf_core.specs.TypedTables.{AreModel as AreTypedModel, AreNormalModel, IsWellFormed}
use Rattle.tf_models.specs.Reading.{tables}
use Rattle.tf_nnf.proofs.Models.{extension_is_model, reduct_is_model}
use Rattle.fof_models.specs.declared.problem.FofSymbol.{FofSymbol}
use Rattle.fof_models.specs.declared.structure.Structure.{Structure}
use Rattle.fof_models.specs.Models.{AreModel}
use Rattle.fof_models.specs.Structures.{Untyped}
use Rattle.fof_models.specs.Tabled as untyped_tabled
use Rattle.structure_tables.specs.EntryCounts.{untyped_count, symbol_count}
use Rattle.structure_tables.specs.TypedTabled.{constructor_table, constructor_tables, symbol_table, symbol_tables, symbol_block}
use Rattle.structure_tables.proofs.ProductSums.{total-same}
use Rattle.model_tables.specs.Typed as typed
use Rattle.model_tables.specs.Untyped as untyped_tables
use Rattle.model_tables.proofs.WrittenTables.{typed_text_is_its_table, untyped_text_is_its_table}
use Rattle.enc_models.specs.Lowered.{lowered, lowered_structure}
use Rattle.enc_models.specs.LiftedTables.{lifted_tables, lifted_structure}
use Rattle.enc_pipeline.specs.Way.{Preparation}
use Rattle.enc_pipeline.specs.Ready.{IsPrepared}
use Rattle.enc_pipeline.specs.Carried.{written_normal, translation, names, choices, lifted_model}
use Rattle.enc_pipeline.specs.Carried.{IsLoweredTo, IsLiftedTo}
use Rattle.enc_pipeline.specs.Laws.{LoweredTablesAreOfModels, LiftedTablesAreOfModels}
use Rattle.enc_pipeline.proofs.Ready.{sound_normal, are_names, is_named}
use Rattle.enc_pipeline.proofs.Numbers.{untyped_numbers, typed_numbers}
use Rattle.enc_pipeline.proofs.SchemesKeep.{schemes_keep}

-- ---- the entries of structures that are written as tables

-- those of symbols, the first being the f-th
untyped_lengths : (s : Untyped) (symbols : List FofSymbol) (f : ℕ) →
    sum (map length (untyped_tabled.symbol_tables s symbols f))
    ≡ sum_by (λ (symbol : FofSymbol). tuple_count (replicate symbol.arity s.size)) symbols
untyped_lengths s [] f = refl
untyped_lengths s (symbol ∷ symbols) f =
    sum_by-cons (λ (n : ℕ). n) (length (untyped_tabled.symbol_table s symbol f))
    (map length (untyped_tabled.symbol_tables s symbols (f + 1)))
    ∙ ap (λ n. n + sum (map length (untyped_tabled.symbol_tables s symbols (f + 1))))
    (length-table (replicate symbol.arity s.size) (s.symbol_at f))
    ∙ ap (λ n. tuple_count (replicate symbol.arity s.size) + n) (untyped_lengths s symbols (f + 1))
    ∙ sym (sum_by-cons (λ (one : FofSymbol). tuple_count (replicate one.arity s.size)) symbol symbols)

entries-tabled : (signature : List FofSymbol) (s : Untyped) →
    untyped_tables.structure_entries (untyped_tabled.tabled signature s)
    ≡ untyped_count s.size signature
entries-tabled signature s = ap (λ n. s.size + n) (untyped_lengths s signature 0)

constructor_lengths : (s : Typed) (constructors : List Constructor) (c : ℕ) →
    sum (map length (constructor_tables s constructors c))
    ≡ sum_by (λ (one : Constructor). tuple_count (replicate one.arity (member_count s))) constructors
constructor_lengths s [] c = refl
constructor_lengths s (one ∷ constructors) c =
    sum_by-cons (λ (n : ℕ). n) (length (constructor_table s one c))
    (map length (constructor_tables s constructors (c + 1)))
    ∙ ap (λ n. n + sum (map length (constructor_tables s constructors (c + 1))))
    (length-table (replicate one.arity (member_count s)) (s.constructor_at c))
    ∙ ap (λ n. tuple_count (replicate one.arity (member_count s)) + n)
    (constructor_lengths s constructors (c + 1))
    ∙ sym (sum_by-cons
    (λ (other : Constructor). tuple_count (replicate other.arity (member_count s))) one constructors)

symbol_lengths : (s : Typed) (symbols : List Symbol) (f : ℕ) →
    sum (map length (symbol_tables s symbols f)) ≡ sum_by (symbol_count s) symbols
symbol_lengths s [] f = refl
symbol_lengths s (symbol ∷ symbols) f =
    sum_by-cons (λ (n : ℕ). n) (length (symbol_table s symbol f))
    (map length (symbol_tables s symbols (f + 1)))
    ∙ ap (λ n. n + sum (map length (symbol_tables s symbols (f + 1))))
    (length-blocks (replicate symbol.parameters (member_count s)) (symbol_block s symbol f)
    ∙ total-same (replicate symbol.parameters (member_count s))
    (λ members. length (symbol_block s symbol f members))
    (λ members. tuple_count (argument_sizes s symbol members))
    (λ members. length-table (argument_sizes s symbol members) (s.symbol_at f members)))
    ∙ ap (λ n. symbol_count s symbol + n) (symbol_lengths s symbols (f + 1))
    ∙ sym (sum_by-cons (symbol_count s) symbol symbols)

-- fewer tables have no more entries
fewer : (count : ℕ) (entries : List (List ℕ)) →
    sum (map length (take count entries)) ≤ sum (map length entries)
fewer zero entries = omega arith
fewer (suc count) [] = omega arith
fewer (suc count) (table ∷ entries) =
    let first : sum (map length (take (suc count) (table ∷ entries)))
    ≡ length table + sum (map length (take count entries)) =
    sum_by-cons (λ (n : ℕ). n) (length table) (map length (take count entries)) in
    let whole : sum (map length (table ∷ entries)) ≡ length table + sum (map length entries) =
    sum_by-cons (λ (n : ℕ). n) (length table) (map length entries) in
    omega (arith, first, whole, fewer count entries)

-- ---- lowered

module _ (p : Preparation) (table output : List ℕ) (prepared : IsPrepared p)
    (done : IsLoweredTo p table output) where
  abbrev lowered_model : Structure
  lowered_model = lowered (choices p) (written_normal p) done.extension

  normal_model : AreNormalModel (written_normal p) done.extension
  normal_model =
      extension_is_model p.problem (tables done.model) done.extension prepared.sound
      done.is_table.is_model done.extends

  is_model : AreModel (translation p) lowered_model
  is_model =
      (schemes_keep p.how.scheme).lowers (written_normal p) done.extension (sound_normal p prepared)
      prepared.applies normal_model

  within : untyped_tables.structure_entries lowered_model ≤ most_entries
  within =
      subst (λ n. n ≤ most_entries)
      (sym (entries-tabled (translation p).signature
      (lowered_structure (choices p) (written_normal p) done.extension))) done.within

  pub lowered_table :
      untyped_tables.IsUntypedTable output (translation p) (names p) lowered_model
  lowered_table =
      subst (λ text. untyped_tables.IsUntypedTable text (translation p) (names p) lowered_model)
      (sym done.output_is)
      (untyped_text_is_its_table (translation p) (names p) lowered_model (are_names p prepared)
      is_model.well_formed
      (untyped_numbers (translation p).signature lowered_model is_model.well_formed within)).0

pub lowered_tables_are_of_models : LoweredTablesAreOfModels
lowered_tables_are_of_models p table output prepared done = record {
  is_table = lowered_table p table output prepared done;
  within = within p table output prepared done;
  is_model = is_model p table output prepared done;
}

-- ---- lifted

module _ (p : Preparation) (table output : List ℕ) (prepared : IsPrepared p)
    (done : IsLiftedTo p table output) where
  normal_lifted : AreNormalModel (written_normal p) (lifted_tables (choices p) (written_normal p) done.model)
  normal_lifted =
      (schemes_keep p.how.scheme).lifts (written_normal p) done.model (sound_normal p prepared)
      prepared.applies done.is_table.is_model

  is_lifted_model : AreTypedModel p.problem (tables (lifted_model p done.model))
  is_lifted_model =
      reduct_is_model p.problem (lifted_tables (choices p) (written_normal p) done.model) prepared.sound
      normal_lifted

  abbrev source : Typed
  source = lifted_structure (choices p) (written_normal p) done.model

  abbrev signature : Signature
  signature = (written_normal p).signature

  within_lifted : typed.structure_entries (lifted_model p done.model) ≤ most_entries
  within_lifted =
      let own = fewer
      (length (constructor_tables source signature.constructors 0) - (written_normal p).fresh)
      (constructor_tables source signature.constructors 0) in
      omega (
        arith,
        own,
        constructor_lengths source signature.constructors 0,
        symbol_lengths source signature.symbols 0,
        done.within,
      )

  pub lifted_table :
      typed.IsTypedTable output p.problem.signature (lifted_model p done.model)
  lifted_table =
      let formed : IsWellFormed p.problem.signature (tables (lifted_model p done.model)) = record {
        tables = is_lifted_model.tables;
        structure = is_lifted_model.model.structure;
      } in
      subst (λ text. typed.IsTypedTable text p.problem.signature (lifted_model p done.model))
      (sym done.output_is)
      (typed_text_is_its_table p.problem.signature (lifted_model p done.model) (is_named p prepared)
      formed (typed_numbers p.problem.signature (lifted_model p done.model) formed within_lifted)).0

pub lifted_tables_are_of_models : LiftedTablesAreOfModels
lifted_tables_are_of_models p table output prepared done = record {
  is_table = lifted_table p table output prepared done;
  within = within_lifted p table output prepared done;
  is_model = is_lifted_model p table output prepared done;
}
