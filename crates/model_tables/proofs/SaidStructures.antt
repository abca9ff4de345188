-- What holds of the structure of the table that a text says.
use Rattle.std.proofs.Common.{◌≡◌, ℕ, ◌≤◌, List, length, Ok, Err, sym, subst}
use Rattle.enc_base.specs.Counts.{most_entries}
use Rattle.fof_text.specs.Names.{AllDiffer}
use Rattle.fof_models.specs.declared.problem.FofProblem.{FofProblem}
use Rattle.fof_models.specs.declared.structure.Structure.{Structure}
use Rattle.model_tables.specs.declared.error.TableError.{TableError}
use Rattle.model_tables.specs.Untyped.{untyped, IsUntypedTable, structure_entries}
use Rattle.model_tables.specs.Refusals.{IsRefused}
use Rattle.model_tables.specs.ReadUntyped.{SaysStructure}
use Rattle.model_tables.proofs.OneVerdict.{one_verdict}
use Rattle.model_tables.proofs.UntypedTexts.{untyped_table}

module _ (text : List ℕ) (problem : FofProblem) (names : List (List ℕ)) (s : Structure)
    (counted : length names ≡ length problem.signature) (differ : AllDiffer names)
    (said : SaysStructure problem.signature names text s)
  where
    pub said_exact : IsUntypedTable text problem names s
    said_exact =
        subst (λ z. IsUntypedTable text problem names z) (sym said.2)
        (untyped_table text problem names said.0 counted differ said.1).0

    pub said_within : structure_entries s ≤ most_entries
    said_within =
        subst (λ z. structure_entries z ≤ most_entries) (sym said.2)
        (untyped_table text problem names said.0 counted differ said.1).1

    pub said_unrefused : (fault : TableError)
        → IsRefused (untyped problem.signature names) text fault → ⊥
    said_unrefused fault refused =
        let same : Ok said.0 ≡ Err fault =
        one_verdict (untyped problem.signature names) text (Ok said.0) (Err fault) said.1 refused in
        cc
