-- The sizes of structures within the limit on entries have 32 bits.
use Rattle.std.proofs.Common.{◌≡◌, ℕ, ◌+◌, ◌<◌, ◌≤◌, ◌^◌, List, [], ◌∷◌, length, sum}
use Rattle.std.proofs.Common.{arith}
use Rattle.std.proofs.lemmas.List.Sums.{sum_by-cons}
use Rattle.enc_base.specs.Counts.{most_entries}
use Rattle.tf_core.specs.declared.signature.Signature.{Signature}
use Rattle.tf_core.specs.TypedTables.{IsWellFormed as IsTyped}
use Rattle.tf_models.specs.declared.structure.TypedStructure.{TypedStructure}
use Rattle.tf_models.specs.Reading.{tables}
use Rattle.fof_models.specs.declared.problem.FofSymbol.{FofSymbol}
use Rattle.fof_models.specs.declared.structure.Structure.{Structure}
use Rattle.fof_models.specs.Structures.{IsWellFormed}
use Rattle.model_tables.specs.Typed as typed
use Rattle.model_tables.specs.Untyped as untyped_tables
use Rattle.model_tables.specs.WrittenLaws.{AreNumbers, HasNumbers}
use Rattle.enc_pipeline.proofs.Carry.{members_within}

-- numbers whose sum has 32 bits
sum_numbers : (ns : List ℕ) → sum ns < 2 ^ 32 → AreNumbers ns
sum_numbers [] few = tt
sum_numbers (n ∷ ns) few =
    let whole : sum (n ∷ ns) ≡ n + sum ns = sum_by-cons (λ (m : ℕ). m) n ns in
    (omega (arith, whole, few), sum_numbers ns (omega (arith, whole, few)))

pub untyped_numbers : (signature : List FofSymbol) (s : Structure) → IsWellFormed signature s →
    untyped_tables.structure_entries s ≤ most_entries → s.size < 2 ^ 32
untyped_numbers signature s formed few = omega (arith, few)

pub typed_numbers : (g : Signature) (s : TypedStructure) → IsTyped g (tables s) →
    typed.structure_entries s ≤ most_entries → HasNumbers s
typed_numbers g s formed few =
    let within : sum s.sizes ≤ most_entries = omega (arith, few) in
    let members : length s.sizes ≤ sum s.sizes =
    members_within s.sizes formed.structure.inhabited in
    record {
      sizes = sum_numbers s.sizes (omega (arith, within));
      members = omega (arith, members, within);
    }
