-- What is known of the problem of a text.
use Rattle.std.proofs.Common.{◌≡◌, ℕ, List, [], ◌∷◌, Ok, slice_get, Some, arith}
use Rattle.tptp_syntax.specs.declared.entry.File.{File}
use Rattle.tptp_syntax.specs.Files.{Spells, Verdict}
use Rattle.tptp_syntax.proofs.FileFacts.{file_facts}
use Rattle.tf_check.specs.Limits.{IsWithin}
use Rattle.tf_check.specs.Writable.{HasWritableNames}
use Rattle.tf_check.proofs.WritableNames.{typed_names_are_writable}
use Rattle.tf_core.specs.declared.problem.Problem.{Problem}
use Rattle.enc_pipeline.specs.Reading.{HasProblem}

-- the file that a text is read as is one that it spells
pub spells_of : (text : List ℕ) (file : File) → Verdict text (Ok file) → Spells text file
spells_of text file verdict = (verdict.1.0, verdict.1.1, (400, verdict.1.2))

-- every file that is spelled within the limits can be checked
pub is_within : (text : List ℕ) (file : File) → Verdict text (Ok file) → IsWithin file
is_within text file verdict =
    let facts = file_facts text file (spells_of text file verdict) in
    let nodes = facts.1 in
    let bytes = verdict.0 in
    record { nodes = omega arith; chains = facts.2 }

-- the names of a text's problem can be written
pub has_writable_names : (text : List ℕ) (problem : Problem) (has : HasProblem text problem) →
    HasWritableNames problem
has_writable_names text problem has =
    typed_names_are_writable has.0 problem
    (file_facts text has.0 (spells_of text has.0 has.1)).0 has.2

-- a list whose first item is this one begins with it
pub begins_with : {A : Type 0} (xs : List A) (x : A) → slice_get xs 0 ≡ Some x →
    (more : List A) × (xs ≡ x ∷ more)
begins_with [] x is = absurd cc
begins_with (y ∷ more) x is = (more, cc)
