-- The answer to a whole text.
use Rattle.std.proofs.Common.{◌≡◌, ℕ, ◌≤◌, List, [], ◌∷◌, length, Option, Some, None, Ok, Err}
use Rattle.std.proofs.Common.{refl, ap, subst, arith}
use Rattle.enc_base.specs.Counts.{most_entries, in_64_bits}
use Rattle.tptp_words.specs.Text.{IsText}
use Rattle.tptp_words.specs.Scanning.{Left}
use Rattle.model_tables.specs.declared.error.TableError.{TableError}
use Rattle.model_tables.specs.declared.error.TableError.TheVariants as e
use Rattle.model_tables.specs.Grammar.{Table}
use Rattle.model_tables.specs.Faults.{Asked, missing_faults}
use Rattle.model_tables.specs.Refusals.{Says, IsRefused, Verdict}
use Rattle.model_tables.specs.Steps.{Start, unless_missing}
use Rattle.model_tables.specs.Leads.{lead}
use Rattle.model_tables.specs.Checks.{first_fault}
use Rattle.model_tables.proofs.Verdicts.{verdict_of}

-- a number of entries within the limit is below 2^64
pub in_64_bits-few : (n : ℕ) → n ≤ most_entries → in_64_bits n ≡ n
in_64_bits-few n few = omega arith

-- ---- what is missing

pub none_missing : (o : Option (List ℕ)) → missing_faults o ≡ [] → o ≡ None
none_missing None none = refl
none_missing (Some name) none = cc

-- the answer where nothing is missing, and where something is

pub missing_right : (t : Table) (o : Option (List ℕ)) → missing_faults o ≡ []
    → unless_missing t o ≡ Ok t
missing_right t o none = ap (unless_missing t) (none_missing o none)

pub missing_wrong : (t : Table) (o : Option (List ℕ)) (fault : TableError)
    → first_fault (missing_faults o) ≡ Some fault → unless_missing t o ≡ Err fault
missing_wrong t None fault some = cc
missing_wrong t (Some name) fault some = let same : e.Missing name ≡ fault = cc in ap Err same

-- ---- texts

-- what the answer to a text is of it

pub text_said : (asked : Asked) (text : List ℕ) (left : Left) (t : Table)
    → IsText (length text) text left.words left.fault
    → lead asked (length text) Start left ≡ Ok t → Says asked text t
text_said asked text left t is_text is =
    subst (Verdict asked text) is (verdict_of asked text left.words left.fault is_text)

pub text_refused : (asked : Asked) (text : List ℕ) (left : Left) (fault : TableError)
    → IsText (length text) text left.words left.fault
    → lead asked (length text) Start left ≡ Err fault → IsRefused asked text fault
text_refused asked text left fault is_text is =
    subst (Verdict asked text) is (verdict_of asked text left.words left.fault is_text)
