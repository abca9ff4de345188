-- What holds of every file that a text spells.
use Rattle.std.proofs.Common.{ℕ, ◌≤◌, List, [], ◌∷◌, length, None, refl}
use Rattle.std.proofs.Common.{arith}
use Rattle.std.specs.Prelude.{IsTrue}
use Rattle.std.specs.List.{AllByRecursion, list_all}
use Rattle.tptp_words.specs.Text.{Placed, tokens, IsText}
use Rattle.tptp_syntax.specs.declared.entry.Entry.{Entry}
use Rattle.tptp_syntax.specs.declared.entry.File.{File}
use Rattle.tptp_syntax.specs.FileNames.{IsWritableFile, entry_names}
use Rattle.tptp_syntax.specs.FileSizes.{entry_has_chains, file_size, HasPairsFile}
use Rattle.tptp_syntax.specs.Files.{Spells, strict}
use Rattle.tptp_syntax.proofs.WordFacts.{Spelled}
use Rattle.tptp_syntax.proofs.WordCounts.{words_within}
use Rattle.tptp_syntax.proofs.TreeFacts.{AreWritable, writable_all, true_both}
use Rattle.tptp_syntax.proofs.RuleFacts.{EntryHolds, gives_file}

-- ---- the words of a text

-- each word is spelled
spelled_words : (total : ℕ) (text : List ℕ) (ws : List Placed) → IsText total text ws None
    → AllByRecursion Spelled (tokens ws)
spelled_words total text [] h = tt
spelled_words total text (w ∷ ws) (start, rest, gap, word, at, others) =
    (word.spells, spelled_words total rest ws others)

-- ---- files

names_of_entries : (entries : List Entry) → AllByRecursion EntryHolds entries
    → AllByRecursion (λ x. AreWritable (entry_names x)) entries
names_of_entries [] h = tt
names_of_entries (x ∷ entries) h = (h.0.0, names_of_entries entries h.1)

chains_of_entries : (entries : List Entry) → AllByRecursion EntryHolds entries
    → IsTrue (list_all entry_has_chains entries)
chains_of_entries [] h = refl
chains_of_entries (x ∷ entries) h =
    true_both (entry_has_chains x) (list_all entry_has_chains entries) h.0.1
    (chains_of_entries entries h.1)

-- each name can be written, there are no more nodes and bound names than bytes, and each chain has
-- two parts at least
pub file_facts : (text : List ℕ) (f : File) → Spells text f
    → IsWritableFile f × (file_size f ≤ length text) × HasPairsFile f
file_facts text f (ws, is_text, (n, d)) =
    let taken = (gives_file (strict n)).of (tokens ws) [] f
    (spelled_words (length text) text ws is_text) d in
    let count = taken.is in
    let small = taken.holds.within in
    let words = words_within (length text) text ws None is_text in (
      writable_all entry_names f.entries (names_of_entries f.entries taken.holds.holds),
      omega (arith, count, small, words),
      chains_of_entries f.entries taken.holds.holds,
    )
