-- The answer for a text, by what the reader of files gave.
use Rattle.std.specs.Prelude.{ℕ, List, [], ◌∷◌, Option, Some, None, Result, Ok, Err}
use Rattle.tptp_words.specs.declared.word.WordError.{WordError}
use Rattle.tptp_words.specs.declared.word.WordError.TheVariants as w
use Rattle.tptp_words.specs.Text.{Placed}
use Rattle.tptp_phrases.specs.Readers.{Cause, Syntax, TooDeep, Stray, Outcome}
use Rattle.tptp_syntax.specs.declared.entry.File.{File}
use Rattle.tptp_syntax.specs.declared.error.ReadError.{ReadError}
use Rattle.tptp_syntax.specs.declared.error.ReadError.TheVariants as r
use Rattle.tptp_syntax.specs.Strays as stray

-- the refusal of the word at this place
abbrev pub refused_at : Cause stray.Stray → ℕ → ReadError
refused_at Syntax at = r.Syntax at
refused_at TooDeep at = r.TooDeep at
refused_at (Stray stray.OfLanguage) at = r.Language at
refused_at (Stray stray.OfRole) at = r.Role at
refused_at (Stray stray.OfNumber) at = r.Number at
refused_at (Stray stray.OfDistinctObject) at = r.DistinctObject at
refused_at (Stray stray.OfInclude) at = r.Include at

-- the refusal of a text whose words end here
abbrev pub stopped_by : WordError → ReadError
stopped_by (w.BadByte at) = r.BadByte at
stopped_by (w.Unclosed at) = r.Unclosed at

-- the refusal where this is left of a text of `total` bytes
abbrev pub refusal : ℕ → Cause stray.Stray → List Placed → Option WordError → ReadError
refusal total why [] None = r.Syntax total
refusal total why [] (Some e) = stopped_by e
refusal total why (next ∷ after) fault = refused_at why next.from

-- a file, unless the words end because of an error
abbrev pub unless_stopped : File → Option WordError → Result File ReadError
unless_stopped f None = Ok f
unless_stopped f (Some e) = Err (stopped_by e)

abbrev pub answer : ℕ → Outcome stray.Stray File → Result File ReadError
answer total (Ok x) = unless_stopped x.0 x.1.fault
answer total (Err e) = Err (refusal total e.0 e.1.words e.1.fault)
