-- What stands there after a write that failed, of a text that is written in parts.
use Rattle.std.proofs.Common.{ℕ, List, ◌++◌, Option, Result, Ok, Err}
use Rattle.std.specs.Prelude.{OnErr}
use Rattle.std.specs.Io.KnownBytes.{Appends}
use Rattle.enc_base.specs.Sink.{AppendsPrefix}
use Rattle.enc_base.proofs.Written.{prefix_first, prefix_second}

-- the write of the first part failed
pub begun_first : {A E : Type 0} (end : Result A E) (old new : Option (List ℕ)) (xs ys : List ℕ)
    → AppendsPrefix old new xs → OnErr end (AppendsPrefix old new (xs ++ ys))
begun_first (Ok done) old new xs ys begun = tt
begun_first (Err failed) old new xs ys begun = prefix_first old new xs ys begun

-- or that of the second
pub begun_second : {A E : Type 0} (end : Result A E) (old mid new : Option (List ℕ))
    (xs ys : List ℕ) → Appends old mid xs → OnErr end (AppendsPrefix mid new ys)
    → OnErr end (AppendsPrefix old new (xs ++ ys))
begun_second (Ok done) old mid new xs ys first begun = tt
begun_second (Err failed) old mid new xs ys first begun =
    prefix_second old mid new xs ys first begun
