-- Text that is sent to a sink in pieces: some of it went, and the last bytes of it wait.
use Rattle.std.specs.Prelude.{◌≡◌, ◌<◌, ◌+◌, ℕ, Bool, true, false, List, ◌++◌, length}
use Rattle.std.specs.Prelude.{Option, Some, None}
use Rattle.std.specs.Io.KnownBytes.{Appends}
use Rattle.enc_base.specs.Counts.{Rose}
use Rattle.enc_base.specs.Sink.{AppendsPrefix}

-- the bytes that wait, or nothing after a write that failed
abbrev pub Waiting : Type 0
Waiting = Option (List ℕ)

-- So much text came from the call's beginning on, when the sink held `start` and had counted so
-- many faults; now it holds `bytes` and counts `now`. All of the text went to the sink, but for what
-- waits at its end, and no fault was counted; after a write that failed, a prefix of the text went
-- there, and the count rose.
abbrev pub HasSent : Option (List ℕ) → ℕ → List ℕ → Waiting → Option (List ℕ) → ℕ → Type 0
HasSent start faults text (Some waiting) bytes now =
    (sent : List ℕ) × Appends start bytes sent × (text ≡ sent ++ waiting) × (now ≡ faults)
HasSent start faults text None bytes now = AppendsPrefix start bytes text × Rose faults now

-- A piece is put behind whatever text came before it.
pub record Put (before after : Waiting) (old new : Option (List ℕ)) (faults_old faults_new : ℕ)
    (piece : List ℕ) : Type 0 where
  pub it : (start : Option (List ℕ)) (faults : ℕ) (text : List ℕ)
      → HasSent start faults text before old faults_old
      → HasSent start faults (text ++ piece) after new faults_new

-- the same of a sink, by what it tells of its bytes and faults: how it and the waiting bytes stood
-- before and after
abbrev pub Puts : {S : Type 0} → (S → Option (List ℕ)) → (S → ℕ) → Waiting → Waiting → S → S
    → List ℕ → Type 0
Puts bytes faults before after old new piece =
    Put before after (bytes old) (bytes new) (faults old) (faults new) piece

-- the bytes that wait after a write that went well or failed
abbrev pub left : Bool → List ℕ → Waiting
left true bytes = Some bytes
left false bytes = None

-- how many bytes go to a sink at once, at least, but for the last ones
abbrev pub piece_size : ℕ
piece_size = 4096

-- there are too few bytes for a write
abbrev pub AreFew : Waiting → List ℕ → Type 0
AreFew None piece = Unit {0}
AreFew (Some waiting) piece = length waiting + length piece < piece_size

-- Whatever text came, all of it is in the sink, and no fault was counted.
pub record Finished (before : Waiting) (old new : Option (List ℕ)) (faults_old faults_new : ℕ)
    : Type 0 where
  pub it : (start : Option (List ℕ)) (faults : ℕ) (text : List ℕ)
      → HasSent start faults text before old faults_old
      → Appends start new text × (faults_new ≡ faults)

-- Whatever text came, a prefix of it is in the sink, and the count rose.
pub record Broken (before : Waiting) (old new : Option (List ℕ)) (faults_old faults_new : ℕ)
    : Type 0 where
  pub it : (start : Option (List ℕ)) (faults : ℕ) (text : List ℕ)
      → HasSent start faults text before old faults_old
      → AppendsPrefix start new text × Rose faults faults_new

-- the same of a sink, by what it tells of its bytes and faults
abbrev pub Finishes : {S : Type 0} → (S → Option (List ℕ)) → (S → ℕ) → Waiting → S → S → Type 0
Finishes bytes faults before old new =
    Finished before (bytes old) (bytes new) (faults old) (faults new)

abbrev pub Breaks : {S : Type 0} → (S → Option (List ℕ)) → (S → ℕ) → Waiting → S → S → Type 0
Breaks bytes faults before old new =
    Broken before (bytes old) (bytes new) (faults old) (faults new)
