-- A name that can be written, by the tests of words.
use Rattle.std.proofs.Common.{◌≡◌, ◌<◌, ℕ, true, List, [], ◌∷◌, length, refl, arith}
use Rattle.std.specs.Prelude.{IsTrue}
use Rattle.std.specs.List.{AllByRecursion}
use Rattle.enc_base.specs.Names.{is_writable_byte, IsWritable}
use Rattle.tptp_words.specs.Text.{AllPass, is_printable, some_bytes}

writable_bytes : (name : List ℕ) → AllPass is_printable name →
    AllByRecursion (λ byte. IsTrue (is_writable_byte byte)) name
writable_bytes [] pass = tt
writable_bytes (byte ∷ name) pass = (pass.0, writable_bytes name pass.1)

pub IsWritable-passes : (name : List ℕ) → some_bytes name ≡ true → AllPass is_printable name →
    IsWritable name
IsWritable-passes [] some pass = absurd (cc some)
IsWritable-passes (byte ∷ name) some pass = record {
  some = omega arith;
  bytes = writable_bytes (byte ∷ name) pass;
}

pub some_bytes-writable : (name : List ℕ) → IsWritable name → some_bytes name ≡ true
some_bytes-writable [] writable = absurd (omega (arith, writable.some))
some_bytes-writable (byte ∷ name) writable = refl

pub passes-writable : (name : List ℕ) → IsWritable name → AllPass is_printable name
passes-writable name writable = go name writable.bytes
  where
    go : (name : List ℕ) → AllByRecursion (λ byte. IsTrue (is_writable_byte byte)) name →
        AllPass is_printable name
    go [] bytes = tt
    go (byte ∷ name) bytes = (bytes.0, go name bytes.1)
