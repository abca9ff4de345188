-- The number under which each refusal is noted. Want of memory has none.
use Rattle.std.specs.Prelude.{ℕ, Option, Some, None}
use Rattle.enc_mono.specs.declared.error.MonoError.{MonoError}
use Rattle.enc_mono.specs.declared.error.MonoError.TheVariants as mono
use Rattle.enc_mono.specs.declared.error.RestrictError.{RestrictError}
use Rattle.enc_mono.specs.declared.error.RestrictError.TheVariants as unrestricted

abbrev pub number_of_mono : MonoError → Option ℕ
number_of_mono (mono.TooManyInstances count) = Some 35
number_of_mono (mono.TooManyNodes nodes) = Some 36
number_of_mono mono.Memory = None

abbrev pub number_of_restrict : RestrictError → Option ℕ
number_of_restrict (unrestricted.TableTooLarge entries) = Some 33
number_of_restrict unrestricted.Memory = None
