-- The signature that a table of names stands for.
use Rattle.std.specs.Prelude.{ℕ, Bool, List, [], ◌∷◌, ◌++◌, map, replicate, is_some, if◌then◌else◌, Some, None}
use denote.Ref.{Bor}
use Rattle.tf_core.specs.declared.signature.Constructor.{Constructor}
use Rattle.tf_core.specs.declared.signature.Symbol.{Symbol}
use Rattle.tf_core.specs.declared.signature.Signature.{Signature}
use Rattle.tf_check.specs.declared.table.Profile.{Profile}
use Rattle.tf_check.specs.Types.{individuals}
use Rattle.tf_check.specs.Names.{Occurrence, over_individuals}
use Rattle.tf_check.specs.Signature.{individuals_constructor, symbol_among}

-- an entry of a table of constructors
abbrev pub listed_constructor : Bor (List ℕ) × ℕ → Constructor
listed_constructor entry = record { name = entry.0.now; arity = entry.1 }

abbrev pub listed_constructors : List (Bor (List ℕ) × ℕ) → List Constructor
listed_constructors = map listed_constructor

-- the symbol with the name and this type
abbrev pub named_profile : List ℕ → Profile → Symbol
named_profile name profile =
    record {
      name = name;
      parameters = profile.parameters;
      arguments = profile.arguments;
      result = profile.result;
    }

abbrev pub listed_symbols : List (Bor (List ℕ) × Profile) → List Symbol
listed_symbols = map (λ entry. named_profile entry.0.now entry.1)

-- the signature of `$i` alone
abbrev pub just_individuals : Signature
just_individuals = record { constructors = individuals_constructor ∷ []; symbols = [] }

abbrev pub constructor_at : ℕ × Constructor → ℕ × ℕ
constructor_at (place, constructor) = (place, constructor.arity)

abbrev pub profile_at : List ℕ → ℕ × Bor Profile → ℕ × Symbol
profile_at name (place, profile) = (place, named_profile name profile.now)

-- the type of a symbol over `$i`
abbrev pub use_profile : ℕ → Bool → Profile
use_profile arguments is_function =
    record {
      parameters = 0;
      arguments = replicate arguments individuals;
      result = if is_function then Some individuals else None;
    }

-- the symbols with one more name of a formula, unless it is known
abbrev pub with_name : List Symbol → Occurrence → List Symbol
with_name symbols occurrence =
    if is_some (symbol_among occurrence.name symbols) then symbols
    else symbols ++ over_individuals occurrence ∷ []

abbrev pub with_use : Signature → Occurrence → Signature
with_use signature occurrence =
    record signature { symbols = with_name signature.symbols occurrence }

-- the symbols with more names of formulas
abbrev pub with_names : List Symbol → List Occurrence → List Symbol
with_names symbols [] = symbols
with_names symbols (occurrence ∷ others) = with_names (with_name symbols occurrence) others

abbrev pub with_uses : Signature → List Occurrence → Signature
with_uses signature occurrences =
    record signature { symbols = with_names signature.symbols occurrences }
