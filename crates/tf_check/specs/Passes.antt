-- What the passes over the declarations of a file answer, and the signatures that they leave.
use Rattle.std.specs.Prelude.{◌≡◌, ℕ, ◌+◌, ◌≤◌, List, [], ◌∷◌, ◌++◌, length, map}
use Rattle.std.specs.Prelude.{is_some, if◌then◌else◌, Result, IfErr, OnOk}
use Rattle.tptp_syntax.specs.declared.entry.Entry.{Entry}
use Rattle.tptp_syntax.specs.declared.entry.File.{File}
use Rattle.tptp_syntax.specs.declared.types.TypeExpr.{TypeExpr}
use Rattle.tf_core.specs.declared.signature.Constructor.{Constructor}
use Rattle.tf_core.specs.declared.signature.Symbol.{Symbol}
use Rattle.tf_core.specs.declared.signature.Signature.{Signature}
use Rattle.tf_check.specs.declared.error.TypeError.{TypeError}
use Rattle.tf_check.specs.Answers.{IsFirst}
use Rattle.tf_check.specs.Visited.{Visited, in_turn}
use Rattle.tf_check.specs.Types.{found}
use Rattle.tf_check.specs.Entries.{Declared, constructor_declarations, symbol_declarations}
use Rattle.tf_check.specs.Signature.{first_of_each, declared_constructor, declared_symbol}
use Rattle.tf_check.specs.Signature.{constructors_of, declared_symbols, signature_of}
use Rattle.tf_check.specs.Terms.{most_symbols}
use Rattle.tf_check.specs.Faults.{visited_constructor, visited_symbol}

-- ---- one declaration

-- the declaration of the name in the entry
abbrev pub declaration_at : ℕ → List ℕ → TypeExpr → Declared
declaration_at entry name body = record { entry = entry; name = name; body = body }

-- one more item behind the others, unless its name is that of one of them
abbrev pub with_item : {A : Type 0} → (A → List ℕ) → List A → A → List A
with_item name_of items item =
    if is_some (found name_of (name_of item) items) then items else items ++ item ∷ []

-- the signature with the constructor that is declared
abbrev pub with_constructor : Signature → Declared → Signature
with_constructor signature d =
    record signature {
      constructors = with_item (λ (constructor : Constructor). constructor.name)
          signature.constructors (declared_constructor d);
    }

-- the signature with the symbol that is declared
abbrev pub with_symbol : Signature → Declared → Signature
with_symbol signature d =
    record signature {
      symbols = with_item (λ (symbol : Symbol). symbol.name) signature.symbols
          (declared_symbol signature.constructors d);
    }

-- ---- passes

-- the file of the entries
abbrev pub file_of : List Entry → File
file_of entries = record { entries = entries }

-- the declarations of constructors, under the signature of the file
abbrev pub constructor_pass : File → Visited (List (Unit {0}))
constructor_pass file =
    in_turn (map (visited_constructor (signature_of file)) (constructor_declarations file))

-- all other declarations, under the signature of the file
abbrev pub symbol_pass : File → Visited (List (Unit {0}))
symbol_pass file = in_turn (map (visited_symbol (signature_of file)) (symbol_declarations file))

-- the constructors of the file alone
abbrev pub constructors_alone : File → Signature
constructors_alone file = record { constructors = constructors_of file; symbols = [] }

-- all that the file declares
abbrev pub declared_signature : File → Signature
declared_signature file =
    record {
      constructors = constructors_of file;
      symbols = first_of_each (λ (symbol : Symbol). symbol.name) (declared_symbols file);
    }

-- ---- answers

-- the number of each name is allowed
abbrev pub AreFew : Signature → Type 0
AreFew signature = length signature.constructors + length signature.symbols ≤ most_symbols + 1

-- A visit of declarations is answered: by its first fault, or, where there is none, by the
-- signature that it leaves, in which the number of each name is allowed.
pub record Declares {A : Type 0} (visit : Visited A) (left after : Signature)
    (result : Result (Unit {0}) TypeError) : Type 0 where
  pub clean : OnOk result (visit.faults ≡ [])
  pub refused : IfErr result (IsFirst visit.faults)
  pub leaves : OnOk result (after ≡ left)
  pub few : OnOk result (AreFew after)
