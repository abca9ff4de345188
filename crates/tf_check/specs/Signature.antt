-- The signature of a file: its constructors, `$i` first, as they are declared; then its symbols as
-- they are declared; then the names that are not declared, over `$i`, in the order of their first
-- visit. Each name stands once, and its first declaration, or else its first visit, counts.
use Rattle.std.specs.Prelude.{ℕ, not, List, [], ◌∷◌, ◌++◌, map, filter, flat_map, codes, bytes_eq}
use Rattle.std.specs.Prelude.{unwrap_or, Option, is_some, None, if◌then◌else◌}
use Rattle.tptp_syntax.specs.declared.entry.File.{File}
use Rattle.tf_core.specs.declared.signature.Constructor.{Constructor}
use Rattle.tf_core.specs.declared.signature.Symbol.{Symbol}
use Rattle.tf_core.specs.declared.signature.Signature.{Signature}
use Rattle.tf_check.specs.Kinds.{kind}
use Rattle.tf_check.specs.Types.{found, constructor_named, reading}
use Rattle.tf_check.specs.Names.{Occurrence, over_individuals, parameters_in, names_of_formula}
use Rattle.tf_check.specs.Entries.{Declared, RawStatement, constructor_declarations}
use Rattle.tf_check.specs.Entries.{symbol_declarations, statements}

-- the first item of each name
abbrev pub first_of_each : {A : Type 0} → (A → List ℕ) → List A → List A
first_of_each name_of [] = []
first_of_each name_of (item ∷ items) =
    item
    ∷ filter (λ later. not (bytes_eq (name_of later) (name_of item))) (first_of_each name_of items)

-- the constructor of `$i`
abbrev pub individuals_constructor : Constructor
individuals_constructor = record { name = codes "$i"; arity = 0 }

-- the constructor that is declared
abbrev pub declared_constructor : Declared → Constructor
declared_constructor d = record { name = d.name; arity = unwrap_or (kind d.body).arity 0 }

abbrev pub constructors_of : File → List Constructor
constructors_of file =
    first_of_each (λ (constructor : Constructor). constructor.name)
    (individuals_constructor ∷ map declared_constructor (constructor_declarations file))

-- the symbol that is declared, under the constructors
abbrev pub declared_symbol : List Constructor → Declared → Symbol
declared_symbol constructors d = ((reading d.entry constructors d.body).as_symbol d.name []).value

-- the symbols that are declared
abbrev pub declared_symbols : File → List Symbol
declared_symbols file = map (declared_symbol (constructors_of file)) (symbol_declarations file)

-- the names in the formulas of statements, under the number of type arguments that each name takes
abbrev pub names_stated : (List ℕ → ℕ) → List RawStatement → List Occurrence
names_stated parameters stated =
    flat_map (λ (statement : RawStatement). names_of_formula parameters statement.formula) stated

-- the names in the formulas
abbrev pub visited_names : File → List Occurrence
visited_names file = names_stated (parameters_in (declared_symbols file)) (statements file)

abbrev pub symbols_of : File → List Symbol
symbols_of file =
    first_of_each (λ (symbol : Symbol). symbol.name) (declared_symbols file ++ map over_individuals (visited_names file))

unfoldable pub signature_of : File → Signature
signature_of file = record { constructors = constructors_of file; symbols = symbols_of file }

-- the symbol with the name, and its place
abbrev pub symbol_among : List ℕ → List Symbol → Option (ℕ × Symbol)
symbol_among = found (λ (symbol : Symbol). symbol.name)

-- the symbol with the name, and its place, where the name is no constructor
abbrev pub symbol_named : List ℕ → Signature → Option (ℕ × Symbol)
symbol_named name signature =
    if is_some (constructor_named name signature.constructors) then None
    else symbol_among name signature.symbols
