-- The signature with the names of formulas: the names of terms, and how they are added.
use Rattle.std.proofs.Common.{◌≡◌, ℕ, ◌+◌, ◌<◌, zero, suc, Bool, true, false, List, [], ◌∷◌, ◌++◌, length, map, flat_map, take, drop, get_or, refl, sym, ap, ◌∙◌, subst, arith, Option, Some, None, option_map, unwrap_or, is_some, if◌then◌else◌, bytes_eq, ◌≤◌, sum, Result, Ok, Err, OnOk}
use Rattle.std.proofs.lemmas.List.{append-nil, take_more}
use Rattle.std.proofs.lemmas.List.Concat.{flat_map-cons}
use Rattle.std.proofs.lemmas.List.Sums.{sum-map, sum_by-take-drop}
use Rattle.std.proofs.lemmas.List.Folds.{flat_map-map}
use Rattle.std.proofs.lemmas.Grind.{flat_map-append}
use Rattle.tptp_syntax.specs.declared.entry.File.{File}
use Rattle.tptp_syntax.specs.declared.term.RawTerm.{RawTerm, roll-RawTerm}
use Rattle.tptp_syntax.specs.declared.term.RawTerm.TheVariants as t
use Rattle.tptp_syntax.specs.declared.term.RawTerm.TheOpen.{RawTerm-F}
use Rattle.tptp_syntax.specs.declared.term.RawTerm.TheOpen as layer
use Rattle.tptp_syntax.specs.declared.term.RawTerm.TheFolds.{fold-roll-RawTerm, ind-RawTerm}
use Rattle.tptp_syntax.specs.FileSizes.{term_nodes, term_nodes_at}
use Rattle.tf_core.specs.declared.signature.Symbol.{Symbol}
use Rattle.tf_core.specs.declared.signature.Signature.{Signature}
use Rattle.tf_check.specs.Entries.{RawStatement, statements}
use Rattle.tf_check.specs.Names.{Occurrence, over_individuals, parameters_in, all_of, names_of_term, names_of_term_at, names_of_formula}
use Rattle.tf_check.specs.Signature.{first_of_each, declared_symbols, signature_of, symbol_among}
use Rattle.tf_check.specs.Table.{with_name, with_names, with_use, with_uses}
use Rattle.tf_check.specs.Types.{found}
use Rattle.tf_check.specs.Passes.{declared_signature}
use Rattle.tf_check.proofs.FoundLemmas.{item_of, tested, found-first_of_each}
use Rattle.tf_check.proofs.FirstLemmas.{with_items, first_of_each-append}

-- ---- the names of terms

pub names_of_term-variable : (parameters : List ℕ → ℕ) (name : List ℕ) →
    names_of_term parameters (t.Variable name) ≡ []
unfolding names_of_term
names_of_term-variable parameters name =
    ap (names_of_term parameters) (sym (t.rolls-Variable name))
    ∙ fold-roll-RawTerm (List Occurrence) (names_of_term_at parameters) (layer.Variable name)

pub names_of_term-individuals : (parameters : List ℕ → ℕ) → names_of_term parameters t.Individuals
    ≡ []
unfolding names_of_term
names_of_term-individuals parameters =
    ap (names_of_term parameters) (sym t.rolls-Individuals)
    ∙ fold-roll-RawTerm (List Occurrence) (names_of_term_at parameters) layer.Individuals

names_of_term-layer : (parameters : List ℕ → ℕ) (name : List ℕ) (arguments : List RawTerm) →
    names_of_term parameters (t.Apply name arguments)
    ≡ names_of_term_at parameters (layer.Apply name (map (names_of_term parameters) arguments))
unfolding names_of_term
names_of_term-layer parameters name arguments =
    ap (names_of_term parameters) (sym (t.rolls-Apply name arguments))
    ∙ fold-roll-RawTerm (List Occurrence) (names_of_term_at parameters)
    (layer.Apply name arguments)

-- the occurrence of a name at the head of a term or of an atom
abbrev pub head : List ℕ → ℕ → Bool → Occurrence
head name arguments is_function =
    record { name = name; arguments = arguments; is_function = is_function }

all_of-drop : {A : Type 0} (f : A → List Occurrence) (n : ℕ) (xs : List A) →
    all_of (drop n (map f xs)) ≡ flat_map f (drop n xs)
all_of-drop f zero xs = flat_map-map (λ names. names) f xs
all_of-drop f (suc n) [] = refl
all_of-drop f (suc n) (x ∷ xs) = all_of-drop f n xs

length-map_names : {A : Type 0} (f : A → List Occurrence) (xs : List A) → length (map f xs)
    ≡ length xs
length-map_names f [] = refl
length-map_names f (x ∷ xs) = ap suc (length-map_names f xs)

pub all_of-map : {A : Type 0} (f : A → List Occurrence) (xs : List A) → all_of (map f xs)
    ≡ flat_map f xs
all_of-map f xs = all_of-drop f 0 xs

pub names_of_term-apply : (parameters : List ℕ → ℕ) (name : List ℕ) (arguments : List RawTerm) →
    names_of_term parameters (t.Apply name arguments)
    ≡ head name (length arguments) true
    ∷ flat_map (names_of_term parameters) (drop (parameters name) arguments)
names_of_term-apply parameters name arguments =
    names_of_term-layer parameters name arguments
    ∙ ap (λ n. head name n true ∷ all_of
    (drop (parameters name) (map (names_of_term parameters) arguments)))
    (length-map_names (names_of_term parameters) arguments)
    ∙ ap (λ os. head name (length arguments) true ∷ os)
    (all_of-drop (names_of_term parameters) (parameters name) arguments)

data IsTerm : RawTerm → Type 0 where
  is_variable : (name : List ℕ) → IsTerm (t.Variable name)
  is_apply : (name : List ℕ) (parts : List RawTerm) → IsTerm (t.Apply name parts)
  is_individuals : IsTerm t.Individuals

term_of_layer : (x : RawTerm-F RawTerm) → IsTerm (roll-RawTerm x)
term_of_layer (layer.Variable name) = subst IsTerm (sym (t.rolls-Variable name)) (is_variable name)
term_of_layer (layer.Apply name parts) = subst IsTerm (sym (t.rolls-Apply name parts))
    (is_apply name parts)
term_of_layer layer.Individuals = subst IsTerm (sym t.rolls-Individuals) is_individuals

no_names : (parameters : List ℕ → ℕ) (raw : RawTerm) → IsTerm raw →
    ((name : List ℕ) (parts : List RawTerm) → raw ≡ t.Apply name parts → ⊥) →
    names_of_term parameters raw ≡ []
no_names parameters _ (is_variable name) other = names_of_term-variable parameters name
no_names parameters _ (is_apply name parts) other = absurd (other name parts refl)
no_names parameters _ is_individuals other = names_of_term-individuals parameters

-- what is no application has no names
pub names_of_term-other : (parameters : List ℕ → ℕ) (raw : RawTerm) →
    ((name : List ℕ) (parts : List RawTerm) → raw ≡ t.Apply name parts → ⊥) →
    names_of_term parameters raw ≡ []
names_of_term-other parameters raw other =
    no_names parameters raw (ind-RawTerm IsTerm (λ x y is. term_of_layer x) raw) other

-- ---- names that are added

pub with_names-append : (symbols : List Symbol) (xs ys : List Occurrence) →
    with_names symbols (xs ++ ys) ≡ with_names (with_names symbols xs) ys
with_names-append symbols [] ys = refl
with_names-append symbols (x ∷ xs) ys = with_names-append (with_name symbols x) xs ys

pub with_uses-append : (g : Signature) (xs ys : List Occurrence) →
    with_uses g (xs ++ ys) ≡ with_uses (with_uses g xs) ys
with_uses-append g xs ys = ap (λ symbols. record g { symbols = symbols })
    (with_names-append g.symbols xs ys)

-- ---- parameters

abbrev symbol_name : Symbol → List ℕ
symbol_name symbol = symbol.name

abbrev parameters_at : Option (ℕ × Symbol) → ℕ
parameters_at at = unwrap_or (option_map (λ (at : ℕ × Symbol). at.1.parameters) at) 0

parameters_at-tested : (same : Bool) (symbol : Symbol) (rest : Option (ℕ × Symbol)) →
    parameters_at (tested symbol_name same symbol rest)
    ≡ (if same then symbol.parameters else parameters_at rest)
parameters_at-tested true symbol rest = refl
parameters_at-tested false symbol None = refl
parameters_at-tested false symbol (Some at) = refl

parameters-push : (name : List ℕ) (symbols : List Symbol) (symbol : Symbol) → symbol.parameters
    ≡ 0 →
    parameters_at (found symbol_name name (symbols ++ symbol ∷ []))
    ≡ parameters_at (found symbol_name name symbols)
parameters-push name [] symbol none = by (bytes_eq name symbol.name)
  where
    by : (same : Bool) → parameters_at (tested symbol_name same symbol None) ≡ 0
    by true = none
    by false = refl
parameters-push name (first ∷ symbols) symbol none =
    parameters_at-tested (bytes_eq name first.name) first
    (found symbol_name name (symbols ++ symbol ∷ []))
    ∙ ap (λ n. if bytes_eq name first.name then first.parameters else n)
    (parameters-push name symbols symbol none)
    ∙ sym (parameters_at-tested (bytes_eq name first.name) first (found symbol_name name symbols))

parameters_in-with_name : (symbols : List Symbol) (occurrence : Occurrence) (name : List ℕ) →
    parameters_in (with_name symbols occurrence) name ≡ parameters_in symbols name
parameters_in-with_name symbols occurrence name =
    by (is_some (symbol_among occurrence.name symbols))
  where
    by : (known : Bool) →
        parameters_in (if known then symbols else symbols ++ over_individuals occurrence ∷ []) name
        ≡ parameters_in symbols name
    by true = refl
    by false = parameters-push name symbols (over_individuals occurrence) refl

-- the names of formulas have no parameters
pub parameters_in-with_names : (symbols : List Symbol) (os : List Occurrence) →
    parameters_in (with_names symbols os) ≡ parameters_in symbols
parameters_in-with_names symbols [] = refl
parameters_in-with_names symbols (o ∷ os) =
    parameters_in-with_names (with_name symbols o) os
    ∙ (λ i name. parameters_in-with_name symbols o name i)

parameters_at-item : (at : Option (ℕ × Symbol)) →
    parameters_at at
    ≡ unwrap_or (option_map (λ (symbol : Symbol). symbol.parameters) (item_of symbol_name at)) 0
parameters_at-item None = refl
parameters_at-item (Some at) = refl

-- the first of each name counts
pub parameters_in-first_of_each : (symbols : List Symbol) →
    parameters_in (first_of_each symbol_name symbols) ≡ parameters_in symbols
parameters_in-first_of_each symbols = λ i name. each name i
  where
    each : (name : List ℕ) →
        parameters_in (first_of_each symbol_name symbols) name ≡ parameters_in symbols name
    each name =
        parameters_at-item (found symbol_name name (first_of_each symbol_name symbols))
        ∙ ap (λ at. unwrap_or (option_map (λ (symbol : Symbol). symbol.parameters) at) 0)
        (found-first_of_each symbol_name name symbols)
        ∙ sym (parameters_at-item (found symbol_name name symbols))

-- ---- the names of several trees

-- two parts, one after the other
pub uses_two : (g middle after : Signature) (names : (List ℕ → ℕ) → List Occurrence)
    (others : (List ℕ → ℕ) → List Occurrence) →
    middle ≡ with_uses g (names (parameters_in g.symbols)) →
    after ≡ with_uses middle (others (parameters_in middle.symbols)) →
    after ≡ with_uses g (names (parameters_in g.symbols) ++ others (parameters_in g.symbols))
uses_two g middle after names others first second =
    second
    ∙ ap (λ (m : Signature). with_uses m (others (parameters_in m.symbols))) first
    ∙ ap (λ p. with_uses (with_uses g (names (parameters_in g.symbols))) (others p))
    (parameters_in-with_names g.symbols (names (parameters_in g.symbols)))
    ∙ sym (with_uses-append g (names (parameters_in g.symbols)) (others (parameters_in g.symbols)))

-- one more part of several
pub uses_next : {A : Type 0} (g middle after : Signature) (names : (List ℕ → ℕ) → A → List Occurrence)
    (xs : List A) (i : ℕ) (x : A) → i < length xs → x ≡ get_or xs i x →
    middle ≡ with_uses g (flat_map (names (parameters_in g.symbols)) (take i xs)) →
    after ≡ with_uses middle (names (parameters_in middle.symbols) x) →
    after ≡ with_uses g (flat_map (names (parameters_in g.symbols)) (take (i + 1) xs))
uses_next g middle after names xs i x within is first second =
    let p : List ℕ → ℕ = parameters_in g.symbols in
    let grown : flat_map (names p) (take (i + 1) xs) ≡ flat_map (names p) (take i xs)
    ++ names p x =
    ap (flat_map (names p)) (take_more xs i x within ∙ ap (λ y. take i xs ++ y ∷ []) (sym is))
    ∙ flat_map-append (names p) (take i xs) (x ∷ [])
    ∙ ap (λ os. flat_map (names p) (take i xs) ++ os) (one p) in
    uses_two g middle after (λ q. flat_map (names q) (take i xs)) (λ q. names q x) first second
    ∙ ap (with_uses g) (sym grown)
  where
    one : (p : List ℕ → ℕ) → flat_map (names p) (x ∷ []) ≡ names p x
    one p = flat_map-cons (names p) x [] ∙ append-nil (names p x)

-- a name at the head of other trees
pub uses_head : (g middle after : Signature) (o : Occurrence) (others : (List ℕ → ℕ) → List Occurrence) →
    middle ≡ with_use g o → after ≡ with_uses middle (others (parameters_in middle.symbols)) →
    after ≡ with_uses g (o ∷ others (parameters_in g.symbols))
uses_head g middle after o others first second =
    uses_two g middle after (λ p. o ∷ []) others first second

-- the parameters of a name do not change with its use
pub parameters_in-with_use : (g middle : Signature) (o : Occurrence) (name : List ℕ) →
    middle ≡ with_use g o → parameters_in middle.symbols name ≡ parameters_in g.symbols name
parameters_in-with_use g middle o name is =
    ap (λ (m : Signature). parameters_in m.symbols name) is
    ∙ parameters_in-with_name g.symbols o name

pub on_ok : {A E P Q : Type 0} (result : Result A E) → (P → Q) → OnOk result P → OnOk result Q
on_ok (Ok a) f holds = f holds
on_ok (Err e) f holds = tt

-- ---- nodes

pub term_nodes-apply : (name : List ℕ) (arguments : List RawTerm) →
    term_nodes (t.Apply name arguments) ≡ 1 + sum (map term_nodes arguments)
unfolding term_nodes
term_nodes-apply name arguments =
    ap term_nodes (sym (t.rolls-Apply name arguments))
    ∙ fold-roll-RawTerm ℕ term_nodes_at (layer.Apply name arguments)

pub nodes_behind : (n : ℕ) (terms : List RawTerm) →
    sum (map term_nodes (drop n terms)) ≤ sum (map term_nodes terms)
nodes_behind n terms =
    omega (
      arith,
      sum_by-take-drop term_nodes terms n,
      sum-map term_nodes (drop n terms),
      sum-map term_nodes terms,
    )

-- ---- the whole signature

with_names-items : (symbols : List Symbol) (os : List Occurrence) →
    with_names symbols os ≡ with_items symbol_name symbols (map over_individuals os)
with_names-items symbols [] = refl
with_names-items symbols (o ∷ os) = with_names-items (with_name symbols o) os

-- The names of its formulas complete what a file declares.
pub signature_of-uses : (file : File) →
    with_uses (declared_signature file)
    (flat_map (λ (s : RawStatement).
    names_of_formula (parameters_in (declared_signature file).symbols) s.formula)
    (statements file))
    ≡ signature_of file
unfolding signature_of
signature_of-uses file =
    ap (λ p. with_uses (declared_signature file)
    (flat_map (λ (s : RawStatement). names_of_formula p s.formula) (statements file)))
    (parameters_in-first_of_each (declared_symbols file))
    ∙ ap (λ symbols. record (declared_signature file) { symbols = symbols }) (all_symbols
    (flat_map (λ (s : RawStatement).
    names_of_formula (parameters_in (declared_symbols file)) s.formula) (statements file)))
  where
    all_symbols : (os : List Occurrence) →
        with_names (first_of_each symbol_name (declared_symbols file)) os
        ≡ first_of_each symbol_name (declared_symbols file ++ map over_individuals os)
    all_symbols os =
        with_names-items (first_of_each symbol_name (declared_symbols file)) os
        ∙ sym (first_of_each-append symbol_name (declared_symbols file) (map over_individuals os))
