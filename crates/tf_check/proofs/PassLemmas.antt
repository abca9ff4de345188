-- The passes over declarations, entry by entry.
use Rattle.std.proofs.Common.{◌≡◌, ℕ, zero, suc, ◌+◌, ◌<◌, ◌≤◌, Bool, true, false, not, List, [], ◌∷◌, ◌++◌, length, map, filter, take, drop, get_or, refl, sym, ap, ◌∙◌, subst, arith, append_assoc, Option, Some, None, is_some, Ok, Err, if◌then◌else◌}
use Rattle.std.specs.List.{enumerate_from}
use Rattle.std.proofs.lemmas.List.{append-nil, map-append, take_more, take_all, take-append-drop}
use Rattle.std.proofs.lemmas.List.Elements.{filter-append}
use Rattle.tptp_syntax.specs.declared.entry.Entry.{Entry}
use Rattle.tptp_syntax.specs.declared.entry.Entry.TheVariants.{Declaration, Statement}
use Rattle.tptp_syntax.specs.declared.entry.File.{File}
use Rattle.tptp_syntax.specs.declared.types.TypeExpr.{TypeExpr}
use Rattle.tf_core.specs.declared.signature.Constructor.{Constructor}
use Rattle.tf_core.specs.declared.signature.Symbol.{Symbol}
use Rattle.tf_core.specs.declared.signature.Signature.{Signature}
use Rattle.tf_check.specs.declared.error.TypeError.{TypeError}
use Rattle.tf_check.specs.declared.error.TypeError.TheVariants.{BadDeclaration}
use Rattle.tf_check.specs.Answers.{IsFirst}
use Rattle.tf_check.specs.Entries.{Declared, declared, constructor_declarations, symbol_declarations}
use Rattle.tf_check.specs.Faults.{constructor_agrees, visited_constructor, symbol_agrees, visited_symbol}
use Rattle.tf_check.specs.Kinds.{kind}
use Rattle.tf_check.specs.Names.{over_individuals}
use Rattle.tf_check.specs.Passes.{declaration_at, with_item, with_constructor, with_symbol, file_of, constructor_pass, symbol_pass, constructors_alone, declared_signature, AreFew, Declares}
use Rattle.tf_check.specs.Signature.{first_of_each, individuals_constructor, declared_constructor, constructors_of, declared_symbol, symbols_of, signature_of, symbol_among, visited_names}
use Rattle.tf_check.specs.Table.{just_individuals}
use Rattle.tf_check.specs.Types.{constructor_named, reading}
use Rattle.tf_check.specs.Visited.{Visited, good, expect, in_turn, ◌>>=◌, ◌>>◌}
use Rattle.tf_check.proofs.AnswerLemmas.{first_stays}
use Rattle.tf_check.proofs.FirstLemmas.{first_of_each-push, first_of_each-front, found-with_item_more}
use Rattle.tf_check.proofs.SymbolNames.{as_symbol-name}

-- ---- faults of visits in turn

pub faults-more : {A : Type 0} (first : Visited A) (rest : List (Visited A)) →
    (in_turn (first ∷ rest)).faults ≡ first.faults ++ (in_turn rest).faults
unfolding in_turn ◌>>=◌ good
faults-more first rest = ap (λ fs. first.faults ++ fs) (append-nil (in_turn rest).faults)

faults-none : (A : Type 0) → (in_turn {A = A} []).faults ≡ []
unfolding in_turn good
faults-none A = refl

faults-append : {A : Type 0} (xs ys : List (Visited A)) →
    (in_turn (xs ++ ys)).faults ≡ (in_turn xs).faults ++ (in_turn ys).faults
faults-append {A = A} [] ys = ap (λ fs. fs ++ (in_turn ys).faults) (sym (faults-none A))
faults-append (x ∷ xs) ys =
    faults-more x (xs ++ ys)
    ∙ ap (λ fs. x.faults ++ fs) (faults-append xs ys)
    ∙ sym (append_assoc x.faults (in_turn xs).faults (in_turn ys).faults)
    ∙ ap (λ fs. fs ++ (in_turn ys).faults) (sym (faults-more x xs))

-- ---- the declarations of entries

enumerate_from-append : {X : Type 0} (n : ℕ) (xs ys : List X) →
    enumerate_from n (xs ++ ys) ≡ enumerate_from n xs ++ enumerate_from (n + length xs) ys
enumerate_from-append n [] ys =
    let same : n ≡ n + 0 = omega arith in ap (λ k. enumerate_from k ys) same
enumerate_from-append n (x ∷ xs) ys =
    let same : n + 1 + length xs ≡ n + suc (length xs) = omega arith in
    ap (λ zs. (n, x) ∷ zs) (enumerate_from-append (n + 1) xs ys)
    ∙ ap (λ k. (n, x) ∷ (enumerate_from (n + 1) xs ++ enumerate_from k ys)) same

declared-append : (xs ys : List (ℕ × Entry)) → declared (xs ++ ys) ≡ declared xs ++ declared ys
declared-append [] ys = refl
declared-append ((entry, Declaration label name body) ∷ xs) ys =
    ap (λ ds. declaration_at entry name body ∷ ds) (declared-append xs ys)
declared-append ((entry, Statement label role formula) ∷ xs) ys = declared-append xs ys

length-front : {X : Type 0} (i : ℕ) (xs : List X) → i ≤ length xs → length (take i xs) ≡ i
length-front zero xs within = refl
length-front (suc i) [] within = absurd (omega arith)
length-front (suc i) (x ∷ xs) within = ap suc (length-front i xs (omega arith))

module _ (keep : Declared → Bool) where
  -- the declarations of a kind among entries
  abbrev pub gathered : List Entry → List Declared
  gathered entries = filter keep (declared (enumerate_from 0 entries))

  abbrev pub of_entry : ℕ → Entry → List Declared
  of_entry i entry = filter keep (declared ((i, entry) ∷ []))

  pub gathered-push : (entries : List Entry) (i : ℕ) (e : Entry) → i < length entries →
      e ≡ get_or entries i e → gathered (take (i + 1) entries) ≡ gathered (take i entries)
      ++ of_entry i e
  gathered-push entries i e within is =
      let size : length (take i entries) ≡ i = length-front i entries (omega arith) in
      let place : 0 + length (take i entries) ≡ i = omega (arith, size) in
      ap gathered (take_more entries i e within ∙ ap (λ x. take i entries ++ x ∷ []) (sym is))
      ∙ ap (λ xs. filter keep (declared xs)) (enumerate_from-append 0 (take i entries) (e ∷ []))
      ∙ ap (λ k. filter keep (declared (enumerate_from 0 (take i entries) ++ (k, e) ∷ []))) place
      ∙ ap (filter keep) (declared-append (enumerate_from 0 (take i entries)) ((i, e) ∷ []))
      ∙ filter-append keep (declared (enumerate_from 0 (take i entries))) (declared ((i, e) ∷ []))

  pub gathered-front : (entries : List Entry) (i : ℕ) →
      (back : List Declared) × (gathered entries ≡ gathered (take i entries) ++ back)
  gathered-front entries i =
      let front : List (ℕ × Entry) = enumerate_from 0 (take i entries) in
      let behind : List (ℕ × Entry) = enumerate_from (0 + length (take i entries))
      (drop i entries) in (
        filter keep (declared behind),
        ap gathered (sym (take-append-drop i entries))
            ∙ ap (λ xs. filter keep (declared xs))
            (enumerate_from-append 0 (take i entries) (drop i entries))
            ∙ ap (filter keep) (declared-append front behind)
            ∙ filter-append keep (declared front) (declared behind),
      )

  pub kept_one : (i : ℕ) (label name : List ℕ) (body : TypeExpr) →
      keep (declaration_at i name body) ≡ true →
      of_entry i (Declaration label name body) ≡ declaration_at i name body ∷ []
  kept_one i label name body keeps = ap (λ b. if b then declaration_at i name body ∷ [] else [])
      keeps

  pub left_out : (i : ℕ) (label name : List ℕ) (body : TypeExpr) →
      keep (declaration_at i name body) ≡ false →
      of_entry i (Declaration label name body) ≡ []
  left_out i label name body leaves = ap (λ b. if b then declaration_at i name body ∷ [] else [])
      leaves

  -- ---- the faults of a pass

  module _ (visit : Declared → Visited (Unit {0})) where
    abbrev pub faults_of : List Entry → List TypeError
    faults_of entries = (in_turn (map visit (gathered entries))).faults

    pub faults-push : (entries : List Entry) (i : ℕ) (e : Entry) → i < length entries →
        e ≡ get_or entries i e →
        faults_of (take (i + 1) entries)
        ≡ faults_of (take i entries) ++ (in_turn (map visit (of_entry i e))).faults
    faults-push entries i e within is =
        ap (λ ds. (in_turn (map visit ds)).faults) (gathered-push entries i e within is)
        ∙ ap (λ vs. (in_turn vs).faults)
        (map-append visit (gathered (take i entries)) (of_entry i e))
        ∙ faults-append (map visit (gathered (take i entries))) (map visit (of_entry i e))

    faults-front : (entries : List Entry) (i : ℕ) →
        (back : List TypeError) × (faults_of entries ≡ faults_of (take i entries) ++ back)
    faults-front entries i =
        let split = gathered-front entries i in (
          (in_turn (map visit split.0)).faults,
          ap (λ ds. (in_turn (map visit ds)).faults) split.1
              ∙ ap (λ vs. (in_turn vs).faults)
              (map-append visit (gathered (take i entries)) split.0)
              ∙ faults-append (map visit (gathered (take i entries))) (map visit split.0),
        )

    faults-one : (d : Declared) → (in_turn (map visit (d ∷ []))).faults ≡ (visit d).faults
    faults-one d =
        faults-more (visit d) [] ∙ ap (λ fs. (visit d).faults ++ fs) (faults-none (Unit {0}))
        ∙ append-nil (visit d).faults

    pub pass_next : (entries : List Entry) (i : ℕ) (e : Entry) (d : Declared) →
        i < length entries →
        e ≡ get_or entries i e → of_entry i e ≡ d ∷ [] → faults_of (take i entries) ≡ [] →
        (visit d).faults ≡ [] → faults_of (take (i + 1) entries) ≡ []
    pass_next entries i e d within is one before clean =
        faults-push entries i e within is
        ∙ ap (λ fs. fs ++ (in_turn (map visit (of_entry i e))).faults) before
        ∙ ap (λ ds. (in_turn (map visit ds)).faults) one
        ∙ faults-one d ∙ clean

    pub pass_skip : (entries : List Entry) (i : ℕ) (e : Entry) → i < length entries →
        e ≡ get_or entries i e → of_entry i e ≡ [] → faults_of (take i entries) ≡ [] →
        faults_of (take (i + 1) entries) ≡ []
    pass_skip entries i e within is none before =
        faults-push entries i e within is
        ∙ ap (λ fs. fs ++ (in_turn (map visit (of_entry i e))).faults) before
        ∙ ap (λ ds. (in_turn (map visit ds)).faults) none
        ∙ faults-none (Unit {0})

    pub pass_stop : (entries : List Entry) (i : ℕ) (e : Entry) (d : Declared) (fault : TypeError) →
        i < length entries → e ≡ get_or entries i e → of_entry i e ≡ d ∷ [] →
        faults_of (take i entries) ≡ [] → IsFirst (visit d).faults fault →
        IsFirst (faults_of entries) fault
    pass_stop entries i e d fault within is one before first =
        let split = faults-front entries (i + 1) in
        let front : faults_of (take (i + 1) entries) ≡ (visit d).faults =
        faults-push entries i e within is
        ∙ ap (λ fs. fs ++ (in_turn (map visit (of_entry i e))).faults) before
        ∙ ap (λ ds. (in_turn (map visit ds)).faults) one
        ∙ faults-one d in
        subst (λ fs. IsFirst fs fault) (sym (split.1 ∙ ap (λ fs. fs ++ split.0) front))
        (first_stays (visit d).faults split.0 fault first)

    pub pass_end : (entries : List Entry) (i : ℕ) → length entries ≤ i →
        faults_of (take i entries) ≡ [] → faults_of entries ≡ []
    pass_end entries i past before = ap faults_of (sym (take_all i entries past)) ∙ before

-- ---- the signature of the file

signature_of-constructors : (file : File) → (signature_of file).constructors ≡ constructors_of file
unfolding signature_of
signature_of-constructors file = refl

signature_of-symbols : (file : File) → (signature_of file).symbols ≡ symbols_of file
unfolding signature_of
signature_of-symbols file = refl

abbrev constructor_name : Constructor → List ℕ
constructor_name constructor = constructor.name

abbrev symbol_name : Symbol → List ℕ
symbol_name symbol = symbol.name

abbrev pub declares_constructor : Declared → Bool
declares_constructor d = (kind d.body).is_kind

abbrev pub declares_symbol : Declared → Bool
declares_symbol d = not (kind d.body).is_kind

-- the first items of what some declarations give, and one more
front_of : {A : Type 0} (name_of : A → List ℕ) (f : Declared → A) (before after : List A)
    (front back : List Declared) (d : Declared) →
    (more : List A) × (first_of_each name_of (before ++ map f ((front ++ d ∷ []) ++ back) ++ after)
    ≡ with_item name_of (first_of_each name_of (before ++ map f front)) (f d) ++ more)
front_of name_of f before after front back d =
    let rest = first_of_each-front name_of ((before ++ map f front) ++ f d ∷ [])
    (map f back ++ after) in (
      rest.0,
      ap (first_of_each name_of) split ∙ rest.1
          ∙ ap (λ zs. zs ++ rest.0) (first_of_each-push name_of (before ++ map f front) (f d)),
    )
  where
    split : before ++ map f ((front ++ d ∷ []) ++ back) ++ after
        ≡ ((before ++ map f front) ++ f d ∷ []) ++ (map f back ++ after)
    split =
        ap (λ zs. before ++ zs ++ after) (map-append f (front ++ d ∷ []) back)
        ∙ ap (λ zs. before ++ (zs ++ map f back) ++ after) (map-append f front (d ∷ []))
        ∙ ap (λ zs. zs ++ after) (sym (append_assoc before (map f front ++ f d ∷ []) (map f back)))
        ∙ append_assoc (before ++ (map f front ++ f d ∷ [])) (map f back) after
        ∙ ap (λ zs. zs ++ (map f back ++ after))
        (sym (append_assoc before (map f front) (f d ∷ [])))

-- ---- the first pass

-- where the first pass stands before the i-th entry
pub record ConstructorsDone (entries : List Entry) (i : ℕ) (table : Signature) : Type 0 where
  pub clean : faults_of declares_constructor (visited_constructor (signature_of (file_of entries)))
      (take i entries) ≡ []
  pub leaves : table ≡ constructors_alone (file_of (take i entries))
  pub few : AreFew table

pub constructors_begin : (entries : List Entry) (table : Signature) → table ≡ just_individuals →
    ConstructorsDone entries 0 table
constructors_begin entries table before =
    record {
      clean = faults-none (Unit {0});
      leaves = before;
      few = rw before (omega arith);
    }

-- the declaration of the constructor in the i-th entry, under the signature of the file
module _ (entries : List Entry) (i : ℕ) (e : Entry) (d : Declared) (within : i < length entries)
    (is : e ≡ get_or entries i e) (one : of_entry declares_constructor i e ≡ d ∷ [])
  where
    whole_front : (back : List Declared)
        × (constructor_declarations (file_of entries)
        ≡ (constructor_declarations (file_of (take i entries)) ++ d ∷ []) ++ back)
    whole_front =
        let split = gathered-front declares_constructor entries (i + 1) in (
          split.0,
          split.1 ∙ ap (λ ds. ds ++ split.0)
              (gathered-push declares_constructor entries i e within is
              ∙ ap (λ ds. constructor_declarations (file_of (take i entries)) ++ ds) one),
        )

    constructors_split : (more : List Constructor)
        × (constructors_of (file_of entries)
        ≡ with_item constructor_name (constructors_of (file_of (take i entries)))
        (declared_constructor d)
        ++ more)
    constructors_split =
        let split = front_of constructor_name declared_constructor (individuals_constructor ∷ [])
        []
        (constructor_declarations (file_of (take i entries))) whole_front.0 d in (
          split.0,
          ap (λ ds. first_of_each constructor_name
              (individuals_constructor ∷ map declared_constructor ds))
              whole_front.1
              ∙ ap (λ cs. first_of_each constructor_name (individuals_constructor ∷ cs))
              (sym (append-nil (map declared_constructor
              ((constructor_declarations (file_of (take i entries)) ++ d ∷ []) ++ whole_front.0))))
              ∙ split.1,
        )

    -- The declaration is visited alike under the constructors so far, and its own.
    visited_whole : (table : Signature) → table ≡ constructors_alone (file_of (take i entries)) →
        visited_constructor (signature_of (file_of entries)) d
        ≡ visited_constructor (with_constructor table d) d
    visited_whole table leaves =
        let before : List Constructor = constructors_of (file_of (take i entries)) in
        ap (λ at.
        expect (is_some (kind d.body).arity) (BadDeclaration d.entry)
        >> constructor_agrees d (declared_constructor d).arity at)
        (ap (constructor_named d.name)
        (signature_of-constructors (file_of entries) ∙ constructors_split.1)
        ∙ found-with_item_more constructor_name before (declared_constructor d)
        constructors_split.0
        ∙ ap (λ (g : Signature). constructor_named d.name (with_constructor g d).constructors)
        (sym leaves))

    pub constructors_next : (table after : Signature) → ConstructorsDone entries i table →
        Declares (visited_constructor (with_constructor table d) d) (with_constructor table d)
        after (Ok tt) →
        ConstructorsDone entries (i + 1) after
    constructors_next table after done declares =
        record {
          clean = pass_next declares_constructor
              (visited_constructor (signature_of (file_of entries)))
              entries i e d within is one done.clean
              (ap (λ (v : Visited (Unit {0})). v.faults) (visited_whole table done.leaves)
              ∙ declares.clean);
          leaves = declares.leaves ∙ ap (λ (g : Signature). with_constructor g d) done.leaves
              ∙ grown;
          few = declares.few;
        }
      where
        grown : with_constructor (constructors_alone (file_of (take i entries))) d
            ≡ constructors_alone (file_of (take (i + 1) entries))
        grown =
            ap (λ (cs : List Constructor). record { constructors = cs; symbols = [] })
            (sym (ap (λ ds. first_of_each constructor_name
            (individuals_constructor ∷ map declared_constructor ds))
            (gathered-push declares_constructor entries i e within is
            ∙ ap (λ ds. constructor_declarations (file_of (take i entries)) ++ ds) one)
            ∙ ap (λ cs. first_of_each constructor_name (individuals_constructor ∷ cs))
            (map-append declared_constructor (constructor_declarations (file_of (take i entries)))
            (d ∷ []))
            ∙ first_of_each-push constructor_name
            (individuals_constructor ∷ map declared_constructor
            (constructor_declarations (file_of (take i entries))))
            (declared_constructor d)))

    pub constructors_stop : (table after : Signature) (fault : TypeError) →
        ConstructorsDone entries i table →
        Declares (visited_constructor (with_constructor table d) d) (with_constructor table d)
        after (Err fault) →
        IsFirst (constructor_pass (file_of entries)).faults fault
    constructors_stop table after fault done declares =
        pass_stop declares_constructor (visited_constructor (signature_of (file_of entries)))
        entries i e d fault within is one done.clean
        (subst (λ (v : Visited (Unit {0})). IsFirst v.faults fault)
        (sym (visited_whole table done.leaves))
        declares.refused)

pub constructors_skip : (entries : List Entry) (i : ℕ) (e : Entry) (table : Signature) →
    i < length entries →
    e ≡ get_or entries i e → of_entry declares_constructor i e ≡ [] →
    ConstructorsDone entries i table →
    ConstructorsDone entries (i + 1) table
constructors_skip entries i e table within is none done =
    record {
      clean = pass_skip declares_constructor (visited_constructor (signature_of (file_of entries)))
          entries i e within is none done.clean;
      leaves = done.leaves
          ∙ ap (λ ds. record {
            constructors = first_of_each constructor_name
                (individuals_constructor ∷ map declared_constructor ds);
            symbols = [];
          })
          (sym (gathered-push declares_constructor entries i e within is
          ∙ ap (λ ds. constructor_declarations (file_of (take i entries)) ++ ds) none
          ∙ append-nil (constructor_declarations (file_of (take i entries)))));
      few = done.few;
    }

pub constructors_end : (entries : List Entry) (i : ℕ) (table : Signature) → length entries ≤ i →
    ConstructorsDone entries i table →
    Declares (constructor_pass (file_of entries)) (constructors_alone (file_of entries)) table
    (Ok tt)
constructors_end entries i table past done =
    record {
      clean = pass_end declares_constructor (visited_constructor (signature_of (file_of entries)))
          entries i past done.clean;
      refused = tt;
      leaves = done.leaves ∙ ap (λ es. constructors_alone (file_of es)) (take_all i entries past);
      few = done.few;
    }

-- ---- the second pass

signature_of-is : (file : File) →
    signature_of file ≡ record { constructors = constructors_of file; symbols = symbols_of file }
unfolding signature_of
signature_of-is file = refl

-- what the entries declare before the i-th
abbrev pub symbols_before : List Entry → ℕ → List Symbol
symbols_before entries i =
    first_of_each symbol_name
    (map (declared_symbol (constructors_of (file_of entries)))
    (symbol_declarations (file_of (take i entries))))

-- where the second pass stands before the i-th entry
pub record SymbolsDone (entries : List Entry) (i : ℕ) (table : Signature) : Type 0 where
  pub clean : faults_of declares_symbol (visited_symbol (signature_of (file_of entries)))
      (take i entries) ≡ []
  pub leaves : table
      ≡ record {
        constructors = constructors_of (file_of entries);
        symbols = symbols_before
            entries i;
      }
  pub few : AreFew table

pub symbols_begin : (entries : List Entry) (table : Signature) → table
    ≡ constructors_alone (file_of entries) →
    AreFew table → SymbolsDone entries 0 table
symbols_begin entries table before few = record
    { clean = faults-none (Unit {0}); leaves = before; few = few }

agrees_alike : (constructors : List Constructor) (some others : List Symbol) (d : Declared)
    (symbol : Symbol)
    (at : Option (ℕ × Symbol)) →
    symbol_agrees (record { constructors = constructors; symbols = some }) d symbol at
    ≡ symbol_agrees (record { constructors = constructors; symbols = others }) d symbol at
agrees_alike constructors some others d symbol None = refl
agrees_alike constructors some others d symbol (Some at) = refl

-- the name of a symbol is found alike where more symbols follow
visited_more : (constructors : List Constructor) (symbols more : List Symbol) (d : Declared) →
    visited_symbol (record {
      constructors = constructors;
      symbols = with_item symbol_name symbols (declared_symbol constructors d) ++ more;
    }) d
    ≡ visited_symbol (record {
      constructors = constructors;
      symbols = with_item symbol_name symbols (declared_symbol constructors d);
    }) d
visited_more constructors symbols more d =
    ap (λ (next : Symbol → Visited (Unit {0})).
    (reading d.entry constructors d.body).as_symbol d.name [] >>= next) (λ i symbol. each symbol i)
  where
    alike : symbol_among d.name
        (with_item symbol_name symbols (declared_symbol constructors d) ++ more)
        ≡ symbol_among d.name (with_item symbol_name symbols (declared_symbol constructors d))
    alike =
        subst (λ n. symbol_among n
        (with_item symbol_name symbols (declared_symbol constructors d) ++ more)
        ≡ symbol_among n (with_item symbol_name symbols (declared_symbol constructors d)))
        (as_symbol-name d.entry constructors d.body d.name [])
        (found-with_item_more symbol_name symbols (declared_symbol constructors d) more)

    each : (symbol : Symbol) →
        symbol_agrees (record {
          constructors = constructors;
          symbols = with_item symbol_name symbols (declared_symbol constructors d) ++ more;
        }) d symbol
        (if is_some (constructor_named d.name constructors) then None
        else symbol_among d.name
        (with_item symbol_name symbols (declared_symbol constructors d) ++ more))
        ≡ symbol_agrees (record {
          constructors = constructors;
          symbols = with_item symbol_name symbols (declared_symbol constructors d);
        }) d symbol
        (if is_some (constructor_named d.name constructors) then None
        else symbol_among d.name (with_item symbol_name symbols (declared_symbol constructors d)))
    each symbol =
        ap (λ at. symbol_agrees (record {
          constructors = constructors;
          symbols = with_item symbol_name symbols (declared_symbol constructors d) ++ more;
        }) d symbol (if is_some (constructor_named d.name constructors) then None else at)) alike
        ∙ agrees_alike constructors
        (with_item symbol_name symbols (declared_symbol constructors d) ++ more)
        (with_item symbol_name symbols (declared_symbol constructors d)) d symbol
        (if is_some (constructor_named d.name constructors) then None
        else symbol_among d.name (with_item symbol_name symbols (declared_symbol constructors d)))

-- the declaration of the symbol in the i-th entry, under the signature of the file
module _ (entries : List Entry) (i : ℕ) (e : Entry) (d : Declared) (within : i < length entries)
    (is : e ≡ get_or entries i e) (one : of_entry declares_symbol i e ≡ d ∷ [])
  where
    symbols_front : (back : List Declared)
        × (symbol_declarations (file_of entries)
        ≡ (symbol_declarations (file_of (take i entries)) ++ d ∷ []) ++ back)
    symbols_front =
        let split = gathered-front declares_symbol entries (i + 1) in (
          split.0,
          split.1 ∙ ap (λ ds. ds ++ split.0)
              (gathered-push declares_symbol entries i e within is
              ∙ ap (λ ds. symbol_declarations (file_of (take i entries)) ++ ds) one),
        )

    symbols_split : (more : List Symbol)
        × (symbols_of (file_of entries)
        ≡ with_item symbol_name (symbols_before entries i)
        (declared_symbol (constructors_of (file_of entries)) d)
        ++ more)
    symbols_split =
        let names : List Symbol = map over_individuals (visited_names (file_of entries)) in
        let split = front_of symbol_name (declared_symbol (constructors_of (file_of entries))) []
        names
        (symbol_declarations (file_of (take i entries))) symbols_front.0 d in (
          split.0,
          ap (λ ds. first_of_each symbol_name
              (map (declared_symbol (constructors_of (file_of entries))) ds ++ names))
              symbols_front.1
              ∙ split.1,
        )

    -- The declaration is visited alike under the symbols so far, and its own.
    symbol_whole : (table : Signature) →
        table ≡ record {
          constructors = constructors_of (file_of entries);
          symbols =
              symbols_before entries i;
        } →
        visited_symbol (signature_of (file_of entries)) d ≡ visited_symbol (with_symbol table d) d
    symbol_whole table leaves =
        ap (λ (g : Signature). visited_symbol g d)
        (signature_of-is (file_of entries)
        ∙ ap (λ (ss : List Symbol). record
        { constructors = constructors_of (file_of entries); symbols = ss })
        symbols_split.1)
        ∙ visited_more (constructors_of (file_of entries)) (symbols_before entries i)
        symbols_split.0 d
        ∙ ap (λ (g : Signature). visited_symbol (with_symbol g d) d) (sym leaves)

    pub symbols_next : (table after : Signature) → SymbolsDone entries i table →
        Declares (visited_symbol (with_symbol table d) d) (with_symbol table d) after (Ok tt) →
        SymbolsDone entries (i + 1) after
    symbols_next table after done declares =
        record {
          clean = pass_next declares_symbol (visited_symbol (signature_of (file_of entries)))
              entries i e d within is one done.clean
              (ap (λ (v : Visited (Unit {0})). v.faults) (symbol_whole table done.leaves)
              ∙ declares.clean);
          leaves = declares.leaves ∙ ap (λ (g : Signature). with_symbol g d) done.leaves
              ∙ ap (λ (ss : List Symbol). record {
                constructors = constructors_of (file_of entries);
                symbols = ss;
              }) (sym grown);
          few = declares.few;
        }
      where
        grown : symbols_before entries (i + 1)
            ≡ with_item symbol_name (symbols_before entries i)
            (declared_symbol (constructors_of (file_of entries)) d)
        grown =
            ap (λ ds. first_of_each symbol_name
            (map (declared_symbol (constructors_of (file_of entries))) ds))
            (gathered-push declares_symbol entries i e within is
            ∙ ap (λ ds. symbol_declarations (file_of (take i entries)) ++ ds) one)
            ∙ ap (first_of_each symbol_name)
            (map-append (declared_symbol (constructors_of (file_of entries)))
            (symbol_declarations (file_of (take i entries))) (d ∷ []))
            ∙ first_of_each-push symbol_name
            (map (declared_symbol (constructors_of (file_of entries)))
            (symbol_declarations (file_of (take i entries))))
            (declared_symbol (constructors_of (file_of entries)) d)

    pub symbols_stop : (table after : Signature) (fault : TypeError) →
        SymbolsDone entries i table →
        Declares (visited_symbol (with_symbol table d) d) (with_symbol table d) after (Err fault) →
        IsFirst (symbol_pass (file_of entries)).faults fault
    symbols_stop table after fault done declares =
        pass_stop declares_symbol (visited_symbol (signature_of (file_of entries)))
        entries i e d fault within is one done.clean
        (subst (λ (v : Visited (Unit {0})). IsFirst v.faults fault)
        (sym (symbol_whole table done.leaves))
        declares.refused)

pub symbols_skip : (entries : List Entry) (i : ℕ) (e : Entry) (table : Signature) →
    i < length entries →
    e ≡ get_or entries i e → of_entry declares_symbol i e ≡ [] → SymbolsDone entries i table →
    SymbolsDone entries (i + 1) table
symbols_skip entries i e table within is none done =
    record {
      clean = pass_skip declares_symbol (visited_symbol (signature_of (file_of entries)))
          entries i e within is none done.clean;
      leaves = done.leaves
          ∙ ap (λ ds. record {
            constructors = constructors_of (file_of entries);
            symbols = first_of_each symbol_name
                (map (declared_symbol (constructors_of (file_of entries))) ds);
          })
          (sym (gathered-push declares_symbol entries i e within is
          ∙ ap (λ ds. symbol_declarations (file_of (take i entries)) ++ ds) none
          ∙ append-nil (symbol_declarations (file_of (take i entries)))));
      few = done.few;
    }

pub symbols_end : (entries : List Entry) (i : ℕ) (table : Signature) → length entries ≤ i →
    SymbolsDone entries i table →
    Declares (symbol_pass (file_of entries)) (declared_signature (file_of entries)) table (Ok tt)
symbols_end entries i table past done =
    record {
      clean = pass_end declares_symbol (visited_symbol (signature_of (file_of entries)))
          entries i past done.clean;
      refused = tt;
      leaves = done.leaves
          ∙ ap (λ es. record {
            constructors = constructors_of (file_of entries);
            symbols = first_of_each symbol_name
                (map (declared_symbol (constructors_of (file_of entries)))
                (symbol_declarations (file_of es)));
          })
          (take_all i entries past);
      few = done.few;
    }
