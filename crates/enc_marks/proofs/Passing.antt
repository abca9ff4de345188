-- Marked symbols that occur, as more and more are looked at.
use Rattle.std.proofs.Common.{ℕ, zero, suc, ◌≡◌, ◌<◌, ◌+◌, Bool, true, false, List, [], ◌∷◌, ◌++◌, length, map, take, cond, get_or, refl, sym, ap, ◌∙◌, append_assoc, arith}
use Rattle.std.proofs.lemmas.List.{map-append}
use Rattle.fof_models.specs.declared.problem.FofSymbol.{FofSymbol}
use Rattle.tf_core.specs.declared.signature.Symbol.{Symbol}
use Rattle.tf_core.specs.declared.signature.Constructor.{Constructor}
use Rattle.tf_core.specs.declared.normal.Normal.{Normal}
use Rattle.tf_core.specs.declared.ty.Ty.{Ty}
use Rattle.enc_marks.specs.declared.choices.Binding.{Binding}
use Rattle.enc_marks.specs.declared.mark.Mark.{Mark}
use Rattle.enc_marks.specs.declared.marked.Marked.{Marked}
use Rattle.enc_marks.specs.Choices.{Choices}
use Rattle.enc_marks.specs.Occurrence.{passing}
use Rattle.enc_marks.specs.Encoded.{MarkedSymbol, marked_symbol, marked_symbols, marked_constructor, marked_constructors, sort_mark, sort_marks}
use Rattle.enc_marks.specs.Calls.Marked.{Holds, MarksAdded}

pub append-nothing : {A : Type 0} (items : List A) → items ++ [] ≡ items
append-nothing [] = refl
append-nothing (item ∷ items) = ap (λ rest. item ∷ rest) (append-nothing items)

pub passing-append : {A : Type 0} (test : ℕ → Bool) (number : ℕ) (items others : List A) →
    passing test number (items ++ others)
    ≡ passing test number items ++ passing test (number + length items) others
passing-append test number [] others =
    let same : number ≡ number + 0 = omega arith in ap (λ n. passing test n others) same
passing-append test number (item ∷ items) others =
    let next : number + 1 + length items ≡ number + suc (length items) = omega arith in
    by (test number) (passing test (number + 1) (items ++ others)) (passing test (number + 1) items)
    (passing test (number + suc (length items)) others)
    (passing-append test (number + 1) items others
    ∙ ap (λ n. passing test (number + 1) items ++ passing test n others) next)
  where
    by : (b : Bool) (whole front back : List _) → whole ≡ front ++ back →
        cond b (item ∷ whole) whole ≡ cond b (item ∷ front) front ++ back
    by true whole front back is = ap (λ rest. item ∷ rest) is
    by false whole front back is = is

-- what a function gives for items that are numbered from here on
abbrev pub numbered : {A B : Type 0} → (ℕ → A → B) → ℕ → List A → List B
numbered g number [] = []
numbered g number (item ∷ items) = g number item ∷ numbered g (number + 1) items

pub length-numbered : {A B : Type 0} (g : ℕ → A → B) (number : ℕ) (items : List A) →
    length (numbered g number items) ≡ length items
length-numbered g number [] = refl
length-numbered g number (item ∷ items) = ap suc (length-numbered g (number + 1) items)

numbered-suc : {A B : Type 0} (test : ℕ → Bool) (g : ℕ → A → B) (at number : ℕ) (items : List A) (i : ℕ) (d : A) →
    i < length items →
    passing test at (numbered g number (take (suc i) items))
    ≡ passing test at (numbered g number (take i items))
    ++ cond (test (at + i)) (g (number + i) (get_or items i d) ∷ []) []
numbered-suc test g at number [] i d within = absurd (omega arith)
numbered-suc test g at number (item ∷ items) zero d within =
    let here : at ≡ at + 0 = omega arith in
    let same : number ≡ number + 0 = omega arith in
    ap (λ n. cond (test n) (g number item ∷ []) []) here
    ∙ ap (λ n. cond (test (at + 0)) (g n item ∷ []) []) same
numbered-suc test g at number (item ∷ items) (suc i) d within =
    let here : at + 1 + i ≡ at + suc i = omega arith in
    let same : number + 1 + i ≡ number + suc i = omega arith in
    by (test at) (passing test (at + 1) (numbered g (number + 1) (take (suc i) items)))
    (passing test (at + 1) (numbered g (number + 1) (take i items)))
    (cond (test (at + suc i)) (g (number + suc i) (get_or items i d) ∷ []) [])
    (numbered-suc test g (at + 1) (number + 1) items i d (omega arith)
    ∙ ap (λ n. passing test (at + 1) (numbered g (number + 1) (take i items))
    ++ cond (test n) (g (number + 1 + i) (get_or items i d) ∷ []) []) here
    ∙ ap (λ n. passing test (at + 1) (numbered g (number + 1) (take i items))
    ++ cond (test (at + suc i)) (g n (get_or items i d) ∷ []) []) same)
  where
    by : (b : Bool) (whole front back : List _) → whole ≡ front ++ back →
        cond b (g number item ∷ whole) whole ≡ cond b (g number item ∷ front) front ++ back
    by true whole front back is = ap (λ rest. g number item ∷ rest) is
    by false whole front back is = is

pub numbered-more : {A B : Type 0} (test : ℕ → Bool) (g : ℕ → A → B) (at number : ℕ) (items : List A) (i : ℕ) (d : A) →
    i < length items →
    passing test at (numbered g number (take (i + 1) items))
    ≡ passing test at (numbered g number (take i items))
    ++ cond (test (at + i)) (g (number + i) (get_or items i d) ∷ []) []
numbered-more test g at number items i d within =
    let next : i + 1 ≡ suc i = omega arith in
    ap (λ n. passing test at (numbered g number (take n items))) next
    ∙ numbered-suc test g at number items i d within

pub marked_symbols-numbered : (c : Choices) (f : ℕ) (symbols : List Symbol) →
    marked_symbols c f symbols ≡ numbered (marked_symbol c) f symbols
marked_symbols-numbered c f [] = refl
marked_symbols-numbered c f (symbol ∷ symbols) =
    ap (λ rest. marked_symbol c f symbol ∷ rest) (marked_symbols-numbered c (f + 1) symbols)

pub marked_constructors-numbered : (normal : Normal) (i : ℕ) (constructors : List Constructor) →
    marked_constructors normal i constructors ≡ numbered (marked_constructor normal) i constructors
marked_constructors-numbered normal i [] = refl
marked_constructors-numbered normal i (constructor ∷ constructors) =
    ap (λ rest. marked_constructor normal i constructor ∷ rest)
    (marked_constructors-numbered normal (i + 1) constructors)

-- what was added in two steps

pub added-nothing : (marked : Marked) → MarksAdded marked marked []
added-nothing marked = record {
  symbols = sym (append-nothing marked.symbols);
  marks = sym (append-nothing marked.marks);
}

pub added-then : (before between after : Marked) (first second : List MarkedSymbol) →
    MarksAdded before between first → MarksAdded between after second →
    MarksAdded before after (first ++ second)
added-then before between after first second one two = record {
  symbols = two.symbols ∙ ap (λ (list : List FofSymbol). list ++ map (λ (m : MarkedSymbol). m.symbol) second) one.symbols
      ∙ append_assoc before.symbols _ _
      ∙ ap (λ (list : List FofSymbol). before.symbols ++ list) (sym (map-append (λ (m : MarkedSymbol). m.symbol) first second));
  marks = two.marks ∙ ap (λ (list : List Mark). list ++ map (λ (m : MarkedSymbol). m.mark) second) one.marks
      ∙ append_assoc before.marks _ _
      ∙ ap (λ (list : List Mark). before.marks ++ list) (sym (map-append (λ (m : MarkedSymbol). m.mark) first second));
}

pub symbols-more : (test : ℕ → Bool) (c : Choices) (symbols : List Symbol) (f : ℕ) (d : Symbol) →
    f < length symbols →
    passing test 0 (marked_symbols c 0 (take (f + 1) symbols))
    ≡ passing test 0 (marked_symbols c 0 (take f symbols))
    ++ passing test f (marked_symbol c f (get_or symbols f d) ∷ [])
symbols-more test c symbols f d within =
    let same : 0 + f ≡ f = omega arith in
    ap (passing test 0) (marked_symbols-numbered c 0 (take (f + 1) symbols))
    ∙ numbered-more test (marked_symbol c) 0 0 symbols f d within
    ∙ ap (λ (front : List MarkedSymbol). passing test 0 front
    ++ cond (test (0 + f)) (marked_symbol c (0 + f) (get_or symbols f d) ∷ []) [])
    (sym (marked_symbols-numbered c 0 (take f symbols)))
    ∙ ap (λ n. passing test 0 (marked_symbols c 0 (take f symbols))
    ++ cond (test n) (marked_symbol c n (get_or symbols f d) ∷ []) []) same

pub constructors-more : (test : ℕ → Bool) (normal : Normal) (at : ℕ) (constructors : List Constructor) (i : ℕ)
    (d : Constructor) → i < length constructors →
    passing test at (marked_constructors normal 0 (take (i + 1) constructors))
    ≡ passing test at (marked_constructors normal 0 (take i constructors))
    ++ cond (test (at + i)) (marked_constructor normal i (get_or constructors i d) ∷ []) []
constructors-more test normal at constructors i d within =
    let same : 0 + i ≡ i = omega arith in
    ap (passing test at) (marked_constructors-numbered normal 0 (take (i + 1) constructors))
    ∙ numbered-more test (marked_constructor normal) at 0 constructors i d within
    ∙ ap (λ (front : List MarkedSymbol). passing test at front
    ++ cond (test (at + i)) (marked_constructor normal (0 + i) (get_or constructors i d) ∷ []) [])
    (sym (marked_constructors-numbered normal 0 (take i constructors)))
    ∙ ap (λ n. passing test at (marked_constructors normal 0 (take i constructors))
    ++ cond (test (at + i)) (marked_constructor normal n (get_or constructors i d) ∷ []) []) same

pub sort_marks-numbered : (normal : Normal) (binding : Binding) (s : ℕ) (sorts : List Ty) →
    sort_marks normal binding s sorts ≡ numbered (sort_mark normal binding) s sorts
sort_marks-numbered normal binding s [] = refl
sort_marks-numbered normal binding s (sort ∷ sorts) =
    ap (λ rest. sort_mark normal binding s sort ∷ rest) (sort_marks-numbered normal binding (s + 1) sorts)

pub sort_marks-more : (test : ℕ → Bool) (normal : Normal) (binding : Binding) (at : ℕ)
    (sorts : List Ty) (s : ℕ) (d : Ty) → s < length sorts →
    passing test at (sort_marks normal binding 0 (take (s + 1) sorts))
    ≡ passing test at (sort_marks normal binding 0 (take s sorts))
    ++ cond (test (at + s)) (sort_mark normal binding s (get_or sorts s d) ∷ []) []
sort_marks-more test normal binding at sorts s d within =
    let same : 0 + s ≡ s = omega arith in
    ap (passing test at) (sort_marks-numbered normal binding 0 (take (s + 1) sorts))
    ∙ numbered-more test (sort_mark normal binding) at 0 sorts s d within
    ∙ ap (λ (front : List MarkedSymbol). passing test at front
    ++ cond (test (at + s)) (sort_mark normal binding (0 + s) (get_or sorts s d) ∷ []) [])
    (sym (sort_marks-numbered normal binding 0 (take s sorts)))
    ∙ ap (λ n. passing test at (sort_marks normal binding 0 (take s sorts))
    ++ cond (test (at + s)) (sort_mark normal binding n (get_or sorts s d) ∷ []) []) same

-- all marked symbols in three parts
pub passing-parts : (test : ℕ → Bool) (c : Choices) (normal : Normal) (own : List MarkedSymbol) →
    passing test 0 (marked_symbols c 0 normal.signature.symbols
    ++ (marked_constructors normal 0 normal.signature.constructors ++ own))
    ≡ (passing test 0 (marked_symbols c 0 normal.signature.symbols)
    ++ passing test (length normal.signature.symbols) (marked_constructors normal 0 normal.signature.constructors))
    ++ passing test (length normal.signature.symbols + length normal.signature.constructors) own
passing-parts test c normal own =
    let symbols = normal.signature.symbols in
    let constructors = normal.signature.constructors in
    let first = marked_symbols c 0 symbols in
    let second = marked_constructors normal 0 constructors in
    let many : 0 + length first ≡ length symbols =
    omega (
      arith,
      ap (λ (list : List MarkedSymbol). length list) (marked_symbols-numbered c 0 symbols),
      length-numbered (marked_symbol c) 0 symbols,
    ) in
    let more : length second ≡ length constructors =
    ap (λ (list : List MarkedSymbol). length list) (marked_constructors-numbered normal 0 constructors)
    ∙ length-numbered (marked_constructor normal) 0 constructors in
    passing-append test 0 first (second ++ own)
    ∙ ap (λ n. passing test 0 first ++ passing test n (second ++ own)) many
    ∙ ap (λ (rest : List MarkedSymbol). passing test 0 first ++ rest)
    (passing-append test (length symbols) second own
    ∙ ap (λ n. passing test (length symbols) second ++ passing test (length symbols + n) own) more)
    ∙ sym (append_assoc (passing test 0 first) (passing test (length symbols) second) _)

-- what was added to nothing is held
pub holds-added : (before after : Marked) (list : List MarkedSymbol) → Holds before [] →
    MarksAdded before after list → Holds after list
holds-added before after list empty added = record {
  symbols = added.symbols
      ∙ ap (λ (symbols : List FofSymbol). symbols ++ map (λ (m : MarkedSymbol). m.symbol) list) empty.symbols;
  marks = added.marks
      ∙ ap (λ (marks : List Mark). marks ++ map (λ (m : MarkedSymbol). m.mark) list) empty.marks;
}
